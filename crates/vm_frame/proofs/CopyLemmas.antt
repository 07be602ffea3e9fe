-- Stacks in which values are put in the place of others.
use Rattle.std.proofs.Common.{◌≡◌, ℕ, suc, ◌+◌, ◌-◌, ◌≤◌, List, [], ◌∷◌, ◌++◌, length, take, drop, refl, sym, ap}
use Rattle.std.proofs.Common.{subst, ◌∙◌}
use Rattle.std.proofs.Common.{length-append, arith}
use Rattle.std.specs.Prelude.{slice_set}
use Rattle.std.proofs.Math.Seq.{sets-eq, take-append_seam, drop-append_seam, drop-append-add, drop-length}
use Rattle.std.proofs.lemmas.List.{take-append-le, length-take-le, length-drop, drop-drop, append-nil, take-append-drop}
use Rattle.jv_base.specs.declared.value.Value.{Value}
use Rattle.vm_frame.specs.declared.operand.Operands.{Operands}
use Rattle.vm_frame.specs.declared.operand.Operands.TheVariants.{NoOperand, OneOperand, TwoOperands}
use Rattle.vm_frame.specs.Operands.{without, values}

module _ {A : Type 0} where
  -- one value
  pub put_one : (s : List A) (i : ℕ) (v : A) → i + 1 ≤ length s
      → slice_set s i v ≡ take i s ++ v ∷ [] ++ drop (i + 1) s
  put_one s i v fits = sets-eq (v ∷ []) s i fits

  -- two values
  pub put_two : (s : List A) (i : ℕ) (v w : A) → i + 2 ≤ length s
      → slice_set (slice_set s i v) (i + 1) w ≡ take i s ++ v ∷ w ∷ [] ++ drop (i + 2) s
  put_two s i v w fits =
      let next : i + 1 ≡ suc i = omega arith in
      ap (λ (n : ℕ). slice_set (slice_set s i v) n w) next ∙ sets-eq (v ∷ w ∷ []) s i fits

  -- two values in the place of the two on top
  pub put_top_two : (s : List A) (v w : A) → 2 ≤ length s
      → without 2 s ++ v ∷ w ∷ [] ++ drop (length s - 2 + 2) s ≡ without 2 s ++ v ∷ w ∷ []
  put_top_two s v w fits =
      let all : length s - 2 + 2 ≡ length s = omega arith in
      ap (λ (n : ℕ). without 2 s ++ v ∷ w ∷ [] ++ drop n s) all
      ∙ ap (λ (d : List A). without 2 s ++ v ∷ w ∷ [] ++ d) (drop-length s)
      ∙ append-nil (without 2 s ++ v ∷ w ∷ [])

  -- values are put once more on top of a stack, then in their old place, and those that were under them above that
  pub copied_in : (s t u s2 s3 : List A) (p : ℕ) → length t + length u ≤ length s → p ≡ length s - length t - length u
      → s2 ≡ take p (s ++ t) ++ t ++ drop (p + length t) (s ++ t)
      → s3 ≡ take (p + length t) s2 ++ u ++ drop (p + length t + length u) s2
      → s3 ≡ without (length t + length u) s ++ t ++ u ++ t
  copied_in s t u s2 s3 p fits is second third =
      let r : List A = take p s in
      let d : List A = drop (p + length t) (s ++ t) in
      let front : take p (s ++ t) ≡ r = take-append-le p s t (omega arith) in
      let whole : s2 ≡ (r ++ t) ++ d = second ∙ ap (λ (l : List A). l ++ t ++ d) front in
      let size : length (r ++ t) ≡ p + length t =
      length-append r t ∙ ap (λ (n : ℕ). n + length t) (length-take-le p s (omega arith)) in
      let lower : take (p + length t) s2 ≡ r ++ t =
      ap (λ (l : List A). take (p + length t) l) whole
      ∙ ap (λ (n : ℕ). take n ((r ++ t) ++ d)) (sym size) ∙ take-append_seam (r ++ t) d in
      let upper : drop (p + length t + length u) s2 ≡ drop (length u) d =
      ap (λ (l : List A). drop (p + length t + length u) l) whole
      ∙ ap (λ (n : ℕ). drop (n + length u) ((r ++ t) ++ d)) (sym size) ∙ drop-append-add (r ++ t) d (length u) in
      let all : p + length t + length u ≡ length s = omega arith in
      let last : drop (length u) d ≡ t =
      drop-drop (length u) (p + length t) (s ++ t) ∙ ap (λ (n : ℕ). drop n (s ++ t)) all ∙ drop-append_seam s t in
      let place : p ≡ length s - (length t + length u) = omega arith in
      third ∙ ap (λ (l : List A). l ++ u ++ drop (p + length t + length u) s2) lower
      ∙ ap (λ (l : List A). r ++ t ++ u ++ l) (upper ∙ last)
      ∙ ap (λ (n : ℕ). take n s ++ t ++ u ++ t) place

  size_kept : (r t d : List A) (p n : ℕ) → length r ≡ p → length d ≡ n - (p + length t) → p + length t ≤ n
      → length (r ++ t ++ d) ≡ n
  size_kept r t d p n front back within = omega (arith, length-append (r ++ t) d, length-append r t)

  -- the same, by how many values are on top
  pub copied_under : (s t u s1 s2 s3 : List A) (m n : ℕ) → length t + length u ≤ length s → s1 ≡ s ++ t
      → m ≡ length t + length u + length t → n ≡ length u + length t
      → s2 ≡ without m s1 ++ t ++ drop (length s1 - m + length t) s1
      → s3 ≡ without n s2 ++ u ++ drop (length s2 - n + length u) s2
      → s3 ≡ without (length t + length u) s ++ t ++ u ++ t
  copied_under s t u s1 s2 s3 m n fits first above below second third =
      let p = length s - length t - length u in
      let size : length s1 ≡ length s + length t = ap length first ∙ length-append s t in
      let place : length s1 - m ≡ p = omega arith in
      let second' : s2 ≡ take p (s ++ t) ++ t ++ drop (p + length t) (s ++ t) =
      second ∙ ap (λ (k : ℕ). take k s1 ++ t ++ drop (k + length t) s1) place
      ∙ ap (λ (l : List A). take p l ++ t ++ drop (p + length t) l) first in
      let whole : length s2 ≡ length (s ++ t) =
      ap length second'
      ∙ size_kept (take p (s ++ t)) t (drop (p + length t) (s ++ t)) p (length (s ++ t))
      (length-take-le p (s ++ t) (omega (arith, length-append s t))) (length-drop (p + length t) (s ++ t))
      (omega (arith, length-append s t)) in
      let upper : length s2 - n ≡ p + length t = omega (arith, length-append s t) in
      let third' : s3 ≡ take (p + length t) s2 ++ u ++ drop (p + length t + length u) s2 =
      third ∙ ap (λ (k : ℕ). take k s2 ++ u ++ drop (k + length u) s2) upper in
      copied_in s t u s2 s3 p fits refl second' third'

-- ---- the values of operands

module _ (s : List Value) (count size : ℕ) (o : Operands) (new : List Value) (is_size : size ≡ length s)
    (fits : length (values o) ≤ count) (there : count ≤ length s) where
  pub none_put : o ≡ NoOperand → s ≡ without count s ++ values o ++ drop (length s - count + length (values o)) s
  none_put is =
      let place : length s - count + 0 ≡ length s - count = omega arith in
      rw is (sym (take-append-drop (length s - count) s)
      ∙ ap (λ (l : List Value). l ++ drop (length s - count) s) (sym (append-nil (take (length s - count) s)))
      ∙ ap (λ (n : ℕ). take (length s - count) s ++ [] ++ drop n s) (sym place))

  pub one_put : (v : Value) → o ≡ OneOperand v → new ≡ slice_set s (size - count) v
      → new ≡ without count s ++ values o ++ drop (length s - count + length (values o)) s
  one_put v is e =
      let some : 1 ≤ count = subst (λ (p : Operands). length (values p) ≤ count) is fits in
      rw is (e ∙ ap (λ (n : ℕ). slice_set s (n - count) v) is_size ∙ put_one s (length s - count) v (omega arith))

  pub two_put : (v w : Value) → o ≡ TwoOperands v w
      → new ≡ slice_set (slice_set s (size - count) v) (size - count + 1) w
      → new ≡ without count s ++ values o ++ drop (length s - count + length (values o)) s
  two_put v w is e =
      let some : 2 ≤ count = subst (λ (p : Operands). length (values p) ≤ count) is fits in
      rw is (e ∙ ap (λ (n : ℕ). slice_set (slice_set s (n - count) v) (n - count + 1) w) is_size
      ∙ put_two s (length s - count) v w (omega arith))
