-- A bank with one more term: the earlier terms keep their sorts and values, and the last has those of its operation.
use Rattle.std.proofs.Common.{◌≡◌, ℕ, ◌+◌, ◌<◌, ◌==◌, List, [], ◌∷◌, ◌++◌, length, take, reverse}
use Rattle.std.proofs.Common.{true, false, refl, sym, ap, ◌∙◌, arith, append_assoc, cond, ◌^◌, lit<, mod-lt}
use Rattle.std.proofs.lemmas.Nat.{pow_pos}
use Rattle.std.specs.Prelude.{slice_index}
use Rattle.std.proofs.lemmas.List.{reverse-append, length-reverse, append-nil, take-append-drop, length-append}
use Rattle.std.proofs.lemmas.Grind.{common_steps}
use Rattle.tm_terms.specs.declared.sort.Sort.{Sort}
use Rattle.tm_terms.specs.declared.sort.Sort.TheVariants.{Bool as Truth}
use Rattle.tm_terms.specs.declared.op.Operands.{Operands}
use Rattle.tm_terms.specs.declared.op.Operands.TheVariants.{Nothing, One, Two, Three}
use Rattle.tm_terms.specs.declared.op.Op.{Op}
use Rattle.tm_terms.specs.Words.{width_of}
use Rattle.tm_terms.specs.Operations.{operands_of, first_of, second_of, third_of, AreBelow}
use Rattle.tm_terms.specs.Equations.{sort_by, number_by}
use Rattle.tm_terms.specs.Terms.{free_count, sort_among, value_among, term_sort, term_value, op_sort, op_value}

-- the operation that was put last is the first from the end
pub reverse-push : (ops : List Op) (op : Op) → reverse (ops ++ op ∷ []) ≡ op ∷ reverse ops
reverse-push ops op = reverse-append ops (op ∷ [])

below_differs : (ops : List Op) (k : ℕ) → k < length ops → (k == length (reverse ops)) ≡ false
below_differs ops k h = let e : length (reverse ops) ≡ length ops = length-reverse ops in grind (arith, common_steps)

last_equal : (ops : List Op) → (length ops == length (reverse ops)) ≡ true
last_equal ops = let e : length (reverse ops) ≡ length ops = length-reverse ops in grind (arith, common_steps)

-- how many of two lists are free
pub free_count-append : (xs ys : List Op) → free_count (xs ++ ys) ≡ free_count xs + free_count ys
unfolding free_count
free_count-append [] ys = omega arith
free_count-append (x ∷ xs) ys = omega (arith, free_count-append xs ys)

-- in either order
pub free_count-reverse : (ops : List Op) → free_count (reverse ops) ≡ free_count ops
unfolding free_count
free_count-reverse [] = refl
free_count-reverse (op ∷ ops) =
    ap free_count (reverse-append (op ∷ []) ops) ∙ free_count-append (reverse ops) (op ∷ [])
    ∙ omega (arith, free_count-reverse ops)

module _ (ops : List Op) (op : Op) where
  pub sort-push_other : (k : ℕ) → k < length ops → term_sort (ops ++ op ∷ []) k ≡ term_sort ops k
  unfolding sort_among
  sort-push_other k h = rw reverse-push (rw (below_differs ops k h) refl)

  pub sort-push_last : term_sort (ops ++ op ∷ []) (length ops) ≡ op_sort ops op
  unfolding sort_among
  sort-push_last = rw reverse-push (rw (last_equal ops) refl)

  pub value-push_other : (v : List ℕ) (k : ℕ) → k < length ops → term_value (ops ++ op ∷ []) v k ≡ term_value ops v k
  unfolding value_among
  value-push_other v k h = rw reverse-push (rw (below_differs ops k h) refl)

  pub value-push_last : (v : List ℕ) → term_value (ops ++ op ∷ []) v (length ops) ≡ op_value ops v op
  unfolding value_among
  value-push_last v = rw reverse-push (rw (last_equal ops) (rw free_count-reverse refl))

-- the same with any number of further terms
pub sort-append : (ops more : List Op) (k : ℕ) → k < length ops → term_sort (ops ++ more) k ≡ term_sort ops k
sort-append ops [] k h = rw append-nil refl
sort-append ops (op ∷ more) k h =
    let e : (ops ++ op ∷ []) ++ more ≡ ops ++ op ∷ more = append_assoc ops (op ∷ []) more in
    let longer : k < length (ops ++ op ∷ []) = omega (arith, length-append ops (op ∷ [])) in
    ap (λ (xs : List Op). term_sort xs k) (sym e) ∙ sort-append (ops ++ op ∷ []) more k longer ∙ sort-push_other
    ops op k h

pub value-append : (ops more : List Op) (v : List ℕ) (k : ℕ) → k < length ops
    → term_value (ops ++ more) v k ≡ term_value ops v k
value-append ops [] v k h = rw append-nil refl
value-append ops (op ∷ more) v k h =
    let e : (ops ++ op ∷ []) ++ more ≡ ops ++ op ∷ more = append_assoc ops (op ∷ []) more in
    let longer : k < length (ops ++ op ∷ []) = omega (arith, length-append ops (op ∷ [])) in
    ap (λ (xs : List Op). term_value xs v k) (sym e) ∙ value-append (ops ++ op ∷ []) more v k longer
    ∙ value-push_other ops op v k h

-- so the first terms of a bank have what they have in the whole bank
pub sort-take : (ops : List Op) (n k : ℕ) → k < length (take n ops) → term_sort (take n ops) k ≡ term_sort ops k
sort-take ops n k h =
    sym (sort-append (take n ops) _ k h) ∙ ap (λ (xs : List Op). term_sort xs k) (take-append-drop n ops)

pub value-take : (ops : List Op) (n : ℕ) (v : List ℕ) (k : ℕ) → k < length (take n ops)
    → term_value (take n ops) v k ≡ term_value ops v k
value-take ops n v k h =
    sym (value-append (take n ops) _ v k h) ∙ ap (λ (xs : List Op). term_value xs v k) (take-append-drop n ops)

-- a value is below 2 to the power of its term's width
value_among-below : (v : List ℕ) (earlier : List Op) (k : ℕ) → value_among v earlier k < 2 ^ width_of
    (sort_among earlier k)
unfolding value_among sort_among
value_among-below v [] k = lit< tt
value_among-below v (op ∷ earlier) k =
    elim (k == length earlier) as (λ b. cond b (number_by (sort_among earlier) (value_among v earlier)
    (slice_index v (free_count earlier)) op) (value_among v earlier k)
    < 2 ^ width_of (cond b (sort_by (sort_among earlier) op) (sort_among earlier k)))
    [ true ↦ mod-lt _ (pow_pos _) | false ↦ value_among-below v earlier k ]

pub value-below : (ops : List Op) (v : List ℕ) (k : ℕ) → term_value ops v k < 2 ^ width_of (term_sort ops k)
value-below ops v k = value_among-below v (reverse ops) k

-- the operands' sorts and numbers are asked alone
module _ {A : Type 0} (d : A) (n : ℕ) (f g : ℕ → A) (same : (k : ℕ) → k < n → f k ≡ g k) where
  pub first-same : (o : Operands) → AreBelow n o → first_of d f o ≡ first_of d g o
  first-same Nothing h = refl
  first-same (One a) h = same a.0 h
  first-same (Two a b) h = same a.0 h.0
  first-same (Three a b c) h = same a.0 h.0

  pub second-same : (o : Operands) → AreBelow n o → second_of d f o ≡ second_of d g o
  second-same Nothing h = refl
  second-same (One a) h = refl
  second-same (Two a b) h = same b.0 h.1
  second-same (Three a b c) h = same b.0 h.1

  pub third-same : (o : Operands) → AreBelow n o → third_of d f o ≡ third_of d g o
  third-same Nothing h = refl
  third-same (One a) h = refl
  third-same (Two a b) h = refl
  third-same (Three a b c) h = same c.0 h.2

module _ (n : ℕ) (s t : ℕ → Sort) (sorts : (k : ℕ) → k < n → s k ≡ t k) (op : Op)
    (h : AreBelow n (operands_of op)) where
  pub sort_by-same : sort_by s op ≡ sort_by t op
  sort_by-same =
      rw (first-same Truth n s t sorts (operands_of op) h) (rw (second-same Truth n s t sorts (operands_of op) h) refl)

  pub number_by-same : (f g : ℕ → ℕ) (numbers : (k : ℕ) → k < n → f k ≡ g k) (input : ℕ)
      → number_by s f input op ≡ number_by t g input op
  number_by-same f g numbers input =
      rw (first-same Truth n s t sorts (operands_of op) h) (rw (second-same Truth n s t sorts (operands_of op) h)
      (rw (first-same 0 n f g numbers (operands_of op) h) (rw (second-same 0 n f g numbers (operands_of op) h)
      (rw (third-same 0 n f g numbers (operands_of op) h) refl))))
