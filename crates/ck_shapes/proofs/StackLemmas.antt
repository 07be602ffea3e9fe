-- The words of a stack, and how it is cut and moved.
use Rattle.std.proofs.Common.{◌≡◌, ℕ, zero, suc, ◌+◌, ◌≤◌, ◌<◌, ◌-◌, List, [], ◌∷◌, ◌++◌, length, take, drop, get_or}
use Rattle.std.proofs.Common.{◌⊎◌}
use Rattle.std.proofs.Common.{true, false, Decides, refl, sym, ap, subst, ◌∙◌, arith, inl, inr}
use Rattle.std.proofs.Common.{not}
use Rattle.std.specs.Cmp.Lexicographic.{pointwise}
use Rattle.std.proofs.lemmas.Slice.Eq.{slice_eq-Decides}
use Rattle.std.proofs.lemmas.Bool.{both_ways, not-true, not-false}
use Rattle.std.proofs.lemmas.List.{length-append, append_cancel_right, take-append-drop}
use Rattle.jv_list.proofs.PieceLemmas.{take_front, drop_front}
use Rattle.ck_shapes.specs.contracts.shape.ValueTypePartialEq.TheImpl.{eq-value}
use Rattle.ck_shapes.specs.declared.shape.ValueType.{ValueType}
use Rattle.ck_shapes.specs.declared.shape.ValueType.TheVariants.{Int, Long, Reference}
use Rattle.ck_shapes.specs.declared.effect.Move.{Move}
use Rattle.ck_shapes.specs.Shape.{width, words, kept, IsCut, IsMoved, IsReplaced}

-- `==` on types decides whether they are equal
pub type_decides : (a b : ValueType) → Decides (eq-value.it a b) (a ≡ b)
type_decides Int Int = (λ e. refl, λ e. refl)
type_decides Long Long = (λ e. refl, λ e. refl)
type_decides Reference Reference = (λ e. refl, λ e. refl)
type_decides Int Long = (λ e. absurd cc, λ e. absurd cc)
type_decides Int Reference = (λ e. absurd cc, λ e. absurd cc)
type_decides Long Int = (λ e. absurd cc, λ e. absurd cc)
type_decides Long Reference = (λ e. absurd cc, λ e. absurd cc)
type_decides Reference Int = (λ e. absurd cc, λ e. absurd cc)
type_decides Reference Long = (λ e. absurd cc, λ e. absurd cc)

width_some : (t : ValueType) → 0 < width t
width_some Int = omega arith
width_some Long = omega arith
width_some Reference = omega arith

pub words_append : (xs ys : List ValueType) → words (xs ++ ys) ≡ words xs + words ys
words_append [] ys = omega arith
words_append (x ∷ xs) ys = omega (arith, words_append xs ys)

pub words_long : (xs : List ValueType) → length xs ≤ words xs
words_long [] = omega arith
words_long (x ∷ xs) = omega (arith, width_some x, words_long xs)

pub words_take_le : (i : ℕ) (xs : List ValueType) → words (take i xs) ≤ words xs
words_take_le zero xs = omega arith
words_take_le (suc i) [] = omega arith
words_take_le (suc i) (x ∷ xs) = omega (arith, words_take_le i xs)

pub words_take : (i : ℕ) (xs : List ValueType) (d : ValueType) → i < length xs
    → words (take (i + 1) xs) ≡ words (take i xs) + width (get_or xs i d)
words_take i [] d lt = absurd (omega (arith, lt))
words_take zero (x ∷ xs) d lt = omega arith
words_take (suc i) (x ∷ xs) d lt =
    let e : suc i + 1 ≡ suc (i + 1) = omega arith in
    rw e (omega (arith, words_take i xs d (omega (arith, lt))))

-- so many words at most, from the front
pub take_over : (i : ℕ) (xs : List ValueType) (d : ValueType) (max room w : ℕ) → i < length xs
    → words (take i xs) + room ≡ max → w ≡ width (get_or xs i d) → room < w → words xs ≤ max → ⊥
take_over i xs d max room w lt counted is wide within =
    omega (arith, words_take i xs d lt, words_take_le (i + 1) xs)

pub take_less : (i : ℕ) (xs : List ValueType) (d : ValueType) (max room w : ℕ) → i < length xs
    → words (take i xs) + room ≡ max → w ≡ width (get_or xs i d) → w ≤ room → words (take (i + 1) xs) + (room - w) ≡ max
take_less i xs d max room w lt counted is fits = omega (arith, words_take i xs d lt)

pub words_drop : (k : ℕ) (xs : List ValueType) (d : ValueType) → k < length xs
    → words (drop k xs) ≡ width (get_or xs k d) + words (drop (k + 1) xs)
words_drop k [] d lt = absurd (omega (arith, lt))
words_drop zero (x ∷ xs) d lt = refl
words_drop (suc k) (x ∷ xs) d lt =
    let e : suc k + 1 ≡ suc (k + 1) = omega arith in
    rw e (words_drop k xs d (omega (arith, lt)))

drop_most : (k : ℕ) (xs : List ValueType) → words (drop k xs) ≤ words xs
drop_most zero xs = omega arith
drop_most (suc k) [] = omega arith
drop_most (suc k) (x ∷ xs) = omega (arith, drop_most k xs)

-- below a place there are more words
drop_less : (k j : ℕ) (xs : List ValueType) → k < j → j ≤ length xs → words (drop j xs) < words (drop k xs)
drop_less k zero xs lt le = absurd (omega (arith, lt))
drop_less k (suc j) [] lt le = absurd (omega (arith, le))
drop_less zero (suc j) (x ∷ xs) lt le = omega (arith, width_some x, drop_most j xs)
drop_less (suc k) (suc j) (x ∷ xs) lt le = drop_less k j xs (omega (arith, lt)) (omega (arith, le))

same_place : (k j : ℕ) (xs : List ValueType) → k ≤ length xs → j ≤ length xs
    → words (drop k xs) ≡ words (drop j xs) → (k < j) ⊎ ((k ≡ j) ⊎ (j < k)) → k ≡ j
same_place k j xs a b e (inl lt) = absurd (omega (arith, drop_less k j xs lt b, e))
same_place k j xs a b e (inr (inl same)) = same
same_place k j xs a b e (inr (inr lt)) = absurd (omega (arith, drop_less j k xs lt a, e))

-- so many words are above one place only
pub one_place : (k j : ℕ) (xs : List ValueType) → k ≤ length xs → j ≤ length xs
    → words (drop k xs) ≡ words (drop j xs) → k ≡ j
one_place k j xs a b e = let c : (k < j) ⊎ ((k ≡ j) ⊎ (j < k)) = grind arith in same_place k j xs a b e c

-- a place with more words above is at or below the one before
pub lower_place : (k j : ℕ) (xs : List ValueType) → k ≤ length xs → j ≤ length xs
    → words (drop j xs) ≤ words (drop k xs) → k ≤ j
lower_place k j xs a b e = let c : (j < k) ⊎ (k ≤ j) = grind arith in
    elim c [ inl lt ↦ absurd (omega (arith, drop_less j k xs lt a, e)) | inr le ↦ le ]

no_more : (k j : ℕ) (xs : List ValueType) → j ≤ length xs → (k < j) ⊎ (k ≡ j) → words (drop j xs) ≤ words (drop k xs)
no_more k j xs le (inl lt) = omega (arith, drop_less k j xs lt le)
no_more k j xs le (inr e) = rw e (omega arith)

-- a value that is wider than what is left
pub too_wide : (xs : List ValueType) (rest left count k w : ℕ) (d : ValueType) → 0 < rest → rest ≤ length xs
    → words (drop rest xs) + left ≡ count → 0 < left → w ≡ width (get_or xs (rest - 1) d) → left < w → k ≤ rest
    → words (drop k xs) ≡ count → ⊥
too_wide xs rest left count k w d some within counted more is wide le e =
    let back : rest - 1 + 1 ≡ rest = omega arith in
    let one = words_drop (rest - 1) xs d (omega arith) in
    let one' : words (drop (rest - 1) xs) ≡ width (get_or xs (rest - 1) d) + words (drop rest xs) = rw back at one in
    let c : (k < rest - 1) ⊎ ((k ≡ rest - 1) ⊎ (k ≡ rest)) = grind arith in
    elim c [
      | inl lt ↦ omega (arith, no_more k (rest - 1) xs (omega arith) (inl lt))
      | inr o ↦ elim o [
        | inl same ↦ omega (arith, no_more k (rest - 1) xs (omega arith) (inr same))
        | inr same ↦ omega (arith, ap (λ (i : ℕ). words (drop i xs)) same)
      ]
    ]

-- ---- cuts

module _ (s : List ValueType) (count : ℕ) where
  pub cut_within : (rest top : List ValueType) → IsCut s count rest top → length rest ≤ length s
  cut_within rest top cut = omega (arith, ap length cut.parts, length-append rest top)

  pub cut_words : (rest top : List ValueType) → IsCut s count rest top → words (drop (length rest) s) ≡ count
  cut_words rest top cut =
      ap (λ (l : List ValueType). words (drop (length rest) l)) cut.parts ∙ ap words (drop_front rest top) ∙ cut.counted

  pub cut_at : (k : ℕ) → words (drop k s) ≡ count → IsCut s count (take k s) (drop k s)
  cut_at k e = record { parts = sym (take-append-drop k s); counted = e }

  pub cut_rest : (a at b bt : List ValueType) → IsCut s count a at → IsCut s count b bt → a ≡ b
  cut_rest a at b bt p q =
      let e = one_place (length a) (length b) s (cut_within a at p) (cut_within b bt q)
      (cut_words a at p ∙ sym (cut_words b bt q)) in
      sym (ap (λ (l : List ValueType). take (length a) l) p.parts ∙ take_front a at)
      ∙ ap (λ (k : ℕ). take k s) e ∙ ap (λ (l : List ValueType). take (length b) l) q.parts ∙ take_front b bt

  pub cut_top : (a at b bt : List ValueType) → IsCut s count a at → IsCut s count b bt → at ≡ bt
  cut_top a at b bt p q =
      let e = one_place (length a) (length b) s (cut_within a at p) (cut_within b bt q)
      (cut_words a at p ∙ sym (cut_words b bt q)) in
      sym (ap (λ (l : List ValueType). drop (length a) l) p.parts ∙ drop_front a at)
      ∙ ap (λ (k : ℕ). drop k s) e ∙ ap (λ (l : List ValueType). drop (length b) l) q.parts ∙ drop_front b bt

-- ---- moves

cong_parts : (how : Move) (r s u v t w : List ValueType) → r ≡ s → u ≡ v → t ≡ w
    → r ++ kept how.puts_below t ++ u ++ kept how.puts_above t ≡ s ++ kept how.puts_below w ++ v
    ++ kept how.puts_above w
cong_parts how r s u v t w e f g = cc

-- a move gives one stack
pub one_moved : (how : Move) (old a b : List ValueType) → IsMoved how old a → IsMoved how old b → a ≡ b
one_moved how old a b p q =
    let lower = cut_rest old how.top p.lower p.top q.lower q.top p.above q.above in
    let top = cut_top old how.top p.lower p.top q.lower q.top p.above q.above in
    let below = subst (λ (l : List ValueType). IsCut l how.under q.rest q.under) (sym lower) q.below in
    let rest = cut_rest p.lower how.under p.rest p.under q.rest q.under p.below below in
    let under = cut_top p.lower how.under p.rest p.under q.rest q.under p.below below in
    p.new_is ∙ cong_parts how p.rest q.rest p.under q.under p.top q.top rest under top ∙ sym q.new_is

-- the second cut of a move
pub second_cut : (s front : List ValueType) (k : ℕ) (how : Move) (new : List ValueType) (m : IsMoved how s new)
    → words (drop k s) ≡ how.top → front ≡ take k s → IsCut front how.under m.rest m.under
second_cut s front k how new m counted is =
    let e = cut_rest s how.top m.lower m.top (take k s) (drop k s) m.above (cut_at s how.top k counted) in
    subst (λ (l : List ValueType). IsCut l how.under m.rest m.under) (e ∙ sym is) m.below

pub one_replaced : (takes leaves old a b : List ValueType) → IsReplaced takes leaves old a
    → IsReplaced takes leaves old b
    → a ≡ b
one_replaced takes leaves old a b p q =
    let rest : p.rest ≡ q.rest = append_cancel_right p.rest q.rest takes (sym p.old_is ∙ q.old_is) in
    p.new_is ∙ ap (λ (r : List ValueType). r ++ leaves) rest ∙ sym q.new_is

-- the test that two stacks differ said no
pub same_stacks : (a b : List ValueType) → false ≡ not (pointwise eq-value.it a b) → a ≡ b
same_stacks a b e = (slice_eq-Decides type_decides a b (pointwise eq-value.it a b) refl).0
    (not-false (pointwise eq-value.it a b) (sym e))

-- the test that two stacks differ said yes
pub other_stacks : (a b : List ValueType) → true ≡ not (pointwise eq-value.it a b) → a ≡ b → ⊥
other_stacks a b e same = let said = (slice_eq-Decides type_decides a b (pointwise eq-value.it a b) refl).1 same in
    both_ways (pointwise eq-value.it a b) (not-true (pointwise eq-value.it a b) (sym e)) said
