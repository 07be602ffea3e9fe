-- What the first difference of two texts is.
use Rattle.std.proofs.Common.{◌≡◌, ℕ, ℤ, pos, ◌-ℤ◌, ◌+◌, ◌-◌, ◌%◌, ◌^◌, ◌<◌, ◌==◌, ◌≢◌, ◌∙◌, ◌++◌, not, Bool, true}
use Rattle.std.proofs.Common.{false, List, length, take, get_or, Some, None, refl, ap, sym, arith, lit<, eq-eqb}
use Rattle.std.specs.Int.{int_wrap, w32, cast_signed}
use Rattle.std.specs.Int.RustNames.{unsigned_abs}
use Rattle.std.specs.List.{zip}
use Rattle.std.proofs.lemmas.Int.{int_rem_euclid_is, ints}
use Rattle.std.proofs.lemmas.List.Quantifiers.{position-Some}
use Rattle.std.proofs.lemmas.Bool.{ne_eqb}
use Rattle.std.proofs.lemmas.List.{get_or-take, get_or_append_left}
use Rattle.std.proofs.lemmas.Slice.Zip.{length-zip, get_or-zip}
use Rattle.jv_list.proofs.PositionLemmas.{position_is, position_none}
use Rattle.st_text.specs.Order.{first_difference}

-- the difference of lengths, in the 32 bits of an int
pub wraps : (m n : ℕ) → n < 2 ^ 32
    → cast_signed w32 ((m + (2 ^ 32 - n)) % 2 ^ 32) ≡ int_wrap w32 (pos m -ℤ pos n)
unfolding int_wrap
wraps m n below =
    let whole = m + (2 ^ 32 - n) in
    let e = int_rem_euclid_is (pos m -ℤ pos n) (pos (2 ^ 32)) (2 ^ 32) 1 whole (lit< tt) refl (omega (arith, ints)) in
    sym (ap (λ (z : ℤ). cast_signed w32 (unsigned_abs z)) e)

-- both texts have a unit at the place where they differ first
pub within : (a b : List ℕ) (place : ℕ) → first_difference a b ≡ Some place → (place < length a) × (place < length b)
within a b place e =
    let at = position-Some (λ pair. not (pair.0 == pair.1)) (zip a b) place (0, 0) e in
    let long = length-zip a b in
    (omega (arith, at.0, long), omega (arith, at.0, long))

-- whether the units of a pair differ
abbrev apart : ℕ × ℕ → Bool
apart pair = not (pair.0 == pair.1)

module _ (a b : List ℕ) where
  -- the pairs of the units at one place
  pair_at : (k : ℕ) → k < length a → k < length b → get_or (zip a b) k (0, 0) ≡ (get_or a k 0, get_or b k 0)
  pair_at k in_a in_b = get_or-zip a b k (0, 0) in_a in_b

  -- units that are the same are not apart, and others are
  together : (k : ℕ) → k < length a → k < length b → get_or a k 0 ≡ get_or b k 0
      → apart (get_or (zip a b) k (0, 0)) ≡ false
  together k in_a in_b same =
      ap apart (pair_at k in_a in_b) ∙ ap not (eq-eqb (get_or a k 0) (get_or b k 0) same)

  not_together : (k : ℕ) → k < length a → k < length b → get_or a k 0 ≢ get_or b k 0
      → apart (get_or (zip a b) k (0, 0)) ≡ true
  not_together k in_a in_b ne =
      ap apart (pair_at k in_a in_b) ∙ ap not (ne_eqb (get_or a k 0) (get_or b k 0) ne)

  -- the place where they differ first
  pub first_is : (k : ℕ) → k < length a → k < length b → take k a ≡ take k b → get_or a k 0 ≢ get_or b k 0
      → first_difference a b ≡ Some k
  first_is k in_a in_b same ne =
      position_is apart (zip a b) (0, 0) k (omega (arith, length-zip a b))
      (λ j below. together j (omega (arith, below)) (omega (arith, below))
      (sym (get_or-take k a j 0 below) ∙ ap (λ (l : List ℕ). get_or l j 0) same ∙ get_or-take k b j 0 below))
      (not_together k in_a in_b ne)

  -- none, where they are the same as far as both go
  pub no_first : ((j : ℕ) → j < length a → j < length b → get_or a j 0 ≡ get_or b j 0) → first_difference a b ≡ None
  no_first same =
      position_none apart (zip a b) (0, 0)
      (λ j below. let long = length-zip a b in
      let in_a : j < length a = omega (arith, long, below) in
      let in_b : j < length b = omega (arith, long, below) in
      together j in_a in_b (same j in_a in_b))

-- a text and a prefix of it differ nowhere
pub no_first_left : (a rest : List ℕ) → first_difference a (a ++ rest) ≡ None
no_first_left a rest = no_first a (a ++ rest) (λ j in_a in_b. sym (get_or_append_left a rest 0 j in_a))

pub no_first_right : (a rest : List ℕ) → first_difference (a ++ rest) a ≡ None
no_first_right a rest = no_first (a ++ rest) a (λ j in_a in_b. get_or_append_left a rest 0 j in_b)
