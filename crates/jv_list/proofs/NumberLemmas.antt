-- Numbers of words, a bit more at a time, over any elements that stand for bits.
use Rattle.std.proofs.Common.{◌≡◌, ◌<◌, ◌+◌, ◌*◌, ◌^◌, ℕ, suc, Bool, true, false, List, [], ◌∷◌, ◌++◌, length}
use Rattle.std.proofs.Common.{sym, ap, ◌∙◌, subst, arith}
use Rattle.jv_list.specs.Numbers.{bit_number}

pub double_power : (n : ℕ) → 2 * 2 ^ n ≡ 2 ^ suc n
double_power n = omega arith

pub double_next : (n : ℕ) → 2 ^ (n + 1) ≡ 2 * 2 ^ n
double_next n = let next : n + 1 ≡ suc n = omega arith in ap (λ (m : ℕ). 2 ^ m) next ∙ sym (double_power n)

-- twice a number and a bit, where a bit stands above
shifted : (b n p : ℕ) (x : Bool) → b + 2 * (n + p * bit_number x) ≡ (b + 2 * n) + (2 * p) * bit_number x
shifted b n p true = omega arith
shifted b n p false = omega arith

one_bit : (b : ℕ) → b + 2 * 0 ≡ 0 + 1 * b
one_bit b = omega arith

bit_below : (x : Bool) (n p : ℕ) → n < p → bit_number x + 2 * n < 2 * p
bit_below true n p lt = omega (arith, lt)
bit_below false n p lt = omega (arith, lt)

-- the bit of an element, and a number that reads the lowest bit first
module _ {X : Type 0} (bit : X → Bool) (number : List X → ℕ) (none : number [] ≡ 0)
    (next : (x : X) (xs : List X) → number (x ∷ xs) ≡ bit_number (bit x) + 2 * number xs) where
  -- a word with one more bit at its upper end
  pub word_append : (xs : List X) (x : X) → number (xs ++ x ∷ []) ≡ number xs + 2 ^ length xs * bit_number (bit x)
  word_append [] x =
      next x [] ∙ ap (λ (n : ℕ). bit_number (bit x) + 2 * n) none ∙ one_bit (bit_number (bit x))
      ∙ ap (λ (n : ℕ). n + 1 * bit_number (bit x)) (sym none)
  word_append (y ∷ xs) x =
      next y (xs ++ x ∷ []) ∙ ap (λ (n : ℕ). bit_number (bit y) + 2 * n) (word_append xs x)
      ∙ shifted (bit_number (bit y)) (number xs) (2 ^ length xs) (bit x)
      ∙ ap (λ (p : ℕ). (bit_number (bit y) + 2 * number xs) + p * bit_number (bit x)) (double_power (length xs))
      ∙ ap (λ (n : ℕ). n + 2 ^ suc (length xs) * bit_number (bit x)) (sym (next y xs))

  -- a word of n bits has a number below 2 ^ n
  pub word_below : (xs : List X) → number xs < 2 ^ length xs
  word_below [] = let one : 0 < 1 = omega arith in subst (λ (n : ℕ). n < 1) (sym none) one
  word_below (x ∷ xs) =
      subst (λ (n : ℕ). n < 2 ^ suc (length xs)) (sym (next x xs))
      (subst (λ (p : ℕ). bit_number (bit x) + 2 * number xs < p) (double_power (length xs))
      (bit_below (bit x) (number xs) (2 ^ length xs) (word_below xs)))
