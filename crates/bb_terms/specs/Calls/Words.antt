-- What the private functions on words ensure.
use Rattle.std.specs.Prelude.{◌≡◌, ◌+◌, ◌-◌, ◌*◌, ◌/◌, ◌%◌, ◌^◌, ℕ, Bool, List, [], ◌∷◌, length, nat_lt, int_lt, if◌then◌else◌}
use Rattle.std.specs.Prelude.{bit_and, bit_or, bit_xor}
use Rattle.std.specs.Int.{int_shr}
use Rattle.cn_clauses.specs.declared.lit.Lit.{Lit}
use Rattle.cn_clauses.specs.declared.formula.Formula.{Formula}
use Rattle.cn_clauses.specs.Literals.{lit_value}
use Rattle.cn_clauses.specs.Extension.{Grows}
use Rattle.bb_gates.specs.Growth.{AreOf}
use Rattle.bb_gates.specs.Values.{both, either, differ}
use Rattle.bb_arith.specs.Words.{number_of, IsWordGate}
use Rattle.jv_list.specs.Numbers.{bit_number}
use Rattle.jv_list.specs.Numbers.{signed_number, wrapped_number}
use Rattle.jv_list.specs.Numbers.{quotient_of, remainder_of}
use Rattle.bb_terms.specs.declared.arithmetic.WordOp.{WordOp}
use Rattle.bb_terms.specs.declared.arithmetic.WordOp.TheVariants.{Add, Sub, Mul, Div, Rem, Shl, Shr, Ushr}
use Rattle.bb_terms.specs.declared.bits.BitOp.{BitOp}
use Rattle.bb_terms.specs.declared.bits.BitOp.TheVariants.{And, Or, Xor}

-- a word of so many literals for a number
pub record IsWord (n : ℕ) (old new : Formula) (lits : List Lit) (value : (ℕ → Bool) → ℕ) : Type 0 where
  pub gate : IsWordGate old new lits value
  pub wide : length lits ≡ n

-- a word of so many fresh literals
pub record IsFreeWord (n : ℕ) (old new : Formula) (lits : List Lit) : Type 0 where
  pub grows : Grows old new lits
  pub wide : length lits ≡ n

-- the number that an operation on words of n bits names
abbrev pub arithmetic_number : ℕ → WordOp → ℕ → ℕ → ℕ
arithmetic_number n Add x y = x + y
arithmetic_number n Sub x y = x + (2 ^ n - y)
arithmetic_number n Mul x y = x * y
arithmetic_number n Div x y = wrapped_number n (quotient_of (signed_number n x) (signed_number n y))
arithmetic_number n Rem x y = wrapped_number n (remainder_of (signed_number n x) (signed_number n y))
arithmetic_number n Shl x y = x * 2 ^ (y % n)
arithmetic_number n Shr x y = wrapped_number n (int_shr (signed_number n x) (y % n))
arithmetic_number n Ushr x y = x / 2 ^ (y % n)

-- the number that its word shows: the same, modulo 2 ^ n
abbrev pub arithmetic_value : ℕ → WordOp → ℕ → ℕ → ℕ
arithmetic_value n Add x y = (x + y) % 2 ^ n
arithmetic_value n Sub x y = (x + (2 ^ n - y)) % 2 ^ n
arithmetic_value n Mul x y = (x * y) % 2 ^ n
arithmetic_value n Div x y = wrapped_number n (quotient_of (signed_number n x) (signed_number n y))
arithmetic_value n Rem x y = wrapped_number n (remainder_of (signed_number n x) (signed_number n y))
arithmetic_value n Shl x y = (x * 2 ^ (y % n)) % 2 ^ n
arithmetic_value n Shr x y = wrapped_number n (int_shr (signed_number n x) (y % n))
arithmetic_value n Ushr x y = x / 2 ^ (y % n)

-- whether the first of two words of n bits is the lesser, with a sign or without
abbrev pub is_in_order : ℕ → Bool → ℕ → ℕ → Bool
is_in_order n signed x y = if signed then int_lt (signed_number n x) (signed_number n y) else nat_lt x y

-- the bit that an operation on bits gives
abbrev pub joined_bits : BitOp → Bool → Bool → Bool
joined_bits And = both
joined_bits Or = either
joined_bits Xor = differ

-- and on all bits of two numbers
abbrev pub bits_number : BitOp → ℕ → ℕ → ℕ
bits_number And x y = bit_and x y
bits_number Or x y = bit_or x y
bits_number Xor x y = bit_xor x y

-- the number of the word that is chosen
abbrev pub chosen_number : Lit → List Lit → List Lit → (ℕ → Bool) → ℕ
chosen_number choice a b w = if lit_value w choice then number_of w a else number_of w b

-- the word with a literal in each further place, so that it has n
pub record IsLonger (lits : List Lit) (fill : Lit) (n : ℕ) (made : List Lit) : Type 0 where
  pub wide : length made ≡ n
  pub within : (f : Formula) → AreOf f lits → AreOf f (fill ∷ []) → AreOf f made
  pub value : (w : ℕ → Bool)
      → number_of w made + bit_number (lit_value w fill) * 2 ^ length lits
      ≡ number_of w lits + bit_number (lit_value w fill) * 2 ^ n
