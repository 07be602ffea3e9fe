-- Operations on bits that are their operands.
use Rattle.std.proofs.Common.{◌≡◌, ◌%◌, ◌^◌, List, refl, arith}
use Rattle.std.specs.Int.Bits.{and_self, or_self, and_zero_l, and_zero_r, or_zero_l, or_zero_r, xor_zero_l, xor_zero_r}
use Rattle.tm_terms.specs.declared.sort.Sort.{Sort}
use Rattle.tm_terms.specs.declared.sort.Sort.TheVariants.{Bool as Truth, W16, W32, W64}
use Rattle.tm_terms.specs.declared.op.TermId.{TermId}
use Rattle.tm_terms.specs.declared.op.Op.{Op}
use Rattle.tm_terms.specs.declared.op.Op.TheVariants.{Shl, Ushr, BitAnd, BitOr, BitXor, WidenZero, Cut}
use Rattle.tm_terms.specs.Words.{width_of}
use Rattle.tm_terms.specs.Terms.{term_sort, term_value, Fits}
use Rattle.tm_terms.specs.Rules.{IsSame, HasNumber}
use Rattle.tm_terms.proofs.SameLemmas.{same-by}

-- a distance of 0
no-distance : (s : Sort) → 2 ^ (0 % width_of s) ≡ 1
no-distance Truth = refl
no-distance W16 = refl
no-distance W32 = refl
no-distance W64 = refl

module _ (ops : List Op) (a b : TermId) where
  pub shl_zero : Fits ops (Shl a b) → HasNumber ops b 0 → IsSame ops (Shl a b) a
  shl_zero fits zero = same-by ops (Shl a b) a fits.below.0 refl
      (λ v. rw (zero.value v, no-distance (term_sort ops a.0)) (omega arith))

  pub ushr_zero : Fits ops (Ushr a b) → HasNumber ops b 0 → IsSame ops (Ushr a b) a
  ushr_zero fits zero = same-by ops (Ushr a b) a fits.below.0 refl
      (λ v. rw (zero.value v, no-distance (term_sort ops a.0)) (omega arith))

  pub bit_and_zero : Fits ops (BitAnd a b) → HasNumber ops b 0 → IsSame ops (BitAnd a b) b
  bit_and_zero fits zero = same-by ops (BitAnd a b) b fits.below.1 fits.sorts (λ v. rw (zero.value v) (and_zero_r _))

  pub zero_bit_and : Fits ops (BitAnd a b) → HasNumber ops a 0 → IsSame ops (BitAnd a b) a
  zero_bit_and fits zero = same-by ops (BitAnd a b) a fits.below.0 refl
      (λ v. rw (zero.value v) (and_zero_l (term_value ops v b.0)))

  pub bit_and_equal : Fits ops (BitAnd a b) → b ≡ a → IsSame ops (BitAnd a b) a
  bit_and_equal fits equal = same-by ops (BitAnd a b) a fits.below.0 refl (λ v. rw equal (and_self _))

  pub bit_or_zero : Fits ops (BitOr a b) → HasNumber ops b 0 → IsSame ops (BitOr a b) a
  bit_or_zero fits zero = same-by ops (BitOr a b) a fits.below.0 refl (λ v. rw (zero.value v) (or_zero_r _))

  pub zero_bit_or : Fits ops (BitOr a b) → HasNumber ops a 0 → IsSame ops (BitOr a b) b
  zero_bit_or fits zero = same-by ops (BitOr a b) b fits.below.1 fits.sorts (λ v. rw (zero.value v) (or_zero_l _))

  pub bit_or_equal : Fits ops (BitOr a b) → b ≡ a → IsSame ops (BitOr a b) a
  bit_or_equal fits equal = same-by ops (BitOr a b) a fits.below.0 refl (λ v. rw equal (or_self _))

  pub bit_xor_zero : Fits ops (BitXor a b) → HasNumber ops b 0 → IsSame ops (BitXor a b) a
  bit_xor_zero fits zero = same-by ops (BitXor a b) a fits.below.0 refl (λ v. rw (zero.value v) (xor_zero_r _))

  pub zero_bit_xor : Fits ops (BitXor a b) → HasNumber ops a 0 → IsSame ops (BitXor a b) b
  zero_bit_xor fits zero = same-by ops (BitXor a b) b fits.below.1 fits.sorts (λ v. rw (zero.value v) (xor_zero_l _))

module _ (ops : List Op) (s : Sort) (a : TermId) where
  pub widen_zero_none : Fits ops (WidenZero s a) → term_sort ops a.0 ≡ s → IsSame ops (WidenZero s a) a
  widen_zero_none fits sort = same-by ops (WidenZero s a) a fits.below sort (λ v. refl)

  pub cut_none : Fits ops (Cut s a) → term_sort ops a.0 ≡ s → IsSame ops (Cut s a) a
  cut_none fits sort = same-by ops (Cut s a) a fits.below sort (λ v. refl)

pub ruleset bit_and_rules = (bit_and_zero, zero_bit_and, bit_and_equal)

pub ruleset bit_or_rules = (bit_or_zero, zero_bit_or, bit_or_equal)

pub ruleset bit_xor_rules = (bit_xor_zero, zero_bit_xor)
