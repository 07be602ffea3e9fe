-- The ints that gates over the bits of ints show.
use Rattle.std.proofs.Common.{◌≡◌, ◌<◌, ◌≤◌, ◌+◌, ◌%◌, ◌^◌, ◌↔◌, ℕ, ℤ, Bool, true, false, List, refl, sym, ap, ◌∙◌}
use Rattle.std.proofs.Common.{subst, arith}
use Rattle.std.specs.Prelude.{pos, bit_xor, IsTrue, if◌then◌else◌, IfOk, Result, Ok, Err}
use Rattle.std.specs.declared.alloc.AllocError.{AllocError}
use Rattle.std.specs.Int.{IsBitSet, cast_unsigned, cast_signed, int_bit_xor, w32}
use Rattle.std.specs.Int as int
use Rattle.std.specs.Ordering.{int_eq}
use Rattle.std.proofs.lemmas.Int.{to_z-of_z, of_z-to_z}
use Rattle.std.proofs.lemmas.Nat.{bit_set_by_shift, xor_lt}
use Rattle.std.proofs.lemmas.Nat.Bits.{shr_and_one, bit_at-zero, bit_at_xor, same_from_bits_below}
use Rattle.std.proofs.lemmas.Bool.Decides.{Decides-int_eq, same_from_decides}
use borrow.Author.Gap.{read_sfits}
use Rattle.jb_run.specs.declared.formula.Formula.{Formula}
use Rattle.jb_run.specs.declared.gates.Bit.{Bit}
use Rattle.jb_run.specs.declared.int_bits.IntBits.{IntBits}
use Rattle.jb_run.specs.Satisfies.{bit_value, Satisfies, IsBitBelow}
use Rattle.jb_run.specs.Gate.{bit_at, bit_of, differ, different, chosen, HasInt, HasNoBit, HaveSameBits, AreIntsNamed}
use Rattle.jb_run.specs.Gate.{IsTest}
use Rattle.jb_run.specs.Shown.{ShowsInt}
use Rattle.jb_run.proofs.IntLemmas.{ints_from_bits, bits_from_int}
use Rattle.jb_run.proofs.BitLemmas.{BitsSoFar}
use Rattle.jv_list.proofs.BitLemmas.{bit_is, pattern_below_32}

-- a bit as a number
abbrev pub number : Bool → ℕ
number t = if t then 1 else 0

one_true : (t : Bool) → number t ≡ 1 → IsTrue t
one_true true h = refl
one_true false h = absurd (cc)

pub bit_from : (t : Bool) (n k : ℕ) → int.bit_at n k ≡ number t → IsTrue t ↔ IsBitSet n k
bit_from t n k e = (
  (λ h. (bit_set_by_shift n k).0 (shr_and_one n k ∙ e ∙ ap number h)),
  (λ h. one_true t (sym e ∙ sym (shr_and_one n k) ∙ (bit_set_by_shift n k).1 h)),
)

zero_false : (t : Bool) → number t ≡ 0 → t ≡ false
zero_false true h = absurd (cc)
zero_false false h = refl

-- the same bits show the same int
pub same_shows : (w : ℕ → Bool) (first word : IntBits) (n : ℤ) → HaveSameBits word first w → ShowsInt w first n
    → ShowsInt w word n
same_shows w first word n same shows = record {
  bits = λ k inside. subst (λ (t : Bool). IsTrue t ↔ IsBitSet (cast_unsigned w32 n) k) (sym (same k inside))
      (shows.bits k inside);
  fits = shows.fits;
}

differ_number : (x y : Bool) → (number x + number y) % 2 ≡ number (differ x y)
differ_number true true = refl
differ_number true false = refl
differ_number false true = refl
differ_number false false = refl

-- bits that differ show the exclusive or
pub differ_shows : (w : ℕ → Bool) (first second word : IntBits) (n m : ℤ)
    → ((k : ℕ) → k < 32 → bit_of w word k ≡ differ (bit_of w first k) (bit_of w second k)) → ShowsInt w first n
    → ShowsInt w second m → ShowsInt w word (int_bit_xor w32 n m)
differ_shows w first second word n m is here there =
    let p = cast_unsigned w32 n in
    let q = cast_unsigned w32 m in
    let below : bit_xor p q < 2 ^ 32 = xor_lt 32 p q (pattern_below_32 n here.fits) (pattern_below_32 m there.fits) in
    let back : cast_unsigned w32 (cast_signed w32 (bit_xor p q)) ≡ bit_xor p q = of_z-to_z w32 (bit_xor p q) below in
    record {
      bits = λ k inside.
          let x = bit_of w first k in
          let y = bit_of w second k in
          let e : int.bit_at (bit_xor p q) k ≡ number (bit_of w word k) =
          bit_at_xor p q k ∙ ap (λ (z : ℕ). (z + int.bit_at q k) % 2) (bit_is x p k (here.bits k inside))
          ∙ ap (λ (z : ℕ). (number x + z) % 2) (bit_is y q k (there.bits k inside))
          ∙ differ_number x y ∙ ap number (sym (is k inside)) in
          subst (λ (z : ℕ). IsTrue (bit_of w word k) ↔ IsBitSet z k) (sym back)
          (bit_from (bit_of w word k) (bit_xor p q) k e);
      fits = read_sfits w32 (bit_xor p q);
    }

-- the exclusive or of two ints, at the end of the bits
pub xor_int : (old new : Formula) (a b : IntBits) (bits : List Bit) (i : ℕ)
    → BitsSoFar (AreIntsNamed old a b) old new bits i (λ k. different (bit_at a k) (bit_at b k)) → 32 ≤ i
    → AreIntsNamed old a b → (w : ℕ → Bool) (n m : ℤ) → Satisfies w new → ShowsInt w a n → ShowsInt w b m
    → ShowsInt w (record { bits = bits }) (int_bit_xor w32 n m)
xor_int old new a b bits i so past named w n m holds here there =
    let gate = so.gate named in
    differ_shows w a b (record { bits = bits }) n m (λ k inside. (gate.shows k (omega arith)).is w holds) here there

-- the int that is chosen, at the end of the bits
pub chosen_first : (old new : Formula) (choice : Bit) (a b : IntBits) (bits : List Bit) (i : ℕ)
    → BitsSoFar (AreIntsNamed old a b × IsBitBelow old.variables choice) old new bits i
    (λ k. chosen choice (bit_at a k) (bit_at b k)) → 32 ≤ i → AreIntsNamed old a b → IsBitBelow old.variables choice
    → (w : ℕ → Bool) (n : ℤ) → Satisfies w new → bit_value w choice ≡ true → ShowsInt w a n
    → ShowsInt w (record { bits = bits }) n
chosen_first old new choice a b bits i so past named below w n holds on shows =
    let gate = so.gate (named, below) in
    same_shows w a (record { bits = bits }) n
    (λ k inside. (gate.shows k (omega arith)).is w holds
    ∙ ap (λ (t : Bool). if t then bit_of w a k else bit_of w b k) on) shows

pub chosen_second : (old new : Formula) (choice : Bit) (a b : IntBits) (bits : List Bit) (i : ℕ)
    → BitsSoFar (AreIntsNamed old a b × IsBitBelow old.variables choice) old new bits i
    (λ k. chosen choice (bit_at a k) (bit_at b k)) → 32 ≤ i → AreIntsNamed old a b → IsBitBelow old.variables choice
    → (w : ℕ → Bool) (n : ℤ) → Satisfies w new → bit_value w choice ≡ false → ShowsInt w b n
    → ShowsInt w (record { bits = bits }) n
chosen_second old new choice a b bits i so past named below w n holds off shows =
    let gate = so.gate (named, below) in
    same_shows w b (record { bits = bits }) n
    (λ k inside. (gate.shows k (omega arith)).is w holds
    ∙ ap (λ (t : Bool). if t then bit_of w a k else bit_of w b k) off) shows

zero_from_bits : (w : ℕ → Bool) (word : IntBits) (n : ℤ) → ShowsInt w word n → HasNoBit word w → n ≡ pos 0
zero_from_bits w word n shows none =
    let p = cast_unsigned w32 n in
    let e : p ≡ 0 = same_from_bits_below 32 p 0 (pattern_below_32 n shows.fits) (omega arith)
    (λ k inside. bit_is (bit_of w word k) p k (shows.bits k inside) ∙ ap number (none k inside) ∙ sym (bit_at-zero k))
    in
    sym (to_z-of_z w32 n shows.fits) ∙ ap (cast_signed w32) e

bits_from_zero : (w : ℕ → Bool) (word : IntBits) (n : ℤ) → ShowsInt w word n → n ≡ pos 0 → HasNoBit word w
bits_from_zero w word n shows e k inside =
    zero_false (bit_of w word k)
    (sym (bit_is (bit_of w word k) (cast_unsigned w32 n) k (shows.bits k inside))
    ∙ ap (λ (z : ℤ). int.bit_at (cast_unsigned w32 z) k) e ∙ bit_at-zero k)

-- a test whether all bits are false tests for 0
pub zero_int : (old new : Formula) (word : IntBits) (bit : Bit) → IsTest old new bit (HasNoBit word)
    → (w : ℕ → Bool) (n : ℤ) → Satisfies w new → ShowsInt w word n → bit_value w bit ≡ int_eq n (pos 0)
zero_int old new word bit test w n holds shows =
    let is = test.is w holds in
    same_from_decides {P = n ≡ pos 0} (bit_value w bit) (int_eq n (pos 0))
    ((λ t. zero_from_bits w word n shows (is.0 t)), (λ e. is.1 (bits_from_zero w word n shows e)))
    (Decides-int_eq n (pos 0))

-- a test whether the bits are the same tests whether the ints are
pub equal_int : (old new : Formula) (a b : IntBits) (bit : Bit) → IsTest old new bit (HaveSameBits a b)
    → (w : ℕ → Bool) (n m : ℤ) → Satisfies w new → ShowsInt w a n → ShowsInt w b m → bit_value w bit ≡ int_eq n m
equal_int old new a b bit test w n m holds here there =
    let is = test.is w holds in
    same_from_decides {P = n ≡ m} (bit_value w bit) (int_eq n m) (
      (λ t. ints_from_bits w a b n m here.fits there.fits here.bits there.bits (is.0 t)),
      (λ e. is.1 (bits_from_int w a b n here.bits (subst (HasInt w b) (sym e) there.bits))),
    )
    (Decides-int_eq n m)

-- the test of two ints, where memory did not run out
pub equal_found : (old new : Formula) (a b : IntBits) (found : Result Bit AllocError)
    → IfOk found (λ bit. IsTest old new bit (HaveSameBits a b))
    → IfOk found (λ bit. (w : ℕ → Bool) (n m : ℤ) → Satisfies w new → ShowsInt w a n → ShowsInt w b m
    → bit_value w bit ≡ int_eq n m)
equal_found old new a b (Err e) test = tt
equal_found old new a b (Ok bit) test = equal_int old new a b bit test
