-- Each assignment shows one int at each word.
use Rattle.std.proofs.Common.{◌≡◌, ◌<◌, ◌≤◌, ◌+◌, ◌*◌, ◌^◌, ◌%◌, ◌-◌, ◌↔◌, inl, inr, ℕ, zero, suc, ℤ, Bool, true, false}
use Rattle.std.proofs.Common.{List, [], ◌∷◌, refl, sym, ap, ◌∙◌, subst, arith, Fits}
use Rattle.std.specs.Prelude.{IsTrue}
use Rattle.std.specs.Int.{IsBitSet, cast_unsigned, cast_signed, w32}
use Rattle.std.specs.Int as int
use Rattle.std.proofs.lemmas.Bool.{cases_eq}
use Rattle.std.proofs.lemmas.Int.{of_z-to_z}
use Rattle.std.proofs.lemmas.Nat.Bits.{bit_at_cat_low, bit_at_cat_high, bit_at_lowest}
use Rattle.std.proofs.Math.Facts.{sfits_to_z}
use Rattle.std.proofs.Math.Nat.{pow-succ'}
use Rattle.jb_run.specs.declared.int_bits.IntBits.{IntBits}
use Rattle.jb_run.specs.Satisfies.{Agrees}
use Rattle.jb_run.specs.Gate.{bit_at, bit_of}
use Rattle.jb_run.specs.Shown.{ShowsInt, ShowInts, IsIntBelow, AreIntsBelow}
use Rattle.jb_run.proofs.DefinitionLemmas.{bit_agree}
use Rattle.jb_run.proofs.IntLemmas.{ints_from_bits}
use Rattle.jb_run.proofs.IntGateLemmas.{number, bit_from}

number_below : (value : Bool) → number value ≤ 1
number_below true = omega arith
number_below false = omega arith

number_rest : (value : Bool) → number value % 2 ≡ number value
number_rest true = refl
number_rest false = refl

-- the number of the bits below an index
abbrev pattern : (ℕ → Bool) → ℕ → ℕ
pattern bits zero = 0
pattern bits (suc k) = number (bits k) * 2 ^ k + pattern bits k

pattern_below : (bits : ℕ → Bool) (k : ℕ) → pattern bits k < 2 ^ k
pattern_below bits zero = omega arith
pattern_below bits (suc k) =
    let rest = pattern_below bits k in
    elim (bits k) as (λ (b : Bool). number b * 2 ^ k + pattern bits k < 2 ^ suc k) [
      | true ↦ (let e : 2 ^ suc k ≡ 2 * 2 ^ k = pow-succ' 2 k in omega (arith, e, rest))
      | false ↦ (let e : 2 ^ suc k ≡ 2 * 2 ^ k = pow-succ' 2 k in omega (arith, e, rest))
    ]

pattern_bits : (bits : ℕ → Bool) (k i : ℕ) → i < k → int.bit_at (pattern bits k) i ≡ number (bits i)
pattern_bits bits zero i below = absurd (omega (arith, below))
pattern_bits bits (suc k) i below =
    elim (cases_eq i k) [
      | inl same ↦
          ap (int.bit_at (number (bits k) * 2 ^ k + pattern bits k)) same
          ∙ bit_at_cat_high (number (bits k)) k (pattern bits k) k (pattern_below bits k) (omega arith)
          ∙ ap (int.bit_at (number (bits k))) (let e : k - k ≡ 0 = omega arith in e)
          ∙ bit_at_lowest (number (bits k))
          ∙ number_rest (bits k)
          ∙ sym (ap (λ (j : ℕ). number (bits j)) same)
      | inr ne ↦ bit_at_cat_low (number (bits k)) k (pattern bits k) i (omega (arith, ne))
          ∙ pattern_bits bits k i (omega (arith, ne))
    ]

-- the int that a word shows
shown : (a : ℕ → Bool) (word : IntBits) → (n : ℤ) × ShowsInt a word n
shown a word =
    let bits = pattern (bit_of a word) 32 in
    let below : bits < 2 ^ 32 = pattern_below (bit_of a word) 32 in (
      cast_signed w32 bits,
      record {
        bits = λ k inside. subst (λ (p : ℕ). IsTrue (bit_of a word k) ↔ IsBitSet p k) (sym (of_z-to_z w32 bits below))
            (bit_from (bit_of a word k) bits k (pattern_bits (bit_of a word) 32 k inside));
        fits = sfits_to_z (let f : Fits w32 bits = omega (arith, below) in f);
      },
    )

-- the ints that words show
pub ints_shown : (a : ℕ → Bool) (words : List IntBits) → (ints : List ℤ) × ShowInts a words ints
ints_shown a [] = ([], tt)
ints_shown a (word ∷ words) =
    let first = shown a word in
    let rest = ints_shown a words in
    (first.0 ∷ rest.0, (first.1, rest.1))

pub int_agrees : (n : ℕ) (a b : ℕ → Bool) (word : IntBits) (i : ℤ) → Agrees n a b → IsIntBelow n word
    → ShowsInt a word i → ShowsInt b word i
int_agrees n a b word i agrees below shows = record {
  bits = λ k inside. subst (λ (t : Bool). IsTrue t ↔ IsBitSet (cast_unsigned w32 i) k)
      (bit_agree n a b (bit_at word k) agrees (below k inside)) (shows.bits k inside);
  fits = shows.fits;
}

-- assignments that agree on the words' variables show the same ints
pub ints_agree : (n : ℕ) (a b : ℕ → Bool) (words : List IntBits) (ints : List ℤ) → Agrees n a b → AreIntsBelow n words
    → ShowInts a words ints → ShowInts b words ints
ints_agree n a b [] [] agrees below shows = tt
ints_agree n a b (word ∷ words) (i ∷ ints) agrees below shows =
    (int_agrees n a b word i agrees below.0 shows.0, ints_agree n a b words ints agrees below.1 shows.1)
ints_agree n a b [] (i ∷ ints) agrees below shows = absurd shows
ints_agree n a b (word ∷ words) [] agrees below shows = absurd shows

-- an assignment shows one list of ints
pub ints_once : (a : ℕ → Bool) (words : List IntBits) (first second : List ℤ) → ShowInts a words first
    → ShowInts a words second → first ≡ second
ints_once a [] [] [] shows also = refl
ints_once a (word ∷ words) (x ∷ first) (y ∷ second) shows also =
    let head : x ≡ y = ints_from_bits a word word x y shows.0.fits also.0.fits shows.0.bits also.0.bits
    (λ k inside. refl) in
    ap (λ (z : ℤ). z ∷ first) head ∙ ap (λ (zs : List ℤ). y ∷ zs) (ints_once a words first second shows.1 also.1)
ints_once a [] (x ∷ first) second shows also = absurd shows
ints_once a [] [] (y ∷ second) shows also = absurd also
ints_once a (word ∷ words) [] second shows also = absurd shows
ints_once a (word ∷ words) (x ∷ first) [] shows also = absurd also
