-- The bits of an int, one gate after the other.
use Rattle.std.proofs.Common.{◌≡◌, ◌<◌, ◌≢◌, ◌+◌, ◌&&◌, ◌↔◌, ℕ, Bool, true, false, not, List, length, set, refl, sym}
use Rattle.std.proofs.Common.{ap, ◌∙◌, subst, arith, below_more, length-set, get_or-set_same, get_or-set_other}
use Rattle.std.specs.Prelude.{slice_index_or, IsTrue, IfOk, Result, Ok, Err}
use Rattle.std.specs.declared.alloc.AllocError.{AllocError}
use Rattle.std.proofs.lemmas.Bool.{and_parts, and_from, not-true}
use Rattle.jb_run.specs.declared.formula.Formula.{Formula}
use Rattle.jb_run.specs.declared.gates.Bit.{Bit}
use Rattle.jb_run.specs.declared.gates.Bit.TheVariants.{Known}
use Rattle.jb_run.specs.declared.int_bits.IntBits.{IntBits}
use Rattle.jb_run.specs.Bits.{opposite_bit}
use Rattle.jb_run.specs.Satisfies.{bit_value, IsBitBelow}
use Rattle.jb_run.specs.Gate.{Continues, Extends, Shows, IsGate, IsTest, IsIntGate, AreNamed, IsIntNamed, AreIntsNamed}
use Rattle.jb_run.specs.Gate.{HasNoBit, HaveSameBits, bit_at, bit_of, both, differ, different}
use Rattle.jb_run.proofs.DefinitionLemmas.{bit_below_more, extends_then, shows_later, continues_then}
use Rattle.jb_run.proofs.GateLemmas.{opposite_value, opposite_below}

-- the bits below an index show their values
pub record BitsGate (old new : Formula) (bits : List Bit) (i : ℕ) (value : ℕ → (ℕ → Bool) → Bool) : Type 0 where
  pub extends : Extends old new
  pub shows : (k : ℕ) → k < i → Shows new (slice_index_or bits k (Known false)) (value k)

-- the formula goes on from the old one, and, under a premise, the bits below an index show their values
pub record BitsSoFar (premise : Type 0) (old new : Formula) (bits : List Bit) (i : ℕ) (value : ℕ → (ℕ → Bool)
    → Bool) : Type 0 where
  pub length_is : length bits ≡ 32
  pub continues : Continues old new
  pub gate : premise → BitsGate old new bits i value

shows_more : (new : Formula) (bits : List Bit) (i : ℕ) (bit : Bit) (value : ℕ → (ℕ → Bool) → Bool) → i < length bits
    → ((k : ℕ) → k < i → Shows new (slice_index_or bits k (Known false)) (value k)) → Shows new bit (value i) → (k : ℕ)
    → k < i + 1 → Shows new (slice_index_or (set bits i bit) k (Known false)) (value k)
shows_more new bits i bit value inside below here =
    below_more (λ (k : ℕ). Shows new (slice_index_or (set bits i bit) k (Known false)) (value k)) i
    (λ k h.
    let ne : k ≢ i = λ e. omega (arith, e) in
    subst (λ (x : Bit). Shows new x (value k)) (sym (get_or-set_other bits i k bit (Known false) ne)) (below k h))
    (subst (λ (x : Bit). Shows new x (value i)) (sym (get_or-set_same bits i bit (Known false) inside)) here)

gate_more : (old between new : Formula) (bits : List Bit) (i : ℕ) (bit : Bit) (value : ℕ → (ℕ → Bool) → Bool)
    → i < length bits → BitsGate old between bits i value → IsGate between new bit (value i)
    → BitsGate old new (set bits i bit) (i + 1) value
gate_more old between new bits i bit value inside so gate = record {
  extends = extends_then old between new so.extends gate.extends;
  shows = shows_more new bits i bit value inside (λ k h. shows_later between new (slice_index_or bits k (Known false))
      (value k) gate.extends (so.shows k h)) gate.shows;
}

-- one more gate, at the index
pub bits_more : (premise : Type 0) (old between new : Formula) (bits : List Bit) (i : ℕ) (bit : Bit) (value : ℕ
    → (ℕ → Bool) → Bool) → BitsSoFar premise old between bits i value → i < 32 → Continues between new
    → (premise → BitsGate old between bits i value → IsGate between new bit (value i))
    → BitsSoFar premise old new (set bits i bit) (i + 1) value
bits_more premise old between new bits i bit value so inside goes gate = record {
  length_is = length-set bits i bit ∙ so.length_is;
  continues = continues_then old between new so.continues goes;
  gate = λ p. gate_more old between new bits i bit value (omega (arith, so.length_is)) (so.gate p) (gate p (so.gate p));
}

-- the bits of two ints are named later too
pub named_later : (old new : Formula) (a b : IntBits) (i : ℕ) → AreIntsNamed old a b → Extends old new → i < 32
    → AreNamed new (bit_at a i) (bit_at b i)
named_later old new a b i named extends inside = record {
  clauses = extends.named;
  first = bit_below_more old.variables new.variables (bit_at a i) extends.grows (named.first i inside);
  second = bit_below_more old.variables new.variables (bit_at b i) extends.grows (named.second i inside);
}

-- the bits of the int below an index are false
abbrev pub NoneBelow : IntBits → ℕ → (ℕ → Bool) → Type 0
NoneBelow a i w = (k : ℕ) → k < i → bit_of w a k ≡ false

-- the formula goes on from the old one, and the bit tests the bits below an index
pub record ZeroSoFar (old new : Formula) (a : IntBits) (zero : Bit) (i : ℕ) : Type 0 where
  pub continues : Continues old new
  pub gate : IsIntNamed old a → IsTest old new zero (NoneBelow a i)

none_more : (a : IntBits) (i : ℕ) (w : ℕ → Bool) (before after : Bool) → (IsTrue before ↔ NoneBelow a i w)
    → after ≡ (before && not (bit_of w a i)) → IsTrue after ↔ NoneBelow a (i + 1) w
none_more a i w before after old is =
    let bit = bit_of w a i in (
      (λ h.
          let parts = and_parts before (not bit) (sym is ∙ h) in
          below_more (λ (k : ℕ). bit_of w a k ≡ false) i (old.0 parts.0) (not-true bit parts.1)),
      (λ none. is ∙ and_from before (not bit) (old.1 (λ k h. none k (omega arith))) (ap not (none i (omega arith)))),
    )

opposite_named : (old between : Formula) (a : IntBits) (zero nb : Bit) (i : ℕ) → nb ≡ opposite_bit (bit_at a i)
    → IsIntNamed old a → IsTest old between zero (NoneBelow a i) → i < 32 → AreNamed between zero nb
opposite_named old between a zero nb i e named so inside = record {
  clauses = so.extends.named;
  first = so.within;
  second = subst (IsBitBelow between.variables) (sym e)
      (opposite_below between.variables (bit_at a i)
      (bit_below_more old.variables between.variables (bit_at a i) so.extends.grows (named.bits i inside)));
}

test_more : (old between new : Formula) (a : IntBits) (zero nb out : Bit) (i : ℕ) → nb ≡ opposite_bit (bit_at a i)
    → IsTest old between zero (NoneBelow a i) → IsGate between new out (both zero nb)
    → IsTest old new out (NoneBelow a (i + 1))
test_more old between new a zero nb out i e so gate = record {
  extends = extends_then old between new so.extends gate.extends;
  within = gate.shows.within;
  is = λ w h. none_more a i w (bit_value w zero) (bit_value w out) (so.is w (gate.extends.keeps w h))
      (gate.shows.is w h ∙ ap (λ (x : Bool). bit_value w zero && x) (ap (bit_value w) e
      ∙ opposite_value w (bit_at a i)));
}

-- one more bit is tested
pub zero_more : (old between new : Formula) (a : IntBits) (zero nb out : Bit) (i : ℕ) → nb ≡ opposite_bit (bit_at a i)
    → i < 32 → ZeroSoFar old between a zero i → Continues between new
    → (AreNamed between zero nb → IsGate between new out (both zero nb)) → ZeroSoFar old new a out (i + 1)
zero_more old between new a zero nb out i e inside so goes gate = record {
  continues = continues_then old between new so.continues goes;
  gate = λ named.
      let test = so.gate named in
      test_more old between new a zero nb out i e test
      (gate (opposite_named old between a zero nb i e named test inside));
}

-- all bits are tested at the end
pub zero_all : (old new : Formula) (a : IntBits) (zero : Bit) (i : ℕ) → ZeroSoFar old new a zero i → i ≡ 32
    → IsIntNamed old a → IsTest old new zero (HasNoBit a)
zero_all old new a zero i so is named = subst (λ (n : ℕ). IsTest old new zero (NoneBelow a n)) is (so.gate named)

differ_false : (x y : Bool) → differ x y ≡ false → x ≡ y
differ_false true true h = refl
differ_false true false h = h
differ_false false y h = sym h

same_false : (x y : Bool) → x ≡ y → differ x y ≡ false
same_false true true h = refl
same_false true false h = h
same_false false y h = sym h

equal_is : (f0 f1 f2 : Formula) (a b d : IntBits) (out : Bit)
    → IsIntGate f0 f1 d (λ k. different (bit_at a k) (bit_at b k)) → IsTest f1 f2 out (HasNoBit d)
    → IsTest f0 f2 out (HaveSameBits a b)
equal_is f0 f1 f2 a b d out first second = record {
  extends = extends_then f0 f1 f2 first.extends second.extends;
  within = second.within;
  is = λ w h.
      let earlier = second.extends.keeps w h in
      let test = second.is w h in (
        (λ t k inside. differ_false (bit_of w a k) (bit_of w b k) (sym ((first.shows k inside).is w earlier)
            ∙ test.0 t k inside)),
        (λ same. test.1 (λ k inside. (first.shows k inside).is w earlier
            ∙ same_false (bit_of w a k) (bit_of w b k) (same k inside))),
      );
}

word_named : (f0 f1 : Formula) (d : IntBits) (value : ℕ → (ℕ → Bool) → Bool) → IsIntGate f0 f1 d value → IsIntNamed f1 d
word_named f0 f1 d value gate = record { clauses = gate.extends.named; bits = λ k inside. (gate.shows k inside).within }

-- two ints are equal where none of their bits differs
pub equal_of : (f0 f1 f2 : Formula) (a b d : IntBits) (out : Result Bit AllocError)
    → (AreIntsNamed f0 a b → IsIntGate f0 f1 d (λ k. different (bit_at a k) (bit_at b k)))
    → (IsIntNamed f1 d → IfOk out (λ bit. IsTest f1 f2 bit (HasNoBit d))) → AreIntsNamed f0 a b
    → IfOk out (λ bit. IsTest f0 f2 bit (HaveSameBits a b))
equal_of f0 f1 f2 a b d (Err e) first second named = tt
equal_of f0 f1 f2 a b d (Ok bit) first second named =
    let gate : IsIntGate f0 f1 d (λ k. different (bit_at a k) (bit_at b k)) = first named in
    equal_is f0 f1 f2 a b d bit gate (second (word_named f0 f1 d (λ k. different (bit_at a k) (bit_at b k)) gate))
