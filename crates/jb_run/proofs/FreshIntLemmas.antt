-- Ints that are known, and ints of fresh variables, bit by bit.
use Rattle.std.proofs.Common.{◌≡◌, ◌<◌, ◌≤◌, ◌≢◌, ◌+◌, ◌^◌, ◌/◌, ◌↔◌, ◌==◌, ℕ, ℤ, Bool, false, List, [], length, set}
use Rattle.std.proofs.Common.{refl, sym, ◌∙◌, subst, arith, below_more, length-set, get_or-set_same, get_or-set_other}
use Rattle.std.specs.Prelude.{slice_index_or, IsTrue, bit_and}
use Rattle.std.specs.Int.{IsBitSet, cast_unsigned, w32}
use Rattle.std.proofs.lemmas.List.{append-nil}
use Rattle.jb_run.specs.declared.formula.Formula.{Formula}
use Rattle.jb_run.specs.declared.gates.Bit.{Bit}
use Rattle.jb_run.specs.declared.gates.Bit.TheVariants.{Known}
use Rattle.jb_run.specs.declared.int_bits.IntBits.{IntBits}
use Rattle.jb_run.specs.Clauses.{clauses_of}
use Rattle.jb_run.specs.Satisfies.{bit_value, Satisfies, Agrees, IsBitBelow, AreClausesBelow}
use Rattle.jb_run.specs.Gate.{Continues, IsExtension, IsFresh, IsFreshInt, HasInt, bit_at}
use Rattle.jb_run.proofs.DefinitionLemmas.{bit_below_more, bit_agree, continues_then, extension_then}
use Rattle.jv_list.proofs.BitLemmas.{tests_bit}

-- a known bit of a pattern
abbrev pub pattern_bit : ℕ → ℕ → Bit
pattern_bit pattern k = Known (bit_and (pattern / 2 ^ k) 1 == 1)

-- a property of each bit below an index, and one more
each_more : (P : ℕ → Bit → Type 0) (bits : List Bit) (i : ℕ) (bit : Bit) → i < length bits
    → ((k : ℕ) → k < i → P k (slice_index_or bits k (Known false))) → P i bit → (k : ℕ) → k < i + 1
    → P k (slice_index_or (set bits i bit) k (Known false))
each_more P bits i bit inside below here =
    below_more (λ (k : ℕ). P k (slice_index_or (set bits i bit) k (Known false))) i
    (λ k h.
    let ne : k ≢ i = λ e. omega (arith, e) in
    subst (P k) (sym (get_or-set_other bits i k bit (Known false) ne)) (below k h))
    (subst (P i) (sym (get_or-set_same bits i bit (Known false) inside)) here)

-- the bits below an index are those of the pattern
pub record KnownSoFar (pattern : ℕ) (bits : List Bit) (i : ℕ) : Type 0 where
  pub length_is : length bits ≡ 32
  pub each : (k : ℕ) → k < i → slice_index_or bits k (Known false) ≡ pattern_bit pattern k

pub known_more : (pattern : ℕ) (bits : List Bit) (i : ℕ) → i < 32 → KnownSoFar pattern bits i
    → KnownSoFar pattern (set bits i (pattern_bit pattern i)) (i + 1)
known_more pattern bits i inside so = record {
  length_is = length-set bits i (pattern_bit pattern i) ∙ so.length_is;
  each = each_more (λ k bit. bit ≡ pattern_bit pattern k) bits i (pattern_bit pattern i)
      (omega (arith, so.length_is)) so.each refl;
}

pub known_int : (value : ℤ) (pattern : ℕ) (word : IntBits) (i : ℕ) → pattern ≡ cast_unsigned w32 value
    → KnownSoFar pattern word.bits i → 32 ≤ i → (a : ℕ → Bool) → HasInt a word value
known_int value pattern word i e so past a k inside =
    let lt : k < i = omega arith in
    subst (λ (bit : Bit). IsTrue (bit_value a bit) ↔ IsBitSet (cast_unsigned w32 value) k) (sym (so.each k lt))
    (subst (λ (n : ℕ). IsTrue (bit_and (pattern / 2 ^ k) 1 == 1) ↔ IsBitSet n k) e (tests_bit pattern k))

pub known_below : (pattern : ℕ) (word : IntBits) (i : ℕ) → KnownSoFar pattern word.bits i → 32 ≤ i → (n k : ℕ) → k < 32
    → IsBitBelow n (bit_at word k)
known_below pattern word i so past n k inside =
    let lt : k < i = omega arith in
    subst (IsBitBelow n) (sym (so.each k lt)) tt

-- the bits below an index are fresh
pub record FreshBits (old new : Formula) (bits : List Bit) (i : ℕ) : Type 0 where
  pub grows : old.variables ≤ new.variables
  pub within : (k : ℕ) → k < i → IsBitBelow new.variables (slice_index_or bits k (Known false))
  pub named : AreClausesBelow new.variables (clauses_of new)
  pub keeps : (a : ℕ → Bool) → Satisfies a new → Satisfies a old
  pub extends : (a : ℕ → Bool) → Satisfies a old → (value : ℕ → Bool) → (b : ℕ → Bool) × IsExtension old new a b
      × ((k : ℕ) → k < i → bit_value b (slice_index_or bits k (Known false)) ≡ value k)
  pub only : (a b : ℕ → Bool) → Agrees old.variables a b
      → ((k : ℕ) → k < i → bit_value a (slice_index_or bits k (Known false)) ≡ bit_value b
      (slice_index_or bits k (Known false))) → Agrees new.variables a b

pub record FreshSoFar (old new : Formula) (bits : List Bit) (i : ℕ) : Type 0 where
  pub length_is : length bits ≡ 32
  pub continues : Continues old new
  pub input : AreClausesBelow old.variables (clauses_of old) → FreshBits old new bits i

pub fresh_none : (formula : Formula) (bits : List Bit) → length bits ≡ 32 → FreshSoFar formula formula bits 0
fresh_none formula bits is = record {
  length_is = is;
  continues = record { grows = omega arith; rest = []; clauses = sym (append-nil (clauses_of formula)) };
  input = λ named. record {
    grows = omega arith;
    within = λ k h. absurd (omega (arith, h));
    named = named;
    keeps = λ a h. h;
    extends =
        λ a h value. (a, record { agrees = λ v below. refl; satisfies = h }, λ k below. absurd (omega (arith, below)));
    only = λ a b agrees equal. agrees;
  };
}

bits_extend : (old between new : Formula) (bits : List Bit) (i : ℕ) (bit : Bit) → i < length bits
    → FreshBits old between bits i → IsFresh between new bit → (a : ℕ → Bool) → Satisfies a old → (value : ℕ → Bool)
    → (c : ℕ → Bool) × IsExtension old new a c
    × ((k : ℕ) → k < i + 1 → bit_value c (slice_index_or (set bits i bit) k (Known false)) ≡ value k)
bits_extend old between new bits i bit inside so fresh a h value =
    let p = so.extends a h value in
    let q = fresh.extends p.0 p.1.satisfies (value i) in (
      q.0,
      extension_then old between new a p.0 q.0 so.grows p.1 q.1,
      each_more (λ k x. bit_value q.0 x ≡ value k) bits i bit inside
          (λ k below. sym (bit_agree between.variables p.0 q.0 (slice_index_or bits k (Known false)) q.1.agrees
          (so.within k below)) ∙ p.2 k below)
          q.2,
    )

bits_only : (old between new : Formula) (bits : List Bit) (i : ℕ) (bit : Bit) → i < length bits
    → FreshBits old between bits i → IsFresh between new bit → (a b : ℕ → Bool) → Agrees old.variables a b
    → ((k : ℕ) → k < i + 1 → bit_value a (slice_index_or (set bits i bit) k (Known false)) ≡ bit_value b
    (slice_index_or (set bits i bit) k (Known false))) → Agrees new.variables a b
bits_only old between new bits i bit inside so fresh a b agrees equal =
    let at = equal i (omega arith) in
    let here : bit_value a bit ≡ bit_value b bit =
    subst (λ (x : Bit). bit_value a x ≡ bit_value b x) (get_or-set_same bits i bit (Known false) inside) at in
    fresh.only a b
    (so.only a b agrees (λ k below.
    let ne : k ≢ i = λ e. omega (arith, e) in
    subst (λ (x : Bit). bit_value a x ≡ bit_value b x) (get_or-set_other bits i k bit (Known false) ne)
    (equal k (omega arith))))
    here

bits_fresh : (old between new : Formula) (bits : List Bit) (i : ℕ) (bit : Bit) → i < length bits
    → FreshBits old between bits i → IsFresh between new bit → FreshBits old new (set bits i bit) (i + 1)
bits_fresh old between new bits i bit inside so fresh = record {
  grows = omega (arith, so.grows, fresh.grows);
  within = each_more (λ k x. IsBitBelow new.variables x) bits i bit inside
      (λ k below. bit_below_more between.variables new.variables (slice_index_or bits k (Known false)) fresh.grows
      (so.within k below)) fresh.within;
  named = fresh.named;
  keeps = λ a h. so.keeps a (fresh.keeps a h);
  extends = bits_extend old between new bits i bit inside so fresh;
  only = bits_only old between new bits i bit inside so fresh;
}

pub fresh_more : (old between new : Formula) (bits : List Bit) (i : ℕ) (bit : Bit) → i < 32
    → FreshSoFar old between bits i → Continues between new
    → (AreClausesBelow between.variables (clauses_of between) → IsFresh between new bit)
    → FreshSoFar old new (set bits i bit) (i + 1)
fresh_more old between new bits i bit inside so goes fresh = record {
  length_is = length-set bits i bit ∙ so.length_is;
  continues = continues_then old between new so.continues goes;
  input = λ named.
      let bits_are = so.input named in
      bits_fresh old between new bits i bit (omega (arith, so.length_is)) bits_are (fresh bits_are.named);
}

pub fresh_all : (old new : Formula) (word : IntBits) (i : ℕ) → FreshSoFar old new word.bits i → i ≡ 32
    → AreClausesBelow old.variables (clauses_of old) → IsFreshInt old new word
fresh_all old new word i so is named =
    let all : FreshBits old new word.bits 32 = subst (λ (n : ℕ). FreshBits old new word.bits n) is (so.input named) in
    record {
      grows = all.grows;
      within = all.within;
      named = all.named;
      keeps = all.keeps;
      extends = all.extends;
      only = all.only;
    }
