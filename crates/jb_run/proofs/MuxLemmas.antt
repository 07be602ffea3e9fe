-- Gates of gates: an `or` and a choice, and bits that need no clause.
use Rattle.std.proofs.Common.{◌≡◌, ℕ, Bool, not, ◌&&◌, ◌||◌, sym, ap}
use Rattle.std.proofs.Common.{◌∙◌, subst}
use Rattle.std.specs.Prelude.{IfOk, Result, Ok, Err}
use Rattle.std.specs.declared.alloc.AllocError.{AllocError}
use Rattle.jb_run.specs.declared.formula.Formula.{Formula}
use Rattle.jb_run.specs.declared.gates.Bit.{Bit}
use Rattle.jb_run.specs.Bits.{opposite_bit}
use Rattle.jb_run.specs.Clauses.{clauses_of}
use Rattle.jb_run.specs.Satisfies.{bit_value, IsBitBelow, AreClausesBelow}
use Rattle.jb_run.specs.Gate.{Extends, IsGate, AreNamed, both, either, chosen}
use Rattle.jb_run.proofs.DefinitionLemmas.{bit_below_more, extends_refl, extends_then}
use Rattle.jb_run.proofs.GateLemmas.{opposite_value, opposite_below}
use Rattle.jv_list.proofs.TestLemmas.{not_neither, choice_test}

-- a bit that has the value already
pub gate_here : (formula : Formula) (bit : Bit) (value : (ℕ → Bool) → Bool)
    → AreClausesBelow formula.variables (clauses_of formula) → IsBitBelow formula.variables bit
    → ((w : ℕ → Bool) → bit_value w bit ≡ value w) → IsGate formula formula bit value
gate_here formula bit value named below is = record {
  extends = extends_refl formula named;
  shows = record { within = below; is = λ w h. is w };
}

pub opposites_named : (formula : Formula) (a b : Bit) → AreNamed formula a b
    → AreNamed formula (opposite_bit a) (opposite_bit b)
opposites_named formula a b named = record {
  clauses = named.clauses;
  first = opposite_below formula.variables a named.first;
  second = opposite_below formula.variables b named.second;
}

either_is : (a b bit : Bit) (w : ℕ → Bool) → bit_value w bit ≡ both (opposite_bit a) (opposite_bit b) w
    → bit_value w (opposite_bit bit) ≡ either a b w
either_is a b bit w is =
    opposite_value w bit ∙ ap not (is
    ∙ ap (λ (x : Bool). x && bit_value w (opposite_bit b)) (opposite_value w a)
    ∙ ap (λ (x : Bool). not (bit_value w a) && x) (opposite_value w b))
    ∙ not_neither (bit_value w a) (bit_value w b)

pub or_is : (old new : Formula) (a b bit : Bit) → IsGate old new bit (both (opposite_bit a) (opposite_bit b))
    → IsGate old new (opposite_bit bit) (either a b)
or_is old new a b bit gate = record {
  extends = gate.extends;
  shows = record {
    within = opposite_below new.variables bit gate.shows.within;
    is = λ w h. either_is a b bit w (gate.shows.is w h);
  };
}

chosen_is : (choice a b from_a from_b bit : Bit) (w : ℕ → Bool) → bit_value w from_a ≡ both choice a w
    → bit_value w from_b ≡ both (opposite_bit choice) b w → bit_value w bit ≡ either from_a from_b w
    → bit_value w bit ≡ chosen choice a b w
chosen_is choice a b from_a from_b bit w first second is =
    is ∙ ap (λ (x : Bool). x || bit_value w from_b) first
    ∙ ap (λ (x : Bool). (bit_value w choice && bit_value w a) || x) (second
    ∙ ap (λ (x : Bool). x && bit_value w b) (opposite_value w choice))
    ∙ choice_test (bit_value w choice) (bit_value w a) (bit_value w b)

-- the steps of a `mux`, and what the names of each have to be
pub second_named : (f0 f1 : Formula) (choice b : Bit) → Extends f0 f1 → IsBitBelow f0.variables choice
    → IsBitBelow f0.variables b → AreNamed f1 (opposite_bit choice) b
second_named f0 f1 choice b extends below b_below = record {
  clauses = extends.named;
  first = opposite_below f1.variables choice (bit_below_more f0.variables f1.variables choice extends.grows below);
  second = bit_below_more f0.variables f1.variables b extends.grows b_below;
}

pub third_named : (f0 f1 f2 : Formula) (from_a from_b : Bit) (p q : (ℕ → Bool) → Bool) → IsGate f0 f1 from_a p
    → IsGate f1 f2 from_b q → AreNamed f2 from_a from_b
third_named f0 f1 f2 from_a from_b p q first second = record {
  clauses = second.extends.named;
  first = bit_below_more f1.variables f2.variables from_a second.extends.grows first.shows.within;
  second = second.shows.within;
}

pub mux_is : (f0 f1 f2 f3 : Formula) (choice a b from_a from_b bit : Bit) → IsGate f0 f1 from_a (both choice a)
    → IsGate f1 f2 from_b (both (opposite_bit choice) b) → IsGate f2 f3 bit (either from_a from_b)
    → IsGate f0 f3 bit (chosen choice a b)
mux_is f0 f1 f2 f3 choice a b from_a from_b bit first second third = record {
  extends = extends_then f0 f2 f3 (extends_then f0 f1 f2 first.extends second.extends) third.extends;
  shows = record {
    within = third.shows.within;
    is = λ w h.
        let at2 = third.extends.keeps w h in
        let at1 = second.extends.keeps w at2 in
        chosen_is choice a b from_a from_b bit w (first.shows.is w at1) (second.shows.is w at2) (third.shows.is w h);
  };
}

-- an `or` as the opposite of the `and` of the opposites
pub or_of : (old new : Formula) (a b na nb bit out : Bit) → na ≡ opposite_bit a → nb ≡ opposite_bit b
    → out ≡ opposite_bit bit → (AreNamed old na nb → IsGate old new bit (both na nb)) → AreNamed old a b
    → IsGate old new out (either a b)
or_of old new a b na nb bit out ea eb eo gate named =
    let here : AreNamed old na nb =
    subst (λ (x : Bit). AreNamed old x nb) (sym ea) (subst (λ (x : Bit). AreNamed old (opposite_bit a) x) (sym eb)
    (opposites_named old a b named)) in
    let made : IsGate old new bit (both (opposite_bit a) (opposite_bit b)) =
    subst (λ (x : Bit). IsGate old new bit (both (opposite_bit a) x)) eb
    (subst (λ (x : Bit). IsGate old new bit (both x nb)) ea (gate here)) in
    subst (λ (x : Bit). IsGate old new x (either a b)) (sym eo) (or_is old new a b bit made)

-- a `mux` from its two arms
pub mux_of : (f0 f1 f2 f3 : Formula) (choice a b nc from_a from_b : Bit) (out : Result Bit AllocError)
    → nc ≡ opposite_bit choice → (AreNamed f0 choice a → IsGate f0 f1 from_a (both choice a))
    → (AreNamed f1 nc b → IsGate f1 f2 from_b (both nc b))
    → (AreNamed f2 from_a from_b → IfOk out (λ bit. IsGate f2 f3 bit (either from_a from_b))) → AreNamed f0 a b
    → IsBitBelow f0.variables choice → IfOk out (λ bit. IsGate f0 f3 bit (chosen choice a b))
mux_of f0 f1 f2 f3 choice a b nc from_a from_b (Err e) eo first second third named below = tt
mux_of f0 f1 f2 f3 choice a b nc from_a from_b (Ok bit) eo first second third named below =
    let g1 : IsGate f0 f1 from_a (both choice a) =
    first (record { clauses = named.clauses; first = below; second = named.first }) in
    let n2 : AreNamed f1 (opposite_bit choice) b = second_named f0 f1 choice b g1.extends below named.second in
    let g2 : IsGate f1 f2 from_b (both (opposite_bit choice) b) =
    subst (λ (x : Bit). IsGate f1 f2 from_b (both x b)) eo
    (second (subst (λ (x : Bit). AreNamed f1 x b) (sym eo) n2)) in
    mux_is f0 f1 f2 f3 choice a b from_a from_b bit g1 g2
    (third (third_named f0 f1 f2 from_a from_b (both choice a) (both (opposite_bit choice) b) g1 g2))
