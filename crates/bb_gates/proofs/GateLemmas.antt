-- Gates by way of others.
use Rattle.std.proofs.Common.{◌≡◌, ℕ, Bool, not, Result, Ok, Err, IfOk, ap, ◌∙◌, arith}
use Rattle.cn_clauses.specs.declared.lit.Lit.{Lit}
use Rattle.cn_clauses.specs.declared.formula.Formula.{Formula}
use Rattle.cn_clauses.specs.Literals.{variable_of, lit_value}
use Rattle.cn_clauses.specs.Satisfaction.{Satisfies}
use Rattle.cn_clauses.specs.Formulas.{clauses_of}
use Rattle.cn_clauses.specs.Extension.{IsGate}

-- a gate has each value that is the same wherever the older formula is satisfied
pub gate_same : (old new : Formula) (lit : Lit) (value other : (ℕ → Bool) → Bool) → IsGate old new lit value
    → ((w : ℕ → Bool) → Satisfies w (clauses_of old) → value w ≡ other w) → IsGate old new lit other
gate_same old new lit value other gate same = record {
  extends = gate.extends;
  shows = record {
    within = gate.shows.within;
    is = λ w h. gate.shows.is w h ∙ same w (gate.extends.keeps w h);
  };
}

-- the opposite of a gate's literal
pub gate_opposite : (old new : Formula) (lit opposite : Lit) (value other : (ℕ → Bool) → Bool)
    → IsGate old new lit value → variable_of opposite ≡ variable_of lit
    → ((w : ℕ → Bool) → lit_value w opposite ≡ not (lit_value w lit))
    → ((w : ℕ → Bool) → Satisfies w (clauses_of old) → not (value w) ≡ other w) → IsGate old new opposite other
gate_opposite old new lit opposite value other gate variable turned same = record {
  extends = gate.extends;
  shows = record {
    within = let below = gate.shows.within in omega (arith, below, variable);
    is = λ w h. turned w ∙ ap not (gate.shows.is w h) ∙ same w (gate.extends.keeps w h);
  };
}

-- the same of an answer that may be a refusal
pub made_same : {E : Type 0} (r : Result Lit E) (old new : Formula) (value other : (ℕ → Bool) → Bool)
    → IfOk r (λ lit. IsGate old new lit value)
    → ((w : ℕ → Bool) → Satisfies w (clauses_of old) → value w ≡ other w) → IfOk r (λ lit. IsGate old new lit other)
made_same (Ok lit) old new value other gate same = gate_same old new lit value other gate same
made_same (Err e) old new value other gate same = tt
