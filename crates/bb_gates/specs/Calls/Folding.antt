-- What the private functions of folding ensure: how two literals stand to each other.
use Rattle.std.specs.Prelude.{◌≡◌, ℕ, Bool, true, not}
use Rattle.cn_clauses.specs.declared.lit.Lit.{Lit}
use Rattle.cn_clauses.specs.declared.formula.Formula.{Formula}
use Rattle.cn_clauses.specs.Literals.{lit_value}
use Rattle.cn_clauses.specs.Satisfaction.{Satisfies}
use Rattle.cn_clauses.specs.Formulas.{clauses_of}
use Rattle.bb_gates.specs.declared.relation.Relation.{Relation}
use Rattle.bb_gates.specs.declared.relation.Relation.TheVariants.{Equal, Opposite, FirstIs, SecondIs, Free}
use Rattle.bb_gates.specs.Growth.{AreFolded}

-- the literal has the value under each assignment that satisfies the formula
abbrev pub HasValue : Formula → Lit → Bool → Type 0
HasValue formula lit value = (w : ℕ → Bool) → Satisfies w (clauses_of formula) → lit_value w lit ≡ value

-- how the two literals stand to each other
abbrev pub IsRelation : Formula → Lit → Lit → Relation → Type 0
IsRelation formula a b Equal = a ≡ b
IsRelation formula a b Opposite = (w : ℕ → Bool) → lit_value w a ≡ not (lit_value w b)
IsRelation formula a b (FirstIs value) = HasValue formula a value
IsRelation formula a b (SecondIs value) = HasValue formula b value
IsRelation formula a b Free = AreFolded formula a b → ⊥

-- the literal has the value wherever the choice is true
abbrev pub IsArm : Formula → Lit → Lit → Bool → Type 0
IsArm formula choice lit value =
    (w : ℕ → Bool) → Satisfies w (clauses_of formula) → lit_value w choice ≡ true → lit_value w lit ≡ value
