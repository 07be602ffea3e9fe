-- What the private functions of three operands ensure.
use Rattle.std.specs.Prelude.{◌≡◌, ℕ, Bool, not, [], ◌∷◌, if◌then◌else◌}
use Rattle.cn_clauses.specs.declared.lit.Lit.{Lit}
use Rattle.cn_clauses.specs.declared.formula.Formula.{Formula}
use Rattle.cn_clauses.specs.Literals.{lit_value}
use Rattle.cn_clauses.specs.Satisfaction.{Satisfies, IsClauseBelow}
use Rattle.cn_clauses.specs.Formulas.{clauses_of}
use Rattle.bb_gates.specs.declared.triple.Pair.{Pair}
use Rattle.bb_gates.specs.declared.triple.Rest.{Rest}
use Rattle.bb_gates.specs.Values.{parity, majority, of_three}

-- of the three, two are equal or opposite
pub record IsPair (a b c : Lit) (pair : Pair) : Type 0 where
  pub within : (n : ℕ) → IsClauseBelow n (a ∷ b ∷ c ∷ []) → IsClauseBelow n (pair.one ∷ pair.other ∷ [])
  pub sum : (w : ℕ → Bool)
      → of_three parity a b c w ≡ (if pair.equal then lit_value w pair.other else not (lit_value w pair.other))
  pub carry : (w : ℕ → Bool)
      → of_three majority a b c w ≡ (if pair.equal then lit_value w pair.one else lit_value w pair.other)

-- of the three, one has a value under each assignment that satisfies the formula
pub record IsRest (formula : Formula) (a b c : Lit) (rest : Rest) : Type 0 where
  pub within : (n : ℕ) → IsClauseBelow n (a ∷ b ∷ c ∷ []) → IsClauseBelow n (rest.x ∷ rest.y ∷ [])
  pub sum : (w : ℕ → Bool) → Satisfies w (clauses_of formula)
      → of_three parity a b c w ≡ parity rest.value (lit_value w rest.x) (lit_value w rest.y)
  pub carry : (w : ℕ → Bool) → Satisfies w (clauses_of formula)
      → of_three majority a b c w ≡ majority rest.value (lit_value w rest.x) (lit_value w rest.y)
