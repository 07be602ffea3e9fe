-- Words: literals for the bits of a number, the lowest first.
use Rattle.std.specs.Prelude.{◌≡◌, ◌+◌, ◌*◌, ℕ, ℤ, Bool, List, [], ◌∷◌, length}
use Rattle.jv_list.specs.Numbers.{bit_number, signed_number}
use Rattle.cn_clauses.specs.declared.lit.Lit.{Lit}
use Rattle.cn_clauses.specs.declared.formula.Formula.{Formula}
use Rattle.cn_clauses.specs.Literals.{lit_value}
use Rattle.cn_clauses.specs.Satisfaction.{Satisfies}
use Rattle.cn_clauses.specs.Formulas.{clauses_of}
use Rattle.cn_clauses.specs.Extension.{Extends}
use Rattle.bb_gates.specs.Growth.{AreOf}

-- the number that a word shows under an assignment
abbrev pub number_of : (ℕ → Bool) → List Lit → ℕ
number_of w [] = 0
number_of w (lit ∷ lits) = bit_number (lit_value w lit) + 2 * number_of w lits

-- the signed number that a word shows under an assignment
abbrev pub signed_of : (ℕ → Bool) → List Lit → ℤ
signed_of w lits = signed_number (length lits) (number_of w lits)

-- a word for a number: it shows the number, and the formula was extended in exactly one way
pub record IsWordGate (old new : Formula) (lits : List Lit) (value : (ℕ → Bool) → ℕ) : Type 0 where
  pub extends : Extends old new
  pub within : AreOf new lits
  pub is : (w : ℕ → Bool) → Satisfies w (clauses_of new) → number_of w lits ≡ value w
