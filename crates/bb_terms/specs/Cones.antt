-- The terms that a term depends on.
use Rattle.std.specs.Prelude.{◌≡◌, ◌⊎◌, ℕ, List, slice_get, Option, Some}
use Rattle.cn_clauses.specs.declared.lit.Lit.{Lit}
use Rattle.tm_terms.specs.declared.op.Op.{Op}
use Rattle.tm_terms.specs.declared.op.Operands.{Operands}
use Rattle.tm_terms.specs.declared.op.Operands.TheVariants.{Nothing, One, Two, Three}
use Rattle.tm_terms.specs.Operations.{operands_of}
use Rattle.bb_terms.specs.Tables.{HasWord}

-- the place is that of an operand
abbrev pub IsOperand : ℕ → Operands → Type 0
IsOperand j Nothing = ⊥
IsOperand j (One a) = j ≡ a.0
IsOperand j (Two a b) = (j ≡ a.0) ⊎ (j ≡ b.0)
IsOperand j (Three a b c) = (j ≡ a.0) ⊎ ((j ≡ b.0) ⊎ (j ≡ c.0))

-- the terms of the cone of a term: it, and the operands of what is in the cone
pub data InCone (ops : List Op) (id : ℕ) : ℕ → Type 0 where
  Top : InCone ops id id
  Operand : (k j : ℕ) (op : Op) → InCone ops id k → slice_get ops k ≡ Some op → IsOperand j (operands_of op)
      → InCone ops id j

-- the new table has words of the old one and of terms of the cone, and no others
abbrev pub GetsCone : List Op → ℕ → List (Option (List Lit)) → List (Option (List Lit)) → Type 0
GetsCone ops id from to = (j : ℕ) (lits : List Lit) → HasWord to j lits → HasWord from j lits ⊎ InCone ops id j
