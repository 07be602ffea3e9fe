-- What the private functions that mark a cone ensure.
use Rattle.std.specs.Prelude.{◌≡◌, ◌≤◌, ◌+◌, ◌⊎◌, ℕ, Bool, true, List, length, slice_get, Option, Some}
use Rattle.cn_clauses.specs.declared.lit.Lit.{Lit}
use Rattle.tm_terms.specs.declared.op.Op.{Op}
use Rattle.tm_terms.specs.declared.op.Operands.{Operands}
use Rattle.tm_terms.specs.Operations.{operands_of}
use Rattle.bb_terms.specs.Tables.{HasWord, HasSome}
use Rattle.bb_terms.specs.Cones.{IsOperand, InCone}

-- a place is marked
abbrev pub IsMarked : List Bool → ℕ → Type 0
IsMarked marks j = slice_get marks j ≡ Some true

-- each operand is marked
abbrev pub AreMarked : List Bool → Operands → Type 0
AreMarked marks operands = (j : ℕ) → IsOperand j operands → IsMarked marks j

-- the places that are told by a rule were marked, and no others
pub record Marks (old new : List Bool) (Is : ℕ → Type 0) : Type 0 where
  pub even : length new ≡ length old
  pub kept : (j : ℕ) → IsMarked old j → IsMarked new j
  pub all : (j : ℕ) → Is j → IsMarked new j
  pub only : (j : ℕ) → IsMarked new j → IsMarked old j ⊎ Is j

-- from a place on, the operands of each marked place without a word are marked; all that is marked is in the cone
pub record IsClosedFrom (ops : List Op) (words : List (Option (List Lit))) (id from : ℕ) (marks : List Bool) : Type 0 where
  pub even : length marks ≡ id + 1
  pub top : IsMarked marks id
  pub closed : (k : ℕ) (op : Op) → from ≤ k → IsMarked marks k → (HasSome words k → ⊥) → slice_get ops k ≡ Some op
      → AreMarked marks (operands_of op)
  pub cone : (k : ℕ) → IsMarked marks k → InCone ops id k

-- no places but marked ones got a word
abbrev pub GetsMarked : List Bool → List (Option (List Lit)) → List (Option (List Lit)) → Type 0
GetsMarked marks from to = (j : ℕ) (lits : List Lit) → HasWord to j lits → HasWord from j lits ⊎ IsMarked marks j
