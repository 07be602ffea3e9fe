-- The sites of a thin method: the instructions that can raise a fault, each with the kinds of its faults.
use Rattle.std.specs.Prelude.{◌≡◌, ℕ, List, [], ◌∷◌, length, map, Option, Some, None}
use Rattle.std.specs.List.{flat_map}
use Rattle.jv_base.specs.declared.method.MethodId.{MethodId}
use Rattle.jv_base.specs.declared.method.Goal.{Goal}
use Rattle.jv_base.specs.declared.method.Kind.{Kind}
use Rattle.jv_base.specs.declared.method.Kind.TheVariants.{Null, Assert}
use Rattle.cf_thin.specs.declared.instr.ThinInstr.{ThinInstr}
use Rattle.cf_thin.specs.declared.instr.ThinInstr.TheVariants.{Athrow}
use Rattle.cf_thin.specs.Instr.{Places, instr_at}

-- the pcs of the instructions from one pc to another, one after the other (JVM Specification SE 8, 4.9.1)
abbrev pub Walk : Places → ℕ → List ℕ → ℕ → Type 0
Walk code from [] to = from ≡ to
Walk code from (pc ∷ pcs) to =
    (from ≡ pc) × (instr : ThinInstr) × (next : ℕ) × (instr_at code pc ≡ Some (instr, next)) × Walk code next pcs to

abbrev pub goal_at : MethodId → ℕ → Kind → Goal
goal_at method pc kind = record { site = record { method = method; pc = pc }; kind = kind }

-- what an instruction of thin code can raise: athrow the null reference, or a failed assertion (6.5, athrow)
abbrev pub kinds_of : ThinInstr → List Kind
kinds_of Athrow = Null ∷ Assert ∷ []
kinds_of instr = []

-- the goals of an instruction at a pc, in the order of the kinds
abbrev pub goals_of : MethodId → ℕ → ThinInstr → List Goal
goals_of method pc instr = map (goal_at method pc) (kinds_of instr)

abbrev pub goals_of_found : MethodId → ℕ → Option (ThinInstr × ℕ) → List Goal
goals_of_found method pc None = []
goals_of_found method pc (Some found) = goals_of method pc found.0

-- the goals of the instruction that stands at a pc of the code
unfoldable pub goals_at : MethodId → Places → ℕ → List Goal
goals_at method code pc = goals_of_found method pc (instr_at code pc)

-- the goals of all instructions, in the order of their pcs
pub record IsSites (method : MethodId) (code : Places) (goals : List Goal) : Type 0 where
  pub pcs : List ℕ
  pub walk : Walk code 0 pcs (length code)
  pub goals_are : goals ≡ flat_map (goals_at method code) pcs
