-- Which verdicts are true of a method: SUCCESS where no input violates the goal within the bounds, FAILURE where its input does.
use Rattle.cf_thin.specs.Instr.{Places}
use Rattle.std.specs.Prelude.{ℕ, List, All}
use Rattle.jv_base.specs.declared.input.Input.{Input}
use Rattle.jv_base.specs.declared.method.Bounds.{Bounds}
use Rattle.jv_base.specs.declared.method.Kind.{Kind}
use Rattle.jv_base.specs.declared.method.MethodId.{MethodId}
use Rattle.jb_run.specs.declared.report.Line.{Line}
use Rattle.jb_run.specs.declared.report.Verdict.{Verdict}
use Rattle.jb_run.specs.declared.report.Verdict.TheVariants.{Success, Failure}
use Rattle.jb_run.specs.Violates.{IsInput, Violates}

-- the verdict for a kind at a pc of the method with this code
abbrev pub IsJustified : Bounds → Places → MethodId → ℕ → Kind → Verdict → Type 0
IsJustified bounds code method pc kind Success =
    (input : Input) → IsInput method input → Violates bounds code input pc kind → ⊥
IsJustified bounds code method pc kind (Failure input) = IsInput method input × Violates bounds code input pc kind

-- the verdict of a line
abbrev pub IsJustifiedLine : Bounds → Places → MethodId → Line → Type 0
IsJustifiedLine bounds code method line = IsJustified bounds code method line.goal.site.pc line.goal.kind line.verdict

-- the verdict of each line
abbrev pub AreJustified : Bounds → Places → MethodId → List Line → Type 0
AreJustified bounds code method lines = All (IsJustifiedLine bounds code method) lines
