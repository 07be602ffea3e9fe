-- Lines whose verdicts are true of a thin method have inputs of ints.
use Rattle.cf_thin.specs.Instr.{Places}
use Rattle.std.proofs.Common.{ℕ, List, Option}
use Rattle.std.proofs.lemmas.List.Elements.{All-weaker}
use Rattle.io_edges.specs.declared.folder.File.{File}
use Rattle.jv_base.specs.declared.method.Bounds.{Bounds}
use Rattle.jv_base.specs.declared.method.Kind.{Kind}
use Rattle.jv_base.specs.declared.method.MethodId.{MethodId}
use Rattle.jb_run.specs.declared.report.Line.{Line}
use Rattle.jb_run.specs.declared.report.Answer.{Answer}
use Rattle.jb_run.specs.declared.report.Answer.TheVariants.{Usage, ReadFault, NoMemory, Refused, Decided}
use Rattle.jb_run.specs.declared.report.Verdict.{Verdict}
use Rattle.jb_run.specs.declared.report.Verdict.TheVariants.{Success, Failure}
use Rattle.jb_run.specs.Cause.{Cause}
use Rattle.jb_run.specs.IntLines.{IsIntVerdict, AreIntLines, HasIntLines}
use Rattle.jb_run.specs.Justified.{IsJustified, IsJustifiedLine, AreJustified}
use Rattle.jb_run.proofs.InputLemmas.{ints_are}

verdict_ints : (bounds : Bounds) (code : Places) (method : MethodId) (pc : ℕ) (kind : Kind) (verdict : Verdict) →
    IsJustified bounds code method pc kind verdict → IsIntVerdict verdict
verdict_ints bounds code method pc kind Success is = tt
verdict_ints bounds code method pc kind (Failure input) is = ints_are input.args is.0.ints is.0.args

lines_ints : (bounds : Bounds) (code : Places) (method : MethodId) (lines : List Line)
    → AreJustified bounds code method lines
    → AreIntLines lines
lines_ints bounds code method lines are =
    All-weaker (IsJustifiedLine bounds code method) (λ (line : Line). IsIntVerdict line.verdict)
    (λ line is. verdict_ints bounds code method line.goal.site.pc line.goal.kind line.verdict is) lines are

-- the lines of an answer with its cause have inputs of ints
pub cause_ints : (told : Option (List File)) (words : List (List ℕ)) (answer : Answer) → Cause told words answer
    → HasIntLines answer
cause_ints told words Usage cause = tt
cause_ints told words ReadFault cause = tt
cause_ints told words NoMemory cause = tt
cause_ints told words (Refused load refusals) cause = tt
cause_ints told words (Decided load lines) cause =
    let v = cause.verdicts in
    lines_ints load.command.bounds v.method.code load.command.entry lines v.justified
