-- What the printer asks of lines: their inputs are ints. It follows from their verdicts being true of a thin method.
use Rattle.std.specs.Prelude.{List, All}
use Rattle.jb_run.specs.declared.report.Verdict.{Verdict}
use Rattle.jb_run.specs.declared.report.Verdict.TheVariants.{Success, Failure}
use Rattle.jb_run.specs.declared.report.Line.{Line}
use Rattle.jb_run.specs.declared.report.Answer.{Answer}
use Rattle.jb_run.specs.declared.report.Answer.TheVariants.{Decided}
use Rattle.jb_run.specs.Inputs.{IsIntTree}

-- a verdict whose input is a list of ints, where it has one
abbrev pub IsIntVerdict : Verdict → Type 0
IsIntVerdict Success = Unit {0}
IsIntVerdict (Failure input) = All IsIntTree input.args

-- and so is the verdict of each line
abbrev pub AreIntLines : List Line → Type 0
AreIntLines lines = All (λ line. IsIntVerdict line.verdict) lines

-- and so are the lines of an answer that has some
abbrev pub HasIntLines : Answer → Type 0
HasIntLines (Decided load lines) = AreIntLines lines
HasIntLines answer = Unit {0}
