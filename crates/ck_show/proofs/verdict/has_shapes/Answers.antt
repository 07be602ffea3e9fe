use Rattle.ck_show.proofs.verdict.has_shapes.Goals.{in-Ok, in-Err-BadCode, in-Err-NoMemory}
use Rattle.ck_show.proofs.verdict.has_shapes.Goals as goal

pub returns-clause-no : goal.returns-clause-no
returns-clause-no c = elim c.match-check_shapes.branch [
  | in-Ok w ↦ rw w.result-is (λ e. absurd (cc (e)))
  | in-Err-BadCode w ↦ rw w.result-is (λ e. w.in-Err-BadCode.ensures.bad_code w.in-Err-BadCode.field-0-is)
  | in-Err-NoMemory w ↦ rw w.result-is tt
]
