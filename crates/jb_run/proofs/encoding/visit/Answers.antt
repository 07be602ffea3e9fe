use Rattle.std.proofs.Common.{sym, ◌∙◌}
use Rattle.jb_run.proofs.RunLemmas.{encoded_some, never_missing}
use Rattle.std.proofs.lemmas.Result.{on_ok_weaker}
use Rattle.jb_run.proofs.encoding.visit.Goals as goal

pub returns-in_default-thin_instr_at : goal.returns-in_default-thin_instr_at
returns-in_default-thin_instr_at c limits shapes first inputs rules encoded =
    absurd (never_missing _ limits shapes first inputs _ _ c.in-Some.frame rules encoded c.in-Some.ensures.taken.0
    (sym c.thin_instr_at.ensures.value ∙ c.in_default-thin_instr_at.is))

pub returns : goal.returns
returns c =
    on_ok_weaker c.execute.result
    (λ executes limits shapes first inputs rules encoded.
    let at = sym c.thin_instr_at.ensures.value ∙ c.in-Some-thin_instr_at.is in
    encoded_some _ limits shapes first inputs _ _ _ _ c.in-Some.frame _ _ rules encoded c.in-Some.ensures.taken.1
    c.in-Some.ensures.taken.0 at (c.go_forward.ensures _ _ _ _ at) executes)
    c.execute.ensures
