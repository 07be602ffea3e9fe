use Rattle.cf_thin.proofs.SweepLemmas.{aimed_iff}
use Rattle.cf_thin.proofs.starts.is_aimed.Goals as goal

pub returns-in-Some-target_of_instr : goal.returns-in-Some-target_of_instr
returns-in-Some-target_of_instr c =
    aimed_iff c.args.code.now c.args.starts.now c.args.pc c.in-Some.field-0-1 c.in-Some-target_of_instr.target
    c.in-Some.instr c.begins_at.result c.requires.starts c.in-Some.ensures.value c.in-Some-target_of_instr.ensures
    c.begins_at.ensures
