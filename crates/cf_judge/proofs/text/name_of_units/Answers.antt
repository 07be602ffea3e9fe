use Rattle.std.proofs.Common.{sym, ◌∙◌}
use Rattle.cf_judge.proofs.FormLemmas.{paired_name, no_name}
use Rattle.cf_judge.proofs.text.name_of_units.Goals as goal

pub returns-in-Ok-clause-found : goal.returns-in-Ok-clause-found
returns-in-Ok-clause-found c =
    let h = rw c.in-Ok.is at c.in_ok-text.ensures in
    paired_name c.args.units.now c.from_string.result (sym h.unpaired) (c.from_string.ensures ∙ h.chars)

pub returns-in-Err-clause-none : goal.returns-in-Err-clause-none
returns-in-Err-clause-none c = λ name is.
    let h = rw c.in-Err.is at c.in_ok-text.ensures in
    no_name c.args.units.now name (sym h.unpaired) is
