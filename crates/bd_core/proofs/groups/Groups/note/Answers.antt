-- A list more in its group.
use Rattle.std.proofs.Common.{arith}
use Rattle.std.proofs.lemmas.Grind.{text_groups}
use Rattle.bd_core.proofs.groups.Groups.note.Goals as goal

pub returns-in_ok-push-in-Under-clause-under : goal.returns-in_ok-push-in-Under-clause-under
returns-in_ok-push-in-Under-clause-under c = grind (arith, text_groups)

pub returns-in_ok-push-in-Called-clause-called : goal.returns-in_ok-push-in-Called-clause-called
returns-in_ok-push-in-Called-clause-called c = grind (arith, text_groups)
