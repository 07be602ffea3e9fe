use Rattle.cl_words.proofs.LawLemmas.{one_command_by}
use Rattle.cl_words.proofs.laws.one_command.Goals as goal

pub returns : goal.returns
returns c = one_command_by c.one_entry.ensures c.one_site.ensures
