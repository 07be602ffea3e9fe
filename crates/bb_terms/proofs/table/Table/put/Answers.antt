use Rattle.bb_terms.proofs.TableLemmas.{puts_word}
use Rattle.bb_terms.proofs.table.Table.put.Goals as goal

pub returns-clause-word : goal.returns-clause-word
returns-clause-word c =
    puts_word c.args.self.now c.set.new.self c.args.place c.args.lits c.requires.room c.requires.none
    (rw c.self.view_is at c.set.ensures)
