-- No two rows have one class, name and descriptor.
use Rattle.lib_rows.proofs.TableLemmas.{one_row}
use Rattle.lib_rows.proofs.laws.one_row.Goals as goal

pub returns : goal.returns
returns c = one_row
