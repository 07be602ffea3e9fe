use Rattle.cf_code.specs.contracts.code.PlacedEq.TheImpl.Laws as placed_eq
use Rattle.cf_code.specs.contracts.instr.InstrEq.TheImpl.Laws as instr_eq
use Rattle.cf_code.specs.contracts.transfer.RowEq.TheImpl.Laws as row_eq
use Rattle.cf_code.proofs.SameInstrLemmas.{same_instr, same_placed, same_row, equal_same}
use Rattle.cf_code.proofs.laws.equality.Goals as goal

pub returns-clause-instr : goal.returns-clause-instr
returns-clause-instr c = λ x y. (same_instr x y, equal_same instr_eq.laws-law x y)

pub returns-clause-placed : goal.returns-clause-placed
returns-clause-placed c = λ x y. (same_placed x y, equal_same placed_eq.laws-law x y)

pub returns-clause-row : goal.returns-clause-row
returns-clause-row c = λ x y. (same_row x y, equal_same row_eq.laws-law x y)
