use Rattle.std.proofs.Common.{◌≡◌, ◌-◌, ◌≤◌, length}
use Rattle.cf_structure.specs.Structure.{many_at, row_at}
use Rattle.cf_structure.proofs.LoopLemmas.{with_front}
use Rattle.cf_structure.proofs.code.read_row_list.Given as goal

abbrev pub invariant-loop : goal.invariant-loop
invariant-loop l = record {
  within : length l.rest ≤ length l.bytes;
  reads : with_front (l.rows) (many_at (row_at l.holder) (l.count - l.counter) l.rest) ≡ many_at (row_at l.holder)
      l.count l.bytes;
}
