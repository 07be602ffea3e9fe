use Rattle.std.proofs.Common.{◌≡◌, ◌-◌, map, length, ◌≤◌}
use Rattle.cf_structure.specs.Structure.{many_at, inner_at}
use Rattle.cf_structure.specs.Views.{skipped_of}
use Rattle.cf_structure.proofs.LoopLemmas.{with_front}
use Rattle.cf_structure.proofs.code.read_inner_list.Given as goal

abbrev pub invariant-loop : goal.invariant-loop
invariant-loop l = record {
  within : length l.rest ≤ length l.bytes;
  reads : with_front (map skipped_of l.attributes)
      (many_at (inner_at l.holder l.behind) (l.count - l.counter) l.rest) ≡ many_at (inner_at l.holder l.behind) l.count
      l.bytes;
}
