use Rattle.std.proofs.Common.{◌≡◌, ◌-◌}
use Rattle.std.specs.Int.{w16}
use Rattle.cf_structure.specs.Structure.{many_at, at_end, number_at}
use Rattle.cf_structure.proofs.LoopLemmas.{with_front}
use Rattle.cf_structure.proofs.class_file.read_index_list.Given as goal

abbrev pub invariant-loop : goal.invariant-loop
invariant-loop l =
    with_front (l.indices)
    (many_at (number_at at_end w16) (l.count - l.counter) l.rest) ≡ many_at (number_at at_end w16) l.count l.bytes
