use Rattle.std.proofs.Common.{◌≡◌, ◌-◌, map}
use Rattle.cf_structure.specs.Structure.{many_at, attribute_at}
use Rattle.cf_structure.specs.Views.{attribute_of}
use Rattle.cf_structure.proofs.LoopLemmas.{with_front}
use Rattle.cf_structure.proofs.attribute.read_attribute_list.Given as goal

abbrev pub invariant-loop : goal.invariant-loop
invariant-loop l =
    with_front (map attribute_of l.attributes)
    (many_at (attribute_at l.place l.pool) (l.count - l.counter) l.rest) ≡ many_at (attribute_at l.place l.pool)
    l.count l.bytes
