use Rattle.std.proofs.Common.{◌≡◌, ◌-◌, map}
use Rattle.cf_structure.specs.Structure.{many_at, member_at}
use Rattle.cf_structure.specs.Views.{member_of}
use Rattle.cf_structure.proofs.LoopLemmas.{with_front}
use Rattle.cf_structure.proofs.member.read_member_list.Given as goal

abbrev pub invariant-loop : goal.invariant-loop
invariant-loop l =
    with_front (map member_of l.members)
    (many_at (member_at l.place l.pool) (l.count - l.counter) l.rest) ≡ many_at (member_at l.place l.pool) l.count
    l.bytes
