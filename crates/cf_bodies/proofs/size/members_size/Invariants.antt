use Rattle.std.proofs.Common.{◌≡◌, length, take, map}
use Rattle.std.specs.List.{flat_map}
use Rattle.cf_structure.specs.Spelled.{member_text}
use Rattle.cf_structure.specs.Views.{member_of}
use Rattle.cf_bodies.proofs.size.members_size.Given as goal

abbrev pub invariant-loop-member : goal.invariant-loop-member
invariant-loop-member l = l.size ≡ length (flat_map member_text (map member_of (take l.member-index l.members)))
