-- What is left has the first member.
use Rattle.std.proofs.Common.{◌≡◌, drop}
use Rattle.cf_class.specs.Members.{member_in}
use Rattle.cf_class.proofs.declared.member_in.Given as goal

abbrev pub invariant-loop-member : goal.invariant-loop-member
invariant-loop-member l =
    member_in l.name l.desc (drop l.member-index l.members) ≡ member_in l.name l.desc l.members
