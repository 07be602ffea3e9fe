use Rattle.std.proofs.Common.{◌≡◌, ◌++◌, take}
use Rattle.std.specs.List.{flat_map}
use Rattle.cf_write.specs.Calls.Texts.{member_text}
use Rattle.cf_write.proofs.member.put_member_list.Given as goal

abbrev pub invariant-loop-member : goal.invariant-loop-member
invariant-loop-member l = l.out ≡ l.fn.out ++ flat_map member_text (take l.member-index l.members)
