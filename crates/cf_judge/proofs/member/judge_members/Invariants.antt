use Rattle.std.proofs.Common.{map, take}
use Rattle.cf_structure.specs.Spelled.{member_text}
use Rattle.cf_structure.specs.Views.{member_of}
use Rattle.cf_judge.specs.Demands.{member_demands}
use Rattle.cf_judge.specs.Calls.Keys.{AreSeen}
use Rattle.jv_list.proofs.EachLemmas.{one_of, text_of}
use Rattle.cf_judge.proofs.LoopLemmas.{IsDone}
use Rattle.cf_judge.proofs.member.judge_members.Given as goal

abbrev pub invariant-loop-member : goal.invariant-loop-member
invariant-loop-member l = record {
  done : IsDone l.pool (one_of member_of (member_demands l.kind)) (text_of member_of member_text) l.start l.members
      l.member-index l.place;
  seen : AreSeen l.pool (map member_of (take l.member-index l.members)) l.seen;
}
