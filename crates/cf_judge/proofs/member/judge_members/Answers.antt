use Rattle.std.proofs.Common.{◌≡◌, ℕ, ◌+◌, List, [], ◌∷◌, ◌++◌, map, take, ap, ◌∙◌, arith}
use Rattle.std.proofs.lemmas.List.{map_push}
use Rattle.std.proofs.lemmas.Result.{err_from_is_err_and}
use Rattle.cf_structure.specs.declared.member.MemberPart.{MemberPart}
use Rattle.cf_structure.specs.Spelled.{member_text}
use Rattle.cf_structure.specs.Views.{member_of}
use Rattle.cf_judge.specs.declared.member.MemberKind.{MemberKind}
use Rattle.cf_judge.specs.Demands.{Demand, member_demands}
use Rattle.jv_list.proofs.EachLemmas.{one_of, text_of}
use Rattle.cf_judge.proofs.LoopLemmas.{none_done, one_fits, one_more, stops, all_done}
use Rattle.cf_judge.proofs.LoopLemmas.{mapped_done, mapped_end, mapped_stops}
use Rattle.cf_judge.proofs.KeyLemmas.{none_seen}
use Rattle.cf_judge.proofs.member.judge_members.Goals as goal
use Rattle.jv_list.proofs.PlaceLemmas.{take_with}

abbrev one : MemberKind → List MemberPart → ℕ → MemberPart → List Demand
one kind = one_of member_of (member_demands kind)

abbrev text : MemberPart → List ℕ
text = text_of member_of member_text

pub loop-member-init : goal.loop-member-init
loop-member-init c = record {
  done = none_done c.args.pool.now (one c.args.kind) text c.args.start c.args.members.now;
  seen = none_seen c.args.pool.now c.new-seen.result c.new-seen.ensures.empty;
}

pub judge_member-requires-clause-fits : goal.judge_member-requires-clause-fits
judge_member-requires-clause-fits c =
    let l = c.loop-member in
    let fits = one_fits c.args.pool.now (one c.args.kind) text c.args.start c.args.members.now l.member-index l.place
    c.member-item.result c.loop-member-test.true c.member-item.is l.invariant.done in
    omega (
      arith,
      mapped_end member_of c.args.pool.now (member_demands c.args.kind) member_text c.args.start c.args.members.now,
      c.requires.fits,
      fits,
    )

pub returns-in_err-place : goal.returns-in_err-place
returns-in_err-place c =
    let l = c.loop-member in
    let earlier = map member_of (take l.member-index c.args.members.now) in
    let second = c.in_ok-is_second.ensures.second earlier l.invariant.seen in
    let p = err_from_is_err_and c.from_residual-in_err-place.result c.from_residual-in_err-place.ensures.1 in
    let stop = stops c.args.pool.now (one c.args.kind) text c.args.start c.args.members.now l.member-index l.place
    c.member-item.result c.loop-member-test.true c.member-item.is l.invariant.done c.in_err-place.field-0.0
    (c.in_err-place.ensures earlier second) in
    rw (p.1, p.2)
    (mapped_stops member_of c.args.pool.now (member_demands c.args.kind) member_text c.args.start c.args.members.now
    c.in_err-place.field-0.0 stop)

pub loop-member-preserved : goal.loop-member-preserved
loop-member-preserved c =
    let l = c.loop-member in
    let xs = c.args.members.now in
    let x = c.member-item.result in
    let earlier = map member_of (take l.member-index xs) in
    let second = c.in_ok-is_second.ensures.second earlier l.invariant.seen in
    let more : map member_of (take (l.member-index + 1) xs) ≡ earlier ++ member_of x ∷ [] =
    ap (map member_of) (take_with xs l.member-index x c.loop-member-test.true c.member-item.is)
    ∙ map_push member_of (take l.member-index xs) x in
    record {
      done = one_more c.args.pool.now (one c.args.kind) text c.args.start xs l.member-index l.place x
          c.loop-member-test.true c.member-item.is l.invariant.done c.in_ok-place.place
          (c.in_ok-place.ensures earlier second);
      seen = rw more (c.in_ok-is_second.ensures.seen earlier l.invariant.seen);
    }

pub returns : goal.returns
returns c =
    let l = c.loop-member in
    mapped_done member_of c.args.pool.now (member_demands c.args.kind) member_text c.args.start c.args.members.now
    l.place
    (all_done c.args.pool.now (one c.args.kind) text c.args.start c.args.members.now l.member-index l.place
    c.loop-member-test.false l.invariant.done)
