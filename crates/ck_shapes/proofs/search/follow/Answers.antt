use Rattle.std.proofs.Common.{arith, ◌∙◌, sym, subst, ap, ℕ, List, length, true≢false}
use Rattle.std.specs.Prelude.{Contains}
use Rattle.std.proofs.lemmas.Option.{MatchOption-at_none, MatchOption-at_some}
use Rattle.ck_shapes.specs.declared.shape.Shape.{Shape}
use Rattle.ck_shapes.specs.declared.way.Way.{Way}
use Rattle.ck_shapes.specs.Rules.{IsLed, MeetsRules}
use Rattle.ck_shapes.specs.Calls.Joins.{KeepsCount}
use Rattle.ck_shapes.specs.Calls.Ways.{IsWay, HasNoWay}
use Rattle.ck_shapes.specs.Calls.Search.{CanStand, AreBelow, Stand, IsSound, Weakens}
use Rattle.ck_shapes.proofs.SearchLemmas.{weakens_trans}
use Rattle.jv_list.proofs.TestLemmas.{at_some}
use Rattle.ck_shapes.proofs.FollowLemmas.{if_stands, if_below, no_rules, rules_can, all_nexts, all_handlers}
use Rattle.ck_shapes.proofs.FollowLemmas.{follow_sound}
use Rattle.ck_shapes.proofs.search.follow.Goals as goal

pub returns-in_default-2-clause-below : goal.returns-in_default-2-clause-below
returns-in_default-2-clause-below c all rules below =
    let flow = c.args.flow.now in
    let shape = c.in-Some.shape.now in
    let none = MatchOption-at_none (HasNoWay flow c.args.pc shape) (IsWay flow c.args.pc shape) c.in_default-2.is
    c.in_ok-way.ensures.way in
    absurd (no_rules flow c.args.pc shape all none rules (below c.args.pc shape (sym c.in-Some.ensures)))

pub lead_all-requires : goal.lead_all-requires
lead_all-requires c =
    let shape = c.in-Some.shape.now in
    at_some c.in_ok-way.field-0 (λ (way : Way). KeepsCount c.args.flow.now.limits shape way.after) c.in-Some-2.way
    c.in_ok-way.ensures.within c.in-Some-2.is
    (c.requires.sound.room c.args.pc shape (sym c.in-Some.ensures)).1

pub returns-then-not-branch-clause-below : goal.returns-then-not-branch-clause-below
returns-then-not-branch-clause-below c all rules below =
    let flow = c.args.flow.now in
    let shape = c.in-Some.shape.now in
    let way = c.in-Some-2.way in
    let is = MatchOption-at_some (HasNoWay flow c.args.pc shape) (IsWay flow c.args.pc shape) way c.in-Some-2.is
    c.in_ok-way.ensures.way in
    let can = rules_can flow c.args.places.now (length c.args.known.now.shapes) all c.requires.places
    c.requires.long rules in
    let led = below c.args.pc shape (sym c.in-Some.ensures) in
    let said = c.in_ok-lead_all.ensures.below all can below
    (λ to h. all_nexts flow c.args.known.now c.args.known.now c.args.known.now c.args.pc shape way is all rules led to
    (subst (λ (l : List ℕ). Contains l to) c.as_slice.ensures h)) in
    absurd (true≢false (sym said.0 ∙ c.if-not-branch.true))

pub lead_all-requires-2 : goal.lead_all-requires-2
lead_all-requires-2 c =
    let flow = c.args.flow.now in
    let shape = c.in-Some.shape.now in
    let way = c.in-Some-2.way in
    let is = MatchOption-at_some (HasNoWay flow c.args.pc shape) (IsWay flow c.args.pc shape) way c.in-Some-2.is
    c.in_ok-way.ensures.way in
    let room = (c.requires.sound.room c.args.pc shape (sym c.in-Some.ensures)).1 in
    omega (arith, room, ap (λ (s : Shape). length s.locals) is.thrown)

pub returns-clause-sound : goal.returns-clause-sound
returns-clause-sound c =
    let flow = c.args.flow.now in
    let old = c.args.known.now in
    let mid = c.lead_all.new.known in
    let new = c.lead_all-2.new.known in
    let shape = c.in-Some.shape.now in
    let way = c.in-Some-2.way in
    let is = MatchOption-at_some (HasNoWay flow c.args.pc shape) (IsWay flow c.args.pc shape) way c.in-Some-2.is
    c.in_ok-way.ensures.way in
    let first : Stand flow.limits old way.nexts way.after mid =
    subst (λ (l : List ℕ). Stand flow.limits old l way.after mid) c.as_slice.ensures
    (c.in_ok-lead_all.ensures.stand c.if-not-branch.false) in
    if_stands c.lead_all-2.result (Stand flow.limits mid c.as_slice-2.result.now way.thrown new)
    (IsSound flow new.shapes new.waiting) c.lead_all-2.ensures.stand
    (λ stand. follow_sound flow old mid new c.args.pc shape way is (sym c.in-Some.ensures) c.requires.sound first
    (subst (λ (l : List ℕ). Stand flow.limits mid l way.thrown new) c.as_slice-2.ensures stand))

pub returns-clause-weakens : goal.returns-clause-weakens
returns-clause-weakens c =
    let limits = c.args.flow.now.limits in
    let old = c.args.known.now in
    let mid = c.lead_all.new.known in
    let new = c.lead_all-2.new.known in
    if_stands c.lead_all-2.result (Stand limits mid c.as_slice-2.result.now c.in-Some-2.way.thrown new)
    (Weakens limits old new) c.lead_all-2.ensures.stand
    (λ stand. weakens_trans limits old mid new (c.in_ok-lead_all.ensures.stand c.if-not-branch.false).weakens
    stand.weakens)

pub returns-clause-below : goal.returns-clause-below
returns-clause-below c =
    let flow = c.args.flow.now in
    let old = c.args.known.now in
    let mid = c.lead_all.new.known in
    let new = c.lead_all-2.new.known in
    let shape = c.in-Some.shape.now in
    let way = c.in-Some-2.way in
    let is = MatchOption-at_some (HasNoWay flow c.args.pc shape) (IsWay flow c.args.pc shape) way c.in-Some-2.is
    c.in_ok-way.ensures.way in
    let first = (c.in_ok-lead_all.ensures.stand c.if-not-branch.false).weakens in
    if_below c.lead_all-2.result (MeetsRules flow) (AreBelow old.shapes) (CanStand flow.limits (length mid.shapes))
    (AreBelow mid.shapes) (λ all. (to : ℕ) → Contains c.as_slice-2.result.now to → IsLed all way.thrown to) new.shapes
    c.lead_all-2.ensures.below
    (λ all rules below.
    let can = rules_can flow c.args.places.now (length old.shapes) all c.requires.places c.requires.long rules in
    let led = below c.args.pc shape (sym c.in-Some.ensures) in
    let said = c.in_ok-lead_all.ensures.below all can below
    (λ to h. all_nexts flow old mid new c.args.pc shape way is all rules led to
    (subst (λ (l : List ℕ). Contains l to) c.as_slice.ensures h)) in (
      subst (λ (n : ℕ). CanStand flow.limits n all) (sym first.long) can,
      said.1,
      λ to h. all_handlers flow old mid new c.args.pc shape way is all rules led to
          (subst (λ (l : List ℕ). Contains l to) c.as_slice-2.ensures h),
    ))
