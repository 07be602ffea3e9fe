use Rattle.std.proofs.Common.{arith, ◌≡◌, ◌∙◌, sym, subst, ap, List, length, true≢false}
use Rattle.std.proofs.lemmas.List.{length-replicate}
use Rattle.ck_shapes.specs.declared.flow.Step.{Step}
use Rattle.ck_shapes.specs.Calls.Places.{ArePlaces}
use Rattle.ck_shapes.proofs.SearchLemmas.{lead_stands, lead_below}
use Rattle.ck_shapes.proofs.FollowLemmas.{rules_can, nothing_below, start_sound}
use Rattle.ck_shapes.proofs.find.find_shapes.Goals as goal

pub returns-then-not-branch : goal.returns-then-not-branch
returns-then-not-branch c all rules =
    let flow = c.args.flow.now in
    let known = c.in_ok-known.known in
    let places = c.in_ok-places.places.items in
    let are : ArePlaces flow.steps places =
    subst (λ (l : List Step). ArePlaces l places) c.as_slice.ensures c.in_ok-places.ensures in
    let counted : c.len.result ≡ length places = omega (arith, c.len.ensures, c.in_ok-places.places.ok.0) in
    let long : length known.shapes ≡ length places =
    ap length c.in_ok-known.ensures.shapes ∙ length-replicate c.len.result _ ∙ counted in
    let can = rules_can flow places (length known.shapes) all are long rules in
    let said =
    lead_below flow.limits known 0 flow.start c.lead.new.known c.in_ok-lead.field-0 all c.in_ok-lead.ensures can
    (nothing_below c.len.result known.shapes c.in_ok-known.ensures.shapes all) rules.entry in
    true≢false (sym said.0 ∙ c.if-not-branch.true)

pub loop-pc-init : goal.loop-pc-init
loop-pc-init c =
    let flow = c.args.flow.now in
    let known = c.in_ok-known.known in
    let places = c.in_ok-places.places.items in
    let are : ArePlaces flow.steps places =
    subst (λ (l : List Step). ArePlaces l places) c.as_slice.ensures c.in_ok-places.ensures in
    let counted : c.len.result ≡ length places = omega (arith, c.len.ensures, c.in_ok-places.places.ok.0) in
    let long : length known.shapes ≡ length places =
    ap length c.in_ok-known.ensures.shapes ∙ length-replicate c.len.result _ ∙ counted in
    let stands =
    lead_stands flow.limits known 0 flow.start c.lead.new.known c.in_ok-lead.field-0
    (c.are_at_most.ensures.0 (c.if-not-are_at_most.false)) c.in_ok-lead.ensures
    c.if-not-branch.false in
    record {
      sound = start_sound flow known c.lead.new.known c.len.result c.in_ok-known.ensures.shapes stands.0 stands.1;
      long = stands.0.long ∙ long;
      below = λ all rules.
          (lead_below flow.limits known 0 flow.start c.lead.new.known c.in_ok-lead.field-0 all c.in_ok-lead.ensures
          (rules_can flow places (length known.shapes) all are long rules)
          (nothing_below c.len.result known.shapes c.in_ok-known.ensures.shapes all) rules.entry).1;
    }

pub returns-then-not-branch-2 : goal.returns-then-not-branch-2
returns-then-not-branch-2 c all rules =
    true≢false (sym (c.in_ok-follow.ensures.below all rules (c.loop-pc.invariant.below all rules)).0
    ∙ c.if-not-branch-2.true)

pub loop-pc-preserved : goal.loop-pc-preserved
loop-pc-preserved c = record {
  sound = c.in_ok-follow.ensures.sound c.if-not-branch-2.false;
  long = (c.in_ok-follow.ensures.weakens c.if-not-branch-2.false).long ∙ c.loop-pc.invariant.long;
  below = λ all rules. (c.in_ok-follow.ensures.below all rules (c.loop-pc.invariant.below all rules)).1;
}
