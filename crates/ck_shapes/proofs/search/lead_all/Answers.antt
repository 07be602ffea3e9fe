use Rattle.std.proofs.Common.{ℕ, sym, subst, length, refl, get_or, true≢false, ◌∙◌}
use Rattle.jv_list.proofs.ElementLemmas.{in_read}
use Rattle.ck_shapes.specs.Calls.Search.{CanStand}
use Rattle.ck_shapes.proofs.SearchLemmas.{lead_stands, lead_below, stand_more}
use Rattle.ck_shapes.proofs.search.lead_all.Goals as goal

pub returns-then-not-branch-clause-below : goal.returns-then-not-branch-clause-below
returns-then-not-branch-clause-below c all can below led =
    let pcs = c.args.pcs.now in
    let pc : ℕ = get_or pcs c.loop-pc.pc-index 0 in
    let here : CanStand c.args.limits (length c.loop-pc.known.shapes) all =
    subst (λ (n : ℕ). CanStand c.args.limits n all) (sym c.loop-pc.invariant.stand.weakens.long) can in
    let said =
    lead_below c.args.limits c.loop-pc.known pc c.args.shape.now c.lead.new.known c.in_ok-lead.field-0 all
    c.in_ok-lead.ensures here (c.loop-pc.invariant.below all can below led)
    (led pc (in_read pcs c.loop-pc.pc-index 0 c.loop-pc-test.true)) in
    absurd (true≢false (sym said.0 ∙ c.if-not-branch.true))

pub loop-pc-preserved : goal.loop-pc-preserved
loop-pc-preserved c =
    let pcs = c.args.pcs.now in
    let pc : ℕ = get_or pcs c.loop-pc.pc-index 0 in
    record {
      stand = stand_more c.args.limits c.args.known.now c.loop-pc.known c.lead.new.known pcs c.loop-pc.pc-index pc 0
          c.args.shape.now c.loop-pc-test.true refl c.loop-pc.invariant.stand
          (lead_stands c.args.limits c.loop-pc.known pc c.args.shape.now c.lead.new.known c.in_ok-lead.field-0
          c.requires c.in_ok-lead.ensures c.if-not-branch.false);
      below = λ all can below led.
          let here : CanStand c.args.limits (length c.loop-pc.known.shapes) all =
          subst (λ (n : ℕ). CanStand c.args.limits n all) (sym c.loop-pc.invariant.stand.weakens.long) can in
          (lead_below c.args.limits c.loop-pc.known pc c.args.shape.now c.lead.new.known c.in_ok-lead.field-0 all
          c.in_ok-lead.ensures here (c.loop-pc.invariant.below all can below led)
          (led pc (in_read pcs c.loop-pc.pc-index 0 c.loop-pc-test.true))).1;
    }
