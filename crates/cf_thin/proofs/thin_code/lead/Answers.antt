use Rattle.std.proofs.Common.{length, arith}
use Rattle.std.proofs.lemmas.Option.{MatchOption-at_none, MatchOption-at_some}
use Rattle.cf_thin.specs.Calls.Passes.{Differs, JoinsFound}
use Rattle.cf_thin.proofs.LeadLemmas.{shape_read, have_known, lead_refuses, lead_leads, lead_have}
use Rattle.cf_thin.proofs.thin_code.lead.Goals as goal

pub joined-requires : goal.joined-requires
joined-requires c =
    let at = shape_read c.args.shapes.now.items c.from-pc.result c.index.result.now (omega arith) c.index.ensures in
    have_known c.args.shapes.now.items c.from-pc.result
    (length c.args.shape.now.locals) c.index.result.now c.requires at

pub returns-in_default-2-clause-refuses : goal.returns-in_default-2-clause-refuses
returns-in_default-2-clause-refuses c = λ f.
    let at = shape_read c.args.shapes.now.items c.from-pc.result c.index.result.now (omega arith) c.index.ensures in
    let differs : Differs c.index.result.now c.args.shape.now =
    MatchOption-at_none (Differs c.index.result.now c.args.shape.now)
    (λ both. JoinsFound c.index.result.now c.args.shape.now both) c.in_default-2.is c.in_ok-both.ensures in
    lead_refuses c.args.shapes.now.items c.args.shape.now c.in-Some.pc c.from-pc.result c.args.pc c.index.result.now
    c.in-Some.is c.from-pc.ensures at differs

pub returns-clause-leads : goal.returns-clause-leads
returns-clause-leads c = λ t.
    let at = shape_read c.args.shapes.now.items c.from-pc.result c.index.result.now (omega arith) c.index.ensures in
    let joins : JoinsFound c.index.result.now c.args.shape.now c.in-Some-2.both =
    MatchOption-at_some (Differs c.index.result.now c.args.shape.now)
    (λ both. JoinsFound c.index.result.now c.args.shape.now both) c.in-Some-2.both c.in-Some-2.is
    c.in_ok-both.ensures in
    lead_leads c.args.shapes.now.items c.args.shape.now c.in-Some-2.both c.in-Some.pc c.from-pc.result c.args.pc
    c.index.result.now c.in-Some.is c.from-pc.ensures (omega arith) at joins

pub returns-clause-locals : goal.returns-clause-locals
returns-clause-locals c =
    let at = shape_read c.args.shapes.now.items c.from-pc.result c.index.result.now (omega arith) c.index.ensures in
    let joins : JoinsFound c.index.result.now c.args.shape.now c.in-Some-2.both =
    MatchOption-at_some (Differs c.index.result.now c.args.shape.now)
    (λ both. JoinsFound c.index.result.now c.args.shape.now both) c.in-Some-2.both c.in-Some-2.is
    c.in_ok-both.ensures in
    lead_have c.args.shapes.now.items c.args.shape.now c.in-Some-2.both c.from-pc.result c.index.result.now c.requires
    (omega arith) at joins
