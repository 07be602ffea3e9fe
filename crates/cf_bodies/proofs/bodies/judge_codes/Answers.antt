use Rattle.std.proofs.Common.{◌+◌, List, sym, subst}
use Rattle.std.proofs.lemmas.Result.{err_from_is_err_and}
use Rattle.cf_code.specs.declared.code.Placed.{Placed}
use Rattle.cf_bodies.proofs.BodyLemmas.{AreJudged, code_fits, one_more, stops, all_judged}
use Rattle.cf_bodies.proofs.bodies.judge_codes.Goals as goal

pub judge_code-requires-clause-fits : goal.judge_code-requires-clause-fits
judge_code-requires-clause-fits c =
    code_fits c.args.codes.now c.loop-code.code-index c.code-item.result c.loop-code-test.true c.code-item.is
    c.requires.fit

pub returns-in_err-judge_code : goal.returns-in_err-judge_code
returns-in_err-judge_code c =
    let p = err_from_is_err_and c.from_residual.result c.from_residual.ensures.1 in
    let l = c.loop-code in
    rw (p.1, p.2)
    (stops c.args.pool.now c.args.codes.now l.code-index l.bodies c.code-item.result c.loop-code-test.true
    c.code-item.is
    l.invariant c.in_err-judge_code.field-0.0 c.in_err-judge_code.ensures)

pub loop-code-preserved : goal.loop-code-preserved
loop-code-preserved c =
    let l = c.loop-code in
    let more = one_more c.args.pool.now c.args.codes.now l.code-index l.bodies c.code-item.result c.loop-code-test.true
    c.code-item.is l.invariant c.in_ok-judge_code.field-0 c.in_ok-judge_code.ensures in
    subst (λ (bs : List (List Placed)). AreJudged c.args.pool.now c.args.codes.now (l.code-index + 1) bs)
    (sym c.in_ok-add.ensures.ok) more

pub returns : goal.returns
returns c =
    all_judged c.args.pool.now c.args.codes.now c.loop-code.code-index c.loop-code.bodies c.loop-code-test.false
    c.loop-code.invariant
