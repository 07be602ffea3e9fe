use Rattle.std.proofs.lemmas.Result.{err_from_is_err_and}
use Rattle.std.specs.Int.{w16}
use Rattle.cf_structure.specs.Structure.{many_at, at_end, number_at}
use Rattle.cf_structure.proofs.LoopLemmas.{goes_on, ends, is_done}
use Rattle.cf_structure.proofs.class_file.read_index_list.Goals as goal

pub returns-in_err-index : goal.returns-in_err-index
returns-in_err-index c =
    let p = err_from_is_err_and c.from_residual.result c.from_residual.ensures.1 in
    rw (p.1, p.2) (ends (number_at at_end w16) (c.loop.indices) c.args.count c.loop.counter c.loop.rest.now
    (many_at (number_at at_end w16) c.args.count c.args.bytes.now) c.in_err-index.field-0.0 c.loop-test.true
    c.in_err-index.ensures.value c.loop.invariant)

pub loop-preserved : goal.loop-preserved
loop-preserved c =
    rw c.in_ok-add.ensures.ok
    (goes_on (number_at at_end w16) (c.loop.indices) c.args.count c.loop.counter c.loop.rest.now
    (many_at (number_at at_end w16) c.args.count c.args.bytes.now) c.in_ok-index.index c.in_ok-index.after.now
    c.loop-test.true c.in_ok-index.ensures.value c.loop.invariant)

pub returns : goal.returns
returns c = is_done (number_at at_end w16) (c.loop.indices) c.args.count c.loop.counter c.loop.rest.now
    (many_at (number_at at_end w16) c.args.count c.args.bytes.now) c.loop-test.false c.loop.invariant
