use Rattle.std.proofs.Common.{arith}
use Rattle.std.proofs.lemmas.Result.{err_from_is_err_and}
use Rattle.cf_structure.specs.Structure.{many_at, row_at}
use Rattle.cf_structure.proofs.LoopLemmas.{goes_on, ends, is_done}
use Rattle.cf_structure.proofs.code.read_row_list.Goals as goal

pub returns-in_err-row-clause-value : goal.returns-in_err-row-clause-value
returns-in_err-row-clause-value c =
    let p = err_from_is_err_and c.from_residual.result c.from_residual.ensures.1 in
    rw (p.1, p.2) (ends (row_at c.args.holder) (c.loop.rows) c.args.count c.loop.counter c.loop.rest.now
    (many_at (row_at c.args.holder) c.args.count c.args.bytes.now) c.in_err-row.field-0.0 c.loop-test.true
    c.in_err-row.ensures.value c.loop.invariant.reads)

pub loop-preserved : goal.loop-preserved
loop-preserved c = record {
  within = omega (arith, c.in_ok-row.ensures.within);
  reads = rw c.in_ok-add.ensures.ok
      (goes_on (row_at c.args.holder) (c.loop.rows) c.args.count c.loop.counter c.loop.rest.now
      (many_at (row_at c.args.holder) c.args.count c.args.bytes.now) c.in_ok-row.row c.in_ok-row.after.now
      c.loop-test.true c.in_ok-row.ensures.value c.loop.invariant.reads);
}

pub returns-clause-value : goal.returns-clause-value
returns-clause-value c = is_done (row_at c.args.holder) (c.loop.rows) c.args.count c.loop.counter c.loop.rest.now
    (many_at (row_at c.args.holder) c.args.count c.args.bytes.now) c.loop-test.false c.loop.invariant.reads
