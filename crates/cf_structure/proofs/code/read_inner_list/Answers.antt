use Rattle.std.proofs.Common.{arith, ◌≡◌, ◌++◌, ◌∷◌, [], map}
use Rattle.std.proofs.lemmas.Result.{err_from_is_err_and}
use Rattle.std.proofs.lemmas.List.{map_push}
use Rattle.cf_structure.specs.Structure.{many_at, inner_at}
use Rattle.cf_structure.specs.Views.{skipped_of}
use Rattle.cf_structure.proofs.LoopLemmas.{goes_on, ends, is_done}
use Rattle.cf_structure.proofs.code.read_inner_list.Goals as goal

pub returns-in_err-attribute-clause-value : goal.returns-in_err-attribute-clause-value
returns-in_err-attribute-clause-value c =
    let p = err_from_is_err_and c.from_residual.result c.from_residual.ensures.1 in
    rw (p.1, p.2)
    (ends (inner_at c.args.holder c.args.behind)
    (map skipped_of c.loop.attributes) c.args.count c.loop.counter c.loop.rest.now
    (many_at (inner_at c.args.holder c.args.behind) c.args.count c.args.bytes.now) c.in_err-attribute.field-0.0
    c.loop-test.true c.in_err-attribute.ensures.value c.loop.invariant.reads)

pub loop-preserved : goal.loop-preserved
loop-preserved c = record {
  within = omega (arith, c.in_ok-attribute.ensures.within);
  reads =
      let n = c.in_ok-attribute.attribute in
      let e : map skipped_of c.add.new.self ≡ map skipped_of c.loop.attributes ++ skipped_of n ∷ [] =
      rw c.in_ok-add.ensures.ok (map_push _ c.loop.attributes n) in
      rw e (goes_on (inner_at c.args.holder c.args.behind)
      (map skipped_of c.loop.attributes) c.args.count c.loop.counter c.loop.rest.now
      (many_at (inner_at c.args.holder c.args.behind) c.args.count c.args.bytes.now)
      (skipped_of n) c.in_ok-attribute.after.now c.loop-test.true c.in_ok-attribute.ensures.value
      c.loop.invariant.reads);
}

pub returns-clause-value : goal.returns-clause-value
returns-clause-value c =
    is_done (inner_at c.args.holder c.args.behind)
    (map skipped_of c.loop.attributes) c.args.count c.loop.counter c.loop.rest.now
    (many_at (inner_at c.args.holder c.args.behind) c.args.count c.args.bytes.now) c.loop-test.false
    c.loop.invariant.reads
