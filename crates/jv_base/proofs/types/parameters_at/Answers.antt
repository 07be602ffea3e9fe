-- One more field type is behind.
use Rattle.std.proofs.Common.{rules}
use Rattle.jv_base.proofs.TypeLemmas.{parameters_read}
use Rattle.jv_base.proofs.types.parameters_at.Goals as goal

pub loop-parameters-preserved : goal.loop-parameters-preserved
loop-parameters-preserved c =
    let l = c.loop-parameters in
    let found = rw c.in-Some.is at c.in_ok-ty.ensures.found in
    let more = parameters_read c.args.text.now l.rest.now c.in-Some.after.now l.parameters c.add.new.self c.in-Some.ty
    c.in_ok-add.ensures.ok l.invariant.valid l.invariant.parts found.0 found.1 in
    record {
      unicode = search rules;
      valid = more.0;
      parts = more.1;
    }
