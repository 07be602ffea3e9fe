-- One field more.
use Rattle.std.proofs.Common.{rules}
use Rattle.hi_inputs.specs.Calls.Below.{IsInstanceType}
use Rattle.hi_inputs.proofs.AddLemmas.{each_none, each_step, each_end}
use Rattle.hi_inputs.proofs.fields.put_fields.Goals as goal

pub fields-init : goal.fields-init
fields-init c = each_none IsInstanceType c.args.out.now

pub fields-preserved : goal.fields-preserved
fields-preserved c =
    each_step IsInstanceType c.args.out.now c.args.fields.now c.fields.field-index c.field-item.result c.fields.out
    c.put_field.new.out (search rules) (search rules) c.fields.invariant (search rules)

pub returns : goal.returns
returns c =
    each_end IsInstanceType c.args.out.now c.args.fields.now c.fields.field-index c.fields.out c.fields-test.false
    c.fields.invariant
