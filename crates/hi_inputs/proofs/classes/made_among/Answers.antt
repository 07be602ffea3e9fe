-- One type more.
use Rattle.std.proofs.Common.{rules}
use Rattle.hi_inputs.proofs.ClassLemmas.{among_none, among_step, among_end}
use Rattle.hi_inputs.proofs.classes.made_among.Goals as goal

pub types-init : goal.types-init
types-init c = among_none c.args.classes.now c.new-found.result.keys (search rules)

pub types-preserved : goal.types-preserved
types-preserved c =
    among_step c.args.classes.now c.args.types.now c.types.ty-index c.ty-item.result c.types.found.keys
    c.take_made.new.found.keys (search rules) (search rules) c.types.invariant (search rules)

pub returns : goal.returns
returns c =
    among_end c.args.classes.now c.args.types.now c.types.ty-index c.types.found.keys c.types-test.false
    c.types.invariant
