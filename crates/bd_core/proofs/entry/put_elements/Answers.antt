-- One type more.
use Rattle.std.proofs.Common.{rules}
use Rattle.bd_core.proofs.AddsLemmas.{each_step}
use Rattle.bd_core.proofs.EntryLemmas.{OfType}
use Rattle.bd_core.proofs.entry.put_elements.Goals as goal

pub types-preserved : goal.types-preserved
types-preserved c =
    each_step OfType c.args.types.now c.types.ty-index c.ty-item.result c.args.out.now c.types.out
    c.put_element.new.out (search rules) (search rules) c.types.invariant (search rules)
