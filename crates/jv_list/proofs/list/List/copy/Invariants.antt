-- The elements so far are copies.
use Rattle.std.proofs.Common.{◌≡◌, take}
use Rattle.jv_list.proofs.list.List.copy.Given as goal

abbrev pub invariant-loop-item : goal.invariant-loop-item
invariant-loop-item g l = l.items.items ≡ take l.item-index l.item-items
