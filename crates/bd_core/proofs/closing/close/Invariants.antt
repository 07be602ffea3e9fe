-- The members are closed as far as they were followed, and those are grouped.
use Rattle.std.proofs.Common.{◌-◌, ◌^◌, take}
use Rattle.bd_core.specs.Loads.{given}
use Rattle.bd_core.specs.Calls.Closes.{IsClosing}
use Rattle.bd_core.specs.Calls.Grouped.{AreGrouped}
use Rattle.bd_core.specs.Calls.Groups.{grouped}
use Rattle.bd_core.proofs.closing.close.Given as goal

abbrev pub invariant-places : goal.invariant-places
invariant-places l =
    IsClosing (given l.fn.loaded) l.fn.start l.found.keys l.place × AreGrouped (take l.place l.found.keys)
    (grouped l.groups)

abbrev pub decreases-places : goal.decreases-places
decreases-places l = 2 ^ 64 - l.place
