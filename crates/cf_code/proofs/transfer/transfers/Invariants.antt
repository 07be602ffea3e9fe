use Rattle.std.proofs.Common.{◌≡◌, take}
use Rattle.std.specs.List.{flat_map}
use Rattle.cf_code.specs.Steps.Ways.{ways}
use Rattle.cf_code.proofs.transfer.transfers.Given as goal

abbrev pub invariant-loop-placed : goal.invariant-loop-placed
invariant-loop-placed l = l.pairs.items ≡ flat_map (ways l.starts.items) (take l.placed-index l.placed-items)
