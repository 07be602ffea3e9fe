use Rattle.std.proofs.Common.{◌≡◌, take}
use Rattle.cf_code.specs.Decoding.{pcs}
use Rattle.cf_code.proofs.transfer.sorted_pcs.Given as goal

abbrev pub invariant-loop-placed : goal.invariant-loop-placed
invariant-loop-placed l = l.starts.items ≡ pcs (take l.placed-index l.code)
