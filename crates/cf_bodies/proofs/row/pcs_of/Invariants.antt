use Rattle.std.proofs.Common.{◌≡◌, take}
use Rattle.cf_code.specs.Decoding.{pcs}
use Rattle.cf_bodies.proofs.row.pcs_of.Given as goal

abbrev pub invariant-loop-placed : goal.invariant-loop-placed
invariant-loop-placed l = l.found.items ≡ pcs (take l.placed-index l.code)
