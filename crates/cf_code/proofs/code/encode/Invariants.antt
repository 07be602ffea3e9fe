use Rattle.std.proofs.Common.{◌≡◌, take}
use Rattle.cf_code.specs.Code.{code_spelling}
use Rattle.cf_code.proofs.code.encode.Given as goal

abbrev pub invariant-loop-placed : goal.invariant-loop-placed
invariant-loop-placed l = l.out.items ≡ code_spelling (take l.placed-index l.placed-items)
