use Rattle.std.proofs.Common.{take}
use Rattle.cf_code.proofs.PlaceLemmas.{Places}
use Rattle.cf_code.proofs.decoding.walk.Given as goal

abbrev pub invariant-loop-pc : goal.invariant-loop-pc
invariant-loop-pc l = Places l.bytes l.pc-items (take l.pc-index l.pc-items) l.code.items
