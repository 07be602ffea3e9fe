use Rattle.std.proofs.Common.{◌≡◌, take, vec_len}
use Rattle.cf_code.specs.Steps.Starts.{Marks}
use Rattle.cf_code.proofs.decoding.marks_of.Given as goal

abbrev pub invariant-loop-pc : goal.invariant-loop-pc
invariant-loop-pc l = (vec_len l.marks ≡ l.count) × Marks l.marks.items (take l.pc-index l.pc-items)
