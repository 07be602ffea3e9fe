use Rattle.std.proofs.Common.{◌≡◌, take}
use Rattle.cf_copy.proofs.copied.copied.Given as goal

abbrev pub invariant-loop-part : goal.invariant-loop-part
invariant-loop-part g l = l.copy ≡ take l.part-index l.parts
