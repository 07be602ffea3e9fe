-- The brackets so far are behind.
use Rattle.std.proofs.Common.{◌≡◌, ◌+◌, ◌++◌, length, replicate}
use Rattle.std.specs.Str.{IsUtf8}
use Rattle.jv_base.proofs.types.brackets_at.Given as goal

abbrev pub invariant-loop-after : goal.invariant-loop-after
invariant-loop-after l = record {
  unicode : IsUtf8 l.rest;
  parts : l.text ≡ replicate l.dimensions 91 ++ l.rest;
  within : l.dimensions + length l.rest ≡ length l.text;
}

abbrev pub decreases-loop-after : goal.decreases-loop-after
decreases-loop-after l = length l.rest
