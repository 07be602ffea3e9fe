-- What is left has the text that all has behind its brackets.
use Rattle.std.proofs.Common.{◌≡◌, length}
use Rattle.std.specs.Str.{IsUtf8}
use Rattle.bd_scan.specs.Descriptors.{without_brackets}
use Rattle.bd_scan.proofs.descriptor.without_brackets.Given as goal

abbrev pub invariant-loop-after : goal.invariant-loop-after
invariant-loop-after l = record {
  unicode : IsUtf8 l.rest;
  same : without_brackets l.rest ≡ without_brackets l.text;
}

abbrev pub decreases-loop-after : goal.decreases-loop-after
decreases-loop-after l = length l.rest
