-- The values so far, and how many of the terms so far are free.
use Rattle.std.proofs.Common.{◌≡◌, take}
use Rattle.tm_terms.specs.Terms.{free_count}
use Rattle.tm_terms.specs.Listed.{AreValues}
use Rattle.tm_terms.proofs.values.first_values.Given as goal

abbrev pub invariant-loop-k : goal.invariant-loop-k
invariant-loop-k l = record {
  values : AreValues l.ops l.v l.k l.numbers;
  inputs : l.inputs ≡ free_count (take l.k l.ops);
}
