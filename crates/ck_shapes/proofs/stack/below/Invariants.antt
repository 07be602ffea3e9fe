use Rattle.std.proofs.Common.{◌≡◌, ◌+◌, ◌≤◌, ℕ, drop, length}
use Rattle.ck_shapes.specs.Shape.{words}
use Rattle.ck_shapes.proofs.stack.below.Given as goal

abbrev pub invariant-loop-left : goal.invariant-loop-left
invariant-loop-left l = record {
  within : l.rest ≤ length l.stack;
  counted : words (drop l.rest l.stack) + l.left ≡ l.count;
  only : (k : ℕ) → k ≤ length l.stack → words (drop k l.stack) ≡ l.count → k ≤ l.rest;
}

abbrev pub decreases-loop-left : goal.decreases-loop-left
decreases-loop-left l = l.left
