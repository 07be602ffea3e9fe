-- The marked places so far have words.
use Rattle.std.proofs.Common.{◌<◌, ◌≤◌, ◌-◌, ℕ, length}
use Rattle.bb_terms.specs.Tables.{HasSome, ExtendsOnce}
use Rattle.bb_terms.specs.Calls.Terms.{IsStep}
use Rattle.bb_terms.specs.Calls.Marks.{IsMarked, GetsMarked}
use Rattle.bb_terms.proofs.blaster.blast.Given as goal

abbrev pub invariant-loop-place : goal.invariant-loop-place
invariant-loop-place l = record {
  step : IsStep l.fn.bank l.fn.formula l.fn.table l.formula l.table;
  once : ExtendsOnce l.fn.bank l.fn.formula l.fn.table l.formula l.table;
  room : length l.marks ≤ length l.table;
  done : (j : ℕ) → j < l.place → IsMarked l.marks j → HasSome l.table j;
  only : GetsMarked l.marks l.fn.table l.table;
}

abbrev pub decreases-loop-place : goal.decreases-loop-place
decreases-loop-place l = length l.marks - l.place
