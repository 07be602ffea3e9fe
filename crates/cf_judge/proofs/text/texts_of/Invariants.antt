use Rattle.std.proofs.Common.{◌≡◌, ℕ, ◌<◌, length}
use Rattle.std.specs.Prelude.{slice_get}
use Rattle.cf_judge.specs.Texts.{IsTextOf}
use Rattle.cf_judge.specs.Calls.Firsts.{AreFirsts}
use Rattle.cf_judge.proofs.text.texts_of.Given as goal

abbrev pub invariant-loop-index : goal.invariant-loop-index
invariant-loop-index l = record {
  firsts : AreFirsts l.pool l.index l.firsts;
  count : length l.texts ≡ l.index;
  texts : (k : ℕ) → k < l.index → IsTextOf l.pool (slice_get l.pool k) (slice_get l.texts k);
}
