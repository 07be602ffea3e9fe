-- The bytes so far are those of the word.
use Rattle.std.proofs.Common.{◌≡◌, length, take}
use Rattle.jv_base.proofs.site.word_front.Given as goal

abbrev pub invariant-loop-a : goal.invariant-loop-a
invariant-loop-a l = record {
  index : l.same ≡ length l.yielded;
  same : take l.same l.text ≡ take l.same l.word;
}
