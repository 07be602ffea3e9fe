use Rattle.std.proofs.Common.{ap, ◌∙◌}
use Rattle.std.specs.Int.{cast_unsigned, w32}
use Rattle.std.proofs.lemmas.Int.{to_z-of_z}
use Rattle.jb_run.proofs.FreshIntLemmas.{known_more, known_int, known_below}
use Rattle.jb_run.proofs.int_bits.known.Goals as goal

pub loop-i-preserved : goal.loop-i-preserved
loop-i-preserved c =
    known_more c.cast_unsigned-pattern.result c.loop-i.bits c.loop-i.i c.loop-i-test.true c.loop-i.invariant

pub returns-clause-int : goal.returns-clause-int
returns-clause-int c a = record {
  bits = known_int c.args.value c.cast_unsigned-pattern.result (record { bits = c.loop-i.bits }) c.loop-i.i
      (c.cast_unsigned-pattern.ensures
      ∙ ap (cast_unsigned w32) (to_z-of_z w32 c.args.value c.ranges.value)) c.loop-i.invariant c.loop-i-test.false a;
  fits = c.ranges.value;
}

pub returns-clause-below : goal.returns-clause-below
returns-clause-below c n k inside =
    known_below c.cast_unsigned-pattern.result
    (record { bits = c.loop-i.bits }) c.loop-i.i c.loop-i.invariant c.loop-i-test.false n k inside
