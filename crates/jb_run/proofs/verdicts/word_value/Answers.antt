use Rattle.std.proofs.Common.{◌<◌, ◌+◌, ◌^◌, sym, ap, subst, ◌∙◌, arith, bit_or}
use Rattle.std.specs.Int.{w32}
use Rattle.std.proofs.lemmas.Int.{to_z-of_z}
use Rattle.std.proofs.lemmas.Nat.{one_shl}
use Rattle.jb_run.specs.Solved.{value_at}
use Rattle.jb_run.specs.Shown.{ShowsInt}
use Rattle.jb_run.proofs.InputLemmas.{PatternSoFar, pattern_set, pattern_kept, pattern_shows}
use Rattle.jb_run.proofs.verdicts.word_value.Goals as goal
use Rattle.jb_run.proofs.verdicts.word_value.Goals.{then-bit_value, else-bit_value}

pub bits-preserved : goal.bits-preserved
bits-preserved c =
    let a = value_at c.args.assignment.now in
    let word = c.args.word.now in
    elim c.if-bit_value.branch [
      | then-bit_value w ↦
          subst (λ z. PatternSoFar a word z (c.bits.i + 1))
          (sym (w.pattern-is ∙ ap (bit_or c.bits.pattern) (one_shl c.bits.i 32 c.bits-test.true)))
          (pattern_set a word c.bits.pattern c.bits.i c.bits.invariant (sym c.bit_value.ensures ∙ w.if-bit_value.true))
      | else-bit_value w ↦
          subst (λ z. PatternSoFar a word z (c.bits.i + 1)) (sym w.pattern-is)
          (pattern_kept a word c.bits.pattern c.bits.i c.bits.invariant (sym c.bit_value.ensures
          ∙ w.if-bit_value.false))
    ]

pub returns : goal.returns
returns c =
    let a = value_at c.args.assignment.now in
    let word = c.args.word.now in
    let below : c.bits.pattern < 2 ^ 32 = omega (arith, c.bits.auto.pattern-fits) in
    let shows = pattern_shows a word c.bits.pattern c.bits.i c.bits.invariant c.bits-test.false below in
    subst (ShowsInt a word) (sym (to_z-of_z w32 c.cast_signed.result (record { sfits = c.cast_signed.type_inv })
    ∙ c.cast_signed.ensures)) shows
