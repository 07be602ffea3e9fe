use Rattle.std.proofs.Common.{◌≡◌, ◌+◌, ℤ, Some, take, ap}
use Rattle.std.specs.Prelude.{FitsSigned}
use Rattle.std.specs.Int.{w32, cast_signed, cast_unsigned}
use Rattle.std.proofs.lemmas.Int.{to_z-of_z}
use Rattle.std.proofs.lemmas.List.{take_more}
use Rattle.jv_base.specs.declared.input.Tree as tree
use Rattle.jb_run.specs.Inputs.{int_of}
use Rattle.jb_run.specs.Solved.{value_at}
use Rattle.jb_run.proofs.InputLemmas.{args_more}
use Rattle.jb_run.proofs.verdicts.input_of.Goals as goal

int_argument : (n : ℤ) → FitsSigned w32 n → int_of (tree.Int (cast_signed w32 (cast_unsigned w32 n))) ≡ Some n
unfolding tree.out-Tree denote.Hole.Carrier.out
int_argument n fits = ap Some (to_z-of_z w32 n fits)

pub words-preserved : goal.words-preserved
words-preserved c =
    let i = c.words.word-index in
    let words = c.args.inputs.now in
    let int = int_argument c.word_value.result c.word_value.ensures.fits in
    args_more (value_at c.args.assignment.now) (take i words) (take (i + 1) words) _ c.words.args.items
    c.push.new.self.items _ c.word_value.result c.words.invariant (take_more words i _ c.words-test.true)
    c.in_ok-push.ensures.items int c.word_value.ensures
