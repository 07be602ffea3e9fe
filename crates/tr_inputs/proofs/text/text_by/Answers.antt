-- The text is that of a value without floats.
use Rattle.std.proofs.Common.{rules}
use Rattle.tr_inputs.specs.Texts.{text_by}
use Rattle.tr_inputs.proofs.FloatLemmas.{input_whole}
use Rattle.tr_inputs.proofs.text.text_by.Goals as goal

pub returns-clause-value : goal.returns-clause-value
unfolding text_by
returns-clause-value c =
    let no_float = input_whole c.args.input.now c.args.types.now in
    search (rules, no_float)
