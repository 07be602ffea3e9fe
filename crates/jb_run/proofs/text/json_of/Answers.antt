-- The text is that of a value without floats.
use Rattle.std.proofs.Common.{rules}
use Rattle.jb_run.specs.InputText.{input_text}
use Rattle.jb_run.proofs.FloatLemmas.{input-has_no_float}
use Rattle.jb_run.proofs.text.json_of.Goals as goal

pub returns : goal.returns
unfolding input_text
returns c =
    let no_float = input-has_no_float c.args.input.now c.requires in
    search (rules, no_float)
