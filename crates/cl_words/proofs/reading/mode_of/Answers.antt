use Rattle.std.proofs.Common.{◌≡◌, rules, codes, Err}
use Rattle.cl_words.specs.declared.fault.WordsFault.TheVariants.{Usage}
use Rattle.cl_words.specs.Command.{LacksValue}
use Rattle.cl_words.specs.Calls.Options.{rows}
use Rattle.cl_words.proofs.LawLemmas.{no_mode}
use Rattle.cl_words.proofs.reading.mode_of.Goals as goal

pub returns-in_err-mode-clause-outside : goal.returns-in_err-mode-clause-outside
returns-in_err-mode-clause-outside c = λ usage.
    let none : LacksValue (rows c.args.matches.now) (codes "make") = search rules in
    let refused : c.form_of.result ≡ Err Usage = search rules in
    no_mode (rows c.args.matches.now) none (c.form_of.ensures.outside refused)
