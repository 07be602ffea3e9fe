use Rattle.std.proofs.Common.{◌≡◌, ◌∙◌, Option, Some, None, sym}
use Rattle.std.proofs.Common.{IfSome, IfNone}
use Rattle.std.specs.Option.{option_map}
use Rattle.std.specs.Borrow.{Bor}
use Rattle.clap.proofs.WalkLemmas.{first_value-rows}
use Rattle.clap.specs.Matches.{found_of}
use Rattle.clap.specs.Walk.{Text}
use Rattle.cl_words.proofs.matched.text_of.Goals as goal

by_value : (o : Option (Bor Text)) (value : Option Text) → option_map (λ s. s.now) o ≡ value
    → IfSome o (λ text. value ≡ Some text.now) × IfNone o (value ≡ None)
by_value None value e = (tt, sym e)
by_value (Some text) value e = (sym e, tt)

pub returns : goal.returns
returns c =
    let value = c.get_str.ensures ∙ first_value-rows (found_of c.args.matches.now) c.args.name.now in
    let told = by_value c.get_str.result _ value in
    record { found = told.0; none = told.1 }
