-- Neither has it an unsuited supertype, nor is it its own.
use Rattle.std.proofs.Common.{sym, ◌∙◌, rules}
use Rattle.std.proofs.lemmas.Bool.{false≢true}
use Rattle.bd_refusals.specs.Suited.{HasUnsuited}
use Rattle.bd_refusals.proofs.TableLemmas.{suited_both, never}
use Rattle.bd_refusals.proofs.table.is_suited.Goals as goal

pub returns-then-has_unsuited : goal.returns-then-has_unsuited
returns-then-has_unsuited c =
    never c.args.classes.now c.args.class.now (c.has_unsuited.ensures.0 c.if-has_unsuited.true)

pub returns : goal.returns
returns c =
    let none : HasUnsuited c.args.classes.now c.args.class.now → ⊥ =
    λ h. false≢true (sym c.if-has_unsuited.false ∙ c.has_unsuited.ensures.1 h) in
    suited_both c.args.classes.now c.args.class.now none c.in_ok-is_circular.field-0 c.in_ok-is_circular.ensures
