-- One unit, or two where the first is a surrogate.
use Rattle.std.proofs.Common.{ℕ, List, sym, subst, ◌∙◌}
use Rattle.std.specs.Prelude.{IfNone}
use Rattle.std.specs.Char.{IsScalar}
use Rattle.jv_base.proofs.EscapeLemmas.{HasNoEscape, escape_no_unit, escape_found}
use Rattle.jv_base.proofs.reading.escape_of.Goals as goal
use Rattle.jv_list.proofs.TestLemmas.{if_none}

pub returns-in_err-unit-clause-none : goal.returns-in_err-unit-clause-none
returns-in_err-unit-clause-none c =
    if_none c.from_residual.result _ (escape_no_unit c.args.text.now c.in_err-unit.ensures.none)

pub returns-in-Some-clause-found : goal.returns-in-Some-clause-found
returns-in-Some-clause-found c =
    let value = c.in-Some.ensures.value in
    let unit = c.in_ok-unit in
    let is = unit.ensures.found in (
      subst IsScalar (sym value.1) value.0,
      escape_found c.args.text.now unit.rest.now unit.unit c.in-Some.c is.0 (value.1 ∙ c.from.ensures) is.1,
    )

pub returns-in-None-clause-none : goal.returns-in-None-clause-none
returns-in-None-clause-none c =
    let split = sym c.in_ok-unit.ensures.found.1 in
    subst (λ (t : List ℕ). IfNone c.pair_of.result (HasNoEscape t)) split c.pair_of.ensures.none
