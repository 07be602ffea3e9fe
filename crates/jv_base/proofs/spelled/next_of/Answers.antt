-- A text has one first character.
use Rattle.std.proofs.Common.{ℕ, sym, ap, ◌∙◌}
use Rattle.jv_base.specs.Calls.Progress.{step}
use Rattle.jv_base.proofs.EscapeLemmas.{character_same}
use Rattle.jv_base.proofs.spelled.next_of.Goals as goal
use Rattle.jv_list.proofs.TestLemmas.{if_none}

pub returns-in_err-c-clause-none : goal.returns-in_err-c-clause-none
returns-in_err-c-clause-none c =
    if_none c.from_residual.result _ (λ d rest scalar e. absurd (c.in_err-c.ensures.none rest (d, scalar, e)))

pub returns-in_err-next-clause-none : goal.returns-in_err-next-clause-none
returns-in_err-next-clause-none c =
    let first = c.in_ok-c in
    let found = first.ensures.found in
    if_none c.from_residual-in_err-next.result _ (λ d rest scalar e.
    let same = character_same d first.c rest first.after.now scalar found.0 (sym e ∙ found.1) in
    ap (λ (b : ℕ). step c.args.progress b) same.0 ∙ sym c.step.ensures ∙ c.in_err-next.was)
