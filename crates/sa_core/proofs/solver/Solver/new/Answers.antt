use Rattle.std.proofs.Common.{◌∙◌, ℕ, sym, subst, ap, take_all}
use Rattle.cn_clauses.specs.Clauses.{lits_of_all}
use Rattle.cn_clauses.specs.Satisfaction.{AreClausesBelow}
use Rattle.sa_core.specs.SpentLog.{added_clauses, learned_count}
use Rattle.sa_core.specs.LogView.{added_all}
use Rattle.sa_core.proofs.LogLemmas.{first_kept, added_of_added, none_counted}
use Rattle.sa_core.proofs.solver.Solver.new.Goals as goal

pub invariant_of-result : goal.invariant_of-result
invariant_of-result c =
    let items = c.as_slice-clause-items.result.now in
    let is =
    c.loop-clause.invariant ∙ ap added_all (take_all c.loop-clause.clause-index items c.loop-clause-test.false)
    ∙ ap added_all c.as_slice-clause-items.ensures in
    let formula = c.args.formula.now in
    let kept =
    first_kept c.length.result formula.clauses c.loop-clause.entries is
    (subst (λ (n : ℕ). AreClausesBelow n (lits_of_all formula.clauses)) (sym c.length.ensures) formula.named) in
    record { named = kept.0; holds = kept.1; learnable = kept.2 }

pub returns-clause-added : goal.returns-clause-added
returns-clause-added c =
    let items = c.as_slice-clause-items.result.now in
    let is =
    c.loop-clause.invariant ∙ ap added_all (take_all c.loop-clause.clause-index items c.loop-clause-test.false)
    ∙ ap added_all c.as_slice-clause-items.ensures in
    ap added_clauses is ∙ added_of_added c.args.formula.now.clauses

pub returns-clause-count : goal.returns-clause-count
returns-clause-count c =
    let items = c.as_slice-clause-items.result.now in
    let is =
    c.loop-clause.invariant ∙ ap added_all (take_all c.loop-clause.clause-index items c.loop-clause-test.false)
    ∙ ap added_all c.as_slice-clause-items.ensures in
    ap learned_count is ∙ none_counted c.args.formula.now.clauses
