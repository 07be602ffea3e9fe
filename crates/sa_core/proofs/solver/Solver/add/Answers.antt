use Rattle.std.proofs.Common.{◌≡◌, ◌≤◌, ◌++◌, ◌∷◌, [], ◌∙◌, ℕ, List, sym, subst, ap}
use Rattle.cn_clauses.specs.declared.clause.Clause.{Clause}
use Rattle.cn_clauses.specs.Satisfaction.{IsClauseBelow, AreClausesBelow}
use Rattle.sa_core.specs.declared.log.LogEntry.{LogEntry}
use Rattle.sa_core.specs.SpentLog.{all_clauses, added_clauses, AreLearnable}
use Rattle.sa_core.specs.LogView.{LearnedHold, variables_with}
use Rattle.sa_core.proofs.LogLemmas.{added_kept, added_push}
use Rattle.sa_core.proofs.SolveLemmas.{variables_grow, variables_cover}
use Rattle.sa_core.proofs.solver.Solver.add.Goals as goal

pub invariant_of-self : goal.invariant_of-self
invariant_of-self c =
    let old = c.args.self.now in
    let e = sym c.in_err-add.ensures.unchanged in
    record {
      named = subst (λ (es : List LogEntry). AreClausesBelow old.variables (all_clauses es)) e old.named;
      holds = subst LearnedHold e old.holds;
      learnable = subst (λ (es : List LogEntry). ∥ AreLearnable old.variables es ∥₁) e old.learnable;
    }

pub invariant_of-self-2 : goal.invariant_of-self-2
invariant_of-self-2 c =
    let old = c.args.self.now in
    let lits = c.args.clause.now.lits in
    let copy = c.in_ok-copy.copy in
    let named : c.variables_named-variables.result ≡ variables_with old.variables copy.lits =
    c.variables_named-variables.ensures ∙ ap (variables_with old.variables) c.as_slice.ensures
    ∙ ap (λ (clause : Clause). variables_with old.variables clause.lits) (sym c.in_ok-copy.ensures) in
    let kept =
    added_kept old.variables c.variables_named-variables.result old.log.entries c.add.new.self copy
    c.in_ok-add.ensures.ok
    (subst (λ (n : ℕ). old.variables ≤ n) (sym named) (variables_grow old.variables copy.lits))
    (subst (λ (n : ℕ). IsClauseBelow n copy.lits) (sym named) (variables_cover old.variables copy.lits))
    old.named old.holds old.learnable in
    record { named = kept.0; holds = kept.1; learnable = kept.2 }

pub returns-clause-added : goal.returns-clause-added
returns-clause-added c =
    let old = c.args.self.now in
    ap added_clauses c.in_ok-add.ensures.ok ∙ added_push old.log.entries c.in_ok-copy.copy
    ∙ ap (λ (clause : Clause). added_clauses old.log.entries ++ clause.lits ∷ []) c.in_ok-copy.ensures
