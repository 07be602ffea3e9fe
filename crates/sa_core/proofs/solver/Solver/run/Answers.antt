use Rattle.std.proofs.Common.{◌∙◌, ℕ, List, refl, subst, inl}
use Rattle.cn_clauses.specs.declared.lit.Lit.{Lit}
use Rattle.cn_clauses.specs.Formulas.{value_at}
use Rattle.cn_clauses.specs.Satisfaction.{Satisfies}
use Rattle.sa_core.specs.SpentLog.{AreLearnable}
use Rattle.sa_core.specs.Answers.{IsRefuted}
use Rattle.sa_core.proofs.SolveLemmas.{learns_more, learns_added, satisfies_added, refutes, all_spent, one_spent}
use Rattle.sa_core.proofs.SolveLemmas.{falls_on, falls_back}
use Rattle.sa_core.proofs.solver.Solver.run.Goals as goal
use Rattle.sa_core.proofs.solver.Solver.run.Goals.{then-budget-ne0+else-left-eq0, else-budget-ne0}

pub returns-in_default-clause-answer : goal.returns-in_default-clause-answer
returns-in_default-clause-answer c =
    let own = c.loop-found.self in
    let loop = c.loop-found.invariant in
    subst (λ (cs : List (List Lit)). IsRefuted cs own.log.entries)
    (learns_added c.args.self.now.log.entries own.log.entries loop.learns)
    (refutes c.propagation_laws.ensures.rup c.loop-found.search own.variables own.log.entries c.loop-found.found
    c.in-Some.conflict loop.searching c.in-Some.is c.in_default.ensures own.holds)

pub returns-then-left-eq0-clause-answer : goal.returns-then-left-eq0-clause-answer
returns-then-left-eq0-clause-answer c =
    let own = c.loop-found.self in
    let loop = c.loop-found.invariant in (
      c.if-budget-ne0.true,
      record {
        added = learns_added c.args.self.now.log.entries own.log.entries loop.learns;
        number =
            all_spent c.args.budget c.loop-found.left own.log.entries loop.left c.if-budget-ne0.true c.if-left-eq0.true;
        learnable = subst (λ (n : ℕ). ∥ AreLearnable n own.log.entries ∥₁) loop.number own.learnable;
      },
    )

pub returns-in_err-found-in-Some-clause-learns : goal.returns-in_err-found-in-Some-clause-learns
returns-in_err-found-in-Some-clause-learns c =
    learns_more c.args.self.now.log.entries c.loop-found.self.log.entries c.learn.new.self.log.entries
    c.loop-found.invariant.learns c.in_err-found-in-Some.ensures.learns

pub loop-found-smaller-in-Some : goal.loop-found-smaller-in-Some
loop-found-smaller-in-Some c =
    let made = c.in_ok-found-in-Some.ensures in
    falls_on c.loop-found.restarts.left c.count.new.self.left c.loop-found.self.variables c.learn.new.self.variables
    c.loop-found.search c.learn.new.search c.count.ensures made.variables made.goes.number made.rises

pub loop-found-preserved-in-Some : goal.loop-found-preserved-in-Some
loop-found-preserved-in-Some c =
    let made = c.in_ok-found-in-Some.ensures in
    let loop = c.loop-found.invariant in
    let own = c.loop-found.self.log.entries in
    let new = c.learn.new.self.log.entries in
    record {
      searching = made.goes;
      learns = learns_more c.args.self.now.log.entries own new loop.learns made.learns;
      number = made.variables ∙ loop.number;
      left =
          elim c.if-budget-ne0.branch [
            | then-budget-ne0+else-left-eq0 w ↦
                one_spent c.args.budget c.loop-found.left c.if-budget-ne0.left own new loop.left w.if-left-eq0.false
                w.left-is made.count
            | else-budget-ne0 w ↦ inl w.if-budget-ne0.false
          ];
    }

pub returns-in_default-open_literal-clause-answer : goal.returns-in_default-open_literal-clause-answer
returns-in_default-open_literal-clause-answer c =
    let found = c.in_ok-assignment-in-None-2.ensures in
    let own = c.loop-found.self.log.entries in
    let loop = c.loop-found.invariant in
    let a = value_at c.in_ok-assignment-in-None-2.field-0.values in (
      found.number ∙ loop.searching.number ∙ loop.number,
      subst (Satisfies a) (learns_added c.args.self.now.log.entries own loop.learns)
          (satisfies_added a own (subst (Satisfies a) loop.searching.holds found.satisfies)),
    )

pub loop-found-smaller : goal.loop-found-smaller
loop-found-smaller c =
    let made = c.in_ok-found-in-None-2.ensures in
    falls_on c.loop-found.restarts.left c.loop-found.restarts.left c.loop-found.self.variables
    c.loop-found.self.variables c.loop-found.search c.decide.new.self refl refl
    (made.goes.variables ∙ c.loop-found.invariant.searching.number) made.goes.rises

pub loop-found-smaller-then-are_due : goal.loop-found-smaller-then-are_due
loop-found-smaller-then-are_due c =
    falls_back c.loop-found.restarts.left c.advance.new.self.left c.loop-found.self.variables c.loop-found.search
    c.restart.new.self c.advance.ensures c.loop-found.invariant.searching.number
