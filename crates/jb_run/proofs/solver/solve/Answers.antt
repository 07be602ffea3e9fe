-- What the search finds is the answer.
use Rattle.std.proofs.Common.{◌∙◌, false, map, unwrap_or, subst, ap}
use Rattle.jb_run.specs.Solved.{IsBegun, IsExtended, NoneHolds, AllHoldBy}
use Rattle.jb_run.proofs.AnswerLemmas.{unsat-goal, unsat-clauses, sat-found}
use Rattle.jb_run.proofs.solver.solve.Goals as goal

pub returns-then-not-branch : goal.returns-then-not-branch
returns-then-not-branch c =
    let begun =
    subst (IsBegun c.in_ok-nothing_set.field-0.items c.begin.new.self.values.items c.args.goal) c.if-not-branch.true
    c.in_ok-begin.ensures in
    unsat-goal c.in_ok-nothing_set.field-0.items c.begin.new.self.values.items c.args.formula.now c.args.goal
    c.in_ok-nothing_set.ensures.unset begun

pub returns-then-not-branch-2 : goal.returns-then-not-branch-2
returns-then-not-branch-2 c =
    let begun =
    subst (IsBegun c.in_ok-nothing_set.field-0.items c.begin.new.self.values.items c.args.goal)
    c.if-not-branch.false c.in_ok-begin.ensures in
    let extended =
    subst (IsExtended c.begin.new.self c.extends.new.self c.as_slice.result.now) c.if-not-branch-2.true
    c.in_ok-extends.ensures in
    unsat-clauses c.in_ok-nothing_set.field-0.items c.begin.new.self.values.items c.args.formula.now c.args.goal
    c.in_ok-nothing_set.ensures.unset begun
    (subst (NoneHolds c.begin.new.self.values.items) c.as_slice.ensures.value extended.1)

pub returns : goal.returns
returns c =
    let begun =
    subst (IsBegun c.in_ok-nothing_set.field-0.items c.begin.new.self.values.items c.args.goal)
    c.if-not-branch.false c.in_ok-begin.ensures in
    let extended =
    subst (IsExtended c.begin.new.self c.extends.new.self c.as_slice.result.now) c.if-not-branch-2.false
    c.in_ok-extends.ensures in
    sat-found c.in_ok-nothing_set.field-0.items c.begin.new.self.values.items c.extends.new.self.values.items
    c.args.formula.now c.args.goal c.in_ok-assignment.field-0.items c.in_ok-nothing_set.ensures.number begun
    (subst (AllHoldBy c.extends.new.self.values.items) c.as_slice.ensures.value extended.hold) extended.within
    (c.in_ok-assignment.ensures ∙ ap (λ z. map (λ value. unwrap_or value false) z) c.as_slice-2.ensures.value)
