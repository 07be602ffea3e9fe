-- A split has two halves, and each has all of its assignments.
use Rattle.std.proofs.Common.{◌≡◌, ◌+◌, true, false, length, ap, subst, ◌∙◌, arith}
use Rattle.jb_run.specs.Solved.{Settles, IsExtended, IsExtendedBy, NoneHolds, unset_count}
use Rattle.jb_run.proofs.AssignmentLemmas.{unset_count-set, Grows-assign, Grows-then}
use Rattle.jb_run.proofs.AssignmentLemmas.{IsSame-undo, IsWithin-grows, IsWithin-set}
use Rattle.jb_run.proofs.PassLemmas.{IsExtended-settled, IsFoundBy-more, IsFoundBy-same, none-split, IsSame-more}
use Rattle.jb_run.proofs.solver.Search.+split.Goals as goal

pub extends-returns-in_default : goal.extends-returns-in_default
extends-returns-in_default t c =
    IsExtended-settled c.args.self.now c.propagate.new.self c.args.clauses.now
    (subst (Settles c.args.self.now c.propagate.new.self c.args.clauses.now) c.if-not-branch.false
    c.in_ok-propagate.ensures)
    c.in_default.ensures.unset

pub extends-returns-then-branch : goal.extends-returns-then-branch
extends-returns-then-branch t c =
    let settled =
    subst (Settles c.args.self.now c.propagate.new.self c.args.clauses.now) c.if-not-branch.false
    c.in_ok-propagate.ensures in
    IsFoundBy-more c.args.self.now c.propagate.new.self c.extends_by.new.self c.args.clauses.now
    (IsWithin-grows c.args.self.now c.propagate.new.self settled.0.grows)
    (subst (IsExtendedBy c.propagate.new.self c.extends_by.new.self c.args.clauses.now c.in-Some.variable false)
    c.if-branch.true c.in_ok-extends_by.ensures)

pub extends-returns-then-branch-2 : goal.extends-returns-then-branch-2
extends-returns-then-branch-2 t c =
    let settled =
    subst (Settles c.args.self.now c.propagate.new.self c.args.clauses.now) c.if-not-branch.false
    c.in_ok-propagate.ensures in
    let first =
    subst (IsExtendedBy c.propagate.new.self c.extends_by.new.self c.args.clauses.now c.in-Some.variable false)
    c.if-branch.false c.in_ok-extends_by.ensures in
    let second =
    subst (IsExtendedBy c.extends_by.new.self c.extends_by-2.new.self c.args.clauses.now c.in-Some.variable true)
    c.if-branch-2.true c.in_ok-extends_by-2.ensures in
    IsFoundBy-more c.args.self.now c.propagate.new.self c.extends_by-2.new.self c.args.clauses.now
    (IsWithin-grows c.args.self.now c.propagate.new.self settled.0.grows)
    (IsFoundBy-same c.propagate.new.self c.extends_by.new.self c.extends_by-2.new.self c.args.clauses.now first.0
    second)

pub extends-returns : goal.extends-returns
extends-returns t c =
    let settled =
    subst (Settles c.args.self.now c.propagate.new.self c.args.clauses.now) c.if-not-branch.false
    c.in_ok-propagate.ensures in
    let first =
    subst (IsExtendedBy c.propagate.new.self c.extends_by.new.self c.args.clauses.now c.in-Some.variable false)
    c.if-branch.false c.in_ok-extends_by.ensures in
    let second =
    subst (IsExtendedBy c.extends_by.new.self c.extends_by-2.new.self c.args.clauses.now c.in-Some.variable true)
    c.if-branch-2.false c.in_ok-extends_by-2.ensures in
    let same = IsSame-more c.propagate.new.self c.extends_by.new.self c.extends_by-2.new.self first.0 second.0 in
    let mark : c.len-mark.result ≡ length c.args.self.now.trail.items = c.len-mark.ensures ∙ c.args.self.now.trail.ok.0
    in (
      IsSame-undo c.args.self.now c.extends_by-2.new.self c.undo-2.new.self c.len-mark.result
          (Grows-then c.args.self.now c.propagate.new.self c.extends_by-2.new.self settled.0.grows same) mark
          c.undo-2.ensures.values c.undo-2.ensures.trail,
      none-split c.args.self.now c.propagate.new.self c.extends_by.new.self c.in-Some.variable c.args.clauses.now
          settled.0 first.0 first.1 second.1,
    )

pub extends_by-extends-requires : goal.extends_by-extends-requires
extends_by-extends-requires t c =
    let less : unset_count c.assign.new.self.values.items + 1 ≡ unset_count c.args.self.now.values.items =
    ap (λ z. unset_count z + 1) c.in_ok-assign.ensures.values
    ∙ unset_count-set c.args.self.now.values.items c.args.variable c.args.value c.requires in
    (omega (arith, less), tt)

pub extends_by-returns-then-branch : goal.extends_by-returns-then-branch
extends_by-returns-then-branch t c =
    IsFoundBy-more c.args.self.now c.assign.new.self c.extends.new.self c.args.clauses.now
    (IsWithin-set c.args.self.now.values.items c.assign.new.self.values.items c.args.variable c.args.value c.requires
    c.in_ok-assign.ensures.values)
    (subst (IsExtended c.assign.new.self c.extends.new.self c.args.clauses.now) c.if-branch.true
    c.in_ok-extends.ensures)

pub extends_by-returns : goal.extends_by-returns
extends_by-returns t c =
    let tried =
    subst (IsExtended c.assign.new.self c.extends.new.self c.args.clauses.now) c.if-branch.false
    c.in_ok-extends.ensures in
    let grows =
    Grows-assign c.args.self.now c.assign.new.self c.args.variable c.args.value c.requires
    c.in_ok-assign.ensures.values c.in_ok-assign.ensures.trail in
    let mark : c.len-mark.result ≡ length c.args.self.now.trail.items = c.len-mark.ensures ∙ c.args.self.now.trail.ok.0
    in (
      IsSame-undo c.args.self.now c.extends.new.self c.undo.new.self c.len-mark.result
          (Grows-then c.args.self.now c.assign.new.self c.extends.new.self grows tried.0) mark c.undo.ensures.values
          c.undo.ensures.trail,
      subst (λ z. NoneHolds z c.args.clauses.now) c.in_ok-assign.ensures.values tried.1,
    )
