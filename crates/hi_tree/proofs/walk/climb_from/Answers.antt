use Rattle.std.proofs.Common.{◌≡◌, ℕ, Bool, List, None, ap, refl, subst}
use Rattle.std.proofs.lemmas.Result.{err_from_is_err_and}
use Rattle.hi_tree.specs.declared.walk.Walk.{Walk}
use Rattle.hi_tree.specs.declared.walk.Next.{Next}
use Rattle.hi_tree.specs.Supers.{climb}
use Rattle.hi_tree.specs.Calls.Steps.{above_name, sought_of}
use Rattle.hi_tree.specs.Calls.Walking.{Comes, Leads, mark_of, steps_of, names_met}
use Rattle.hi_tree.proofs.ClimbLemmas.{start_found, start_fails, start_passes, over, left_under, left_less}
use Rattle.hi_tree.proofs.ClimbLemmas.{above_found, above_fails, above_under, above_less}
use Rattle.hi_tree.proofs.walk.climb_from.Goals as goal

pub returns-in_err-come-clause-fault : goal.returns-in_err-come-clause-fault
returns-in_err-come-clause-fault c =
    let p = err_from_is_err_and c.from_residual.result c.from_residual.ensures.1 in
    let first : Walk = record { marks = c.new.result; frames = c.new-2.result; done = c.new-3.result } in
    let none : (q : List ℕ) → mark_of c.new.result q ≡ None = λ q. rw c.new.ensures.empty refl in
    rw (p.1, p.2)
    (start_fails c.args.classes.now c.args.up (sought_of c.args.sought) (above_name c.args.class) first first none
    (ap (λ fs. steps_of c.args.up fs) c.new-2.ensures) (ap (λ ds. names_met ds) c.new-3.ensures) c.in_err-come.field-0.0
    (c.in_err-come.ensures.fails c.args.up))

pub returns-then-branch-clause-found : goal.returns-then-branch-clause-found
returns-then-branch-clause-found c =
    let first : Walk = record { marks = c.new.result; frames = c.new-2.result; done = c.new-3.result } in
    let none : (q : List ℕ) → mark_of c.new.result q ≡ None = λ q. rw c.new.ensures.empty refl in
    start_found c.args.classes.now c.args.up (sought_of c.args.sought)
    (above_name c.args.class) first c.come.new.walk none (ap (λ fs. steps_of c.args.up fs) c.new-2.ensures)
    (ap (λ ds. names_met ds) c.new-3.ensures)
    (subst (λ (b : Bool). Comes (climb c.args.classes.now c.args.up (sought_of c.args.sought)) c.args.up
    (above_name c.args.class) first c.come.new.walk b)
    c.if-branch.true (c.in_ok-come.ensures.comes c.args.up))

pub loop-walk-init : goal.loop-walk-init
loop-walk-init c =
    let first : Walk = record { marks = c.new.result; frames = c.new-2.result; done = c.new-3.result } in
    let none : (q : List ℕ) → mark_of c.new.result q ≡ None = λ q. rw c.new.ensures.empty refl in
    start_passes c.args.classes.now c.args.up (sought_of c.args.sought)
    (above_name c.args.class) first c.come.new.walk none (ap (λ fs. steps_of c.args.up fs) c.new-2.ensures)
    (ap (λ ds. names_met ds) c.new-3.ensures)
    (subst (λ (b : Bool). Comes (climb c.args.classes.now c.args.up (sought_of c.args.sought)) c.args.up
    (above_name c.args.class) first c.come.new.walk b)
    c.if-branch.false (c.in_ok-come.ensures.comes c.args.up))

pub returns-in-Over-clause-found : goal.returns-in-Over-clause-found
returns-in-Over-clause-found c =
    over c.args.classes.now c.args.up (sought_of c.args.sought)
    (above_name c.args.class) c.loop-walk.walk c.loop-walk.invariant c.lead.new.walk
    (subst (λ (n : Next). Leads c.args.up c.loop-walk.walk c.lead.new.walk n) c.in-Over.is c.in_ok-lead.ensures)

pub loop-walk-smaller-in-Left : goal.loop-walk-smaller-in-Left
loop-walk-smaller-in-Left c =
    left_less c.args.classes.now c.args.up (sought_of c.args.sought)
    (above_name c.args.class) c.loop-walk.walk c.loop-walk.invariant c.lead.new.walk
    (subst (λ (n : Next). Leads c.args.up c.loop-walk.walk c.lead.new.walk n) c.in-Left.is c.in_ok-lead.ensures)

pub loop-walk-preserved-in-Left : goal.loop-walk-preserved-in-Left
loop-walk-preserved-in-Left c =
    left_under c.args.classes.now c.args.up (sought_of c.args.sought)
    (above_name c.args.class) c.loop-walk.walk c.loop-walk.invariant c.lead.new.walk
    (subst (λ (n : Next). Leads c.args.up c.loop-walk.walk c.lead.new.walk n) c.in-Left.is c.in_ok-lead.ensures)

pub returns-in_err-come-in-Above-clause-fault : goal.returns-in_err-come-in-Above-clause-fault
returns-in_err-come-in-Above-clause-fault c =
    let p = err_from_is_err_and c.from_residual-in_err-come-in-Above.result
    c.from_residual-in_err-come-in-Above.ensures.1 in
    rw (p.1, p.2)
    (above_fails c.args.classes.now c.args.up (sought_of c.args.sought)
    (above_name c.args.class) c.loop-walk.walk c.loop-walk.invariant c.lead.new.walk c.in-Above.above
    (subst (λ (n : Next). Leads c.args.up c.loop-walk.walk c.lead.new.walk n) c.in-Above.is c.in_ok-lead.ensures)
    c.in_err-come-in-Above.field-0.0 (c.in_err-come-in-Above.ensures.fails c.args.up))

pub returns-then-branch-2-clause-found : goal.returns-then-branch-2-clause-found
returns-then-branch-2-clause-found c =
    above_found c.args.classes.now c.args.up (sought_of c.args.sought)
    (above_name c.args.class) c.loop-walk.walk c.loop-walk.invariant c.lead.new.walk c.in-Above.above
    (subst (λ (n : Next). Leads c.args.up c.loop-walk.walk c.lead.new.walk n) c.in-Above.is c.in_ok-lead.ensures)
    c.come-in-Above.new.walk
    (subst (λ (b : Bool). Comes (climb c.args.classes.now c.args.up (sought_of c.args.sought)) c.args.up
    (above_name c.in-Above.above) c.lead.new.walk c.come-in-Above.new.walk b)
    c.if-branch-2.true (c.in_ok-come-in-Above.ensures.comes c.args.up))

pub loop-walk-smaller : goal.loop-walk-smaller
loop-walk-smaller c =
    above_less c.args.classes.now c.args.up (sought_of c.args.sought)
    (above_name c.args.class) c.loop-walk.walk c.loop-walk.invariant c.lead.new.walk c.in-Above.above
    (subst (λ (n : Next). Leads c.args.up c.loop-walk.walk c.lead.new.walk n) c.in-Above.is c.in_ok-lead.ensures)
    c.come-in-Above.new.walk
    (subst (λ (b : Bool). Comes (climb c.args.classes.now c.args.up (sought_of c.args.sought)) c.args.up
    (above_name c.in-Above.above) c.lead.new.walk c.come-in-Above.new.walk b)
    c.if-branch-2.false (c.in_ok-come-in-Above.ensures.comes c.args.up))

pub loop-walk-preserved : goal.loop-walk-preserved
loop-walk-preserved c =
    above_under c.args.classes.now c.args.up (sought_of c.args.sought)
    (above_name c.args.class) c.loop-walk.walk c.loop-walk.invariant c.lead.new.walk c.in-Above.above
    (subst (λ (n : Next). Leads c.args.up c.loop-walk.walk c.lead.new.walk n) c.in-Above.is c.in_ok-lead.ensures)
    c.come-in-Above.new.walk
    (subst (λ (b : Bool). Comes (climb c.args.classes.now c.args.up (sought_of c.args.sought)) c.args.up
    (above_name c.in-Above.above) c.lead.new.walk c.come-in-Above.new.walk b)
    c.if-branch-2.false (c.in_ok-come-in-Above.ensures.comes c.args.up))
