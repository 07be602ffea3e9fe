use Rattle.std.proofs.Common.{◌≡◌, ◌<◌, ◌+◌, ◌++◌, ◌∷◌, [], ℕ, Bool, List, Option, Some, length, take, get_or, sym}
use Rattle.std.proofs.Common.{subst, take_all}
use Rattle.std.proofs.lemmas.List.{take_more}
use Rattle.cn_clauses.specs.declared.lit.Lit.{Lit}
use Rattle.sa_core.specs.TrailView.{lits_of, HasValue}
use Rattle.sa_core.specs.SolverView.{IsFalse}
use Rattle.sa_core.specs.Calls.Start.{IsScanned}
use Rattle.jv_list.proofs.ElementLemmas.{in_read}
use Rattle.sa_core.proofs.LitLemmas.{same_from_test, apart_from_test}
use Rattle.sa_core.proofs.StartLemmas.{in_front, scanned_false, scanned_first, scanned_again}
use Rattle.sa_core.proofs.start.shown_by.Goals as goal
use Rattle.sa_core.proofs.start.shown_by.Goals.{in-Some-false, in-None+in-None-single, in-None+in-Some+else-ne}

abbrev first_lit : Lit
first_lit = record { 0 = 0 }

more : (trail lits : List Lit) (i : ℕ) (o p : Option Lit) → i < length lits → p ≡ o
    → IsScanned trail (take i lits ++ get_or lits i first_lit ∷ []) o → IsScanned trail (take (i + 1) lits) p
more trail lits i o p lt e h =
    subst (IsScanned trail (take (i + 1) lits)) (sym e)
    (subst (λ (l : List Lit). IsScanned trail l o) (sym (take_more lits i first_lit lt)) h)

pub returns-in-Some-true : goal.returns-in-Some-true
returns-in-Some-true c =
    let lit = get_or c.args.lits.now c.loop-lit.lit-index first_lit in
    record {
      lit = lit;
      within = in_read c.args.lits.now c.loop-lit.lit-index first_lit c.loop-lit-test.true;
      stands =
          subst (λ (b : Bool). HasValue (lits_of c.args.trail.now.steps) lit (Some b)) c.in-Some-true.field-0-test
          c.in-Some-true.ensures;
    }

pub returns-then-ne : goal.returns-then-ne
returns-then-ne c =
    let lits = c.args.lits.now in
    let i = c.loop-lit.lit-index in
    let lit = get_or lits i first_lit in
    let other = c.in-Some.other in
    let asks = subst (IsScanned (lits_of c.args.trail.now.steps) (take i lits)) c.in-Some.is c.loop-lit.invariant in
    record {
      first = in_front i lits other asks.unit.within;
      second = in_read lits i first_lit c.loop-lit-test.true;
      apart = apart_from_test other lit c.ne.result c.ne.ensures c.if-ne.true;
      first_left = asks.unset.not_false;
      second_left = c.in-None.ensures.not_false;
    }

pub loop-lit-preserved : goal.loop-lit-preserved
loop-lit-preserved c =
    let trail = lits_of c.args.trail.now.steps in
    let lits = c.args.lits.now in
    let i = c.loop-lit.lit-index in
    let lit = get_or lits i first_lit in
    let single = c.match-value.single in
    let lt = c.loop-lit-test.true in
    elim c.match-value.branch [
      | in-Some-false w ↦
          more trail lits i c.loop-lit.single single lt w.single-is
          (scanned_false trail (take i lits) lit c.loop-lit.single c.loop-lit.invariant
          (subst (λ (b : Bool). HasValue trail lit (Some b)) w.in-Some-false.field-0-test w.in-Some-false.ensures))
      | in-None+in-None-single w ↦
          more trail lits i (Some lit) single lt w.single-is
          (scanned_first trail (take i lits) lit
          (subst (IsScanned trail (take i lits)) w.in-None-single.is c.loop-lit.invariant) w.in-None.ensures)
      | in-None+in-Some+else-ne w ↦
          more trail lits i (Some w.in-Some.other) single lt w.single-is
          (scanned_again trail (take i lits) lit w.in-Some.other
          (same_from_test w.in-Some.other lit w.ne.result w.ne.ensures w.if-ne.false)
          (subst (IsScanned trail (take i lits)) w.in-Some.is c.loop-lit.invariant))
    ]

pub returns-in-None-single-2 : goal.returns-in-None-single-2
returns-in-None-single-2 c =
    let trail = lits_of c.args.trail.now.steps in
    let lits = c.args.lits.now in
    let i = c.loop-lit.lit-index in
    subst (IsFalse trail (length trail)) (take_all i lits c.loop-lit-test.false)
    (subst (IsScanned trail (take i lits)) c.in-None-single-2.is c.loop-lit.invariant)
