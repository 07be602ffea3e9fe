-- Propagation: what stands before and after the looks at the clauses that a literal watches.
use Rattle.std.proofs.Common.{◌≡◌, ℕ, ◌+◌, ◌<◌, ◌≤◌, List, length, Some, None, Contains}
use Rattle.std.proofs.Common.{slice_get, subst, inl, inr, arith}
use Rattle.std.proofs.lemmas.Option.{slice_get_within}
use Rattle.jv_list.proofs.ElementLemmas.{place_of, one_at}
use Rattle.cn_clauses.specs.declared.lit.Lit.{Lit}
use Rattle.cn_clauses.specs.Literals.{opposite_of}
use Rattle.cn_clauses.specs.Laws.{OppositeTwice}
use Rattle.sa_core.specs.declared.step.Step.{Step}
use Rattle.sa_core.specs.declared.watches.Watchers.{Watchers}
use Rattle.sa_core.specs.declared.pair.Pair.{Pair}
use Rattle.sa_core.specs.TrailView.{lits_of, Grows}
use Rattle.sa_core.specs.Watching.{IsListed, AreGuarded, IsCount, IsKept}
use Rattle.sa_core.specs.Calls.Propagate.{IsAwaited, IsTurning, Visits}
use Rattle.sa_core.proofs.LitLemmas.{cases_lit}
use Rattle.sa_core.proofs.GuardLemmas.{guards_before}
use Rattle.sa_core.proofs.PropagateLemmas.{guards_next}

-- a look after which the next one follows
pub visits_on : (variables : ℕ) (clauses : List (List Lit)) (watchers : Watchers) (old new : List Step) (head : ℕ)
    (lit : Lit) (index : ℕ) → Grows old new → IsTurning variables clauses watchers new head lit index
    → Visits variables clauses watchers old new head lit index None
visits_on variables clauses watchers old new head lit index grows turning =
    record { grows = grows; kept = turning.kept; visited = turning }

-- at first each clause that the literal watches is still to be looked at
pub turning_begin : (twice : OppositeTwice) (variables : ℕ) (clauses : List (List Lit)) (watchers : Watchers)
    (steps : List Step) (head : ℕ) (lit : Lit) (count : ℕ) → IsKept variables clauses watchers steps
    → slice_get (lits_of steps) head ≡ Some (opposite_of lit)
    → AreGuarded clauses watchers.pairs (lits_of steps) head (length (lits_of steps))
    → IsCount watchers.lists.items lit.0 count → IsTurning variables clauses watchers steps head lit count
turning_begin twice variables clauses watchers steps head lit count kept falsified guarded counted =
    let counts : count ≡ length counted.list = counted.counts in
    let awaits : (p : ℕ) → IsListed watchers.lists.items lit.0 p → IsAwaited counted.list count p =
    λ p listed.
    let has : Contains counted.list p =
    subst (λ (l : List ℕ). Contains l p)
    (one_at watchers.lists.items lit.0 listed.list counted.list listed.is counted.is) listed.has in
    let i = place_of counted.list p has in
    let lt : i.0 < length counted.list = slice_get_within counted.list i.0 p i.1 in
    record { at = i.0; before = omega (arith, lt, counts); is = i.1 } in
    record {
      kept = kept;
      falsified = falsified;
      list = counted.list;
      is = counted.is;
      room = omega (arith, counts);
      passed = λ p lits pair is has.
          elim (guarded p lits pair is has) [
            | inl h ↦ inl (inl h)
            | inr h ↦
                let both = kept.stored.listed p pair has h.apart in
                elim (cases_lit pair.first lit) [
                  | inl same ↦
                      inr
                      (inr h, awaits p (subst (λ (l : Lit). IsListed watchers.lists.items l.0 p) same both.first))
                  | inr not_first ↦
                      elim (cases_lit pair.second lit) [
                        | inl same ↦
                            inr (
                              inr h,
                              awaits p (subst (λ (l : Lit). IsListed watchers.lists.items l.0 p) same both.second),
                            )
                        | inr not_second ↦
                            inl
                            (inr
                            (guards_next twice (lits_of steps) head lit falsified lits pair not_first not_second h))
                      ]
                ]
          ];
    }

-- at last none is
pub turning_done : (variables : ℕ) (clauses : List (List Lit)) (watchers : Watchers) (steps : List Step) (head : ℕ)
    (lit : Lit) (index : ℕ) → index ≤ 0 → IsTurning variables clauses watchers steps head lit index
    → AreGuarded clauses watchers.pairs (lits_of steps) (head + 1) (length (lits_of steps))
turning_done variables clauses watchers steps head lit index none turning p lits pair is has =
    elim (turning.passed p lits pair is has) [
      | inl done ↦ done
      | inr w ↦ let lt : w.1.at < index = w.1.before in absurd (omega (arith, lt, none))
    ]

-- where no literal is left, propagation has ended
pub ended_at : (clauses : List (List Lit)) (pairs : List Pair) (trail : List Lit) (head : ℕ) → length trail ≤ head
    → AreGuarded clauses pairs trail head (length trail)
    → AreGuarded clauses pairs trail (length trail) (length trail)
ended_at clauses pairs trail head le guarded p lits pair is has =
    elim (guarded p lits pair is has) [
      | inl h ↦ inl h
      | inr h ↦ inr (guards_before trail head (length trail) lits pair le h)
    ]
