-- The start of a search: what a clause shows, and what becomes of it.
use Rattle.std.proofs.Common.{◌≡◌, ℕ, ◌+◌, ◌<◌, ◌≤◌, true, false, List, [], ◌∷◌, ◌++◌, length, set, take, Option, Some}
use Rattle.std.proofs.Common.{None, Contains, slice_get, sym, ap, ◌∙◌, subst, inl, inr, refl, arith, length-set}
use Rattle.std.proofs.lemmas.Option.{slice_get_within, same_Some, none-some}
use Rattle.std.proofs.lemmas.Bool.{cases_eq}
use Rattle.std.proofs.lemmas.List.Elements.{Contains-push, Contains-push_cases, Contains-append_left}
use Rattle.jv_list.proofs.MemberLemmas.{none_member}
use Rattle.jv_list.proofs.ElementLemmas.{place_of, at_contains, one_at, from_take}
use Rattle.cn_clauses.specs.declared.lit.Lit.{Lit}
use Rattle.cn_clauses.specs.Literals.{opposite_of}
use Rattle.sa_core.specs.declared.step.Step.{Step}
use Rattle.sa_core.specs.declared.watches.Watchers.{Watchers}
use Rattle.sa_core.specs.declared.pair.Pair.{Pair}
use Rattle.sa_core.specs.TrailView.{lits_of, Stands, IsOpen, Grows}
use Rattle.sa_core.specs.SolverView.{IsFalse, IsUnit, IsJustifiedBy}
use Rattle.sa_core.specs.Watching.{IsTrueBefore, Guards, IsStored, IsKept, Watches}
use Rattle.sa_core.specs.Calls.Start.{AsksFor, IsScanned, IsStarted, StartsAt, Starts}
use Rattle.sa_core.proofs.TrailLemmas.{lits_length}
use Rattle.sa_core.proofs.GrowLemmas.{grows_same, grows_more, grows_push, pushed_stands}
use Rattle.sa_core.proofs.GuardLemmas.{guards_before, guarded_on, were_push, guarded_set, pair_here, pair_there}
use Rattle.sa_core.proofs.SearchLemmas.{justified_push}
use Rattle.sa_core.proofs.WatchLemmas.{watches_length, watches_listed}

-- an element of a front is one of the list
pub in_front : {X : Type 0} (n : ℕ) (xs : List X) (x : X) → Contains (take n xs) x → Contains xs x
in_front n xs x h =
    let p = place_of (take n xs) x h in
    at_contains xs p.0 x (from_take n xs p.0 x p.1).1

-- the literals of a clause, one after another
module _ (trail : List Lit) (lits : List Lit) where
  pub scanned_none : IsScanned trail [] None
  scanned_none = λ lit has. absurd (none_member lit has)

  -- a literal that is false changes nothing
  pub scanned_false : (lit : Lit) (single : Option Lit) → IsScanned trail lits single
      → Stands trail (length trail) (opposite_of lit) → IsScanned trail (lits ++ lit ∷ []) single
  scanned_false lit None was given = λ other has.
      elim (Contains-push_cases lits lit other has) [
        | inl old ↦ was other old
        | inr same ↦ subst (λ (l : Lit). Stands trail (length trail) (opposite_of l)) same given
      ]
  scanned_false lit (Some one) was given =
      record {
        unit =
            record {
              within = Contains-append_left lits (lit ∷ []) one was.unit.within;
              others = λ other has ne.
                  elim (Contains-push_cases lits lit other has) [
                    | inl old ↦ was.unit.others other old ne
                    | inr same ↦ subst (λ (l : Lit). Stands trail (length trail) (opposite_of l)) same given
                  ];
            };
        unset = was.unset;
      }

  -- the first that is open
  pub scanned_first : (lit : Lit) → IsScanned trail lits None → IsOpen trail (length trail) lit
      → IsScanned trail (lits ++ lit ∷ []) (Some lit)
  scanned_first lit was unset =
      record {
        unit =
            record {
              within = Contains-push lits lit;
              others = λ other has ne.
                  elim (Contains-push_cases lits lit other has) [
                    | inl old ↦ was other old
                    | inr same ↦ absurd (ne (sym same))
                  ];
            };
        unset = unset;
      }

  -- the same once more
  pub scanned_again : (lit one : Lit) → one ≡ lit → IsScanned trail lits (Some one)
      → IsScanned trail (lits ++ lit ∷ []) (Some one)
  scanned_again lit one is was =
      record {
        unit =
            record {
              within = Contains-append_left lits (lit ∷ []) one was.unit.within;
              others = λ other has ne.
                  elim (Contains-push_cases lits lit other has) [
                    | inl old ↦ was.unit.others other old ne
                    | inr same ↦ absurd (ne (sym same ∙ sym is))
                  ];
            };
        unset = was.unset;
      }

-- a literal that a clause asks for is pushed
module _ (variables : ℕ) (clauses : List (List Lit)) (watchers : Watchers) (steps : List Step)
    (kept : IsKept variables clauses watchers steps) (place : ℕ) (lits : List Lit)
    (is : slice_get clauses place ≡ Some lits) (lit : Lit)
    (unit : IsUnit (lits_of steps) (length (lits_of steps)) lits lit) (step : Step) (by : step.lit ≡ lit)
    (reason : step.reason ≡ Some place) (new : List Step) (pushed : new ≡ steps ++ step ∷ []) where
  implied : (o : Option ℕ) → o ≡ Some place → IsJustifiedBy clauses (lits_of steps) (length steps) step.lit o
  implied None e = absurd (none-some place e)
  implied (Some other) e =
      record {
        lits = lits;
        stands = ap (slice_get clauses) (same_Some other place e) ∙ is;
        unit =
            subst (λ (l : Lit). IsUnit (lits_of steps) (length steps) lits l) (sym by)
            (subst (λ (n : ℕ). IsUnit (lits_of steps) n lits lit) (lits_length steps) unit);
      }

  pub push_kept : IsKept variables clauses watchers new
  push_kept =
      record {
        stored = kept.stored;
        justified = justified_push clauses steps new step pushed kept.justified (implied step.reason reason);
        guarded =
            were_push clauses watchers.pairs steps new step pushed kept.guarded
            (λ none. absurd (none-some place (sym none ∙ reason)));
      }

  pub push_true : IsTrueBefore (lits_of new) (length (lits_of new)) lits
  push_true = record { lit = lit; within = unit.within; stands = pushed_stands steps new step lit pushed by }

-- a clause gets a pair
pub stored_watch : (variables : ℕ) (clauses : List (List Lit)) (watchers new : Watchers) (pair : Pair) (place : ℕ)
    → IsStored variables clauses watchers → place < length watchers.pairs
    → Watches watchers.lists.items new.lists.items pair place → new.pairs ≡ set watchers.pairs place pair
    → IsStored variables clauses new
stored_watch variables clauses watchers new pair place stored within lists pairs =
    record {
      size = watches_length watchers.lists.items new.lists.items pair place lists ∙ stored.size;
      count = ap length pairs ∙ length-set watchers.pairs place pair ∙ stored.count;
      listed =
          watches_listed watchers.lists.items new.lists.items pair place lists watchers.pairs new.pairs pairs within
          stored.listed;
      within = stored.within;
    }

-- one clause
module _ (variables : ℕ) (clauses : List (List Lit)) (watchers : Watchers) (steps : List Step)
    (kept : IsKept variables clauses watchers steps) (place : ℕ) (lits : List Lit)
    (is : slice_get clauses place ≡ Some lits) where
  started_true : (pairs : List Pair) (trail : List Lit) → IsTrueBefore trail (length trail) lits
      → IsStarted clauses pairs trail place
  started_true pairs trail h others pair e f =
      inl (subst (IsTrueBefore trail (length trail)) (one_at clauses place lits others is e) h)

  pub start_true : IsTrueBefore (lits_of steps) (length (lits_of steps)) lits
      → StartsAt variables clauses watchers watchers steps steps place true
  start_true h =
      record {
        grows = grows_same steps;
        kept = kept;
        others = λ at ne. refl;
        started = started_true watchers.pairs (lits_of steps) h;
      }

  pub start_conflict : IsFalse (lits_of steps) (length (lits_of steps)) lits
      → StartsAt variables clauses watchers watchers steps steps place false
  start_conflict h =
      record {
        grows = grows_same steps;
        kept = kept;
        others = λ at ne. refl;
        started = record { lits = lits; stands = is; fails = h };
      }

  pub start_literal : (lit : Lit) → AsksFor (lits_of steps) lits lit → (step : Step) → step.lit ≡ lit
      → step.reason ≡ Some place → (new : List Step) → new ≡ steps ++ step ∷ []
      → StartsAt variables clauses watchers watchers steps new place true
  start_literal lit asks step by reason new pushed =
      record {
        grows = grows_push steps new step pushed;
        kept =
            push_kept variables clauses watchers steps kept place lits is lit asks.unit step by reason new pushed;
        others = λ at ne. refl;
        started =
            started_true watchers.pairs (lits_of new)
            (push_true variables clauses watchers steps kept place lits is lit asks.unit step by reason new pushed);
      }

  pub start_open : (pair : Pair) → Guards (lits_of steps) (length (lits_of steps)) lits pair → (new : Watchers)
      → Watches watchers.lists.items new.lists.items pair place → new.pairs ≡ set watchers.pairs place pair
      → StartsAt variables clauses watchers new steps steps place true
  start_open pair h new lists pairs =
      let lt : place < length clauses = slice_get_within clauses place lits is in
      let count : length watchers.pairs ≡ length clauses = kept.stored.count in
      let within : place < length watchers.pairs = omega (arith, lt, count) in
      record {
        grows = grows_same steps;
        kept =
            record {
              stored = stored_watch variables clauses watchers new pair place kept.stored within lists pairs;
              justified = kept.justified;
              guarded = λ n step e none.
                  let before : n < length steps = slice_get_within steps n step e in
                  guarded_set clauses watchers.pairs new.pairs place pair pairs within (lits_of steps) n n
                  (kept.guarded n step e none)
                  (λ others f.
                  inr
                  (subst (λ (l : List Lit). Guards (lits_of steps) n l pair) (one_at clauses place lits others is f)
                  (guards_before (lits_of steps) (length (lits_of steps)) n lits pair
                  (omega (arith, before, lits_length steps)) h)));
            };
        others = pair_there clauses watchers.pairs new.pairs place pair pairs within;
        started = λ others other e f.
            inr
            (subst (λ (p : Pair). Guards (lits_of steps) 0 others p)
            (pair_here clauses watchers.pairs new.pairs place pair pairs within other f)
            (subst (λ (l : List Lit). Guards (lits_of steps) 0 l pair) (one_at clauses place lits others is e)
            (guards_before (lits_of steps) (length (lits_of steps)) 0 lits pair (omega arith) h)));
      }

-- one clause after another
module _ (variables : ℕ) (clauses : List (List Lit)) (watched watchers : Watchers) (old mid new : List Step)
    (place : ℕ) (grows : Grows old mid) where
  pub started_more : ((at : ℕ) → at < place → IsStarted clauses watched.pairs (lits_of mid) at)
      → StartsAt variables clauses watched watchers mid new place true
      → (at : ℕ) → at < place + 1 → IsStarted clauses watchers.pairs (lits_of new) at
  started_more were one at lt =
      elim (cases_eq at place) [
        | inl same ↦ subst (λ (n : ℕ). IsStarted clauses watchers.pairs (lits_of new) n) (sym same) one.started
        | inr ne ↦ λ lits pair is has.
            guarded_on mid new one.grows 0 lits pair (omega arith)
            (were at (omega (arith, lt, ne)) lits pair is (sym (one.others at ne) ∙ has))
      ]

  pub starts_fails : StartsAt variables clauses watched watchers mid new place false
      → Starts variables clauses watchers old new (Some place)
  starts_fails one =
      record { grows = grows_more old mid new grows one.grows; kept = one.kept; started = one.started }

-- and all of them
pub starts_done : (variables : ℕ) (clauses : List (List Lit)) (watchers : Watchers) (old new : List Step) (place : ℕ)
    → length clauses ≤ place → Grows old new → IsKept variables clauses watchers new
    → ((at : ℕ) → at < place → IsStarted clauses watchers.pairs (lits_of new) at)
    → Starts variables clauses watchers old new None
starts_done variables clauses watchers old new place past grows kept were =
    record {
      grows = grows;
      kept = kept;
      started = λ at lits pair is has.
          let lt : at < length clauses = slice_get_within clauses at lits is in
          were at (omega (arith, lt, past)) lits pair is has;
    }
