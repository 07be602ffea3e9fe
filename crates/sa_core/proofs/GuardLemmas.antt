-- Clauses that are guarded: as the trail grows and is cut, and as a pair changes.
use Rattle.std.proofs.Common.{◌≡◌, ℕ, ◌<◌, ◌≤◌, List, [], ◌∷◌, ◌++◌, length, set, Some, None}
use Rattle.std.proofs.Common.{slice_get, sym, ap, ◌∙◌, subst, inl, inr, arith}
use Rattle.std.proofs.lemmas.Bool.{cases_eq}
use Rattle.std.proofs.lemmas.Option.{slice_get_within}
use Rattle.jv_list.proofs.PlaceLemmas.{slice_get-push_cases, slice_get-set_same, slice_get-set_other}
use Rattle.jv_list.proofs.ElementLemmas.{place_of, one_at, some_at}
use Rattle.cn_clauses.specs.declared.lit.Lit.{Lit}
use Rattle.cn_clauses.specs.Literals.{opposite_of}
use Rattle.sa_core.specs.declared.step.Step.{Step}
use Rattle.sa_core.specs.declared.pair.Pair.{Pair}
use Rattle.sa_core.specs.TrailView.{lits_of, Stands, Grows}
use Rattle.sa_core.specs.SolverView.{IsSettled, ByTrue, ByOpen, AreSettled}
use Rattle.sa_core.specs.Watching.{IsTrueBefore, Guards, IsGuarded, AreGuarded, WereGuarded}
use Rattle.sa_core.proofs.TrailLemmas.{lits_length}
use Rattle.sa_core.proofs.GrowLemmas.{grows_push, at_or_not, stands_kept, stood}

-- a literal that stands before a place stands before each later one
pub stands_later : (trail : List Lit) (limit later : ℕ) (lit : Lit) → limit ≤ later → Stands trail limit lit
    → Stands trail later lit
stands_later trail limit later lit le s =
    let lt : s.place < limit = s.before in
    record { place = s.place; before = omega (arith, lt, le); is = s.is }

-- a pair that guards a clause does so from each earlier place on
pub guards_before : (trail : List Lit) (from start : ℕ) (lits : List Lit) (pair : Pair) → start ≤ from
    → Guards trail from lits pair → Guards trail start lits pair
guards_before trail from start lits pair le h =
    record {
      first = h.first;
      second = h.second;
      apart = h.apart;
      first_left = λ s. h.first_left (stands_later trail start from (opposite_of pair.first) le s);
      second_left = λ s. h.second_left (stands_later trail start from (opposite_of pair.second) le s);
    }

module _ (old new : List Step) (grows : Grows old new) where
  true_kept : (limit later : ℕ) (lits : List Lit) → limit ≤ later → IsTrueBefore (lits_of old) limit lits
      → IsTrueBefore (lits_of new) later lits
  true_kept limit later lits le h =
      record {
        lit = h.lit;
        within = h.within;
        stands =
            stands_later (lits_of new) limit later h.lit le (stands_kept old new grows limit h.lit h.stands);
      }

  guards_kept : (from : ℕ) (lits : List Lit) (pair : Pair) → from ≤ length old → Guards (lits_of old) from lits pair
      → Guards (lits_of new) from lits pair
  guards_kept from lits pair le h =
      record {
        first = h.first;
        second = h.second;
        apart = h.apart;
        first_left = λ s. h.first_left (stood old new grows from (opposite_of pair.first) le s);
        second_left = λ s. h.second_left (stood old new grows from (opposite_of pair.second) le s);
      }

  -- a clause that was guarded is so when the trail has grown
  pub guarded_kept : (from limit later : ℕ) (lits : List Lit) (pair : Pair) → from ≤ length old → limit ≤ later
      → IsGuarded (lits_of old) from limit lits pair → IsGuarded (lits_of new) from later lits pair
  guarded_kept from limit later lits pair le more (inl h) = inl (true_kept limit later lits more h)
  guarded_kept from limit later lits pair le more (inr h) = inr (guards_kept from lits pair le h)

  -- and it was so before
  pub was_guarded : (from limit : ℕ) (lits : List Lit) (pair : Pair) → limit ≤ length old
      → IsGuarded (lits_of new) from limit lits pair → IsGuarded (lits_of old) from limit lits pair
  was_guarded from limit lits pair le (inl h) =
      inl (record { lit = h.lit; within = h.within; stands = stood old new grows limit h.lit le h.stands })
  was_guarded from limit lits pair le (inr h) =
      inr
      (record {
        first = h.first;
        second = h.second;
        apart = h.apart;
        first_left = λ s. h.first_left (stands_kept old new grows from (opposite_of pair.first) s);
        second_left = λ s. h.second_left (stands_kept old new grows from (opposite_of pair.second) s);
      })

  lengths : length (lits_of old) ≤ length (lits_of new)
  lengths =
      let le : length old ≤ length new = grows.longer in
      omega (arith, le, lits_length old, lits_length new)

  -- up to the end
  pub guarded_on : (from : ℕ) (lits : List Lit) (pair : Pair) → from ≤ length old
      → IsGuarded (lits_of old) from (length (lits_of old)) lits pair
      → IsGuarded (lits_of new) from (length (lits_of new)) lits pair
  guarded_on from lits pair le h =
      guarded_kept from (length (lits_of old)) (length (lits_of new)) lits pair le lengths h

  module _ (clauses : List (List Lit)) (pairs : List Pair) where
    -- those of a trail that is cut
    pub were_cut : WereGuarded clauses pairs new → WereGuarded clauses pairs old
    were_cut were place step e none at lits pair is has =
        let lt : place < length old = slice_get_within old place step e in
        was_guarded place place lits pair (omega (arith, lt))
        (were place step (grows.kept place step e) none at lits pair is has)

-- a step is pushed
module _ (clauses : List (List Lit)) (pairs : List Pair) (steps new : List Step) (step : Step)
    (pushed : new ≡ steps ++ step ∷ []) where
  pub were_push : WereGuarded clauses pairs steps
      → (step.reason ≡ None → AreGuarded clauses pairs (lits_of steps) (length steps) (length steps))
      → WereGuarded clauses pairs new
  were_push were now place s e none at lits pair is has =
      let grows = grows_push steps new step pushed in
      elim (slice_get-push_cases steps step s place (ap (λ (l : List Step). slice_get l place) (sym pushed) ∙ e)) [
        | inl old ↦
            let lt : place < length steps = slice_get_within steps place s old in
            guarded_kept steps new grows place place place lits pair (omega (arith, lt)) (omega arith)
            (were place s old none at lits pair is has)
        | inr last ↦
            let le : place ≤ length steps = let same = last.0 in omega (arith, same) in
            let decided : step.reason ≡ None = ap (λ (t : Step). t.reason) last.1 ∙ none in
            guarded_kept steps new grows place place place lits pair le (omega arith)
            (subst (λ (n : ℕ). IsGuarded (lits_of steps) n n lits pair) (sym last.0)
            (now decided at lits pair is has))
      ]

-- a pair is changed
module _ (clauses : List (List Lit)) (pairs new : List Pair) (place : ℕ) (pair : Pair)
    (changed : new ≡ set pairs place pair) (within : place < length pairs) where
  pub pair_here : (other : Pair) → slice_get new place ≡ Some other → pair ≡ other
  pair_here other e =
      one_at new place pair other
      (ap (λ (l : List Pair). slice_get l place) changed ∙ slice_get-set_same pairs place pair within) e

  pub pair_there : (at : ℕ) → (at ≡ place → ⊥) → slice_get new at ≡ slice_get pairs at
  pair_there at ne = ap (λ (l : List Pair). slice_get l at) changed ∙ slice_get-set_other pairs place at pair ne

  -- clauses with one that is guarded by its new pair
  pub guarded_set : (trail : List Lit) (from limit : ℕ) → AreGuarded clauses pairs trail from limit
      → ((lits : List Lit) → slice_get clauses place ≡ Some lits → IsGuarded trail from limit lits pair)
      → AreGuarded clauses new trail from limit
  guarded_set trail from limit were now at lits other is has =
      elim (cases_eq at place) [
        | inl same ↦
            subst (IsGuarded trail from limit lits)
            (pair_here other (ap (slice_get new) (sym same) ∙ has))
            (now lits (ap (slice_get clauses) (sym same) ∙ is))
        | inr ne ↦ were at lits other is (sym (pair_there at ne) ∙ has)
      ]

-- a clause that is guarded to the end of the trail is settled
pub settled_by : (trail lits : List Lit) (pair : Pair) → IsGuarded trail (length trail) (length trail) lits pair
    → IsSettled trail (length trail) lits
settled_by trail lits pair (inl h) = ByTrue h.lit h.within h.stands
settled_by trail lits pair (inr h) =
    elim (at_or_not trail pair.first) [
      | inl found ↦
          ByTrue pair.first h.first
          (record {
            place = found.0;
            before = slice_get_within trail found.0 pair.first found.1;
            is = found.1;
          })
      | inr no_first ↦
          elim (at_or_not trail pair.second) [
            | inl found ↦
                ByTrue pair.second h.second
                (record {
                  place = found.0;
                  before = slice_get_within trail found.0 pair.second found.1;
                  is = found.1;
                })
            | inr no_second ↦
                ByOpen pair.first pair.second h.first h.second h.apart
                (record { not_true = λ s. no_first s.place s.is; not_false = h.first_left })
                (record { not_true = λ s. no_second s.place s.is; not_false = h.second_left })
          ]
    ]

-- so all are
pub all_settled : (clauses : List (List Lit)) (pairs : List Pair) (trail : List Lit)
    → length pairs ≡ length clauses → AreGuarded clauses pairs trail (length trail) (length trail)
    → AreSettled clauses trail (length trail)
all_settled clauses pairs trail same guarded lits has =
    let place = place_of clauses lits has in
    let lt : place.0 < length clauses = slice_get_within clauses place.0 lits place.1 in
    let pair = some_at pairs place.0 (omega (arith, lt, same)) in
    settled_by trail lits pair.0 (guarded place.0 lits pair.0 place.1 pair.1)
