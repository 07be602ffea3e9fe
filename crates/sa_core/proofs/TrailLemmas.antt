-- The places of a trail's literals, as steps are pushed and taken back.
use Rattle.std.proofs.Common.{◌≡◌, ◌≢◌, ◌⊎◌, ℕ, zero, suc, ◌+◌, ◌*◌, ◌<◌, true, false, true≢false, List, [], ◌∷◌}
use Rattle.std.proofs.Common.{◌++◌, length, set, count_by, is_none, is_some, replicate, Option, Some, None, slice_get}
use Rattle.std.proofs.Common.{refl, sym, ap, ◌∙◌, subst, subst₂, inl, inr, arith, length-append, length-set}
use Rattle.std.proofs.lemmas.List.{map-append, length-map, length-replicate}
use Rattle.std.proofs.lemmas.Option.{slice_get_within, same_Some, none-some}
use Rattle.jv_list.proofs.PlaceLemmas.{slice_get-set_same, slice_get-set_other, slice_get-push_last}
use Rattle.jv_list.proofs.PlaceLemmas.{slice_get-push_other, slice_get-push_cases}
use Rattle.cn_clauses.specs.declared.lit.Lit.{Lit}
use Rattle.cn_clauses.specs.Literals.{opposite_of, variable_of}
use Rattle.cn_clauses.specs.Laws.{OppositeTwice}
use Rattle.sa_core.specs.declared.step.Step.{Step}
use Rattle.sa_core.specs.TrailView.{lits_of, Stands, IsOpen, IsPlaced}
use Rattle.jv_list.proofs.ElementLemmas.{empty, some_at, replicate_none, count_replicate, count_filled, count_emptied}
use Rattle.sa_core.proofs.LitLemmas.{same_lit, number_of, cases_lit, not_opposite, within_size}

-- the literal of a step stands at its place
pub at_lit : (steps : List Step) (i : ℕ) (step : Step) → slice_get steps i ≡ Some step
    → slice_get (lits_of steps) i ≡ Some step.lit
at_lit [] i step e = absurd (none-some step e)
at_lit (s ∷ steps) zero step e = ap (λ (t : Step). Some t.lit) (same_Some s step e)
at_lit (s ∷ steps) (suc i) step e = at_lit steps i step e

-- and a literal is that of a step
pub step_at : (steps : List Step) (i : ℕ) (lit : Lit) → slice_get (lits_of steps) i ≡ Some lit
    → (step : Step) × (slice_get steps i ≡ Some step) × (step.lit ≡ lit)
step_at [] i lit e = absurd (none-some lit e)
step_at (s ∷ steps) zero lit e = (s, refl, same_Some s.lit lit e)
step_at (s ∷ steps) (suc i) lit e = step_at steps i lit e

pub lits_length : (steps : List Step) → length (lits_of steps) ≡ length steps
lits_length steps = length-map steps (λ (step : Step). step.lit)

pub lits_push : (steps : List Step) (step : Step) → lits_of (steps ++ step ∷ []) ≡ lits_of steps ++ step.lit ∷ []
lits_push steps step = map-append (λ (s : Step). s.lit) steps (step ∷ [])

-- no step is placed
pub placed_none : (size : ℕ) (steps : List Step) (places : List (Option ℕ)) → steps ≡ [] → places ≡ replicate size None
    → IsPlaced steps places
placed_none size steps places e f =
    let empty_places : IsPlaced [] (replicate size (empty {X = ℕ})) =
    record {
      placed = λ place lit e. absurd (none-some lit e);
      stands = λ place lit e. absurd (replicate_none size lit.0 place e);
      apart = λ first second lit e f. absurd (none-some lit e);
      room =
          omega
          (arith, count_replicate size (replicate size (empty {X = ℕ})) refl, length-replicate size (empty {X = ℕ}));
    } in
    subst₂ IsPlaced (sym e) (sym f) empty_places

-- a literal's place is before the end
pub stands_at : (steps : List Step) (place : ℕ) (lit : Lit) → slice_get (lits_of steps) place ≡ Some lit
    → Stands (lits_of steps) (length (lits_of steps)) lit
stands_at steps place lit e = record { place = place; before = slice_get_within (lits_of steps) place lit e; is = e }

module _ (twice : OppositeTwice) (steps : List Step) (places : List (Option ℕ)) (step : Step)
    (was : IsPlaced steps places) (unset : IsOpen (lits_of steps) (length (lits_of steps)) step.lit)
    (vacant : slice_get places step.lit.0 ≡ Some None) where
  -- the literal stood at no place
  new_lit : (place : ℕ) (lit : Lit) → slice_get (lits_of steps) place ≡ Some lit → lit.0 ≢ step.lit.0
  new_lit place lit e same =
      unset.not_true (stands_at steps place step.lit (e ∙ ap (λ (l : Lit). Some l) (same_lit lit step.lit same)))

  -- nor did its opposite
  new_opposite : (place : ℕ) → slice_get (lits_of steps) place ≡ Some (opposite_of step.lit) → ⊥
  new_opposite place e = unset.not_false (stands_at steps place (opposite_of step.lit) e)

  pushed : (place : ℕ) (lit : Lit) → slice_get (lits_of (steps ++ step ∷ [])) place ≡ Some lit
      → (slice_get (lits_of steps) place ≡ Some lit) ⊎ ((place ≡ length steps) × (step.lit ≡ lit))
  pushed place lit e =
      elim (slice_get-push_cases (lits_of steps) step.lit lit place
      (ap (λ (ls : List Lit). slice_get ls place) (sym (lits_push steps step)) ∙ e)) [
        | inl old ↦ inl old
        | inr last ↦ inr (last.0 ∙ lits_length steps, last.1)
      ]

  new_places : List (Option ℕ)
  new_places = set places step.lit.0 (Some (length steps))

  placed_new : (place : ℕ) (lit : Lit) → slice_get (lits_of (steps ++ step ∷ [])) place ≡ Some lit
      → slice_get (set places step.lit.0 (Some (length steps))) lit.0 ≡ Some (Some place)
  placed_new place lit e =
      elim (pushed place lit e) [
        | inl old ↦
            slice_get-set_other places step.lit.0 lit.0 (Some (length steps)) (new_lit place lit old)
            ∙ was.placed place lit old
        | inr last ↦
            ap (λ (n : ℕ). slice_get (set places step.lit.0 (Some (length steps))) n)
            (sym (number_of step.lit lit last.1))
            ∙ slice_get-set_same places step.lit.0 (Some (length steps))
            (slice_get_within places step.lit.0 None vacant)
            ∙ ap (λ (n : ℕ). Some (Some n)) (sym last.0)
      ]

  stands_new : (place : ℕ) (lit : Lit)
      → slice_get (set places step.lit.0 (Some (length steps))) lit.0 ≡ Some (Some place)
      → slice_get (lits_of (steps ++ step ∷ [])) place ≡ Some lit
  stands_new place lit e =
      let at = λ (i : ℕ). ap (λ (ls : List Lit). slice_get ls i) (lits_push steps step) in
      elim (cases_lit lit step.lit) [
        | inl same ↦
            let number = number_of lit step.lit same in
            let set_to =
            slice_get-set_same places step.lit.0 (Some (length steps))
            (slice_get_within places step.lit.0 None vacant) in
            let last : Some (length steps) ≡ Some place =
            same_Some (Some (length steps)) (Some place)
            (sym set_to
            ∙ ap (λ (n : ℕ). slice_get (set places step.lit.0 (Some (length steps))) n) (sym number) ∙ e) in
            at place
            ∙ slice_get-push_last (lits_of steps) step.lit place
            (sym (same_Some (length steps) place last) ∙ sym (lits_length steps))
            ∙ ap (λ (l : Lit). Some l) (sym same)
        | inr other ↦
            at place
            ∙ slice_get-push_other (lits_of steps) step.lit lit place
            (was.stands place lit
            (sym
            (slice_get-set_other places step.lit.0 lit.0 (Some (length steps))
            (λ number. other (same_lit lit step.lit number))) ∙ e))
      ]

  apart_new : (first second : ℕ) (lit : Lit) → slice_get (lits_of (steps ++ step ∷ [])) first ≡ Some lit
      → slice_get (lits_of (steps ++ step ∷ [])) second ≡ Some (opposite_of lit) → ⊥
  apart_new first second lit e f =
      elim (pushed first lit e) [
        | inl one ↦
            elim (pushed second (opposite_of lit) f) [
              | inl other ↦ was.apart first second lit one other
              | inr last ↦
                  new_opposite first
                  (one ∙ ap (λ (l : Lit). Some l) (sym (twice lit) ∙ ap opposite_of (sym last.1)))
            ]
        | inr last ↦
            elim (pushed second (opposite_of lit) f) [
              | inl other ↦ new_opposite second (other ∙ ap (λ (l : Lit). Some (opposite_of l)) (sym last.1))
              | inr both ↦ not_opposite lit (sym both.1 ∙ last.1)
            ]
      ]

  room_new : length (steps ++ step ∷ []) + count_by is_none (set places step.lit.0 (Some (length steps)))
      ≡ length (set places step.lit.0 (Some (length steps)))
  room_new =
      let more : length (steps ++ step ∷ []) ≡ length steps + 1 = length-append steps (step ∷ []) in
      let fewer = count_filled places step.lit.0 (length steps) vacant in
      let same = length-set places step.lit.0 (Some (length steps)) in
      let room : length steps + count_by is_none places ≡ length places = was.room in
      omega (arith, more, fewer, same, room)

  placed_made : IsPlaced (steps ++ step ∷ []) (set places step.lit.0 (Some (length steps)))
  placed_made = record { placed = placed_new; stands = stands_new; apart = apart_new; room = room_new }

  -- a step that is pushed is placed
  pub placed_push : (new_steps : List Step) (new : List (Option ℕ)) → new_steps ≡ steps ++ step ∷ []
      → new ≡ set places step.lit.0 (Some (length steps)) → IsPlaced new_steps new
  placed_push new_steps new e f = subst₂ IsPlaced (sym e) (sym f) placed_made

module _ (steps : List Step) (places : List (Option ℕ)) (step : Step)
    (was : IsPlaced (steps ++ step ∷ []) places) where
  old_lit : (place : ℕ) (lit : Lit) → slice_get (lits_of steps) place ≡ Some lit
      → slice_get (lits_of (steps ++ step ∷ [])) place ≡ Some lit
  old_lit place lit e =
      ap (λ (ls : List Lit). slice_get ls place) (lits_push steps step)
      ∙ slice_get-push_other (lits_of steps) step.lit lit place e

  pub last_place : slice_get places step.lit.0 ≡ Some (Some (length steps))
  last_place =
      was.placed (length steps) step.lit
      (ap (λ (ls : List Lit). slice_get ls (length steps)) (lits_push steps step)
      ∙ slice_get-push_last (lits_of steps) step.lit (length steps) (sym (lits_length steps)))

  left_lit : (place : ℕ) (lit : Lit) → slice_get (lits_of steps) place ≡ Some lit → lit.0 ≢ step.lit.0
  left_lit place lit e same =
      let twice_placed : Some (Some place) ≡ Some (Some (length steps)) =
      sym (was.placed place lit (old_lit place lit e)) ∙ ap (λ (n : ℕ). slice_get places n) same ∙ last_place in
      let at_end : place ≡ length steps =
      same_Some place (length steps) (same_Some (Some place) (Some (length steps)) twice_placed) in
      let within : place < length (lits_of steps) = slice_get_within (lits_of steps) place lit e in
      omega (arith, at_end, within, lits_length steps)

  stands_left : (place : ℕ) (lit : Lit) → slice_get (set places step.lit.0 None) lit.0 ≡ Some (Some place)
      → slice_get (lits_of steps) place ≡ Some lit
  stands_left place lit e =
      elim (cases_lit lit step.lit) [
        | inl same ↦
            let emptied =
            slice_get-set_same places step.lit.0 None
            (slice_get_within places step.lit.0 (Some (length steps)) last_place) in
            absurd
            (none-some place
            (same_Some None (Some place)
            (sym emptied
            ∙ ap (λ (n : ℕ). slice_get (set places step.lit.0 None) n) (sym (number_of lit step.lit same)) ∙ e)))
        | inr other ↦
            let before =
            was.stands place lit
            (sym (slice_get-set_other places step.lit.0 lit.0 None (λ number. other (same_lit lit step.lit number)))
            ∙ e) in
            elim (slice_get-push_cases (lits_of steps) step.lit lit place
            (ap (λ (ls : List Lit). slice_get ls place) (sym (lits_push steps step)) ∙ before)) [
              | inl old ↦ old
              | inr last ↦ absurd (other (sym last.1))
            ]
      ]

  placed_taken : IsPlaced steps (set places step.lit.0 None)
  placed_taken = record {
    placed = λ place lit e.
        slice_get-set_other places step.lit.0 lit.0 None (left_lit place lit e)
        ∙ was.placed place lit (old_lit place lit e);
    stands = stands_left;
    apart = λ first second lit e f.
        was.apart first second lit (old_lit first lit e) (old_lit second (opposite_of lit) f);
    room =
        let more : length (steps ++ step ∷ []) ≡ length steps + 1 = length-append steps (step ∷ []) in
        let emptied = count_emptied places step.lit.0 (length steps) last_place in
        let same = length-set places step.lit.0 None in
        let room : length (steps ++ step ∷ []) + count_by is_none places ≡ length places = was.room in
        omega (arith, more, emptied, same, room);
  }

  -- the places without the last step
  pub placed_pop : (new : List (Option ℕ)) → new ≡ set places step.lit.0 None → IsPlaced steps new
  placed_pop new e = subst (IsPlaced steps) (sym e) placed_taken

-- an open literal has no place
pub open_empty : (steps : List Step) (places : List (Option ℕ)) (lit : Lit) → IsPlaced steps places
    → IsOpen (lits_of steps) (length (lits_of steps)) lit → lit.0 < length places → slice_get places lit.0 ≡ Some None
open_empty steps places lit was unset lt =
    let some = some_at places lit.0 lt in
    elim some.0 as (λ o. slice_get places lit.0 ≡ Some o → slice_get places lit.0 ≡ Some None) [
      | None ↦ λ e. e
      | Some place ↦ λ e. absurd (unset.not_true (stands_at steps place lit (was.stands place lit e)))
    ] some.1

-- a literal without a place does not stand
pub unplaced : (steps : List Step) (places : List (Option ℕ)) (lit : Lit) → IsPlaced steps places
    → slice_get places lit.0 ≡ Some None → (limit : ℕ) → Stands (lits_of steps) limit lit → ⊥
unplaced steps places lit was e limit stands =
    none-some stands.place (same_Some None (Some stands.place) (sym e ∙ was.placed stands.place lit stands.is))

-- a literal that has a place stands there
pub placed_stands : (steps : List Step) (places : List (Option ℕ)) (lit : Lit) (o : Option ℕ) → IsPlaced steps places
    → slice_get places lit.0 ≡ Some o → is_some o ≡ true → Stands (lits_of steps) (length (lits_of steps)) lit
placed_stands steps places lit None was e some = absurd (true≢false (sym some))
placed_stands steps places lit (Some place) was e some = stands_at steps place lit (was.stands place lit e)

-- and else it does not
pub none_placed : (places : List (Option ℕ)) (lit : Lit) (o : Option ℕ) → slice_get places lit.0 ≡ Some o
    → is_some o ≡ false → slice_get places lit.0 ≡ Some None
none_placed places lit None e none = e
none_placed places lit (Some place) e none = absurd (true≢false none)

-- the literals of the steps are of the trail's variables
pub placed_within : (steps : List Step) (places : List (Option ℕ)) (variables i : ℕ) (step : Step)
    → IsPlaced steps places → length places ≡ 2 * variables → slice_get steps i ≡ Some step
    → variable_of step.lit < variables
placed_within steps places variables i step was size e =
    within_size step.lit variables (length places)
    (slice_get_within places step.lit.0 (Some i) (was.placed i step.lit (at_lit steps i step e))) size

-- the place of the opposite of a literal
module _ (steps : List Step) (places : List (Option ℕ)) (lit q : Lit) (was : IsPlaced steps places)
    (is : q ≡ opposite_of lit) where
  pub no_place : slice_get places q.0 ≡ Some None → (place : ℕ)
      → slice_get (lits_of steps) place ≡ Some (opposite_of lit) → ⊥
  no_place e place stands =
      none-some place
      (same_Some None (Some place)
      (sym e ∙ ap (λ (l : Lit). slice_get places l.0) is ∙ was.placed place (opposite_of lit) stands))

  pub its_place : (place : ℕ) → slice_get places q.0 ≡ Some (Some place)
      → slice_get (lits_of steps) place ≡ Some (opposite_of lit)
  its_place place e = was.stands place q e ∙ ap (λ (l : Lit). Some l) is

  pub one_place : (place : ℕ) → slice_get places q.0 ≡ Some (Some place) → (at : ℕ)
      → slice_get (lits_of steps) at ≡ Some (opposite_of lit) → at ≡ place
  one_place place e at stands =
      same_Some at place
      (same_Some (Some at) (Some place)
      (sym (was.placed at (opposite_of lit) stands) ∙ ap (λ (l : Lit). slice_get places l.0) (sym is) ∙ e))

  pub place_within : (place : ℕ) → slice_get places q.0 ≡ Some (Some place) → place < length steps
  place_within place e =
      let lt : place < length (lits_of steps) =
      slice_get_within (lits_of steps) place (opposite_of lit) (its_place place e) in
      omega (arith, lt, lits_length steps)
