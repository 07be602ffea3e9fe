-- A trail that grows, or is cut: what stands, is open, settled or justified before a place.
use Rattle.std.proofs.Common.{◌≡◌, ◌⊎◌, ℕ, zero, suc, ◌+◌, ◌<◌, ◌≤◌, List, [], ◌∷◌, ◌++◌, length, take, Option, Some}
use Rattle.std.proofs.Common.{None, slice_get, sym, ap, ◌∙◌, subst, inl, inr, arith, length-append}
use Rattle.std.proofs.lemmas.Option.{slice_get_within, same_Some, none-some}
use Rattle.jv_list.proofs.PlaceLemmas.{slice_get-push_last, slice_get-push_other}
use Rattle.cn_clauses.specs.declared.lit.Lit.{Lit}
use Rattle.cn_clauses.specs.Literals.{opposite_of}
use Rattle.sa_core.specs.declared.step.Step.{Step}
use Rattle.sa_core.specs.TrailView.{lits_of, Stands, IsOpen, Grows}
use Rattle.sa_core.specs.SolverView.{IsSettled, ByTrue, ByOpen, IsUnit, IsJustifiedBy, AreJustified}
use Rattle.jv_list.proofs.ElementLemmas.{one_at, some_at, from_take}
use Rattle.sa_core.proofs.LitLemmas.{cases_lit}
use Rattle.sa_core.proofs.TrailLemmas.{at_lit, step_at, lits_length, lits_push}

take_shorter : (n : ℕ) (steps : List Step) → length (take n steps) ≤ length steps
take_shorter zero steps = omega arith
take_shorter (suc n) [] = omega arith
take_shorter (suc n) (s ∷ steps) = let rest = take_shorter n steps in omega (arith, rest)

pub grows_same : (steps : List Step) → Grows steps steps
grows_same steps = record { longer = omega arith; kept = λ place step e. e }

pub grows_more : (a b c : List Step) → Grows a b → Grows b c → Grows a c
grows_more a b c g h =
    let first : length a ≤ length b = g.longer in
    let second : length b ≤ length c = h.longer in
    record { longer = omega (arith, first, second); kept = λ place step e. h.kept place step (g.kept place step e) }

pub grows_push : (old new : List Step) (step : Step) → new ≡ old ++ step ∷ [] → Grows old new
grows_push old new step e =
    let more : length new ≡ length old + 1 = ap length e ∙ length-append old (step ∷ []) in
    record {
      longer = omega (arith, more);
      kept = λ place s h. ap (λ (l : List Step). slice_get l place) e ∙ slice_get-push_other old step s place h;
    }

-- the first steps grow to all of them
pub grows_cut : (n : ℕ) (steps new : List Step) → new ≡ take n steps → Grows new steps
grows_cut n steps new e =
    record {
      longer = subst (λ (l : List Step). length l ≤ length steps) (sym e) (take_shorter n steps);
      kept = λ place s h.
          (from_take n steps place s (ap (λ (l : List Step). slice_get l place) (sym e) ∙ h)).1;
    }

module _ (old new : List Step) (grows : Grows old new) where
  -- a literal that stood stands
  pub kept_lit : (place : ℕ) (lit : Lit) → slice_get (lits_of old) place ≡ Some lit
      → slice_get (lits_of new) place ≡ Some lit
  kept_lit place lit e =
      let s = step_at old place lit e in
      at_lit new place s.0 (grows.kept place s.0 s.1) ∙ ap (λ (l : Lit). Some l) s.2

  -- and none other stands in its place
  pub was_lit : (place : ℕ) (lit : Lit) → place < length old → slice_get (lits_of new) place ≡ Some lit
      → slice_get (lits_of old) place ≡ Some lit
  was_lit place lit lt e =
      let s = some_at old place lt in
      let is = at_lit new place s.0 (grows.kept place s.0 s.1) in
      at_lit old place s.0 s.1 ∙ sym is ∙ e

  pub was_step : (place : ℕ) (step : Step) → place < length old → slice_get new place ≡ Some step
      → slice_get old place ≡ Some step
  was_step place step lt e =
      let s = some_at old place lt in
      s.1 ∙ ap (λ (t : Step). Some t) (one_at new place s.0 step (grows.kept place s.0 s.1) e)

  pub stands_kept : (limit : ℕ) (lit : Lit) → Stands (lits_of old) limit lit → Stands (lits_of new) limit lit
  stands_kept limit lit h = record { place = h.place; before = h.before; is = kept_lit h.place lit h.is }

  pub stood : (limit : ℕ) (lit : Lit) → limit ≤ length old → Stands (lits_of new) limit lit
      → Stands (lits_of old) limit lit
  stood limit lit le h =
      let lt : h.place < limit = h.before in
      record { place = h.place; before = h.before; is = was_lit h.place lit (omega (arith, lt, le)) h.is }

  pub open_kept : (limit : ℕ) (lit : Lit) → limit ≤ length old → IsOpen (lits_of old) limit lit
      → IsOpen (lits_of new) limit lit
  open_kept limit lit le h = record {
    not_true = λ s. h.not_true (stood limit lit le s);
    not_false = λ s. h.not_false (stood limit (opposite_of lit) le s);
  }

  pub was_open : (limit : ℕ) (lit : Lit) → IsOpen (lits_of new) limit lit → IsOpen (lits_of old) limit lit
  was_open limit lit h = record {
    not_true = λ s. h.not_true (stands_kept limit lit s);
    not_false = λ s. h.not_false (stands_kept limit (opposite_of lit) s);
  }

  pub settled_kept : (limit : ℕ) (lits : List Lit) → limit ≤ length old → IsSettled (lits_of old) limit lits
      → IsSettled (lits_of new) limit lits
  settled_kept limit lits le (ByTrue lit has stands) = ByTrue lit has (stands_kept limit lit stands)
  settled_kept limit lits le (ByOpen one other has_one has_other apart first second) =
      ByOpen one other has_one has_other apart (open_kept limit one le first) (open_kept limit other le second)

  pub was_settled : (limit : ℕ) (lits : List Lit) → limit ≤ length old → IsSettled (lits_of new) limit lits
      → IsSettled (lits_of old) limit lits
  was_settled limit lits le (ByTrue lit has stands) = ByTrue lit has (stood limit lit le stands)
  was_settled limit lits le (ByOpen one other has_one has_other apart first second) =
      ByOpen one other has_one has_other apart (was_open limit one first) (was_open limit other second)

  pub unit_kept : (limit : ℕ) (lits : List Lit) (lit : Lit) → IsUnit (lits_of old) limit lits lit
      → IsUnit (lits_of new) limit lits lit
  unit_kept limit lits lit h =
      record {
        within = h.within;
        others = λ other has ne. stands_kept limit (opposite_of other) (h.others other has ne);
      }

  pub was_unit : (limit : ℕ) (lits : List Lit) (lit : Lit) → limit ≤ length old → IsUnit (lits_of new) limit lits lit
      → IsUnit (lits_of old) limit lits lit
  was_unit limit lits lit le h =
      record {
        within = h.within;
        others = λ other has ne. stood limit (opposite_of other) le (h.others other has ne);
      }

  module _ (clauses : List (List Lit)) where
    pub justified_kept : (place : ℕ) (lit : Lit) (reason : Option ℕ) → place ≤ length old
        → IsJustifiedBy clauses (lits_of old) place lit reason → IsJustifiedBy clauses (lits_of new) place lit reason
    justified_kept place lit None le h = λ lits has. settled_kept place lits le (h lits has)
    justified_kept place lit (Some reason) le h =
        record { lits = h.lits; stands = h.stands; unit = unit_kept place h.lits lit h.unit }

    pub was_justified : (place : ℕ) (lit : Lit) (reason : Option ℕ) → place ≤ length old
        → IsJustifiedBy clauses (lits_of new) place lit reason → IsJustifiedBy clauses (lits_of old) place lit reason
    was_justified place lit None le h = λ lits has. was_settled place lits le (h lits has)
    was_justified place lit (Some reason) le h =
        record { lits = h.lits; stands = h.stands; unit = was_unit place h.lits lit le h.unit }

    -- the steps of a trail that is cut are justified
    pub cut_justified : AreJustified clauses new → AreJustified clauses old
    cut_justified all place step e =
        let lt : place < length old = slice_get_within old place step e in
        was_justified place step.lit step.reason (omega (arith, lt)) (all place step (grows.kept place step e))

-- whether a literal stands in a list
none_here : (x : Lit) (xs : List Lit) (lit : Lit) → (x ≡ lit → ⊥) → ((i : ℕ) → slice_get xs i ≡ Some lit → ⊥)
    → (i : ℕ) → slice_get (x ∷ xs) i ≡ Some lit → ⊥
none_here x xs lit ne none zero e = ne (same_Some x lit e)
none_here x xs lit ne none (suc i) e = none i e

pub at_or_not : (xs : List Lit) (lit : Lit)
    → ((i : ℕ) × (slice_get xs i ≡ Some lit)) ⊎ ((i : ℕ) → slice_get xs i ≡ Some lit → ⊥)
at_or_not [] lit = inr (λ i e. none-some lit e)
at_or_not (x ∷ xs) lit =
    elim (cases_lit x lit) [
      | inl same ↦ inl (zero, ap (λ (l : Lit). Some l) same)
      | inr other ↦
          elim (at_or_not xs lit) [
            | inl found ↦ inl (suc found.0, found.1)
            | inr none ↦ inr (none_here x xs lit other none)
          ]
    ]

-- a literal that is pushed stands
pub pushed_stands : (steps new : List Step) (step : Step) (lit : Lit) → new ≡ steps ++ step ∷ [] → step.lit ≡ lit
    → Stands (lits_of new) (length (lits_of new)) lit
pushed_stands steps new step lit pushed by =
    let at_end : slice_get (lits_of new) (length steps) ≡ Some lit =
    ap (λ (l : List Step). slice_get (lits_of l) (length steps)) pushed
    ∙ ap (λ (l : List Lit). slice_get l (length steps)) (lits_push steps step)
    ∙ slice_get-push_last (lits_of steps) step.lit (length steps) (sym (lits_length steps))
    ∙ ap (λ (l : Lit). Some l) by in
    record { place = length steps; before = slice_get_within (lits_of new) (length steps) lit at_end; is = at_end }
