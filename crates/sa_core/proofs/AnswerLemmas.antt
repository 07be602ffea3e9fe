-- What the answers rest on: the assignment of a trail, and a clause that is false with no decision made.
use Rattle.std.proofs.Common.{◌≡◌, ℕ, zero, suc, ◌+◌, ◌<◌, Bool, true, false, not, List, [], ◌∷◌, ◌++◌, length}
use Rattle.std.proofs.Common.{Option, Some, None, is_some, Contains, slice_get, refl, sym, ap, ◌∙◌, subst, inl, inr}
use Rattle.std.proofs.Common.{arith, if◌then◌else◌}
use Rattle.std.proofs.lemmas.Bool.{cases_lt, and_from}
use Rattle.std.proofs.lemmas.List.Folds.{list_any_at}
use Rattle.std.proofs.lemmas.Option.{get_or_from_slice_get}
use Rattle.jv_list.proofs.MemberLemmas.{first_member}
use Rattle.jv_list.proofs.PlaceLemmas.{slice_get-push_last}
use Rattle.std.proofs.lemmas.List.Elements.{Contains-append_right}
use Rattle.cn_clauses.specs.declared.lit.Lit.{Lit}
use Rattle.cn_clauses.specs.Literals.{opposite_of, variable_of, is_negated, literal, lit_value}
use Rattle.cn_clauses.specs.Formulas.{value_at}
use Rattle.cn_clauses.specs.Satisfaction.{clause_holds, all_hold, Satisfies}
use Rattle.cn_clauses.specs.Laws.{LiteralParts}
use Rattle.cn_clauses.specs.Propagation.{IsForced, Propagated, opposites_of, Rup}
use Rattle.sa_core.specs.declared.step.Step.{Step}
use Rattle.sa_core.specs.TrailView.{lits_of, Stands, IsPlaced, AllGiven}
use Rattle.sa_core.specs.SolverView.{IsSettled, ByTrue, ByOpen, AreSettled, IsJustifiedBy, AreJustified, NoDecision}
use Rattle.sa_core.specs.SolverView.{AreWithin, IsFalseAt}
use Rattle.sa_core.specs.SearchView.{ReadsAs, Reads}
use Rattle.jv_list.proofs.ElementLemmas.{at_contains}
use Rattle.sa_core.proofs.TrailLemmas.{step_at, placed_stands, none_placed, unplaced}

-- the value of a literal that stands
module _ (parts : LiteralParts) (trail : List Lit) (count : ℕ) (values : List Bool)
    (apart : (first second : ℕ) (lit : Lit) → slice_get trail first ≡ Some lit
    → slice_get trail second ≡ Some (opposite_of lit) → ⊥) (reads : Reads trail count values) where
  signed : (lit : Lit) (s b : Bool) → is_negated lit ≡ s → value_at values (variable_of lit) ≡ b
      → ReadsAs trail (variable_of lit) b → Stands trail (length trail) lit → lit_value (value_at values) lit ≡ true
  unfolding lit_value opposite_of
  signed lit true true e f reads_as stands =
      let same : literal (variable_of lit) false ≡ opposite_of lit =
      ap (λ (s : Bool). literal (variable_of lit) (not s)) (sym e) in
      absurd
      (apart stands.place reads_as.place lit stands.is (reads_as.is ∙ ap (λ (l : Lit). Some l) same))
  signed lit true false e f reads_as stands =
      ap (λ (s : Bool). if s then not (value_at values (variable_of lit)) else value_at values (variable_of lit)) e
      ∙ ap not f
  signed lit false true e f reads_as stands =
      ap (λ (s : Bool). if s then not (value_at values (variable_of lit)) else value_at values (variable_of lit)) e ∙ f
  signed lit false false e f reads_as stands =
      let same : literal (variable_of lit) false ≡ lit =
      ap (λ (s : Bool). literal (variable_of lit) s) (sym e) ∙ parts lit in
      absurd (reads_as (subst (Stands trail (length trail)) (sym same) stands))

  stands_true : (lit : Lit) → variable_of lit < count → Stands trail (length trail) lit
      → lit_value (value_at values) lit ≡ true
  stands_true lit lt stands =
      signed lit (is_negated lit) (value_at values (variable_of lit)) refl refl (reads (variable_of lit) lt) stands

  clause_true : (lits : List Lit) → AllGiven count trail
      → ((lit : Lit) → Contains lits lit → variable_of lit < count) → IsSettled trail (length trail) lits
      → clause_holds (value_at values) lits ≡ true
  clause_true lits given within (ByTrue lit has stands) =
      list_any_at (lit_value (value_at values)) lits has.0 lit has.1
      (ap (lit_value (value_at values)) has.2 ∙ stands_true lit (within lit has) stands)
  clause_true lits given within (ByOpen one other has_one has_other ne first second) =
      absurd (given one (within one has_one) first)

  pub all_true : (clauses : List (List Lit)) → AllGiven count trail → AreWithin count clauses
      → AreSettled clauses trail (length trail) → Satisfies (value_at values) clauses
  all_true [] given within settled = refl
  all_true (lits ∷ clauses) given within settled =
      and_from (clause_holds (value_at values) lits) (all_hold (value_at values) clauses)
      (clause_true lits given (within lits (first_member lits clauses)) (settled lits (first_member lits clauses)))
      (all_true clauses given
      (λ other has. within other (Contains-append_right (lits ∷ []) clauses other has))
      (λ other has. settled other (Contains-append_right (lits ∷ []) clauses other has)))

-- one more value
value_last : (values : List Bool) (b : Bool) (n : ℕ) → n ≡ length values → value_at (values ++ b ∷ []) n ≡ b
value_last values b n e = get_or_from_slice_get (values ++ b ∷ []) n b false (slice_get-push_last values b n e)

value_kept : (values : List Bool) (b : Bool) (n : ℕ) → n < length values
    → value_at (values ++ b ∷ []) n ≡ value_at values n
value_kept [] b n lt = absurd (omega (arith, lt))
value_kept (v ∷ values) b zero lt = refl
value_kept (v ∷ values) b (suc n) lt = value_kept values b n (omega (arith, lt))

pub reads_more : (trail : List Lit) (count : ℕ) (values : List Bool) (b : Bool) → length values ≡ count
    → Reads trail count values → ReadsAs trail count b → Reads trail (count + 1) (values ++ b ∷ [])
reads_more trail count values b e was now variable lt =
    elim (cases_lt variable count) [
      | inl before ↦
          subst (ReadsAs trail variable) (sym (value_kept values b variable (omega (arith, before, e))))
          (was variable before)
      | inr le ↦
          let same : count ≡ variable = omega (arith, lt, le) in
          subst (λ (n : ℕ). ReadsAs trail n (value_at (values ++ b ∷ []) n)) same
          (subst (ReadsAs trail count) (sym (value_last values b count (sym e))) now)
    ]

-- what the place of a variable's literal says
pub reads_now : (steps : List Step) (places : List (Option ℕ)) (variable : ℕ) (lit : Lit) (o : Option ℕ) (b : Bool)
    → IsPlaced steps places → lit ≡ literal variable false → slice_get places lit.0 ≡ Some o → b ≡ is_some o
    → ReadsAs (lits_of steps) variable b
reads_now steps places variable lit o true was e at is =
    subst (Stands (lits_of steps) (length (lits_of steps))) e
    (placed_stands steps places lit o was at (sym is))
reads_now steps places variable lit o false was e at is =
    λ stands.
    unplaced steps places lit was (none_placed places lit o at (sym is)) (length (lits_of steps))
    (subst (Stands (lits_of steps) (length (lits_of steps))) (sym e) stands)

-- with no decision made, each literal of the trail is forced by the clauses alone
module _ (clauses : List (List Lit)) (steps : List Step) (justified : AreJustified clauses steps)
    (none : NoDecision steps) where
  forced_by : (bound place : ℕ) (step : Step) (reason : Option ℕ)
      → ((at : ℕ) (lit : Lit) → at < bound → slice_get (lits_of steps) at ≡ Some lit
      → IsForced clauses (opposites_of []) lit) → slice_get steps place ≡ Some step → step.reason ≡ reason
      → place < bound + 1 → IsJustifiedBy clauses (lits_of steps) place step.lit reason
      → IsForced clauses (opposites_of []) step.lit
  forced_by bound place step None before is e lt by = absurd (none place step is e)
  forced_by bound place step (Some reason) before is e lt by =
      Propagated by.lits step.lit (at_contains clauses reason by.lits by.stands) by.unit.within
      (λ other has ne.
      let s = by.unit.others other has ne in
      let earlier : s.place < place = s.before in
      before s.place (opposite_of other) (omega (arith, earlier, lt)) s.is)

  forced_before : (bound place : ℕ) (lit : Lit) → place < bound → slice_get (lits_of steps) place ≡ Some lit
      → IsForced clauses (opposites_of []) lit
  forced_before zero place lit lt is = absurd (omega (arith, lt))
  forced_before (suc bound) place lit lt is =
      let s = step_at steps place lit is in
      subst (IsForced clauses (opposites_of [])) s.2
      (forced_by bound place s.0 s.0.reason (forced_before bound) s.1 refl (omega (arith, lt))
      (justified place s.0 s.1))

  -- so a clause that is false shows that there is no assignment
  pub refuted : (place : ℕ) → IsFalseAt clauses (lits_of steps) place → Rup clauses []
  refuted place conflict =
      record {
        lits = conflict.lits;
        stands = at_contains clauses place conflict.lits conflict.stands;
        opposed = λ lit has.
            let s = conflict.fails lit has in
            forced_before (suc s.place) s.place (opposite_of lit) (omega arith) s.is;
      }
