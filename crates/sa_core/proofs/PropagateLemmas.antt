-- Propagation: a look at a clause that a literal watches, which is false.
use Rattle.std.proofs.Common.{◌≡◌, ◌⊎◌, ℕ, ◌+◌, ◌<◌, ◌≤◌, List, [], ◌∷◌, ◌++◌, length, Some, Contains, slice_get}
use Rattle.std.proofs.Common.{sym, ap, ◌∙◌, subst, inl, inr, arith}
use Rattle.std.proofs.lemmas.Option.{slice_get_within}
use Rattle.std.proofs.lemmas.Bool.{cases_lt, cases_eq}
use Rattle.jv_list.proofs.ElementLemmas.{one_at}
use Rattle.cn_clauses.specs.declared.lit.Lit.{Lit}
use Rattle.cn_clauses.specs.Literals.{opposite_of}
use Rattle.cn_clauses.specs.Laws.{OppositeTwice}
use Rattle.sa_core.specs.declared.step.Step.{Step}
use Rattle.sa_core.specs.declared.watches.Watchers.{Watchers}
use Rattle.sa_core.specs.declared.pair.Pair.{Pair}
use Rattle.sa_core.specs.TrailView.{lits_of, Stands}
use Rattle.sa_core.specs.SolverView.{IsUnit}
use Rattle.sa_core.specs.Watching.{IsListed, AreListed, IsTrueBefore, Guards, IsGuarded}
use Rattle.sa_core.specs.Watching.{IsPlaceAt}
use Rattle.sa_core.specs.Calls.Propagate.{IsStale, IsOther, HasTrueOther, AsksForOther, IsAwaited}
use Rattle.sa_core.specs.Calls.Propagate.{IsTurning}
use Rattle.sa_core.proofs.LitLemmas.{cases_lit}
use Rattle.sa_core.proofs.TrailLemmas.{lits_length}
use Rattle.sa_core.proofs.GrowLemmas.{grows_push, kept_lit}
use Rattle.sa_core.proofs.GuardLemmas.{stands_later, guards_before, guarded_on}
use Rattle.sa_core.proofs.StartLemmas.{push_kept, push_true}

-- the place at an index of the list
pub its_place : (lists : List (List ℕ)) (number index place : ℕ) (list : List ℕ) → slice_get lists number ≡ Some list
    → IsPlaceAt lists number index place → slice_get list index ≡ Some place
its_place lists number index place list is at =
    ap (λ (l : List ℕ). slice_get l index) (one_at lists number list at.list is at.is) ∙ at.has

-- the parts of a pair
module _ (pair : Pair) (lit other : Lit) (is : IsOther pair lit other) where
  pub other_apart : pair.first ≡ pair.second → ⊥
  other_apart same =
      elim is.either [
        | inl e ↦ is.apart (sym e.0 ∙ same ∙ e.1)
        | inr e ↦ is.apart (sym e.0 ∙ sym same ∙ e.1)
      ]

  pub other_within : (trail : List Lit) (from : ℕ) (lits : List Lit) → Guards trail from lits pair
      → Contains lits other
  other_within trail from lits h =
      elim is.either [ inl e ↦ subst (Contains lits) e.1 h.second | inr e ↦ subst (Contains lits) e.1 h.first ]

  pub other_left : (trail : List Lit) (from : ℕ) (lits : List Lit) → Guards trail from lits pair
      → Stands trail from (opposite_of other) → ⊥
  other_left trail from lits h =
      elim is.either [
        | inl e ↦ subst (λ (l : Lit). Stands trail from (opposite_of l) → ⊥) e.1 h.second_left
        | inr e ↦ subst (λ (l : Lit). Stands trail from (opposite_of l) → ⊥) e.1 h.first_left
      ]

  pub other_listed : (pairs : List Pair) (lists : List (List ℕ)) (place : ℕ) → AreListed pairs lists
      → slice_get pairs place ≡ Some pair → IsListed lists other.0 place
  other_listed pairs lists place listed has =
      let both = listed place pair has other_apart in
      elim is.either [
        | inl e ↦ subst (λ (l : Lit). IsListed lists l.0 place) e.1 both.second
        | inr e ↦ subst (λ (l : Lit). IsListed lists l.0 place) e.1 both.first
      ]

  -- a literal that is not false takes the place of the one
  pub turned : (trail : List Lit) (from : ℕ) (lits : List Lit) (new : Pair) → from ≤ length trail
      → new.second ≡ other → Contains lits new.first → (new.first ≡ other → ⊥)
      → (Stands trail (length trail) (opposite_of new.first) → ⊥) → Guards trail from lits pair
      → Guards trail from lits new
  turned trail from lits new le same within apart left h =
      record {
        first = within;
        second = subst (Contains lits) (sym same) (other_within trail from lits h);
        apart = λ e. apart (e ∙ same);
        first_left = λ s. left (stands_later trail from (length trail) (opposite_of new.first) le s);
        second_left =
            subst (λ (l : Lit). Stands trail from (opposite_of l) → ⊥) (sym same) (other_left trail from lits h);
      }

module _ (twice : OppositeTwice) (trail : List Lit) (head : ℕ) (lit : Lit)
    (falsified : slice_get trail head ≡ Some (opposite_of lit)) where
  left_next : (one : Lit) → (one ≡ lit → ⊥) → (Stands trail head (opposite_of one) → ⊥)
      → Stands trail (head + 1) (opposite_of one) → ⊥
  left_next one ne left s =
      elim (cases_lt s.place head) [
        | inl lt ↦ left (record { place = s.place; before = lt; is = s.is })
        | inr le ↦
            let before : s.place < head + 1 = s.before in
            let here : s.place ≡ head = omega (arith, le, before) in
            let same : opposite_of one ≡ opposite_of lit =
            one_at trail head (opposite_of one) (opposite_of lit) (ap (slice_get trail) (sym here) ∙ s.is) falsified in
            ne (sym (twice one) ∙ ap opposite_of same ∙ twice lit)
      ]

  -- a pair without the literal guards from the next place on
  pub guards_next : (lits : List Lit) (pair : Pair) → (pair.first ≡ lit → ⊥) → (pair.second ≡ lit → ⊥)
      → Guards trail head lits pair → Guards trail (head + 1) lits pair
  guards_next lits pair not_first not_second h =
      record {
        first = h.first;
        second = h.second;
        apart = h.apart;
        first_left = left_next pair.first not_first h.first_left;
        second_left = left_next pair.second not_second h.second_left;
      }

module _ (twice : OppositeTwice) (variables : ℕ) (clauses : List (List Lit)) (watchers : Watchers) (steps : List Step)
    (head : ℕ) (lit : Lit) (index : ℕ) (turning : IsTurning variables clauses watchers steps head lit (index + 1))
    (place : ℕ) (at : slice_get turning.list index ≡ Some place) where
  pub awaited_less : (p : ℕ) → (p ≡ place → ⊥) → IsAwaited turning.list (index + 1) p → IsAwaited turning.list index p
  awaited_less p ne a =
      elim (cases_lt a.at index) [
        | inl lt ↦ record { at = a.at; before = lt; is = a.is }
        | inr le ↦
            let before : a.at < index + 1 = a.before in
            let here : a.at ≡ index = omega (arith, le, before) in
            absurd (ne (one_at turning.list index p place (ap (slice_get turning.list) (sym here) ∙ a.is) at))
      ]

  pub head_within : head + 1 ≤ length steps
  head_within =
      let lt : head < length (lits_of steps) =
      slice_get_within (lits_of steps) head (opposite_of lit) turning.falsified in
      omega (arith, lt, lits_length steps)

  -- the clause was guarded from the place on at which the literal became false
  pub guarded_here : (lits : List Lit) (pair : Pair) → slice_get clauses place ≡ Some lits
      → slice_get watchers.pairs place ≡ Some pair
      → IsGuarded (lits_of steps) head (length (lits_of steps)) lits pair
  guarded_here lits pair is has =
      elim (turning.passed place lits pair is has) [
        | inl (inl h) ↦ inl h
        | inl (inr h) ↦ inr (guards_before (lits_of steps) (head + 1) head lits pair (omega arith) h)
        | inr w ↦ w.0
      ]

  -- nothing is changed
  passed_same : ((lits : List Lit) (pair : Pair) → slice_get clauses place ≡ Some lits
      → slice_get watchers.pairs place ≡ Some pair
      → IsGuarded (lits_of steps) (head + 1) (length (lits_of steps)) lits pair)
      → IsTurning variables clauses watchers steps head lit index
  passed_same now =
      let room : index + 1 ≤ length turning.list = turning.room in
      record {
        kept = turning.kept;
        falsified = turning.falsified;
        list = turning.list;
        is = turning.is;
        room = omega (arith, room);
        passed = λ p lits pair is has.
            elim (cases_eq p place) [
              | inl same ↦
                  inl
                  (now lits pair (ap (slice_get clauses) (sym same) ∙ is)
                  (ap (slice_get watchers.pairs) (sym same) ∙ has))
              | inr ne ↦
                  elim (turning.passed p lits pair is has) [
                    | inl done ↦ inl done
                    | inr w ↦ inr (w.0, awaited_less p ne w.1)
                  ]
            ];
      }

  pub visit_past : length clauses ≤ place → IsTurning variables clauses watchers steps head lit index
  visit_past past =
      passed_same
      (λ lits pair is has.
      let lt : place < length clauses = slice_get_within clauses place lits is in
      absurd (omega (arith, lt, past)))

  module _ (pair : Pair) (paired : slice_get watchers.pairs place ≡ Some pair) (mine : List Lit)
      (held : slice_get clauses place ≡ Some mine) where
    guarded_now : IsGuarded (lits_of steps) head (length (lits_of steps)) mine pair
    guarded_now = guarded_here mine pair held paired

    -- the clause itself
    this : (IsGuarded (lits_of steps) (head + 1) (length (lits_of steps)) mine pair) → (lits : List Lit) (other : Pair)
        → slice_get clauses place ≡ Some lits → slice_get watchers.pairs place ≡ Some other
        → IsGuarded (lits_of steps) (head + 1) (length (lits_of steps)) lits other
    this h lits other is has =
        subst (λ (l : List Lit). IsGuarded (lits_of steps) (head + 1) (length (lits_of steps)) l other)
        (one_at clauses place mine lits held is)
        (subst (IsGuarded (lits_of steps) (head + 1) (length (lits_of steps)) mine)
        (one_at watchers.pairs place pair other paired has) h)

    pub visit_nothing : IsStale pair lit ⊎ HasTrueOther (lits_of steps) pair lit
        → IsTurning variables clauses watchers steps head lit index
    visit_nothing (inl stale) =
        passed_same
        (this
        (elim guarded_now [
          | inl h ↦ inl h
          | inr h ↦
              let neither = stale h.apart in
              inr
              (guards_next twice (lits_of steps) head lit turning.falsified mine pair neither.0 neither.1 h)
        ]))
    visit_nothing (inr other) =
        passed_same
        (this
        (elim guarded_now [
          | inl h ↦ inl h
          | inr h ↦
              inl
              (record {
                lit = other.other;
                within = other_within pair lit other.other other.is (lits_of steps) head mine h;
                stands = other.stands;
              })
        ]))

    -- the other literal is forced
    module _ (apart : (first second : ℕ) (one : Lit) → slice_get (lits_of steps) first ≡ Some one
        → slice_get (lits_of steps) second ≡ Some (opposite_of one) → ⊥) (other : Lit)
        (asks : AsksForOther (lits_of steps) mine pair lit other) where
      pub other_unit : IsUnit (lits_of steps) (length (lits_of steps)) mine other
      other_unit =
          record {
            within =
                elim guarded_now [
                  | inl h ↦
                      elim (cases_lit h.lit other) [
                        | inl same ↦ subst (Contains mine) same h.within
                        | inr ne ↦
                            let s = asks.others h.lit h.within ne in
                            absurd (apart h.stands.place s.place h.lit h.stands.is s.is)
                      ]
                  | inr h ↦ other_within pair lit other asks.is (lits_of steps) head mine h
                ];
            others = asks.others;
          }

      pub visit_literal : (step : Step) → step.lit ≡ other → step.reason ≡ Some place → (new : List Step)
          → new ≡ steps ++ step ∷ [] → IsTurning variables clauses watchers new head lit index
      visit_literal step by reason new pushed =
          let grows = grows_push steps new step pushed in
          let room : index + 1 ≤ length turning.list = turning.room in
          let le = head_within in
          record {
            kept =
                push_kept variables clauses watchers steps turning.kept place mine held other other_unit step by reason
                new
                pushed;
            falsified = kept_lit steps new grows head (opposite_of lit) turning.falsified;
            list = turning.list;
            is = turning.is;
            room = omega (arith, room);
            passed = λ p lits one is has.
                elim (cases_eq p place) [
                  | inl same ↦
                      inl
                      (inl
                      (subst (IsTrueBefore (lits_of new) (length (lits_of new)))
                      (one_at clauses place mine lits held (ap (slice_get clauses) (sym same) ∙ is))
                      (push_true variables clauses watchers steps turning.kept place mine held other other_unit step by
                      reason new pushed)))
                  | inr ne ↦
                      elim (turning.passed p lits one is has) [
                        | inl done ↦ inl (guarded_on steps new grows (head + 1) lits one le done)
                        | inr w ↦
                            inr
                            (guarded_on steps new grows head lits one (omega (arith, le)) w.0, awaited_less p ne w.1)
                      ]
                ];
          }
