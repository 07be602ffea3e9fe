-- Analysis: the literals that were seen give a conflict, until they are those of the learned clause.
use Rattle.std.proofs.Common.{◌≡◌, ◌≢◌, ℕ, ◌+◌, ◌<◌, ◌≤◌, Bool, true, List, [], ◌∷◌, ◌++◌, length, set, Some}
use Rattle.std.proofs.Common.{Contains, slice_get, refl, sym, ap, ◌∙◌, subst, inl, inr, arith, length-set}
use Rattle.std.proofs.lemmas.Bool.{cases_lt, cases_eq}
use Rattle.std.proofs.lemmas.List.Elements.{Contains-push, Contains-push_cases, Contains-append_left}
use Rattle.jv_list.proofs.PlaceLemmas.{slice_get-set_same, slice_get-set_other}
use Rattle.jv_list.proofs.MemberLemmas.{none_member}
use Rattle.cn_clauses.specs.declared.lit.Lit.{Lit}
use Rattle.cn_clauses.specs.Literals.{opposite_of}
use Rattle.cn_clauses.specs.Laws.{OppositeTwice}
use Rattle.cn_clauses.specs.Propagation.{IsForced, Propagated}
use Rattle.sa_core.specs.declared.analyze.Seen.{Seen}
use Rattle.sa_core.specs.declared.step.Step.{Step}
use Rattle.sa_core.specs.TrailView.{lits_of, Stands}
use Rattle.sa_core.specs.SolverView.{IsFalse, ByTrue, ByOpen, AreSettled, IsImplied, IsJustifiedBy, AreJustified}
use Rattle.sa_core.specs.Analysis.{IsSeen, Sees, GivesConflict, SomeSeen}
use Rattle.sa_core.specs.Calls.Analyze.{SeesMore}
use Rattle.jv_list.proofs.ElementLemmas.{at_contains, one_at}

-- the reason of a step
pub reason_at : (clauses : List (List Lit)) (steps : List Step) (place : ℕ) (step : Step) (reason : ℕ)
    → AreJustified clauses steps → slice_get steps place ≡ Some step → step.reason ≡ Some reason
    → IsImplied clauses (lits_of steps) place step.lit reason
reason_at clauses steps place step reason justified is e =
    subst (IsJustifiedBy clauses (lits_of steps) place step.lit) e (justified place step is)

-- a place that was reached from behind
pub at_last : (at place end : ℕ) → at < end → end ≡ place + 1 → place ≤ at → place ≡ at
at_last at place end lt e le = omega (arith, lt, e, le)

module _ (clauses : List (List Lit)) (trail : List Lit) where
  -- what a clause that is false gives
  pub gives_first : (lits : List Lit) (seen : List Bool) (end : ℕ) → Contains clauses lits
      → IsFalse trail (length trail) lits
      → ((lit : Lit) (place : ℕ) → Contains lits lit → slice_get trail place ≡ Some (opposite_of lit)
      → IsSeen seen place) → end ≡ length trail → GivesConflict clauses trail seen end
  gives_first lits seen end has fails sees e start forced =
      record {
        lits = lits;
        stands = has;
        opposed =
            λ lit within.
            let s = fails lit within in
            let lt : s.place < length trail = s.before in
            forced s.place (opposite_of lit) (omega (arith, lt, e)) (sees lit s.place within s.is) s.is;
      }

  -- a place that was not seen is passed
  pub gives_skip : (seen : List Bool) (place end : ℕ) → end ≡ place + 1 → (IsSeen seen place → ⊥)
      → GivesConflict clauses trail seen end → GivesConflict clauses trail seen place
  gives_skip seen place end e unseen was start forced =
      was start (λ at lit lt is stands.
      elim (cases_lt at place) [
        | inl before ↦ forced at lit before is stands
        | inr le ↦ absurd (unseen (subst (IsSeen seen) (sym (at_last at place end lt e le)) is))
      ])

  -- a literal that was seen is replaced by the others of its reason
  pub gives_resolve : (seen new : List Bool) (place end reason : ℕ) (lit : Lit) → end ≡ place + 1
      → slice_get trail place ≡ Some lit → (implied : IsImplied clauses trail place lit reason)
      → Sees trail seen new implied.lits → GivesConflict clauses trail seen end
      → GivesConflict clauses trail new place
  gives_resolve seen new place end reason lit e at_place implied sees was start forced =
      was start (λ at other lt is stands.
      elim (cases_lt at place) [
        | inl before ↦ forced at other before (sees.kept at is) stands
        | inr le ↦
            let same : lit ≡ other =
            one_at trail at lit other
            (ap (slice_get trail) (sym (at_last at place end lt e le)) ∙ at_place) stands in
            subst (IsForced clauses start) same
            (Propagated implied.lits lit (at_contains clauses reason implied.lits implied.stands) implied.unit.within
            (λ third within ne.
            let s = implied.unit.others third within ne in
            forced s.place (opposite_of third) s.before (sees.seen third s.place within s.is) s.is))
      ])

  -- a clause that is false has a literal that became so at the mark or later
  pub some_first : (mark : ℕ) (lits : List Lit) (seen : List Bool)
      → ((first second : ℕ) (lit : Lit) → slice_get trail first ≡ Some lit
      → slice_get trail second ≡ Some (opposite_of lit) → ⊥) → AreSettled clauses trail mark → Contains clauses lits
      → IsFalse trail (length trail) lits
      → ((lit : Lit) (place : ℕ) → Contains lits lit → slice_get trail place ≡ Some (opposite_of lit)
      → IsSeen seen place) → SomeSeen seen mark (length trail)
  some_first mark lits seen apart settled has fails sees =
      elim (settled lits has) [
        | ByTrue lit within stands ↦
            let s = fails lit within in
            absurd (apart stands.place s.place lit stands.is s.is)
        | ByOpen one other has_one has_other ne first second ↦
            let s = fails one has_one in
            elim (cases_lt s.place mark) [
              | inl lt ↦ absurd (first.not_false (record { place = s.place; before = lt; is = s.is }))
              | inr le ↦ record { place = s.place; later = le; before = s.before; is = sees one s.place has_one s.is }
            ]
      ]

-- which places are left
pub some_skip : (seen : List Bool) (mark place end : ℕ) → end ≡ place + 1 → (IsSeen seen place → ⊥)
    → SomeSeen seen mark end → SomeSeen seen mark place
some_skip seen mark place end e unseen was =
    elim (cases_lt was.place place) [
      | inl lt ↦ record { place = was.place; later = was.later; before = lt; is = was.is }
      | inr le ↦
          absurd (unseen (subst (IsSeen seen) (sym (at_last was.place place end was.before e le)) was.is))
    ]

pub some_kept : (trail : List Lit) (seen new : List Bool) (lits : List Lit) (mark place : ℕ)
    → Sees trail seen new lits → SomeSeen seen mark place → SomeSeen new mark place
some_kept trail seen new lits mark place sees was =
    record { place = was.place; later = was.later; before = was.before; is = sees.kept was.place was.is }

-- one more literal of a clause
module _ (trail : List Lit) (mark : ℕ) (old : Seen) where
  pub sees_none : SeesMore trail mark old old []
  sees_none =
      record {
        sees =
            record {
              same = refl;
              kept = λ place is. is;
              seen = λ lit place has e. absurd (none_member lit has);
            };
        lower = λ was. was;
      }

  -- it has no place, or its place was seen
  pub sees_seen : (mid : Seen) (lits : List Lit) (lit : Lit) → SeesMore trail mark old mid lits
      → ((place : ℕ) → slice_get trail place ≡ Some (opposite_of lit) → IsSeen mid.places place)
      → SeesMore trail mark old mid (lits ++ lit ∷ [])
  sees_seen mid lits lit was is_seen =
      record {
        sees =
            record {
              same = was.sees.same;
              kept = was.sees.kept;
              seen = λ other place has e.
                  elim (Contains-push_cases lits lit other has) [
                    | inl before ↦ was.sees.seen other place before e
                    | inr same ↦ is_seen place (e ∙ ap (λ (l : Lit). Some (opposite_of l)) (sym same))
                  ];
            };
        lower = was.lower;
      }

  module _ (twice : OppositeTwice) (mid : Seen) (lits : List Lit) (lit : Lit) (place : ℕ)
      (was : SeesMore trail mark old mid lits) (is : slice_get trail place ≡ Some (opposite_of lit))
      (lt : place < length mid.places)
      (one : (at : ℕ) → slice_get trail at ≡ Some (opposite_of lit) → at ≡ place) where
    still : (at : ℕ) → IsSeen mid.places at → IsSeen (set mid.places place true) at
    still at h =
        elim (cases_eq at place) [
          | inl same ↦
              ap (slice_get (set mid.places place true)) same ∙ slice_get-set_same mid.places place true lt
          | inr other ↦ slice_get-set_other mid.places place at true other ∙ h
        ]

    back : (at : ℕ) → at ≢ place → IsSeen (set mid.places place true) at → IsSeen mid.places at
    back at other h = sym (slice_get-set_other mid.places place at true other) ∙ h

    sees_now : (new : Seen) → new.places ≡ set mid.places place true
        → Sees trail old.places new.places (lits ++ lit ∷ [])
    sees_now new e =
        record {
          same = ap length e ∙ length-set mid.places place true ∙ was.sees.same;
          kept = λ at h. subst (λ (l : List Bool). IsSeen l at) (sym e) (still at (was.sees.kept at h));
          seen = λ other at has stands.
              subst (λ (l : List Bool). IsSeen l at) (sym e)
              (elim (Contains-push_cases lits lit other has) [
                | inl before ↦ still at (was.sees.seen other at before stands)
                | inr same ↦
                    ap (slice_get (set mid.places place true))
                    (one at (stands ∙ ap (λ (l : Lit). Some (opposite_of l)) (sym same)))
                    ∙ slice_get-set_same mid.places place true lt
              ]);
        }

    -- its place is seen, at the mark or later
    pub sees_later : (new : Seen) → new.places ≡ set mid.places place true → new.lower ≡ mid.lower → mark ≤ place
        → SeesMore trail mark old new (lits ++ lit ∷ [])
    sees_later new e f le =
        record {
          sees = sees_now new e;
          lower = λ h.
              let before = was.lower h in
              record {
                kept = λ at other below seen_at stands.
                    subst (λ (l : List Lit). Contains l (opposite_of other)) (sym f)
                    (before.kept at other below
                    (back at
                    (λ same.
                    let s : at ≡ place = same in
                    let b : at < mark = below in
                    omega (arith, s, b, le))
                    (subst (λ (l : List Bool). IsSeen l at) e seen_at))
                    stands);
                opposed = λ other has.
                    before.opposed other (subst (λ (l : List Lit). Contains l other) f has);
              };
        }

    -- or before it, and the literal is kept
    pub sees_lower : (new : Seen) → new.places ≡ set mid.places place true → new.lower ≡ mid.lower ++ lit ∷ []
        → place < mark → SeesMore trail mark old new (lits ++ lit ∷ [])
    sees_lower new e f before_mark =
        record {
          sees = sees_now new e;
          lower = λ h.
              let before = was.lower h in
              record {
                kept = λ at other below seen_at stands.
                    subst (λ (l : List Lit). Contains l (opposite_of other)) (sym f)
                    (elim (cases_eq at place) [
                      | inl same ↦
                          let is_lit : opposite_of other ≡ lit =
                          ap opposite_of
                          (one_at trail at other (opposite_of lit) stands (ap (slice_get trail) same ∙ is))
                          ∙ twice lit in
                          subst (Contains (mid.lower ++ lit ∷ [])) (sym is_lit) (Contains-push mid.lower lit)
                      | inr ne ↦
                          Contains-append_left mid.lower (lit ∷ []) (opposite_of other)
                          (before.kept at other below
                          (back at ne (subst (λ (l : List Bool). IsSeen l at) e seen_at)) stands)
                    ]);
                opposed = λ other has.
                    elim (Contains-push_cases mid.lower lit other (subst (λ (l : List Lit). Contains l other) f has)) [
                      | inl there ↦ before.opposed other there
                      | inr same ↦
                          subst (λ (l : Lit). Stands trail mark (opposite_of l)) same
                          (record { place = place; before = before_mark; is = is })
                    ];
              };
        }
