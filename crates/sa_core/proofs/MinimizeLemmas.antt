-- The clause that is learned: what was seen before the mark is given by the literals that minimisation left.
use Rattle.std.proofs.Common.{◌≡◌, ◌+◌, ◌*◌, ◌<◌, ◌≤◌, ℕ, zero, suc, Bool, List, [], ◌∷◌, ◌++◌, length, Option, Some}
use Rattle.std.proofs.Common.{Contains}
use Rattle.std.proofs.Common.{slice_get, sym, ap, ◌∙◌}
use Rattle.std.proofs.Common.{subst, inl, inr, arith}
use Rattle.std.proofs.lemmas.Bool.{cases_lt}
use Rattle.std.proofs.lemmas.List.Elements.{Contains-append_left, Contains-append_right, Contains-push}
use Rattle.std.proofs.lemmas.List.Elements.{Contains-push_cases}
use Rattle.jv_list.proofs.ElementLemmas.{at_contains, one_at}
use Rattle.jv_list.proofs.MemberLemmas.{in_map, first_member}
use Rattle.cn_clauses.specs.declared.lit.Lit.{Lit}
use Rattle.cn_clauses.specs.Literals.{opposite_of}
use Rattle.cn_clauses.specs.Laws.{OppositeTwice, OppositeVariable}
use Rattle.cn_clauses.specs.Propagation.{IsForced, Started, Propagated, opposites_of, Rup}
use Rattle.sa_core.specs.Analysis.{IsSeen, IsLower, GivesConflict, SomeSeen, IsLearnedClause, IsSpare, IsMinimized}
use Rattle.sa_core.specs.declared.step.Step.{Step}
use Rattle.sa_core.specs.TrailView.{lits_of, IsPlaced}
use Rattle.sa_core.specs.SolverView.{IsWithin}
use Rattle.sa_core.proofs.AnalyzeLemmas.{at_last}
use Rattle.sa_core.proofs.JumpLemmas.{trail_within}

-- the literals that were kept are of the trail's variables
pub lower_within : (same : OppositeVariable) (steps : List Step) (places : List (Option ℕ)) (variables : ℕ)
    → IsPlaced steps places → length places ≡ 2 * variables → (mark : ℕ) (seen : List Bool) (lower : List Lit)
    → IsLower (lits_of steps) mark seen lower → IsWithin variables lower
lower_within same steps places variables was size mark seen lower kept lit has =
    let s = kept.opposed lit has in
    subst (λ (n : ℕ). n < variables) (same lit)
    (trail_within steps places variables was size s.place (opposite_of lit) s.is)

-- what a loop over the others has left
module _ (clauses : List (List Lit)) (trail : List Lit) (seen : List Bool) (lit : Lit) where
  pub minimized_first : (lits : List Lit) → lits ≡ lit ∷ [] → IsMinimized clauses trail seen lit [] lits
  minimized_first lits e =
      record {
        rest = [];
        is = e;
        some = λ other has. has;
        left = λ other has. inl has;
      }

  pub minimized_more : (front lits new : List Lit) (other : Lit) → IsMinimized clauses trail seen lit front lits
      → new ≡ lits ++ other ∷ [] → IsMinimized clauses trail seen lit (front ++ other ∷ []) new
  minimized_more front lits new other was e =
      record {
        rest = was.rest ++ other ∷ [];
        is = e ∙ ap (λ (l : List Lit). l ++ other ∷ []) was.is;
        some = λ one has.
            elim (Contains-push_cases was.rest other one has) [
              | inl there ↦ Contains-append_left front (other ∷ []) one (was.some one there)
              | inr same ↦ subst (Contains (front ++ other ∷ [])) same (Contains-push front other)
            ];
        left = λ one has.
            elim (Contains-push_cases front other one has) [
              | inl there ↦
                  elim (was.left one there) [
                    | inl kept ↦ inl (Contains-append_left was.rest (other ∷ []) one kept)
                    | inr spare ↦ inr spare
                  ]
              | inr same ↦ inl (subst (Contains (was.rest ++ other ∷ [])) same (Contains-push was.rest other))
            ];
      }

  pub minimized_spare : (front lits : List Lit) (other : Lit) → IsMinimized clauses trail seen lit front lits
      → IsSpare clauses trail seen (opposite_of other) → IsMinimized clauses trail seen lit (front ++ other ∷ []) lits
  minimized_spare front lits other was spare =
      record {
        rest = was.rest;
        is = was.is;
        some = λ one has. Contains-append_left front (other ∷ []) one (was.some one has);
        left = λ one has.
            elim (Contains-push_cases front other one has) [
              | inl there ↦ was.left one there
              | inr same ↦ inr (subst (λ (l : Lit). IsSpare clauses trail seen (opposite_of l)) same spare)
            ];
      }

module _ (clauses : List (List Lit)) (trail : List Lit) (twice : OppositeTwice)
    (one : (i j : ℕ) (lit : Lit) → slice_get trail i ≡ Some lit → slice_get trail j ≡ Some lit → i ≡ j)
    (mark : ℕ) (seen : List Bool) (lower : List Lit) (lit : Lit) (lits : List Lit) (kept : IsLower trail mark seen
    lower)
    (short : IsMinimized clauses trail seen (opposite_of lit) lower lits) where
  started : (other : Lit) → Contains lits (opposite_of other) → IsForced clauses (opposites_of lits) other
  started other has =
      subst (IsForced clauses (opposites_of lits)) (twice other)
      (Started (opposite_of (opposite_of other)) (in_map opposite_of lits (opposite_of other) has))

  -- what was seen before the mark, from its first place on
  forced_below : (n at : ℕ) (other : Lit) → at < n → at < mark → IsSeen seen at → slice_get trail at ≡ Some other
      → IsForced clauses (opposites_of lits) other
  forced_below zero at other lt below is stands = absurd (omega (arith, lt))
  forced_below (suc n) at other lt below is stands =
      elim (short.left (opposite_of other) (kept.kept at other below is stands)) [
        | inl has ↦
            started other
            (subst (λ (l : List Lit). Contains l (opposite_of other)) (sym short.is)
            (Contains-append_right (opposite_of lit ∷ []) short.rest (opposite_of other) has))
        | inr twice_opposed ↦
            let spare : IsSpare clauses trail seen other =
            subst (IsSpare clauses trail seen) (twice other) twice_opposed in
            let same : spare.place ≡ at = one spare.place at other spare.is stands in
            Propagated spare.implied.lits other
            (at_contains clauses spare.reason spare.implied.lits spare.implied.stands) spare.implied.unit.within
            (λ third within ne.
            let s = spare.implied.unit.others third within ne in
            let before : s.place < spare.place = s.before in
            forced_below n s.place (opposite_of third) (omega (arith, before, same, lt))
            (omega (arith, before, same, below)) (spare.others third within ne s.place s.is) s.is)
      ]

  module _ (place end : ℕ) (last : end ≡ place + 1) (is : slice_get trail place ≡ Some lit)
      (none : SomeSeen seen mark place → ⊥) (gives : GivesConflict clauses trail seen end) where
    learned_rup : Rup clauses lits
    learned_rup =
        gives (opposites_of lits) (λ at other lt seen_at stands.
        elim (cases_lt at place) [
          | inl before ↦
              elim (cases_lt at mark) [
                | inl below ↦ forced_below (at + 1) at other (omega arith) below seen_at stands
                | inr later ↦ absurd (none (record { place = at; later = later; before = before; is = seen_at }))
              ]
          | inr le ↦
              let same : lit ≡ other =
              one_at trail at lit other (ap (slice_get trail) (sym (at_last at place end lt last le)) ∙ is) stands in
              started other
              (subst (λ (l : Lit). Contains lits (opposite_of l)) same
              (subst (λ (l : List Lit). Contains l (opposite_of lit)) (sym short.is)
              (first_member (opposite_of lit) short.rest)))
        ])

    -- the opposites of what was seen make the clause that is learned
    pub learned_clause : mark ≤ place → IsLearnedClause clauses trail mark lits
    learned_clause later =
        record {
          lit = opposite_of lit;
          lower = short.rest;
          is = short.is;
          learned =
              record {
                place = place;
                later = later;
                is = is ∙ ap (λ (l : Lit). Some l) (sym (twice lit));
                opposed = λ other has. kept.opposed other (short.some other has);
                rup = subst (Rup clauses) short.is learned_rup;
              };
        }
