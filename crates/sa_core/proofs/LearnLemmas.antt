-- A learned clause: it is new to unit propagation, and it keeps the search justified where the trail is cut for it.
use Rattle.std.proofs.Common.{◌≡◌, ℕ, ◌<◌, Bool, not, cond, List, [], ◌∷◌, Some, Contains, slice_get, sym, ap, ◌∙◌}
use Rattle.std.proofs.Common.{subst, inl, inr, eq-eqb, ne_eqb}
use Rattle.std.proofs.lemmas.Bool.{cases_eq}
use Rattle.std.proofs.lemmas.List.Elements.{Contains-append_right}
use Rattle.jv_list.proofs.MemberLemmas.{from_map, first_member, none_member, member_cases}
use Rattle.cn_clauses.specs.declared.lit.Lit.{Lit}
use Rattle.cn_clauses.specs.Literals.{opposite_of, variable_of}
use Rattle.cn_clauses.specs.Laws.{OppositeTwice, OppositeVariable}
use Rattle.cn_clauses.specs.Propagation.{IsForced, Started, Propagated, opposites_of}
use Rattle.sa_core.specs.SpentLog.{others_of, IsNew}
use Rattle.sa_core.specs.TrailView.{Stands}
use Rattle.sa_core.specs.SolverView.{IsSettled, ByTrue, ByOpen, AreSettled, IsWithin}
use Rattle.sa_core.specs.Analysis.{IsLearned}
use Rattle.sa_core.proofs.LitLemmas.{cases_lit, number_of}

-- no two literals of a trail are opposite
abbrev pub AreApart : List Lit → Type 0
AreApart trail = (first second : ℕ) (lit : Lit) → slice_get trail first ≡ Some lit
    → slice_get trail second ≡ Some (opposite_of lit) → ⊥

-- where all clauses are settled, unit propagation gives nothing that does not stand
module _ (clauses : List (List Lit)) (trail : List Lit) (mark : ℕ) (start : List Lit)
    (settled : AreSettled clauses trail mark) (apart : AreApart trail)
    (starts : (lit : Lit) → Contains start lit → Stands trail mark lit) where
  unit_stands : (lits : List Lit) (lit : Lit)
      → ((other : Lit) → Contains lits other → (other ≡ lit → ⊥) → Stands trail mark (opposite_of other))
      → IsSettled trail mark lits → Stands trail mark lit
  unit_stands lits lit others (ByTrue one has stands) =
      elim (cases_lit one lit) [
        | inl same ↦ subst (Stands trail mark) same stands
        | inr ne ↦ let s = others one has ne in absurd (apart stands.place s.place one stands.is s.is)
      ]
  unit_stands lits lit others (ByOpen one other has_one has_other ne first second) =
      elim (cases_lit one lit) [
        | inl same ↦ absurd (second.not_false (others other has_other (λ e. ne (same ∙ sym e))))
        | inr no_one ↦ absurd (first.not_false (others one has_one no_one))
      ]

  pub forced_stands : (lit : Lit) → IsForced clauses start lit → Stands trail mark lit
  forced_stands at (Started lit has) = starts lit has
  forced_stands at (Propagated lits lit has within others) =
      unit_stands lits lit (λ other has_other ne. forced_stands (opposite_of other) (others other has_other ne))
      (settled lits has)

-- what is left of a clause without a literal
in_others : (lit : Lit) (lits : List Lit) (other : Lit) → Contains (others_of lit lits) other
    → Contains lits other × (other ≡ lit → ⊥)
in_others lit [] other has = absurd (none_member other has)
in_others lit (x ∷ xs) other has =
    elim (cases_eq x.0 lit.0) [
      | inl same ↦
          let e : others_of lit (x ∷ xs) ≡ others_of lit xs =
          ap (λ (b : Bool). cond (not b) (x ∷ others_of lit xs) (others_of lit xs)) (eq-eqb x.0 lit.0 same) in
          let rest = in_others lit xs other (subst (λ (l : List Lit). Contains l other) e has) in
          (Contains-append_right (x ∷ []) xs other rest.0, rest.1)
      | inr ne ↦
          let e : others_of lit (x ∷ xs) ≡ x ∷ others_of lit xs =
          ap (λ (b : Bool). cond (not b) (x ∷ others_of lit xs) (others_of lit xs)) (ne_eqb x.0 lit.0 ne) in
          elim (member_cases x (others_of lit xs) other (subst (λ (l : List Lit). Contains l other) e has)) [
            | inl first ↦ (
              subst (Contains (x ∷ xs)) first (first_member x xs),
              λ same. ne (number_of x lit (first ∙ same)),
            )
            | inr more ↦
                let rest = in_others lit xs other more in
                (Contains-append_right (x ∷ []) xs other rest.0, rest.1)
          ]
    ]

-- the clause that is learned by a trail whose clauses were settled at the mark
module _ (twice : OppositeTwice) (clauses : List (List Lit)) (trail : List Lit) (mark : ℕ) (lit : Lit)
    (lower : List Lit)
    (apart : AreApart trail) (settled : AreSettled clauses trail mark)
    (learned : IsLearned clauses trail mark lit lower) where
  -- each of its literals is false somewhere
  pub opposed : (other : Lit) → Contains (lit ∷ lower) other
      → (place : ℕ) × (slice_get trail place ≡ Some (opposite_of other))
  opposed other has =
      elim (member_cases lit lower other has) [
        | inl same ↦ (
          learned.place,
          learned.is ∙ ap (λ (l : Lit). Some (opposite_of l)) same,
        )
        | inr more ↦ let s = learned.opposed other more in (s.place, s.is)
      ]

  starts : (other : Lit) → Contains (opposites_of (others_of lit (lit ∷ lower))) other → Stands trail mark other
  starts other has =
      let from = from_map opposite_of (others_of lit (lit ∷ lower)) other has in
      let rest = in_others lit (lit ∷ lower) from.0 from.1 in
      elim (member_cases lit lower from.0 rest.0) [
        | inl same ↦ absurd (rest.1 (sym same))
        | inr more ↦ subst (Stands trail mark) from.2 (learned.opposed from.0 more)
      ]

  forced : (other : Lit) → IsForced clauses (opposites_of (others_of lit (lit ∷ lower))) other → Stands trail mark other
  forced = forced_stands clauses trail mark (opposites_of (others_of lit (lit ∷ lower))) settled apart starts

  pub learned_new : IsNew clauses (lit ∷ lower)
  learned_new = (
    lit,
    record {
      within = first_member lit lower;
      unforced = λ f. let s = forced lit f in apart s.place learned.place lit s.is learned.is;
      apart = λ other f g.
          let s = forced other f in
          let t = forced (opposite_of other) g in
          apart s.place t.place other s.is t.is;
    },
  )

  pub learned_apart : (other : Lit) → Contains (lit ∷ lower) other → Contains (lit ∷ lower) (opposite_of other) → ⊥
  learned_apart other has has_opposite =
      let s = opposed other has in
      let t = opposed (opposite_of other) has_opposite in
      apart t.0 s.0 other (t.1 ∙ ap (λ (l : Lit). Some l) (twice other)) s.1

  pub learned_below : (variables : ℕ) → OppositeVariable
      → ((place : ℕ) (other : Lit) → slice_get trail place ≡ Some other → variable_of other < variables)
      → IsWithin variables (lit ∷ lower)
  learned_below variables same within other has =
      let s = opposed other has in
      subst (λ (n : ℕ). n < variables) (same other) (within s.0 (opposite_of other) s.1)
