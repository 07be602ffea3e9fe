-- What unit propagation forces is true, so what it shows follows.
use Rattle.std.proofs.Common.{◌≡◌, ℕ, Bool, true, false, List, get_or, Contains, All, sym, ap, ◌∙◌, subst, inl, inr}
use Rattle.std.specs.List.{list_all}
use Rattle.std.proofs.lemmas.Bool.{cases_Bool, cases_eq, both_ways, not-true, not_from_false}
use Rattle.std.proofs.lemmas.List.Folds.{Any-from_list_any, list_any_at, list_all_at}
use Rattle.std.proofs.lemmas.List.Elements.{All-map, All-contains}
use Rattle.cn_clauses.specs.declared.lit.Lit.{Lit}
use Rattle.cn_clauses.specs.Literals.{opposite_of, lit_value}
use Rattle.cn_clauses.specs.Satisfaction.{clause_holds, Satisfies, Follows}
use Rattle.cn_clauses.specs.Propagation.{IsForced, Started, Propagated, opposites_of, IsConflict, Rup}
use Rattle.cn_clauses.proofs.LiteralLemmas.{opposite_value}

same_lit : (x y : Lit) → x.0 ≡ y.0 → x ≡ y
same_lit x y e = ap (λ (n : ℕ). let l : Lit = record { 0 = n } in l) e

-- a clause of a list that is satisfied holds
pub clause_of_satisfied : (a : ℕ → Bool) (clauses : List (List Lit)) (lits : List Lit) → Satisfies a clauses
    → Contains clauses lits → clause_holds a lits ≡ true
clause_of_satisfied a clauses lits sat stands =
    let falls = λ (fails : clause_holds a lits ≡ false).
    list_all_at (clause_holds a) clauses stands.0 lits stands.1 (ap (clause_holds a) stands.2 ∙ fails) in
    elim (cases_Bool (clause_holds a lits)) [
      | inl is ↦ is
      | inr fails ↦ absurd (both_ways (list_all (clause_holds a) clauses) (falls fails) sat)
    ]

-- a clause whose other literals are false is true by its literal
unit_true : (a : ℕ → Bool) (lits : List Lit) (lit : Lit) → clause_holds a lits ≡ true
    → ((other : Lit) → Contains lits other → (other ≡ lit → ⊥) → lit_value a other ≡ false) → lit_value a lit ≡ true
unit_true a lits lit holds others =
    let some = Any-from_list_any (lit_value a) lits holds in
    let other = others some.1 (some.0, some.2, some.3) in
    elim (cases_eq some.1.0 lit.0) [
      | inl e ↦ subst (λ (l : Lit). lit_value a l ≡ true) (same_lit some.1 lit e) some.4
      | inr ne ↦ absurd (both_ways (lit_value a some.1) (other (λ e. ne (ap (λ (l : Lit). l.0) e))) some.4)
    ]

-- a literal is false where its opposite is true
false_from_opposite : (a : ℕ → Bool) (lit : Lit) → lit_value a (opposite_of lit) ≡ true → lit_value a lit ≡ false
false_from_opposite a lit h = not-true (lit_value a lit) (sym (opposite_value a lit) ∙ h)

module _ (clauses : List (List Lit)) (start : List Lit) (a : ℕ → Bool) (sat : Satisfies a clauses)
    (given : (lit : Lit) → Contains start lit → lit_value a lit ≡ true) where
  pub forced_true : (lit : Lit) → IsForced clauses start lit → lit_value a lit ≡ true
  forced_true at (Started lit stands) = given lit stands
  forced_true at (Propagated lits lit stands has others) =
      unit_true a lits lit (clause_of_satisfied a clauses lits sat stands)
      (λ other within ne. false_from_opposite a other (forced_true (opposite_of other) (others other within ne)))

module _ (few many : List (List Lit)) (first second : List Lit)
    (clauses : (lits : List Lit) → Contains few lits → Contains many lits)
    (starts : (lit : Lit) → Contains first lit → Contains second lit) where
  pub forced_more : (lit : Lit) → IsForced few first lit → IsForced many second lit
  forced_more at (Started lit stands) = Started lit (starts lit stands)
  forced_more at (Propagated lits lit stands has others) =
      Propagated lits lit (clauses lits stands) has
      (λ other within ne. forced_more (opposite_of other) (others other within ne))

-- the opposites of the literals of a clause that does not hold are true
opposites_true : (a : ℕ → Bool) (lits : List Lit) → clause_holds a lits ≡ false
    → All (λ lit. lit_value a lit ≡ true) (opposites_of lits)
opposites_true a lits fails =
    All-map (λ lit. lit_value a lit ≡ true) opposite_of lits (λ k d lt.
    elim (cases_Bool (lit_value a (get_or lits k d))) [
      | inl is ↦ absurd (both_ways (clause_holds a lits) fails (list_any_at (lit_value a) lits k d lt is))
      | inr is ↦ opposite_value a (get_or lits k d) ∙ not_from_false (lit_value a (get_or lits k d)) is
    ])

-- a start that is true opposes no whole clause
no_conflict : (clauses : List (List Lit)) (start : List Lit) (a : ℕ → Bool) → Satisfies a clauses
    → ((lit : Lit) → Contains start lit → lit_value a lit ≡ true) → IsConflict clauses start → ⊥
no_conflict clauses start a sat given conflict =
    let some =
    Any-from_list_any (lit_value a) conflict.lits
    (clause_of_satisfied a clauses conflict.lits sat conflict.stands) in
    let opposed =
    forced_true clauses start a sat given (opposite_of some.1)
    (conflict.opposed some.1 (some.0, some.2, some.3)) in
    both_ways (lit_value a some.1) (false_from_opposite a some.1 opposed) some.4

pub rup_follows : (clauses : List (List Lit)) (lits : List Lit) → Rup clauses lits → Follows clauses lits
rup_follows clauses lits rup a sat =
    let start = opposites_of lits in
    let given = λ (fails : clause_holds a lits ≡ false) (lit : Lit) (within : Contains start lit).
    All-contains (λ l. lit_value a l ≡ true) start lit (opposites_true a lits fails) within in
    elim (cases_Bool (clause_holds a lits)) [
      | inl is ↦ is
      | inr fails ↦ absurd (no_conflict clauses start a sat (given fails) rup)
    ]

pub rup_more : (few many : List (List Lit)) (lits : List Lit)
    → ((one : List Lit) → Contains few one → Contains many one) → Rup few lits → Rup many lits
rup_more few many lits clauses rup = record {
  lits = rup.lits;
  stands = clauses rup.lits rup.stands;
  opposed =
      λ lit within. forced_more few many (opposites_of lits) (opposites_of lits) clauses (λ l h. h)
      (opposite_of lit) (rup.opposed lit within);
}
