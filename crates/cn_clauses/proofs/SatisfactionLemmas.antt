-- Assignments that agree satisfy the same clauses, and clauses below a number are below each larger one.
use Rattle.std.proofs.Common.{◌≡◌, ◌<◌, ◌≤◌, ℕ, Bool, true, ◌&&◌, ◌||◌, List, [], ◌∷◌, ◌++◌, refl, sym, ap, ◌∙◌, arith}
use Rattle.std.proofs.Common.{nat_lt}
use Rattle.std.specs.List.{list_all}
use Rattle.std.proofs.lemmas.List.Folds.{list_all-append}
use Rattle.std.proofs.lemmas.Bool.{and_parts, and_from, ltb-true, lt-ltb}
use Rattle.cn_clauses.specs.declared.lit.Lit.{Lit}
use Rattle.cn_clauses.specs.Literals.{variable_of, lit_value}
use Rattle.cn_clauses.specs.Satisfaction.{clause_holds, all_hold, Satisfies, Agrees, IsClauseBelow, AreClausesBelow}
use Rattle.cn_clauses.proofs.LiteralLemmas.{value_agrees}

pub clause_agrees : (n : ℕ) (a b : ℕ → Bool) (lits : List Lit) → Agrees n a b → IsClauseBelow n lits
    → clause_holds a lits ≡ clause_holds b lits
clause_agrees n a b [] agrees below = refl
clause_agrees n a b (lit ∷ lits) agrees below =
    ap (λ (x : Bool). x || clause_holds a lits) (value_agrees n a b lit agrees below.0)
    ∙ ap (λ (x : Bool). lit_value b lit || x) (clause_agrees n a b lits agrees below.1)

pub clauses_agree : (n : ℕ) (a b : ℕ → Bool) (clauses : List (List Lit)) → Agrees n a b → AreClausesBelow n clauses
    → all_hold a clauses ≡ all_hold b clauses
clauses_agree n a b [] agrees below = refl
clauses_agree n a b (lits ∷ clauses) agrees below =
    ap (λ (x : Bool). x && all_hold a clauses) (clause_agrees n a b lits agrees below.0)
    ∙ ap (λ (x : Bool). clause_holds b lits && x) (clauses_agree n a b clauses agrees below.1)

pub clause_below_more : (n m : ℕ) (lits : List Lit) → n ≤ m → IsClauseBelow n lits → IsClauseBelow m lits
clause_below_more n m [] le below = tt
clause_below_more n m (lit ∷ lits) le below =
    let first : variable_of lit < n = below.0 in
    (omega (arith, first), clause_below_more n m lits le below.1)

pub below_more : (n m : ℕ) (clauses : List (List Lit)) → n ≤ m → AreClausesBelow n clauses → AreClausesBelow m clauses
below_more n m [] le below = tt
below_more n m (lits ∷ clauses) le below = (clause_below_more n m lits le below.0, below_more n m clauses le below.1)

pub below_append : (n : ℕ) (xs ys : List (List Lit)) → AreClausesBelow n xs → AreClausesBelow n ys
    → AreClausesBelow n (xs ++ ys)
below_append n [] ys xs_below ys_below = ys_below
below_append n (x ∷ xs) ys xs_below ys_below = (xs_below.0, below_append n xs ys xs_below.1 ys_below)

pub clause_below_append : (n : ℕ) (xs ys : List Lit) → IsClauseBelow n xs → IsClauseBelow n ys
    → IsClauseBelow n (xs ++ ys)
clause_below_append n [] ys xs_below ys_below = ys_below
clause_below_append n (x ∷ xs) ys xs_below ys_below = (xs_below.0, clause_below_append n xs ys xs_below.1 ys_below)

pub satisfies_parts : (a : ℕ → Bool) (xs ys zs : List (List Lit)) → zs ≡ xs ++ ys → Satisfies a zs
    → Satisfies a xs × (all_hold a ys ≡ true)
satisfies_parts a xs ys zs e h =
    and_parts (all_hold a xs) (all_hold a ys)
    (sym (list_all-append (clause_holds a) xs ys) ∙ sym (ap (all_hold a) e) ∙ h)

pub satisfies_both : (a : ℕ → Bool) (xs ys zs : List (List Lit)) → zs ≡ xs ++ ys → Satisfies a xs
    → all_hold a ys ≡ true → Satisfies a zs
satisfies_both a xs ys zs e first second =
    ap (all_hold a) e ∙ list_all-append (clause_holds a) xs ys ∙ and_from (all_hold a xs) (all_hold a ys) first second

-- the test whether each literal is below a number
pub below_from_test : (n : ℕ) (lits : List Lit) → list_all (λ (lit : Lit). nat_lt (variable_of lit) n) lits ≡ true
    → IsClauseBelow n lits
below_from_test n [] h = tt
below_from_test n (lit ∷ lits) h =
    let parts = and_parts (nat_lt (variable_of lit) n) (list_all (λ (l : Lit). nat_lt (variable_of l) n) lits) h in
    (ltb-true (variable_of lit) n parts.0, below_from_test n lits parts.1)

pub test_from_below : (n : ℕ) (lits : List Lit) → IsClauseBelow n lits
    → list_all (λ (lit : Lit). nat_lt (variable_of lit) n) lits ≡ true
test_from_below n [] below = refl
test_from_below n (lit ∷ lits) below =
    and_from (nat_lt (variable_of lit) n) (list_all (λ (l : Lit). nat_lt (variable_of l) n) lits)
    (lt-ltb (variable_of lit) n below.0) (test_from_below n lits below.1)
