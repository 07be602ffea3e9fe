-- Clauses that slices hold.
use Rattle.std.proofs.Common.{◌≡◌, ◌<◌, ℕ, List, [], ◌∷◌, length, map, get_or, subst, sym, Bor}
use Rattle.std.specs.List.{AllByRecursion}
use Rattle.std.proofs.lemmas.List.Elements.{All-from_recursion}
use Rattle.cn_clauses.specs.declared.lit.Lit.{Lit}
use Rattle.cn_clauses.specs.Satisfaction.{IsClauseBelow, AreClausesBelow}

-- the literals that slices hold
abbrev pub lits_at : List (Bor (List Lit)) → List (List Lit)
lits_at slices = map (λ (lits : Bor (List Lit)). lits.now) slices

each_below : (n : ℕ) (slices : List (Bor (List Lit))) → AreClausesBelow n (lits_at slices)
    → AllByRecursion (λ (lits : Bor (List Lit)). IsClauseBelow n lits.now) slices
each_below n [] below = tt
each_below n (lits ∷ slices) below = (below.0, each_below n slices below.1)

pub below_at : (n m : ℕ) (slices : List (Bor (List Lit))) (i : ℕ) (d : Bor (List Lit)) → m ≡ n
    → AreClausesBelow n (lits_at slices) → i < length slices → IsClauseBelow m (get_or slices i d).now
below_at n m slices i d same below lt =
    subst (λ (k : ℕ). IsClauseBelow k (get_or slices i d).now) (sym same)
    (All-from_recursion (λ (lits : Bor (List Lit)). IsClauseBelow n lits.now) slices
    (each_below n slices below) i d lt)
