-- How a store is seen: the list of its clauses; and the lists of places at which a literal occurs.
use Rattle.std.specs.Prelude.{◌≡◌, ◌≤◌, ℕ, List, map, length, slice_get, slice_range, Some}
use Rattle.cn_clauses.specs.declared.lit.Lit.{Lit}
use Rattle.sa_core.specs.declared.span.Span.{Span}

-- the clauses, each the literals between the ends of its span
abbrev pub spanned : List Lit → List Span → List (List Lit)
spanned lits spans = map (λ (span : Span). slice_range lits span.start span.end) spans

-- each span lies within the literals
abbrev pub AreSpans : List Lit → List Span → Type 0
AreSpans lits spans =
    (place : ℕ) (span : Span) → slice_get spans place ≡ Some span → (span.start ≤ span.end) × (span.end ≤ length lits)
