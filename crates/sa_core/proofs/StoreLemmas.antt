-- A store with one clause more.
use Rattle.std.proofs.Common.{◌≡◌, ℕ, zero, suc, ◌+◌, ◌-◌, ◌≤◌, List, [], ◌∷◌, ◌++◌, length, take, drop, Contains, Some}
use Rattle.std.proofs.Common.{slice_get, slice_range, refl, sym, ap, ap₂, ◌∙◌, subst, inl, inr, arith, length-append}
use Rattle.std.proofs.Common.{length-drop, drop_at, take_all}
use Rattle.std.proofs.lemmas.List.{map-append, drop-append-le, take-append-le}
use Rattle.std.proofs.lemmas.List.Elements.{Contains-push_cases}
use Rattle.jv_list.proofs.PlaceLemmas.{slice_get-push_cases}
use Rattle.cn_clauses.specs.declared.lit.Lit.{Lit}
use Rattle.sa_core.specs.declared.span.Span.{Span}
use Rattle.sa_core.specs.declared.pair.Pair.{Pair}
use Rattle.sa_core.specs.declared.watches.Watchers.{Watchers}
use Rattle.sa_core.specs.StoreView.{spanned, AreSpans}
use Rattle.sa_core.specs.SolverView.{IsWithin, AreWithin}
use Rattle.sa_core.specs.Watching.{IsStored}

range_more : (lits more : List Lit) (a b : ℕ) → a ≤ b → b ≤ length lits
    → slice_range (lits ++ more) a b ≡ slice_range lits a b
range_more lits more a b le within =
    let left : length (drop a lits) ≡ length lits - a = length-drop a lits in
    ap (take (b - a)) (drop-append-le a lits more (omega (arith, le, within)))
    ∙ take-append-le (b - a) (drop a lits) more (omega (arith, left, le, within))

spanned_more : (lits more : List Lit) (spans : List Span) → AreSpans lits spans
    → spanned (lits ++ more) spans ≡ spanned lits spans
spanned_more lits more [] are = refl
spanned_more lits more (s ∷ spans) are =
    let here = are zero s refl in
    ap₂ (λ (x : List Lit) (xs : List (List Lit)). x ∷ xs) (range_more lits more s.start s.end here.0 here.1)
    (spanned_more lits more spans (λ place span e. are (suc place) span e))

range_last : (lits more : List Lit) (a b : ℕ) → a ≡ length lits → b ≡ length (lits ++ more)
    → slice_range (lits ++ more) a b ≡ more
range_last lits more a b e f =
    let all : length (lits ++ more) ≡ length lits + length more = length-append lits more in
    ap (take (b - a)) (drop_at lits more a (sym e)) ∙ take_all (b - a) more (omega (arith, e, f, all))

pub stored : (lits more new : List Lit) (spans new_spans : List Span) (span : Span) → AreSpans lits spans
    → new ≡ lits ++ more → new_spans ≡ spans ++ span ∷ [] → span.start ≡ length lits → span.end ≡ length new
    → spanned new new_spans ≡ spanned lits spans ++ more ∷ []
stored lits more new spans new_spans span are e f start end =
    ap₂ spanned e f
    ∙ map-append (λ (s : Span). slice_range (lits ++ more) s.start s.end) spans (span ∷ [])
    ∙ ap₂ (λ (x : List (List Lit)) (y : List Lit). x ++ y ∷ []) (spanned_more lits more spans are)
    (range_last lits more span.start span.end start (end ∙ ap length e))

pub within_more : (n : ℕ) (clauses new : List (List Lit)) (lits : List Lit) → new ≡ clauses ++ lits ∷ []
    → AreWithin n clauses → IsWithin n lits → AreWithin n new
within_more n clauses new lits e was within others has lit has_lit =
    elim (Contains-push_cases clauses lits others (subst (λ (l : List (List Lit)). Contains l others) e has)) [
      | inl before ↦ was others before lit has_lit
      | inr same ↦ within lit (subst (λ (l : List Lit). Contains l lit) (sym same) has_lit)
    ]

-- a clause without watches is stored
pub stored_more : (variables : ℕ) (clauses new : List (List Lit)) (watchers : Watchers) (pairs : List Pair)
    (pair : Pair)
    → pairs ≡ watchers.pairs ++ pair ∷ [] → pair.first ≡ pair.second → (lits : List Lit) → new ≡ clauses ++ lits ∷ []
    → IsWithin variables lits → IsStored variables clauses watchers
    → IsStored variables new (record { pairs = pairs; lists = watchers.lists })
stored_more variables clauses new watchers pairs pair pushed same lits e within stored =
    let count : length watchers.pairs ≡ length clauses = stored.count in
    let one : length pairs ≡ length watchers.pairs + 1 =
    ap length pushed ∙ length-append watchers.pairs (pair ∷ []) in
    let two : length new ≡ length clauses + 1 = ap length e ∙ length-append clauses (lits ∷ []) in
    record {
      size = stored.size;
      count = omega (arith, one, two, count);
      listed = λ place other is apart.
          elim (slice_get-push_cases watchers.pairs pair other place
          (ap (λ (l : List Pair). slice_get l place) (sym pushed) ∙ is)) [
            | inl before ↦ stored.listed place other before apart
            | inr last ↦ absurd (apart (subst (λ (p : Pair). p.first ≡ p.second) last.1 same))
          ];
      within = within_more variables clauses new lits e stored.within within;
    }

-- and the pairs of the others stay
pub pairs_more : (pairs more : List Pair) (pair : Pair) → more ≡ pairs ++ pair ∷ [] → (place : ℕ) (one : Pair)
    → (place ≡ length pairs → ⊥) → slice_get more place ≡ Some one → slice_get pairs place ≡ Some one
pairs_more pairs more pair pushed place one ne is =
    elim (slice_get-push_cases pairs pair one place (ap (λ (l : List Pair). slice_get l place) (sym pushed) ∙ is)) [
      | inl before ↦ before
      | inr last ↦ absurd (ne last.0)
    ]
