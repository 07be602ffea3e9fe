-- The classes among the types, in another order.
use Rattle.std.proofs.Common.{◌≡◌, ℕ, Bool, List, map, IsPermutation, sym, subst, ◌∙◌, rules}
use Rattle.std.specs.Prelude.{IsSorted, nat_eq}
use Rattle.std.specs.List.{IsDistinct}
use Rattle.std.specs.Ordering.{nat_cmp, is_lt}
use Rattle.std.specs.Cmp.Lexicographic.{pointwise, slice_cmp, lists_total}
use Rattle.std.proofs.lemmas.Cmp.{nat_cmp_total}
use Rattle.std.proofs.lemmas.List.Sorted.{answers_always, ranks_by}
use Rattle.hi_inputs.specs.Calls.Flat.{field_of_flat}
use Rattle.hi_inputs.specs.Calls.Made.{AreMadeAmong}
use Rattle.hi_inputs.proofs.ClassLemmas.{input_classes, moved, once_sorted}
use Rattle.hi_inputs.proofs.classes.input_classes.Goals as goal

pub returns-clause-value : goal.returns-clause-value
returns-clause-value c =
    let classes = c.args.classes.now in
    let types = c.in_ok-types.types.keys in
    let names : List (List ℕ) = c.in_ok-found.found.keys in
    let same : c.into_vec-names.result.items ≡ names = c.into_vec-names.ensures ∙ c.in_ok-names_of.ensures.value in
    let order : IsPermutation names c.from_vec.result =
    moved _ names _ c.from_vec.result same c.from_vec.ensures c.sort_unstable_by.ensures.permutation in
    input_classes classes c.args.entry.now c.args.depth (map field_of_flat types) names c.from_vec.result
    c.in_ok-types.ensures
    (subst (λ l. AreMadeAmong classes (map field_of_flat l) names) c.as_slice.ensures.keys c.in_ok-found.ensures) order

pub returns-clause-sorted : goal.returns-clause-sorted
returns-clause-sorted c =
    let lt : List ℕ → List ℕ → Bool = λ x y. is_lt (slice_cmp nat_cmp x y) in
    subst (IsSorted (slice_cmp nat_cmp)) (sym c.from_vec.ensures)
    (c.sort_unstable_by.ensures.sorted lt (ranks_by (lists_total nat_cmp_total) (λ (n : List ℕ). n))
    (answers_always _ _ _ (λ f a r g h. search rules)))

pub returns-clause-once : goal.returns-clause-once
returns-clause-once c =
    let names : List (List ℕ) = c.in_ok-found.found.keys in
    let same : c.into_vec-names.result.items ≡ names = c.into_vec-names.ensures ∙ c.in_ok-names_of.ensures.value in
    let order : IsPermutation names c.from_vec.result =
    moved _ names _ c.from_vec.result same c.from_vec.ensures c.sort_unstable_by.ensures.permutation in
    once_sorted names c.from_vec.result
    (subst (IsDistinct (pointwise nat_eq)) c.in_ok-names_of.ensures.value c.in_ok-names_of.ensures.apart) order
