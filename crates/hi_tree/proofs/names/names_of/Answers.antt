use Rattle.std.proofs.Common.{◌≡◌, ℕ, ◌+◌, ◌++◌, List, [], ◌∷◌, Some, take, sym, ap, ◌∙◌}
use Rattle.std.specs.Prelude.{slice_get}
use Rattle.std.proofs.lemmas.List.{take_all}
use Rattle.std.proofs.lemmas.Option.{slice_get_within, get_or_from_slice_get}
use Rattle.jv_list.proofs.ElementLemmas.{none_at}
use Rattle.jv_list.proofs.PlaceLemmas.{take_with}
use Rattle.hi_tree.specs.Supers.{names_above}
use Rattle.hi_tree.specs.Calls.Steps.{above_name, known_of}
use Rattle.hi_tree.proofs.names.names_of.Goals as goal

next_name : (all names : List (List ℕ)) (place : ℕ) (name : List ℕ) → names ≡ take place all
    → slice_get all place ≡ Some name → names ++ name ∷ [] ≡ take (place + 1) all
next_name all names place name is at =
    ap (λ (l : List (List ℕ)). l ++ name ∷ []) is
    ∙ sym (take_with all place name (slice_get_within all place name at)
    (sym (get_or_from_slice_get all place name name at)))

pub loop-above-preserved : goal.loop-above-preserved
loop-above-preserved c =
    c.in_ok-add.ensures.ok
    ∙ ap (λ (n : List ℕ). c.loop-above.names ++ n ∷ []) (c.in_ok-from_text.ensures ∙ c.text.ensures)
    ∙ next_name (names_above c.args.up (known_of c.args.class)) c.loop-above.names c.loop-above.place
    (above_name c.in-Some.above) c.loop-above.invariant (sym c.in-Some.ensures.value)

pub returns : goal.returns
returns c =
    let all : List (List ℕ) = names_above c.args.up (known_of c.args.class) in
    c.loop-above.invariant ∙ take_all c.loop-above.place all (none_at all c.loop-above.place
    (sym c.in_default.ensures.value))
