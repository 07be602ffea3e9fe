-- Arguments with their types, told one after another: what is done and what is left are all of them.
use Rattle.std.proofs.Common.{◌≡◌, ℕ, List, [], ◌∷◌, ◌++◌, map, refl, sym, ap, ◌∙◌, append-nil, ◌⊎◌, inl, inr}
use Rattle.std.specs.List.{zip}
use Rattle.jv_base.specs.declared.input.Tree.{Tree}
use Rattle.serde_json.specs.Data.{Data}
use Rattle.tr_inputs.specs.Values.{tree_value}

abbrev pub told : List Tree → List (List ℕ) → List Data
told args types = map (λ pair. tree_value pair.0 pair.1) (zip args types)

none_left : (args : List Tree) (types : List (List ℕ)) → (args ≡ []) ⊎ (types ≡ []) → told args types ≡ []
none_left args types (inl e) = rw e refl
none_left [] types (inr e) = refl
none_left (arg ∷ args) types (inr e) = rw e refl

-- where trees or types end, what was done are all
pub all_told : (done : List Data) (args : List Tree) (types : List (List ℕ)) (all : List Data)
    → done ++ told args types ≡ all → (args ≡ []) ⊎ (types ≡ []) → done ≡ all
all_told done args types all is none =
    sym (append-nil done) ∙ ap (λ z. done ++ z) (sym (none_left args types none)) ∙ is
