-- The last element of a list.
use Rattle.std.proofs.Common.{◌≡◌, ℕ, suc, ◌-◌, List, [], ◌∷◌, ◌++◌, reverse, length, Some, None, refl, sym, ap, ◌∙◌}
use Rattle.std.proofs.Common.{arith}
use Rattle.std.specs.Prelude.{Option, slice_get, IfNone}
use Rattle.std.specs.Option.{option_to_list}
use Rattle.std.proofs.lemmas.List.{reverse-append, same_from_push}
use Rattle.std.proofs.lemmas.Option.{same_Some, none-some}

module _ {X : Type 0} where
  before_last : (y z : X) (zs : List X) → length (y ∷ (z ∷ zs)) - 1 ≡ suc (length (z ∷ zs) - 1)
  before_last y z zs = omega arith

  -- the last element, and those before it
  pub last_split : (xs : List X) (x : X) → slice_get xs (length xs - 1) ≡ Some x → (ys : List X) × (xs ≡ ys ++ x ∷ [])
  last_split [] x e = absurd (none-some x e)
  last_split (y ∷ []) x e = ([], ap (λ (z : X). z ∷ []) (same_Some y x e))
  last_split (y ∷ (z ∷ zs)) x e =
      let rest = last_split (z ∷ zs) x (sym (ap (λ (i : ℕ). slice_get (y ∷ (z ∷ zs)) i) (before_last y z zs)) ∙ e) in
      (y ∷ rest.0, ap (λ (ws : List X). y ∷ ws) rest.1)

  -- only an empty list has none
  pub last_none : (xs : List X) → slice_get xs (length xs - 1) ≡ None → xs ≡ []
  last_none [] e = refl
  last_none (y ∷ []) e = absurd (none-some y (sym e))
  last_none (y ∷ (z ∷ zs)) e =
      let rest : z ∷ zs ≡ [] = last_none (z ∷ zs) (sym (ap (λ (i : ℕ). slice_get (y ∷ (z ∷ zs)) i) (before_last y z
      zs)) ∙ e) in
      absurd cc

  -- the last comes first in the reversed list
  pub reverse_last : (xs ys : List X) (x : X) → xs ≡ ys ++ x ∷ [] → reverse xs ≡ x ∷ reverse ys
  reverse_last xs ys x e = ap (λ (zs : List X). reverse zs) e ∙ reverse-append ys (x ∷ [])

  -- what is left where the last is taken out
  pub rest_of_last : (xs ys rest : List X) (x : X) (taken : Option X) → xs ≡ ys ++ x ∷ []
      → xs ≡ rest ++ option_to_list taken → IfNone taken (xs ≡ []) → rest ≡ ys
  rest_of_last xs ys rest x (Some y) e f none = (same_from_push rest ys y x (sym f ∙ e)).0
  rest_of_last xs ys rest x None e f none = absurd (filled ys (sym e ∙ none))
    where
      filled : (zs : List X) → zs ++ x ∷ [] ≡ [] → ⊥
      filled [] h = cc
      filled (z ∷ zs) h = cc
