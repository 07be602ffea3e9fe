-- A list whose elements a loop reads from the front of bytes.
use Rattle.std.proofs.Common.{◌≡◌, ◌<◌, ℕ, List, [], ◌∷◌, ◌++◌, length, sym, subst, ◌∙◌}
use Rattle.std.specs.List.{flat_map, All}
use Rattle.std.proofs.lemmas.List.{nil_from_length}
use Rattle.jv_list.proofs.FrontLemmas.{Front, front_more, front_end}
use Rattle.jv_list.proofs.ToldLemmas.{none_of_nil}

module _ {X : Type 0} (one : X → List ℕ) (F : X → Type 0) (filled : (x : X) → F x → 0 < length (one x))
    (bytes : List ℕ) where
  -- one more is read, and put at the end
  pub read_more : (xs zs : List X) (x : X) (rest after : List ℕ) → Front one F bytes xs rest → rest ≡ one x ++ after
      → F x → ((y : X) (tail : List ℕ) → F y → rest ≡ one y ++ tail → (x ≡ y) × (after ≡ tail)) → zs ≡ xs ++ x ∷ []
      → Front one F bytes zs after
  read_more xs zs x rest after front is fits only put =
      let some : rest ≡ [] → ⊥ = λ e. none_of_nil one F filled x after fits (sym e ∙ is) in
      let more = front_more one F bytes xs x rest after front is some fits only in
      subst (λ (ts : List X). Front one F bytes ts after) (sym put) more

  -- where no byte is left, what is read is the list
  pub read_end : (xs : List X) (rest : List ℕ) → Front one F bytes xs rest → length rest ≡ 0
      → (ys : List X) → All F ys → bytes ≡ flat_map one ys → xs ≡ ys
  read_end xs rest front empty ys all is =
      let whole = subst (λ (r : List ℕ). Front one F bytes xs r) (nil_from_length rest empty) front in
      front_end one F bytes xs whole (none_of_nil one F filled) ys all is
