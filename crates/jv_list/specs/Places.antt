-- Structures that stand one after the other, each with its place.
use Rattle.std.specs.Prelude.{ℕ, ◌+◌, List, [], ◌∷◌, ◌++◌, length}

-- what is found in each of them, by those before it and by its place: the first stands at a place, each other behind the text of
-- the one before it
unfoldable pub each_at : {A B C : Type 0} → (List A → ℕ → A → List B) → (A → List C) → List A → ℕ → List A → List B
each_at one text earlier place [] = []
each_at one text earlier place (x ∷ xs) =
    one earlier place x ++ each_at one text (earlier ++ x ∷ []) (place + length (text x)) xs

-- the same, where those before it do not matter
abbrev pub each_place : {A B C : Type 0} → (ℕ → A → List B) → (A → List C) → ℕ → List A → List B
each_place one text place xs = each_at (λ earlier. one) text [] place xs
