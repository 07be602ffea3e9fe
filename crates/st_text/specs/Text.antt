-- What texts are to each other, in the words of java.lang.String. A text is the list of its UTF-16 units.
use Rattle.std.specs.Prelude.{◌≡◌, ◌==◌, ◌++◌, ℕ, List, Option}
use Rattle.std.specs.List.{position}

-- the second text is a prefix of the first (`startsWith`)
abbrev pub StartsWith : List ℕ → List ℕ → Type 0
StartsWith text front = (rest : List ℕ) × (text ≡ front ++ rest)

-- the second text is a suffix of the first (`endsWith`)
abbrev pub EndsWith : List ℕ → List ℕ → Type 0
EndsWith text back = (front : List ℕ) × (text ≡ front ++ back)

-- the least place at which a unit stands, if it stands at any (`indexOf`)
abbrev pub place_of : List ℕ → ℕ → Option ℕ
place_of text unit = position (λ other. other == unit) text
