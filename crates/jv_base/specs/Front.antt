-- Where a text leaves a grammar.
use Rattle.std.specs.Prelude.{◌≡◌, ℕ, ◌<◌, List, ◌++◌, length}
use Rattle.std.specs.Str.{IsUtf8, chars}

-- the text begins some text of the grammar, which may be itself
abbrev pub Begins : (List ℕ → Type 0) → List ℕ → Type 0
Begins grammar front = (rest : List ℕ) × grammar (front ++ rest)

-- where a Unicode text leaves a grammar: the number of characters of its longest prefix that begins some text of the grammar
pub record StopsAt (grammar : List ℕ → Type 0) (text : List ℕ) (place : ℕ) : Type 0 where
  pub front : List ℕ
  pub after : List ℕ
  pub parts : text ≡ front ++ after
  pub unicode : IsUtf8 front
  pub begins : Begins grammar front
  pub longest : (longer rest : List ℕ) → IsUtf8 longer → text ≡ longer ++ rest → length front < length longer → Begins grammar longer → ⊥
  pub characters : place ≡ length (chars front)
