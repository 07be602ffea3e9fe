-- For private functions and proofs alone: what a text begins with, and how far it is the front of one of a grammar, by
-- bytes.
use Rattle.std.specs.Prelude.{◌≡◌, ℕ, ◌+◌, ◌<◌, ◌≤◌, List, ◌∷◌, ◌++◌, length, take}
use Rattle.jv_base.specs.Front.{Begins}

-- the text is that of some value of its kind, and then the rest
abbrev pub HasFront : {T : Type 0} → (T → Type 0) → (T → List ℕ) → List ℕ → List ℕ → Type 0
HasFront {T} valid spell text rest = (t : T) × valid t × (text ≡ spell t ++ rest)

-- the longest prefix of a text that begins some text of the grammar, by the number of its bytes
pub record IsLongestFront (grammar : List ℕ → Type 0) (text : List ℕ) (count : ℕ) : Type 0 where
  pub within : count ≤ length text
  pub begins : Begins grammar (take count text)
  pub longest : (more : ℕ) → count < more → more ≤ length text → Begins grammar (take more text) → ⊥

-- a text that stands at a place of a longer one is not in a grammar, and leaves it at a place
pub record LeavesAt (grammar : List ℕ → Type 0) (text : List ℕ) (place at : ℕ) : Type 0 where
  pub outside : grammar text → ⊥
  pub count : ℕ
  pub sum : at ≡ place + count
  pub front : IsLongestFront grammar text count

-- a text of one grammar, a mark, and a text of another
abbrev pub Joined : ℕ → (List ℕ → Type 0) → (List ℕ → Type 0) → List ℕ → Type 0
Joined mark first second text = (a : List ℕ) × (b : List ℕ) × first a × second b × (text ≡ a ++ mark ∷ b)
