-- For private functions and proofs alone: sets that grow, as lists of what was taken in.
use Rattle.std.specs.Prelude.{◌≡◌, ℕ, ◌<◌, ◌≤◌, List, ◌++◌, Some, Contains, length, slice_get}

-- items are taken in behind the others, each that does not stand there yet
pub record Takes {A : Type 0} (old items new : List A) : Type 0 where
  pub more : List A
  pub grows : new ≡ old ++ more
  pub among : (x : A) → Contains more x → Contains items x
  pub covers : (x : A) → Contains items x → Contains new x

-- what follows the element at a place is taken in
pub record Follows {A : Type 0} (next : A → A → Type 0) (old : List A) (place : ℕ) (new : List A) : Type 0 where
  pub more : List A
  pub grows : new ≡ old ++ more
  pub among : (x : A) → Contains more x → (p : A) × (slice_get old place ≡ Some p) × next p x
  pub covers : (p x : A) → slice_get old place ≡ Some p → next p x → Contains new x

-- what follows those from a place on up to another is taken in
pub record Deepening {A : Type 0} (next : A → A → Type 0) (old : List A) (from place : ℕ) (new : List A) : Type 0 where
  pub more : List A
  pub grows : new ≡ old ++ more
  pub among : (x : A) → Contains more x → (p : A) × Contains old p × next p x
  pub covers : (at : ℕ) (p x : A) → from ≤ at → at < place → slice_get old at ≡ Some p → next p x → Contains new x

-- what follows those from a place on is taken in
abbrev pub Deepens : {A : Type 0} → (A → A → Type 0) → List A → ℕ → List A → Type 0
Deepens next old from new = Deepening next old from (length old) new
