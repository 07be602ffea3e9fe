-- What functions ensure that put what is refused into a set.
use Rattle.std.specs.Prelude.{◌⊎◌, ◌↔◌, List, Contains}

-- beside the old ones stand exactly those of which a rule speaks
abbrev pub Puts : {A : Type 0} → (A → Type 0) → List A → List A → Type 0
Puts rule old new = (x : _) → Contains new x ↔ (Contains old x ⊎ rule x)
