-- Where the texts of a pool first stand, by a map from their units.
use Rattle.std.specs.Prelude.{◌≡◌, ℕ, ◌<◌, ◌≤◌, List, Option, IfSome, IfNone}
use Rattle.std.specs.HashMap.{HashMap, get_by}
use Rattle.std.specs.Str.{bytes_eq}
use denote.Ref.{Bor}
use Rattle.cf_pool.specs.declared.entry.PoolEntry.{PoolEntry}
use Rattle.cf_judge.specs.declared.text.Text.{Text}
use Rattle.cf_judge.specs.Forms.{IsNameOf, HasText}
use Rattle.cf_judge.specs.Texts.{AreSpelled}

-- what the map has for units
abbrev pub first_in : {S : Type 0} → HashMap (Bor (List ℕ)) ℕ S → List ℕ → Option ℕ
first_in m units = get_by (λ k. bytes_eq units k.now) m

-- the text with these units, with what was given for its first index
pub record IsKnownText (units : List ℕ) (first : ℕ) (t : Text) : Type 0 where
  pub forms : AreSpelled units t.forms
  pub name : IfSome t.name (λ name. IsNameOf units name)
  pub none : IfNone t.name ((name : List ℕ) → IsNameOf units name → ⊥)
  pub first_is : t.first ≡ first

-- the first index below the count at which a text stands, where there is one
pub record IsFirstBelow (pool : List PoolEntry) (count : ℕ) (units : List ℕ) (found : Option ℕ) : Type 0 where
  pub some : IfSome found (λ first. (first < count) × HasText pool first units
      × ((index : ℕ) → index < count → HasText pool index units → first ≤ index))
  pub none : IfNone found ((index : ℕ) → index < count → HasText pool index units → ⊥)

-- the map has where each text first stands among so many indices
abbrev pub AreFirsts : {S : Type 0} → List PoolEntry → ℕ → HashMap (Bor (List ℕ)) ℕ S → Type 0
AreFirsts pool count m = (units : List ℕ) → IsFirstBelow pool count units (first_in m units)
