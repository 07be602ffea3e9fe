-- Members by the class under which they are looked for: made classes by each class above them, calls that select by the
-- class that they name.
use Rattle.std.specs.Prelude.{◌≡◌, ℕ, List, [], ◌∷◌, if◌then◌else◌}
use Rattle.std.specs.List.{flat_map}
use Rattle.std.specs.Str.{bytes_eq}
use Rattle.bd_core.specs.declared.groups.Call.{Call}
use Rattle.bd_core.specs.declared.member.Member.{Member}
use Rattle.bd_core.specs.declared.member.Member.TheVariants.{Called, Under}

pub record Grouped : Type 0 where
  pub under : List ℕ → List (List ℕ)
  pub called : List ℕ → List Call

abbrev pub under_in : List ℕ → Member → List (List ℕ)
under_in top (Under class above) = if bytes_eq top above then class ∷ [] else []
under_in top other = []

abbrev pub called_in : List ℕ → Member → List Call
called_in class (Called at interface) =
    if bytes_eq class at.class then record { at = at; interface = interface } ∷ [] else []
called_in class other = []

-- what stands in the groups are these members
pub record AreGrouped (members : List Member) (groups : Grouped) : Type 0 where
  pub under : (top : List ℕ) → groups.under top ≡ flat_map (under_in top) members
  pub called : (class : List ℕ) → groups.called class ≡ flat_map (called_in class) members
