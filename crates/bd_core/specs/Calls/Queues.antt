-- What functions ensure that find what is asked for.
use Rattle.std.specs.Prelude.{◌≡◌, ℕ, false, List, Option, Some, None, Contains, ◌⊎◌, ◌↔◌}
use Rattle.jv_base.specs.declared.method.MethodId.{MethodId}
use Rattle.lib_rows.specs.Classes.{class_name}
use Rattle.lib_rows.specs.declared.class.Builtin.{Builtin}
use Rattle.bd_core.specs.declared.item.Item.{Item}
use Rattle.bd_core.specs.declared.item.Item.TheVariants as items
use Rattle.bd_core.specs.declared.item.Event.{Event}
use Rattle.bd_core.specs.declared.member.Member.{Member}
use Rattle.bd_core.specs.declared.member.Member.TheVariants.{Known, Method}
use Rattle.bd_core.specs.Given.{Given}
use Rattle.bd_core.specs.Told.{Told, is_given}
use Rattle.bd_core.specs.Runs.{HasCode, holder}

-- no worker has an item, and it was not given
pub record IsFree (t : Told) (events : List Event) (item : Item) : Type 0 where
  pub not_held : holder events item ≡ None
  pub not_given : is_given t item ≡ false

-- what a member asks for
pub data IsAskedBy (g : Given) : Member → Item → Type 0 where
  known : (name : List ℕ) → ((b : Builtin) → name ≡ class_name b → ⊥) → IsAskedBy g (Known name) (items.Class name)
  executed : (m : MethodId) → HasCode g.classes m → IsAskedBy g (Method m) (items.Method m)

-- items are those that the members of a list ask for
abbrev pub IsSifted : Given → List Member → List Item → Type 0
IsSifted g members list = (i : Item) → Contains list i ↔ ((m : Member) × Contains members m × IsAskedBy g m i)

-- the last item of which a condition holds is taken out, and those behind it
pub record IsPopped (P : Item → Type 0) (old : List Item) (popped : Option Item) (new : List Item) : Type 0 where
  pub holds : (i : Item) → popped ≡ Some i → P i × Contains old i
  pub among : (i : Item) → Contains new i → Contains old i
  pub left : (i : Item) → Contains old i → P i → (popped ≡ Some i) ⊎ Contains new i
  pub none : popped ≡ None → (i : Item) → Contains new i → ⊥
