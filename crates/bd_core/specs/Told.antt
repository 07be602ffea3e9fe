-- What was told so far, and what telling more of an item makes of it.
use Rattle.std.specs.Prelude.{◌≡◌, ℕ, Bool, ◌||◌, List, [], ◌∷◌, ◌++◌, Option, Some, None, is_some}
use Rattle.std.specs.Map.{update}
use Rattle.jv_base.specs.declared.method.MethodId.{MethodId}
use Rattle.jv_base.specs.contracts.method.MethodIdPartialEq.TheImpl as method_eq
use Rattle.jv_base.specs.contracts.name.NamePartialEq.TheImpl as name_eq
use Rattle.cf_class.specs.declared.class_file.ClassFile.{ClassFile}
use Rattle.bd_scan.specs.declared.fact.Fact.{Fact}
use Rattle.hi_tree.specs.Classes.{class_in}
use Rattle.bd_core.specs.declared.item.Item.{Item}
use Rattle.bd_core.specs.declared.item.Item.TheVariants.{Class, Method}
use Rattle.bd_core.specs.declared.item.Facts.{Facts}
use Rattle.bd_core.specs.declared.item.Facts.TheVariants as facts
use Rattle.bd_core.specs.declared.item.Unread.{Unread}
use Rattle.bd_core.specs.declared.item.Unread.TheVariants.{Absent, TooLong, Malformed}
use Rattle.bd_core.specs.Given.{Given}

-- what the rules are asked of, and the names of which there is no class file
pub record Told : Type 0 where
  pub given : Given
  pub unread : List ℕ → Option Unread

-- nothing was told
pub record IsNothing (t : Told) : Type 0 where
  pub classes : t.given.classes ≡ []
  pub facts : (m : MethodId) → t.given.facts m ≡ None
  pub unread : (name : List ℕ) → t.unread name ≡ None

-- an item was given
abbrev pub is_given : Told → Item → Bool
is_given t (Class name) = is_some (class_in t.given.classes name) || is_some (t.unread name)
is_given t (Method m) = is_some (t.given.facts m)

-- facts are of the sort of their item, and a class file has its name
abbrev pub Fits : Item → Facts → Type 0
Fits (Class name) (facts.Class c) = c.this_class.name ≡ name
Fits (Class name) (facts.Method list) = ⊥
Fits (Class name) other = Unit {0}
Fits (Method m) (facts.Method list) = Unit {0}
Fits (Method m) other = ⊥

-- what facts put to what was told: a class file, the facts of a method, why there is no class file
abbrev pub classes_told : Facts → List ClassFile → List ClassFile
classes_told (facts.Class c) classes = classes ++ c ∷ []
classes_told other classes = classes

abbrev pub facts_told : Item → Facts → (MethodId → Option (List Fact)) → MethodId → Option (List Fact)
facts_told (Method m) (facts.Method list) f = update (method_eq.ghosts).eq f m (Some list)
facts_told item other f = f

abbrev pub unread_of : Facts → Option Unread
unread_of facts.Absent = Some Absent
unread_of facts.TooLong = Some TooLong
unread_of (facts.Malformed fault) = Some (Malformed fault)
unread_of other = None

abbrev pub put_unread : Option Unread → List ℕ → (List ℕ → Option Unread) → List ℕ → Option Unread
put_unread None name f = f
put_unread (Some why) name f = update (name_eq.ghosts).eq f name (Some why)

abbrev pub unread_told : Item → Facts → (List ℕ → Option Unread) → List ℕ → Option Unread
unread_told (Class name) told f = put_unread (unread_of told) name f
unread_told (Method m) told f = f

-- the facts of an item are told, and all else stays
pub record IsTold (old : Told) (item : Item) (told : Facts) (new : Told) : Type 0 where
  pub classes : new.given.classes ≡ classes_told told old.given.classes
  pub facts : (m : MethodId) → new.given.facts m ≡ facts_told item told old.given.facts m
  pub unread : (name : List ℕ) → new.unread name ≡ unread_told item told old.unread name
