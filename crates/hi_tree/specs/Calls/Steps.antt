-- For private functions and proofs alone: classes that are known, and walks under way, as the code has them.
use Rattle.std.specs.Prelude.{◌≡◌, ℕ, ◌+◌, Bool, List, Option, Some}
use Rattle.lib_rows.specs.Classes.{class_name}
use Rattle.hi_tree.specs.declared.known.Above.{Above}
use Rattle.hi_tree.specs.declared.known.Above.TheVariants as above
use Rattle.hi_tree.specs.declared.known.KnownClass.{KnownClass}
use Rattle.hi_tree.specs.declared.known.KnownClass.TheVariants as classes
use Rattle.hi_tree.specs.declared.sought.Sought.{Sought}
use Rattle.hi_tree.specs.declared.sought.Sought.TheVariants as seek
use Rattle.hi_tree.specs.Classes.{Known, built_in, read}
use Rattle.hi_tree.specs.Sought.{class_sought, field_sought, method_sought, override_sought, nothing_sought}

abbrev pub above_name : Above → List ℕ
above_name (above.Builtin b) = class_name b
above_name (above.Named name) = name.now

abbrev pub known_of : KnownClass → Known
known_of (classes.Builtin b) = built_in b
known_of (classes.Read c) = read c.now

abbrev pub sought_of : Sought → List ℕ → Known → Bool
sought_of seek.Nothing = nothing_sought
sought_of (seek.Class class) = class_sought class.now
sought_of (seek.Field field) = field_sought field.now.name field.now.desc
sought_of (seek.Method method) = method_sought method.now.name method.now.desc
sought_of (seek.Override method access) = override_sought method.now access

-- a class that is being climbed from: the names above it, and how many of them were climbed to
pub record Step : Type 0 where
  pub name : List ℕ
  pub above : List (List ℕ)
  pub next : ℕ

-- one more of them was climbed to
abbrev pub climbed : Step → Step
climbed s = record { name = s.name; above = s.above; next = s.next + 1 }

-- what is marked: being climbed from (true), or done (false)
abbrev pub Marks : Type 0
Marks = List ℕ → Option Bool

-- one name is marked, the others stay
pub record IsMarked (old : Marks) (name : List ℕ) (mark : Bool) (new : Marks) : Type 0 where
  pub same : new name ≡ Some mark
  pub other : (q : List ℕ) → (name ≡ q → ⊥) → new q ≡ old q
