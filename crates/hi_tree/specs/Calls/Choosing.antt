-- For private functions and proofs alone: how the superinterface methods of a class are chosen from.
use Rattle.std.specs.Prelude.{◌≡◌, ◌↔◌, ℕ, Bool, true, false, not, List, ◌⊎◌, Option, Some, None, IsTrue}
use Rattle.std.specs.Prelude.{is_some, option_map, ◌&&◌, ◌||◌, if◌then◌else◌, slice_get}
use Rattle.std.specs.Ordering.{nat_cmp}
use Rattle.std.specs.declared.cmp.Ordering.{Ordering}
use Rattle.std.specs.declared.cmp.Ordering.TheVariants.{Less}
use Rattle.std.specs.Cmp.Lexicographic.{slice_cmp}
use Rattle.std.specs.Borrow.{Bor}
use Rattle.std.specs.Str.{bytes_eq}
use Rattle.cf_class.specs.declared.class_file.ClassFile.{ClassFile}
use Rattle.hi_tree.specs.declared.declared.Declared.{Declared}
use Rattle.hi_tree.specs.declared.candidate.Chosen.{Chosen}
use Rattle.jv_base.specs.declared.method.MethodId.{MethodId}
use Rattle.hi_tree.specs.declared.fault.TreeFault.{TreeFault}
use Rattle.hi_tree.specs.declared.fault.TreeFault.TheVariants as faults
use Rattle.hi_tree.specs.Classes.{Known, known_class}
use Rattle.hi_tree.specs.Methods.{declared, declared_some, is_interface_class, is_virtual}
use Rattle.hi_tree.specs.Subtypes.{supertypes}
use Rattle.hi_tree.specs.Superinterfaces.{IsOffered, IsDefault, IsOnlyDefault, HasTwoDefaults, IsLeast}
use Rattle.hi_tree.specs.Calls.Steps.{Marks}

abbrev pub text_of : Option (Bor (List ℕ)) → Option (List ℕ)
text_of o = option_map (λ t. t.now) o

-- the lesser of two names
abbrev pub lesser_by : Ordering → List ℕ → List ℕ → List ℕ
lesser_by Less name least = name
lesser_by other name least = least

abbrev pub least_of : Option (List ℕ) → List ℕ → List ℕ
least_of None name = name
least_of (Some least) name = lesser_by (slice_cmp nat_cmp name least) name least

-- the method that an interface declares, if it is neither private nor static
abbrev pub if_virtual : Option Declared → Option Declared
if_virtual None = None
if_virtual (Some d) = if is_virtual d then Some d else None

abbrev pub offer_of : List ℕ → List ℕ → Known → Option Declared
offer_of name desc k = if is_interface_class k then if_virtual (declared name desc k) else None

abbrev pub offer_some : List ℕ → List ℕ → Option Known → Option Declared
offer_some name desc None = None
offer_some name desc (Some k) = offer_of name desc k

-- the superinterface method that stands under a name above the class of the question, `start`
abbrev pub offered_of : List ClassFile → List ℕ → List ℕ → List ℕ → List ℕ → Option Declared
offered_of classes start name desc q =
    if bytes_eq q start then None else offer_some name desc (known_class classes q)

-- what is chosen so far: the first that is maximally specific and not abstract, whether there is another, and the one
-- of the least name
pub record Choice : Type 0 where
  pub default : Option (List ℕ)
  pub another : Bool
  pub least : Option (List ℕ)

abbrev pub choice_of : Chosen → Choice
choice_of c = record { default = text_of c.default; another = c.another; least = text_of c.least }

abbrev pub default_with : Option (List ℕ) → Bool → List ℕ → Option (List ℕ)
default_with None true name = Some name
default_with o free name = o

abbrev pub another_with : Option (List ℕ) → Bool → Bool → Bool
another_with (Some d) true another = true
another_with o free another = another

-- one more interface with a superinterface method; `free` says that it is maximally specific and not abstract
abbrev pub better_of : Choice → List ℕ → Bool → Choice
better_of c name free = record {
  default = default_with c.default free name;
  another = another_with c.default free c.another;
  least = Some (least_of c.least name);
}

-- what is chosen with a name that was looked at; `shaded` says that it is not maximally specific
abbrev pub weighed_of : Choice → List ℕ → Option Declared → Bool → Choice
weighed_of c name None shaded = c
weighed_of c name (Some d) shaded = better_of c name (not d.is_abstract && not shaded)

-- names are marked, if it holds, and no others
abbrev pub Shades : Bool → List (List ℕ) → Marks → Marks → Type 0
Shades holds names old new = (q : List ℕ) → IsTrue (is_some (new q))
    ↔ (IsTrue (is_some (old q)) ⊎ ((holds ≡ true) × (place : ℕ) × (slice_get names place ≡ Some q)))

-- a name is looked at
pub record Looks (classes : List ClassFile) (start name desc q : List ℕ) (old : Marks) (was : Choice) (new : Marks)
    (now : Choice) : Type 0 where
  pub shades : Shades (is_some (old q) || is_some (offered_of classes start name desc q)) (supertypes classes q) old new
  pub chooses : now ≡ weighed_of was q (offered_of classes start name desc q) (is_some (old q))

-- what is chosen in the end
abbrev pub AreDefaults : List ClassFile → List ℕ → List ℕ → List ℕ → Option (List ℕ) → Bool → Type 0
AreDefaults classes class name desc None another =
    (i : List ℕ) → IsDefault classes class name desc i → ⊥
AreDefaults classes class name desc (Some d) false = IsOnlyDefault classes class name desc d
AreDefaults classes class name desc (Some d) true = HasTwoDefaults classes class name desc

abbrev pub IsLeastOf : List ClassFile → List ℕ → List ℕ → List ℕ → Option (List ℕ) → Type 0
IsLeastOf classes class name desc None = (i : List ℕ) → IsOffered classes class name desc i → ⊥
IsLeastOf classes class name desc (Some l) = IsLeast classes class name desc l

pub record IsChosen (classes : List ClassFile) (class name desc : List ℕ) (c : Choice) : Type 0 where
  pub defaults : AreDefaults classes class name desc c.default c.another
  pub least : IsLeastOf classes class name desc c.least

-- the only one that is maximally specific and not abstract, else the one of the least name
abbrev pub taken_from : Option (List ℕ) → Bool → Option (List ℕ) → Option (List ℕ)
taken_from (Some d) false least = Some d
taken_from d another least = least

abbrev pub taken_of : Choice → Option (List ℕ)
taken_of c = taken_from c.default c.another c.least

-- why a class does not say of a method what it is
abbrev pub IsDeclaredFault : List ClassFile → MethodId → TreeFault → Type 0
IsDeclaredFault classes m (faults.NotLoaded missing) = (missing ≡ m.class) × (known_class classes m.class ≡ None)
IsDeclaredFault classes m faults.NoSuch =
    (declared_some m.name m.desc (known_class classes m.class) ≡ None) × (known_class classes m.class ≡ None → ⊥)
IsDeclaredFault classes m faults.NoMemory = Unit {0}
IsDeclaredFault classes m other = ⊥
