-- What functions ensure that put what follows by a part of a rule.
use Rattle.std.specs.Prelude.{◌≡◌, ℕ, Bool, true, List, Some, Contains, ◌⊎◌}
use Rattle.jv_base.specs.declared.method.FieldId.{FieldId}
use Rattle.jv_base.specs.declared.method.MethodId.{MethodId}
use Rattle.cf_code.specs.declared.field.FieldUse.{FieldUse}
use Rattle.cf_code.specs.declared.field.FieldUse.TheVariants.{GetStatic}
use Rattle.lib_rows.specs.declared.class.Builtin.{Builtin}
use Rattle.lib_rows.specs.declared.class.Builtin.TheVariants as builtins
use Rattle.lib_rows.specs.declared.method.LibMethod.{LibMethod}
use Rattle.lib_rows.specs.Classes.{class_name}
use Rattle.lib_rows.specs.Rows.{IsRow}
use Rattle.bd_scan.specs.declared.fact.Fact.{Fact}
use Rattle.bd_core.specs.declared.member.Member.{Member}
use Rattle.bd_core.specs.declared.member.Member.TheVariants.{Known, Method, Made, Initialised, Called, Under}
use Rattle.bd_core.specs.Given.{Given, HasText, HasInitialiser, initialiser}
use Rattle.bd_core.specs.Rows.{gives_text, row_exceptions}
use Rattle.bd_core.specs.Rules.{IsSuperclass, IsStaticUse, FromFact, FromMember, IsChosen}
use Rattle.hi_tree.specs.Selection.{IsSelected}
use Rattle.bd_core.specs.declared.groups.Call.{Call}
use Rattle.bd_core.specs.Calls.Grouped.{Grouped}

-- the superclass of a class that may be initialised
abbrev pub IsSuperGift : Given → List ℕ → Member → Type 0
IsSuperGift g class x = (above : List ℕ) × IsSuperclass g class above × (x ≡ Initialised above)

-- its `<clinit>`
abbrev pub IsInitialiserGift : Given → List ℕ → Member → Type 0
IsInitialiserGift g class x = HasInitialiser g.classes class × (x ≡ Method (initialiser class))

-- the String that a row gives, the exceptions that it may raise
abbrev pub IsTextGift : LibMethod → Member → Type 0
IsTextGift row x = (gives_text row ≡ true) × (x ≡ Made (class_name builtins.String))

abbrev pub Exceptions : List Builtin → Member → Type 0
Exceptions classes x = (class : Builtin) × Contains classes class × (x ≡ Made (class_name class))

abbrev pub IsRowGift : MethodId → Member → Type 0
IsRowGift m x = (row : LibMethod) × IsRow m row × (IsTextGift row x ⊎ Exceptions (row_exceptions row) x)

-- the object that the read of a static field gives: a String constant, or a stream of System
abbrev pub IsConstantGift : Given → FieldId → Member → Type 0
IsConstantGift g declared x = HasText g.classes declared × (x ≡ Made (class_name builtins.String))

abbrev pub IsStreamGift : FieldId → Member → Type 0
IsStreamGift declared x =
    (declared.class ≡ class_name builtins.System) × (x ≡ Made (class_name builtins.PrintStream))

abbrev pub IsReadGift : Given → FieldId → Member → Type 0
IsReadGift g declared x = IsConstantGift g declared x ⊎ IsStreamGift declared x

abbrev pub IsAccessGift : Given → FieldUse → FieldId → Member → Type 0
IsAccessGift g access declared x = (access ≡ GetStatic) × IsReadGift g declared x

-- the class that the use of a static field initialises
abbrev pub IsUseGift : FieldUse → FieldId → Member → Type 0
IsUseGift access declared x = IsStaticUse access × (x ≡ Initialised declared.class)

-- what the use of a field gives that is meant
abbrev pub IsFieldGift : Given → FieldUse → FieldId → Member → Type 0
IsFieldGift g access f x = (IsUseGift access f x ⊎ IsAccessGift g access f x) ⊎ (x ≡ Known f.class)

-- what a static call gives that reaches a method
abbrev pub IsReachedGift : MethodId → Member → Type 0
IsReachedGift m x = (x ≡ Initialised m.class) ⊎ (x ≡ Method m)

-- what is selected of a method in a class
abbrev pub IsSelectedGift : Given → List ℕ → MethodId → Member → Type 0
IsSelectedGift g class m x = (target : MethodId) × IsSelected g.classes class m target × (x ≡ Method target)

-- what the facts of a method give
abbrev pub FromFacts : Given → MethodId → Member → Type 0
FromFacts g m x = (facts : List Fact) × (g.facts m ≡ Some facts) × (f : Fact) × Contains facts f × FromFact g m f x

-- what a member gives by its facts, where it is a method
abbrev pub OfMethod : Given → Member → Member → Type 0
OfMethod g p x = (m : MethodId) × (p ≡ Method m) × FromFacts g m x

-- what a call selects in a class
abbrev pub IsChoice : Given → List ℕ → MethodId → Bool → Member → Type 0
IsChoice g class at interface x = (target : MethodId) × IsChosen g class at interface target × (x ≡ Method target)

-- the same, by the call and by the class
abbrev pub OfCall : Given → List ℕ → Call → Member → Type 0
OfCall g class call x = IsChoice g class call.at call.interface x

abbrev pub OfClass : Given → MethodId → Bool → List ℕ → Member → Type 0
OfClass g at interface class x = IsChoice g class at interface x

-- what a member selects together with those that are grouped
pub data Crosses (g : Given) (groups : Grouped) : Member → Member → Type 0 where
  called : (class top : List ℕ) (call : Call) (x : Member) → Contains (groups.called top) call
      → IsChoice g class call.at call.interface x → Crosses g groups (Under class top) x
  under : (class : List ℕ) (at : MethodId) (interface : Bool) (x : Member) → Contains (groups.under at.class) class
      → IsChoice g class at interface x → Crosses g groups (Called at interface) x

-- what a member gives with its facts and with those that are grouped
abbrev pub FollowsNow : Given → Grouped → Member → Member → Type 0
FollowsNow g groups p x = (FromMember g p x ⊎ OfMethod g p x) ⊎ Crosses g groups p x
