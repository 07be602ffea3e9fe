-- What holds of the definitions: texts tell what they stand for, and goals have one order.
use Rattle.std.specs.Prelude.{◌≡◌, ℕ, List, ◌⊎◌}
use Rattle.std.specs.Cmp.{IsTotalOrder}
use Rattle.std.specs.declared.cmp.Ordering.TheVariants.{Equal}
use Rattle.jv_base.specs.declared.method.Goal.{Goal}
use Rattle.jv_base.specs.declared.method.MethodId.{MethodId}
use Rattle.jv_base.specs.declared.value.Desc.{Desc}
use Rattle.jv_base.specs.declared.value.Ty.{Ty}
use Rattle.jv_base.specs.Names.{IsClassName}
use Rattle.jv_base.specs.Descriptor.{FieldType, MethodType, IsFieldType, IsMethodType, field_text, method_text}
use Rattle.jv_base.specs.Descriptor.{IsFieldDescriptor, IsMethodDescriptor}
use Rattle.jv_base.specs.Entry.{IsEntryMethod, IsAnyMethodName, IsSite}
use Rattle.jv_base.specs.Order.{goal_cmp}
use Rattle.jv_base.specs.Spelling.{entry_spelling, site_spelling}
use Rattle.jv_base.specs.Types.{field_of, method_of}

-- a text is a descriptor in one way only
pub record OneForm : Type 0 where
  pub field : (t u : FieldType) → IsFieldType t → IsFieldType u → field_text t ≡ field_text u → t ≡ u
  pub method : (m n : MethodType) → IsMethodType m → IsMethodType n → method_text m ≡ method_text n → m ≡ n

-- no two field types have one text
abbrev pub OneFieldType : Type 0
OneFieldType = (a b : Ty) → IsFieldType (field_of a) → IsFieldType (field_of b) → field_text (field_of a) ≡ field_text (field_of b) → a ≡ b

-- no two method descriptors have one text
abbrev pub OneDescriptor : Type 0
OneDescriptor = (a b : Desc) → IsMethodType (method_of a) → IsMethodType (method_of b) → method_text (method_of a) ≡ method_text (method_of b) → a ≡ b

-- no two entries have one text form
abbrev pub OneEntry : Type 0
OneEntry = (m n : MethodId) → IsEntryMethod m → IsEntryMethod n → entry_spelling m ≡ entry_spelling n → m ≡ n

-- no two goals have one text form
abbrev pub OneSite : Type 0
OneSite = (g h : Goal) → IsSite g → IsSite h → site_spelling g ≡ site_spelling h → g ≡ h

-- the order of the report is total: of two goals one is before the other, or they are the same
abbrev pub GoalOrder : Type 0
GoalOrder = IsTotalOrder goal_cmp × ((g h : Goal) → goal_cmp g h ≡ Equal → g ≡ h)

-- each text is in a grammar, or is not
abbrev pub IsDecided : (List ℕ → Type 0) → Type 0
IsDecided grammar = (text : List ℕ) → grammar text ⊎ (grammar text → ⊥)

-- the forms of names and descriptors are decided
pub record FormsDecided : Type 0 where
  pub class_name : IsDecided IsClassName
  pub any_method_name : IsDecided IsAnyMethodName
  pub field_descriptor : IsDecided IsFieldDescriptor
  pub method_descriptor : IsDecided IsMethodDescriptor
