-- What is told of the methods of a class.
use Rattle.std.specs.Prelude.{◌≡◌, ℕ, Bool, true, false, Option, is_none}
use Rattle.std.specs.List.{list_any}
use Rattle.jv_base.specs.declared.method.MethodId.{MethodId}
use Rattle.cf_class.specs.declared.code.Code.{Code}
use Rattle.cf_class.specs.declared.member.Member.{Member}
use Rattle.cf_class.specs.declared.class_file.ClassFile.{ClassFile}
use Rattle.cf_class.specs.Members.{member_in}
use Rattle.bd_scan.specs.declared.fact.Fact.{Fact}
use Rattle.bd_scan.specs.declared.fact.Fact.TheVariants.{Refuse}
use Rattle.bd_scan.specs.Methods.{facts, member_code}
use Rattle.ck_shapes.specs.Rules.{GivenShapes}
use Rattle.ck_shapes.specs.Methods.{MeetsMethodRules, HasNoShapes}
use Rattle.ck_show.specs.declared.verdict.Verdict.{Verdict}
use Rattle.ck_show.specs.declared.verdict.Verdict.TheVariants.{NoCode, Outside, Shapes, NoShapes}
use Rattle.ck_show.specs.declared.verdict.Told.{Told}

abbrev pub is_refusal : Fact → Bool
is_refusal (Refuse pc why) = true
is_refusal other = false

-- the method uses what is not supported
abbrev pub is_outside : ClassFile → MethodId → Bool
is_outside class method = list_any is_refusal (facts class method)

-- the content of its Code
abbrev pub code_of : ClassFile → MethodId → Option Code
code_of class method = member_code (member_in method.name method.desc class.methods)

-- shapes meet the rules
abbrev pub HasShapes : ClassFile → MethodId → Type 0
HasShapes class method = (all : GivenShapes) × MeetsMethodRules class method all

-- of a method with code it is told whether it is outside the profile, and else whether it has shapes
abbrev pub IsOfCode : ClassFile → MethodId → Verdict → Type 0
IsOfCode class method NoCode = ⊥
IsOfCode class method Outside = is_outside class method ≡ true
IsOfCode class method Shapes = (is_outside class method ≡ false) × HasShapes class method
IsOfCode class method NoShapes = (is_outside class method ≡ false) × HasNoShapes class method

abbrev pub IsVerdict : ClassFile → MethodId → Verdict → Type 0
IsVerdict class method NoCode = is_none (code_of class method) ≡ true
IsVerdict class method verdict = (is_none (code_of class method) ≡ false) × IsOfCode class method verdict

abbrev pub method_of : ClassFile → Member → MethodId
method_of class m = record { class = class.this_class.name; name = m.name.name; desc = m.desc.name }

-- what is told of a method of a class
pub record IsTold (class : ClassFile) (member : Member) (told : Told) : Type 0 where
  pub method : told.method ≡ method_of class member
  pub verdict : IsVerdict class (method_of class member) told.verdict
