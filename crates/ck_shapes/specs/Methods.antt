-- Which shapes the code of a method has (JVM Specification SE 8, 4.7.3 and 4.10): the flow that its Code is, and the rules.
use Rattle.std.specs.Prelude.{◌≡◌, ℕ, ◌==◌, Bool, true, false, not, List, [], ◌∷◌, ◌++◌, map, Option, Some, None}
use Rattle.std.specs.Prelude.{if◌then◌else◌, nat_lt, bit_and, option_map}
use Rattle.std.specs.List.{flat_map}
use Rattle.jv_base.specs.declared.method.MethodId.{MethodId}
use Rattle.cf_pool.specs.declared.entry.PoolEntry.{PoolEntry}
use Rattle.cf_code.specs.declared.code.Placed.{Placed}
use Rattle.cf_code.specs.declared.transfer.Row.{Row}
use Rattle.cf_code.specs.Targets.{targets, goes_on}
use Rattle.cf_code.specs.Transfers.{next_pc}
use Rattle.cf_class.specs.declared.code.Code.{Code}
use Rattle.cf_class.specs.declared.member.Member.{Member}
use Rattle.cf_class.specs.declared.class_file.ClassFile.{ClassFile}
use Rattle.cf_class.specs.Members.{member_in, code_in}
use Rattle.ck_shapes.specs.declared.shape.ValueType.{ValueType}
use Rattle.ck_shapes.specs.declared.shape.ValueType.TheVariants.{Int, Long, Reference}
use Rattle.ck_shapes.specs.declared.effect.Effect.{Effect}
use Rattle.ck_shapes.specs.declared.flow.Action.{Action}
use Rattle.ck_shapes.specs.declared.flow.Step.{Step}
use Rattle.ck_shapes.specs.declared.flow.Handler.{Handler}
use Rattle.ck_shapes.specs.declared.flow.Flow.{Flow}
use Rattle.ck_shapes.specs.declared.signature.Signature.{Signature}
use Rattle.ck_shapes.specs.Descriptors.{signature}
use Rattle.ck_shapes.specs.Effects.{instr_effect}
use Rattle.ck_shapes.specs.Rules.{GivenShapes, MeetsRules}

-- ---- the ways from an instruction

-- the pc behind an instruction; none where it is no pc of two bytes, so that no instruction stands there
abbrev pub pc_behind : Placed → Option ℕ
pc_behind placed = if nat_lt (next_pc placed) 65536 then Some (next_pc placed) else None

-- the pcs that can be next: the targets, and the next instruction where this one goes on
abbrev pub next_pcs : Placed → Option (List ℕ)
next_pcs placed =
    if goes_on placed.instr then option_map (λ next. targets placed.instr ++ next ∷ []) (pc_behind placed)
    else Some (targets placed.instr)

abbrev pub acting : Option Effect → Option (List ℕ) → Option Action
acting (Some effect) (Some nexts) = Some (record { effect = effect; nexts = nexts })
acting effect nexts = None

-- an instruction of a method with this result
abbrev pub step_of : List PoolEntry → Option ValueType → Placed → Step
step_of pool result placed =
    record { pc = placed.pc; action = acting (instr_effect pool result placed.instr) (next_pcs placed) }

-- ---- the frame

-- the locals that a value takes (2.6.1)
abbrev pub locals_of : ValueType → List (Option ValueType)
locals_of Int = Some Int ∷ []
locals_of Long = Some Long ∷ None ∷ []
locals_of Reference = Some Reference ∷ []

-- an instance method has its object in local 0 (2.6.1)
abbrev pub own_object : Bool → List ValueType
own_object true = []
own_object false = Reference ∷ []

-- the locals where a frame begins: its object unless it is static, and the parameters
abbrev pub start_locals : Bool → List ValueType → List (Option ValueType)
start_locals is_static parameters = flat_map locals_of (own_object is_static ++ parameters)

-- ACC_STATIC (4.6, table 4.6-A)
abbrev pub is_static : ℕ → Bool
is_static flags = not (bit_and flags 0x0008 == 0)

-- ---- the method

abbrev pub handler_of : Row → Handler
handler_of row = record { start = row.start; end = row.end; handler = row.handler }

-- the flow that a Code is, in a method that is static or not and has these types
abbrev pub code_flow : List PoolEntry → Bool → Signature → Code → Flow
code_flow pool static types code = record {
  steps = map (step_of pool types.result) code.code;
  handlers = map handler_of code.rows;
  limits = record { max_stack = code.max_stack; max_locals = code.max_locals };
  start = record { locals = start_locals static types.parameters; stack = [] };
}

abbrev pub typed_flow : List PoolEntry → Bool → Option Code → Option Signature → Option Flow
typed_flow pool static (Some code) (Some types) = Some (code_flow pool static types code)
typed_flow pool static code types = None

abbrev pub member_flow : List PoolEntry → List ℕ → Option Member → Option Flow
member_flow pool desc (Some m) = typed_flow pool (is_static m.flags) (code_in m.attributes) (signature desc)
member_flow pool desc None = None

-- the flow of a method of a class, which is known by its name and its descriptor; none where it has no code, or a float
-- or a double in its descriptor
abbrev pub method_flow : ClassFile → MethodId → Option Flow
method_flow class method = member_flow class.pool.entries method.desc (member_in method.name method.desc class.methods)

-- these shapes meet the rules of the method
pub record MeetsMethodRules (class : ClassFile) (method : MethodId) (shapes : GivenShapes) : Type 0 where
  pub flow : Flow
  pub is_flow : method_flow class method ≡ Some flow
  pub meets : MeetsRules flow shapes

-- no shapes meet them
abbrev pub HasNoShapes : ClassFile → MethodId → Type 0
HasNoShapes class method = (all : GivenShapes) → MeetsMethodRules class method all → ⊥
