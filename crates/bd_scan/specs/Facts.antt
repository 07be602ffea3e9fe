-- The facts of instructions and of the rows of exception tables: what the loading rules and the list of what is not
-- supported read from them (JVM Specification SE 8, 4.7.3 and 6.5). A fact stands as often as it comes.
use Rattle.std.specs.Prelude.{ℕ, Bool, false, ◌==◌, ◌||◌, List, [], ◌∷◌, ◌++◌, Option, Some, None, length, nat_lt}
use Rattle.std.specs.Prelude.{slice_get}
use Rattle.std.specs.Prelude.{if◌then◌else◌}
use Rattle.std.specs.List.{flat_map}
use Rattle.jv_base.specs.declared.method.MethodId.{MethodId}
use Rattle.jv_base.specs.declared.method.FieldId.{FieldId}
use Rattle.jv_base.specs.declared.method.Kind.{Kind}
use Rattle.cf_pool.specs.declared.entry.PoolEntry.{PoolEntry}
use Rattle.cf_pool.specs.declared.entry.PoolEntry.TheVariants as entries
use Rattle.cf_code.specs.declared.instr.Instr.{Instr}
use Rattle.cf_code.specs.declared.instr.Instr.TheVariants as instrs
use Rattle.cf_code.specs.declared.constant.Constant.{Constant}
use Rattle.cf_code.specs.declared.constant.Constant.TheVariants.{Ldc, LdcW, Ldc2W}
use Rattle.cf_code.specs.declared.array.Array.{Array}
use Rattle.cf_code.specs.declared.array.Array.TheVariants as arrays
use Rattle.cf_code.specs.declared.field.Field.{Field}
use Rattle.cf_code.specs.declared.field.FieldUse.{FieldUse}
use Rattle.cf_code.specs.declared.call.Call.{Call}
use Rattle.cf_code.specs.declared.call.Call.TheVariants as calls
use Rattle.cf_code.specs.declared.object.Object.{Object}
use Rattle.cf_code.specs.declared.object.Object.TheVariants as objects
use Rattle.cf_code.specs.declared.code.Placed.{Placed}
use Rattle.cf_code.specs.declared.transfer.Row.{Row}
use Rattle.cf_code.specs.Kinds.{raises}
use Rattle.cf_bodies.specs.declared.need.Need.{Need}
use Rattle.cf_bodies.specs.declared.need.Need.TheVariants.{Pooled}
use Rattle.cf_bodies.specs.Needs.{need}
use Rattle.lib_rows.specs.declared.class.Builtin.{Builtin}
use Rattle.lib_rows.specs.declared.class.Builtin.TheVariants as builtins
use Rattle.lib_rows.specs.Classes.{class_name}
use Rattle.bd_scan.specs.declared.fact.Fact.{Fact}
use Rattle.bd_scan.specs.declared.fact.Fact.TheVariants.{New, Names, Special, Static, Virtual, Init, Raises, Literal}
use Rattle.bd_scan.specs.declared.fact.Fact.TheVariants.{Reads, Refuse}
use Rattle.bd_scan.specs.declared.fact.Why.TheVariants as whys
use Rattle.bd_scan.specs.Pool.{units_at, class_at, field_at, method_at}
use Rattle.bd_scan.specs.Descriptors.{named_class, has_float}
use Rattle.bd_scan.specs.Opcodes.{unsupported_opcode}
use Rattle.bd_scan.specs.Exceptions.{exceptions}

-- the class that a text names
abbrev pub named_text : Option (List ℕ) → Option (List ℕ)
named_text (Some text) = named_class text
named_text None = None

abbrev pub names : Option (List ℕ) → List Fact
names (Some class) = Names class ∷ []
names None = []

-- the text of the class that a constant names: a class is named, and a reference names the class that it is of (4.4.1,
-- 4.4.2)
abbrev pub class_of_constant : List PoolEntry → ℕ → Option PoolEntry → Option (List ℕ)
class_of_constant pool index (Some (entries.Class name)) = class_at pool index
class_of_constant pool index (Some (entries.Field class name_and_type)) = class_at pool class
class_of_constant pool index (Some (entries.Method class name_and_type)) = class_at pool class
class_of_constant pool index (Some (entries.InterfaceMethod class name_and_type)) = class_at pool class
class_of_constant pool index other = None

-- the class that the constant at an index names
abbrev pub constant_names : List PoolEntry → ℕ → List Fact
constant_names pool index = names (named_text (class_of_constant pool index (slice_get pool index)))

abbrev pub needed_names : List PoolEntry → Need → List Fact
needed_names pool (Pooled kind index) = constant_names pool index
needed_names pool other = []

-- the class that the constant of an instruction names
abbrev pub instr_names : List PoolEntry → Instr → List Fact
instr_names pool instr = needed_names pool (need instr)

-- a `new` makes an object and initialises its class
abbrev pub made : ℕ → Option (List ℕ) → List Fact
made pc (Some class) = New pc class ∷ Init class ∷ []
made pc None = []

abbrev pub object_uses : List PoolEntry → ℕ → Object → List Fact
object_uses pool pc (objects.New index) = made pc (class_at pool index)
object_uses pool pc other = []

-- the index of the method that is called; invokedynamic names none
abbrev pub call_index : Call → Option ℕ
call_index (calls.Virtual index) = Some index
call_index (calls.Special index) = Some index
call_index (calls.Static index) = Some index
call_index (calls.Interface index count zero) = Some index
call_index (calls.Dynamic index zeros) = None

abbrev pub called_method : List PoolEntry → Option ℕ → Option (MethodId × Bool)
called_method pool (Some index) = method_at pool index
called_method pool None = None

-- the method is called: by invokespecial, by invokestatic, or by invokevirtual or invokeinterface
abbrev pub call_fact : Call → ℕ → MethodId → Bool → Fact
call_fact (calls.Special index) pc method interface = Special pc method interface
call_fact (calls.Static index) pc method interface = Static pc method interface
call_fact other pc method interface = Virtual pc method interface

abbrev pub called : (MethodId → Bool → Fact) → Option (MethodId × Bool) → List Fact
called fact (Some m) = fact m.0 m.1 ∷ []
called fact None = []

-- the method that is called
abbrev pub call_uses : List PoolEntry → ℕ → Call → List Fact
call_uses pool pc call = called (call_fact call pc) (called_method pool (call_index call))

abbrev pub used : ℕ → FieldUse → Option FieldId → List Fact
used pc access (Some field) = Reads pc field access ∷ []
used pc access None = []

-- the fields that are used
abbrev pub field_uses : List PoolEntry → ℕ → Field → List Fact
field_uses pool pc field = used pc field.access (field_at pool field.index)

-- the index of the constant that ldc, ldc_w or ldc2_w pushes
abbrev pub pushed_index : Constant → Option ℕ
pushed_index (Ldc index) = Some index
pushed_index (LdcW index) = Some index
pushed_index (Ldc2W index) = Some index
pushed_index other = None

abbrev pub pushed : List PoolEntry → Option ℕ → Option PoolEntry
pushed pool (Some index) = slice_get pool index
pushed pool None = None

-- what an instruction makes, calls and uses
abbrev pub instr_uses : List PoolEntry → ℕ → Instr → List Fact
instr_uses pool pc (instrs.Field f) = field_uses pool pc f
instr_uses pool pc (instrs.Call c) = call_uses pool pc c
instr_uses pool pc (instrs.Object o) = object_uses pool pc o
instr_uses pool pc other = []

-- the exceptions that an instruction may raise by itself
abbrev pub exception_facts : (Kind → Bool) → Kind × Builtin → List Fact
exception_facts raised e = if raised e.0 then Raises (class_name e.1) ∷ [] else []

abbrev pub instr_raises : Instr → List Fact
instr_raises instr = flat_map (exception_facts (raises instr)) exceptions

abbrev pub refuses_opcode : ℕ → Option ℕ → List Fact
refuses_opcode pc (Some opcode) = Refuse pc (whys.Opcode opcode) ∷ []
refuses_opcode pc None = []

abbrev pub float_if : ℕ → Bool → List Fact
float_if pc float = if float then Refuse pc whys.Float ∷ [] else []

-- where a descriptor has a float or a double
abbrev pub refuses_float : ℕ → List ℕ → List Fact
refuses_float pc desc = float_if pc (has_float desc)

-- a string literal has at most so many units
abbrev pub longest_literal : ℕ
longest_literal = 1000

abbrev pub is_long : Option (List ℕ) → Bool
is_long (Some units) = nat_lt longest_literal (length units)
is_long None = false

abbrev pub refuses_literal : ℕ → Bool → List Fact
refuses_literal pc long = if long then Refuse pc whys.Literal ∷ [] else []

-- The constant that ldc, ldc_w or ldc2_w pushes: a string or a class is an object; the constants of the tags 4, 6, 15
-- and 16 are not supported, nor are strings that are too long.
abbrev pub constant_facts : List PoolEntry → ℕ → Option PoolEntry → List Fact
constant_facts pool pc (Some (entries.Str text)) =
    Literal (class_name builtins.String) ∷ refuses_literal pc (is_long (units_at pool text))
constant_facts pool pc (Some (entries.Class name)) = Literal (class_name builtins.Class) ∷ []
constant_facts pool pc (Some (entries.Float bits)) = Refuse pc whys.Constant ∷ []
constant_facts pool pc (Some (entries.Double bits)) = Refuse pc whys.Constant ∷ []
constant_facts pool pc (Some (entries.MethodHandle kind index)) = Refuse pc whys.Constant ∷ []
constant_facts pool pc (Some (entries.MethodType index)) = Refuse pc whys.Constant ∷ []
constant_facts pool pc other = []

-- newarray of floats or doubles, whose codes are 6 and 7 (6.5, table 6.5.newarray-A)
abbrev pub refuses_array : ℕ → Array → List Fact
refuses_array pc (arrays.New code) = float_if pc ((code == 6) || (code == 7))
refuses_array pc other = []

abbrev pub refuses_field : ℕ → Option FieldId → List Fact
refuses_field pc (Some field) = refuses_float pc field.desc
refuses_field pc None = []

abbrev pub refuses_method : ℕ → Option (MethodId × Bool) → List Fact
refuses_method pc (Some m) = refuses_float pc m.0.desc
refuses_method pc None = []

abbrev pub refuses_call : List PoolEntry → ℕ → Call → List Fact
refuses_call pool pc call = refuses_method pc (called_method pool (call_index call))

-- the constant that an instruction pushes, and what of its operands is not supported
abbrev pub refuses_operand : List PoolEntry → ℕ → Instr → List Fact
refuses_operand pool pc (instrs.Constant c) = constant_facts pool pc (pushed pool (pushed_index c))
refuses_operand pool pc (instrs.Array a) = refuses_array pc a
refuses_operand pool pc (instrs.Field f) = refuses_field pc (field_at pool f.index)
refuses_operand pool pc (instrs.Call c) = refuses_call pool pc c
refuses_operand pool pc other = []

-- The facts of an instruction: the class that it names, what it uses, what of its operands is not supported, the
-- exceptions that it may raise, and its opcode if that is not supported.
abbrev pub instr_facts : List PoolEntry → Placed → List Fact
instr_facts pool p =
    instr_names pool p.instr ++ instr_uses pool p.pc p.instr ++ refuses_operand pool p.pc p.instr
    ++ instr_raises p.instr ++ refuses_opcode p.pc (unsupported_opcode p.instr)

-- a row of the exception table names its catch type; 0 is none (4.7.3)
abbrev pub row_facts : List PoolEntry → Row → List Fact
row_facts pool r = if r.catch_type == 0 then [] else names (named_text (class_at pool r.catch_type))
