-- Which faults an instruction can raise by itself (JVM Specification SE 8, 6.5, its run-time exceptions). Instructions on
-- floats and doubles, monitors, multianewarray and invokedynamic are not judged, and have none here.
use Rattle.std.specs.Prelude.{ℕ, Bool, true, false, nat_lt, bit_and, List, [], ◌∷◌}
use Rattle.std.specs.List.{filter}
use Rattle.jv_base.specs.declared.method.Kind.{Kind}
use Rattle.jv_base.specs.declared.method.Kind.TheVariants.{Null, Zero, Bounds, NegSize, Store as Stored, Cast, StrIndex, Assert}
use Rattle.cf_code.specs.declared.kind_set.KindSet.{KindSet}
use Rattle.cf_code.specs.declared.instr.Instr.{Instr}
use Rattle.cf_code.specs.declared.instr.Instr.TheVariants.{Number, Array, Field, Call, Object}
use Rattle.cf_code.specs.declared.array.Array.{Array as ArrayInstr}
use Rattle.cf_code.specs.declared.array.Array.TheVariants.{Load, Store, New as NewArray, NewOf, Length}
use Rattle.cf_code.specs.declared.array.Element.{Element}
use Rattle.cf_code.specs.declared.array.Element.TheVariants.{Float, Double, Reference}
use Rattle.cf_code.specs.declared.number.Number.{Number as NumberInstr}
use Rattle.cf_code.specs.declared.number.Number.TheVariants.{Arith}
use Rattle.cf_code.specs.declared.number.Num.TheVariants.{Int, Long}
use Rattle.cf_code.specs.declared.number.ArithOp.TheVariants.{Div, Rem}
use Rattle.cf_code.specs.declared.field.FieldUse.{FieldUse}
use Rattle.cf_code.specs.declared.field.FieldUse.TheVariants.{Get, Put}
use Rattle.cf_code.specs.declared.call.Call.{Call as CallInstr}
use Rattle.cf_code.specs.declared.call.Call.TheVariants.{Virtual, Special, Interface}
use Rattle.cf_code.specs.declared.object.Object.{Object as ObjectInstr}
use Rattle.cf_code.specs.declared.object.Object.TheVariants.{Throw, CheckCast}

-- the bit of a kind
abbrev pub mask : Kind → ℕ
mask Null = 1
mask Zero = 2
mask Bounds = 4
mask NegSize = 8
mask Stored = 16
mask Cast = 32
mask StrIndex = 64
mask Assert = 128

-- whether a set has a kind
abbrev pub has : KindSet → Kind → Bool
has set kind = nat_lt 0 (bit_and set.bits (mask kind))

-- all kinds, in the order of the report
abbrev pub all_kinds : List Kind
all_kinds = Null ∷ Zero ∷ Bounds ∷ NegSize ∷ Stored ∷ Cast ∷ StrIndex ∷ Assert ∷ []

-- the kinds of a set, in that order
abbrev pub kinds_of : KindSet → List Kind
kinds_of set = filter (has set) all_kinds

-- whether elements are judged: floats and doubles are not
abbrev pub is_judged : Element → Bool
is_judged Float = false
is_judged Double = false
is_judged element = true

-- idiv, irem, ldiv and lrem: zero
abbrev pub number_raises : NumberInstr → Kind → Bool
number_raises (Arith Div Int) Zero = true
number_raises (Arith Rem Int) Zero = true
number_raises (Arith Div Long) Zero = true
number_raises (Arith Rem Long) Zero = true
number_raises number kind = false

-- loads and stores: null, bounds, and aastore also store; newarray and anewarray: negsize; arraylength: null
abbrev pub array_raises : ArrayInstr → Kind → Bool
array_raises (Load element) Null = is_judged element
array_raises (Load element) Bounds = is_judged element
array_raises (Store element) Null = is_judged element
array_raises (Store element) Bounds = is_judged element
array_raises (Store Reference) Stored = true
array_raises (NewArray code) NegSize = true
array_raises (NewOf index) NegSize = true
array_raises Length Null = true
array_raises array kind = false

-- getfield and putfield: null
abbrev pub field_raises : FieldUse → Kind → Bool
field_raises Get Null = true
field_raises Put Null = true
field_raises access kind = false

-- invokevirtual, invokespecial and invokeinterface: null
abbrev pub call_raises : CallInstr → Kind → Bool
call_raises (Virtual index) Null = true
call_raises (Special index) Null = true
call_raises (Interface index count zero) Null = true
call_raises call kind = false

-- athrow: null and assert; checkcast: cast
abbrev pub object_raises : ObjectInstr → Kind → Bool
object_raises Throw Null = true
object_raises Throw Assert = true
object_raises (CheckCast index) Cast = true
object_raises object kind = false

-- whether an instruction can raise a kind
abbrev pub raises : Instr → Kind → Bool
raises (Number number) kind = number_raises number kind
raises (Array array) kind = array_raises array kind
raises (Field field) kind = field_raises field.access kind
raises (Call call) kind = call_raises call kind
raises (Object object) kind = object_raises object kind
raises instr kind = false
