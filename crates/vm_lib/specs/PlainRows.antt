-- Rows that change nothing: they give nothing, or a constant.
use Rattle.std.specs.Prelude.{ℕ, ℤ, Bool, true, false, List, Option, Some, None, Result, Ok, Err, pos, codes, if◌then◌else◌}
use Rattle.std.specs.Str.{bytes_eq}
use Rattle.jv_base.specs.declared.method.Kind.TheVariants.{Null}
use Rattle.jv_base.specs.declared.value.Value.{Value}
use Rattle.jv_base.specs.declared.value.Value.TheVariants.{Int, Long, Ref}
use Rattle.vm_world.specs.declared.object.Object.{Object}
use Rattle.vm_world.specs.declared.object.Object.TheVariants.{Instance, Array, Text}
use Rattle.vm_world.specs.Heap.{object_at}
use Rattle.vm_lib.specs.declared.plan.Effect.{Effect}
use Rattle.vm_lib.specs.declared.plan.Effect.TheVariants.{Gives, Raises, Stuck}
use Rattle.vm_lib.specs.Operands.{string_of, on}
use Rattle.vm_lib.specs.Values.{gives_int}

-- an object of the heap; a row is stuck at a number of none
abbrev pub object_in : Option Object → Result Object Effect
object_in None = Err Stuck
object_in (Some object) = Ok object

-- the object of a receiver; at null a row raises null
abbrev pub object_of : List Object → Value → Result Object Effect
object_of heap (Int n) = Err Stuck
object_of heap (Long n) = Err Stuck
object_of heap (Ref None) = Err (Raises Null)
object_of heap (Ref (Some number)) = object_in (object_at heap number)

-- whether an object is of a class, and no array and no text; of this class
abbrev pub is_instance : Object → Bool
is_instance (Instance class fields) = true
is_instance (Array element elements) = false
is_instance (Text kind units) = false

abbrev pub has_class : List ℕ → Object → Bool
has_class name (Instance class fields) = bytes_eq class name
has_class name (Array element elements) = false
has_class name (Text kind units) = false

-- what a row does with a receiver of any class; with one that is of some class; with one of this class
abbrev pub on_object : List Object → Value → Effect → Effect
on_object heap receiver effect = on (object_of heap receiver) (λ object. effect)

abbrev pub on_instance : List Object → Value → Effect → Effect
on_instance heap receiver effect =
    on (object_of heap receiver) (λ object. if is_instance object then effect else Stuck)

abbrev pub on_class : List ℕ → List Object → Value → Effect → Effect
on_class class heap receiver effect =
    on (object_of heap receiver) (λ object. if has_class class object then effect else Stuck)

-- nothing is given, of a reference; of a String or null
abbrev pub takes_reference : Value → Effect
takes_reference (Int n) = Stuck
takes_reference (Long n) = Stuck
takes_reference (Ref object) = Gives None

abbrev pub takes_text : List Object → Value → Effect
takes_text heap (Int n) = Stuck
takes_text heap (Long n) = Stuck
takes_text heap (Ref None) = Gives None
takes_text heap (Ref (Some number)) = on (string_of heap (Ref (Some number))) (λ text. Gives None)

-- the constructor of Object
abbrev pub object_init_row : List Object → Value → Effect
object_init_row heap object = on_object heap object (Gives None)

-- the constructors of the classes of exceptions, which keep neither message nor cause
abbrev pub throwable_row : List Object → Value → Effect → Effect
throwable_row heap object effect = on_instance heap object effect

-- assertions are enabled in each class (`desiredAssertionStatus:()Z`)
abbrev pub assertion_status_row : List Object → Value → Effect
assertion_status_row heap class = on_class (codes "java/lang/Class") heap class (gives_int (pos 1))

-- what is printed is not kept (`print`, `println`)
abbrev pub print_row : List Object → Value → Effect → Effect
print_row heap stream effect = on_class (codes "java/io/PrintStream") heap stream effect
