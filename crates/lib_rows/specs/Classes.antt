-- The classes and interfaces that are known without a class file. Each is one of the JDK; its superclass and its
-- superinterfaces are those of the JDK, or fewer.
use Rattle.std.specs.Prelude.{ℕ, Bool, true, false, List, [], ◌∷◌, Option, Some, None, codes}
use Rattle.lib_rows.specs.declared.class.Builtin.{Builtin}
use Rattle.lib_rows.specs.declared.class.Builtin.TheVariants.{Object, String, StringBuilder, Class, System, PrintStream, Throwable, Exception, Error, RuntimeException, AssertionError, ArithmeticException, ArrayStoreException, ClassCastException, IllegalArgumentException, IllegalStateException, IndexOutOfBoundsException, NegativeArraySizeException, NullPointerException, UnsupportedOperationException, ArrayIndexOutOfBoundsException, StringIndexOutOfBoundsException, NumberFormatException, Comparable, CharSequence, Cloneable, Serializable}

-- the name of each
abbrev pub class_name : Builtin → List ℕ
class_name Object = codes "java/lang/Object"
class_name String = codes "java/lang/String"
class_name StringBuilder = codes "java/lang/StringBuilder"
class_name Class = codes "java/lang/Class"
class_name System = codes "java/lang/System"
class_name PrintStream = codes "java/io/PrintStream"
class_name Throwable = codes "java/lang/Throwable"
class_name Exception = codes "java/lang/Exception"
class_name Error = codes "java/lang/Error"
class_name RuntimeException = codes "java/lang/RuntimeException"
class_name AssertionError = codes "java/lang/AssertionError"
class_name ArithmeticException = codes "java/lang/ArithmeticException"
class_name ArrayStoreException = codes "java/lang/ArrayStoreException"
class_name ClassCastException = codes "java/lang/ClassCastException"
class_name IllegalArgumentException = codes "java/lang/IllegalArgumentException"
class_name IllegalStateException = codes "java/lang/IllegalStateException"
class_name IndexOutOfBoundsException = codes "java/lang/IndexOutOfBoundsException"
class_name NegativeArraySizeException = codes "java/lang/NegativeArraySizeException"
class_name NullPointerException = codes "java/lang/NullPointerException"
class_name UnsupportedOperationException = codes "java/lang/UnsupportedOperationException"
class_name ArrayIndexOutOfBoundsException = codes "java/lang/ArrayIndexOutOfBoundsException"
class_name StringIndexOutOfBoundsException = codes "java/lang/StringIndexOutOfBoundsException"
class_name NumberFormatException = codes "java/lang/NumberFormatException"
class_name Comparable = codes "java/lang/Comparable"
class_name CharSequence = codes "java/lang/CharSequence"
class_name Cloneable = codes "java/lang/Cloneable"
class_name Serializable = codes "java/io/Serializable"

-- all of them
abbrev pub classes : List Builtin
classes =
    Object ∷ String ∷ StringBuilder ∷ Class ∷ System ∷ PrintStream ∷ Throwable ∷ Exception ∷ Error ∷
    RuntimeException ∷ AssertionError ∷ ArithmeticException ∷ ArrayStoreException ∷ ClassCastException ∷
    IllegalArgumentException ∷ IllegalStateException ∷ IndexOutOfBoundsException ∷ NegativeArraySizeException ∷
    NullPointerException ∷ UnsupportedOperationException ∷ ArrayIndexOutOfBoundsException ∷
    StringIndexOutOfBoundsException ∷ NumberFormatException ∷ Comparable ∷ CharSequence ∷ Cloneable ∷
    Serializable ∷ []

-- the direct superclass; of an interface it is Object, as its class file says (JVM Specification SE 8, 4.1)
abbrev pub superclass_of : Builtin → Option Builtin
superclass_of Object = None
superclass_of String = Some Object
superclass_of StringBuilder = Some Object
superclass_of Class = Some Object
superclass_of System = Some Object
superclass_of PrintStream = Some Object
superclass_of Throwable = Some Object
superclass_of Exception = Some Throwable
superclass_of Error = Some Throwable
superclass_of RuntimeException = Some Exception
superclass_of AssertionError = Some Error
superclass_of ArithmeticException = Some RuntimeException
superclass_of ArrayStoreException = Some RuntimeException
superclass_of ClassCastException = Some RuntimeException
superclass_of IllegalArgumentException = Some RuntimeException
superclass_of IllegalStateException = Some RuntimeException
superclass_of IndexOutOfBoundsException = Some RuntimeException
superclass_of NegativeArraySizeException = Some RuntimeException
superclass_of NullPointerException = Some RuntimeException
superclass_of UnsupportedOperationException = Some RuntimeException
superclass_of ArrayIndexOutOfBoundsException = Some IndexOutOfBoundsException
superclass_of StringIndexOutOfBoundsException = Some IndexOutOfBoundsException
superclass_of NumberFormatException = Some IllegalArgumentException
superclass_of Comparable = Some Object
superclass_of CharSequence = Some Object
superclass_of Cloneable = Some Object
superclass_of Serializable = Some Object

-- the direct superinterfaces, in order
abbrev pub superinterfaces_of : Builtin → List Builtin
superinterfaces_of Object = []
superinterfaces_of String = Serializable ∷ Comparable ∷ CharSequence ∷ []
superinterfaces_of StringBuilder = Serializable ∷ CharSequence ∷ []
superinterfaces_of Class = Serializable ∷ []
superinterfaces_of System = []
superinterfaces_of PrintStream = []
superinterfaces_of Throwable = Serializable ∷ []
superinterfaces_of Exception = []
superinterfaces_of Error = []
superinterfaces_of RuntimeException = []
superinterfaces_of AssertionError = []
superinterfaces_of ArithmeticException = []
superinterfaces_of ArrayStoreException = []
superinterfaces_of ClassCastException = []
superinterfaces_of IllegalArgumentException = []
superinterfaces_of IllegalStateException = []
superinterfaces_of IndexOutOfBoundsException = []
superinterfaces_of NegativeArraySizeException = []
superinterfaces_of NullPointerException = []
superinterfaces_of UnsupportedOperationException = []
superinterfaces_of ArrayIndexOutOfBoundsException = []
superinterfaces_of StringIndexOutOfBoundsException = []
superinterfaces_of NumberFormatException = []
superinterfaces_of Comparable = []
superinterfaces_of CharSequence = []
superinterfaces_of Cloneable = []
superinterfaces_of Serializable = []

-- whether it is an interface
abbrev pub is_interface : Builtin → Bool
is_interface Object = false
is_interface String = false
is_interface StringBuilder = false
is_interface Class = false
is_interface System = false
is_interface PrintStream = false
is_interface Throwable = false
is_interface Exception = false
is_interface Error = false
is_interface RuntimeException = false
is_interface AssertionError = false
is_interface ArithmeticException = false
is_interface ArrayStoreException = false
is_interface ClassCastException = false
is_interface IllegalArgumentException = false
is_interface IllegalStateException = false
is_interface IndexOutOfBoundsException = false
is_interface NegativeArraySizeException = false
is_interface NullPointerException = false
is_interface UnsupportedOperationException = false
is_interface ArrayIndexOutOfBoundsException = false
is_interface StringIndexOutOfBoundsException = false
is_interface NumberFormatException = false
is_interface Comparable = true
is_interface CharSequence = true
is_interface Cloneable = true
is_interface Serializable = true
