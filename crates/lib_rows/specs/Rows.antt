-- The methods of the JDK that are known without a class file: the rows of each class.
use Rattle.std.specs.Prelude.{◌≡◌, ℕ, List, [], ◌∷◌, Option, Some, None, Contains, codes, ◌&&◌, if◌then◌else◌}
use Rattle.std.specs.Str.{bytes_eq}
use Rattle.jv_base.specs.declared.method.MethodId.{MethodId}
use Rattle.lib_rows.specs.declared.class.Builtin.{Builtin}
use Rattle.lib_rows.specs.declared.class.Builtin.TheVariants.{Object, String, StringBuilder, Class, System, PrintStream, Throwable, Exception, Error, RuntimeException, AssertionError, ArithmeticException, ArrayStoreException, ClassCastException, IllegalArgumentException, IllegalStateException, IndexOutOfBoundsException, NegativeArraySizeException, NullPointerException, UnsupportedOperationException, ArrayIndexOutOfBoundsException, StringIndexOutOfBoundsException, NumberFormatException, Comparable, CharSequence, Cloneable, Serializable}
use Rattle.lib_rows.specs.declared.method.LibMethod.{LibMethod}
use Rattle.lib_rows.specs.declared.method.LibMethod.TheVariants.{ObjectInit, ObjectEquals, ThrowableInit, ThrowableInitText, AssertionInit, AssertionInitObject, AssertionInitBoolean, AssertionInitChar, AssertionInitInt, AssertionInitLong, StringLength, StringIsEmpty, StringCharAt, StringTail, StringSubstring, StringConcat, StringEquals, StringStartsWith, StringEndsWith, StringIndexOf, StringCompareTo, StringOfInt, StringOfChar, StringOfBoolean, BuilderInit, BuilderInitText, BuilderAppendText, BuilderAppendChar, BuilderAppendInt, BuilderAppendBoolean, BuilderToString, BuilderLength, BuilderCharAt, ClassDesiredAssertionStatus, PrintBoolean, PrintChar, PrintInt, PrintLong, PrintText, Println, PrintlnBoolean, PrintlnChar, PrintlnInt, PrintlnLong, PrintlnText}
use Rattle.lib_rows.specs.Classes.{class_name}

-- a row: its name and its descriptor, and the method that they stand for
pub record Row : Type 0 where
  pub name : List ℕ
  pub desc : List ℕ
  pub method : LibMethod

abbrev pub row : List ℕ → List ℕ → LibMethod → Row
row name desc method = record { name = name; desc = desc; method = method }

-- java.lang.Object
abbrev pub object_rows : List Row
object_rows =
    row (codes "<init>") (codes "()V") ObjectInit
    ∷ row (codes "equals") (codes "(Ljava/lang/Object;)Z") ObjectEquals
    ∷ []

-- Throwable and the classes under it but AssertionError
abbrev pub throwable_rows : List Row
throwable_rows =
    row (codes "<init>") (codes "()V") ThrowableInit
    ∷ row (codes "<init>") (codes "(Ljava/lang/String;)V") ThrowableInitText
    ∷ []

-- java.lang.AssertionError
abbrev pub assertion_rows : List Row
assertion_rows =
    row (codes "<init>") (codes "()V") AssertionInit
    ∷ row (codes "<init>") (codes "(Ljava/lang/Object;)V") AssertionInitObject
    ∷ row (codes "<init>") (codes "(Z)V") AssertionInitBoolean
    ∷ row (codes "<init>") (codes "(C)V") AssertionInitChar
    ∷ row (codes "<init>") (codes "(I)V") AssertionInitInt
    ∷ row (codes "<init>") (codes "(J)V") AssertionInitLong
    ∷ []

-- java.lang.String
abbrev pub string_rows : List Row
string_rows =
    row (codes "length") (codes "()I") StringLength
    ∷ row (codes "isEmpty") (codes "()Z") StringIsEmpty
    ∷ row (codes "charAt") (codes "(I)C") StringCharAt
    ∷ row (codes "substring") (codes "(I)Ljava/lang/String;") StringTail
    ∷ row (codes "substring") (codes "(II)Ljava/lang/String;") StringSubstring
    ∷ row (codes "concat") (codes "(Ljava/lang/String;)Ljava/lang/String;") StringConcat
    ∷ row (codes "equals") (codes "(Ljava/lang/Object;)Z") StringEquals
    ∷ row (codes "startsWith") (codes "(Ljava/lang/String;)Z") StringStartsWith
    ∷ row (codes "endsWith") (codes "(Ljava/lang/String;)Z") StringEndsWith
    ∷ row (codes "indexOf") (codes "(I)I") StringIndexOf
    ∷ row (codes "compareTo") (codes "(Ljava/lang/String;)I") StringCompareTo
    ∷ row (codes "valueOf") (codes "(I)Ljava/lang/String;") StringOfInt
    ∷ row (codes "valueOf") (codes "(C)Ljava/lang/String;") StringOfChar
    ∷ row (codes "valueOf") (codes "(Z)Ljava/lang/String;") StringOfBoolean
    ∷ []

-- java.lang.StringBuilder
abbrev pub builder_rows : List Row
builder_rows =
    row (codes "<init>") (codes "()V") BuilderInit
    ∷ row (codes "<init>") (codes "(Ljava/lang/String;)V") BuilderInitText
    ∷ row (codes "append") (codes "(Ljava/lang/String;)Ljava/lang/StringBuilder;") BuilderAppendText
    ∷ row (codes "append") (codes "(C)Ljava/lang/StringBuilder;") BuilderAppendChar
    ∷ row (codes "append") (codes "(I)Ljava/lang/StringBuilder;") BuilderAppendInt
    ∷ row (codes "append") (codes "(Z)Ljava/lang/StringBuilder;") BuilderAppendBoolean
    ∷ row (codes "toString") (codes "()Ljava/lang/String;") BuilderToString
    ∷ row (codes "length") (codes "()I") BuilderLength
    ∷ row (codes "charAt") (codes "(I)C") BuilderCharAt
    ∷ []

-- java.lang.Class
abbrev pub class_rows : List Row
class_rows =
    row (codes "desiredAssertionStatus") (codes "()Z") ClassDesiredAssertionStatus
    ∷ []

-- java.io.PrintStream
abbrev pub print_rows : List Row
print_rows =
    row (codes "print") (codes "(Z)V") PrintBoolean
    ∷ row (codes "print") (codes "(C)V") PrintChar
    ∷ row (codes "print") (codes "(I)V") PrintInt
    ∷ row (codes "print") (codes "(J)V") PrintLong
    ∷ row (codes "print") (codes "(Ljava/lang/String;)V") PrintText
    ∷ row (codes "println") (codes "()V") Println
    ∷ row (codes "println") (codes "(Z)V") PrintlnBoolean
    ∷ row (codes "println") (codes "(C)V") PrintlnChar
    ∷ row (codes "println") (codes "(I)V") PrintlnInt
    ∷ row (codes "println") (codes "(J)V") PrintlnLong
    ∷ row (codes "println") (codes "(Ljava/lang/String;)V") PrintlnText
    ∷ []

-- the rows of each class
abbrev pub rows_of : Builtin → List Row
rows_of Object = object_rows
rows_of String = string_rows
rows_of StringBuilder = builder_rows
rows_of Class = class_rows
rows_of System = []
rows_of PrintStream = print_rows
rows_of Throwable = throwable_rows
rows_of Exception = throwable_rows
rows_of Error = throwable_rows
rows_of RuntimeException = throwable_rows
rows_of AssertionError = assertion_rows
rows_of ArithmeticException = throwable_rows
rows_of ArrayStoreException = throwable_rows
rows_of ClassCastException = throwable_rows
rows_of IllegalArgumentException = throwable_rows
rows_of IllegalStateException = throwable_rows
rows_of IndexOutOfBoundsException = throwable_rows
rows_of NegativeArraySizeException = throwable_rows
rows_of NullPointerException = throwable_rows
rows_of UnsupportedOperationException = throwable_rows
rows_of ArrayIndexOutOfBoundsException = throwable_rows
rows_of StringIndexOutOfBoundsException = throwable_rows
rows_of NumberFormatException = throwable_rows
rows_of Comparable = []
rows_of CharSequence = []
rows_of Cloneable = []
rows_of Serializable = []

-- the row stands in the table of the class of the method, under its name and its descriptor
pub record IsRow (method : MethodId) (found : LibMethod) : Type 0 where
  pub class : Builtin
  pub named : method.class ≡ class_name class
  pub listed : Contains (rows_of class) (row method.name method.desc found)

-- the method of the first row with the name and the descriptor
abbrev pub named : List Row → List ℕ → List ℕ → Option LibMethod
named [] name desc = None
named (row ∷ rows) name desc =
    if bytes_eq row.name name && bytes_eq row.desc desc then Some row.method else named rows name desc
