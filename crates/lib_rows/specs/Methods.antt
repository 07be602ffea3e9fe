-- What the methods of rows are.
use Rattle.std.specs.Prelude.{Bool, true, false, Option, Some, None}
use Rattle.jv_base.specs.declared.method.Kind.{Kind}
use Rattle.jv_base.specs.declared.method.Kind.TheVariants.{Null}
use Rattle.lib_rows.specs.declared.method.LibMethod.{LibMethod}
use Rattle.lib_rows.specs.declared.method.LibMethod.TheVariants.{StringOfInt, StringOfChar, StringOfBoolean, StringCharAt, StringTail, StringSubstring, StringConcat, StringStartsWith, StringEndsWith, StringCompareTo, BuilderInitText, BuilderCharAt}

-- whether it is called without a receiver: `valueOf`, and no other
abbrev pub is_static : LibMethod → Bool
is_static StringOfInt = true
is_static StringOfChar = true
is_static StringOfBoolean = true
is_static other = false

-- what a null argument raises, in the words of the documentation of java.lang.String
abbrev pub null_argument : LibMethod → Option Kind
null_argument StringConcat = Some Null
null_argument StringStartsWith = Some Null
null_argument StringEndsWith = Some Null
null_argument StringCompareTo = Some Null
null_argument BuilderInitText = Some Null
null_argument other = None

-- whether an argument is a place in a text
abbrev pub has_index : LibMethod → Bool
has_index StringCharAt = true
has_index StringTail = true
has_index StringSubstring = true
has_index BuilderCharAt = true
has_index other = false
