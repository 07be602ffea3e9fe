-- The types of values that stand for the types of descriptors (JVM Specification SE 8, 2.11.1).
use Rattle.std.specs.Prelude.{Bool, true, false}
use Rattle.jv_base.specs.declared.value.Ty.{Ty, fold-Ty}
use Rattle.jv_base.specs.declared.value.Ty.TheOpen.{Ty-F}
use Rattle.jv_base.specs.declared.value.Value.{Value}
use Rattle.jv_base.specs.declared.value.Value.TheVariants as values
use Rattle.cf_code.specs.declared.word.Word.{Word}
use Rattle.cf_code.specs.declared.word.Word.TheVariants.{Int, Long, Float, Double, Reference}

abbrev pub word_layer : Ty-F Word → Word
word_layer Ty-F.Boolean = Int
word_layer Ty-F.Byte = Int
word_layer Ty-F.Char = Int
word_layer Ty-F.Short = Int
word_layer Ty-F.Int = Int
word_layer Ty-F.Long = Long
word_layer Ty-F.Float = Float
word_layer Ty-F.Double = Double
word_layer (Ty-F.Class name) = Reference
word_layer (Ty-F.Array elements) = Reference

-- the type of the values of a type: boolean, byte, char and short are ints
abbrev pub word_of : Ty → Word
word_of t = fold-Ty Word word_layer t

-- whether a value is of a type; no value is a float or a double
abbrev pub has_word : Word → Value → Bool
has_word Int (values.Int n) = true
has_word Long (values.Long n) = true
has_word Reference (values.Ref r) = true
has_word word v = false
