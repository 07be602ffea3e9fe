-- What arrays keep of ints at the edges of their types, and which types newarray names (JVM Specification SE 8, 6.5).
use Rattle.std.proofs.Common.{◌≡◌, pos, negsuc, [], ◌∷◌, Some, None, refl, codes}
use Rattle.std.specs.Int.{int_wrap}
use Rattle.jv_base.specs.declared.value.Value.TheVariants.{Int}
use Rattle.jv_base.specs.declared.method.Kind.TheVariants.{NegSize}
use Rattle.vm_object.specs.declared.element.ElementType.TheVariants.{Boolean, Byte, Char, Short, Reference}
use Rattle.vm_object.specs.declared.effect.ArrayEffect.TheVariants.{Makes, Raises, Leaves}
use Rattle.vm_object.specs.ElementTypes.{element_type, type_text, narrowed}
use Rattle.vm_object.specs.NewArrays.{make_effect}

boolean_of_3 : narrowed Boolean (Int (pos 3)) ≡ Int (pos 1)
boolean_of_3 = refl

boolean_of_minus_2 : narrowed Boolean (Int (negsuc 1)) ≡ Int (pos 0)
boolean_of_minus_2 = refl

byte_of_200 : narrowed Byte (Int (pos 200)) ≡ Int (negsuc 55)
unfolding int_wrap
byte_of_200 = refl

char_of_minus_1 : narrowed Char (Int (negsuc 0)) ≡ Int (pos 65535)
char_of_minus_1 = refl

short_of_40000 : narrowed Short (Int (pos 40000)) ≡ Int (negsuc 25535)
unfolding int_wrap
short_of_40000 = refl

-- newarray by its codes; no array of floats is made
code_of_longs : type_text 11 ≡ Some (codes "J")
code_of_longs = refl

no_floats : element_type (codes "F") ≡ None
no_floats = refl

arrays_are_references : element_type (codes "[I") ≡ Some Reference
arrays_are_references = refl

-- a size at the bound, above it, and below 0
at_the_bound : make_effect (type_text 8) 4 (Int (pos 4) ∷ []) ≡ Makes (codes "B") 4 (Int (pos 0))
at_the_bound = refl

above_the_bound : make_effect (type_text 8) 4 (Int (pos 5) ∷ []) ≡ Leaves
above_the_bound = refl

below_zero : make_effect (type_text 8) 4 (Int (negsuc 4) ∷ []) ≡ Raises NegSize
below_zero = refl
