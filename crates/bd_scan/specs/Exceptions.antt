-- The exceptions of faults (JVM Specification SE 8, 6.5). What athrow throws was made before, so assert has none here.
use Rattle.std.specs.Prelude.{List, [], ◌∷◌}
use Rattle.jv_base.specs.declared.method.Kind.{Kind}
use Rattle.jv_base.specs.declared.method.Kind.TheVariants.{Null, Zero, Bounds, NegSize, Store, Cast, StrIndex}
use Rattle.lib_rows.specs.declared.class.Builtin.{Builtin}
use Rattle.lib_rows.specs.declared.class.Builtin.TheVariants.{NullPointerException, ArithmeticException}
use Rattle.lib_rows.specs.declared.class.Builtin.TheVariants.{ArrayIndexOutOfBoundsException}
use Rattle.lib_rows.specs.declared.class.Builtin.TheVariants.{NegativeArraySizeException, ArrayStoreException}
use Rattle.lib_rows.specs.declared.class.Builtin.TheVariants.{ClassCastException, StringIndexOutOfBoundsException}

-- a kind of fault, with the exception that is made where it comes
abbrev pub exceptions : List (Kind × Builtin)
exceptions =
    (Null, NullPointerException)
    ∷ (Zero, ArithmeticException)
    ∷ (Bounds, ArrayIndexOutOfBoundsException)
    ∷ (NegSize, NegativeArraySizeException)
    ∷ (Store, ArrayStoreException)
    ∷ (Cast, ClassCastException)
    ∷ (StrIndex, StringIndexOutOfBoundsException)
    ∷ []
