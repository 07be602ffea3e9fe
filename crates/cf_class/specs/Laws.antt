-- What holds of the definitions: exactly one of class and fault stands for each file.
use Rattle.std.specs.Prelude.{ℕ, List}
use Rattle.cf_pool.specs.Laws.{ExactlyOne, IsBytes}
use Rattle.cf_bodies.specs.Passes.{IsFaultOf}
use Rattle.cf_class.specs.Content.{IsClass}

-- bytes are a class file, or have the fault of one
abbrev pub OneClass : Type 0
OneClass = (bytes : List ℕ) → IsBytes bytes → ExactlyOne (IsClass bytes) (IsFaultOf bytes)
