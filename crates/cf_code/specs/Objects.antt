-- The bytes of the instructions on objects (JVM Specification SE 8, 6.5).
use Rattle.std.specs.Prelude.{ℕ, List, [], ◌∷◌}
use Rattle.cf_code.specs.Bytes.{two, IsTwo}
use Rattle.cf_code.specs.declared.object.Object.{Object}
use Rattle.cf_code.specs.declared.object.Object.TheVariants.{New, Throw, CheckCast, InstanceOf, MonitorEnter, MonitorExit}

-- new, athrow, checkcast, instanceof, monitorenter, monitorexit
abbrev pub object_spelling : Object → List ℕ
object_spelling (New index) = 187 ∷ two index
object_spelling Throw = 191 ∷ []
object_spelling (CheckCast index) = 192 ∷ two index
object_spelling (InstanceOf index) = 193 ∷ two index
object_spelling MonitorEnter = 194 ∷ []
object_spelling MonitorExit = 195 ∷ []

-- what has a spelling
abbrev pub FitsObject : Object → Type 0
FitsObject (New index) = IsTwo index
FitsObject Throw = Unit {0}
FitsObject (CheckCast index) = IsTwo index
FitsObject (InstanceOf index) = IsTwo index
FitsObject MonitorEnter = Unit {0}
FitsObject MonitorExit = Unit {0}
