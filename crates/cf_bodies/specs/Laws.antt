-- What holds of the definitions: the code of a file's methods, and a file as a whole, is in order, or it has one first fault, and
-- not both.
use Rattle.std.specs.Prelude.{◌≡◌, ℕ, List, ◌⊎◌}
use Rattle.cf_pool.specs.declared.fault.Fault.{Fault}
use Rattle.cf_pool.specs.Laws.{ExactlyOne, IsBytes}
use Rattle.cf_structure.specs.Raw.{RawFile}
use Rattle.cf_bodies.specs.Bodies.{AreShort}
use Rattle.cf_bodies.specs.Judged.{HasGoodBodies, IsBodyFault}
use Rattle.cf_bodies.specs.Passes.{IsInOrder, IsFaultOf}

pub record OneVerdictOf (file : RawFile) : Type 0 where
  pub one : HasGoodBodies file ⊎ ((fault : Fault) × IsBodyFault file fault)
  pub one_fault : (a b : Fault) → IsBodyFault file a → IsBodyFault file b → a ≡ b
  pub not_both : (fault : Fault) → HasGoodBodies file → IsBodyFault file fault → ⊥

abbrev pub OneVerdict : Type 0
OneVerdict = (file : RawFile) → AreShort file → OneVerdictOf file

-- bytes are a file that is in order, or have the fault of one
abbrev pub OneFile : Type 0
OneFile = (bytes : List ℕ) → IsBytes bytes → ExactlyOne (IsInOrder bytes) (IsFaultOf bytes)
