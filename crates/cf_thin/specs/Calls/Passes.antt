-- What the steps of the check of thin code give.
use Rattle.std.specs.Prelude.{◌≡◌, ◌≢◌, ◌<◌, ◌≤◌, ◌⊎◌, if◌then◌else◌, ◌&&◌, ℕ, Bool, true, List, [], ◌∷◌, length}
use Rattle.std.specs.Prelude.{slice_get, slice_set, Option, Some, None, option_and_then}
use Rattle.cf_thin.specs.declared.shape.Shape.{Shape}
use Rattle.cf_thin.specs.declared.shape.Limits.{Limits}
use Rattle.cf_thin.specs.declared.instr.ThinInstr.{ThinInstr}
use Rattle.cf_thin.specs.Instr.{target_of, Places, instr_at}
use Rattle.cf_thin.specs.ThinCode.{IsStart, falls_through, Shapes, IsLed, Flows, Fits, entry_locals}

-- where two shapes meet, a local is known to have an int where both know it
abbrev pub both_known : List Bool → List Bool → List Bool
both_known (x ∷ xs) (y ∷ ys) = (x && y) ∷ both_known xs ys
both_known xs ys = []

-- the shape where two meet, whose stacks are the same
pub record AreJoined (left right both : Shape) : Type 0 where
  pub same : left.stack ≡ right.stack
  pub stack : both.stack ≡ right.stack
  pub locals : both.locals ≡ both_known left.locals right.locals

-- the shape at a pc, where one is found yet
abbrev pub shape_at : List (Option Shape) → Shapes
shape_at found pc = option_and_then (λ s. s) (slice_get found pc)

-- the shape where one meets the one that is found yet, if any
abbrev pub JoinsFound : Option Shape → Shape → Shape → Type 0
JoinsFound None shape both = both ≡ shape
JoinsFound (Some known) shape both = AreJoined known shape both

-- the stack of the shape that is found yet is another
abbrev pub Differs : Option Shape → Shape → Type 0
Differs None shape = ⊥
Differs (Some known) shape = known.stack ≡ shape.stack → ⊥

-- a shape is put at a pc
pub record LeadsTo (old : List (Option Shape)) (shape : Shape) (pc : ℕ) (new : List (Option Shape)) : Type 0 where
  pub within : pc < length old
  pub both : Shape
  pub joins : JoinsFound (shape_at old pc) shape both
  pub put : new ≡ slice_set old pc (Some both)

-- a shape is put at a pc, if one is given
abbrev pub LeadsToAny : List (Option Shape) → Shape → Option ℕ → List (Option Shape) → Type 0
LeadsToAny old shape None new = new ≡ old
LeadsToAny old shape (Some pc) new = LeadsTo old shape pc new

-- a shape cannot be put at a pc
abbrev pub Refuses : List (Option Shape) → Shape → ℕ → Type 0
Refuses old shape pc = (length old ≤ pc) ⊎ Differs (shape_at old pc) shape

-- a pc is given, where a shape cannot be put
abbrev pub RefusesAny : List (Option Shape) → Shape → Option ℕ → Type 0
RefusesAny old shape None = ⊥
RefusesAny old shape (Some pc) = Refuses old shape pc

-- each shape that is found has so many locals
abbrev pub HaveLocals : List (Option Shape) → ℕ → Type 0
HaveLocals found count = (pc : ℕ) (shape : Shape) → shape_at found pc ≡ Some shape → length shape.locals ≡ count

-- the shapes stand where those that are found are expected
abbrev pub Covers : List (Option Shape) → Shapes → Type 0
Covers found shapes = (pc : ℕ) (shape : Shape) → shape_at found pc ≡ Some shape → IsLed shapes shape pc

-- the shapes that are found fit, and those below a pc flow
pub record IsSound (code : Places) (limits : Limits) (found : List (Option Shape)) (pc : ℕ) : Type 0 where
  pub long : length found ≡ length code
  pub entry : (shape : Shape) × (shape_at found 0 ≡ Some shape)
      × (shape.locals ≡ entry_locals limits.params limits.max_locals) × (shape.stack ≡ [])
  pub fits : (at : ℕ) (shape : Shape) → shape_at found at ≡ Some shape → Fits code limits at shape
  pub flows : (at : ℕ) (shape : Shape) → at < pc → shape_at found at ≡ Some shape
      → Flows code limits (shape_at found) at shape

-- of each byte, whether an instruction begins there
pub record AreStarts (code : Places) (starts : List Bool) : Type 0 where
  pub long : length starts ≡ length code
  pub sound : (pc : ℕ) → slice_get starts pc ≡ Some true → IsStart code pc
  pub complete : (pc : ℕ) → IsStart code pc → slice_get starts pc ≡ Some true

-- each instruction that begins is whole
abbrev pub AreWhole : Places → Type 0
AreWhole code = (pc : ℕ) → IsStart code pc → (instr : ThinInstr) × (next : ℕ) × (instr_at code pc ≡ Some (instr, next))

-- the jump at a pc goes to where an instruction begins
abbrev pub IsAimed : Places → ℕ → Type 0
IsAimed code pc = (next target : ℕ) (instr : ThinInstr) → instr_at code pc ≡ Some (instr, next)
    → target_of instr ≡ Some target → IsStart code target

-- each jump goes to where an instruction begins
abbrev pub AreAimed : Places → Type 0
AreAimed code = (pc : ℕ) → IsStart code pc → IsAimed code pc

-- where the next instruction begins, when a pc is passed
abbrev pub GoesOn : Places → ℕ → ℕ → ℕ → Type 0
GoesOn code pc next after =
    ((pc ≢ next) × (after ≡ next)) ⊎ ((pc ≡ next) × (instr : ThinInstr) × (instr_at code pc ≡ Some (instr, after)))

-- the pc behind an instruction, where it may be next
abbrev pub fall_of : ThinInstr → ℕ → Option ℕ
fall_of instr next = if falls_through instr then Some next else None

-- a shape is put at one pc, and then at another
abbrev pub FlowsTo : List (Option Shape) → Shape → Option ℕ → Option ℕ → List (Option Shape) → Type 0
FlowsTo old shape first second new = (between : List (Option Shape)) × LeadsToAny old shape first between
    × LeadsToAny between shape second new

-- a shape cannot be put at one pc, or then not at another
abbrev pub CannotFlow : List (Option Shape) → Shape → Option ℕ → Option ℕ → Type 0
CannotFlow old shape first second =
    RefusesAny old shape first ⊎ ((between : List (Option Shape)) × LeadsToAny old shape first between
    × RefusesAny between shape second)
