-- What the encoder does for jumps is what the machine does, for each state that the frame shows.
use Rattle.std.proofs.Common.{◌≡◌, ◌+◌, ◌<◌, ◌≤◌, ℕ, List, [], ◌∷◌, ◌++◌, refl, sym, ap, ◌∙◌, subst, arith}
use Rattle.std.proofs.lemmas.List.{append-nil}
use Rattle.cf_thin.specs.declared.instr.ThinInstr.{ThinInstr}
use Rattle.cf_thin.specs.declared.instr.ThinInstr.TheVariants as instrs
use Rattle.cf_thin.specs.declared.shape.OperandType as kind
use Rattle.cf_thin.specs.declared.shape.OperandType.TheVariants as kinds
use Rattle.cf_thin.specs.declared.shape.Shape.{Shape}
use Rattle.cf_thin.specs.declared.shape.Limits.{Limits}
use Rattle.cf_thin.specs.ThinCode.{takes, leaves, Shapes, IsLed, IsKnownLess}
use Rattle.jb_run.specs.declared.frame.Frame.{Frame}
use Rattle.jb_run.specs.declared.encoder.Encoder.{Encoder}
use Rattle.jb_run.specs.Machine as machine
use Rattle.jb_run.specs.Encoder.{came_of, Goes, Arrives, BranchesBy, IsReady, Executes}

-- a pc has a shape that stands where a shape is expected that is the same
led_same : (shapes : Shapes) (after other : Shape) (pc : ℕ) → after.stack ≡ other.stack → after.locals ≡ other.locals
    → IsLed shapes after pc → IsLed shapes other pc
led_same shapes after other pc stack locals led = (
  led.0,
  led.1,
  record { stack = led.2.stack ∙ stack; locals = subst (IsKnownLess led.0.locals) locals led.2.locals },
)

-- the run goes on at one of two pcs
branch_goes : (limits : Limits) (shapes : Shapes) (old new : Encoder) (pc next one other : ℕ) (frame : Frame)
    (instr : ThinInstr) (taken : List kind.OperandType) → (ready : IsReady limits shapes old pc frame instr next)
    → BranchesBy old new frame taken (machine.step_of instr next) one other → takes instr ≡ taken → leaves instr ≡ []
    → ready.after.locals ≡ ready.shape.locals → IsLed shapes ready.after one → IsLed shapes ready.after other → pc < one
    → pc < other → Goes shapes old new (pc + 1) frame (λ a state. came_of pc (machine.step_of instr next state))
branch_goes limits shapes old new pc next one other frame instr taken ready branches takes_is leaves_is known led_one
    led_other one_above other_above =
    let rest = ready.steps.stack.0 in
    let old_stack : ready.shape.stack ≡ rest ++ taken = ready.steps.stack.1
    ∙ ap (λ (w : List kind.OperandType). rest ++ w) takes_is in
    let new_stack : ready.after.stack ≡ rest = ready.steps.stack.2
    ∙ ap (λ (w : List kind.OperandType). rest ++ w) leaves_is ∙ append-nil rest in
    let expected : Shape = record ready.shape { stack = rest } in
    branches shapes ready.shape rest (pc + 1) pc ready.has old_stack
    (led_same shapes ready.after expected one new_stack known led_one)
    (led_same shapes ready.after expected other new_stack known led_other) (omega arith) (omega arith)

pub ifeq_goes : (old new : Encoder) (pc next target : ℕ) (frame : Frame)
    → BranchesBy old new frame (kinds.Int ∷ []) (machine.branch_on_zero target next) target next
    → Executes old new pc frame (instrs.Ifeq target) next
ifeq_goes old new pc next target frame branches limits shapes ready =
    branch_goes limits shapes old new pc next target next frame (instrs.Ifeq target)
    (kinds.Int ∷ []) ready branches refl refl ready.steps.locals (ready.jumps target refl) (ready.falls refl)
    (ready.jumps_on target refl) ready.falls_on

pub ifne_goes : (old new : Encoder) (pc next target : ℕ) (frame : Frame)
    → BranchesBy old new frame (kinds.Int ∷ []) (machine.branch_on_zero next target) next target
    → Executes old new pc frame (instrs.Ifne target) next
ifne_goes old new pc next target frame branches limits shapes ready =
    branch_goes limits shapes old new pc next next target frame (instrs.Ifne target)
    (kinds.Int ∷ []) ready branches refl refl ready.steps.locals (ready.falls refl)
    (ready.jumps target refl) ready.falls_on (ready.jumps_on target refl)

pub if_equal_goes : (old new : Encoder) (pc next target : ℕ) (frame : Frame)
    → BranchesBy old new frame (kinds.Int ∷ kinds.Int ∷ []) (machine.branch_on_equal target next) target next
    → Executes old new pc frame (instrs.IfIcmpeq target) next
if_equal_goes old new pc next target frame branches limits shapes ready =
    branch_goes limits shapes old new pc next target next frame (instrs.IfIcmpeq target)
    (kinds.Int ∷ kinds.Int ∷ []) ready branches refl refl ready.steps.locals (ready.jumps target refl)
    (ready.falls refl) (ready.jumps_on target refl) ready.falls_on

pub if_not_equal_goes : (old new : Encoder) (pc next target : ℕ) (frame : Frame)
    → BranchesBy old new frame (kinds.Int ∷ kinds.Int ∷ []) (machine.branch_on_equal next target) next target
    → Executes old new pc frame (instrs.IfIcmpne target) next
if_not_equal_goes old new pc next target frame branches limits shapes ready =
    branch_goes limits shapes old new pc next next target frame (instrs.IfIcmpne target)
    (kinds.Int ∷ kinds.Int ∷ []) ready branches refl refl ready.steps.locals (ready.falls refl)
    (ready.jumps target refl) ready.falls_on (ready.jumps_on target refl)

pub goto_goes : (old new : Encoder) (pc next target : ℕ) (frame : Frame) → Arrives old new target frame
    → Executes old new pc frame (instrs.Goto target) next
goto_goes old new pc next target frame arrives limits shapes ready =
    let above : pc + 1 ≤ target = omega (arith, ready.jumps_on target refl) in
    arrives shapes ready.shape (pc + 1) ready.has (led_same shapes ready.after ready.shape target
    (ready.steps.stack.2 ∙ sym ready.steps.stack.1) ready.steps.locals (ready.jumps target refl)) above
