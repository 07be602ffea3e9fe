-- Shapes that meet the rules stand at instructions of the code.
use Rattle.cf_thin.specs.Instr.{Places}
use Rattle.std.proofs.Common.{◌≡◌, ◌<◌, ℕ, length, Some, arith}
use Rattle.cf_thin.specs.declared.shape.Shape.{Shape}
use Rattle.cf_thin.specs.declared.shape.Limits.{Limits}
use Rattle.cf_thin.specs.Laws.{GoForward}
use Rattle.cf_thin.specs.ThinCode.{Shapes, MeetsRules}

-- a pc that has a shape is within the code
pub shape_within : GoForward → (code : Places) (limits : Limits) (shapes : Shapes) → MeetsRules code limits shapes →
    (pc : ℕ) (shape : Shape) → shapes pc ≡ Some shape → pc < length code
shape_within forward code limits shapes rules pc shape is =
    let flows = rules.flows pc shape is in
    let goes = forward code pc flows.instr flows.next flows.is in
    omega (arith, goes.ends, goes.within)
