use Rattle.std.proofs.Common.{List, subst}
use Rattle.std.proofs.lemmas.Option.{MatchOption-at_none}
use Rattle.cf_thin.specs.declared.shape.OperandType.{OperandType}
use Rattle.cf_thin.specs.ThinCode.{StackSteps}
use Rattle.cf_thin.proofs.shape.Shape.after.Goals as goal

pub returns-in_default-2 : goal.returns-in_default-2
returns-in_default-2 c new s =
    let none = MatchOption-at_none ((t : List OperandType) → StackSteps c.args.instr c.as_slice-2.result.now t → ⊥)
    (λ t. StackSteps c.args.instr c.as_slice-2.result.now t) c.in_default-2.is c.in_ok-stack.ensures in
    let P : List OperandType → Type 0 = λ old. (t : List OperandType) → StackSteps c.args.instr old t → ⊥ in
    let no : P c.args.self.now.stack = subst P c.as_slice-2.ensures none in
    no new.stack s.stack
