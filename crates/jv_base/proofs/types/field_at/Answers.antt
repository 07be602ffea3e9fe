-- All brackets are counted, and the element follows them.
use Rattle.std.proofs.Common.{ℕ, List, arith}
use Rattle.jv_base.specs.Calls.Fronts.{HasFront}
use Rattle.jv_base.specs.Descriptor.{IsElementType, element_text}
use Rattle.jv_base.proofs.DescriptorLemmas.{field_parts}
use Rattle.jv_base.proofs.types.field_at.Goals as goal

pub returns-then-dimensions-gt255-clause-none : goal.returns-then-dimensions-gt255-clause-none
returns-then-dimensions-gt255-clause-none c =
    let run = c.brackets_at-dimensions in
    λ rest h.
    let parts = field_parts c.args.text.now run.result.1.now rest run.result.0 run.ensures.parts run.ensures.all h in
    absurd (omega (arith, parts.0))

pub returns-in_default-clause-none : goal.returns-in_default-clause-none
returns-in_default-clause-none c =
    let run = c.brackets_at-dimensions in
    let none : (rest : List ℕ) → HasFront IsElementType element_text run.result.1.now rest → ⊥ =
    rw c.in_default.is at c.in_ok-element.ensures.none in
    λ rest h.
    let parts = field_parts c.args.text.now run.result.1.now rest run.result.0 run.ensures.parts run.ensures.all h in
    none rest parts.1
