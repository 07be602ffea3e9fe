use Rattle.std.proofs.Common.{◌∙◌, sym}
use Rattle.cf_thin.proofs.ShapeLemmas.{same_stacks, other_stacks}
use Rattle.cf_thin.proofs.shape.Shape.meet.Goals as goal

pub returns-then-ne : goal.returns-then-ne
returns-then-ne c same = other_stacks c.as_slice.result.now c.as_slice-2.result.now c.if-ne.ensures (c.as_slice.ensures
    ∙ same ∙ sym c.as_slice-2.ensures)

pub returns : goal.returns
returns c = record {
  same = sym c.as_slice.ensures ∙ same_stacks c.as_slice.result.now c.as_slice-2.result.now c.if-ne.ensures
      ∙ c.as_slice-2.ensures;
  stack = c.in_ok-stack.ensures ∙ c.as_slice-5.ensures;
  locals = rw (← c.as_slice-3.ensures) (rw (← c.as_slice-4.ensures) c.in_ok-locals.ensures);
}
