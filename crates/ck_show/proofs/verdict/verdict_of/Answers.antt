use Rattle.ck_show.proofs.verdict.verdict_of.Goals as goal

pub returns-else-branch-2 : goal.returns-else-branch-2
returns-else-branch-2 c = (
  cc (c.lacks_code.ensures, c.if-lacks_code.false),
  (cc (c.in_ok-is_outside.ensures, c.if-branch.false), c.in_ok-has_shapes.ensures.no c.if-branch-2.false),
)
