use Rattle.ck_shapes.specs.declared.shape.Shape.{Shape}
use Rattle.ck_shapes.proofs.KnownLemmas.{met_differs, met_stays, met_becomes}
use Rattle.ck_shapes.proofs.search.met.Goals as goal

pub returns-then-not-branch : goal.returns-then-not-branch
returns-then-not-branch c =
    met_differs c.args.known.now c.in-Some.known c.args.shape.now c.in-Some.is
    (λ same. absurd (cc (c.if-not-branch.true, c.in_ok-is_same.ensures.1 same)))

pub returns-then-branch : goal.returns-then-branch
returns-then-branch c =
    met_stays c.args.known.now c.in-Some.known c.args.shape.now c.in-Some.is
    (c.in_ok-is_same.ensures.0 c.if-not-branch.false)
    (c.in_ok-are_less.ensures.yes c.if-branch.true)

pub returns : goal.returns
returns c =
    let both : Shape = record { locals = c.in_ok-locals.locals; stack = c.in_ok-stack.stack } in
    met_becomes c.args.known.now c.in-Some.known c.args.shape.now c.in-Some.is both
    (c.in_ok-is_same.ensures.0 c.if-not-branch.false)
    c.in_ok-stack.ensures
    (c.in_ok-are_less.ensures.no c.if-branch.false) c.in_ok-locals.ensures.common c.in_ok-locals.ensures.within
