use Rattle.std.proofs.Common.{Some, None}
use Rattle.std.proofs.lemmas.Slice.Eq.{strip_suffix_is}
use Rattle.ck_shapes.proofs.StackLemmas.{type_decides}
use Rattle.ck_shapes.proofs.stack.replaced.Goals as goal

pub returns-in_default : goal.returns-in_default
returns-in_default c new m =
    strip_suffix_is type_decides c.args.stack.now c.args.takes.now None c.in_default.ensures.cases
    m.rest m.old_is

pub returns : goal.returns
returns c =
    let copied = c.in_ok-new.ensures in
    record {
      rest = c.in-Some.rest.now;
      old_is = strip_suffix_is type_decides c.args.stack.now c.args.takes.now (Some c.in-Some.rest)
          c.in-Some.ensures.cases;
      new_is = cc (c.in_ok-extend.ensures.ok);
    }
