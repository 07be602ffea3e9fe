-- Opposites split.
use Rattle.tm_terms.proofs.SplitRules.{split_by_opposites}
use Rattle.tm_terms.proofs.splits.split.Goals as goal

pub returns : goal.returns
returns c t =
    split_by_opposites c.args.bank.now c.args.a c.args.b c.args.g c.in-Some.c c.in-Some-other_conjunct.d
    c.in-Some.ensures
    c.in-Some-other_conjunct.ensures (c.are_opposite.ensures t)
