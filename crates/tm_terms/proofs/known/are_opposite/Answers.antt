-- Either way round.
use Rattle.tm_terms.proofs.KnownRules.{opposite_second, opposite_first}
use Rattle.tm_terms.proofs.known.are_opposite.Goals as goal

pub returns-then-is_not_of : goal.returns-then-is_not_of
returns-then-is_not_of c t =
    opposite_second c.args.bank.now c.laws.ensures.terms c.args.a c.args.b (c.if-is_not_of.ensures t)

pub returns-else-is_not_of : goal.returns-else-is_not_of
returns-else-is_not_of c t =
    opposite_first c.args.bank.now c.laws.ensures.terms c.args.a c.args.b c.requires.sort
    (c.is_not_of-else-is_not_of.ensures t)
