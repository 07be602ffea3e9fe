-- The sorts that were read fit.
use Rattle.tm_terms.specs.declared.sort.Sort.TheVariants.{Bool as Truth}
use Rattle.tm_terms.specs.Operations.{operands_of, third_of}
use Rattle.tm_terms.specs.Listed.{listed_sort}
use Rattle.tm_terms.proofs.values.number_on.Goals as goal

pub number_over-requires-clause-sorts : goal.number_over-requires-clause-sorts
number_over-requires-clause-sorts c = (
  third_of Truth (listed_sort c.args.sorts.now) (operands_of c.args.op),
  rw (c.given_at.ensures.s, c.given_at.ensures.t, c.operands.ensures) c.requires.fit,
)
