-- The constant stands for the operation.
use Rattle.std.proofs.Common.{refl}
use Rattle.tm_terms.specs.declared.sort.Sort.TheVariants.{Bool as Truth}
use Rattle.tm_terms.specs.Operations.{operands_of, third_of}
use Rattle.tm_terms.specs.Terms.{term_sort}
use Rattle.tm_terms.proofs.FoldLemmas.{given-below, fold-below, fold-replaces}
use Rattle.tm_terms.proofs.KnownRules.{known-replaces}
use Rattle.tm_terms.proofs.fold.folded.Goals as goal

pub number_over-requires : goal.number_over-requires
number_over-requires c =
    let given = rw c.operands.ensures at c.in-Some-given_by.ensures.some in
    record {
      sorts = (
        third_of Truth (term_sort c.args.bank.now) (operands_of c.args.op),
        rw (given.s, given.t)
            c.requires.fits.sorts,
      );
      second = given-below c.args.bank.now (operands_of c.args.op) c.in-Some-given_by.given given;
    }

pub returns-in-Some-given_by : goal.returns-in-Some-given_by
returns-in-Some-given_by c =
    let given = rw c.operands.ensures at c.in-Some-given_by.ensures.some in
    record {
      replaces = fold-replaces c.args.bank.now c.args.op c.in-Some-given_by.given given c.requires.kept
          c.sort_over.result
          c.number_over.result c.sort_over.ensures c.number_over.ensures;
      folded = refl;
      reduced = fold-below c.args.bank.now c.args.op c.in-Some-given_by.given given c.requires.kept c.sort_over.result
          c.number_over.result c.sort_over.ensures c.number_over.ensures;
    }

pub returns-in-Some : goal.returns-in-Some
returns-in-Some c =
    let known = c.in-Some.ensures in
    record {
      replaces = rw c.sort_of.ensures (known-replaces c.args.bank.now c.args.op c.in-Some.number known);
      folded = refl;
      reduced = rw c.sort_of.ensures known.within;
    }
