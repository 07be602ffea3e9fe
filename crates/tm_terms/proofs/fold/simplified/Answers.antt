-- One after the other.
use Rattle.tm_terms.proofs.MakeLemmas.{replaces_through}
use Rattle.tm_terms.proofs.fold.simplified.Goals as goal

pub folded-requires : goal.folded-requires
folded-requires c =
    let r = c.ordered.ensures c.args.bank.now c.requires.fits c.requires.kept in
    record { fits = r.fits; kept = r.kept }

pub returns-clause-replaces : goal.returns-clause-replaces
returns-clause-replaces c =
    let r = c.ordered.ensures c.args.bank.now c.requires.fits c.requires.kept in
    replaces_through c.args.bank.now c.args.op c.ordered.result c.folded.result r c.folded.ensures.replaces
