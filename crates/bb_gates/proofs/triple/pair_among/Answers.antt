use Rattle.bb_gates.proofs.TripleLemmas.{found_turned}
use Rattle.bb_gates.proofs.triple.pair_among.Goals as goal

pub returns-clause-found : goal.returns-clause-found
returns-clause-found c =
    let found = c.pair_of-3.result in
    found_turned found c.args.a c.args.b c.args.c
    (found_turned found c.args.b c.args.c c.args.a c.pair_of-3.ensures.found)
