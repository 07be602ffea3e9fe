-- The two constants are added.
use Rattle.tm_terms.proofs.ChainRules.{more_second}
use Rattle.tm_terms.proofs.chain.more_by.Goals as goal

pub returns-in-Some : goal.returns-in-Some
returns-in-Some c =
    let k = rw c.sort.ensures at c.sum.ensures in
    more_second c.args.bank.now c.args.a c.args.b c.in_ok-x.x c.in_ok-x.c c.in-Some.d c.sum.result c.requires
    c.in_ok-x.ensures c.in-Some.ensures.found k
