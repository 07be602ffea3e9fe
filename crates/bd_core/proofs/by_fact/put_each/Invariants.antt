-- What the facts so far give was put.
use Rattle.std.proofs.Common.{take}
use Rattle.bd_core.specs.Rules.{FromFact}
use Rattle.bd_core.specs.Calls.Adds.{Adds, Each}
use Rattle.bd_core.specs.Loads.{given}
use Rattle.bd_core.proofs.by_fact.put_each.Given as goal

abbrev pub invariant-facts : goal.invariant-facts
invariant-facts l =
    Adds (Each (take l.fact-index l.fn.facts) (FromFact (given l.fn.loaded) l.fn.method)) l.fn.out l.out
