-- One fact more.
use Rattle.std.proofs.Common.{rules}
use Rattle.bd_core.specs.Loads.{given}
use Rattle.bd_core.specs.Rules.{FromFact}
use Rattle.bd_core.proofs.AddsLemmas.{each_step}
use Rattle.bd_core.proofs.by_fact.put_each.Goals as goal

pub facts-preserved : goal.facts-preserved
facts-preserved c =
    each_step (FromFact (given c.args.loaded.now) c.args.method.now) c.args.facts.now c.facts.fact-index
    c.fact-item.result c.args.out.now c.facts.out c.put_fact.new.out (search rules) (search rules) c.facts.invariant
    (search rules)
