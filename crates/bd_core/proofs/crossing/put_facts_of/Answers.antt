-- The facts of the method.
use Rattle.std.proofs.lemmas.Result.{on_ok_weaker}
use Rattle.bd_core.specs.Loads.{given}
use Rattle.bd_core.proofs.FactLemmas.{of_method}
use Rattle.bd_core.proofs.crossing.put_facts_of.Goals as goal

pub returns-in-Method : goal.returns-in-Method
returns-in-Method c =
    on_ok_weaker c.put_facts.result
    (of_method (given c.args.loaded.now) _ _ c.in-Method.method c.args.member.now c.in-Method.is) c.put_facts.ensures
