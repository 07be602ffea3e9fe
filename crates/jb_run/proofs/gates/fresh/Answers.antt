use Rattle.std.proofs.Common.{ap}
use Rattle.jb_run.specs.declared.formula.Lit.{Lit}
use Rattle.jb_run.specs.declared.gates.Bit.TheVariants.{Of}
use Rattle.jb_run.proofs.DefinitionLemmas.{fresh_is}
use Rattle.jb_run.proofs.gates.fresh.Goals as goal

pub returns-clause-input : goal.returns-clause-input
returns-clause-input c named =
    fresh_is c.args.formula.now c.fresh.new.self (Of c.in_ok-fresh.field-0)
    (ap (λ (lit : Lit). Of lit) c.in_ok-fresh.ensures.lit) c.in_ok-fresh.ensures.variables c.fresh.ensures.clauses
    named
