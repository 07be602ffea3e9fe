use Rattle.std.proofs.Common.{sym, subst}
use Rattle.std.proofs.lemmas.Result.{on_ok_weaker}
use Rattle.sa_core.specs.SpentLog.{IsLearnable}
use Rattle.sa_core.proofs.LogLemmas.{learned_kept}
use Rattle.sa_core.proofs.solver.Solver.record.Goals as goal

pub invariant_of-self : goal.invariant_of-self
invariant_of-self c =
    let old = c.args.self.now in
    let learnable = subst (IsLearnable old.variables old.log.entries) (sym c.in_ok-lits.ensures) c.requires in
    let kept =
    learned_kept c.add.result old.variables old.log.entries c.add.new.self (record { lits = c.in_ok-lits.lits })
    c.add.ensures.ok c.add.ensures.unchanged old.named old.holds old.learnable learnable in
    record { named = kept.0; holds = kept.1; learnable = kept.2 }

pub returns-clause-entries : goal.returns-clause-entries
returns-clause-entries c =
    on_ok_weaker c.add.result
    (λ e.
    record {
      clause = record { lits = c.in_ok-lits.lits };
      same = c.in_ok-lits.ensures;
      entries = e;
    })
    c.add.ensures.ok
