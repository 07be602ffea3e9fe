-- The facts are told, and what was asked for stays so.
use Rattle.std.proofs.Common.{List, sym, subst, rules}
use Rattle.std.proofs.lemmas.Bool.{false≢true}
use Rattle.bd_core.specs.declared.item.Event.{Event}
use Rattle.bd_core.specs.Told.{IsTold}
use Rattle.bd_core.specs.Loads.{told}
use Rattle.bd_core.specs.Runs.{IsRun}
use Rattle.bd_core.specs.Runs as runs
use Rattle.bd_core.specs.Loading.{job_of, events_of, told_of}
use Rattle.bd_core.proofs.GrownLemmas.{asked_kept}
use Rattle.bd_core.proofs.RunLemmas.{held_not_given, told_grown}
use Rattle.bd_core.proofs.loading.Core.give.Goals as goal

pub tell-requires-clause-new : goal.tell-requires-clause-new
tell-requires-clause-new c =
    let old = c.args.self.now in
    held_not_given (job_of old) (events_of old) (told_of old) c.args.item.now c.args.worker c.requires.kept.run
    c.requires.held

pub returns-clause-kept : goal.returns-clause-kept
returns-clause-kept c =
    let old = c.args.self.now in
    let j = job_of old in
    let t = told_of old in
    let u = told c.tell.new.self in
    let x = c.args.item.now in
    let is : IsTold t x c.args.facts u = search rules in
    let new = held_not_given j (events_of old) t x c.args.worker c.requires.kept.run c.requires.held in
    let grown = told_grown c.growth_laws.ensures.added t u x c.args.facts is c.requires.fits new in
    record {
      run = subst (λ (l : List Event). IsRun j l u) (sym c.give.ensures.events)
          (runs.given (events_of old) t u c.args.worker x c.args.facts c.requires.kept.run c.requires.held
          c.requires.fits is);
      logged = c.give.ensures.logged;
      queued = λ i h.
          asked_kept t.given u.given grown
          (c.growth_laws.ensures.meanings t.given.classes u.given.classes grown.grows) j i (c.requires.kept.queued i h);
      settled = λ e. absurd (false≢true e);
    }
