-- The event is put, and all else stays.
use Rattle.std.proofs.Common.{List, sym, subst}
use Rattle.std.proofs.lemmas.Bool.{false≢true}
use Rattle.bd_core.specs.declared.item.Event.{Event}
use Rattle.bd_core.specs.Runs.{IsRun}
use Rattle.bd_core.specs.Runs as runs
use Rattle.bd_core.specs.Loading.{job_of, events_of, told_of}
use Rattle.bd_core.proofs.loading.Core.give_back.Goals as goal

pub returns-clause-kept : goal.returns-clause-kept
returns-clause-kept c =
    let old = c.args.self.now in
    record {
      run = subst (λ (l : List Event). IsRun (job_of old) l (told_of old)) (sym c.give_back.ensures.events)
          (runs.back (events_of old) (told_of old) c.args.worker c.args.item.now c.requires.kept.run c.requires.held);
      logged = c.give_back.ensures.logged;
      queued = c.requires.kept.queued;
      settled = λ e. absurd (false≢true e);
    }
