-- Nothing was told, and nothing is asked for yet.
use Rattle.std.proofs.Common.{sym, subst, List, Contains}
use Rattle.std.proofs.lemmas.Bool.{false≢true}
use Rattle.jv_list.proofs.MemberLemmas.{none_member}
use Rattle.bd_core.specs.declared.item.Item.{Item}
use Rattle.bd_core.specs.declared.item.Event.{Event}
use Rattle.bd_core.specs.declared.job.Job.{Job}
use Rattle.bd_core.specs.Loads.{told}
use Rattle.bd_core.specs.Runs.{IsRun}
use Rattle.bd_core.specs.Runs as runs
use Rattle.bd_core.proofs.loading.Core.start.Goals as goal

pub returns-clause-kept : goal.returns-clause-kept
returns-clause-kept c =
    let j : Job = record { entry = c.args.entry; depth = c.args.depth } in
    record {
      run = subst (λ (events : List Event). IsRun j events (told c.new.result)) (sym c.new-2.ensures.events)
          (runs.start (told c.new.result) c.new.ensures);
      logged = c.new-2.ensures.logged;
      queued = λ i h. absurd (none_member i (subst (λ (l : List Item). Contains l i) c.new-3.ensures h));
      settled = λ e. absurd (false≢true e);
    }
