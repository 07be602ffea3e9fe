-- The event is put, and the item is in the queue no more.
use Rattle.std.proofs.Common.{◌≡◌, ◌++◌, [], ◌∷◌, List, Some, inl, inr, sym, subst, rules}
use Rattle.bd_core.specs.declared.item.Event.{Event}
use Rattle.bd_core.specs.declared.item.Event.TheVariants.{Take}
use Rattle.bd_core.specs.Runs.{IsRun, IsPending, holder}
use Rattle.bd_core.specs.Runs as runs
use Rattle.bd_core.specs.Loading.{job_of, events_of, told_of}
use Rattle.bd_core.proofs.RunLemmas.{pending_before}
use Rattle.bd_core.proofs.CoreLemmas.{taken_held}
use Rattle.bd_core.proofs.loading.Core.claim.Goals as goal

pub returns-then-is_ok-clause-answers : goal.returns-then-is_ok-clause-answers
returns-then-is_ok-clause-answers c =
    let old = c.args.self.now in
    let e : c.take.new.self.events.items ≡ events_of old ++ Take c.args.worker c.args.item ∷ [] = search rules in (
      c.requires.pending,
      e,
      subst (λ (l : List Event). holder l c.args.item ≡ Some c.args.worker) (sym e)
          (taken_held (events_of old) c.args.worker c.args.item),
    )

pub returns-then-is_ok-clause-kept : goal.returns-then-is_ok-clause-kept
returns-then-is_ok-clause-kept c =
    let old = c.args.self.now in
    let j = job_of old in
    let t = told_of old in
    let e : c.take.new.self.events.items ≡ events_of old ++ Take c.args.worker c.args.item ∷ [] = search rules in
    record {
      run = subst (λ (l : List Event). IsRun j l t) (sym e)
          (runs.taken (events_of old) t c.args.worker c.args.item c.requires.run c.requires.pending);
      logged = c.take.ensures.logged;
      queued = c.requires.queued;
      settled = λ settled i pending.
          let before = pending_before j t (events_of old) c.args.worker c.args.item i
          (subst (λ (l : List Event). IsPending j t l i) e pending) in
          elim (c.requires.left settled i before.0) [ inl same ↦ absurd (before.1 same) | inr there ↦ there ];
    }
