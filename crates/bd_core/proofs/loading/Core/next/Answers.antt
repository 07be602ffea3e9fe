-- A free item of the queue, or of the queue that was filled again; or none, and then nothing is pending.
use Rattle.std.proofs.Common.{◌≡◌, ◌↔◌, None, Contains, inl, inr, sym, ◌∙◌, rules}
use Rattle.std.proofs.Common.{true, false}
use Rattle.std.proofs.lemmas.Bool.{false≢true}
use Rattle.std.proofs.lemmas.Option.{same_Some}
use Rattle.bd_core.specs.declared.item.Item.{Item}
use Rattle.bd_core.specs.Runs.{IsAsked}
use Rattle.bd_core.specs.Loading.{job_of, events_of, told_of}
use Rattle.bd_core.proofs.CoreLemmas.{free_pending, pending_free, exhausted, if_some, if_none, on_err}
use Rattle.bd_core.proofs.loading.Core.next.Goals as goal

pub returns-then-self-clause-none : goal.returns-then-self-clause-none
returns-then-self-clause-none c =
    let old = c.args.self.now in
    let none : c.pop_free.result ≡ None = search rules in
    let settled : old.settled ≡ true = search rules in
    let done = exhausted (job_of old) (told_of old) (events_of old) old.queue c.pop_free.new.items c.pop_free.result
    c.pop_free.ensures none (c.requires.settled settled) in (
      record {
        run = c.requires.run;
        logged = c.requires.logged;
        queued = λ i h. c.requires.queued i (c.pop_free.ensures.among i h);
        settled = λ e i pending. absurd (done i pending);
      },
      done,
    )

pub returns-in_err-self-clause-kept : goal.returns-in_err-self-clause-kept
returns-in_err-self-clause-kept c =
    let unsettled : c.args.self.now.settled ≡ false = search rules in
    on_err _ c.from_residual.result
    (record {
      run = c.requires.run;
      logged = c.requires.logged;
      queued = λ i h. c.requires.queued i (c.pop_free.ensures.among i h);
      settled = λ e. absurd (false≢true (sym unsettled ∙ e));
    })

pub returns-clause-found : goal.returns-clause-found
returns-clause-found c =
    let old = c.args.self.now in
    let j = job_of old in
    let t = told_of old in
    let exact : (i : Item) → Contains c.in_ok-self.field-0 i ↔ IsAsked j t.given i = search rules in
    let popped = c.pop_free-2.ensures in
    if_some _ c.pop_free-2.result
    (λ i e. record {
      run = c.requires.run;
      logged = c.requires.logged;
      queued = λ k h. (exact k).0 (popped.among k h);
      pending = free_pending j t (events_of old) i ((exact i).0 (popped.holds i e).1) (popped.holds i e).0;
      left = λ settled k pending.
          elim (popped.left k ((exact k).1 pending.asked) (pending_free j t (events_of old) k pending))
          [ inl f ↦ inl (same_Some i k (sym e ∙ f)) | inr there ↦ inr there ];
    })

pub returns-clause-none : goal.returns-clause-none
returns-clause-none c =
    let old = c.args.self.now in
    let j = job_of old in
    let t = told_of old in
    let exact : (i : Item) → Contains c.in_ok-self.field-0 i ↔ IsAsked j t.given i = search rules in
    let popped = c.pop_free-2.ensures in
    if_none _ c.pop_free-2.result
    (λ none.
    let done = exhausted j t (events_of old) c.in_ok-self.field-0 c.pop_free-2.new.items c.pop_free-2.result popped
    none (λ i pending. (exact i).1 pending.asked) in (
      record {
        run = c.requires.run;
        logged = c.requires.logged;
        queued = λ k h. (exact k).0 (popped.among k h);
        settled = λ e i pending. absurd (done i pending);
      },
      done,
    ))
