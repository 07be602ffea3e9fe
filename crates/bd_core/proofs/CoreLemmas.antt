-- What the calls of a core leave.
use Rattle.std.proofs.Common.{◌≡◌, ℕ, List, [], ◌∷◌, ◌++◌, Option, Some, None, Contains, inl, inr}
use Rattle.std.proofs.Common.{refl, sym, ◌∙◌}
use Rattle.std.specs.Prelude.{IfSome, IfNone, OnErr, Result, Ok, Err}
use Rattle.std.proofs.lemmas.Option.{none-some}
use Rattle.bd_core.specs.declared.item.Item.{Item}
use Rattle.bd_core.specs.declared.item.Event.{Event}
use Rattle.bd_core.specs.declared.item.Event.TheVariants.{Take}
use Rattle.bd_core.specs.declared.job.Job.{Job}
use Rattle.bd_core.specs.Told.{Told}
use Rattle.bd_core.specs.Runs.{IsAsked, IsPending, IsExhausted, holder}
use Rattle.bd_core.specs.Calls.Queues.{IsFree, IsPopped}
use Rattle.bd_core.proofs.RunLemmas.{items_refl, updated_same, holder_after}

-- an item of the queue that is free is pending, and a pending one is free
pub free_pending : (j : Job) (t : Told) (events : List Event) (i : Item) → IsAsked j t.given i → IsFree t events i
    → IsPending j t events i
free_pending j t events i asked free =
    record { asked = asked; not_held = free.not_held; not_given = free.not_given }

pub pending_free : (j : Job) (t : Told) (events : List Event) (i : Item) → IsPending j t events i → IsFree t events i
pending_free j t events i pending = record { not_held = pending.not_held; not_given = pending.not_given }

-- the worker that took an item has it
pub taken_held : (events : List Event) (worker : ℕ) (item : Item)
    → holder (events ++ Take worker item ∷ []) item ≡ Some worker
taken_held events worker item =
    holder_after events (Take worker item) item ∙ updated_same (holder events) item item (Some worker) (items_refl item)

-- where nothing was popped, and all that is pending was in the queue, nothing is pending
pub exhausted : (j : Job) (t : Told) (events : List Event) (queue new : List Item) (o : Option Item)
    → IsPopped (IsFree t events) queue o new → o ≡ None
    → ((i : Item) → IsPending j t events i → Contains queue i) → IsExhausted j t events
exhausted j t events queue new o popped none covered i pending =
    elim (popped.left i (covered i pending) (pending_free j t events i pending))
    [ inl e ↦ none-some i (sym none ∙ e) | inr there ↦ popped.none none i there ]

-- by cases of an answer
pub if_some : {A : Type 0} (P : A → Type 0) (o : Option A) → ((a : A) → o ≡ Some a → P a) → IfSome o P
if_some P None h = tt
if_some P (Some a) h = h a refl

pub if_none : {A : Type 0} (P : Type 0) (o : Option A) → (o ≡ None → P) → IfNone o P
if_none P None h = h refl
if_none P (Some a) h = tt

pub on_err : {A E : Type 0} (P : Type 0) (r : Result A E) → P → OnErr r P
on_err P (Ok a) p = tt
on_err P (Err e) p = p
