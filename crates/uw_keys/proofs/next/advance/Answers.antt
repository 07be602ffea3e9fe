use Rattle.std.proofs.Common.{◌≡◌, ℕ, ◌≤◌, ◌<◌, List, length, sym, ap, subst, ◌∙◌, arith}
use Rattle.std.specs.declared.cmp.Ordering.TheVariants.{Less}
use Rattle.uw_keys.specs.declared.interval.Interval.{Interval}
use Rattle.uw_keys.specs.declared.key.Key.{Key}
use Rattle.uw_keys.specs.Intervals.{AreNested, Cover}
use Rattle.uw_keys.specs.Keys.{IsKeyOf, AreWithin, counters_after, key_after}
use Rattle.uw_keys.specs.Order.{key_order}
use Rattle.uw_keys.proofs.RiseLemmas.{transfer_rises, transfer_keeps}
use Rattle.uw_keys.proofs.StepLemmas.{always, held_counter, advance_more, advance_end}
use Rattle.uw_keys.proofs.next.advance.Goals as goal

-- an interval to read where a place is past the end
abbrev nowhere : Interval
nowhere = record { target = 0; end = 0 }

pub moved-requires : goal.moved-requires
moved-requires c =
    let lt : c.loop-place.place < length c.args.intervals.now =
    omega (arith, ap length c.as_slice-interval-items.ensures.value) in
    rw c.as_slice-held.ensures
    (held_counter (always c.args.unwind) c.args.intervals.now c.args.from c.args.to c.args.key.now.counters
    c.loop-place.place c.loop-place.counters c.loop-place.invariant nowhere lt c.requires.key.counted)

pub loop-place-preserved : goal.loop-place-preserved
loop-place-preserved c =
    let lt : c.loop-place.place < length c.args.intervals.now =
    omega (arith, ap length c.as_slice-interval-items.ensures.value) in
    let count = rw (c.as_slice-held.ensures, c.as_slice-interval-items.ensures.value) at c.in-Some.ensures.found.0 in
    rw c.in_ok-add-in-Some.ensures.ok
    (advance_more (always c.args.unwind) c.args.intervals.now c.args.from c.args.to c.args.key.now.counters
    c.loop-place.place c.loop-place.counters c.loop-place.invariant nowhere lt c.requires.key.counted c.in-Some.count
    count c.in-Some.ensures.found.1)

-- the key that was made is the key behind the transfer
module _ (is : List Interval) (key : Key) (a b : ℕ) (from : key.pc ≡ a) (counters : List ℕ)
    (end : counters ≡ counters_after a b is key.counters) where
  made : record { pc = b; counters = counters } ≡ key_after is key b
  made =
      let same : counters ≡ counters_after key.pc b is key.counters =
      end ∙ ap (λ (pc : ℕ). counters_after pc b is key.counters) (sym from) in
      λ k. record { pc = b; counters = same k }

  made_of : IsKeyOf is key → IsKeyOf is record { pc = b; counters = counters }
  made_of of = subst (λ (next : Key). IsKeyOf is next) (sym made) (transfer_keeps is key b of)

  made_rises : (limit : ℕ → ℕ) → AreNested is → IsKeyOf is key → Cover is a b → AreWithin limit is key.counters
      → key_order limit is key record { pc = b; counters = counters } ≡ Less
  made_rises limit nested of cover within =
      subst (λ (next : Key). key_order limit is key next ≡ Less) (sym made)
      (transfer_rises limit is key b nested of (subst (λ (pc : ℕ). Cover is pc b) (sym from) cover) within)

pub returns-clause-of : goal.returns-clause-of
returns-clause-of c =
    let past : length c.args.intervals.now ≤ c.loop-place.place =
    omega (arith, ap length c.as_slice-interval-items.ensures.value) in
    let end = advance_end (always c.args.unwind) c.args.intervals.now c.args.from c.args.to c.args.key.now.counters
    c.loop-place.place c.loop-place.counters c.loop-place.invariant past in
    made_of c.args.intervals.now c.args.key.now c.args.from c.args.to c.requires.from c.loop-place.counters end.0
    c.requires.key

pub returns-clause-rises : goal.returns-clause-rises
returns-clause-rises c =
    let past : length c.args.intervals.now ≤ c.loop-place.place =
    omega (arith, ap length c.as_slice-interval-items.ensures.value) in
    let end = advance_end (always c.args.unwind) c.args.intervals.now c.args.from c.args.to c.args.key.now.counters
    c.loop-place.place c.loop-place.counters c.loop-place.invariant past in
    made_rises c.args.intervals.now c.args.key.now c.args.from c.args.to c.requires.from c.loop-place.counters end.0
    (always c.args.unwind) c.as_slice-interval-items.ensures.nested c.requires.key c.requires.transfer
    c.requires.within
