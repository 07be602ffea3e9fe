use Rattle.std.proofs.Common.{◌≡◌, ◌<◌, length, refl, ap, ◌∙◌, arith, true, false, not}
use Rattle.std.specs.declared.cmp.Ordering.{Ordering}
use Rattle.std.specs.declared.cmp.Ordering.TheVariants.{Less, Equal, Greater}
use Rattle.std.specs.Ordering.{ordering_index}
use Rattle.std.specs.Prelude.{◌==◌}
use Rattle.uw_keys.specs.declared.interval.Interval.{Interval}
use Rattle.uw_keys.proofs.CompareLemmas.{order_decided, order_left}
use Rattle.uw_keys.proofs.order.compare.Goals as goal

-- an interval to read where a place is past the end
abbrev nowhere : Interval
nowhere = record { target = 0; end = 0 }

-- what a test for equality has told of an order
differs : (o : Ordering) → true ≡ not (ordering_index o == 1) → o ≡ Equal → ⊥
differs o told e = let no : true ≡ false = told ∙ ap (λ (p : Ordering). not (ordering_index p == 1)) e in cc

same : (o : Ordering) → false ≡ not (ordering_index o == 1) → o ≡ Equal
same Less told = absurd cc
same Equal told = refl
same Greater told = absurd cc

pub returns-then-ne : goal.returns-then-ne
returns-then-ne c =
    let lt : c.loop-place.place < length c.args.intervals.now =
    omega (arith, ap length c.as_slice-interval-items.ensures.value) in
    let order = rw (c.as_slice-first.ensures, c.as_slice-second.ensures, c.as_slice-interval-items.ensures.value)
    at c.compare_at-order.ensures in
    record {
      order = order_decided c.args.intervals.now c.args.a.now.pc c.args.b.now.pc c.args.a.now.counters
          c.args.b.now.counters c.loop-place.place nowhere lt c.requires.a.counted c.requires.b.counted
          c.loop-place.invariant c.compare_at-order.result order (differs c.compare_at-order.result c.if-ne.ensures);
    }

pub loop-place-preserved : goal.loop-place-preserved
loop-place-preserved c =
    let lt : c.loop-place.place < length c.args.intervals.now =
    omega (arith, ap length c.as_slice-interval-items.ensures.value) in
    let order = rw (c.as_slice-first.ensures, c.as_slice-second.ensures, c.as_slice-interval-items.ensures.value)
    at c.compare_at-order.ensures in
    order_left c.args.intervals.now c.args.a.now.pc c.args.b.now.pc c.args.a.now.counters
    c.args.b.now.counters c.loop-place.place nowhere lt c.requires.a.counted c.requires.b.counted
    c.loop-place.invariant c.compare_at-order.result order (same c.compare_at-order.result c.if-ne.ensures)
