-- What holds of the order of keys, for all limits of the targets.
use Rattle.std.specs.Prelude.{◌≡◌, ℕ, List}
use Rattle.std.specs.Ordering.{ordering_reverse}
use Rattle.std.specs.declared.cmp.Ordering.TheVariants.{Less, Equal}
use Rattle.uw_keys.specs.declared.interval.Interval.{Interval}
use Rattle.uw_keys.specs.declared.key.Key.{Key}
use Rattle.uw_keys.specs.Intervals.{AreNested, AreIntervals, Cover}
use Rattle.uw_keys.specs.Keys.{IsKeyOf, AreWithin, key_after}
use Rattle.uw_keys.specs.Order.{key_order}

-- two keys compare in one way or the other
abbrev pub OrderReversed : Type 0
OrderReversed = (limit : ℕ → ℕ) (is : List Interval) (a b : Key)
    → key_order limit is a b ≡ ordering_reverse (key_order limit is b a)

-- what is less than a lesser one is less
abbrev pub OrderTransitive : Type 0
OrderTransitive = (limit : ℕ → ℕ) (is : List Interval) (a b c : Key) → key_order limit is a b ≡ Less
    → key_order limit is b c ≡ Less → key_order limit is a c ≡ Less

-- keys that compare as equal are the same
abbrev pub OrderExact : Type 0
OrderExact = (limit : ℕ → ℕ) (is : List Interval) (a b : Key) → IsKeyOf is a → IsKeyOf is b
    → key_order limit is a b ≡ Equal → a ≡ b

-- the limits do not matter, as long as no counter is above its own
abbrev pub OrderForAllLimits : Type 0
OrderForAllLimits = (limit other : ℕ → ℕ) (is : List Interval) (a b : Key) → IsKeyOf is a → IsKeyOf is b
    → AreWithin limit is a.counters → AreWithin limit is b.counters
    → AreWithin other is a.counters → AreWithin other is b.counters
    → key_order limit is a b ≡ key_order other is a b

-- a transfer leads from a key whose counters are within their limits to a greater key
abbrev pub TransferRises : Type 0
TransferRises = (limit : ℕ → ℕ) (is : List Interval) (key : Key) (b : ℕ) → AreNested is → IsKeyOf is key
    → Cover is key.pc b → AreWithin limit is key.counters → key_order limit is key (key_after is key b) ≡ Less

-- and to a key of the same intervals
abbrev pub TransferKeeps : Type 0
TransferKeeps = (is : List Interval) (key : Key) (b : ℕ) → IsKeyOf is key → IsKeyOf is (key_after is key b)

-- transfers have one list of intervals at most
abbrev pub OneList : Type 0
OneList = (transfers : List (ℕ × ℕ)) (first second : List Interval) → AreIntervals transfers first
    → AreIntervals transfers second → first ≡ second
