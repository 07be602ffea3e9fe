-- Keys of a frame: its pc, and for each interval how often the frame went back to its target.
use Rattle.std.specs.Prelude.{◌≡◌, ℕ, ◌+◌, ◌≤◌, false, ◌&&◌, nat_le, nat_eq, if◌then◌else◌, List, [], ◌∷◌, length, replicate}
use Rattle.uw_keys.specs.declared.interval.Interval.{Interval}
use Rattle.uw_keys.specs.declared.key.Key.{Key}
use Rattle.uw_keys.specs.Intervals.{holds}

-- the counters of intervals that do not hold the pc are 0
abbrev pub AreIdle : List Interval → ℕ → List ℕ → Type 0
AreIdle [] pc counters = Unit {0}
AreIdle (i ∷ is) pc [] = Unit {0}
AreIdle (i ∷ is) pc (c ∷ cs) = (holds i pc ≡ false → c ≡ 0) × AreIdle is pc cs

-- a key has a counter for each interval, and those of the intervals that do not hold its pc are 0
pub record IsKeyOf (is : List Interval) (key : Key) : Type 0 where
  pub counted : length key.counters ≡ length is
  pub idle : AreIdle is key.pc key.counters

-- no counter is above the limit of its target
abbrev pub AreWithin : (ℕ → ℕ) → List Interval → List ℕ → Type 0
AreWithin limit [] counters = Unit {0}
AreWithin limit (i ∷ is) [] = Unit {0}
AreWithin limit (i ∷ is) (c ∷ cs) = (c ≤ limit i.target) × AreWithin limit is cs

-- a transfer from a to b: the counter of b rises by one where it goes back; then those of the intervals that do not hold b are 0
abbrev pub counter_after : ℕ → ℕ → Interval → ℕ → ℕ
counter_after a b i c = if holds i b then (if nat_eq i.target b && nat_le b a then c + 1 else c) else 0

abbrev pub counters_after : ℕ → ℕ → List Interval → List ℕ → List ℕ
counters_after a b [] counters = []
counters_after a b (i ∷ is) [] = []
counters_after a b (i ∷ is) (c ∷ cs) = counter_after a b i c ∷ counters_after a b is cs

-- the key behind a transfer to b
abbrev pub key_after : List Interval → Key → ℕ → Key
key_after is key b = record { pc = b; counters = counters_after key.pc b is key.counters }

-- the key of a frame at its start
abbrev pub start_of : List Interval → Key
start_of is = record { pc = 0; counters = replicate (length is) 0 }
