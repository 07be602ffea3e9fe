-- What a transfer makes of a key.
use Rattle.std.specs.Prelude.{◌≡◌, ℕ, List}
use Rattle.uw_keys.specs.declared.interval.Interval.{Interval}
use Rattle.uw_keys.specs.declared.key.Key.{Key}
use Rattle.uw_keys.specs.declared.next.Next.{Next}
use Rattle.uw_keys.specs.declared.next.Next.TheVariants.{Key as At, Left}
use Rattle.uw_keys.specs.Keys.{AreWithin, counters_after, key_after}

-- the key behind the transfer, where no counter is above its limit then; else it leaves the bounds
abbrev pub IsNext : (ℕ → ℕ) → List Interval → Key → ℕ → Next → Type 0
IsNext limit is key b (At next) = (next ≡ key_after is key b) × AreWithin limit is next.counters
IsNext limit is key b Left = AreWithin limit is (counters_after key.pc b is key.counters) → ⊥

-- where there is a key, it is so
abbrev pub IfKey : Next → (Key → Type 0) → Type 0
IfKey (At next) P = P next
IfKey Left P = Unit {0}
