-- The order of keys.
use Rattle.std.specs.Prelude.{ℕ, ◌+◌, nat_le, nat_lt, if◌then◌else◌, List, [], ◌∷◌}
use Rattle.std.specs.Ordering.{nat_cmp}
use Rattle.std.specs.declared.cmp.Ordering.{Ordering}
use Rattle.std.specs.Cmp.Lexicographic.{slice_cmp}
use Rattle.uw_keys.specs.declared.interval.Interval.{Interval}
use Rattle.uw_keys.specs.declared.key.Key.{Key}

-- how far a pc with a counter is in an interval: not in it yet, at one of its rounds, or behind it
abbrev pub phase : ℕ → Interval → ℕ → ℕ → ℕ
phase limit i pc c = if nat_lt pc i.target then 0 else (if nat_le pc i.end then c else limit + 1)

-- the phases for the limits of the targets, in the order of the targets, and then the pc
abbrev pub ranks : (ℕ → ℕ) → List Interval → ℕ → List ℕ → List ℕ
ranks limit [] pc counters = pc ∷ []
ranks limit (i ∷ is) pc [] = pc ∷ []
ranks limit (i ∷ is) pc (c ∷ cs) = phase (limit i.target) i pc c ∷ ranks limit is pc cs

-- the first phase that differs decides, and then the pc
abbrev pub key_order : (ℕ → ℕ) → List Interval → Key → Key → Ordering
key_order limit is a b = slice_cmp nat_cmp (ranks limit is a.pc a.counters) (ranks limit is b.pc b.counters)
