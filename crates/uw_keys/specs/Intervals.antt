-- Backward transfers between the pcs of one method, and the intervals of their targets.
use Rattle.std.specs.Prelude.{◌≡◌, ◌↔◌, ℕ, ◌≤◌, ◌<◌, Bool, ◌&&◌, nat_le, nat_eq, if◌then◌else◌, List, [], ◌∷◌, map, Contains}
use Rattle.uw_keys.specs.declared.interval.Interval.{Interval}

-- a pc is in an interval
abbrev pub holds : Interval → ℕ → Bool
holds i pc = nat_le i.target pc && nat_le pc i.end

-- a pc is the target of a backward transfer, one that leads to its own pc or to an earlier one
pub record IsTarget (transfers : List (ℕ × ℕ)) (t : ℕ) : Type 0 where
  pub source : ℕ
  pub back : t ≤ source
  pub among : Contains transfers (source, t)

-- an end for each target: not before a source of a backward transfer to it, and not before the end of a target that is between the
-- target and its end
pub record AreEnds (transfers : List (ℕ × ℕ)) (end : ℕ → ℕ) : Type 0 where
  pub sources : (s t : ℕ) → Contains transfers (s, t) → t ≤ s → s ≤ end t
  pub inner : (t u : ℕ) → IsTarget transfers t → IsTarget transfers u → t ≤ u → u ≤ end t → end u ≤ end t

-- the target of each is before those of all that stand behind it
abbrev pub Ascend : List Interval → Type 0
Ascend [] = Unit {0}
Ascend (i ∷ is) = ((j : Interval) → Contains is j → i.target < j.target) × Ascend is

abbrev pub target_of : Interval → ℕ
target_of i = i.target

-- the end that a list of intervals gives a target
abbrev pub end_at : List Interval → ℕ → ℕ
end_at [] t = 0
end_at (i ∷ is) t = if nat_eq i.target t then i.end else end_at is t

-- the intervals of transfers: one for each target, in ascending order, with the least ends that there can be
pub record AreIntervals (transfers : List (ℕ × ℕ)) (is : List Interval) : Type 0 where
  pub targets : (t : ℕ) → IsTarget transfers t ↔ Contains (map target_of is) t
  pub order : Ascend is
  pub ends : AreEnds transfers (end_at is)
  pub least : (end : ℕ → ℕ) → AreEnds transfers end → (t : ℕ) → IsTarget transfers t → end_at is t ≤ end t

-- what every value of `Intervals` keeps: the targets ascend, and an interval that begins in another ends in it
pub record AreNested (is : List Interval) : Type 0 where
  pub order : Ascend is
  pub inner : (i j : Interval) → Contains is i → Contains is j → i.target ≤ j.target → j.target ≤ i.end → j.end ≤ i.end

-- the intervals allow for a transfer: where it goes back, the interval of its target holds its source
abbrev pub Cover : List Interval → ℕ → ℕ → Type 0
Cover is a b = b ≤ a → (i : Interval) × Contains is i × (i.target ≡ b) × (a ≤ i.end)
