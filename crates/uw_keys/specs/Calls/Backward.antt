-- What the functions that find intervals do. The lists of intervals are read from their end: in ascending order of the targets.
use Rattle.std.specs.Prelude.{◌≡◌, ◌⊎◌, ℕ, ◌≤◌, ◌<◌, Bool, nat_le, List, [], ◌∷◌, ◌++◌, Contains}
use Rattle.std.specs.Ordering.{nat_cmp, ordering_then}
use Rattle.std.specs.declared.cmp.Ordering.{Ordering}
use Rattle.uw_keys.specs.declared.interval.Interval.{Interval}
use Rattle.uw_keys.specs.Intervals.{Ascend}

-- a transfer goes back
abbrev pub goes_back : ℕ × ℕ → Bool
goes_back p = nat_le p.1 p.0

-- its target and its source
abbrev pub turned : ℕ × ℕ → ℕ × ℕ
turned p = (p.1, p.0)

-- by the target, then by the source
abbrev pub pair_order : ℕ × ℕ → ℕ × ℕ → Ordering
pair_order x y = ordering_then (nat_cmp x.0 y.0) (nat_cmp x.1 y.1)

-- the first has a target
abbrev pub BeginsAt : List Interval → ℕ → Type 0
BeginsAt [] t = ⊥
BeginsAt (i ∷ is) t = i.target ≡ t

-- the first begins behind a pc
abbrev pub BeginsBehind : List Interval → ℕ → Type 0
BeginsBehind [] pc = Unit {0}
BeginsBehind (i ∷ is) pc = pc < i.target

-- from a source on, intervals at the front are taken out as far as their ends reach, and nothing more
pub record Reaches (outer : List Interval) (source end : ℕ) (kept : List Interval) : Type 0 where
  pub taken : List Interval
  pub split : outer ≡ taken ++ kept
  pub not_before : source ≤ end
  pub inside : (i : Interval) → Contains taken i → i.end ≤ end
  pub behind : BeginsBehind kept end
  pub least : (bound : ℕ) → source ≤ bound
      → ((i : Interval) → Contains outer i → i.target ≤ bound → i.end ≤ bound) → end ≤ bound

-- a target with a source is taken in: there is nothing to do where the first has this target, else its interval comes to the front
pub record Takes (found outer : List Interval) (target source : ℕ) (found' outer' : List Interval) : Type 0 where
  pub cases : (BeginsAt found target × (found' ≡ found) × (outer' ≡ outer))
      ⊎ ((BeginsAt found target → ⊥)
      × ((end : ℕ) × (kept : List Interval) × Reaches outer source end kept
      × (found' ≡ record { target = target; end = end } ∷ found)
      × (outer' ≡ record { target = target; end = end } ∷ kept)))

-- the intervals of pairs of a target and a source
pub record Found (pairs : List (ℕ × ℕ)) (is : List Interval) : Type 0 where
  pub order : Ascend is
  pub sources : (t s : ℕ) → Contains pairs (t, s) → (i : Interval) × Contains is i × (i.target ≡ t) × (s ≤ i.end)
  pub targets : (i : Interval) → Contains is i → (s : ℕ) × Contains pairs (i.target, s)
  pub inner : (i j : Interval) → Contains is i → Contains is j → i.target ≤ j.target → j.target ≤ i.end → j.end ≤ i.end
  pub least : (end : ℕ → ℕ) → ((t s : ℕ) → Contains pairs (t, s) → s ≤ end t)
      → ((t s u r : ℕ) → Contains pairs (t, s) → Contains pairs (u, r) → t ≤ u → u ≤ end t → end u ≤ end t)
      → (i : Interval) → Contains is i → i.end ≤ end i.target
