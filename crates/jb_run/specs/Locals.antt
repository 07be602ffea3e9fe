-- The locals of a frame (2.6.1), which are lists that grow where a local past the end is written.
use Rattle.std.specs.Prelude.{ℕ, ◌+◌, ◌-◌, List, ◌++◌, length, replicate, slice_get, slice_set, Option, Some, None}

-- what a local holds, which is nothing past the end of the list
abbrev pub held : {A : Type 0} → Option (Option A) → Option A
held None = None
held (Some local) = local

abbrev pub local_at : {A : Type 0} → List (Option A) → ℕ → Option A
local_at locals index = held (slice_get locals index)

-- the locals with one more at the end that hold nothing, as far as there is one at an index
abbrev pub with_room : {A : Type 0} → List (Option A) → ℕ → List (Option A)
with_room locals index = locals ++ replicate (index + 1 - length locals) None

-- the locals where one of them is written
abbrev pub with_local : {A : Type 0} → List (Option A) → ℕ → A → List (Option A)
with_local locals index value = slice_set (with_room locals index) index (Some value)
