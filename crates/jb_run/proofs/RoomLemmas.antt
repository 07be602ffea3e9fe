-- Locals that grow, and what is read back.
use Rattle.std.proofs.Common.{◌≡◌, ◌+◌, ◌-◌, ◌<◌, ◌≤◌, ℕ, zero, suc, List, [], ◌∷◌, ◌++◌, length, replicate}
use Rattle.std.proofs.Common.{Option, Some, None, refl, sym, ap, ◌∙◌, append_assoc, length-append, arith}
use Rattle.std.proofs.lemmas.List.{length-replicate}
use Rattle.jb_run.specs.Locals.{held, local_at, with_room, with_local}
use Rattle.jv_list.proofs.PlaceLemmas.{slice_get-set_same, slice_get-set_other}

-- a local that holds nothing is one of those that are added
pub room_more : {A : Type 0} → (locals : List (Option A)) (index : ℕ) → length locals ≤ index
    → with_room (locals ++ None ∷ []) index ≡ with_room locals index
room_more {A} locals index short =
    let count : index + 1 - length locals ≡ suc (index + 1 - length (locals ++ None ∷ [])) =
    omega (arith, length-append locals (None ∷ [])) in
    append_assoc locals (None ∷ []) (replicate (index + 1 - length (locals ++ None ∷ [])) None)
    ∙ ap (λ n. locals ++ replicate n None) (sym count)

nothing_at : {A : Type 0} → (n k : ℕ) → local_at {A = A} (replicate n None) k ≡ None
nothing_at zero k = refl
nothing_at (suc n) zero = refl
nothing_at (suc n) (suc k) = nothing_at n k

more_at : {A : Type 0} → (locals : List (Option A)) (n k : ℕ)
    → local_at (locals ++ replicate n None) k ≡ local_at locals k
more_at [] n k = nothing_at n k
more_at (x ∷ xs) n zero = refl
more_at (x ∷ xs) n (suc k) = more_at xs n k

-- a local that was written holds what was written
pub with_local_same : {A : Type 0} → (locals : List (Option A)) (index : ℕ) (value : A)
    → local_at (with_local locals index value) index ≡ Some value
with_local_same {A} locals index value =
    let nothing : Option A = None in
    let count = index + 1 - length locals in
    let room : index < length (with_room locals index) =
    omega (arith, length-append locals (replicate count nothing), length-replicate count nothing) in
    ap held (slice_get-set_same (with_room locals index) index (Some value) room)

-- and the others hold what they held
pub with_local_other : {A : Type 0} → (locals : List (Option A)) (index k : ℕ) (value : A) → (k ≡ index → ⊥)
    → local_at (with_local locals index value) k ≡ local_at locals k
with_local_other {A} locals index k value other =
    ap held (slice_get-set_other (with_room locals index) index k (Some value) other)
    ∙ more_at locals (index + 1 - length locals) k
