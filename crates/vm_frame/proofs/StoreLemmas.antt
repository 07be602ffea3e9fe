-- Locals that grow, and what is read back after a store.
use Rattle.std.proofs.Common.{◌≡◌, ◌≢◌, ◌⊎◌, ◌+◌, ◌-◌, ◌<◌, ◌≤◌, ℕ, zero, suc, Bool, true, false, List, [], ◌∷◌, ◌++◌}
use Rattle.std.proofs.Common.{length, replicate, Option, Some, None, refl, sym, ap, ◌∙◌}
use Rattle.std.proofs.Common.{append_assoc, length-append, arith}
use Rattle.std.proofs.Common.{inl, inr, length-set, if◌then◌else◌}
use Rattle.std.proofs.lemmas.Bool.{cases_eq}
use Rattle.std.specs.Prelude.{slice_set}
use Rattle.std.proofs.lemmas.List.{length-replicate}
use Rattle.jv_base.specs.declared.value.Value.{Value}
use Rattle.jv_base.specs.declared.value.Value.TheVariants.{Int, Long, Ref}
use Rattle.vm_frame.specs.Operands.{is_long}
use Rattle.vm_frame.specs.Locals.{held, local_at, width, with_room, holds_long, ended, written, stored}
use Rattle.jv_list.proofs.PlaceLemmas.{slice_get-set_same, slice_get-set_other}

-- a local that holds nothing is one of those that are added
pub room_more : (locals : List (Option Value)) (count : ℕ) → length locals < count
    → with_room (locals ++ None ∷ []) count ≡ with_room locals count
room_more locals count short =
    let one : count - length locals ≡ suc (count - length (locals ++ None ∷ [])) =
    omega (arith, length-append locals (None ∷ [])) in
    append_assoc locals (None ∷ []) (replicate (count - length (locals ++ None ∷ [])) None)
    ∙ ap (λ (n : ℕ). locals ++ replicate n None) (sym one)

nothing_at : (n k : ℕ) → local_at (replicate n None) k ≡ None
nothing_at zero k = refl
nothing_at (suc n) zero = refl
nothing_at (suc n) (suc k) = nothing_at n k

more_at : (locals : List (Option Value)) (n k : ℕ) → local_at (locals ++ replicate n None) k ≡ local_at locals k
more_at [] n k = nothing_at n k
more_at (x ∷ xs) n zero = refl
more_at (x ∷ xs) n (suc k) = more_at xs n k

-- room changes no local
pub room_at : (locals : List (Option Value)) (count k : ℕ) → local_at (with_room locals count) k ≡ local_at locals k
room_at locals count k = more_at locals (count - length locals) k

pub room_size : (locals : List (Option Value)) (count : ℕ) → count ≤ length (with_room locals count)
room_size locals count =
    let nothing : Option Value = None in
    let n = count - length locals in
    omega (arith, length-append locals (replicate n nothing), length-replicate n nothing)

-- ---- one local that is given another content

set_same : (l : List (Option Value)) (i : ℕ) (c : Option Value) → i < length l → local_at (slice_set l i c) i ≡ c
set_same l i c lt = ap held (slice_get-set_same l i c lt)

set_other : (l : List (Option Value)) (i k : ℕ) (c : Option Value) → k ≢ i
    → local_at (slice_set l i c) k ≡ local_at l k
set_other l i k c other = ap held (slice_get-set_other l i k c other)

-- a local that holds something is in the list
pub in_list : (l : List (Option Value)) (i : ℕ) (v : Value) → local_at l i ≡ Some v → i < length l
in_list [] i v e = absurd cc
in_list (x ∷ xs) zero v e = omega arith
in_list (x ∷ xs) (suc i) v e = omega (arith, in_list xs i v e)

-- ---- a long that ends

size_if : (b : Bool) (l : List (Option Value)) (i : ℕ) → length (if b then slice_set l i None else l) ≡ length l
size_if true l i = length-set l i None
size_if false l i = refl

pub ended_size : (index : ℕ) (l : List (Option Value)) → length (ended index l) ≡ length l
ended_size zero l = refl
ended_size (suc before) l = size_if (holds_long (local_at l before)) l before

ended_if : (b : Bool) (l : List (Option Value)) (i k : ℕ) → (k ≢ i) ⊎ (b ≡ false)
    → local_at (if b then slice_set l i None else l) k ≡ local_at l k
ended_if true l i k (inl other) = set_other l i k None other
ended_if true l i k (inr short) = absurd cc
ended_if false l i k or = refl

before_other : (before k : ℕ) (l : List (Option Value)) → (k + 1 ≢ suc before) ⊎ (holds_long (local_at l k) ≡ false)
    → (k ≢ before) ⊎ (holds_long (local_at l before) ≡ false)
before_other before k l (inl other) = inl (omega arith)
before_other before k l (inr short) = elim (cases_eq k before) [
  | inl same ↦ inr (ap (λ (i : ℕ). holds_long (local_at l i)) (sym same) ∙ short)
  | inr other ↦ inl other
]

-- each other local is kept
pub ended_other : (index k : ℕ) (l : List (Option Value)) → (k + 1 ≢ index) ⊎ (holds_long (local_at l k) ≡ false)
    → local_at (ended index l) k ≡ local_at l k
ended_other zero k l or = refl
ended_other (suc before) k l or = ended_if (holds_long (local_at l before)) l before k (before_other before k l or)

half_if : (b : Bool) (l : List (Option Value)) (i : ℕ) → b ≡ true → i < length l
    → local_at (if b then slice_set l i None else l) i ≡ None
half_if true l i e lt = set_same l i None lt
half_if false l i e lt = absurd cc

held_in : (l : List (Option Value)) (i : ℕ) (o : Option Value) → local_at l i ≡ o → holds_long o ≡ true → i < length l
held_in l i None e long = absurd cc
held_in l i (Some v) e long = in_list l i v e

-- half a long holds nothing
pub ended_half : (before : ℕ) (l : List (Option Value)) → holds_long (local_at l before) ≡ true
    → local_at (ended (suc before) l) before ≡ None
ended_half before l long =
    half_if (holds_long (local_at l before)) l before long (held_in l before (local_at l before) refl long)

-- ---- a value that is written

pub written_same : (index : ℕ) (v : Value) (l : List (Option Value)) → index + width v ≤ length l
    → local_at (written index v l) index ≡ Some v
written_same index (Int n) l fits = set_same l index (Some (Int n)) (omega arith)
written_same index (Ref r) l fits = set_same l index (Some (Ref r)) (omega arith)
written_same index (Long n) l fits =
    set_other (slice_set l index (Some (Long n))) (index + 1) index None (omega arith)
    ∙ set_same l index (Some (Long n)) (omega arith)

pub written_second : (index : ℕ) (v : Value) (l : List (Option Value)) → index + width v ≤ length l
    → is_long v ≡ true → local_at (written index v l) (index + 1) ≡ None
written_second index (Int n) l fits long = absurd cc
written_second index (Ref r) l fits long = absurd cc
written_second index (Long n) l fits long =
    set_same (slice_set l index (Some (Long n))) (index + 1) None
    (omega (arith, length-set l index (Some (Long n))))

pub written_other : (index k : ℕ) (v : Value) (l : List (Option Value)) → k ≢ index
    → (k ≢ index + 1) ⊎ (is_long v ≡ false) → local_at (written index v l) k ≡ local_at l k
written_other index k (Int n) l other or = set_other l index k (Some (Int n)) other
written_other index k (Ref r) l other or = set_other l index k (Some (Ref r)) other
written_other index k (Long n) l other (inl beyond) =
    set_other (slice_set l index (Some (Long n))) (index + 1) k None beyond
    ∙ set_other l index k (Some (Long n)) other
written_other index k (Long n) l other (inr short) = absurd cc

-- ---- a store

pub room_left : (locals : List (Option Value)) (index : ℕ) (v : Value)
    → index + width v ≤ length (ended index (with_room locals (index + width v)))
room_left locals index v =
    omega (arith, ended_size index (with_room locals (index + width v)), room_size locals (index + width v))

pub store_is_read : (locals : List (Option Value)) (index : ℕ) (v : Value)
    → local_at (stored locals index v) index ≡ Some v
store_is_read locals index v =
    written_same index v (ended index (with_room locals (index + width v))) (room_left locals index v)

pub second_is_nothing : (locals : List (Option Value)) (index : ℕ) (v : Value) → is_long v ≡ true
    → local_at (stored locals index v) (index + 1) ≡ None
second_is_nothing locals index v long =
    written_second index v (ended index (with_room locals (index + width v))) (room_left locals index v) long

pub half_a_long_ends : (locals : List (Option Value)) (index : ℕ) (v : Value)
    → holds_long (local_at locals index) ≡ true
    → local_at (stored locals (index + 1) v) index ≡ None
half_a_long_ends locals index v long =
    let room = with_room locals (index + 1 + width v) in
    let next : index + 1 ≡ suc index = omega arith in
    let below : index ≢ index + 1 = omega arith in
    let beyond : index ≢ index + 1 + 1 = omega arith in
    let there : holds_long (local_at room index) ≡ true =
    ap holds_long (room_at locals (index + 1 + width v) index) ∙ long in
    written_other (index + 1) index v (ended (index + 1) room) below (inl beyond)
    ∙ ap (λ (i : ℕ). local_at (ended i room) index) next
    ∙ ended_half index room there

kept_or : (locals : List (Option Value)) (count index k : ℕ)
    → (k + 1 ≢ index) ⊎ (holds_long (local_at locals k) ≡ false)
    → (k + 1 ≢ index) ⊎ (holds_long (local_at (with_room locals count) k) ≡ false)
kept_or locals count index k (inl other) = inl other
kept_or locals count index k (inr short) = inr (ap holds_long (room_at locals count k) ∙ short)

pub others_are_kept : (locals : List (Option Value)) (index k : ℕ) (v : Value) → k ≢ index
    → (k ≢ index + 1) ⊎ (is_long v ≡ false) → (k + 1 ≢ index) ⊎ (holds_long (local_at locals k) ≡ false)
    → local_at (stored locals index v) k ≡ local_at locals k
others_are_kept locals index k v other second half =
    let room = with_room locals (index + width v) in
    written_other index k v (ended index room) other second
    ∙ ended_other index k room (kept_or locals (index + width v) index k half)
    ∙ room_at locals (index + width v) k
