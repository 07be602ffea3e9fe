-- A transfer leads to a greater key.
use Rattle.std.proofs.Common.{◌≡◌, ℕ, suc, ◌≤◌, ◌<◌, List, [], ◌∷◌, length, Contains, replicate}
use Rattle.std.proofs.Common.{refl, sym, ap, ◌∙◌, subst, inl, inr, nat_cmp, arith}
use Rattle.std.proofs.lemmas.Bool.{cases_lt}
use Rattle.std.proofs.lemmas.Bool.Decides.{nat_tests}
use Rattle.std.proofs.lemmas.List.{length-replicate}
use Rattle.std.specs.Cmp.Lexicographic.{slice_cmp}
use Rattle.std.specs.Ordering.{ordering_then}
use Rattle.std.specs.declared.cmp.Ordering.{Ordering}
use Rattle.std.specs.declared.cmp.Ordering.TheVariants.{Less, Equal}
use Rattle.jv_list.proofs.MemberLemmas.{none_member, member_cases, first_member}
use Rattle.uw_keys.specs.declared.interval.Interval.{Interval}
use Rattle.uw_keys.specs.Intervals.{Ascend}
use Rattle.uw_keys.specs.Keys.{IsKeyOf, AreWithin, AreIdle, counter_after, counters_after, start_of}
use Rattle.uw_keys.specs.Order.{phase, ranks}
use Rattle.jv_list.proofs.MemberLemmas.{later_member}
use Rattle.uw_keys.specs.Laws.{TransferRises, TransferKeeps}

-- a comparison of parts
less_first : (x y : ℕ) (o : Ordering) → x < y → ordering_then (nat_cmp x y) o ≡ Less
less_first x y o h = let e : nat_cmp x y ≡ Less = grind (arith, nat_tests) in ap (λ (p : Ordering). ordering_then p o) e

less_later : (x y : ℕ) (o : Ordering) → x ≤ y → o ≡ Less → ordering_then (nat_cmp x y) o ≡ Less
less_later x y o h e =
    elim (cases_lt x y) [
      | inl less ↦ less_first x y o less
      | inr more ↦
          let same : nat_cmp x y ≡ Equal = grind (arith, nat_tests) in
          ap (λ (p : Ordering). ordering_then p o) same ∙ e
    ]

-- the phase in an interval after a transfer that goes on, after one that goes back to its target, and after one that
-- goes back to a later target
module _ (l : ℕ) (i : Interval) (a b c : ℕ) where
  phase_forward : a < b → c ≤ l → phase l i a c ≤ phase l i b (counter_after a b i c)
  phase_forward less within = grind (arith, nat_tests)

  phase_of_target : b ≤ a → i.target ≡ b → a ≤ i.end → phase l i a c < phase l i b (counter_after a b i c)
  phase_of_target back is inside = grind (arith, nat_tests)

  phase_around : b ≤ a → i.target < b → (b ≤ i.end → a ≤ i.end)
      → phase l i a c ≤ phase l i b (counter_after a b i c)
  phase_around back before inside = grind (arith, nat_tests)

rise_forward : (limit : ℕ → ℕ) (is : List Interval) (a b : ℕ) (cs : List ℕ) → a < b → length cs ≡ length is
    → AreWithin limit is cs
    → slice_cmp nat_cmp (ranks limit is a cs) (ranks limit is b (counters_after a b is cs)) ≡ Less
rise_forward limit [] a b cs less n within = less_first a b Equal less
rise_forward limit (i ∷ is) a b [] less n within = absurd (omega arith)
rise_forward limit (i ∷ is) a b (c ∷ cs) less n within =
    less_later (phase (limit i.target) i a c) (phase (limit i.target) i b (counter_after a b i c))
    (slice_cmp nat_cmp (ranks limit is a cs) (ranks limit is b (counters_after a b is cs)))
    (phase_forward (limit i.target) i a b c less within.0)
    (rise_forward limit is a b cs less (omega arith) within.1)

rise_back : (limit : ℕ → ℕ) (is : List Interval) (a b : ℕ) (cs : List ℕ) (o : Interval) → b ≤ a → length cs ≡ length is
    → Ascend is → Contains is o → o.target ≡ b → a ≤ o.end
    → ((i : Interval) → Contains is i → i.target ≤ b → b ≤ i.end → a ≤ i.end)
    → slice_cmp nat_cmp (ranks limit is a cs) (ranks limit is b (counters_after a b is cs)) ≡ Less
rise_back limit [] a b cs o back n order among is-b inside around = absurd (none_member o among)
rise_back limit (i ∷ is) a b [] o back n order among is-b inside around = absurd (omega arith)
rise_back limit (i ∷ is) a b (c ∷ cs) o back n order among is-b inside around =
    let l : ℕ = limit i.target in
    let rest : Ordering = slice_cmp nat_cmp (ranks limit is a cs) (ranks limit is b (counters_after a b is cs)) in
    elim (member_cases i is o among) [
      | inl e ↦
          let target : i.target ≡ b = ap (λ (j : Interval). j.target) e ∙ is-b in
          let within : a ≤ i.end = subst (λ (j : Interval). a ≤ j.end) (sym e) inside in
          less_first (phase l i a c) (phase l i b (counter_after a b i c)) rest
          (phase_of_target l i a b c back target within)
      | inr more ↦
          let before : i.target < b = omega (arith, order.0 o more) in
          less_later (phase l i a c) (phase l i b (counter_after a b i c)) rest
          (phase_around l i a b c back before (around i (first_member i is) (omega arith)))
          (rise_back limit is a b cs o back (omega arith) order.1 more is-b inside
          (λ j h. around j (later_member i is j h)))
    ]

pub transfer_rises : TransferRises
transfer_rises limit is key b nested of cover within =
    elim (cases_lt key.pc b) [
      | inl less ↦ rise_forward limit is key.pc b key.counters less of.counted within
      | inr back ↦
          let o = cover back in
          rise_back limit is key.pc b key.counters o.0 back of.counted nested.order o.1 o.2 o.3
          (λ i h before inside.
          let last : o.0.end ≤ i.end = nested.inner i o.0 h o.1 (omega (arith, o.2)) (omega (arith, o.2)) in
          omega (arith, o.3))
    ]

-- the keys behind transfers are keys of the same intervals
length_after : (is : List Interval) (a b : ℕ) (cs : List ℕ) → length cs ≡ length is
    → length (counters_after a b is cs) ≡ length is
length_after [] a b cs n = refl
length_after (i ∷ is) a b [] n = absurd (omega arith)
length_after (i ∷ is) a b (c ∷ cs) n = ap suc (length_after is a b cs (omega arith))

idle_after : (is : List Interval) (a b : ℕ) (cs : List ℕ) → AreIdle is b (counters_after a b is cs)
idle_after [] a b cs = tt
idle_after (i ∷ is) a b [] = tt
idle_after (i ∷ is) a b (c ∷ cs) = (λ out. grind (arith, nat_tests), idle_after is a b cs)

pub transfer_keeps : TransferKeeps
transfer_keeps is key b of = record {
  counted = length_after is key.pc b key.counters of.counted;
  idle = idle_after is key.pc b key.counters;
}

-- a key whose counters are all 0 is one of the intervals
idle_start : (is : List Interval) (pc : ℕ) → AreIdle is pc (replicate (length is) 0)
idle_start [] pc = tt
idle_start (i ∷ is) pc = (λ out. refl, idle_start is pc)

pub start_is_key : (is : List Interval) → IsKeyOf is (start_of is)
start_is_key is = record { counted = length-replicate (length is) 0; idle = idle_start is 0 }

pub start_within : (is : List Interval) (limit : ℕ → ℕ) → AreWithin limit is (replicate (length is) 0)
start_within [] limit = tt
start_within (i ∷ is) limit = (omega arith, start_within is limit)
