-- The order of keys is a total order, and the same for all limits.
use Rattle.std.proofs.Common.{◌≡◌, ℕ, ◌≤◌, false, List, [], ◌∷◌, length, refl, sym, ap, ◌∙◌, subst}
use Rattle.std.proofs.Common.{nat_cmp, arith}
use Rattle.std.proofs.lemmas.Bool.Decides.{nat_tests}
use Rattle.std.specs.Cmp.Lexicographic.{slice_cmp, nat_list_cmp_total}
use Rattle.std.specs.Ordering.{ordering_then}
use Rattle.std.specs.declared.cmp.Ordering.{Ordering}
use Rattle.std.specs.declared.cmp.Ordering.TheVariants.{Less, Equal, Greater}
use Rattle.uw_keys.specs.declared.interval.Interval.{Interval}
use Rattle.uw_keys.specs.declared.key.Key.{Key}
use Rattle.uw_keys.specs.Intervals.{holds}
use Rattle.uw_keys.specs.Keys.{AreWithin, AreIdle}
use Rattle.uw_keys.specs.Order.{phase, ranks}
use Rattle.uw_keys.specs.Laws.{OrderReversed, OrderTransitive, OrderExact, OrderForAllLimits}

pub order_reversed : OrderReversed
order_reversed limit is a b =
    nat_list_cmp_total.antisymm (ranks limit is a.pc a.counters) (ranks limit is b.pc b.counters)

pub order_transitive : OrderTransitive
order_transitive limit is a b c first second =
    nat_list_cmp_total.trans (ranks limit is a.pc a.counters) (ranks limit is b.pc b.counters)
    (ranks limit is c.pc c.counters) first second

-- the comparison of two phases for two limits
phases_alike : (l m : ℕ) (i : Interval) (p q c d : ℕ) → c ≤ l → d ≤ l → c ≤ m → d ≤ m
    → nat_cmp (phase l i p c) (phase l i q d) ≡ nat_cmp (phase m i p c) (phase m i q d)
phases_alike l m i p q c d h1 h2 h3 h4 = grind (arith, nat_tests)

ranks_alike : (limit other : ℕ → ℕ) (is : List Interval) (p q : ℕ) (cs ds : List ℕ) → length cs ≡ length is
    → length ds ≡ length is → AreWithin limit is cs → AreWithin limit is ds → AreWithin other is cs
    → AreWithin other is ds
    → slice_cmp nat_cmp (ranks limit is p cs) (ranks limit is q ds)
    ≡ slice_cmp nat_cmp (ranks other is p cs) (ranks other is q ds)
ranks_alike limit other [] p q cs ds n m h1 h2 h3 h4 = refl
ranks_alike limit other (i ∷ is) p q [] ds n m h1 h2 h3 h4 = absurd (omega arith)
ranks_alike limit other (i ∷ is) p q (c ∷ cs) [] n m h1 h2 h3 h4 = absurd (omega arith)
ranks_alike limit other (i ∷ is) p q (c ∷ cs) (d ∷ ds) n m h1 h2 h3 h4 =
    ap (λ (o : Ordering). ordering_then o
    (slice_cmp nat_cmp (ranks limit is p cs) (ranks limit is q ds)))
    (phases_alike (limit i.target) (other i.target) i p q c d h1.0 h2.0 h3.0 h4.0)
    ∙ ap (λ (o : Ordering). ordering_then
    (nat_cmp (phase (other i.target) i p c) (phase (other i.target) i q d)) o)
    (ranks_alike limit other is p q cs ds (omega arith) (omega arith) h1.1 h2.1 h3.1 h4.1)

pub order_for_all_limits : OrderForAllLimits
order_for_all_limits limit other is a b of-a of-b h1 h2 h3 h4 =
    ranks_alike limit other is a.pc b.pc a.counters b.counters of-a.counted of-b.counted h1 h2 h3 h4

-- what compares as equal in two parts is equal in both
both_equal : (o p : Ordering) → ordering_then o p ≡ Equal → (o ≡ Equal) × (p ≡ Equal)
both_equal Less p e = absurd cc
both_equal Equal p e = (refl, e)
both_equal Greater p e = absurd cc

number_from_equal : (x y : ℕ) → nat_cmp x y ≡ Equal → x ≡ y
number_from_equal x y e = grind (arith, nat_tests)

-- counters of one phase at one pc
counter_from_phase : (l : ℕ) (i : Interval) (p c d : ℕ) → (holds i p ≡ false → c ≡ 0) → (holds i p ≡ false → d ≡ 0)
    → phase l i p c ≡ phase l i p d → c ≡ d
counter_from_phase l i p c d hc hd e = grind (arith, nat_tests)

ranks_exact : (limit : ℕ → ℕ) (is : List Interval) (p q : ℕ) (cs ds : List ℕ) → length cs ≡ length is
    → length ds ≡ length is → AreIdle is p cs → AreIdle is q ds
    → slice_cmp nat_cmp (ranks limit is p cs) (ranks limit is q ds) ≡ Equal → (p ≡ q) × (cs ≡ ds)
ranks_exact limit [] p q [] [] n m idle-c idle-d e =
    (number_from_equal p q (both_equal (nat_cmp p q) Equal e).0, refl)
ranks_exact limit [] p q [] (d ∷ ds) n m idle-c idle-d e = absurd (omega arith)
ranks_exact limit [] p q (c ∷ cs) ds n m idle-c idle-d e = absurd (omega arith)
ranks_exact limit (i ∷ is) p q [] ds n m idle-c idle-d e = absurd (omega arith)
ranks_exact limit (i ∷ is) p q (c ∷ cs) [] n m idle-c idle-d e = absurd (omega arith)
ranks_exact limit (i ∷ is) p q (c ∷ cs) (d ∷ ds) n m idle-c idle-d e =
    let l : ℕ = limit i.target in
    let parts = both_equal (nat_cmp (phase l i p c) (phase l i q d))
    (slice_cmp nat_cmp (ranks limit is p cs) (ranks limit is q ds)) e in
    let others = ranks_exact limit is p q cs ds (omega arith) (omega arith) idle-c.1 idle-d.1 parts.1 in
    let same = number_from_equal (phase l i p c) (phase l i q d) parts.0 in
    let idle : holds i p ≡ false → d ≡ 0 =
    subst (λ (pc : ℕ). holds i pc ≡ false → d ≡ 0) (sym others.0) idle-d.0 in
    let at_p : phase l i p c ≡ phase l i p d = same ∙ ap (λ (pc : ℕ). phase l i pc d) (sym others.0) in
    let first = counter_from_phase l i p c d idle-c.0 idle at_p in
    (others.0, ap (λ (x : ℕ). x ∷ cs) first ∙ ap (λ (xs : List ℕ). d ∷ xs) others.1)

-- a key is its pc and its counters
same_key : (a b : Key) → a.pc ≡ b.pc → a.counters ≡ b.counters → a ≡ b
same_key a b pc counters = λ i. record { pc = pc i; counters = counters i }

pub order_exact : OrderExact
order_exact limit is a b of-a of-b e =
    let same = ranks_exact limit is a.pc b.pc a.counters b.counters of-a.counted of-b.counted of-a.idle of-b.idle e in
    same_key a b same.0 same.1
