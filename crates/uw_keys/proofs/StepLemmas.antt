-- The counters behind a transfer, interval by interval.
use Rattle.std.proofs.Common.{◌≡◌, ◌↔◌, ℕ, ◌+◌, ◌≤◌, ◌<◌, List, [], ◌∷◌, ◌++◌, length, drop, get_or}
use Rattle.std.proofs.Common.{refl, sym, ap, subst, ◌∙◌, append_assoc, append-nil, arith}
use Rattle.std.proofs.lemmas.List.{drop_more, drop_all}
use Rattle.uw_keys.specs.declared.interval.Interval.{Interval}
use Rattle.uw_keys.specs.Keys.{AreWithin, counter_after, counters_after}

-- one limit for all targets
abbrev pub always : ℕ → ℕ → ℕ
always unwind target = unwind

-- the intervals up to a place have the counters that they get, and those from there on those that they have
module _ (limit : ℕ → ℕ) (is : List Interval) (a b : ℕ) (cs : List ℕ) where
  pub record IsAdvanced (place : ℕ) (done : List ℕ) : Type 0 where
    pub whole : done ++ counters_after a b (drop place is) (drop place cs) ≡ counters_after a b is cs
    pub held : AreWithin limit (drop place is) (drop place cs)
    pub within : AreWithin limit (drop place is) (counters_after a b (drop place is) (drop place cs))
        ↔ AreWithin limit is (counters_after a b is cs)

  pub advance_start : AreWithin limit is cs → IsAdvanced 0 []
  advance_start within = record { whole = refl; held = within; within = (λ h. h, λ h. h) }

  module _ (place : ℕ) (done : List ℕ) (so : IsAdvanced place done) (d : Interval)
      (within : place < length is) (counted : length cs ≡ length is) where
    abbrev i : Interval
    i = get_or is place d

    abbrev c : ℕ
    c = get_or cs place 0

    intervals_drop : drop place is ≡ i ∷ drop (place + 1) is
    intervals_drop = drop_more is place d within

    counters_drop : drop place cs ≡ c ∷ drop (place + 1) cs
    counters_drop = drop_more cs place 0 (omega arith)

    held_here : AreWithin limit (i ∷ drop (place + 1) is) (c ∷ drop (place + 1) cs)
    held_here =
        subst (λ (js : List Interval). AreWithin limit js (c ∷ drop (place + 1) cs)) intervals_drop
        (subst (λ (ds : List ℕ). AreWithin limit (drop place is) ds) counters_drop so.held)

    -- the counter at the place is not above the limit
    pub held_counter : get_or cs place 0 ≤ limit (get_or is place d).target
    held_counter = held_here.0

    rest_after : counters_after a b (drop place is) (drop place cs)
        ≡ counter_after a b i c ∷ counters_after a b (drop (place + 1) is) (drop (place + 1) cs)
    rest_after =
        ap (λ (js : List Interval). counters_after a b js (drop place cs)) intervals_drop
        ∙ ap (λ (ds : List ℕ). counters_after a b (i ∷ drop (place + 1) is) ds) counters_drop

    abbrev rest : List ℕ
    rest = counters_after a b (drop (place + 1) is) (drop (place + 1) cs)

    within_here : ((counter_after a b i c ≤ limit i.target) × AreWithin limit (drop (place + 1) is) rest)
        ↔ AreWithin limit is (counters_after a b is cs)
    within_here =
        subst (λ (ds : List ℕ). AreWithin limit (i ∷ drop (place + 1) is) ds
        ↔ AreWithin limit is (counters_after a b is cs)) rest_after
        (subst (λ (js : List Interval). AreWithin limit js (counters_after a b (drop place is) (drop place cs))
        ↔ AreWithin limit is (counters_after a b is cs)) intervals_drop so.within)

    -- it leaves the bounds where this counter does
    pub leaves_here : (counter_after a b (get_or is place d) (get_or cs place 0) ≤ limit (get_or is place d).target → ⊥)
        → AreWithin limit is (counters_after a b is cs) → ⊥
    leaves_here above all = above (within_here.1 all).0

    pub advance_more : (count : ℕ) → count ≡ counter_after a b (get_or is place d) (get_or cs place 0)
        → count ≤ limit (get_or is place d).target → IsAdvanced (place + 1) (done ++ count ∷ [])
    advance_more count is-count fits = record {
      whole =
          append_assoc done (count ∷ []) rest
          ∙ ap (λ (n : ℕ). done ++ n ∷ rest) is-count
          ∙ ap (λ (ds : List ℕ). done ++ ds) (sym rest_after) ∙ so.whole;
      held = held_here.1;
      within = (
        λ h. within_here.0 (subst (λ (n : ℕ). n ≤ limit i.target) is-count fits, h),
        λ h. (within_here.1 h).1,
      );
    }

  -- behind the last
  pub advance_end : (place : ℕ) (done : List ℕ) → IsAdvanced place done → length is ≤ place
      → (done ≡ counters_after a b is cs) × AreWithin limit is (counters_after a b is cs)
  advance_end place done so past =
      let none : drop place is ≡ [] = drop_all place is past in
      let whole : done ++ [] ≡ counters_after a b is cs =
      ap (λ (js : List Interval). done ++ counters_after a b js (drop place cs)) (sym none) ∙ so.whole in
      let within : AreWithin limit [] (counters_after a b [] (drop place cs))
      ↔ AreWithin limit is (counters_after a b is cs) =
      subst (λ (js : List Interval). AreWithin limit js (counters_after a b js (drop place cs))
      ↔ AreWithin limit is (counters_after a b is cs)) none so.within in
      (sym (append-nil done) ∙ whole, within.0 tt)
