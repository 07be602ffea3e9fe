-- The steps of a walk under way.
use Rattle.std.proofs.Common.{◌≡◌, ℕ, ◌<◌, ◌≤◌, Bool, true, false, List, [], ◌∷◌, ◌⊎◌, inl, inr, Contains, Some}
use Rattle.std.proofs.Common.{None, Option, slice_get, length, sym, ◌∙◌, ap, subst, refl, arith, true≢false}
use Rattle.std.proofs.lemmas.Bool.{cases_lt}
use Rattle.std.proofs.lemmas.Option.{same_Some, none-some, slice_get_within}
use Rattle.hi_tree.specs.Walks.{Climb, IsAbove, direct, IsClean, clean, Stop, circular, StopsAt, Stops, again, higher}
use Rattle.jv_list.proofs.DecidedLemmas.{lists}
use Rattle.jv_list.proofs.MemberLemmas.{later_member, first_member}
use Rattle.jv_list.proofs.ElementLemmas.{none_at}
use Rattle.jv_list.proofs.TestLemmas.{some_same}
use Rattle.hi_tree.proofs.WalkLemmas.{Contains_cases, above_above}
use Rattle.hi_tree.specs.Calls.Steps.{Step, Marks, IsMarked, climbed}
use Rattle.hi_tree.proofs.UnderWay.{Keeps, names_of, IsStep, Stand, IsUnderWay}

module _ (w : Climb) (start : List ℕ) where
  stand_kept : (old new : Marks) (upper : Option (List ℕ)) (steps : List Step) → Keeps old new steps
      → Stand w start old upper steps
      → Stand w start new upper steps
  unfolding Stand
  stand_kept old new upper [] keeps is = tt
  stand_kept old new upper (s ∷ ss) keeps is = (
    record {
      supers = is.0.supers;
      known = is.0.known;
      free = is.0.free;
      fresh = is.0.fresh;
      marked = keeps.1 s.name (first_member s.name (names_of ss)) is.0.marked;
      within = is.0.within;
      passed = λ place above below e. elim (is.0.passed place above below e) [
        | inl done ↦ inl (keeps.0 above done)
        | inr up ↦ inr up
      ];
      leads = is.0.leads;
    },
    stand_kept old new (Some s.name) ss
        (keeps.0, λ q there. keeps.1 q (later_member s.name (names_of ss) q there)) is.1,
  )

  -- the class above that was climbed to is done
  stand_done : (marks : Marks) (name : List ℕ) (steps : List Step) → marks name ≡ Some false
      → Stand w start marks (Some name) steps
      → Stand w start marks None steps
  unfolding Stand
  stand_done marks name [] done is = tt
  stand_done marks name (s ∷ ss) done is = (
    record {
      supers = is.0.supers;
      known = is.0.known;
      free = is.0.free;
      fresh = is.0.fresh;
      marked = is.0.marked;
      within = is.0.within;
      passed = λ place above below e. elim (is.0.passed place above below e) [
        | inl old ↦ inl old
        | inr up ↦ inl (subst (λ (x : List ℕ). marks x ≡ Some false) (same_Some name above up) done)
      ];
      leads = is.0.leads;
    },
    is.1,
  )

  module _ (marks : Marks) (s : Step) (ss : List Step) (is : IsUnderWay w start marks (s ∷ ss)) where
    pub top : IsStep w start marks None s (names_of ss)
    unfolding Stand
    top = is.stand.0

    rest : Stand w start marks (Some s.name) ss
    unfolding Stand
    rest = is.stand.1

    at_supers : (place : ℕ) (a : List ℕ) → slice_get (w.supers s.name) place ≡ Some a
        → slice_get s.above place ≡ Some a
    at_supers place a e = ap (λ (l : List (List ℕ)). slice_get l place) top.supers ∙ e

    at_above : (place : ℕ) (a : List ℕ) → slice_get s.above place ≡ Some a
        → slice_get (w.supers s.name) place ≡ Some a
    at_above place a e = ap (λ (l : List (List ℕ)). slice_get l place) (sym top.supers) ∙ e

    no_upper : (place : ℕ) (a : List ℕ) → place < s.next → slice_get s.above place ≡ Some a → marks a ≡ Some false
    no_upper place a below e = elim (top.passed place a below e) [
      | inl old ↦ old
      | inr up ↦ absurd (none-some a up)
    ]

    -- where the walk stops from the next class on, it stops
    pub stops : (a : List ℕ) (stop : Stop) → slice_get s.above s.next ≡ Some a
        → StopsAt w (s.name ∷ names_of ss) a stop
        → Stops w start stop
    stops a stop e r =
        top.leads stop (higher (names_of ss) s.name s.next a stop top.fresh top.known top.free (at_above s.next a e)
        (λ earlier before below at. is.done before (no_upper earlier before below (at_supers earlier before at))) r)

    -- a class that is marked as being climbed from comes again
    pub comes_again : (a : List ℕ) → slice_get s.above s.next ≡ Some a → marks a ≡ Some true → Stops w start circular
    comes_again a e on = stops a circular e (again (s.name ∷ names_of ss) a (is.on a on))

    fresh_name : (a : List ℕ) → marks a ≡ None → (steps : List Step) (upper : Option (List ℕ))
        → Stand w start marks upper steps
        → Contains (names_of steps) a → ⊥
    unfolding Stand
    fresh_name a new [] upper st there = absurd (omega (arith, there.1))
    fresh_name a new (t ∷ ts) upper st there = elim (Contains_cases t.name (names_of ts) a there) [
      | inl same ↦ none-some true (sym new ∙ subst (λ (x : List ℕ). marks x ≡ Some true) same st.0.marked)
      | inr old ↦ fresh_name a new ts (Some t.name) st.1 old
    ]

    pub not_on_path : (a : List ℕ) → marks a ≡ None → Contains (s.name ∷ names_of ss) a → ⊥
    not_on_path a new there = fresh_name a new (s ∷ ss) None is.stand there

    one_more : (a : List ℕ) (new : Marks) (mark : Bool) → slice_get s.above s.next ≡ Some a → (old : (q : List ℕ)
        → marks q ≡ Some false → new q ≡ Some false)
        → (upper : Option (List ℕ)) → (new a ≡ Some false) ⊎ (upper ≡ Some a) → (new s.name ≡ Some true)
        → IsStep w start new upper (climbed s) (names_of ss)
    one_more a new mark e old upper met on = record {
      supers = top.supers;
      known = top.known;
      free = top.free;
      fresh = top.fresh;
      marked = on;
      within = let b : s.next < length s.above = slice_get_within s.above s.next a e in omega arith;
      passed = λ place above below at. elim (cases_lt place s.next) [
        | inl lt ↦ inl (old above (no_upper place above lt at))
        | inr ge ↦
            let same : s.next ≡ place = omega arith in
            let names : a ≡ above = same_Some a above (sym e ∙ ap (λ (k : ℕ). slice_get s.above k) same ∙ at) in
            subst (λ (x : List ℕ). (new x ≡ Some false) ⊎ (upper ≡ Some x)) names met
      ];
      leads = top.leads;
    }

    pub skips : (a : List ℕ) → slice_get s.above s.next ≡ Some a → marks a ≡ Some false
        → IsUnderWay w start marks (climbed s ∷ ss)
    unfolding Stand
    skips a e off = record {
      mark = is.mark;
      begun = is.begun;
      on = is.on;
      done = is.done;
      closed = is.closed;
      reached = is.reached;
      stand = (one_more a marks false e (λ q o. o) None (inl off) top.marked, rest);
    }

    module _ (a : List ℕ) (new : Marks) (e : slice_get s.above s.next ≡ Some a) (unmarked : marks a ≡ None)
        (set : IsMarked marks a true new) where
      off_stays : (q : List ℕ) → marks q ≡ Some false → new q ≡ Some false
      off_stays q off =
          set.other q (λ same. none-some false (sym unmarked
          ∙ subst (λ (x : List ℕ). marks x ≡ Some false) (sym same) off)) ∙ off

      on_stays : (q : List ℕ) → marks q ≡ Some true → new q ≡ Some true
      on_stays q on =
          set.other q (λ same. none-some true (sym unmarked
          ∙ subst (λ (x : List ℕ). marks x ≡ Some true) (sym same) on)) ∙ on

      old_mark : (q : List ℕ) (mark : Bool) → (a ≡ q → ⊥) → new q ≡ Some mark → marks q ≡ Some mark
      old_mark q mark differs is_new = sym (set.other q differs) ∙ is_new

      not_off : (q : List ℕ) → new q ≡ Some false → a ≡ q → ⊥
      not_off q off same = true≢false (some_same (new a) true false set.same (ap new same ∙ off))

      keeps : Keeps marks new ss
      keeps = (off_stays, λ q there. on_stays q)

      first_step : w.known a ≡ true → w.sought a ≡ false
          → IsStep w start new None (record { name = a; above = w.supers a; next = 0 }) (s.name ∷ names_of ss)
      first_step known free = record {
        supers = refl;
        known = known;
        free = free;
        fresh = not_on_path a unmarked;
        marked = set.same;
        within = omega arith;
        passed = λ place above below at. absurd (omega arith);
        leads = λ stop r. stops a stop e r;
      }

      pushed_on : (q : List ℕ) → new q ≡ Some true → Contains (a ∷ (s.name ∷ names_of ss)) q
      pushed_on q on = elim (lists a q) [
        | inl same ↦ subst (λ (x : List ℕ). Contains (a ∷ (s.name ∷ names_of ss)) x) same (first_member a
            (s.name ∷ names_of ss))
        | inr differs ↦ later_member a (s.name ∷ names_of ss) q (is.on q (old_mark q true differs on))
      ]

      up_from : (s.name ≡ start) ⊎ IsAbove w.supers start s.name → IsAbove w.supers start a
      up_from (inl same) = subst (λ (x : List ℕ). IsAbove w.supers x a) same (direct s.name a s.next
          (at_above s.next a e))
      up_from (inr above) = above_above w above (direct s.name a s.next (at_above s.next a e))

      pushed_reached : (q : List ℕ) (mark : Bool) → new q ≡ Some mark → (q ≡ start) ⊎ IsAbove w.supers start q
      pushed_reached q mark now = elim (lists a q) [
        | inl same ↦ inr (subst (λ (x : List ℕ). IsAbove w.supers start x) same (up_from
            (is.reached s.name true top.marked)))
        | inr differs ↦ is.reached q mark (old_mark q mark differs now)
      ]

      begun_still : (b : Bool) → marks start ≡ Some b → new start ≡ Some b
      begun_still true on = on_stays start on
      begun_still false off = off_stays start off

      -- a class that was not met is climbed from
      pub pushes : w.known a ≡ true → w.sought a ≡ false
          → IsUnderWay w start new (record { name = a; above = w.supers a; next = 0 } ∷ climbed s ∷ ss)
      unfolding Stand
      pushes known free = record {
        mark = is.mark;
        begun = begun_still is.mark is.begun;
        on = pushed_on;
        done = λ q off. is.done q (old_mark q false (not_off q off) off);
        closed = λ q place above off at. off_stays above (is.closed q place above (old_mark q false
            (not_off q off) off) at);
        reached = pushed_reached;
        stand = (
          first_step known free,
          (
            one_more a new true e off_stays (Some a) (inr refl) (on_stays s.name top.marked),
            stand_kept marks new (Some s.name) ss keeps rest,
          ),
        );
      }

    -- a class whose supertypes are all done is done
    module _ (new : Marks) (e : slice_get s.above s.next ≡ None) (set : IsMarked marks s.name false new) where
      below_end : (place : ℕ) (a : List ℕ) → slice_get s.above place ≡ Some a → place < s.next
      below_end place a at =
          let b : place < length s.above = slice_get_within s.above place a at in
          let c : length s.above ≤ s.next = none_at s.above s.next e in
          omega arith

      pub above_done : (place : ℕ) (a : List ℕ) → slice_get (w.supers s.name) place ≡ Some a → marks a ≡ Some false
      above_done place a at =
          let old = at_supers place a at in
          no_upper place a (below_end place a old) old

      is_clean : IsClean w s.name
      is_clean = clean s.name top.known top.free (λ place a at. is.done a (above_done place a at))

      off_stays_too : (q : List ℕ) → marks q ≡ Some false → new q ≡ Some false
      off_stays_too q off = elim (lists s.name q) [
        | inl same ↦ subst (λ (x : List ℕ). new x ≡ Some false) same set.same
        | inr differs ↦ set.other q differs ∙ off
      ]

      on_stays_too : (q : List ℕ) → Contains (names_of ss) q → marks q ≡ Some true → new q ≡ Some true
      on_stays_too q there on =
          set.other q (λ same. top.fresh (subst (λ (x : List ℕ). Contains (names_of ss) x) (sym same) there)) ∙ on

      popped_on : (q : List ℕ) → new q ≡ Some true → Contains (names_of ss) q
      popped_on q on = elim (lists s.name q) [
        | inl same ↦ absurd (true≢false (some_same (new q) true false on (ap new (sym same) ∙ set.same)))
        | inr differs ↦ elim (Contains_cases s.name (names_of ss) q (is.on q (sym (set.other q differs) ∙ on))) [
          | inl same ↦ absurd (differs same)
          | inr there ↦ there
        ]
      ]

      popped_done : (q : List ℕ) → new q ≡ Some false → IsClean w q
      popped_done q off = elim (lists s.name q) [
        | inl same ↦ subst (λ (x : List ℕ). IsClean w x) same is_clean
        | inr differs ↦ is.done q (sym (set.other q differs) ∙ off)
      ]

      popped_closed : (q : List ℕ) (place : ℕ) (above : List ℕ) → new q ≡ Some false
          → slice_get (w.supers q) place ≡ Some above
          → new above ≡ Some false
      popped_closed q place above off at = elim (lists s.name q) [
        | inl same ↦
            off_stays_too above
            (above_done place above (ap (λ (x : List ℕ). slice_get (w.supers x) place) same ∙ at))
        | inr differs ↦ off_stays_too above (is.closed q place above (sym (set.other q differs) ∙ off) at)
      ]

      popped_reached : (q : List ℕ) (mark : Bool) → new q ≡ Some mark → (q ≡ start) ⊎ IsAbove w.supers start q
      popped_reached q mark now = elim (lists s.name q) [
        | inl same ↦ subst (λ (x : List ℕ). (x ≡ start) ⊎ IsAbove w.supers start x) same
            (is.reached s.name true top.marked)
        | inr differs ↦ is.reached q mark (sym (set.other q differs) ∙ now)
      ]

      popped_begun : (mark : Bool) × (new start ≡ Some mark)
      popped_begun = elim (lists s.name start) [
        | inl same ↦ (false, subst (λ (x : List ℕ). new x ≡ Some false) same set.same)
        | inr differs ↦ (is.mark, set.other start differs ∙ is.begun)
      ]

      pub pops : IsUnderWay w start new ss
      pops = record {
        mark = popped_begun.0;
        begun = popped_begun.1;
        on = popped_on;
        done = popped_done;
        closed = popped_closed;
        reached = popped_reached;
        stand =
            stand_done new s.name ss set.same
            (stand_kept marks new (Some s.name) ss (off_stays_too, on_stays_too) rest);
      }
