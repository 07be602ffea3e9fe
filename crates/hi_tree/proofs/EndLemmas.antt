-- Where a walk begins and ends.
use Rattle.std.proofs.Common.{◌≡◌, ℕ, Bool, true, false, List, [], ◌∷◌, ◌⊎◌, inl, inr, Contains, Some, None}
use Rattle.std.proofs.Common.{sym, ◌∙◌, ap}
use Rattle.std.proofs.Common.{subst, refl, arith, true≢false}
use Rattle.std.proofs.lemmas.Option.{none-some}
use Rattle.hi_tree.specs.Walks.{Climb, IsAbove, direct, further, IsClean}
use Rattle.hi_tree.specs.Calls.Steps.{Marks, IsMarked}
use Rattle.hi_tree.proofs.UnderWay.{Stand, IsUnderWay}
use Rattle.jv_list.proofs.DecidedLemmas.{lists}
use Rattle.jv_list.proofs.MemberLemmas.{first_member}
use Rattle.jv_list.proofs.TestLemmas.{some_same}

module _ (w : Climb) (start : List ℕ) where
  -- the first class is climbed from
  pub begins : (old new : Marks) → ((q : List ℕ) → old q ≡ None) → IsMarked old start true new → w.known start ≡ true
      → w.sought start ≡ false → IsUnderWay w start new
      (record { name = start; above = w.supers start; next = 0 } ∷ [])
  unfolding Stand
  begins old new none set known free = record {
    mark = true;
    begun = set.same;
    on = λ q on. elim (lists start q) [
      | inl same ↦ subst (λ (x : List ℕ). Contains (start ∷ []) x) same (first_member start [])
      | inr differs ↦ absurd (none-some true (sym (none q) ∙ sym (set.other q differs) ∙ on))
    ];
    done = λ q off. absurd (only_start q off);
    closed = λ q place above off at. absurd (only_start q off);
    reached = λ q mark now. elim (lists start q) [
      | inl same ↦ inl (sym same)
      | inr differs ↦ absurd (none-some mark (sym (none q) ∙ sym (set.other q differs) ∙ now))
    ];
    stand = (
      record {
        supers = refl;
        known = known;
        free = free;
        fresh = λ there. omega (arith, there.1);
        marked = set.same;
        within = omega arith;
        passed = λ place above below at. absurd (omega arith);
        leads = λ stop r. r;
      },
      tt,
    );
  }
    where
      only_start : (q : List ℕ) → new q ≡ Some false → ⊥
      only_start q off = elim (lists start q) [
        | inl same ↦ true≢false (some_same (new q) true false (ap new (sym same) ∙ set.same) off)
        | inr differs ↦ none-some false (sym (none q) ∙ sym (set.other q differs) ∙ off)
      ]

  -- where nothing is climbed from any more, the whole walk is clean
  module _ (marks : Marks) (is : IsUnderWay w start marks []) where
    all_off : (q : List ℕ) (mark : Bool) → marks q ≡ Some mark → marks q ≡ Some false
    all_off q true on = absurd (omega (arith, (is.on q on).1))
    all_off q false off = off

    pub ends_clean : IsClean w start
    ends_clean = is.done start (all_off start is.mark is.begun)

    above_off : {a b : List ℕ} → marks a ≡ Some false → IsAbove w.supers a b → marks b ≡ Some false
    above_off off (direct a b place e) = is.closed a place b off e
    above_off off (further a b peak place e r) = above_off (is.closed a place b off e) r

    -- what is above the first class was met
    pub met_above : (q : List ℕ) → (q ≡ start) ⊎ IsAbove w.supers start q → marks q ≡ Some false
    met_above q (inl same) = ap marks same ∙ all_off start is.mark is.begun
    met_above q (inr above) = above_off (all_off start is.mark is.begun) above
