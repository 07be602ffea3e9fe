-- The classes that are done in a walk under way.
use Rattle.std.proofs.Common.{◌≡◌, ℕ, true, false, List, [], ◌∷◌, inl, inr, Contains, None, sym, ◌∙◌, ap}
use Rattle.std.proofs.Common.{subst, arith, true≢false}
use Rattle.std.specs.Prelude.{slice_get}
use Rattle.std.proofs.lemmas.Option.{none-some}
use Rattle.jv_list.proofs.DecidedLemmas.{lists}
use Rattle.jv_list.proofs.MemberLemmas.{later_member, first_member}
use Rattle.jv_list.proofs.TestLemmas.{some_same}
use Rattle.hi_tree.specs.Walks.{Climb}
use Rattle.hi_tree.specs.Calls.Steps.{Step, Marks, IsMarked}
use Rattle.hi_tree.specs.Calls.Walking.{IsOrdered, IsMet}
use Rattle.hi_tree.proofs.UnderWay.{IsUnderWay, IsDone}
use Rattle.hi_tree.proofs.WalkLemmas.{Contains_cases}
use Rattle.hi_tree.proofs.StepLemmas.{top, above_done}
use Rattle.hi_tree.proofs.EndLemmas.{ends_clean, met_above}

module _ (w : Climb) (start : List ℕ) where
  pub done_begins : (old new : Marks) → ((q : List ℕ) → old q ≡ None) → IsMarked old start true new → IsDone w new []
  unfolding IsOrdered
  done_begins old new none set = record {
    off = λ q off. elim (lists start q) [
      | inl same ↦ absurd (true≢false (some_same (new q) true false (ap new (sym same) ∙ set.same) off))
      | inr differs ↦ absurd (none-some false (sym (none q) ∙ sym (set.other q differs) ∙ off))
    ];
    only = λ q there. absurd (omega (arith, there.1));
    ordered = tt;
  }

  -- a class that is climbed from is not done
  pub done_pushes : (marks new : Marks) (names : List (List ℕ)) (a : List ℕ) → IsDone w marks names → marks a ≡ None
      → IsMarked marks a true new → IsDone w new names
  done_pushes marks new names a is unmarked set = record {
    off = λ q off. elim (lists a q) [
      | inl same ↦ absurd (true≢false (some_same (new q) true false (ap new (sym same) ∙ set.same) off))
      | inr differs ↦ is.off q (sym (set.other q differs) ∙ off)
    ];
    only = λ q there.
        set.other q (λ same. none-some false (sym unmarked ∙ ap marks same ∙ is.only q there)) ∙ is.only q there;
    ordered = is.ordered;
  }

  -- a class whose supertypes are all done is done next
  pub done_pops : (marks new : Marks) (names : List (List ℕ)) (s : Step) (ss : List Step)
      → IsUnderWay w start marks (s ∷ ss) → slice_get s.above s.next ≡ None → IsDone w marks names
      → IsMarked marks s.name false new → IsDone w new (s.name ∷ names)
  unfolding IsOrdered
  done_pops marks new names s ss way e is set = record {
    off = λ q off. elim (lists s.name q) [
      | inl same ↦ subst (λ (x : List ℕ). Contains (s.name ∷ names) x) same (first_member s.name names)
      | inr differs ↦ later_member s.name names q (is.off q (sym (set.other q differs) ∙ off))
    ];
    only = λ q there. elim (Contains_cases s.name names q there) [
      | inl same ↦ ap new (sym same) ∙ set.same
      | inr later ↦ set.other q (λ same. not_done (subst (λ (x : List ℕ). Contains names x) (sym same) later))
          ∙ is.only q later
    ];
    ordered = (
      not_done,
      (λ place above at. is.off above (above_done w start marks s ss way new e set place above at)),
      is.ordered,
    );
  }
    where
      not_done : Contains names s.name → ⊥
      not_done there =
          true≢false (some_same (marks s.name) true false (top w start marks s ss way).marked (is.only s.name there))

  -- where nothing is climbed from any more, these are the class and all that are above it
  pub done_all : (marks : Marks) (names : List (List ℕ)) → IsUnderWay w start marks [] → IsDone w marks names
      → IsMet w start names
  done_all marks names way is = record {
    clean = ends_clean w start marks way;
    members = λ q. (
      (λ there. way.reached q false (is.only q there)),
      (λ above. is.off q (met_above w start marks way q above)),
    );
    ordered = is.ordered;
  }
