-- A walk of the code is a walk of the definitions.
use Rattle.std.proofs.Common.{◌≡◌, ℕ, ◌<◌, Bool, true, false, List, [], ◌∷◌, inl, inr, Contains}
use Rattle.std.proofs.Common.{None, sym, ◌∙◌, ap, subst, arith}
use Rattle.std.proofs.lemmas.Option.{none-some, slice_get_within}
use Rattle.cf_class.specs.declared.class_file.ClassFile.{ClassFile}
use Rattle.hi_tree.specs.declared.known.Up.{Up}
use Rattle.hi_tree.specs.declared.known.Above.{Above}
use Rattle.hi_tree.specs.declared.walk.Walk.{Walk}
use Rattle.hi_tree.specs.declared.walk.Next.TheVariants as next
use Rattle.hi_tree.specs.declared.walk.Walked.TheVariants as walked
use Rattle.hi_tree.specs.declared.fault.TreeFault.{TreeFault}
use Rattle.hi_tree.specs.declared.fault.TreeFault.TheVariants as faults
use Rattle.hi_tree.specs.Classes.{Known}
use Rattle.hi_tree.specs.Supers.{climb}
use Rattle.hi_tree.specs.Faults.{IsWalkFault}
use Rattle.hi_tree.specs.Walks.{Climb, found, not_known, Stops}
use Rattle.hi_tree.specs.Walks.{missing, here}
use Rattle.hi_tree.specs.Calls.Steps.{Step, climbed, IsMarked, above_name}
use Rattle.hi_tree.specs.Calls.Walking.{steps_of, mark_of, names_met, Comes, FailsAt, Leads, IsWalked}
use Rattle.hi_tree.proofs.UnderWay.{names_of, IsUnderWay, IsDone}
use Rattle.hi_tree.proofs.StepLemmas.{stops, comes_again, not_on_path, skips, pushes, pops}
use Rattle.hi_tree.proofs.EndLemmas.{begins}
use Rattle.hi_tree.proofs.DoneLemmas.{done_begins, done_pushes, done_pops, done_all}
use Rattle.hi_tree.proofs.MeasureLemmas.{left, skip_less, push_less, pop_less}
use Rattle.hi_tree.proofs.FrameLemmas.{universe, known_place}

module _ (classes : List ClassFile) (up : Up) (sought : List ℕ → Known → Bool) (start : List ℕ) where
  abbrev w : Climb
  w = climb classes up sought

  pub record Under (walk : Walk) : Type 0 where
    pub way : IsUnderWay w start (mark_of walk.marks) (steps_of up walk.frames)
    pub done : IsDone w (mark_of walk.marks) (names_met walk.done)

  abbrev pub size_of : Walk → ℕ
  size_of walk = left w.supers (universe classes) (mark_of walk.marks) (steps_of up walk.frames)

  nowhere : (name : List ℕ) → Contains {X = List ℕ} [] name → ⊥
  nowhere name there = omega (arith, there.1)

  -- the first class
  module _ (old new : Walk) (no_marks : (q : List ℕ) → mark_of old.marks q ≡ None)
      (no_frames : steps_of up old.frames ≡ []) (no_done : names_met old.done ≡ []) where
    pub start_found : Comes w up start old new true → Stops w start (found start)
    start_found comes = here [] start (nowhere start) comes.1 comes.2

    pub start_fails : (fault : TreeFault) → FailsAt w start old fault → IsWalkFault w start fault
    start_fails (faults.NotLoaded name) fails =
        subst (λ (n : List ℕ). Stops w start (not_known n)) (sym fails.2) (missing [] start (nowhere start) fails.1)
    start_fails faults.Circular fails = absurd (none-some true (sym (no_marks start) ∙ fails))
    start_fails faults.NoMemory fails = tt
    start_fails faults.NoSuch fails = fails
    start_fails faults.Ambiguous fails = fails

    pub start_passes : Comes w up start old new false → Under new
    start_passes (inl done) = absurd (none-some false (sym (no_marks start) ∙ done.0))
    start_passes (inr pushed) =
        let steps = pushed.4 ∙ ap (λ
        (l : List Step). record { name = start; above = w.supers start; next = 0 } ∷ l) no_frames in
        record {
          way = subst (λ (l : List Step). IsUnderWay w start (mark_of new.marks) l) (sym steps)
              (begins w start (mark_of old.marks) (mark_of new.marks) no_marks pushed.3 pushed.1 pushed.2);
          done = subst (λ (l : List (List ℕ)). IsDone w (mark_of new.marks) l)
              (sym (ap (λ (l : List Above). names_met l) pushed.5 ∙ no_done))
              (done_begins w start (mark_of old.marks) (mark_of new.marks) no_marks pushed.3);
        }

  as_steps : (old : Walk) (s : Step) (ss : List Step) → steps_of up old.frames ≡ s ∷ ss → Under old
      → IsUnderWay w start (mark_of old.marks) (s ∷ ss)
  as_steps old s ss e is = subst (λ (l : List Step). IsUnderWay w start (mark_of old.marks) l) e is.way

  module _ (old : Walk) (is : Under old) where
    pub over : (new : Walk) → Leads up old new next.Over → IsWalked w start (walked.Clean new.done)
    over new leads = subst (λ (x : Walk). IsWalked w start (walked.Clean x.done)) (sym leads.1)
        (done_all w start (mark_of old.marks) (names_met old.done)
        (subst (λ (l : List Step). IsUnderWay w start (mark_of old.marks) l) leads.0 is.way) is.done)

    pub left_under : (new : Walk) → Leads up old new next.Left → Under new
    left_under new (s, ss, steps, none, rest, set, done) = record {
      way = subst (λ (l : List Step). IsUnderWay w start (mark_of new.marks) l) (sym rest)
          (pops w start (mark_of old.marks) s ss (as_steps old s ss steps is) (mark_of new.marks) none set);
      done = subst (λ (l : List (List ℕ)). IsDone w (mark_of new.marks) l) (sym done)
          (done_pops w start (mark_of old.marks) (mark_of new.marks) (names_met old.done) s ss
          (as_steps old s ss steps is) none is.done set);
    }

    pub left_less : (new : Walk) → Leads up old new next.Left → size_of new < size_of old
    left_less new (s, ss, steps, none, rest, set, done) =
        let less = pop_less w.supers (universe classes) (mark_of old.marks) (mark_of new.marks) s ss set in
        rw (steps, rest) less

    module _ (mid : Walk) (a : Above) (leads : Leads up old mid (next.Above a)) where
      abbrev s : Step
      s = leads.0

      abbrev ss : List Step
      ss = leads.1

      under : IsUnderWay w start (mark_of old.marks) (s ∷ ss)
      under = as_steps old s ss leads.2 is

      same_marks : (q : List ℕ) → mark_of mid.marks q ≡ mark_of old.marks q
      same_marks q = ap (λ m. mark_of m q) leads.5

      done_mid : IsDone w (mark_of mid.marks) (names_met mid.done)
      done_mid =
          subst (λ m. IsDone w (mark_of m) (names_met mid.done)) (sym leads.5)
          (subst (λ (l : List Above). IsDone w (mark_of old.marks) (names_met l)) (sym leads.6) is.done)

      pub above_found : (new : Walk) → Comes w up (above_name a) mid new true → IsWalked w start (walked.Found a)
      above_found new comes =
          stops w start (mark_of old.marks) s ss under (above_name a) (found (above_name a)) leads.3
          (here (s.name ∷ names_of ss) (above_name a)
          (not_on_path w start (mark_of old.marks) s ss under (above_name a) (sym (same_marks (above_name a))
          ∙ comes.0)) comes.1
          comes.2)

      pub above_fails : (fault : TreeFault) → FailsAt w (above_name a) mid fault → IsWalkFault w start fault
      above_fails (faults.NotLoaded name) fails =
          subst (λ (n : List ℕ). Stops w start (not_known n)) (sym fails.2)
          (stops w start (mark_of old.marks) s ss under (above_name a) (not_known (above_name a)) leads.3
          (missing (s.name ∷ names_of ss) (above_name a)
          (not_on_path w start (mark_of old.marks) s ss under (above_name a) (sym (same_marks (above_name a))
          ∙ fails.0)) fails.1))
      above_fails faults.Circular fails =
          comes_again w start (mark_of old.marks) s ss under (above_name a) leads.3 (sym (same_marks
          (above_name a)) ∙ fails)
      above_fails faults.NoMemory fails = tt
      above_fails faults.NoSuch fails = fails
      above_fails faults.Ambiguous fails = fails

      from_old : (new : Walk) → IsMarked (mark_of mid.marks) (above_name a) true (mark_of new.marks)
          → IsMarked (mark_of old.marks) (above_name a) true (mark_of new.marks)
      from_old new set = record { same = set.same; other = λ q differs. set.other q differs ∙ same_marks q }

      pub above_under : (new : Walk) → Comes w up (above_name a) mid new false → Under new
      above_under new (inl done) =
          let skipped = skips w start (mark_of old.marks) s ss under (above_name a) leads.3 (sym (same_marks
          (above_name a)) ∙ done.0) in
          subst (λ (x : Walk). Under x) (sym done.1) (record {
            way = subst (λ m. IsUnderWay w start (mark_of m) (steps_of up mid.frames)) (sym leads.5)
                (subst (λ (l : List Step). IsUnderWay w start (mark_of old.marks) l) (sym leads.4) skipped);
            done = done_mid;
          })
      above_under new (inr pushed) =
          let steps = pushed.4 ∙ ap (λ (l : List Step). record {
            name = above_name a;
            above = w.supers
                (above_name a);
            next = 0;
          } ∷ l) leads.4 in
          record {
            way = subst (λ (l : List Step). IsUnderWay w start (mark_of new.marks) l) (sym steps)
                (pushes w start (mark_of old.marks) s ss under (above_name a) (mark_of new.marks) leads.3
                (sym (same_marks (above_name a)) ∙ pushed.0) (from_old new pushed.3) pushed.1 pushed.2);
            done = subst (λ (l : List Above). IsDone w (mark_of new.marks) (names_met l)) (sym pushed.5)
                (done_pushes w start (mark_of mid.marks) (mark_of new.marks) (names_met mid.done) (above_name a)
                done_mid pushed.0 pushed.3);
          }

      pub above_less : (new : Walk) → Comes w up (above_name a) mid new false → size_of new < size_of old
      above_less new (inl done) =
          let less = skip_less w.supers (universe classes) (mark_of old.marks) (mark_of old.marks) s ss
          (slice_get_within s.above s.next (above_name a) leads.3) in
          let new_is : size_of new ≡ left w.supers (universe classes) (mark_of old.marks) (climbed s ∷ ss) =
          ap size_of done.1 ∙ ap (λ m. left w.supers (universe classes) (mark_of m) (steps_of up mid.frames)) leads.5
          ∙ ap (λ (l : List Step). left w.supers (universe classes) (mark_of old.marks) l) leads.4 in
          let old_is : size_of old ≡ left w.supers (universe classes) (mark_of old.marks) (s ∷ ss) =
          ap (λ (l : List Step). left w.supers (universe classes) (mark_of old.marks) l) leads.2 in
          rw (new_is, old_is) less
      above_less new (inr pushed) =
          let steps = pushed.4 ∙ ap (λ (l : List Step). record {
            name = above_name a;
            above = w.supers
                (above_name a);
            next = 0;
          } ∷ l) leads.4 in
          let at = known_place classes (above_name a) pushed.1 in
          let less = push_less w.supers (universe classes) (mark_of old.marks) (mark_of new.marks) s ss
          (above_name a) at.0
          (slice_get_within s.above s.next (above_name a) leads.3) at.1 (sym (same_marks (above_name a)) ∙ pushed.0)
          (from_old new pushed.3) in
          let new_is : size_of new ≡ left w.supers (universe classes) (mark_of new.marks)
          (record { name = above_name a; above = w.supers (above_name a); next = 0 } ∷ climbed s ∷ ss) =
          ap (λ (l : List Step). left w.supers (universe classes) (mark_of new.marks) l) steps in
          let old_is : size_of old ≡ left w.supers (universe classes) (mark_of old.marks) (s ∷ ss) =
          ap (λ (l : List Step). left w.supers (universe classes) (mark_of old.marks) l) leads.2 in
          rw (new_is, old_is) less
