-- What a walk meets over a table, it meets over each table that this one grows to.
use Rattle.std.proofs.Common.{◌≡◌, ℕ, Bool, true, List, Option, Some, None, is_some}
use Rattle.std.proofs.Common.{sym, ◌∙◌, ap, true≢false, refl}
use Rattle.std.specs.Prelude.{slice_get}
use Rattle.std.proofs.lemmas.Option.{none-some}
use Rattle.cf_class.specs.declared.class_file.ClassFile.{ClassFile}
use Rattle.hi_tree.specs.declared.known.Up.{Up}
use Rattle.hi_tree.specs.declared.known.Up.TheVariants.{Supertypes}
use Rattle.hi_tree.specs.Classes.{Known, known_class}
use Rattle.hi_tree.specs.Supers.{names_above_some, sought_some, climb}
use Rattle.hi_tree.specs.Subtypes.{supertypes}
use Rattle.hi_tree.specs.Superinterfaces.{whole_climb}
use Rattle.hi_tree.specs.Growth.{Grows}
use Rattle.hi_tree.specs.Walks.{Climb, IsAbove, direct, further, IsClean, clean, found}
use Rattle.hi_tree.specs.Walks.{StopsAt, here, higher}
use Rattle.hi_tree.proofs.WalkLemmas.{clean-known, clean-above}

-- one walk has what another has of each class that is known to that
pub record Agrees (w v : Climb) : Type 0 where
  pub known : (n : List ℕ) → w.known n ≡ true → v.known n ≡ true
  pub supers : (n : List ℕ) → w.known n ≡ true → v.supers n ≡ w.supers n
  pub sought : (n : List ℕ) → w.known n ≡ true → v.sought n ≡ w.sought n

module _ (w v : Climb) (agrees : Agrees w v) where
  same_at : (n above : List ℕ) (place : ℕ) → w.known n ≡ true → slice_get (v.supers n) place ≡ Some above
      → slice_get (w.supers n) place ≡ Some above
  same_at n above place known e = ap (λ (l : List (List ℕ)). slice_get l place) (sym (agrees.supers n known)) ∙ e

  pub clean_kept : {n : List ℕ} → IsClean w n → IsClean v n
  clean_kept (clean n known free above) =
      clean n (agrees.known n known) (agrees.sought n known ∙ free)
      (λ place a e. clean_kept (above place a (same_at n a place known e)))

  pub found_kept : {path : List (List ℕ)} {n b : List ℕ} → StopsAt w path n (found b) → StopsAt v path n (found b)
  found_kept (here path n fresh known sought) =
      here path n fresh (agrees.known n known) (agrees.sought n known ∙ sought)
  found_kept (higher path n place above stop fresh known free e before r) =
      higher path n place above stop fresh (agrees.known n known) (agrees.sought n known ∙ free)
      (ap (λ (l : List (List ℕ)). slice_get l place) (agrees.supers n known) ∙ e)
      (λ earlier b lt at. clean_kept (before earlier b lt (same_at n b earlier known at))) (found_kept r)

module _ (classes more : List ClassFile) (grows : Grows classes more) where
  -- what is known stays as it is
  pub known_kept : (n : List ℕ) → is_some (known_class classes n) ≡ true → known_class more n ≡ known_class classes n
  known_kept n known = by (known_class classes n) refl known
    where
      by : (o : Option Known) → known_class classes n ≡ o → is_some o ≡ true
          → known_class more n ≡ known_class classes n
      by None e known = absurd (true≢false (sym known))
      by (Some k) e known = grows n k e ∙ sym e

  -- so what is told of it stays
  module _ {X : Type 0} (tell : Option Known → X) where
    pub told_kept : (n : List ℕ) → is_some (known_class classes n) ≡ true
        → tell (known_class more n) ≡ tell (known_class classes n)
    told_kept n known = ap tell (known_kept n known)

  pub climbs_agree : (up : Up) (sought : List ℕ → Known → Bool)
      → Agrees (climb classes up sought) (climb more up sought)
  climbs_agree up sought = record {
    known = λ n known. told_kept (λ (o : Option Known). is_some o) n known ∙ known;
    supers = λ n known. told_kept (λ (o : Option Known). names_above_some up o) n known;
    sought = λ n known. told_kept (λ (o : Option Known). sought_some (sought n) o) n known;
  }

  -- what is directly above a name has a class that is known below it
  pub above_known : (up : Up) (n above : List ℕ) (place : ℕ)
      → slice_get (names_above_some up (known_class classes n)) place ≡ Some above
      → is_some (known_class classes n) ≡ true
  above_known up n above place e = by (known_class classes n) e
    where
      by : (o : Option Known) → slice_get (names_above_some up o) place ≡ Some above → is_some o ≡ true
      by None e = absurd (none-some above e)
      by (Some k) e = refl

  pub step_kept : (up : Up) (n above : List ℕ) (place : ℕ)
      → slice_get (names_above_some up (known_class classes n)) place ≡ Some above
      → slice_get (names_above_some up (known_class more n)) place ≡ Some above
  step_kept up n above place e =
      told_kept (λ (o : Option Known). slice_get (names_above_some up o) place) n (above_known up n above place e) ∙ e

  -- what is above a class stays so
  module _ (up : Up) where
    abbrev old_supers : List ℕ → List (List ℕ)
    old_supers n = names_above_some up (known_class classes n)

    abbrev new_supers : List ℕ → List (List ℕ)
    new_supers n = names_above_some up (known_class more n)

    pub above_kept : {a b : List ℕ} → IsAbove old_supers a b → IsAbove new_supers a b
    above_kept (direct n above place e) = direct n above place (step_kept up n above place e)
    above_kept (further n above top place e r) = further n above top place (step_kept up n above place e) (above_kept r)

  -- and nothing comes to stand above a class of a whole walk
  whole_step : (n above : List ℕ) (place : ℕ) → IsClean (whole_climb classes) n
      → slice_get (supertypes more n) place ≡ Some above → slice_get (supertypes classes n) place ≡ Some above
  whole_step n above place is e =
      sym (told_kept (λ (o : Option Known). slice_get (names_above_some Supertypes o) place) n
      (clean-known (whole_climb classes) is)) ∙ e

  pub above_back : {a b : List ℕ} → IsClean (whole_climb classes) a → IsAbove (supertypes more) a b
      → IsAbove (supertypes classes) a b
  above_back is (direct n above place e) = direct n above place (whole_step n above place is e)
  above_back is (further n above top place e r) =
      let at = whole_step n above place is e in
      further n above top place at (above_back (clean-above (whole_climb classes) is place above at) r)
