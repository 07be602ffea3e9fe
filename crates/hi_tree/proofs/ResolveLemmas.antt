-- What resolution and selection answer, from what is chosen.
use Rattle.std.proofs.Common.{◌≡◌, ℕ, Bool, true, false, List, Option, Some, None, sym, ◌∙◌, subst, true≢false, refl}
use Rattle.std.proofs.lemmas.Option.{same_Some, none-some}
use Rattle.cf_class.specs.declared.class_file.ClassFile.{ClassFile}
use Rattle.jv_base.specs.declared.method.MethodId.{MethodId}
use Rattle.hi_tree.specs.declared.fault.TreeFault.{TreeFault}
use Rattle.hi_tree.specs.declared.fault.TreeFault.TheVariants as faults
use Rattle.hi_tree.specs.declared.known.Above.{Above}
use Rattle.hi_tree.specs.declared.walk.Walked.{Walked}
use Rattle.hi_tree.specs.declared.walk.Walked.TheVariants as walked
use Rattle.hi_tree.specs.Classes.{Known, known_class}
use Rattle.hi_tree.specs.declared.known.Up.{Up}
use Rattle.hi_tree.specs.Supers.{climb, sought_some}
use Rattle.hi_tree.specs.Sought.{method_sought, nothing_sought}
use Rattle.hi_tree.specs.Faults.{IsWalkFault}
use Rattle.hi_tree.specs.Calls.Steps.{above_name}
use Rattle.hi_tree.specs.Walks.{Climb, IsClean, Stops, found}
use Rattle.hi_tree.specs.Calls.Walking.{IsWalked}
use Rattle.hi_tree.proofs.SubtypeLemmas.{found_above}
use Rattle.hi_tree.specs.Superinterfaces.{whole_climb, IsOffered, IsOnlyDefault, HasTwoDefaults}
use Rattle.hi_tree.specs.Resolution.{holder, own_up, own_climb, IsInherited, IsDeclaredBy, own, default, any}
use Rattle.hi_tree.specs.Resolution.{IsResolveFault, in_own, above, none}
use Rattle.hi_tree.specs.Calls.Choosing.{Choice, taken_from, taken_of, AreDefaults, IsLeastOf, IsChosen}

-- a walk that does not end at a class is whole
pub clean_end : (w : Climb) (start : List ℕ) (x : Walked) → IsWalked w start x
    → ((a : Above) → x ≡ walked.Found a → ⊥) → IsClean w start
clean_end w start (walked.Found a) is not_found = absurd (not_found a refl)
clean_end w start (walked.Clean done) is not_found = is.clean

-- a walk that looks for nothing does not end at a class
pub nothing_found : (classes : List ClassFile) (start b : List ℕ) → Stops (whole_climb classes) start (found b) → ⊥
nothing_found classes start b stops =
    by (known_class classes b) (found_above (whole_climb classes) b stops).0
  where
    by : (k : Option Known) → sought_some (nothing_sought b) k ≡ true → ⊥
    by None e = true≢false (sym e)
    by (Some k) e = true≢false (sym e)

module _ (classes : List ClassFile) (class name desc : List ℕ) where
  not_two : HasTwoDefaults classes class name desc → (other : List ℕ)
      → IsOnlyDefault classes class name desc other → ⊥
  not_two two other only =
      two.differ (only.only two.other two.second ∙ sym (only.only two.one two.first))

module _ (classes : List ClassFile) (interface : Bool) (at : MethodId) where
  pub taken_declared : (c : Choice) (class : List ℕ) → IsInherited classes interface at
      → IsChosen classes (holder at.class) at.name at.desc c → taken_of c ≡ Some class
      → IsDeclaredBy classes interface at class
  taken_declared c class inherited is e = by c.default c.another c.least is.defaults is.least e
    where
      by : (d : Option (List ℕ)) (another : Bool) (l : Option (List ℕ))
          → AreDefaults classes (holder at.class) at.name at.desc d another
          → IsLeastOf classes (holder at.class) at.name at.desc l → taken_from d another l ≡ Some class
          → IsDeclaredBy classes interface at class
      by (Some d) false l only least e =
          subst (λ (x : List ℕ). IsDeclaredBy classes interface at x) (same_Some d class e) (default d inherited only)
      by (Some d) true (Some l) two least e =
          subst (λ (x : List ℕ). IsDeclaredBy classes interface at x) (same_Some l class e)
          (any l inherited (not_two classes (holder at.class) at.name at.desc two) least)
      by (Some d) true None two least e = absurd (none-some class e)
      by None another (Some l) never least e =
          subst (λ (x : List ℕ). IsDeclaredBy classes interface at x) (same_Some l class e)
          (any l inherited (λ other only. never other only.default) least)
      by None another None never least e = absurd (none-some class e)

  pub none_taken : (c : Choice) → IsChosen classes (holder at.class) at.name at.desc c → taken_of c ≡ None
      → (other : List ℕ) → IsOffered classes (holder at.class) at.name at.desc other → ⊥
  none_taken c is e = by c.default c.another c.least is.defaults is.least e
    where
      by : (d : Option (List ℕ)) (another : Bool) (l : Option (List ℕ))
          → AreDefaults classes (holder at.class) at.name at.desc d another
          → IsLeastOf classes (holder at.class) at.name at.desc l → taken_from d another l ≡ None
          → (other : List ℕ) → IsOffered classes (holder at.class) at.name at.desc other → ⊥
      by (Some d) false l only least e = absurd (none-some d (sym e))
      by (Some d) true (Some l) two least e = absurd (none-some l (sym e))
      by (Some d) true None two least e = least
      by None another (Some l) never least e = absurd (none-some l (sym e))
      by None another None never least e = least

  pub resolve_memory : (fault : TreeFault) → fault ≡ faults.NoMemory → IsResolveFault classes interface at fault
  resolve_memory fault e =
      subst (λ (f : TreeFault). IsResolveFault classes interface at f) (sym e) (in_own faults.NoMemory tt)

-- what a walk of the code tells of the walk that looks for the method
module _ (classes : List ClassFile) (interface : Bool) (at : MethodId) (u : Up) (start : List ℕ)
    (up_is : u ≡ own_up interface) (start_is : start ≡ holder at.class) where
  abbrev walk_of : Up → Climb
  walk_of v = climb classes v (method_sought at.name at.desc)

  own_walk : (P : Climb → List ℕ → Type 0) → P (walk_of u) start → P (own_climb classes interface at) (holder at.class)
  own_walk P h = subst (λ (n : List ℕ). P (own_climb classes interface at) n) start_is
      (subst (λ (v : Up). P (walk_of v) start) up_is h)

  pub own_declared : (x : Walked) (a : Above) (n : List ℕ) → IsWalked (walk_of u) start x → x ≡ walked.Found a
      → n ≡ above_name a → IsDeclaredBy classes interface at n
  own_declared x a n is e named =
      subst (λ (k : List ℕ). IsDeclaredBy classes interface at k) (sym named)
      (own (above_name a) (own_walk (λ w k. Stops w k (found (above_name a)))
      (subst (λ (y : Walked). IsWalked (walk_of u) start y) e is)))

  pub own_fault : (fault : TreeFault) → IsWalkFault (walk_of u) start fault → IsResolveFault classes interface at fault
  own_fault fault is = in_own fault (own_walk (λ w k. IsWalkFault w k fault) is)

  module _ (x : Walked) (is : IsWalked (walk_of u) start x) (not_found : (a : Above) → x ≡ walked.Found a → ⊥) where
    own_clean : IsClean (own_climb classes interface at) (holder at.class)
    own_clean = own_walk (λ w k. IsClean w k) (clean_end (walk_of u) start x is not_found)

    pub above_fault : (fault : TreeFault) → IsWalkFault (whole_climb classes) start fault
        → IsResolveFault classes interface at fault
    above_fault fault h =
        above fault own_clean (subst (λ (k : List ℕ). IsWalkFault (whole_climb classes) k fault) start_is h)

    module _ (whole : IsClean (whole_climb classes) start) (c : Choice)
        (chosen : IsChosen classes start at.name at.desc c) where
      inherited : IsInherited classes interface at
      inherited = record {
        own = own_clean;
        whole = subst (λ (k : List ℕ). IsClean (whole_climb classes) k) start_is whole;
      }

      chosen_there : IsChosen classes (holder at.class) at.name at.desc c
      chosen_there = subst (λ (k : List ℕ). IsChosen classes k at.name at.desc c) start_is chosen

      pub chosen_declared : (n : List ℕ) → taken_of c ≡ Some n → IsDeclaredBy classes interface at n
      chosen_declared n e = taken_declared classes interface at c n inherited chosen_there e

      pub chosen_none : taken_of c ≡ None → IsResolveFault classes interface at faults.NoSuch
      chosen_none e = none inherited (none_taken classes interface at c chosen_there e)
