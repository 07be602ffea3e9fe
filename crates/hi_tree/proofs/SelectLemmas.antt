-- What selection answers, from what is chosen.
use Rattle.std.proofs.Common.{◌≡◌, ℕ, Bool, true, false, List, Option, Some, None, sym, ◌∙◌, subst, refl}
use Rattle.std.proofs.Common.{true≢false}
use Rattle.cf_class.specs.declared.class_file.ClassFile.{ClassFile}
use Rattle.jv_base.specs.declared.method.MethodId.{MethodId}
use Rattle.hi_tree.specs.declared.declared.Access.{Access}
use Rattle.hi_tree.specs.declared.declared.Access.TheVariants.{Private, Package, Wide}
use Rattle.hi_tree.specs.declared.declared.Declared.{Declared}
use Rattle.hi_tree.specs.declared.fault.TreeFault.{TreeFault}
use Rattle.hi_tree.specs.declared.fault.TreeFault.TheVariants as faults
use Rattle.hi_tree.specs.declared.known.Above.{Above}
use Rattle.hi_tree.specs.declared.walk.Walked.{Walked}
use Rattle.hi_tree.specs.declared.walk.Walked.TheVariants as walked
use Rattle.hi_tree.specs.Classes.{known_class}
use Rattle.hi_tree.specs.Faults.{IsWalkFault}
use Rattle.hi_tree.specs.Methods.{is_virtual, is_virtual_at, declared_some, has_body_some}
use Rattle.hi_tree.specs.Superinterfaces.{whole_climb}
use Rattle.hi_tree.specs.Resolution.{holder}
use Rattle.hi_tree.specs.Selection.{IsDeclared, HasBody, IsLeftOpen, override_climb, IsSelectedIn, override}
use Rattle.hi_tree.specs.Selection.{default, IsSelectFault, unknown, undeclared, in_own, above, hidden, none, two}
use Rattle.hi_tree.specs.Selection.{memory}
use Rattle.hi_tree.specs.Walks.{IsClean, Stops, found}
use Rattle.hi_tree.specs.Calls.Steps.{above_name}
use Rattle.hi_tree.specs.Calls.Walking.{IsWalked}
use Rattle.hi_tree.specs.Calls.Choosing.{Choice, AreDefaults, IsChosen, IsDeclaredFault}
use Rattle.hi_tree.proofs.ResolveLemmas.{clean_end}

module _ (classes : List ClassFile) (class : List ℕ) (m : MethodId) where
  pub declared_fault : (fault : TreeFault) → IsDeclaredFault classes m fault → IsSelectFault classes class m fault
  declared_fault (faults.NotLoaded missing) is =
      subst (λ (n : List ℕ). IsSelectFault classes class m (faults.NotLoaded n)) (sym is.0) (unknown is.1)
  declared_fault faults.NoSuch is = undeclared is.0 is.1
  declared_fault faults.NoMemory is = memory
  declared_fault faults.Ambiguous is = absurd is
  declared_fault faults.Circular is = absurd is

  pub select_memory : (fault : TreeFault) → fault ≡ faults.NoMemory → IsSelectFault classes class m fault
  select_memory fault e = subst (λ (f : TreeFault). IsSelectFault classes class m f) (sym e) memory

-- a method that is neither private nor static can be overridden
pub virtual_from : (d : Declared) → d.is_static ≡ false → (d.access ≡ Private → ⊥) → is_virtual d ≡ true
virtual_from d not_static not_private = by d.access d.is_static not_static not_private
  where
    by : (a : Access) (s : Bool) → s ≡ false → (a ≡ Private → ⊥) → is_virtual_at a s ≡ true
    by Private s e not_private = absurd (not_private refl)
    by Package false e not_private = refl
    by Package true e not_private = absurd (true≢false e)
    by Wide false e not_private = refl
    by Wide true e not_private = absurd (true≢false e)

-- what a walk of the code tells of the walk that looks for what overrides the method
module _ (classes : List ClassFile) (class : List ℕ) (m : MethodId) (d : Declared) (decl : IsDeclared classes m d)
    (overridable : is_virtual d ≡ true) (start : List ℕ) (start_is : start ≡ holder class) where
  pub own_fault : (fault : TreeFault) → IsWalkFault (override_climb classes m d.access) start fault
      → IsSelectFault classes class m fault
  own_fault fault is =
      in_own d fault decl overridable
      (subst (λ (k : List ℕ). IsWalkFault (override_climb classes m d.access) k fault) start_is is)

  module _ (x : Walked) (is : IsWalked (override_climb classes m d.access) start x) where
    module _ (a : Above) (e : x ≡ walked.Found a) where
      stops_there : Stops (override_climb classes m d.access) (holder class) (found (above_name a))
      stops_there =
          subst (λ (k : List ℕ). Stops (override_climb classes m d.access) k (found (above_name a))) start_is
          (subst (λ (y : Walked). IsWalked (override_climb classes m d.access) start y) e is)

      pub own_selected : (n : List ℕ) → n ≡ above_name a → HasBody classes m (above_name a)
          → IsSelectedIn classes class m n
      own_selected n named body =
          subst (λ (k : List ℕ). IsSelectedIn classes class m k) (sym named)
          (override d (above_name a) decl overridable stops_there body)

      pub own_hidden : has_body_some (declared_some m.name m.desc (known_class classes (above_name a))) ≡ false
          → IsSelectFault classes class m faults.NoSuch
      own_hidden abstract =
          hidden d (above_name a) decl overridable stops_there (λ body. true≢false (sym body ∙ abstract))

    module _ (not_found : (a : Above) → x ≡ walked.Found a → ⊥) where
      own_clean : IsClean (override_climb classes m d.access) (holder class)
      own_clean =
          subst (λ (k : List ℕ). IsClean (override_climb classes m d.access) k) start_is
          (clean_end (override_climb classes m d.access) start x is not_found)

      pub above_fault : (fault : TreeFault) → IsWalkFault (whole_climb classes) start fault
          → IsSelectFault classes class m fault
      above_fault fault h =
          above d fault decl overridable own_clean
          (subst (λ (k : List ℕ). IsWalkFault (whole_climb classes) k fault) start_is h)

      module _ (whole : IsClean (whole_climb classes) start) (c : Choice)
          (chosen : IsChosen classes start m.name m.desc c) where
        left_open : IsLeftOpen classes class m d
        left_open = record {
          declared = decl;
          overridable = overridable;
          own = own_clean;
          whole = subst (λ (k : List ℕ). IsClean (whole_climb classes) k) start_is whole;
        }

        defaults_there : AreDefaults classes (holder class) m.name m.desc c.default c.another
        defaults_there = subst (λ (k : List ℕ). AreDefaults classes k m.name m.desc c.default c.another) start_is
            chosen.defaults

        pub default_selected : (n : List ℕ) → c.default ≡ Some n → c.another ≡ false → IsSelectedIn classes class m n
        default_selected n e another =
            default d n left_open
            (subst (λ (t : Bool). AreDefaults classes (holder class) m.name m.desc (Some n) t) another
            (subst (λ (o : Option (List ℕ)). AreDefaults classes (holder class) m.name m.desc o c.another) e
            defaults_there))

        pub default_none : c.default ≡ None → IsSelectFault classes class m faults.NoSuch
        default_none e =
            none d left_open (subst (λ (o : Option (List ℕ)). AreDefaults classes (holder class) m.name m.desc o
            c.another) e defaults_there)

        pub default_two : (n : List ℕ) → c.default ≡ Some n → c.another ≡ true
            → IsSelectFault classes class m faults.Ambiguous
        default_two n e another =
            two d left_open
            (subst (λ (t : Bool). AreDefaults classes (holder class) m.name m.desc (Some n) t) another
            (subst (λ (o : Option (List ℕ)). AreDefaults classes (holder class) m.name m.desc o c.another) e
            defaults_there))
