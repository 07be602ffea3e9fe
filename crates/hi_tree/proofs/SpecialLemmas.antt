-- What the function of an invokespecial tells: which methods are fixed, and what the walk over superclasses finds.
use Rattle.std.proofs.Common.{◌≡◌, ℕ, Bool, true, false, List, [], ◌∷◌, inl, inr, Contains, Option, Some, None}
use Rattle.std.proofs.Common.{Result, Ok, Err}
use Rattle.std.proofs.Common.{sym, ◌∙◌, ap, subst, refl, true≢false}
use Rattle.std.specs.Prelude.{slice_get, option_map, codes, IfOk, IfErr}
use Rattle.std.proofs.lemmas.Option.{none-some, same_Some}
use Rattle.std.proofs.lemmas.Slice.Eq.{bytes_eq-Decides}
use Rattle.cf_class.specs.declared.class_file.ClassFile.{ClassFile}
use Rattle.jv_base.specs.declared.method.MethodId.{MethodId}
use Rattle.jv_list.proofs.MemberLemmas.{first_member}
use Rattle.hi_tree.specs.declared.declared.Access.{Access}
use Rattle.hi_tree.specs.declared.declared.Access.TheVariants.{Private, Package, Wide}
use Rattle.hi_tree.specs.declared.declared.Declared.{Declared}
use Rattle.hi_tree.specs.declared.fault.TreeFault.{TreeFault}
use Rattle.hi_tree.specs.declared.fault.TreeFault.TheVariants as faults
use Rattle.hi_tree.specs.declared.known.Above.{Above}
use Rattle.hi_tree.specs.declared.known.Up.TheVariants.{Superclasses}
use Rattle.hi_tree.specs.Classes.{Known, known_class}
use Rattle.hi_tree.specs.Supers.{names_above_some, sought_some}
use Rattle.hi_tree.specs.Sought.{class_sought}
use Rattle.hi_tree.specs.Resolution.{IsResolved, IsResolveFault, in_own}
use Rattle.hi_tree.specs.Methods.{declared_some}
use Rattle.hi_tree.specs.Special.{IsFixed, superclass_climb, of_class, IsSpecial, above, other, IsSpecialFault}
use Rattle.hi_tree.specs.Special.{unresolved, looked_up}
use Rattle.hi_tree.specs.Walks.{Climb, StopsAt, Stops, found, here, higher}
use Rattle.hi_tree.specs.Calls.Steps.{above_name}
use Rattle.hi_tree.specs.Calls.Specials.{is_private, is_private_some, IsSuperCall}
use Rattle.hi_tree.proofs.MethodLawLemmas.{same_method}
use Rattle.hi_tree.proofs.SubtypeLemmas.{found_above}

-- the walk that finds another class goes on from where it begins
found_higher : (w : Climb) {path : List (List ℕ)} (name b : List ℕ) → (name ≡ b → ⊥) → StopsAt w path name (found b)
    → (place : ℕ) × (next : List ℕ) × (slice_get (w.supers name) place ≡ Some next)
found_higher w name b differs (here path n fresh known sought) = absurd (differs refl)
found_higher w name b differs (higher path n place next stop fresh known free e before r) = (place, next, e)

-- the first of a list that is not empty
first_there : (l : List (List ℕ)) (n : List ℕ) → slice_get l 0 ≡ Some n → Contains l n
first_there [] n e = absurd (none-some n e)
first_there (x ∷ l) n e = subst (λ (y : List ℕ). Contains (x ∷ l) y) (same_Some x n e) (first_member x l)

no_first : (l : List (List ℕ)) (place : ℕ) (n : List ℕ) → slice_get l 0 ≡ None → slice_get l place ≡ Some n → ⊥
no_first [] place n e at = none-some n at
no_first (x ∷ l) place n e at = none-some x (sym e)

module _ (classes : List ClassFile) (class top : List ℕ) (differs : class ≡ top → ⊥) where
  -- what is found is the class that is sought
  found_top : (b : List ℕ) → Stops (superclass_climb classes top) class (found b)
      → Stops (superclass_climb classes top) class (found top)
  found_top b stops =
      subst (λ (x : List ℕ). Stops (superclass_climb classes top) class (found x))
      (by (known_class classes b) (found_above (superclass_climb classes top) b stops).0) stops
    where
      by : (o : Option Known) → sought_some (class_sought top b) o ≡ true → b ≡ top
      by None e = absurd (true≢false (sym e))
      by (Some k) e = (bytes_eq-Decides b top).0 e

  pub super_call : (b : List ℕ) (o : Option Above) → Stops (superclass_climb classes top) class (found b)
      → option_map above_name o ≡ slice_get (names_above_some Superclasses (known_class classes class)) 0
      → IsSuperCall classes class top o
  super_call b None stops e =
      let h = found_higher (superclass_climb classes top) class top differs (found_top b stops) in
      absurd (no_first (names_above_some Superclasses (known_class classes class)) h.0 h.1 (sym e) h.2)
  super_call b (Some a) stops e =
      let there = first_there (names_above_some Superclasses (known_class classes class)) (above_name a) (sym e) in
      (found_top b stops, there)

pub special_memory : (classes : List ClassFile) (caller : List ℕ) (interface : Bool) (at : MethodId) (fault : TreeFault)
    → fault ≡ faults.NoMemory → IsSpecialFault classes caller interface at fault
special_memory classes caller interface at fault e =
    subst (λ (f : TreeFault). IsSpecialFault classes caller interface at f) (sym e)
    (unresolved faults.NoMemory (in_own faults.NoMemory tt))

private_access : (a : Access) → is_private a ≡ true → a ≡ Private
private_access Private e = refl
private_access Package e = absurd (true≢false (sym e))
private_access Wide e = absurd (true≢false (sym e))

-- the test of the code is whether a method is called as it is resolved
module _ (classes : List ClassFile) (m : MethodId) where
  abbrev told : Option Declared
  told = declared_some m.name m.desc (known_class classes m.class)

  pub private_fixed : (private : Bool) → private ≡ is_private_some told → private ≡ true → IsFixed classes m
  private_fixed private is e = by told refl (sym is ∙ e)
    where
      by : (o : Option Declared) → told ≡ o → is_private_some o ≡ true → IsFixed classes m
      by None at none = absurd (true≢false (sym none))
      by (Some d) at is_so = inr (d, at, private_access d.access is_so)

  pub fixed_private : (private : Bool) → private ≡ is_private_some told → (m.name ≡ codes "<init>" → ⊥)
      → IsFixed classes m → private ≡ true
  fixed_private private is differs (inl same) = absurd (differs same)
  fixed_private private is differs (inr fix) = is ∙ ap is_private_some fix.1 ∙ ap is_private fix.2

-- a method that is not called as it is resolved
module _ (classes : List ClassFile) (caller : List ℕ) (interface : Bool) (at resolved : MethodId)
    (is : IsResolved classes interface at resolved) (loose : IsFixed classes resolved → ⊥)
    (differs : caller ≡ at.class → ⊥) (o : Option Above) (below : IsSuperCall classes caller at.class o) where
  pub none_above : o ≡ None → IsSpecial classes caller interface at resolved
  none_above e =
      other resolved is loose (subst (λ (x : Option Above). IsSuperCall classes caller at.class x) e below)

  module _ (a : Above) (e : o ≡ Some a) (up : MethodId) (class : up.class ≡ above_name a) (name : up.name ≡ at.name)
      (desc : up.desc ≡ at.desc) where
    there : IsSuperCall classes caller at.class (Some a)
    there = subst (λ (x : Option Above). IsSuperCall classes caller at.class x) e below

    same : up ≡ of_class at (above_name a)
    same = same_method up (of_class at (above_name a)) class name desc

    pub above_special : (r : Result MethodId TreeFault) → IfOk r (IsResolved classes false up)
        → IfOk r (IsSpecial classes caller interface at)
    above_special (Ok m) h =
        above resolved m (above_name a) is loose differs there.0 there.1
        (subst (λ (x : MethodId). IsResolved classes false x m) same h)
    above_special (Err f) h = tt

    pub above_fault : (r : Result MethodId TreeFault) → IfErr r (IsResolveFault classes false up)
        → IfErr r (IsSpecialFault classes caller interface at)
    above_fault (Ok m) h = tt
    above_fault (Err f) h =
        looked_up resolved (above_name a) f is loose differs there.0 there.1
        (subst (λ (x : MethodId). IsResolveFault classes false x f) same h)
