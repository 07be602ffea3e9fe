-- An invokespecial calls one method at most; one that calls a method has no fault but want of memory, and one that
-- calls none has one other fault at most.
use Rattle.std.proofs.Common.{◌≡◌, ℕ, Bool, false, List, [], ◌∷◌, inl, inr, Contains, Option, Some, None}
use Rattle.std.proofs.Common.{sym, ◌∙◌, subst, arith}
use Rattle.cf_class.specs.declared.class_file.ClassFile.{ClassFile}
use Rattle.jv_base.specs.declared.method.MethodId.{MethodId}
use Rattle.lib_rows.specs.declared.class.Builtin.{Builtin}
use Rattle.lib_rows.specs.Classes.{superclass_of}
use Rattle.hi_tree.specs.declared.fault.TreeFault.{TreeFault}
use Rattle.hi_tree.specs.declared.known.Up.TheVariants.{Superclasses}
use Rattle.hi_tree.specs.Classes.{Known, built_in, read, known_class}
use Rattle.hi_tree.specs.Supers.{builtin_names, names_above_some}
use Rattle.hi_tree.specs.Resolution.{IsResolved, IsResolveFault}
use Rattle.hi_tree.specs.Special.{IsFixed, superclass_climb, of_class, IsSpecial, fixed, above, own, other}
use Rattle.hi_tree.specs.Special.{IsSpecialFault, unresolved, in_walk, looked_up}
use Rattle.hi_tree.specs.Laws.{IsMemory}
use Rattle.hi_tree.specs.Walks.{Climb}
use Rattle.hi_tree.proofs.WalkLemmas.{Contains_cases, clean_no_stop, no_path}
use Rattle.hi_tree.proofs.MethodLawLemmas.{one_resolved}
use Rattle.hi_tree.proofs.FaultLemmas.{AreOne, clean_fault, found_fault, one_walk_fault, resolved_fault}
use Rattle.hi_tree.proofs.FaultLemmas.{one_resolve_fault}

in_none : (y : List ℕ) → Contains [] y → ⊥
in_none y there = omega (arith, there.1)

in_single : (x y : List ℕ) → Contains (x ∷ []) y → x ≡ y
in_single x y there = elim (Contains_cases x [] y there) [
  | inl same ↦ same
  | inr later ↦ absurd (in_none y later)
]

-- a class has one direct superclass at most
one_super : (o : Option Known) (s t : List ℕ) → Contains (names_above_some Superclasses o) s
    → Contains (names_above_some Superclasses o) t → s ≡ t
one_super None s t there also = absurd (in_none s there)
one_super (Some (built_in b)) s t there also = by (superclass_of b) there also
  where
    by : (o : Option Builtin) → Contains (builtin_names o) s → Contains (builtin_names o) t → s ≡ t
    by None there also = absurd (in_none s there)
    by (Some c) there also = sym (in_single _ s there) ∙ in_single _ t also
one_super (Some (read c)) s t there also = sym (in_single _ s there) ∙ in_single _ t also

module _ (classes : List ClassFile) (caller : List ℕ) (interface : Bool) (at : MethodId) where
  abbrev upward : Climb
  upward = superclass_climb classes at.class

  -- what was resolved is fixed, or it is not
  not_both : (m r : MethodId) → IsResolved classes interface at m → IsResolved classes interface at r
      → IsFixed classes m → (IsFixed classes r → ⊥) → ⊥
  not_both m r is also fix loose =
      loose (subst (λ (x : MethodId). IsFixed classes x) (one_resolved classes interface at m r is also) fix)

  same_super : (s t : List ℕ) → Contains (names_above_some Superclasses (known_class classes caller)) s
      → Contains (names_above_some Superclasses (known_class classes caller)) t → s ≡ t
  same_super s t there also = one_super (known_class classes caller) s t there also

  pub one_special : (a b : MethodId) → IsSpecial classes caller interface at a → IsSpecial classes caller interface at b
      → a ≡ b
  one_special a b (fixed x is fix) (fixed y also fix2) = one_resolved classes interface at a b is also
  one_special a b (fixed x is fix) (above r y s also loose differs stops there looked) =
      absurd (not_both a r is also fix loose)
  one_special a b (fixed x is fix) (own y also loose same) = one_resolved classes interface at a b is also
  one_special a b (fixed x is fix) (other y also loose is_clean) = one_resolved classes interface at a b is also
  one_special a b (above r x s is loose differs stops there looked) (fixed y also fix) =
      absurd (not_both b r also is fix loose)
  one_special a b (above r x s is loose differs stops there looked)
      (above q y t also loose2 differs2 stops2 there2 looked2) =
      one_resolved classes false (of_class at s) a b looked
      (subst (λ (n : List ℕ). IsResolved classes false (of_class at n) b) (same_super t s there2 there) looked2)
  one_special a b (above r x s is loose differs stops there looked) (own y also loose2 same) = absurd (differs same)
  one_special a b (above r x s is loose differs stops there looked) (other y also loose2 is_clean) =
      absurd (clean_no_stop upward is_clean (no_path upward caller) stops)
  one_special a b (own x is loose same) (fixed y also fix) = one_resolved classes interface at a b is also
  one_special a b (own x is loose same) (above q y t also loose2 differs stops there looked) = absurd (differs same)
  one_special a b (own x is loose same) (own y also loose2 same2) = one_resolved classes interface at a b is also
  one_special a b (own x is loose same) (other y also loose2 is_clean) = one_resolved classes interface at a b is also
  one_special a b (other x is loose is_clean) (fixed y also fix) = one_resolved classes interface at a b is also
  one_special a b (other x is loose is_clean) (above q y t also loose2 differs stops there looked) =
      absurd (clean_no_stop upward is_clean (no_path upward caller) stops)
  one_special a b (other x is loose is_clean) (own y also loose2 same) = one_resolved classes interface at a b is also
  one_special a b (other x is loose is_clean) (other y also loose2 is_clean2) =
      one_resolved classes interface at a b is also

  -- the reference of what is called means a method
  special_resolved : (m : MethodId) → IsSpecial classes caller interface at m
      → (r : MethodId) × IsResolved classes interface at r
  special_resolved m (fixed x is fix) = (m, is)
  special_resolved m (above r x s is loose differs stops there looked) = (r, is)
  special_resolved m (own x is loose same) = (m, is)
  special_resolved m (other x is loose is_clean) = (m, is)

  pub special_fault : (m : MethodId) (f : TreeFault) → IsSpecial classes caller interface at m
      → IsSpecialFault classes caller interface at f → IsMemory f
  special_fault m f is (unresolved g h) =
      let r = special_resolved m is in resolved_fault classes interface at r.0 f r.1 h
  special_fault m f (fixed x is fix) (in_walk r g also loose differs h) = absurd (not_both m r is also fix loose)
  special_fault m f (fixed x is fix) (looked_up r s g also loose differs stops there h) =
      absurd (not_both m r is also fix loose)
  special_fault m f (above q x t is loose2 differs2 stops there looked) (in_walk r g also loose differs h) =
      found_fault upward caller f at.class stops h
  special_fault m f (above q x t is loose2 differs2 stops there looked)
      (looked_up r s g also loose differs stops2 there2 h) =
      resolved_fault classes false (of_class at t) m f looked
      (subst (λ (n : List ℕ). IsResolveFault classes false (of_class at n) f) (same_super s t there2 there) h)
  special_fault m f (own x is loose2 same) (in_walk r g also loose differs h) = absurd (differs same)
  special_fault m f (own x is loose2 same) (looked_up r s g also loose differs stops there h) = absurd (differs same)
  special_fault m f (other x is loose2 is_clean) (in_walk r g also loose differs h) =
      clean_fault upward caller f is_clean h
  special_fault m f (other x is loose2 is_clean) (looked_up r s g also loose differs stops there h) =
      absurd (clean_no_stop upward is_clean (no_path upward caller) stops)

  pub one_special_fault : (f g : TreeFault) → IsSpecialFault classes caller interface at f
      → IsSpecialFault classes caller interface at g → AreOne f g
  one_special_fault f g (unresolved x h) (unresolved y k) f_not g_not =
      one_resolve_fault classes interface at f g h k f_not g_not
  one_special_fault f g (unresolved x h) (in_walk q y also loose2 differs2 k) f_not g_not =
      absurd (f_not (resolved_fault classes interface at q f also h))
  one_special_fault f g (unresolved x h) (looked_up q t y also loose2 differs2 stops2 there2 k) f_not g_not =
      absurd (f_not (resolved_fault classes interface at q f also h))
  one_special_fault f g (in_walk r x is loose differs h) (unresolved y k) f_not g_not =
      absurd (g_not (resolved_fault classes interface at r g is k))
  one_special_fault f g (in_walk r x is loose differs h) (in_walk q y also loose2 differs2 k) f_not g_not =
      one_walk_fault upward caller f g h k f_not g_not
  one_special_fault f g (in_walk r x is loose differs h) (looked_up q t y also loose2 differs2 stops2 there2 k)
      f_not g_not = absurd (f_not (found_fault upward caller f at.class stops2 h))
  one_special_fault f g (looked_up r s x is loose differs stops there h) (unresolved y k) f_not g_not =
      absurd (g_not (resolved_fault classes interface at r g is k))
  one_special_fault f g (looked_up r s x is loose differs stops there h) (in_walk q y also loose2 differs2 k)
      f_not g_not = absurd (g_not (found_fault upward caller g at.class stops k))
  one_special_fault f g (looked_up r s x is loose differs stops there h)
      (looked_up q t y also loose2 differs2 stops2 there2 k) f_not g_not =
      one_resolve_fault classes false (of_class at s) f g h
      (subst (λ (n : List ℕ). IsResolveFault classes false (of_class at n) g) (same_super t s there2 there) k)
      f_not g_not
