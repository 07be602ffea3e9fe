-- A reference that has a target has no fault but want of memory, and one that has none has one other fault at most.
use Rattle.std.proofs.Common.{◌≡◌, ℕ, Bool, true, false, List, ◌⊎◌, inl, inr, sym, ◌∙◌, ap, refl, true≢false}
use Rattle.cf_class.specs.declared.class_file.ClassFile.{ClassFile}
use Rattle.jv_base.specs.declared.method.MethodId.{MethodId}
use Rattle.jv_base.specs.declared.method.FieldId.{FieldId}
use Rattle.hi_tree.specs.declared.fault.TreeFault.{TreeFault}
use Rattle.hi_tree.specs.declared.fault.TreeFault.TheVariants as faults
use Rattle.hi_tree.specs.Faults.{IsWalkFault}
use Rattle.hi_tree.specs.Fields.{field_climb, IsField, IsFieldFault}
use Rattle.hi_tree.specs.Superinterfaces.{whole_climb}
use Rattle.hi_tree.specs.Resolution.{holder, own_climb, IsDeclaredBy, own, default, any, IsResolved}
use Rattle.hi_tree.specs.Resolution.{IsResolveFault, in_own, above, none}
use Rattle.hi_tree.specs.Laws.{IsMemory}
use Rattle.hi_tree.specs.Walks.{Climb, IsClean, Stop, Stops, found, not_known, circular}
use Rattle.hi_tree.proofs.WalkLemmas.{one_stop, clean_no_stop, no_path}
use Rattle.hi_tree.proofs.MethodLawLemmas.{one_found}

-- two faults of one cause
abbrev pub AreOne : TreeFault → TreeFault → Type 0
AreOne f g = (IsMemory f → ⊥) → (IsMemory g → ⊥) → f ≡ g

is_memory : TreeFault → Bool
is_memory faults.NoMemory = true
is_memory other = false

-- a fault is want of memory, or another
pub memory_or : (f : TreeFault) → IsMemory f ⊎ (IsMemory f → ⊥)
unfolding is_memory
memory_or faults.NoMemory = inl refl
memory_or (faults.NotLoaded missing) = inr (λ e. true≢false (sym (ap is_memory e)))
memory_or faults.NoSuch = inr (λ e. true≢false (sym (ap is_memory e)))
memory_or faults.Ambiguous = inr (λ e. true≢false (sym (ap is_memory e)))
memory_or faults.Circular = inr (λ e. true≢false (sym (ap is_memory e)))

missing_of : Stop → TreeFault
missing_of (not_known name) = faults.NotLoaded name
missing_of circular = faults.Circular
missing_of (found name) = faults.NoSuch

is_found : Stop → Bool
is_found (found name) = true
is_found other = false

module _ (w : Climb) (name : List ℕ) where
  pub clean_fault : (f : TreeFault) → IsClean w name → IsWalkFault w name f → IsMemory f
  clean_fault (faults.NotLoaded missing) is stops = absurd (clean_no_stop w is (no_path w name) stops)
  clean_fault faults.Circular is stops = absurd (clean_no_stop w is (no_path w name) stops)
  clean_fault faults.NoMemory is stops = refl
  clean_fault other is stops = absurd stops

  not_stopped : (b : List ℕ) (s : Stop) → is_found s ≡ false → Stops w name (found b) → Stops w name s → ⊥
  unfolding is_found
  not_stopped b s differs at_b there = true≢false (ap is_found (one_stop w (no_path w name) at_b there) ∙ differs)

  pub found_fault : (f : TreeFault) (b : List ℕ) → Stops w name (found b) → IsWalkFault w name f → IsMemory f
  unfolding is_found
  found_fault (faults.NotLoaded missing) b at_b stops = absurd (not_stopped b (not_known missing) refl at_b stops)
  found_fault faults.Circular b at_b stops = absurd (not_stopped b circular refl at_b stops)
  found_fault faults.NoMemory b at_b stops = refl
  found_fault other b at_b stops = absurd stops

  pub one_walk_fault : (f g : TreeFault) → IsWalkFault w name f → IsWalkFault w name g → AreOne f g
  unfolding missing_of
  one_walk_fault faults.NoMemory g s t f_not g_not = absurd (f_not refl)
  one_walk_fault f faults.NoMemory s t f_not g_not = absurd (g_not refl)
  one_walk_fault (faults.NotLoaded a) (faults.NotLoaded b) s t f_not g_not =
      ap missing_of (one_stop w (no_path w name) s t)
  one_walk_fault (faults.NotLoaded a) faults.Circular s t f_not g_not =
      ap missing_of (one_stop w (no_path w name) s t)
  one_walk_fault faults.Circular (faults.NotLoaded b) s t f_not g_not =
      ap missing_of (one_stop w (no_path w name) s t)
  one_walk_fault faults.Circular faults.Circular s t f_not g_not = refl
  one_walk_fault faults.NoSuch g s t f_not g_not = absurd s
  one_walk_fault faults.Ambiguous g s t f_not g_not = absurd s
  one_walk_fault f faults.NoSuch s t f_not g_not = absurd t
  one_walk_fault f faults.Ambiguous s t f_not g_not = absurd t

same_field : (a b : FieldId) → a.class ≡ b.class → a.name ≡ b.name → a.desc ≡ b.desc → a ≡ b
same_field a b class name desc = λ i. record { class = class i; name = name i; desc = desc i }

module _ (classes : List ClassFile) (at : FieldId) where
  abbrev way : Climb
  way = field_climb classes at

  pub one_field : (a b : FieldId) → IsField classes at a → IsField classes at b → a ≡ b
  one_field a b is there =
      same_field a b (one_found way at.class a.class b.class is.first there.first) (is.name ∙ sym there.name)
      (is.desc ∙ sym there.desc)

  pub field_fault : (x : FieldId) (f : TreeFault) → IsField classes at x → IsFieldFault classes at f → IsMemory f
  field_fault x faults.NoSuch is is_clean = absurd (clean_no_stop way is_clean (no_path way at.class) is.first)
  field_fault x f is stops = found_fault way at.class f x.class is.first stops

  pub one_field_fault : (f g : TreeFault) → IsFieldFault classes at f → IsFieldFault classes at g → AreOne f g
  one_field_fault faults.NoSuch faults.NoSuch is_clean is_clean2 f_not g_not = refl
  one_field_fault faults.NoSuch g is_clean stops f_not g_not =
      absurd (g_not (clean_fault way at.class g is_clean stops))
  one_field_fault f faults.NoSuch stops is_clean f_not g_not =
      absurd (f_not (clean_fault way at.class f is_clean stops))
  one_field_fault f g s t f_not g_not = one_walk_fault way at.class f g s t f_not g_not

module _ (classes : List ClassFile) (interface : Bool) (at : MethodId) where
  abbrev upward : Climb
  upward = own_climb classes interface at

  abbrev whole : Climb
  whole = whole_climb classes

  abbrev start : List ℕ
  start = holder at.class

  declared_fault : (class : List ℕ) (f : TreeFault) → IsDeclaredBy classes interface at class
      → IsResolveFault classes interface at f → IsMemory f
  declared_fault class f (own x stops) (in_own g h) = found_fault upward start f x stops h
  declared_fault class f (own x stops) (above g is_clean h) =
      absurd (clean_no_stop upward is_clean (no_path upward start) stops)
  declared_fault class f (own x stops) (none inherited never) =
      absurd (clean_no_stop upward inherited.own (no_path upward start) stops)
  declared_fault class f (default x inherited only) (in_own g h) = clean_fault upward start f inherited.own h
  declared_fault class f (default x inherited only) (above g is_clean h) = clean_fault whole start f inherited.whole h
  declared_fault class f (default x inherited only) (none inherited2 never) =
      absurd (never x only.default.maximal.offered)
  declared_fault class f (any x inherited no_only least) (in_own g h) = clean_fault upward start f inherited.own h
  declared_fault class f (any x inherited no_only least) (above g is_clean h) =
      clean_fault whole start f inherited.whole h
  declared_fault class f (any x inherited no_only least) (none inherited2 never) = absurd (never x least.offered)

  pub resolved_fault : (m : MethodId) (f : TreeFault) → IsResolved classes interface at m
      → IsResolveFault classes interface at f → IsMemory f
  resolved_fault m f is fault = declared_fault m.class f is.declared fault

  pub one_resolve_fault : (f g : TreeFault) → IsResolveFault classes interface at f
      → IsResolveFault classes interface at g → AreOne f g
  one_resolve_fault f g (in_own x h) (in_own y k) f_not g_not = one_walk_fault upward start f g h k f_not g_not
  one_resolve_fault f g (in_own x h) (above y is_clean k) f_not g_not =
      absurd (f_not (clean_fault upward start f is_clean h))
  one_resolve_fault f g (in_own x h) (none inherited never) f_not g_not =
      absurd (f_not (clean_fault upward start f inherited.own h))
  one_resolve_fault f g (above x is_clean h) (in_own y k) f_not g_not =
      absurd (g_not (clean_fault upward start g is_clean k))
  one_resolve_fault f g (above x is_clean h) (above y is_clean2 k) f_not g_not =
      one_walk_fault whole start f g h k f_not g_not
  one_resolve_fault f g (above x is_clean h) (none inherited never) f_not g_not =
      absurd (f_not (clean_fault whole start f inherited.whole h))
  one_resolve_fault f g (none inherited never) (in_own y k) f_not g_not =
      absurd (g_not (clean_fault upward start g inherited.own k))
  one_resolve_fault f g (none inherited never) (above y is_clean k) f_not g_not =
      absurd (g_not (clean_fault whole start g inherited.whole k))
  one_resolve_fault f g (none inherited never) (none inherited2 never2) f_not g_not = refl
