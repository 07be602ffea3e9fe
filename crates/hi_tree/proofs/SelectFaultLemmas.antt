-- A call that selects a method has no fault but want of memory, and one that selects none has one other fault at most.
use Rattle.std.proofs.Common.{◌≡◌, ℕ, Bool, true, false, List, inl, inr, Option, Some, None}
use Rattle.std.proofs.Common.{sym, ◌∙◌, ap, subst, refl, true≢false}
use Rattle.std.proofs.lemmas.Option.{none-some, same_Some}
use Rattle.cf_class.specs.declared.class_file.ClassFile.{ClassFile}
use Rattle.jv_base.specs.declared.method.MethodId.{MethodId}
use Rattle.hi_tree.specs.declared.declared.Access.{Access}
use Rattle.hi_tree.specs.declared.declared.Access.TheVariants.{Private}
use Rattle.hi_tree.specs.declared.declared.Declared.{Declared}
use Rattle.hi_tree.specs.declared.fault.TreeFault.{TreeFault}
use Rattle.hi_tree.specs.declared.fault.TreeFault.TheVariants as faults
use Rattle.hi_tree.specs.Classes.{Known, known_class}
use Rattle.hi_tree.specs.Methods.{declared_some, is_virtual, is_virtual_at}
use Rattle.hi_tree.specs.Faults.{IsWalkFault}
use Rattle.hi_tree.specs.Superinterfaces.{whole_climb, IsDefault, IsOnlyDefault, HasTwoDefaults}
use Rattle.hi_tree.specs.Resolution.{holder}
use Rattle.hi_tree.specs.Selection.{IsDeclared, override_climb, IsLeftOpen, HasBody, IsSelectedIn, IsSelected}
use Rattle.hi_tree.specs.Selection.{itself, override, default, IsSelectFault, unknown, undeclared, is_static, no_body}
use Rattle.hi_tree.specs.Selection.{in_own, above, hidden, none, two, memory}
use Rattle.hi_tree.specs.Laws.{IsMemory}
use Rattle.hi_tree.specs.Walks.{Climb, IsClean, Stops, found}
use Rattle.hi_tree.proofs.WalkLemmas.{clean_no_stop, no_path}
use Rattle.hi_tree.proofs.MethodLawLemmas.{one_found, virtual_parts}
use Rattle.hi_tree.proofs.FaultLemmas.{AreOne, memory_or, clean_fault, found_fault, one_walk_fault}

-- why no superinterface method is left
data IsOpenFault (classes : List ClassFile) (class : List ℕ) (m : MethodId) : TreeFault → Type 0 where
  not_whole : (f : TreeFault) → IsWalkFault (whole_climb classes) (holder class) f → IsOpenFault classes class m f
  no_default : IsClean (whole_climb classes) (holder class)
      → ((other : List ℕ) → IsDefault classes (holder class) m.name m.desc other → ⊥)
      → IsOpenFault classes class m faults.NoSuch
  two_defaults : IsClean (whole_climb classes) (holder class) → HasTwoDefaults classes (holder class) m.name m.desc
      → IsOpenFault classes class m faults.Ambiguous

-- why nothing is selected of a method that is neither private nor static
data IsVirtualFault (classes : List ClassFile) (class : List ℕ) (m : MethodId) (d : Declared)
    : TreeFault → Type 0 where
  not_own : (f : TreeFault) → IsWalkFault (override_climb classes m d.access) (holder class) f
      → IsVirtualFault classes class m d f
  abstract_own : (first : List ℕ) → Stops (override_climb classes m d.access) (holder class) (found first)
      → (HasBody classes m first → ⊥) → IsVirtualFault classes class m d faults.NoSuch
  left_open : (f : TreeFault) → IsClean (override_climb classes m d.access) (holder class)
      → IsOpenFault classes class m f → IsVirtualFault classes class m d f

module _ (classes : List ClassFile) (class : List ℕ) (m : MethodId) where
  abbrev whole : Climb
  whole = whole_climb classes

  abbrev start : List ℕ
  start = holder class

  abbrev told : Option Known → Option Declared
  told o = declared_some m.name m.desc o

  not_known : (d : Declared) → known_class classes m.class ≡ None → IsDeclared classes m d → ⊥
  not_known d off decl = none-some d (sym (ap told off) ∙ decl)

  one_open : (f g : TreeFault) → IsOpenFault classes class m f → IsOpenFault classes class m g → AreOne f g
  one_open f g (not_whole x h) (not_whole y k) f_not g_not = one_walk_fault whole start f g h k f_not g_not
  one_open f g (not_whole x h) (no_default is_clean never) f_not g_not =
      absurd (f_not (clean_fault whole start f is_clean h))
  one_open f g (not_whole x h) (two_defaults is_clean are) f_not g_not =
      absurd (f_not (clean_fault whole start f is_clean h))
  one_open f g (no_default is_clean never) (not_whole y k) f_not g_not =
      absurd (g_not (clean_fault whole start g is_clean k))
  one_open f g (no_default is_clean never) (no_default is_clean2 never2) f_not g_not = refl
  one_open f g (no_default is_clean never) (two_defaults is_clean2 are) f_not g_not = absurd (never are.one are.first)
  one_open f g (two_defaults is_clean are) (not_whole y k) f_not g_not =
      absurd (g_not (clean_fault whole start g is_clean k))
  one_open f g (two_defaults is_clean are) (no_default is_clean2 never) f_not g_not = absurd (never are.one are.first)
  one_open f g (two_defaults is_clean are) (two_defaults is_clean2 are2) f_not g_not = refl

  only_open : (f : TreeFault) (selected : List ℕ) → IsClean whole start
      → IsOnlyDefault classes start m.name m.desc selected → IsOpenFault classes class m f → IsMemory f
  only_open f selected is_clean only (not_whole x h) = clean_fault whole start f is_clean h
  only_open f selected is_clean only (no_default is_clean2 never) = absurd (never selected only.default)
  only_open f selected is_clean only (two_defaults is_clean2 are) =
      absurd (are.differ (only.only are.other are.second ∙ sym (only.only are.one are.first)))

  module _ (d : Declared) (decl : IsDeclared classes m d) where
    same_method : (e : Declared) → IsDeclared classes m e → e ≡ d
    same_method e at = same_Some e d (sym at ∙ decl)

    abbrev upward : Climb
    upward = override_climb classes m d.access

    to_own : (P : Declared → Type 0) (e : Declared) → IsDeclared classes m e → P e → P d
    to_own P e at is = subst P (same_method e at) is

    override_fault : (selected : List ℕ) (f : TreeFault) → Stops upward start (found selected)
        → HasBody classes m selected → IsVirtualFault classes class m d f → IsMemory f
    override_fault selected f stops body (not_own x h) = found_fault upward start f selected stops h
    override_fault selected f stops body (abstract_own first stops2 bodiless) =
        absurd (bodiless (subst (λ (c : List ℕ). HasBody classes m c)
        (one_found upward start selected first stops stops2) body))
    override_fault selected f stops body (left_open x is_clean h) =
        absurd (clean_no_stop upward is_clean (no_path upward start) stops)

    default_fault : (selected : List ℕ) (f : TreeFault) → IsClean upward start → IsClean whole start
        → IsOnlyDefault classes start m.name m.desc selected → IsVirtualFault classes class m d f → IsMemory f
    default_fault selected f is_clean all only (not_own x h) = clean_fault upward start f is_clean h
    default_fault selected f is_clean all only (abstract_own first stops body) =
        absurd (clean_no_stop upward is_clean (no_path upward start) stops)
    default_fault selected f is_clean all only (left_open x is_clean2 h) = only_open f selected all only h

    one_virtual : (f g : TreeFault) → IsVirtualFault classes class m d f → IsVirtualFault classes class m d g
        → AreOne f g
    one_virtual f g (not_own x h) (not_own y k) f_not g_not = one_walk_fault upward start f g h k f_not g_not
    one_virtual f g (not_own x h) (abstract_own first stops body) f_not g_not =
        absurd (f_not (found_fault upward start f first stops h))
    one_virtual f g (not_own x h) (left_open y is_clean k) f_not g_not =
        absurd (f_not (clean_fault upward start f is_clean h))
    one_virtual f g (abstract_own first stops body) (not_own y k) f_not g_not =
        absurd (g_not (found_fault upward start g first stops k))
    one_virtual f g (abstract_own first stops body) (abstract_own first2 stops2 body2) f_not g_not = refl
    one_virtual f g (abstract_own first stops body) (left_open y is_clean k) f_not g_not =
        absurd (clean_no_stop upward is_clean (no_path upward start) stops)
    one_virtual f g (left_open x is_clean h) (not_own y k) f_not g_not =
        absurd (g_not (clean_fault upward start g is_clean k))
    one_virtual f g (left_open x is_clean h) (abstract_own first stops body) f_not g_not =
        absurd (clean_no_stop upward is_clean (no_path upward start) stops)
    one_virtual f g (left_open x is_clean h) (left_open y is_clean2 k) f_not g_not = one_open f g h k f_not g_not

    module _ (virtual : is_virtual d ≡ true) where
      no_static : (e : Declared) → IsDeclared classes m e → e.is_static ≡ true → ⊥
      no_static e at st = true≢false (sym (to_own (λ (x : Declared). x.is_static ≡ true) e at st)
          ∙ (virtual_parts d virtual).0)

      no_private : (e : Declared) → IsDeclared classes m e → e.access ≡ Private → ⊥
      no_private e at is = (virtual_parts d virtual).1 (to_own (λ (x : Declared). x.access ≡ Private) e at is)

      left_there : (e : Declared) → IsLeftOpen classes class m e → IsLeftOpen classes class m d
      left_there e left = to_own (λ (x : Declared). IsLeftOpen classes class m x) e left.declared left

      virtual_fault : (f : TreeFault) → IsSelectFault classes class m f → (IsMemory f → ⊥)
          → IsVirtualFault classes class m d f
      virtual_fault f (unknown off) f_not = absurd (not_known d off decl)
      virtual_fault f (undeclared off on) f_not = absurd (none-some d (sym off ∙ decl))
      virtual_fault f (is_static e at st) f_not = absurd (no_static e at st)
      virtual_fault f (no_body e at is body) f_not = absurd (no_private e at is)
      virtual_fault f (in_own e g at is h) f_not =
          not_own f (to_own (λ (x : Declared). IsWalkFault (override_climb classes m x.access) start f) e at h)
      virtual_fault f (above e g at is is_clean h) f_not =
          left_open f (to_own (λ (x : Declared). IsClean (override_climb classes m x.access) start) e at is_clean)
          (not_whole f h)
      virtual_fault f (hidden e first at is stops body) f_not =
          abstract_own first
          (to_own (λ (x : Declared). Stops (override_climb classes m x.access) start (found first)) e at stops) body
      virtual_fault f (none e left never) f_not =
          let there = left_there e left in left_open f there.own (no_default there.whole never)
      virtual_fault f (two e left are) f_not =
          let there = left_there e left in left_open f there.own (two_defaults there.whole are)
      virtual_fault f memory f_not = absurd (f_not refl)

    -- of one that is private or static nothing is selected but itself
    module _ (fixed : is_virtual d ≡ false) where
      not_virtual : (e : Declared) → IsDeclared classes m e → is_virtual e ≡ true → ⊥
      not_virtual e at is = true≢false (sym (to_own (λ (x : Declared). is_virtual x ≡ true) e at is) ∙ fixed)

      fixed_fault : (f : TreeFault) → IsSelectFault classes class m f → (IsMemory f → ⊥) → f ≡ faults.NoSuch
      fixed_fault f (unknown off) f_not = absurd (not_known d off decl)
      fixed_fault f (undeclared off on) f_not = refl
      fixed_fault f (is_static e at st) f_not = refl
      fixed_fault f (no_body e at is body) f_not = refl
      fixed_fault f (in_own e g at is h) f_not = absurd (not_virtual e at is)
      fixed_fault f (above e g at is is_clean h) f_not = absurd (not_virtual e at is)
      fixed_fault f (hidden e first at is stops body) f_not = refl
      fixed_fault f (none e left never) f_not = refl
      fixed_fault f (two e left are) f_not = absurd (not_virtual e left.declared left.overridable)
      fixed_fault f memory f_not = absurd (f_not refl)

      module _ (st : d.is_static ≡ false) (body : d.is_abstract ≡ false) where
        itself_fault : (f : TreeFault) → IsSelectFault classes class m f → IsMemory f
        itself_fault f (unknown off) = absurd (not_known d off decl)
        itself_fault f (undeclared off on) = absurd (none-some d (sym off ∙ decl))
        itself_fault f (is_static e at is) =
            absurd (true≢false (sym (to_own (λ (x : Declared). x.is_static ≡ true) e at is) ∙ st))
        itself_fault f (no_body e at is abstracted) =
            absurd (true≢false (sym (to_own (λ (x : Declared). x.is_abstract ≡ true) e at abstracted) ∙ body))
        itself_fault f (in_own e g at is h) = absurd (not_virtual e at is)
        itself_fault f (above e g at is is_clean h) = absurd (not_virtual e at is)
        itself_fault f (hidden e first at is stops bodies) = absurd (not_virtual e at is)
        itself_fault f (none e left never) = absurd (not_virtual e left.declared left.overridable)
        itself_fault f (two e left are) = absurd (not_virtual e left.declared left.overridable)
        itself_fault f memory = refl

  -- the class of the method is not known, or does not declare it
  unknown_fault : (f : TreeFault) → known_class classes m.class ≡ None → IsSelectFault classes class m f
      → (IsMemory f → ⊥) → f ≡ faults.NotLoaded m.class
  unknown_fault f off (unknown off2) f_not = refl
  unknown_fault f off (undeclared none2 on) f_not = absurd (on off)
  unknown_fault f off (is_static d decl st) f_not = absurd (not_known d off decl)
  unknown_fault f off (no_body d decl is body) f_not = absurd (not_known d off decl)
  unknown_fault f off (in_own d g decl is h) f_not = absurd (not_known d off decl)
  unknown_fault f off (above d g decl is is_clean h) f_not = absurd (not_known d off decl)
  unknown_fault f off (hidden d first decl is stops body) f_not = absurd (not_known d off decl)
  unknown_fault f off (none d left never) f_not = absurd (not_known d off left.declared)
  unknown_fault f off (two d left are) f_not = absurd (not_known d off left.declared)
  unknown_fault f off memory f_not = absurd (f_not refl)

  undeclared_fault : (f : TreeFault) → (known_class classes m.class ≡ None → ⊥)
      → told (known_class classes m.class) ≡ None → IsSelectFault classes class m f → (IsMemory f → ⊥)
      → f ≡ faults.NoSuch
  undeclared_fault f on off (unknown off2) f_not = absurd (on off2)
  undeclared_fault f on off (undeclared off2 on2) f_not = refl
  undeclared_fault f on off (is_static d decl st) f_not = refl
  undeclared_fault f on off (no_body d decl is body) f_not = refl
  undeclared_fault f on off (in_own d g decl is h) f_not = absurd (none-some d (sym off ∙ decl))
  undeclared_fault f on off (above d g decl is is_clean h) f_not = absurd (none-some d (sym off ∙ decl))
  undeclared_fault f on off (hidden d first decl is stops body) f_not = refl
  undeclared_fault f on off (none d left never) f_not = refl
  undeclared_fault f on off (two d left are) f_not = absurd (none-some d (sym off ∙ left.declared))
  undeclared_fault f on off memory f_not = absurd (f_not refl)

  pub selected_fault : (s : MethodId) (f : TreeFault) → IsSelected classes class m s → IsSelectFault classes class m f
      → IsMemory f
  selected_fault s f is fault = elim (memory_or f) [
    | inl is_memory ↦ is_memory
    | inr f_not ↦ by s.class is.in_class f_not
  ]
    where
      by : (c : List ℕ) → IsSelectedIn classes class m c → (IsMemory f → ⊥) → IsMemory f
      by c (itself d decl is_private st body) f_not =
          itself_fault d decl (ap (λ (a : Access). is_virtual_at a d.is_static) is_private) st body f fault
      by c (override d x decl virtual stops body) f_not =
          override_fault d decl x f stops body (virtual_fault d decl virtual f fault f_not)
      by c (default d x left only) f_not =
          default_fault d left.declared x f left.own left.whole only
          (virtual_fault d left.declared left.overridable f fault f_not)

  pub one_select_fault : (f g : TreeFault) → IsSelectFault classes class m f → IsSelectFault classes class m g
      → AreOne f g
  one_select_fault f g h k f_not g_not = by (known_class classes m.class) refl
    where
      by_virtual : (d : Declared) → IsDeclared classes m d → (b : Bool) → is_virtual d ≡ b → f ≡ g
      by_virtual d decl true is =
          one_virtual d decl f g (virtual_fault d decl is f h f_not) (virtual_fault d decl is g k g_not) f_not g_not
      by_virtual d decl false is = fixed_fault d decl is f h f_not ∙ sym (fixed_fault d decl is g k g_not)

      by_told : (o : Option Declared) → told (known_class classes m.class) ≡ o
          → (known_class classes m.class ≡ None → ⊥) → f ≡ g
      by_told None off on = undeclared_fault f on off h f_not ∙ sym (undeclared_fault g on off k g_not)
      by_told (Some d) decl on = by_virtual d decl (is_virtual d) refl

      by : (o : Option Known) → known_class classes m.class ≡ o → f ≡ g
      by None off = unknown_fault f off h f_not ∙ sym (unknown_fault g off k g_not)
      by (Some x) on = by_told (told (known_class classes m.class)) refl (λ off. none-some x (sym off ∙ on))
