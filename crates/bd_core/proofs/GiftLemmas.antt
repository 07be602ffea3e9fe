-- What a member gives by itself, rule by rule.
use Rattle.std.proofs.Common.{◌≡◌, ◌⊎◌, ℕ, Bool, List, [], ◌∷◌, ◌++◌, map, Contains}
use Rattle.std.proofs.Common.{refl, sym, ap, subst, ◌∙◌, inl, inr}
use Rattle.jv_base.specs.declared.method.MethodId.{MethodId}
use Rattle.hi_tree.specs.declared.known.Up.TheVariants.{Superclasses}
use Rattle.hi_tree.specs.Classes.{known_class}
use Rattle.hi_tree.specs.Supers.{names_above_some}
use Rattle.hi_tree.specs.Subtypes.{supertypes}
use Rattle.lib_rows.specs.declared.class.Builtin.{Builtin}
use Rattle.lib_rows.specs.declared.method.LibMethod.{LibMethod}
use Rattle.lib_rows.specs.Classes.{class_name}
use Rattle.lib_rows.specs.Rows.{IsRow}
use Rattle.bd_core.specs.declared.member.Member.{Member}
use Rattle.bd_core.specs.declared.member.Member.TheVariants.{Known, Method, Made, Called, Initialised, Under}
use Rattle.bd_core.specs.Given.{Given}
use Rattle.bd_core.specs.Rows.{null_exceptions, index_exceptions, row_exceptions}
use Rattle.bd_core.specs.Rules.{IsSuper, FromMember, super, made, itself, above, super_initialised, initialised}
use Rattle.bd_core.specs.Rules.{declared, row_text, row_raises}
use Rattle.bd_core.specs.Calls.Adds.{Adds, Is}
use Rattle.bd_core.specs.Calls.Gives.{IsSuperGift, IsInitialiserGift, IsTextGift, Exceptions, IsRowGift}
use Rattle.std.proofs.lemmas.List.Elements.{Contains-append_left, Contains-append_right, Contains-append_cases}
use Rattle.jv_list.proofs.MemberLemmas.{none_member, one_member, first_member}
use Rattle.bd_core.proofs.AddsLemmas.{adds_nothing, adds_both, adds_same, adds_map, MadeOf}

module _ (g : Given) (old new : List Member) where
  -- the classes above one that is known
  from_known : (class : List ℕ) (x : Member) → FromMember g (Known class) x
      → (top : List ℕ) × IsSuper g class top × (x ≡ Known top)
  from_known class x (super _ top is) = (top, is, refl)

  pub supers : (class : List ℕ) (names : List (List ℕ)) → names ≡ supertypes g.classes class
      → new ≡ old ++ map Known names → Adds (FromMember g (Known class)) old new
  supers class names e grows =
      adds_same (MadeOf Known names) (FromMember g (Known class)) old new
      (λ x h. subst (FromMember g (Known class)) (sym h.2) (super class h.0 (subst (λ l. Contains l h.0) e h.1)))
      (λ x h. let k = from_known class x h in (k.0, subst (λ l. Contains l k.0) (sym e) k.1, k.2))
      (adds_map Known names old new grows)

  -- the classes above one that a made class is under
  from_under : (class top : List ℕ) (x : Member) → FromMember g (Under class top) x
      → (higher : List ℕ) × IsSuper g top higher × (x ≡ Under class higher)
  from_under class top x (above _ _ higher is) = (higher, is, refl)

  pub aboves : (class top : List ℕ) (names : List (List ℕ)) → names ≡ supertypes g.classes top
      → new ≡ old ++ map (Under class) names → Adds (FromMember g (Under class top)) old new
  aboves class top names e grows =
      adds_same (MadeOf (Under class) names) (FromMember g (Under class top)) old new
      (λ x h. subst (FromMember g (Under class top)) (sym h.2)
      (above class top h.0 (subst (λ l. Contains l h.0) e h.1)))
      (λ x h. let k = from_under class top x h in (k.0, subst (λ l. Contains l k.0) (sym e) k.1, k.2))
      (adds_map (Under class) names old new grows)

  -- the superclass of one that may be initialised
  pub superclass : (class : List ℕ) (names : List (List ℕ))
      → names ≡ names_above_some Superclasses (known_class g.classes class)
      → new ≡ old ++ map Initialised names → Adds (IsSuperGift g class) old new
  superclass class names e grows =
      adds_same (MadeOf Initialised names) (IsSuperGift g class) old new
      (λ x h. (h.0, subst (λ l. Contains l h.0) e h.1, h.2))
      (λ x h. (h.0, subst (λ l. Contains l h.0) (sym e) h.1, h.2))
      (adds_map Initialised names old new grows)

module _ (g : Given) (old mid new : List Member) where
  from_made : (class : List ℕ) (x : Member) → FromMember g (Made class) x → (x ≡ Known class) ⊎ (x ≡ Under class class)
  from_made class x (made _) = inl refl
  from_made class x (itself _) = inr refl

  pub made_gifts : (class : List ℕ) → Adds (Is (Known class)) old mid → Adds (Is (Under class class)) mid new
      → Adds (FromMember g (Made class)) old new
  made_gifts class first second =
      adds_same (λ x. Is (Known class) x ⊎ Is (Under class class) x) (FromMember g (Made class)) old new
      (λ x h. elim h [
        | inl e ↦ subst (FromMember g (Made class)) (sym e) (made class)
        | inr e ↦ subst (FromMember g (Made class)) (sym e) (itself class)
      ])
      (λ x h. from_made class x h)
      (adds_both (Is (Known class)) (Is (Under class class)) old mid new first second)

  from_ready : (class : List ℕ) (x : Member) → FromMember g (Initialised class) x
      → IsSuperGift g class x ⊎ IsInitialiserGift g class x
  from_ready class x (super_initialised _ top is) = inl (top, is, refl)
  from_ready class x (initialised _ has) = inr (has, refl)

  pub ready_gifts : (class : List ℕ) → Adds (IsSuperGift g class) old mid → Adds (IsInitialiserGift g class) mid new
      → Adds (FromMember g (Initialised class)) old new
  ready_gifts class first second =
      adds_same (λ x. IsSuperGift g class x ⊎ IsInitialiserGift g class x) (FromMember g (Initialised class)) old new
      (λ x h. elim h [
        | inl s ↦ subst (FromMember g (Initialised class)) (sym s.2) (super_initialised class s.0 s.1)
        | inr i ↦ subst (FromMember g (Initialised class)) (sym i.1) (initialised class i.0)
      ])
      (λ x h. from_ready class x h)
      (adds_both (IsSuperGift g class) (IsInitialiserGift g class) old mid new first second)

  from_executed : (m : MethodId) (x : Member) → FromMember g (Method m) x → (x ≡ Known m.class) ⊎ IsRowGift m x
  from_executed m x (declared _) = inl refl
  from_executed m x (row_text _ row is text) = inr (row, is, inl (text, refl))
  from_executed m x (row_raises _ row exception is raises) = inr (row, is, inr (exception, raises, refl))

  to_executed : (m : MethodId) (x : Member) → IsRowGift m x → FromMember g (Method m) x
  to_executed m x (row, is, inl text) = subst (FromMember g (Method m)) (sym text.1) (row_text m row is text.0)
  to_executed m x (row, is, inr raised) =
      subst (FromMember g (Method m)) (sym raised.2) (row_raises m row raised.0 is raised.1)

  pub executed_gifts : (m : MethodId) → Adds (Is (Known m.class)) old mid → Adds (IsRowGift m) mid new
      → Adds (FromMember g (Method m)) old new
  executed_gifts m first second =
      adds_same (λ x. Is (Known m.class) x ⊎ IsRowGift m x) (FromMember g (Method m)) old new
      (λ x h. elim h
      [ inl e ↦ subst (FromMember g (Method m)) (sym e) (declared m) | inr r ↦ to_executed m x r ])
      (λ x h. from_executed m x h)
      (adds_both (Is (Known m.class)) (IsRowGift m) old mid new first second)

-- a call that selects gives nothing by itself
from_called : (g : Given) (at : MethodId) (interface : Bool) (x : Member) → FromMember g (Called at interface) x → ⊥
from_called g at interface x h = elim h [ ]

pub called_gifts : (g : Given) (at : MethodId) (interface : Bool) (old : List Member)
    → Adds (FromMember g (Called at interface)) old old
called_gifts g at interface old =
    adds_nothing (FromMember g (Called at interface)) old (λ x h. from_called g at interface x h)

-- the exceptions of a list
pub one_exception : (class : Builtin) (old new : List Member) → Adds (Is (Made (class_name class))) old new
    → Adds (Exceptions (class ∷ [])) old new
one_exception class old new adds =
    adds_same (Is (Made (class_name class))) (Exceptions (class ∷ [])) old new
    (λ x e. (class, first_member class [], e))
    (λ x h. h.2 ∙ ap (λ c. Made (class_name c)) (sym (one_member class h.0 h.1))) adds

pub no_exception : (old : List Member) → Adds (Exceptions []) old old
no_exception old = adds_nothing (Exceptions []) old (λ x h. none_member h.0 h.1)

-- what a row gives
module _ (m : MethodId) (row : LibMethod) (a b c d : List Member) where
  pub row_gifts : IsRow m row → ((other : LibMethod) → IsRow m other → row ≡ other) → Adds (IsTextGift row) a b
      → Adds (Exceptions (null_exceptions row)) b c → Adds (Exceptions (index_exceptions row)) c d
      → Adds (IsRowGift m) a d
  row_gifts is only text null index =
      adds_same
      (λ x. (IsTextGift row x ⊎ Exceptions (null_exceptions row) x) ⊎ Exceptions (index_exceptions row) x)
      (IsRowGift m) a d (λ x h. (row, is, split x h)) (λ x h. joined x h.0 h.1 h.2)
      (adds_both (λ x. IsTextGift row x ⊎ Exceptions (null_exceptions row) x) (Exceptions (index_exceptions row)) a c d
      (adds_both (IsTextGift row) (Exceptions (null_exceptions row)) a b c text null) index)
    where
      raised : (x : Member) → Exceptions (row_exceptions row) x
          → Exceptions (null_exceptions row) x ⊎ Exceptions (index_exceptions row) x
      raised x h =
          elim (Contains-append_cases (null_exceptions row) (index_exceptions row) h.0 h.1)
          [ inl l ↦ inl (h.0, l, h.2) | inr r ↦ inr (h.0, r, h.2) ]

      split : (x : Member)
          → (IsTextGift row x ⊎ Exceptions (null_exceptions row) x) ⊎ Exceptions (index_exceptions row) x
          → IsTextGift row x ⊎ Exceptions (row_exceptions row) x
      split x (inl (inl t)) = inl t
      split x (inl (inr n)) =
          inr (n.0, Contains-append_left (null_exceptions row) (index_exceptions row) n.0 n.1, n.2)
      split x (inr i) = inr (i.0, Contains-append_right (null_exceptions row) (index_exceptions row) i.0 i.1, i.2)

      parts : (x : Member) → IsTextGift row x ⊎ Exceptions (row_exceptions row) x
          → (IsTextGift row x ⊎ Exceptions (null_exceptions row) x) ⊎ Exceptions (index_exceptions row) x
      parts x (inl t) = inl (inl t)
      parts x (inr e) = elim (raised x e) [ inl n ↦ inl (inr n) | inr i ↦ inr i ]

      joined : (x : Member) (other : LibMethod) → IsRow m other
          → IsTextGift other x ⊎ Exceptions (row_exceptions other) x
          → (IsTextGift row x ⊎ Exceptions (null_exceptions row) x) ⊎ Exceptions (index_exceptions row) x
      joined x other is_other h =
          parts x (subst (λ r. IsTextGift r x ⊎ Exceptions (row_exceptions r) x) (sym (only other is_other)) h)

pub no_row_gifts : (m : MethodId) (old : List Member) → ((row : LibMethod) → IsRow m row → ⊥)
    → Adds (IsRowGift m) old old
no_row_gifts m old none = adds_nothing (IsRowGift m) old (λ x h. none h.0 h.1)
