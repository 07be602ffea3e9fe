-- What stands in the groups are the members that were grouped.
use Rattle.std.proofs.Common.{◌≡◌, ℕ, Bool, true, false, List, [], ◌∷◌, ◌++◌, Contains, if◌then◌else◌}
use Rattle.std.proofs.Common.{refl, sym, ap, subst, ◌∙◌}
use Rattle.std.specs.List.{flat_map}
use Rattle.std.specs.Str.{bytes_eq}
use Rattle.std.proofs.lemmas.Grind.{flat_map-append}
use Rattle.std.proofs.lemmas.List.{append-nil}
use Rattle.std.proofs.lemmas.Slice.Eq.{bytes_eq-Decides}
use Rattle.jv_base.specs.declared.method.MethodId.{MethodId}
use Rattle.jv_list.proofs.MemberLemmas.{none_member, one_member, in_flat_map, from_flat_map, in_test}
use Rattle.bd_core.specs.declared.groups.Call.{Call}
use Rattle.bd_core.specs.declared.member.Member.{Member}
use Rattle.bd_core.specs.declared.member.Member.TheVariants.{Known, Method, Made, Called, Initialised, Under}
use Rattle.bd_core.specs.Calls.Grouped.{Grouped, under_in, called_in, AreGrouped}

-- nothing was grouped
pub grouped_start : (g : Grouped) → ((q : List ℕ) → g.under q ≡ []) → ((q : List ℕ) → g.called q ≡ []) → AreGrouped [] g
grouped_start g under called = record { under = under; called = called }

-- one more
module _ (members : List Member) (m : Member) (old new : Grouped) (is : AreGrouped members old) where
  more_of : {A : Type 0} (f : Member → List A) (before after : List A) → before ≡ flat_map f members
      → after ≡ before ++ f m → after ≡ flat_map f (members ++ m ∷ [])
  more_of f before after e grows =
      grows ∙ ap (λ l. l ++ f m) e
      ∙ sym (flat_map-append f members (m ∷ []) ∙ ap (λ l. flat_map f members ++ l) (append-nil (f m)))

  pub grouped_more : ((q : List ℕ) → new.under q ≡ old.under q ++ under_in q m)
      → ((q : List ℕ) → new.called q ≡ old.called q ++ called_in q m) → AreGrouped (members ++ m ∷ []) new
  grouped_more under called =
      record {
        under = λ q. more_of (under_in q) (old.under q) (new.under q) (is.under q) (under q);
        called = λ q. more_of (called_in q) (old.called q) (new.called q) (is.called q) (called q);
      }

from_test : {A : Type 0} (t : Bool) (x y : A) → Contains (if t then x ∷ [] else []) y → (t ≡ true) × (x ≡ y)
from_test true x y h = (refl, one_member x y h)
from_test false x y h = absurd (none_member y h)

same_name : (p q : List ℕ) → bytes_eq p q ≡ true → p ≡ q
same_name p q = (bytes_eq-Decides p q).0

equal_names : (p : List ℕ) → bytes_eq p p ≡ true
equal_names p = (bytes_eq-Decides p p).1 refl

-- a member that is grouped under a class
under_one : (top class : List ℕ) (m : Member) → Contains (under_in top m) class → m ≡ Under class top
under_one top class (Under c above) h =
    let t = from_test (bytes_eq top above) c class h in
    ap (λ n. Under n above) t.1 ∙ ap (λ n. Under class n) (sym (same_name top above t.0))
under_one top class (Known n) h = absurd (none_member class h)
under_one top class (Method n) h = absurd (none_member class h)
under_one top class (Made n) h = absurd (none_member class h)
under_one top class (Called n i) h = absurd (none_member class h)
under_one top class (Initialised n) h = absurd (none_member class h)

called_one : (class : List ℕ) (call : Call) (m : Member) → Contains (called_in class m) call
    → (m ≡ Called call.at call.interface) × (class ≡ call.at.class)
called_one class call (Called at interface) h =
    let made : Call = record { at = at; interface = interface } in
    let t = from_test (bytes_eq class at.class) made call h in (
      ap (λ (c : Call). Called c.at c.interface) t.1,
      same_name class at.class t.0 ∙ ap (λ (c : Call). c.at.class) t.1,
    )
called_one class call (Known n) h = absurd (none_member call h)
called_one class call (Method n) h = absurd (none_member call h)
called_one class call (Made n) h = absurd (none_member call h)
called_one class call (Under n i) h = absurd (none_member call h)
called_one class call (Initialised n) h = absurd (none_member call h)

module _ (members : List Member) (g : Grouped) (is : AreGrouped members g) where
  pub under_member : (top class : List ℕ) → Contains (g.under top) class → Contains members (Under class top)
  under_member top class h =
      let m = from_flat_map (under_in top) members class (subst (λ l. Contains l class) (is.under top) h) in
      subst (Contains members) (under_one top class m.0 m.2) m.1

  pub member_under : (top class : List ℕ) → Contains members (Under class top) → Contains (g.under top) class
  member_under top class h =
      subst (λ l. Contains l class) (sym (is.under top))
      (in_flat_map (under_in top) members (Under class top) class h
      (in_test (bytes_eq top top) class (equal_names top)))

  pub called_member : (class : List ℕ) (call : Call) → Contains (g.called class) call
      → Contains members (Called call.at call.interface) × (class ≡ call.at.class)
  called_member class call h =
      let m = from_flat_map (called_in class) members call (subst (λ l. Contains l call) (is.called class) h) in
      let one = called_one class call m.0 m.2 in
      (subst (Contains members) one.0 m.1, one.1)

  pub member_called : (at : MethodId) (interface : Bool) → Contains members (Called at interface)
      → Contains (g.called at.class) (record { at = at; interface = interface })
  member_called at interface h =
      let made : Call = record { at = at; interface = interface } in
      subst (λ l. Contains l made) (sym (is.called at.class))
      (in_flat_map (called_in at.class) members (Called at interface) made h
      (in_test (bytes_eq at.class at.class) made (equal_names at.class)))
