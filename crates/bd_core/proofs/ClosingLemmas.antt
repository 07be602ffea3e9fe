-- Members of which all were followed are the least set.
use Rattle.std.proofs.Common.{◌≡◌, ◌↔◌, ℕ, zero, suc, ◌<◌, ◌≤◌, Bool, List, length, take, slice_get, Contains, Some}
use Rattle.std.proofs.Common.{refl, sym, ap, subst, ◌∙◌, inl, inr, arith}
use Rattle.std.proofs.lemmas.Option.{slice_get_within, same_Some}
use Rattle.jv_base.specs.declared.method.MethodId.{MethodId}
use Rattle.jv_list.proofs.ElementLemmas.{place_of, at_contains, at_take, from_take}
use Rattle.bd_core.specs.declared.job.Job.{Job}
use Rattle.bd_core.specs.declared.member.Member.{Member}
use Rattle.bd_core.specs.declared.member.Member.TheVariants.{Method, Called, Under}
use Rattle.bd_core.specs.Given.{Given}
use Rattle.bd_core.specs.Rules.{FromEntry, Follows, from_entry, from_fact, from_member, selected, IsChosen}
use Rattle.bd_core.specs.Least.{IsClosed, IsDerivation, IsLeast}
use Rattle.bd_core.specs.Calls.Closes.{FollowsAt, by_itself, by_facts, by_called, by_under, IsClosing}

data Order (a b : ℕ) : Type 0 where
  before : a < b → Order a b
  same : a ≡ b → Order a b
  after : b < a → Order a b

order : (a b : ℕ) → Order a b
order zero zero = same refl
order zero (suc b) = before (omega arith)
order (suc a) zero = after (omega arith)
order (suc a) (suc b) = up (order a b)
  where
    up : Order a b → Order (suc a) (suc b)
    up (before lt) = before (omega (arith, lt))
    up (same e) = same (ap suc e)
    up (after lt) = after (omega (arith, lt))

abbrev is_called : Member → Type 0
is_called (Called at interface) = Unit {0}
is_called other = ⊥

not_both : (class : List ℕ) (top : List ℕ) (at : MethodId) (interface : Bool)
    → Called at interface ≡ Under class top → ⊥
not_both class top at interface e = subst is_called e tt

module _ (j : Job) (g : Given) (start list : List Member) (place : ℕ) (is : IsClosing g start list place)
    (ended : length list ≤ place) (entry : (x : Member) → Contains start x ↔ FromEntry j g x) where
  reached : (at : ℕ) (m x : Member) → slice_get list at ≡ Some m → FollowsAt g list at x → Contains list x
  reached at m x e from =
      let lt : at < length list = slice_get_within list at m e in
      is.closed at x (omega (arith, lt, ended)) from

  in_take : (a b : ℕ) (m : Member) → a < b → slice_get list a ≡ Some m → Contains (take b list) m
  in_take a b m lt e = at_contains (take b list) a m (at_take b list a m lt e)

  crossed : (class : List ℕ) (at target : MethodId) (interface : Bool) (u c : ℕ)
      → slice_get list u ≡ Some (Under class at.class) → slice_get list c ≡ Some (Called at interface)
      → IsChosen g class at interface target → Order c u → Contains list (Method target)
  crossed class at target interface u c under called chosen (before lt) =
      reached u (Under class at.class) (Method target) under
      (by_called class at interface under (in_take c u (Called at interface) lt called) (target, chosen, refl))
  crossed class at target interface u c under called chosen (after lt) =
      reached c (Called at interface) (Method target) called
      (by_under class at interface called (in_take u c (Under class at.class) lt under) (target, chosen, refl))
  crossed class at target interface u c under called chosen (same e) =
      absurd (not_both class at.class at interface
      (same_Some (Called at interface) (Under class at.class)
      (sym called ∙ ap (slice_get list) e ∙ under)))

  closed : IsClosed j g list
  closed x (from_entry _ from) = is.started x ((entry x).1 from)
  closed x (from_fact m facts f _ member given fact from) =
      let p = place_of list (Method m) member in
      reached p.0 (Method m) x p.1 (by_facts m p.1 (facts, given, f, fact, from))
  closed x (from_member p _ member from) =
      let q = place_of list p member in
      reached q.0 p x q.1 (by_itself p q.1 from)
  closed x (selected class at target interface under called chosen) =
      let u = place_of list (Under class at.class) under in
      let c = place_of list (Called at interface) called in
      crossed class at target interface u.0 c.0 u.1 c.1 chosen (order c.0 u.0)

  sooner : (at q : ℕ) (m : Member) → q < at → Contains (take q list) m → Contains (take at list) m
  sooner at q m lt h =
      let p = place_of (take q list) m h in
      let f = from_take q list p.0 m p.1 in
      let below : p.0 < q = f.0 in
      in_take p.0 at m (omega (arith, below, lt)) f.1

  -- what follows at an earlier place follows from the members before
  followed : (at q : ℕ) (x : Member) → q < at → FollowsAt g list q x → Follows j g (take at list) x
  followed at q x lt (by_itself p here from) = from_member p x (in_take q at p lt here) from
  followed at q x lt (by_facts m here from) =
      from_fact m from.0 from.2 x (in_take q at (Method m) lt here) from.1 from.3 from.4
  followed at q x lt (by_called class m interface here earlier choice) =
      subst (Follows j g (take at list)) (sym choice.2)
      (selected class m choice.0 interface (in_take q at (Under class m.class) lt here)
      (sooner at q (Called m interface) lt earlier) choice.1)
  followed at q x lt (by_under class m interface here earlier choice) =
      subst (Follows j g (take at list)) (sym choice.2)
      (selected class m choice.0 interface (sooner at q (Under class m.class) lt earlier)
      (in_take q at (Called m interface) lt here) choice.1)

  derivation : IsDerivation j g list
  derivation at x e =
      elim (is.derived at x e)
      [ inl s ↦ from_entry x ((entry x).0 s) | inr d ↦ followed at d.0 x d.1 d.2 ]

  pub least : IsLeast j g list
  least = record { closed = closed; derived = λ x h. (list, derivation, h) }
