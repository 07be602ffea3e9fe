-- The least set is contained in each closed one.
use Rattle.std.proofs.Common.{◌≡◌, ℕ, zero, suc, ◌<◌, List, length, Contains, Some, slice_get, take, arith}
use Rattle.std.specs.Prelude.{Result, Ok, Err, IfOk}
use Rattle.std.proofs.lemmas.Option.{slice_get_within}
use Rattle.jv_list.proofs.ElementLemmas.{place_of, from_take}
use Rattle.bd_core.specs.declared.job.Job.{Job}
use Rattle.bd_core.specs.declared.member.Member.{Member}
use Rattle.bd_core.specs.Given.{Given}
use Rattle.bd_core.specs.Rules.{Follows, from_entry, from_fact, from_member, selected}
use Rattle.bd_core.specs.Least.{IsClosed, IsDerivation, IsLeast}
use Rattle.bd_core.specs.Runs.{AreDerived}
use Rattle.bd_core.specs.Laws.{LeastIsContained}

module _ (j : Job) (g : Given) where
  -- what follows from some members follows from more
  pub follows_more : (before more : List Member) (x : Member) → ((y : Member) → Contains before y → Contains more y)
      → Follows j g before x → Follows j g more x
  follows_more before more x sub (from_entry _ from) = from_entry x from
  follows_more before more x sub (from_fact m facts f _ member given fact from) =
      from_fact m facts f x (sub _ member) given fact from
  follows_more before more x sub (from_member p _ member from) = from_member p x (sub p member) from
  follows_more before more x sub (selected class at target interface under called chosen) =
      selected class at target interface (sub _ under) (sub _ called) chosen

  -- each member of a derivation is in each closed set
  pub derived_in : (list closed : List Member) → IsDerivation j g list → IsClosed j g closed
      → (n place : ℕ) (x : Member) → place < n → slice_get list place ≡ Some x → Contains closed x
  derived_in list closed derivation is_closed zero place x lt e = absurd (omega (arith, lt))
  derived_in list closed derivation is_closed (suc n) place x lt e =
      is_closed x (follows_more (take place list) closed x
      (λ y member.
      let p = place_of (take place list) y member in
      let q = from_take place list p.0 y p.1 in
      let before : p.0 < place = q.0 in
      derived_in list closed derivation is_closed n p.0 y (omega (arith, before, lt)) q.1)
      (derivation place x e))

pub least_is_contained : LeastIsContained
least_is_contained j g least closed is_least is_closed x member =
    let d = is_least.derived x member in
    let p = place_of d.0 x d.2 in
    derived_in j g d.0 closed d.1 is_closed (length d.0) p.0 x (slice_get_within d.0 p.0 x p.1) p.1

-- the members of the least set are just those that follow
pub least_derived : (j : Job) (g : Given) (list : List Member) → IsLeast j g list → AreDerived j g list
least_derived j g list is_least x = (
  λ member. is_least.derived x member,
  λ d. let p = place_of d.0 x d.2 in
      derived_in j g d.0 list d.1 is_least.closed (length d.0) p.0 x (slice_get_within d.0 p.0 x p.1) p.1,
)

pub ok_derived : {E : Type 0} (j : Job) (g : Given) (answer : Result (List Member) E) → IfOk answer (IsLeast j g)
    → IfOk answer (AreDerived j g)
ok_derived j g (Ok list) is_least = least_derived j g list is_least
ok_derived j g (Err e) is_least = is_least
