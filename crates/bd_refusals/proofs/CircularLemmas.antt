-- A class is among its own supertypes where it is directly above itself or above one of them.
use Rattle.std.proofs.Common.{◌≡◌, ◌⊎◌, ℕ, ◌<◌, ◌+◌, List, [], Some, Contains, length, drop, slice_get, slice_index_or}
use Rattle.std.proofs.Common.{inl, inr, refl, sym, subst}
use Rattle.std.proofs.lemmas.List.{drop_more}
use Rattle.jv_list.proofs.ElementLemmas.{place_of, at_contains}
use Rattle.jv_list.proofs.MemberLemmas.{none_member, member_cases}
use Rattle.cf_class.specs.declared.class_file.ClassFile.{ClassFile}
use Rattle.hi_tree.specs.declared.known.Up.TheVariants.{Supertypes}
use Rattle.hi_tree.specs.Subtypes.{supertypes}
use Rattle.hi_tree.specs.Walks.{IsAbove, direct, further}
use Rattle.hi_inputs.specs.Upward.{AreUpward}
use Rattle.bd_refusals.specs.Suited.{IsCircular}

module _ (classes : List ClassFile) where
  abbrev pub IsUp : List ℕ → List ℕ → Type 0
  IsUp name class = (name ≡ class) ⊎ IsAbove (supertypes classes) name class

  -- the last step of those that lead above
  abbrev pub HasLast : List ℕ → List ℕ → Type 0
  HasLast name top = (class : List ℕ) × IsUp name class × Contains (supertypes classes class) top

  up_one : (name above class : List ℕ) (place : ℕ) → slice_get (supertypes classes name) place ≡ Some above
      → IsUp above class → IsAbove (supertypes classes) name class
  up_one name above class place e (inl same) =
      direct name class place (subst (λ c. slice_get (supertypes classes name) place ≡ Some c) same e)
  up_one name above class place e (inr up) = further name above class place e up

  pub last_step : (name top : List ℕ) → IsAbove (supertypes classes) name top → HasLast name top
  last_step _ _ (direct name top place e) =
      (name, inl refl, at_contains (supertypes classes name) place top e)
  last_step _ _ (further name above top place e up) =
      let last = last_step above top up in
      (last.0, inr (up_one name above last.0 place e last.1), last.2)

  one_more : {a b : List ℕ} (c : List ℕ) → IsAbove (supertypes classes) a b → Contains (supertypes classes b) c
      → IsAbove (supertypes classes) a c
  one_more c (direct a b place e) n =
      let at = place_of (supertypes classes b) c n in
      further a b c place e (direct b c at.0 at.1)
  one_more c (further a above b place e r) n = further a above c place e (one_more c r n)

  pub above_last : (name class top : List ℕ) → IsUp name class → Contains (supertypes classes class) top
      → IsAbove (supertypes classes) name top
  above_last name class top (inl same) n =
      let at = place_of (supertypes classes class) top n in
      direct name top at.0 (subst (λ q. slice_get (supertypes classes q) at.0 ≡ Some top) (sym same) at.1)
  above_last name class top (inr up) n = one_more top up n

  -- one of some classes has a name directly above itself
  abbrev pub AnyLast : List ℕ → List (List ℕ) → Type 0
  AnyLast name list = (class : List ℕ) × Contains list class × Contains (supertypes classes class) name

  pub any_start : (name : List ℕ) (list : List (List ℕ)) → AreUpward classes Supertypes name list
      → IsCircular classes name → AnyLast name list
  any_start name list upward h = let last = last_step name name h in (last.0, (upward last.0).1 last.1, last.2)

  pub any_next : (name : List ℕ) (list : List (List ℕ)) (i : ℕ) (d : List ℕ) → i < length list
      → (Contains (supertypes classes (slice_index_or list i d)) name → ⊥) → AnyLast name (drop i list)
      → AnyLast name (drop (i + 1) list)
  any_next name list i d within none any =
      let (class, there, last) = subst (AnyLast name) (drop_more list i d within) any in
      elim (member_cases (slice_index_or list i d) (drop (i + 1) list) class there) [
        | inl same ↦ absurd (none (subst (λ q. Contains (supertypes classes q) name) (sym same) last))
        | inr later ↦ (class, later, last)
      ]

  pub any_none : (name : List ℕ) → AnyLast name [] → ⊥
  any_none name any = none_member any.0 any.1

  pub is_circular : (name class : List ℕ) (list : List (List ℕ)) → AreUpward classes Supertypes name list
      → Contains list class → Contains (supertypes classes class) name → IsCircular classes name
  is_circular name class list upward there last = above_last name class name ((upward class).0 there) last
