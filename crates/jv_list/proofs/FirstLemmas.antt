-- The first element of a list that breaks a rule, and what each of them keeps.
use Rattle.std.proofs.Common.{List, [], ◌∷◌, ◌++◌, subst, inl, inr}
use Rattle.std.specs.List.{Contains, AllByRecursion}
use Rattle.jv_list.specs.Firsts.{FirstBreaks}
use Rattle.jv_list.proofs.MemberLemmas.{none_member, member_cases}

module _ {A : Type 0} (Keeps : A → Type 0) where
  pub all_append : (xs ys : List A) → AllByRecursion Keeps xs → AllByRecursion Keeps ys
      → AllByRecursion Keeps (xs ++ ys)
  all_append [] ys h k = k
  all_append (x ∷ xs) ys h k = (h.0, all_append xs ys h.1 k)

  pub all_front : (xs ys : List A) → AllByRecursion Keeps (xs ++ ys) → AllByRecursion Keeps xs
  all_front [] ys h = tt
  all_front (x ∷ xs) ys h = (h.0, all_front xs ys h.1)

  pub all_member : (xs : List A) (x : A) → AllByRecursion Keeps xs → Contains xs x → Keeps x
  all_member [] x h member = absurd (none_member x member)
  all_member (y ∷ ys) x h member = elim (member_cases y ys x member) [
    | inl same ↦ subst Keeps same h.0
    | inr later ↦ all_member ys x h.1 later
  ]

  module _ (Breaks : A → Type 0) where
    -- behind a list that keeps the rule
    pub first_behind : (xs ys : List A) → AllByRecursion Keeps xs → FirstBreaks Breaks Keeps ys
        → FirstBreaks Breaks Keeps (xs ++ ys)
    unfolding FirstBreaks
    first_behind [] ys h k = k
    first_behind (x ∷ xs) ys h k = inr (h.0, first_behind xs ys h.1 k)

    -- in front of any list
    pub first_front : (xs ys : List A) → FirstBreaks Breaks Keeps xs → FirstBreaks Breaks Keeps (xs ++ ys)
    unfolding FirstBreaks
    first_front [] ys h = absurd h
    first_front (x ∷ xs) ys (inl here) = inl here
    first_front (x ∷ xs) ys (inr later) = inr (later.0, first_front xs ys later.1)

    pub first_one : (x : A) → Breaks x → FirstBreaks Breaks Keeps (x ∷ [])
    unfolding FirstBreaks
    first_one x h = inl h
