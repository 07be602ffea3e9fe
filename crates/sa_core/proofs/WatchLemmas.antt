-- Lists of places: one is taken out, or put in.
use Rattle.std.proofs.Common.{◌≡◌, ◌⊎◌, ℕ, ◌+◌, ◌<◌, ◌≤◌, List, [], ◌∷◌, ◌++◌, length, set, Some, Contains, slice_get}
use Rattle.std.proofs.Common.{sym, ap, ◌∙◌, subst, inl, inr, arith, length-append, length-set}
use Rattle.std.proofs.lemmas.Bool.{cases_eq}
use Rattle.std.proofs.lemmas.Option.{slice_get_within}
use Rattle.std.proofs.lemmas.List.Elements.{Contains-push, Contains-append_left}
use Rattle.jv_list.proofs.PlaceLemmas.{slice_get-push_cases, slice_get-set_same, slice_get-set_other}
use Rattle.jv_list.proofs.ElementLemmas.{place_of, at_contains, one_at}
use Rattle.sa_core.specs.declared.pair.Pair.{Pair}
use Rattle.sa_core.specs.Watching.{IsListed, IsPairListed, AreListed, IsDropped, Drops, Lists, Watches}

-- an element is taken out
module _ (old rest : List ℕ) (last index : ℕ) (popped : old ≡ rest ++ last ∷ []) where
  in_old : (at place : ℕ) → slice_get old at ≡ Some place
      → (slice_get rest at ≡ Some place) ⊎ ((at ≡ length rest) × (last ≡ place))
  in_old at place e = slice_get-push_cases rest last place at (ap (λ (l : List ℕ). slice_get l at) (sym popped) ∙ e)

  popped_length : length old ≡ length rest + 1
  popped_length = ap length popped ∙ length-append rest (last ∷ [])

  -- the last one
  pub dropped_last : index < length old → length rest ≤ index → IsDropped old rest index
  dropped_last lt le =
      let at_end : index ≡ length rest = omega (arith, lt, le, popped_length) in
      record {
        shorter = popped_length;
        front = λ at place before e.
            elim (in_old at place e) [
              | inl was ↦ was
              | inr end ↦ let here = end.0 in absurd (omega (arith, here, before, at_end))
            ];
        kept = λ place other e has ne.
            let p = place_of old place has in
            elim (in_old p.0 place p.1) [
              | inl was ↦ at_contains rest p.0 place was
              | inr end ↦
                  absurd
                  (ne
                  (one_at old p.0 place other p.1
                  (ap (slice_get old) (end.0 ∙ sym at_end) ∙ e)))
            ];
      }

  -- or another, in whose stead the last one comes
  pub dropped_moved : (new : List ℕ) → index < length rest → new ≡ set rest index last → IsDropped old new index
  dropped_moved new lt e =
      let same : length new ≡ length rest = ap length e ∙ length-set rest index last in
      record {
        shorter = omega (arith, popped_length, same);
        front = λ at place before g.
            elim (in_old at place g) [
              | inl was ↦
                  ap (λ (l : List ℕ). slice_get l at) e
                  ∙ slice_get-set_other rest index at last (λ here. omega (arith, here, before)) ∙ was
              | inr end ↦ let here = end.0 in absurd (omega (arith, here, before, lt))
            ];
        kept = λ place other g has ne.
            let p = place_of old place has in
            elim (in_old p.0 place p.1) [
              | inl was ↦
                  elim (cases_eq p.0 index) [
                    | inl here ↦
                        absurd (ne (one_at old p.0 place other p.1 (ap (slice_get old) here ∙ g)))
                    | inr there ↦
                        at_contains new p.0 place
                        (ap (λ (l : List ℕ). slice_get l p.0) e ∙ slice_get-set_other rest index p.0 last there ∙ was)
                  ]
              | inr end ↦
                  at_contains new index place
                  (ap (λ (l : List ℕ). slice_get l index) e
                  ∙ slice_get-set_same rest index last lt ∙ ap (λ (n : ℕ). Some n) end.1)
            ];
      }

-- a place is put in
module _ (old new : List (List ℕ)) (number place : ℕ) (put : Lists old new number place) where
  pub lists_length : length new ≡ length old
  lists_length = ap length put.lists ∙ length-set old number (put.list ++ place ∷ [])

  new_list : slice_get new number ≡ Some (put.list ++ place ∷ [])
  new_list =
      ap (λ (l : List (List ℕ)). slice_get l number) put.lists
      ∙ slice_get-set_same old number (put.list ++ place ∷ []) (slice_get_within old number put.list put.is)

  -- the other lists stay
  pub lists_other : (n : ℕ) → (n ≡ number → ⊥) → slice_get new n ≡ slice_get old n
  lists_other n ne =
      ap (λ (l : List (List ℕ)). slice_get l n) put.lists
      ∙ slice_get-set_other old number n (put.list ++ place ∷ []) ne

  -- what was listed is
  pub listed_kept : (n p : ℕ) → IsListed old n p → IsListed new n p
  listed_kept n p was =
      elim (cases_eq n number) [
        | inl same ↦
            let one : was.list ≡ put.list =
            one_at old number was.list put.list (ap (slice_get old) (sym same) ∙ was.is) put.is in
            record {
              list = put.list ++ place ∷ [];
              is = ap (slice_get new) same ∙ new_list;
              has =
                  Contains-append_left put.list (place ∷ []) p
                  (subst (λ (l : List ℕ). Contains l p) one was.has);
            }
        | inr other ↦ record { list = was.list; is = lists_other n other ∙ was.is; has = was.has }
      ]

  -- and so is the place
  pub listed_now : IsListed new number place
  listed_now = record { list = put.list ++ place ∷ []; is = new_list; has = Contains-push put.list place }

-- one of a list is taken out
module _ (old new : List (List ℕ)) (number index place : ℕ) (taken : Drops old new number index)
    (at : slice_get taken.list index ≡ Some place) where
  pub drops_length : length new ≡ length old
  drops_length = ap length taken.lists ∙ length-set old number taken.rest

  pub drops_here : slice_get new number ≡ Some taken.rest
  drops_here =
      ap (λ (l : List (List ℕ)). slice_get l number) taken.lists
      ∙ slice_get-set_same old number taken.rest (slice_get_within old number taken.list taken.is)

  -- all else that was listed is
  pub listed_but : (n p : ℕ) → (n ≡ number → p ≡ place → ⊥) → IsListed old n p → IsListed new n p
  listed_but n p ne was =
      elim (cases_eq n number) [
        | inl same ↦
            let one : was.list ≡ taken.list =
            one_at old number was.list taken.list (ap (slice_get old) (sym same) ∙ was.is) taken.is in
            record {
              list = taken.rest;
              is = ap (slice_get new) same ∙ drops_here;
              has =
                  taken.dropped.kept p place at (subst (λ (l : List ℕ). Contains l p) one was.has) (ne same);
            }
        | inr other ↦
            record {
              list = was.list;
              is =
                  ap (λ (l : List (List ℕ)). slice_get l n) taken.lists
                  ∙ slice_get-set_other old number n taken.rest other ∙ was.is;
              has = was.has;
            }
      ]

-- the lists of a pair
module _ (old new : List (List ℕ)) (pair : Pair) (place : ℕ) (put : Watches old new pair place) where
  pub watches_length : length new ≡ length old
  watches_length =
      lists_length put.middle new pair.first.0 place put.first
      ∙ lists_length old put.middle pair.second.0 place put.second

  pub watches_kept : (n p : ℕ) → IsListed old n p → IsListed new n p
  watches_kept n p was =
      listed_kept put.middle new pair.first.0 place put.first n p
      (listed_kept old put.middle pair.second.0 place put.second n p was)

  pub watches_now : IsPairListed new pair place
  watches_now =
      record {
        first = listed_now put.middle new pair.first.0 place put.first;
        second =
            listed_kept put.middle new pair.first.0 place put.first pair.second.0 place
            (listed_now old put.middle pair.second.0 place put.second);
      }

  -- a clause that gets the pair is listed, and the others stay
  pub watches_listed : (pairs more : List Pair) → more ≡ set pairs place pair → place < length pairs
      → AreListed pairs old → AreListed more new
  watches_listed pairs more e lt were at other is apart =
      elim (cases_eq at place) [
        | inl same ↦
            let one : pair ≡ other =
            one_at more place pair other
            (ap (λ (l : List Pair). slice_get l place) e ∙ slice_get-set_same pairs place pair lt)
            (ap (slice_get more) (sym same) ∙ is) in
            subst (λ (n : ℕ). IsPairListed new other n) (sym same)
            (subst (λ (p : Pair). IsPairListed new p place) one watches_now)
        | inr ne ↦
            let was =
            were at other
            (sym (slice_get-set_other pairs place at pair ne)
            ∙ ap (λ (l : List Pair). slice_get l at) (sym e) ∙ is)
            apart in
            record {
              first = watches_kept other.first.0 at was.first;
              second = watches_kept other.second.0 at was.second;
            }
      ]
