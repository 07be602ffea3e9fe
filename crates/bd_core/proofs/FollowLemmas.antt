-- What follows from a member and those that were grouped before it is what follows at its place.
use Rattle.std.proofs.Common.{◌≡◌, ℕ, ◌<◌, ◌+◌, List, [], ◌∷◌, ◌++◌, length, slice_get, take, Contains}
use Rattle.std.proofs.Common.{Some, arith}
use Rattle.std.proofs.Common.{sym, ap, subst, ◌∙◌, inl, inr}
use Rattle.std.proofs.lemmas.List.{take-append-le}
use Rattle.std.proofs.lemmas.Option.{same_Some, get_or_from_slice_get}
use Rattle.jv_list.proofs.PlaceLemmas.{take_with}
use Rattle.bd_core.specs.declared.member.Member.{Member}
use Rattle.bd_core.specs.declared.member.Member.TheVariants.{Method, Called, Under}
use Rattle.bd_core.specs.Given.{Given}
use Rattle.bd_core.specs.Rules.{FromMember}
use Rattle.bd_core.specs.Calls.Adds.{Adds}
use Rattle.bd_core.specs.Calls.Gives.{Crosses, called, under, FollowsNow}
use Rattle.bd_core.specs.Calls.Grouped.{Grouped, under_in, called_in, AreGrouped}
use Rattle.bd_core.specs.Calls.Closes.{Takes, FollowsAt, by_itself, by_facts, by_called, by_under, Steps}
use Rattle.bd_core.proofs.GroupLemmas.{grouped_more, under_member, member_under, called_member, member_called}

module _ (g : Given) (groups : Grouped) (list : List Member) (place : ℕ)
    (is : AreGrouped (take place list) groups) where
  crossing_at : (p x : Member) → slice_get list place ≡ Some p → Crosses g groups p x → FollowsAt g list place x
  crossing_at p x e (called class top call _ stands choice) =
      let c = called_member (take place list) groups is top call stands in
      by_called class call.at call.interface (e ∙ ap (λ t. Some (Under class t)) c.1) c.0 choice
  crossing_at p x e (under class at interface _ stands choice) =
      by_under class at interface e (under_member (take place list) groups is at.class class stands) choice

  pub follows_at : (p x : Member) → slice_get list place ≡ Some p → FollowsNow g groups p x → FollowsAt g list place x
  follows_at p x e (inl (inl from)) = by_itself p e from
  follows_at p x e (inl (inr (m, same, from))) = by_facts m (e ∙ ap (λ (q : Member). Some q) same) from
  follows_at p x e (inr crosses) = crossing_at p x e crosses

  pub follows_now : (p x : Member) → slice_get list place ≡ Some p → FollowsAt g list place x → FollowsNow g groups p x
  follows_now p x e (by_itself q at from) =
      inl (inl (subst (λ r. FromMember g r x) (same_Some q p (sym at ∙ e)) from))
  follows_now p x e (by_facts m at from) = inl (inr (m, sym (same_Some (Method m) p (sym at ∙ e)), from))
  follows_now p x e (by_called class at interface here before choice) =
      inr (subst (λ r. Crosses g groups r x) (same_Some (Under class at.class) p (sym here ∙ e))
      (called class at.class (record { at = at; interface = interface }) x
      (member_called (take place list) groups is at interface before) choice))
  follows_now p x e (by_under class at interface here before choice) =
      inr (subst (λ r. Crosses g groups r x) (same_Some (Called at interface) p (sym here ∙ e))
      (under class at interface x (member_under (take place list) groups is at.class class before) choice))

  -- all that follows is taken in
  pub steps_of : (p : Member) (items new : List Member) → slice_get list place ≡ Some p
      → Adds (FollowsNow g groups p) [] items → Takes list items new → Steps g list place new
  steps_of p items new e adds takes =
      record {
        items = items;
        takes = takes;
        exact = λ x. (
          (λ h. follows_at p x e ((adds.exact x).0 (subst (λ l. Contains l x) adds.grows h))),
          (λ h. subst (λ l. Contains l x) (sym adds.grows) ((adds.exact x).1 (follows_now p x e h))),
        );
      }

  -- and the next member is grouped
  pub grouped_next : (p : Member) (items new : List Member) (after : Grouped) → place < length list
      → slice_get list place ≡ Some p → Takes list items new
      → ((q : List ℕ) → after.under q ≡ groups.under q ++ under_in q p)
      → ((q : List ℕ) → after.called q ≡ groups.called q ++ called_in q p) → AreGrouped (take (place + 1) new) after
  grouped_next p items new after within e takes more_under more_called =
      let same : take (place + 1) new ≡ take (place + 1) list =
      ap (take (place + 1)) takes.grows ∙ take-append-le (place + 1) list takes.more (omega (arith, within)) in
      let next : take (place + 1) list ≡ take place list ++ p ∷ [] =
      take_with list place p within (sym (get_or_from_slice_get list place p p e)) in
      subst (λ l. AreGrouped l after) (sym (same ∙ next))
      (grouped_more (take place list) p groups after is more_under more_called)
