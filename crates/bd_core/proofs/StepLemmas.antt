-- Members that are followed one after the other come to be closed.
use Rattle.std.proofs.Common.{◌≡◌, ◌⊎◌, ℕ, zero, suc, ◌<◌, ◌≤◌, ◌+◌, List, [], ◌∷◌, ◌++◌, length, take, slice_get}
use Rattle.std.proofs.Common.{Contains, Some, refl, sym, ap, subst, ◌∙◌, inl, inr, arith}
use Rattle.std.proofs.lemmas.List.{length-append, take-append-le}
use Rattle.std.proofs.lemmas.List.Elements.{Contains-append_left}
use Rattle.std.proofs.lemmas.Option.{slice_get_within, none-some}
use Rattle.jv_list.proofs.ElementLemmas.{at_contains}
use Rattle.bd_core.specs.declared.member.Member.{Member}
use Rattle.bd_core.specs.declared.member.Member.TheVariants.{Method, Called, Under}
use Rattle.bd_core.specs.Given.{Given}
use Rattle.bd_core.specs.Calls.Closes.{Takes, FollowsAt, by_itself, by_facts, by_called, by_under, IsClosing, Steps}

-- ---- more members behind

at_front : (xs ys : List Member) (i : ℕ) (x : Member) → slice_get xs i ≡ Some x → slice_get (xs ++ ys) i ≡ Some x
at_front [] ys i x e = absurd (none-some x e)
at_front (z ∷ xs) ys zero x e = e
at_front (z ∷ xs) ys (suc i) x e = at_front xs ys i x e

at_cases : (xs ys : List Member) (i : ℕ) (x : Member) → slice_get (xs ++ ys) i ≡ Some x
    → (slice_get xs i ≡ Some x) ⊎ ((length xs ≤ i) × Contains ys x)
at_cases [] ys i x e = inr (omega arith, at_contains ys i x e)
at_cases (z ∷ xs) ys zero x e = inl e
at_cases (z ∷ xs) ys (suc i) x e =
    elim (at_cases xs ys i x e) [ inl h ↦ inl h | inr h ↦ let le : length xs ≤ i = h.0 in inr (omega arith, h.1) ]

module _ (g : Given) (old more : List Member) (place : ℕ) (within : place < length old) where
  same_front : take place (old ++ more) ≡ take place old
  same_front = take-append-le place old more (omega (arith, within))

  in_front : (m : Member) → Contains (take place (old ++ more)) m → Contains (take place old) m
  in_front m h = subst (λ l. Contains l m) same_front h

  to_front : (m : Member) → Contains (take place old) m → Contains (take place (old ++ more)) m
  to_front m h = subst (λ l. Contains l m) (sym same_front) h

  at_old : (x : Member) → slice_get (old ++ more) place ≡ Some x → slice_get old place ≡ Some x
  at_old x e =
      elim (at_cases old more place x e)
      [ inl h ↦ h | inr h ↦ let le : length old ≤ place = h.0 in absurd (omega (arith, le, within)) ]

  -- what follows at a place stays the same
  pub follows_old : (x : Member) → FollowsAt g (old ++ more) place x → FollowsAt g old place x
  follows_old x (by_itself p at from) = by_itself p (at_old p at) from
  follows_old x (by_facts m at from) = by_facts m (at_old (Method m) at) from
  follows_old x (by_called class at interface here before choice) =
      by_called class at interface (at_old (Under class at.class) here) (in_front (Called at interface) before) choice
  follows_old x (by_under class at interface here before choice) =
      by_under class at interface (at_old (Called at interface) here) (in_front (Under class at.class) before) choice

  pub follows_new : (x : Member) → FollowsAt g old place x → FollowsAt g (old ++ more) place x
  follows_new x (by_itself p at from) = by_itself p (at_front old more place p at) from
  follows_new x (by_facts m at from) = by_facts m (at_front old more place (Method m) at) from
  follows_new x (by_called class at interface here before choice) =
      by_called class at interface (at_front old more place (Under class at.class) here)
      (to_front (Called at interface) before) choice
  follows_new x (by_under class at interface here before choice) =
      by_under class at interface (at_front old more place (Called at interface) here)
      (to_front (Under class at.class) before) choice

-- ---- taking in

pub takes_start : (items : List Member) (new : List Member) → Takes [] items new → (x : Member) → Contains new x
    → Contains items x
takes_start items new takes x h = takes.among x (subst (λ l. Contains l x) takes.grows h)

pub closing_start : (g : Given) (start found : List Member) → Takes [] start found → IsClosing g start found 0
closing_start g start found takes =
    record {
      within = omega arith;
      started = takes.covers;
      closed = λ at x lt. absurd (omega (arith, lt));
      derived = λ at x e. inl (takes_start start found takes x (at_contains found at x e));
    }

-- ---- one step

module _ (g : Given) (start old new : List Member) (place : ℕ) (is : IsClosing g start old place)
    (within : place < length old) (steps : Steps g old place new) where
  grows : new ≡ old ++ steps.takes.more
  grows = steps.takes.grows

  kept : (x : Member) → Contains old x → Contains new x
  kept x h = subst (λ l. Contains l x) (sym grows) (Contains-append_left old steps.takes.more x h)

  old_of : (at : ℕ) (x : Member) → at < length old → FollowsAt g new at x → FollowsAt g old at x
  old_of at x lt from = follows_old g old steps.takes.more at lt x (subst (λ l. FollowsAt g l at x) grows from)

  new_of : (at : ℕ) (x : Member) → at < length old → FollowsAt g old at x → FollowsAt g new at x
  new_of at x lt from = subst (λ l. FollowsAt g l at x) (sym grows) (follows_new g old steps.takes.more at lt x from)

  longer : length old ≤ length new
  longer =
      let e : length new ≡ length old + length steps.takes.more = ap length grows ∙ length-append old
      steps.takes.more in
      omega (arith, e)

  closed_by : (at : ℕ) (x : Member) → (at < place) ⊎ (at ≡ place) → FollowsAt g new at x → Contains new x
  closed_by at x (inl lt) from = kept x (is.closed at x lt (old_of at x (omega (arith, lt, within)) from))
  closed_by at x (inr e) from =
      let here : FollowsAt g new place x = subst (λ p. FollowsAt g new p x) e from in
      steps.takes.covers x ((steps.exact x).1 (old_of place x within here))

  abbrev Derived : ℕ → Member → Type 0
  Derived at x = Contains start x ⊎ ((before : ℕ) × (before < at) × FollowsAt g new before x)

  derived_old : (at : ℕ) (x : Member) → slice_get old at ≡ Some x → Derived at x
  derived_old at x e =
      let lt : at < length old = slice_get_within old at x e in
      elim (is.derived at x e) [
        | inl s ↦ inl s
        | inr d ↦ inr (d.0, d.1, new_of d.0 x (let below : d.0 < at = d.1 in omega (arith, below, lt)) d.2)
      ]

  derived_by : (at : ℕ) (x : Member) → slice_get (old ++ steps.takes.more) at ≡ Some x → Derived at x
  derived_by at x e =
      elim (at_cases old steps.takes.more at x e) [
        | inl h ↦ derived_old at x h
        | inr h ↦
            let le : length old ≤ at = h.0 in
            let from : FollowsAt g old place x = (steps.exact x).0 (steps.takes.among x h.1) in
            inr (place, omega (arith, le, within), new_of place x within from)
      ]

  pub closing_step : IsClosing g start new (place + 1)
  closing_step =
      record {
        within = let l = longer in omega (arith, within, l);
        started = λ x h. kept x (is.started x h);
        closed = λ at x lt from. closed_by at x (below_or_at at place lt) from;
        derived = λ at x e. derived_by at x (subst (λ l. slice_get l at ≡ Some x) grows e);
      }
    where
      below_or_at : (a b : ℕ) → a < b + 1 → (a < b) ⊎ (a ≡ b)
      below_or_at zero zero lt = inr refl
      below_or_at zero (suc b) lt = inl (omega arith)
      below_or_at (suc a) zero lt = absurd (omega (arith, lt))
      below_or_at (suc a) (suc b) lt =
          elim (below_or_at a b (omega (arith, lt))) [ inl h ↦ inl (omega (arith, h)) | inr e ↦ inr (ap suc e) ]
