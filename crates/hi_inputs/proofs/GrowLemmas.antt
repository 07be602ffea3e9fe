-- Elements that are followed one after the other.
use Rattle.std.proofs.Common.{◌≡◌, ℕ, zero, suc, ◌<◌, ◌≤◌, ◌+◌, List, [], ◌∷◌, ◌++◌, length, slice_get}
use Rattle.std.proofs.Common.{Contains, Some, sym, ap, subst, ◌∙◌, inl, inr, append_assoc, arith}
use Rattle.std.specs.Prelude.{◌↔◌}
use Rattle.std.proofs.lemmas.Bool.{cases_lt}
use Rattle.std.proofs.lemmas.List.{append-nil}
use Rattle.std.proofs.lemmas.List.Elements.{Contains-append_left, Contains-append_cases}
use Rattle.std.proofs.lemmas.Option.{same_Some, none-some}
use Rattle.jv_list.proofs.ElementLemmas.{at_contains}
use Rattle.jv_list.proofs.MemberLemmas.{none_member}
use Rattle.hi_inputs.specs.Calls.Sets.{Takes, Follows, Deepening, Deepens}

module _ {A : Type 0} where
  pub at_front : (xs ys : List A) (i : ℕ) (x : A) → slice_get xs i ≡ Some x → slice_get (xs ++ ys) i ≡ Some x
  at_front [] ys i x e = absurd (none-some x e)
  at_front (z ∷ xs) ys zero x e = e
  at_front (z ∷ xs) ys (suc i) x e = at_front xs ys i x e

  pub at_old : (xs ys : List A) (i : ℕ) (x : A) → i < length xs → slice_get (xs ++ ys) i ≡ Some x
      → slice_get xs i ≡ Some x
  at_old [] ys i x below e = absurd (omega (arith, below))
  at_old (z ∷ xs) ys zero x below e = e
  at_old (z ∷ xs) ys (suc i) x below e = at_old xs ys i x (omega (arith, below)) e

  -- what an element before has behind it
  pub at_grown : (old more new : List A) → new ≡ old ++ more → (i : ℕ) (x : A) → i < length old
      → slice_get new i ≡ Some x → slice_get old i ≡ Some x
  at_grown old more new grows i x below e =
      at_old old more i x below (subst (λ l. slice_get l i ≡ Some x) grows e)

  pub still : (old more new : List A) → new ≡ old ++ more → (x : A) → Contains old x → Contains new x
  still old more new grows x h = subst (λ l. Contains l x) (sym grows) (Contains-append_left old more x h)

  module _ (next : A → A → Type 0) where
    -- items that are exactly what follows are taken in
    pub follows : (old items new : List A) (place : ℕ) (p : A) → slice_get old place ≡ Some p
        → ((x : A) → Contains items x ↔ next p x) → Takes old items new → Follows next old place new
    follows old items new place p at exact t = record {
      more = t.more;
      grows = t.grows;
      among = λ x h. (p, at, (exact x).0 (t.among x h));
      covers = λ q x e n.
          t.covers x ((exact x).1 (subst (λ y. next y x) (same_Some q p (sym e ∙ at)) n));
    }

    pub deepening_start : (old : List A) (from : ℕ) → Deepening next old from from old
    deepening_start old from = record {
      more = [];
      grows = sym (append-nil old);
      among = λ x h. absurd (none_member x h);
      covers = λ at p x low high e n. absurd (omega (arith, low, high));
    }

    module _ (old now new : List A) (from place : ℕ) (d : Deepening next old from place now)
        (within : place < length old) (f : Follows next now place new) where
      old_place : (p : A) → slice_get now place ≡ Some p → slice_get old place ≡ Some p
      old_place p e = at_grown old d.more now d.grows place p within e

      now_place : (p : A) → slice_get old place ≡ Some p → slice_get now place ≡ Some p
      now_place p e = subst (λ l. slice_get l place ≡ Some p) (sym d.grows) (at_front old d.more place p e)

      pub deepening_step : Deepening next old from (place + 1) new
      deepening_step = record {
        more = d.more ++ f.more;
        grows = f.grows ∙ ap (λ l. l ++ f.more) d.grows ∙ append_assoc old d.more f.more;
        among = λ x h. elim (Contains-append_cases d.more f.more x h) [
          | inl l ↦ d.among x l
          | inr r ↦
              let p = f.among x r in
              (p.0, at_contains old place p.0 (old_place p.0 p.1), p.2)
        ];
        covers = λ at p x low high e n. elim (cases_lt at place) [
          | inl less ↦ still now f.more new f.grows x (d.covers at p x low less e n)
          | inr more ↦
              let same : at ≡ place = omega (arith, more, high) in
              f.covers p x (now_place p (subst (λ i. slice_get old i ≡ Some p) same e)) n
        ];
      }

    pub deepening_end : (old new : List A) (from place : ℕ) → Deepening next old from place new → length old ≤ place
        → Deepens next old from new
    deepening_end old new from place d past = record {
      more = d.more;
      grows = d.grows;
      among = d.among;
      covers = λ at p x low high e n. d.covers at p x low (omega (arith, high, past)) e n;
    }
