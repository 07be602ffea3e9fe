-- Levels: what stands within so many steps of where it begins.
use Rattle.std.proofs.Common.{◌≡◌, ◌⊎◌, ℕ, ◌<◌, ◌+◌, List, length, slice_get, Contains, Some}
use Rattle.std.proofs.Common.{subst, inl, inr}
use Rattle.std.specs.Prelude.{◌↔◌}
use Rattle.std.proofs.lemmas.Bool.{cases_lt}
use Rattle.std.proofs.lemmas.List.Elements.{Contains-append_cases}
use Rattle.std.proofs.lemmas.Option.{slice_get_within}
use Rattle.jv_list.proofs.ElementLemmas.{place_of}
use Rattle.hi_inputs.specs.Calls.Sets.{Deepens}
use Rattle.hi_inputs.proofs.GrowLemmas.{at_grown, still}

module _ {A : Type 0} (next : A → A → Type 0) (within : ℕ → A → Type 0) where
  -- the list has what stands within a level, and what follows those before a place
  pub record IsLevel (level from : ℕ) (list : List A) : Type 0 where
    pub members : (x : A) → Contains list x ↔ within level x
    pub closed : (at : ℕ) (p x : A) → at < from → slice_get list at ≡ Some p → next p x → Contains list x

  -- what stands within the next level stands within this one, or follows what does
  abbrev pub IsNextLevel : ℕ → Type 0
  IsNextLevel level =
      (x : A) → within (level + 1) x ↔ (within level x ⊎ ((p : A) × within level p × next p x))

  module _ (level from : ℕ) (old new : List A) (l : IsLevel level from old) (d : Deepens next old from new)
      (split : IsNextLevel level) where
    followed : (at : ℕ) (p x : A) → at < length old → slice_get old at ≡ Some p → next p x → Contains new x
    followed at p x below e n =
        elim (cases_lt at from) [
          | inl less ↦ still old d.more new d.grows x (l.closed at p x less e n)
          | inr more ↦ d.covers at p x more below e n
        ]

    sound : (x : A) → Contains new x → within (level + 1) x
    sound x h =
        elim (Contains-append_cases old d.more x (subst (λ s. Contains s x) d.grows h)) [
          | inl o ↦ (split x).1 (inl ((l.members x).0 o))
          | inr m ↦ let p = d.among x m in (split x).1 (inr (p.0, (l.members p.0).0 p.1, p.2))
        ]

    complete : (x : A) → within (level + 1) x → Contains new x
    complete x h =
        elim ((split x).0 h) [
          | inl w ↦ still old d.more new d.grows x ((l.members x).1 w)
          | inr q ↦
              let at = place_of old q.0 ((l.members q.0).1 q.1) in
              followed at.0 q.0 x (slice_get_within old at.0 q.0 at.1) at.1 q.2
        ]

    pub level_step : IsLevel (level + 1) (length old) new
    level_step = record {
      members = λ x. (sound x, complete x);
      closed = λ at p x below e n. followed at p x below (at_grown old d.more new d.grows at p below e) n;
    }
