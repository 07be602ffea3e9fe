-- Where the instructions of pcs stand in a list that is gone through from the first on.
use Rattle.std.proofs.Common.{◌≡◌, ℕ, zero, suc, ◌+◌, ◌≤◌, ◌<◌, ◌⊎◌, Bool, true, false, List, [], ◌∷◌, ◌++◌, length}
use Rattle.std.proofs.Common.{take, get_or, slice_get, Option, Some, None, refl, sym, ap, subst, ◌∙◌, arith, inl, inr}
use Rattle.std.proofs.Common.{option_and_then}
use Rattle.std.specs.Prelude.{◌==◌, ◌&&◌, if◌then◌else◌, is_none}
use Rattle.std.proofs.lemmas.Option.{none-some, same_Some, slice_get-get_or, slice_get_past}
use Rattle.std.proofs.lemmas.List.{take_more, length-take}
use Rattle.ck_shapes.specs.declared.flow.Step.{Step}
use Rattle.ck_shapes.specs.Rules.{step_at}
use Rattle.ck_shapes.specs.Calls.Places.{place_at, noted, ArePlaces}

chosen : (b : Bool) (s x : Step) (o p : Option Step) → (if b then Some s else o) ≡ Some x
    → (o ≡ Some x → p ≡ Some x) → (if b then Some s else p) ≡ Some x
chosen true s x o p e h = e
chosen false s x o p e h = h e

step_front : (xs ys : List Step) (pc : ℕ) (x : Step) → step_at xs pc ≡ Some x → step_at (xs ++ ys) pc ≡ Some x
step_front [] ys pc x e = absurd (none-some x e)
step_front (y ∷ xs) ys pc x e =
    chosen (y.pc == pc) y x (step_at xs pc) (step_at (xs ++ ys) pc) e (λ f. step_front xs ys pc x f)

left_out : (b : Bool) (s : Step) (o p q : Option Step) → (if b then Some s else o) ≡ None
    → (o ≡ None → p ≡ q) → (if b then Some s else p) ≡ q
left_out true s o p q e h = absurd (none-some s (sym e))
left_out false s o p q e h = h e

step_last : (xs : List Step) (s : Step) (pc : ℕ) → step_at xs pc ≡ None
    → step_at (xs ++ s ∷ []) pc ≡ (if s.pc == pc then Some s else None)
step_last [] s pc e = refl
step_last (y ∷ xs) s pc e =
    left_out (y.pc == pc) y (step_at xs pc) (step_at (xs ++ s ∷ []) pc) (if s.pc == pc then Some s else None) e
    (λ f. step_last xs s pc f)

get_front : (xs ys : List Step) (i : ℕ) → i < length xs → slice_get (xs ++ ys) i ≡ slice_get xs i
get_front [] ys i lt = absurd (omega (arith, lt))
get_front (x ∷ xs) ys zero lt = refl
get_front (x ∷ xs) ys (suc i) lt = get_front xs ys i (omega (arith, lt))

get_last : (xs : List Step) (s : Step) → slice_get (xs ++ s ∷ []) (length xs) ≡ Some s
get_last [] s = refl
get_last (x ∷ xs) s = get_last xs s

new_place : (xs : List Step) (s : Step) (b : Bool) (n : Option ℕ)
    → n ≡ (if b && is_none (let o : Option ℕ = None in o) then Some (length xs) else None)
    → (if b then Some s else None) ≡ option_and_then (slice_get (xs ++ s ∷ [])) n
new_place xs s true n e = sym (ap (option_and_then (slice_get (xs ++ s ∷ []))) e ∙ get_last xs s)
new_place xs s false n e = sym (ap (option_and_then (slice_get (xs ++ s ∷ []))) e)

kept_place : (b : Bool) (k p : ℕ) → (if b && is_none (Some p) then Some k else Some p) ≡ Some p
kept_place true k p = refl
kept_place false k p = refl

place_step : (xs : List Step) (s : Step) (o n : Option ℕ) (pc : ℕ) → ((p : ℕ) → o ≡ Some p → p < length xs)
    → step_at xs pc ≡ option_and_then (slice_get xs) o
    → n ≡ (if (s.pc == pc) && is_none o then Some (length xs) else o)
    → step_at (xs ++ s ∷ []) pc ≡ option_and_then (slice_get (xs ++ s ∷ [])) n
place_step xs s None n pc within found is = step_last xs s pc found ∙ new_place xs s (s.pc == pc) n is
place_step xs s (Some p) n pc within found is =
    let lt = within p refl in
    let x : Step = get_or xs p s in
    let at : slice_get xs p ≡ Some x = slice_get-get_or xs p s lt in
    step_front xs (s ∷ []) pc x (found ∙ at)
    ∙ sym (ap (option_and_then (slice_get (xs ++ s ∷ []))) (is ∙ kept_place (s.pc == pc) (length xs) p)
    ∙ get_front xs (s ∷ []) p lt ∙ at)

within_step : (b : Bool) (k p : ℕ) (o : Option ℕ) → ((q : ℕ) → o ≡ Some q → q < k)
    → (if b && is_none o then Some k else o) ≡ Some p → p < k + 1
within_step true k p None h e = omega (arith, same_Some k p e)
within_step false k p None h e = absurd (none-some p e)
within_step true k p (Some q) h e = omega (arith, h p e)
within_step false k p (Some q) h e = omega (arith, h p e)

-- the places of the first instructions
pub record AreFirst (steps : List Step) (i : ℕ) (places : List (Option ℕ)) : Type 0 where
  pub found : ArePlaces (take i steps) places
  pub within : (pc p : ℕ) → place_at places pc ≡ Some p → p < i

pub first_more : (steps : List Step) (i pc : ℕ) (s : Step) (old new : List (Option ℕ)) → i < length steps
    → s ≡ get_or steps i s → pc ≡ s.pc → AreFirst steps i old
    → ((at : ℕ) → place_at new at ≡ noted old pc i at) → AreFirst steps (i + 1) new
first_more steps i pc s old new lt is same first note =
    let long : length (take i steps) ≡ i = omega (arith, length-take i steps) in
    let more : take (i + 1) steps ≡ take i steps ++ s ∷ [] =
    take_more steps i s lt ∙ ap (λ (x : Step). take i steps ++ x ∷ []) (sym is) in
    let noted_is : (at : ℕ) → place_at new at ≡
    (if (s.pc == at) && is_none (place_at old at) then Some i else place_at old at) =
    λ at. note at ∙ ap (λ (k : ℕ). noted old k i at) same in
    record {
      found = λ at.
          subst (λ (l : List Step). step_at l at ≡ option_and_then (slice_get l) (place_at new at)) (sym more)
          (place_step (take i steps) s (place_at old at) (place_at new at) at
          (λ p e. omega (arith, first.within at p e, long)) (first.found at)
          (noted_is at
          ∙ ap (λ (k : ℕ). if (s.pc == at) && is_none (place_at old at) then Some k else place_at old at) (sym long)));
      within = λ at p e. within_step (s.pc == at) i p (place_at old at) (first.within at) (sym (noted_is at) ∙ e);
    }

pub place_within : (steps : List Step) (places : List (Option ℕ)) (pc : ℕ) (s : Step) → ArePlaces steps places
    → step_at steps pc ≡ Some s → pc < length places
place_within steps places pc s are e = let c : (pc < length places) ⊎ (length places ≤ pc) = grind arith in
    elim c [
      | inl lt ↦ lt
      | inr le ↦ absurd (none-some s (sym (are pc ∙ ap (option_and_then (slice_get steps))
          (ap (option_and_then (λ p. p)) (slice_get_past places pc le))) ∙ e))
    ]
