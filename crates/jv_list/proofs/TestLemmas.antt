-- What a test, an option or a result leaves to show.
use Rattle.std.proofs.Common.{ap, ◌∙◌, ◌≡◌, ◌≢◌, ℕ, Bool, true, false, not, ◌&&◌, ◌||◌, List, [], ◌∷◌, Option, Some}
use Rattle.std.proofs.Common.{None, Result, Ok, Err, refl, sym, subst, inl, inr, IsTrue}
use Rattle.std.specs.Prelude.{◌↔◌, is_ok, is_err, IfNone, IfSome, IfOk, OnOk, IsFalse, MatchResult, if◌then◌else◌}
use Rattle.std.proofs.lemmas.Bool.{cases_eq, both_ways, true≢false}
use Rattle.std.proofs.lemmas.Option.{same_Some, none-some}

-- two numbers are the same or not
pub same_or_not : {P : Type 0} (m n : ℕ) → (m ≡ n → P) → (m ≢ n → P) → P
same_or_not m n same other = elim (cases_eq m n) [ inl e ↦ same e | inr ne ↦ other ne ]

-- ---- options

module _ {X : Type 0} where
  -- what holds anyway holds if there is nothing
  pub if_none : (o : Option X) (P : Type 0) → P → IfNone o P
  if_none None P p = p
  if_none (Some x) P p = tt

  -- what holds of what is there
  pub at_some : (o : Option X) (P : X → Type 0) (x : X) → IfSome o P → o ≡ Some x → P x
  at_some None P x h e = absurd (none-some x e)
  at_some (Some y) P x h e = subst P (same_Some y x e) h

  -- what is there is one
  pub some_same : (o : Option X) (x y : X) → o ≡ Some x → o ≡ Some y → x ≡ y
  some_same o x y e f = cc

  -- lists of one element
  pub head_same : (xs : List X) (x y : X) → xs ≡ x ∷ [] → xs ≡ y ∷ [] → x ≡ y
  head_same xs x y e f = cc

-- ---- results

module _ {X E : Type 0} where
  -- what holds of a success holds where there is no error
  pub ok_of : (r : Result X E) (P : Type 0) → OnOk r P → is_err r ≡ false → P
  ok_of (Ok x) P h e = h
  ok_of (Err y) P h e = absurd cc

-- an answer is a success with `true` or with `false`
pub if_ok_both : {E : Type 0} (r : Result Bool E) (A B : Type 0) (Q : Bool → Type 0) → (A → Q true) → (B → Q false)
    → IfOk r (λ b. IsTrue b → A) → IfOk r (λ b. IsFalse b → B) → IfOk r Q
if_ok_both (Ok true) A B Q to from a b = to (a refl)
if_ok_both (Ok false) A B Q to from a b = from (b refl)
if_ok_both (Err y) A B Q to from a b = tt

-- a result whose error alone is changed
pub kept_ok : {X E F : Type 0} (r : Result X E) (m : Result X F) (Q : E → Type 0) (A B : X → Type 0)
    → ((x : X) → A x → B x)
    → MatchResult r (λ x. m ≡ Ok x) Q → is_ok m ≡ is_ok r → IfOk r A → IfOk m B
kept_ok {X} {E} {F} (Ok x) m Q A B to same ok h = subst (λ (o : Result X F). IfOk o B) (sym same) (to x h)
kept_ok (Err e) (Ok y) Q A B to same ok h = absurd (true≢false ok)
kept_ok (Err e) (Err f) Q A B to same ok h = tt

-- ---- tests

-- what is not so is false
pub false_iff : (t : Bool) (P : Type 0) → t ≡ false → (P → ⊥) → (t ≡ true) ↔ P
false_iff t P e none = (λ k. absurd (both_ways t e k), λ p. absurd (none p))

-- what is so is true
pub true_iff : (t : Bool) (P : Type 0) → t ≡ true → P → (t ≡ true) ↔ P
true_iff t P e p = (λ k. p, λ q. e)

-- a test that is another and a test that passes
pub and_on : (t x y : Bool) → t ≡ (x && y) → x ≡ true → t ≡ y
and_on t true y e on = e
and_on t false y e on = absurd cc

-- a test that is one that fails and another
pub and_off : (t x y : Bool) → t ≡ (x && y) → x ≡ false → t ≡ false
and_off t true y e off = absurd cc
and_off t false y e off = e

-- one passes unless both fail
pub not_neither : (x y : Bool) → not (not x && not y) ≡ (x || y)
not_neither true y = refl
not_neither false true = refl
not_neither false false = refl

-- a choice by two tests
pub choice_test : (c x y : Bool) → ((c && x) || (not c && y)) ≡ (if c then x else y)
choice_test true true y = refl
choice_test true false y = refl
choice_test false x y = refl

-- ---- pairs

module _ {X Y : Type 0} where
  -- pairs are the same part by part
  pub pair_same : (p q : X × Y) → p.0 ≡ q.0 → p.1 ≡ q.1 → p ≡ q
  pair_same p q first second = ap (λ (x : X). pair x p.1) first ∙ ap (λ (y : Y). pair q.0 y) second
    where
      pair : X → Y → X × Y
      pair x y = (x, y)

  -- the parts of one pair
  pub pair_parts : (a c : X) (b d : Y) → ◌≡◌ {A = X × Y} (a, b) (c, d) → (a ≡ c) × (b ≡ d)
  pair_parts a c b d e = (ap (λ (p : X × Y). p.0) e, ap (λ (p : X × Y). p.1) e)
