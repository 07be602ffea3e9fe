-- Bytes have one fault at most.
use Rattle.std.proofs.Common.{◌≡◌, ℕ, ◌<◌, List, sym, subst, inl, inr}
use Rattle.std.specs.Prelude.{Contains}
use Rattle.std.specs.List.{AllByRecursion}
use Rattle.std.proofs.lemmas.Bool.{cases_order}
use Rattle.std.proofs.lemmas.List.Elements.{All-contains, All-from_recursion}
use Rattle.cf_code.specs.Decoding.{HasStarts, IsGood, HasBadOpcode, HasBadTarget}
use Rattle.cf_code.proofs.StartLemmas.{one_starts}

module _ (bytes : List ℕ) where
  pub one_bad_opcode : (a b : ℕ) → HasBadOpcode bytes a → HasBadOpcode bytes b → a ≡ b
  one_bad_opcode a b x y = (one_starts bytes x.starts y.starts a b x.has y.has).1

  -- a bad target before another is good by the other
  not_before : (a b : ℕ) → HasBadTarget bytes a → HasBadTarget bytes b → a < b → ⊥
  not_before a b x y below =
      let same = (one_starts bytes x.starts y.starts x.stop y.stop x.has y.has).0 in
      let good = y.good a (subst (λ (s : List ℕ). Contains s a) same x.is_start) below in
      x.bad (subst (λ (s : List ℕ). IsGood bytes s a) (sym same) good)

  pub one_bad_target : (a b : ℕ) → HasBadTarget bytes a → HasBadTarget bytes b → a ≡ b
  one_bad_target a b x y =
      elim (cases_order a b) as (λ o. a ≡ b) [
        | inl same ↦ same
        | inr other ↦ elim other as (λ o. a ≡ b) [
          | inl below ↦ absurd (not_before a b x y below)
          | inr above ↦ absurd (not_before b a y x above)
        ]
      ]

  -- of good starts none has a bad target
  pub no_bad_target : (starts : List ℕ) (stop b : ℕ) → HasStarts bytes starts stop
      → AllByRecursion (IsGood bytes starts) starts → HasBadTarget bytes b → ⊥
  no_bad_target starts stop b has good y =
      let same = (one_starts bytes starts y.starts stop y.stop has y.has).0 in
      let is_start = subst (λ (s : List ℕ). Contains s b) (sym same) y.is_start in
      let all = All-from_recursion (IsGood bytes starts) starts good in
      let good_there = All-contains (IsGood bytes starts) starts b all is_start in
      y.bad (subst (λ (s : List ℕ). IsGood bytes s b) same good_there)

  pub not_both : (a b : ℕ) → HasBadOpcode bytes a → HasBadTarget bytes b → ⊥
  not_both a b x y = no_bad_target x.starts a b x.has x.good y
