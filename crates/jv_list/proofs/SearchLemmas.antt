-- Where a binary search among numbers ended.
use Rattle.std.proofs.Common.{◌≡◌, ◌≤◌, ◌<◌, ℕ, List, length, get_or, Contains, nat_cmp, sym, ◌∙◌, ap, inl, inr}
use Rattle.std.proofs.Common.{false, arith}
use Rattle.std.specs.declared.cmp.Ordering.TheVariants.{Less, Equal, Greater}
use Rattle.std.specs.Ordering.{is_lt}
use Rattle.std.specs.Cmp.{nat_cmp_is}
use Rattle.std.proofs.lemmas.Bool.{cases_lt}
use Rattle.std.proofs.lemmas.Cmp.{nat_cmp_total, tied_itself}

-- what is not where a search ended is nowhere
pub not_there : (xs : List ℕ) (x i : ℕ) → ((k d : ℕ) → 0 ≤ k → k < i → nat_cmp (get_or xs k d) x ≡ Less)
    → ((k d : ℕ) → i ≤ k → k < length xs → nat_cmp (get_or xs k d) x ≡ Greater)
    → Contains xs x
    → ⊥
not_there xs x i low high is =
    let same = sym (tied_itself nat_cmp_total x) ∙ sym (ap (λ (n : ℕ). nat_cmp n x) is.2) in
    elim (cases_lt is.0 i) [
      | inl below ↦ let e : Equal ≡ Less = same ∙ low is.0 x (omega arith) below in absurd cc
      | inr above ↦ let e : Equal ≡ Greater = same ∙ high is.0 x above is.1 in absurd cc
    ]

-- numbers in order are not the wrong way round
pub no_less : (x y : ℕ) → x ≤ y → is_lt (nat_cmp y x) ≡ false
no_less x y le = elim (cases_lt x y) [
  | inl lt ↦ ap is_lt (sym (nat_cmp_is y x Greater lt))
  | inr ge ↦ ap is_lt (sym (nat_cmp_is y x Equal (omega arith)))
]

-- numbers that tie are the same
pub tied : (x y : ℕ) → nat_cmp x y ≡ Equal → x ≡ y
tied x y e = elim (cases_lt x y) [
  | inl lt ↦ let other : Less ≡ Equal = nat_cmp_is x y Less lt ∙ e in absurd cc
  | inr ge ↦ elim (cases_lt y x) [
    | inl gt ↦ let other : Greater ≡ Equal = nat_cmp_is x y Greater gt ∙ e in absurd cc
    | inr le ↦ omega arith
  ]
]
