-- Which blocks of units have one that an escape has.
use Rattle.std.proofs.Common.{◌≡◌, ◌≢◌, ℕ, ◌+◌, ◌%◌, ◌^◌, ◌<◌, ◌≤◌, ◌⊎◌, ◌↔◌, Bool, not, nat_eq, IsTrue, true, false}
use Rattle.std.proofs.Common.{refl, sym, subst, arith, inl, inr}
use Rattle.std.proofs.lemmas.Bool.{cases_lt, cases_Bool}
use Rattle.std.proofs.lemmas.Bool.Decides.{nat_tests}
use Rattle.jv_base.specs.Spelling.{is_plain}
use Rattle.jv_base.specs.Calls.Units.{IsEscapeUnit, IsWeight, IsBlock, HasUnit}

abbrev pub NotLow : ℕ → Type 0
NotLow unit = (unit < 0xdc00) ⊎ (0xe000 ≤ unit)

below_weight : (P : ℕ → Type 0) → P 1 → P 16 → P 256 → P 4096 → (size : ℕ) → IsWeight size → P size
below_weight P p1 p16 p256 p4096 size weight =
    elim weight [
      | inl a ↦ subst P (sym a) p1
      | inr b ↦ elim b [
        | inl a ↦ subst P (sym a) p16
        | inr d ↦ elim d [
          | inl a ↦ subst P (sym a) p256
          | inr a ↦ subst P (sym a) p4096
        ]
      ]
    ]

weight_some : (size : ℕ) → IsWeight size → 0 < size
weight_some = below_weight (λ (n : ℕ). 0 < n) (omega arith) (omega arith) (omega arith) (omega arith)

-- a block that is not among the low surrogates has none of them in front
pub not_low : (least size : ℕ) → IsBlock least size → (0xdc00 ≤ least → least + size ≤ 0xe000 → ⊥) → NotLow least
not_low least size block other =
    elim (cases_lt least 0xdc00) [
      | inl lt ↦ inl lt
      | inr le ↦ elim (cases_lt least 0xe000) [
        | inl lt ↦
            let P : ℕ → Type 0 = λ (n : ℕ). least % n ≡ 0 → least + n ≤ 0xe000 in
            let inside = below_weight P (λ e. omega arith) (λ e. omega arith) (λ e. omega arith) (λ e. omega arith)
            size in
            absurd (other le (inside block.weight block.aligned))
        | inr high ↦ inr high
      ]
    ]

pub not_plain : (u : ℕ) → 127 ≤ u → is_plain u ≡ false
not_plain u le = grind (arith, nat_tests)

-- a unit above `~`
high_unit : (least size : ℕ) → IsBlock least size → 127 ≤ least → NotLow least → HasUnit false least size
high_unit least size block above other = (
  least,
  (not_plain least above, (λ z. omega arith), fits),
  omega arith,
  omega (arith, weight_some size block.weight),
)
  where
    fits : (least < 0xdc00) ⊎ ((0xe000 ≤ least) × (least < 2 ^ 16))
    fits =
        let some : 0 < size = weight_some size block.weight in
        elim other [ inl a ↦ inl a | inr b ↦ inr (b, omega (arith, block.within, some)) ]

-- among the 16 units with one digit at the end, all but those from 96 on, there is one
block_16 : (least : ℕ) → least % 16 ≡ 0 → IsBlock least 16 → NotLow least → least ≢ 96 → HasUnit false least 16
block_16 least aligned block other not_all =
    elim (cases_lt least 127) [
      | inl lt ↦ elim (cases_lt least 48) [
        | inl a ↦ elim (cases_lt least 32) [
          | inl b ↦ elim (cases_lt least 16) [
            | inl c ↦ unit 1 refl (omega arith, omega arith) (omega arith, omega arith)
            | inr c ↦ unit 16 refl (omega arith, omega arith) (omega arith, omega arith)
          ]
          | inr b ↦ unit 32 refl (omega arith, omega arith) (omega arith, omega arith)
        ]
        | inr a ↦ elim (cases_lt least 80) [
          | inl b ↦ elim (cases_lt least 64) [
            | inl c ↦ unit 58 refl (omega arith, omega arith) (omega arith, omega arith)
            | inr c ↦ unit 64 refl (omega arith, omega arith) (omega arith, omega arith)
          ]
          | inr b ↦ elim (cases_lt least 96) [
            | inl c ↦ unit 92 refl (omega arith, omega arith) (omega arith, omega arith)
            | inr c ↦ unit 127 refl (omega arith, omega arith) (omega arith, omega arith)
          ]
        ]
      ]
      | inr le ↦ high_unit least 16 block le other
    ]
  where
    unit : (u : ℕ) → is_plain u ≡ false → (0 < u) × (u < 0xdc00) → (least ≤ u) × (u < least + 16)
        → HasUnit false least 16
    unit u p small within = (u, (p, (λ z. omega (arith, small.0)), inl small.1), within.0, within.1)

no_block_16 : (least : ℕ) → least ≡ 96 → HasUnit false least 16 → ⊥
no_block_16 least e h = no h.0 (omega (arith, h.2)) (omega (arith, h.3)) h.1.0
  where
    no : (u : ℕ) → 96 ≤ u → u < 112 → is_plain u ≡ false → ⊥
    no u from to e = grind (arith, nat_tests)

pub block_16_iff : (second : Bool) (least size : ℕ) → second ≡ false → size ≡ 16 → IsBlock least size → NotLow least
    → IsTrue (not (nat_eq least 96)) ↔ HasUnit second least size
block_16_iff second least size e is block other =
    let P : Bool → Type 0 = λ (b : Bool). IsTrue (not (nat_eq least 96)) ↔ HasUnit b least size in
    let Q : ℕ → Type 0 = λ (n : ℕ). IsTrue (not (nat_eq least 96)) ↔ HasUnit false least n in
    let B : ℕ → Type 0 = λ (n : ℕ). IsBlock least n in
    let sixteen : IsBlock least 16 = subst B is block in
    subst P (sym e) (subst Q (sym is) (
      (λ t. block_16 least sixteen.aligned sixteen other (λ k. differs least k t)),
      (λ h. elim (cases_Bool (nat_eq least 96)) [
        | inl y ↦ absurd (no_block_16 least (grind (arith, nat_tests)) h)
        | inr n ↦ rw n refl
      ]),
    ))
  where
    differs : (n : ℕ) → n ≡ 96 → IsTrue (not (nat_eq n 96)) → ⊥
    differs n e t = grind (arith, nat_tests)

pub larger_block : (second : Bool) (least size : ℕ) → second ≡ false → IsBlock least size → NotLow least → size ≢ 1
    → size ≢ 16 → HasUnit second least size
larger_block second least size e block other no_1 no_16 =
    let P : Bool → Type 0 = λ (b : Bool). HasUnit b least size in
    subst P (sym e) (elim (cases_lt least 127) [
      | inl lt ↦
          let Q : ℕ → Type 0 = λ (n : ℕ). n ≢ 1 → n ≢ 16 → least % n ≡ 0 → (least ≤ 1) × (1 < least + n) in
          let inside = below_weight Q (λ a b c. absurd (a refl)) (λ a b c. absurd (b refl))
          (λ a b c. (omega arith, omega arith)) (λ a b c. (omega arith, omega arith)) size block.weight in
          let two = inside no_1 no_16 block.aligned in
          (1, (refl, (λ z. omega arith), inl (omega arith)), two.0, two.1)
      | inr le ↦ high_unit least size block le other
    ])

-- ---- the units of escapes

pub unit_fits : (second : Bool) (u : ℕ) → IsEscapeUnit second u → u < 2 ^ 16
unit_fits false u h = elim h.2 [ inl a ↦ omega arith | inr b ↦ omega arith ]
unit_fits true u h = omega arith

pub a_unit : (second : Bool) → (u : ℕ) × IsEscapeUnit second u
a_unit false = (1, (refl, (λ z. omega arith), inl (omega arith)))
a_unit true = (0xdc00, (omega arith, omega arith))

pub high_first : (u : ℕ) → 0xd800 ≤ u → u < 0xdc00 → IsEscapeUnit false u
high_first u from to = (not_plain u (omega arith), (λ z. omega arith), inl to)
