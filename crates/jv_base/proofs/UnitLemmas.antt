-- A UTF-16 unit has one text, which is no front of another's.
use Rattle.std.proofs.Common.{◌≡◌, ◌≢◌, ℕ, ◌+◌, ◌*◌, ◌/◌, ◌%◌, ◌^◌, ◌<◌, false, List, [], ◌∷◌, ◌++◌, length, get_or}
use Rattle.std.proofs.Common.{refl}
use Rattle.std.proofs.Common.{sym, ap, ◌∙◌, arith}
use Rattle.std.specs.Fmt.{digit_glyph}
use Rattle.std.proofs.lemmas.Bool.Decides.{nat_tests}
use Rattle.std.proofs.lemmas.List.{append-nil}
use Rattle.jv_base.specs.Calls.Fronts.{HasFront}
use Rattle.jv_base.specs.Spelling.{IsUnit, escaped_unit}

pub glyph_same : (a b : ℕ) → a < 16 → b < 16 → digit_glyph false a ≡ digit_glyph false b → a ≡ b
glyph_same a b la lb e = grind (arith, nat_tests)

unit_by_digits : (u v : ℕ) → u < 2 ^ 16 → v < 2 ^ 16 → u / 4096 ≡ v / 4096 → u / 256 % 16 ≡ v / 256 % 16
    → u / 16 % 16 ≡ v / 16 % 16 → u % 16 ≡ v % 16 → u ≡ v
unit_by_digits u v lu lv a b c d = omega arith

pub unit_same : (u v : ℕ) (x y : List ℕ) → IsUnit u → IsUnit v → escaped_unit u ++ x ≡ escaped_unit v ++ y
    → (u ≡ v) × (x ≡ y)
unfolding escaped_unit
unit_same u v x y lu lv e =
    let a : digit_glyph false (u / 4096) ≡ digit_glyph false (v / 4096) = cc in
    let b : digit_glyph false (u / 256 % 16) ≡ digit_glyph false (v / 256 % 16) = cc in
    let c : digit_glyph false (u / 16 % 16) ≡ digit_glyph false (v / 16 % 16) = cc in
    let d : digit_glyph false (u % 16) ≡ digit_glyph false (v % 16) = cc in
    let rest : x ≡ y = cc in (
      unit_by_digits u v lu lv (glyph_same _ _ (omega arith) (omega arith) a)
          (glyph_same _ _ (omega arith) (omega arith) b) (glyph_same _ _ (omega arith) (omega arith) c)
          (glyph_same _ _ (omega arith) (omega arith) d),
      rest,
    )

pub unit_length : (u : ℕ) → length (escaped_unit u) ≡ 6
unfolding escaped_unit
unit_length u = refl

pub unit_first : (u : ℕ) (rest : List ℕ) → get_or (escaped_unit u ++ rest) 0 0 ≡ 92
unfolding escaped_unit
unit_first u rest = refl

-- the text goes on behind a unit, as that of another unit does
pub unit_ends : (u v x : ℕ) (more : List ℕ) → IsUnit u → IsUnit v → escaped_unit u ++ x ∷ more ≡ escaped_unit v → ⊥
unit_ends u v x more lu lv e =
    let same = unit_same u v (x ∷ more) [] lu lv (e ∙ sym (append-nil (escaped_unit v))) in
    omega (arith, ap length same.1)

-- ---- texts that begin no unit

abbrev pub HasNoUnit : List ℕ → Type 0
HasNoUnit text = (rest : List ℕ) → HasFront IsUnit escaped_unit text rest → ⊥

-- no digit stands at the front
abbrev pub HasNoDigit : List ℕ → Type 0
HasNoDigit text = (v : ℕ) (rest : List ℕ) → v < 16 → text ≢ digit_glyph false v ∷ rest

abbrev after_three : ℕ → List ℕ → List ℕ
after_three u rest = digit_glyph false (u % 16) ∷ rest

abbrev after_two : ℕ → List ℕ → List ℕ
after_two u rest = digit_glyph false (u / 16 % 16) ∷ after_three u rest

abbrev after_one : ℕ → List ℕ → List ℕ
after_one u rest = digit_glyph false (u / 256 % 16) ∷ after_two u rest

abbrev after_u : ℕ → List ℕ → List ℕ
after_u u rest = digit_glyph false (u / 4096) ∷ after_one u rest

unit_split : (u : ℕ) (rest : List ℕ) → escaped_unit u ++ rest ≡ 92 ∷ 117 ∷ after_u u rest
unfolding escaped_unit
unit_split u rest = refl

pub no_backslash : (text : List ℕ) → ((rest : List ℕ) → text ≢ 92 ∷ rest) → HasNoUnit text
no_backslash text none rest h = none (117 ∷ after_u h.0 rest) (h.2 ∙ unit_split h.0 rest)

pub no_u : (text a : List ℕ) → text ≡ 92 ∷ a → ((rest : List ℕ) → a ≢ 117 ∷ rest) → HasNoUnit text
no_u text a e none rest h =
    let whole : 92 ∷ a ≡ 92 ∷ 117 ∷ after_u h.0 rest = sym e ∙ h.2 ∙ unit_split h.0 rest in
    let same : a ≡ 117 ∷ after_u h.0 rest = cc in
    none (after_u h.0 rest) same

module _ (text : List ℕ) where
  at_digits : (b rest : List ℕ) (h : HasFront IsUnit escaped_unit text rest) → text ≡ 92 ∷ 117 ∷ b
      → b ≡ after_u h.0 rest
  at_digits b rest h e =
      let whole : 92 ∷ 117 ∷ b ≡ 92 ∷ 117 ∷ after_u h.0 rest = sym e ∙ h.2 ∙ unit_split h.0 rest in
      cc

  pub no_first_digit : (b : List ℕ) → text ≡ 92 ∷ 117 ∷ b → HasNoDigit b → HasNoUnit text
  no_first_digit b e none rest h =
      none (h.0 / 4096) (after_one h.0 rest) (omega (arith, h.1)) (at_digits b rest h e)

  pub no_second_digit : (c : List ℕ) (x : ℕ) → text ≡ 92 ∷ 117 ∷ x ∷ c → HasNoDigit c → HasNoUnit text
  no_second_digit c x e none rest h =
      let whole : x ∷ c ≡ after_u h.0 rest = at_digits (x ∷ c) rest h e in
      let same : c ≡ after_one h.0 rest = cc in
      none (h.0 / 256 % 16) (after_two h.0 rest) (omega arith) same

  pub no_third_digit : (d : List ℕ) (x y : ℕ) → text ≡ 92 ∷ 117 ∷ x ∷ y ∷ d → HasNoDigit d → HasNoUnit text
  no_third_digit d x y e none rest h =
      let whole : x ∷ y ∷ d ≡ after_u h.0 rest = at_digits (x ∷ y ∷ d) rest h e in
      let same : d ≡ after_two h.0 rest = cc in
      none (h.0 / 16 % 16) (after_three h.0 rest) (omega arith) same

  pub no_fourth_digit : (f : List ℕ) (x y z : ℕ) → text ≡ 92 ∷ 117 ∷ x ∷ y ∷ z ∷ f → HasNoDigit f → HasNoUnit text
  no_fourth_digit f x y z e none rest h =
      let whole : x ∷ y ∷ z ∷ f ≡ after_u h.0 rest = at_digits (x ∷ y ∷ z ∷ f) rest h e in
      let same : f ≡ after_three h.0 rest = cc in
      none (h.0 % 16) rest (omega arith) same

-- the unit of four digits
pub unit_found : (text rest : List ℕ) (a b c d : ℕ) → (a < 16) × (b < 16) × (c < 16) × (d < 16)
    → text ≡ 92 ∷ 117 ∷ digit_glyph false a ∷ digit_glyph false b ∷ digit_glyph false c ∷ digit_glyph false d ∷ rest
    → text ≡ escaped_unit (a * 4096 + b * 256 + c * 16 + d) ++ rest
unit_found text rest a b c d (la, lb, lc, ld) e =
    let u = a * 4096 + b * 256 + c * 16 + d in
    let one : a ≡ u / 4096 = omega arith in
    let two : b ≡ u / 256 % 16 = omega arith in
    let three : c ≡ u / 16 % 16 = omega arith in
    let four : d ≡ u % 16 = omega arith in
    let last : List ℕ = digit_glyph false c ∷ digit_glyph false d ∷ rest in
    let spelled : 92 ∷ 117 ∷ digit_glyph false a ∷ digit_glyph false b ∷ last ≡ 92 ∷ 117 ∷ after_u u rest = cc in
    e ∙ spelled ∙ sym (unit_split u rest)
