-- Numbers in decimal digits.
use Rattle.std.proofs.Common.{◌≡◌, ◌≢◌, ◌∙◌, ℕ, ◌<◌, ◌^◌, List, [], ◌∷◌, length, get_or, refl, sym, ap}
use Rattle.std.proofs.Common.{subst, arith, inl, inr}
use Rattle.std.proofs.Common.{Bool, true, false, eqb}
use Rattle.std.proofs.Common.{Option, Some, None, Result, Ok, Err, IfSome}
use Rattle.std.specs.Prelude.{slice_get}
use Rattle.std.specs.Fmt.{decimal}
use Rattle.std.specs.Str.Parse.{AllDigits, ParsesUnsigned, digits_value}
use Rattle.std.specs.Result.{OkIff, result_ok}
use Rattle.std.specs.Bool.{then_some}
use Rattle.std.proofs.lemmas.Bool.{cases_lt, eqb-true, eq-eqb}
use Rattle.std.proofs.lemmas.Fmt.{decimal-digits_value, decimal_digit, decimal_is_IsNumeral, decimal_nonempty}
use Rattle.std.proofs.lemmas.Fmt.{first_decimal, parse-decimal}
use Rattle.std.proofs.lemmas.Str.Parse.{digit_at, numerals_by_value, parse_plain, tells_digits}

-- a text that begins with `+` is no number
pub plus_is_none : (text : List ℕ) (number : ℕ) → number < 2 ^ 64 → get_or text 0 0 ≡ 43 → text ≡ decimal number → ⊥
plus_is_none text number small plus is =
    let digit = digit_at (decimal number) 0 (decimal_is_IsNumeral number small).0.1 (decimal_nonempty number small) in
    omega (arith, digit, ap (λ (t : List ℕ). get_or t 0 0) is)

-- a number that begins with `0` is 0
zero_leads : (text : List ℕ) (number : ℕ) → number < 2 ^ 64 → get_or text 0 0 ≡ 48 → text ≡ decimal number
    → (number ≡ 0) × (length text ≡ 1)
zero_leads text number small zero is =
    elim (cases_lt 0 number) [
      | inl some ↦ absurd (omega (arith, first_decimal number some small, ap (λ (t : List ℕ). get_or t 0 0) is))
      | inr none ↦
          let none_is : number ≡ 0 = omega arith in
          (none_is, ap length (is ∙ ap decimal none_is ∙ decimal_digit 0 (omega arith)))
    ]

zero_is : (text : List ℕ) → get_or text 0 0 ≡ 48 → length text ≡ 1 → text ≡ decimal 0
zero_is text zero one = one_byte text zero one ∙ sym (decimal_digit 0 (omega arith))
  where
    one_byte : (t : List ℕ) → get_or t 0 0 ≡ 48 → length t ≡ 1 → t ≡ 48 ∷ []
    one_byte [] zero one = absurd (omega arith)
    one_byte (x ∷ []) zero one = ap (λ (d : ℕ). d ∷ []) zero
    one_byte (x ∷ y ∷ ys) zero one = absurd (omega arith)

-- an empty text is no number
pub empty_is_none : (text : List ℕ) (number : ℕ) → number < 2 ^ 64 → None ≡ slice_get text 0 → text ≡ decimal number → ⊥
empty_is_none [] number small none is = omega (arith, decimal_nonempty number small, ap length is)
empty_is_none (x ∷ xs) number small none is = cc

pub first_is : (text : List ℕ) (first : ℕ) → Some first ≡ slice_get text 0 → get_or text 0 0 ≡ first
first_is [] first e = cc
first_is (x ∷ xs) first e = cc

-- the text is digits, and this is the result of reading them
abbrev Reads : {E : Type 0} → List ℕ → Result ℕ E → Type 0
Reads text read =
    OkIff read (AllDigits 10 text × (0 < length text) × (digits_value 10 text < 2 ^ 32)) (digits_value 10 text)

module _ {E : Type 0} (text : List ℕ) (read : Result ℕ E) (parses : ParsesUnsigned 32 10 text read) (o : Option ℕ)
    (is : o ≡ result_ok read) where
  -- what is read of any other text is its number
  pub number_found : get_or text 0 0 ≢ 43 → get_or text 0 0 ≢ 48 → IfSome o (λ number. text ≡ decimal number)
  number_found plain lead =
      subst (λ (p : Option ℕ). IfSome p (λ number. text ≡ decimal number)) (sym is)
      (go read (parse_plain (numerals_by_value (AllDigits 10) tells_digits) 32 text read parses plain))
    where
      go : (r : Result ℕ E) → Reads text r → IfSome (result_ok r) (λ number. text ≡ decimal number)
      go (Ok number) told =
          let leads : get_or text 0 0 ≡ 48 → length text ≡ 1 = λ zero. absurd (lead zero) in
          let own = numerals_by_value (AllDigits 10) tells_digits in
          sym (ap decimal told.1
          ∙ decimal-digits_value own text told.0.0 told.0.1 leads (omega (arith, told.0.2)))
      go (Err e) told = tt

  pub number_only : (number : ℕ) → number < 2 ^ 32 → text ≡ decimal number → o ≡ Some number
  number_only number small same =
      let reads : read ≡ Ok number = parse-decimal 32 number text read small (omega arith) same parses in
      is ∙ ap result_ok reads

-- a text that begins with `0` is read where it has no more bytes
module _ (text : List ℕ) (o : Option ℕ) (zero : get_or text 0 0 ≡ 48) (is : o ≡ then_some (eqb (length text) 1) 0) where
  pub zero_found : IfSome o (λ number. text ≡ decimal number)
  zero_found =
      subst (λ (p : Option ℕ). IfSome p (λ number. text ≡ decimal number)) (sym is) (go (eqb (length text) 1) refl)
    where
      go : (b : Bool) → eqb (length text) 1 ≡ b → IfSome (then_some b 0) (λ number. text ≡ decimal number)
      go true one = zero_is text zero (eqb-true (length text) 1 one)
      go false more = tt

  pub zero_only : (number : ℕ) → number < 2 ^ 64 → text ≡ decimal number → o ≡ Some number
  zero_only number small same =
      let alone = zero_leads text number small zero same in
      is ∙ ap (λ (b : Bool). then_some b 0) (eq-eqb (length text) 1 alone.1) ∙ ap (λ (n : ℕ). Some n) (sym alone.0)
