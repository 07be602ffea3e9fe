-- The three forms of a unit in modified UTF-8, and that no two units begin alike.
use Rattle.std.proofs.Common.{◌≡◌, ◌≢◌, ℕ, ◌+◌, ◌*◌, ◌/◌, ◌%◌, ◌^◌, ◌<◌, ◌≤◌, ◌⊎◌, List, [], ◌∷◌, ◌++◌, length, Option}
use Rattle.std.proofs.Common.{Some, None, Bor, refl, sym, ap, ◌∙◌, arith, inl, inr}
use Rattle.std.specs.Prelude.{IfSome, IfNone}
use Rattle.std.proofs.lemmas.List.{length-append}
use Rattle.std.proofs.lemmas.Bool.{cases_lt, lt-ltb, le-ltb}
use Rattle.cf_pool.specs.ModifiedUtf8.{IsUnit, encoded_unit, BeginNoUnit}

pub record OneByte (u : ℕ) : Type 0 where
  pub above : 0 < u
  pub below : u < 0x80
  pub text : encoded_unit u ≡ u ∷ []

pub record TwoBytes (u : ℕ) : Type 0 where
  pub long : 0 < u → 0x80 ≤ u
  pub below : u < 0x800
  pub text : encoded_unit u ≡ (0xc0 + u / 64) ∷ (0x80 + u % 64) ∷ []

pub record ThreeBytes (u : ℕ) : Type 0 where
  pub long : 0x800 ≤ u
  pub below : u < 2 ^ 16
  pub text : encoded_unit u ≡ (0xe0 + u / 4096) ∷ (0x80 + u / 64 % 64) ∷ (0x80 + u % 64) ∷ []

one_byte : (u : ℕ) → 0 < u → u < 0x80 → OneByte u
unfolding encoded_unit
one_byte u above below = record { above = above; below = below; text = rw (lt-ltb 0 u above, lt-ltb u 0x80 below) refl }

zero_bytes : (u : ℕ) → u ≤ 0 → TwoBytes u
unfolding encoded_unit
zero_bytes u low =
    record {
      long = λ above. omega arith;
      below = omega arith;
      text = rw (le-ltb 0 u low, lt-ltb u 0x800 (omega arith)) refl;
    }

two_bytes : (u : ℕ) → 0x80 ≤ u → u < 0x800 → TwoBytes u
unfolding encoded_unit
two_bytes u long below =
    record {
      long = λ above. long;
      below = below;
      text = rw (lt-ltb 0 u (omega arith), le-ltb u 0x80 long, lt-ltb u 0x800 below) refl;
    }

three_bytes : (u : ℕ) → 0x800 ≤ u → u < 2 ^ 16 → ThreeBytes u
unfolding encoded_unit
three_bytes u long below =
    record {
      long = long;
      below = below;
      text = rw (
        lt-ltb 0 u (omega arith),
        le-ltb u 0x80 (omega arith),
        le-ltb u 0x800 long,
      ) refl;
    }

pub form : (u : ℕ) → IsUnit u → OneByte u ⊎ (TwoBytes u ⊎ ThreeBytes u)
form u fits =
    elim (cases_lt u 0x800) [
      | inl below ↦ elim (cases_lt u 0x80) [
        | inl small ↦ elim (cases_lt 0 u) [
          | inl above ↦ inl (one_byte u above small)
          | inr low ↦ inr (inl (zero_bytes u low))
        ]
        | inr long ↦ inr (inl (two_bytes u long below))
      ]
      | inr long ↦ inr (inr (three_bytes u long fits))
    ]

-- ---- a unit by its bytes

pub one_found : (u : ℕ) (rest : List ℕ) → 0 < u → u < 0x80 → u ∷ rest ≡ encoded_unit u ++ rest
one_found u rest above below = ap (λ (t : List ℕ). t ++ rest) (sym (one_byte u above below).text)

two_form : (u : ℕ) → (0 < u → 0x80 ≤ u) → u < 0x800 → TwoBytes u
two_form u long below = elim (cases_lt 0 u) [ inl above ↦ two_bytes u (long above) below | inr low ↦ zero_bytes u low ]

pub two_found : (high bits u : ℕ) (bytes rest : List ℕ) → high < 32 → bits < 64 → u ≡ high * 64 + bits
    → (0 < u → 0x80 ≤ u) → bytes ≡ (0x80 + bits) ∷ rest
    → (0xc0 + high) ∷ bytes ≡ encoded_unit u ++ rest
two_found high bits u bytes rest h b is long parts =
    let t = (two_form u long (omega arith)).text in
    let first : u / 64 ≡ high = omega arith in
    let second : u % 64 ≡ bits = omega arith in
    rw (parts, t, first, second) refl

pub three_found : (high middle bits u : ℕ) (bytes rest : List ℕ) → high < 16 → middle < 64 → bits < 64
    → u ≡ high * 4096 + middle * 64 + bits → 0x800 ≤ u → bytes ≡ (0x80 + middle) ∷ (0x80 + bits) ∷ rest
    → (0xe0 + high) ∷ bytes ≡ encoded_unit u ++ rest
three_found high middle bits u bytes rest h m b is long parts =
    let t = (three_bytes u long (omega arith)).text in
    let first : u / 4096 ≡ high = omega arith in
    let second : u / 64 % 64 ≡ middle = omega arith in
    let third : u % 64 ≡ bits = omega arith in
    rw (parts, t, first, second, third) refl

-- ---- bytes that no unit begins with

-- what a unit is whose first byte has these bits
pub record AsTwo (high : ℕ) (bytes after : List ℕ) (u : ℕ) : Type 0 where
  pub high_is : high ≡ u / 64
  pub bytes_are : bytes ≡ (0x80 + u % 64) ∷ after
  pub long : 0 < u → 0x80 ≤ u

pub record AsThree (high : ℕ) (bytes after : List ℕ) (u : ℕ) : Type 0 where
  pub high_is : high ≡ u / 4096
  pub bytes_are : bytes ≡ (0x80 + u / 64 % 64) ∷ (0x80 + u % 64) ∷ after
  pub long : 0x800 ≤ u

spelled_one : (u : ℕ) (text after : List ℕ) → OneByte u → text ≡ encoded_unit u ++ after → text ≡ u ∷ after
spelled_one u text after f e = e ∙ ap (λ (t : List ℕ). t ++ after) f.text

spelled_two : (u : ℕ) (text after : List ℕ) → TwoBytes u → text ≡ encoded_unit u ++ after
    → text ≡ (0xc0 + u / 64) ∷ (0x80 + u % 64) ∷ after
spelled_two u text after f e = e ∙ ap (λ (t : List ℕ). t ++ after) f.text

spelled_three : (u : ℕ) (text after : List ℕ) → ThreeBytes u → text ≡ encoded_unit u ++ after
    → text ≡ (0xe0 + u / 4096) ∷ (0x80 + u / 64 % 64) ∷ (0x80 + u % 64) ∷ after
spelled_three u text after f e = e ∙ ap (λ (t : List ℕ). t ++ after) f.text

heads : (a b : ℕ) (xs ys : List ℕ) → a ∷ xs ≡ b ∷ ys → (a ≡ b) × (xs ≡ ys)
heads a b xs ys e = (cc, cc)

pub as_two : (high u : ℕ) (bytes after : List ℕ) → high < 32 → IsUnit u → (0xc0 + high) ∷ bytes ≡ encoded_unit u
    ++ after → AsTwo high bytes after u
as_two high u bytes after h fits e =
    elim (form u fits) [
      | inl f ↦ let s = heads _ _ _ _ (spelled_one u _ after f e) in absurd (omega (arith, s.0, f.below))
      | inr g ↦ elim g [
        | inl f ↦ let s = heads _ _ _ _ (spelled_two u _ after f e) in
            record { high_is = omega (arith, s.0); bytes_are = s.1; long = f.long }
        | inr f ↦ let s = heads _ _ _ _ (spelled_three u _ after f e) in absurd (omega (arith, s.0, f.below))
      ]
    ]

pub as_three : (high u : ℕ) (bytes after : List ℕ) → high < 16 → IsUnit u → (0xe0 + high) ∷ bytes ≡ encoded_unit u
    ++ after → AsThree high bytes after u
as_three high u bytes after h fits e =
    elim (form u fits) [
      | inl f ↦ let s = heads _ _ _ _ (spelled_one u _ after f e) in absurd (omega (arith, s.0, f.below))
      | inr g ↦ elim g [
        | inl f ↦ let s = heads _ _ _ _ (spelled_two u _ after f e) in absurd (omega (arith, s.0, f.below))
        | inr f ↦ let s = heads _ _ _ _ (spelled_three u _ after f e) in
            record { high_is = omega (arith, s.0); bytes_are = s.1; long = f.long }
      ]
    ]

nil_cons : (x : ℕ) (xs : List ℕ) → [] ≡ x ∷ xs → ⊥
nil_cons x xs e = cc

pub none_of_nil : BeginNoUnit []
none_of_nil u after fits e =
    elim (form u fits) [
      | inl f ↦ nil_cons _ _ (spelled_one u _ after f e)
      | inr g ↦
          elim g [
            | inl f ↦ nil_cons _ _ (spelled_two u _ after f e)
            | inr f ↦ nil_cons _ _
                (spelled_three u _ after f e)
          ]
    ]

-- a first byte of no unit: 0, one from 0x80 to 0xbf, or one from 0xf0 on
pub none_of_first : (first : ℕ) (bytes : List ℕ) → (0 < first → 0x80 ≤ first) → (0xc0 ≤ first → 0xf0 ≤ first)
    → BeginNoUnit (first ∷ bytes)
none_of_first first bytes low high u after fits e =
    elim (form u fits) [
      | inl f ↦ let s = heads _ _ _ _ (spelled_one u _ after f e) in omega (arith, s.0, f.below, f.above)
      | inr g ↦ elim g [
        | inl f ↦ let s = heads _ _ _ _ (spelled_two u _ after f e) in omega (arith, s.0, f.below)
        | inr f ↦ let s = heads _ _ _ _ (spelled_three u _ after f e) in omega (arith, s.0, f.below)
      ]
    ]

pub none_of_two_end : (high : ℕ) (bytes : List ℕ) → high < 32 → bytes ≡ [] → BeginNoUnit ((0xc0 + high) ∷ bytes)
none_of_two_end high bytes h is u after fits e = nil_cons _ _ (sym is ∙ (as_two high u bytes after h fits e).bytes_are)

pub none_of_two_second : (high second : ℕ) (bytes rest : List ℕ) → high < 32 → bytes ≡ second ∷ rest
    → ((bits : ℕ) → bits < 64 → second ≢ 0x80 + bits) → BeginNoUnit ((0xc0 + high) ∷ bytes)
none_of_two_second high second bytes rest h is none u after fits e =
    let s = heads _ _ _ _ (sym is ∙ (as_two high u bytes after h fits e).bytes_are) in
    none (u % 64) (omega arith) s.0

pub none_of_two_short : (high bits : ℕ) (bytes rest : List ℕ) → high < 32 → bits < 64 → bytes ≡ (0x80 + bits) ∷ rest
    → 0 < high * 64 + bits → high * 64 + bits < 0x80 → BeginNoUnit ((0xc0 + high) ∷ bytes)
none_of_two_short high bits bytes rest h b is above below u after fits e =
    let t = as_two high u bytes after h fits e in
    let s = heads _ _ _ _ (sym is ∙ t.bytes_are) in
    let same : u ≡ high * 64 + bits = omega (arith, s.0, t.high_is) in
    omega (arith, t.long (omega arith))

pub none_of_three_end : (high : ℕ) (bytes : List ℕ) → high < 16 → bytes ≡ [] → BeginNoUnit ((0xe0 + high) ∷ bytes)
none_of_three_end high bytes h is u after fits e =
    nil_cons _ _ (sym is ∙ (as_three high u bytes after h fits e).bytes_are)

pub none_of_three_second : (high second : ℕ) (bytes rest : List ℕ) → high < 16 → bytes ≡ second ∷ rest
    → ((bits : ℕ) → bits < 64 → second ≢ 0x80 + bits) → BeginNoUnit ((0xe0 + high) ∷ bytes)
none_of_three_second high second bytes rest h is none u after fits e =
    let s = heads _ _ _ _ (sym is ∙ (as_three high u bytes after h fits e).bytes_are) in
    none (u / 64 % 64) (omega arith) s.0

pub none_of_three_middle : (high second : ℕ) (bytes : List ℕ) → high < 16 → bytes ≡ second ∷ []
    → BeginNoUnit ((0xe0 + high) ∷ bytes)
none_of_three_middle high second bytes h is u after fits e =
    let s = heads _ _ _ _ (sym is ∙ (as_three high u bytes after h fits e).bytes_are) in
    nil_cons _ _ s.1

pub none_of_three_third : (high second third : ℕ) (bytes rest : List ℕ) → high < 16 → bytes ≡ second ∷ third ∷ rest
    → ((bits : ℕ) → bits < 64 → third ≢ 0x80 + bits) → BeginNoUnit ((0xe0 + high) ∷ bytes)
none_of_three_third high second third bytes rest h is none u after fits e =
    let s = heads _ _ _ _ (sym is ∙ (as_three high u bytes after h fits e).bytes_are) in
    let t = heads _ _ _ _ s.1 in
    none (u % 64) (omega arith) t.0

pub none_of_three_short : (high middle bits : ℕ) (bytes rest : List ℕ) → high < 16 → middle < 64 → bits < 64
    → bytes ≡ (0x80 + middle) ∷ (0x80 + bits) ∷ rest → high * 4096 + middle * 64 + bits < 0x800
    → BeginNoUnit ((0xe0 + high) ∷ bytes)
none_of_three_short high middle bits bytes rest h m b is below u after fits e =
    let t = as_three high u bytes after h fits e in
    let s = heads _ _ _ _ (sym is ∙ t.bytes_are) in
    let r = heads _ _ _ _ s.1 in
    let same : u ≡ high * 4096 + middle * 64 + bits = omega (arith, s.0, r.0, t.high_is) in
    omega (arith, t.long)

-- ---- no two units begin alike

one_head : (u : ℕ) (text after : List ℕ) → IsUnit u → text ≡ encoded_unit u ++ after → (first : ℕ) × (rest : List ℕ)
    × (text ≡ first ∷ rest)
one_head u text after fits e =
    elim (form u fits) [
      | inl f ↦ (u, after, spelled_one u text after f e)
      | inr g ↦ elim g [
        | inl f ↦ (0xc0 + u / 64, (0x80 + u % 64) ∷ after, spelled_two u text after f e)
        | inr f ↦ (0xe0 + u / 4096, (0x80 + u / 64 % 64) ∷ (0x80 + u % 64) ∷ after, spelled_three u text after f e)
      ]
    ]

-- a unit has a byte
pub unit_head : (u : ℕ) (after : List ℕ) → IsUnit u → (first : ℕ) × (rest : List ℕ)
    × (encoded_unit u ++ after ≡ first ∷ rest)
unit_head u after fits = one_head u (encoded_unit u ++ after) after fits refl

pub unit_length : (u : ℕ) → IsUnit u → 0 < length (encoded_unit u)
unit_length u fits =
    elim (form u fits) [
      | inl f ↦ omega (arith, ap length f.text)
      | inr g ↦ elim g [ inl f ↦ omega (arith, ap length f.text) | inr f ↦ omega (arith, ap length f.text) ]
    ]

pub unit_same : (u v : ℕ) (a b : List ℕ) → IsUnit u → IsUnit v → encoded_unit u ++ a ≡ encoded_unit v ++ b
    → (u ≡ v) × (a ≡ b)
unit_same u v a b fu fv e =
    elim (form u fu) [
      | inl f ↦ elim (form v fv) [
        | inl g ↦ heads _ _ _ _ (sym (spelled_one u _ a f refl) ∙ e ∙ spelled_one v _ b g refl)
        | inr h ↦ elim h [
          | inl g ↦ let s = heads _ _ _ _ (sym (spelled_one u _ a f refl) ∙ e ∙ spelled_two v _ b g refl) in
              absurd (omega (arith, s.0, f.below))
          | inr g ↦ let s = heads _ _ _ _ (sym (spelled_one u _ a f refl) ∙ e ∙ spelled_three v _ b g refl) in
              absurd (omega (arith, s.0, f.below))
        ]
      ]
      | inr k ↦ elim k [
        | inl f ↦
            let t = as_two (u / 64) v ((0x80 + u % 64) ∷ a) b (omega (arith, f.below)) fv
            (sym (spelled_two u _ a f refl) ∙ e) in
            let s = heads _ _ _ _ t.bytes_are in
            (omega (arith, s.0, t.high_is), s.1)
        | inr f ↦
            let t = as_three (u / 4096) v ((0x80 + u / 64 % 64) ∷ (0x80 + u % 64) ∷ a) b (omega (arith, f.below)) fv
            (sym (spelled_three u _ a f refl) ∙ e) in
            let s = heads _ _ _ _ t.bytes_are in
            let r = heads _ _ _ _ s.1 in
            (omega (arith, s.0, r.0, t.high_is), r.1)
      ]
    ]

pub if_none : {X : Type 0} (r : Option X) (P : Type 0) → P → IfNone r P
if_none None P p = p
if_none (Some x) P p = tt

-- what follows a unit has fewer bytes
pub all_shorter : (r : Option (ℕ × Bor (List ℕ))) (text bytes : List ℕ) → length text ≤ length bytes
    → IfSome r (λ x. IsUnit x.0 × (text ≡ encoded_unit x.0 ++ x.1.now))
    → IfSome r (λ x. length x.1.now < length bytes)
all_shorter None text bytes le found = tt
all_shorter (Some x) text bytes le found =
    let some = unit_length x.0 found.0 in
    omega (arith, le, some, ap length found.1, length-append (encoded_unit x.0) x.1.now)
