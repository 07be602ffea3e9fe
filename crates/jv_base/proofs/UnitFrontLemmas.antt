-- How far a text begins a unit of an escape, byte by byte.
use Rattle.std.proofs.Common.{◌≡◌, ◌≢◌, ℕ, ◌+◌, ◌*◌, ◌/◌, ◌%◌, ◌^◌, ◌<◌, ◌≤◌, Bool, false, List, [], ◌∷◌, ◌++◌, refl}
use Rattle.std.proofs.Common.{subst, arith}
use Rattle.std.specs.Fmt.{digit_glyph}
use Rattle.jv_base.specs.Calls.Fronts.{IsLongestFront}
use Rattle.jv_base.specs.Spelling.{escaped_unit}
use Rattle.jv_base.specs.Calls.Units.{IsEscapeUnit, IsEscapedUnit, HasDigit, EndsAt}
use Rattle.jv_base.proofs.BlockLemmas.{unit_fits, a_unit}
use Rattle.jv_base.proofs.FrontLemmas.{stops}
use Rattle.jv_base.proofs.UnitLemmas.{glyph_same, unit_found}

abbrev IsFront : Bool → List ℕ → ℕ → Type 0
IsFront second text count = IsLongestFront (IsEscapedUnit second) text count

module _ (second : Bool) (text : List ℕ) where
  pub stops_0 : ((rest : List ℕ) → text ≢ 92 ∷ rest) → IsFront second text 0
  unfolding escaped_unit
  stops_0 none =
      let u = a_unit second in
      stops (IsEscapedUnit second) text [] text refl (escaped_unit u.0, (u.0, u.1, refl)) (λ x after more e h.
      let head : x ≡ 92 = cc (h.2) in
      none after (cc))

  pub stops_1 : (rest : List ℕ) → text ≡ 92 ∷ rest → ((tail : List ℕ) → rest ≢ 117 ∷ tail) → IsFront second text 1
  unfolding escaped_unit
  stops_1 rest is none =
      let u = a_unit second in
      stops (IsEscapedUnit second) text (92 ∷ []) rest is (_, (u.0, u.1, refl)) (λ x after more e h.
      let head : x ≡ 117 = cc (h.2) in
      none after (cc))

  module _ (digits : List ℕ) (is : text ≡ 92 ∷ 117 ∷ digits) where
    pub stops_2 : EndsAt second 0 4096 digits → IsFront second text 2
    unfolding escaped_unit
    stops_2 none =
        let u = a_unit second in
        stops (IsEscapedUnit second) text (92 ∷ 117 ∷ []) digits is (_, (u.0, u.1, refl)) (λ x after more e h.
        let fits = unit_fits second h.0 h.1 in
        let head : x ≡ digit_glyph false (h.0 / 4096) = cc (h.2) in
        none (h.0 / 4096) after (omega arith) (cc) (h.0, h.1, omega arith, omega arith))

    module _ (one : ℕ) (after_one : List ℕ) (a : HasDigit second 0 4096 digits one after_one) where
      pub stops_3 : EndsAt second one 256 after_one → IsFront second text 3
      unfolding escaped_unit
      stops_3 none =
          let u : ℕ = a.3.1.0 in
          let da : a.0 ≡ u / 4096 = omega (arith, a.1, a.2, a.3.1.2, a.3.1.3) in
          let split : text ≡ 92 ∷ 117 ∷ digit_glyph false a.0 ∷ after_one = cc (is, a.3.0) in
          let two : List ℕ = digit_glyph false (u / 16 % 16) ∷ digit_glyph false (u % 16) ∷ [] in
          let last : List ℕ = digit_glyph false (u / 256 % 16) ∷ two in
          stops (IsEscapedUnit second) text (92 ∷ 117 ∷ digit_glyph false a.0 ∷ []) after_one split
          (last, (u, a.3.1.1, cc da)) (λ x after more e h.
          let v : ℕ = h.0 in
          let fits : v < 2 ^ 16 = unit_fits second v h.1 in
          let ga : digit_glyph false a.0 ≡ digit_glyph false (v / 4096) = cc (h.2) in
          let sa : a.0 ≡ v / 4096 = glyph_same a.0 (v / 4096) a.1 (omega arith) ga in
          let head : x ≡ digit_glyph false (v / 256 % 16) = cc (h.2) in
          let sum : one ≡ v / 4096 * 4096 = omega (arith, sa, a.2) in
          none (v / 256 % 16) after (omega arith) (cc) (v, h.1, omega (arith, sum), omega (arith, sum)))

      module _ (two : ℕ) (after_two : List ℕ) (b : HasDigit second one 256 after_one two after_two) where
        pub stops_4 : EndsAt second two 16 after_two → IsFront second text 4
        unfolding escaped_unit
        stops_4 none =
            let u : ℕ = b.3.1.0 in
            let low : two ≤ u = b.3.1.2 in
            let high : u < two + 256 = b.3.1.3 in
            let da : a.0 ≡ u / 4096 = omega (arith, a.1, a.2, b.1, b.2, low, high) in
            let db : b.0 ≡ u / 256 % 16 = omega (arith, a.1, a.2, b.1, b.2, low, high) in
            let front : List ℕ = 92 ∷ 117 ∷ digit_glyph false a.0 ∷ digit_glyph false b.0 ∷ [] in
            let split : text ≡ front ++ after_two = cc (is, a.3.0, b.3.0) in
            let last : List ℕ = digit_glyph false (u / 16 % 16) ∷ digit_glyph false (u % 16) ∷ [] in
            stops (IsEscapedUnit second) text front after_two split
            (last, (u, b.3.1.1, cc (da, db))) (λ x after more e h.
            let v : ℕ = h.0 in
            let fits : v < 2 ^ 16 = unit_fits second v h.1 in
            let ga : digit_glyph false a.0 ≡ digit_glyph false (v / 4096) = cc (h.2) in
            let gb : digit_glyph false b.0 ≡ digit_glyph false (v / 256 % 16) = cc (h.2) in
            let sa : a.0 ≡ v / 4096 = glyph_same a.0 (v / 4096) a.1 (omega arith) ga in
            let sb : b.0 ≡ v / 256 % 16 = glyph_same b.0 (v / 256 % 16) b.1 (omega arith) gb in
            let head : x ≡ digit_glyph false (v / 16 % 16) = cc (h.2) in
            let sum : two ≡ v / 256 * 256 = omega (arith, sa, sb, a.2, b.2) in
            none (v / 16 % 16) after (omega arith) (cc) (v, h.1, omega (arith, sum), omega (arith, sum)))

        module _ (three : ℕ) (after_three : List ℕ) (c : HasDigit second two 16 after_two three after_three) where
          pub stops_5 : EndsAt second three 1 after_three → IsFront second text 5
          unfolding escaped_unit
          stops_5 none =
              let u : ℕ = c.3.1.0 in
              let low : three ≤ u = c.3.1.2 in
              let high : u < three + 16 = c.3.1.3 in
              let da : a.0 ≡ u / 4096 = omega (arith, a.1, a.2, b.1, b.2, c.1, c.2, low, high) in
              let db : b.0 ≡ u / 256 % 16 = omega (arith, a.1, a.2, b.1, b.2, c.1, c.2, low, high) in
              let dc : c.0 ≡ u / 16 % 16 = omega (arith, a.1, a.2, b.1, b.2, c.1, c.2, low, high) in
              let digits : List ℕ = digit_glyph false a.0 ∷ digit_glyph false b.0 ∷ digit_glyph false c.0 ∷ [] in
              let front : List ℕ = 92 ∷ 117 ∷ digits in
              let split : text ≡ front ++ after_three = cc (is, a.3.0, b.3.0, c.3.0) in
              let whole : front ++ digit_glyph false (u % 16) ∷ [] ≡ escaped_unit u = cc (da, db, dc) in
              stops (IsEscapedUnit second) text front after_three split
              (digit_glyph false (u % 16) ∷ [], (u, c.3.1.1, whole)) (λ x after more e h.
              let v : ℕ = h.0 in
              let fits : v < 2 ^ 16 = unit_fits second v h.1 in
              let ga : digit_glyph false a.0 ≡ digit_glyph false (v / 4096) = cc (h.2) in
              let gb : digit_glyph false b.0 ≡ digit_glyph false (v / 256 % 16) = cc (h.2) in
              let gc : digit_glyph false c.0 ≡ digit_glyph false (v / 16 % 16) = cc (h.2) in
              let sa : a.0 ≡ v / 4096 = glyph_same a.0 (v / 4096) a.1 (omega arith) ga in
              let sb : b.0 ≡ v / 256 % 16 = glyph_same b.0 (v / 256 % 16) b.1 (omega arith) gb in
              let sc : c.0 ≡ v / 16 % 16 = glyph_same c.0 (v / 16 % 16) c.1 (omega arith) gc in
              let head : x ≡ digit_glyph false (v % 16) = cc (h.2) in
              let sum : three ≡ v / 16 * 16 = omega (arith, sa, sb, sc, a.2, b.2, c.2) in
              none (v % 16) after (omega arith) (cc) (v, h.1, omega (arith, sum), omega (arith, sum)))

          pub whole_unit : (four : ℕ) (rest : List ℕ) → HasDigit second three 1 after_three four rest
              → IsEscapeUnit second four × (text ≡ escaped_unit four ++ rest)
          whole_unit four rest d =
              let same : d.3.1.0 ≡ four = omega (arith, d.3.1.2, d.3.1.3) in
              let sum : a.0 * 4096 + b.0 * 256 + c.0 * 16 + d.0 ≡ four = omega (arith, a.2, b.2, c.2, d.2) in
              let found = unit_found text rest a.0 b.0 c.0 d.0 (a.1, b.1, c.1, d.1)
              (cc (is, a.3.0, b.3.0, c.3.0, d.3.0)) in (
                subst (λ (u : ℕ). IsEscapeUnit second u) same d.3.1.1,
                subst (λ (u : ℕ). text ≡ escaped_unit u ++ rest) sum found,
              )
