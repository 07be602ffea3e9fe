-- Characters and their bytes in UTF-8.
use Rattle.std.proofs.Common.{◌≡◌, ℕ, suc, ◌<◌, ◌≤◌, true, List, [], ◌∷◌, ◌++◌, length, get_or, take, drop, map, refl}
use Rattle.std.proofs.Common.{sym, ap, ◌∙◌, append-nil, arith, inl, inr, All}
use Rattle.std.specs.Char.{IsScalar}
use Rattle.std.specs.List.{list_all, flat_map}
use Rattle.std.specs.Str.{IsUtf8, IsAscii, chars}
use Rattle.std.specs.Prelude.{encode_utf8, encode_utf8_all, nat_lt, ⊤}
use Rattle.std.proofs.Math.Utf8.{scalars, scalar_cases}
use Rattle.std.proofs.Math.Seq.{drop-cons}
use Rattle.std.proofs.lemmas.Bool.{and_parts, and_from, cases_lt, ltb-true}
use Rattle.std.proofs.lemmas.Bool.Decides.{nat_tests}
use Rattle.std.proofs.lemmas.List.{take-append-drop, map-id}
use Rattle.std.proofs.lemmas.List.Elements.{All-weaker}
use Rattle.std.proofs.lemmas.List.Sums.{AllPass-from_list_all}
use Rattle.std.proofs.lemmas.Str.{length-encode, encode_same, len_utf8_bounds, inside_one, IsUtf8-append, IsUtf8-encode}
use Rattle.std.proofs.lemmas.Str.{IsUtf8-from_ascii, scalars-chars}
use Rattle.std.proofs.lemmas.Str.Ascii.{IsAscii-from_all}
use Rattle.jv_list.proofs.ToldLemmas.{told_longer}

-- ---- scalar values

-- a scalar value is below 0x11_0000
pub scalar_bound : (c : ℕ) → IsScalar c → c < 0x11_0000
scalar_bound c h = elim (scalar_cases c h) [ inl a ↦ omega arith | inr b ↦ omega arith ]

-- and no surrogate
pub not_surrogate : (c : ℕ) → IsScalar c → 0xd800 ≤ c → c < 0xe000 → ⊥
not_surrogate c h from to = elim (scalar_cases c h) [ inl a ↦ omega arith | inr b ↦ omega arith ]

-- above the surrogates all numbers are scalar values
pub high_scalar : (c : ℕ) → 0xe000 ≤ c → c < 0x11_0000 → IsScalar c
high_scalar c from to = grind (arith, nat_tests)

-- ---- the bytes of a character

-- a character has bytes
pub some_bytes : (c : ℕ) → 0 < length (encode_utf8 c)
some_bytes c = omega (arith, length-encode c, (len_utf8_bounds c).0)

-- the bytes of one that is no ASCII are no ASCII
pub bytes_high : (c : ℕ) → 128 ≤ c → (k : ℕ) → k < length (encode_utf8 c) → 128 ≤ get_or (encode_utf8 c) k 0
bytes_high c big k below =
    elim (cases_lt (get_or (encode_utf8 c) k 0) 128) [
      | inl low ↦ absurd (omega (arith, inside_one c [] (encode_utf8 c) k (sym (append-nil (encode_utf8 c))) below low))
      | inr high ↦ high
    ]

-- a text with one more character
pub IsUtf8-more : (text : List ℕ) (c : ℕ) → IsUtf8 text → IsScalar c → IsUtf8 (text ++ encode_utf8 c)
IsUtf8-more text c utf8 scalar = IsUtf8-append text (encode_utf8 c) utf8 (IsUtf8-encode c scalar)

-- ---- texts of ASCII alone

-- a test of each byte
pub all_below : (bs : List ℕ) → list_all (λ b. nat_lt b 128) bs ≡ true → All (λ b. b < 128) bs
all_below bs e =
    All-weaker (λ b. nat_lt b 128 ≡ true) (λ b. b < 128) (λ b h. ltb-true b 128 h) bs
    (AllPass-from_list_all (λ b. nat_lt b 128) bs e)

-- such a text is ASCII
pub IsAscii-from_test : (bs : List ℕ) → list_all (λ b. nat_lt b 128) bs ≡ true → IsAscii bs
IsAscii-from_test bs e = IsAscii-from_all bs (all_below bs e)

-- and UTF-8
pub IsUtf8-from_test : (bs : List ℕ) → list_all (λ b. nat_lt b 128) bs ≡ true → IsUtf8 bs
IsUtf8-from_test bs e = IsUtf8-from_ascii bs (IsAscii-from_test bs e)

-- ---- the characters of a text

-- the character that comes is the next of the text
pub next_char : (text cs : List ℕ) (c : ℕ) → map (λ x. x) cs ≡ take (length cs) (chars text)
    → (length cs < length (chars text)) × (c ≡ get_or (chars text) (length cs) c)
    → (more : List ℕ) × (chars text ≡ cs ++ c ∷ more)
next_char text cs c front at =
    let n = length cs in (
      drop (suc n) (chars text),
      sym (take-append-drop n (chars text)) ∙ ap (λ (t : List ℕ). t ++ drop n (chars text)) (sym front ∙ map-id cs)
          ∙ ap (λ (t : List ℕ). cs ++ t) (drop-cons (chars text) n c at.0)
          ∙ ap (λ (b : ℕ). cs ++ b ∷ drop (suc n) (chars text)) (sym at.1),
    )

-- scalar values are so one by one
pub scalars_parts : (cs ds : List ℕ) (c : ℕ) → scalars (cs ++ c ∷ ds) ≡ true → (scalars cs ≡ true) × IsScalar c
scalars_parts [] ds c h = (refl, (and_parts _ (scalars ds) h).0)
scalars_parts (b ∷ cs) ds c h =
    let first = and_parts _ (scalars (cs ++ c ∷ ds)) h in
    let rest = scalars_parts cs ds c first.1 in
    (and_from _ (scalars cs) first.0 rest.0, rest.1)

-- the next character of a text is a scalar value
pub next_scalar : (text cs more : List ℕ) (c : ℕ) → IsUtf8 text → chars text ≡ cs ++ c ∷ more
    → (scalars cs ≡ true) × IsScalar c
next_scalar text cs more c u e = scalars_parts cs more c (ap scalars (sym e) ∙ scalars-chars text u)

-- the bytes of characters one after the other
bytes_of : (cs : List ℕ) → encode_utf8_all cs ≡ flat_map encode_utf8 cs
bytes_of [] = refl
bytes_of (c ∷ cs) = ap (λ (t : List ℕ). encode_utf8 c ++ t) (bytes_of cs)

-- a longer front of the characters of a text has the next one
pub longer_text : (cs ds more rest : List ℕ) (c : ℕ)
    → encode_utf8_all (cs ++ c ∷ more) ≡ encode_utf8_all ds ++ rest
    → length (encode_utf8_all cs) < length (encode_utf8_all ds) → (es : List ℕ) × (ds ≡ cs ++ c ∷ es)
longer_text cs ds more rest c e longer =
    told_longer encode_utf8 (λ (b : ℕ). ⊤) (λ x y s t fx fy same. encode_same x y s t same) cs ds more c rest
    (All-any cs) tt (All-any ds)
    (sym (bytes_of (cs ++ c ∷ more)) ∙ e ∙ ap (λ (t : List ℕ). t ++ rest) (bytes_of ds))
    (omega (arith, longer, ap length (bytes_of cs), ap length (bytes_of ds)))
  where
    All-any : (xs : List ℕ) → All (λ (b : ℕ). ⊤) xs
    All-any xs k d lt = tt
