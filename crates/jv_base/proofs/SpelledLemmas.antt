-- The texts of names: their characters, and the marks that they have not.
use Rattle.std.proofs.Common.{◌≡◌, ◌≢◌, ℕ, ◌/◌, ◌%◌, ◌<◌, true, false, List, [], ◌∷◌, ◌++◌, length, refl, sym}
use Rattle.std.proofs.Common.{ap, subst, ◌∙◌, arith, inl, inr}
use Rattle.std.specs.List.{All, list_all, flat_map}
use Rattle.std.specs.Char.{IsScalar}
use Rattle.std.specs.Char.Escape.{encode_utf16}
use Rattle.std.specs.Fmt.{digit_glyph}
use Rattle.std.specs.Str.{IsAscii, IsUtf8, chars}
use Rattle.std.specs.Prelude.{encode_utf8, encode_utf8_all}
use Rattle.std.proofs.Math.Utf8.{scalars}
use Rattle.std.proofs.lemmas.Bool.{false≢true, cases_Bool, cases_lt, and_parts, lt-ltb, le-ltb}
use Rattle.std.proofs.lemmas.Bool.Decides.{nat_tests}
use Rattle.std.proofs.lemmas.List.{drop_at}
use Rattle.std.proofs.lemmas.List.Elements.{All-nil, All-cons, All-head, All-tail, All-append, All-drop, All-weaker}
use Rattle.std.proofs.lemmas.List.Sums.{AllPass-from_list_all}
use Rattle.std.proofs.lemmas.Str.{encodes-chars, encode_ascii, scalars-chars, IsUtf8-from_ascii, chars-IsAscii}
use Rattle.std.proofs.lemmas.Str.Ascii.{IsAscii-from_all}
use Rattle.jv_base.specs.declared.form.Form.{Form}
use Rattle.jv_base.specs.declared.form.Form.TheVariants.{ClassName}
use Rattle.jv_base.specs.Forms.{IsSpelled}
use Rattle.jv_base.specs.Spelling.{is_plain, IsUnit, escaped_unit, escape_text, character_text, name_text}
use Rattle.jv_base.proofs.DescriptorLemmas.{class_without}
use Rattle.jv_base.proofs.EscapeLemmas.{high_of, low_of}
use Rattle.jv_list.proofs.TextLemmas.{scalar_bound}

-- ---- the bytes of a text

-- what holds of each byte that an escape may have
record HoldsInEscapes (P : ℕ → Type 0) : Type 0 where
  backslash : P 92
  letter : P 117
  digit : (d : ℕ) → d < 16 → P (digit_glyph false d)

-- a character is one unit or two
units_of : (c : ℕ) → IsScalar c → All IsUnit (encode_utf16 c)
units_of c h =
    elim (cases_lt c 0x1_0000) [
      | inl lt ↦ rw (lt-ltb c 0x1_0000 lt) (All-cons IsUnit c [] (omega arith) (All-nil IsUnit))
      | inr le ↦
          let high : IsUnit (high_of c) = omega (arith, scalar_bound c h) in
          let low : All IsUnit (low_of c ∷ []) = All-cons IsUnit (low_of c) [] (omega arith) (All-nil IsUnit) in
          rw (le-ltb c 0x1_0000 le) (All-cons IsUnit (high_of c) (low_of c ∷ []) high low)
    ]

module _ (P : ℕ → Type 0) (escapes : HoldsInEscapes P) where
  unit_all : (u : ℕ) → IsUnit u → All P (escaped_unit u)
  unfolding escaped_unit
  unit_all u lt =
      let one : List ℕ = digit_glyph false (u % 16) ∷ [] in
      let two : List ℕ = digit_glyph false (u / 16 % 16) ∷ one in
      let three : List ℕ = digit_glyph false (u / 256 % 16) ∷ two in
      let four : List ℕ = digit_glyph false (u / 4096) ∷ three in
      let last = digit (u / 16 % 16) one (omega arith) (digit (u % 16) [] (omega arith) (All-nil P)) in
      let digits = digit (u / 4096) three (omega (arith, lt)) (digit (u / 256 % 16) two (omega arith) last) in
      All-cons P 92 (117 ∷ four) escapes.backslash (All-cons P 117 four escapes.letter digits)
    where
      digit : (d : ℕ) (bs : List ℕ) → d < 16 → All P bs → All P (digit_glyph false d ∷ bs)
      digit d bs lt all = All-cons P (digit_glyph false d) bs (escapes.digit d lt) all

  units_all : (us : List ℕ) → All IsUnit us → All P (flat_map escaped_unit us)
  units_all [] all = All-nil P
  units_all (u ∷ us) all =
      All-append P (escaped_unit u) (flat_map escaped_unit us) (unit_all u (All-head IsUnit u us all))
      (units_all us (All-tail IsUnit u us all))

  character_all : (c : ℕ) → IsScalar c → (is_plain c ≡ true → P c) → All P (character_text c)
  unfolding character_text escape_text
  character_all c scalar plain =
      elim (cases_Bool (is_plain c)) [
        | inl p ↦ rw p (All-cons P c [] (plain p) (All-nil P))
        | inr n ↦ rw n (units_all (encode_utf16 c) (units_of c scalar))
      ]

  -- what a character has that is its own text
  abbrev PlainHas : ℕ → Type 0
  PlainHas c = is_plain c ≡ true → P c

  characters_all : (cs : List ℕ) → scalars cs ≡ true → All PlainHas cs → All P (flat_map character_text cs)
  characters_all [] h all = All-nil P
  characters_all (c ∷ cs) h all =
      let parts = and_parts _ (scalars cs) h in
      let rest = characters_all cs parts.1 (All-tail PlainHas c cs all) in
      let one = character_all c parts.0 (All-head PlainHas c cs all) in
      All-append P (character_text c) (flat_map character_text cs) one rest

  name_all : (name : List ℕ) → IsUtf8 name → All PlainHas (chars name) → All P (name_text name)
  unfolding name_text
  name_all name text plain = characters_all (chars name) (scalars-chars name text) plain

-- ---- ASCII

ascii : HoldsInEscapes (λ b. b < 128)
ascii = record { backslash = omega arith; letter = omega arith; digit = λ d lt. grind (arith, nat_tests) }

plain_ascii : (c : ℕ) → is_plain c ≡ true → c < 128
plain_ascii c p = grind (arith, nat_tests)

pub name_ascii : (name : List ℕ) → IsUtf8 name → All (λ b. b < 128) (name_text name)
name_ascii name text = name_all (λ b. b < 128) ascii name text (λ k d lt p. plain_ascii _ p)

-- ---- marks

dot : HoldsInEscapes (λ b. b ≢ 46)
dot = record {
  backslash = λ e. omega (arith, e);
  letter = λ e. omega (arith, e);
  digit = λ d lt e. grind (arith, nat_tests);
}

colon : HoldsInEscapes (λ b. b ≢ 58)
colon = record {
  backslash = λ e. omega (arith, e);
  letter = λ e. omega (arith, e);
  digit = λ d lt e. grind (arith, nat_tests);
}

at_sign : HoldsInEscapes (λ b. b ≢ 64)
at_sign = record {
  backslash = λ e. omega (arith, e);
  letter = λ e. omega (arith, e);
  digit = λ d lt e. grind (arith, nat_tests);
}

-- a mark that is always escaped
name_no_mark : (c : ℕ) → HoldsInEscapes (λ b. b ≢ c) → is_plain c ≡ false → (name : List ℕ) → IsUtf8 name
    → All (λ b. b ≢ c) (name_text name)
name_no_mark c mark escaped name text =
    let other : (b : ℕ) → is_plain b ≡ true → b ≢ c =
    λ b p e. false≢true (sym escaped ∙ subst (λ (x : ℕ). is_plain x ≡ true) e p) in
    name_all (λ b. b ≢ c) mark name text (λ k d lt p. other _ p)

pub name_no_colon : (name : List ℕ) → IsUtf8 name → All (λ b. b ≢ 58) (name_text name)
name_no_colon name text = name_no_mark 58 colon refl name text

pub name_no_at_sign : (name : List ℕ) → IsUtf8 name → All (λ b. b ≢ 64) (name_text name)
name_no_at_sign name text = name_no_mark 64 at_sign refl name text

abbrev NoDot : List ℕ → Type 0
NoDot bytes = All (λ b. b ≢ 46) bytes

chars_no_dot : (cs : List ℕ) → NoDot (encode_utf8_all cs) → All (λ d. is_plain d ≡ true → d ≢ 46) cs
chars_no_dot [] all = All-nil (λ d. is_plain d ≡ true → d ≢ 46)
chars_no_dot (c ∷ cs) all =
    let n : ℕ = length (encode_utf8 c) in
    let rest : NoDot (encode_utf8_all cs) =
    subst NoDot (drop_at (encode_utf8 c) (encode_utf8_all cs) n refl)
    (All-drop (λ b. b ≢ 46) n (encode_utf8_all (c ∷ cs)) all) in
    let first : is_plain c ≡ true → c ≢ 46 = λ p e. first_no_dot c (encode_utf8_all cs) e all in
    All-cons (λ d. is_plain d ≡ true → d ≢ 46) c cs first (chars_no_dot cs rest)
  where
    first_no_dot : (c : ℕ) (rest : List ℕ) → c ≡ 46 → NoDot (encode_utf8 c ++ rest) → ⊥
    first_no_dot c rest e all =
        let spelled : encode_utf8 c ≡ 46 ∷ [] = ap encode_utf8 e ∙ encode_ascii 46 (omega arith) in
        All-head (λ b. b ≢ 46) 46 rest (subst (λ (t : List ℕ). NoDot (t ++ rest)) spelled all) refl

-- a dot is itself in a text
name_no_dot : (name : List ℕ) → IsUtf8 name → NoDot name → NoDot (name_text name)
name_no_dot name text all =
    name_all (λ b. b ≢ 46) dot name text (chars_no_dot (chars name) (subst NoDot (sym (encodes-chars name text)) all))

-- ---- spelled texts

abbrev IsPlain : ℕ → Type 0
IsPlain c = is_plain c ≡ true

plain_characters : (cs : List ℕ) → All IsPlain cs → flat_map character_text cs ≡ cs
unfolding character_text
plain_characters [] all = refl
plain_characters (c ∷ cs) all =
    let p : is_plain c ≡ true = All-head IsPlain c cs all in
    rw (p, plain_characters cs (All-tail IsPlain c cs all)) refl

-- plain characters are their own text
pub plain_spelled : (name : List ℕ) → list_all is_plain name ≡ true → IsUtf8 name × (name ≡ name_text name)
unfolding name_text
plain_spelled name test =
    let all : All IsPlain name = AllPass-from_list_all is_plain name test in
    let small : IsAscii name = IsAscii-from_all name (All-weaker IsPlain (λ b. b < 128) plain_ascii name all) in
    let same = ap (λ (cs : List ℕ). flat_map character_text cs) (chars-IsAscii name small) in
    (IsUtf8-from_ascii name small, sym (same ∙ plain_characters name all))

pub spelled_ascii : (form : Form) (text : List ℕ) → IsSpelled form text → All (λ b. b < 128) text
spelled_ascii form text h = subst (λ (t : List ℕ). All (λ b. b < 128) t) (sym h.3) (name_ascii h.0 h.1)

pub spelled_no_colon : (form : Form) (text : List ℕ) → IsSpelled form text → All (λ b. b ≢ 58) text
spelled_no_colon form text h = subst (λ (t : List ℕ). All (λ b. b ≢ 58) t) (sym h.3) (name_no_colon h.0 h.1)

pub spelled_no_at_sign : (form : Form) (text : List ℕ) → IsSpelled form text → All (λ b. b ≢ 64) text
spelled_no_at_sign form text h = subst (λ (t : List ℕ). All (λ b. b ≢ 64) t) (sym h.3) (name_no_at_sign h.0 h.1)

pub class_no_dot : (text : List ℕ) → IsSpelled ClassName text → All (λ b. b ≢ 46) text
class_no_dot text h =
    let free : NoDot h.0 = class_without 46 (λ e. omega (arith, e)) (λ b n. n.0) h.0 h.2 in
    subst NoDot (sym h.3) (name_no_dot h.0 h.1 free)
