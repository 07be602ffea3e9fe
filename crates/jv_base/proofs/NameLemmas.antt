-- A name has one text form.
use Rattle.std.proofs.Common.{◌≡◌, ℕ, ◌<◌, true, List, [], ◌∷◌, ◌++◌, length, refl, sym, ap, ◌∙◌}
use Rattle.std.proofs.Common.{arith}
use Rattle.std.specs.List.{All, flat_map}
use Rattle.std.specs.Char.{IsScalar}
use Rattle.std.specs.Str.{IsUtf8, chars}
use Rattle.std.specs.Prelude.{encode_utf8, encode_utf8_all}
use Rattle.std.proofs.Math.Utf8.{scalars}
use Rattle.std.proofs.lemmas.Bool.{and_parts}
use Rattle.std.proofs.lemmas.Bool.Decides.{nat_tests}
use Rattle.std.proofs.lemmas.List.{append-nil}
use Rattle.std.proofs.lemmas.List.Concat.{flat_map-append}
use Rattle.std.proofs.lemmas.List.Elements.{All-nil, All-cons, All-head}
use Rattle.std.proofs.lemmas.Str.{chars-append, chars-encodes, chars-nil, encodes-append}
use Rattle.std.proofs.lemmas.Str.{encodes-chars, scalars-chars}
use Rattle.jv_base.specs.Spelling.{character_text, name_text}
use Rattle.jv_base.proofs.EscapeLemmas.{HasNoCharacter, character_same, character_shorter}
use Rattle.jv_list.proofs.ToldLemmas.{BeginsNone, told_all, told_front}

abbrev characters_text : List ℕ → List ℕ
characters_text cs = flat_map character_text cs

pub name_text-nil : name_text [] ≡ []
unfolding name_text
name_text-nil = ap characters_text chars-nil

pub name_text-append : (name more : List ℕ) → IsUtf8 name → name_text (name ++ more) ≡ name_text name ++ name_text more
unfolding name_text
name_text-append name more text =
    ap characters_text (chars-append name more text) ∙ flat_map-append character_text (chars name) (chars more)

pub name_text-more : (name : List ℕ) (c : ℕ) → IsUtf8 name → IsScalar c
    → name_text (name ++ encode_utf8 c) ≡ name_text name ++ character_text c
unfolding name_text
name_text-more name c text scalar =
    let one : chars (encode_utf8 c) ≡ c ∷ [] =
    ap chars (sym (append-nil (encode_utf8 c))) ∙ chars-encodes (c ∷ []) (grind (arith, nat_tests)) in
    name_text-append name (encode_utf8 c) text
    ∙ ap (λ (t : List ℕ). name_text name ++ t) (ap characters_text one ∙ append-nil (character_text c))

none_empty : BeginsNone character_text IsScalar []
none_empty c behind scalar e = omega (arith, character_shorter [] behind c e)

scalars_all : (cs : List ℕ) → scalars cs ≡ true → All IsScalar cs
scalars_all [] h = All-nil IsScalar
scalars_all (c ∷ cs) h =
    let parts = and_parts _ (scalars cs) h in
    All-cons IsScalar c cs parts.0 (scalars_all cs parts.1)

name_scalars : (name : List ℕ) → IsUtf8 name → All IsScalar (chars name)
name_scalars name u = scalars_all (chars name) (scalars-chars name u)

first_of : (rest more : List ℕ) → 0 < length rest → rest ≡ characters_text more → All IsScalar more
    → (d : ℕ) × (es : List ℕ) × IsScalar d × (more ≡ d ∷ es) × (rest ≡ character_text d ++ characters_text es)
first_of rest [] some e all = absurd (omega (arith, some, ap length e))
first_of rest (d ∷ es) some e all = (d, es, All-head IsScalar d es all, refl, e)

-- where a text goes on after a name, so does the name that it spells, by a character
pub name_more : (name other rest : List ℕ) → IsUtf8 name → IsUtf8 other → name_text name ++ rest ≡ name_text other
    → 0 < length rest → (d : ℕ) × (more after : List ℕ) × IsScalar d × (other ≡ name ++ (encode_utf8 d ++ more))
    × (rest ≡ character_text d ++ after)
unfolding name_text
name_more name other rest u v e some =
    let whole : characters_text (chars name) ++ rest ≡ characters_text (chars other) ++ [] =
    e ∙ sym (append-nil (characters_text (chars other))) in
    let behind = told_front character_text IsScalar character_same (chars name) (chars other) rest []
    (name_scalars name u) (name_scalars other v) none_empty whole in
    let split = behind.2 ∙ append-nil (characters_text behind.0) in
    let first = first_of rest behind.0 some split behind.3 in
    let d : ℕ = first.0 in
    let es : List ℕ = first.1 in
    let bytes : List ℕ = encode_utf8 d ++ encode_utf8_all es in
    let longer : chars other ≡ chars name ++ d ∷ es =
    behind.1 ∙ ap (λ (cs : List ℕ). chars name ++ cs) first.3 in
    let spelled : other ≡ name ++ bytes =
    sym (encodes-chars other v) ∙ ap encode_utf8_all longer ∙ encodes-append (chars name) (d ∷ es)
    ∙ ap (λ (t : List ℕ). t ++ bytes) (encodes-chars name u) in
    (d, encode_utf8_all es, characters_text es, first.2, spelled, first.4)

pub no_name : (text name rest : List ℕ) → IsUtf8 name → text ≡ name_text name ++ rest → 0 < length rest
    → HasNoCharacter rest → (other : List ℕ) → IsUtf8 other → text ≡ name_text other → ⊥
no_name text name rest u e some none other v k =
    let more = name_more name other rest u v (sym e ∙ k) some in
    none more.2 (more.0, more.3, more.5)

-- a name is told by its text
pub name_same : (a b : List ℕ) → IsUtf8 a → IsUtf8 b → name_text a ≡ name_text b → a ≡ b
unfolding name_text
name_same a b u v e =
    let same = told_all character_text IsScalar character_same (chars a) (chars b) (name_scalars a u) (name_scalars b v)
    none_empty e in
    sym (encodes-chars a u) ∙ ap encode_utf8_all same ∙ encodes-chars b v
