-- An entry of numbers is spelled by its tag and its content.
use Rattle.std.proofs.Common.{◌≡◌, ℕ, ◌^◌, ◌<◌, List, ◌∷◌, ◌++◌, length, get_or, take, drop, Option, Some, None, sym}
use Rattle.std.proofs.Common.{ap, subst, ◌∙◌, arith}
use Rattle.std.specs.Prelude.{IfSome}
use Rattle.std.specs.Int.{w32, w64, to_be_bytes, cast_signed, cast_unsigned}
use Rattle.std.proofs.Math.Facts.{sfits_to_z}
use Rattle.std.proofs.lemmas.Int.{of_z-to_z}
use Rattle.std.proofs.lemmas.List.{length-drop, take-append-drop, take_all, drop_more}
use Rattle.byteorder.specs.Endian.{big_number}
use Rattle.cf_pool.specs.declared.entry.PoolEntry.{PoolEntry}
use Rattle.cf_pool.specs.declared.tag.Tag.{Tag}
use Rattle.cf_pool.specs.declared.tag.Tag.TheVariants.{Utf8, Integer, Float, Long, Double, Class, Str, Field, Method}
use Rattle.cf_pool.specs.declared.tag.Tag.TheVariants.{InterfaceMethod, NameAndType, MethodHandle, MethodType}
use Rattle.cf_pool.specs.declared.tag.Tag.TheVariants.{InvokeDynamic}
use Rattle.cf_pool.specs.Tags.{tag_byte, content_size}
use Rattle.cf_pool.specs.Spelling.{two_bytes, pair_spelling, entry_text}
use Rattle.cf_pool.specs.Entries.{IsPoolEntry}
use Rattle.cf_pool.specs.Calls.Contents.{numbers_entry}
use Rattle.cf_pool.proofs.NumberLemmas.{FitBytes, FitBytes-drop, front_2, front_4, front_8, below_2, below_4, below_8}

-- an entry that was found is one, and has this spelling
abbrev pub IsSpelled : List ℕ → PoolEntry → Type 0
IsSpelled text entry = IsPoolEntry entry × (entry_text entry ≡ text)

whole_2 : (content : List ℕ) → length content ≡ 2 → FitBytes content → two_bytes (big_number 2 content) ≡ content
whole_2 content is fits = front_2 content (omega arith) fits ∙ take_all 2 content (omega arith)

whole_4 : (content : List ℕ) → length content ≡ 4 → FitBytes content → to_be_bytes w32 (big_number 4 content) ≡ content
whole_4 content is fits = front_4 content (omega arith) fits ∙ take_all 4 content (omega arith)

whole_8 : (content : List ℕ) → length content ≡ 8 → FitBytes content → to_be_bytes w64 (big_number 8 content) ≡ content
whole_8 content is fits = front_8 content (omega arith) fits ∙ take_all 8 content (omega arith)

whole_pair : (content : List ℕ) → length content ≡ 4 → FitBytes content
    → pair_spelling (big_number 2 content) (big_number 2 (drop 2 content)) ≡ content
whole_pair content is fits =
    let one = front_2 content (omega arith) fits in
    let two = whole_2 (drop 2 content) (omega (arith, length-drop 2 content)) (FitBytes-drop 2 content fits) in
    ap (λ (t : List ℕ). t ++ two_bytes (big_number 2 (drop 2 content))) one
    ∙ ap (λ (t : List ℕ). take 2 content ++ t) two ∙ take-append-drop 2 content

whole_handle : (content : List ℕ) → length content ≡ 3 → FitBytes content
    → get_or content 0 0 ∷ two_bytes (big_number 2 (drop 1 content)) ≡ content
whole_handle content is fits =
    let two = whole_2 (drop 1 content) (omega (arith, length-drop 1 content)) (FitBytes-drop 1 content fits) in
    ap (λ (t : List ℕ). get_or content 0 0 ∷ t) two ∙ sym (drop_more content 0 0 (omega arith))

signed_4 : (content : List ℕ) → length content ≡ 4 → FitBytes content
    → to_be_bytes w32 (cast_unsigned w32 (cast_signed w32 (big_number 4 content))) ≡ content
signed_4 content is fits = ap (to_be_bytes w32) (of_z-to_z w32 (big_number 4 content) (below_4 content fits))
    ∙ whole_4 content is fits

signed_8 : (content : List ℕ) → length content ≡ 8 → FitBytes content
    → to_be_bytes w64 (cast_unsigned w64 (cast_signed w64 (big_number 8 content))) ≡ content
signed_8 content is fits = ap (to_be_bytes w64) (of_z-to_z w64 (big_number 8 content) (below_8 content fits))
    ∙ whole_8 content is fits

pairs : (content : List ℕ) → FitBytes content → (big_number 2 content < 2 ^ 16)
    × (big_number 2 (drop 2 content) < 2 ^ 16)
pairs content fits = (below_2 content fits, below_2 (drop 2 content) (FitBytes-drop 2 content fits))

pub numbers_spelled : (tag : Tag) (content : List ℕ) → length content ≡ content_size tag content → FitBytes content
    → IfSome (numbers_entry tag content) (IsSpelled (tag_byte tag ∷ content))
numbers_spelled Utf8 content is fits = tt
numbers_spelled Integer content is fits = (
  sfits_to_z {w = w32} (record { fits = below_4 content fits }),
  ap (λ (t : List ℕ). 3 ∷ t) (signed_4 content is fits),
)
numbers_spelled Float content is fits = (below_4 content fits, ap (λ (t : List ℕ). 4 ∷ t) (whole_4 content is fits))
numbers_spelled Long content is fits = (
  sfits_to_z {w = w64} (record { fits = below_8 content fits }),
  ap (λ (t : List ℕ). 5 ∷ t) (signed_8 content is fits),
)
numbers_spelled Double content is fits = (below_8 content fits, ap (λ (t : List ℕ). 6 ∷ t) (whole_8 content is fits))
numbers_spelled Class content is fits = (below_2 content fits, ap (λ (t : List ℕ). 7 ∷ t) (whole_2 content is fits))
numbers_spelled Str content is fits = (below_2 content fits, ap (λ (t : List ℕ). 8 ∷ t) (whole_2 content is fits))
numbers_spelled Field content is fits = (pairs content fits, ap (λ (t : List ℕ). 9 ∷ t) (whole_pair content is fits))
numbers_spelled Method content is fits = (pairs content fits, ap (λ (t : List ℕ). 10 ∷ t) (whole_pair content is fits))
numbers_spelled InterfaceMethod content is fits =
    (pairs content fits, ap (λ (t : List ℕ). 11 ∷ t) (whole_pair content is fits))
numbers_spelled NameAndType content is fits =
    (pairs content fits, ap (λ (t : List ℕ). 12 ∷ t) (whole_pair content is fits))
numbers_spelled MethodHandle content is fits = (
  (fits 0, below_2 (drop 1 content) (FitBytes-drop 1 content fits)),
  ap (λ (t : List ℕ). 15 ∷ t) (whole_handle content is fits),
)
numbers_spelled MethodType content is fits =
    (below_2 content fits, ap (λ (t : List ℕ). 16 ∷ t) (whole_2 content is fits))
numbers_spelled InvokeDynamic content is fits =
    (pairs content fits, ap (λ (t : List ℕ). 18 ∷ t) (whole_pair content is fits))

pub found_in : (found : Option PoolEntry) (entry : PoolEntry) (P : PoolEntry → Type 0) → found ≡ Some entry
    → IfSome found P → P entry
found_in (Some x) entry P e h = let same : x ≡ entry = cc in subst P same h
found_in None entry P e h = absurd cc
