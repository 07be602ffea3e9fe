-- Bytes begin with an entry or have its fault, and a file has a pool or the first fault of one.
use Rattle.std.proofs.Common.{◌≡◌, ℕ, ◌+◌, ◌-◌, ◌<◌, ◌≤◌, ◌⊎◌, List, [], ◌∷◌, ◌++◌, length, take, drop}
use Rattle.std.proofs.Common.{Some, refl, sym, ap, subst, ◌∙◌, arith, inl, inr}
use Rattle.std.specs.Int.{w16, from_be_bytes}
use Rattle.std.proofs.lemmas.Bool.{cases_lt}
use Rattle.std.proofs.lemmas.List.{length-drop, take-append-drop}
use Rattle.cf_pool.specs.declared.entry.PoolEntry.{PoolEntry}
use Rattle.cf_pool.specs.declared.entry.PoolEntry.TheVariants as entries
use Rattle.cf_pool.specs.declared.tag.Tag.{Tag}
use Rattle.cf_pool.specs.declared.tag.Tag.TheVariants.{Utf8, Integer, Float, Long, Double, Class, Str, Field, Method}
use Rattle.cf_pool.specs.declared.tag.Tag.TheVariants.{InterfaceMethod, NameAndType, MethodHandle, MethodType}
use Rattle.cf_pool.specs.declared.tag.Tag.TheVariants.{InvokeDynamic}
use Rattle.cf_pool.specs.declared.fault.What.{What}
use Rattle.cf_pool.specs.declared.fault.What.TheVariants.{Truncated, BadTag, BadUtf8}
use Rattle.cf_pool.specs.declared.fault.Fault.{Fault}
use Rattle.cf_pool.specs.ModifiedUtf8.{encoded_units}
use Rattle.cf_pool.specs.Tags.{tag_byte, indices, content_size}
use Rattle.cf_pool.specs.Spelling.{two_bytes, text_spelling, entry_text}
use Rattle.cf_pool.specs.Entries.{IsPoolEntry, slots}
use Rattle.cf_pool.specs.ConstantPool.{IsEntryFault}
use Rattle.cf_pool.specs.Calls.Contents.{numbers_entry}
use Rattle.cf_pool.proofs.NumberLemmas.{FitBytes, FitBytes-rest, FitBytes-take}
use Rattle.cf_pool.proofs.NumberLemmas.{front_of_text, below_text}
use Rattle.cf_pool.proofs.EntryTextLemmas.{IsSpelled, numbers_spelled, found_in}
use Rattle.cf_pool.proofs.ReadingLemmas.{text_size, bad_text}
use Rattle.cf_pool.proofs.PoolReadingLemmas.{size_again}
use Rattle.cf_pool.proofs.EntryLemmas.{tag_same, tag_decided}
use Rattle.cf_pool.proofs.UnitDecisionLemmas.{units_decided}

-- ---- an entry

-- the bytes begin with an entry that finds room
pub record HasEntry (left : ℕ) (bytes : List ℕ) : Type 0 where
  pub entry : PoolEntry
  pub after : List ℕ
  pub fits : IsPoolEntry entry
  pub room : length (slots entry) ≤ left
  pub parts : bytes ≡ entry_text entry ++ after

-- where an entry should begin, there is a fault
pub record HasFault (left : ℕ) (bytes : List ℕ) : Type 0 where
  pub what : What
  pub at : ℕ
  pub fault : IsEntryFault left bytes what at

abbrev EntryOrFault : ℕ → List ℕ → Type 0
EntryOrFault left bytes = HasEntry left bytes ⊎ HasFault left bytes

-- an entry of numbers
pub record OfNumbers (t : Tag) (content : List ℕ) : Type 0 where
  pub entry : PoolEntry
  pub is : numbers_entry t content ≡ Some entry
  pub takes : length (slots entry) ≡ indices t

text_or_numbers : (t : Tag) (content : List ℕ) → (t ≡ Utf8) ⊎ OfNumbers t content
text_or_numbers Utf8 content = inl refl
text_or_numbers Integer content = inr (record { entry = _; is = refl; takes = refl })
text_or_numbers Float content = inr (record { entry = _; is = refl; takes = refl })
text_or_numbers Long content = inr (record { entry = _; is = refl; takes = refl })
text_or_numbers Double content = inr (record { entry = _; is = refl; takes = refl })
text_or_numbers Class content = inr (record { entry = _; is = refl; takes = refl })
text_or_numbers Str content = inr (record { entry = _; is = refl; takes = refl })
text_or_numbers Field content = inr (record { entry = _; is = refl; takes = refl })
text_or_numbers Method content = inr (record { entry = _; is = refl; takes = refl })
text_or_numbers InterfaceMethod content = inr (record { entry = _; is = refl; takes = refl })
text_or_numbers NameAndType content = inr (record { entry = _; is = refl; takes = refl })
text_or_numbers MethodHandle content = inr (record { entry = _; is = refl; takes = refl })
text_or_numbers MethodType content = inr (record { entry = _; is = refl; takes = refl })
text_or_numbers InvokeDynamic content = inr (record { entry = _; is = refl; takes = refl })

numbers_case : (left : ℕ) (t : Tag) (content after : List ℕ) → indices t ≤ left
    → length content ≡ content_size t content → FitBytes content → OfNumbers t content
    → HasEntry left (tag_byte t ∷ (content ++ after))
numbers_case left t content after room is fits n =
    let spelled = found_in (numbers_entry t content) n.entry (IsSpelled (tag_byte t ∷ content)) n.is
    (numbers_spelled t content is fits) in
    record {
      entry = n.entry;
      after = after;
      fits = spelled.0;
      room = omega (arith, n.takes);
      parts = ap (λ (x : List ℕ). x ++ after) (sym spelled.1);
    }

text_case : (left : ℕ) (content after : List ℕ) → 1 ≤ left → length content ≡ content_size Utf8 content
    → FitBytes content → EntryOrFault left (1 ∷ (content ++ after))
text_case left content after room is fits =
    let size = text_size content is in
    let text = drop 2 content in
    let text_length : length text ≡ from_be_bytes w16 content = omega (arith, size.0, size.1, length-drop 2 content) in
    elim (units_decided (length text) text (omega arith)) [
      | inl k ↦
          let spelled = k.1.spelled in
          let same_length : length (encoded_units k.0) ≡ from_be_bytes w16 content = ap length (sym spelled)
          ∙ text_length in
          let front : two_bytes (length (encoded_units k.0)) ≡ take 2 content = ap two_bytes same_length
          ∙ front_of_text content size.0 fits in
          let whole : text_spelling k.0 ≡ content =
          ap (λ (t : List ℕ). t ++ encoded_units k.0) front ∙ ap (λ (t : List ℕ). take 2 content ++ t) (sym spelled)
          ∙ take-append-drop 2 content in
          inl (record {
            entry = entries.Utf8 k.0;
            after = after;
            fits = (k.1.units_fit, omega (arith, same_length, below_text content fits));
            room = omega arith;
            parts = ap (λ (t : List ℕ). 1 ∷ (t ++ after)) (sym whole);
          })
      | inr k ↦
          let named : Fault = record { place = 3 + k.0; what = BadUtf8 } in
          inr (record {
            what = BadUtf8;
            at = 3 + k.0;
            fault = bad_text content after named fits is
                (record { place = k.0; what_is = refl; bad_unit = k.1; place_is = refl });
          })
    ]

whole_entry : (left byte : ℕ) (rest : List ℕ) (t : Tag) → tag_byte t ≡ byte → indices t ≤ left
    → content_size t rest ≤ length rest → FitBytes rest → EntryOrFault left (byte ∷ rest)
whole_entry left byte rest t is room long fits =
    let size = content_size t rest in
    let content = take size rest in
    let after = drop size rest in
    let whole : tag_byte t ∷ (content ++ after) ≡ byte ∷ rest = ap (λ (b : ℕ). b ∷ (content ++ after)) is
    ∙ ap (λ (x : List ℕ). byte ∷ x) (take-append-drop size rest) in
    let sized : length content ≡ content_size t content = size_again t size rest content refl refl long in
    let content_fits = FitBytes-take size rest fits in
    subst (EntryOrFault left) whole (elim (text_or_numbers t content) [
      | inl text ↦
          let as_text : length content ≡ content_size Utf8 content =
          subst (λ (u : Tag). length content ≡ content_size u content) text sized in
          let one : 1 ≤ left = subst (λ (u : Tag). indices u ≤ left) text room in
          subst (λ (u : Tag). EntryOrFault left (tag_byte u ∷ (content ++ after))) (sym text)
          (text_case left content after one as_text content_fits)
      | inr n ↦ inl (numbers_case left t content after room sized content_fits n)
    ])

pub entry_decided : (left : ℕ) (bytes : List ℕ) → FitBytes bytes → EntryOrFault left bytes
entry_decided left [] fits = inr (record { what = Truncated; at = 0; fault = (tt, refl) })
entry_decided left (byte ∷ rest) fits =
    elim (tag_decided byte) [
      | inr none ↦
          inr (record {
            what = BadTag;
            at = 0;
            fault = (record { byte = byte; content = rest; parts = refl; none = λ u e. absurd (none u e) }, refl);
          })
      | inl t ↦ elim (cases_lt left (indices t.0)) [
        | inl less ↦ inr (record {
          what = BadTag;
          at = 0;
          fault = (
            record {
              byte = byte;
              content = rest;
              parts = refl;
              none = λ u e. subst (λ (v : Tag). left < indices v) (tag_same t.0 u (t.1 ∙ sym e)) less;
            },
            refl,
          );
        })
        | inr room ↦ elim (cases_lt (length rest) (content_size t.0 rest)) [
          | inl short ↦
              inr (record { what = Truncated; at = length (byte ∷ rest); fault = ((t.0, t.1, room, short), refl) })
          | inr long ↦ whole_entry left byte rest t.0 t.1 room long (FitBytes-rest byte (byte ∷ rest) rest fits refl)
        ]
      ]
    ]
