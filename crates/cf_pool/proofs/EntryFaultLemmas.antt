-- Where an entry is at fault, there is none, and the fault is one.
use Rattle.std.proofs.Common.{◌≡◌, ℕ, ◌+◌, ◌<◌, ◌≤◌, ◌⊎◌, List, ◌∷◌, ◌++◌, length}
use Rattle.std.proofs.Common.{refl, sym, ap, subst, ◌∙◌, append_assoc, arith, inl, inr}
use Rattle.std.proofs.lemmas.List.{length-append}
use Rattle.cf_pool.specs.declared.entry.PoolEntry.{PoolEntry}
use Rattle.cf_pool.specs.declared.entry.PoolEntry.TheVariants.{Utf8}
use Rattle.cf_pool.specs.declared.tag.Tag.{Tag}
use Rattle.cf_pool.specs.declared.tag.Tag.TheVariants as tags
use Rattle.cf_pool.specs.declared.fault.What.{What}
use Rattle.cf_pool.specs.declared.fault.What.TheVariants as whats
use Rattle.cf_pool.specs.ModifiedUtf8.{encoded_units, IsBadUnit}
use Rattle.cf_pool.specs.Tags.{tag_byte, indices, content_size}
use Rattle.cf_pool.specs.Spelling.{two_bytes, text_spelling, entry_text}
use Rattle.cf_pool.specs.Entries.{IsPoolEntry, slots}
use Rattle.cf_pool.specs.ConstantPool.{HasBadTag, IsCut, HasBadText, IsEntryFault}
use Rattle.cf_pool.specs.Calls.Contents.{numbers_entry}
use Rattle.cf_pool.proofs.UnitListLemmas.{units_not_bad, bad_same}
use Rattle.cf_pool.proofs.EntryLemmas.{cells, content_of, decoded, not_some, parts_of, same_text, size_of, slots_are}
use Rattle.cf_pool.proofs.EntryLemmas.{tag_of, tag_same, text_size_is}

-- ---- where an entry is at fault

-- the three faults of an entry
abbrev pub FaultCases : ℕ → List ℕ → What → ℕ → Type 0
FaultCases left bytes what at =
    ((what ≡ whats.BadTag) × HasBadTag left bytes × (at ≡ 0))
    ⊎ (((what ≡ whats.Truncated) × IsCut left bytes × (at ≡ length bytes))
    ⊎ ((what ≡ whats.BadUtf8) × HasBadText bytes at))

pub fault_cases : (left : ℕ) (bytes : List ℕ) (what : What) (at : ℕ)
    → IsEntryFault left bytes what at → FaultCases left bytes what at
fault_cases left bytes whats.BadTag at h = inl (refl, h.0, h.1)
fault_cases left bytes whats.Truncated at h = inr (inl (refl, h.0, h.1))
fault_cases left bytes whats.BadUtf8 at h = inr (inr (refl, h))
fault_cases left bytes whats.BadMagic at h = absurd h
fault_cases left bytes whats.BadVersion at h = absurd h
fault_cases left bytes whats.BadLength at h = absurd h
fault_cases left bytes whats.Extra at h = absurd h
fault_cases left bytes whats.BadIndex at h = absurd h
fault_cases left bytes whats.BadName at h = absurd h
fault_cases left bytes whats.BadDesc at h = absurd h
fault_cases left bytes whats.Duplicate at h = absurd h
fault_cases left bytes whats.CodeRule at h = absurd h
fault_cases left bytes whats.WrongName at h = absurd h
fault_cases left bytes whats.BadOpcode at h = absurd h
fault_cases left bytes whats.BadTarget at h = absurd h
fault_cases left bytes whats.TooLong at h = absurd h
fault_cases left bytes whats.Circular at h = absurd h
fault_cases left bytes whats.BadSuper at h = absurd h

-- a cut entry that the bytes begin
pub record CutAt (left byte : ℕ) (content : List ℕ) : Type 0 where
  pub tag : Tag
  pub tag_is : tag_byte tag ≡ byte
  pub room : indices tag ≤ left
  pub short : length content < content_size tag content

cut_at : (left byte : ℕ) (bytes content : List ℕ) → bytes ≡ byte ∷ content → IsCut left bytes → CutAt left byte content
cut_at left byte bytes content is cut =
    let c : IsCut left (byte ∷ content) = subst (IsCut left) is cut in
    record { tag = c.0; tag_is = c.1; room = c.2; short = c.3 }

tag_and_rest : (e : PoolEntry) (bytes after : List ℕ) → IsPoolEntry e → bytes ≡ entry_text e ++ after
    → bytes ≡ tag_byte (tag_of e) ∷ (content_of e ++ after)
tag_and_rest e bytes after fits is = is ∙ ap (λ (t : List ℕ). t ++ after) (parts_of e fits)

no_bad_tag : (left : ℕ) (bytes after : List ℕ) (e : PoolEntry) → IsPoolEntry e → length (slots e) ≤ left
    → bytes ≡ entry_text e ++ after → HasBadTag left bytes → ⊥
no_bad_tag left bytes after e fits room is bad =
    let s = cells bad.byte (tag_byte (tag_of e)) bad.content (content_of e ++ after) (sym bad.parts
    ∙ tag_and_rest e bytes after fits is) in
    let less = bad.none (tag_of e) (sym s.0) in
    omega (arith, less, slots_are e fits)

no_cut : (left : ℕ) (bytes after : List ℕ) (e : PoolEntry) → IsPoolEntry e → bytes ≡ entry_text e ++ after
    → IsCut left bytes → ⊥
no_cut left bytes after e fits is cut =
    let c = cut_at left (tag_byte (tag_of e)) bytes (content_of e ++ after) (tag_and_rest e bytes after fits is) cut in
    let same = tag_same c.tag (tag_of e) c.tag_is in
    let size : content_size c.tag (content_of e ++ after) ≡ length (content_of e) =
    ap (λ (t : Tag). content_size t (content_of e ++ after)) same ∙ size_of e after fits in
    omega (arith, c.short, size, length-append (content_of e) after)

no_bad_text : (bytes after : List ℕ) (at : ℕ) (e : PoolEntry) → IsPoolEntry e → bytes ≡ entry_text e ++ after
    → HasBadText bytes at → ⊥
no_bad_text bytes after at e fits is bad =
    let s = cells (tag_byte (tag_of e)) 1 (content_of e ++ after)
    (two_bytes (length bad.text) ++ (bad.text ++ bad.rest)) (sym (tag_and_rest e bytes after fits is) ∙ bad.parts)
    in
    let text_tag : tag_of e ≡ tags.Utf8 = tag_same (tag_of e) tags.Utf8 s.0 in
    elim (decoded e after fits) [
      | inl us ↦
          let fit : IsPoolEntry (Utf8 us.0) = subst IsPoolEntry us.1 fits in
          let t = encoded_units us.0 in
          let whole : text_spelling us.0 ++ after ≡ two_bytes (length bad.text) ++ (bad.text ++ bad.rest) =
          ap (λ (x : PoolEntry). content_of x ++ after) (sym us.1) ∙ s.1 in
          let same =
          same_text t bad.text after bad.rest fit.1 bad.text_fits (sym (append_assoc (two_bytes (length t)) t after)
          ∙ whole) in
          units_not_bad bad.text us.0 bad.place (record { units_fit = fit.0; spelled = sym same.0 }) bad.bad_unit
      | inr g ↦ not_some e (ap (λ (x : Tag). numbers_entry x (content_of e ++ after)) (sym text_tag) ∙ g)
    ]

pub no_entry : (left : ℕ) (bytes after : List ℕ) (what : What) (at : ℕ) (e : PoolEntry)
    → IsEntryFault left bytes what at → IsPoolEntry e → length (slots e) ≤ left → bytes ≡ entry_text e ++ after → ⊥
no_entry left bytes after what at e fault fits room is =
    elim (fault_cases left bytes what at fault) [
      | inl h ↦ no_bad_tag left bytes after e fits room is h.1
      | inr g ↦
          elim g [ inl h ↦ no_cut left bytes after e fits is h.1 | inr h ↦ no_bad_text bytes after at e fits is h.1 ]
    ]

-- ---- an entry has one fault

tag_or_cut : (left : ℕ) (bytes : List ℕ) → HasBadTag left bytes → IsCut left bytes → ⊥
tag_or_cut left bytes bad cut =
    let c = cut_at left bad.byte bytes bad.content bad.parts cut in
    omega (arith, bad.none c.tag c.tag_is, c.room)

tag_or_text : (left : ℕ) (bytes : List ℕ) (at : ℕ) → 0 < left → HasBadTag left bytes → HasBadText bytes at → ⊥
tag_or_text left bytes at some bad text =
    let s = cells bad.byte 1 bad.content (two_bytes (length text.text) ++ (text.text ++ text.rest)) (sym bad.parts
    ∙ text.parts) in
    omega (arith, bad.none tags.Utf8 (sym s.0))

cut_or_text : (left : ℕ) (bytes : List ℕ) (at : ℕ) → IsCut left bytes → HasBadText bytes at → ⊥
cut_or_text left bytes at cut bad =
    let content = two_bytes (length bad.text) ++ (bad.text ++ bad.rest) in
    let c = cut_at left 1 bytes content bad.parts cut in
    let size : content_size c.tag content ≡ 2 + length bad.text =
    ap (λ (t : Tag). content_size t content) (tag_same c.tag tags.Utf8 c.tag_is)
    ∙ text_size_is bad.text bad.rest bad.text_fits in
    omega (
      arith,
      c.short,
      size,
      length-append (two_bytes (length bad.text)) (bad.text ++ bad.rest),
      length-append bad.text bad.rest,
    )

text_same_place : (bytes : List ℕ) (p q : ℕ) → HasBadText bytes p → HasBadText bytes q → p ≡ q
text_same_place bytes p q h k =
    let s = cells 1 1 (two_bytes (length h.text) ++ (h.text ++ h.rest))
    (two_bytes (length k.text) ++ (k.text ++ k.rest)) (sym h.parts ∙ k.parts) in
    let same = same_text h.text k.text h.rest k.rest h.text_fits k.text_fits s.1 in
    let place =
    bad_same k.text h.place k.place (subst (λ (t : List ℕ). IsBadUnit t h.place) same.0 h.bad_unit) k.bad_unit in
    omega (arith, h.at_is, k.at_is, place)

pub fault_same : (left : ℕ) (bytes : List ℕ) (v w : What) (p q : ℕ) → 0 < left → IsEntryFault left bytes v p
    → IsEntryFault left bytes w q → (v ≡ w) × (p ≡ q)
fault_same left bytes v w p q some fault other =
    elim (fault_cases left bytes v p fault) [
      | inl h ↦ elim (fault_cases left bytes w q other) [
        | inl k ↦ (h.0 ∙ sym k.0, h.2 ∙ sym k.2)
        | inr m ↦
            elim m [
              | inl k ↦ absurd (tag_or_cut left bytes h.1 k.1)
              | inr k ↦ absurd
                  (tag_or_text left bytes q some h.1 k.1)
            ]
      ]
      | inr n ↦ elim n [
        | inl h ↦ elim (fault_cases left bytes w q other) [
          | inl k ↦ absurd (tag_or_cut left bytes k.1 h.1)
          | inr m ↦
              elim m [ inl k ↦ (h.0 ∙ sym k.0, h.2 ∙ sym k.2) | inr k ↦ absurd (cut_or_text left bytes q h.1 k.1) ]
        ]
        | inr h ↦ elim (fault_cases left bytes w q other) [
          | inl k ↦ absurd (tag_or_text left bytes p some k.1 h.1)
          | inr m ↦
              elim m [
                | inl k ↦ absurd (cut_or_text left bytes p k.1 h.1)
                | inr k ↦ (
                  h.0 ∙ sym k.0,
                  text_same_place bytes p q h.1 k.1,
                )
              ]
        ]
      ]
    ]
