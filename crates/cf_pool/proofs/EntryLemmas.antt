-- No two entries begin alike, and where an entry is at fault none begins.
use Rattle.std.proofs.Common.{◌≡◌, ◌≢◌, ℕ, ◌+◌, ◌^◌, ◌<◌, ◌≤◌, ◌⊎◌, List, [], ◌∷◌, ◌++◌, length, get_or, take, drop}
use Rattle.std.proofs.Common.{Some, None, refl, sym, ap, subst, ◌∙◌, append_assoc, arith, inl, inr}
use Rattle.std.specs.Int.{w32, w64, to_be_bytes, cast_signed, cast_unsigned}
use Rattle.std.proofs.Math.Facts.{Fits-of_z}
use Rattle.std.proofs.lemmas.Int.{to_z-of_z}
use Rattle.std.proofs.lemmas.Bool.{le-ltb, cases_eq}
use Rattle.std.proofs.lemmas.List.{append_cancel_left, length-append, take_at, drop_at}
use Rattle.byteorder.specs.Endian.{big_number}
use Rattle.cf_pool.specs.declared.entry.PoolEntry.{PoolEntry}
use Rattle.cf_pool.specs.declared.entry.PoolEntry.TheVariants.{Utf8, Integer, Float, Long, Double, Class, Str, Field}
use Rattle.cf_pool.specs.declared.entry.PoolEntry.TheVariants.{Method, InterfaceMethod, NameAndType, MethodHandle}
use Rattle.cf_pool.specs.declared.entry.PoolEntry.TheVariants.{MethodType, InvokeDynamic, Unusable}
use Rattle.cf_pool.specs.declared.tag.Tag.{Tag}
use Rattle.cf_pool.specs.declared.tag.Tag.TheVariants as tags
use Rattle.cf_pool.specs.ModifiedUtf8.{encoded_units}
use Rattle.cf_pool.specs.Tags.{tag_byte, indices, content_size}
use Rattle.cf_pool.specs.Spelling.{two_bytes, text_spelling, pair_spelling, entry_text}
use Rattle.cf_pool.specs.Entries.{IsPoolEntry, slots}
use Rattle.cf_pool.specs.Calls.Contents.{numbers_entry}
use Rattle.cf_pool.proofs.NumberLemmas.{again_2, again_4, again_8, again_text}
use Rattle.cf_pool.proofs.UnitListLemmas.{units_same}

-- ---- tags

tag_table : List Tag
tag_table =
    tags.Utf8 ∷ tags.Utf8 ∷ tags.Utf8 ∷ tags.Integer ∷ tags.Float ∷ tags.Long ∷ tags.Double ∷ tags.Class ∷ tags.Str ∷
    tags.Field ∷ tags.Method ∷ tags.InterfaceMethod ∷ tags.NameAndType
    ∷ tags.Utf8 ∷ tags.Utf8 ∷ tags.MethodHandle ∷ tags.MethodType ∷ tags.Utf8 ∷ tags.InvokeDynamic ∷ []

tag_at : (t : Tag) → get_or tag_table (tag_byte t) tags.Utf8 ≡ t
unfolding tag_table
tag_at tags.Utf8 = refl
tag_at tags.Integer = refl
tag_at tags.Float = refl
tag_at tags.Long = refl
tag_at tags.Double = refl
tag_at tags.Class = refl
tag_at tags.Str = refl
tag_at tags.Field = refl
tag_at tags.Method = refl
tag_at tags.InterfaceMethod = refl
tag_at tags.NameAndType = refl
tag_at tags.MethodHandle = refl
tag_at tags.MethodType = refl
tag_at tags.InvokeDynamic = refl

-- a byte is a tag or is none
pub tag_decided : (byte : ℕ) → ((t : Tag) × (tag_byte t ≡ byte)) ⊎ ((t : Tag) → tag_byte t ≢ byte)
tag_decided byte =
    let found = get_or tag_table byte tags.Utf8 in
    elim (cases_eq (tag_byte found) byte) [
      | inl is ↦ inl (found, is)
      | inr other ↦
          inr (λ u is. other (ap tag_byte (ap (λ (n : ℕ). get_or tag_table n tags.Utf8) (sym is) ∙ tag_at u) ∙ is))
    ]

pub tag_same : (t u : Tag) → tag_byte t ≡ tag_byte u → t ≡ u
tag_same t u e = sym (tag_at t) ∙ ap (λ (n : ℕ). get_or tag_table n tags.Utf8) e ∙ tag_at u

-- the tag of an entry
abbrev pub tag_of : PoolEntry → Tag
tag_of (Utf8 units) = tags.Utf8
tag_of (Integer n) = tags.Integer
tag_of (Float n) = tags.Float
tag_of (Long n) = tags.Long
tag_of (Double n) = tags.Double
tag_of (Class a) = tags.Class
tag_of (Str a) = tags.Str
tag_of (Field a b) = tags.Field
tag_of (Method a b) = tags.Method
tag_of (InterfaceMethod a b) = tags.InterfaceMethod
tag_of (NameAndType a b) = tags.NameAndType
tag_of (MethodHandle a b) = tags.MethodHandle
tag_of (MethodType a) = tags.MethodType
tag_of (InvokeDynamic a b) = tags.InvokeDynamic
tag_of Unusable = tags.Utf8

-- what stands behind it
abbrev pub content_of : PoolEntry → List ℕ
content_of (Utf8 units) = text_spelling units
content_of (Integer n) = to_be_bytes w32 (cast_unsigned w32 n)
content_of (Float n) = to_be_bytes w32 n
content_of (Long n) = to_be_bytes w64 (cast_unsigned w64 n)
content_of (Double n) = to_be_bytes w64 n
content_of (Class a) = two_bytes a
content_of (Str a) = two_bytes a
content_of (Field a b) = pair_spelling a b
content_of (Method a b) = pair_spelling a b
content_of (InterfaceMethod a b) = pair_spelling a b
content_of (NameAndType a b) = pair_spelling a b
content_of (MethodHandle a b) = a ∷ two_bytes b
content_of (MethodType a) = two_bytes a
content_of (InvokeDynamic a b) = pair_spelling a b
content_of Unusable = []

pub parts_of : (e : PoolEntry) → IsPoolEntry e → entry_text e ≡ tag_byte (tag_of e) ∷ content_of e
parts_of (Utf8 units) fits = refl
parts_of (Integer n) fits = refl
parts_of (Float n) fits = refl
parts_of (Long n) fits = refl
parts_of (Double n) fits = refl
parts_of (Class a) fits = refl
parts_of (Str a) fits = refl
parts_of (Field a b) fits = refl
parts_of (Method a b) fits = refl
parts_of (InterfaceMethod a b) fits = refl
parts_of (NameAndType a b) fits = refl
parts_of (MethodHandle a b) fits = refl
parts_of (MethodType a) fits = refl
parts_of (InvokeDynamic a b) fits = refl
parts_of Unusable fits = absurd fits

pub slots_are : (e : PoolEntry) → IsPoolEntry e → length (slots e) ≡ indices (tag_of e)
slots_are (Utf8 units) fits = refl
slots_are (Integer n) fits = refl
slots_are (Float n) fits = refl
slots_are (Long n) fits = refl
slots_are (Double n) fits = refl
slots_are (Class a) fits = refl
slots_are (Str a) fits = refl
slots_are (Field a b) fits = refl
slots_are (Method a b) fits = refl
slots_are (InterfaceMethod a b) fits = refl
slots_are (NameAndType a b) fits = refl
slots_are (MethodHandle a b) fits = refl
slots_are (MethodType a) fits = refl
slots_are (InvokeDynamic a b) fits = refl
slots_are Unusable fits = absurd fits

pub text_size_is : (text after : List ℕ) → length text < 2 ^ 16
    → content_size tags.Utf8 (two_bytes (length text) ++ (text ++ after)) ≡ 2 + length text
text_size_is text after fits =
    let long : 2 ≤ length (two_bytes (length text) ++ (text ++ after)) =
    omega (arith, length-append (two_bytes (length text)) (text ++ after)) in
    rw (le-ltb (length (two_bytes (length text) ++ (text ++ after))) 2 long)
    (ap (λ (n : ℕ). 2 + n) (again_text (length text) (text ++ after) fits))

pub size_of : (e : PoolEntry) (after : List ℕ) → IsPoolEntry e
    → content_size (tag_of e) (content_of e ++ after) ≡ length (content_of e)
size_of (Utf8 units) after fits =
    let text = encoded_units units in
    ap (content_size tags.Utf8) (append_assoc (two_bytes (length text)) text after)
    ∙ text_size_is text after fits.1 ∙ sym (length-append (two_bytes (length text)) text)
size_of (Integer n) after fits = refl
size_of (Float n) after fits = refl
size_of (Long n) after fits = refl
size_of (Double n) after fits = refl
size_of (Class a) after fits = refl
size_of (Str a) after fits = refl
size_of (Field a b) after fits = refl
size_of (Method a b) after fits = refl
size_of (InterfaceMethod a b) after fits = refl
size_of (NameAndType a b) after fits = refl
size_of (MethodHandle a b) after fits = refl
size_of (MethodType a) after fits = refl
size_of (InvokeDynamic a b) after fits = refl
size_of Unusable after fits = absurd fits

-- ---- an entry is read again

-- an entry is a text, or is made by its tag and its content
abbrev pub IsDecoded : PoolEntry → List ℕ → Type 0
IsDecoded e after = ((units : List ℕ) × (e ≡ Utf8 units)) ⊎ (numbers_entry (tag_of e) (content_of e ++ after) ≡ Some e)

pair_again : (a b : ℕ) (after : List ℕ) → a < 2 ^ 16 → b < 2 ^ 16 → (big_number 2 (pair_spelling a b ++ after) ≡ a)
    × (big_number 2 (drop 2 (pair_spelling a b ++ after)) ≡ b)
pair_again a b after fa fb = (again_2 a (two_bytes b ++ after) fa, again_2 b after fb)

pair_decoded : (f : ℕ → ℕ → PoolEntry) (a b : ℕ) (after : List ℕ) → a < 2 ^ 16 → b < 2 ^ 16
    → Some (f (big_number 2 (pair_spelling a b ++ after)) (big_number 2 (drop 2 (pair_spelling a b ++ after)))) ≡ Some
    (f a b)
pair_decoded f a b after fa fb =
    let p = pair_again a b after fa fb in
    ap (λ (n : ℕ). Some (f n (big_number 2 (drop 2 (pair_spelling a b ++ after))))) p.0
    ∙ ap (λ (n : ℕ). Some (f a n)) p.1

pub decoded : (e : PoolEntry) (after : List ℕ) → IsPoolEntry e → IsDecoded e after
decoded (Utf8 units) after fits = inl (units, refl)
decoded (Integer n) after fits =
    inr (ap (λ (b : ℕ). Some (Integer (cast_signed w32 b)))
    (again_4 (cast_unsigned w32 n) after (Fits-of_z {w = w32} fits).fits)
    ∙ ap (λ z. Some (Integer z)) (to_z-of_z w32 n fits))
decoded (Float n) after fits = inr (ap (λ (b : ℕ). Some (Float b)) (again_4 n after fits))
decoded (Long n) after fits =
    inr (ap (λ (b : ℕ). Some (Long (cast_signed w64 b)))
    (again_8 (cast_unsigned w64 n) after (Fits-of_z {w = w64} fits).fits)
    ∙ ap (λ z. Some (Long z)) (to_z-of_z w64 n fits))
decoded (Double n) after fits = inr (ap (λ (b : ℕ). Some (Double b)) (again_8 n after fits))
decoded (Class a) after fits = inr (ap (λ (n : ℕ). Some (Class n)) (again_2 a after fits))
decoded (Str a) after fits = inr (ap (λ (n : ℕ). Some (Str n)) (again_2 a after fits))
decoded (Field a b) after fits = inr (pair_decoded (λ m n. Field m n) a b after fits.0 fits.1)
decoded (Method a b) after fits = inr (pair_decoded (λ m n. Method m n) a b after fits.0 fits.1)
decoded (InterfaceMethod a b) after fits = inr (pair_decoded (λ m n. InterfaceMethod m n) a b after fits.0 fits.1)
decoded (NameAndType a b) after fits = inr (pair_decoded (λ m n. NameAndType m n) a b after fits.0 fits.1)
decoded (MethodHandle a b) after fits = inr (ap (λ (n : ℕ). Some (MethodHandle a n)) (again_2 b after fits.1))
decoded (MethodType a) after fits = inr (ap (λ (n : ℕ). Some (MethodType n)) (again_2 a after fits))
decoded (InvokeDynamic a b) after fits = inr (pair_decoded (λ m n. InvokeDynamic m n) a b after fits.0 fits.1)
decoded Unusable after fits = absurd fits

-- ---- no two entries begin alike

pub cells : (x y : ℕ) (xs ys : List ℕ) → x ∷ xs ≡ y ∷ ys → (x ≡ y) × (xs ≡ ys)
cells x y xs ys e = (cc, cc)

some_same : (x y : PoolEntry) → Some x ≡ Some y → x ≡ y
some_same x y e = cc

pub not_some : (x : PoolEntry) → None ≡ Some x → ⊥
not_some x e = cc

-- a text of so many bytes is the same on both sides
pub same_text : (s t a b : List ℕ) → length s < 2 ^ 16 → length t < 2 ^ 16
    → two_bytes (length s) ++ (s ++ a) ≡ two_bytes (length t) ++ (t ++ b) → (s ≡ t) × (a ≡ b)
same_text s t a b fs ft e =
    let lengths : length s ≡ length t = sym (again_2 (length s) (s ++ a) fs) ∙ ap (big_number 2) e
    ∙ again_2 (length t) (t ++ b) ft in
    let rest : s ++ a ≡ t ++ b =
    append_cancel_left (two_bytes (length t)) (s ++ a) (t ++ b)
    (ap (λ (n : ℕ). two_bytes n ++ (s ++ a)) (sym lengths) ∙ e) in (
      sym (take_at s a (length s) refl) ∙ ap (take (length s)) rest ∙ take_at t b (length s) (sym lengths),
      sym (drop_at s a (length s) refl) ∙ ap (drop (length s)) rest ∙ drop_at t b (length s) (sym lengths),
    )

-- entries with one tag and one content
same_entry : (e f : PoolEntry) (a b : List ℕ) → IsPoolEntry e → IsPoolEntry f → tag_of e ≡ tag_of f
    → content_of e ++ a ≡ content_of f ++ b → e ≡ f
same_entry e f a b fe ff t c =
    elim (decoded e a fe) [
      | inl us ↦ elim (decoded f b ff) [
        | inl vs ↦
            let is_e = us.1 in
            let is_f = vs.1 in
            let fit_u : IsPoolEntry (Utf8 us.0) = subst IsPoolEntry is_e fe in
            let fit_v : IsPoolEntry (Utf8 vs.0) = subst IsPoolEntry is_f ff in
            let whole : (text_spelling us.0) ++ a ≡ (text_spelling vs.0) ++ b =
            ap (λ (x : PoolEntry). content_of x ++ a) (sym is_e) ∙ c
            ∙ ap (λ (x : PoolEntry). content_of x ++ b) is_f in
            let s = encoded_units us.0 in
            let r = encoded_units vs.0 in
            let text = same_text s r a b fit_u.1 fit_v.1 (sym (append_assoc (two_bytes (length s)) s a) ∙ whole
            ∙ append_assoc (two_bytes (length r)) r b) in
            let units = units_same s us.0 vs.0 (record { units_fit = fit_u.0; spelled = refl })
            (record { units_fit = fit_v.0; spelled = text.0 }) in
            is_e ∙ ap Utf8 units ∙ sym is_f
        | inr g ↦
            absurd (not_some f (ap (λ (x : Tag). numbers_entry x (content_of f ++ b)) (ap tag_of (sym us.1) ∙ t) ∙ g))
      ]
      | inr h ↦ elim (decoded f b ff) [
        | inl vs ↦
            absurd (not_some e (ap (λ (x : Tag). numbers_entry x (content_of e ++ a)) (ap tag_of (sym vs.1) ∙ sym t)
            ∙ h))
        | inr g ↦ some_same e f (sym h ∙ ap (λ (x : Tag). numbers_entry x (content_of e ++ a)) t
            ∙ ap (numbers_entry (tag_of f)) c ∙ g)
      ]
    ]

pub entry_same : (e f : PoolEntry) (a b : List ℕ) → IsPoolEntry e → IsPoolEntry f → entry_text e ++ a ≡ entry_text f
    ++ b → (e ≡ f) × (a ≡ b)
entry_same e f a b fe ff same =
    let whole : tag_byte (tag_of e) ∷ (content_of e ++ a) ≡ tag_byte (tag_of f) ∷ (content_of f ++ b) =
    ap (λ (t : List ℕ). t ++ a) (sym (parts_of e fe)) ∙ same ∙ ap (λ (t : List ℕ). t ++ b) (parts_of f ff) in
    let s = cells (tag_byte (tag_of e)) (tag_byte (tag_of f)) (content_of e ++ a) (content_of f ++ b) whole in
    let one = same_entry e f a b fe ff (tag_same (tag_of e) (tag_of f) s.0) s.1 in
    (one, append_cancel_left (entry_text f) a b (ap (λ (x : PoolEntry). entry_text x ++ a) (sym one) ∙ same))
