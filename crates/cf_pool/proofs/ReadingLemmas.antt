-- Reading entry by entry: what stands at the indices that were read, and the fault at the next one.
use Rattle.std.proofs.Common.{◌≡◌, ℕ, ◌+◌, ◌-◌, ◌^◌, ◌<◌, ◌≤◌, List, [], ◌∷◌, ◌++◌, length, take, drop, refl, sym, ap}
use Rattle.std.proofs.Common.{subst, ◌∙◌, append_assoc, arith, inl, inr}
use Rattle.std.specs.List.{flat_map, All}
use Rattle.std.specs.Int.{w16, from_be_bytes}
use Rattle.std.proofs.lemmas.Bool.{cases_lt, lt-ltb, le-ltb}
use Rattle.std.proofs.lemmas.List.{append-nil, length-append, length-drop, take-append-drop}
use Rattle.std.proofs.lemmas.List.Concat.{flat_map-append}
use Rattle.std.proofs.lemmas.List.Elements.{All-nil, All-push}
use Rattle.cf_pool.specs.declared.entry.PoolEntry.{PoolEntry}
use Rattle.cf_pool.specs.declared.entry.PoolEntry.TheVariants as entries
use Rattle.cf_pool.specs.declared.entry.PoolEntry.TheVariants.{Unusable}
use Rattle.cf_pool.specs.declared.tag.Tag.{Tag}
use Rattle.cf_pool.specs.declared.tag.Tag.TheVariants.{Utf8}
use Rattle.cf_pool.specs.declared.fault.What.{What}
use Rattle.cf_pool.specs.declared.fault.Fault.{Fault}
use Rattle.cf_pool.specs.declared.fault.PoolFault.{PoolFault}
use Rattle.cf_pool.specs.declared.fault.PoolFault.TheVariants.{Malformed, NoMemory}
use Rattle.cf_pool.specs.ModifiedUtf8.{IsBadUnit, encoded_units}
use Rattle.cf_pool.specs.Tags.{tag_byte, content_size}
use Rattle.cf_pool.specs.Spelling.{two_bytes, entry_text}
use Rattle.cf_pool.specs.Entries.{IsPoolEntry, slots, IsLaidOut}
use Rattle.cf_pool.specs.ConstantPool.{Names, HasBadText, IsEntryFault}
use Rattle.cf_pool.specs.Calls.Contents.{IsFaultOfContent, later, ReadsEntries, IsFaultOfEntries}
use Rattle.cf_pool.proofs.NumberLemmas.{FitBytes, front_of_text}
use Rattle.cf_pool.proofs.NumberLemmas.{below_text}

-- ---- an entry

-- the size of a text that is there in full
pub text_size : (content : List ℕ) → length content ≡ content_size Utf8 content
    → (2 ≤ length content) × (length content ≡ 2 + from_be_bytes w16 content)
text_size content is =
    elim (cases_lt (length content) 2) [
      | inl short ↦ let two : length content ≡ 2 = rw (lt-ltb (length content) 2 short) at is in absurd (omega arith)
      | inr long ↦ let size : length content ≡ 2 + from_be_bytes w16 content = rw (le-ltb (length content) 2 long) at is
          in (long, size)
    ]

pub bad_text : (content after : List ℕ) (fault : Fault) → FitBytes content → length content ≡ content_size Utf8 content
    → IsFaultOfContent content fault → HasBadText (1 ∷ (content ++ after)) fault.place
bad_text content after fault fits is named =
    let size = text_size content is in
    let text_length : length (drop 2 content) ≡ from_be_bytes w16 content =
    omega (arith, size.0, size.1, length-drop 2 content) in
    let front : two_bytes (length (drop 2 content)) ≡ take 2 content = ap two_bytes text_length
    ∙ front_of_text content size.0 fits in
    let whole : two_bytes (length (drop 2 content)) ++ (drop 2 content ++ after) ≡ content ++ after =
    ap (λ (t : List ℕ). t ++ (drop 2 content ++ after)) front ∙ sym
    (append_assoc (take 2 content) (drop 2 content) after)
    ∙ ap (λ (t : List ℕ). t ++ after) (take-append-drop 2 content) in
    record {
      text = drop 2 content;
      rest = after;
      place = named.place;
      text_fits = omega (arith, text_length, below_text content fits);
      parts = ap (λ (t : List ℕ). 1 ∷ t) (sym whole);
      bad_unit = named.bad_unit;
      at_is = named.place_is;
    }

-- the fault of a text is that of its entry
pub text_fault : (e : PoolFault) (left : ℕ) (tag : Tag) (byte : ℕ) (bytes rest content after : List ℕ)
    → FitBytes content → bytes ≡ byte ∷ rest → tag_byte tag ≡ byte → rest ≡ content ++ after
    → length content ≡ content_size tag content
    → Names (λ f. (tag ≡ Utf8) × IsFaultOfContent content f) e → Names (λ f. IsEntryFault left bytes f.what f.place) e
text_fault NoMemory left tag byte bytes rest content after fits parts is split size named = tt
text_fault (Malformed fault) left tag byte bytes rest content after fits parts is split size named =
    let text : length content ≡ content_size Utf8 content =
    subst (λ (t : Tag). length content ≡ content_size t content) named.0 size in
    let first : byte ≡ 1 = sym is ∙ ap tag_byte named.0 in
    let whole : bytes ≡ 1 ∷ (content ++ after) = parts ∙ ap (λ (b : ℕ). b ∷ rest) first
    ∙ ap (λ (t : List ℕ). 1 ∷ t) split in
    let bad : HasBadText bytes fault.place =
    subst (λ (t : List ℕ). HasBadText t fault.place) (sym whole) (bad_text content after fault fits text named.1) in
    subst (λ (w : What). IsEntryFault left bytes w fault.place) (sym named.1.what_is) bad

bad_unit_within : (text : List ℕ) (place : ℕ) → IsBadUnit text place → place ≤ length text
bad_unit_within text place bad =
    omega (arith, bad.place_is, ap length bad.parts, length-append (encoded_units bad.units) bad.rest)

pub text_fault_within : (e : PoolFault) (tag : Tag) (byte : ℕ) (bytes rest content after : List ℕ) → bytes ≡ byte ∷ rest
    → rest ≡ content ++ after → length content ≡ content_size tag content
    → Names (λ f. (tag ≡ Utf8) × IsFaultOfContent content f) e → Names (λ f. f.place ≤ length bytes) e
text_fault_within NoMemory tag byte bytes rest content after parts split size named = tt
text_fault_within (Malformed fault) tag byte bytes rest content after parts split size named =
    let text : length content ≡ content_size Utf8 content =
    subst (λ (t : Tag). length content ≡ content_size t content) named.0 size in
    let long = (text_size content text).0 in
    let inside = bad_unit_within (drop 2 content) named.1.place named.1.bad_unit in
    omega (
      arith,
      named.1.place_is,
      inside,
      length-drop 2 content,
      ap length parts,
      ap length split,
      length-append content after,
    )

-- ---- the entries

-- what was read up to some index
pub record ReadSoFar (bytes : List ℕ) (pool : List PoolEntry) (rest : List ℕ) : Type 0 where
  pub entries : List PoolEntry
  pub entries_fit : All IsPoolEntry entries
  pub pool_is : pool ≡ Unusable ∷ flat_map slots entries
  pub parts : bytes ≡ flat_map entry_text entries ++ rest

pub starts : (bytes : List ℕ) (pool : List PoolEntry) → pool ≡ Unusable ∷ [] → ReadSoFar bytes pool bytes
starts bytes pool is = record { entries = []; entries_fit = All-nil IsPoolEntry; pool_is = is; parts = refl }

pushed_slots : (entries : List PoolEntry) (entry : PoolEntry)
    → flat_map slots (entries ++ entry ∷ []) ≡ flat_map slots entries ++ slots entry
pushed_slots entries entry = flat_map-append slots entries (entry ∷ [])
    ∙ ap (λ (t : List PoolEntry). flat_map slots entries ++ t) (append-nil (slots entry))

pushed_text : (entries : List PoolEntry) (entry : PoolEntry)
    → flat_map entry_text (entries ++ entry ∷ []) ≡ flat_map entry_text entries ++ entry_text entry
pushed_text entries entry = flat_map-append entry_text entries (entry ∷ [])
    ∙ ap (λ (t : List ℕ). flat_map entry_text entries ++ t) (append-nil (entry_text entry))

pub goes_on : (bytes rest after : List ℕ) (pool new : List PoolEntry) (entry : PoolEntry) → ReadSoFar bytes pool rest
    → IsPoolEntry entry → rest ≡ entry_text entry ++ after → new ≡ pool ++ slots entry → ReadSoFar bytes new after
goes_on bytes rest after pool new entry so_far fits parts is = record {
  entries = so_far.entries ++ entry ∷ [];
  entries_fit = All-push IsPoolEntry so_far.entries entry so_far.entries_fit fits;
  pool_is = is ∙ ap (λ (t : List PoolEntry). t ++ slots entry) so_far.pool_is
      ∙ ap (λ (t : List PoolEntry). Unusable ∷ t) (sym (pushed_slots so_far.entries entry));
  parts = so_far.parts ∙ ap (λ (t : List ℕ). flat_map entry_text so_far.entries ++ t) parts ∙ sym
      (append_assoc (flat_map entry_text so_far.entries) (entry_text entry) after)
      ∙ ap (λ (t : List ℕ). t ++ after) (sym (pushed_text so_far.entries entry));
}

pub is_read : (count : ℕ) (bytes rest : List ℕ) (pool : List PoolEntry) → ReadSoFar bytes pool rest
    → length pool ≡ count → ReadsEntries count bytes pool rest
is_read count bytes rest pool so_far is = record {
  entries = so_far.entries;
  entries_fit = so_far.entries_fit;
  laid_out = subst (λ (p : List PoolEntry). IsLaidOut p so_far.entries) (sym so_far.pool_is) (refl, refl);
  count_is = is;
  parts = so_far.parts;
}

pub no_entries : (count : ℕ) (bytes : List ℕ) (pool : List PoolEntry) → pool ≡ [] → count ≡ 0
    → ReadsEntries count bytes pool bytes
no_entries count bytes pool empty zero = record {
  entries = [];
  entries_fit = All-nil IsPoolEntry;
  laid_out = subst (λ (p : List PoolEntry). IsLaidOut p []) (sym empty) refl;
  count_is = ap length empty ∙ sym zero;
  parts = refl;
}

pub fault_of_entries : (e : PoolFault) (count by : ℕ) (bytes rest : List ℕ) (pool : List PoolEntry)
    → ReadSoFar bytes pool rest → length pool < count → by + length rest ≡ length bytes
    → Names (λ f. IsEntryFault (count - length pool) rest f.what f.place) e
    → Names (IsFaultOfEntries count bytes) (later by e)
fault_of_entries NoMemory count by bytes rest pool so_far more is named = tt
fault_of_entries (Malformed fault) count by bytes rest pool so_far more is named = record {
  entries = so_far.entries;
  rest = rest;
  left = count - length pool;
  at = fault.place;
  entries_fit = so_far.entries_fit;
  parts = so_far.parts;
  indices_left = omega (arith, ap length so_far.pool_is);
  some_left = omega arith;
  entry_fault = named;
  place_is = omega (arith, ap length so_far.parts, length-append (flat_map entry_text so_far.entries) rest);
}

pub fault_within : (e : PoolFault) (by : ℕ) (bytes rest : List ℕ) → by + length rest ≡ length bytes
    → Names (λ f. f.place ≤ length rest) e → Names (λ f. f.place ≤ length bytes) (later by e)
fault_within NoMemory by bytes rest is within = tt
fault_within (Malformed fault) by bytes rest is within = omega arith

pub fault_fits : (e : PoolFault) (by : ℕ) (bytes rest : List ℕ) → by + length rest ≡ length bytes
    → length bytes < 2 ^ 64 → Names (λ f. f.place ≤ length rest) e → Names (λ f. f.place + by < 2 ^ 64) e
fault_fits NoMemory by bytes rest is small within = tt
fault_fits (Malformed fault) by bytes rest is small within = omega arith
