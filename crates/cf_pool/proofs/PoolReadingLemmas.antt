-- What is read of a whole pool.
use Rattle.std.proofs.Common.{◌≡◌, ℕ, ◌+◌, ◌-◌, ◌^◌, ◌<◌, ◌≤◌, List, [], ◌∷◌, ◌++◌, length, take, drop, refl, sym, ap}
use Rattle.std.proofs.Common.{◌∙◌, append_assoc, arith, inl, inr}
use Rattle.std.specs.List.{flat_map}
use Rattle.std.specs.Int.{w16, from_be_bytes}
use Rattle.std.proofs.lemmas.Bool.{cases_lt, lt-ltb, le-ltb}
use Rattle.std.proofs.lemmas.List.{append-nil, length-append, length-take, length-drop, take-append-drop, take_all}
use Rattle.std.proofs.lemmas.List.{take-take, take_rest}
use Rattle.std.proofs.lemmas.List.Concat.{flat_map-append}
use Rattle.cf_pool.specs.declared.entry.PoolEntry.{PoolEntry}
use Rattle.cf_pool.specs.declared.entry.PoolEntry.TheVariants as entries
use Rattle.cf_pool.specs.declared.entry.PoolEntry.TheVariants.{Integer, Float, Long, Double, Class, Str, Field, Method}
use Rattle.cf_pool.specs.declared.entry.PoolEntry.TheVariants.{InterfaceMethod, NameAndType, MethodHandle, MethodType}
use Rattle.cf_pool.specs.declared.entry.PoolEntry.TheVariants.{InvokeDynamic, Unusable}
use Rattle.cf_pool.specs.declared.tag.Tag.{Tag}
use Rattle.cf_pool.specs.declared.tag.Tag.TheVariants as tags
use Rattle.cf_pool.specs.declared.tag.Tag.TheVariants.{Utf8}
use Rattle.cf_pool.specs.declared.fault.PoolFault.{PoolFault}
use Rattle.cf_pool.specs.declared.fault.PoolFault.TheVariants.{Malformed, NoMemory}
use Rattle.cf_pool.specs.Tags.{content_size}
use Rattle.cf_pool.specs.Spelling.{two_bytes, entry_text, pool_text}
use Rattle.cf_pool.specs.Entries.{slots, IsLaidOut}
use Rattle.cf_pool.specs.ConstantPool.{Names, IsPool, IsPoolFault}
use Rattle.cf_pool.specs.Calls.Contents.{later, ReadsEntries, IsFaultOfEntries}
use Rattle.byteorder.specs.Endian.{big_number}
use Rattle.cf_pool.proofs.NumberLemmas.{FitBytes, FitBytes-drop, FitBytes-take, big_is_2, front_2}
use Rattle.byteorder.specs.Numbers.{big_from-take}
use Rattle.cf_pool.proofs.ReadingLemmas.{ReadSoFar}

-- ---- the pool

slot_text : (entry : PoolEntry) → flat_map entry_text (slots entry) ≡ entry_text entry
slot_text (Long n) = append-nil (entry_text (Long n))
slot_text (Double bits) = append-nil (entry_text (Double bits))
slot_text (entries.Utf8 units) = append-nil (entry_text (entries.Utf8 units))
slot_text (Integer n) = append-nil (entry_text (Integer n))
slot_text (Float bits) = append-nil (entry_text (Float bits))
slot_text (Class a) = append-nil (entry_text (Class a))
slot_text (Str a) = append-nil (entry_text (Str a))
slot_text (Field a b) = append-nil (entry_text (Field a b))
slot_text (Method a b) = append-nil (entry_text (Method a b))
slot_text (InterfaceMethod a b) = append-nil (entry_text (InterfaceMethod a b))
slot_text (NameAndType a b) = append-nil (entry_text (NameAndType a b))
slot_text (MethodHandle a b) = append-nil (entry_text (MethodHandle a b))
slot_text (MethodType a) = append-nil (entry_text (MethodType a))
slot_text (InvokeDynamic a b) = append-nil (entry_text (InvokeDynamic a b))
slot_text Unusable = refl

-- the spelling of what stands at the indices of entries is that of the entries
pub slots_text : (entries : List PoolEntry) → flat_map entry_text (flat_map slots entries) ≡ flat_map entry_text entries
slots_text [] = refl
slots_text (entry ∷ entries) =
    let rest = slots_text entries in
    flat_map-append entry_text (slots entry) (flat_map slots entries)
    ∙ ap (λ (t : List ℕ). t ++ flat_map entry_text (flat_map slots entries)) (slot_text entry)
    ∙ ap (λ (t : List ℕ). entry_text entry ++ t) rest

pub laid_out_text : (pool entries : List PoolEntry) → IsLaidOut pool entries
    → flat_map entry_text pool ≡ flat_map entry_text entries
laid_out_text [] entries out = ap (flat_map entry_text) (sym out)
laid_out_text (first ∷ rest) entries out =
    ap (λ (e : PoolEntry). entry_text e ++ flat_map entry_text rest) out.0 ∙ ap (flat_map entry_text) out.1
    ∙ slots_text entries

-- the count of a file stands between its head and its entries
pub file_parts : (bytes : List ℕ) → 10 ≤ length bytes → FitBytes bytes
    → bytes ≡ take 8 bytes ++ (two_bytes (big_number 2 (drop 8 (take 10 bytes))) ++ drop 10 bytes)
file_parts bytes long fits =
    let head = take 10 bytes in
    let head_length : length (drop 8 head) ≡ 2 = omega (arith, length-drop 8 head, length-take 10 bytes) in
    let count : two_bytes (big_number 2 (drop 8 head)) ≡ drop 8 head =
    front_2 (drop 8 head) (omega arith) (FitBytes-drop 8 head (FitBytes-take 10 bytes fits))
    ∙ take_all 2 (drop 8 head) (omega arith) in
    let front : take 8 bytes ++ drop 8 head ≡ head =
    ap (λ (t : List ℕ). t ++ drop 8 head) (sym (take-take 8 10 bytes (omega arith))) ∙ take-append-drop 8 head in
    sym (take-append-drop 10 bytes) ∙ ap (λ (t : List ℕ). t ++ drop 10 bytes) (sym front)
    ∙ append_assoc (take 8 bytes) (drop 8 head) (drop 10 bytes)
    ∙ ap (λ (t : List ℕ). take 8 bytes ++ (t ++ drop 10 bytes)) (sym count)

pub pool_found : (bytes body rest : List ℕ) (count : ℕ) (pool : List PoolEntry) → 10 ≤ length bytes → count < 2 ^ 16
    → bytes ≡ take 8 bytes ++ (two_bytes count ++ body) → ReadsEntries count body pool rest
    → IsPool bytes pool (length bytes - length rest)
pool_found bytes body rest count pool long fits parts read =
    let text = laid_out_text pool read.entries read.laid_out in
    let spelled : two_bytes count ++ body ≡ pool_text pool ++ rest =
    ap (λ (n : ℕ). two_bytes n ++ body) (sym read.count_is)
    ∙ ap (λ (t : List ℕ). two_bytes (length pool) ++ t) read.parts
    ∙ ap (λ (t : List ℕ). two_bytes (length pool) ++ (t ++ rest)) (sym text) ∙ sym
    (append_assoc (two_bytes (length pool)) (flat_map entry_text pool) rest) in
    let whole : bytes ≡ take 8 bytes ++ (pool_text pool ++ rest) =
    parts ∙ ap (λ (t : List ℕ). take 8 bytes ++ t) spelled in
    record {
      head = take 8 bytes;
      entries = read.entries;
      rest = rest;
      head_is = omega (arith, length-take 8 bytes);
      entries_fit = read.entries_fit;
      laid_out = read.laid_out;
      count_fits = omega (arith, read.count_is);
      parts = whole;
      place_is =
          omega (
            arith,
            ap length whole,
            length-append (take 8 bytes) (pool_text pool ++ rest),
            length-append (pool_text pool) rest,
            length-take 8 bytes,
          );
    }

pub pool_fault : (e : PoolFault) (bytes body : List ℕ) (count : ℕ) → 10 ≤ length bytes → count < 2 ^ 16
    → bytes ≡ take 8 bytes ++ (two_bytes count ++ body) → Names (IsFaultOfEntries count body) e
    → Names (IsPoolFault bytes) (later 10 e)
pool_fault NoMemory bytes body count long fits parts named = tt
pool_fault (Malformed fault) bytes body count long fits parts named = inr (record {
  head = take 8 bytes;
  count = count;
  entries = named.entries;
  rest = named.rest;
  left = named.left;
  at = named.at;
  head_is = omega (arith, length-take 8 bytes);
  count_fits = fits;
  entries_fit = named.entries_fit;
  parts = parts ∙ ap (λ (t : List ℕ). take 8 bytes ++ (two_bytes count ++ t)) named.parts;
  indices_left = named.indices_left;
  some_left = named.some_left;
  entry_fault = named.entry_fault;
  place_is = omega (arith, named.place_is);
})

pub read_shorter : (bytes rest : List ℕ) (pool : List PoolEntry) → ReadSoFar bytes pool rest
    → length rest ≤ length bytes
read_shorter bytes rest pool so_far =
    omega (arith, ap length so_far.parts, length-append (flat_map entry_text so_far.entries) rest)

-- an entry takes an index
pub slots_some : (entry : PoolEntry) → 0 < length (slots entry)
slots_some (Long n) = omega arith
slots_some (Double bits) = omega arith
slots_some (entries.Utf8 units) = omega arith
slots_some (Integer n) = omega arith
slots_some (Float bits) = omega arith
slots_some (Class a) = omega arith
slots_some (Str a) = omega arith
slots_some (Field a b) = omega arith
slots_some (Method a b) = omega arith
slots_some (InterfaceMethod a b) = omega arith
slots_some (NameAndType a b) = omega arith
slots_some (MethodHandle a b) = omega arith
slots_some (MethodType a) = omega arith
slots_some (InvokeDynamic a b) = omega arith
slots_some Unusable = omega arith

pub split_whole : (n : ℕ) (rest front back : List ℕ) → front ≡ take n rest → back ≡ drop n rest → rest ≡ front ++ back
split_whole n rest front back f b = rw (f, b) (sym (take-append-drop n rest))

pub file_split : (bytes head body : List ℕ) (count : ℕ) → 10 ≤ length bytes → FitBytes bytes → head ≡ take 10 bytes
    → body ≡ drop 10 bytes → count ≡ big_number 2 (take (length head - 8) (drop 8 head))
    → bytes ≡ take 8 bytes ++ (two_bytes count ++ body)
file_split bytes head body count long fits h b n =
    file_parts bytes long fits ∙ ap (λ (m : ℕ). take 8 bytes ++ (two_bytes m ++ drop 10 bytes))
    (sym (n ∙ ap (λ (t : List ℕ). big_number 2 t) (take_rest head 8)
    ∙ ap (λ (t : List ℕ). big_number 2 (drop 8 t)) h)) ∙ ap (λ (t : List ℕ). take 8 bytes ++ (two_bytes count ++ t))
    (sym b)

text_size_again : (size : ℕ) (rest : List ℕ) → size ≡ content_size Utf8 rest → size ≤ length rest
    → size ≡ content_size Utf8 (take size rest)
text_size_again size rest is fits =
    elim (cases_lt (length rest) 2) [
      | inl short ↦ let two : size ≡ 2 = rw (lt-ltb (length rest) 2 short) at is in absurd (omega arith)
      | inr long ↦
          let whole : size ≡ 2 + from_be_bytes w16 rest = rw (le-ltb (length rest) 2 long) at is in
          let size_long : 2 ≤ size = omega arith in
          let same : from_be_bytes w16 (take size rest) ≡ from_be_bytes w16 rest = sym (big_is_2 (take size rest))
          ∙ big_from-take 0 2 size rest size_long ∙ big_is_2 rest in
          let enough : 2 ≤ length (take size rest) = omega (arith, length-take size rest) in
          rw (le-ltb (length (take size rest)) 2 enough) (whole ∙ ap (λ (n : ℕ). 2 + n) (sym same))
    ]

same_size : (tag : Tag) (size : ℕ) (rest : List ℕ) → size ≡ content_size tag rest → size ≤ length rest
    → size ≡ content_size tag (take size rest)
same_size Utf8 size rest is fits = text_size_again size rest is fits
same_size tags.Integer size rest is fits = is
same_size tags.Float size rest is fits = is
same_size tags.Long size rest is fits = is
same_size tags.Double size rest is fits = is
same_size tags.Class size rest is fits = is
same_size tags.Str size rest is fits = is
same_size tags.Field size rest is fits = is
same_size tags.Method size rest is fits = is
same_size tags.InterfaceMethod size rest is fits = is
same_size tags.NameAndType size rest is fits = is
same_size tags.MethodHandle size rest is fits = is
same_size tags.MethodType size rest is fits = is
same_size tags.InvokeDynamic size rest is fits = is

-- the content of an entry has the size that its bytes say
pub size_again : (tag : Tag) (size : ℕ) (rest content : List ℕ) → size ≡ content_size tag rest
    → content ≡ take size rest → size ≤ length rest → length content ≡ content_size tag content
size_again tag size rest content is front fits =
    let taken : length content ≡ size = ap length front ∙ omega (arith, length-take size rest) in
    taken ∙ rw front (same_size tag size rest is fits)
