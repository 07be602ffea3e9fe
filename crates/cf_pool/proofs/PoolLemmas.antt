-- A file has one pool or one first fault of its pool.
use Rattle.std.proofs.Common.{◌≡◌, ℕ, ◌+◌, ◌-◌, ◌^◌, ◌<◌, ◌≤◌, ◌⊎◌, List, [], ◌∷◌, ◌++◌, length, take, drop, refl, sym}
use Rattle.std.proofs.Common.{ap, subst, ◌∙◌, append_assoc, arith, inl, inr}
use Rattle.std.specs.List.{flat_map, All}
use Rattle.std.proofs.lemmas.List.{append_cancel_left, length-append, take_at, drop_at}
use Rattle.std.proofs.lemmas.List.Concat.{length-flat_map}
use Rattle.jv_list.proofs.ToldLemmas.{BeginsNoneWithin, told_within}
use Rattle.byteorder.specs.Endian.{big_number}
use Rattle.cf_pool.specs.declared.entry.PoolEntry.{PoolEntry}
use Rattle.cf_pool.specs.declared.fault.What.{What}
use Rattle.cf_pool.specs.declared.fault.Fault.{Fault}
use Rattle.cf_pool.specs.Spelling.{two_bytes, entry_text, pool_text}
use Rattle.cf_pool.specs.Entries.{IsPoolEntry, slots, IsLaidOut}
use Rattle.cf_pool.specs.declared.fault.PoolFault.{PoolFault}
use Rattle.cf_pool.specs.declared.fault.PoolFault.TheVariants.{Malformed, NoMemory}
use Rattle.cf_pool.specs.ConstantPool.{Names, IsEntryFault, IsPool, IsFaultOfEntry, IsPoolFault}
use Rattle.cf_pool.proofs.NumberLemmas.{again_2}
use Rattle.cf_pool.proofs.PoolReadingLemmas.{slots_some, laid_out_text}
use Rattle.cf_pool.proofs.EntryLemmas.{entry_same}
use Rattle.cf_pool.proofs.EntryFaultLemmas.{no_entry, fault_same}

-- with no index left nothing more is read, and else an entry is at fault
abbrev pub Stops : ℕ → List ℕ → Type 0
Stops left rest = (left ≡ 0) ⊎ ((0 < left) × (what : What) × (at : ℕ) × IsEntryFault left rest what at)

stops_before : (left : ℕ) (rest after : List ℕ) (e : PoolEntry) → Stops left rest → IsPoolEntry e
    → length (slots e) ≤ left → rest ≡ entry_text e ++ after → ⊥
stops_before left rest after e stops fits room is =
    elim stops [
      | inl none ↦ omega (arith, none, room, slots_some e)
      | inr h ↦ no_entry left rest after h.1 h.2 e h.3 fits room is
    ]

-- the indices that an entry takes
abbrev width : PoolEntry → ℕ
width e = length (slots e)

-- where reading stops, no entry for the indices left begins
begins_none : (left : ℕ) (rest : List ℕ) → Stops left rest → BeginsNoneWithin entry_text IsPoolEntry width left rest
begins_none left rest stops e after fits room is = stops_before left rest after e stops fits room is

-- entries up to where reading stops are the same
entries_same : (es fs : List PoolEntry) (left more total : ℕ) (a b : List ℕ) → All IsPoolEntry es → All IsPoolEntry fs
    → length (flat_map slots es) + left ≡ total → length (flat_map slots fs) + more ≡ total
    → Stops left a → Stops more b → flat_map entry_text es ++ a ≡ flat_map entry_text fs ++ b → (es ≡ fs) × (a ≡ b)
entries_same es fs left more total a b fe ff te tf sa sb is =
    told_within entry_text IsPoolEntry entry_same width total es fs left more a b fe ff
    (omega (arith, te, length-flat_map slots es)) (omega (arith, tf, length-flat_map slots fs))
    (begins_none left a sa) (begins_none more b sb) is

-- a file up to where reading stops
pub record IsFront (bytes : List ℕ) (count left : ℕ) (entries : List PoolEntry) (rest : List ℕ) : Type 0 where
  pub head : List ℕ
  pub head_is : length head ≡ 8
  pub count_fits : count < 2 ^ 16
  pub entries_fit : All IsPoolEntry entries
  pub parts : bytes ≡ head ++ (two_bytes count ++ (flat_map entry_text entries ++ rest))
  pub indices : length (flat_map slots entries) + left ≡ count - 1
  pub stops : Stops left rest

pub record SameFront (m n left more : ℕ) (es fs : List PoolEntry) (a b : List ℕ) : Type 0 where
  pub counts : m ≡ n
  pub lefts : left ≡ more
  pub entries : es ≡ fs
  pub rests : a ≡ b

pub front_same : (bytes : List ℕ) (m n left more : ℕ) (es fs : List PoolEntry) (a b : List ℕ)
    → IsFront bytes m left es a → IsFront bytes n more fs b → SameFront m n left more es fs a b
front_same bytes m n left more es fs a b h k =
    let x = two_bytes m ++ (flat_map entry_text es ++ a) in
    let y = two_bytes n ++ (flat_map entry_text fs ++ b) in
    let whole : h.head ++ x ≡ k.head ++ y = sym h.parts ∙ k.parts in
    let rest : x ≡ y = sym (drop_at h.head x 8 h.head_is) ∙ ap (drop 8) whole ∙ drop_at k.head y 8 k.head_is in
    let counts : m ≡ n = sym (again_2 m (flat_map entry_text es ++ a) h.count_fits) ∙ ap (big_number 2) rest
    ∙ again_2 n (flat_map entry_text fs ++ b) k.count_fits in
    let texts : flat_map entry_text es ++ a ≡ flat_map entry_text fs ++ b =
    append_cancel_left (two_bytes n) (flat_map entry_text es ++ a) (flat_map entry_text fs ++ b)
    (ap (λ (c : ℕ). two_bytes c ++ (flat_map entry_text es ++ a)) (sym counts) ∙ rest) in
    let same = entries_same es fs left more (m - 1) a b h.entries_fit k.entries_fit h.indices
    (omega (arith, k.indices, counts)) h.stops k.stops texts in
    record {
      counts = counts;
      lefts = omega (
        arith,
        h.indices,
        k.indices,
        counts,
        ap (λ (xs : List PoolEntry). length (flat_map slots xs)) same.0,
      );
      entries = same.0;
      rests = same.1;
    }

laid_out_count : (pool entries : List PoolEntry) → IsLaidOut pool entries
    → length (flat_map slots entries) + 0 ≡ length pool - 1
laid_out_count [] entries out = omega (arith, ap (λ (xs : List PoolEntry). length (flat_map slots xs)) out)
laid_out_count (first ∷ rest) entries out = omega (arith, ap length out.1)

pub pool_front : (bytes : List ℕ) (pool : List PoolEntry) (place : ℕ) (p : IsPool bytes pool place)
    → IsFront bytes (length pool) 0 p.entries p.rest
pool_front bytes pool place p = record {
  head = p.head;
  head_is = p.head_is;
  count_fits = p.count_fits;
  entries_fit = p.entries_fit;
  parts = p.parts
      ∙ ap (λ (t : List ℕ). p.head ++ t) (append_assoc (two_bytes (length pool)) (flat_map entry_text pool) p.rest)
      ∙ ap (λ (t : List ℕ). p.head ++ (two_bytes (length pool) ++ (t ++ p.rest)))
      (laid_out_text pool p.entries p.laid_out);
  indices = laid_out_count pool p.entries p.laid_out;
  stops = inl refl;
}

pub fault_front : (bytes : List ℕ) (fault : Fault) (f : IsFaultOfEntry bytes fault)
    → IsFront bytes f.count f.left f.entries f.rest
fault_front bytes fault f = record {
  head = f.head;
  head_is = f.head_is;
  count_fits = f.count_fits;
  entries_fit = f.entries_fit;
  parts = f.parts;
  indices = omega (arith, f.indices_left);
  stops = inr (f.some_left, fault.what, f.at, f.entry_fault);
}

laid_out_same : (p q es fs : List PoolEntry) → length p ≡ length q → es ≡ fs → IsLaidOut p es → IsLaidOut q fs → p ≡ q
laid_out_same [] [] es fs l s h k = refl
laid_out_same [] (b ∷ q) es fs l s h k = absurd (omega arith)
laid_out_same (a ∷ p) [] es fs l s h k = absurd (omega arith)
laid_out_same (a ∷ p) (b ∷ q) es fs l s h k =
    let first : a ≡ b = h.0 ∙ sym k.0 in
    let rest : p ≡ q = h.1 ∙ ap (flat_map slots) s ∙ sym k.1 in
    cc

pub pool_same : (bytes : List ℕ) (p q : List PoolEntry) (i j : ℕ) → IsPool bytes p i → IsPool bytes q j
    → (p ≡ q) × (i ≡ j)
pool_same bytes p q i j h k =
    let same = front_same bytes (length p) (length q) 0 0 h.entries k.entries h.rest k.rest (pool_front bytes p i h)
    (pool_front bytes q j k) in
    let pools = laid_out_same p q h.entries k.entries same.counts same.entries h.laid_out k.laid_out in
    (pools, h.place_is ∙ ap (λ (xs : List PoolEntry). 8 + length (pool_text xs)) pools ∙ sym k.place_is)

front_long : (bytes : List ℕ) (count left : ℕ) (entries : List PoolEntry) (rest : List ℕ)
    → IsFront bytes count left entries rest → 10 ≤ length bytes
front_long bytes count left entries rest f =
    let body = flat_map entry_text entries ++ rest in
    omega (
      arith,
      f.head_is,
      ap length f.parts,
      length-append f.head (two_bytes count ++ body),
      length-append (two_bytes count) body,
    )

pub pool_not_fault : (bytes : List ℕ) (pool : List PoolEntry) (place : ℕ) (fault : Fault) → IsPool bytes pool place
    → IsPoolFault bytes fault → ⊥
pool_not_fault bytes pool place fault p f =
    let front = pool_front bytes pool place p in
    elim f [
      | inl short ↦ omega (arith, short.short, front_long bytes (length pool) 0 p.entries p.rest front)
      | inr h ↦
          let same = front_same bytes (length pool) h.count 0 h.left p.entries h.entries p.rest h.rest front
          (fault_front bytes fault h) in
          omega (arith, same.lefts, h.some_left)
    ]

abbrev made : ℕ → What → Fault
made place what = record { place = place; what = what }

same_fault : (f g : Fault) → f.what ≡ g.what → f.place ≡ g.place → f ≡ g
same_fault f g w p = ap (λ (v : What). made f.place v) w ∙ ap (λ (n : ℕ). made n g.what) p

pub fault_once : (bytes : List ℕ) (f g : Fault) → IsPoolFault bytes f → IsPoolFault bytes g → f ≡ g
fault_once bytes f g hf hg =
    elim hf [
      | inl h ↦ elim hg [
        | inl k ↦ same_fault f g (h.what_is ∙ sym k.what_is) (h.place_is ∙ sym k.place_is)
        | inr k ↦
            absurd (omega (arith, h.short, front_long bytes k.count k.left k.entries k.rest (fault_front bytes g k)))
      ]
      | inr h ↦ elim hg [
        | inl k ↦
            absurd (omega (arith, k.short, front_long bytes h.count h.left h.entries h.rest (fault_front bytes f h)))
        | inr k ↦
            let same = front_same bytes h.count k.count h.left k.left h.entries k.entries h.rest k.rest
            (fault_front bytes f h) (fault_front bytes g k) in
            let moved : IsEntryFault k.left k.rest f.what h.at =
            subst (λ (n : ℕ). IsEntryFault n k.rest f.what h.at) same.lefts
            (subst (λ (t : List ℕ). IsEntryFault h.left t f.what h.at) same.rests h.entry_fault) in
            let one = fault_same k.left k.rest f.what g.what h.at k.at k.some_left moved k.entry_fault in
            let texts = ap (λ (xs : List PoolEntry). length (flat_map entry_text xs)) same.entries in
            same_fault f g one.0 (omega (arith, h.place_is, k.place_is, one.1, texts))
      ]
    ]

-- ---- the spelling of what was read

pub spelled_again : (bytes : List ℕ) (pool : List PoolEntry) (place : ℕ) → IsPool bytes pool place
    → pool_text pool ≡ take (place - 8) (drop 8 bytes)
spelled_again bytes pool place p =
    let size : place - 8 ≡ length (pool_text pool) = omega (arith, p.place_is) in
    let behind : drop 8 bytes ≡ pool_text pool ++ p.rest = ap (drop 8) p.parts
    ∙ drop_at p.head (pool_text pool ++ p.rest) 8 p.head_is in
    sym (ap (take (place - 8)) behind ∙ take_at (pool_text pool) p.rest (place - 8) (sym size))

abbrev paired : List PoolEntry → ℕ → List PoolEntry × ℕ
paired pool place = (pool, place)

pub pair_same : (c d : List PoolEntry × ℕ) → (c.0 ≡ d.0) × (c.1 ≡ d.1) → c ≡ d
pair_same c d e = ap (λ (p : List PoolEntry). paired p c.1) e.0 ∙ ap (λ (n : ℕ). paired d.0 n) e.1

-- a file whose pool has a fault has no pool
pub outside_of : (e : PoolFault) (bytes : List ℕ) → Names (IsPoolFault bytes) e
    → Names (λ _. (pool : List PoolEntry) (place : ℕ) → IsPool bytes pool place → ⊥) e
outside_of NoMemory bytes named = tt
outside_of (Malformed fault) bytes named = λ pool place p. pool_not_fault bytes pool place fault p named
