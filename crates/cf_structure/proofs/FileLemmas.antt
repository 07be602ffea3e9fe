-- A whole file: its version, its pool, and what stands behind it.
use Rattle.std.proofs.Common.{◌≡◌, ◌⊎◌, ℕ, ◌+◌, List, ◌++◌, length, take, drop, Result, Ok}
use Rattle.std.proofs.Common.{Err, refl, sym}
use Rattle.std.proofs.Common.{ap, ◌∙◌, append_assoc, arith, inl, inr}
use Rattle.std.proofs.lemmas.Bool.{cases_lt}
use Rattle.std.proofs.lemmas.List.{take_at, drop_at, length-append, get_or_past, get_or-drop}
use Rattle.cf_pool.specs.declared.entry.PoolEntry.{PoolEntry}
use Rattle.cf_pool.specs.declared.fault.Fault.{Fault}
use Rattle.cf_pool.specs.Spelling.{pool_text}
use Rattle.cf_pool.specs.ConstantPool.{IsPool, IsPoolFault}
use Rattle.cf_pool.specs.Laws.{OnePool, IsBytes}
use Rattle.cf_structure.specs.declared.fault.Cut.{Cut}
use Rattle.cf_structure.specs.declared.class_file.Version.{Version}
use Rattle.cf_structure.specs.Raw.{RawClass, RawFile}
use Rattle.cf_structure.specs.Structure.{version_at, class_at}
use Rattle.cf_structure.specs.Spelled.{version_text, class_text, file_text, FitsFile}
use Rattle.cf_structure.specs.ClassFile.{HasVersion, IsStructure, IsStructureFault}
use Rattle.cf_structure.specs.ClassFile.{fault_of}
use Rattle.cf_structure.proofs.ReadLemmas.{AreBytes, ok_is}
use Rattle.cf_structure.proofs.ClassLemmas.{class_reads, version_reads}

pub AreBytes-from_all : (bytes : List ℕ) → IsBytes bytes → AreBytes bytes
AreBytes-from_all bytes all i =
    elim (cases_lt i (length bytes)) [
      | inl lt ↦ all i 0 lt
      | inr le ↦ rw (get_or_past bytes i 0 le) (omega arith)
    ]

-- the version is the eight bytes before the pool
pub same_head : (x y b c : List ℕ) → length x ≡ length y → x ++ b ≡ y ++ c → (x ≡ y) × (b ≡ c)
same_head x y b c long e = (
  sym (take_at x b (length x) refl) ∙ ap (take (length x)) e ∙ take_at y c (length x) (sym long),
  sym (drop_at x b (length x) refl) ∙ ap (drop (length x)) e ∙ drop_at y c (length x) (sym long),
)

-- what stands behind the pool
pub behind_pool : (bytes : List ℕ) (pool : List PoolEntry) (place : ℕ) (p : IsPool bytes pool place)
    → drop place bytes ≡ p.rest
behind_pool bytes pool place p =
    let head = p.head ++ pool_text pool in
    let parts : bytes ≡ head ++ p.rest = p.parts ∙ sym (append_assoc p.head (pool_text pool) p.rest) in
    ap (drop place) parts
    ∙ drop_at head p.rest place (omega (arith, p.place_is, p.head_is, length-append p.head (pool_text pool)))

pub structure_spelled : (bytes : List ℕ) (file : RawFile) → AreBytes bytes → IsStructure bytes file
    → FitsFile file × (bytes ≡ file_text file)
structure_spelled bytes file fits s =
    let v = version_reads.takes bytes (file.version, s.version.0) fits s.version.1 in
    let p = s.pool in
    let same = same_head p.head (version_text file.version) (pool_text file.pool ++ p.rest) s.version.0 p.head_is
    (sym p.parts ∙ v.0.parts) in
    let bytes_left : AreBytes (drop s.place bytes) = λ i. rw get_or-drop (fits (s.place + i)) in
    let c = (class_reads file.pool).takes (drop s.place bytes) file.class bytes_left s.class in
    let behind : p.rest ≡ class_text file.class = sym (behind_pool bytes file.pool s.place p) ∙ c.0 in (
      record {
        version = v.1;
        pool = record { entries = p.entries; entries_fit = p.entries_fit; laid_out = p.laid_out; count = p.count_fits };
        class = c.1;
      },
      p.parts ∙ ap (λ (h : List ℕ). h ++ (pool_text file.pool ++ p.rest)) same.0
          ∙ ap (λ (r : List ℕ). version_text file.version ++ (pool_text file.pool ++ r)) behind,
    )

pub spelled_structure : (bytes : List ℕ) (file : RawFile) → FitsFile file → bytes ≡ file_text file
    → IsStructure bytes file
spelled_structure bytes file fits is =
    let pool : IsPool bytes file.pool (8 + length (pool_text file.pool)) = record {
      head = version_text file.version;
      entries = fits.pool.entries;
      rest = class_text file.class;
      head_is = refl;
      entries_fit = fits.pool.entries_fit;
      laid_out = fits.pool.laid_out;
      count_fits = fits.pool.count;
      parts = is;
      place_is = refl;
    } in
    record {
      place = 8 + length (pool_text file.pool);
      version = (
        pool_text file.pool ++ class_text file.class,
        ap version_at is ∙ version_reads.again file.version (pool_text file.pool ++ class_text file.class) fits.version,
      );
      pool = pool;
      class = ap (class_at file.pool) (behind_pool bytes file.pool (8 + length (pool_text file.pool)) pool)
          ∙ (class_reads file.pool).again file.class fits.class;
    }

-- ---- exactly one of structure and fault

module _ (law : OnePool) (bytes : List ℕ) (are_bytes : IsBytes bytes) where
  -- the pool of a file, and the place after it, are one
  one_pool_of : (p q : List PoolEntry) (m n : ℕ) → IsPool bytes p m → IsPool bytes q n → (p ≡ q) × (m ≡ n)
  one_pool_of p q m n h k =
      let e = (law bytes are_bytes).one_content (p, m) (q, n) h k in
      (ap (λ (c : List PoolEntry × ℕ). c.0) e, ap (λ (c : List PoolEntry × ℕ). c.1) e)

  -- what is read behind the pool is one
  one_reading : (p q : List PoolEntry) (m n : ℕ) (x y : Result RawClass Cut) → IsPool bytes p m → IsPool bytes q n
      → class_at p (drop m bytes) ≡ x → class_at q (drop n bytes) ≡ y → x ≡ y
  one_reading p q m n x y h k xs ys =
      let same = one_pool_of p q m n h k in
      sym xs ∙ ap (λ (r : List PoolEntry). class_at r (drop m bytes)) same.0
      ∙ ap (λ (i : ℕ). class_at q (drop i bytes)) same.1 ∙ ys

  one_version : (v w : Version) → HasVersion bytes v → HasVersion bytes w → v ≡ w
  one_version v w h k = ap (λ (x : Version × List ℕ). x.0) (ok_is (v, h.0) (w, k.0) (sym h.1 ∙ k.1))

  no_pool_and_fault : (pool : List PoolEntry) (place : ℕ) (fault : Fault) → IsPool bytes pool place
      → IsPoolFault bytes fault → ⊥
  no_pool_and_fault pool place fault h k = (law bytes are_bytes).not_both (pool, place) fault h k

  pub one_file : (f g : RawFile) → IsStructure bytes f → IsStructure bytes g → f ≡ g
  one_file f g h k =
      let v = one_version f.version g.version h.version k.version in
      let p = one_pool_of f.pool g.pool h.place k.place h.pool k.pool in
      let e = one_reading f.pool g.pool h.place k.place (Ok f.class) (Ok g.class) h.pool k.pool h.class k.class in
      let c : f.class ≡ g.class = cc (e) in
      let made : Version → List PoolEntry → RawClass → RawFile = λ v p c. record { version = v; pool = p; class = c } in
      ap (λ (x : Version). made x f.pool f.class) v ∙ ap (λ (x : List PoolEntry). made g.version x f.class) p.0
      ∙ ap (made g.version g.pool) c

  pub not_both : (file : RawFile) (fault : Fault) → IsStructure bytes file → IsStructureFault bytes fault → ⊥
  not_both file fault s (inl f) = let e = sym s.version.1 ∙ f.version in cc (e)
  not_both file fault s (inr (inl f)) = no_pool_and_fault file.pool s.place fault s.pool f.pool
  not_both file fault s (inr (inr f)) =
      let e = one_reading file.pool f.pool s.place f.place (Ok file.class) (Err f.cut) s.pool f.has_pool s.class f.class
      in
      cc (e)

  pub same_fault : (f g : Fault) → IsStructureFault bytes f → IsStructureFault bytes g → f ≡ g
  same_fault f g (inl h) (inl k) =
      let e = sym h.version ∙ k.version in
      let c : h.cut ≡ k.cut = cc (e) in
      h.fault_is ∙ ap (fault_of bytes) c ∙ sym k.fault_is
  same_fault f g (inl h) (inr (inl k)) = let e = sym h.version ∙ k.has_version.1 in absurd (cc (e))
  same_fault f g (inl h) (inr (inr k)) = let e = sym h.version ∙ k.has_version.1 in absurd (cc (e))
  same_fault f g (inr (inl h)) (inl k) = let e = sym k.version ∙ h.has_version.1 in absurd (cc (e))
  same_fault f g (inr (inl h)) (inr (inl k)) = (law bytes are_bytes).one_fault f g h.pool k.pool
  same_fault f g (inr (inl h)) (inr (inr k)) = absurd (no_pool_and_fault k.pool k.place f k.has_pool h.pool)
  same_fault f g (inr (inr h)) (inl k) = let e = sym k.version ∙ h.has_version.1 in absurd (cc (e))
  same_fault f g (inr (inr h)) (inr (inl k)) = absurd (no_pool_and_fault h.pool h.place g h.has_pool k.pool)
  same_fault f g (inr (inr h)) (inr (inr k)) =
      let e = one_reading h.pool k.pool h.place k.place (Err h.cut) (Err k.cut) h.has_pool k.has_pool h.class k.class in
      let c : h.cut ≡ k.cut = cc (e) in
      h.fault_is ∙ ap (fault_of bytes) c ∙ sym k.fault_is

  abbrev StructureOrFault : Type 0
  StructureOrFault = ((file : RawFile) × IsStructure bytes file) ⊎ ((fault : Fault) × IsStructureFault bytes fault)

  of_class : (v : Version) (pool : List PoolEntry) (place : ℕ) → HasVersion bytes v → IsPool bytes pool place
      → (r : Result RawClass Cut) → class_at pool (drop place bytes) ≡ r → StructureOrFault
  of_class v pool place has is (Ok class) read =
      inl (
        record { version = v; pool = pool; class = class },
        record { place = place; version = has; pool = is; class = read },
      )
  of_class v pool place has is (Err cut) read =
      inr (
        fault_of bytes cut,
        inr (inr (record {
          version = v;
          pool = pool;
          place = place;
          cut = cut;
          has_version = has;
          has_pool = is;
          class = read;
          fault_is =
              refl;
        })),
      )

  of_version : (r : Result (Version × List ℕ) Cut) → version_at bytes ≡ r → StructureOrFault
  of_version (Err cut) read = inr (fault_of bytes cut, inl (record { cut = cut; version = read; fault_is = refl }))
  of_version (Ok v) read = let has : HasVersion bytes v.0 = (v.1, read) in
      elim (law bytes are_bytes).one [
        | inl c ↦ of_class v.0 c.0.0 c.0.1 has c.1 (class_at c.0.0 (drop c.0.1 bytes)) refl
        | inr f ↦ inr (f.0, inr (inl (record { version = v.0; has_version = has; pool = f.1 })))
      ]

  pub structure_or_fault : StructureOrFault
  structure_or_fault = of_version (version_at bytes) refl
