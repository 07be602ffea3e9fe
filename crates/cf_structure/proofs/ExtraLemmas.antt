-- Bytes behind a class file.
use Rattle.std.proofs.Common.{◌≡◌, ◌⊎◌, ℕ, ◌+◌, ◌-◌, ◌<◌, Bool, true, false, cond, eqb, List, ◌++◌, length, take, drop}
use Rattle.std.proofs.Common.{Result, Ok, Err, inl, inr, refl, sym, ap, subst, ◌∙◌, arith, append_assoc, eq-eqb}
use Rattle.std.proofs.lemmas.Bool.{cases_lt, ne_eqb}
use Rattle.std.proofs.lemmas.List.{take_at, take-append-drop, length-append, length-drop, get_or-drop}
use Rattle.std.specs.Int.{w16, w32}
use Rattle.cf_pool.specs.declared.entry.PoolEntry.{PoolEntry}
use Rattle.cf_pool.specs.declared.fault.Fault.{Fault}
use Rattle.cf_pool.specs.declared.fault.What.{What}
use Rattle.cf_pool.specs.declared.fault.What.TheVariants.{Truncated, Extra}
use Rattle.cf_pool.specs.Spelling.{pool_text}
use Rattle.cf_pool.specs.ConstantPool.{IsPool, IsPoolFault, IsEntryFault}
use Rattle.cf_structure.specs.declared.fault.Cut.{Cut}
use Rattle.cf_structure.specs.declared.attribute.Holder.TheVariants.{InClass, InField, InMethod}
use Rattle.cf_structure.specs.Raw.{RawClass, RawFile}
use Rattle.cf_structure.specs.Structure.{◌>>=◌, at_end, bad_length, number_at}
use Rattle.cf_structure.specs.Structure.{class_at}
use Rattle.cf_structure.specs.Structure.{magic_at, is_major, version_at}
use Rattle.cf_structure.specs.Spelled.{two, counted_text, attribute_text, member_text, class_text, version_text}
use Rattle.cf_structure.specs.Spelled.{file_text}
use Rattle.cf_structure.specs.Spelled.{IsTwo, FitsClass, FitsFile}
use Rattle.cf_structure.specs.ClassFile.{IsStructure, IsStructureFault, IsClassFault}
use Rattle.cf_structure.proofs.ReadLemmas.{AreBytes, AreBytes-take, Takes, Reads, joins, two_reads, counted_reads}
use Rattle.cf_structure.proofs.ClassLemmas.{attributes_read, members_read, version_reads}
use Rattle.cf_structure.proofs.FaultLemmas.{Faults, ok_faults, err_faults, bind_faults, cond_faults, number_faults}
use Rattle.cf_structure.proofs.FaultLemmas.{attributes_faults, members_faults, interfaces_faults, two_faults}
use Rattle.cf_structure.proofs.FileLemmas.{same_head, behind_pool, structure_spelled, spelled_structure}

-- bytes behind three parts, and behind seven
behind_three : (a b c rest : List ℕ) → (a ++ (b ++ c)) ++ rest ≡ a ++ (b ++ (c ++ rest))
behind_three a b c rest = simp append_assoc

behind_seven : (a b c d e f g rest : List ℕ) → (a ++ (b ++ (c ++ (d ++ (e ++ (f ++ g)))))) ++ rest
    ≡ a ++ (b ++ (c ++ (d ++ (e ++ (f ++ (g ++ rest))))))
behind_seven a b c d e f g rest = simp append_assoc

-- a fault of another kind
abbrev IsOther : Cut → Type 0
IsOther cut = cut.what ≡ Extra → ⊥

other_end : IsOther at_end
other_end e = absurd cc

other_length : (left : ℕ) → IsOther (bad_length left)
other_length left e = absurd cc

-- ---- the class

-- a step of a reading whose fault is Extra
record Step {A B : Type 0} (text : A → List ℕ) (Fits : A → Type 0) (bytes : List ℕ) (next : A × List ℕ → Result B Cut)
    (cut : Cut) : Type 0 where
  value : A
  rest : List ℕ
  takes : Takes bytes (text value) rest
  fits : Fits value
  then_is : next (value, rest) ≡ Err cut

bind_err : {A B : Type 0} (r : Result A Cut) (f : A → Result B Cut) (d : Cut) → (r >>= f) ≡ Err d
    → (r ≡ Err d) ⊎ ((x : A) × (r ≡ Ok x) × (f x ≡ Err d))
bind_err (Ok x) f d e = inr (x, refl, e)
bind_err (Err c) f d e = inl cc

module _ {A B : Type 0} {one : List ℕ → Result (A × List ℕ) Cut} {text : A → List ℕ} {Fits : A → Type 0}
    (reads : Reads one text Fits) (others : (bytes : List ℕ) → Faults IsOther (one bytes)) where
  step : (bytes : List ℕ) (next : A × List ℕ → Result B Cut) (cut : Cut) → AreBytes bytes → cut.what ≡ Extra
      → (one bytes >>= next) ≡ Err cut → Step text Fits bytes next cut
  step bytes next cut fits extra e =
      elim (bind_err (one bytes) next cut e) [
        | inl here ↦ absurd (others bytes cut here extra)
        | inr later ↦
            let t = reads.takes bytes later.0 fits later.1 in
            record { value = later.0.0; rest = later.0.1; takes = t.0; fits = t.1; then_is = later.2 }
      ]

stopped : {A : Type 0} (b : Bool) (x : A) (d cut : Cut) → cond b (Ok x) (Err d) ≡ Err cut → (b ≡ false) × (d ≡ cut)
stopped true x d cut e = absurd cc
stopped false x d cut e = (refl, cc)

positive : (n : ℕ) → eqb n 0 ≡ false → 0 < n
positive n e =
    elim (cases_lt 0 n) [
      | inl lt ↦ lt
      | inr le ↦ let same : true ≡ false = sym (eq-eqb n 0 (omega arith)) ∙ e in absurd cc
    ]

-- a class, and bytes behind it
pub record IsFollowed (pool : List PoolEntry) (bytes : List ℕ) (left : ℕ) : Type 0 where
  pub class : RawClass
  pub rest : List ℕ
  pub parts : bytes ≡ class_text class ++ rest
  pub fits : FitsClass pool class
  pub some : 0 < length rest
  pub left_is : left ≡ length rest

module _ (pool : List PoolEntry) where
  pub followed : (bytes : List ℕ) (cut : Cut) → AreBytes bytes → cut.what ≡ Extra → class_at pool bytes ≡ Err cut
      → IsFollowed pool bytes cut.left
  unfolding class_at
  followed bytes cut fits extra e =
      let r = two_reads at_end in
      let q = two_faults IsOther other_end other_length in
      let read_interfaces = counted_reads (number_at at_end w16) two IsTwo r at_end in
      let a = step r q bytes _ cut fits extra e in
      let b = step r q a.rest _ cut a.takes.rest_fits extra a.then_is in
      let c = step r q b.rest _ cut b.takes.rest_fits extra b.then_is in
      let d = step read_interfaces (interfaces_faults IsOther other_end other_length) c.rest _ cut c.takes.rest_fits
      extra c.then_is in
      let f = step (members_read InField pool) (members_faults IsOther other_end other_length InField pool) d.rest _ cut
      d.takes.rest_fits extra d.then_is in
      let m = step (members_read InMethod pool) (members_faults IsOther other_end other_length InMethod pool) f.rest _
      cut f.takes.rest_fits extra f.then_is in
      let s = step (attributes_read InClass pool) (attributes_faults IsOther other_end other_length InClass pool)
      m.rest _ cut m.takes.rest_fits extra m.then_is in
      let g = stopped (eqb (length s.rest) 0) _ _ cut s.then_is in
      let all =
      joins a.takes (joins b.takes (joins c.takes (joins d.takes (joins f.takes (joins m.takes s.takes))))) in
      record {
        class = record {
          flags = a.value;
          this_class = b.value;
          super_class = c.value;
          interfaces = d.value;
          fields = f.value;
          methods = m.value;
          attributes = s.value;
        };
        rest = s.rest;
        parts = all.parts;
        fits = record {
          flags = a.fits;
          this_class = b.fits;
          super_class = c.fits;
          interfaces = d.fits;
          fields = f.fits;
          methods = m.fits;
          attributes = s.fits;
        };
        some = positive (length s.rest) g.0;
        left_is = sym (ap (λ (x : Cut). x.left) g.1);
      }

  -- reading a class goes on to the bytes behind it
  pub not_all : (k : RawClass) (rest : List ℕ) → FitsClass pool k → 0 < length rest
      → class_at pool (class_text k ++ rest) ≡ Err (record { left = length rest; what = Extra })
  unfolding class_at
  not_all k rest fits some =
      let r = two_reads at_end in
      let read_interfaces = counted_reads (number_at at_end w16) two IsTwo r at_end in
      let s = counted_text attribute_text k.attributes ++ rest in
      let m = counted_text member_text k.methods ++ s in
      let f = counted_text member_text k.fields ++ m in
      let d = counted_text two k.interfaces ++ f in
      let c = two k.super_class ++ d in
      let b = two k.this_class ++ c in
      let regrouped : class_text k ++ rest ≡ two k.flags ++ b =
      behind_seven (two k.flags) (two k.this_class) (two k.super_class) (counted_text two k.interfaces)
      (counted_text member_text k.fields) (counted_text member_text k.methods)
      (counted_text attribute_text k.attributes) rest in
      let left : eqb (length rest) 0 ≡ false = ne_eqb (length rest) 0 (λ e. omega (arith, some, e)) in
      ap (class_at pool) regrouped ∙ rw (
        r.again k.flags b fits.flags,
        r.again k.this_class c fits.this_class,
        r.again k.super_class d fits.super_class,
        read_interfaces.again k.interfaces f fits.interfaces,
        (members_read InField pool).again k.fields m fits.fields,
        (members_read InMethod pool).again k.methods s fits.methods,
        (attributes_read InClass pool).again k.attributes rest fits.attributes,
        left,
      ) refl

-- ---- the version and the pool

version_other : (bytes : List ℕ) → Faults IsOther (version_at bytes)
unfolding version_at magic_at
version_other bytes =
    bind_faults IsOther (magic_at bytes) _
    (bind_faults IsOther (number_at at_end w32 bytes) _ (number_faults IsOther at_end other_end w32 bytes) (λ magic.
    cond_faults IsOther (eqb magic.0 0xcafebabe) _ _ (ok_faults IsOther _) (err_faults IsOther _ (λ e. absurd cc))))
    (λ version. bind_faults IsOther (number_at at_end w16 version) _
    (number_faults IsOther at_end other_end w16 version) (λ minor.
    bind_faults IsOther (number_at at_end w16 minor.1) _ (number_faults IsOther at_end other_end w16 minor.1) (λ major.
    cond_faults IsOther (is_major major.0) _ _ (ok_faults IsOther _) (err_faults IsOther _ (λ e. absurd cc)))))

pool_other : (bytes : List ℕ) (fault : Fault) → fault.what ≡ Extra → IsPoolFault bytes fault → ⊥
pool_other bytes fault e (inl f) = let same : Extra ≡ Truncated = sym e ∙ f.what_is in absurd cc
pool_other bytes fault e (inr f) =
    subst (λ (what : What). IsEntryFault f.left f.rest what f.at) e f.entry_fault

-- ---- files

module _ (bytes : List ℕ) (fits : AreBytes bytes) where
  -- a class file, and bytes behind it
  record Goes (place : ℕ) : Type 0 where
    file : RawFile
    rest : List ℕ
    fit : FitsFile file
    parts : bytes ≡ file_text file ++ rest
    some : 0 < length rest
    place_is : place ≡ length (file_text file)

  goes : (fault : Fault) → fault.what ≡ Extra → IsClassFault bytes fault → Goes fault.place
  goes fault e f =
      let extra : f.cut.what ≡ Extra = sym (ap (λ (x : Fault). x.what) f.fault_is) ∙ e in
      let bytes_left : AreBytes (drop f.place bytes) = λ i. rw get_or-drop (fits (f.place + i)) in
      let x = followed f.pool (drop f.place bytes) f.cut bytes_left extra f.class in
      let v = version_reads.takes bytes (f.version, f.has_version.0) fits f.has_version.1 in
      let p = f.has_pool in
      let same = same_head p.head (version_text f.version) (pool_text f.pool ++ p.rest) f.has_version.0 p.head_is
      (sym p.parts ∙ v.0.parts) in
      let behind : p.rest ≡ class_text x.class ++ x.rest = sym (behind_pool bytes f.pool f.place p) ∙ x.parts in
      let file : RawFile = record { version = f.version; pool = f.pool; class = x.class } in
      let parts : bytes ≡ file_text file ++ x.rest =
      p.parts ∙ ap (λ (h : List ℕ). h ++ (pool_text f.pool ++ p.rest)) same.0
      ∙ ap (λ (r : List ℕ). version_text f.version ++ (pool_text f.pool ++ r)) behind
      ∙ sym (behind_three (version_text f.version) (pool_text f.pool) (class_text x.class) x.rest) in
      let total : length bytes ≡ length (file_text file) + length x.rest =
      ap length parts ∙ length-append (file_text file) x.rest in
      let place : fault.place ≡ length bytes - f.cut.left = ap (λ (y : Fault). y.place) f.fault_is in
      record {
        file = file;
        rest = x.rest;
        fit = record {
          version = v.1;
          pool = record {
            entries = p.entries;
            entries_fit = p.entries_fit;
            laid_out = p.laid_out;
            count = p.count_fits;
          };
          class = x.fits;
        };
        parts = parts;
        some = x.some;
        place_is = omega (arith, place, total, x.left_is);
      }

  pub before_extra : (fault : Fault) → fault.what ≡ Extra → IsStructureFault bytes fault
      → (fault.place < length bytes) × ((file : RawFile) × IsStructure (take fault.place bytes) file)
  before_extra fault e (inl f) =
      absurd (version_other bytes f.cut f.version (sym (ap (λ (x : Fault). x.what) f.fault_is) ∙ e))
  before_extra fault e (inr (inl f)) = absurd (pool_other bytes fault e f.pool)
  before_extra fault e (inr (inr f)) =
      let g = goes fault e f in
      let front : take fault.place bytes ≡ file_text g.file =
      ap (take fault.place) g.parts ∙ take_at (file_text g.file) g.rest fault.place (sym g.place_is) in
      let total : length bytes ≡ length (file_text g.file) + length g.rest =
      ap length g.parts ∙ length-append (file_text g.file) g.rest in
      let is = spelled_structure (take fault.place bytes) g.file g.fit front in
      (omega (arith, g.place_is, total, g.some), (g.file, is))

  pub extra_behind : (place : ℕ) (file : RawFile) → place < length bytes → IsStructure (take place bytes) file
      → IsStructureFault bytes (record { place = place; what = Extra })
  extra_behind place file lt s =
      let rest = drop place bytes in
      let read = structure_spelled (take place bytes) file (AreBytes-take place bytes fits) s in
      let spelled : take place bytes ≡ file_text file = read.1 in
      let behind = class_text file.class ++ rest in
      let end = 8 + length (pool_text file.pool) in
      let left : length rest ≡ length bytes - place = length-drop place bytes in
      let parts : bytes ≡ version_text file.version ++ (pool_text file.pool ++ behind) =
      sym (take-append-drop place bytes) ∙ ap (λ (t : List ℕ). t ++ rest) spelled
      ∙ behind_three (version_text file.version) (pool_text file.pool) (class_text file.class) rest in
      let pool : IsPool bytes file.pool end = record {
        head = version_text file.version;
        entries = read.0.pool.entries;
        rest = behind;
        head_is = refl;
        entries_fit = read.0.pool.entries_fit;
        laid_out = read.0.pool.laid_out;
        count_fits = read.0.pool.count;
        parts = parts;
        place_is = refl;
      } in
      let cut : Cut = record { left = length rest; what = Extra } in
      let same : place ≡ length bytes - length rest = omega (arith, lt, left) in
      inr (inr (record {
        version = file.version;
        pool = file.pool;
        place = end;
        cut = cut;
        has_version = (
          pool_text file.pool ++ behind,
          ap version_at parts ∙ version_reads.again file.version (pool_text file.pool ++ behind) read.0.version,
        );
        has_pool = pool;
        class = ap (class_at file.pool) (behind_pool bytes file.pool end pool)
            ∙ not_all file.pool file.class rest read.0.class (omega (arith, lt, left));
        fault_is = ap (λ (n : ℕ). let f : Fault = record { place = n; what = Extra } in f) same;
      }))
