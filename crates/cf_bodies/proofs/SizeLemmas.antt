-- How many bytes the parts of a class file take.
use Rattle.std.proofs.Common.{◌≡◌, ℕ, ◌+◌, ◌*◌, ◌<◌, ◌≤◌, List, length, take, get_or, map, ◌++◌, refl, ap}
use Rattle.std.proofs.Common.{arith, length-append}
use Rattle.std.specs.List.{flat_map}
use Rattle.std.proofs.lemmas.List.Folds.{flat_map-map, length-flat_map-take}
use Rattle.jv_list.proofs.LengthLemmas.{length-flat_map_each}
use Rattle.cf_pool.specs.Spelling.{entry_text}
use Rattle.cf_structure.specs.Raw.{RawCode, RawClass, RawFile}
use Rattle.cf_structure.specs.Spelled.{two, row_text, skipped_text, code_text, attribute_text, member_text}
use Rattle.cf_structure.specs.Spelled.{counted_text, class_text, file_text}
use Rattle.cf_bodies.specs.Places.{methods_start}

-- of structures one after the other, the next one fits where all do
pub next_fits : {A B : Type 0} (view : B → A) (text : A → List ℕ) (xs : List B) (i : ℕ) (x : B) → i < length xs
    → x ≡ get_or xs i x
    → length (flat_map text (map view (take i xs))) + length (text (view x)) ≤ length (flat_map text (map view xs))
next_fits {A} {B} view text xs i x lt is =
    let le = length-flat_map-take (λ (y : B). text (view y)) xs i x lt in
    omega (
      arith,
      le,
      ap length (flat_map-map text view xs),
      ap length (flat_map-map text view (take i xs)),
      ap (λ (y : B). length (text (view y))) is,
    )

pub code_length : (c : RawCode)
    → length (code_text c) ≡ 12 + length c.code + 8 * length c.rows + length (flat_map skipped_text c.attributes)
code_length c =
    omega (
      arith,
      length-append c.code (counted_text row_text c.rows ++ counted_text skipped_text c.attributes),
      length-append (flat_map row_text c.rows) (counted_text skipped_text c.attributes),
      length-flat_map_each row_text 8 (λ r. refl) c.rows,
    )

-- where the methods begin, and what is in front of them
pub methods_at : (file : RawFile) → methods_start file
    ≡ 20 + length (flat_map entry_text file.pool) + 2 * length file.class.interfaces
    + length (flat_map member_text file.class.fields) + 2
methods_at file = omega (arith, length-flat_map_each two 2 (λ n. refl) file.class.interfaces)

-- the methods end where the file does, or before
pub methods_fit : (file : RawFile)
    → methods_start file + length (flat_map member_text file.class.methods) ≤ length (file_text file)
methods_fit file =
    let c : RawClass = file.class in
    let last : List ℕ = counted_text attribute_text c.attributes in
    let methods : List ℕ = counted_text member_text c.methods ++ last in
    omega (
      arith,
      length-append (flat_map entry_text file.pool) (class_text c),
      length-append (flat_map two c.interfaces) (counted_text member_text c.fields ++ methods),
      length-append (flat_map member_text c.fields) methods,
      length-append (flat_map member_text c.methods) last,
    )

-- so do the parts in front of them, by the sizes of these
pub front_fits : (file : RawFile) (entries count fields bound : ℕ) → entries ≡ length (flat_map entry_text file.pool)
    → count ≡ length file.class.interfaces
    → fields ≡ length (flat_map member_text file.class.fields)
    → length (file_text file) < bound
    → 22 + entries + 2 * count + fields < bound
front_fits file entries count fields bound e f g lt = omega (arith, methods_at file, methods_fit file, e, f, g, lt)
