-- The bytes of a file are those of its content, part by part.
use Rattle.std.proofs.Common.{◌≡◌, ℕ, List, ◌++◌, length, map, refl, sym, ap, ◌∙◌}
use Rattle.std.specs.List.{flat_map, AllZip}
use Rattle.std.proofs.lemmas.Slice.Zip.{AllZip-long}
use Rattle.std.proofs.lemmas.List.{length-map}
use Rattle.std.proofs.lemmas.List.Folds.{flat_map-map}
use Rattle.cf_pool.specs.declared.entry.PoolEntry.{PoolEntry}
use Rattle.cf_pool.specs.Spelling.{pool_text}
use Rattle.cf_structure.specs.declared.code.Row as structure
use Rattle.cf_structure.specs.Raw.{RawSkipped, RawCode, RawBody, constant, code, skipped, RawAttribute, RawMember}
use Rattle.cf_structure.specs.Raw.{RawFile}
use Rattle.cf_structure.specs.Spelled.{two, counted_text, sized_text, version_text}
use Rattle.cf_structure.specs.Spelled as raw
use Rattle.cf_code.specs.Code.{code_spelling}
use Rattle.cf_class.specs.declared.named.Named.{Named}
use Rattle.cf_class.specs.declared.code.Skipped.{Skipped}
use Rattle.cf_class.specs.declared.code.Code.{Code}
use Rattle.cf_class.specs.declared.attribute.Body.{Body}
use Rattle.cf_class.specs.declared.attribute.Body.TheVariants as bodies
use Rattle.cf_class.specs.declared.attribute.Attribute.{Attribute}
use Rattle.cf_class.specs.declared.member.Member.{Member}
use Rattle.cf_class.specs.declared.class_file.ClassFile.{ClassFile}
use Rattle.cf_class.specs.Content.{row_of, IsTextNamed, IsClassNamed, IsSkippedContent, IsCodeContent, IsBodyContent}
use Rattle.cf_class.specs.Content.{IsAttributeContent, IsMemberContent, IsContent}
use Rattle.cf_write.specs.Calls.Texts.{named_text, row_text, skipped_text, code_text, body_text, attribute_text}
use Rattle.cf_write.specs.Calls.Texts.{member_text, names_text, members_text, file_text}
use Rattle.jv_list.proofs.ZipLemmas.{zip_pieces}
use Rattle.jv_list.proofs.AllLemmas.{joined_same}

-- a count, and what it counts
module _ {A B : Type 0} (R : A → B → Type 0) (f : A → List ℕ) (g : B → List ℕ)
    (same : (x : A) (y : B) → R x y → f x ≡ g y) where
  counted_same : (xs : List A) (ys : List B) → AllZip R xs ys → counted_text f xs ≡ counted_text g ys
  counted_same xs ys h =
      let size : length ys ≡ length xs = AllZip-long R xs ys h in
      let pieces : flat_map f xs ≡ flat_map g ys = zip_pieces R f g same xs ys h in
      rw (size, pieces) refl

-- an exception table
rows_same : (rows : List structure.Row) → counted_text raw.row_text rows ≡ counted_text row_text (map row_of rows)
rows_same rows =
    let size : length (map row_of rows) ≡ length rows = length-map rows row_of in
    let pieces : flat_map row_text (map row_of rows) ≡ flat_map raw.row_text rows = flat_map-map row_text row_of rows in
    rw (size, pieces) refl

module _ (pool : List PoolEntry) where
  text_same : (index : ℕ) (n : Named) → IsTextNamed pool index n → two index ≡ named_text n
  text_same index n h = ap two (sym h.index_is)

  class_same : (index : ℕ) (n : Named) → IsClassNamed pool index n → two index ≡ named_text n
  class_same index n h = ap two (sym h.index_is)

  skipped_same : (r : RawSkipped) (s : Skipped) → IsSkippedContent pool r s → raw.skipped_text r ≡ skipped_text s
  skipped_same r s h = rw (h.name.index_is, h.content) refl

  code_same : (r : RawCode) (c : Code) → IsCodeContent pool r c → raw.code_text r ≡ code_text c
  code_same r c h =
      let bytes : code_spelling c.code ≡ r.code = sym h.code.spelled in
      let rows : counted_text raw.row_text r.rows ≡ counted_text row_text c.rows =
      rows_same r.rows ∙ ap (counted_text row_text) (sym h.rows) in
      let attributes : counted_text raw.skipped_text r.attributes ≡ counted_text skipped_text c.attributes =
      counted_same (IsSkippedContent pool) raw.skipped_text skipped_text skipped_same r.attributes c.attributes
      h.attributes in
      let both = joined_same (counted_text raw.row_text r.rows) (counted_text raw.skipped_text r.attributes)
      (counted_text row_text c.rows) (counted_text skipped_text c.attributes) rows attributes in
      rw (h.max_stack, h.max_locals, bytes)
      (ap (λ (rest : List ℕ). two r.max_stack ++ (two r.max_locals ++ (sized_text r.code ++ rest))) both)

  body_same : (r : RawBody) (b : Body) → IsBodyContent pool r b → raw.body_text r ≡ body_text b
  body_same (constant index) (bodies.Constant found) h = ap two (sym h)
  body_same (constant index) (bodies.Code c) h = absurd h
  body_same (constant index) (bodies.Skipped content) h = absurd h
  body_same (code r) (bodies.Constant found) h = absurd h
  body_same (code r) (bodies.Code c) h = code_same r c h
  body_same (code r) (bodies.Skipped content) h = absurd h
  body_same (skipped r) (bodies.Constant found) h = absurd h
  body_same (skipped r) (bodies.Code c) h = absurd h
  body_same (skipped r) (bodies.Skipped content) h = sym h

  attribute_same : (r : RawAttribute) (a : Attribute) → IsAttributeContent pool r a
      → raw.attribute_text r ≡ attribute_text a
  attribute_same r a h = rw (h.name.index_is, body_same r.body a.body h.body) refl

  pub attributes_same : (rs : List RawAttribute) (xs : List Attribute) → AllZip (IsAttributeContent pool) rs xs
      → counted_text raw.attribute_text rs ≡ counted_text attribute_text xs
  attributes_same = counted_same (IsAttributeContent pool) raw.attribute_text attribute_text attribute_same

  member_same : (r : RawMember) (m : Member) → IsMemberContent pool r m → raw.member_text r ≡ member_text m
  member_same r m h =
      rw (h.flags, h.name.index_is, h.desc.index_is, attributes_same r.attributes m.attributes h.attributes) refl

  pub members_same : (rs : List RawMember) (xs : List Member) → AllZip (IsMemberContent pool) rs xs
      → counted_text raw.member_text rs ≡ counted_text member_text xs
  members_same = counted_same (IsMemberContent pool) raw.member_text member_text member_same

  pub interfaces_same : (rs : List ℕ) (xs : List Named) → AllZip (IsClassNamed pool) rs xs
      → counted_text two rs ≡ counted_text named_text xs
  interfaces_same = counted_same (IsClassNamed pool) two named_text class_same

-- what stands behind the pool
parts_same : (file : RawFile) (c : ClassFile) → IsContent file c
    → raw.class_text file.class ≡ names_text c ++ members_text c
parts_same file c h =
    let pool : List PoolEntry = file.pool in
    let class = file.class in
    let attributes = attributes_same pool class.attributes c.attributes h.attributes in
    let methods = joined_same (counted_text raw.member_text class.methods)
    (counted_text raw.attribute_text class.attributes) (counted_text member_text c.methods)
    (counted_text attribute_text c.attributes) (members_same pool class.methods c.methods h.methods) attributes in
    let members = joined_same (counted_text raw.member_text class.fields) _ (counted_text member_text c.fields) _
    (members_same pool class.fields c.fields h.fields) methods in
    let interfaces = joined_same (counted_text two class.interfaces) _ (counted_text named_text c.interfaces) _
    (interfaces_same pool class.interfaces c.interfaces h.interfaces) members in
    rw (h.flags, h.this_class.index_is, h.super_class.index_is)
    (ap (λ (rest : List ℕ). two class.flags ++ (two class.this_class ++ (two class.super_class ++ rest))) interfaces)

-- a file
pub file_same : (file : RawFile) (c : ClassFile) → IsContent file c → raw.file_text file ≡ file_text c
file_same file c h =
    rw (h.minor, h.major, h.entries)
    (ap (λ (rest : List ℕ). version_text file.version ++ (pool_text file.pool ++ rest)) (parts_same file c h))
