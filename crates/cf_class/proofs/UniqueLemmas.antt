-- A file has one content at most.
use Rattle.std.proofs.Common.{◌≡◌, ℕ, List, Some, refl, sym, ap, ◌∙◌, subst}
use Rattle.std.specs.List.{AllZip, AllByRecursion}
use Rattle.cf_pool.specs.declared.entry.PoolEntry.{PoolEntry}
use Rattle.cf_pool.specs.declared.entry.PoolEntry.TheVariants.{Utf8, Class}
use Rattle.cf_pool.specs.declared.entry.Pool.{Pool}
use Rattle.cf_structure.specs.declared.attribute.Holder.{Holder}
use Rattle.cf_structure.specs.declared.attribute.Holder.TheVariants as holders
use Rattle.cf_structure.specs.declared.attribute.BodyKind.{BodyKind}
use Rattle.cf_structure.specs.declared.attribute.BodyKind.TheVariants as kinds
use Rattle.cf_structure.specs.Raw.{RawSkipped, RawCode, RawBody, constant, code, skipped, RawAttribute}
use Rattle.cf_structure.specs.Raw.{RawMember, RawFile}
use Rattle.cf_structure.specs.Spelled.{FitsSkipped, FitsCode, FitsBody, FitsAttribute, FitsMember, FitsFile}
use Rattle.cf_judge.specs.Forms.{IsNameOf, HasText}
use Rattle.cf_judge.specs.Laws.{OneName}
use Rattle.cf_code.specs.Laws.{IsOneCode}
use Rattle.cf_class.specs.declared.named.Named.{Named}
use Rattle.cf_class.specs.declared.code.Skipped.{Skipped}
use Rattle.cf_class.specs.declared.code.Code.{Code}
use Rattle.cf_class.specs.declared.attribute.Body.{Body}
use Rattle.cf_class.specs.declared.attribute.Body.TheVariants as bodies
use Rattle.cf_class.specs.declared.attribute.Attribute.{Attribute}
use Rattle.cf_class.specs.declared.member.Member.{Member}
use Rattle.cf_class.specs.declared.class_file.ClassFile.{ClassFile}
use Rattle.cf_class.specs.Content.{IsTextNamed, IsClassNamed, IsSkippedContent, IsCodeContent, IsBodyContent}
use Rattle.cf_class.specs.Content.{IsAttributeContent, IsMemberContent, IsContent}
use Rattle.jv_list.proofs.ZipLemmas.{one_beside}
use Rattle.jv_list.proofs.AllLemmas.{all_unit}

-- ---- parts that are the same, field by field

same_named : (a b : Named) → a.index ≡ b.index → a.name ≡ b.name → a ≡ b
same_named a b i n =
    let parts : ◌≡◌ {A = Named} (record { index = a.index; name = a.name }) b = rw (i, n) refl in
    parts

same_skipped : (a b : Skipped) → a.name ≡ b.name → a.content ≡ b.content → a ≡ b
same_skipped a b n c =
    let parts : ◌≡◌ {A = Skipped} (record { name = a.name; content = a.content }) b = rw (n, c) refl in
    parts

same_code : (a b : Code) → a.max_stack ≡ b.max_stack → a.max_locals ≡ b.max_locals → a.code ≡ b.code → a.rows ≡ b.rows
    → a.attributes ≡ b.attributes → a ≡ b
same_code a b s l c r x =
    let parts : ◌≡◌ {A = Code} (record {
      max_stack = a.max_stack;
      max_locals = a.max_locals;
      code = a.code;
      rows = a.rows;
      attributes = a.attributes;
    }) b = rw (s, l, c, r, x) refl in
    parts

same_attribute : (a b : Attribute) → a.name ≡ b.name → a.body ≡ b.body → a ≡ b
same_attribute a b n c =
    let parts : ◌≡◌ {A = Attribute} (record { name = a.name; body = a.body }) b = rw (n, c) refl in
    parts

same_member : (a b : Member) → a.flags ≡ b.flags → a.name ≡ b.name → a.desc ≡ b.desc → a.attributes ≡ b.attributes
    → a ≡ b
same_member a b f n d x =
    let parts : ◌≡◌ {A = Member} (record {
      flags = a.flags;
      name = a.name;
      desc = a.desc;
      attributes = a.attributes;
    }) b = rw (f, n, d, x) refl in
    parts

same_pool : (a b : Pool) → a.entries ≡ b.entries → a ≡ b
same_pool a b e =
    let parts : ◌≡◌ {A = Pool} (record { entries = a.entries }) b = rw e refl in
    parts

-- ---- names

module _ (pool : List PoolEntry) (name_law : OneName) where
  same_units : (a b : List ℕ) → Some (Utf8 a) ≡ Some (Utf8 b) → a ≡ b
  same_units a b e = cc

  same_class : (a b : ℕ) → Some (Class a) ≡ Some (Class b) → a ≡ b
  same_class a b e = cc

  same_name : (index : ℕ) (v w a b : List ℕ) → HasText pool index v → HasText pool index w → IsNameOf v a → IsNameOf w b
      → a ≡ b
  same_name index v w a b s t h k =
      name_law w a b (subst (λ (u : List ℕ). IsNameOf u a) (same_units v w (sym s ∙ t)) h) k

  one_text : (index : ℕ) (a b : Named) → IsTextNamed pool index a → IsTextNamed pool index b → a ≡ b
  one_text index a b h k =
      same_named a b (h.index_is ∙ sym k.index_is)
      (same_name index h.units k.units a.name b.name h.text k.text h.name k.name)

  one_class : (index : ℕ) (a b : Named) → IsClassNamed pool index a → IsClassNamed pool index b → a ≡ b
  one_class index a b h k =
      let same = same_class h.name_index k.name_index (sym h.class ∙ k.class) in
      same_named a b (h.index_is ∙ sym k.index_is)
      (same_name k.name_index h.units k.units a.name b.name
      (subst (λ (i : ℕ). HasText pool i h.units) same h.text) k.text h.name k.name)

  -- ---- the parts of a file

  one_skipped : (raw : RawSkipped) (a b : Skipped) → IsSkippedContent pool raw a → IsSkippedContent pool raw b → a ≡ b
  one_skipped raw a b h k =
      same_skipped a b (one_text raw.name a.name b.name h.name k.name) (h.content ∙ sym k.content)

  module _ (code_law : IsOneCode) where
    one_code : (raw : RawCode) (a b : Code) → FitsCode raw → IsCodeContent pool raw a → IsCodeContent pool raw b → a ≡ b
    one_code raw a b fits h k =
        same_code a b (h.max_stack ∙ sym k.max_stack) (h.max_locals ∙ sym k.max_locals)
        (code_law raw.code a.code b.code fits.code h.code k.code) (h.rows ∙ sym k.rows)
        (one_beside (IsSkippedContent pool) FitsSkipped (λ x y z fit. one_skipped x y z) raw.attributes a.attributes
        b.attributes fits.attributes.1 h.attributes k.attributes)

    one_body : (kind : BodyKind) (raw : RawBody) (a b : Body) → FitsBody kind raw → IsBodyContent pool raw a
        → IsBodyContent pool raw b
        → a ≡ b
    one_body kind (constant index) (bodies.Constant i) (bodies.Constant j) fits h k = ap bodies.Constant (h ∙ sym k)
    one_body kind (skipped raw) (bodies.Skipped x) (bodies.Skipped y) fits h k = ap bodies.Skipped (h ∙ sym k)
    one_body kinds.Code (code raw) (bodies.Code x) (bodies.Code y) fits h k = ap bodies.Code (one_code raw x y fits h k)
    one_body kinds.ConstantValue (code raw) a b fits h k = absurd fits
    one_body kinds.Other (code raw) a b fits h k = absurd fits
    one_body kind (constant index) (bodies.Constant i) (bodies.Code y) fits h k = absurd k
    one_body kind (constant index) (bodies.Constant i) (bodies.Skipped y) fits h k = absurd k
    one_body kind (constant index) (bodies.Code x) b fits h k = absurd h
    one_body kind (constant index) (bodies.Skipped x) b fits h k = absurd h
    one_body kind (skipped raw) (bodies.Skipped x) (bodies.Constant j) fits h k = absurd k
    one_body kind (skipped raw) (bodies.Skipped x) (bodies.Code y) fits h k = absurd k
    one_body kind (skipped raw) (bodies.Constant i) b fits h k = absurd h
    one_body kind (skipped raw) (bodies.Code x) b fits h k = absurd h
    one_body kinds.Code (code raw) (bodies.Code x) (bodies.Constant j) fits h k = absurd k
    one_body kinds.Code (code raw) (bodies.Code x) (bodies.Skipped y) fits h k = absurd k
    one_body kinds.Code (code raw) (bodies.Constant i) b fits h k = absurd h
    one_body kinds.Code (code raw) (bodies.Skipped x) b fits h k = absurd h

    module _ (place : Holder) where
      one_attribute : (raw : RawAttribute) (a b : Attribute) → FitsAttribute place pool raw
          → IsAttributeContent pool raw a
          → IsAttributeContent pool raw b
          → a ≡ b
      one_attribute raw a b fits h k =
          same_attribute a b (one_text raw.name a.name b.name h.name k.name)
          (one_body _ raw.body a.body b.body fits.body h.body k.body)

      pub one_attributes : (raw : List RawAttribute) (a b : List Attribute)
          → AllByRecursion (FitsAttribute place pool) raw
          → AllZip (IsAttributeContent pool) raw a → AllZip (IsAttributeContent pool) raw b
          → a ≡ b
      one_attributes = one_beside (IsAttributeContent pool) (FitsAttribute place pool) one_attribute

      one_member : (raw : RawMember) (a b : Member) → FitsMember place pool raw → IsMemberContent pool raw a
          → IsMemberContent pool raw b
          → a ≡ b
      one_member raw a b fits h k =
          same_member a b (h.flags ∙ sym k.flags) (one_text raw.name a.name b.name h.name k.name)
          (one_text raw.desc a.desc b.desc h.desc k.desc)
          (one_attributes raw.attributes a.attributes b.attributes fits.attributes.1 h.attributes k.attributes)

      pub one_members : (raw : List RawMember) (a b : List Member) → AllByRecursion (FitsMember place pool) raw
          → AllZip (IsMemberContent pool) raw a → AllZip (IsMemberContent pool) raw b
          → a ≡ b
      one_members = one_beside (IsMemberContent pool) (FitsMember place pool) one_member

  pub one_interfaces : (raw : List ℕ) (a b : List Named) → AllZip (IsClassNamed pool) raw a
      → AllZip (IsClassNamed pool) raw b
      → a ≡ b
  one_interfaces raw a b h k =
      one_beside (IsClassNamed pool) (λ n. Unit {0}) (λ x y z fit. one_class x y z) raw a b (all_unit raw) h k

pub one_content : OneName → IsOneCode → (file : RawFile) → FitsFile file → (a b : ClassFile) → IsContent file a
    → IsContent file b
    → a ≡ b
one_content name_law code_law file fits a b h k =
    let pool : List PoolEntry = file.pool in
    let class = file.class in
    let minor = h.minor ∙ sym k.minor in
    let major = h.major ∙ sym k.major in
    let entries = same_pool a.pool b.pool (h.entries ∙ sym k.entries) in
    let flags = h.flags ∙ sym k.flags in
    let this_class = one_class pool name_law class.this_class a.this_class b.this_class h.this_class k.this_class in
    let super_class = one_class pool name_law class.super_class a.super_class b.super_class h.super_class
    k.super_class in
    let interfaces = one_interfaces pool name_law class.interfaces a.interfaces b.interfaces h.interfaces
    k.interfaces in
    let fields = one_members pool name_law code_law holders.InField class.fields a.fields b.fields fits.class.fields.1
    h.fields k.fields in
    let methods = one_members pool name_law code_law holders.InMethod class.methods a.methods b.methods
    fits.class.methods.1 h.methods k.methods in
    let attributes = one_attributes pool name_law code_law holders.InClass class.attributes a.attributes b.attributes
    fits.class.attributes.1 h.attributes k.attributes in
    let parts : ◌≡◌ {A = ClassFile} (record {
      minor = a.minor;
      major = a.major;
      pool = a.pool;
      flags = a.flags;
      this_class = a.this_class;
      super_class = a.super_class;
      interfaces = a.interfaces;
      fields = a.fields;
      methods = a.methods;
      attributes = a.attributes;
    }) b = rw (minor, major, entries, flags, this_class, super_class, interfaces, fields, methods, attributes) refl in
    parts
