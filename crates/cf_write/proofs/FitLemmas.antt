-- The instructions of a file's content have a spelling.
use Rattle.std.proofs.Common.{List}
use Rattle.std.specs.List.{AllZip}
use Rattle.cf_pool.specs.declared.entry.PoolEntry.{PoolEntry}
use Rattle.cf_structure.specs.Raw.{RawBody, constant, code, skipped, RawAttribute, RawMember, RawFile}
use Rattle.cf_class.specs.declared.attribute.Body.{Body}
use Rattle.cf_class.specs.declared.attribute.Body.TheVariants as bodies
use Rattle.cf_class.specs.declared.attribute.Attribute.{Attribute}
use Rattle.cf_class.specs.declared.member.Member.{Member}
use Rattle.cf_class.specs.declared.class_file.ClassFile.{ClassFile}
use Rattle.cf_class.specs.Content.{IsBodyContent, IsAttributeContent, IsMemberContent, IsContent}
use Rattle.cf_write.specs.Calls.Texts.{BodyFits, AttributeFits, AttributesFit, MemberFits, MembersFit, CodesFit}
use Rattle.jv_list.proofs.ZipLemmas.{zip_all}

module _ (pool : List PoolEntry) where
  body_fits : (r : RawBody) (b : Body) → IsBodyContent pool r b → BodyFits b
  body_fits (code r) (bodies.Code c) h = h.code.fit
  body_fits (constant index) (bodies.Code c) h = absurd h
  body_fits (skipped r) (bodies.Code c) h = absurd h
  body_fits r (bodies.Constant found) h = tt
  body_fits r (bodies.Skipped content) h = tt

  pub attributes_fit : (rs : List RawAttribute) (xs : List Attribute) → AllZip (IsAttributeContent pool) rs xs
      → AttributesFit xs
  attributes_fit rs xs h =
      zip_all (IsAttributeContent pool) AttributeFits (λ r a is. body_fits r.body a.body is.body) rs xs h

  pub members_fit : (rs : List RawMember) (xs : List Member) → AllZip (IsMemberContent pool) rs xs → MembersFit xs
  members_fit rs xs h =
      zip_all (IsMemberContent pool) MemberFits (λ r m is. attributes_fit r.attributes m.attributes is.attributes) rs
      xs h

pub codes_fit : (file : RawFile) (c : ClassFile) → IsContent file c → CodesFit c
codes_fit file c h = record {
  fields = members_fit file.pool file.class.fields c.fields h.fields;
  methods = members_fit file.pool file.class.methods c.methods h.methods;
  attributes = attributes_fit file.pool file.class.attributes c.attributes h.attributes;
}
