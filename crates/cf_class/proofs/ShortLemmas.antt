-- The Codes of a file whose parts fit their fields are short.
use Rattle.std.proofs.Common.{◌<◌, ◌^◌, List, ◌++◌, length, sym, subst}
use Rattle.std.specs.List.{flat_map, AllByRecursion}
use Rattle.jv_list.proofs.FirstLemmas.{all_append}
use Rattle.cf_pool.specs.declared.entry.PoolEntry.{PoolEntry}
use Rattle.cf_structure.specs.declared.attribute.Holder.{Holder}
use Rattle.cf_structure.specs.declared.attribute.Holder.TheVariants.{InClass, InField, InMethod}
use Rattle.cf_structure.specs.declared.attribute.BodyKind.{BodyKind}
use Rattle.cf_structure.specs.declared.attribute.BodyKind.TheVariants as kinds
use Rattle.cf_structure.specs.Raw.{RawCode, RawBody, constant, code, skipped, RawAttribute, RawMember, RawFile}
use Rattle.cf_structure.specs.Spelled.{FitsBody, FitsAttribute, FitsMember, FitsFile}
use Rattle.cf_bodies.specs.Places.{codes}
use Rattle.cf_bodies.specs.Bodies.{AreShort}
use Rattle.cf_class.specs.Calls.Contents.{body_codes, attribute_codes, member_codes}
use Rattle.jv_list.proofs.AllLemmas.{all_flat, all_unmapped}
use Rattle.cf_class.proofs.CodesLemmas.{content_of, codes_are}

abbrev HasFewBytes : RawCode → Type 0
HasFewBytes c = length c.code < 2 ^ 16

AreShortCodes : List RawCode → Type 0
AreShortCodes cs = AllByRecursion HasFewBytes cs

short_body : (kind : BodyKind) (b : RawBody) → FitsBody kind b → AreShortCodes (body_codes b)
unfolding AreShortCodes
short_body kind (constant index) fits = tt
short_body kind (skipped content) fits = tt
short_body kinds.Code (code c) fits = (fits.code, tt)
short_body kinds.ConstantValue (code c) fits = absurd fits
short_body kinds.Other (code c) fits = absurd fits

module _ (place : Holder) (pool : List PoolEntry) where
  short_attribute : (a : RawAttribute) → FitsAttribute place pool a → AreShortCodes (attribute_codes a)
  short_attribute a fits = short_body _ a.body fits.body

  short_attributes : (xs : List RawAttribute) → AllByRecursion (FitsAttribute place pool) xs
      → AreShortCodes (flat_map attribute_codes xs)
  unfolding AreShortCodes
  short_attributes xs fits =
      all_flat HasFewBytes (FitsAttribute place pool) attribute_codes short_attribute xs fits

  short_members : (ms : List RawMember) → AllByRecursion (FitsMember place pool) ms
      → AreShortCodes (flat_map member_codes ms)
  unfolding AreShortCodes
  short_members ms fits =
      all_flat HasFewBytes (FitsMember place pool) member_codes
      (λ m f. short_attributes m.attributes f.attributes.1) ms fits

pub codes_short : (file : RawFile) → FitsFile file → AreShort file
unfolding AreShortCodes
codes_short file fits =
    let class = file.class in
    let fields : List RawCode = flat_map member_codes class.fields in
    let methods : List RawCode = flat_map member_codes class.methods in
    let others : List RawCode = flat_map attribute_codes class.attributes in
    let short = all_append HasFewBytes fields (methods ++ others)
    (short_members InField file.pool class.fields fits.class.fields.1)
    (all_append HasFewBytes methods others (short_members InMethod file.pool class.methods fits.class.methods.1)
    (short_attributes InClass file.pool class.attributes fits.class.attributes.1)) in
    all_unmapped HasFewBytes content_of (codes file)
    (subst (λ (cs : List RawCode). AllByRecursion HasFewBytes cs) (sym (codes_are file fits)) short)
