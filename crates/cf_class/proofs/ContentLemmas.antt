-- A file that keeps every demand, and whose Codes have instructions, has a content.
use Rattle.std.proofs.Common.{ℕ, ◌+◌, List, [], ◌∷◌, ◌++◌, length, map, refl}
use Rattle.std.specs.List.{flat_map, AllByRecursion}
use Rattle.jv_list.proofs.FirstLemmas.{all_front}
use Rattle.jv_list.specs.Places.{each_place}
use Rattle.cf_pool.specs.declared.entry.PoolEntry.{PoolEntry}
use Rattle.cf_pool.specs.Spelling.{entry_text}
use Rattle.cf_structure.specs.Raw.{RawSkipped, RawCode, RawBody, constant, code, skipped, RawAttribute, RawMember}
use Rattle.cf_structure.specs.Raw.{RawFile}
use Rattle.cf_structure.specs.Spelled.{two, row_text, skipped_text, attribute_text, member_text}
use Rattle.cf_judge.specs.declared.form.Form.TheVariants.{Attribute}
use Rattle.cf_judge.specs.declared.index.Wanted.TheVariants.{Formed, PlainClass}
use Rattle.cf_judge.specs.declared.member.MemberKind.{MemberKind}
use Rattle.cf_judge.specs.declared.member.MemberKind.TheVariants as kinds
use Rattle.cf_judge.specs.Demands.{Demand, attribute_demands, attribute_name, attributes_place, body_demands}
use Rattle.cf_judge.specs.Demands.{class_demands, code_demands, demand, desc_form, entry_demands, fields_place, finds}
use Rattle.cf_judge.specs.Demands.{flags_demands, header_demands, index_demands, member_demands}
use Rattle.cf_judge.specs.Demands.{members_demands, methods_place, name_form, named_demands, row_demands, rows_place}
use Rattle.cf_judge.specs.Demands.{skipped_demands}
use Rattle.cf_judge.specs.Judged.{IsJudged}
use Rattle.cf_judge.specs.Laws.{FormDecided, PlainClassDecided}
use Rattle.cf_code.specs.declared.code.Placed.{Placed}
use Rattle.cf_code.specs.Decoding.{IsCode}
use Rattle.cf_class.specs.declared.attribute.Body.TheVariants as bodies
use Rattle.cf_class.specs.Content.{row_of, IsTextNamed, IsClassNamed, IsSkippedContent, IsCodeContent, IsBodyContent}
use Rattle.cf_class.specs.Content.{IsAttributeContent, IsMemberContent, IsContent}
use Rattle.cf_class.specs.Calls.Contents.{HasContent, HaveContent, body_codes, attribute_codes, member_codes}
use Rattle.cf_class.specs.Calls.Contents.{class_codes}
use Rattle.jv_list.proofs.ZipLemmas.{some_beside}
use Rattle.jv_list.proofs.AllLemmas.{all_behind, all_parts, all_from}
use Rattle.cf_class.proofs.KeptLemmas.{AreKept, kept_front, kept_behind, first_kept, each_kept, text_named, class_named}
use Rattle.cf_class.proofs.KeptLemmas.{entries_named, judged_kept}

-- the bytes are instructions
abbrev pub IsDecoded : RawCode → Type 0
IsDecoded c = (found : List Placed) × IsCode c.code found

abbrev pub AreDecoded : List RawCode → Type 0
AreDecoded cs = AllByRecursion IsDecoded cs

module _ (pool : List PoolEntry) (form_law : FormDecided) where
  abbrev IsNamed : ℕ → Type 0
  IsNamed = HasContent (IsTextNamed pool)

  skipped_there : (place : ℕ) (s : RawSkipped) → AreKept pool (skipped_demands place s)
      → HasContent (IsSkippedContent pool) s
  skipped_there place s h =
      let name : IsNamed s.name = text_named pool form_law Attribute s.name (first_kept pool _ [] h) in (
        record { name = name.0; content = s.content },
        record { name = name.1; content = refl },
      )

  code_there : (place : ℕ) (c : RawCode) → AreKept pool (code_demands place c) → IsDecoded c
      → HasContent (IsCodeContent pool) c
  code_there place c h decoded =
      let rows : List Demand = each_place row_demands row_text (rows_place place c) c.rows in
      let others = some_beside (IsSkippedContent pool) c.attributes
      (each_kept pool (λ (earlier : List RawSkipped). skipped_demands) skipped_text
      (HasContent (IsSkippedContent pool)) (λ earlier. skipped_there) [] _ c.attributes (kept_behind pool rows _ h))
      in (
        record {
          max_stack = c.max_stack;
          max_locals = c.max_locals;
          code = decoded.0;
          rows = map row_of c.rows;
          attributes = others.0;
        },
        record { max_stack = refl; max_locals = refl; code = decoded.1; rows = refl; attributes = others.1 },
      )

  body_there : (desc place : ℕ) (b : RawBody) → AreKept pool (body_demands desc place b) → AreDecoded (body_codes b)
      → HasContent (IsBodyContent pool) b
  body_there desc place (constant index) h decoded = (bodies.Constant index, refl)
  body_there desc place (code c) h decoded =
      let found = code_there place c h decoded.0 in
      (bodies.Code found.0, found.1)
  body_there desc place (skipped content) h decoded = (bodies.Skipped content, refl)

  attribute_there : (desc place : ℕ) (a : RawAttribute) → AreKept pool (attribute_demands desc place a)
      → AreDecoded (attribute_codes a)
      → HasContent (IsAttributeContent pool) a
  attribute_there desc place a h decoded =
      let rest : List Demand = body_demands desc (place + 6) a.body in
      let name : IsNamed a.name = text_named pool form_law Attribute a.name (first_kept pool _ rest h) in
      let body = body_there desc (place + 6) a.body
      (kept_behind pool (attribute_name place a.name ∷ []) rest h) decoded in (
        record { name = name.0; body = body.0 },
        record { name = name.1; body = body.1 },
      )

  attributes_there : (desc place : ℕ) (xs : List RawAttribute)
      → AreKept pool (each_place (attribute_demands desc) attribute_text place xs)
      → AreDecoded (flat_map attribute_codes xs)
      → HaveContent (IsAttributeContent pool) xs
  attributes_there desc place xs h decoded =
      some_beside (IsAttributeContent pool) xs
      (all_from (λ (a : RawAttribute). AreDecoded (attribute_codes a)) (HasContent (IsAttributeContent pool)) xs
      (each_kept pool (λ (earlier : List RawAttribute). attribute_demands desc) attribute_text
      (λ (a : RawAttribute). AreDecoded (attribute_codes a) → HasContent (IsAttributeContent pool) a)
      (λ earlier. attribute_there desc) [] place xs h)
      (all_parts IsDecoded attribute_codes xs decoded))

  member_there : (kind : MemberKind) (earlier : List RawMember) (place : ℕ) (m : RawMember)
      → AreKept pool (member_demands kind earlier place m) → AreDecoded (member_codes m)
      → HasContent (IsMemberContent pool) m
  member_there kind earlier place m h decoded =
      let named = kept_behind pool (flags_demands kind earlier place m)
      (named_demands kind (place + 2) m) h in
      let name_demand : Demand = demand (place + 2) (finds (Formed (name_form kind)) m.name) in
      let desc_demand : Demand =
      demand (place + 2 + 2) (finds (Formed (desc_form kind)) m.desc) in
      let rest : List Demand =
      each_place (attribute_demands m.desc) attribute_text (place + 2 + 6) m.attributes in
      let name : IsNamed m.name = text_named pool form_law (name_form kind) m.name
      (first_kept pool name_demand (desc_demand ∷ rest) named) in
      let desc : IsNamed m.desc = text_named pool form_law (desc_form kind) m.desc
      (first_kept pool desc_demand rest (kept_behind pool (name_demand ∷ []) (desc_demand ∷ rest) named)) in
      let attributes = attributes_there m.desc (place + 2 + 6) m.attributes
      (kept_behind pool (name_demand ∷ desc_demand ∷ []) rest named) decoded in (
        record { flags = m.flags; name = name.0; desc = desc.0; attributes = attributes.0 },
        record { flags = refl; name = name.1; desc = desc.1; attributes = attributes.1 },
      )

  members_there : (kind : MemberKind) (place : ℕ) (ms : List RawMember)
      → AreKept pool (members_demands kind place ms) → AreDecoded (flat_map member_codes ms)
      → HaveContent (IsMemberContent pool) ms
  members_there kind place ms h decoded =
      some_beside (IsMemberContent pool) ms
      (all_from (λ (m : RawMember). AreDecoded (member_codes m)) (HasContent (IsMemberContent pool)) ms
      (each_kept pool (member_demands kind) member_text
      (λ (m : RawMember). AreDecoded (member_codes m) → HasContent (IsMemberContent pool) m)
      (member_there kind) [] place ms h)
      (all_parts IsDecoded member_codes ms decoded))

pub content_there : FormDecided → PlainClassDecided → (file : RawFile) → IsJudged file
    → AreDecoded (class_codes file.class)
    → HasContent IsContent file
content_there form_law plain file judged decoded =
    let pool : List PoolEntry = file.pool in
    let place : ℕ = 10 + length (flat_map entry_text pool) in
    let class = file.class in
    let pool_demands : List Demand = each_place entry_demands entry_text 10 pool in
    let header : List Demand = header_demands place class in
    let interfaces : List Demand =
    each_place index_demands two (place + 8) class.interfaces in
    let this_demand : Demand = demand (place + 2) (finds PlainClass class.this_class) in
    let super_demand : Demand = demand (place + 2 + 2) (finds PlainClass class.super_class) in
    let fields : List Demand =
    members_demands kinds.Field (fields_place place class) class.fields in
    let methods : List Demand =
    members_demands kinds.Method (methods_place place class) class.methods in
    let attributes : List Demand =
    each_place (attribute_demands 0) attribute_text (attributes_place place class) class.attributes in
    let all = judged_kept file judged in
    let entries = entries_named pool form_law 10 (kept_front pool pool_demands (class_demands place class) all) in
    let of_class = kept_behind pool pool_demands (class_demands place class) all in
    let of_header = kept_front pool header (fields ++ (methods ++ attributes)) of_class in
    let of_members = kept_behind pool header (fields ++ (methods ++ attributes)) of_class in
    let of_methods = kept_behind pool fields (methods ++ attributes) of_members in
    let this_class = class_named pool form_law plain entries class.this_class
    (first_kept pool this_demand (super_demand ∷ interfaces) of_header) in
    let super_class = class_named pool form_law plain entries class.super_class
    (first_kept pool super_demand interfaces
    (kept_behind pool (this_demand ∷ []) (super_demand ∷ interfaces) of_header))
    in
    let named = some_beside (IsClassNamed pool) class.interfaces
    (each_kept pool (λ (earlier : List ℕ). index_demands) two (HasContent (IsClassNamed pool))
    (λ earlier p index h. class_named pool form_law plain entries index (first_kept pool _ [] h)) [] (place + 8)
    class.interfaces (kept_behind pool (this_demand ∷ super_demand ∷ []) interfaces of_header)) in
    let field_codes : List RawCode = flat_map member_codes class.fields in
    let method_codes : List RawCode = flat_map member_codes class.methods in
    let other_codes : List RawCode = flat_map attribute_codes class.attributes in
    let behind = all_behind IsDecoded field_codes (method_codes ++ other_codes) decoded in
    let made_fields = members_there pool form_law kinds.Field (fields_place place class) class.fields
    (kept_front pool fields (methods ++ attributes) of_members)
    (all_front IsDecoded field_codes (method_codes ++ other_codes) decoded) in
    let made_methods = members_there pool form_law kinds.Method (methods_place place class) class.methods
    (kept_front pool methods attributes of_methods) (all_front IsDecoded method_codes other_codes behind) in
    let made_attributes = attributes_there pool form_law 0 (attributes_place place class) class.attributes
    (kept_behind pool methods attributes of_methods) (all_behind IsDecoded method_codes other_codes behind) in (
      record {
        minor = file.version.minor;
        major = file.version.major;
        pool = record { entries = pool };
        flags = class.flags;
        this_class = this_class.0;
        super_class = super_class.0;
        interfaces = named.0;
        fields = made_fields.0;
        methods = made_methods.0;
        attributes = made_attributes.0;
      },
      record {
        minor = refl;
        major = refl;
        entries = refl;
        flags = refl;
        this_class = this_class.1;
        super_class = super_class.1;
        interfaces = named.1;
        fields = made_fields.1;
        methods = made_methods.1;
        attributes = made_attributes.1;
      },
    )
