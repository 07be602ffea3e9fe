-- The demands of each part of a file rise from its place up to its end.
use Rattle.std.proofs.Common.{ℕ, ◌+◌, ◌≤◌, List, [], ◌∷◌, length, ap, arith}
use Rattle.std.specs.List.{flat_map}
use Rattle.jv_list.specs.Places.{each_place}
use Rattle.cf_pool.specs.declared.entry.PoolEntry.{PoolEntry}
use Rattle.cf_pool.specs.declared.entry.PoolEntry.TheVariants as entries
use Rattle.cf_pool.specs.Spelling.{entry_text}
use Rattle.cf_structure.specs.declared.code.Row.{Row}
use Rattle.cf_structure.specs.Raw.{RawSkipped, RawCode, RawBody, constant, code, skipped, RawAttribute, RawMember}
use Rattle.cf_structure.specs.Raw.{RawClass}
use Rattle.cf_structure.specs.Raw.{RawFile}
use Rattle.cf_structure.specs.Spelled.{two, row_text, skipped_text, code_text, body_text, attribute_text, member_text}
use Rattle.cf_structure.specs.Spelled.{class_text}
use Rattle.cf_judge.specs.declared.index.Wanted.{Wanted}
use Rattle.cf_judge.specs.declared.member.MemberKind.{MemberKind}
use Rattle.cf_judge.specs.declared.member.MemberKind.TheVariants as kinds
use Rattle.cf_judge.specs.Demands.{Demand, finds, pair_demands, entry_demands, row_demands}
use Rattle.cf_judge.specs.Demands.{skipped_demands}
use Rattle.cf_judge.specs.Demands.{rows_place, code_demands, body_demands, attribute_demands, flags_demands}
use Rattle.cf_judge.specs.Demands.{named_demands}
use Rattle.cf_judge.specs.Demands.{member_demands, members_demands, index_demands, header_demands, class_demands}
use Rattle.cf_judge.specs.Demands.{demands}
use Rattle.cf_judge.specs.Demands.{fields_place, methods_place, attributes_place}
use Rattle.cf_judge.specs.Words.{rank}
use Rattle.cf_judge.proofs.PartLemmas.{code_end}
use Rattle.cf_judge.proofs.ClassLemmas.{ends_there}
use Rattle.cf_judge.proofs.RisingLemmas.{Rise, none_rise, one_rises, two_rise, rise_append, rise_wider, rise_to}
use Rattle.cf_judge.proofs.RisingLemmas.{each_rises}

module _ (pool : List PoolEntry) where
  pair_rises : (low place high : ℕ) (a : Wanted) (i : ℕ) (b : Wanted) (j : ℕ) → low ≤ place → place + 4 ≤ high
      → Rise pool low high (pair_demands place a i b j)
  pair_rises low place high a i b j le ge =
      rise_append pool low (place + 2) high (pair_front) (pair_back)
      (one_rises pool low (place + 2) place (finds a i) le (omega arith))
      (one_rises pool (place + 2) high (place + 2) (finds b j) (omega arith) (omega arith))
    where
      pair_front : List Demand
      pair_front = record { place = place; rule = finds a i } ∷ []

      pair_back : List Demand
      pair_back = record { place = place + 2; rule = finds b j } ∷ []

  entry_rises : (earlier : List PoolEntry) (place : ℕ) (e : PoolEntry)
      → Rise pool place (place + length (entry_text e)) (entry_demands place e)
  entry_rises earlier place (entries.Class name) =
      one_rises pool place (place + 3) (place + 1) _ (omega arith) (omega arith)
  entry_rises earlier place (entries.Str text) =
      one_rises pool place (place + 3) (place + 1) _ (omega arith) (omega arith)
  entry_rises earlier place (entries.Field a b) =
      pair_rises place (place + 1) (place + 5) _ a _ b (omega arith) (omega arith)
  entry_rises earlier place (entries.Method a b) =
      pair_rises place (place + 1) (place + 5) _ a _ b (omega arith) (omega arith)
  entry_rises earlier place (entries.InterfaceMethod a b) =
      pair_rises place (place + 1) (place + 5) _ a _ b (omega arith) (omega arith)
  entry_rises earlier place (entries.NameAndType a b) =
      pair_rises place (place + 1) (place + 5) _ a _ b (omega arith) (omega arith)
  entry_rises earlier place (entries.Utf8 units) = none_rise pool place _ (omega arith)
  entry_rises earlier place (entries.Integer n) = none_rise pool place _ (omega arith)
  entry_rises earlier place (entries.Float bits) = none_rise pool place _ (omega arith)
  entry_rises earlier place (entries.Long n) = none_rise pool place _ (omega arith)
  entry_rises earlier place (entries.Double bits) = none_rise pool place _ (omega arith)
  entry_rises earlier place (entries.MethodHandle kind index) = none_rise pool place _ (omega arith)
  entry_rises earlier place (entries.MethodType index) = none_rise pool place _ (omega arith)
  entry_rises earlier place (entries.InvokeDynamic a b) = none_rise pool place _ (omega arith)
  entry_rises earlier place entries.Unusable = none_rise pool place _ (omega arith)

  row_rises : (earlier : List Row) (place : ℕ) (r : Row)
      → Rise pool place (place + length (row_text r)) (row_demands place r)
  row_rises earlier place r = one_rises pool place (place + 8) (place + 6) _ (omega arith) (omega arith)

  skipped_rises : (earlier : List RawSkipped) (place : ℕ) (a : RawSkipped)
      → Rise pool place (place + length (skipped_text a)) (skipped_demands place a)
  skipped_rises earlier place a =
      one_rises pool place (place + length (skipped_text a)) place _ (omega arith) (omega arith)

  code_rises : (place : ℕ) (c : RawCode) → Rise pool place (place + length (code_text c)) (code_demands place c)
  code_rises place c =
      let rows_size : ℕ = length (flat_map row_text c.rows) in
      let start : ℕ = rows_place place c in
      let next : ℕ = start + rows_size + 2 in
      let rows = each_rises pool (λ (earlier : List Row). row_demands) row_text row_rises [] start c.rows in
      let others = each_rises pool (λ (earlier : List RawSkipped). skipped_demands) skipped_text skipped_rises [] next
      c.attributes in
      rise_append pool place next (place + length (code_text c)) _ _
      (rise_wider pool place start (start + rows_size) next _ (omega arith) (omega arith) rows)
      (rise_to pool next _ (place + length (code_text c)) _ (code_end pool place c) others)

  body_rises : (desc place : ℕ) (b : RawBody)
      → Rise pool place (place + length (body_text b)) (body_demands desc place b)
  body_rises desc place (constant index) = one_rises pool place (place + 2) place _ (omega arith) (omega arith)
  body_rises desc place (code c) = code_rises place c
  body_rises desc place (skipped content) = none_rise pool place _ (omega arith)

  attribute_rises : (desc : ℕ) (earlier : List RawAttribute) (place : ℕ) (a : RawAttribute)
      → Rise pool place (place + length (attribute_text a)) (attribute_demands desc place a)
  attribute_rises desc earlier place a =
      let size : ℕ = length (body_text a.body) in
      rise_append pool place (place + 6) (place + length (attribute_text a)) (_ ∷ [])
      (body_demands desc (place + 6) a.body)
      (one_rises pool place (place + 6) place _ (omega arith) (omega arith))
      (rise_wider pool (place + 6) (place + 6) (place + 6 + size) (place + length (attribute_text a)) _ (omega arith)
      (omega arith) (body_rises desc (place + 6) a.body))

  attributes_rise : (desc place : ℕ) (attributes : List RawAttribute)
      → Rise pool place (place + length (flat_map attribute_text attributes))
      (each_place (attribute_demands desc) attribute_text place attributes)
  attributes_rise desc place attributes =
      each_rises pool (λ (earlier : List RawAttribute). attribute_demands desc) attribute_text (attribute_rises desc)
      [] place
      attributes

  flags_rise : (kind : MemberKind) (earlier : List RawMember) (place : ℕ) (m : RawMember)
      → Rise pool place (place + 2) (flags_demands kind earlier place m)
  flags_rise kinds.Field earlier place m = one_rises pool place (place + 2) place _ (omega arith) (omega arith)
  flags_rise kinds.Method earlier place m =
      two_rise pool place (place + 2) _ _ (λ v w h k. omega (arith, ap rank h.0, ap rank k.0)) (omega arith)

  member_rises : (kind : MemberKind) (earlier : List RawMember) (place : ℕ) (m : RawMember)
      → Rise pool place (place + length (member_text m)) (member_demands kind earlier place m)
  member_rises kind earlier place m =
      let size : ℕ = length (flat_map attribute_text m.attributes) in
      let start : ℕ = place + 2 + 6 in
      let end : ℕ = place + length (member_text m) in
      rise_append pool place (place + 2) end (flags_demands kind earlier place m) (named_demands kind (place + 2) m)
      (flags_rise kind earlier place m)
      (rise_append pool (place + 2) start end _ _
      (pair_rises (place + 2) (place + 2) start _ _ _ _ (omega arith) (omega arith))
      (rise_wider pool start start (start + size) end _ (omega arith) (omega arith)
      (attributes_rise m.desc start m.attributes)))

  members_rise : (kind : MemberKind) (place : ℕ) (ms : List RawMember)
      → Rise pool place (place + length (flat_map member_text ms)) (members_demands kind place ms)
  members_rise kind place ms = each_rises pool (member_demands kind) member_text (member_rises kind) [] place ms

  index_rises : (earlier : List ℕ) (place index : ℕ)
      → Rise pool place (place + length (two index)) (index_demands place index)
  index_rises earlier place index = one_rises pool place (place + 2) place _ (omega arith) (omega arith)

  header_rises : (place : ℕ) (c : RawClass) → Rise pool place (fields_place place c) (header_demands place c)
  header_rises place c =
      let size : ℕ = length (flat_map two c.interfaces) in
      rise_append pool place (place + 8) (fields_place place c) _ _
      (pair_rises place (place + 2) (place + 8) _ _ _ _ (omega arith) (omega arith))
      (rise_wider pool (place + 8) (place + 8) (place + 8 + size) (fields_place place c) _ (omega arith) (omega arith)
      (each_rises pool (λ (earlier : List ℕ). index_demands) two index_rises [] (place + 8) c.interfaces))

  class_rises : (place : ℕ) (c : RawClass) → Rise pool place (place + length (class_text c)) (class_demands place c)
  class_rises place c =
      let fields : ℕ = fields_place place c in
      let methods : ℕ = methods_place place c in
      let attributes : ℕ = attributes_place place c in
      let end : ℕ = place + length (class_text c) in
      rise_append pool place fields end _ _ (header_rises place c)
      (rise_append pool fields methods end _ _
      (rise_wider pool fields fields (fields + length (flat_map member_text c.fields)) methods _ (omega arith)
      (omega arith)
      (members_rise kinds.Field fields c.fields))
      (rise_append pool methods attributes end _ _
      (rise_wider pool methods methods (methods + length (flat_map member_text c.methods)) attributes _ (omega arith)
      (omega arith) (members_rise kinds.Method methods c.methods))
      (rise_to pool attributes _ end _ (ends_there pool place c) (attributes_rise 0 attributes c.attributes))))

-- the demands of a file rise
pub file_rises : (file : RawFile)
    → Rise file.pool 10 (10 + length (flat_map entry_text file.pool) + length (class_text file.class)) (demands file)
file_rises file =
    let place : ℕ = 10 + length (flat_map entry_text file.pool) in
    rise_append file.pool 10 place (place + length (class_text file.class)) _ _
    (each_rises file.pool (λ (earlier : List PoolEntry). entry_demands) entry_text (entry_rises file.pool) [] 10
    file.pool)
    (class_rises file.pool place file.class)
