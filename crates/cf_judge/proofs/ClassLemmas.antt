-- The parts of a class file, each behind the one before it.
use Rattle.std.proofs.Common.{◌≡◌, ℕ, ◌+◌, List, ◌++◌, length, Result, Ok, Err, refl, arith, length-append}
use Rattle.std.specs.List.{flat_map}
use Rattle.jv_list.specs.Places.{each_place}
use Rattle.cf_pool.specs.declared.entry.PoolEntry.{PoolEntry}
use Rattle.cf_pool.specs.Spelling.{entry_text}
use Rattle.cf_structure.specs.declared.fault.ClassFault.{ClassFault}
use Rattle.cf_structure.specs.Raw.{RawClass, RawFile}
use Rattle.cf_structure.specs.Spelled.{two, attribute_text, member_text, class_text, file_text}
use Rattle.cf_structure.specs.ClassFile.{Names}
use Rattle.cf_judge.specs.declared.index.Wanted.TheVariants.{PlainClass}
use Rattle.cf_judge.specs.declared.member.MemberKind.TheVariants.{Field, Method}
use Rattle.cf_judge.specs.Demands.{Demand, pair_demands, index_demands, attribute_demands}
use Rattle.cf_judge.specs.Demands.{members_demands, header_demands, class_demands, fields_place, methods_place}
use Rattle.cf_judge.specs.Demands.{attributes_place, entry_demands, demands}
use Rattle.cf_judge.specs.Calls.Tells.{AreKept, IsFirstBroken, Tells}
use Rattle.cf_judge.proofs.TellsLemmas.{refused_front, tells_behind}
use Rattle.cf_judge.proofs.PartLemmas.{moved}

module _ (pool : List PoolEntry) (place : ℕ) (c : RawClass) where
  abbrev indices : List Demand
  indices = pair_demands (place + 2) PlainClass c.this_class PlainClass c.super_class

  abbrev interfaces : ℕ → List Demand
  interfaces p = each_place index_demands two p c.interfaces

  abbrev interfaces_size : ℕ
  interfaces_size = length (flat_map two c.interfaces)

  pub indices_refused : (refusal : ClassFault) → Names (IsFirstBroken pool indices) refusal
      → Names (IsFirstBroken pool (header_demands place c)) refusal
  indices_refused refusal h = refused_front pool indices (interfaces (place + 8)) refusal h

  pub header_tells : (next : ℕ) (r : Result ℕ ClassFault) → (next ≡ place + 2 + 4) × AreKept pool indices
      → Tells pool (interfaces (next + 2)) (next + 2 + interfaces_size) r
      → Tells pool (header_demands place c) (place + 8 + interfaces_size) r
  header_tells next r ok h =
      tells_behind pool indices (interfaces (place + 8)) (place + 8 + interfaces_size) r ok.1
      (moved pool interfaces interfaces_size (next + 2) (place + 8) (place + 8 + interfaces_size) r (omega arith) refl
      h)

  abbrev fields : ℕ → List Demand
  fields p = members_demands Field p c.fields

  abbrev fields_size : ℕ
  fields_size = length (flat_map member_text c.fields)

  abbrev methods : ℕ → List Demand
  methods p = members_demands Method p c.methods

  abbrev methods_size : ℕ
  methods_size = length (flat_map member_text c.methods)

  abbrev attributes : ℕ → List Demand
  attributes p = each_place (attribute_demands 0) attribute_text p c.attributes

  abbrev attributes_size : ℕ
  attributes_size = length (flat_map attribute_text c.attributes)

  abbrev behind_methods : List Demand
  behind_methods = attributes (attributes_place place c)

  abbrev behind_fields : List Demand
  behind_fields = methods (methods_place place c) ++ behind_methods

  abbrev behind_header : List Demand
  behind_header = fields (fields_place place c) ++ behind_fields

  abbrev class_end : ℕ
  class_end = place + length (class_text c)

  pub ends_there : attributes_place place c + attributes_size ≡ class_end
  ends_there = simp length-append (omega arith)

  abbrev IsHeaderDone : ℕ → Type 0
  IsHeaderDone h = (h ≡ place + 8 + interfaces_size) × AreKept pool (header_demands place c)

  abbrev AreFieldsDone : ℕ → ℕ → Type 0
  AreFieldsDone h f = (f ≡ h + 2 + fields_size) × AreKept pool (fields (h + 2))

  abbrev AreMethodsDone : ℕ → ℕ → Type 0
  AreMethodsDone f m = (m ≡ f + 2 + methods_size) × AreKept pool (methods (f + 2))

  pub header_refused : (refusal : ClassFault) → Names (IsFirstBroken pool (header_demands place c)) refusal
      → Names (IsFirstBroken pool (class_demands place c)) refusal
  header_refused refusal h = refused_front pool (header_demands place c) behind_header refusal h

  module _ (h : ℕ) (header : IsHeaderDone h) where
    from_header : (r : Result ℕ ClassFault) → Tells pool behind_header class_end r
        → Tells pool (class_demands place c) class_end r
    from_header r t = tells_behind pool (header_demands place c) behind_header class_end r header.1 t

    pub fields_refused : (refusal : ClassFault) → Names (IsFirstBroken pool (fields (h + 2))) refusal
        → Names (IsFirstBroken pool (class_demands place c)) refusal
    fields_refused refusal t =
        let there = moved pool fields 0 (h + 2) (fields_place place c) (fields_place place c + 0) (Err refusal)
        (omega arith) refl t in
        from_header (Err refusal) (refused_front pool (fields (fields_place place c)) behind_fields refusal there)

    module _ (f : ℕ) (of_fields : AreFieldsDone h f) where
      from_fields : (r : Result ℕ ClassFault) → Tells pool behind_fields class_end r
          → Tells pool (class_demands place c) class_end r
      from_fields r t =
          let there = moved pool fields fields_size (h + 2) (fields_place place c) (fields_place place c + fields_size)
          (Ok f)
          (omega arith) refl of_fields in
          from_header r (tells_behind pool (fields (fields_place place c)) behind_fields class_end r there.1 t)

      pub methods_refused : (refusal : ClassFault) → Names (IsFirstBroken pool (methods (f + 2))) refusal
          → Names (IsFirstBroken pool (class_demands place c)) refusal
      methods_refused refusal t =
          let there = moved pool methods 0 (f + 2) (methods_place place c) (methods_place place c + 0) (Err refusal)
          (omega arith) refl t in
          from_fields (Err refusal) (refused_front pool (methods (methods_place place c)) behind_methods refusal there)

      pub class_tells : (m : ℕ) (r : Result ℕ ClassFault) → AreMethodsDone f m
          → Tells pool (attributes (m + 2)) (m + 2 + attributes_size) r → Tells pool (class_demands place c) class_end r
      class_tells m r of_methods t =
          let there = moved pool methods methods_size (f + 2) (methods_place place c)
          (methods_place place c + methods_size)
          (Ok m) (omega arith) refl of_methods in
          from_fields r (tells_behind pool (methods (methods_place place c)) behind_methods class_end r there.1
          (moved pool attributes attributes_size (m + 2) (attributes_place place c) class_end r (omega arith)
          ends_there t))

-- a class behind the entries of its pool
module _ (file : RawFile) where
  abbrev entries : List Demand
  entries = each_place entry_demands entry_text 10 file.pool

  abbrev entries_end : ℕ
  entries_end = 10 + length (flat_map entry_text file.pool)

  pub file_end : entries_end + length (class_text file.class) ≡ length (file_text file)
  file_end = simp length-append (omega arith)

  pub entries_refused : (refusal : ClassFault) → Names (IsFirstBroken file.pool entries) refusal
      → Names (IsFirstBroken file.pool (demands file)) refusal
  entries_refused refusal h = refused_front file.pool entries (class_demands entries_end file.class) refusal h

  pub file_tells : (place : ℕ) (r : Result ℕ ClassFault) → (place ≡ entries_end) × AreKept file.pool entries
      → Tells file.pool (class_demands place file.class) (place + length (class_text file.class)) r
      → Tells file.pool (demands file) (length (file_text file)) r
  file_tells place r ok h =
      tells_behind file.pool entries (class_demands entries_end file.class) (length (file_text file)) r ok.1
      (moved file.pool (λ p. class_demands p file.class) (length (class_text file.class)) place entries_end
      (length (file_text file)) r ok.0 file_end h)
