-- Parts of a structure, each behind the one before it.
use Rattle.std.proofs.Common.{◌≡◌, ℕ, ◌+◌, List, [], ◌∷◌, length, Result, refl, subst, arith}
use Rattle.std.proofs.Common.{length-append, add_assoc}
use Rattle.std.specs.List.{flat_map}
use Rattle.jv_list.specs.Places.{each_place}
use Rattle.cf_pool.specs.declared.entry.PoolEntry.{PoolEntry}
use Rattle.cf_structure.specs.declared.fault.ClassFault.{ClassFault}
use Rattle.cf_structure.specs.Raw.{RawCode, RawAttribute, RawMember}
use Rattle.cf_structure.specs.Spelled.{row_text, skipped_text, code_text, body_text, attribute_text, member_text}
use Rattle.cf_structure.specs.ClassFile.{Names}
use Rattle.cf_judge.specs.Demands.{Demand, attribute_name, row_demands, skipped_demands, rows_place}
use Rattle.cf_judge.specs.declared.index.Wanted.TheVariants.{Formed}
use Rattle.cf_judge.specs.declared.member.MemberKind.{MemberKind}
use Rattle.cf_judge.specs.Demands.{code_demands, body_demands, attribute_demands, pair_demands, name_form, desc_form}
use Rattle.cf_judge.specs.Demands.{flags_demands, named_demands, member_demands}
use Rattle.cf_judge.specs.Calls.Tells.{AreKept, IsFirstBroken, Tells}
use Rattle.cf_judge.proofs.TellsLemmas.{refused_front, tells_behind}

module _ (pool : List PoolEntry) where
  -- the same at a place that is written in another way
  pub moved : (f : ℕ → List Demand) (size p q end : ℕ) (r : Result ℕ ClassFault) → p ≡ q → q + size ≡ end
      → Tells pool (f p) (p + size) r → Tells pool (f q) end r
  moved f size p q end r e total h =
      subst (λ (k : ℕ). Tells pool (f q) k r) total (subst (λ (k : ℕ). Tells pool (f k) (k + size) r) e h)

  module _ (place : ℕ) (c : RawCode) where
    abbrev rows : List Demand
    rows = each_place row_demands row_text (rows_place place c) c.rows

    abbrev rows_end : ℕ
    rows_end = rows_place place c + length (flat_map row_text c.rows)

    abbrev others : ℕ → List Demand
    others p = each_place skipped_demands skipped_text p c.attributes

    abbrev others_size : ℕ
    others_size = length (flat_map skipped_text c.attributes)

    pub code_end : rows_end + 2 + others_size ≡ place + length (code_text c)
    code_end = simp length-append (omega arith)

    pub rows_refused : (refusal : ClassFault) → Names (IsFirstBroken pool rows) refusal
        → Names (IsFirstBroken pool (code_demands place c)) refusal
    rows_refused refusal h = refused_front pool rows (others (rows_end + 2)) refusal h

    pub code_tells : (next : ℕ) (r : Result ℕ ClassFault) → (next ≡ rows_end) × AreKept pool rows
        → Tells pool (others (next + 2)) (next + 2 + others_size) r
        → Tells pool (code_demands place c) (place + length (code_text c)) r
    code_tells next r ok h =
        tells_behind pool rows (others (rows_end + 2)) (place + length (code_text c)) r ok.1
        (moved others others_size (next + 2) (rows_end + 2) (place + length (code_text c)) r (omega arith) code_end h)

  module _ (desc place : ℕ) (a : RawAttribute) where
    pub name_refused : (refusal : ClassFault) → Names (IsFirstBroken pool (attribute_name place a.name ∷ [])) refusal
        → Names (IsFirstBroken pool (attribute_demands desc place a)) refusal
    name_refused refusal h =
        refused_front pool (attribute_name place a.name ∷ []) (body_demands desc (place + 6) a.body) refusal h

    pub attribute_tells : (next : ℕ) (r : Result ℕ ClassFault)
        → (next ≡ place + 2) × AreKept pool (attribute_name place a.name ∷ [])
        → Tells pool (body_demands desc (next + 4) a.body) (next + 4 + length (body_text a.body)) r
        → Tells pool (attribute_demands desc place a) (place + length (attribute_text a)) r
    attribute_tells next r ok h =
        let size : ℕ = length (body_text a.body) in
        tells_behind pool (attribute_name place a.name ∷ []) (body_demands desc (place + 6) a.body)
        (place + length (attribute_text a)) r ok.1
        (moved (λ p. body_demands desc p a.body) size (next + 4) (place + 6) (place + length (attribute_text a)) r
        (omega arith) (omega arith) h)

  module _ (kind : MemberKind) (place : ℕ) (m : RawMember) where
    abbrev names : List Demand
    names = pair_demands place (Formed (name_form kind)) m.name (Formed (desc_form kind)) m.desc

    abbrev attributes : ℕ → List Demand
    attributes p = each_place (attribute_demands m.desc) attribute_text p m.attributes

    abbrev attributes_size : ℕ
    attributes_size = length (flat_map attribute_text m.attributes)

    pub names_refused : (refusal : ClassFault) → Names (IsFirstBroken pool names) refusal
        → Names (IsFirstBroken pool (named_demands kind place m)) refusal
    names_refused refusal h = refused_front pool names (attributes (place + 6)) refusal h

    pub named_tells : (next : ℕ) (r : Result ℕ ClassFault) → (next ≡ place + 4) × AreKept pool names
        → Tells pool (attributes (next + 2)) (next + 2 + attributes_size) r
        → Tells pool (named_demands kind place m) (place + 6 + attributes_size) r
    named_tells next r ok h =
        tells_behind pool names (attributes (place + 6)) (place + 6 + attributes_size) r ok.1
        (moved attributes attributes_size (next + 2) (place + 6) (place + 6 + attributes_size) r (omega arith) refl h)

    module _ (earlier : List RawMember) where
      abbrev flags : List Demand
      flags = flags_demands kind earlier place m

      pub member_end : place + 2 + (6 + attributes_size) ≡ place + length (member_text m)
      member_end = omega arith

      pub flags_refused : (refusal : ClassFault) → Names (IsFirstBroken pool flags) refusal
          → Names (IsFirstBroken pool (member_demands kind earlier place m)) refusal
      flags_refused refusal h = refused_front pool flags (named_demands kind (place + 2) m) refusal h

      pub member_tells : (next : ℕ) (r : Result ℕ ClassFault) → (next ≡ place + 2) × AreKept pool flags
          → Tells pool (named_demands kind next m) (next + 6 + attributes_size) r
          → Tells pool (member_demands kind earlier place m) (place + length (member_text m)) r
      member_tells next r ok h =
          tells_behind pool flags (named_demands kind (place + 2) m) (place + length (member_text m)) r ok.1
          (moved (λ p. named_demands kind p m) (6 + attributes_size) next (place + 2) (place + length (member_text m)) r
          ok.0 member_end
          (subst (λ (k : ℕ). Tells pool (named_demands kind next m) k r) (add_assoc next 6 attributes_size) h))
