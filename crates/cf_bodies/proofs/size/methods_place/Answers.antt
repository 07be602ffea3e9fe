use Rattle.std.proofs.Common.{◌≡◌, ℕ, List, length, map, ap, ◌∙◌, refl, arith}
use Rattle.std.specs.List.{flat_map}
use Rattle.cf_structure.specs.declared.member.MemberPart.{MemberPart}
use Rattle.cf_pool.specs.declared.entry.PoolEntry.{PoolEntry}
use Rattle.cf_pool.specs.Spelling.{entry_text}
use Rattle.cf_structure.specs.Spelled.{member_text}
use Rattle.cf_structure.specs.Views.{member_of, file_of}
use Rattle.cf_bodies.proofs.SizeLemmas.{methods_at, front_fits}
use Rattle.cf_bodies.proofs.size.methods_place.Goals as goal

abbrev entries_length : List PoolEntry → ℕ
entries_length xs = length (flat_map entry_text xs)

abbrev members_length : List MemberPart → ℕ
members_length xs = length (flat_map member_text (map member_of xs))

pub overflow_mul-fields : goal.overflow_mul-fields
overflow_mul-fields c =
    let pool = c.entries_size-behind_pool.ensures ∙ ap entries_length c.as_slice.ensures in
    omega (arith, front_fits (file_of c.args.structure.now) _ _ _ _ pool c.length.ensures refl c.requires)

pub overflow_add-fields-2 : goal.overflow_add-fields-2
overflow_add-fields-2 c =
    let pool = c.entries_size-behind_pool.ensures ∙ ap entries_length c.as_slice.ensures in
    omega (arith, front_fits (file_of c.args.structure.now) _ _ _ _ pool c.length.ensures refl c.requires)

pub overflow_add-fields-3 : goal.overflow_add-fields-3
overflow_add-fields-3 c =
    let pool = c.entries_size-behind_pool.ensures ∙ ap entries_length c.as_slice.ensures in
    omega (arith, front_fits (file_of c.args.structure.now) _ _ _ _ pool c.length.ensures refl c.requires)

pub overflow_add-result : goal.overflow_add-result
overflow_add-result c =
    let pool = c.entries_size-behind_pool.ensures ∙ ap entries_length c.as_slice.ensures in
    let fields = c.members_size.ensures ∙ ap members_length c.as_slice-2.ensures in
    omega (arith, front_fits (file_of c.args.structure.now) _ _ _ _ pool c.length.ensures fields c.requires)

pub overflow_add-result-2 : goal.overflow_add-result-2
overflow_add-result-2 c =
    let pool = c.entries_size-behind_pool.ensures ∙ ap entries_length c.as_slice.ensures in
    let fields = c.members_size.ensures ∙ ap members_length c.as_slice-2.ensures in
    omega (arith, front_fits (file_of c.args.structure.now) _ _ _ _ pool c.length.ensures fields c.requires)

pub returns : goal.returns
returns c =
    let pool = c.entries_size-behind_pool.ensures ∙ ap entries_length c.as_slice.ensures in
    let fields = c.members_size.ensures ∙ ap members_length c.as_slice-2.ensures in
    omega (arith, methods_at (file_of c.args.structure.now), pool, c.length.ensures, fields)
