-- One type more.
use Rattle.std.proofs.Common.{◌<◌, Contains, length, map, sym, rules}
use Rattle.std.proofs.lemmas.List.Elements.{All-contains}
use Rattle.jv_base.specs.Descriptor.{IsFieldType}
use Rattle.jv_base.specs.Types.{field_of}
use Rattle.jv_base.specs.declared.value.Ty.{Ty}
use Rattle.jv_list.proofs.MemberLemmas.{in_map}
use Rattle.hi_inputs.proofs.AddLemmas.{each_none, each_step, each_end}
use Rattle.hi_inputs.proofs.FieldLemmas.{IsTypeOf, adds_type, adds_types}
use Rattle.hi_inputs.proofs.first.put_types.Goals as goal

pub flat_type-requires : goal.flat_type-requires
flat_type-requires c =
    let ty : Ty = c.ty-item.result in
    let below : c.types.ty-index < length c.args.types.now = search rules in
    let there : Contains c.args.types.now ty = (c.types.ty-index, below, sym c.ty-item.is) in
    (All-contains IsFieldType (map field_of c.args.types.now) (field_of ty) c.requires
    (in_map field_of c.args.types.now ty there)).0

pub types-init : goal.types-init
types-init c = each_none IsTypeOf c.args.out.now

pub types-preserved : goal.types-preserved
types-preserved c =
    each_step IsTypeOf c.args.out.now c.args.types.now c.types.ty-index c.ty-item.result c.types.out c.add.new.self
    (search rules) c.ty-item.is c.types.invariant
    (adds_type c.ty-item.result c.types.out c.add.new.self c.in_ok-flat_type.field-0 c.in_ok-flat_type.ensures
    c.in_ok-add.ensures.ok)

pub returns : goal.returns
returns c =
    adds_types c.args.types.now c.args.out.now c.types.out
    (each_end IsTypeOf c.args.out.now c.args.types.now c.types.ty-index c.types.out c.types-test.false
    c.types.invariant)
