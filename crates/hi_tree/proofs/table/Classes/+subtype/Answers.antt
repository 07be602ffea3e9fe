use Rattle.std.proofs.Common.{◌≡◌, suc, ap, sym, ◌∙◌, arith}
use Rattle.jv_base.specs.Descriptor.{FieldType}
use Rattle.jv_base.specs.Types.{field_of}
use Rattle.hi_tree.specs.Calls.Shapes.{type_of}
use Rattle.hi_tree.proofs.table.Classes.+subtype.Goals as goal

pub subtype-requires : goal.subtype-requires
subtype-requires t c =
    let e : suc (field_of c.in-Array.a.now).dimensions ≡ (field_of c.args.a.now).dimensions =
    ap (λ (f : FieldType). f.dimensions) (ap type_of (sym c.in-Array.is) ∙ c.shape_of.ensures) in
    (omega arith, tt)
