-- The class of the elements, or the class itself.
use Rattle.std.proofs.Common.{◌≡◌, ap, arith, rules}
use Rattle.std.specs.Prelude.{option_copied}
use Rattle.jv_base.specs.Descriptor.{FieldType}
use Rattle.jv_base.specs.Types.{field_of}
use Rattle.bd_core.specs.Calls.Entry.{array_of}
use Rattle.bd_core.proofs.EntryLemmas.{element_below, element_itself}
use Rattle.bd_core.proofs.entry.+element_class.Goals as goal

pub element_class-requires : goal.element_class-requires
element_class-requires t c =
    let e : field_of c.args.ty.now ≡ array_of (field_of c.in-Some.elements.now) = search rules in
    let d = ap (λ (f : FieldType). f.dimensions) e in
    (omega (arith, d), tt)

pub returns-in-Some : goal.returns-in-Some
returns-in-Some t c =
    let e : field_of c.args.ty.now ≡ array_of (field_of c.in-Some.elements.now) = search rules in
    element_below (field_of c.args.ty.now) (field_of c.in-Some.elements.now) e (option_copied c.element_class.result)
    c.element_class.ensures

pub returns-in-None : goal.returns-in-None
returns-in-None t c =
    let flat : (field_of c.args.ty.now).dimensions ≡ 0 = search rules in
    element_itself (field_of c.args.ty.now) flat (option_copied c.class_of.result) c.class_of.ensures
