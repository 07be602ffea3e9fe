use Rattle.std.proofs.Common.{◌∙◌, ap}
use Rattle.vm_world.specs.Fields.{is_field, place_of_field}
use Rattle.vm_world.proofs.ChangeLemmas.{at_first, at_none}
use Rattle.vm_world.proofs.fields.Fields.put.Goals as goal

-- the field that is looked for, and the value that it gets
pub returns-in-Some-clause-found : goal.returns-in-Some-clause-found
returns-in-Some-clause-found c =
    let place = c.in-Some.ensures ∙ ap (λ slots. place_of_field slots c.args.field.now) c.as_slice.ensures.value in
    rw (← c.self.view_is)
    (at_first (λ slot. is_field slot.field c.args.field.now) (λ slot. record slot { value = c.args.value })
    (λ slot. slot.value) c.self.inside.slots.items c.in-Some.place
    c.index_mut.result.now place c.index_mut.ensures.value).0

pub returns-in-Some-clause-value : goal.returns-in-Some-clause-value
returns-in-Some-clause-value c =
    let place = c.in-Some.ensures ∙ ap (λ slots. place_of_field slots c.args.field.now) c.as_slice.ensures.value in
    rw (← c.self.view_is)
    (at_first (λ slot. is_field slot.field c.args.field.now) (λ slot. record slot { value = c.args.value })
    (λ slot. slot.value) c.self.inside.slots.items c.in-Some.place
    c.index_mut.result.now place c.index_mut.ensures.value).1

pub returns-in-None-clause-found : goal.returns-in-None-clause-found
returns-in-None-clause-found c =
    let place = c.in-None.ensures ∙ ap (λ slots. place_of_field slots c.args.field.now) c.as_slice.ensures.value in
    rw (← c.self.view_is)
    (at_none (λ slot. is_field slot.field c.args.field.now) (λ slot. record slot { value = c.args.value })
    (λ slot. slot.value) c.self.inside.slots.items place).0

pub returns-in-None-clause-value : goal.returns-in-None-clause-value
returns-in-None-clause-value c =
    let place = c.in-None.ensures ∙ ap (λ slots. place_of_field slots c.args.field.now) c.as_slice.ensures.value in
    rw (← c.self.view_is)
    (at_none (λ slot. is_field slot.field c.args.field.now) (λ slot. record slot { value = c.args.value })
    (λ slot. slot.value) c.self.inside.slots.items place).1
