-- One class, of which objects can be made.
use Rattle.std.proofs.Common.{◌≡◌, ℕ, List, ap, ◌∙◌, rules}
use Rattle.indexmap.specs.IndexSet.{insert_key}
use Rattle.jv_base.specs.Descriptor.{object}
use Rattle.jv_base.specs.contracts.name.NamePartialEq.TheImpl as name_eq
use Rattle.hi_tree.specs.Inputs.{class_type}
use Rattle.hi_inputs.specs.Calls.Flat.{element_of, field_of_flat}
use Rattle.hi_inputs.proofs.SameLemmas.{same_names}
use Rattle.hi_inputs.proofs.SetLemmas.{takes_these}
use Rattle.hi_inputs.proofs.ClassLemmas.{made_one}
use Rattle.hi_inputs.proofs.classes.take_made.Goals as goal

pub returns-in_ok-insert : goal.returns-in_ok-insert
returns-in_ok-insert c =
    let class : List ℕ = c.in-Class.name in
    let old : List (List ℕ) = c.args.found.now.keys in
    let none : c.args.ty.now.dimensions ≡ 0 = search rules in
    let element : element_of c.args.ty.now.element ≡ object class = search rules in
    let is : field_of_flat c.args.ty.now ≡ class_type class =
    λ i. record { dimensions = none i; element = element i } in
    let copied : c.in_ok-copy.field-0 ≡ class = search rules in
    made_one c.args.classes.now (field_of_flat c.args.ty.now) old c.insert.new.self.keys class is
    (c.is_made.ensures.0 c.if-is_made.true)
    (takes_these (name_eq.ghosts).eq same_names old _ c.insert.new.self.keys
    (c.in_ok-insert.ensures.keys ∙ ap (insert_key (name_eq.ghosts).eq old) copied))
