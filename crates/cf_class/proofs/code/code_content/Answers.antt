use Rattle.std.proofs.Common.{List, refl, ap, map, ◌∙◌}
use Rattle.cf_structure.specs.declared.code.Row as structure
use Rattle.cf_structure.specs.Views.{code_of}
use Rattle.cf_class.specs.Content.{row_of}
use Rattle.cf_class.proofs.BodiesLemmas.{some_body, first_body}
use Rattle.cf_class.proofs.code.code_content.Goals as goal

pub take-code-requires : goal.take-code-requires
take-code-requires c = some_body (code_of c.args.part.now) c.args.bodies.now c.requires.bodies

pub returns-clause-content : goal.returns-clause-content
returns-clause-content c = record {
  max_stack = refl;
  max_locals = refl;
  code = first_body (code_of c.args.part.now) c.args.bodies.now c.take-code.new.self c.take-code.result
      c.requires.bodies
      c.take-code.ensures;
  rows = c.in_ok-rows.ensures ∙ ap (λ (rs : List structure.Row). map row_of rs) c.as_slice.ensures;
  attributes = rw c.as_slice-2.ensures at c.in_ok-attributes.ensures;
}
