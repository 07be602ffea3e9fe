use Rattle.std.proofs.Common.{◌<◌, arith}
use Rattle.std.proofs.lemmas.Result.{err_from_is_err_and}
use Rattle.std.proofs.lemmas.List.Elements.{All-from_get_or}
use Rattle.cf_pool.specs.Laws.{IsBytes}
use Rattle.cf_structure.specs.Views.{file_of}
use Rattle.cf_bodies.specs.Passes.{IsInOrder}
use Rattle.cf_class.specs.Calls.Contents.{class_codes}
use Rattle.jv_list.proofs.ZipLemmas.{all_beside}
use Rattle.cf_class.proofs.CodesLemmas.{bodies_are, bodies_there}
use Rattle.cf_class.proofs.ContentLemmas.{content_there}
use Rattle.cf_class.proofs.RefusalLemmas.{of_structure, of_names, of_bodies, no_class}
use Rattle.cf_class.proofs.class_file.read_class.Goals as goal

pub class_content-requires-clause-content : goal.class_content-requires-clause-content
class_content-requires-clause-content c =
    let file = file_of c.in_ok-structure.structure in
    content_there c.form_decided.ensures c.plain_class_decided.ensures file c.in_ok-texts.ensures.found
    (all_beside _ (class_codes file.class) c.in_ok-bodies.bodies
    (bodies_are file c.in_ok-structure.ensures.spelled.0 c.in_ok-bodies.bodies c.in_ok-bodies.ensures.bodies))

pub class_content-requires-clause-bodies : goal.class_content-requires-clause-bodies
class_content-requires-clause-bodies c =
    let file = file_of c.in_ok-structure.structure in
    bodies_there file c.in_ok-structure.ensures.spelled.0 c.in_ok-bodies.bodies c.in_ok-bodies.ensures.bodies

pub returns-clause-file : goal.returns-clause-file
returns-clause-file c =
    let bytes = c.args.bytes.now in
    let fits : IsBytes bytes = All-from_get_or (λ b. b < 256) bytes 0 (λ i lt. omega (arith, c.type_inv.bytes i)) in
    let ordered : IsInOrder bytes (file_of c.in_ok-structure.structure) = record {
      structure = c.in_ok-structure.ensures.found;
      judged = c.in_ok-texts.ensures.found;
      bodies = c.in_ok-bodies.ensures.found;
    } in (
      bytes,
      fits,
      record {
        file = file_of c.in_ok-structure.structure;
        in_order = ordered;
        content = c.in_ok-class.ensures;
      },
    )

pub returns-in_err-structure-clause-outside : goal.returns-in_err-structure-clause-outside
returns-in_err-structure-clause-outside c =
    let p = err_from_is_err_and c.from_residual.result c.from_residual.ensures.1 in
    let bytes = c.args.bytes.now in
    let fits : IsBytes bytes = All-from_get_or (λ b. b < 256) bytes 0 (λ i lt. omega (arith, c.type_inv.bytes i)) in
    rw (p.1, p.2)
    (no_class bytes c.one_file.ensures fits c.in_err-structure.field-0.0
    (of_structure bytes c.in_err-structure.field-0.0 c.in_err-structure.ensures.fault))

pub returns-in_err-texts-clause-outside : goal.returns-in_err-texts-clause-outside
returns-in_err-texts-clause-outside c =
    let p = err_from_is_err_and c.from_residual-in_err-texts.result c.from_residual-in_err-texts.ensures.1 in
    let bytes = c.args.bytes.now in
    let fits : IsBytes bytes = All-from_get_or (λ b. b < 256) bytes 0 (λ i lt. omega (arith, c.type_inv.bytes i)) in
    rw (p.1, p.2)
    (no_class bytes c.one_file.ensures fits c.in_err-texts.field-0.0
    (of_names bytes (file_of c.in_ok-structure.structure) c.in_ok-structure.ensures.found c.in_err-texts.field-0.0
    c.in_err-texts.ensures.fault))

pub returns-in_err-bodies-clause-outside : goal.returns-in_err-bodies-clause-outside
returns-in_err-bodies-clause-outside c =
    let p = err_from_is_err_and c.from_residual-in_err-bodies.result c.from_residual-in_err-bodies.ensures.1 in
    let bytes = c.args.bytes.now in
    let fits : IsBytes bytes = All-from_get_or (λ b. b < 256) bytes 0 (λ i lt. omega (arith, c.type_inv.bytes i)) in
    rw (p.1, p.2)
    (no_class bytes c.one_file.ensures fits c.in_err-bodies.field-0.0
    (of_bodies bytes (file_of c.in_ok-structure.structure) c.in_ok-structure.ensures.found c.in_ok-texts.ensures.found
    c.in_err-bodies.field-0.0 c.in_err-bodies.ensures.fault))
