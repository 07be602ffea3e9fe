use Rattle.std.proofs.lemmas.Result.{err_from_is_err_and}
use Rattle.cf_structure.specs.Views.{class_of}
use Rattle.cf_judge.proofs.ClassLemmas.{header_refused, fields_refused, methods_refused, class_tells}
use Rattle.cf_judge.proofs.class_file.judge_class.Goals as goal

pub returns-in_err-header : goal.returns-in_err-header
returns-in_err-header c =
    let p = err_from_is_err_and c.from_residual.result c.from_residual.ensures.1 in
    rw (p.1, p.2)
    (header_refused c.args.pool.now c.args.place (class_of c.args.class.now) c.in_err-header.field-0.0
    c.in_err-header.ensures)

pub returns-in_err-behind_fields : goal.returns-in_err-behind_fields
returns-in_err-behind_fields c =
    let r = c.from_residual-in_err-behind_fields in
    let p = err_from_is_err_and r.result r.ensures.1 in
    let refused = rw c.as_slice-fields.ensures at c.in_err-behind_fields.ensures in
    rw (p.1, p.2)
    (fields_refused c.args.pool.now c.args.place (class_of c.args.class.now) c.in_ok-header.header
    c.in_ok-header.ensures
    c.in_err-behind_fields.field-0.0 refused)

pub returns-in_err-behind_methods : goal.returns-in_err-behind_methods
returns-in_err-behind_methods c =
    let r = c.from_residual-in_err-behind_methods in
    let p = err_from_is_err_and r.result r.ensures.1 in
    let fields = rw c.as_slice-fields.ensures at c.in_ok-behind_fields.ensures in
    let refused = rw c.as_slice-methods.ensures at c.in_err-behind_methods.ensures in
    rw (p.1, p.2)
    (methods_refused c.args.pool.now c.args.place (class_of c.args.class.now) c.in_ok-header.header
    c.in_ok-header.ensures
    c.in_ok-behind_fields.behind_fields fields c.in_err-behind_methods.field-0.0 refused)

pub returns : goal.returns
returns c =
    let fields = rw c.as_slice-fields.ensures at c.in_ok-behind_fields.ensures in
    let methods = rw c.as_slice-methods.ensures at c.in_ok-behind_methods.ensures in
    let behind = rw c.as_slice-attributes.ensures at c.judge_attributes.ensures in
    class_tells c.args.pool.now c.args.place (class_of c.args.class.now) c.in_ok-header.header c.in_ok-header.ensures
    c.in_ok-behind_fields.behind_fields fields c.in_ok-behind_methods.behind_methods c.judge_attributes.result methods
    behind
