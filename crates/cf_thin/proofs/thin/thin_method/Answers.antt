use Rattle.std.proofs.Common.{◌≡◌, sym, ◌∙◌}
use Rattle.cf_thin.specs.Thin.{int_descriptor}
use Rattle.cf_thin.specs.Instr.{thin_places}
use Rattle.cf_thin.proofs.UniquenessLemmas.{not_thin}
use Rattle.cf_thin.proofs.thin.thin_method.Goals as goal

pub returns-then-not-branch-clause-none : goal.returns-then-not-branch-clause-none
returns-then-not-branch-clause-none c =
    let s = c.in-Some.signature in
    let spelled : c.args.desc.now ≡ int_descriptor s.params s.gives_int =
    sym c.as_str.ensures ∙ sym c.as_bytes.ensures.value ∙ c.in-Some.ensures.1 in
    let are : c.as_slice-2.result.now ≡ thin_places c.args.code.now.code =
    rw (c.as_slice-2.ensures, ← c.as_slice.ensures) c.in_ok-places.ensures in
    not_thin c.args.desc.now c.args.code.now c.as_slice-2.result.now s.params s.gives_int
    c.in_ok-is_thin_code.field-0 spelled are c.if-not-branch.true c.in_ok-is_thin_code.ensures.1
