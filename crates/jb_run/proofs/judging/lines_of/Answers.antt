use Rattle.std.proofs.Common.{◌≡◌, ℕ, map, Option, sym, subst}
use Rattle.std.specs.Prelude.{IfSome}
use Rattle.cf_thin.specs.declared.thin.ThinMethod.{ThinMethod}
use Rattle.cf_thin.specs.Instr.{Places}
use Rattle.cf_thin.specs.Thin.{Thin, int_descriptor}
use Rattle.cf_thin.specs.ThinCode.{ThinCode}
use Rattle.jb_run.specs.Justified.{AreJustified}
use Rattle.jb_run.specs.Sites.{IsSites}
use Rattle.jb_run.specs.Violates.{RunsGoOn}
use Rattle.jb_run.proofs.judging.lines_of.Goals as goal

pub returns-clause-lines : goal.returns-clause-lines
returns-clause-lines c =
    let class = c.args.class.now in
    let entry = c.args.entry.now in
    let method = c.in-Some.method in
    let lines = c.in_ok-lines.lines in
    let thin : Thin class entry method =
    subst (λ (o : Option ThinMethod). IfSome o (λ m. Thin class entry m)) c.in-Some.is c.in_ok-method.ensures.found
    in
    let code = thin.has_thin_code in
    let params = c.int_params-params.ensures code.params code.gives_int code.descriptor in
    let by_code =
    subst (λ (p : Places). ThinCode p code.params code.gives_int thin.code.max_stack thin.code.max_locals)
    (sym c.as_slice.ensures) code.thin_code in
    let thin_code =
    subst (λ (n : ℕ). ThinCode c.as_slice.result.now n code.gives_int thin.code.max_stack thin.code.max_locals)
    (sym params) by_code in
    let descriptor = subst (λ (n : ℕ). entry.desc ≡ int_descriptor n code.gives_int) (sym params) code.descriptor in
    let justified =
    c.in_ok-lines.ensures.justified code.gives_int thin.code.max_stack thin.code.max_locals descriptor thin_code in
    let goes_on =
    c.in_ok-lines.ensures.goes_on code.gives_int thin.code.max_stack thin.code.max_locals descriptor thin_code in
    record {
      method = method;
      thin = thin;
      sites = subst (λ (code : Places). IsSites entry code (map (λ line. line.goal) lines)) c.as_slice.ensures
          c.in_ok-lines.ensures.sites;
      goes_on = subst (λ (code : Places). RunsGoOn code entry) c.as_slice.ensures goes_on;
      justified = λ bounds room.
          subst (λ (code : Places). AreJustified bounds code entry lines) c.as_slice.ensures (justified bounds room);
    }
