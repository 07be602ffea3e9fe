use Rattle.std.proofs.lemmas.Result.{IfOk-weaker}
use Rattle.std.proofs.lemmas.List.Elements.{All-weaker}
use Rattle.jb_run.specs.Verdicts.{IsEncodingOf, IsVerdictBy, AreVerdictsBy}
use Rattle.jb_run.specs.Justified.{IsJustifiedLine}
use Rattle.jb_run.specs.declared.report.Line.{Line}
use Rattle.jb_run.proofs.VerdictLemmas.{goes_on}
use Rattle.jb_run.proofs.verdicts.verdicts.Goals as goal

pub returns-clause-goes_on : goal.returns-clause-goes_on
returns-clause-goes_on c =
    let encoding = c.in_ok-encoding.encoding in
    IfOk-weaker c.lines_for.result (AreVerdictsBy encoding) _
    (λ lines decided gives_int max_stack max_locals descriptor thin.
    goes_on encoding c.args.code.now c.args.method.now (record {
      params = c.args.params;
      gives_int = gives_int;
      descriptor = descriptor;
      represents = c.in_ok-encoding.ensures gives_int max_stack max_locals thin;
    }))
    c.lines_for.ensures.justified

pub returns-clause-justified : goal.returns-clause-justified
returns-clause-justified c =
    let encoding = c.in_ok-encoding.encoding in
    let code = c.args.code.now in
    let method = c.args.method.now in
    IfOk-weaker c.lines_for.result (AreVerdictsBy encoding) _
    (λ lines decided gives_int max_stack max_locals descriptor thin bounds room.
    let of : IsEncodingOf code method encoding =
    record {
      params = c.args.params;
      gives_int = gives_int;
      descriptor = descriptor;
      represents = c.in_ok-encoding.ensures gives_int max_stack max_locals thin;
    } in
    All-weaker (λ (line : Line). IsVerdictBy encoding line.goal line.verdict) (IsJustifiedLine bounds code method)
    (λ line one. one code method bounds of room) lines decided)
    c.lines_for.ensures.justified
