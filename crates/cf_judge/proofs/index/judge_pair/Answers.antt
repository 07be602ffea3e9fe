use Rattle.std.proofs.Common.{◌≡◌, ℕ, [], ◌∷◌, ◌+◌, subst, arith}
use Rattle.std.proofs.lemmas.Result.{err_from_is_err_and}
use Rattle.cf_judge.specs.Demands.{demand, finds}
use Rattle.cf_judge.specs.Calls.Tells.{Tells}
use Rattle.cf_judge.proofs.TellsLemmas.{refused_front, tells_behind, ends_at}
use Rattle.cf_judge.proofs.index.judge_pair.Goals as goal

pub returns-in_err-next : goal.returns-in_err-next
returns-in_err-next c =
    let p = err_from_is_err_and c.from_residual.result c.from_residual.ensures.1 in
    rw (p.1, p.2)
    (refused_front c.args.pool.now (demand c.args.place (finds c.args.first.0 c.args.first.1) ∷ [])
    (demand (c.args.place + 2) (finds c.args.second.0 c.args.second.1) ∷ []) c.in_err-next.field-0.0
    c.in_err-next.ensures)

pub returns : goal.returns
returns c =
    let at : c.in_ok-next.next ≡ c.args.place + 2 = c.in_ok-next.ensures.0 in
    let rule = finds c.args.second.0 c.args.second.1 in
    let second = subst (λ (n : ℕ). Tells c.args.pool.now (demand n rule ∷ []) (n + 2) c.judge_index-2.result) at
    c.judge_index-2.ensures in
    ends_at c.args.pool.now _ (c.args.place + 2 + 2) (c.args.place + 4) c.judge_index-2.result (omega arith)
    (tells_behind c.args.pool.now (demand c.args.place (finds c.args.first.0 c.args.first.1) ∷ [])
    (demand (c.args.place + 2) rule ∷ []) (c.args.place + 2 + 2) c.judge_index-2.result c.in_ok-next.ensures.1 second)
