use Rattle.std.proofs.Common.{List, sym, subst}
use Rattle.hi_tree.specs.declared.world.Asked.{Asked}
use Rattle.jb_run.specs.Calls.Decisions.{ComesTo}
use Rattle.jb_run.proofs.top_call.answer_to.Goals as goal

pub answer_of-requires : goal.answer_of-requires
answer_of-requires c =
    subst (λ (es : List Asked). ComesTo c.args.command (record { entries = es }) c.in_ok-decided.decided)
    (sym c.in_ok-world.ensures) c.in_ok-decided.ensures
