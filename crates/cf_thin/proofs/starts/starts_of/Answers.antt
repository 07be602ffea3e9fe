use Rattle.std.proofs.Common.{◌≡◌, ℕ, subst, sym, arith, length, List, Bool, eqb-true}
use Rattle.std.proofs.lemmas.Bool.{eqb-false}
use Rattle.cf_thin.proofs.SweepLemmas.{Swept, swept_none, swept_step, swept_all}
use Rattle.cf_thin.proofs.starts.starts_of.Goals as goal

pub loop-pc-init : goal.loop-pc-init
loop-pc-init c = let P : List Bool → Type 0 = λ s. Swept c.args.code.now s 0 0 in
    subst P (sym c.in_ok-starts.ensures.items) (swept_none c.args.code.now c.requires.filled)

pub loop-pc-preserved : goal.loop-pc-preserved
loop-pc-preserved c =
    swept_step c.args.code.now c.loop-pc.starts.items c.push.new.self.items c.loop-pc.pc c.loop-pc.next c.in-Some.after
    _ (omega arith) c.loop-pc.invariant c.in-Some.ensures c.in_ok-push.ensures.items (λ e. eqb-true _ _ e)
    (λ e. eqb-false _ _ e)

pub returns-clause-some : goal.returns-clause-some
returns-clause-some c = let end : c.loop-pc.pc ≡ length c.args.code.now = omega arith in
    swept_all c.args.code.now c.loop-pc.starts.items c.loop-pc.next c.requires.filled
    (subst (λ (p : ℕ). Swept c.args.code.now c.loop-pc.starts.items p c.loop-pc.next) end c.loop-pc.invariant)
