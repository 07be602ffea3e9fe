-- A text is a pc where all of it begins one.
use Rattle.std.proofs.Common.{arith, inl, inr}
use Rattle.jv_base.proofs.PcLemmas.{pc_is_not}
use Rattle.jv_base.proofs.site.pc_of.Goals as goal

pub returns-else-digits-gt0-clause-fault : goal.returns-else-digits-gt0-clause-fault
returns-else-digits-gt0-clause-fault c = λ at e. record {
  outside = pc_is_not c.args.text.now c.leading_pc-pc.result.1 c.leading_pc-pc.ensures.longest
      (λ all. elim c.else-digits-gt0.either [ inl l ↦ l.1 all.1 | inr r ↦ omega (arith, r, all.0) ]);
  count = c.leading_pc-pc.result.1;
  sum = cc;
  front = c.leading_pc-pc.ensures.longest;
}
