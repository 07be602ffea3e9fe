use Rattle.std.proofs.Common.{ℕ, ℤ, Bool, subst}
use Rattle.std.specs.Int.{w32}
use Rattle.std.proofs.lemmas.Int.{to_z-of_z}
use Rattle.std.proofs.lemmas.Result.{on_ok_weaker}
use Rattle.jb_run.specs.Shown.{ShowsInt}
use Rattle.jb_run.proofs.NumberLemmas.{push_int_goes}
use Rattle.jb_run.proofs.encoder.Encoder.push_int.Goals as goal

pub returns : goal.returns
returns c =
    let is : (a : ℕ → Bool) → ShowsInt a c.known.result c.args.value =
    subst (λ (v : ℤ). (a : ℕ → Bool) → ShowsInt a c.known.result v)
    (to_z-of_z w32 c.args.value c.ranges.value) c.known.ensures.int in
    on_ok_weaker c.arrive.result
    (push_int_goes c.args.self.now c.arrive.new.self c.args.pc c.args.next c.args.frame c.in_ok-with_operand.field-0
    c.args.value c.known.result c.in_ok-with_operand.ensures c.known.ensures.below is) c.arrive.ensures
