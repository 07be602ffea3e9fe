use Rattle.std.proofs.Common.{◌+◌, ℕ, List, subst, sym, arith}
use Rattle.cf_code.specs.Sizes.{HasSize}
use Rattle.cf_code.specs.Decoding.{FallsInto}
use Rattle.cf_code.proofs.SizeLemmas.{size_inside}
use Rattle.cf_code.proofs.StartLemmas.{falls_more}
use Rattle.jv_list.proofs.PieceLemmas.{rest_is}
use Rattle.cf_code.proofs.decoding.starts_of.Goals as goal

pub loop-size-smaller : goal.loop-size-smaller
loop-size-smaller c =
    let found =
    subst (λ (b : List ℕ). HasSize c.loop-size.pc b c.in-Some.size)
    (rest_is c.args.bytes.now c.loop-size.pc c.from.result c.from.ensures) c.in-Some.ensures.found in
    let inside = size_inside c.args.bytes.now c.loop-size.pc c.in-Some.size found in
    omega (arith, inside.0, inside.1)

pub loop-size-preserved : goal.loop-size-preserved
loop-size-preserved c =
    let bytes = c.args.bytes.now in
    let pc = c.loop-size.pc in
    let size = c.in-Some.size in
    let found =
    subst (λ (b : List ℕ). HasSize pc b size)
    (rest_is bytes pc c.from.result c.from.ensures) c.in-Some.ensures.found in (
      subst (λ (starts : List ℕ). FallsInto bytes 0 starts (pc + size)) (sym c.in_ok-push.ensures.items)
          (falls_more bytes 0 c.loop-size.starts.items pc size c.loop-size.invariant.0 found),
      (size_inside bytes pc size found).1,
    )
