-- In a block of first units all can be plain, or low surrogates.
use Rattle.std.proofs.Common.{refl, arith}
use Rattle.jv_base.proofs.BlockLemmas.{block_16_iff, larger_block, not_low}
use Rattle.jv_base.proofs.escaped.has_unit.Goals as goal

pub returns-in-16 : goal.returns-in-16
returns-in-16 c =
    let other = not_low c.args.least c.args.size c.requires (λ from to. omega arith) in
    block_16_iff c.args.second c.args.least c.args.size c.if-second.false c.in-16.is c.requires other

pub returns-in_default : goal.returns-in_default
returns-in_default c =
    let other = not_low c.args.least c.args.size c.requires (λ from to. omega arith) in
    let some = larger_block c.args.second c.args.least c.args.size c.if-second.false c.requires other in
    (λ t. some (λ e. omega arith) (λ e. omega arith), λ h. refl)
