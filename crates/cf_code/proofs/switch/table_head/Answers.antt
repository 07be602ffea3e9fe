use Rattle.std.proofs.Common.{◌++◌, arith}
use Rattle.std.proofs.lemmas.Int.{ints}
use Rattle.cf_code.specs.Bytes.{signed_four}
use Rattle.cf_code.proofs.switch.table_head.Goals as goal

pub returns-clause-only : goal.returns-clause-only
returns-clause-only c default low high tail is_pc low_fits high_fits is =
    let first = c.in_ok-default.ensures.only default (signed_four low ++ (signed_four high ++ tail)) is_pc is in
    let second = c.in_ok-low.ensures.only low (signed_four high ++ tail) low_fits first.1 in
    let third = c.in_ok-high.ensures.only high tail high_fits second.1 in
    (first.0, omega (arith, ints), omega (arith, ints), third.1)
