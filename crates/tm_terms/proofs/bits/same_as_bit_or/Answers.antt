-- The bits of a word and itself.
use Rattle.std.proofs.Common.{◌≡◌, rules}
use Rattle.tm_terms.proofs.BitRules.{bit_or_equal}
use Rattle.tm_terms.proofs.bits.same_as_bit_or.Goals as goal

pub returns-then-eq : goal.returns-then-eq
returns-then-eq c =
    let equal : c.args.b ≡ c.args.a = search rules in
    bit_or_equal c.args.bank.now c.args.a c.args.b c.requires equal
