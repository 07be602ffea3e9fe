-- The brackets end where no more comes.
use Rattle.std.proofs.Common.{None, sym, ◌∙◌, arith}
use Rattle.std.proofs.lemmas.Str.Pattern.{strip_prefix_char}
use Rattle.bd_scan.proofs.DescriptorLemmas.{no_bracket_first}
use Rattle.bd_scan.proofs.descriptor.without_brackets.Goals as goal

pub returns : goal.returns
returns c =
    let rest = c.loop-after.rest.now in
    sym (no_bracket_first rest (strip_prefix_char 91 rest None c.in_default.ensures.cases (omega arith)))
    ∙ c.loop-after.invariant.same
