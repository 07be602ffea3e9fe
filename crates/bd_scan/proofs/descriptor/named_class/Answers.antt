-- What begins with no bracket is no array.
use Rattle.std.proofs.Common.{None, sym, arith}
use Rattle.std.proofs.lemmas.Str.Pattern.{strip_prefix_char}
use Rattle.bd_scan.proofs.DescriptorLemmas.{no_array}
use Rattle.bd_scan.proofs.descriptor.named_class.Goals as goal

pub returns-in-None : goal.returns-in-None
returns-in-None c =
    sym (no_array c.args.text.now (strip_prefix_char 91 c.args.text.now None c.in-None.ensures.cases (omega arith)))
