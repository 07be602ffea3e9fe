use Rattle.std.proofs.Common.{◌∙◌, w32, arith}
use Rattle.std.proofs.lemmas.Int.{to_z-of_z}
use Rattle.st_text.proofs.OrderLemmas.{wraps}
use Rattle.st_text.proofs.order.wrapped_difference.Goals as goal

pub returns : goal.returns
returns c =
    to_z-of_z w32 c.cast_signed.result (record { sfits = c.cast_signed.type_inv }) ∙ c.cast_signed.ensures
    ∙ wraps c.args.a c.args.b (omega arith)
