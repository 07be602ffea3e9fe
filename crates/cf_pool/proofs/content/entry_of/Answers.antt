-- An entry of numbers.
use Rattle.std.proofs.Common.{◌∷◌, sym, ◌∙◌, arith}
use Rattle.cf_pool.specs.Tags.{tag_byte}
use Rattle.cf_pool.specs.Calls.Contents.{numbers_entry}
use Rattle.cf_pool.proofs.EntryTextLemmas.{IsSpelled, numbers_spelled, found_in}
use Rattle.cf_pool.proofs.content.entry_of.Goals as goal

pub returns-in-Some-clause-found : goal.returns-in-Some-clause-found
returns-in-Some-clause-found c =
    found_in (numbers_entry c.args.tag c.args.content.now) c.in-Some.entry
    (IsSpelled (tag_byte c.args.tag ∷ c.args.content.now)) (sym c.numbers_entry.ensures ∙ c.in-Some.is)
    (numbers_spelled c.args.tag c.args.content.now c.requires (λ i. omega (arith, c.type_inv.content i)))
