-- The bank with a free term.
use Rattle.std.proofs.Common.{refl}
use Rattle.tm_terms.specs.declared.op.Op.TheVariants.{Free}
use Rattle.tm_terms.proofs.BankLemmas.{bank-push, places-push_free}
use Rattle.tm_terms.proofs.MakeLemmas.{made-free}
use Rattle.tm_terms.proofs.bank.Bank.add_free.Goals as goal

pub invariant_of-self-2 : goal.invariant_of-self-2
invariant_of-self-2 c =
    rw (c.in_ok-push_both.ensures.ops, c.in_ok-push_both.ensures.sorts)
    (bank-push c.self.inside.ops (Free c.args.sort) c.self.inside.sorts c.self.inside.places
    c.self.inside.places c.self.invariant
    (record { below = tt; sorts = tt }) refl tt
    (places-push_free c.self.inside.ops (Free c.args.sort) c.self.inside.places refl c.self.invariant.placed))

pub returns-clause-made : goal.returns-clause-made
returns-clause-made c =
    rw (c.in_ok-push_both.ensures.ops, ← c.self.view_is)
    (made-free c.self.inside.ops c.args.sort (record { 0 = c.length-place.result }) c.length-place.ensures)
