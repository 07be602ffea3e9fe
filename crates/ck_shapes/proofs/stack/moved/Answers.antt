use Rattle.std.proofs.Common.{length}
use Rattle.std.proofs.lemmas.Option.{none-some}
use Rattle.ck_shapes.proofs.StackLemmas.{cut_words, cut_within, second_cut}
use Rattle.ck_shapes.proofs.stack.moved.Goals as goal

pub returns-in_default : goal.returns-in_default
returns-in_default c new m =
    let s = c.args.stack.now in
    none-some (length m.lower) (c.in_default.ensures.only (length m.lower)
    (cut_within s c.args.how.top m.lower m.top m.above)
    (cut_words s c.args.how.top m.lower m.top m.above))

pub returns-in_default-below : goal.returns-in_default-below
returns-in_default-below c new m =
    let front = c.split_at.result.0.now in
    let cut = second_cut c.args.stack.now front c.in-Some.above c.args.how new m c.in-Some.ensures.found.1
    c.split_at.ensures.front in
    none-some (length m.rest) (c.in_default-below.ensures.only (length m.rest)
    (cut_within front c.args.how.under m.rest m.under cut) (cut_words front c.args.how.under m.rest m.under cut))
