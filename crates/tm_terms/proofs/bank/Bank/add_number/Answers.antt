-- The sum over the bank that has the constant.
use Rattle.std.proofs.Common.{refl}
use Rattle.tm_terms.specs.declared.op.TermId.{TermId}
use Rattle.tm_terms.specs.declared.op.Op.TheVariants.{Const}
use Rattle.tm_terms.proofs.MakeLemmas.{replaces_itself}
use Rattle.tm_terms.proofs.ChainRules.{chain-fits, chain-made, if-ok}
use Rattle.tm_terms.proofs.bank.Bank.add_number.Goals as goal

pub simplest-requires : goal.simplest-requires
simplest-requires c =
    let old = c.args.self.now in
    let mid = c.share.new.self in
    let made = c.in_ok-constant.ensures.made (Const c.sort-sort.result c.args.number)
    (replaces_itself old (Const c.sort-sort.result c.args.number) (record { below = tt; sorts = tt }) refl) refl in
    let constant = rw c.sort-sort.ensures at made in
    record {
      fits = chain-fits old mid c.args.x c.in_ok-constant.constant c.args.number c.requires.within constant
          c.in_ok-constant.ensures.keeps;
      kept = refl;
    }

pub returns-clause-made : goal.returns-clause-made
returns-clause-made c op more kept =
    let old = c.args.self.now in
    let mid = c.share.new.self in
    let made = c.in_ok-constant.ensures.made (Const c.sort-sort.result c.args.number)
    (replaces_itself old (Const c.sort-sort.result c.args.number) (record { below = tt; sorts = tt }) refl) refl in
    let constant = rw c.sort-sort.ensures at made in
    if-ok c.simplest.result _ _
    (λ (id : TermId) m. chain-made old mid c.args.x c.in_ok-constant.constant c.args.number c.requires.within constant
    c.in_ok-constant.ensures.keeps c.simplest.new.self op id more kept m)
    c.simplest.ensures.made
