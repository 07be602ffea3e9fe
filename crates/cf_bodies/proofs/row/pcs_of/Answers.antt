use Rattle.std.proofs.Common.{List, ℕ, nat_cmp, sym, ap, ◌∙◌, subst}
use Rattle.std.specs.List.Sorted.{IsSorted}
use Rattle.std.proofs.lemmas.List.{take_all}
use Rattle.cf_code.specs.Decoding.{pcs}
use Rattle.cf_bodies.proofs.RowLemmas.{sorted_pcs}
use Rattle.cf_bodies.proofs.row.pcs_of.Goals as goal

pub returns-clause-sorted : goal.returns-clause-sorted
returns-clause-sorted c =
    let l = c.loop-placed in
    let is = l.invariant ∙ ap pcs (take_all l.placed-index c.args.code.now c.loop-placed-test.false) in
    subst (λ (xs : List ℕ). IsSorted nat_cmp xs) (sym is) (sorted_pcs 0 c.args.code.now c.requires)
