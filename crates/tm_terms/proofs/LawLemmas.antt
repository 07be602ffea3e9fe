-- The laws that callers cite.
use Rattle.std.proofs.Common.{ℕ, ◌<◌, ◌≤◌, List, [], ◌++◌, length}
use Rattle.std.proofs.Common.{take, sym, ap, ◌∙◌, arith, append_assoc}
use Rattle.std.proofs.lemmas.List.{append-nil, length-append, length-take}
use Rattle.tm_terms.specs.declared.sort.Sort.TheVariants.{Bool as Truth}
use Rattle.tm_terms.specs.declared.op.Op.{Op}
use Rattle.tm_terms.specs.Operations.{operands_of}
use Rattle.tm_terms.specs.Terms.{term_sort}
use Rattle.tm_terms.specs.Laws.{ContinuesItself, ContinuesThrough, SortKept, ValueKept, FitsKept}
use Rattle.tm_terms.specs.Laws.{ValueBelow, FitsStands, SortStands, ValueStands, FreeValue}
use Rattle.tm_terms.proofs.BankLemmas.{below-more}
use Rattle.tm_terms.proofs.TermLemmas.{sort-append, value-append, value-below, first-same, second-same, third-same}
use Rattle.tm_terms.proofs.ValueLemmas.{value-at}
use Rattle.tm_terms.proofs.SameLemmas.{fits-stands}
use Rattle.tm_terms.proofs.MakeLemmas.{sort-stands, value-stands}

pub continues-itself : ContinuesItself
continues-itself ops = ([], sym (append-nil ops))

pub continues-through : ContinuesThrough
continues-through a b c p q =
    (p.0 ++ q.0, q.1 ∙ ap (λ (xs : List Op). xs ++ q.0) p.1 ∙ append_assoc a p.0 q.0)

pub sort-kept : SortKept
sort-kept old new k p h = rw p.1 (sort-append old p.0 k h)

pub value-kept : ValueKept
value-kept old new v k p h = rw p.1 (value-append old p.0 v k h)

pub fits-kept : FitsKept
fits-kept old new op p fits =
    let n = length old in
    let same = λ (k : ℕ) (h : k < n). sort-kept old new k p h in
    let longer : n ≤ length new = rw p.1 (omega (arith, length-append old p.0)) in
    record {
      below = below-more n (length new) (operands_of op) longer fits.below;
      sorts = rw (
        first-same Truth n (term_sort new) (term_sort old) same (operands_of op) fits.below,
        second-same Truth n (term_sort new) (term_sort old) same (operands_of op) fits.below,
        third-same Truth n (term_sort new) (term_sort old) same (operands_of op) fits.below,
      ) fits.sorts;
    }

pub value-is-below : ValueBelow
value-is-below ops v k = value-below ops v k

pub fits-there : FitsStands
fits-there ops k op terms e = (
  fits-stands ops k op terms e,
  below-more (length (take k ops)) k (operands_of op) (omega (arith, length-take k ops)) (terms k op e).below,
)

pub sort-there : SortStands
sort-there ops k op terms e = sort-stands ops terms k op e

pub value-there : ValueStands
value-there ops k op v terms e kept = value-stands ops terms k op e v kept

pub free-there : FreeValue
free-there ops k s v e = value-at ops k _ e v
