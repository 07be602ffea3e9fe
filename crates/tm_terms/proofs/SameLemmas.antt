-- When a term has the value of an operation.
use Rattle.std.proofs.Common.{◌≡◌, ℕ, ◌<◌, ◌^◌, ◌%◌, List, length, take, Some, sym, ap, ◌∙◌, arith}
use Rattle.std.specs.Prelude.{slice_get}
use Rattle.std.proofs.lemmas.List.{length-take}
use Rattle.std.proofs.Math.Nat.{mod-eq_of_lt}
use Rattle.tm_terms.specs.declared.sort.Sort.TheVariants.{Bool as Truth}
use Rattle.tm_terms.specs.declared.op.TermId.{TermId}
use Rattle.tm_terms.specs.declared.op.Op.{Op}
use Rattle.tm_terms.specs.Words.{width_of}
use Rattle.tm_terms.specs.Operations.{operands_of}
use Rattle.tm_terms.specs.Terms.{term_sort, term_value, op_sort, Fits, AreTerms}
use Rattle.tm_terms.specs.Rules.{IsSame, named_of}
use Rattle.tm_terms.proofs.TermLemmas.{value-below, sort-take, first-same, second-same, third-same}
use Rattle.tm_terms.proofs.BankLemmas.{below-more}

-- the number that the operation names is the term's
pub same-by : (ops : List Op) (op : Op) (id : TermId) → id.0 < length ops → term_sort ops id.0 ≡ op_sort ops op
    → ((v : List ℕ) → named_of ops v op ≡ term_value ops v id.0) → IsSame ops op id
same-by ops op id within sort named = record {
  within = within;
  sort = sort;
  value = λ v.
      sym (mod-eq_of_lt (value-below ops v id.0))
      ∙ ap (λ s. term_value ops v id.0 % 2 ^ width_of s) sort
      ∙ ap (λ (n : ℕ). n % 2 ^ width_of (op_sort ops op)) (sym (named v));
}

-- a truth value is 0 or 1
pub truth-below : (ops : List Op) (v : List ℕ) (k : ℕ) → term_sort ops k ≡ Truth → term_value ops v k < 2
truth-below ops v k sort = rw sort at (value-below ops v k)

-- an operation that stands in a bank fits it
pub fits-stands : (ops : List Op) (k : ℕ) (op : Op) → AreTerms ops → slice_get ops k ≡ Some op → Fits ops op
fits-stands ops k op terms e =
    let fits = terms k op e in
    let n = length (take k ops) in
    let same = sort-take ops k in
    record {
      below = below-more n (length ops) (operands_of op) (omega (arith, length-take k ops)) fits.below;
      sorts = rw (
        ← first-same Truth n (term_sort (take k ops)) (term_sort ops) same (operands_of op) fits.below,
        ← second-same Truth n (term_sort (take k ops)) (term_sort ops) same (operands_of op) fits.below,
        ← third-same Truth n (term_sort (take k ops)) (term_sort ops) same (operands_of op) fits.below,
      ) fits.sorts;
    }
