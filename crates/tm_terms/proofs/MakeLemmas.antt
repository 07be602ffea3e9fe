-- What is made of an operation.
use Rattle.std.proofs.Common.{◌≡◌, ℕ, ◌+◌, ◌^◌, ◌%◌, List, [], ◌∷◌, ◌++◌, length, take, Some, refl, ap, ◌∙◌, arith}
use Rattle.std.proofs.Common.{false, inl, inr, ◌⊎◌}
use Rattle.std.specs.Prelude.{slice_get}
use Rattle.std.proofs.lemmas.List.{length-append}
use Rattle.std.proofs.lemmas.Option.{slice_get_within}
use Rattle.tm_terms.specs.declared.sort.Sort.{Sort}
use Rattle.tm_terms.specs.declared.op.TermId.{TermId}
use Rattle.tm_terms.specs.declared.op.Op.{Op}
use Rattle.tm_terms.specs.declared.op.Op.TheVariants.{Free}
use Rattle.tm_terms.specs.Words.{width_of}
use Rattle.jv_list.specs.Numbers.{bit_number}
use Rattle.tm_terms.specs.Equations.{sort_by, number_by}
use Rattle.tm_terms.specs.Terms.{is_free, free_count, term_sort, term_value, op_sort, op_value, Fits, AreTerms}
use Rattle.tm_terms.specs.Rules.{Replaces, IsMade}
use Rattle.tm_terms.proofs.TermLemmas.{sort-take, value-take, sort-append}
use Rattle.tm_terms.proofs.TermLemmas.{value-append, sort_by-same, number_by-same, free_count-append}
use Rattle.tm_terms.proofs.TermLemmas.{sort-push_last, value-push_last}
use Rattle.tm_terms.proofs.ValueLemmas.{sort-at, value-at}
use Rattle.tm_terms.proofs.FoldLemmas.{named-kept}

-- an input is asked by a free term alone
pub number-kept : (s : ℕ → Sort) (n : ℕ → ℕ) (i j : ℕ) (op : Op) → is_free op ≡ false
    → number_by s n i op ≡ number_by s n j op
number-kept s n i j op kept = ap (λ (x : ℕ). x % 2 ^ width_of (sort_by s op)) (named-kept _ _ _ _ i j op kept)

-- an operation has over a longer bank what it has over the bank that it fits
pub op_sort-append : (ops more : List Op) (op : Op) → Fits ops op → op_sort (ops ++ more) op ≡ op_sort ops op
op_sort-append ops more op fits =
    sort_by-same (length ops) (term_sort (ops ++ more)) (term_sort ops) (λ k h. sort-append ops more k h) op fits.below

pub op_value-append : (ops more : List Op) (v : List ℕ) (op : Op) → Fits ops op → is_free op ≡ false
    → op_value (ops ++ more) v op ≡ op_value ops v op
op_value-append ops more v op fits kept =
    number_by-same (length ops) (term_sort (ops ++ more)) (term_sort ops) (λ k h. sort-append ops more k h) op
    fits.below
    (term_value (ops ++ more) v) (term_value ops v) (λ k h. value-append ops more v k h) _
    ∙ number-kept (term_sort ops) (term_value ops v) _ _ op kept

-- so each term has the sort and the value of its operation over the whole bank
module _ (ops : List Op) (terms : AreTerms ops) (k : ℕ) (op : Op) (e : slice_get ops k ≡ Some op) where
  pub sort-stands : term_sort ops k ≡ op_sort ops op
  sort-stands =
      sort-at ops k op e
      ∙ sort_by-same (length (take k ops)) (term_sort (take k ops)) (term_sort ops) (λ j h. sort-take ops k j h) op
      (terms k op e).below

  pub value-stands : (v : List ℕ) → is_free op ≡ false → term_value ops v k ≡ op_value ops v op
  value-stands v kept =
      value-at ops k op e v
      ∙ number_by-same (length (take k ops)) (term_sort (take k ops)) (term_sort ops) (λ j h. sort-take ops k j h) op
      (terms k op e).below (term_value (take k ops) v) (term_value ops v) (λ j h. value-take ops k v j h) _
      ∙ number-kept (term_sort ops) (term_value ops v) _ _ op kept

-- how many are free with one more term
frees-push : (ops : List Op) (op : Op) → free_count (ops ++ op ∷ []) ≡ free_count ops + bit_number (is_free op)
unfolding free_count
frees-push ops op = free_count-append ops (op ∷ []) ∙ omega arith

-- an operation stands for itself
pub replaces_itself : (ops : List Op) (op : Op) → Fits ops op → is_free op ≡ false → Replaces ops op op
replaces_itself ops op fits kept = record { fits = fits; sort = refl; value = λ v. refl; kept = kept }

-- and what stands for one that stands for it does
pub replaces_through : (ops : List Op) (a b c : Op) → Replaces ops a b → Replaces ops b c → Replaces ops a c
replaces_through ops a b c r s = record {
  fits = s.fits;
  sort = s.sort ∙ r.sort;
  value = λ v. s.value v ∙ r.value v;
  kept = s.kept;
}

-- the term of an operation that stands for another
pub made-by : (old new : List Op) (op other : Op) (id : TermId) → Replaces old op other → is_free op ≡ false →
    AreTerms new
    → (new ≡ old) ⊎ (new ≡ old ++ other ∷ []) → slice_get new id.0 ≡ Some other → IsMade old new op id
made-by old new op other id r kept terms (inl same) e = record {
  within = slice_get_within new id.0 other e;
  sort = sort-stands new terms id.0 other e ∙ rw same r.sort;
  value = λ v. value-stands new terms id.0 other e v r.kept ∙ rw same (r.value v);
  inputs = rw (same, kept) (omega arith);
}
made-by old new op other id r kept terms (inr more) e = record {
  within = slice_get_within new id.0 other e;
  sort = sort-stands new terms id.0 other e ∙ rw more (op_sort-append old (other ∷ []) other r.fits) ∙ r.sort;
  value = λ v. value-stands new terms id.0 other e v r.kept
      ∙ rw more (op_value-append old (other ∷ []) v other r.fits r.kept) ∙ r.value v;
  inputs = rw (more, kept) (rw r.kept at (frees-push old other));
}

-- a free term
pub made-free : (old : List Op) (sort : Sort) (id : TermId) → id.0 ≡ length old → IsMade old
    (old ++ Free sort ∷ []) (Free sort) id
made-free old sort id e = record {
  within = omega (arith, e, length-append old (Free sort ∷ []));
  sort = rw e (sort-push_last old (Free sort));
  value = λ v. rw e (value-push_last old (Free sort) v);
  inputs = frees-push old (Free sort);
}
