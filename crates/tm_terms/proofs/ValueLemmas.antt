-- The values of terms, one after the other.
use Rattle.std.proofs.Common.{◌≡◌, ℕ, suc, ◌+◌, ◌<◌, ◌≤◌, List, [], ◌∷◌, ◌++◌, length, take, drop}
use Rattle.std.proofs.Common.{Some, sym, ap, ◌∙◌, arith, true, false, append_assoc, below_more}
use Rattle.std.specs.Prelude.{slice_get, slice_index}
use Rattle.std.proofs.lemmas.List.{length-append, length-take, get_or_append_left, get_or_push}
use Rattle.std.proofs.lemmas.Option.{slice_get_within, get_or_from_slice_get}
use Rattle.jv_list.proofs.PlaceLemmas.{split_with, take_with}
use Rattle.tm_terms.specs.declared.sort.Sort.{Sort}
use Rattle.tm_terms.specs.declared.sort.Sort.TheVariants.{Bool as Truth}
use Rattle.tm_terms.specs.declared.op.Op.{Op}
use Rattle.jv_list.specs.Numbers.{bit_number}
use Rattle.tm_terms.specs.Operations.{operands_of, AreBelow}
use Rattle.tm_terms.specs.Equations.{number_by}
use Rattle.tm_terms.specs.Terms.{is_free, free_count, term_sort, term_value, op_sort, op_value, AreTerms}
use Rattle.tm_terms.specs.BankView.{AreSorts}
use Rattle.tm_terms.specs.Listed.{listed_sort, IsOnListed, AreValues}
use Rattle.tm_terms.proofs.BankLemmas.{below-more}
use Rattle.tm_terms.proofs.TermLemmas.{sort-append, value-append, sort-take}
use Rattle.tm_terms.proofs.TermLemmas.{value-take, sort-push_last, value-push_last, value-below}
use Rattle.tm_terms.proofs.TermLemmas.{first-same, second-same, third-same, number_by-same, free_count-append}

module _ (ops : List Op) (k : ℕ) (op : Op) (e : slice_get ops k ≡ Some op) where
  within : k < length ops
  within = slice_get_within ops k op e

  front-length : length (take k ops) ≡ k
  front-length = let h = within in omega (arith, length-take k ops)

  parts : (take k ops ++ op ∷ []) ++ drop (k + 1) ops ≡ ops
  parts =
      append_assoc (take k ops) (op ∷ []) (drop (k + 1) ops)
      ∙ sym (split_with ops k op within (sym (get_or_from_slice_get ops k op op e)))

  -- the front with the term
  pub front-next : take (k + 1) ops ≡ take k ops ++ op ∷ []
  front-next = take_with ops k op within (sym (get_or_from_slice_get ops k op op e))

  pub frees-next : free_count (take (k + 1) ops) ≡ free_count (take k ops) + bit_number (is_free op)
  unfolding free_count
  frees-next = ap free_count front-next ∙ free_count-append (take k ops) (op ∷ []) ∙ omega arith

  -- a term has the sort and the value of its operation over the terms before it
  pub sort-at : term_sort ops k ≡ op_sort (take k ops) op
  sort-at =
      let h : k < length (take k ops ++ op ∷ []) = omega (arith, front-length, length-append (take k ops) (op ∷ [])) in
      ap (λ (xs : List Op). term_sort xs k) (sym parts) ∙ sort-append (take k ops ++ op ∷ []) (drop (k + 1) ops) k h
      ∙ ap (term_sort (take k ops ++ op ∷ [])) (sym front-length) ∙ sort-push_last (take k ops) op

  pub value-at : (v : List ℕ) → term_value ops v k ≡ op_value (take k ops) v op
  value-at v =
      let h : k < length (take k ops ++ op ∷ []) = omega (arith, front-length, length-append (take k ops) (op ∷ [])) in
      ap (λ (xs : List Op). term_value xs v k) (sym parts) ∙ value-append (take k ops ++ op ∷ [])
      (drop (k + 1) ops) v k h
      ∙ ap (term_value (take k ops ++ op ∷ []) v) (sym front-length) ∙ value-push_last (take k ops) op v

-- how many are free is no more than how many there are
pub free_count-le : (ops : List Op) → free_count ops ≤ length ops
unfolding free_count
free_count-le [] = omega arith
free_count-le (op ∷ ops) = elim (is_free op) as (λ b. bit_number b + free_count ops ≤ suc (length ops))
    [ true ↦ omega (arith, free_count-le ops) | false ↦ omega (arith, free_count-le ops) ]

-- one more value
pub values-next : (ops : List Op) (v : List ℕ) (k : ℕ) (numbers : List ℕ) (number : ℕ) → AreValues ops v k numbers
    → number ≡ term_value ops v k → AreValues ops v (k + 1) (numbers ++ number ∷ [])
values-next ops v k numbers number old e = record {
  even = omega (arith, old.even, length-append numbers (number ∷ []));
  each = below_more (λ (j : ℕ). slice_index (numbers ++ number ∷ []) j ≡ term_value ops v j) k
      (λ j h. get_or_append_left numbers (number ∷ []) 0 j (omega (arith, old.even)) ∙ old.each j h)
      (get_or_push numbers number 0 k old.even ∙ e);
}

module _ (ops : List Op) (v : List ℕ) (k : ℕ) (op : Op) (sorts : List Sort) (numbers : List ℕ)
    (terms : AreTerms ops) (sorted : AreSorts ops sorts) (e : slice_get ops k ≡ Some op)
    (old : AreValues ops v k numbers) where
  listed : (j : ℕ) → j < k → listed_sort sorts j ≡ term_sort ops j
  listed j h =
      let w = slice_get_within ops k op e in
      get_or_from_slice_get sorts j (term_sort ops j) Truth (sorted.each j (omega arith))

  front : length (take k ops) ≡ k
  front = front-length ops k op e

  listed-front : (j : ℕ) → j < length (take k ops) → listed_sort sorts j ≡ term_sort (take k ops) j
  listed-front j h = listed j (omega (arith, front)) ∙ sym (sort-take ops k j h)

  values-front : (j : ℕ) → j < length (take k ops) → slice_index numbers j ≡ term_value (take k ops) v j
  values-front j h = old.each j (omega (arith, front)) ∙ sym (value-take ops k v j h)

  below : AreBelow (length (take k ops)) (operands_of op)
  below = (terms k op e).below

  -- the operation is on terms whose sorts and values are listed
  pub on-listed : IsOnListed op sorts numbers
  on-listed = record {
    below = below-more (length (take k ops)) (length numbers) (operands_of op) (omega (arith, front, old.even)) below;
    enough = let w = slice_get_within ops k op e in omega (arith, sorted.even, old.even);
    fit = rw (first-same Truth (length (take k ops)) (listed_sort sorts) (term_sort (take k ops)) listed-front
        (operands_of op) below)
        (rw (second-same Truth (length (take k ops)) (listed_sort sorts) (term_sort (take k ops)) listed-front
        (operands_of op) below)
        (rw (third-same Truth (length (take k ops)) (listed_sort sorts) (term_sort (take k ops)) listed-front
        (operands_of op) below)
        (terms k op e).sorts));
    words = λ j h.
        rw (old.each j (omega (arith, old.even)), listed j (omega (arith, old.even))) (value-below ops v j);
  }

  -- and its number over them is its term's value
  pub number-listed : number_by (listed_sort sorts) (slice_index numbers) (slice_index v (free_count (take k ops))) op
      ≡ term_value ops v k
  number-listed =
      number_by-same (length (take k ops)) (listed_sort sorts) (term_sort (take k ops)) listed-front op below
      (slice_index numbers) (term_value (take k ops) v) values-front (slice_index v (free_count (take k ops)))
      ∙ sym (value-at ops k op e v)
