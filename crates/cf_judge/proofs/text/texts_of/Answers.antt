use Rattle.std.proofs.Common.{◌≡◌, ℕ, ◌+◌, ◌<◌, ◌≤◌, List, Option, Some, length, get_or, sym, subst, ◌∙◌, ◌++◌}
use Rattle.std.proofs.Common.{◌∷◌, []}
use Rattle.std.proofs.Common.{inl, inr, ap, arith, length-append}
use Rattle.std.specs.Prelude.{slice_get}
use Rattle.std.proofs.lemmas.Bool.{cases_lt}
use Rattle.std.proofs.lemmas.Option.{slice_get-get_or, slice_get_past}
use Rattle.cf_pool.specs.declared.entry.PoolEntry.{PoolEntry}
use Rattle.cf_judge.specs.declared.text.Text.{Text}
use Rattle.cf_judge.specs.Texts.{IsTextOf}
use Rattle.cf_judge.proofs.text.texts_of.Goals as goal
use Rattle.jv_list.proofs.PlaceLemmas.{slice_get-push_last, slice_get-push_other}

module _ (pool : List PoolEntry) (texts : List (Option Text)) (count : ℕ) (are : length texts ≡ count) where
  abbrev AreSoFar : ℕ → List (Option Text) → Type 0
  AreSoFar n ts = (k : ℕ) → k < n → IsTextOf pool (slice_get pool k) (slice_get ts k)

  one_more : (t : Option Text) → AreSoFar count texts → IsTextOf pool (slice_get pool count) (Some t)
      → AreSoFar (count + 1) (texts ++ t ∷ [])
  one_more t before here = λ k below. elim (cases_lt k count) [
    | inl lt ↦
        let old : slice_get texts k ≡ Some (get_or texts k t) = slice_get-get_or texts k t (omega arith) in
        let new = slice_get-push_other texts t (get_or texts k t) k old in
        subst (λ (o : Option (Option Text)). IsTextOf pool (slice_get pool k) o) (old ∙ sym new) (before k lt)
    | inr ge ↦
        let same : count ≡ k = omega arith in
        subst (λ (j : ℕ). IsTextOf pool (slice_get pool j) (slice_get (texts ++ t ∷ []) j)) same
        (subst (λ (o : Option (Option Text)). IsTextOf pool (slice_get pool count) o)
        (sym (slice_get-push_last texts t count (sym are))) here)
  ]

  beyond : (k : ℕ) → length pool ≤ k → length texts ≤ k → IsTextOf pool (slice_get pool k) (slice_get texts k)
  beyond k past end = rw (slice_get_past pool k past, slice_get_past texts k end) tt

  whole : length pool ≡ count → AreSoFar count texts → (k : ℕ) → IsTextOf pool (slice_get pool k) (slice_get texts k)
  whole all before k =
      elim (cases_lt k count) [ inl lt ↦ before k lt | inr ge ↦ beyond k (omega arith) (omega arith) ]

pub loop-index-preserved : goal.loop-index-preserved
loop-index-preserved c =
    let l = c.loop-index in
    let e = c.index-pool-index.result in
    let here : slice_get c.args.pool.now l.index ≡ Some e =
    slice_get-get_or c.args.pool.now l.index e c.loop-index-test.true ∙ ap (λ x. Some x) (sym c.index-pool-index.is) in
    let t = c.in_ok-text_of_entry.field-0 in
    let text = c.in_ok-text_of_entry.ensures.text c.args.pool.now l.invariant.firsts here in
    record {
      firsts = c.in_ok-text_of_entry.ensures.firsts c.args.pool.now l.invariant.firsts here;
      count = rw c.in_ok-add.ensures.ok (omega (arith, length-append l.texts (t ∷ [])));
      texts =
          rw c.in_ok-add.ensures.ok (one_more c.args.pool.now l.texts l.index l.invariant.count t l.invariant.texts
          (rw here text));
    }

pub returns : goal.returns
returns c =
    let l = c.loop-index in
    whole c.args.pool.now l.texts l.index l.invariant.count (omega arith) l.invariant.texts
