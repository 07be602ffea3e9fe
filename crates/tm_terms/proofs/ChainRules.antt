-- A sum with a constant of a sum with a constant.
use Rattle.std.proofs.Common.{◌≡◌, ℕ, ◌+◌, ◌%◌, ◌^◌, ◌<◌, ◌∙◌, List, length}
use Rattle.std.proofs.Common.{Some, refl, sym, ap, arith, ◌≤◌, mod-lt, false, Result, Ok, Err, IfOk}
use Rattle.std.specs.Prelude.{slice_get}
use Rattle.std.proofs.Math.Nat.{add-mod-mod, mod-add-mod, mod-eq_of_lt}
use Rattle.std.proofs.lemmas.Nat.{pow_pos}
use Rattle.std.proofs.lemmas.List.{length-append}
use Rattle.tm_terms.specs.declared.op.TermId.{TermId}
use Rattle.tm_terms.specs.declared.op.Op.{Op}
use Rattle.tm_terms.specs.declared.op.Op.TheVariants.{Add, Const}
use Rattle.tm_terms.specs.Words.{width_of}
use Rattle.tm_terms.specs.Terms.{is_free, term_sort, term_value}
use Rattle.tm_terms.specs.Terms.{Fits, AreTerms, Continues}
use Rattle.tm_terms.specs.Rules.{IsPlus, IsMoreBy, IsMade}
use Rattle.tm_terms.proofs.SameLemmas.{fits-stands}
use Rattle.tm_terms.proofs.MakeLemmas.{value-stands, sort-stands}
use Rattle.tm_terms.proofs.LawLemmas.{value-kept, sort-kept}

-- the two constants are added first
sums : (x c d p : ℕ) → ((x + c) % p + d) % p ≡ (x + (c + d) % p) % p
sums x c d p =
    mod-add-mod (x + c) p d ∙ ap (λ (n : ℕ). n % p) (omega arith) ∙ sym (add-mod-mod x (c + d) p)

module _ (ops : List Op) (terms : AreTerms ops) (a x y : TermId) (e : slice_get ops a.0 ≡ Some (Add x y)) where
  -- a sum whose second, or first, operand is a constant
  pub plus_second : (c : ℕ) → ((v : List ℕ) → term_value ops v y.0 ≡ c) → IsPlus ops a x c
  plus_second c number = let f = fits-stands ops a.0 (Add x y) terms e in record {
    within = f.below.0;
    sort = sym (sort-stands ops terms a.0 (Add x y) e);
    value = λ v. value-stands ops terms a.0 (Add x y) e v refl ∙ rw (number v) refl;
  }

  pub plus_first : (c : ℕ) → ((v : List ℕ) → term_value ops v x.0 ≡ c) → IsPlus ops a y c
  plus_first c number = let f = fits-stands ops a.0 (Add x y) terms e in record {
    within = f.below.1;
    sort = f.sorts ∙ sym (sort-stands ops terms a.0 (Add x y) e);
    value = λ v. value-stands ops terms a.0 (Add x y) e v refl
        ∙ rw (number v, f.sorts) (ap (λ (n : ℕ). n % 2 ^ width_of (term_sort ops x.0)) (omega arith));
  }

module _ (ops : List Op) (a b x : TermId) (c d k : ℕ) (fits : Fits ops (Add a b)) where
  pub more_second : IsPlus ops a x c → ((v : List ℕ) → term_value ops v b.0 ≡ d)
      → k ≡ (c + d) % 2 ^ width_of (term_sort ops x.0) → IsMoreBy ops (Add a b) x k
  more_second plus number is = record {
    within = plus.within;
    sort = plus.sort;
    number = rw is (mod-lt (c + d) (pow_pos (width_of (term_sort ops x.0))));
    value = λ v. rw (number v, plus.value v, is, ← plus.sort)
        (sums (term_value ops v x.0) c d (2 ^ width_of (term_sort ops x.0)));
  }

  pub more_first : IsPlus ops b x c → ((v : List ℕ) → term_value ops v a.0 ≡ d)
      → k ≡ (c + d) % 2 ^ width_of (term_sort ops x.0) → IsMoreBy ops (Add a b) x k
  more_first plus number is = record {
    within = plus.within;
    sort = plus.sort ∙ fits.sorts;
    number = rw is (mod-lt (c + d) (pow_pos (width_of (term_sort ops x.0))));
    value = λ v. rw (number v, plus.value v, is, ← fits.sorts, ← plus.sort)
        (ap (λ (n : ℕ). n % 2 ^ width_of (term_sort ops x.0)) (omega arith)
        ∙ sums (term_value ops v x.0) c d (2 ^ width_of (term_sort ops x.0)));
  }

-- what holds of an answer
pub if-ok : {T E : Type 0} (r : Result T E) (P Q : T → Type 0) → ((x : T) → P x → Q x) → IfOk r P → IfOk r Q
if-ok (Ok x) P Q f h = f x h
if-ok (Err e) P Q f h = h

-- the sum with the constant, made over the bank that has it
module _ (old mid : List Op) (x c : TermId) (k : ℕ) (within : x.0 < length old)
    (constant : IsMade old mid (Const (term_sort old x.0) k) c) (grown : Continues old mid) where
  pub chain-fits : Fits mid (Add x c)
  chain-fits =
      let longer : length old ≤ length mid = rw grown.1 (omega (arith, length-append old grown.0)) in
      record {
        below = (omega (arith, within), constant.within);
        sorts = constant.sort ∙ sym (sort-kept old mid x.0 grown within);
      }

  pub chain-made : (new : List Op) (op : Op) (id : TermId) → IsMoreBy old op x k → is_free op ≡ false
      → IsMade mid new (Add x c) id → IsMade old new op id
  chain-made new op id more kept made = record {
    within = made.within;
    sort = made.sort ∙ sort-kept old mid x.0 grown within ∙ more.sort;
    value = λ v. made.value v
        ∙ rw (
          sort-kept old mid x.0 grown within,
          value-kept old mid v x.0 grown within,
          constant.value v,
          mod-eq_of_lt more.number,
        ) refl
        ∙ sym (more.value v);
    inputs = rw kept (omega (arith, made.inputs, constant.inputs));
  }
