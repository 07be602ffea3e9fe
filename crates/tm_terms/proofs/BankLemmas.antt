-- What holds of every bank holds of it with one more term.
use Rattle.std.proofs.Common.{◌≡◌, ℕ, ◌<◌, ◌≤◌, List, [], ◌∷◌, ◌++◌, length}
use Rattle.std.proofs.Common.{take, inl, inr, ◌⊎◌, Bool, true, false, cond, ◌&&◌}
use Rattle.std.proofs.Common.{Some, None, refl, sym, ap, ◌∙◌, arith, subst, true≢false}
use Rattle.std.specs.Prelude.{slice_get}
use Rattle.std.specs.HashMap.{HashMap}
use Rattle.std.proofs.lemmas.List.{length-append, length-take, take-append-le}
use Rattle.std.proofs.lemmas.Option.{slice_get_within, same_Some, none-some}
use Rattle.std.proofs.Math.Seq.{take-append_seam}
use Rattle.jv_list.proofs.PlaceLemmas.{slice_get-push_last, slice_get-push_other, slice_get-push_cases}
use Rattle.jv_list.proofs.ElementLemmas.{some_at}
use Rattle.tm_terms.specs.declared.sort.Sort.{Sort}
use Rattle.tm_terms.specs.declared.op.Operands.{Operands}
use Rattle.tm_terms.specs.declared.op.Operands.TheVariants.{Nothing, One, Two, Three}
use Rattle.tm_terms.specs.declared.op.Op.{Op}
use Rattle.tm_terms.specs.Operations.{operands_of, AreBelow}
use Rattle.tm_terms.specs.Terms.{is_free, term_sort, op_sort, Fits, AreTerms}
use Rattle.tm_terms.specs.Sharing.{is_const, on_constants, AreShared, AreFolded, IsReduced, AreReduced}
use Rattle.tm_terms.specs.BankView.{place_in, AreSorts, ArePlaces, IsBank, PutsAt, HasSame}
use Rattle.tm_terms.specs.contracts.op.OpPartialEq.TheImpl as op_eq
use Rattle.tm_terms.proofs.KeyLemmas.{same_op}
use Rattle.tm_terms.proofs.TermLemmas.{sort-push_other, sort-push_last}

-- what stood at a place still does
pub get-push : (ops : List Op) (op : Op) (k : ℕ) → k < length ops → slice_get (ops ++ op ∷ []) k ≡ slice_get ops k
get-push ops op k h =
    let s = some_at ops k h in slice_get-push_other ops op s.0 k s.1 ∙ sym s.1

-- so operands that were constants still are
pub constants-push : (ops : List Op) (op : Op) (o : Operands) → AreBelow (length ops) o
    → on_constants (ops ++ op ∷ []) o ≡ on_constants ops o
constants-push ops op Nothing h = refl
constants-push ops op (One a) h = ap is_const (get-push ops op a.0 h)
constants-push ops op (Two a b) h =
    ap (λ x. is_const x && is_const (slice_get (ops ++ op ∷ []) b.0)) (get-push ops op a.0 h.0)
    ∙ ap (λ x. is_const (slice_get ops a.0) && is_const x) (get-push ops op b.0 h.1)
constants-push ops op (Three a b c) h = rw (get-push ops op a.0 h.0)
    (rw (get-push ops op b.0 h.1) (rw (get-push ops op c.0 h.2) refl))

-- operands below a front of the bank are below its length
pub below-more : (m n : ℕ) (o : Operands) → m ≤ n → AreBelow m o → AreBelow n o
below-more m n Nothing h b = tt
below-more m n (One a) h b = omega arith
below-more m n (Two a b) h c = (omega arith, omega arith)
below-more m n (Three a b c) h d = (omega arith, omega arith, omega arith)

module _ (ops : List Op) (op : Op) where
  pub terms-push : AreTerms ops → Fits ops op → AreTerms (ops ++ op ∷ [])
  terms-push old fits k other e =
      elim (slice_get-push_cases ops op other k e) [
        | inl stood ↦
            let within : k < length ops = slice_get_within ops k other stood in
            let le : k ≤ length ops = omega arith in
            let same : take k ops ≡ take k (ops ++ op ∷ []) = sym (take-append-le k ops (op ∷ []) le) in
            subst (λ (front : List Op). Fits front other) same (old k other stood)
        | inr last ↦
            let front : ops ≡ take k (ops ++ op ∷ []) =
            sym (ap (λ (n : ℕ). take n (ops ++ op ∷ [])) last.0 ∙ take-append_seam ops (op ∷ [])) in
            subst (λ (x : Op). Fits (take k (ops ++ op ∷ [])) x) last.1
            (subst (λ (xs : List Op). Fits xs op) front fits)
      ]

  folded-push : AreTerms ops → AreFolded ops → Fits ops op → on_constants ops (operands_of op) ≡ false
      → AreFolded (ops ++ op ∷ [])
  folded-push terms old fits folded k other e =
      elim (slice_get-push_cases ops op other k e) [
        | inl stood ↦
            let within : k < length ops = slice_get_within ops k other stood in
            let short : length (take k ops) ≤ length ops = omega (arith, length-take k ops) in
            let below : AreBelow (length ops) (operands_of other) =
            below-more _ (length ops) (operands_of other) short (terms k other stood).below in
            constants-push ops op (operands_of other) below ∙ old k other stood
        | inr last ↦
            subst (λ (x : Op). on_constants (ops ++ op ∷ []) (operands_of x) ≡ false) last.1
            (constants-push ops op (operands_of op) fits.below ∙ folded)
      ]

  reduced-push : AreReduced ops → IsReduced op → AreReduced (ops ++ op ∷ [])
  reduced-push old new k other e =
      elim (slice_get-push_cases ops op other k e)
      [ inl stood ↦ old k other stood | inr last ↦ subst IsReduced last.1 new ]

  sort-at : (sorts : List Sort) → AreSorts ops sorts → (k : ℕ) (x : Op)
      → (slice_get ops k ≡ Some x) ⊎ ((k ≡ length ops) × (op ≡ x))
      → slice_get (sorts ++ op_sort ops op ∷ []) k ≡ Some (term_sort (ops ++ op ∷ []) k)
  sort-at sorts old k x (inl stood) =
      let within : k < length ops = slice_get_within ops k x stood in
      slice_get-push_other sorts (op_sort ops op) (term_sort ops k) k (old.each k within)
      ∙ ap Some (sym (sort-push_other ops op k within))
  sort-at sorts old k x (inr last) =
      let end : k ≡ length sorts = omega (arith, old.even, last.0) in
      slice_get-push_last sorts (op_sort ops op) k end
      ∙ ap Some (sym (ap (term_sort (ops ++ op ∷ [])) last.0 ∙ sort-push_last ops op))

  sorts-push : (sorts : List Sort) → AreSorts ops sorts → AreSorts (ops ++ op ∷ []) (sorts ++ op_sort ops op ∷ [])
  sorts-push sorts old = record {
    even = omega (arith, old.even, length-append ops (op ∷ []), length-append sorts (op_sort ops op ∷ []));
    each = λ k h. let s = some_at (ops ++ op ∷ []) k h in
        sort-at sorts old k s.0 (slice_get-push_cases ops op s.0 k s.1);
  }

  -- a free term is in no map
  pub places-push_free : {S : Type 0} (places : HashMap Op ℕ S) → is_free op ≡ true → ArePlaces ops places
      → ArePlaces (ops ++ op ∷ []) places
  places-push_free places free old = record {
    found = λ x k e. slice_get-push_other ops op x k (old.found x k e);
    all = λ k x kept e. elim (slice_get-push_cases ops op x k e) [
      | inl stood ↦ old.all k x kept stood
      | inr last ↦ absurd (true≢false (sym free ∙ ap is_free last.1 ∙ kept))
    ];
  }

  module _ {S : Type 0} (places new : HashMap Op ℕ S) where
    found-by : ArePlaces ops places → (x : Op) (k : ℕ) (b : Bool) → (op_eq.ghosts).eq op x ≡ b
        → cond b (Some (length ops)) (place_in places x) ≡ Some k → slice_get (ops ++ op ∷ []) k ≡ Some x
    found-by old x k true same h =
        ap (λ (n : ℕ). slice_get (ops ++ op ∷ []) n) (sym (same_Some _ _ h))
        ∙ slice_get-push_last ops op (length ops) refl ∙ ap Some (same_op op x same)
    found-by old x k false same h = slice_get-push_other ops op x k (old.found x k h)

    all-old : place_in places op ≡ None → (x : Op) (k : ℕ) → place_in places x ≡ Some k → (b : Bool)
        → (op_eq.ghosts).eq op x ≡ b → cond b (Some (length ops)) (place_in places x) ≡ Some k
    all-old absent x k e true same = absurd (none-some k (sym absent ∙ ap (place_in places) (same_op op x same) ∙ e))
    all-old absent x k e false same = e

    -- an operation that was not in the map is put there with its place
    pub places-push : PutsAt places new op (length ops) → place_in places op ≡ None → ArePlaces ops places
        → ArePlaces (ops ++ op ∷ []) new
    places-push put absent old = record {
      found = λ x k e. found-by old x k ((op_eq.ghosts).eq op x) refl (sym (put.each x) ∙ e);
      all = λ k x kept e. elim (slice_get-push_cases ops op x k e) [
        | inl stood ↦ put.each x ∙ all-old absent x k (old.all k x kept stood) ((op_eq.ghosts).eq op x) refl
        | inr last ↦ subst (λ (y : Op). place_in new y ≡ Some k) last.1 (put.here ∙ ap Some (sym last.0))
      ];
    }

  -- a bank with one more term
  pub bank-push : {S : Type 0} (sorts : List Sort) (places new : HashMap Op ℕ S) → IsBank ops sorts places
      → Fits ops op → on_constants ops (operands_of op) ≡ false → IsReduced op → ArePlaces (ops ++ op ∷ []) new
      → IsBank (ops ++ op ∷ []) (sorts ++ op_sort ops op ∷ []) new
  bank-push sorts places new old fits folded reduced placed = record {
    terms = terms-push old.terms fits;
    folded = folded-push old.terms old.folded fits folded;
    reduced = reduced-push old.reduced reduced;
    sorted = sorts-push sorts old.sorted;
    placed = placed;
  }

-- and so is one whose map was left
pub bank-same : {S : Type 0} (ops : List Op) (sorts : List Sort) (places new : HashMap Op ℕ S) → HasSame places new
    → IsBank ops sorts places → IsBank ops sorts new
bank-same ops sorts places new same old = record {
  terms = old.terms;
  folded = old.folded;
  reduced = old.reduced;
  sorted = old.sorted;
  placed = record {
    found = λ x k e. old.placed.found x k (sym (same.each x) ∙ e);
    all = λ k x kept e. same.each x ∙ old.placed.all k x kept e;
  };
}

-- an operation that has one place in the map stands once
pub shared-by : {S : Type 0} (ops : List Op) (places : HashMap Op ℕ S) → ArePlaces ops places → AreShared ops
shared-by ops places placed j k op kept e f = same_Some j k (sym (placed.all j op kept e) ∙ placed.all k op kept f)
