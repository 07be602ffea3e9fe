-- The pcs of instructions rise, so that a search finds them.
use Rattle.std.proofs.Common.{◌≡◌, ℕ, ◌+◌, ◌<◌, List, [], ◌∷◌, Result, Ok, Err, length, get_or, Contains, nat_cmp}
use Rattle.std.proofs.Common.{suc, zero, true, false, refl, arith, IfOk}
use Rattle.std.specs.Ordering.{is_lt}
use Rattle.std.specs.declared.cmp.Ordering.TheVariants.{Equal}
use Rattle.std.specs.List.{HoldsAt}
use Rattle.std.specs.List.Sorted.{IsSorted, IsBinarySearchResult, IsSearchInRange}
use Rattle.std.specs.Result.{is_ok}
use Rattle.std.proofs.lemmas.Cmp.{nat_cmp_total}
use Rattle.std.proofs.lemmas.List.Sorted.{searchable_from_sorted}
use Rattle.jv_list.proofs.SearchLemmas.{not_there, no_less, tied}
use Rattle.cf_code.specs.declared.code.Placed.{Placed}
use Rattle.cf_code.specs.Decoding.{IsLaid, pcs}
use Rattle.cf_code.specs.Instr.{spelling}

next_behind : (pc : ℕ) (code : List Placed) → IsLaid pc code → (k n d : ℕ) → n ≡ k + 1 → n < length (pcs code)
    → is_lt (nat_cmp (get_or (pcs code) n d) (get_or (pcs code) k d)) ≡ false
next_behind pc [] laid k n d e lt = absurd (omega arith)
next_behind pc (x ∷ []) laid k n d e lt = absurd (omega arith)
next_behind pc (x ∷ y ∷ code) laid zero zero d e lt = absurd (omega arith)
next_behind pc (x ∷ y ∷ code) laid zero (suc zero) d e lt = no_less x.pc y.pc (omega (arith, laid.0, laid.1.0))
next_behind pc (x ∷ y ∷ code) laid zero (suc (suc n)) d e lt = absurd (omega arith)
next_behind pc (x ∷ y ∷ code) laid (suc k) zero d e lt = absurd (omega arith)
next_behind pc (x ∷ y ∷ code) laid (suc k) (suc n) d e lt =
    next_behind (pc + length (spelling x.pc x.instr)) (y ∷ code) laid.1 k n d (omega arith) (omega arith)

pub sorted_pcs : (pc : ℕ) (code : List Placed) → IsLaid pc code → IsSorted nat_cmp (pcs code)
sorted_pcs pc code laid k d le lt = next_behind pc code laid k (k + 1) d refl lt

module _ (xs : List ℕ) (x : ℕ) where
  pub search_found : (r : Result ℕ ℕ) → IsSearchInRange r (length xs) → IfOk r (HoldsAt (λ y. nat_cmp y x ≡ Equal) xs)
      → is_ok r ≡ true
      → Contains xs x
  search_found (Ok i) within hit t = (i, within, tied _ _ (hit x))
  search_found (Err i) within hit t = absurd cc

  pub search_finds : IsSorted nat_cmp xs → (r : Result ℕ ℕ) → IsBinarySearchResult (λ y. nat_cmp y x) xs r
      → Contains xs x
      → is_ok r ≡ true
  search_finds sorted (Ok i) hit member = cc
  search_finds sorted (Err i) hit member =
      let cut = hit (searchable_from_sorted nat_cmp_total (λ (n : ℕ). n) xs x sorted) in
      absurd (not_there xs x i cut.0 cut.1 member)
