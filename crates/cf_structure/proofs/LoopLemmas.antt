-- Reading one structure after the other, as a loop does.
use Rattle.std.proofs.Common.{◌≡◌, ℕ, suc, ◌-◌, ◌+◌, ◌≤◌, ◌<◌, List, [], ◌∷◌, ◌++◌, Result, Ok, Err, sym, ap, ◌∙◌}
use Rattle.std.proofs.Common.{append_assoc, arith, refl}
use Rattle.std.proofs.lemmas.List.{append-nil}
use Rattle.cf_structure.specs.declared.fault.Cut.{Cut}
use Rattle.cf_structure.specs.declared.fault.Stop.{Stop}
use Rattle.cf_structure.specs.declared.fault.Stop.TheVariants.{At, NoMemory}
use Rattle.cf_structure.specs.Structure.{◌>>=◌, many_at}
use Rattle.cf_structure.specs.Calls.Views.{Stops}

-- what was read before, and what is still read
abbrev pub with_front : {A : Type 0} → List A → Result (List A × List ℕ) Cut → Result (List A × List ℕ) Cut
with_front front read = read >>= λ x. Ok (front ++ x.0, x.1)

regroup : {A : Type 0} (front : List A) (first : A) (read : Result (List A × List ℕ) Cut)
    → with_front front (read >>= λ x. Ok (first ∷ x.0, x.1)) ≡ with_front (front ++ first ∷ []) read
regroup {A} front first (Ok x) = ap (λ (xs : List A). Ok (xs, x.1)) (simp append_assoc)
regroup front first (Err e) = refl

module _ {A : Type 0} (item : List ℕ → Result (A × List ℕ) Cut) (front : List A) (count i : ℕ) (bytes : List ℕ)
    (total : Result (List A × List ℕ) Cut) where
  -- one more is read
  pub goes_on : (first : A) (after : List ℕ) → i < count → item bytes ≡ Ok (first, after)
      → with_front front (many_at item (count - i) bytes) ≡ total
      → with_front (front ++ first ∷ []) (many_at item (count - (i + 1)) after) ≡ total
  unfolding many_at
  goes_on first after lt h so_far =
      let k : count - i ≡ suc (count - (i + 1)) = omega arith in
      let one : with_front front (many_at item (count - i) bytes)
      ≡ with_front (front ++ first ∷ []) (many_at item (count - (i + 1)) after) =
      rw (k, h) (regroup front first (many_at item (count - (i + 1)) after)) in
      sym one ∙ so_far

  -- the next one has a fault
  pub ends : (stop : Stop) → i < count → Stops stop (item bytes)
      → with_front front (many_at item (count - i) bytes) ≡ total → Stops stop total
  unfolding many_at
  ends NoMemory lt h so_far = tt
  ends (At cut) lt h so_far =
      let k : count - i ≡ suc (count - (i + 1)) = omega arith in
      let one : with_front front (many_at item (count - i) bytes) ≡ Err cut = rw (k, h) refl in
      sym so_far ∙ one

  -- all are read
  pub is_done : count ≤ i → with_front front (many_at item (count - i) bytes) ≡ total → total ≡ Ok (front, bytes)
  unfolding many_at
  is_done le so_far =
      let k : count - i ≡ 0 = omega arith in
      let one : with_front front (many_at item (count - i) bytes) ≡ Ok (front, bytes) =
      rw k (ap (λ (xs : List A). Ok (xs, bytes)) (append-nil front)) in
      sym so_far ∙ one
