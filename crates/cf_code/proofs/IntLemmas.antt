-- Numbers of four bytes at the front of bytes are found, or there are none.
use Rattle.std.proofs.Common.{◌≡◌, ℕ, ℤ, ◌<◌, ◌^◌, List, ◌++◌, take, drop, to_z, sym, ap, subst, ◌∙◌}
use Rattle.std.specs.Int.{w32, from_be_bytes}
use Rattle.std.specs.Int.RustNames.{FitsSigned}
use Rattle.std.proofs.lemmas.Nat.{from_be_bytes-to_be_bytes_4}
use Rattle.cf_code.specs.Bytes.{four, signed_four}
use Rattle.cf_code.proofs.ByteLemmas.{signed_four_back}
use Rattle.jv_list.proofs.DecidedLemmas.{Decided, both, other, below, signed, lists}

-- a signed number of four bytes in front, with what is behind it
abbrev pub Int : (ℤ → List ℕ → Type 0) → List ℕ → Type 0
Int P body = (z : ℤ) × (tail : List ℕ) × FitsSigned w32 z × (body ≡ signed_four z ++ tail) × P z tail

module _ (body : List ℕ) where
  int : ℤ
  int = to_z w32 (from_be_bytes w32 (take 4 body))

  -- the number that stands in front
  int_back : (z : ℤ) (tail : List ℕ) → FitsSigned w32 z → body ≡ signed_four z ++ tail
      → (int ≡ z) × (drop 4 body ≡ tail)
  unfolding int
  int_back z tail fits is = (
    ap (λ (b : List ℕ). to_z w32 (from_be_bytes w32 (take 4 b))) is ∙ signed_four_back z fits,
    ap (λ (b : List ℕ). drop 4 b) is,
  )

  -- is found, with what is behind it
  pub int_found : (P : ℤ → List ℕ → Type 0) → ((z : ℤ) (tail : List ℕ) → Decided (P z tail)) → Decided (Int P body)
  int_found P next =
      other (FitsSigned w32 int × ((body ≡ signed_four int ++ drop 4 body) × P int (drop 4 body))) (Int P body)
      (λ h. (int, drop 4 body, h.0, h.1.0, h.1.1)) back
      (both (FitsSigned w32 int) _ (signed w32 int) (both _ (P int (drop 4 body))
      (lists body (signed_four int ++ drop 4 body)) (next int (drop 4 body))))
    where
      back : Int P body → FitsSigned w32 int × ((body ≡ signed_four int ++ drop 4 body) × P int (drop 4 body))
      back h =
          let is = int_back h.0 h.1 h.2 h.3 in
          let fits = subst (λ (z : ℤ). FitsSigned w32 z) (sym is.0) h.2 in
          let front = subst (λ (z : ℤ). body ≡ signed_four z ++ h.1) (sym is.0) h.3 in
          let whole = subst (λ (t : List ℕ). body ≡ signed_four int ++ t) (sym is.1) front in
          let behind = subst (λ (z : ℤ). P z h.1) (sym is.0) h.4 in
          (fits, (whole, subst (λ (t : List ℕ). P int t) (sym is.1) behind))

  -- a number of four bytes in front
  abbrev pub HasCount : Type 0
  HasCount = (count : ℕ) × (tail : List ℕ) × (count < 2 ^ 32) × (body ≡ four count ++ tail)

  pub count_found : Decided HasCount
  count_found =
      other ((count < 2 ^ 32) × (body ≡ four count ++ drop 4 body)) HasCount (λ h. (count, drop 4 body, h.0, h.1)) back
      (both (count < 2 ^ 32) _ (below count (2 ^ 32)) (lists body (four count ++ drop 4 body)))
    where
      count : ℕ
      count = from_be_bytes w32 (take 4 body)

      back : HasCount → (count < 2 ^ 32) × (body ≡ four count ++ drop 4 body)
      back h =
          let is : count ≡ h.0 =
          ap (λ (b : List ℕ). from_be_bytes w32 (take 4 b)) h.3 ∙ from_be_bytes-to_be_bytes_4 h.0 h.2 in
          let behind : drop 4 body ≡ h.1 = ap (λ (b : List ℕ). drop 4 b) h.3 in
          let front = subst (λ (n : ℕ). body ≡ four n ++ h.1) (sym is) h.3 in (
            subst (λ (n : ℕ). n < 2 ^ 32) (sym is) h.2,
            subst (λ (t : List ℕ). body ≡ four count ++ t) (sym behind) front,
          )
