-- Numbers of two, four and eight bytes, as `byteorder` reads them and as they are spelled.
use Rattle.std.proofs.Common.{◌≡◌, ℕ, suc, ◌+◌, ◌^◌, ◌<◌, ◌≤◌, List, ◌∷◌, ◌++◌, length, get_or, take, drop, sym, ap}
use Rattle.std.proofs.Common.{subst, ◌∙◌, arith, inl, inr}
use Rattle.std.specs.List.{All}
use Rattle.std.specs.Int.{w16, w32, w64, from_be_bytes, to_be_bytes}
use Rattle.std.proofs.lemmas.Bool.{cases_lt}
use Rattle.std.proofs.lemmas.List.{length-take, get_or-drop, get_or-take, get_or_past, get_or_append_left}
use Rattle.std.proofs.lemmas.List.{get_or-append-add}
use Rattle.std.proofs.lemmas.Nat.{be_bytes_2, be_bytes_4, be_bytes_8}
use Rattle.byteorder.specs.Endian.{big_number}
use Rattle.byteorder.specs.Numbers.{big_from-take, big_from-lt, big_number-reads_back}

-- each element is a byte
abbrev pub FitBytes : List ℕ → Type 0
FitBytes bytes = (i : ℕ) → get_or bytes i 0 < 256

pub FitBytes-drop : (n : ℕ) (bytes : List ℕ) → FitBytes bytes → FitBytes (drop n bytes)
FitBytes-drop n bytes h i = rw get_or-drop (h (n + i))

pub FitBytes-take : (n : ℕ) (bytes : List ℕ) → FitBytes bytes → FitBytes (take n bytes)
FitBytes-take n bytes h i =
    elim (cases_lt i n) [
      | inl lt ↦ rw (get_or-take n bytes i 0 lt) (h i)
      | inr le ↦ rw (get_or_past (take n bytes) i 0 (omega (arith, length-take n bytes))) (omega arith)
    ]

pub big_is_2 : (bytes : List ℕ) → big_number 2 bytes ≡ from_be_bytes w16 bytes
big_is_2 bytes = omega arith

big_is_4 : (bytes : List ℕ) → big_number 4 bytes ≡ from_be_bytes w32 bytes
big_is_4 bytes = omega arith

big_is_8 : (bytes : List ℕ) → big_number 8 bytes ≡ from_be_bytes w64 bytes
big_is_8 bytes = omega arith

-- the number that the first bytes are is spelled by them
pub front_2 : (bytes : List ℕ) → 2 ≤ length bytes → FitBytes bytes → to_be_bytes w16 (big_number 2 bytes) ≡ take 2 bytes
front_2 bytes long fits =
    be_bytes_2 (take 2 bytes) (big_number 2 bytes) (omega (arith, length-take 2 bytes)) (FitBytes-take 2 bytes fits)
    (sym (big_from-take 0 2 2 bytes (omega arith)) ∙ big_is_2 (take 2 bytes))

pub front_4 : (bytes : List ℕ) → 4 ≤ length bytes → FitBytes bytes → to_be_bytes w32 (big_number 4 bytes) ≡ take 4 bytes
front_4 bytes long fits =
    be_bytes_4 (take 4 bytes) (big_number 4 bytes) (omega (arith, length-take 4 bytes)) (FitBytes-take 4 bytes fits)
    (sym (big_from-take 0 4 4 bytes (omega arith)) ∙ big_is_4 (take 4 bytes))

pub front_8 : (bytes : List ℕ) → 8 ≤ length bytes → FitBytes bytes → to_be_bytes w64 (big_number 8 bytes) ≡ take 8 bytes
front_8 bytes long fits =
    be_bytes_8 (take 8 bytes) (big_number 8 bytes) (omega (arith, length-take 8 bytes)) (FitBytes-take 8 bytes fits)
    (sym (big_from-take 0 8 8 bytes (omega arith)) ∙ big_is_8 (take 8 bytes))

-- the length of a text, as its size counts it
pub front_of_text : (bytes : List ℕ) → 2 ≤ length bytes → FitBytes bytes
    → to_be_bytes w16 (from_be_bytes w16 bytes) ≡ take 2 bytes
front_of_text bytes long fits = ap (to_be_bytes w16) (sym (big_is_2 bytes)) ∙ front_2 bytes long fits

pub below_2 : (bytes : List ℕ) → FitBytes bytes → big_number 2 bytes < 2 ^ 16
below_2 bytes fits = omega (arith, big_from-lt 0 2 bytes fits)

pub below_text : (bytes : List ℕ) → FitBytes bytes → from_be_bytes w16 bytes < 2 ^ 16
below_text bytes fits = omega (arith, big_is_2 bytes, below_2 bytes fits)

pub below_4 : (bytes : List ℕ) → FitBytes bytes → big_number 4 bytes < 2 ^ 32
below_4 bytes fits = big_from-lt 0 4 bytes fits

pub below_8 : (bytes : List ℕ) → FitBytes bytes → big_number 8 bytes < 2 ^ 64
below_8 bytes fits = big_from-lt 0 8 bytes fits

-- what was spelled is read again
pub again_2 : (n : ℕ) (rest : List ℕ) → n < 2 ^ 16 → big_number 2 (to_be_bytes w16 n ++ rest) ≡ n
again_2 n rest fits = big_number-reads_back 2 n rest fits

pub again_4 : (n : ℕ) (rest : List ℕ) → n < 2 ^ 32 → big_number 4 (to_be_bytes w32 n ++ rest) ≡ n
again_4 n rest fits = big_number-reads_back 4 n rest fits

pub again_8 : (n : ℕ) (rest : List ℕ) → n < 2 ^ 64 → big_number 8 (to_be_bytes w64 n ++ rest) ≡ n
again_8 n rest fits = big_number-reads_back 8 n rest fits

pub again_text : (n : ℕ) (rest : List ℕ) → n < 2 ^ 16 → from_be_bytes w16 (to_be_bytes w16 n ++ rest) ≡ n
again_text n rest fits = sym (big_is_2 (to_be_bytes w16 n ++ rest)) ∙ again_2 n rest fits

pub FitBytes-rest : (byte : ℕ) (bytes rest : List ℕ) → FitBytes bytes → bytes ≡ byte ∷ rest → FitBytes rest
FitBytes-rest byte bytes rest h is i = let fits : FitBytes (byte ∷ rest) = subst FitBytes is h in fits (suc i)

pub FitBytes-front : (bytes front rest : List ℕ) → FitBytes bytes → bytes ≡ front ++ rest → FitBytes front
FitBytes-front bytes front rest h is i =
    elim (cases_lt i (length front)) [
      | inl lt ↦ let fits : FitBytes (front ++ rest) = subst FitBytes is h in
          rw (← get_or_append_left front rest 0 i lt) (fits i)
      | inr le ↦ rw (get_or_past front i 0 le) (omega arith)
    ]

pub FitBytes-behind : (bytes front rest : List ℕ) → FitBytes bytes → bytes ≡ front ++ rest → FitBytes rest
FitBytes-behind bytes front rest h is i = let fits : FitBytes (front ++ rest) = subst FitBytes is h in
    rw (← get_or-append-add front rest i 0) (fits (length front + i))

pub FitBytes-from_all : (bytes : List ℕ) → All (λ b. b < 2 ^ 8) bytes → FitBytes bytes
FitBytes-from_all bytes all i =
    elim (cases_lt i (length bytes)) [
      | inl lt ↦ all i 0 lt
      | inr le ↦ rw (get_or_past bytes i 0 le) (omega arith)
    ]
