-- Readers and the bytes that they read: what is read is spelled so, and what is spelled so is read, whatever follows.
use Rattle.std.proofs.Common.{◌≡◌, ℕ, zero, suc, ◌+◌, ◌^◌, ◌<◌, ◌≤◌, Bool, true, false, cond, ltb, List, [], ◌∷◌, ◌++◌}
use Rattle.std.proofs.Common.{length, get_or, take, drop, Result, Ok, Err, refl, sym, ap, subst, ◌∙◌, append_assoc}
use Rattle.std.proofs.Common.{arith}
use Rattle.std.proofs.Common.{inl, inr}
use Rattle.std.specs.List.{flat_map, AllByRecursion}
use Rattle.std.specs.Int.{Width, w16, w32, byte_len, from_be_bytes, to_be_bytes}
use Rattle.std.proofs.lemmas.Bool.{cases_lt, ltb-false, le-ltb}
use Rattle.std.proofs.lemmas.List.{append-nil, take_at, drop_at, take-append-drop, length-append, length-take}
use Rattle.std.proofs.lemmas.List.{get_or-drop}
use Rattle.std.proofs.lemmas.List.{get_or-take, get_or_past}
use Rattle.std.proofs.lemmas.List.Concat.{flat_map-cons}
use Rattle.std.proofs.lemmas.Nat.{be_bytes_2, be_bytes_4, from_be_bytes-to_be_bytes_2, from_be_bytes-to_be_bytes_4}
use Rattle.cf_structure.specs.declared.fault.Cut.{Cut}
use Rattle.cf_structure.specs.Structure.{◌>>=◌, number_at, bytes_at, many_at, counted_at}
use Rattle.cf_structure.specs.Spelled.{two, four, counted_text, IsTwo, AreFew}

-- each element is a byte
abbrev pub AreBytes : List ℕ → Type 0
AreBytes bytes = (i : ℕ) → get_or bytes i 0 < 256

AreBytes-drop : (n : ℕ) (bytes : List ℕ) → AreBytes bytes → AreBytes (drop n bytes)
AreBytes-drop n bytes h i = rw get_or-drop (h (n + i))

pub AreBytes-take : (n : ℕ) (bytes : List ℕ) → AreBytes bytes → AreBytes (take n bytes)
AreBytes-take n bytes h i =
    elim (cases_lt i n) [
      | inl lt ↦ rw (get_or-take n bytes i 0 lt) (h i)
      | inr le ↦ rw (get_or_past (take n bytes) i 0 (omega (arith, length-take n bytes))) (omega arith)
    ]

pub AreBytes-front : (bytes front rest : List ℕ) → AreBytes bytes → bytes ≡ front ++ rest → AreBytes front
AreBytes-front bytes front rest h is =
    let fits : AreBytes (take (length front) bytes) = AreBytes-take (length front) bytes h in
    subst AreBytes (ap (take (length front)) is ∙ take_at front rest (length front) refl) fits

-- what a reader took from the front
pub record Takes (bytes text rest : List ℕ) : Type 0 where
  pub parts : bytes ≡ text ++ rest
  pub rest_fits : AreBytes rest

-- a reader of what has this text and fits
pub record Reads {A : Type 0} (one : List ℕ → Result (A × List ℕ) Cut) (text : A → List ℕ) (Fits : A → Type 0)
    : Type 0 where
  pub takes : (bytes : List ℕ) (x : A × List ℕ) → AreBytes bytes → one bytes ≡ Ok x
      → Takes bytes (text x.0) x.1 × Fits x.0
  pub again : (a : A) (rest : List ℕ) → Fits a → one (text a ++ rest) ≡ Ok (a, rest)

-- a reader of all of the bytes
pub record ReadsAll {A : Type 0} (one : List ℕ → Result A Cut) (text : A → List ℕ) (Fits : A → Type 0) : Type 0 where
  pub takes : (bytes : List ℕ) (a : A) → AreBytes bytes → one bytes ≡ Ok a → (bytes ≡ text a) × Fits a
  pub again : (a : A) → Fits a → one (text a) ≡ Ok a

-- ---- steps

pub ok_is : {A : Type 0} (x y : A) → (let r : Result A Cut = Ok x in r) ≡ Ok y → x ≡ y
ok_is x y e = cc

pub bind_ok : {A B : Type 0} (r : Result A Cut) (f : A → Result B Cut) (y : B) → (r >>= f) ≡ Ok y
    → (x : A) × (r ≡ Ok x) × (f x ≡ Ok y)
bind_ok (Ok x) f y e = (x, refl, e)
bind_ok (Err d) f y e = absurd cc

-- a test that let pass, and one that did not stop
pub passed : {A : Type 0} (b : Bool) (d : Cut) (x : Result A Cut) (y : A) → cond b x (Err d) ≡ Ok y
    → (b ≡ true) × (x ≡ Ok y)
passed true d x y e = (refl, e)
passed false d x y e = absurd cc

not_stopped : {A : Type 0} (b : Bool) (d : Cut) (x y : A) → cond b (Err d) (Ok x) ≡ Ok y → (b ≡ false) × (x ≡ y)
not_stopped true d x y e = absurd cc
not_stopped false d x y e = (refl, cc)

-- what two readers took, one after the other
pub joins : {bytes x b y c : List ℕ} → Takes bytes x b → Takes b y c → Takes bytes (x ++ y) c
joins {bytes} {x} {b} {y} {c} p q = record {
  parts = p.parts ∙ ap (λ (t : List ℕ). x ++ t) q.parts ∙ sym (append_assoc x y c);
  rest_fits = q.rest_fits;
}

-- nothing is left behind
pub at_end_of : {bytes x rest : List ℕ} → Takes bytes x rest → rest ≡ [] → bytes ≡ x
at_end_of {bytes} {x} {rest} t none = t.parts ∙ ap (λ (r : List ℕ). x ++ r) none ∙ append-nil x

pub again_to_end : {A : Type 0} {one : List ℕ → Result (A × List ℕ) Cut} {text : A → List ℕ} {Fits : A → Type 0}
    (reads : Reads one text Fits) (a : A) → Fits a → one (text a) ≡ Ok (a, [])
again_to_end {one = one} {text = text} reads a fits = ap one (sym (append-nil (text a))) ∙ reads.again a [] fits

-- a step of a reading that had no fault: what it read, and the reading from there
pub record Step {A B : Type 0} (text : A → List ℕ) (Fits : A → Type 0) (bytes : List ℕ)
    (next : A × List ℕ → Result B Cut) (y : B) : Type 0 where
  pub value : A
  pub rest : List ℕ
  pub takes : Takes bytes (text value) rest
  pub fits : Fits value
  pub then_is : next (value, rest) ≡ Ok y

module _ {A B : Type 0} {one : List ℕ → Result (A × List ℕ) Cut} {text : A → List ℕ} {Fits : A → Type 0}
    (reads : Reads one text Fits) where
  pub step : (bytes : List ℕ) (next : A × List ℕ → Result B Cut) (y : B) → AreBytes bytes → (one bytes >>= next) ≡ Ok y
      → Step text Fits bytes next y
  step bytes next y fits e =
      let b = bind_ok (one bytes) next y e in
      let t = reads.takes bytes b.0 fits b.1 in
      record { value = b.0.0; rest = b.0.1; takes = t.0; fits = t.1; then_is = b.2 }

-- ---- numbers

record IsWide (w : Width) (limit : ℕ) : Type 0 where
  len : (n : ℕ) → length (to_be_bytes w n) ≡ byte_len w
  back : (bytes : List ℕ) → length bytes ≡ byte_len w → AreBytes bytes → to_be_bytes w (from_be_bytes w bytes) ≡ bytes
  again : (n : ℕ) → n < limit → from_be_bytes w (to_be_bytes w n) ≡ n
  below : (bytes : List ℕ) → AreBytes bytes → from_be_bytes w bytes < limit

wide16 : IsWide w16 (2 ^ 16)
wide16 = record {
  len = λ n. refl;
  back = λ bytes len fits. be_bytes_2 bytes _ len fits refl;
  again = λ n lt. from_be_bytes-to_be_bytes_2 n lt;
  below = λ bytes fits. omega (arith, fits 0, fits 1);
}

wide32 : IsWide w32 (2 ^ 32)
wide32 = record {
  len = λ n. refl;
  back = λ bytes len fits. be_bytes_4 bytes _ len fits refl;
  again = λ n lt. from_be_bytes-to_be_bytes_4 n lt;
  below = λ bytes fits. omega (arith, fits 0, fits 1, fits 2, fits 3);
}

pub bytes_reads : (short : Cut) (n : ℕ) → Reads (bytes_at short n) (λ x. x) (λ x. length x ≡ n)
bytes_reads short n = record {
  takes = λ bytes x fits e.
      let g = not_stopped (ltb (length bytes) n) short (take n bytes, drop n bytes) x e in
      let long : n ≤ length bytes = ltb-false _ _ g.0 in
      subst (λ (y : List ℕ × List ℕ). Takes bytes y.0 y.1 × (length y.0 ≡ n)) g.1 (
        record { parts = sym (take-append-drop n bytes); rest_fits = AreBytes-drop n bytes fits },
        omega (arith, length-take n bytes),
      );
  again = λ a rest is.
      let long : ltb (length (a ++ rest)) n ≡ false = le-ltb _ _ (omega (arith, length-append a rest)) in
      rw (long, take_at a rest n is, drop_at a rest n is) refl;
}

number_reads : (short : Cut) (w : Width) (limit : ℕ) → IsWide w limit
    → Reads (number_at short w) (to_be_bytes w) (λ n. n < limit)
number_reads short w limit wide = record {
  takes = λ bytes x fits e.
      let size = byte_len w in
      let g = not_stopped (ltb (length bytes) size) short (from_be_bytes w (take size bytes), drop size bytes) x e in
      let long : size ≤ length bytes = ltb-false _ _ g.0 in
      let few = AreBytes-take size bytes fits in
      let front : to_be_bytes w (from_be_bytes w (take size bytes)) ≡ take size bytes =
      wide.back (take size bytes) (omega (arith, length-take size bytes)) few in
      subst (λ (y : ℕ × List ℕ). Takes bytes (to_be_bytes w y.0) y.1 × (y.0 < limit)) g.1 (
        record { parts = rw front (sym (take-append-drop size bytes)); rest_fits = AreBytes-drop size bytes fits },
        wide.below (take size bytes) few,
      );
  again = λ n rest lt.
      let len = wide.len n in
      let long : ltb (length (to_be_bytes w n ++ rest)) (byte_len w) ≡ false =
      le-ltb _ _ (omega (arith, length-append (to_be_bytes w n) rest)) in
      rw (
        long,
        take_at (to_be_bytes w n) rest (byte_len w) len,
        drop_at (to_be_bytes w n) rest (byte_len w) len,
        wide.again n lt,
      ) refl;
}

pub two_reads : (short : Cut) → Reads (number_at short w16) two IsTwo
two_reads short = number_reads short w16 (2 ^ 16) wide16

pub four_reads : (short : Cut) → Reads (number_at short w32) four (λ n. n < 2 ^ 32)
four_reads short = number_reads short w32 (2 ^ 32) wide32

-- ---- so many of one kind

module _ {A : Type 0} (one : List ℕ → Result (A × List ℕ) Cut) (text : A → List ℕ) (Fits : A → Type 0)
    (reads : Reads one text Fits) where
  abbrev AreRead : ℕ → List ℕ → List A × List ℕ → Type 0
  AreRead n bytes x = Takes bytes (flat_map text x.0) x.1 × (length x.0 ≡ n) × AllByRecursion Fits x.0

  many_take : (n : ℕ) (bytes : List ℕ) (x : List A × List ℕ) → AreBytes bytes → many_at one n bytes ≡ Ok x
      → AreRead n bytes x
  unfolding many_at
  many_take zero bytes x fits e =
      subst (AreRead zero bytes) (ok_is ([], bytes) x e) (record { parts = refl; rest_fits = fits }, refl, tt)
  many_take (suc n) bytes x fits e =
      let a = step reads bytes (λ first. many_at one n first.1 >>= λ others. Ok (first.0 ∷ others.0, others.1)) x fits e
      in
      let b = bind_ok (many_at one n a.rest) (λ others. Ok (a.value ∷ others.0, others.1)) x a.then_is in
      let more = many_take n a.rest b.0 a.takes.rest_fits b.1 in
      let both = joins a.takes more.0 in
      subst (AreRead (suc n) bytes) (ok_is (a.value ∷ b.0.0, b.0.1) x b.2)
      (rw flat_map-cons both, ap suc more.1, (a.fits, more.2))

  many_again : (xs : List A) (rest : List ℕ) → AllByRecursion Fits xs
      → many_at one (length xs) (flat_map text xs ++ rest) ≡ Ok (xs, rest)
  unfolding many_at
  many_again [] rest fits = refl
  many_again (x ∷ xs) rest fits =
      let regrouped : flat_map text (x ∷ xs) ++ rest ≡ text x ++ (flat_map text xs ++ rest) =
      ap (λ (t : List ℕ). t ++ rest) (flat_map-cons text x xs) ∙ append_assoc (text x) (flat_map text xs) rest in
      ap (many_at one (suc (length xs))) regrouped
      ∙ rw (reads.again x (flat_map text xs ++ rest) fits.0, many_again xs rest fits.1) refl

  pub counted_reads : (short : Cut) → Reads (counted_at short one) (counted_text text) (AreFew Fits)
  unfolding counted_at
  counted_reads short = record {
    takes = λ bytes x fits e.
        let n = step (two_reads short) bytes (λ count. many_at one count.0 count.1) x fits e in
        let more = many_take n.value n.rest x n.takes.rest_fits n.then_is in
        let both = joins n.takes more.0 in (
          subst (λ (k : ℕ). Takes bytes (two k ++ flat_map text x.0) x.1) (sym more.1) both,
          (omega (arith, more.1, n.fits), more.2),
        );
    again = λ xs rest fits.
        rw ((two_reads short).again (length xs) (flat_map text xs ++ rest) fits.0) (many_again xs rest fits.1);
  }
