-- What is known of locals, by their indices, and lists of locals that are built from the first on.
use Rattle.std.proofs.Common.{◌≡◌, ℕ, zero, suc, ◌+◌, ◌≤◌, ◌<◌, List, [], ◌∷◌, ◌++◌, length, Option, Some, None}
use Rattle.std.proofs.Common.{refl, sym, ap, ◌∙◌, arith, inl, inr, ◌⊎◌, option_and_then}
use Rattle.std.proofs.lemmas.List.{length-append}
use Rattle.std.proofs.lemmas.Option.{slice_get_past}
use Rattle.ck_shapes.specs.declared.shape.ValueType.{ValueType}
use Rattle.ck_shapes.specs.Shape.{is_long, local_at, stored}
use Rattle.std.specs.Prelude.{◌==◌, ◌&&◌, if◌then◌else◌}
use Rattle.std.proofs.Common.{Bool, true, false}
use Rattle.std.proofs.lemmas.Bool.Decides.{nat_tests}

abbrev pub Locals : Type 0
Locals = List (Option ValueType)

pub local_past : (xs : Locals) (i : ℕ) → length xs ≤ i → local_at xs i ≡ None
local_past xs i le = ap (option_and_then (λ l. l)) (slice_get_past xs i le)

pub at_front : (xs ys : Locals) (i : ℕ) → i < length xs → local_at (xs ++ ys) i ≡ local_at xs i
at_front [] ys i lt = absurd (omega (arith, lt))
at_front (x ∷ xs) ys zero lt = refl
at_front (x ∷ xs) ys (suc i) lt = at_front xs ys i (omega (arith, lt))

pub at_last : (xs : Locals) (v : Option ValueType) → local_at (xs ++ v ∷ []) (length xs) ≡ v
at_last [] v = refl
at_last (x ∷ xs) v = at_last xs v

-- the first n locals are given by a function
pub record IsTable (f : ℕ → Option ValueType) (n : ℕ) (xs : Locals) : Type 0 where
  pub long : length xs ≡ n
  pub given : (i : ℕ) → i < n → local_at xs i ≡ f i

module _ (f : ℕ → Option ValueType) where
  pub table_none : (xs : Locals) → xs ≡ [] → IsTable f 0 xs
  table_none xs e = record { long = ap length e; given = λ i lt. absurd (omega (arith, lt)) }

  table_at : (n : ℕ) (xs new : Locals) (v : Option ValueType) → IsTable f n xs → new ≡ xs ++ v ∷ [] → v ≡ f n
      → (i : ℕ) → (i < n) ⊎ (i ≡ n) → local_at new i ≡ f i
  table_at n xs new v t push value i (inl lt) =
      ap (λ (l : Locals). local_at l i) push ∙ at_front xs (v ∷ []) i (omega (arith, lt, t.long)) ∙ t.given i lt
  table_at n xs new v t push value i (inr e) =
      ap (λ (l : Locals). local_at l i) push ∙ ap (local_at (xs ++ v ∷ [])) (e ∙ sym t.long) ∙ at_last xs v ∙ value
      ∙ ap f (sym e)

  pub table_push : (n : ℕ) (xs new : Locals) (v : Option ValueType) → IsTable f n xs → new ≡ xs ++ v ∷ [] → v ≡ f n
      → IsTable f (n + 1) new
  table_push n xs new v t push value = record {
    long = omega (arith, t.long, ap length push, length-append xs (v ∷ []));
    given = λ i lt. let c : (i < n) ⊎ (i ≡ n) = grind arith in table_at n xs new v t push value i c;
  }

  table_end : (n : ℕ) (xs : Locals) → IsTable f n xs → ((i : ℕ) → n ≤ i → f i ≡ None) → (i : ℕ)
      → (i < n) ⊎ (n ≤ i) → local_at xs i ≡ f i
  table_end n xs t past i (inl lt) = t.given i lt
  table_end n xs t past i (inr le) = local_past xs i (omega (arith, le, t.long)) ∙ sym (past i le)

  -- and beyond them the function gives nothing
  pub table_whole : (n : ℕ) (xs : Locals) → IsTable f n xs → ((i : ℕ) → n ≤ i → f i ≡ None) → (i : ℕ)
      → local_at xs i ≡ f i
  table_whole n xs t past i = let c : (i < n) ⊎ (n ≤ i) = grind arith in table_end n xs t past i c

-- ---- stores

pub same_choices : (a b : Bool) (o : Option ValueType) → (if a then o else (if b then o else o)) ≡ o
same_choices true b o = refl
same_choices false true o = refl
same_choices false false o = refl

-- behind all locals that were known, and behind the one that is stored to, none is known
pub stored_past : (old : Locals) (t : ValueType) (n i : ℕ) → length old ≤ i → n < i → stored old t n i ≡ None
stored_past old t n i le lt =
    let none = local_past old i le in
    let ne : (i == n) ≡ false = grind (arith, nat_tests) in
    let nothing : Option ValueType = None in
    rw (ne, none) (same_choices ((i + 1 == n) && is_long nothing) ((i == n + 1) && is_long (Some t)) nothing)
