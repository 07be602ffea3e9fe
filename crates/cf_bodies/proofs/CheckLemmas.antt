-- The rows of a Code, one after the other, as a loop goes over them, and the Codes.
use Rattle.std.proofs.Common.{◌≡◌, ℕ, ◌+◌, ◌<◌, ◌≤◌, List, [], ◌∷◌, ◌++◌, length, take, drop, get_or, refl, sym, ap}
use Rattle.std.proofs.Common.{◌∙◌, ◌^◌, subst, arith, add-zero, inr, append_assoc}
use Rattle.std.specs.List.{flat_map}
use Rattle.std.proofs.lemmas.List.{take_all, append-nil}
use Rattle.std.proofs.lemmas.Grind.{flat_map-append}
use Rattle.jv_list.specs.Places.{each_at}
use Rattle.jv_list.proofs.EachLemmas.{each_fits, each_next, each_more, each_rest, each_split}
use Rattle.jv_list.proofs.PlaceLemmas.{split_with, take_with}
use Rattle.cf_pool.specs.declared.entry.PoolEntry.{PoolEntry}
use Rattle.cf_pool.specs.declared.fault.What.TheVariants.{BadTarget}
use Rattle.cf_structure.specs.declared.code.Row.{Row}
use Rattle.cf_structure.specs.declared.fault.ClassFault.{ClassFault}
use Rattle.cf_structure.specs.ClassFile.{Names}
use Rattle.cf_structure.specs.Spelled.{row_text}
use Rattle.cf_code.specs.declared.code.Placed.{Placed}
use Rattle.cf_code.specs.Decoding.{IsCode, pcs}
use Rattle.cf_code.specs.Laws.{IsOneCode}
use Rattle.cf_judge.specs.Words.{rank}
use Rattle.cf_bodies.specs.Rows.{IsRowOf}
use Rattle.cf_bodies.specs.Checks.{CheckAt, check_at, is_row, row_checks, rows_checks}
use Rattle.cf_bodies.specs.Calls.Tells.{IsPassed, IsFailed, ArePassed, IsFirstFailed}
use Rattle.cf_bodies.proofs.TellsLemmas.{passed_append, refused_within}

-- a row that is one of the code is passed, and one that is none fails
module _ (one : IsOneCode) (pool : List PoolEntry) (bytes : List ℕ) (short : length bytes < 2 ^ 16) (code : List Placed)
    (is : IsCode bytes code) (place : ℕ) (row : Row) where
  pub row_passes : IsRowOf (pcs code) (length bytes) row → IsPassed pool (check_at place (is_row bytes row))
  row_passes good offset what h =
      let bad = h.2 in
      bad.bad
      (subst (λ (xs : List Placed). IsRowOf (pcs xs) (length bytes) row) (one bytes code bad.code short is bad.is_code)
      good)

  pub row_fails : (IsRowOf (pcs code) (length bytes) row → ⊥)
      → IsFailed pool (check_at place (is_row bytes row)) (record { place = place + 0; what = BadTarget })
  row_fails bad = record {
    offset = 0;
    place_is = refl;
    fails = (refl, refl, record { code = code; is_code = is; bad = bad });
    first = λ other what h. inr (omega (arith, h.1), omega (arith, ap rank h.0));
  }

module _ (bytes : List ℕ) (start : ℕ) (rows : List Row) where
  abbrev one : List Row → ℕ → Row → List CheckAt
  one earlier = row_checks bytes

  -- the first so many rows are passed, and end at a place
  pub record AreDone (count place : ℕ) : Type 0 where
    pub place_is : place ≡ start + length (flat_map row_text (take count rows))
    pub passed : (pool : List PoolEntry) → ArePassed pool (each_at one row_text [] start (take count rows))

  pub none_done : AreDone 0 start
  unfolding each_at
  none_done = record { place_is = sym (add-zero start); passed = λ pool. tt }

  module _ (i place : ℕ) (x : Row) (lt : i < length rows) (is : x ≡ get_or rows i x) (done : AreDone i place) where
    pub row_fits : place + 8 ≤ start + length (flat_map row_text rows)
    row_fits = each_fits one row_text start rows i place x lt is done.place_is

    pub one_more : ((pool : List PoolEntry) → IsPassed pool (check_at place (is_row bytes x)))
        → AreDone (i + 1) (place + 8)
    one_more passes = record {
      place_is = each_next one row_text start rows i place x lt is done.place_is;
      passed = λ pool. subst (ArePassed pool) (sym (each_more one row_text start rows i place x lt is done.place_is))
          (passed_append pool (each_at one row_text [] start (take i rows)) (row_checks bytes place x) (done.passed
          pool)
          (passes pool, tt));
    }

    pub stops : (pool : List PoolEntry) (refusal : ClassFault)
        → Names (IsFirstFailed pool (row_checks bytes place x)) refusal
        → Names (IsFirstFailed pool (rows_checks bytes start rows)) refusal
    stops pool refusal h =
        refused_within pool (each_at one row_text [] start (take i rows)) (row_checks bytes place x)
        (each_rest one row_text start rows i place x lt is done.place_is) (rows_checks bytes start rows)
        (each_split one row_text start rows i place x lt is done.place_is) refusal (done.passed pool) h

  pub all_done : (i place : ℕ) → length rows ≤ i → AreDone i place → (pool : List PoolEntry)
      → ArePassed pool (rows_checks bytes start rows)
  all_done i place le done pool =
      subst (λ (rs : List Row). ArePassed pool (each_at one row_text [] start rs)) (take_all i rows le) (done.passed
      pool)

-- checks of elements, one element after the other
module _ {B : Type 0} (pool : List PoolEntry) (one : B → List CheckAt) (xs : List B) (i : ℕ) (x : B) (lt : i < length
    xs)
    (is : x ≡ get_or xs i x) (passed : ArePassed pool (flat_map one (take i xs))) where
  pub more_passed : ArePassed pool (one x) → ArePassed pool (flat_map one (take (i + 1) xs))
  more_passed h =
      let more : flat_map one (take (i + 1) xs) ≡ flat_map one (take i xs) ++ one x =
      ap (flat_map one) (take_with xs i x lt is) ∙ flat_map-append one (take i xs) (x ∷ [])
      ∙ ap (λ (cs : List CheckAt). flat_map one (take i xs) ++ cs) (append-nil (one x)) in
      subst (ArePassed pool) (sym more) (passed_append pool (flat_map one (take i xs)) (one x) passed h)

  pub stops_there : (refusal : ClassFault) → Names (IsFirstFailed pool (one x)) refusal
      → Names (IsFirstFailed pool (flat_map one xs)) refusal
  stops_there refusal h =
      let rest : List CheckAt = flat_map one (drop (i + 1) xs) in
      let parts : flat_map one xs ≡ (flat_map one (take i xs) ++ one x) ++ rest =
      ap (flat_map one) (split_with xs i x lt is) ∙ flat_map-append one (take i xs) (x ∷ drop (i + 1) xs)
      ∙ sym (append_assoc (flat_map one (take i xs)) (one x) rest) in
      refused_within pool (flat_map one (take i xs)) (one x) rest (flat_map one xs) parts refusal passed h
