-- The code of a file is in order, or it has one first fault.
use Rattle.std.proofs.Common.{ℕ, ◌+◌, ◌<◌, ◌^◌, List, [], ◌∷◌, ◌++◌, length, inl, inr, ◌⊎◌}
use Rattle.std.specs.List.{flat_map, AllByRecursion}
use Rattle.jv_list.specs.Places.{each_at}
use Rattle.jv_list.proofs.FirstLemmas.{first_behind, first_front, first_one}
use Rattle.cf_pool.specs.declared.entry.PoolEntry.{PoolEntry}
use Rattle.cf_pool.specs.declared.fault.Fault.{Fault}
use Rattle.cf_structure.specs.declared.code.Row.{Row}
use Rattle.cf_structure.specs.Raw.{RawFile}
use Rattle.cf_structure.specs.Spelled.{row_text}
use Rattle.cf_code.specs.declared.code.Placed.{Placed}
use Rattle.cf_code.specs.declared.decoding.End.{End}
use Rattle.cf_code.specs.declared.decoding.End.TheVariants.{Whole, BadOpcode, BadTarget}
use Rattle.cf_code.specs.Decoding.{BeginsWith, EndsAs, IsCode, pcs}
use Rattle.cf_code.specs.Laws.{HasItsSize, IsOneCode, IsNoCode, IsOneFault, IsOneBeginning, IsCodeDecided}
use Rattle.cf_judge.specs.Demands.{rows_place}
use Rattle.cf_judge.specs.Laws.{PlainClassDecided, OneFirst}
use Rattle.cf_bodies.specs.Places.{PlacedCode, codes}
use Rattle.cf_bodies.specs.Checks.{CheckAt, check_at, is_code, is_row, row_checks, rows_checks, code_checks}
use Rattle.cf_bodies.specs.Bodies.{IsShort, AreShort}
use Rattle.cf_bodies.specs.Laws.{OneVerdictOf}
use Rattle.cf_bodies.specs.Calls.Tells.{IsPassed, IsFailed, ArePassed, IsFirstFailed}
use Rattle.cf_bodies.specs.Calls.Unmet.{AreMet}
use Rattle.cf_bodies.proofs.CheckLemmas.{row_passes, row_fails}
use Rattle.cf_bodies.proofs.CodeLemmas.{whole_passes, opcode_fails, target_fails, unmet_fails, inside_bytes}
use Rattle.cf_bodies.proofs.JudgedLemmas.{good_bodies, first_fault}
use Rattle.cf_bodies.proofs.MetLemmas.{first_unmet, row_of}
use Rattle.cf_bodies.proofs.RiseLemmas.{file_rises}
use Rattle.cf_bodies.proofs.TellsLemmas.{passed_append}

-- some fault is the first of these checks, or all are passed
abbrev FirstOrAll : List PoolEntry → List CheckAt → Type 0
FirstOrAll pool cs = ((fault : Fault) × IsFirstFailed pool cs fault) ⊎ ArePassed pool cs

module _ (size : HasItsSize) (one_code : IsOneCode) (none : IsNoCode) (one : IsOneFault) (beginning : IsOneBeginning)
    (decided : IsCodeDecided) (plain : PlainClassDecided) (pool : List PoolEntry) where
  both_parts : (xs ys : List CheckAt) → FirstOrAll pool xs → FirstOrAll pool ys → FirstOrAll pool (xs ++ ys)
  both_parts xs ys (inl f) k = inl (f.0, first_front (IsPassed pool) (λ c. IsFailed pool c f.0) xs ys f.1)
  both_parts xs ys (inr h) (inl f) = inl (f.0, first_behind (IsPassed pool) (λ c. IsFailed pool c f.0) xs ys h f.1)
  both_parts xs ys (inr h) (inr k) = inr (passed_append pool xs ys h k)

  this_fails : (c : CheckAt) (fault : Fault) → IsFailed pool c fault → FirstOrAll pool (c ∷ [])
  this_fails c fault h = inl (fault, first_one (IsPassed pool) (λ d. IsFailed pool d fault) c h)

  module _ (bytes : List ℕ) (short : length bytes < 2 ^ 16) where
    by_end : (code : List Placed) → BeginsWith bytes code → (end : End) → EndsAs bytes code end → AreMet pool code
        → (place : ℕ)
        → FirstOrAll pool (check_at place (is_code bytes) ∷ [])
    by_end code begins Whole ends met place =
        inr (whole_passes size beginning none one pool bytes short code begins place met ends, tt)
    by_end code begins (BadOpcode pc) ends met place =
        this_fails _ _ (opcode_fails size beginning none one pool bytes short code begins place pc met ends)
    by_end code begins (BadTarget pc) ends met place =
        this_fails _ _ (target_fails size beginning none one pool bytes short code begins place pc met ends)

    of_bytes : (place : ℕ) → FirstOrAll pool (check_at place (is_code bytes) ∷ [])
    of_bytes place =
        let d = decided bytes short in
        elim (first_unmet plain pool d.0) [
          | inl u ↦ this_fails _ _ (unmet_fails size beginning none one pool bytes short d.0 d.2 d.1 d.3 u.0 u.1 place)
          | inr met ↦ by_end d.0 d.2 d.1 d.3 met place
        ]

    -- of bytes that are no code nothing is said of rows
    no_row : ((code : List Placed) → IsCode bytes code → ⊥) → (place : ℕ) (row : Row)
        → IsPassed pool (check_at place (is_row bytes row))
    no_row no_code place row offset what h = no_code h.2.code h.2.is_code

    row_by : (code : List Placed) (end : End) → EndsAs bytes code end → (place : ℕ) (row : Row)
        → FirstOrAll pool (row_checks bytes place row)
    row_by code (BadOpcode pc) ends place row = inr (
      no_row (λ other is. none bytes pc other (inl ends.0) is) place
          row,
      tt,
    )
    row_by code (BadTarget pc) ends place row = inr (
      no_row (λ other is. none bytes pc other (inr ends.0) is) place
          row,
      tt,
    )
    row_by code Whole ends place row = elim (row_of (pcs code) (length bytes) row) [
      | inl good ↦ inr (row_passes one_code pool bytes short code ends place row good, tt)
      | inr bad ↦ this_fails _ _ (row_fails one_code pool bytes short code ends place row bad)
    ]

    of_rows : (earlier : List Row) (place : ℕ) (rows : List Row)
        → FirstOrAll pool (each_at (λ (e : List Row). row_checks bytes) row_text earlier place rows)
    unfolding each_at
    of_rows earlier place [] = inr tt
    of_rows earlier place (r ∷ rows) =
        let d = decided bytes short in
        both_parts (row_checks bytes place r) _ (row_by d.0 d.1 d.3 place r)
        (of_rows (earlier ++ r ∷ []) (place + length (row_text r)) rows)

  of_codes : (cs : List PlacedCode) → AllByRecursion IsShort cs → FirstOrAll pool (flat_map code_checks cs)
  of_codes [] short = inr tt
  of_codes (c ∷ cs) short =
      let bytes : List ℕ = c.content.code in
      let rows : List CheckAt = rows_checks bytes (rows_place c.place c.content) c.content.rows in
      both_parts (code_checks c) (flat_map code_checks cs)
      (both_parts (check_at (c.place + 8) (is_code bytes) ∷ []) rows (of_bytes bytes short.0 (c.place + 8))
      (of_rows bytes short.0 [] (rows_place c.place c.content) c.content.rows))
      (of_codes cs short.1)

pub one_verdict : HasItsSize → IsOneCode → IsNoCode → IsOneFault → IsOneBeginning → IsCodeDecided → PlainClassDecided
    → OneFirst
    → (file : RawFile) → AreShort file
    → OneVerdictOf file
one_verdict size one_code none one beginning decided plain first file short =
    let rise = file_rises file.pool (inside_bytes size beginning none one decided file.pool) file short in record {
      one = elim (of_codes size one_code none one beginning decided plain file.pool (codes file) short) [
        | inl f ↦ inr (f.0, first_fault file _ _ rise f.0 f.1)
        | inr passed ↦ inl (good_bodies file passed)
      ];
      one_fault = λ a b h k. first a b (h.first b k.failure) (k.first a h.failure);
      not_both = λ fault good h. good fault h.failure;
    }
