-- Instructions that stand one behind the other.
use Rattle.std.proofs.Common.{ℕ, ◌+◌, ◌<◌, ◌≤◌, List, [], ◌∷◌, ◌++◌, length, Contains, refl, sym, subst, ap, inl}
use Rattle.std.proofs.Common.{inr, arith, length-append}
use Rattle.std.proofs.lemmas.List.{append-nil}
use Rattle.jv_list.proofs.MemberLemmas.{none_member, member_cases}
use Rattle.cf_code.specs.declared.code.Placed.{Placed}
use Rattle.cf_code.specs.declared.instr.Instr.{Instr}
use Rattle.cf_code.specs.Code.{code_spelling, placed_spelling, AllFit}
use Rattle.cf_code.specs.Decoding.{IsLaid}
use Rattle.cf_code.specs.Instr.{spelling, Fits}
use Rattle.cf_code.specs.Sizes.{HasSize}
use Rattle.cf_code.specs.Laws.{HasItsSize}

-- none stands before the first
pub laid_behind : (pc : ℕ) (code : List Placed) → IsLaid pc code → (x : Placed) → Contains code x → pc ≤ x.pc
laid_behind pc [] laid x member = absurd (none_member x member)
laid_behind pc (y ∷ code) laid x member = elim (member_cases y code x member) [
  | inl same ↦ omega (arith, laid.0, ap (λ (p : Placed). p.pc) same)
  | inr later ↦
      let le = laid_behind (pc + length (spelling y.pc y.instr)) code laid.1 x later in
      omega (arith, le)
]

-- those from one on
pub laid_from : (pc : ℕ) (before : List Placed) (x : Placed) (after : List Placed) → IsLaid pc (before ++ x ∷ after)
    → IsLaid x.pc (x ∷ after)
laid_from pc [] x after laid = (
  refl,
  subst (λ (n : ℕ). IsLaid (n + length (spelling x.pc x.instr)) after) (sym
      laid.0) laid.1,
)
laid_from pc (y ∷ before) x after laid = laid_from (pc + length (spelling y.pc y.instr)) before x after laid.1

module _ (law : HasItsSize) where
  some_size : (pc : ℕ) (bytes : List ℕ) → HasSize pc bytes (length bytes) → 0 < length bytes
  some_size pc [] h = absurd h
  some_size pc (b ∷ bytes) h = omega arith

  -- an instruction has a byte at least
  pub some_bytes : (pc : ℕ) (instr : Instr) → Fits pc instr → 0 < length (spelling pc instr)
  some_bytes pc instr fits =
      let bytes : List ℕ = spelling pc instr in
      some_size pc bytes
      (subst (λ (bs : List ℕ). HasSize pc bs (length bytes)) (append-nil bytes) (law pc bytes [] instr (refl, fits)))

  -- each stands before the end
  pub laid_inside : (pc : ℕ) (code : List Placed) → IsLaid pc code → AllFit code → (x : Placed) → Contains code x
      → x.pc < pc + length (code_spelling code)
  laid_inside pc [] laid fit x member = absurd (none_member x member)
  laid_inside pc (y ∷ code) laid fit x member =
      let whole = length-append (placed_spelling y) (code_spelling code) in
      let some = some_bytes y.pc y.instr fit.0 in
      elim (member_cases y code x member) [
        | inl same ↦ omega (arith, laid.0, ap (λ (p : Placed). p.pc) same, whole, some)
        | inr later ↦
            let lt = laid_inside (pc + length (placed_spelling y)) code laid.1 fit.1 x later in
            omega (arith, lt, whole)
      ]
