-- Where instructions begin, and what is known of it as the code is passed from its first byte on.
use Rattle.std.proofs.Common.{◌≡◌, ◌≢◌, ◌↔◌, IsTrue, ◌<◌, ◌≤◌, ◌+◌, ◌++◌, ℕ, Bool, true, false, List}
use Rattle.std.proofs.Common.{[], ◌∷◌, length, slice_get, Some, None, refl, sym, ap, subst, ◌∙◌, arith, inl, inr}
use Rattle.std.proofs.Common.{length-append}
use Rattle.std.proofs.lemmas.Bool.{cases_lt}
use Rattle.cf_thin.specs.declared.instr.ThinInstr.{ThinInstr}
use Rattle.cf_thin.specs.Instr.{target_of, Places, instr_at}
use Rattle.cf_thin.specs.ThinCode.{IsStart, First, Next}
use Rattle.cf_thin.specs.Calls.Passes.{AreStarts, AreWhole, IsAimed, GoesOn}
use Rattle.cf_thin.proofs.InstrLemmas.{instr_ends, found_parts}
use Rattle.jv_list.proofs.PlaceLemmas.{slice_get-push_last, slice_get-push_other, slice_get-push_cases}

-- an instruction begins within the code
pub start_within : (code : Places) → 0 < length code → (pc : ℕ) → IsStart code pc → pc < length code
start_within code filled pc First = filled
start_within code filled pc (Next before next instr start is lt) = lt

-- what is known when the bytes below pc are passed, and the next instruction begins at next
pub record Swept (code : Places) (starts : List Bool) (pc next : ℕ) : Type 0 where
  pub long : length starts ≡ pc
  pub ahead : pc ≤ next
  pub within : next ≤ length code
  pub here : next < length code → IsStart code next
  pub sound : (at : ℕ) → slice_get starts at ≡ Some true → IsStart code at
  pub complete : (at : ℕ) → at < pc → IsStart code at → slice_get starts at ≡ Some true
  pub whole : (at : ℕ) → at < pc → IsStart code at → (instr : ThinInstr) × (after : ℕ)
      × (instr_at code at ≡ Some (instr, after)) × (after ≤ next)
  pub none : (at : ℕ) → pc ≤ at → IsStart code at → next ≤ at

-- the start
pub swept_none : (code : Places) → 0 < length code → Swept code [] 0 0
swept_none code filled = record {
  long = refl;
  ahead = omega arith;
  within = omega arith;
  here = λ lt. First;
  sound = λ at e. absurd cc;
  complete = λ at lt s. absurd (omega arith);
  whole = λ at lt s. absurd (omega arith);
  none = λ at le s. omega arith;
}

-- no instruction begins within the one at pc
none_within : (code : Places) (starts : List Bool) (pc after : ℕ) (instr : ThinInstr) → Swept code starts pc pc
    → instr_at code pc ≡ Some (instr, after) → (at : ℕ) → IsStart code at → pc < at → after ≤ at
none_within code starts pc after instr swept is at First lt = absurd (omega arith)
none_within code starts pc after instr swept is at (Next before next i start found within) lt =
    elim (cases_lt before pc) [
      | inl below ↦
          let w = swept.whole before below start in
          let same = found_parts w.0 i w.1 next (sym w.2 ∙ found) in
          absurd (omega (arith, w.3, same.1))
      | inr le ↦ elim (cases_lt pc before) [
        | inl above ↦ let rest = none_within code starts pc after instr swept is before start above in let ends =
            instr_ends code before i next found in omega (arith, rest, ends.0)
        | inr ge ↦ let same : before ≡ pc = omega arith in let found' : instr_at code pc ≡ Some (i, next) =
            subst (λ (p : ℕ). instr_at code p ≡ Some (i, next)) same found in let e =
            found_parts i instr next after (sym found' ∙ is) in omega (arith, e.1)
      ]
    ]

-- a byte where an instruction begins is passed
pub swept_start : (code : Places) (starts : List Bool) (pc after : ℕ) (instr : ThinInstr) → pc < length code
    → Swept code starts pc pc → instr_at code pc ≡ Some (instr, after) → Swept code (starts ++ true ∷ []) (pc + 1) after
swept_start code starts pc after instr lt swept is =
    let ends = instr_ends code pc instr after is in
    let start : IsStart code pc = swept.here lt in
    record {
      long = omega (arith, length-append starts (true ∷ []), swept.long);
      ahead = omega (arith, ends.0);
      within = ends.1;
      here = λ more. Next pc after instr start is more;
      sound = λ at e. elim (slice_get-push_cases starts true true at e) [
        | inl f ↦ swept.sound at f
        | inr f ↦ let at-is : pc ≡ at = omega
            (arith, f.0, swept.long) in subst (λ (p : ℕ). IsStart code p) at-is start
      ];
      complete =
          λ at below s. elim (cases_lt at pc) [
            | inl less ↦ slice_get-push_other starts true true at (swept.complete at less s)
            | inr
                ge ↦ slice_get-push_last starts true at (omega (arith, swept.long))
          ];
      whole = λ at below s. elim (cases_lt at pc) [
        | inl less ↦ let w = swept.whole at less s in (w.0, w.1, w.2, omega (arith, w.3, ends.0))
        | inr ge ↦ let at-is : pc ≡ at = omega arith in
            (instr, after, subst (λ (p : ℕ). instr_at code p ≡ Some (instr, after)) at-is is, omega arith)
      ];
      none = λ at le s. none_within code starts pc after instr swept is at s (omega arith);
    }

-- a byte within an instruction is passed
pub swept_inside : (code : Places) (starts : List Bool) (pc next : ℕ) → pc ≢ next → Swept code starts pc next
    → Swept code (starts ++ false ∷ []) (pc + 1) next
swept_inside code starts pc next other swept =
    let ahead : pc < next = omega (arith, swept.ahead, other) in
    record {
      long = omega (arith, length-append starts (false ∷ []), swept.long);
      ahead = omega arith;
      within = swept.within;
      here = swept.here;
      sound = λ at e. elim (slice_get-push_cases starts false true at e) [
        | inl f ↦ swept.sound at f
        | inr f ↦
            absurd cc
      ];
      complete =
          λ at below s. elim (cases_lt at pc) [
            | inl less ↦ slice_get-push_other starts false true at (swept.complete at less s)
            | inr ge ↦ let no = swept.none at ge s in absurd (omega arith)
          ];
      whole = λ at below s. elim (cases_lt at pc) [
        | inl less ↦ swept.whole at less s
        | inr ge ↦ let no =
            swept.none at ge s in absurd (omega arith)
      ];
      none = λ at le s. swept.none at (omega arith) s;
    }

step_push : (code : Places) (starts : List Bool) (pc next after : ℕ) (begins : Bool) → pc < length code
    → Swept code starts pc next → GoesOn code pc next after → (begins ≡ true → pc ≡ next) → (begins ≡ false → pc ≢ next)
    → Swept code (starts ++ begins ∷ []) (pc + 1) after
step_push code starts pc next after true lt swept (inl (other, same)) here_if not_if = absurd (other (here_if refl))
step_push code starts pc next after false lt swept (inl (other, same)) here_if not_if =
    rw same (swept_inside code starts pc next other swept)
step_push code starts pc next after true lt swept (inr (here, instr, is)) here_if not_if =
    swept_start code starts pc after instr lt (subst (λ (n : ℕ). Swept code starts pc n) (sym here) swept) is
step_push code starts pc next after false lt swept (inr (here, instr, is)) here_if not_if = absurd (not_if refl here)

-- one step
pub swept_step : (code : Places) (starts new : List Bool) (pc next after : ℕ) (begins : Bool) → pc < length code
    → Swept code starts pc next → GoesOn code pc next after → new ≡ starts ++ begins ∷ [] → (begins ≡ true → pc ≡ next)
    → (begins ≡ false → pc ≢ next) → Swept code new (pc + 1) after
swept_step code starts new pc next after begins lt swept goes push here_if not_if =
    rw push (step_push code starts pc next after begins lt swept goes here_if not_if)

-- the whole code is passed
pub swept_all : (code : Places) (starts : List Bool) (next : ℕ) → 0 < length code → Swept code starts (length code) next
    → AreStarts code starts × AreWhole code
swept_all code starts next filled swept = (
  record {
    long = swept.long;
    sound = swept.sound;
    complete = λ pc s. swept.complete pc (start_within code filled pc s) s;
  },
  λ pc s. let w = swept.whole pc (start_within code filled pc s) s in (w.0, w.1, w.2),
)

-- a byte where an instruction begins that is not whole
pub not_whole : (code : Places) (starts : List Bool) (pc next : ℕ) → pc < length code → Swept code starts pc next
    → pc ≡ next → instr_at code pc ≡ None → AreWhole code → ⊥
not_whole code starts pc next lt swept here is whole =
    let w = whole pc (subst (λ (p : ℕ). IsStart code p) (sym here) (swept.here (omega arith))) in
    let found = w.2 in cc

-- the jump at a pc is aimed where its target is among the starts
pub aimed_iff : (code : Places) (starts : List Bool) (pc next target : ℕ) (instr : ThinInstr) (found : Bool)
    → AreStarts code starts → Some (instr, next) ≡ instr_at code pc → Some target ≡ target_of instr
    → (IsTrue found ↔ (slice_get starts target ≡ Some true)) → IsTrue found ↔ IsAimed code pc
aimed_iff code starts pc next target instr found are is to iff = (
  λ said n t i at aim.
      let same = found_parts instr i next n (is ∙ at) in
      let to' : Some target ≡ Some t = to ∙ ap target_of same.0 ∙ aim in
      let target-is : target ≡ t = cc in
      subst (λ (p : ℕ). IsStart code p) target-is (are.sound target (iff.0 said)),
  λ aimed. iff.1 (are.complete target (aimed next target instr (sym is) (sym to))),
)
