-- The shapes that are found at the start, and at the end of the code.
use Rattle.std.proofs.Common.{◌++◌, append_assoc, ◌≡◌, ◌≤◌, ◌+◌, ℕ, zero, suc, Bool, true, false, List, [], ◌∷◌}
use Rattle.std.proofs.Common.{length, Option, Some, None, refl, sym, ap, subst, ◌∙◌, arith, replicate, ◌-◌}
use Rattle.std.proofs.lemmas.List.{length-append, length-replicate}
use Rattle.cf_thin.specs.Instr.{Places}
use Rattle.cf_thin.specs.declared.shape.Shape.{Shape}
use Rattle.cf_thin.specs.declared.shape.Limits.{Limits}
use Rattle.cf_thin.specs.ThinCode.{IsStart, Shapes, MeetsRules, HasInstrs, IsThin, entry_locals, IsKnownLess, First}
use Rattle.cf_thin.specs.Calls.Passes.{Covers, IsSound, shape_at}
use Rattle.cf_thin.proofs.KnownLemmas.{known_refl}
use Rattle.cf_thin.proofs.SweepLemmas.{start_within}
use Rattle.cf_thin.specs.declared.shape.OperandType.{OperandType}
use Rattle.cf_thin.proofs.GrowthLemmas.{same_some}

none_found : (count pc : ℕ) (s : Shape) → shape_at (replicate count None) pc ≡ Some s → ⊥
none_found zero pc s is = cc
none_found (suc count) zero s is = cc
none_found (suc count) (suc pc) s is = none_found count pc s is

-- only the entry has a shape at the start
pub entry_found : (shape : Shape) (count pc : ℕ) (s : Shape) → shape_at (Some shape ∷ replicate count None) pc ≡ Some s
    → (pc ≡ 0) × (shape ≡ s)
entry_found shape count zero s is = (refl, same_some shape s is)
entry_found shape count (suc pc) s is = absurd (none_found count pc s is)

entry_length : (params max : ℕ) → params ≤ max → length (entry_locals params max) ≡ max
entry_length params max le =
    omega (
      arith,
      length-append (replicate params true) (replicate (max - params) false),
      length-replicate params true,
      length-replicate (max - params) false,
    )

-- what is found at the start is sound
pub sound_entry : (code : Places) (limits : Limits) (found : List (Option Shape)) (shape : Shape) → HasInstrs code
    → limits.params ≤ limits.max_locals → found ≡ Some shape ∷ replicate (length code - 1) None
    → shape.locals ≡ entry_locals limits.params limits.max_locals → shape.stack ≡ [] → IsSound code limits found 0
sound_entry code limits found shape instrs params is locals stack =
    let filled = instrs.filled in
    rw is (record {
      long = omega (arith, filled, length-replicate (length code - 1) (let n : Option Shape = None in n));
      entry = (shape, refl, locals, stack);
      fits = λ at s put. let e = entry_found shape (length code - 1) at s put in record {
        start = subst (λ (p : ℕ). IsStart code p) (sym e.0) First;
        stack = let empty = ap (λ (x : List OperandType). length x) (ap (λ (x : Shape). x.stack) (sym e.1) ∙ stack) in
            omega (arith, empty);
        locals = ap (λ (x : Shape). length x.locals) (sym e.1) ∙ ap length locals
            ∙ entry_length limits.params limits.max_locals params;
      };
      flows = λ at s lt put. absurd (omega arith);
    })

-- what is found at the start is below each assignment that meets the rules
pub covers_entry : (code : Places) (limits : Limits) (found : List (Option Shape)) (shape : Shape) (all : Shapes)
    → MeetsRules code limits all → found ≡ Some shape ∷ replicate (length code - 1) None
    → shape.locals ≡ entry_locals limits.params limits.max_locals → shape.stack ≡ [] → Covers found all
covers_entry code limits found shape all rules is locals stack pc s put =
    let e = entry_found shape (length code - 1) pc s
    (subst (λ (f : List (Option Shape)). shape_at f pc ≡ Some s) is put) in
    let entry = rules.entry in
    let locals-is : entry.0.locals ≡ s.locals = entry.2 ∙ sym locals ∙ ap (λ (x : Shape). x.locals) e.1 in
    let stack-is : entry.0.stack ≡ s.stack = entry.3 ∙ sym stack ∙ ap (λ (x : Shape). x.stack) e.1 in (
      entry.0,
      ap all e.0
          ∙ entry.1,
      record {
        stack = stack-is;
        locals = subst (λ (l : List Bool). IsKnownLess entry.0.locals l) locals-is
            (known_refl entry.0.locals);
      },
    )

-- where the whole code is passed, the shapes that are found meet the rules
pub sound_all : (code : Places) (limits : Limits) (found : List (Option Shape)) → HasInstrs code
    → limits.params ≤ limits.max_locals → IsSound code limits found (length code) → IsThin code limits
sound_all code limits found instrs params sound = record {
  instrs = instrs;
  params = params;
  shapes = shape_at found;
  rules = record {
    entry = sound.entry;
    fits = sound.fits;
    flows = λ pc s is. sound.flows pc s (start_within code instrs.filled pc (sound.fits pc s is).start) is;
  };
}

replicate_more : (count : ℕ) → replicate count (let n : Option Shape = None in n) ++ None ∷ [] ≡ replicate
    (suc count) None
replicate_more zero = refl
replicate_more (suc count) = ap (λ (l : List (Option Shape)). None ∷ l) (replicate_more count)

-- one more pc with no shape
pub push_none : (first old new : List (Option Shape)) (k : ℕ) → 1 ≤ k → old ≡ first ++ replicate (k - 1) None
    → new ≡ old ++ None ∷ [] → new ≡ first ++ replicate (k + 1 - 1) None
push_none first old new k le was push =
    let n-is : suc (k - 1) ≡ k + 1 - 1 = omega arith in
    push ∙ ap (λ (l : List (Option Shape)). l ++ None ∷ []) was ∙ append_assoc first (replicate (k - 1) None)
    (None ∷ []) ∙ ap (λ (l : List (Option Shape)). first ++ l) (replicate_more (k - 1)
    ∙ ap (λ (n : ℕ). replicate n None) n-is)

-- the entry, and no other shape
pub entry_is : (none first all : List (Option Shape)) (shape : Shape) (k count : ℕ) → none ≡ []
    → first ≡ none ++ Some shape ∷ [] → all ≡ first ++ replicate (k - 1) None → k ≡ count
    → all ≡ Some shape ∷ replicate (count - 1) None
entry_is none first all shape k count empty put is end =
    let first-is : first ≡ Some shape ∷ [] = put ∙ ap (λ (l : List (Option Shape)). l ++ Some shape ∷ []) empty in
    is ∙ ap (λ (l : List (Option Shape)). l ++ replicate (k - 1) None) first-is
    ∙ ap (λ (n : ℕ). Some shape ∷ replicate (n - 1) None) end
