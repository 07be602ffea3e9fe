-- The goals of a method's first instructions.
use Rattle.std.proofs.Common.{◌≡◌, ◌<◌, ◌≤◌, ℕ, List, [], ◌∷◌, ◌++◌, length, Some, refl, sym, ap, ◌∙◌, subst}
use Rattle.std.proofs.Common.{arith}
use Rattle.std.specs.List.{flat_map}
use Rattle.std.proofs.lemmas.List.{append-nil}
use Rattle.jv_base.specs.declared.method.MethodId.{MethodId}
use Rattle.jv_base.specs.declared.method.Goal.{Goal}
use Rattle.cf_thin.specs.declared.instr.ThinInstr.{ThinInstr}
use Rattle.cf_thin.specs.Instr.{Places, instr_at}
use Rattle.cf_thin.specs.ThinCode.{IsStart}
use Rattle.jb_run.specs.Sites.{Walk, goals_of, goals_of_found, goals_at, IsSites}
use Rattle.std.proofs.lemmas.List.Concat.{flat_map-append}

-- these goals are those of the instructions from 0 to a pc, where an instruction begins or the code ends
pub record SoFar (method : MethodId) (code : Places) (goals : List Goal) (to : ℕ) : Type 0 where
  pub pcs : List ℕ
  pub walk : Walk code 0 pcs to
  pub goals_are : goals ≡ flat_map (goals_at method code) pcs
  pub within : to ≤ length code
  pub start : to < length code → IsStart code to

pub walk_more : (code : Places) (pcs : List ℕ) (from to next : ℕ) (instr : ThinInstr) → Walk code from pcs to
    → instr_at code to ≡ Some (instr, next) → Walk code from (pcs ++ to ∷ []) next
walk_more code [] from to next instr walk is = (walk, instr, next, is, refl)
walk_more code (pc ∷ pcs) from to next instr walk is =
    (walk.0, walk.1, walk.2, walk.3, walk_more code pcs walk.2 to next instr walk.4 is)

goals_at-found : (method : MethodId) (code : Places) (pc next : ℕ) (instr : ThinInstr)
    → instr_at code pc ≡ Some (instr, next) → goals_at method code pc ≡ goals_of method pc instr
unfolding goals_at
goals_at-found method code pc next instr is = ap (goals_of_found method pc) is

pub so_far_none : (method : MethodId) (code : Places) (goals : List Goal) → goals ≡ [] → SoFar method code goals 0
so_far_none method code goals none =
    record { pcs = []; walk = refl; goals_are = none; within = omega arith; start = λ _. IsStart.First }

pub so_far_more : (method : MethodId) (code : Places) (old new : List Goal) (to next : ℕ) (instr : ThinInstr)
    → SoFar method code old to → to < length code → instr_at code to ≡ Some (instr, next) → next ≤ length code
    → new ≡ old ++ goals_of method to instr → SoFar method code new next
so_far_more method code old new to next instr so below is within added = record {
  pcs = so.pcs ++ to ∷ [];
  walk = walk_more code so.pcs 0 to next instr so.walk is;
  goals_are = added ∙ ap (λ w. w ++ goals_of method to instr) so.goals_are
      ∙ ap (λ w. flat_map (goals_at method code) so.pcs ++ w)
      (sym (append-nil (goals_at method code to) ∙ goals_at-found method code to next instr is)) ∙ sym
      (flat_map-append (goals_at method code) so.pcs (to ∷ []));
  within = within;
  start = λ inside. IsStart.Next to next instr (so.start below) is inside;
}

pub so_far_all : (method : MethodId) (code : Places) (goals : List Goal) (to : ℕ) → SoFar method code goals to
    → length code ≤ to → IsSites method code goals
so_far_all method code goals to so past =
    let end : to ≡ length code = omega (arith, so.within) in
    record { pcs = so.pcs; walk = subst (λ (n : ℕ). Walk code 0 so.pcs n) end so.walk; goals_are = so.goals_are }
