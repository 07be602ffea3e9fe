-- Steps of growth, one after the other.
use Rattle.std.proofs.Common.{◌≤◌, ◌+◌, ℕ, Bool, ◌∙◌, arith}
use Rattle.cn_clauses.specs.declared.formula.Formula.{Formula}
use Rattle.cn_clauses.specs.Formulas.{variables_of}
use Rattle.cn_clauses.specs.Extension.{IsExtension, Extends}
use Rattle.cn_clauses.specs.Laws.{ContinuesThrough}
use Rattle.bb_gates.specs.Growth.{IsConservative, Adds}

pub extends_conservative : (old new : Formula) → Extends old new → IsConservative old new
extends_conservative old new e = record { continues = e.continues; extends = e.extends }

-- two extensions, one after the other
extension_through : (old between new : Formula) (a b c : ℕ → Bool) → variables_of old ≤ variables_of between
    → IsExtension old between a b → IsExtension between new b c → IsExtension old new a c
extension_through old between new a b c le first second = record {
  agrees = λ v below. first.agrees v below ∙ second.agrees v (omega (arith, below, le));
  satisfies = second.satisfies;
}

pub conservative_through : ContinuesThrough → (old between new : Formula) → IsConservative old between
    → IsConservative between new
    → IsConservative old new
conservative_through through old between new first second = record {
  continues = through old between new first.continues second.continues;
  extends = λ a h.
      let p = first.extends a h in
      let q = second.extends p.0 p.1.satisfies in
      (q.0, extension_through old between new a p.0 q.0 first.continues.grows p.1 q.1);
}

pub adds_through : (n m i j : ℕ) (old between new : Formula) → Adds n m old between → Adds i j between new
    → Adds (n + i) (m + j) old new
adds_through n m i j old between new first second = record {
  variables = let v = first.variables in let u = second.variables in omega (arith, v, u);
  clauses = let c = first.clauses in let d = second.clauses in omega (arith, c, d);
}
