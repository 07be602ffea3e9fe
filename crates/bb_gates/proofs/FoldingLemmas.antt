-- Operands that fold, and the opposites of those.
use Rattle.std.proofs.Common.{◌≡◌, ◌==◌, Bool, true, false, Option, Some, None, refl, sym, ap, ◌∙◌, if◌then◌else◌}
use Rattle.std.proofs.lemmas.Bool.{eq-eqb, both_ways}
use Rattle.std.proofs.lemmas.Option.{none-some}
use Rattle.cn_clauses.specs.declared.lit.Lit.{Lit}
use Rattle.cn_clauses.specs.declared.formula.Formula.{Formula}
use Rattle.cn_clauses.specs.Literals.{opposite_of}
use Rattle.cn_clauses.specs.Formulas.{known_of, constant_of}
use Rattle.cn_clauses.specs.Laws.{OppositeTwice}
use Rattle.bb_gates.specs.Growth.{IsConstant, KnownTrue, KnownFalse, AreRelated, AreEqual, AreOpposite, AreFolded}
use Rattle.bb_gates.specs.Growth.{AreOne, FirstConstant, SecondConstant}

-- one of two tests gives a value
one_gives : (s t : Bool) → (s ≡ false → t ≡ true) → (if s then Some true else if t then Some false else None) ≡ None → ⊥
one_gives true t second h = none-some true (sym h)
one_gives false true second h = none-some false (sym h)
one_gives false false second h = both_ways false refl (second refl)

module _ (twice : OppositeTwice) (formula : Formula) where
  pub constant_found : (lit : Lit) → constant_of (known_of formula) lit ≡ None → IsConstant formula lit → ⊥
  constant_found lit h (KnownTrue e) =
      one_gives (lit.0 == lit.0) (lit.0 == (opposite_of lit).0)
      (λ no. absurd (both_ways (lit.0 == lit.0) no (eq-eqb lit.0 lit.0 refl)))
      (sym (ap (λ (known : Option Lit). constant_of known lit) e) ∙ h)
  constant_found lit h (KnownFalse e) =
      one_gives (lit.0 == (opposite_of lit).0) (lit.0 == (opposite_of (opposite_of lit)).0)
      (λ no. eq-eqb lit.0 (opposite_of (opposite_of lit)).0 (ap (λ (l : Lit). l.0) (sym (twice lit))))
      (sym (ap (λ (known : Option Lit). constant_of known lit) e) ∙ h)

  opposite_constant : (lit : Lit) → IsConstant formula lit → IsConstant formula (opposite_of lit)
  opposite_constant lit (KnownTrue e) = KnownFalse (e ∙ ap Some (sym (twice lit)))
  opposite_constant lit (KnownFalse e) = KnownTrue e

  opposites_related : (a b : Lit) → AreRelated a b → AreRelated (opposite_of a) (opposite_of b)
  opposites_related a b (AreEqual e) = AreEqual (ap opposite_of e)
  opposites_related a b (AreOpposite e) = AreOpposite (ap opposite_of e)

  pub opposites_folded : (a b : Lit) → AreFolded formula a b → AreFolded formula (opposite_of a) (opposite_of b)
  opposites_folded a b (AreOne related) = AreOne (opposites_related a b related)
  opposites_folded a b (FirstConstant constant) = FirstConstant (opposite_constant a constant)
  opposites_folded a b (SecondConstant constant) = SecondConstant (opposite_constant b constant)

  -- operands that are not equal, not opposite, and of which none has a known value, do not fold
  pub none_folded : (a b : Lit) → (a ≡ b → ⊥) → (a ≡ opposite_of b → ⊥) → constant_of (known_of formula) a ≡ None
      → constant_of (known_of formula) b ≡ None → AreFolded formula a b → ⊥
  none_folded a b unequal unopposed first second (AreOne (AreEqual e)) = unequal e
  none_folded a b unequal unopposed first second (AreOne (AreOpposite e)) = unopposed e
  none_folded a b unequal unopposed first second (FirstConstant constant) = constant_found a first constant
  none_folded a b unequal unopposed first second (SecondConstant constant) = constant_found b second constant
