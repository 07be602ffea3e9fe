-- What a gate leaves: what each answer keeps, how much it adds at most, and where it adds no gate.
use Rattle.std.specs.Prelude.{◌≡◌, ◌≤◌, ◌+◌, ℕ, Bool, List, length, Some, None}
use Rattle.cn_clauses.specs.declared.lit.Lit.{Lit}
use Rattle.cn_clauses.specs.declared.formula.Formula.{Formula}
use Rattle.cn_clauses.specs.Literals.{opposite_of}
use Rattle.cn_clauses.specs.Satisfaction.{Satisfies, IsClauseBelow}
use Rattle.cn_clauses.specs.Formulas.{variables_of, clauses_of, known_of}
use Rattle.cn_clauses.specs.Extension.{Continues, IsExtension}

-- the literals are of the formula's variables
abbrev pub AreOf : Formula → List Lit → Type 0
AreOf formula lits = IsClauseBelow (variables_of formula) lits

-- the new formula continues the old one, and each assignment that satisfies the old one extends to it
pub record IsConservative (old new : Formula) : Type 0 where
  pub continues : Continues old new
  pub extends : (a : ℕ → Bool) → Satisfies a (clauses_of old) → (b : ℕ → Bool) × IsExtension old new a b

-- the new formula has so many more variables, and so many more clauses, at most
pub record Adds (n m : ℕ) (old new : Formula) : Type 0 where
  pub variables : variables_of new ≤ variables_of old + n
  pub clauses : length (clauses_of new) ≤ length (clauses_of old) + m

-- the literal is the one that the formula knows, or its opposite
pub data IsConstant (formula : Formula) (lit : Lit) : Type 0 where
  KnownTrue : known_of formula ≡ Some lit → IsConstant formula lit
  KnownFalse : known_of formula ≡ Some (opposite_of lit) → IsConstant formula lit

-- the two literals are equal or opposite
pub data AreRelated (a b : Lit) : Type 0 where
  AreEqual : a ≡ b → AreRelated a b
  AreOpposite : a ≡ opposite_of b → AreRelated a b

-- a gate over the two needs no clause: they are equal or opposite, or one is a constant
pub data AreFolded (formula : Formula) (a b : Lit) : Type 0 where
  AreOne : AreRelated a b → AreFolded formula a b
  FirstConstant : IsConstant formula a → AreFolded formula a b
  SecondConstant : IsConstant formula b → AreFolded formula a b

-- nothing was added but the true literal, where the formula had none
pub data AddsNoGate (old new : Formula) : Type 0 where
  AddsNothing : new ≡ old → AddsNoGate old new
  AddsTruth : known_of old ≡ None → Adds 1 1 old new → AddsNoGate old new

-- a choice that needs no clause: its arms are equal, or it is a constant
pub data IsChoiceFolded (formula : Formula) (choice a b : Lit) : Type 0 where
  EqualArms : a ≡ b → IsChoiceFolded formula choice a b
  ConstantChoice : IsConstant formula choice → IsChoiceFolded formula choice a b

-- two of the three literals are equal or opposite
pub data SomeAreRelated (a b c : Lit) : Type 0 where
  FirstTwo : AreRelated a b → SomeAreRelated a b c
  LastTwo : AreRelated b c → SomeAreRelated a b c
  Ends : AreRelated c a → SomeAreRelated a b c
