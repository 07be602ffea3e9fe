-- What holds of the definitions.
use Rattle.std.specs.Prelude.{◌≡◌, ◌<◌, ℕ, Bool, true, false, not, List, [], ◌∷◌, ◌++◌, IsTrue, Contains, Some}
use Rattle.cn_clauses.specs.declared.lit.Lit.{Lit}
use Rattle.cn_clauses.specs.declared.formula.Formula.{Formula}
use Rattle.cn_clauses.specs.Literals.{variable_of, is_negated, literal, opposite_of, lit_value}
use Rattle.cn_clauses.specs.Satisfaction.{all_hold, Satisfies, Follows, Agrees, AreClausesBelow}
use Rattle.cn_clauses.specs.Propagation.{IsForced, Rup}
use Rattle.cn_clauses.specs.Formulas.{variables_of, clauses_of, known_of}
use Rattle.cn_clauses.specs.Extension.{Continues, Extends, Shows, IsGate, IsFresh, Grows, Defines, IsOver}

-- the opposite of a literal has the opposite value
abbrev pub OppositeValue : Type 0
OppositeValue = (a : ℕ → Bool) (lit : Lit) → lit_value a (opposite_of lit) ≡ not (lit_value a lit)

-- and the same variable
abbrev pub OppositeVariable : Type 0
OppositeVariable = (lit : Lit) → variable_of (opposite_of lit) ≡ variable_of lit

-- the opposite of the opposite is the literal
abbrev pub OppositeTwice : Type 0
OppositeTwice = (lit : Lit) → opposite_of (opposite_of lit) ≡ lit

-- a literal is that of its variable and its sign
abbrev pub LiteralParts : Type 0
LiteralParts = (lit : Lit) → literal (variable_of lit) (is_negated lit) ≡ lit

-- the variable of a literal that was made of one
abbrev pub LiteralVariable : Type 0
LiteralVariable = (variable : ℕ) (negated : Bool) → variable_of (literal variable negated) ≡ variable

-- the value of a variable's literal
abbrev pub LiteralValue : Type 0
LiteralValue = (a : ℕ → Bool) (variable : ℕ) → lit_value a (literal variable false) ≡ a variable

-- assignments that are the same on the variables below a number give a literal below it one value
abbrev pub ValueAgrees : Type 0
ValueAgrees = (n : ℕ) (a b : ℕ → Bool) (lit : Lit) → Agrees n a b → variable_of lit < n
    → lit_value a lit ≡ lit_value b lit

-- and satisfy the same clauses below it
abbrev pub ClausesAgree : Type 0
ClausesAgree = (n : ℕ) (a b : ℕ → Bool) (clauses : List (List Lit)) → Agrees n a b → AreClausesBelow n clauses
    → all_hold a clauses ≡ all_hold b clauses

-- what unit propagation forces is true under each assignment that satisfies the clauses and makes the start true
abbrev pub ForcedIsTrue : Type 0
ForcedIsTrue = (clauses : List (List Lit)) (start : List Lit) (a : ℕ → Bool) → Satisfies a clauses
    → ((lit : Lit) → Contains start lit → IsTrue (lit_value a lit)) → (lit : Lit) → IsForced clauses start lit
    → IsTrue (lit_value a lit)

-- more clauses and a larger start force no less
abbrev pub ForcedByMore : Type 0
ForcedByMore = (few many : List (List Lit)) (first second : List Lit)
    → ((lits : List Lit) → Contains few lits → Contains many lits)
    → ((lit : Lit) → Contains first lit → Contains second lit) → (lit : Lit) → IsForced few first lit
    → IsForced many second lit

-- a clause that unit propagation shows follows
abbrev pub RupFollows : Type 0
RupFollows = (clauses : List (List Lit)) (lits : List Lit) → Rup clauses lits → Follows clauses lits

-- and is shown by more clauses
abbrev pub RupByMore : Type 0
RupByMore = (few many : List (List Lit)) (lits : List Lit)
    → ((one : List Lit) → Contains few one → Contains many one) → Rup few lits → Rup many lits

-- a formula extends itself in exactly one way
abbrev pub ExtendsItself : Type 0
ExtendsItself = (formula : Formula) → Extends formula formula

-- and by way of a formula that does
abbrev pub ExtendsThrough : Type 0
ExtendsThrough = (old between new : Formula) → Extends old between → Extends between new → Extends old new

-- a formula continues itself
abbrev pub ContinuesItself : Type 0
ContinuesItself = (formula : Formula) → Continues formula formula

-- and by way of a formula that does
abbrev pub ContinuesThrough : Type 0
ContinuesThrough = (old between new : Formula) → Continues old between → Continues between new → Continues old new

-- an assignment that satisfies the longer formula satisfies the one that it continues
abbrev pub ContinuesKeeps : Type 0
ContinuesKeeps = (old new : Formula) → Continues old new → (a : ℕ → Bool) → Satisfies a (clauses_of new)
    → Satisfies a (clauses_of old)

-- a literal that has a value in a formula has it in each that continues it
abbrev pub ShowsLater : Type 0
ShowsLater = (old new : Formula) (lit : Lit) (value : (ℕ → Bool) → Bool) → Continues old new → Shows old lit value
    → Shows new lit value

-- a literal of the formula's variables has its own value
abbrev pub ShowsItself : Type 0
ShowsItself = (formula : Formula) (lit : Lit) → variable_of lit < variables_of formula
    → Shows formula lit (λ a. lit_value a lit)

-- the opposite has the opposite value
abbrev pub ShowsOpposite : Type 0
ShowsOpposite = (formula : Formula) (lit : Lit) (value : (ℕ → Bool) → Bool) → Shows formula lit value
    → Shows formula (opposite_of lit) (λ a. not (value a))

-- a value may be replaced by one that is the same wherever the formula is satisfied
abbrev pub ShowsSame : Type 0
ShowsSame = (formula : Formula) (lit : Lit) (value other : (ℕ → Bool) → Bool) → Shows formula lit value
    → ((a : ℕ → Bool) → Satisfies a (clauses_of formula) → value a ≡ other a) → Shows formula lit other

-- the known literal is true
abbrev pub ShowsKnown : Type 0
ShowsKnown = (formula : Formula) (lit : Lit) → known_of formula ≡ Some lit → Shows formula lit (λ a. true)

-- a fresh variable that clauses define by a value over the older formula is a literal for that value
abbrev pub DefinedIsGate : Type 0
DefinedIsGate = (old new : Formula) (lit : Lit) (value : (ℕ → Bool) → Bool) → Defines old new lit value
    → IsGate old new lit value

-- a function of three of its literals is a value over the formula
abbrev pub OverLiterals : Type 0
OverLiterals = (formula : Formula) (f : Bool → Bool → Bool → Bool) (x y z : Lit)
    → variable_of x < variables_of formula → variable_of y < variables_of formula
    → variable_of z < variables_of formula → IsOver formula (λ a. f (lit_value a x) (lit_value a y) (lit_value a z))

-- a formula that extends another in exactly one way grew by no input
abbrev pub ExtendsGrows : Type 0
ExtendsGrows = (old new : Formula) → Extends old new → Grows old new []

-- a fresh variable is one input
abbrev pub FreshGrows : Type 0
FreshGrows = (old new : Formula) (lit : Lit) → IsFresh old new lit → Grows old new (lit ∷ [])

-- the inputs of two growths stand one after the other
abbrev pub GrowsThrough : Type 0
GrowsThrough = (old between new : Formula) (first second : List Lit) → Grows old between first
    → Grows between new second → Grows old new (first ++ second)
