-- The search for an assignment: the values of some variables, and the assignments that agree with them.
use Rattle.std.specs.Prelude.{◌≡◌, ◌⊎◌, ℕ, ◌<◌, ◌≤◌, Bool, true, false, List, [], ◌∷◌, ◌++◌, length, Option, Some, None}
use Rattle.std.specs.Prelude.{slice_set, slice_index_or, count_by}
use Rattle.std.specs.List.{list_all}
use Rattle.jb_run.specs.declared.formula.Lit.{Lit}
use Rattle.jb_run.specs.declared.formula.Clause.{Clause}
use Rattle.jb_run.specs.declared.formula.Formula.{Formula}
use Rattle.jb_run.specs.declared.gates.Bit.{Bit}
use Rattle.jb_run.specs.declared.solver.Answer.{Answer}
use Rattle.jb_run.specs.declared.solver.Answer.TheVariants.{Sat, Unsat}
use Rattle.jb_run.specs.declared.solver.Asks.{Asks}
use Rattle.jb_run.specs.declared.solver.Pass.{Pass}
use Rattle.jb_run.specs.declared.solver.Search.{Search}
use Rattle.jb_run.specs.Clauses.{clauses_of}
use Rattle.jb_run.specs.Satisfies.{lit_value, bit_value, clause_holds, Satisfies, IsBitBelow, AreClausesBelow}

-- the value of a variable: that of its entry, or false past the list
abbrev pub value_at : List Bool → ℕ → Bool
value_at values variable = slice_index_or values variable false

-- the answer is right: the values satisfy the formula and the goal; or, where the variables are those of the formula,
-- no
-- assignment does
abbrev pub IsRight : Formula → Bit → Answer → Type 0
IsRight formula goal (Sat values) =
    (length values.items ≡ formula.variables) × Satisfies (value_at values.items) formula
    × (bit_value (value_at values.items) goal ≡ true)
IsRight formula goal Unsat =
    AreClausesBelow formula.variables (clauses_of formula) → IsBitBelow formula.variables goal → (a : ℕ → Bool)
    → Satisfies a formula → bit_value a goal ≡ true → ⊥

-- the value of a variable, where it has one; a variable past the list is false
abbrev pub known_at : List (Option Bool) → ℕ → Option Bool
known_at values variable = slice_index_or values variable (Some false)

-- the value of a literal whose variable has this value
abbrev pub with_sign : Bool → Option Bool → Option Bool
with_sign negated None = None
with_sign true (Some true) = Some false
with_sign true (Some false) = Some true
with_sign false (Some value) = Some value

-- the value of a literal, where its variable has one
abbrev pub known_lit : List (Option Bool) → Lit → Option Bool
known_lit values lit = with_sign lit.negated (known_at values lit.variable)

-- the assignment gives each variable the value that it has
pub record AgreesWith (a : ℕ → Bool) (values : List (Option Bool)) : Type 0 where
  pub agrees : (variable : ℕ) (value : Bool) → known_at values variable ≡ Some value → a variable ≡ value

-- whether the assignment makes each clause true
unfoldable pub all_hold : (ℕ → Bool) → List Clause → Bool
all_hold a clauses = list_all (λ (clause : Clause). clause_holds a clause.lits.items) clauses

-- some variable has no value
abbrev pub HasUnset : List (Option Bool) → Type 0
HasUnset values = (variable : ℕ) × (known_at values variable ≡ None)

-- how many variables have no value
abbrev pub is_unset : Option Bool → Bool
is_unset None = true
is_unset (Some value) = false

unfoldable pub unset_count : List (Option Bool) → ℕ
unset_count values = count_by is_unset values

-- each assignment that agrees with the values makes the clause true
pub record HoldsBy (values : List (Option Bool)) (lits : List Lit) : Type 0 where
  pub holds : (a : ℕ → Bool) → AgreesWith a values → clause_holds a lits ≡ true

-- each assignment that agrees with the values makes the clause false
pub record FailsBy (values : List (Option Bool)) (lits : List Lit) : Type 0 where
  pub fails : (a : ℕ → Bool) → AgreesWith a values → clause_holds a lits ≡ false

-- the clause is the literal to each assignment that agrees with the values, and the literal has no value
pub record IsLiteral (values : List (Option Bool)) (lits : List Lit) (lit : Lit) : Type 0 where
  pub unset : known_at values lit.variable ≡ None
  pub same : (a : ℕ → Bool) → AgreesWith a values → clause_holds a lits ≡ lit_value a lit

-- what a clause asks of the values
abbrev pub IsAsked : List (Option Bool) → List Lit → Asks → Type 0
IsAsked values lits Asks.Nothing = HasUnset values ⊎ HoldsBy values lits
IsAsked values lits (Asks.Literal lit) = IsLiteral values lits lit
IsAsked values lits Asks.Conflict = FailsBy values lits

-- the values without those of these variables
abbrev pub cleared : List ℕ → List (Option Bool) → List (Option Bool)
cleared [] values = values
cleared (variable ∷ variables) values = slice_set (cleared variables values) variable None

-- the trail lists the variables whose values were added
pub record Grows (old : Search) (new : Search) : Type 0 where
  pub added : List ℕ
  pub trail : new.trail.items ≡ old.trail.items ++ added
  pub values : cleared added new.values.items ≡ old.values.items

-- an assignment that agrees with the old values and makes the clauses true agrees with the new values
pub record Keeps (old : List (Option Bool)) (new : List (Option Bool)) (clauses : List Clause) : Type 0 where
  pub keeps : (a : ℕ → Bool) → AgreesWith a old → all_hold a clauses ≡ true → AgreesWith a new

-- each assignment that agrees with the values makes the clauses true
pub record AllHoldBy (values : List (Option Bool)) (clauses : List Clause) : Type 0 where
  pub hold : (a : ℕ → Bool) → AgreesWith a values → all_hold a clauses ≡ true

-- no assignment that agrees with the values makes the clauses true
pub record NoneHolds (values : List (Option Bool)) (clauses : List Clause) : Type 0 where
  pub none : (a : ℕ → Bool) → AgreesWith a values → all_hold a clauses ≡ true → ⊥

-- values were added, which each assignment has that agrees with the old ones and makes the clauses true
pub record Adds (old : Search) (new : Search) (clauses : List Clause) : Type 0 where
  pub grows : Grows old new
  pub keeps : Keeps old.values.items new.values.items clauses
  pub fewer : unset_count new.values.items ≤ unset_count old.values.items

-- a variable has no value, or the clauses hold
abbrev pub IsSettled : List (Option Bool) → List Clause → Type 0
IsSettled values clauses = HasUnset values ⊎ AllHoldBy values clauses

-- what was found: nothing to add; values that were added; or a clause that is false
abbrev pub IsFound : Search → Search → List Clause → Pass → Type 0
IsFound old new clauses Pass.Still = (new.values.items ≡ old.values.items) × IsSettled new.values.items clauses
IsFound old new clauses Pass.Changed = unset_count new.values.items < unset_count old.values.items
IsFound old new clauses Pass.Conflict = NoneHolds old.values.items clauses

-- what going over the clauses once does and finds
pub record Passes (old : Search) (new : Search) (clauses : List Clause) (found : Pass) : Type 0 where
  pub adds : Adds old new clauses
  pub found_is : IsFound old new clauses found

-- values were added until no clause asks for one, or one is false
abbrev pub Settles : Search → Search → List Clause → Bool → Type 0
Settles old new clauses true = Adds old new clauses × IsSettled new.values.items clauses
Settles old new clauses false = Adds old new clauses × NoneHolds old.values.items clauses

-- no value and nothing of the trail is changed
pub record IsSame (old : Search) (new : Search) : Type 0 where
  pub values : new.values.items ≡ old.values.items
  pub trail : new.trail.items ≡ old.trail.items

-- each assignment that agrees with the new values agrees with the old ones
pub record IsWithin (old : List (Option Bool)) (new : List (Option Bool)) : Type 0 where
  pub number : length new ≡ length old
  pub agree : (a : ℕ → Bool) → AgreesWith a new → AgreesWith a old

-- the goal is true to the assignments that agree with the new values, and these are those of the old ones to which it
-- is true
pub record Fixes (old : List (Option Bool)) (new : List (Option Bool)) (goal : Bit) : Type 0 where
  pub within : IsWithin old new
  pub holds : (a : ℕ → Bool) → AgreesWith a new → bit_value a goal ≡ true
  pub keeps : (a : ℕ → Bool) → AgreesWith a old → bit_value a goal ≡ true → AgreesWith a new

-- the goal was made true, or it is false
abbrev pub IsBegun : List (Option Bool) → List (Option Bool) → Bit → Bool → Type 0
IsBegun old new goal true = Fixes old new goal
IsBegun old new goal false = (a : ℕ → Bool) → AgreesWith a old → bit_value a goal ≡ true → ⊥

-- each assignment that agrees with the new values agrees with the old ones and makes the clauses true
pub record IsFoundBy (old : Search) (new : Search) (clauses : List Clause) : Type 0 where
  pub hold : AllHoldBy new.values.items clauses
  pub within : IsWithin old.values.items new.values.items

-- the values extend to an assignment that makes the clauses true, or they do not, and are as before
abbrev pub IsExtended : Search → Search → List Clause → Bool → Type 0
IsExtended old new clauses true = IsFoundBy old new clauses
IsExtended old new clauses false = IsSame old new × NoneHolds old.values.items clauses

-- the same with a value for one more variable
abbrev pub IsExtendedBy : Search → Search → List Clause → ℕ → Bool → Bool → Type 0
IsExtendedBy old new clauses variable value true = IsFoundBy old new clauses
IsExtendedBy old new clauses variable value false =
    IsSame old new × NoneHolds (slice_set old.values.items variable (Some value)) clauses
