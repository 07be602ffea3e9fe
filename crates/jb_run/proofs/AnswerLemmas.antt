-- From what the search finds to the answer.
use Rattle.std.proofs.Common.{◌≡◌, ℕ, zero, suc, ◌<◌, Bool, true, false, not, cond, ◌||◌, ◌&&◌, List, [], ◌∷◌, length}
use Rattle.std.proofs.Common.{map, Option, Some, None, unwrap_or, refl, sym, ap, ◌∙◌}
use Rattle.std.specs.List.{AllByRecursion, list_all}
use Rattle.std.proofs.lemmas.List.{length-map}
use Rattle.std.proofs.lemmas.List.Folds.{list_all-map}
use Rattle.jb_run.specs.declared.formula.Lit.{Lit}
use Rattle.jb_run.specs.declared.formula.Clause.{Clause}
use Rattle.jb_run.specs.declared.formula.Formula.{Formula}
use Rattle.jb_run.specs.declared.gates.Bit.{Bit}
use Rattle.jb_run.specs.declared.gates.Bit.TheVariants.{Known, Of}
use Rattle.jb_run.specs.Clauses.{clauses_of}
use Rattle.jb_run.specs.Satisfies.{lit_value, bit_value, clause_holds, Satisfies, Agrees, IsBitBelow, AreClausesBelow}
use Rattle.jb_run.specs.Solved.{value_at, known_at, AgreesWith, all_hold, NoneHolds, AllHoldBy, IsWithin, IsBegun}

-- the values of the search as values of the answer
value_at-map : (values : List (Option Bool)) (v : ℕ)
    → value_at (map (λ value. unwrap_or value false) values) v ≡ unwrap_or (known_at values v) false
value_at-map [] v = refl
value_at-map (y ∷ values) zero = refl
value_at-map (y ∷ values) (suc v) = value_at-map values v

pub AgreesWith-map : (values : List (Option Bool)) (found : List Bool)
    → found ≡ map (λ value. unwrap_or value false) values → AgreesWith (value_at found) values
AgreesWith-map values found e =
    record { agrees = λ v x h. ap (λ z. value_at z v) e ∙ (value_at-map values v ∙ ap (λ z. unwrap_or z false) h) }

pub Satisfies-from : (a : ℕ → Bool) (formula : Formula) → all_hold a formula.clauses.items ≡ true → Satisfies a formula
unfolding all_hold
Satisfies-from a formula h =
    list_all-map (clause_holds a) (λ (clause : Clause). clause.lits.items) formula.clauses.items ∙ h

all_hold-from : (a : ℕ → Bool) (formula : Formula) → Satisfies a formula → all_hold a formula.clauses.items ≡ true
unfolding all_hold
all_hold-from a formula h =
    sym (list_all-map (clause_holds a) (λ (clause : Clause). clause.lits.items) formula.clauses.items) ∙ h

-- an assignment that agrees on the variables of a formula
lit-agrees : (n : ℕ) (a b : ℕ → Bool) → Agrees n a b → (lit : Lit) → lit.variable < n
    → lit_value a lit ≡ lit_value b lit
lit-agrees n a b g lit h = ap (λ z. cond lit.negated (not z) z) (g lit.variable h)

clause-agrees : (n : ℕ) (a b : ℕ → Bool) → Agrees n a b → (lits : List Lit)
    → AllByRecursion (λ (lit : Lit). lit.variable < n) lits → clause_holds a lits ≡ clause_holds b lits
clause-agrees n a b g [] h = refl
clause-agrees n a b g (lit ∷ lits) h = ap (λ z. z || clause_holds a lits) (lit-agrees n a b g lit h.0)
    ∙ ap (λ z. lit_value b lit || z) (clause-agrees n a b g lits h.1)

clauses-agree : (n : ℕ) (a b : ℕ → Bool) → Agrees n a b → (clauses : List (List Lit)) → AreClausesBelow n clauses
    → list_all (clause_holds a) clauses ≡ list_all (clause_holds b) clauses
clauses-agree n a b g [] h = refl
clauses-agree n a b g (clause ∷ clauses) h =
    ap (λ z. z && list_all (clause_holds a) clauses) (clause-agrees n a b g clause h.0)
    ∙ ap (λ z. clause_holds b clause && z) (clauses-agree n a b g clauses h.1)

bit-agrees : (n : ℕ) (a b : ℕ → Bool) → Agrees n a b → (bit : Bit) → IsBitBelow n bit
    → bit_value a bit ≡ bit_value b bit
bit-agrees n a b g (Known value) h = refl
bit-agrees n a b g (Of lit) h = lit-agrees n a b g lit h

-- an assignment with the values that are known
abbrev filled : Option Bool → Bool → Bool
filled None y = y
filled (Some x) y = x

abbrev filled_by : List (Option Bool) → (ℕ → Bool) → ℕ → Bool
filled_by values a v = filled (known_at values v) (a v)

AgreesWith-filled : (values : List (Option Bool)) (a : ℕ → Bool) → AgreesWith (filled_by values a) values
AgreesWith-filled values a = record { agrees = λ v x h. ap (λ z. filled z (a v)) h }

Agrees-filled : (values : List (Option Bool)) (n : ℕ) (a : ℕ → Bool) → ((v : ℕ) → v < n → known_at values v ≡ None)
    → Agrees n (filled_by values a) a
Agrees-filled values n a h = λ v below. ap (λ z. filled z (a v)) (h v below)

-- no assignment, where none extends the values at the start
none-extends : (values : List (Option Bool)) (formula : Formula) (goal : Bit)
    → ((v : ℕ) → v < formula.variables → known_at values v ≡ None)
    → ((a : ℕ → Bool) → AgreesWith a values → all_hold a formula.clauses.items ≡ true → bit_value a goal ≡ true → ⊥)
    → AreClausesBelow formula.variables (clauses_of formula) → IsBitBelow formula.variables goal → (a : ℕ → Bool)
    → Satisfies a formula → bit_value a goal ≡ true → ⊥
none-extends values formula goal unset none below bit_below a h g =
    let agrees = Agrees-filled values formula.variables a unset in
    none (filled_by values a) (AgreesWith-filled values a)
    (all_hold-from (filled_by values a) formula (clauses-agree formula.variables (filled_by values a) a agrees
    (clauses_of formula) below ∙ h))
    (bit-agrees formula.variables (filled_by values a) a agrees goal bit_below ∙ g)

pub unsat-goal : (values new : List (Option Bool)) (formula : Formula) (goal : Bit)
    → ((v : ℕ) → v < formula.variables → known_at values v ≡ None) → IsBegun values new goal false
    → AreClausesBelow formula.variables (clauses_of formula) → IsBitBelow formula.variables goal → (a : ℕ → Bool)
    → Satisfies a formula → bit_value a goal ≡ true → ⊥
unsat-goal values new formula goal unset h = none-extends values formula goal unset (λ a e w g. h a e g)

pub unsat-clauses : (values new : List (Option Bool)) (formula : Formula) (goal : Bit)
    → ((v : ℕ) → v < formula.variables → known_at values v ≡ None) → IsBegun values new goal true
    → NoneHolds new formula.clauses.items → AreClausesBelow formula.variables (clauses_of formula)
    → IsBitBelow formula.variables goal → (a : ℕ → Bool) → Satisfies a formula → bit_value a goal ≡ true → ⊥
unsat-clauses values new formula goal unset h n =
    none-extends values formula goal unset (λ a e w g. n.none a (h.keeps a e g) w)

pub sat-found : (values new last : List (Option Bool)) (formula : Formula) (goal : Bit) (found : List Bool)
    → length values ≡ formula.variables → IsBegun values new goal true → AllHoldBy last formula.clauses.items
    → IsWithin new last → found ≡ map (λ value. unwrap_or value false) last → (length found ≡ formula.variables)
    × Satisfies (value_at found) formula × (bit_value (value_at found) goal ≡ true)
sat-found values new last formula goal found number h all within e =
    let agrees = AgreesWith-map last found e in (
      ap length e ∙ (length-map last (λ value. unwrap_or value false) ∙ (within.number ∙ (h.within.number ∙ number))),
      Satisfies-from (value_at found) formula (all.hold (value_at found) agrees),
      h.holds (value_at found) (within.agree (value_at found) agrees),
    )
