-- What the type of a formula keeps, as it grows.
use Rattle.std.proofs.Common.{◌≡◌, ◌<◌, ◌≤◌, ◌+◌, ◌-◌, ℕ, Bool, true, false, ◌&&◌, ◌||◌, List, [], ◌∷◌, ◌++◌, length}
use Rattle.std.proofs.Common.{take, refl, sym, ap, ◌∙◌, subst, append-nil, arith, Some, None, Option, Result, Ok, Err}
use Rattle.std.proofs.Common.{OnOk, OnErr}
use Rattle.std.proofs.lemmas.List.{map-append, length-append}
use Rattle.std.proofs.lemmas.Option.{none-some}
use Rattle.std.proofs.Math.Seq.{take-append_seam}
use Rattle.cn_clauses.specs.declared.lit.Lit.{Lit}
use Rattle.cn_clauses.specs.declared.clause.Clause.{Clause}
use Rattle.cn_clauses.specs.declared.formula.Formula.{Formula}
use Rattle.cn_clauses.specs.Literals.{variable_of, literal, lit_value}
use Rattle.cn_clauses.specs.Satisfaction.{all_hold, Satisfies, IsClauseBelow, AreClausesBelow}
use Rattle.cn_clauses.specs.Clauses.{lits_of_all, IsFixed}
use Rattle.cn_clauses.specs.Formulas.{variables_of, clauses_of, known_of}
use Rattle.cn_clauses.specs.Extension.{Extends, Defines, same}
use Rattle.cn_clauses.proofs.SatisfactionLemmas.{below_more, below_append, satisfies_parts}
use Rattle.cn_clauses.proofs.ExtensionLemmas.{next_below}

pub lits_push : (clauses : List Clause) (clause : Clause)
    → lits_of_all (clauses ++ clause ∷ []) ≡ lits_of_all clauses ++ clause.lits ∷ []
lits_push clauses clause = map-append (λ (c : Clause). c.lits) clauses (clause ∷ [])

pub named_push : (n : ℕ) (clauses : List Clause) (clause : Clause) → AreClausesBelow n (lits_of_all clauses)
    → IsClauseBelow n clause.lits → AreClausesBelow n (lits_of_all (clauses ++ clause ∷ []))
named_push n clauses clause named below =
    subst (AreClausesBelow n) (sym (lits_push clauses clause))
    (below_append n (lits_of_all clauses) (clause.lits ∷ []) named (below, tt))

pub fixed_push : (n : ℕ) (clauses : List Clause) (clause : Clause) (known : Option Lit)
    → IsFixed n (lits_of_all clauses) known → IsFixed n (lits_of_all (clauses ++ clause ∷ [])) known
fixed_push n clauses clause known fixed lit is = (
  (fixed lit is).0,
  λ a h. (fixed lit is).1 a
      (satisfies_parts a (lits_of_all clauses) (clause.lits ∷ []) (lits_of_all (clauses ++ clause ∷ []))
      (lits_push clauses clause) h).0,
)

pub fixed_more : (n m : ℕ) (clauses : List (List Lit)) (known : Option Lit) → n ≤ m → IsFixed n clauses known
    → IsFixed m clauses known
fixed_more n m clauses known le fixed lit is =
    let below : variable_of lit < n = (fixed lit is).0 in
    (omega (arith, below, le), (fixed lit is).1)

-- what a push leaves is no shorter
pub pushed_le : {X A B : Type 0} (r : Result A B) (old new : List X) (x : X) → OnOk r (new ≡ old ++ x ∷ [])
    → OnErr r (new ≡ old) → length old ≤ length new
pushed_le (Ok _) old new x more same =
    let e : length new ≡ length old + 1 = ap length more ∙ length-append old (x ∷ []) in
    omega (arith, e)
pushed_le (Err _) old new x more same = let e : length new ≡ length old = ap length same in omega (arith, e)

-- the clauses that a push leaves are over the same variables
pub named_after : {A B : Type 0} (r : Result A B) (n : ℕ) (old new : List Clause) (clause : Clause)
    → OnOk r (new ≡ old ++ clause ∷ []) → OnErr r (new ≡ old) → AreClausesBelow n (lits_of_all old)
    → IsClauseBelow n clause.lits → AreClausesBelow n (lits_of_all new)
named_after (Ok _) n old new clause more same named below =
    subst (λ (cs : List Clause). AreClausesBelow n (lits_of_all cs)) (sym more) (named_push n old clause named below)
named_after (Err _) n old new clause more same named below =
    subst (λ (cs : List Clause). AreClausesBelow n (lits_of_all cs)) (sym same) named

-- and fix the same literal
pub fixed_after : {A B : Type 0} (r : Result A B) (n : ℕ) (old new : List Clause) (clause : Clause)
    (known : Option Lit) → OnOk r (new ≡ old ++ clause ∷ []) → OnErr r (new ≡ old)
    → IsFixed n (lits_of_all old) known → IsFixed n (lits_of_all new) known
fixed_after (Ok _) n old new clause known more same fixed =
    subst (λ (cs : List Clause). IsFixed n (lits_of_all cs) known) (sym more) (fixed_push n old clause known fixed)
fixed_after (Err _) n old new clause known more same fixed =
    subst (λ (cs : List Clause). IsFixed n (lits_of_all cs) known) (sym same) fixed

some_same : (x y : Lit) → Some x ≡ Some y → x ≡ y
some_same x y e = cc

-- a list that took an element, without its last one
pub taken_back : (old more after : List Bool) (x : Bool) → more ≡ old ++ x ∷ []
    → after ≡ take (length more - 1) more → after ≡ old
taken_back old more after x pushed popped =
    let count : length more ≡ length old + 1 = ap length pushed ∙ length-append old (x ∷ []) in
    let back : length more - 1 ≡ length old = omega (arith, count) in
    popped ∙ ap (λ (n : ℕ). take n more) back ∙ ap (λ (xs : List Bool). take (length old) xs) pushed
    ∙ take-append_seam old (x ∷ [])

unit_holds : (x : Bool) → ((x || false) && true) ≡ same x true
unit_holds true = refl
unit_holds false = refl

unit_true : (x : Bool) → ((x || false) && true) ≡ true → x ≡ true
unit_true true h = refl
unit_true false h = h

-- a formula with one more variable, and the clause of its literal alone
module _ (old : Formula) (lit : Lit) (unit : Clause) (next : lit ≡ literal (variables_of old) false)
    (alone : unit.lits ≡ lit ∷ []) where
  pub unit_below : (m : ℕ) → m ≡ variables_of old + 1 → IsClauseBelow m unit.lits
  unit_below m more = subst (IsClauseBelow m) (sym alone) (next_below (variables_of old) m lit next more, tt)

  pub unit_named : (m : ℕ) (clauses : List Clause) → m ≡ variables_of old + 1 → clauses ≡ old.clauses ++ unit ∷ []
      → AreClausesBelow m (lits_of_all clauses)
  unit_named m clauses more pushed =
      subst (λ (cs : List Clause). AreClausesBelow m (lits_of_all cs)) (sym pushed)
      (named_push m old.clauses unit
      (below_more (variables_of old) m (clauses_of old) (omega (arith, more)) old.named) (unit_below m more))

  lits_after : (clauses : List Clause) → clauses ≡ old.clauses ++ unit ∷ []
      → lits_of_all clauses ≡ clauses_of old ++ (lit ∷ []) ∷ []
  lits_after clauses pushed = ap lits_of_all pushed ∙ lits_push old.clauses unit
      ∙ ap (λ (lits : List Lit). clauses_of old ++ lits ∷ []) alone

  unit_is : (a : ℕ → Bool) (clauses : List Clause) → clauses ≡ old.clauses ++ unit ∷ []
      → Satisfies a (lits_of_all clauses) → lit_value a lit ≡ true
  unit_is a clauses pushed h =
      unit_true (lit_value a lit)
      (satisfies_parts a (clauses_of old) ((lit ∷ []) ∷ []) (lits_of_all clauses) (lits_after clauses pushed) h).1

  pub unit_fixed : (m : ℕ) (clauses : List Clause) → m ≡ variables_of old + 1 → clauses ≡ old.clauses ++ unit ∷ []
      → IsFixed m (lits_of_all clauses) (Some lit)
  unit_fixed m clauses more pushed x is =
      let same_lit : lit ≡ x = some_same lit x is in
      subst (λ (l : Lit). (variable_of l < m)
      × ((a : ℕ → Bool) → Satisfies a (lits_of_all clauses) → lit_value a l ≡ true)) same_lit
      (next_below (variables_of old) m lit next more, λ a h. unit_is a clauses pushed h)

  pub unit_defines : (new : Formula) → variables_of new ≡ variables_of old + 1
      → new.clauses ≡ old.clauses ++ unit ∷ [] → known_of old ≡ None → Defines old new lit (λ a. true)
  unit_defines new more pushed none = record {
    next = next;
    variables = more;
    rest = (lit ∷ []) ∷ [];
    clauses = lits_after new.clauses pushed;
    known = λ x is. absurd (none-some x (sym none ∙ is));
    over = λ a b agrees. refl;
    holds = λ a. unit_holds (lit_value a lit);
  }

-- a formula with the same fields extends the old one
pub extends_same : (old new : Formula) → new.variables ≡ old.variables → new.clauses ≡ old.clauses
    → new.truth ≡ old.truth → Extends old new
extends_same old new variables clauses truth =
    let count : variables_of new ≡ variables_of old = ap length variables in
    let lits : clauses_of new ≡ clauses_of old = ap lits_of_all clauses in
    record {
      continues = record {
        grows = omega (arith, count);
        rest = [];
        clauses = lits ∙ sym (append-nil (clauses_of old));
        known = λ lit is. truth ∙ is;
      };
      keeps = λ a h. ap (all_hold a) (sym lits) ∙ h;
      extends = λ a h. (a, record { agrees = λ v below. refl; satisfies = ap (all_hold a) lits ∙ h });
      only = λ a b ha hb agrees v below. agrees v (omega (arith, below, count));
    }
