-- Gates that define a fresh variable, and gates one after the other.
use Rattle.std.proofs.Common.{◌≡◌, ◌<◌, ◌≤◌, ◌+◌, ℕ, Bool, true, false, not, ◌&&◌, ◌||◌, List, [], ◌∷◌, ◌++◌, refl, sym}
use Rattle.std.proofs.Common.{ap, ◌∙◌, subst, append_assoc, arith, eqb, inl, inr}
use Rattle.std.specs.Prelude.{if◌then◌else◌}
use Rattle.std.specs.List.{list_all, AllByRecursion}
use Rattle.std.proofs.lemmas.List.Folds.{list_all-append}
use Rattle.std.proofs.lemmas.Bool.{and_parts, and_from, eq-eqb, ne_eqb, cases_eq}
use Rattle.jb_run.specs.declared.formula.Lit.{Lit}
use Rattle.jb_run.specs.declared.formula.Formula.{Formula}
use Rattle.jb_run.specs.declared.gates.Bit.{Bit}
use Rattle.jb_run.specs.declared.gates.Bit.TheVariants.{Known, Of}
use Rattle.jb_run.specs.Clauses.{clauses_of}
use Rattle.jb_run.specs.Satisfies.{lit_value, bit_value, clause_holds, Satisfies, Agrees, IsBitBelow, AreClausesBelow}
use Rattle.jb_run.specs.Gate.{Continues, IsExtension, Extends, Shows, IsGate, IsFresh}

-- whether two values are the same
abbrev pub same : Bool → Bool → Bool
same x y = if x then y else not y

pub same_refl : (x : Bool) → same x x ≡ true
same_refl true = refl
same_refl false = refl

pub same_true : (x y : Bool) → same x y ≡ true → x ≡ y
same_true true y h = sym h
same_true false true h = h
same_true false false h = refl

pub lit_agree : (n : ℕ) (a b : ℕ → Bool) (lit : Lit) → Agrees n a b → lit.variable < n
    → lit_value a lit ≡ lit_value b lit
lit_agree n a b lit agrees below = ap (λ (x : Bool). if lit.negated then not x else x) (agrees lit.variable below)

pub clause_agree : (n : ℕ) (a b : ℕ → Bool) (lits : List Lit) → Agrees n a b
    → AllByRecursion (λ (lit : Lit). lit.variable < n) lits → clause_holds a lits ≡ clause_holds b lits
clause_agree n a b [] agrees below = refl
clause_agree n a b (lit ∷ lits) agrees below =
    let e = lit_agree n a b lit agrees below.0 in
    let es = clause_agree n a b lits agrees below.1 in
    ap (λ (x : Bool). x || clause_holds a lits) e ∙ ap (λ (x : Bool). lit_value b lit || x) es

pub clauses_agree : (n : ℕ) (a b : ℕ → Bool) (clauses : List (List Lit)) → Agrees n a b → AreClausesBelow n clauses
    → list_all (clause_holds a) clauses ≡ list_all (clause_holds b) clauses
clauses_agree n a b [] agrees below = refl
clauses_agree n a b (lits ∷ clauses) agrees below =
    let e = clause_agree n a b lits agrees below.0 in
    let es = clauses_agree n a b clauses agrees below.1 in
    ap (λ (x : Bool). x && list_all (clause_holds a) clauses) e ∙ ap (λ (x : Bool). clause_holds b lits && x) es

pub lits_below_more : (n m : ℕ) (lits : List Lit) → n ≤ m → AllByRecursion (λ (lit : Lit). lit.variable < n) lits
    → AllByRecursion (λ (lit : Lit). lit.variable < m) lits
lits_below_more n m [] le below = tt
lits_below_more n m (lit ∷ lits) le below = (omega (arith, below.0), lits_below_more n m lits le below.1)

pub below_more : (n m : ℕ) (clauses : List (List Lit)) → n ≤ m → AreClausesBelow n clauses → AreClausesBelow m clauses
below_more n m [] le below = tt
below_more n m (lits ∷ clauses) le below = (lits_below_more n m lits le below.0, below_more n m clauses le below.1)

pub below_append : (n : ℕ) (xs ys : List (List Lit)) → AreClausesBelow n xs → AreClausesBelow n ys
    → AreClausesBelow n (xs ++ ys)
below_append n [] ys xs_below ys_below = ys_below
below_append n (x ∷ xs) ys xs_below ys_below = (xs_below.0, below_append n xs ys xs_below.1 ys_below)

pub bit_below_more : (n m : ℕ) (bit : Bit) → n ≤ m → IsBitBelow n bit → IsBitBelow m bit
bit_below_more n m (Known value) le below = tt
bit_below_more n m (Of lit) le below = omega arith

pub bit_agree : (n : ℕ) (a b : ℕ → Bool) (bit : Bit) → Agrees n a b → IsBitBelow n bit
    → bit_value a bit ≡ bit_value b bit
bit_agree n a b (Known value) agrees below = refl
bit_agree n a b (Of lit) agrees below = lit_agree n a b lit agrees below

-- the assignment with one variable given a value
abbrev pub with_value : (ℕ → Bool) → ℕ → Bool → ℕ → Bool
with_value a v value w = if eqb w v then value else a w

pub with_value_at : (a : ℕ → Bool) (v : ℕ) (value : Bool) → with_value a v value v ≡ value
with_value_at a v value = ap (λ (t : Bool). if t then value else a v) (eq-eqb v v refl)

pub with_value_agrees : (a : ℕ → Bool) (v : ℕ) (value : Bool) → Agrees v a (with_value a v value)
with_value_agrees a v value w below =
    let ne : w ≡ v → ⊥ = λ e. omega (arith, e) in
    sym (ap (λ (t : Bool). if t then value else a w) (ne_eqb w v ne))

pub keeps_append : (a : ℕ → Bool) (old new : Formula) (rest : List (List Lit)) → clauses_of new ≡ clauses_of old ++ rest
    → Satisfies a new → Satisfies a old
keeps_append a old new rest e h =
    (and_parts (list_all (clause_holds a) (clauses_of old)) (list_all (clause_holds a) rest)
    (sym (list_all-append (clause_holds a) (clauses_of old) rest) ∙ sym (ap (list_all (clause_holds a)) e) ∙ h)).0

pub rest_holds : (a : ℕ → Bool) (old new : Formula) (rest : List (List Lit)) → clauses_of new ≡ clauses_of old ++ rest
    → Satisfies a new → list_all (clause_holds a) rest ≡ true
rest_holds a old new rest e h =
    (and_parts (list_all (clause_holds a) (clauses_of old)) (list_all (clause_holds a) rest)
    (sym (list_all-append (clause_holds a) (clauses_of old) rest) ∙ sym (ap (list_all (clause_holds a)) e) ∙ h)).1

pub all_hold : (a : ℕ → Bool) (old new : Formula) (rest : List (List Lit)) → clauses_of new ≡ clauses_of old ++ rest
    → Satisfies a old → list_all (clause_holds a) rest ≡ true → Satisfies a new
all_hold a old new rest e h hs =
    ap (list_all (clause_holds a)) e ∙ list_all-append (clause_holds a) (clauses_of old) rest
    ∙ and_from (list_all (clause_holds a) (clauses_of old)) (list_all (clause_holds a) rest) h hs

-- the new formula has one more variable, and clauses that hold exactly where it has the value
pub record DefinesNext (old new : Formula) (value : (ℕ → Bool) → Bool) : Type 0 where
  pub variables : new.variables ≡ old.variables + 1
  pub rest : List (List Lit)
  pub clauses : clauses_of new ≡ clauses_of old ++ rest
  pub below : AreClausesBelow (old.variables + 1) rest
  pub defines : (a : ℕ → Bool) → list_all (clause_holds a) rest ≡ same (a old.variables) (value a)
  pub local : (a b : ℕ → Bool) → Agrees old.variables a b → value a ≡ value b

-- the value of the variable, where the clauses hold
next_is : (old new : Formula) (value : (ℕ → Bool) → Bool) → (d : DefinesNext old new value) → (a : ℕ → Bool)
    → Satisfies a new → a old.variables ≡ value a
next_is old new value d a h =
    same_true (a old.variables) (value a) (sym (d.defines a) ∙ rest_holds a old new d.rest d.clauses h)

next_extends : (old new : Formula) (value : (ℕ → Bool) → Bool) → AreClausesBelow old.variables (clauses_of old)
    → (d : DefinesNext old new value) → (a : ℕ → Bool) → Satisfies a old → (b : ℕ → Bool) × IsExtension old new a b
next_extends old new value named d a h =
    let b : ℕ → Bool = with_value a old.variables (value a) in
    let agrees : Agrees old.variables a b = with_value_agrees a old.variables (value a) in
    let is : b old.variables ≡ value b = with_value_at a old.variables (value a) ∙ d.local a b agrees in
    let older : Satisfies b old = sym (clauses_agree old.variables a b (clauses_of old) agrees named) ∙ h in
    let rest : list_all (clause_holds b) d.rest ≡ true = d.defines b ∙ ap (λ (x : Bool). same x (value b)) is
    ∙ same_refl (value b) in
    (b, record { agrees = agrees; satisfies = all_hold b old new d.rest d.clauses older rest })

pub agrees_next : (n m : ℕ) (a b : ℕ → Bool) → Agrees n a b → m ≡ n + 1 → a n ≡ b n → Agrees m a b
agrees_next n m a b agrees e is v below =
    elim (cases_eq v n) [ inl at ↦ ap a at ∙ is ∙ sym (ap b at) | inr ne ↦ agrees v (omega (arith, ne)) ]

next_only : (old new : Formula) (value : (ℕ → Bool) → Bool) → (d : DefinesNext old new value) → (a b : ℕ → Bool)
    → Satisfies a new → Satisfies b new → Agrees old.variables a b → Agrees new.variables a b
next_only old new value d a b ha hb agrees =
    agrees_next old.variables new.variables a b agrees d.variables (next_is old new value d a ha
    ∙ d.local a b agrees ∙ sym (next_is old new value d b hb))

next_named : (old new : Formula) (value : (ℕ → Bool) → Bool) → AreClausesBelow old.variables (clauses_of old)
    → (d : DefinesNext old new value) → AreClausesBelow new.variables (clauses_of new)
next_named old new value named d =
    let all =
    below_append (old.variables + 1) (clauses_of old) d.rest
    (below_more old.variables (old.variables + 1) (clauses_of old) (omega arith) named) d.below in
    let here : AreClausesBelow (old.variables + 1) (clauses_of new) =
    subst (AreClausesBelow (old.variables + 1)) (sym d.clauses) all in
    subst (λ (n : ℕ). AreClausesBelow n (clauses_of new)) (sym d.variables) here

-- a variable that is defined by its clauses is a gate
pub next_gate : (old new : Formula) (value : (ℕ → Bool) → Bool) → AreClausesBelow old.variables (clauses_of old)
    → DefinesNext old new value → IsGate old new (Of (record { variable = old.variables; negated = false })) value
next_gate old new value named d = record {
  extends = record {
    grows = omega (arith, d.variables);
    named = next_named old new value named d;
    keeps = λ a h. keeps_append a old new d.rest d.clauses h;
    extends = next_extends old new value named d;
    only = next_only old new value d;
  };
  shows = record { within = omega (arith, d.variables); is = next_is old new value d };
}

pub extends_refl : (formula : Formula) → AreClausesBelow formula.variables (clauses_of formula)
    → Extends formula formula
extends_refl formula named = record {
  grows = omega arith;
  named = named;
  keeps = λ a h. h;
  extends = λ a h. (a, record { agrees = λ v below. refl; satisfies = h });
  only = λ a b ha hb agrees. agrees;
}

-- two extensions, one after the other
pub extension_then : (old between new : Formula) (a b c : ℕ → Bool) → old.variables ≤ between.variables
    → IsExtension old between a b → IsExtension between new b c → IsExtension old new a c
extension_then old between new a b c le first second = record {
  agrees = λ v below. first.agrees v below ∙ second.agrees v (omega arith);
  satisfies = second.satisfies;
}

pub extends_then : (old between new : Formula) → Extends old between → Extends between new → Extends old new
extends_then old between new first second = record {
  grows = omega (arith, first.grows, second.grows);
  named = second.named;
  keeps = λ a h. first.keeps a (second.keeps a h);
  extends = λ a h.
      let p = first.extends a h in
      let q = second.extends p.0 p.1.satisfies in
      (q.0, extension_then old between new a p.0 q.0 first.grows p.1 q.1);
  only = λ a b ha hb agrees. second.only a b ha hb (first.only a b (second.keeps a ha) (second.keeps b hb) agrees);
}

-- what a bit shows stays
pub shows_later : (old new : Formula) (bit : Bit) (value : (ℕ → Bool) → Bool) → Extends old new → Shows old bit value
    → Shows new bit value
shows_later old new bit value extends shows = record {
  within = bit_below_more old.variables new.variables bit extends.grows shows.within;
  is = λ a h. shows.is a (extends.keeps a h);
}

-- a bit shows its own value
pub shows_itself : (formula : Formula) (bit : Bit) → IsBitBelow formula.variables bit
    → Shows formula bit (λ a. bit_value a bit)
shows_itself formula bit below = record { within = below; is = λ a h. refl }

-- a variable that no clause names
pub fresh_is : (old new : Formula) (bit : Bit) → bit ≡ Of (record { variable = old.variables; negated = false })
    → new.variables ≡ old.variables + 1 → clauses_of new ≡ clauses_of old
    → AreClausesBelow old.variables (clauses_of old) → IsFresh old new bit
fresh_is old new bit is variables clauses named =
    let n = old.variables in
    let plain : Bit = Of (record { variable = n; negated = false }) in
    let whole : AreClausesBelow (n + 1) (clauses_of new) =
    subst (AreClausesBelow (n + 1)) (sym clauses) (below_more n (n + 1) (clauses_of old) (omega arith) named) in
    let fresh : IsFresh old new plain = record {
      grows = omega (arith, variables);
      within = omega (arith, variables);
      named = subst (λ (m : ℕ). AreClausesBelow m (clauses_of new)) (sym variables) whole;
      keeps = λ a h. sym (ap (list_all (clause_holds a)) clauses) ∙ h;
      extends = λ a h value.
          let b : ℕ → Bool = with_value a n value in
          let agrees : Agrees n a b = with_value_agrees a n value in (
            b,
            record {
              agrees = agrees;
              satisfies = ap (list_all (clause_holds b)) clauses ∙ sym
                  (clauses_agree n a b (clauses_of old) agrees named) ∙ h;
            },
            with_value_at a n value,
          );
      only = λ a b agrees is. agrees_next n new.variables a b agrees variables is;
    } in
    subst (IsFresh old new) (sym is) fresh

pub continues_then : (old between new : Formula) → Continues old between → Continues between new → Continues old new
continues_then old between new first second = record {
  grows = omega (arith, first.grows, second.grows);
  rest = first.rest ++ second.rest;
  clauses = second.clauses ∙ ap (λ (w : List (List Lit)). w ++ second.rest) first.clauses
      ∙ append_assoc (clauses_of old) first.rest second.rest;
}
