-- Formulas that extend others in exactly one way, and literals that have a value.
use Rattle.std.proofs.Common.{◌≡◌, ◌<◌, ◌≤◌, ◌+◌, ℕ, Bool, true, false, not, List, [], ◌++◌, refl, sym, ap, ◌∙◌, subst}
use Rattle.std.proofs.Common.{append_assoc, append-nil, arith, eqb, inl, inr, Some, if◌then◌else◌}
use Rattle.std.proofs.lemmas.Bool.{eq-eqb, ne_eqb, cases_eq}
use Rattle.cn_clauses.specs.declared.lit.Lit.{Lit}
use Rattle.cn_clauses.specs.declared.formula.Formula.{Formula}
use Rattle.cn_clauses.specs.Literals.{variable_of, literal, opposite_of, lit_value}
use Rattle.cn_clauses.specs.Satisfaction.{all_hold, Satisfies, Agrees}
use Rattle.cn_clauses.specs.Formulas.{variables_of, clauses_of, known_of}
use Rattle.cn_clauses.specs.Extension.{Continues, IsExtension, Extends, Shows, IsGate, IsFresh, Defines, IsOver, same}
use Rattle.cn_clauses.proofs.LiteralLemmas.{literal_variable, literal_value, opposite_variable, opposite_value}
use Rattle.cn_clauses.proofs.LiteralLemmas.{value_agrees}
use Rattle.cn_clauses.proofs.SatisfactionLemmas.{clauses_agree, satisfies_parts, satisfies_both}

pub continues_through : (old between new : Formula) → Continues old between → Continues between new
    → Continues old new
continues_through old between new first second = record {
  grows = omega (arith, first.grows, second.grows);
  rest = first.rest ++ second.rest;
  clauses = second.clauses ∙ ap (λ (cs : List (List Lit)). cs ++ second.rest) first.clauses
      ∙ append_assoc (clauses_of old) first.rest second.rest;
  known = λ lit is. second.known lit (first.known lit is);
}

pub continues_keeps : (old new : Formula) → Continues old new → (a : ℕ → Bool) → Satisfies a (clauses_of new)
    → Satisfies a (clauses_of old)
continues_keeps old new continues a h =
    (satisfies_parts a (clauses_of old) continues.rest (clauses_of new) continues.clauses h).0

-- two extensions, one after the other
pub extension_through : (old between new : Formula) (a b c : ℕ → Bool) → variables_of old ≤ variables_of between
    → IsExtension old between a b → IsExtension between new b c → IsExtension old new a c
extension_through old between new a b c le first second = record {
  agrees = λ v below. first.agrees v below ∙ second.agrees v (omega (arith, below, le));
  satisfies = second.satisfies;
}

pub extends_through : (old between new : Formula) → Extends old between → Extends between new → Extends old new
extends_through old between new first second = record {
  continues = continues_through old between new first.continues second.continues;
  keeps = λ a h. first.keeps a (second.keeps a h);
  extends = λ a h.
      let p = first.extends a h in
      let q = second.extends p.0 p.1.satisfies in
      (q.0, extension_through old between new a p.0 q.0 first.continues.grows p.1 q.1);
  only = λ a b ha hb agrees. second.only a b ha hb (first.only a b (second.keeps a ha) (second.keeps b hb) agrees);
}

pub shows_opposite : (formula : Formula) (lit : Lit) (value : (ℕ → Bool) → Bool) → Shows formula lit value
    → Shows formula (opposite_of lit) (λ a. not (value a))
shows_opposite formula lit value shows = record {
  within = subst (λ (v : ℕ). v < variables_of formula) (sym (opposite_variable lit)) shows.within;
  is = λ a h. opposite_value a lit ∙ ap not (shows.is a h);
}

pub shows_known : (formula : Formula) (lit : Lit) → known_of formula ≡ Some lit → Shows formula lit (λ a. true)
shows_known formula lit is = record {
  within = (formula.fixed lit is).0;
  is = (formula.fixed lit is).1;
}

-- a literal of the same number has the same value
pub shows_number : (formula : Formula) (lit other : Lit) (value : (ℕ → Bool) → Bool) → lit.0 ≡ other.0
    → Shows formula other value → Shows formula lit value
shows_number formula lit other value e shows =
    subst (λ (l : Lit). Shows formula l value) (ap (λ (n : ℕ). let l : Lit = record { 0 = n } in l) (sym e)) shows

pub over_literals : (formula : Formula) (f : Bool → Bool → Bool → Bool) (x y z : Lit)
    → variable_of x < variables_of formula → variable_of y < variables_of formula
    → variable_of z < variables_of formula → IsOver formula (λ a. f (lit_value a x) (lit_value a y) (lit_value a z))
over_literals formula f x y z x_below y_below z_below a b agrees =
    let n = variables_of formula in
    ap (λ (u : Bool). f u (lit_value a y) (lit_value a z)) (value_agrees n a b x agrees x_below)
    ∙ ap (λ (u : Bool). f (lit_value b x) u (lit_value a z)) (value_agrees n a b y agrees y_below)
    ∙ ap (λ (u : Bool). f (lit_value b x) (lit_value b y) u) (value_agrees n a b z agrees z_below)

-- the assignment with one variable given a value
abbrev pub with_value : (ℕ → Bool) → ℕ → Bool → ℕ → Bool
with_value a v value w = if eqb w v then value else a w

with_value_at : (a : ℕ → Bool) (v : ℕ) (value : Bool) → with_value a v value v ≡ value
with_value_at a v value = ap (λ (t : Bool). if t then value else a v) (eq-eqb v v refl)

with_value_agrees : (a : ℕ → Bool) (v : ℕ) (value : Bool) → Agrees v a (with_value a v value)
with_value_agrees a v value w below =
    let ne : w ≡ v → ⊥ = λ e. omega (arith, below, e) in
    sym (ap (λ (t : Bool). if t then value else a w) (ne_eqb w v ne))

agrees_next : (n m : ℕ) (a b : ℕ → Bool) → Agrees n a b → m ≡ n + 1 → a n ≡ b n → Agrees m a b
agrees_next n m a b agrees e is v below =
    elim (cases_eq v n) [ inl at ↦ ap a at ∙ is ∙ sym (ap b at) | inr ne ↦ agrees v (omega (arith, ne, e, below)) ]

same_refl : (x : Bool) → same x x ≡ true
same_refl true = refl
same_refl false = refl

same_true : (x y : Bool) → same x y ≡ true → x ≡ y
same_true true y h = sym h
same_true false true h = h
same_true false false h = refl

-- the literal of the next variable has the variable's value, and is below the new number
next_value : (n : ℕ) (lit : Lit) (a : ℕ → Bool) → lit ≡ literal n false → lit_value a lit ≡ a n
next_value n lit a is = ap (lit_value a) is ∙ literal_value a n

pub next_below : (n m : ℕ) (lit : Lit) → lit ≡ literal n false → m ≡ n + 1 → variable_of lit < m
next_below n m lit is more =
    let at : variable_of lit ≡ n = ap variable_of is ∙ literal_variable n false in
    omega (arith, at, more)

module _ (old new : Formula) (lit : Lit) (value : (ℕ → Bool) → Bool) (d : Defines old new lit value) where
  -- the value of the literal, where the clauses hold
  defined_is : (a : ℕ → Bool) → Satisfies a (clauses_of new) → lit_value a lit ≡ value a
  defined_is a h =
      same_true (lit_value a lit) (value a)
      (sym (d.holds a) ∙ (satisfies_parts a (clauses_of old) d.rest (clauses_of new) d.clauses h).1)

  defined_extends : (a : ℕ → Bool) → Satisfies a (clauses_of old) → (b : ℕ → Bool) × IsExtension old new a b
  defined_extends a h =
      let n = variables_of old in
      let b : ℕ → Bool = with_value a n (value a) in
      let agrees : Agrees n a b = with_value_agrees a n (value a) in
      let is : lit_value b lit ≡ value b = next_value n lit b d.next ∙ with_value_at a n (value a)
      ∙ d.over a b agrees in
      let older : Satisfies b (clauses_of old) = sym (clauses_agree n a b (clauses_of old) agrees old.named) ∙ h in
      let rest : all_hold b d.rest ≡ true = d.holds b ∙ ap (λ (x : Bool). same x (value b)) is
      ∙ same_refl (value b) in
      let both = satisfies_both b (clauses_of old) d.rest (clauses_of new) d.clauses older rest in
      (b, record { agrees = agrees; satisfies = both })

  defined_only : (a b : ℕ → Bool) → Satisfies a (clauses_of new) → Satisfies b (clauses_of new)
      → Agrees (variables_of old) a b → Agrees (variables_of new) a b
  defined_only a b ha hb agrees =
      let n = variables_of old in
      agrees_next n (variables_of new) a b agrees d.variables
      (sym (next_value n lit a d.next) ∙ defined_is a ha ∙ d.over a b agrees ∙ sym (defined_is b hb)
      ∙ next_value n lit b d.next)

  defined_continues : Continues old new
  defined_continues =
      record { grows = omega (arith, d.variables); rest = d.rest; clauses = d.clauses; known = d.known }

  pub defined : IsGate old new lit value
  defined = record {
    extends = record {
      continues = defined_continues;
      keeps = continues_keeps old new defined_continues;
      extends = defined_extends;
      only = defined_only;
    };
    shows = record {
      within = next_below (variables_of old) (variables_of new) lit d.next d.variables;
      is = defined_is;
    };
  }

-- a variable that no clause names
module _ (old new : Formula) (lit : Lit) (next : lit ≡ literal (variables_of old) false)
    (variables : variables_of new ≡ variables_of old + 1) (clauses : clauses_of new ≡ clauses_of old)
    (known : known_of new ≡ known_of old) where
  fresh_extends : (a : ℕ → Bool) → Satisfies a (clauses_of old) → (value : Bool)
      → (b : ℕ → Bool) × IsExtension old new a b × (lit_value b lit ≡ value)
  fresh_extends a h value =
      let n = variables_of old in
      let b : ℕ → Bool = with_value a n value in
      let agrees : Agrees n a b = with_value_agrees a n value in
      let older : Satisfies b (clauses_of old) = sym (clauses_agree n a b (clauses_of old) agrees old.named) ∙ h in
      let is : lit_value b lit ≡ value = next_value n lit b next ∙ with_value_at a n value in
      (b, record { agrees = agrees; satisfies = ap (all_hold b) clauses ∙ older }, is)

  fresh_continues : Continues old new
  fresh_continues = record {
    grows = omega (arith, variables);
    rest = [];
    clauses = clauses ∙ sym (append-nil (clauses_of old));
    known = λ lit is. known ∙ is;
  }

  pub fresh_is : IsFresh old new lit
  fresh_is = record {
    continues = fresh_continues;
    within = next_below (variables_of old) (variables_of new) lit next variables;
    keeps = continues_keeps old new fresh_continues;
    extends = fresh_extends;
    only = λ a b agrees is. agrees_next (variables_of old) (variables_of new) a b agrees variables
        (sym (next_value (variables_of old) lit a next) ∙ is ∙ next_value (variables_of old) lit b next);
  }
