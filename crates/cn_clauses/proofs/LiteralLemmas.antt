-- Literals, their opposites and their values.
use Rattle.std.proofs.Common.{◌≡◌, ◌<◌, ◌+◌, ◌-◌, ◌*◌, ◌/◌, ◌%◌, ◌==◌, ℕ, Bool, true, false, not, refl, sym, ap, ◌∙◌}
use Rattle.std.proofs.Common.{arith, if◌then◌else◌}
use Rattle.std.proofs.lemmas.Bool.{eq-eqb, ne_eqb, eqb-true, eqb-false}
use Rattle.cn_clauses.specs.declared.lit.Lit.{Lit}
use Rattle.cn_clauses.specs.Literals.{variable_of, is_negated, literal, opposite_of, lit_value}
use Rattle.cn_clauses.specs.Satisfaction.{Agrees}

pub literal_variable : (v : ℕ) (s : Bool) → variable_of (literal v s) ≡ v
unfolding variable_of literal
literal_variable v true = omega arith
literal_variable v false = omega arith

pub literal_negated : (v : ℕ) (s : Bool) → is_negated (literal v s) ≡ s
unfolding is_negated literal
literal_negated v true = eq-eqb ((2 * v + 1) % 2) 1 (omega arith)
literal_negated v false = ne_eqb ((2 * v + 0) % 2) 1 (λ e. omega (arith, e))

sign_of : (n : ℕ) (s : Bool) → (n % 2 == 1) ≡ s → 2 * (n / 2) + (if s then 1 else 0) ≡ n
sign_of n true e = let odd : n % 2 ≡ 1 = eqb-true (n % 2) 1 e in omega (arith, odd)
sign_of n false e = let even : n % 2 ≡ 1 → ⊥ = eqb-false (n % 2) 1 e in omega (arith, even)

pub literal_parts : (lit : Lit) → literal (variable_of lit) (is_negated lit) ≡ lit
unfolding variable_of is_negated literal
literal_parts lit = ap (λ (n : ℕ). let l : Lit = record { 0 = n } in l) (sign_of lit.0 (lit.0 % 2 == 1) refl)

-- the two ways to compute the opposite
pub opposite_even : (lit : Lit) → lit.0 % 2 ≡ 0 → (let l : Lit = record { 0 = lit.0 + 1 } in l) ≡ opposite_of lit
unfolding variable_of is_negated literal opposite_of
opposite_even lit even =
    let plain : (lit.0 % 2 == 1) ≡ false = ne_eqb (lit.0 % 2) 1 (λ e. omega (arith, e, even)) in
    ap (λ (n : ℕ). let l : Lit = record { 0 = n } in l)
    (omega (arith, even) ∙ ap (λ (s : Bool). 2 * (lit.0 / 2) + (if not s then 1 else 0)) (sym plain))

pub opposite_odd : (lit : Lit) → (lit.0 % 2 ≡ 0 → ⊥) → (let l : Lit = record { 0 = lit.0 - 1 } in l) ≡ opposite_of lit
unfolding variable_of is_negated literal opposite_of
opposite_odd lit odd =
    let negated : (lit.0 % 2 == 1) ≡ true = eq-eqb (lit.0 % 2) 1 (omega (arith, odd)) in
    ap (λ (n : ℕ). let l : Lit = record { 0 = n } in l)
    (omega (arith, odd) ∙ ap (λ (s : Bool). 2 * (lit.0 / 2) + (if not s then 1 else 0)) (sym negated))

pub opposite_variable : (lit : Lit) → variable_of (opposite_of lit) ≡ variable_of lit
unfolding opposite_of
opposite_variable lit = literal_variable (variable_of lit) (not (is_negated lit))

pub opposite_negated : (lit : Lit) → is_negated (opposite_of lit) ≡ not (is_negated lit)
unfolding opposite_of
opposite_negated lit = literal_negated (variable_of lit) (not (is_negated lit))

not_not : (s : Bool) → not (not s) ≡ s
not_not true = refl
not_not false = refl

pub opposite_twice : (lit : Lit) → opposite_of (opposite_of lit) ≡ lit
unfolding opposite_of
opposite_twice lit =
    ap (λ (v : ℕ). literal v (not (is_negated (opposite_of lit)))) (opposite_variable lit)
    ∙ ap (λ (s : Bool). literal (variable_of lit) s) (ap not (opposite_negated lit) ∙ not_not (is_negated lit))
    ∙ literal_parts lit

sign_value : (s x : Bool) → (if not s then not x else x) ≡ not (if s then not x else x)
sign_value true x = sym (not_not x)
sign_value false x = refl

pub opposite_value : (a : ℕ → Bool) (lit : Lit) → lit_value a (opposite_of lit) ≡ not (lit_value a lit)
unfolding lit_value
opposite_value a lit =
    ap (λ (v : ℕ). if is_negated (opposite_of lit) then not (a v) else a v) (opposite_variable lit)
    ∙ ap (λ (s : Bool). if s then not (a (variable_of lit)) else a (variable_of lit)) (opposite_negated lit)
    ∙ sign_value (is_negated lit) (a (variable_of lit))

pub literal_value : (a : ℕ → Bool) (v : ℕ) → lit_value a (literal v false) ≡ a v
unfolding lit_value
literal_value a v =
    ap (λ (s : Bool). if s then not (a (variable_of (literal v false))) else a (variable_of (literal v false)))
    (literal_negated v false)
    ∙ ap a (literal_variable v false)

pub value_agrees : (n : ℕ) (a b : ℕ → Bool) (lit : Lit) → Agrees n a b → variable_of lit < n
    → lit_value a lit ≡ lit_value b lit
unfolding lit_value
value_agrees n a b lit agrees below =
    ap (λ (x : Bool). if is_negated lit then not x else x) (agrees (variable_of lit) below)
