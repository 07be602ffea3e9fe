-- The gates: the clauses that define an `and` and a `xor`.
use Rattle.std.proofs.Common.{◌≡◌, ◌<◌, ◌+◌, ℕ, Bool, true, false, not, ◌&&◌, ◌||◌, List, [], ◌∷◌, ◌++◌, refl, sym, ap}
use Rattle.std.proofs.Common.{◌∙◌, subst, arith}
use Rattle.std.specs.Prelude.{if◌then◌else◌}
use Rattle.std.specs.List.{list_all}
use Rattle.jb_run.specs.declared.formula.Lit.{Lit}
use Rattle.jb_run.specs.declared.formula.Formula.{Formula}
use Rattle.jb_run.specs.declared.gates.Bit.{Bit}
use Rattle.jb_run.specs.declared.gates.Bit.TheVariants.{Known, Of}
use Rattle.jb_run.specs.Bits.{opposite_bit}
use Rattle.jb_run.specs.Clauses.{clauses_of}
use Rattle.jb_run.specs.Satisfies.{lit_value, bit_value, clause_holds, Agrees, IsBitBelow}
use Rattle.jb_run.specs.Gate.{IsGate, AreNamed, differ, both, different}
use Rattle.jb_run.proofs.DefinitionLemmas.{same, DefinesNext, next_gate, bit_agree}
use Rattle.jv_list.proofs.PieceLemmas.{three_pieces, four_pieces}

abbrev pub opposite_lit : Lit → Lit
opposite_lit lit = record lit { negated = not lit.negated }

-- a literal of a variable, not negated
abbrev pub plain_lit : ℕ → Lit
plain_lit variable = record { variable = variable; negated = false }

sign_value : (negated x : Bool) → (if not negated then not x else x) ≡ not (if negated then not x else x)
sign_value true true = refl
sign_value true false = refl
sign_value false true = refl
sign_value false false = refl

pub opposite_lit_value : (w : ℕ → Bool) (lit : Lit) → lit_value w (opposite_lit lit) ≡ not (lit_value w lit)
opposite_lit_value w lit = sign_value lit.negated (w lit.variable)

pub opposite_value : (w : ℕ → Bool) (bit : Bit) → bit_value w (opposite_bit bit) ≡ not (bit_value w bit)
opposite_value w (Known value) = refl
opposite_value w (Of lit) = opposite_lit_value w lit

pub opposite_below : (n : ℕ) (bit : Bit) → IsBitBelow n bit → IsBitBelow n (opposite_bit bit)
opposite_below n (Known value) below = tt
opposite_below n (Of lit) below = below

-- the clauses that say that v is true exactly where both are
abbrev pub and_clauses : Lit → Lit → Lit → List (List Lit)
and_clauses v a b =
    (opposite_lit v ∷ a ∷ []) ∷ (opposite_lit v ∷ b ∷ []) ∷ (v ∷ opposite_lit a ∷ opposite_lit b ∷ []) ∷ []

-- the clauses that say that v is true exactly where the two differ
abbrev pub xor_clauses : Lit → Lit → Lit → List (List Lit)
xor_clauses v a b =
    (opposite_lit v ∷ a ∷ b ∷ []) ∷ (opposite_lit v ∷ opposite_lit a ∷ opposite_lit b ∷ []) ∷
    (v ∷ opposite_lit a ∷ b ∷ []) ∷ (v ∷ a ∷ opposite_lit b ∷ []) ∷ []

-- the value of the clauses of an `and`, from the values of its literals and of their opposites
abbrev and_tests : Bool → Bool → Bool → Bool → Bool → Bool
and_tests v p q np nq = (not v || (p || false)) && ((not v || (q || false)) && ((v || (np || (nq || false))) && true))

and_table : (v p q : Bool) → and_tests v p q (not p) (not q) ≡ same v (p && q)
and_table true true true = refl
and_table true true false = refl
and_table true false true = refl
and_table true false false = refl
and_table false true true = refl
and_table false true false = refl
and_table false false true = refl
and_table false false false = refl

abbrev xor_tests : Bool → Bool → Bool → Bool → Bool → Bool
xor_tests v p q np nq =
    (not v || (p || (q || false))) &&
    ((not v || (np || (nq || false))) && ((v || (np || (q || false))) && ((v || (p || (nq || false))) && true)))

xor_table : (v p q : Bool) → xor_tests v p q (not p) (not q) ≡ same v (differ p q)
xor_table true true true = refl
xor_table true true false = refl
xor_table true false true = refl
xor_table true false false = refl
xor_table false true true = refl
xor_table false true false = refl
xor_table false false true = refl
xor_table false false false = refl

and_holds : (n : ℕ) (a b : Lit) (w : ℕ → Bool) → list_all (clause_holds w) (and_clauses (plain_lit n) a b) ≡ same (w n)
    (lit_value w a && lit_value w b)
and_holds n a b w =
    let p = lit_value w a in
    let q = lit_value w b in
    ap (λ (x : Bool). and_tests (w n) p q x (lit_value w (opposite_lit b))) (opposite_lit_value w a)
    ∙ ap (λ (x : Bool). and_tests (w n) p q (not p) x) (opposite_lit_value w b)
    ∙ and_table (w n) p q

xor_holds : (n : ℕ) (a b : Lit) (w : ℕ → Bool) → list_all (clause_holds w) (xor_clauses (plain_lit n) a b) ≡ same (w n)
    (differ (lit_value w a) (lit_value w b))
xor_holds n a b w =
    let p = lit_value w a in
    let q = lit_value w b in
    ap (λ (x : Bool). xor_tests (w n) p q x (lit_value w (opposite_lit b))) (opposite_lit_value w a)
    ∙ ap (λ (x : Bool). xor_tests (w n) p q (not p) x) (opposite_lit_value w b)
    ∙ xor_table (w n) p q

and_local : (n : ℕ) (a b : Bit) (v w : ℕ → Bool) → IsBitBelow n a → IsBitBelow n b → Agrees n v w
    → both a b v ≡ both a b w
and_local n a b v w first second agrees =
    ap (λ (x : Bool). x && bit_value v b) (bit_agree n v w a agrees first)
    ∙ ap (λ (x : Bool). bit_value w a && x) (bit_agree n v w b agrees second)

xor_local : (n : ℕ) (a b : Bit) (v w : ℕ → Bool) → IsBitBelow n a → IsBitBelow n b → Agrees n v w
    → different a b v ≡ different a b w
xor_local n a b v w first second agrees =
    ap (λ (x : Bool). differ x (bit_value v b)) (bit_agree n v w a agrees first)
    ∙ ap (λ (x : Bool). differ (bit_value w a) x) (bit_agree n v w b agrees second)

-- the formula with the three clauses of an `and` over a fresh variable
pub and_gate_is : (old new : Formula) (v a b : Lit) → v ≡ plain_lit old.variables → new.variables ≡ old.variables + 1
    → clauses_of new ≡ clauses_of old ++ and_clauses v a b → AreNamed old (Of a) (Of b)
    → IsGate old new (Of v) (both (Of a) (Of b))
and_gate_is old new v a b is variables clauses named =
    let n = old.variables in
    let here : a.variable < n = named.first in
    let there : b.variable < n = named.second in
    let d : DefinesNext old new (both (Of a) (Of b)) = record {
      variables = variables;
      rest = and_clauses (plain_lit n) a b;
      clauses = clauses ∙ ap (λ (u : Lit). clauses_of old ++ and_clauses u a b) is;
      below = (
        (omega arith, (omega arith, tt)),
        ((omega arith, (omega arith, tt)), ((omega arith, (omega arith, (omega arith, tt))), tt)),
      );
      defines = and_holds n a b;
      local = λ u w agrees. and_local n (Of a) (Of b) u w here there agrees;
    } in
    subst (λ (u : Lit). IsGate old new (Of u) (both (Of a) (Of b))) (sym is)
    (next_gate old new (both (Of a) (Of b)) named.clauses d)

pub xor_gate_is : (old new : Formula) (v a b : Lit) → v ≡ plain_lit old.variables → new.variables ≡ old.variables + 1
    → clauses_of new ≡ clauses_of old ++ xor_clauses v a b → AreNamed old (Of a) (Of b)
    → IsGate old new (Of v) (different (Of a) (Of b))
xor_gate_is old new v a b is variables clauses named =
    let n = old.variables in
    let here : a.variable < n = named.first in
    let there : b.variable < n = named.second in
    let d : DefinesNext old new (different (Of a) (Of b)) = record {
      variables = variables;
      rest = xor_clauses (plain_lit n) a b;
      clauses = clauses ∙ ap (λ (u : Lit). clauses_of old ++ xor_clauses u a b) is;
      below = (
        (omega arith, (omega arith, (omega arith, tt))),
        (
          (omega arith, (omega arith, (omega arith, tt))),
          ((omega arith, (omega arith, (omega arith, tt))), ((omega arith, (omega arith, (omega arith, tt))), tt)),
        ),
      );
      defines = xor_holds n a b;
      local = λ u w agrees. xor_local n (Of a) (Of b) u w here there agrees;
    } in
    subst (λ (u : Lit). IsGate old new (Of u) (different (Of a) (Of b))) (sym is)
    (next_gate old new (different (Of a) (Of b)) named.clauses d)

-- the three clauses of an `and`, pushed one after the other
pub and_pushed : (c0 cf c1 c2 c3 : List (List Lit)) (v a b v1 v2 na nb : Lit) → cf ≡ c0 → v1 ≡ opposite_lit v
    → v2 ≡ opposite_lit v → na ≡ opposite_lit a → nb ≡ opposite_lit b → c1 ≡ cf ++ (v1 ∷ a ∷ []) ∷ []
    → c2 ≡ c1 ++ (v2 ∷ b ∷ []) ∷ [] → c3 ≡ c2 ++ (v ∷ na ∷ nb ∷ []) ∷ [] → c3 ≡ c0 ++ and_clauses v a b
and_pushed c0 cf c1 c2 c3 v a b v1 v2 na nb ef e1 e2 ea eb p1 p2 p3 =
    three_pieces c0 ((opposite_lit v ∷ a ∷ []) ∷ []) ((opposite_lit v ∷ b ∷ []) ∷ [])
    ((v ∷ opposite_lit a ∷ opposite_lit b ∷ []) ∷ []) c1 c2 c3
    (p1 ∙ ap (λ (w : List (List Lit)). w ++ (v1 ∷ a ∷ []) ∷ []) ef ∙ ap (λ (w : Lit). c0 ++ (w ∷ a ∷ []) ∷ []) e1)
    (p2 ∙ ap (λ (w : Lit). c1 ++ (w ∷ b ∷ []) ∷ []) e2)
    (p3 ∙ ap (λ (w : Lit). c2 ++ (v ∷ w ∷ nb ∷ []) ∷ []) ea
    ∙ ap (λ (w : Lit). c2 ++ (v ∷ opposite_lit a ∷ w ∷ []) ∷ []) eb)

-- the four clauses of a `xor`, pushed one after the other
pub xor_pushed : (c0 cf c1 c2 c3 c4 : List (List Lit)) (v a b v1 v2 na nb na3 nb4 : Lit) → cf ≡ c0 → v1 ≡ opposite_lit v
    → v2 ≡ opposite_lit v → na ≡ opposite_lit a → nb ≡ opposite_lit b → na3 ≡ opposite_lit a → nb4 ≡ opposite_lit b
    → c1 ≡ cf ++ (v1 ∷ a ∷ b ∷ []) ∷ [] → c2 ≡ c1 ++ (v2 ∷ na ∷ nb ∷ []) ∷ [] → c3 ≡ c2 ++ (v ∷ na3 ∷ b ∷ []) ∷ []
    → c4 ≡ c3 ++ (v ∷ a ∷ nb4 ∷ []) ∷ [] → c4 ≡ c0 ++ xor_clauses v a b
xor_pushed c0 cf c1 c2 c3 c4 v a b v1 v2 na nb na3 nb4 ef e1 e2 ea eb ea3 eb4 p1 p2 p3 p4 =
    four_pieces c0 ((opposite_lit v ∷ a ∷ b ∷ []) ∷ []) ((opposite_lit v ∷ opposite_lit a ∷ opposite_lit b ∷ []) ∷ [])
    ((v ∷ opposite_lit a ∷ b ∷ []) ∷ []) ((v ∷ a ∷ opposite_lit b ∷ []) ∷ []) c1 c2 c3 c4
    (p1 ∙ ap (λ (w : List (List Lit)). w ++ (v1 ∷ a ∷ b ∷ []) ∷ []) ef
    ∙ ap (λ (w : Lit). c0 ++ (w ∷ a ∷ b ∷ []) ∷ []) e1)
    (p2 ∙ ap (λ (w : Lit). c1 ++ (w ∷ na ∷ nb ∷ []) ∷ []) e2
    ∙ ap (λ (w : Lit). c1 ++ (opposite_lit v ∷ w ∷ nb ∷ []) ∷ []) ea
    ∙ ap (λ (w : Lit). c1 ++ (opposite_lit v ∷ opposite_lit a ∷ w ∷ []) ∷ []) eb)
    (p3 ∙ ap (λ (w : Lit). c2 ++ (v ∷ w ∷ b ∷ []) ∷ []) ea3)
    (p4 ∙ ap (λ (w : Lit). c3 ++ (v ∷ a ∷ w ∷ []) ∷ []) eb4)
