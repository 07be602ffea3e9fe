-- Operations that the map's keys call equal are equal.
use Rattle.std.proofs.Common.{◌≡◌, ℕ, true, refl, nat_eq, ◌&&◌, ap, ◌∙◌}
use Rattle.std.proofs.lemmas.Bool.{eqb-true, and_parts}
use Rattle.tm_terms.specs.declared.sort.Sort.{Sort}
use Rattle.tm_terms.specs.declared.sort.Sort.TheVariants.{Bool as Truth, W16, W32, W64}
use Rattle.tm_terms.specs.declared.op.Op.{Op}
use Rattle.tm_terms.specs.declared.op.TermId.{TermId}
use Rattle.tm_terms.specs.declared.op.Op.TheVariants.{Free, Const, Not, And, Or, If, Equal, Add, Sub, Mul, Div, Rem}
use Rattle.tm_terms.specs.declared.op.Op.TheVariants.{Shl, Shr, Ushr, BitAnd, BitOr, BitXor, Less, Below}
use Rattle.tm_terms.specs.declared.op.Op.TheVariants.{Widen, WidenZero, Cut}
use Rattle.tm_terms.specs.contracts.sort.SortPartialEq.TheImpl as sort_eq
use Rattle.tm_terms.specs.contracts.op.OpPartialEq.TheImpl as op_eq

-- sorts
pub same_sort : (s t : Sort) → (sort_eq.ghosts).eq s t ≡ true → s ≡ t
same_sort Truth Truth h = refl
same_sort Truth _ h = cc
same_sort W16 W16 h = refl
same_sort W16 _ h = cc
same_sort W32 W32 h = refl
same_sort W32 _ h = cc
same_sort W64 W64 h = refl
same_sort W64 _ h = cc

-- places
pub same_id : (a b : TermId) → nat_eq a.0 b.0 ≡ true → a ≡ b
same_id a b h = ap (λ (k : ℕ). let id : TermId = record { 0 = k } in id) (eqb-true a.0 b.0 h)

-- two places
pub same_ids : (f : TermId → TermId → Op) (a b c d : TermId) → (nat_eq a.0 c.0 && nat_eq b.0 d.0) ≡ true → f a b ≡ f c d
same_ids f a b c d h =
    let p = and_parts (nat_eq a.0 c.0) (nat_eq b.0 d.0) h in
    ap (λ x. f x b) (same_id a c p.0) ∙ ap (f c) (same_id b d p.1)

-- a sort and a place
pub same_sorted : (f : Sort → TermId → Op) (s t : Sort) (a b : TermId)
    → ((sort_eq.ghosts).eq s t && nat_eq a.0 b.0) ≡ true → f s a ≡ f t b
same_sorted f s t a b h =
    let p = and_parts ((sort_eq.ghosts).eq s t) (nat_eq a.0 b.0) h in
    ap (λ x. f x a) (same_sort s t p.0) ∙ ap (f t) (same_id a b p.1)

-- a sort and a number
pub same_const : (s t : Sort) (j k : ℕ) → ((sort_eq.ghosts).eq s t && nat_eq j k) ≡ true → Const s j ≡ Const t k
same_const s t j k h =
    let p = and_parts ((sort_eq.ghosts).eq s t) (nat_eq j k) h in
    ap (λ x. Const x j) (same_sort s t p.0) ∙ ap (Const t) (eqb-true j k p.1)

-- three places
pub same_if : (a b c d e f : TermId) → (nat_eq a.0 d.0 && (nat_eq b.0 e.0 && nat_eq c.0 f.0)) ≡ true
    → If a b c ≡ If d e f
same_if a b c d e f h =
    let p = and_parts (nat_eq a.0 d.0) (nat_eq b.0 e.0 && nat_eq c.0 f.0) h in
    ap (λ x. If x b c) (same_id a d p.0) ∙ same_ids (If d) b c e f p.1

-- operations
pub same_op : (x y : Op) → (op_eq.ghosts).eq x y ≡ true → x ≡ y
same_op (Free s) (Free t) h = ap Free (same_sort s t h)
same_op (Free s) _ h = cc
same_op (Const s j) (Const t k) h = same_const s t j k h
same_op (Const s j) _ h = cc
same_op (Not a) (Not b) h = ap Not (same_id a b h)
same_op (Not a) _ h = cc
same_op (If a b c) (If d e f) h = same_if a b c d e f h
same_op (If a b c) _ h = cc
same_op (And a b) (And c d) h = same_ids And a b c d h
same_op (And a b) _ h = cc
same_op (Or a b) (Or c d) h = same_ids Or a b c d h
same_op (Or a b) _ h = cc
same_op (Equal a b) (Equal c d) h = same_ids Equal a b c d h
same_op (Equal a b) _ h = cc
same_op (Add a b) (Add c d) h = same_ids Add a b c d h
same_op (Add a b) _ h = cc
same_op (Sub a b) (Sub c d) h = same_ids Sub a b c d h
same_op (Sub a b) _ h = cc
same_op (Mul a b) (Mul c d) h = same_ids Mul a b c d h
same_op (Mul a b) _ h = cc
same_op (Div a b) (Div c d) h = same_ids Div a b c d h
same_op (Div a b) _ h = cc
same_op (Rem a b) (Rem c d) h = same_ids Rem a b c d h
same_op (Rem a b) _ h = cc
same_op (Shl a b) (Shl c d) h = same_ids Shl a b c d h
same_op (Shl a b) _ h = cc
same_op (Shr a b) (Shr c d) h = same_ids Shr a b c d h
same_op (Shr a b) _ h = cc
same_op (Ushr a b) (Ushr c d) h = same_ids Ushr a b c d h
same_op (Ushr a b) _ h = cc
same_op (BitAnd a b) (BitAnd c d) h = same_ids BitAnd a b c d h
same_op (BitAnd a b) _ h = cc
same_op (BitOr a b) (BitOr c d) h = same_ids BitOr a b c d h
same_op (BitOr a b) _ h = cc
same_op (BitXor a b) (BitXor c d) h = same_ids BitXor a b c d h
same_op (BitXor a b) _ h = cc
same_op (Less a b) (Less c d) h = same_ids Less a b c d h
same_op (Less a b) _ h = cc
same_op (Below a b) (Below c d) h = same_ids Below a b c d h
same_op (Below a b) _ h = cc
same_op (Widen s a) (Widen t b) h = same_sorted Widen s t a b h
same_op (Widen s a) _ h = cc
same_op (WidenZero s a) (WidenZero t b) h = same_sorted WidenZero s t a b h
same_op (WidenZero s a) _ h = cc
same_op (Cut s a) (Cut t b) h = same_sorted Cut s t a b h
same_op (Cut s a) _ h = cc
