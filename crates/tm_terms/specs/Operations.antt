-- What an operation is applied to, which sorts that has, and the sort of what it gives.
use Rattle.std.specs.Prelude.{◌≡◌, ◌≤◌, ◌<◌, ℕ}
use Rattle.tm_terms.specs.Words.{width_of}
use Rattle.tm_terms.specs.declared.sort.Sort.{Sort}
use Rattle.tm_terms.specs.declared.sort.Sort.TheVariants.{Bool as Truth}
use Rattle.tm_terms.specs.declared.op.Operands.{Operands}
use Rattle.tm_terms.specs.declared.op.Operands.TheVariants.{Nothing, One, Two, Three}
use Rattle.tm_terms.specs.declared.op.Op.{Op}
use Rattle.tm_terms.specs.declared.op.Op.TheVariants.{Free, Const, Not, And, Or, If, Equal, Add, Sub, Mul, Div, Rem}
use Rattle.tm_terms.specs.declared.op.Op.TheVariants.{Shl, Shr, Ushr, BitAnd, BitOr, BitXor, Less, Below}
use Rattle.tm_terms.specs.declared.op.Op.TheVariants.{Widen, WidenZero, Cut}

-- the places of an operation's operands, in order
abbrev pub operands_of : Op → Operands
operands_of (Free s) = Nothing
operands_of (Const s k) = Nothing
operands_of (Not a) = One a
operands_of (And a b) = Two a b
operands_of (Or a b) = Two a b
operands_of (If c a b) = Three c a b
operands_of (Equal a b) = Two a b
operands_of (Add a b) = Two a b
operands_of (Sub a b) = Two a b
operands_of (Mul a b) = Two a b
operands_of (Div a b) = Two a b
operands_of (Rem a b) = Two a b
operands_of (Shl a b) = Two a b
operands_of (Shr a b) = Two a b
operands_of (Ushr a b) = Two a b
operands_of (BitAnd a b) = Two a b
operands_of (BitOr a b) = Two a b
operands_of (BitXor a b) = Two a b
operands_of (Less a b) = Two a b
operands_of (Below a b) = Two a b
operands_of (Widen s a) = One a
operands_of (WidenZero s a) = One a
operands_of (Cut s a) = One a

-- what stands at the first operand's place, or d where there is none
abbrev pub first_of : {A : Type 0} → A → (ℕ → A) → Operands → A
first_of d at Nothing = d
first_of d at (One a) = at a.0
first_of d at (Two a b) = at a.0
first_of d at (Three a b c) = at a.0

-- what stands at the second operand's place
abbrev pub second_of : {A : Type 0} → A → (ℕ → A) → Operands → A
second_of d at Nothing = d
second_of d at (One a) = d
second_of d at (Two a b) = at b.0
second_of d at (Three a b c) = at b.0

-- what stands at the third operand's place
abbrev pub third_of : {A : Type 0} → A → (ℕ → A) → Operands → A
third_of d at Nothing = d
third_of d at (One a) = d
third_of d at (Two a b) = d
third_of d at (Three a b c) = at c.0

-- the operands stand below a place
abbrev pub AreBelow : ℕ → Operands → Type 0
AreBelow n Nothing = Unit {0}
AreBelow n (One a) = a.0 < n
AreBelow n (Two a b) = (a.0 < n) × (b.0 < n)
AreBelow n (Three a b c) = (a.0 < n) × (b.0 < n) × (c.0 < n)

-- the sort of an operation whose first and second operands have the sorts s and t
abbrev pub sort_over : Sort → Sort → Op → Sort
sort_over s t (Free u) = u
sort_over s t (Const u k) = u
sort_over s t (Not a) = Truth
sort_over s t (And a b) = Truth
sort_over s t (Or a b) = Truth
sort_over s t (If c a b) = t
sort_over s t (Equal a b) = Truth
sort_over s t (Add a b) = s
sort_over s t (Sub a b) = s
sort_over s t (Mul a b) = s
sort_over s t (Div a b) = s
sort_over s t (Rem a b) = s
sort_over s t (Shl a b) = s
sort_over s t (Shr a b) = s
sort_over s t (Ushr a b) = s
sort_over s t (BitAnd a b) = s
sort_over s t (BitOr a b) = s
sort_over s t (BitXor a b) = s
sort_over s t (Less a b) = Truth
sort_over s t (Below a b) = Truth
sort_over s t (Widen u a) = u
sort_over s t (WidenZero u a) = u
sort_over s t (Cut u a) = u

-- the operands may have the sorts s, t and u: truth values for Not, And, Or and the choice of If, else one sort for both; Widen and
-- WidenZero give no fewer bits, Cut no more
abbrev pub SortsFit : Sort → Sort → Sort → Op → Type 0
SortsFit s t u (Free v) = Unit {0}
SortsFit s t u (Const v k) = Unit {0}
SortsFit s t u (Not a) = s ≡ Truth
SortsFit s t u (And a b) = (s ≡ Truth) × (t ≡ Truth)
SortsFit s t u (Or a b) = (s ≡ Truth) × (t ≡ Truth)
SortsFit s t u (If c a b) = (s ≡ Truth) × (u ≡ t)
SortsFit s t u (Equal a b) = t ≡ s
SortsFit s t u (Add a b) = t ≡ s
SortsFit s t u (Sub a b) = t ≡ s
SortsFit s t u (Mul a b) = t ≡ s
SortsFit s t u (Div a b) = t ≡ s
SortsFit s t u (Rem a b) = t ≡ s
SortsFit s t u (Shl a b) = t ≡ s
SortsFit s t u (Shr a b) = t ≡ s
SortsFit s t u (Ushr a b) = t ≡ s
SortsFit s t u (BitAnd a b) = t ≡ s
SortsFit s t u (BitOr a b) = t ≡ s
SortsFit s t u (BitXor a b) = t ≡ s
SortsFit s t u (Less a b) = t ≡ s
SortsFit s t u (Below a b) = t ≡ s
SortsFit s t u (Widen v a) = width_of s ≤ width_of v
SortsFit s t u (WidenZero v a) = width_of s ≤ width_of v
SortsFit s t u (Cut v a) = width_of v ≤ width_of s
