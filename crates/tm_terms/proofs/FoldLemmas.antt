-- Operations on constants.
use Rattle.std.proofs.Common.{◌≡◌, ℕ, ◌<◌, ◌^◌, ◌%◌, List, [], Some, refl, ap, ◌∙◌, false, true≢false, lit<, mod-lt}
use Rattle.std.specs.Prelude.{slice_get}
use Rattle.std.proofs.Math.Nat.{mod-eq_of_lt}
use Rattle.std.proofs.lemmas.Nat.{pow_pos}
use Rattle.tm_terms.specs.declared.sort.Sort.{Sort}
use Rattle.tm_terms.specs.declared.sort.Sort.TheVariants.{Bool as Truth}
use Rattle.tm_terms.specs.declared.op.Operands.{Operands}
use Rattle.tm_terms.specs.declared.op.Operands.TheVariants.{Nothing, One, Two, Three}
use Rattle.tm_terms.specs.declared.op.Op.{Op}
use Rattle.tm_terms.specs.declared.op.Op.TheVariants.{Free, Const}
use Rattle.tm_terms.specs.declared.numbers.Given.{Given}
use Rattle.tm_terms.specs.Words.{width_of}
use Rattle.tm_terms.specs.Operations.{operands_of, second_of, sort_over}
use Rattle.tm_terms.specs.Equations.{named_number}
use Rattle.tm_terms.specs.Terms.{is_free, term_sort, term_value, op_value}
use Rattle.tm_terms.specs.Sharing.{AreReduced}
use Rattle.tm_terms.specs.Rules.{Replaces, AreGiven}
use Rattle.tm_terms.proofs.TermLemmas.{value-below}
use Rattle.tm_terms.proofs.ValueLemmas.{value-at}

-- a constant has its number
pub const-value : (ops : List Op) (k : ℕ) (s : Sort) (n : ℕ) → AreReduced ops → slice_get ops k ≡ Some (Const s n)
    → (v : List ℕ) → term_value ops v k ≡ n
const-value ops k s n reduced e v = value-at ops k (Const s n) e v ∙ mod-eq_of_lt (reduced k (Const s n) e)

-- a second operand's value is a word of its sort
second-below : (ops : List Op) (v : List ℕ) (o : Operands)
    → second_of 0 (term_value ops v) o < 2 ^ width_of (second_of Truth (term_sort ops) o)
second-below ops v Nothing = lit< tt
second-below ops v (One a) = lit< tt
second-below ops v (Two a b) = value-below ops v b.0
second-below ops v (Three a b c) = value-below ops v b.0

pub given-below : (ops : List Op) (o : Operands) (g : Given) → AreGiven ops o g → g.y < 2 ^ width_of g.t
given-below ops o g given = rw (given.t, ← given.y []) (second-below ops [] o)

-- only a free term asks for an input
pub named-kept : (s : Sort) (x y z i j : ℕ) (op : Op) → is_free op ≡ false
    → named_number s x y z i op ≡ named_number s x y z j op
named-kept s x y z i j (Free t) h = absurd (true≢false h)
named-kept s x y z i j _ h = refl

module _ (ops : List Op) (op : Op) (g : Given) (given : AreGiven ops (operands_of op) g)
    (kept : is_free op ≡ false) where
  -- the number that was computed of constants is the value
  number-given : (v : List ℕ) → named_number g.s g.x g.y g.z 0 op % 2 ^ width_of (sort_over g.s g.t op) ≡
      op_value ops v op
  number-given v =
      rw (given.x v, given.y v, given.z v, ← given.s, ← given.t)
      (ap (λ (n : ℕ). n % 2 ^ width_of (sort_over g.s g.t op)) (named-kept g.s g.x g.y g.z 0 _ op kept))

  module _ (sort : Sort) (number : ℕ) (sort-is : sort ≡ sort_over g.s g.t op)
      (number-is : number ≡ named_number g.s g.x g.y g.z 0 op % 2 ^ width_of (sort_over g.s g.t op)) where
    pub fold-below : number < 2 ^ width_of sort
    fold-below = rw (sort-is, number-is) (mod-lt _ (pow_pos _))

    -- so the constant stands for the operation
    pub fold-replaces : Replaces ops op (Const sort number)
    fold-replaces = record {
      fits = record { below = tt; sorts = tt };
      sort = sort-is ∙ rw (given.s, given.t) refl;
      value = λ v. mod-eq_of_lt fold-below ∙ number-is ∙ number-given v;
      kept = refl;
    }
