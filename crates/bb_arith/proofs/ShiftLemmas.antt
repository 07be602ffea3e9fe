-- Shifts of words, a bit of the distance more at a time.
use Rattle.std.proofs.Common.{◌≡◌, ◌<◌, ◌≤◌, ◌+◌, ◌*◌, ◌%◌, ◌^◌, ℕ, Bool, false, List, length, take}
use Rattle.std.proofs.Common.{get_or, sym, ap, ◌∙◌, arith, if◌then◌else◌}
use Rattle.std.proofs.lemmas.Nat.{mul-le}
use Rattle.cn_clauses.specs.declared.lit.Lit.{Lit}
use Rattle.cn_clauses.specs.declared.formula.Formula.{Formula}
use Rattle.cn_clauses.specs.Literals.{lit_value}
use Rattle.cn_clauses.specs.Extension.{Shows}
use Rattle.cn_clauses.specs.Laws.{ExtendsItself, ExtendsThrough}
use Rattle.bb_gates.specs.Growth.{AreOf, Adds}
use Rattle.bb_arith.specs.Words.{number_of, IsWordGate}
use Rattle.bb_arith.specs.Calls.Moves.{moved_number}
use Rattle.bb_arith.proofs.NumberLemmas.{number_below}
use Rattle.bb_arith.proofs.WordLemmas.{number_take}
use Rattle.bb_arith.proofs.PlaceLemmas.{number_lower, lower_below}
use Rattle.bb_arith.proofs.MoveLemmas.{moved_none, moved_bit}

-- the number of a word, moved by a number of places that depends on the assignment
abbrev pub shifted_number : Bool → ℕ → Lit → List Lit → ((ℕ → Bool) → ℕ) → (ℕ → Bool) → ℕ
shifted_number down n fill word places w = moved_number down n (lit_value w fill) (places w) (number_of w word)

pub shift_start : ExtendsItself → (old : Formula) (down : Bool) (n : ℕ) (fill : Lit) (word distance : List Lit)
    → length word ≡ n → AreOf old word
    → IsWordGate old old word (shifted_number down n fill word (λ w. number_of w (take 0 distance)))
shift_start itself old down n fill word distance len all = record {
  extends = itself old;
  within = all;
  is = λ w h. sym (moved_none down n (lit_value w fill) (number_of w word)
      (let below = number_below w word in let e = ap (λ (m : ℕ). 2 ^ m) len in omega (arith, below, e)));
}

-- the next bit of the distance
module _ (through : ExtendsThrough) (n i places : ℕ) (old mid new : Formula) (down : Bool)
    (word distance : List Lit) (d fill : Lit) (shifted other next : List Lit) (power : places ≡ 2 ^ i)
    (in_distance : i < length distance) (fits : 2 * 2 ^ i ≤ n) where
  pub shift_more : (down ≡ false → Shows old fill (λ w. false))
      → IsWordGate old mid shifted (shifted_number down n fill word (λ w. number_of w (take i distance)))
      → ((w : ℕ → Bool) → (down ≡ false → lit_value w fill ≡ false)
      → number_of w other ≡ moved_number down n (lit_value w fill) places (number_of w shifted))
      → IsWordGate mid new next
      (λ w. if lit_value w (get_or distance i d) then number_of w other else number_of w shifted)
      → IsWordGate old new next (shifted_number down n fill word (λ w. number_of w (take (i + 1) distance)))
  shift_more zeros so_far moves chosen = record {
    extends = through old mid new so_far.extends chosen.extends;
    within = chosen.within;
    is = λ w h.
        let k = chosen.extends.keeps w h in
        let l = so_far.extends.keeps w k in
        let bit = lit_value w (get_or distance i d) in
        let f = lit_value w fill in
        let so = number_of w (take i distance) in
        let below = lower_below w distance i (omega (arith, in_distance)) in
        chosen.is w h
        ∙ ap (λ (m : ℕ). if bit then m else number_of w shifted)
        (moves w (λ up. (zeros up).is w l)
        ∙ ap (λ (m : ℕ). moved_number down n f m (number_of w shifted)) power)
        ∙ ap (λ (m : ℕ). if bit then moved_number down n f (2 ^ i) m else m) (so_far.is w k)
        ∙ moved_bit down n f so (2 ^ i) (number_of w word) bit (omega (arith, below, fits))
        ∙ ap (λ (m : ℕ). moved_number down n f m (number_of w word)) (sym (number_take w distance i d in_distance));
  }

-- the distance modulo the width
pub shift_whole : (n i : ℕ) (old new : Formula) (down : Bool) (word distance : List Lit) (fill : Lit)
    (shifted : List Lit)
    → n ≡ 2 ^ i → i ≤ length distance
    → IsWordGate old new shifted (shifted_number down n fill word (λ w. number_of w (take i distance)))
    → IsWordGate old new shifted (shifted_number down n fill word (λ w. number_of w distance % n))
shift_whole n i old new down word distance fill shifted power le gate = record {
  extends = gate.extends;
  within = gate.within;
  is = λ w h. gate.is w h
      ∙ ap (λ (m : ℕ). moved_number down n (lit_value w fill) m (number_of w word))
      (number_lower w distance i le ∙ ap (λ (m : ℕ). number_of w distance % m) (sym power));
}

pub no_layer : (n : ℕ) (f : Formula) → Adds (0 * n) (0 * (4 * n)) f f
no_layer n f = record { variables = omega arith; clauses = omega arith }

pub layer_size : (n i : ℕ) (old mid new : Formula) → Adds (i * n) (i * (4 * n)) old mid → Adds n (4 * n) mid new
    → Adds ((i + 1) * n) ((i + 1) * (4 * n)) old new
layer_size n i old mid new first second = record {
  variables = let v = first.variables in let u = second.variables in omega (arith, v, u);
  clauses = let c = first.clauses in let d = second.clauses in omega (arith, c, d);
}

fewer_layers : (n i m : ℕ) → i ≤ m → i * n ≤ m * n
fewer_layers n i m le = mul-le i n m n le (omega arith)

pub layers_within : (n i m : ℕ) (old new : Formula) → i ≤ m → Adds (i * n) (i * (4 * n)) old new
    → Adds (m * n) (m * (4 * n)) old new
layers_within n i m old new le size = record {
  variables = let v = size.variables in let more = fewer_layers n i m le in omega (arith, v, more);
  clauses = let c = size.clauses in let more = fewer_layers (4 * n) i m le in omega (arith, c, more);
}
