-- The order of words, a bit more at a time.
use Rattle.std.proofs.Common.{◌≡◌, ◌<◌, ◌+◌, ◌*◌, ◌^◌, ℕ, Bool, not, List, [], ◌∷◌, ◌++◌, length, take, get_or, nat_lt}
use Rattle.std.proofs.Common.{suc, sym, ap, ◌∙◌, subst, arith}
use Rattle.std.proofs.Math.Seq.{take-suc}
use Rattle.std.proofs.lemmas.List.{length-take-le}
use Rattle.cn_clauses.specs.declared.lit.Lit.{Lit}
use Rattle.cn_clauses.specs.declared.formula.Formula.{Formula}
use Rattle.cn_clauses.specs.Literals.{opposite_of, lit_value}
use Rattle.cn_clauses.specs.Extension.{IsGate}
use Rattle.cn_clauses.specs.Laws.{ExtendsThrough, OppositeValue}
use Rattle.bb_gates.specs.Values.{majority, of_three}
use Rattle.bb_gates.specs.Growth.{Adds}
use Rattle.bb_arith.specs.Words.{number_of}
use Rattle.jv_list.specs.Numbers.{bit_number}
use Rattle.bb_arith.proofs.NumberLemmas.{number_append, number_below, order_next}

-- whether the number of the first word is less
abbrev pub order_of : List Lit → List Lit → (ℕ → Bool) → Bool
order_of xs ys w = nat_lt (number_of w xs) (number_of w ys)

order_append : (w : ℕ → Bool) (xs ys : List Lit) (x y : Lit) → length xs ≡ length ys
    → majority (not (lit_value w x)) (lit_value w y) (order_of xs ys w) ≡ order_of (xs ++ x ∷ []) (ys ++ y ∷ []) w
order_append w xs ys x y same =
    let p = 2 ^ length xs in
    let below : number_of w ys < p = subst (λ (n : ℕ). number_of w ys < 2 ^ n) (sym same) (number_below w ys) in
    order_next p (number_of w xs) (number_of w ys) (lit_value w x) (lit_value w y) (number_below w xs) below
    ∙ ap (λ (n : ℕ). nat_lt n (number_of w ys + p * bit_number (lit_value w y))) (sym (number_append w xs x))
    ∙ ap (λ (n : ℕ). nat_lt (number_of w (xs ++ x ∷ [])) n)
    (ap (λ (n : ℕ). number_of w ys + 2 ^ n * bit_number (lit_value w y)) same ∙ sym (number_append w ys y))

-- one more bit of the two words
pub order_gate : ExtendsThrough → (old mid new : Formula) (xs ys : List Lit) (x y nx so_far next : Lit)
    → length xs ≡ length ys → ((w : ℕ → Bool) → lit_value w nx ≡ not (lit_value w x))
    → IsGate old mid so_far (order_of xs ys) → IsGate mid new next (of_three majority nx y so_far)
    → IsGate old new next (order_of (xs ++ x ∷ []) (ys ++ y ∷ []))
order_gate through old mid new xs ys x y nx so_far next same turned first second = record {
  extends = through old mid new first.extends second.extends;
  shows = record {
    within = second.shows.within;
    is = λ w h. second.shows.is w h
        ∙ ap (λ (p : Bool). majority p (lit_value w y) (lit_value w so_far)) (turned w)
        ∙ ap (λ (p : Bool). majority (not (lit_value w x)) (lit_value w y) p)
        (first.shows.is w (second.extends.keeps w h))
        ∙ order_append w xs ys x y same;
  };
}

pub take_next : (xs : List Lit) (i : ℕ) (d : Lit) → i < length xs → take i xs ++ get_or xs i d ∷ [] ≡ take (i + 1) xs
take_next xs i d lt =
    let next : i + 1 ≡ suc i = omega arith in
    sym (ap (λ (n : ℕ). take n xs) next ∙ take-suc xs i d lt)

-- the next bit of two words of one length
pub order_step : ExtendsThrough → OppositeValue
    → (old mid new : Formula) (a b : List Lit) (i : ℕ) (d nx so_far next : Lit)
    → i < length a → i < length b → nx ≡ opposite_of (get_or a i d)
    → IsGate old mid so_far (order_of (take i a) (take i b))
    → IsGate mid new next (of_three majority nx (get_or b i d) so_far)
    → IsGate old new next (order_of (take (i + 1) a) (take (i + 1) b))
order_step through opposite old mid new a b i d nx so_far next in_a in_b is first second =
    let same : length (take i a) ≡ length (take i b) =
    length-take-le i a (omega (arith, in_a)) ∙ sym (length-take-le i b (omega (arith, in_b))) in
    let turned = λ (w : ℕ → Bool). ap (lit_value w) is ∙ opposite w (get_or a i d) in
    let made = order_gate through old mid new (take i a) (take i b) (get_or a i d) (get_or b i d) nx so_far next same
    turned first second in
    subst (λ (xs : List Lit). IsGate old new next (order_of xs (take (i + 1) b))) (take_next a i d in_a)
    (subst (λ (ys : List Lit). IsGate old new next (order_of (take i a ++ get_or a i d ∷ []) ys)) (take_next b i d in_b)
    made)

pub size_step : (i : ℕ) (old mid new : Formula) → Adds (i + 1) (6 * i + 1) old mid → Adds 1 6 mid new
    → Adds (i + 1 + 1) (6 * (i + 1) + 1) old new
size_step i old mid new first second = record {
  variables = let v = first.variables in let u = second.variables in omega (arith, v, u);
  clauses = let c = first.clauses in let d = second.clauses in omega (arith, c, d);
}
