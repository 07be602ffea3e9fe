-- Literals that are conjoined one after the other.
use Rattle.std.proofs.Common.{◌≡◌, ◌+◌, ◌*◌, ◌<◌, ℕ, length, suc, take, get_or, Bool, true, false, not, ◌&&◌, ◌||◌}
use Rattle.std.proofs.Common.{List, [], ◌∷◌, ◌++◌, refl, sym, ap, ◌∙◌, arith}
use Rattle.std.proofs.lemmas.List.Folds.{list_all-append}
use Rattle.std.proofs.Math.Seq.{take-suc}
use Rattle.cn_clauses.specs.declared.lit.Lit.{Lit}
use Rattle.cn_clauses.specs.declared.formula.Formula.{Formula}
use Rattle.cn_clauses.specs.Literals.{lit_value}
use Rattle.cn_clauses.specs.Extension.{IsGate}
use Rattle.cn_clauses.specs.Laws.{ExtendsThrough, OppositeValue}
use Rattle.bb_gates.specs.Values.{both, of_two, any_of}
use Rattle.bb_gates.specs.Growth.{Adds}
use Rattle.bb_gates.specs.Calls.Table.{signed_lit}
use Rattle.bb_gates.specs.Calls.Chain.{all_signed}

and_true : (x : Bool) → (x && true) ≡ x
and_true true = refl
and_true false = refl

-- one more literal is conjoined
pub chain_next : ExtendsThrough → (old mid new : Formula) (so_far next x : Lit) (sign : Bool) (lits : List Lit)
    → IsGate old mid so_far (all_signed sign lits)
    → IsGate mid new next (of_two both so_far (signed_lit x sign))
    → IsGate old new next (all_signed sign (lits ++ x ∷ []))
chain_next through old mid new so_far next x sign lits first second = record {
  extends = through old mid new first.extends second.extends;
  shows = record {
    within = second.shows.within;
    is = λ w h.
        let value = lit_value w (signed_lit x sign) in
        second.shows.is w h
        ∙ ap (λ (p : Bool). p && value) (first.shows.is w (second.extends.keeps w h))
        ∙ ap (λ (p : Bool). all_signed sign lits w && p) (sym (and_true value))
        ∙ sym (list_all-append (λ (lit : Lit). lit_value w (signed_lit lit sign)) lits (x ∷ []));
  };
}

not_and : (p q r : Bool) → r ≡ not q → not (not p && q) ≡ (p || r)
not_and true q r e = refl
not_and false q r e = sym e

-- not each is false where one is true
pub not_all_false : OppositeValue → (w : ℕ → Bool) (lits : List Lit) → not (all_signed false lits w) ≡ any_of lits w
not_all_false opposite w [] = refl
not_all_false opposite w (lit ∷ lits) =
    ap (λ (p : Bool). not (p && all_signed false lits w)) (opposite w lit)
    ∙ not_and (lit_value w lit) (all_signed false lits w) (any_of lits w) (sym (not_all_false opposite w lits))

pub adds_next : (i : ℕ) (old mid new : Formula) → Adds i (3 * i) old mid → Adds 1 3 mid new
    → Adds (i + 1) (3 * (i + 1)) old new
adds_next i old mid new first second = record {
  variables = let v = first.variables in let u = second.variables in omega (arith, v, u);
  clauses = let c = first.clauses in let d = second.clauses in omega (arith, c, d);
}

pub empty_signed : (sign : Bool) (lits : List Lit) (w : ℕ → Bool) → length lits ≡ 0 → true ≡ all_signed sign lits w
empty_signed sign [] w none = refl
empty_signed sign (lit ∷ lits) w none = absurd (omega (arith, none))

-- one more element of a list behind its first
pub take_behind : (lits rest : List Lit) (first d : Lit) (i : ℕ) → lits ≡ first ∷ rest → i < length rest
    → take (i + 1 + 1) lits ≡ take (i + 1) lits ++ get_or rest i d ∷ []
take_behind lits rest first d i is lt =
    let next : i + 1 ≡ suc i = omega arith in
    let after : i + 1 + 1 ≡ suc (suc i) = omega arith in
    ap (λ (xs : List Lit). take (i + 1 + 1) xs) is ∙ ap (λ (n : ℕ). take n (first ∷ rest)) after
    ∙ ap (λ (xs : List Lit). first ∷ xs) (take-suc rest i d lt)
    ∙ ap (λ (n : ℕ). take n (first ∷ rest) ++ get_or rest i d ∷ []) (sym next)
    ∙ ap (λ (xs : List Lit). take (i + 1) xs ++ get_or rest i d ∷ []) (sym is)
