-- Formulas that grow by inputs.
use Rattle.std.proofs.Common.{◌≡◌, ◌+◌, ℕ, Bool, List, [], ◌∷◌, ◌++◌, length, map, take, drop, refl, sym, ap, ◌∙◌}
use Rattle.std.proofs.Common.{arith}
use Rattle.std.proofs.lemmas.List.{map-append, length-take-le, length-drop, length-append, take-append-drop}
use Rattle.cn_clauses.specs.declared.lit.Lit.{Lit}
use Rattle.cn_clauses.specs.declared.formula.Formula.{Formula}
use Rattle.cn_clauses.specs.Literals.{lit_value}
use Rattle.cn_clauses.specs.Satisfaction.{Satisfies, Agrees, IsClauseBelow}
use Rattle.cn_clauses.specs.Formulas.{variables_of, clauses_of}
use Rattle.cn_clauses.specs.Extension.{IsExtension, Extends, IsFresh, Grows}
use Rattle.cn_clauses.proofs.LiteralLemmas.{value_agrees}
use Rattle.cn_clauses.proofs.SatisfactionLemmas.{clause_below_more, clause_below_append}
use Rattle.cn_clauses.proofs.ExtensionLemmas.{continues_through, extension_through}

no_values : (values : List Bool) → length values ≡ 0 → values ≡ []
no_values [] e = refl
no_values (x ∷ xs) e = absurd (omega (arith, e))

one_value : (values : List Bool) → length values ≡ 1 → (x : Bool) × (values ≡ x ∷ [])
one_value [] e = absurd (omega (arith, e))
one_value (x ∷ xs) e =
    let none : length xs ≡ 0 = omega (arith, e) in
    (x, ap (λ (ys : List Bool). x ∷ ys) (no_values xs none))

same_head : (x y : Bool) → (x ∷ []) ≡ (y ∷ []) → x ≡ y
same_head x y e = cc

same_cons : (x y : Bool) (xs ys : List Bool) → (x ∷ xs) ≡ (y ∷ ys) → (x ≡ y) × (xs ≡ ys)
same_cons x y xs ys e = (cc, cc)

-- two readings of two lists that are the same are the same of each
split_same : (f g : Lit → Bool) (xs ys : List Lit) → map f (xs ++ ys) ≡ map g (xs ++ ys)
    → (map f xs ≡ map g xs) × (map f ys ≡ map g ys)
split_same f g [] ys same = (refl, same)
split_same f g (x ∷ xs) ys same =
    let here = same_cons (f x) (g x) (map f (xs ++ ys)) (map g (xs ++ ys)) same in
    let rest = split_same f g xs ys here.1 in
    (ap (λ (b : Bool). b ∷ map f xs) here.0 ∙ ap (λ (bs : List Bool). g x ∷ bs) rest.0, rest.1)

pub extends_grows : (old new : Formula) → Extends old new → Grows old new []
extends_grows old new e = record {
  continues = e.continues;
  within = tt;
  keeps = e.keeps;
  extends = λ a h values none. let b = e.extends a h in (b.0, b.1, sym (no_values values none));
  only = λ a b ha hb agrees same. e.only a b ha hb agrees;
}

pub fresh_grows : (old new : Formula) (lit : Lit) → IsFresh old new lit → Grows old new (lit ∷ [])
fresh_grows old new lit e = record {
  continues = e.continues;
  within = (e.within, tt);
  keeps = e.keeps;
  extends = λ a h values one.
      let is = one_value values one in
      let b = e.extends a h is.0 in
      (b.0, b.1, ap (λ (x : Bool). x ∷ []) b.2 ∙ sym is.1);
  only = λ a b ha hb agrees same. e.only a b agrees (same_head (lit_value a lit) (lit_value b lit) same);
}

values_agree : (n : ℕ) (a b : ℕ → Bool) (lits : List Lit) → Agrees n a b → IsClauseBelow n lits
    → map (lit_value a) lits ≡ map (lit_value b) lits
values_agree n a b [] agrees below = refl
values_agree n a b (lit ∷ lits) agrees below =
    ap (λ (x : Bool). x ∷ map (lit_value a) lits) (value_agrees n a b lit agrees below.0)
    ∙ ap (λ (xs : List Bool). lit_value b lit ∷ xs) (values_agree n a b lits agrees below.1)

module _ (old between new : Formula) (xs ys : List Lit) (first : Grows old between xs)
    (second : Grows between new ys) where
  through_extends : (a : ℕ → Bool) → Satisfies a (clauses_of old) → (values : List Bool)
      → length values ≡ length (xs ++ ys)
      → (b : ℕ → Bool) × IsExtension old new a b × (map (lit_value b) (xs ++ ys) ≡ values)
  through_extends a h values count =
      let n = length xs in
      let all : length values ≡ n + length ys = count ∙ length-append xs ys in
      let front : length (take n values) ≡ n = length-take-le n values (omega (arith, all)) in
      let back : length (drop n values) ≡ length ys = length-drop n values ∙ omega (arith, all) in
      let p = first.extends a h (take n values) front in
      let q = second.extends p.0 p.1.satisfies (drop n values) back in
      let kept = values_agree (variables_of between) p.0 q.0 xs q.1.agrees first.within in
      let is =
      map-append (lit_value q.0) xs ys
      ∙ ap (λ (vs : List Bool). vs ++ map (lit_value q.0) ys) (sym kept ∙ p.2)
      ∙ ap (λ (vs : List Bool). take n values ++ vs) q.2
      ∙ take-append-drop n values in
      (q.0, extension_through old between new a p.0 q.0 first.continues.grows p.1 q.1, is)

  through_only : (a b : ℕ → Bool) → Satisfies a (clauses_of new) → Satisfies b (clauses_of new)
      → Agrees (variables_of old) a b → map (lit_value a) (xs ++ ys) ≡ map (lit_value b) (xs ++ ys)
      → Agrees (variables_of new) a b
  through_only a b ha hb agrees same =
      let parts = split_same (lit_value a) (lit_value b) xs ys same in
      let middle = first.only a b (second.keeps a ha) (second.keeps b hb) agrees parts.0 in
      second.only a b ha hb middle parts.1

  pub grows_through : Grows old new (xs ++ ys)
  grows_through = record {
    continues = continues_through old between new first.continues second.continues;
    within =
        clause_below_append (variables_of new) xs ys
        (clause_below_more (variables_of between) (variables_of new) xs second.continues.grows first.within)
        second.within;
    keeps = λ a h. first.keeps a (second.keeps a h);
    extends = through_extends;
    only = through_only;
  }
