-- A clause is looked at literal by literal.
use Rattle.std.proofs.Common.{◌≡◌, ℕ, ◌+◌, ◌<◌, Bool, true, false, ◌||◌, List, [], ◌∷◌, ◌++◌, length, Option, Some}
use Rattle.std.proofs.Common.{None, IfSome, refl, sym, ap, subst, ◌∙◌, take, drop, get_or}
use Rattle.std.proofs.lemmas.List.{take-append-drop, drop_more, take_more}
use Rattle.std.proofs.lemmas.List.Folds.{list_any-append}
use Rattle.jb_run.specs.declared.formula.Lit.{Lit}
use Rattle.jb_run.specs.Satisfies.{lit_value, clause_holds}
use Rattle.jb_run.specs.Solved.{known_at, known_lit, AgreesWith, HoldsBy, FailsBy, IsLiteral}
use Rattle.jb_run.proofs.AssignmentLemmas.{lit_value-known, unsigned}
use Rattle.std.proofs.Math.Bool.{or-false}
use Rattle.std.proofs.lemmas.Bool.{or_right}

-- the value of the literal that is open, or false where there is none
abbrev pub open_value : (ℕ → Bool) → Option Lit → Bool
open_value a None = false
open_value a (Some lit) = lit_value a lit

-- the literals so far are false but for the one that is open
pub record AreFalseBut (values : List (Option Bool)) (lits : List Lit) (open_lit : Option Lit) : Type 0 where
  pub same : (a : ℕ → Bool) → AgreesWith a values → clause_holds a lits ≡ open_value a open_lit
  pub unset : IfSome open_lit (λ lit. known_at values lit.variable ≡ None)

pub AreFalseBut-none : (values : List (Option Bool)) → AreFalseBut values [] None
AreFalseBut-none values = record { same = λ a e. refl; unset = tt }

holds-append : (a : ℕ → Bool) (xs ys all : List Lit) → all ≡ xs ++ ys
    → clause_holds a all ≡ (clause_holds a xs || clause_holds a ys)
holds-append a xs ys all e = ap (clause_holds a) e ∙ list_any-append (lit_value a) xs ys

one-false : (p q : Bool) → q ≡ false → (p || (q || false)) ≡ p
one-false p q h = ap (λ z. p || (z || false)) h ∙ or-false p

pub AreFalseBut-false : (values : List (Option Bool)) (xs all : List Lit) (open_lit : Option Lit) (lit : Lit)
    → all ≡ xs ++ lit ∷ [] → known_lit values lit ≡ Some false → AreFalseBut values xs open_lit
    → AreFalseBut values all open_lit
AreFalseBut-false values xs all open_lit lit e k h =
    record {
      same = λ a x. holds-append a xs (lit ∷ []) all e
          ∙ (one-false (clause_holds a xs) (lit_value a lit) (lit_value-known a values lit false x k) ∙ h.same a x);
      unset = h.unset;
    }

pub AreFalseBut-open : (values : List (Option Bool)) (xs all : List Lit) (lit : Lit) → all ≡ xs ++ lit ∷ []
    → known_lit values lit ≡ None → AreFalseBut values xs None → AreFalseBut values all (Some lit)
AreFalseBut-open values xs all lit e k h =
    record {
      same = λ a x. holds-append a xs (lit ∷ []) all e
          ∙ (ap (λ z. z || (lit_value a lit || false)) (h.same a x) ∙ or-false (lit_value a lit));
      unset = unsigned lit.negated (known_at values lit.variable) k;
    }

pub HoldsBy-true : (values : List (Option Bool)) (xs rest all : List Lit) (lit : Lit) → all ≡ xs ++ lit ∷ rest
    → known_lit values lit ≡ Some true → HoldsBy values all
HoldsBy-true values xs rest all lit e k =
    record {
      holds = λ a x. holds-append a xs (lit ∷ rest) all e
          ∙ or_right (clause_holds a xs) (clause_holds a (lit ∷ rest))
          (ap (λ z. z || clause_holds a rest) (lit_value-known a values lit true x k));
    }

pub IsLiteral-open : (values : List (Option Bool)) (lits : List Lit) (lit : Lit) → AreFalseBut values lits (Some lit)
    → IsLiteral values lits lit
IsLiteral-open values lits lit h = record { unset = h.unset; same = h.same }

pub FailsBy-none : (values : List (Option Bool)) (lits : List Lit) → AreFalseBut values lits None → FailsBy values lits
FailsBy-none values lits h = record { fails = h.same }

-- where a literal stands
pub split-in : (items lits : List Lit) (i : ℕ) (d : Lit) → items ≡ lits → i < length items
    → lits ≡ take i lits ++ get_or items i d ∷ drop (i + 1) lits
split-in items lits i d e h =
    let below : i < length lits = subst (λ z. i < length z) e h in
    subst (λ z. lits ≡ take i lits ++ get_or z i d ∷ drop (i + 1) lits) (sym e) (sym (take-append-drop i lits)
    ∙ ap (λ z. take i lits ++ z) (drop_more lits i d below))

pub take-in : (items lits : List Lit) (i : ℕ) (d : Lit) → items ≡ lits → i < length items
    → take (i + 1) lits ≡ take i lits ++ get_or items i d ∷ []
take-in items lits i d e h =
    let below : i < length lits = subst (λ z. i < length z) e h in
    subst (λ z. take (i + 1) lits ≡ take i lits ++ get_or z i d ∷ []) (sym e) (take_more lits i d below)
