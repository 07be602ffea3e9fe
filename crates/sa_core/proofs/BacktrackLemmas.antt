-- The height of a list of literals, one after another.
use Rattle.std.proofs.Common.{◌≡◌, ℕ, ◌+◌, ◌<◌, ◌≤◌, List, [], ◌∷◌, ◌++◌, Some, Contains, slice_get}
use Rattle.std.proofs.Common.{sym, ap, ◌∙◌, subst, inl, inr, arith}
use Rattle.std.proofs.lemmas.List.Elements.{Contains-push, Contains-push_cases, Contains-append_left}
use Rattle.cn_clauses.specs.declared.lit.Lit.{Lit}
use Rattle.cn_clauses.specs.Literals.{opposite_of}
use Rattle.sa_core.specs.TrailView.{Stands}
use Rattle.sa_core.specs.Analysis.{IsHeight, NoHighest}

module _ (trail lits : List Lit) (height : ℕ) (lit : Lit) (place : ℕ) (was : IsHeight trail lits height)
    (is : slice_get trail place ≡ Some (opposite_of lit)) where
  all_opposed : (h : ℕ) → height ≤ h → place < h → (other : Lit) → Contains (lits ++ lit ∷ []) other
      → Stands trail h (opposite_of other)
  all_opposed h le lt other has =
      elim (Contains-push_cases lits lit other has) [
        | inl before ↦
            let s = was.opposed other before in
            let b : s.place < height = s.before in
            record { place = s.place; before = omega (arith, b, le); is = s.is }
        | inr same ↦
            subst (λ (l : Lit). Stands trail h (opposite_of l)) same (record { place = place; before = lt; is = is })
      ]

  -- the literal lies higher
  pub height_more : (h : ℕ) → height ≤ place → h ≡ place + 1 → IsHeight trail (lits ++ lit ∷ []) h
  height_more h le e =
      record {
        opposed = all_opposed h (omega (arith, le, e)) (omega (arith, e));
        last = inr (lit, place, Contains-push lits lit, e, is);
      }

  -- or not
  pub height_same : (h : ℕ) → place < height → h ≡ height → IsHeight trail (lits ++ lit ∷ []) h
  height_same h lt e =
      record {
        opposed = all_opposed h (omega (arith, e)) (omega (arith, lt, e));
        last =
            elim was.last [
              | inl zero_high ↦ absurd (omega (arith, lt, zero_high))
              | inr top ↦ inr (top.0, top.1, Contains-append_left lits (lit ∷ []) top.0 top.2, e ∙ top.3, top.4)
            ];
      }

-- a literal that did not become false just before a limit
pub none_more : (trail lits : List Lit) (limit : ℕ) (lit : Lit) → NoHighest trail lits limit
    → ((place : ℕ) → limit ≡ place + 1 → slice_get trail place ≡ Some (opposite_of lit) → ⊥)
    → NoHighest trail (lits ++ lit ∷ []) limit
none_more trail lits limit lit was not one h =
    elim (Contains-push_cases lits lit one h.within) [
      | inl before ↦ was one (record { within = before; place = h.place; at = h.at; is = h.is })
      | inr same ↦ not h.place h.at (h.is ∙ ap (λ (l : Lit). Some (opposite_of l)) (sym same))
    ]
