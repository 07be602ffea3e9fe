-- Passes over the clauses, and the two halves of a split.
use Rattle.std.proofs.Common.{◌≡◌, ℕ, ◌<◌, Bool, true, false, not, List, [], ◌∷◌, ◌++◌, length, take, drop}
use Rattle.std.proofs.Common.{Option, Some, inl, inr, refl, sym, ap, subst, ◌∙◌, arith, slice_set}
use Rattle.std.proofs.lemmas.List.Folds.{list_all-append}
use Rattle.jb_run.specs.declared.formula.Lit.{Lit}
use Rattle.jb_run.specs.declared.formula.Clause.{Clause}
use Rattle.jb_run.specs.declared.solver.Asks.{Asks}
use Rattle.jb_run.specs.declared.solver.Pass.{Pass}
use Rattle.jb_run.specs.declared.solver.Search.{Search}
use Rattle.jb_run.specs.Satisfies.{clause_holds}
use Rattle.jb_run.specs.Solved.{AgreesWith, all_hold, HasUnset, IsAsked, unset_count, cleared, Grows, NoneHolds, Adds}
use Rattle.jb_run.specs.Solved.{IsSettled, Passes, Settles, IsSame, IsWithin, IsFoundBy, IsExtended}
use Rattle.jb_run.proofs.AssignmentLemmas.{AgreesWith-set, unset_count-set, true-value}
use Rattle.jb_run.proofs.AssignmentLemmas.{Grows-same, Grows-more, Grows-assign}
use Rattle.jb_run.proofs.AssignmentLemmas.{IsSame-undo, IsWithin-grows}
use Rattle.std.proofs.lemmas.Bool.{and_parts, and_from, both_ways}

all_hold-front : (a : ℕ → Bool) (xs ys all : List Clause) → all ≡ xs ++ ys → all_hold a all ≡ true
    → all_hold a xs ≡ true
unfolding all_hold
all_hold-front a xs ys all e h =
    (and_parts (all_hold a xs) (all_hold a ys)
    (sym (list_all-append (λ (clause : Clause). clause_holds a clause.lits.items) xs ys)
    ∙ (sym (ap (all_hold a) e) ∙ h))).0

all_hold-back : (a : ℕ → Bool) (xs ys all : List Clause) → all ≡ xs ++ ys → all_hold a all ≡ true → all_hold a ys ≡ true
unfolding all_hold
all_hold-back a xs ys all e h =
    (and_parts (all_hold a xs) (all_hold a ys)
    (sym (list_all-append (λ (clause : Clause). clause_holds a clause.lits.items) xs ys)
    ∙ (sym (ap (all_hold a) e) ∙ h))).1

all_hold-both : (a : ℕ → Bool) (xs ys all : List Clause) → all ≡ xs ++ ys → all_hold a xs ≡ true → all_hold a ys ≡ true
    → all_hold a all ≡ true
unfolding all_hold
all_hold-both a xs ys all e h k = ap (all_hold a) e
    ∙ (list_all-append (λ (clause : Clause). clause_holds a clause.lits.items) xs ys
    ∙ and_from (all_hold a xs) (all_hold a ys) h k)

all_hold-head : (a : ℕ → Bool) (clause : Clause) (rest : List Clause) → all_hold a (clause ∷ rest) ≡ true
    → clause_holds a clause.lits.items ≡ true
unfolding all_hold
all_hold-head a clause rest h = (and_parts (clause_holds a clause.lits.items) (all_hold a rest) h).0

all_hold-one : (a : ℕ → Bool) (clause : Clause) → clause_holds a clause.lits.items ≡ true
    → all_hold a (clause ∷ []) ≡ true
unfolding all_hold
all_hold-one a clause h = and_from (clause_holds a clause.lits.items) true h refl

pub Adds-same : (s : Search) (clauses : List Clause) → Adds s s clauses
Adds-same s clauses = record { grows = Grows-same s; keeps = record { keeps = λ a e h. e }; fewer = omega arith }

pub Passes-none : (s : Search) → Passes s s [] Pass.Still
unfolding all_hold
Passes-none s = record { adds = Adds-same s []; found_is = (refl, inr (record { hold = λ a e. refl })) }

-- a clause that asks for nothing, or is false, or asks for a literal
pub Passes-nothing : (s : Search) (clause : Clause) → IsAsked s.values.items clause.lits.items Asks.Nothing
    → Passes s s (clause ∷ []) Pass.Still
Passes-nothing s clause h =
    record {
      adds = Adds-same s (clause ∷ []);
      found_is = (
        refl,
        elim h [
          | inl unset ↦ inl unset
          | inr holds ↦ inr
              (record { hold = λ a e. all_hold-one a clause (holds.holds a e) })
        ],
      );
    }

pub Passes-false : (s : Search) (clause : Clause) → IsAsked s.values.items clause.lits.items Asks.Conflict
    → Passes s s (clause ∷ []) Pass.Conflict
Passes-false s clause h =
    record {
      adds = Adds-same s (clause ∷ []);
      found_is =
          record {
            none = λ a e k. both_ways (clause_holds a clause.lits.items) (h.fails a e)
                (all_hold-head a clause [] k);
          };
    }

pub Passes-literal : (s t : Search) (clause : Clause) (lit : Lit)
    → IsAsked s.values.items clause.lits.items (Asks.Literal lit)
    → t.values.items ≡ slice_set s.values.items lit.variable (Some (not lit.negated)) → t.trail.items ≡ s.trail.items
    ++ lit.variable ∷ [] → Passes s t (clause ∷ []) Pass.Changed
Passes-literal s t clause lit h e k =
    let count = unset_count-set s.values.items lit.variable (not lit.negated) h.unset in
    let less : unset_count t.values.items < unset_count s.values.items =
    subst (λ z. unset_count z < unset_count s.values.items) (sym e) (omega arith) in
    record {
      adds = record {
        grows = Grows-assign s t lit.variable (not lit.negated) h.unset e k;
        keeps = record {
          keeps = λ a x w. subst (AgreesWith a) (sym e)
              (AgreesWith-set a s.values.items lit.variable (not lit.negated) x
              (true-value lit.negated (a lit.variable) (sym (h.same a x) ∙ all_hold-head a clause [] w)));
        };
        fewer = omega arith;
      };
      found_is = less;
    }

-- one more step
Adds-more : (s t u : Search) (xs ys all : List Clause) → all ≡ xs ++ ys → Adds s t xs → Adds t u ys → Adds s u all
Adds-more s t u xs ys all e g h =
    record {
      grows = Grows-more s t u g.grows h.grows;
      keeps = record {
        keeps = λ a x w. h.keeps.keeps a (g.keeps.keeps a x (all_hold-front a xs ys all e w))
            (all_hold-back a xs ys all e w);
      };
      fewer = (let one = g.fewer in let two = h.fewer in omega arith);
    }

-- the same clauses once more
pub Adds-again : (s t u : Search) (clauses : List Clause) → Adds s t clauses → Adds t u clauses → Adds s u clauses
Adds-again s t u clauses g h =
    record {
      grows = Grows-more s t u g.grows h.grows;
      keeps = record { keeps = λ a x w. h.keeps.keeps a (g.keeps.keeps a x w) w };
      fewer = (let one = g.fewer in let two = h.fewer in omega arith);
    }

pub Settles-still : (s t u : Search) (clauses : List Clause) (found : Pass) → found ≡ Pass.Still → Adds s t clauses
    → Passes t u clauses found → Settles s u clauses true
Settles-still s t u clauses found e g h =
    let p : Passes t u clauses Pass.Still = subst (Passes t u clauses) e h in
    (Adds-again s t u clauses g p.adds, p.found_is.1)

pub Settles-conflict : (s t u : Search) (clauses : List Clause) (found : Pass) → found ≡ Pass.Conflict
    → Adds s t clauses → Passes t u clauses found → Settles s u clauses false
Settles-conflict s t u clauses found e g h =
    let p : Passes t u clauses Pass.Conflict = subst (Passes t u clauses) e h in
    (Adds-again s t u clauses g p.adds, record { none = λ a x w. p.found_is.none a (g.keeps.keeps a x w) w })

settled-more : (values : List (Option Bool)) (xs ys all : List Clause) → all ≡ xs ++ ys → IsSettled values xs
    → IsSettled values ys → IsSettled values all
settled-more values xs ys all e g h =
    elim g [
      | inl unset ↦ inl unset
      | inr one ↦ elim h [
        | inl unset ↦ inl unset
        | inr two ↦ inr
            (record { hold = λ a x. all_hold-both a xs ys all e (one.hold a x) (two.hold a x) })
      ]
    ]

none-front : (values : List (Option Bool)) (xs ys all : List Clause) → all ≡ xs ++ ys → NoneHolds values xs
    → NoneHolds values all
none-front values xs ys all e n = record { none = λ a x w. n.none a x (all_hold-front a xs ys all e w) }

pub Passes-still : (s t u : Search) (xs ys all : List Clause) (found : Pass) → all ≡ xs ++ ys → Passes s t xs found
    → Passes t u ys Pass.Still → Passes s u all found
Passes-still s t u xs ys all Pass.Still e g h =
    record {
      adds = Adds-more s t u xs ys all e g.adds h.adds;
      found_is = (
        h.found_is.0 ∙ g.found_is.0,
        settled-more u.values.items xs ys all e
            (subst (λ z. IsSettled z xs) (sym h.found_is.0) g.found_is.1) h.found_is.1,
      );
    }
Passes-still s t u xs ys all Pass.Changed e g h =
    record {
      adds = Adds-more s t u xs ys all e g.adds h.adds;
      found_is = subst (λ z. unset_count z < unset_count s.values.items) (sym h.found_is.0) g.found_is;
    }
Passes-still s t u xs ys all Pass.Conflict e g h =
    record {
      adds = Adds-more s t u xs ys all e g.adds h.adds;
      found_is = none-front s.values.items xs ys all e g.found_is;
    }

pub Passes-changed : (s t u : Search) (xs ys all : List Clause) (found : Pass) → all ≡ xs ++ ys → Passes s t xs found
    → Passes t u ys Pass.Changed → Passes s u all Pass.Changed
Passes-changed s t u xs ys all found e g h =
    record {
      adds = Adds-more s t u xs ys all e g.adds h.adds;
      found_is = (let one = g.adds.fewer in let two = h.found_is in omega arith);
    }

pub Passes-conflict : (s t u : Search) (xs rest all : List Clause) (clause : Clause) (found : Pass)
    → all ≡ xs ++ clause ∷ rest → Passes s t xs found → Passes t u (clause ∷ []) Pass.Conflict
    → Passes s u all Pass.Conflict
Passes-conflict s t u xs rest all clause found e g h =
    let none : NoneHolds s.values.items all =
    record {
      none = λ a x w. h.found_is.none a
          (g.adds.keeps.keeps a x (all_hold-front a xs (clause ∷ rest) all e w))
          (all_hold-one a clause (all_hold-head a clause rest (all_hold-back a xs (clause ∷ rest) all e w)));
    } in
    record {
      adds = record {
        grows = Grows-more s t u g.adds.grows h.adds.grows;
        keeps = record { keeps = λ a x w. absurd (none.none a x w) };
        fewer = (let one = g.adds.fewer in let two = h.adds.fewer in omega arith);
      };
      found_is = none;
    }

-- what a search answers
pub IsExtended-undone : (s t u : Search) (clauses : List Clause) (mark : ℕ) → Grows s t
    → NoneHolds s.values.items clauses → mark ≡ length s.trail.items
    → u.values.items ≡ cleared (drop mark t.trail.items) t.values.items → u.trail.items ≡ take mark t.trail.items
    → IsExtended s u clauses false
IsExtended-undone s t u clauses mark g n m e k = (IsSame-undo s t u mark g m e k, n)

pub IsExtended-settled : (s t : Search) (clauses : List Clause) → Settles s t clauses true
    → (HasUnset t.values.items → ⊥) → IsExtended s t clauses true
IsExtended-settled s t clauses h n =
    record {
      hold = elim h.1 [ inl unset ↦ absurd (n unset) | inr hold ↦ hold ];
      within = IsWithin-grows s t h.0.grows;
    }

pub IsWithin-more : (s t u : List (Option Bool)) → IsWithin s t → IsWithin t u → IsWithin s u
IsWithin-more s t u g h = record { number = h.number ∙ g.number; agree = λ a e. g.agree a (h.agree a e) }

pub IsFoundBy-more : (s t u : Search) (clauses : List Clause) → IsWithin s.values.items t.values.items
    → IsFoundBy t u clauses → IsFoundBy s u clauses
IsFoundBy-more s t u clauses g h =
    record { hold = h.hold; within = IsWithin-more s.values.items t.values.items u.values.items g h.within }

-- the halves of a split are all
half : (values : List (Option Bool)) (v : ℕ) (clauses : List Clause)
    → NoneHolds (slice_set values v (Some false)) clauses → NoneHolds (slice_set values v (Some true)) clauses
    → (a : ℕ → Bool) → AgreesWith a values → all_hold a clauses ≡ true → (b : Bool) → a v ≡ b → ⊥
half values v clauses n m a e w false h = n.none a (AgreesWith-set a values v false e h) w
half values v clauses n m a e w true h = m.none a (AgreesWith-set a values v true e h) w

both-halves : (values : List (Option Bool)) (v : ℕ) (clauses : List Clause)
    → NoneHolds (slice_set values v (Some false)) clauses → NoneHolds (slice_set values v (Some true)) clauses
    → NoneHolds values clauses
both-halves values v clauses n m = record { none = λ a e w. half values v clauses n m a e w (a v) refl }

pub IsSame-more : (s t u : Search) → IsSame s t → IsSame t u → IsSame s u
IsSame-more s t u g h = record { values = h.values ∙ g.values; trail = h.trail ∙ g.trail }

pub none-split : (s t u : Search) (v : ℕ) (clauses : List Clause) → Adds s t clauses → IsSame t u
    → NoneHolds (slice_set t.values.items v (Some false)) clauses
    → NoneHolds (slice_set u.values.items v (Some true)) clauses → NoneHolds s.values.items clauses
none-split s t u v clauses g same n m =
    let both =
    both-halves t.values.items v clauses n
    (subst (λ z. NoneHolds (slice_set z v (Some true)) clauses) same.values m) in
    record { none = λ a e w. both.none a (g.keeps.keeps a e w) w }

pub IsFoundBy-same : (t u w : Search) (clauses : List Clause) → IsSame t u → IsFoundBy u w clauses
    → IsFoundBy t w clauses
IsFoundBy-same t u w clauses same h =
    record { hold = h.hold; within = subst (λ z. IsWithin z w.values.items) same.values h.within }
