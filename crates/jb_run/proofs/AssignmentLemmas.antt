-- Values that are set and taken back, and the assignments that extend them.
use Rattle.std.proofs.Common.{zero, suc, ◌≡◌, ◌⊎◌, ℕ, ◌+◌, ◌<◌, ◌≤◌, Bool, true, false, not, cond, List, [], ◌∷◌, ◌++◌}
use Rattle.std.proofs.Common.{length, take, drop, Option, Some, None, inl, inr, refl, sym, ap, subst, ◌∙◌, arith}
use Rattle.std.proofs.Common.{slice_set, append_assoc, add-zero}
use Rattle.std.proofs.lemmas.List.{append-nil, length-set, drop_at, take_at, drop-append-le, take-append-le}
use Rattle.std.proofs.lemmas.List.Sums.{sum_by-set}
use Rattle.jb_run.specs.declared.formula.Lit.{Lit}
use Rattle.jb_run.specs.declared.gates.Bit.{Bit}
use Rattle.jb_run.specs.declared.gates.Bit.TheVariants.{Of}
use Rattle.jb_run.specs.declared.solver.Search.{Search}
use Rattle.jb_run.specs.Satisfies.{lit_value}
use Rattle.jb_run.specs.Solved.{known_at, known_lit, with_sign, AgreesWith, is_unset, unset_count, cleared, Grows}
use Rattle.jb_run.specs.Solved.{IsSame, IsWithin, Fixes}

pub known_at-below : (values : List (Option Bool)) (v : ℕ) → known_at values v ≡ None → v < length values
known_at-below [] v h = absurd (cc)
known_at-below (x ∷ values) zero h = omega arith
known_at-below (x ∷ values) (suc v) h = let below = known_at-below values v h in omega arith

-- a value that is set is the new one, or was there
set-known : (values : List (Option Bool)) (v : ℕ) (b : Bool) (u : ℕ) (x : Bool)
    → known_at (slice_set values v (Some b)) u ≡ Some x → ((u ≡ v) × (b ≡ x)) ⊎ (known_at values u ≡ Some x)
set-known [] v b u x h = inr h
set-known (y ∷ values) zero b zero x h = inl (refl, cc)
set-known (y ∷ values) zero b (suc u) x h = inr h
set-known (y ∷ values) (suc v) b zero x h = inr h
set-known (y ∷ values) (suc v) b (suc u) x h =
    elim (set-known values v b u x h) [ inl e ↦ inl (ap suc e.0, e.1) | inr k ↦ inr k ]

clear-known : (values : List (Option Bool)) (v u : ℕ) (x : Bool) → known_at (slice_set values v None) u ≡ Some x
    → known_at values u ≡ Some x
clear-known [] v u x h = h
clear-known (y ∷ values) zero zero x h = absurd (cc)
clear-known (y ∷ values) zero (suc u) x h = h
clear-known (y ∷ values) (suc v) zero x h = h
clear-known (y ∷ values) (suc v) (suc u) x h = clear-known values v u x h

known-kept : (values : List (Option Bool)) (v : ℕ) (b : Bool) (u : ℕ) (x : Bool) → known_at values v ≡ None
    → known_at values u ≡ Some x → known_at (slice_set values v (Some b)) u ≡ Some x
known-kept [] v b u x h k = absurd (cc)
known-kept (y ∷ values) zero b zero x h k = absurd (cc)
known-kept (y ∷ values) zero b (suc u) x h k = k
known-kept (y ∷ values) (suc v) b zero x h k = k
known-kept (y ∷ values) (suc v) b (suc u) x h k = known-kept values v b u x h k

known-set : (values : List (Option Bool)) (v : ℕ) (b : Bool) → known_at values v ≡ None
    → known_at (slice_set values v (Some b)) v ≡ Some b
known-set [] v b h = absurd (cc)
known-set (y ∷ values) zero b h = refl
known-set (y ∷ values) (suc v) b h = known-set values v b h

-- a value that is set and taken back
set-clear : (values : List (Option Bool)) (v : ℕ) (b : Bool) → known_at values v ≡ None
    → slice_set (slice_set values v (Some b)) v None ≡ values
set-clear [] v b h = refl
set-clear (y ∷ values) zero b h = ap (λ z. z ∷ values) (sym h)
set-clear (y ∷ values) (suc v) b h = ap (λ z. y ∷ z) (set-clear values v b h)

pub unset_count-set : (values : List (Option Bool)) (v : ℕ) (b : Bool) → known_at values v ≡ None
    → unset_count (slice_set values v (Some b)) + 1 ≡ unset_count values
unfolding unset_count
unset_count-set values v b h =
    let moved = sum_by-set (λ (x : Option Bool). cond (is_unset x) 1 0) values v (Some b) (Some false)
    (known_at-below values v h) in
    ap (λ z. unset_count (slice_set values v (Some b)) + cond (is_unset z) 1 0) (sym h) ∙ moved
    ∙ add-zero (unset_count values)

pub AgreesWith-set : (a : ℕ → Bool) (values : List (Option Bool)) (v : ℕ) (b : Bool) → AgreesWith a values → a v ≡ b
    → AgreesWith a (slice_set values v (Some b))
AgreesWith-set a values v b e h =
    record {
      agrees = λ u x k. elim (set-known values v b u x k) [
        | inl same ↦ ap a same.0 ∙ h
            ∙ same.1
        | inr was ↦ e.agrees u x was
      ];
    }

pub AgreesWith-unset : (a : ℕ → Bool) (values : List (Option Bool)) (v : ℕ) (b : Bool) → known_at values v ≡ None
    → AgreesWith a (slice_set values v (Some b)) → AgreesWith a values
AgreesWith-unset a values v b h e = record { agrees = λ u x k. e.agrees u x (known-kept values v b u x h k) }

pub AgreesWith-value : (a : ℕ → Bool) (values : List (Option Bool)) (v : ℕ) (b : Bool) → known_at values v ≡ None
    → AgreesWith a (slice_set values v (Some b)) → a v ≡ b
AgreesWith-value a values v b h e = e.agrees v b (known-set values v b h)

AgreesWith-clear : (a : ℕ → Bool) (values : List (Option Bool)) (v : ℕ) → AgreesWith a values
    → AgreesWith a (slice_set values v None)
AgreesWith-clear a values v e = record { agrees = λ u x k. e.agrees u x (clear-known values v u x k) }

AgreesWith-cleared : (a : ℕ → Bool) (vs : List ℕ) (values : List (Option Bool)) → AgreesWith a values
    → AgreesWith a (cleared vs values)
AgreesWith-cleared a [] values e = e
AgreesWith-cleared a (v ∷ vs) values e = AgreesWith-clear a (cleared vs values) v (AgreesWith-cleared a vs values e)

pub cleared-append : (xs ys : List ℕ) (values : List (Option Bool))
    → cleared (xs ++ ys) values ≡ cleared xs (cleared ys values)
cleared-append [] ys values = refl
cleared-append (x ∷ xs) ys values = ap (λ z. slice_set z x None) (cleared-append xs ys values)

length-cleared : (vs : List ℕ) (values : List (Option Bool)) → length (cleared vs values) ≡ length values
length-cleared [] values = refl
length-cleared (v ∷ vs) values = length-set (cleared vs values) v None ∙ length-cleared vs values

-- a literal whose variable has a value
sign-value : (negated x y : Bool) (o : Option Bool) → o ≡ Some x → with_sign negated o ≡ Some y
    → cond negated (not x) x ≡ y
sign-value true true y o e h = let k : with_sign true (Some true) ≡ Some y = subst (λ z. with_sign true z ≡ Some y) e h
    in cc
sign-value true false y o e h = let k : with_sign true (Some false) ≡ Some y =
    subst (λ z. with_sign true z ≡ Some y) e h in cc
sign-value false x y o e h = let k : with_sign false (Some x) ≡ Some y = subst (λ z. with_sign false z ≡ Some y) e h in
    cc

signed : (negated : Bool) (o : Option Bool) (y : Bool) → with_sign negated o ≡ Some y → (x : Bool) × (o ≡ Some x)
signed negated None y h = absurd (cc)
signed negated (Some x) y h = (x, refl)

pub unsigned : (negated : Bool) (o : Option Bool) → with_sign negated o ≡ None → o ≡ None
unsigned negated None h = refl
unsigned true (Some true) h = absurd (cc)
unsigned true (Some false) h = absurd (cc)
unsigned false (Some x) h = absurd (cc)

pub lit_value-known : (a : ℕ → Bool) (values : List (Option Bool)) (lit : Lit) (y : Bool) → AgreesWith a values
    → known_lit values lit ≡ Some y → lit_value a lit ≡ y
lit_value-known a values lit y e h =
    let known = signed lit.negated (known_at values lit.variable) y h in
    ap (λ z. cond lit.negated (not z) z) (e.agrees lit.variable known.0 known.1)
    ∙ sign-value lit.negated known.0 y (known_at values lit.variable) known.1 h

pub true-value : (negated x : Bool) → cond negated (not x) x ≡ true → x ≡ not negated
true-value true true h = sym h
true-value true false h = refl
true-value false x h = h

pub value-true : (negated x : Bool) → x ≡ not negated → cond negated (not x) x ≡ true
value-true true x h = ap not h
value-true false x h = h

-- what was added can be taken back
pub Grows-same : (s : Search) → Grows s s
Grows-same s = record { added = []; trail = sym (append-nil s.trail.items); values = refl }

pub Grows-more : (s t u : Search) → Grows s t → Grows t u → Grows s u
Grows-more s t u g h =
    record {
      added = g.added ++ h.added;
      trail = h.trail ∙ ap (λ x. x ++ h.added) g.trail ∙ append_assoc s.trail.items g.added h.added;
      values = cleared-append g.added h.added u.values.items ∙ ap (cleared g.added) h.values ∙ g.values;
    }

pub Grows-assign : (s t : Search) (v : ℕ) (b : Bool) → known_at s.values.items v ≡ None
    → t.values.items ≡ slice_set s.values.items v (Some b) → t.trail.items ≡ s.trail.items ++ v ∷ [] → Grows s t
Grows-assign s t v b h e k =
    record {
      added = v ∷ [];
      trail = k;
      values = ap (λ z. slice_set z v None) e ∙ set-clear s.values.items v b h;
    }

pub IsSame-undo : (s t u : Search) (mark : ℕ) → Grows s t → mark ≡ length s.trail.items
    → u.values.items ≡ cleared (drop mark t.trail.items) t.values.items → u.trail.items ≡ take mark t.trail.items
    → IsSame s u
IsSame-undo s t u mark g m e k =
    let dropped : drop mark t.trail.items ≡ g.added = ap (drop mark) g.trail
    ∙ drop_at s.trail.items g.added mark (sym m) in
    let taken : take mark t.trail.items ≡ s.trail.items = ap (take mark) g.trail
    ∙ take_at s.trail.items g.added mark (sym m) in
    record { values = e ∙ ap (λ z. cleared z t.values.items) dropped ∙ g.values; trail = k ∙ taken }

pub IsWithin-grows : (s t : Search) → Grows s t → IsWithin s.values.items t.values.items
IsWithin-grows s t g =
    record {
      number = sym (length-cleared g.added t.values.items) ∙ ap length g.values;
      agree = λ a e. subst (AgreesWith a) g.values (AgreesWith-cleared a g.added t.values.items e);
    }

pub IsWithin-set : (values new : List (Option Bool)) (v : ℕ) (b : Bool) → known_at values v ≡ None
    → new ≡ slice_set values v (Some b) → IsWithin values new
IsWithin-set values new v b h e =
    record {
      number = ap length e ∙ length-set values v (Some b);
      agree = λ a x. AgreesWith-unset a values v b h (subst (AgreesWith a) e x);
    }

-- one variable of the trail is taken back
pub undo-one : (n : ℕ) (trail new_trail : List ℕ) (v : ℕ) (values new_values : List (Option Bool))
    → trail ≡ new_trail ++ v ∷ [] → n ≤ length new_trail → new_values ≡ slice_set values v None
    → (cleared (drop n new_trail) new_values ≡ cleared (drop n trail) values) × (take n new_trail ≡ take n trail)
undo-one n trail new_trail v values new_values e h k =
    let dropped : drop n trail ≡ drop n new_trail ++ v ∷ [] = ap (drop n) e ∙ drop-append-le n new_trail (v ∷ []) h in
    let taken : take n trail ≡ take n new_trail = ap (take n) e ∙ take-append-le n new_trail (v ∷ []) h in (
      ap (cleared (drop n new_trail)) k ∙ sym (cleared-append (drop n new_trail) (v ∷ []) values)
          ∙ ap (λ z. cleared z values) (sym dropped),
      sym taken,
    )

-- the goal's literal was given its value
pub Fixes-literal : (a : ℕ → Bool) (values new : List (Option Bool)) (lit : Lit) → known_lit values lit ≡ None
    → new ≡ slice_set values lit.variable (Some (not lit.negated))
    → (AgreesWith a new → AgreesWith a values × (lit_value a lit ≡ true))
    × (AgreesWith a values → lit_value a lit ≡ true → AgreesWith a new)
Fixes-literal a values new lit k e =
    let unset = unsigned lit.negated (known_at values lit.variable) k in (
      λ x. (
        AgreesWith-unset a values lit.variable (not lit.negated) unset (subst (AgreesWith a) e x),
        value-true lit.negated (a lit.variable) (AgreesWith-value a values lit.variable (not lit.negated) unset
            (subst (AgreesWith a) e x)),
      ),
      λ x h. subst (AgreesWith a) (sym e)
          (AgreesWith-set a values lit.variable (not lit.negated) x (true-value lit.negated (a lit.variable) h)),
    )

pub Fixes-of : (values new : List (Option Bool)) (goal : Bit) (lit : Lit) → goal ≡ Of lit → known_lit values lit ≡ None
    → new ≡ slice_set values lit.variable (Some (not lit.negated)) → Fixes values new goal
Fixes-of values new goal lit g k e =
    subst (Fixes values new) (sym g) (record {
      within = IsWithin-set values new lit.variable (not lit.negated)
          (unsigned lit.negated (known_at values lit.variable) k) e;
      holds = λ a x. ((Fixes-literal a values new lit k e).0 x).1;
      keeps = λ a. (Fixes-literal a values new lit k e).1;
    })

pub Grows-then : (s t u : Search) → Grows s t → IsSame t u → Grows s u
Grows-then s t u g same =
    record { added = g.added; trail = same.trail ∙ g.trail; values = ap (cleared g.added) same.values ∙ g.values }
