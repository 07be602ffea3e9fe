-- Intervals are found from the last target to the first. The outer ones are those found that are in no other.
use Rattle.std.proofs.Common.{◌≡◌, ◌⊎◌, ℕ, ◌≤◌, ◌<◌, List, [], ◌∷◌, ◌++◌, Contains, sym, ap, subst, inl, inr, ◌∙◌}
use Rattle.std.proofs.Common.{arith}
use Rattle.std.proofs.lemmas.List.Elements.{Contains-append_right, Contains-append_cases}
use Rattle.jv_list.proofs.MemberLemmas.{none_member, member_cases, first_member}
use Rattle.uw_keys.specs.declared.interval.Interval.{Interval}
use Rattle.uw_keys.specs.Intervals.{Ascend}
use Rattle.uw_keys.specs.Calls.Backward.{BeginsAt, BeginsBehind, Reaches, Takes, Found}
use Rattle.jv_list.proofs.MemberLemmas.{later_member}

-- the intervals of the pairs seen so far, and the outer ones among them, which hold the others
pub record Progress (seen : List (ℕ × ℕ)) (is outer : List Interval) : Type 0 where
  pub found : Found seen is
  pub held : (i : Interval) → Contains is i
      → (o : Interval) × Contains outer o × (o.target ≤ i.target) × (i.end ≤ o.end)
  pub among : (o : Interval) → Contains outer o → Contains is o
  pub order : Ascend outer

pub nothing_seen : Progress [] [] []
nothing_seen = record {
  found = record {
    order = tt;
    sources = λ t s h. absurd (none_member (t, s) h);
    targets = λ i h. absurd (none_member i h);
    inner = λ i j h. absurd (none_member i h);
    least = λ end h1 h2 i h. absurd (none_member i h);
  };
  held = λ i h. absurd (none_member i h);
  among = λ o h. absurd (none_member o h);
  order = tt;
}

ascend_back : (xs ys : List Interval) → Ascend (xs ++ ys) → Ascend ys
ascend_back [] ys h = h
ascend_back (x ∷ xs) ys h = ascend_back xs ys h.1

-- where the first is behind a pc, all are
all_behind : (is : List Interval) (pc : ℕ) → Ascend is → BeginsBehind is pc → (i : Interval) → Contains is i
    → pc < i.target
all_behind [] pc order behind i h = absurd (none_member i h)
all_behind (x ∷ is) pc order behind i h =
    elim (member_cases x is i h) [
      | inl e ↦ subst (λ (j : Interval). pc < j.target) e behind
      | inr more ↦ omega (arith, order.0 i more, behind)
    ]

-- intervals that do not begin before a target, and of which the first has another, all begin behind it
all_later : (is : List Interval) (t : ℕ) → Ascend is → (BeginsAt is t → ⊥)
    → ((i : Interval) → Contains is i → t ≤ i.target) → (i : Interval) → Contains is i → t < i.target
all_later [] t order other not-before i h = absurd (none_member i h)
all_later (x ∷ is) t order other not-before i h =
    let first : t ≤ x.target = not-before x (first_member x is) in
    let differs : t ≡ x.target → ⊥ = λ e. other (sym e) in
    let less : t < x.target = omega arith in
    all_behind (x ∷ is) t order less i h

begins_member : (is : List Interval) (t : ℕ) → BeginsAt is t → (i : Interval) × Contains is i × (i.target ≡ t)
begins_member [] t h = absurd h
begins_member (x ∷ is) t h = (x, first_member x is, h)

-- one more pair, not behind those seen
module _ (seen : List (ℕ × ℕ)) (is outer : List Interval) (t s : ℕ) (p : Progress seen is outer)
    (first : (u r : ℕ) → Contains seen (u, r) → (t < u) ⊎ ((t ≡ u) × (s ≤ r))) where
  -- its target may have an interval already
  same_target : BeginsAt is t → (i : Interval) × Contains is i × (i.target ≡ t) × (s ≤ i.end)
  same_target begins =
      let h = begins_member is t begins in
      let r = p.found.targets h.0 h.1 in
      let i = p.found.sources h.0.target r.0 r.1 in
      elim (first h.0.target r.0 r.1) [
        | inl less ↦ absurd (omega (arith, h.2))
        | inr same ↦ (i.0, i.1, i.2 ∙ h.2, omega (arith, same.1, i.3))
      ]

  seen_again : BeginsAt is t → Progress ((t, s) ∷ seen) is outer
  seen_again begins = record {
    found = record {
      order = p.found.order;
      sources = λ u r h.
          elim (member_cases (t, s) seen (u, r) h) [
            | inl e ↦
                let i = same_target begins in
                (i.0, i.1, i.2 ∙ ap (λ (q : ℕ × ℕ). q.0) e, subst (λ (q : ℕ × ℕ). q.1 ≤ i.0.end) e i.3)
            | inr more ↦ p.found.sources u r more
          ];
      targets = λ i h. let r = p.found.targets i h in (r.0, later_member (t, s) seen (i.target, r.0) r.1);
      inner = p.found.inner;
      least = λ end sources inner i h.
          p.found.least end (λ u r g. sources u r (later_member (t, s) seen (u, r) g))
          (λ u r v q g k. inner u r v q (later_member (t, s) seen (u, r) g) (later_member (t, s) seen (v, q) k)) i h;
    };
    held = p.held;
    among = p.among;
    order = p.order;
  }

  -- or gets one, which takes in those that its end reaches
  module _ (end : ℕ) (rest : List Interval) (reaches : Reaches outer s end rest) (other : BeginsAt is t → ⊥) where
    abbrev new : Interval
    new = record { target = t; end = end }

    not_before : (i : Interval) → Contains is i → t ≤ i.target
    not_before i h =
        let r = p.found.targets i h in
        elim (first i.target r.0 r.1) [ inl less ↦ omega arith | inr same ↦ omega (arith, same.0) ]

    later : (i : Interval) → Contains is i → t < i.target
    later = all_later is t p.found.order other not_before

    -- the outer intervals, apart
    apart : (o : Interval) → Contains outer o → (o.end ≤ end) ⊎ (Contains rest o × (end < o.target))
    apart o h =
        let parted = subst (λ (os : List Interval). Contains os o) reaches.split h in
        elim (Contains-append_cases reaches.taken rest o parted) [
          | inl taken ↦ inl (reaches.inside o taken)
          | inr left ↦ inr (left, all_behind rest end rest_order reaches.behind o left)
        ]
      where
        rest_order : Ascend rest
        rest_order = ascend_back reaches.taken rest (subst (λ (os : List Interval). Ascend os) reaches.split p.order)

    rest_outer : (o : Interval) → Contains rest o → Contains outer o
    rest_outer o h =
        subst (λ (os : List Interval). Contains os o) (sym reaches.split)
        (Contains-append_right reaches.taken rest o h)

    -- what begins in the new interval ends in it
    inside_new : (j : Interval) → Contains is j → j.target ≤ end → j.end ≤ end
    inside_new j h le =
        let o = p.held j h in
        elim (apart o.0 o.1) [
          | inl taken ↦ omega (arith, o.3)
          | inr left ↦ absurd (omega (arith, o.2, left.1))
        ]

    least_new : (f : ℕ → ℕ) → ((u r : ℕ) → Contains ((t, s) ∷ seen) (u, r) → r ≤ f u)
        → ((u r v q : ℕ) → Contains ((t, s) ∷ seen) (u, r) → Contains ((t, s) ∷ seen) (v, q) → u ≤ v → v ≤ f u
        → f v ≤ f u)
        → ((i : Interval) → Contains is i → i.end ≤ f i.target) → end ≤ f t
    least_new f sources inner older =
        reaches.least (f t) (sources t s (first_member (t, s) seen))
        (λ o h le.
        let r = p.found.targets o (p.among o h) in
        let step : f o.target ≤ f t =
        inner t s o.target r.0 (first_member (t, s) seen) (later_member (t, s) seen (o.target, r.0) r.1)
        (not_before o (p.among o h)) le in
        omega (arith, older o (p.among o h), step))

    inner_new : (i j : Interval) → Contains (new ∷ is) i → Contains (new ∷ is) j → i.target ≤ j.target
        → j.target ≤ i.end → j.end ≤ i.end
    inner_new i j in-i in-j from to =
        elim (member_cases new is j in-j) [
          | inl e ↦
              let target : t ≡ j.target = ap (λ (k : Interval). k.target) e in
              let last : end ≡ j.end = ap (λ (k : Interval). k.end) e in
              elim (member_cases new is i in-i) [
                | inl same ↦ let last' : end ≡ i.end = ap (λ (k : Interval). k.end) same in omega arith
                | inr more ↦ absurd (omega (arith, later i more))
              ]
          | inr more ↦
              elim (member_cases new is i in-i) [
                | inl same ↦
                    let last : end ≡ i.end = ap (λ (k : Interval). k.end) same in
                    omega (arith, inside_new j more (omega arith))
                | inr older ↦ p.found.inner i j older more from to
              ]
        ]

    found_new : Found ((t, s) ∷ seen) (new ∷ is)
    found_new = record {
      order = (λ j h. later j h, p.found.order);
      sources = λ u r h.
          elim (member_cases (t, s) seen (u, r) h) [
            | inl e ↦ (
              new,
              first_member new is,
              ap (λ (q : ℕ × ℕ). q.0) e,
              subst (λ (q : ℕ × ℕ). q.1 ≤ end) e reaches.not_before,
            )
            | inr more ↦
                let i = p.found.sources u r more in
                (i.0, later_member new is i.0 i.1, i.2, i.3)
          ];
      targets = λ i h.
          elim (member_cases new is i h) [
            | inl e ↦
                (s, subst (λ (j : Interval). Contains ((t, s) ∷ seen) (j.target, s)) e (first_member (t, s) seen))
            | inr more ↦ let r = p.found.targets i more in (r.0, later_member (t, s) seen (i.target, r.0) r.1)
          ];
      inner = inner_new;
      least = λ f sources inner i h.
          let older = p.found.least f (λ u r g. sources u r (later_member (t, s) seen (u, r) g))
          (λ u r v q g k. inner u r v q (later_member (t, s) seen (u, r) g) (later_member (t, s) seen (v, q) k)) in
          elim (member_cases new is i h) [
            | inl e ↦ subst (λ (j : Interval). j.end ≤ f j.target) e (least_new f sources inner older)
            | inr more ↦ older i more
          ];
    }

    held_new : (i : Interval) → Contains (new ∷ is) i
        → (o : Interval) × Contains (new ∷ rest) o × (o.target ≤ i.target) × (i.end ≤ o.end)
    held_new i h =
        elim (member_cases new is i h) [
          | inl e ↦
              let target : t ≡ i.target = ap (λ (k : Interval). k.target) e in
              let last : end ≡ i.end = ap (λ (k : Interval). k.end) e in
              (new, first_member new rest, omega arith, omega arith)
          | inr more ↦
              let o = p.held i more in
              elim (apart o.0 o.1) [
                | inl taken ↦ (new, first_member new rest, not_before i more, omega (arith, o.3, taken))
                | inr left ↦ (o.0, later_member new rest o.0 left.0, o.2, o.3)
              ]
        ]

    seen_new : Progress ((t, s) ∷ seen) (new ∷ is) (new ∷ rest)
    seen_new = record {
      found = found_new;
      held = held_new;
      among = λ o h.
          elim (member_cases new rest o h) [
            | inl e ↦ subst (λ (k : Interval). Contains (new ∷ is) k) e (first_member new is)
            | inr more ↦ later_member new is o (p.among o (rest_outer o more))
          ];
      order = (
        λ o h. later o (p.among o (rest_outer o h)),
        ascend_back reaches.taken rest (subst (λ (os : List Interval). Ascend os) reaches.split p.order),
      );
    }

  pub seen_more : (is' outer' : List Interval) → Takes is outer t s is' outer' → Progress ((t, s) ∷ seen) is' outer'
  seen_more is' outer' takes =
      elim takes.cases [
        | inl same ↦
            subst (λ (js : List Interval). Progress ((t, s) ∷ seen) js outer') (sym same.1)
            (subst (λ (os : List Interval). Progress ((t, s) ∷ seen) is os) (sym same.2) (seen_again same.0))
        | inr new ↦
            let i : Interval = record { target = t; end = new.1.0 } in
            subst (λ (js : List Interval). Progress ((t, s) ∷ seen) js outer') (sym new.1.3)
            (subst (λ (os : List Interval). Progress ((t, s) ∷ seen) (i ∷ is) os) (sym new.1.4)
            (seen_new new.1.0 new.1.1 new.1.2 new.0))
      ]
