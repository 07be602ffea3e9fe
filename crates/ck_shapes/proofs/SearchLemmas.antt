-- How what is known becomes less, and stays above all shapes that meet the rules.
use Rattle.std.proofs.Common.{◌≡◌, ◌≢◌, ℕ, zero, suc, ◌+◌, ◌≤◌, ◌<◌, ◌⊎◌, Bool, true, false, List, [], ◌∷◌}
use Rattle.std.proofs.Common.{length, take, get_or, slice_set, Option, Some, None, refl, sym, ap, subst, ◌∙◌}
use Rattle.std.proofs.Common.{arith, inl, inr, IsTrue}
use Rattle.std.specs.Prelude.{Contains}
use Rattle.std.proofs.lemmas.Option.{same_Some}
use Rattle.std.proofs.lemmas.List.{length-append, length-set, take_more}
use Rattle.std.proofs.lemmas.List.Elements.{Contains-push, Contains-push_cases, Contains-append_left}
use Rattle.jv_list.proofs.TestLemmas.{same_or_not}
use Rattle.ck_shapes.specs.declared.shape.Shape.{Shape}
use Rattle.ck_shapes.specs.declared.shape.Limits.{Limits}
use Rattle.ck_shapes.specs.declared.search.Known.{Known}
use Rattle.ck_shapes.specs.Shape.{words, IsWeaker}
use Rattle.ck_shapes.specs.Rules.{shape_at, GivenShapes, IsLed}
use Rattle.ck_shapes.specs.Calls.Search.{StandsFor, HasOtherStack, rank, ranks, measure, HaveRoom, Weakens}
use Rattle.ck_shapes.specs.Calls.Search.{Stand, AreBelow, CanStand, Puts, HasRoomAt, Leads}
use Rattle.ck_shapes.proofs.KnownLemmas.{weaker_refl, led_weaker, joins_shape, joins_known, joins_most}
use Rattle.ck_shapes.proofs.KnownLemmas.{joins_rank, stands_weaker, joined_long}

-- ---- what stands at a pc

pub put_same : (found : List (Option Shape)) (pc : ℕ) (s : Shape) → pc < length found
    → shape_at (slice_set found pc (Some s)) pc ≡ Some s
put_same [] pc s lt = absurd (omega (arith, lt))
put_same (o ∷ found) zero s lt = refl
put_same (o ∷ found) (suc pc) s lt = put_same found pc s (omega (arith, lt))

pub put_other : (found : List (Option Shape)) (pc at : ℕ) (s : Shape) → at ≢ pc
    → shape_at (slice_set found pc (Some s)) at ≡ shape_at found at
put_other [] pc at s other = refl
put_other (o ∷ found) zero zero s other = absurd (other refl)
put_other (o ∷ found) zero (suc at) s other = refl
put_other (o ∷ found) (suc pc) zero s other = refl
put_other (o ∷ found) (suc pc) (suc at) s other = put_other found pc at s (λ e. other (ap suc e))

ranks_set : (max : ℕ) (found : List (Option Shape)) (pc : ℕ) (s : Shape) → pc < length found
    → ranks max (slice_set found pc (Some s)) + rank max (shape_at found pc) ≡ ranks max found + rank max (Some s)
ranks_set max [] pc s lt = absurd (omega (arith, lt))
ranks_set max (o ∷ found) zero s lt = omega arith
ranks_set max (o ∷ found) (suc pc) s lt = omega (arith, ranks_set max found pc s (omega (arith, lt)))

-- ---- becoming less, in one step and in more

pub weakens_refl : (limits : Limits) (known : Known) → Weakens limits known known
weakens_refl limits known = record {
  led = λ pc s e. (s, e, weaker_refl s);
  kept = λ pc s e. inr e;
  waits = λ pc h. h;
  room = λ h. h;
  long = refl;
  falls = omega arith;
}

pub led_later : (limits : Limits) (a b : Known) (shape : Shape) (pc : ℕ) → Weakens limits a b
    → IsLed (shape_at a.shapes) shape pc → IsLed (shape_at b.shapes) shape pc
led_later limits a b shape pc w led =
    led_weaker (shape_at b.shapes) led.0 shape pc led.2 (w.led pc led.0 led.1)

pub weakens_trans : (limits : Limits) (a b d : Known) → Weakens limits a b → Weakens limits b d → Weakens limits a d
weakens_trans limits a b d p q = record {
  led = λ pc s e. led_later limits b d s pc q (p.led pc s e);
  kept = λ pc s e. elim (q.kept pc s e) [
    | inl waits ↦ inl waits
    | inr was ↦ elim (p.kept pc s was) [ inl waits ↦ inl (q.waits pc waits) | inr before ↦ inr before ]
  ];
  waits = λ pc h. q.waits pc (p.waits pc h);
  room = λ h. q.room (p.room h);
  long = q.long ∙ p.long;
  falls = omega (arith, p.falls, q.falls);
}

-- ---- one shape that is led to a pc

module _ (limits : Limits) (old : Known) (pc : ℕ) (shape : Shape) (new : Known) where
  puts_at : HasRoomAt limits old pc shape → (p : Puts old pc shape new) → shape_at new.shapes pc ≡ Some p.both
  puts_at room p = ap (λ (l : List (Option Shape)). shape_at l pc) p.shapes ∙ put_same old.shapes pc p.both room.0

  puts_other : Puts old pc shape new → (at : ℕ) → at ≢ pc → shape_at new.shapes at ≡ shape_at old.shapes at
  puts_other p at ne = ap (λ (l : List (Option Shape)). shape_at l at) p.shapes
      ∙ put_other old.shapes pc at p.both ne

  puts_waits : (p : Puts old pc shape new) → Contains new.waiting pc
  puts_waits p = subst (λ (l : List ℕ). Contains l pc) (sym p.waiting) (Contains-push old.waiting pc)

  puts_led : HasRoomAt limits old pc shape → Puts old pc shape new → (at : ℕ) (s : Shape)
      → shape_at old.shapes at ≡ Some s → IsLed (shape_at new.shapes) s at
  puts_led room p at s e =
      same_or_not at pc
      (λ same. (
        p.both,
        ap (shape_at new.shapes) same ∙ puts_at room p,
        joins_known (shape_at old.shapes pc) shape p.both s p.joins (ap (shape_at old.shapes) (sym same) ∙ e),
      ))
      (λ ne. (s, puts_other p at ne ∙ e, weaker_refl s))

  puts_kept : HasRoomAt limits old pc shape → Puts old pc shape new → (at : ℕ) (s : Shape)
      → shape_at new.shapes at ≡ Some s → Contains new.waiting at ⊎ (shape_at old.shapes at ≡ Some s)
  puts_kept room p at s e =
      same_or_not at pc
      (λ same. inl (subst (λ (x : ℕ). Contains new.waiting x) (sym same) (puts_waits p)))
      (λ ne. inr (sym (puts_other p at ne) ∙ e))

  puts_long : length shape.locals ≤ limits.max_locals → (p : Puts old pc shape new) → HaveRoom limits old.shapes
      → length p.both.locals ≤ limits.max_locals
  puts_long le p have = joined_long limits.max_locals (shape_at old.shapes pc) shape p.both le
      (λ k is. (have pc k is).1) p.joins

  puts_words : HasRoomAt limits old pc shape → (p : Puts old pc shape new) → words p.both.stack ≤ limits.max_stack
  puts_words room p =
      omega (arith, room.1, ap words (joins_shape (shape_at old.shapes pc) shape p.both p.joins).stack)

  puts_room : length shape.locals ≤ limits.max_locals → HasRoomAt limits old pc shape → Puts old pc shape new
      → HaveRoom limits old.shapes → HaveRoom limits new.shapes
  puts_room le room p have at s e =
      same_or_not at pc
      (λ same. let is : p.both ≡ s =
      same_Some p.both s (sym (puts_at room p) ∙ ap (shape_at new.shapes) (sym same) ∙ e) in
      subst (λ (x : Shape). (words x.stack ≤ limits.max_stack) × (length x.locals ≤ limits.max_locals)) is
      (puts_words room p, puts_long le p have))
      (λ ne. have at s (sym (puts_other p at ne) ∙ e))

  puts_falls : length shape.locals ≤ limits.max_locals → HasRoomAt limits old pc shape → Puts old pc shape new
      → measure limits new ≤ measure limits old
  puts_falls le room p =
      omega (
        arith,
        ranks_set limits.max_locals old.shapes pc p.both room.0,
        joins_rank limits.max_locals (shape_at old.shapes pc) shape p.both le p.joins,
        ap (ranks limits.max_locals) p.shapes,
        ap length p.waiting,
        length-append old.waiting (pc ∷ []),
      )

  puts_weakens : length shape.locals ≤ limits.max_locals → HasRoomAt limits old pc shape → Puts old pc shape new
      → Weakens limits old new
  puts_weakens le room p = record {
    led = puts_led room p;
    kept = puts_kept room p;
    waits = λ at h. subst (λ (l : List ℕ). Contains l at) (sym p.waiting)
        (Contains-append_left old.waiting (pc ∷ []) at h);
    room = puts_room le room p;
    long = ap length p.shapes ∙ length-set old.shapes pc (Some p.both);
    falls = puts_falls le room p;
  }

  lead_step : length shape.locals ≤ limits.max_locals → HasRoomAt limits old pc shape
      → ((new ≡ old) × StandsFor (shape_at old.shapes pc) shape) ⊎ Puts old pc shape new
      → Weakens limits old new × IsLed (shape_at new.shapes) shape pc
  lead_step le room (inl stays) =
      let k = stands_weaker (shape_at old.shapes pc) shape stays.1 in (
        subst (λ (n : Known). Weakens limits old n) (sym stays.0) (weakens_refl limits old),
        (k.0, ap (λ (n : Known). shape_at n.shapes pc) stays.0 ∙ k.1, k.2),
      )
  lead_step le room (inr p) = (
    puts_weakens le room p,
    (p.both, puts_at room p, joins_shape (shape_at old.shapes pc) shape p.both p.joins),
  )

  -- what a lead that succeeds gives
  pub lead_stands : (b : Bool) → length shape.locals ≤ limits.max_locals → Leads limits old pc shape b new → b ≡ true
      → Weakens limits old new × IsLed (shape_at new.shapes) shape pc
  lead_stands true le leads e = lead_step le leads.0 leads.1
  lead_stands false le leads e = absurd cc

  puts_below : (all : GivenShapes) → HasRoomAt limits old pc shape → Puts old pc shape new → AreBelow old.shapes all
      → IsLed all shape pc → AreBelow new.shapes all
  puts_below all room p below led at s e =
      same_or_not at pc
      (λ same. let is : p.both ≡ s =
      same_Some p.both s (sym (puts_at room p) ∙ ap (shape_at new.shapes) (sym same) ∙ e) in (
        led.0,
        ap all same ∙ led.1,
        subst (λ (x : Shape). IsWeaker led.0 x) is
            (joins_most (shape_at old.shapes pc) shape p.both led.0 p.joins led.2
            (λ k has. let l = below pc k has in
            subst (λ (x : Shape). IsWeaker x k) (same_Some l.0 led.0 (sym l.1 ∙ led.1)) l.2)),
      ))
      (λ ne. below at s (sym (puts_other p at ne) ∙ e))

  below_step : (all : GivenShapes) → HasRoomAt limits old pc shape
      → ((new ≡ old) × StandsFor (shape_at old.shapes pc) shape) ⊎ Puts old pc shape new → AreBelow old.shapes all
      → IsLed all shape pc → AreBelow new.shapes all
  below_step all room (inl stays) below led =
      subst (λ (n : Known). AreBelow n.shapes all) (sym stays.0) below
  below_step all room (inr p) below led = puts_below all room p below led

  other_refused : (all : GivenShapes) (o : Option Shape) → HasOtherStack o shape → IsLed all shape pc
      → ((k : Shape) → o ≡ Some k → IsLed all k pc) → ⊥
  other_refused all None h led below = h
  other_refused all (Some k) h led below =
      let l = below k refl in
      h (sym l.2.stack ∙ ap (λ (x : Shape). x.stack) (same_Some l.0 led.0 (sym l.1 ∙ led.1)) ∙ led.2.stack)

  -- a lead succeeds where some shapes that meet the rules have it, and stays above them
  pub lead_below : (b : Bool) (all : GivenShapes) → Leads limits old pc shape b new
      → CanStand limits (length old.shapes) all
      → AreBelow old.shapes all → IsLed all shape pc → IsTrue b × AreBelow new.shapes all
  lead_below true all leads can below led = (refl, below_step all leads.0 leads.1 below led)
  lead_below false all leads can below led =
      let fits = can pc led.0 led.1 in
      absurd (other_refused all (shape_at old.shapes pc)
      (leads (fits.0, omega (arith, fits.1, ap words led.2.stack))) led (λ k is. below pc k is))

-- ---- one shape that is led to more pcs

pub stand_none : (limits : Limits) (known : Known) (shape : Shape) → Stand limits known [] shape known
stand_none limits known shape =
    record { weakens = weakens_refl limits known; led = λ pc h. absurd (omega (arith, h.1)) }

pub stand_more : (limits : Limits) (a b d : Known) (pcs : List ℕ) (i pc e : ℕ) (shape : Shape) → i < length pcs
    → pc ≡ get_or pcs i e → Stand limits a (take i pcs) shape b
    → Weakens limits b d × IsLed (shape_at d.shapes) shape pc → Stand limits a (take (i + 1) pcs) shape d
stand_more limits a b d pcs i pc e shape lt is stand step = record {
  weakens = weakens_trans limits a b d stand.weakens step.0;
  led = λ at h.
      elim (Contains-push_cases (take i pcs) (get_or pcs i e) at
      (subst (λ (l : List ℕ). Contains l at) (take_more pcs i e lt) h)) [
        | inl before ↦ led_later limits b d shape at step.0 (stand.led at before)
        | inr last ↦ subst (λ (x : ℕ). IsLed (shape_at d.shapes) shape x) (is ∙ last) step.1
      ];
}
