-- How the shapes that are found grow, and that they stay below any that meet the rules.
use Rattle.std.proofs.Common.{◌≡◌, ◌≢◌, ◌<◌, ◌≤◌, ◌⊎◌, ℕ, zero, suc, List, [], ◌∷◌, length, slice_set, Option, Some}
use Rattle.std.proofs.Common.{None, refl, sym, ap, subst, ◌∙◌, arith, inl, inr}
use Rattle.std.proofs.lemmas.List.{length-set}
use Rattle.cf_thin.specs.Instr.{Places}
use Rattle.cf_thin.specs.declared.shape.Shape.{Shape}
use Rattle.cf_thin.specs.ThinCode.{IsStart, Shapes, IsLed, IsWeaker}
use Rattle.cf_thin.specs.Calls.Passes.{Differs, LeadsTo, LeadsToAny, RefusesAny, HaveLocals, Covers, FlowsTo, shape_at}
use Rattle.cf_thin.proofs.KnownLemmas.{weaker_refl, weaker_trans, known_length, joins_shape, joins_known, joins_most}
use Rattle.jv_list.proofs.TestLemmas.{same_or_not}

pub same_some : (x y : Shape) → Some x ≡ Some y → x ≡ y
same_some x y e = cc

-- what is put at a pc is there
pub put_same : (found : List (Option Shape)) (pc : ℕ) (s : Shape) → pc < length found
    → shape_at (slice_set found pc (Some s)) pc ≡ Some s
put_same [] pc s lt = absurd (omega arith)
put_same (o ∷ found) zero s lt = refl
put_same (o ∷ found) (suc pc) s lt = put_same found pc s (omega arith)

-- what is put at a pc changes no other
pub put_other : (found : List (Option Shape)) (pc at : ℕ) (s : Shape) → at ≢ pc
    → shape_at (slice_set found pc (Some s)) at ≡ shape_at found at
put_other [] pc at s other = refl
put_other (o ∷ found) zero zero s other = absurd (other refl)
put_other (o ∷ found) zero (suc at) s other = refl
put_other (o ∷ found) (suc pc) zero s other = refl
put_other (o ∷ found) (suc pc) (suc at) s other = put_other found pc at s (λ e. other (ap suc e))

-- a shape is found only within the code
pub shape_within : (found : List (Option Shape)) (pc : ℕ) (s : Shape) → shape_at found pc ≡ Some s → pc < length found
shape_within [] pc s is = absurd cc
shape_within (o ∷ found) zero s is = omega arith
shape_within (o ∷ found) (suc pc) s is = let lt = shape_within found pc s is in omega arith

-- what stands where a weaker shape is expected stands where the shape is
pub led_weaker : (shapes : Shapes) (weaker shape : Shape) (pc : ℕ) → IsWeaker weaker shape → IsLed shapes weaker pc
    → IsLed shapes shape pc
led_weaker shapes weaker shape pc less led = (led.0, led.1, weaker_trans led.0 weaker shape led.2 less)

-- what is led to stays led to as shapes grow
pub led_covers : (found : List (Option Shape)) (shapes : Shapes) (shape : Shape) (pc : ℕ)
    → IsLed (shape_at found) shape pc → Covers found shapes → IsLed shapes shape pc
led_covers found shapes shape pc led covers = led_weaker shapes led.0 shape pc led.2 (covers pc led.0 led.1)

pub covers_trans : (x y : List (Option Shape)) (shapes : Shapes) → Covers x (shape_at y) → Covers y shapes
    → Covers x shapes
covers_trans x y shapes p q pc s is = led_covers y shapes s pc (p pc s is) q

pub covers_refl : (x : List (Option Shape)) → Covers x (shape_at x)
covers_refl x pc s is = (s, is, weaker_refl s)

-- shapes grow by one that is put at starts behind pc
pub record Grows (code : Places) (pc : ℕ) (old : List (Option Shape)) (shape : Shape)
    (new : List (Option Shape)) : Type 0 where
  pub long : length new ≡ length old
  pub keeps : Covers old (shape_at new)
  pub fresh : (at : ℕ) (s : Shape) → shape_at new at ≡ Some s
      → (shape_at old at ≡ Some s) ⊎ (IsStart code at × IsWeaker s shape)
  pub same : (at : ℕ) → at ≤ pc → shape_at new at ≡ shape_at old at

pub grows_refl : (code : Places) (pc : ℕ) (found : List (Option Shape)) (shape : Shape)
    → Grows code pc found shape found
grows_refl code pc found shape =
    record { long = refl; keeps = covers_refl found; fresh = λ at s is. inl is; same = λ at le. refl }

pub grows_trans : (code : Places) (pc : ℕ) (x y z : List (Option Shape)) (shape : Shape) → Grows code pc x shape y
    → Grows code pc y shape z → Grows code pc x shape z
grows_trans code pc x y z shape p q = record {
  long = q.long ∙ p.long;
  keeps = covers_trans x y (shape_at z) p.keeps q.keeps;
  fresh = λ at s is. elim (q.fresh at s is) [ inl old ↦ p.fresh at s old | inr new ↦ inr new ];
  same = λ at le. q.same at le ∙ p.same at le;
}

-- a pc behind another, where an instruction begins unless the code ends
abbrev pub IsBehind : Places → ℕ → ℕ → Type 0
IsBehind code pc to = (pc < to) × (to < length code → IsStart code to)

-- each shape that stays has its locals
pub grows_locals : (code : Places) (pc : ℕ) (old new : List (Option Shape)) (shape : Shape)
    → Grows code pc old shape new → HaveLocals old (length shape.locals) → HaveLocals new (length shape.locals)
grows_locals code pc old new shape grows have at s is =
    elim (grows.fresh at s is) [ inl was ↦ have at s was | inr put ↦ known_length s.locals shape.locals put.1.locals ]

-- putting a shape at a pc
pub lead_grows : (code : Places) (pc to : ℕ) (old new : List (Option Shape)) (shape : Shape) → length old ≡ length code
    → HaveLocals old (length shape.locals) → IsBehind code pc to → LeadsTo old shape to new
    → Grows code pc old shape new × IsLed (shape_at new) shape to
lead_grows code pc to old new shape long have behind leads =
    let put-is : shape_at new to ≡ Some leads.both = ap (λ (f : List (Option Shape)). shape_at f to) leads.put
    ∙ put_same old to leads.both leads.within in
    let other = λ (at : ℕ) (ne : at ≢ to). ap (λ (f : List (Option Shape)). shape_at f at) leads.put
    ∙ put_other old to at leads.both ne in
    let weaker = joins_shape (shape_at old to) shape leads.both (λ k is. have to k is) leads.joins in (
      record {
        long = ap length leads.put ∙ length-set old to (Some leads.both);
        keeps = λ at s is. same_or_not at to
            (λ same. let is' : shape_at old to ≡ Some s = ap (shape_at old) (sym same)
            ∙ is in (
              leads.both,
              ap (shape_at new) same ∙ put-is,
              joins_known (shape_at old to) shape leads.both s
                  (have to s is') is' leads.joins,
            ))
            (λ ne. (s, other at ne ∙ is, weaker_refl s));
        fresh = λ at s is. same_or_not at to
            (λ same. let both-is : leads.both ≡ s = same_some leads.both s (sym put-is ∙ ap (shape_at new) (sym same)
            ∙ is) in
            inr (
              subst (λ (p : ℕ). IsStart code p) (sym same) (behind.1 (omega (arith, leads.within, long))),
              subst (λ (x : Shape). IsWeaker x shape) both-is weaker,
            ))
            (λ ne. inl (sym (other at ne) ∙ is));
        same = λ at le. other at (λ e. absurd (omega (arith, behind.0)));
      },
      (leads.both, put-is, weaker),
    )

-- putting a shape at a pc, if one is given
pub lead_any_grows : (code : Places) (pc : ℕ) (to : Option ℕ) (old new : List (Option Shape)) (shape : Shape)
    → length old ≡ length code → HaveLocals old (length shape.locals) → ((t : ℕ) → to ≡ Some t → IsBehind code pc t)
    → LeadsToAny old shape to new → Grows code pc old shape new × ((t : ℕ) → to ≡ Some t → IsLed (shape_at new) shape t)
lead_any_grows code pc None old new shape long have behind leads = (
  subst (λ (n : List (Option Shape)). Grows code pc old shape n) (sym leads) (grows_refl code pc old shape),
  λ t is. absurd cc,
)
lead_any_grows code pc (Some t) old new shape long have behind leads =
    let g = lead_grows code pc t old new shape long have (behind t refl) leads in
    (g.0, λ u is. let e : t ≡ u = cc in subst (λ (p : ℕ). IsLed (shape_at new) shape p) e g.1)

-- putting a shape at each pc that may be next
pub flow_grows : (code : Places) (pc : ℕ) (first second : Option ℕ) (old new : List (Option Shape)) (shape : Shape)
    → length old ≡ length code → HaveLocals old (length shape.locals) → ((t : ℕ) → first ≡ Some t → IsBehind code pc t)
    → ((t : ℕ) → second ≡ Some t → IsBehind code pc t) → FlowsTo old shape first second new
    → Grows code pc old shape new × ((t : ℕ) → first ≡ Some t → IsLed (shape_at new) shape t)
    × ((t : ℕ) → second ≡ Some t → IsLed (shape_at new) shape t)
flow_grows code pc first second old new shape long have behind1 behind2 flows =
    let p = lead_any_grows code pc first old flows.0 shape long have behind1 flows.1 in
    let q = lead_any_grows code pc second flows.0 new shape (p.0.long ∙ long)
    (grows_locals code pc old flows.0 shape p.0 have) behind2 flows.2 in (
      grows_trans code pc old flows.0 new shape p.0 q.0,
      λ t is. led_covers flows.0 (shape_at new) shape t
          (p.1 t is) q.0.keeps,
      q.1,
    )

pub lead_covers : (shapes : Shapes) (to : ℕ) (old new : List (Option Shape)) (shape : Shape) → Covers old shapes
    → IsLed shapes shape to → LeadsTo old shape to new → Covers new shapes
lead_covers shapes to old new shape covers led leads at s is =
    let other = λ (ne : at ≢ to). ap (λ (f : List (Option Shape)). shape_at f at) leads.put
    ∙ put_other old to at leads.both ne in
    same_or_not at to
    (λ same.
    let put-is : shape_at new to ≡ Some leads.both = ap (λ (f : List (Option Shape)). shape_at f to) leads.put
    ∙ put_same old to leads.both leads.within in
    let both-is : leads.both ≡ s = same_some leads.both s (sym put-is ∙ ap (shape_at new) (sym same) ∙ is) in
    let less = joins_most (shape_at old to) shape leads.both led.0 leads.joins led.2
    (λ k was. let c = covers to k was in let e : c.0 ≡ led.0 = same_some c.0 led.0 (sym c.1 ∙ led.1)
    in subst (λ (x : Shape). IsWeaker x k) e c.2) in
    (led.0, ap shapes same ∙ led.1, subst (λ (x : Shape). IsWeaker led.0 x) both-is less))
    (λ ne. covers at s (sym (other ne) ∙ is))

pub lead_any_covers : (shapes : Shapes) (to : Option ℕ) (old new : List (Option Shape)) (shape : Shape)
    → Covers old shapes → ((t : ℕ) → to ≡ Some t → IsLed shapes shape t) → LeadsToAny old shape to new
    → Covers new shapes
lead_any_covers shapes None old new shape covers led leads =
    subst (λ (n : List (Option Shape)). Covers n shapes) (sym leads) covers
lead_any_covers shapes (Some t) old new shape covers led leads =
    lead_covers shapes t old new shape covers (led t refl) leads

-- an assignment below what is found leaves no shape refused
differs_not : (found : Option Shape) (shapes : Shapes) (shape : Shape) (to : ℕ)
    → ((k : Shape) → found ≡ Some k → IsLed shapes k to) → IsLed shapes shape to → Differs found shape → ⊥
differs_not None shapes shape to known led differs = differs
differs_not (Some k) shapes shape to known led differs =
    let c = known k refl in
    let e : c.0 ≡ led.0 = same_some c.0 led.0 (sym c.1 ∙ led.1) in
    differs (sym c.2.stack ∙ ap (λ (x : Shape). x.stack) e ∙ led.2.stack)

pub refuses_not : (shapes : Shapes) (to : Option ℕ) (found : List (Option Shape)) (shape : Shape) → Covers found shapes
    → ((t : ℕ) (s : Shape) → shapes t ≡ Some s → t < length found) → ((t : ℕ) → to ≡ Some t → IsLed shapes shape t)
    → RefusesAny found shape to → ⊥
refuses_not shapes None found shape covers within led refuses = refuses
refuses_not shapes (Some t) found shape covers within led (inl past) = let l = led t refl in
    absurd (omega (arith, within t l.0 l.1))
refuses_not shapes (Some t) found shape covers within led (inr differs) =
    differs_not (shape_at found t) shapes shape t (covers t) (led t refl) differs
