-- Following one instruction.
use Rattle.std.proofs.Common.{◌≡◌, ℕ, Bool, true, List, [], ◌∷◌, ◌++◌, length, Option, Some, None}
use Rattle.std.proofs.Common.{refl, sym, ap, subst, ◌∙◌, arith, inl, inr, zero, suc, replicate}
use Rattle.std.specs.Prelude.{Contains, IfOk, IsTrue, Result, Ok, Err}
use Rattle.std.proofs.lemmas.Option.{none-some, same_Some}
use Rattle.std.proofs.lemmas.List.Elements.{Contains-push_cases}
use Rattle.std.proofs.lemmas.Bool.Decides.{nat_tests}
use Rattle.jv_list.proofs.FilterLemmas.{in_filter, from_filter}
use Rattle.jv_list.proofs.MemberLemmas.{in_map, from_map}
use Rattle.ck_shapes.specs.declared.shape.Shape.{Shape}
use Rattle.ck_shapes.specs.declared.flow.Action.{Action}
use Rattle.ck_shapes.specs.declared.flow.Step.{Step}
use Rattle.ck_shapes.specs.declared.flow.Handler.{Handler}
use Rattle.ck_shapes.specs.declared.flow.Flow.{Flow}
use Rattle.ck_shapes.specs.declared.way.Way.{Way}
use Rattle.ck_shapes.specs.declared.search.Known.{Known}
use Rattle.ck_shapes.specs.Shape.{IsWeaker, Applies}
use Rattle.ck_shapes.specs.Rules.{GivenShapes, shape_at, at_handler, Covers, IsLed, Flows, MeetsRules}
use Rattle.ck_shapes.specs.Calls.Places.{ArePlaces}
use Rattle.ck_shapes.specs.Calls.Ways.{covers, handlers_at, IsWay, HasNoWay}
use Rattle.ck_shapes.specs.Calls.Search.{Weakens, Stand, AreBelow, CanStand, IsSound}
use Rattle.ck_shapes.proofs.KnownLemmas.{led_weaker}
use Rattle.ck_shapes.proofs.EffectLemmas.{applies_weaker, applies_more}
use Rattle.ck_shapes.proofs.PlaceLemmas.{place_within}
use Rattle.ck_shapes.proofs.SearchLemmas.{led_later, weakens_trans}

-- ---- handlers

covers_if : (pc : ℕ) (h : Handler) → Covers h pc → covers pc h ≡ true
covers_if pc h c = let p = c.0 in let q = c.1 in grind (arith, nat_tests)

if_covers : (pc : ℕ) (h : Handler) → covers pc h ≡ true → Covers h pc
if_covers pc h e = (grind (arith, nat_tests), grind (arith, nat_tests))

in_handlers : (hs : List Handler) (pc : ℕ) (h : Handler) → Contains hs h → Covers h pc
    → Contains (handlers_at hs pc) h.handler
in_handlers hs pc h has c = in_map (λ x. x.handler) _ h (in_filter (covers pc) hs h has (covers_if pc h c))

from_handlers : (hs : List Handler) (pc to : ℕ) → Contains (handlers_at hs pc) to
    → (h : Handler) × Contains hs h × Covers h pc × (h.handler ≡ to)
from_handlers hs pc to has =
    let m = from_map (λ (x : Handler). x.handler) _ to has in
    let f = from_filter (covers pc) hs m.0 m.1 in
    (m.0, f.0, if_covers pc m.0 f.1, m.2)

-- ---- what stands later

flows_later : (flow : Flow) (a b : Known) (pc : ℕ) (shape : Shape) → Weakens flow.limits a b
    → Flows flow (shape_at a.shapes) pc shape → Flows flow (shape_at b.shapes) pc shape
flows_later flow a b pc shape w f = record {
  step = f.step;
  action = f.action;
  after = f.after;
  is = f.is;
  acts = f.acts;
  applies = f.applies;
  nexts = λ to h. led_later flow.limits a b f.after to w (f.nexts to h);
  handlers = λ h has c. led_later flow.limits a b (at_handler shape) h.handler w (f.handlers h has c);
}

module _ (flow : Flow) (old mid new : Known) (pc : ℕ) (shape : Shape) (way : Way) (is : IsWay flow pc shape way) where
  way_flows : Stand flow.limits old way.nexts way.after mid → Stand flow.limits mid way.handlers way.thrown new
      → Flows flow (shape_at new.shapes) pc shape
  way_flows p q = record {
    step = is.step;
    action = is.action;
    after = way.after;
    is = is.is;
    acts = is.acts;
    applies = is.applies;
    nexts = λ to h. led_later flow.limits mid new way.after to q.weakens
        (p.led to (subst (λ (l : List ℕ). Contains l to) (sym is.nexts) h));
    handlers = λ h has c. subst (λ (s : Shape). IsLed (shape_at new.shapes) s h.handler) is.thrown
        (q.led h.handler (subst (λ (l : List ℕ). Contains l h.handler) (sym is.handlers)
        (in_handlers flow.handlers pc h has c)));
  }

  same_flows : (at : ℕ) (s : Shape) → shape_at old.shapes pc ≡ Some shape → shape_at old.shapes at ≡ Some s → pc ≡ at
      → Flows flow (shape_at new.shapes) pc shape → Flows flow (shape_at new.shapes) at s
  same_flows at s here there same f =
      subst (λ (x : Shape). Flows flow (shape_at new.shapes) at x)
      (same_Some shape s (sym here ∙ ap (shape_at old.shapes) same ∙ there))
      (subst (λ (k : ℕ). Flows flow (shape_at new.shapes) k shape) same f)

  -- what was sound stays so
  pub follow_sound : shape_at old.shapes pc ≡ Some shape → IsSound flow old.shapes (old.waiting ++ pc ∷ [])
      → Stand flow.limits old way.nexts way.after mid → Stand flow.limits mid way.handlers way.thrown new
      → IsSound flow new.shapes new.waiting
  follow_sound here sound p q =
      let w = weakens_trans flow.limits old mid new p.weakens q.weakens in
      let f = way_flows p q in
      record {
        entry = led_later flow.limits old new flow.start 0 w sound.entry;
        room = w.room sound.room;
        flows = λ at s e.
            elim (w.kept at s e) [
              | inl waits ↦ inl waits
              | inr was ↦ elim (sound.flows at s was) [
                | inr flows ↦ inr (flows_later flow old new at s w flows)
                | inl waited ↦ elim (Contains-push_cases old.waiting pc at waited) [
                  | inl before ↦ inl (w.waits at before)
                  | inr same ↦ inr (same_flows at s here was same f)
                ]
              ]
            ];
      }

  -- ---- all shapes that meet the rules

  module _ (all : GivenShapes) (w : Shape) (less : IsWeaker w shape) (f : Flows flow all pc w) where
    same_action : f.action ≡ is.action
    same_action =
        let step : f.step ≡ is.step = same_Some f.step is.step (sym f.is ∙ is.is) in
        same_Some f.action is.action (sym f.acts ∙ ap (λ (s : Step). s.action) step ∙ is.acts)

    weaker_after : IsWeaker f.after way.after
    weaker_after =
        applies_weaker flow.limits is.action.effect w shape f.after way.after less
        (subst (λ (a : Action). Applies flow.limits a.effect w f.after) same_action f.applies) is.applies

    nexts_led : (to : ℕ) → Contains way.nexts to → IsLed all way.after to
    nexts_led to h =
        led_weaker all f.after way.after to weaker_after
        (f.nexts to (subst (λ (a : Action). Contains a.nexts to) (sym same_action)
        (subst (λ (l : List ℕ). Contains l to) is.nexts h)))

    thrown_weaker : IsWeaker (at_handler w) (at_handler shape)
    thrown_weaker = record { stack = refl; locals = less.locals }

    handlers_led : (to : ℕ) → Contains way.handlers to → IsLed all way.thrown to
    handlers_led to h =
        let m = from_handlers flow.handlers pc to (subst (λ (l : List ℕ). Contains l to) is.handlers h) in
        subst (λ (s : Shape). IsLed all s to) (sym is.thrown)
        (led_weaker all (at_handler w) (at_handler shape) to thrown_weaker
        (subst (λ (k : ℕ). IsLed all (at_handler w) k) m.3 (f.handlers m.0 m.1 m.2)))

  -- what is led to from a shape that some shapes that meet the rules are below, they are below too
  pub all_nexts : (all : GivenShapes) → MeetsRules flow all → IsLed all shape pc → (to : ℕ) → Contains way.nexts to
      → IsLed all way.after to
  all_nexts all rules led = nexts_led all led.0 led.2 (rules.flows pc led.0 led.1)

  pub all_handlers : (all : GivenShapes) → MeetsRules flow all → IsLed all shape pc → (to : ℕ)
      → Contains way.handlers to → IsLed all way.thrown to
  all_handlers all rules led = handlers_led all led.0 led.2 (rules.flows pc led.0 led.1)

-- where no instruction can take the shape, there are no such shapes
pub no_rules : (flow : Flow) (pc : ℕ) (shape : Shape) (all : GivenShapes) → HasNoWay flow pc shape → MeetsRules flow all
    → IsLed all shape pc → ⊥
no_rules flow pc shape all none rules led =
    let f = rules.flows pc led.0 led.1 in
    let more = applies_more flow.limits f.action.effect led.0 shape f.after led.2 f.applies in
    none f.step f.action more.0 f.is f.acts more.1

-- they have room
pub rules_can : (flow : Flow) (places : List (Option ℕ)) (count : ℕ) (all : GivenShapes) → ArePlaces flow.steps places
    → count ≡ length places → MeetsRules flow all → CanStand flow.limits count all
rules_can flow places count all are long rules pc s e =
    let f = rules.flows pc s e in
    let lt = place_within flow.steps places pc f.step are f.is in
    (omega (arith, lt, long), rules.room pc s e)

-- ---- what a call that leads shapes says

pub if_stands : {E : Type 0} (r : Result Bool E) (P : Type 0) (Q : Type 0) → IfOk r (λ b. IsTrue b → P)
    → (P → Q) → IfOk r (λ b. IsTrue b → Q)
if_stands (Err e) P Q h f = tt
if_stands (Ok b) P Q h f = λ t. f (h t)

pub if_below : {E : Type 0} (r : Result Bool E) (A B P Q R : GivenShapes → Type 0) (new : List (Option Shape))
    → IfOk r (λ b. (all : GivenShapes) → P all → Q all → R all → IsTrue b × AreBelow new all)
    → ((all : GivenShapes) → A all → B all → P all × Q all × R all)
    → IfOk r (λ b. (all : GivenShapes) → A all → B all → IsTrue b × AreBelow new all)
if_below (Err e) A B P Q R new h f = tt
if_below (Ok b) A B P Q R new h f = λ all a c. let p = f all a c in h all p.0 p.1 p.2

-- ---- the start

nothing_at : (n pc : ℕ) (s : Shape) → shape_at (replicate n None) pc ≡ Some s → ⊥
nothing_at zero pc s e = none-some s e
nothing_at (suc n) zero s e = none-some s e
nothing_at (suc n) (suc pc) s e = nothing_at n pc s e

module _ (n : ℕ) (found : List (Option Shape)) (is : found ≡ replicate n None) where
  pub nothing_found : (pc : ℕ) (s : Shape) → shape_at found pc ≡ Some s → ⊥
  nothing_found pc s e = nothing_at n pc s (ap (λ (l : List (Option Shape)). shape_at l pc) (sym is) ∙ e)

  pub nothing_below : (all : GivenShapes) → AreBelow found all
  nothing_below all pc s e = absurd (nothing_found pc s e)

pub start_sound : (flow : Flow) (old new : Known) (n : ℕ) → old.shapes ≡ replicate n None → Weakens flow.limits old new
    → IsLed (shape_at new.shapes) flow.start 0 → IsSound flow new.shapes new.waiting
start_sound flow old new n is w led = record {
  entry = led;
  room = w.room (λ pc s e. absurd (nothing_found n old.shapes is pc s e));
  flows = λ pc s e. elim (w.kept pc s e) [
    | inl waits ↦ inl waits
    | inr was ↦ absurd (nothing_found n old.shapes is pc s was)
  ];
}
