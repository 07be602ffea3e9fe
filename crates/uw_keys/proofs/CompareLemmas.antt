-- Two keys compared, interval by interval.
use Rattle.std.proofs.Common.{◌≡◌, ℕ, zero, suc, ◌+◌, ◌≤◌, ◌<◌, List, [], ◌∷◌, length, drop, get_or, nat_cmp}
use Rattle.std.proofs.Common.{refl, sym, ap, ◌∙◌, arith}
use Rattle.std.specs.Cmp.Lexicographic.{slice_cmp}
use Rattle.std.specs.Ordering.{ordering_then}
use Rattle.std.specs.declared.cmp.Ordering.{Ordering}
use Rattle.std.specs.declared.cmp.Ordering.TheVariants.{Less, Equal, Greater}
use Rattle.std.proofs.lemmas.List.{drop_more}
use Rattle.uw_keys.specs.declared.interval.Interval.{Interval}
use Rattle.uw_keys.specs.Keys.{AreWithin}
use Rattle.uw_keys.specs.Order.{phase, ranks}

-- a counter is not above its limit
within_at : (limit : ℕ → ℕ) (place : ℕ) (is : List Interval) (cs : List ℕ) (d : Interval) → AreWithin limit is cs
    → place < length is → length cs ≡ length is → get_or cs place 0 ≤ limit (get_or is place d).target
within_at limit place [] cs d h lt n = absurd (omega arith)
within_at limit place (i ∷ is) [] d h lt n = absurd (omega arith)
within_at limit zero (i ∷ is) (c ∷ cs) d h lt n = h.0
within_at limit (suc place) (i ∷ is) (c ∷ cs) d h lt n = within_at limit place is cs d h.1 (omega arith) (omega arith)

-- an order that is not equal decides
decided : (o rest : Ordering) → (o ≡ Equal → ⊥) → o ≡ ordering_then o rest
decided Less rest differ = refl
decided Equal rest differ = absurd (differ refl)
decided Greater rest differ = refl

module _ (is : List Interval) (p q : ℕ) (cs ds : List ℕ) where
  -- the order from a place on
  abbrev pub order_from : (ℕ → ℕ) → ℕ → Ordering
  order_from limit place =
      slice_cmp nat_cmp (ranks limit (drop place is) p (drop place cs)) (ranks limit (drop place is) q (drop place ds))

  -- up to a place the keys are at the same phases
  abbrev pub AreEqualTo : ℕ → Type 0
  AreEqualTo place = (limit : ℕ → ℕ) → AreWithin limit is cs → AreWithin limit is ds
      → order_from limit place ≡ order_from limit 0

  module _ (place : ℕ) (d : Interval) (lt : place < length is) (first : length cs ≡ length is)
      (second : length ds ≡ length is) where
    -- the phases at the place, and then the order behind it
    pub order_step : (limit : ℕ → ℕ) → order_from limit place
        ≡ ordering_then
        (nat_cmp (phase (limit (get_or is place d).target) (get_or is place d) p (get_or cs place 0))
        (phase (limit (get_or is place d).target) (get_or is place d) q (get_or ds place 0)))
        (order_from limit (place + 1))
    order_step limit =
        let i-drop : drop place is ≡ get_or is place d ∷ drop (place + 1) is = drop_more is place d lt in
        let c-drop : drop place cs ≡ get_or cs place 0 ∷ drop (place + 1) cs = drop_more cs place 0 (omega arith) in
        let d-drop : drop place ds ≡ get_or ds place 0 ∷ drop (place + 1) ds = drop_more ds place 0 (omega arith) in
        ap (λ (js : List Interval). slice_cmp nat_cmp (ranks limit js p (drop place cs))
        (ranks limit js q (drop place ds)))
        i-drop
        ∙ ap (λ (xs : List ℕ). slice_cmp nat_cmp (ranks limit (get_or is place d ∷ drop (place + 1) is) p xs)
        (ranks limit (get_or is place d ∷ drop (place + 1) is) q (drop place ds))) c-drop
        ∙ ap (λ (ys : List ℕ). slice_cmp nat_cmp
        (ranks limit (get_or is place d ∷ drop (place + 1) is) p (get_or cs place 0 ∷ drop (place + 1) cs))
        (ranks limit (get_or is place d ∷ drop (place + 1) is) q ys)) d-drop

    -- a comparison of the two phases, whatever the limits are
    abbrev pub IsPhaseOrder : Ordering → Type 0
    IsPhaseOrder order = (limit : ℕ) → get_or cs place 0 ≤ limit → get_or ds place 0 ≤ limit → order
        ≡ nat_cmp (phase limit (get_or is place d) p (get_or cs place 0))
        (phase limit (get_or is place d) q (get_or ds place 0))

    order_here : AreEqualTo place → (order : Ordering) → IsPhaseOrder order → (limit : ℕ → ℕ) → AreWithin limit is cs
        → AreWithin limit is ds → ordering_then order (order_from limit (place + 1)) ≡ order_from limit 0
    order_here so order is-order limit within-c within-d =
        let c-fits = within_at limit place is cs d within-c lt first in
        let d-fits = within_at limit place is ds d within-d lt second in
        ap (λ (o : Ordering). ordering_then o (order_from limit (place + 1)))
        (is-order (limit (get_or is place d).target) c-fits d-fits)
        ∙ sym (order_step limit) ∙ so limit within-c within-d

    -- phases that differ decide
    pub order_decided : AreEqualTo place → (order : Ordering) → IsPhaseOrder order → (order ≡ Equal → ⊥)
        → (limit : ℕ → ℕ) → AreWithin limit is cs → AreWithin limit is ds → order ≡ order_from limit 0
    order_decided so order is-order differ limit within-c within-d =
        decided order (order_from limit (place + 1)) differ ∙ order_here so order is-order limit within-c within-d

    -- phases that are the same leave it to what is behind
    pub order_left : AreEqualTo place → (order : Ordering) → IsPhaseOrder order → order ≡ Equal → AreEqualTo (place + 1)
    order_left so order is-order same limit within-c within-d =
        ap (λ (o : Ordering). ordering_then o (order_from limit (place + 1))) (sym same)
        ∙ order_here so order is-order limit within-c within-d
