-- Who has an item, as the map of the log has it.
use Rattle.std.proofs.Common.{◌≡◌, ℕ, Bool, true, false, cond, List, [], ◌∷◌, ◌++◌, Option, Some, length, refl, sym}
use Rattle.std.proofs.Common.{ap, ◌∙◌}
use Rattle.std.specs.Map.{update, lookup, lookup_key}
use Rattle.std.proofs.lemmas.Option.{none-some, same_Some}
use Rattle.bd_core.specs.declared.item.Item.{Item}
use Rattle.bd_core.specs.declared.item.Event.{Event}
use Rattle.bd_core.specs.Runs.{held_after, holder}
use Rattle.bd_core.proofs.RunLemmas.{same, same_items, items_refl, holder_after}

-- an update of the map is what an event more makes of who has an item
pub held_next : (old new : Item → Option ℕ) (events : List Event) (event : Event) (x y : Item) (o : Option ℕ)
    → ((i : Item) → old i ≡ holder events i) → ((i : Item) → new i ≡ update same old x o i) → x ≡ y
    → ((i : Item) → held_after (holder events) event i ≡ update same (holder events) y o i)
    → (i : Item) → new i ≡ holder (events ++ event ∷ []) i
held_next old new events event x y o is updates at by i =
    updates i
    ∙ ap (λ (z : Item). cond (same z i) o (old i)) at
    ∙ ap (λ (h : Option ℕ). cond (same y i) o h) (is i)
    ∙ sym (by i) ∙ sym (holder_after events event i)

-- a map that is not empty has an item
pub one_held : (entries : List (Item × ℕ)) → (length entries ≡ 0 → ⊥)
    → (x : Item) × (worker : ℕ) × (lookup (same x) entries ≡ Some worker)
one_held [] none = absurd (none refl)
one_held (e ∷ entries) none =
    (e.0, e.1, ap (λ (t : Bool). cond t (Some e.1) (lookup (same e.0) entries)) (items_refl e.0))

-- the key that is found for an item is that item
pub found_key : (x : Item) (entries : List (Item × ℕ)) (key : Item) → lookup_key (same x) entries ≡ Some key → key ≡ x
found_key x [] key e = absurd (none-some key e)
found_key x (f ∷ entries) key e = by (same x f.0) refl (λ h. found_key x entries key h)
  where
    by : (t : Bool) → same x f.0 ≡ t → (lookup_key (same x) entries ≡ Some key → key ≡ x) → key ≡ x
    by true is later =
        sym (same_Some f.0 key
        (sym (ap (λ (t : Bool). cond t (Some f.0) (lookup_key (same x) entries)) is) ∙ e))
        ∙ sym (same_items x f.0 is)
    by false is later =
        later (sym (ap (λ (t : Bool). cond t (Some f.0) (lookup_key (same x) entries)) is) ∙ e)
