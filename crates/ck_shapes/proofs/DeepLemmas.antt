-- Stacks whose deep part is in runs: what is found on top of them is found on top of the part above the runs.
use Rattle.std.proofs.Common.{◌≡◌, ℕ, ◌+◌, ◌≤◌, List, [], ◌∷◌, ◌++◌, length, drop, refl, sym, ap, ◌∙◌, arith}
use Rattle.std.proofs.Common.{append_assoc, inl, inr, ◌⊎◌}
use Rattle.std.proofs.lemmas.List.{length-append, drop-append-le}
use Rattle.jv_list.proofs.PieceLemmas.{drop_front}
use Rattle.ck_shapes.specs.declared.shape.ValueType.{ValueType}
use Rattle.ck_shapes.specs.declared.effect.Move.{Move}
use Rattle.ck_shapes.specs.Shape.{words, kept, IsCut, IsMoved, IsReplaced}
use Rattle.ck_shapes.specs.Calls.Runs.{joined}
use Rattle.ck_shapes.proofs.RunLemmas.{joined_push}
use Rattle.ck_shapes.proofs.StackLemmas.{words_long, words_append}

-- what ends a whole ends the part above its runs, where this is as long, or where there are no runs
below_end : (deep top rest end : List ValueType) → deep ++ top ≡ rest ++ end → length end ≤ length top
    → top ≡ drop (length deep) rest ++ end
below_end deep top rest end e le =
    let long : length deep ≤ length rest = omega (arith, ap length e, length-append deep top, length-append rest end) in
    sym (drop_front deep top) ∙ ap (λ (l : List ValueType). drop (length deep) l) e
    ∙ drop-append-le (length deep) rest end long

abbrev pub IsOpen : ℕ → List (List ValueType) → List ValueType → Type 0
IsOpen count runs top = (count ≤ length top) ⊎ (runs ≡ [])

above_end : (runs : List (List ValueType)) (top rest end : List ValueType) (count : ℕ) → IsOpen count runs top
    → length end ≤ count → joined runs ++ top ≡ rest ++ end → (front : List ValueType) × (top ≡ front ++ end)
above_end runs top rest end count (inl le) within e =
    (drop (length (joined runs)) rest, below_end (joined runs) top rest end e (omega (arith, le, within)))
above_end runs top rest end count (inr none) within e =
    let nothing : joined runs ≡ [] = ap joined none in
    (rest, sym (ap (λ (l : List ValueType). l ++ top) nothing) ∙ e)

five_parts : (d r a u b : List ValueType) → d ++ (r ++ a ++ u ++ b) ≡ d ++ r ++ a ++ u ++ b
five_parts d r a u b =
    sym (append_assoc d (r ++ a ++ u) b)
    ∙ ap (λ (l : List ValueType). l ++ b)
    (sym (append_assoc d (r ++ a) u) ∙ ap (λ (l : List ValueType). l ++ u) (sym (append_assoc d r a)))

module _ (runs : List (List ValueType)) (top whole : List ValueType) (same : joined runs ++ top ≡ whole) where
  -- ---- values are replaced

  module _ (takes leaves : List ValueType) where
    pub replaced_whole : (new stack : List ValueType) → IsReplaced takes leaves top new → stack ≡ joined runs ++ new
        → IsReplaced takes leaves whole stack
    replaced_whole new stack r is = record {
      rest = joined runs ++ r.rest;
      old_is = sym same ∙ ap (λ (l : List ValueType). joined runs ++ l) r.old_is
          ∙ sym (append_assoc (joined runs) r.rest takes);
      new_is = is ∙ ap (λ (l : List ValueType). joined runs ++ l) r.new_is
          ∙ sym (append_assoc (joined runs) r.rest leaves);
    }

    pub replaced_none : IsOpen (length takes) runs top → ((new : List ValueType) → IsReplaced takes leaves top new → ⊥)
        → (new : List ValueType) → IsReplaced takes leaves whole new → ⊥
    replaced_none above none new r =
        let f = above_end runs top r.rest takes (length takes) above (omega arith) (same ∙ r.old_is) in
        none (f.0 ++ leaves) (record { rest = f.0; old_is = f.1; new_is = refl })

  -- ---- values are moved

  module _ (how : Move) where
    pub moved_whole : (new stack : List ValueType) → IsMoved how top new → stack ≡ joined runs ++ new
        → IsMoved how whole stack
    moved_whole new stack m is = record {
      lower = joined runs ++ m.lower;
      top = m.top;
      rest = joined runs ++ m.rest;
      under = m.under;
      above = record {
        parts = sym same ∙ ap (λ (l : List ValueType). joined runs ++ l) m.above.parts
            ∙ sym (append_assoc (joined runs) m.lower m.top);
        counted = m.above.counted;
      };
      below = record {
        parts = ap (λ (l : List ValueType). joined runs ++ l) m.below.parts
            ∙ sym (append_assoc (joined runs) m.rest m.under);
        counted = m.below.counted;
      };
      new_is = is ∙ ap (λ (l : List ValueType). joined runs ++ l) m.new_is
          ∙ five_parts (joined runs) m.rest (kept how.puts_below m.top) m.under (kept how.puts_above m.top);
    }

    pub moved_none : (count : ℕ) → count ≡ how.top + how.under → IsOpen count runs top
        → ((new : List ValueType) → IsMoved how top new → ⊥) → (new : List ValueType) → IsMoved how whole new → ⊥
    moved_none count is above none new m =
        let end : List ValueType = m.under ++ m.top in
        let long : length end ≤ count = omega (
          arith,
          is,
          words_long end,
          words_append m.under m.top,
          m.above.counted,
          m.below.counted,
        ) in
        let parts : joined runs ++ top ≡ m.rest ++ end =
        same ∙ m.above.parts ∙ ap (λ (l : List ValueType). l ++ m.top) m.below.parts
        ∙ append_assoc m.rest m.under m.top in
        let f = above_end runs top m.rest end count above long parts in
        none (f.0 ++ kept how.puts_below m.top ++ m.under ++ kept how.puts_above m.top) (record {
          lower = f.0 ++ m.under;
          top = m.top;
          rest = f.0;
          under = m.under;
          above = record { parts = f.1 ∙ sym (append_assoc f.0 m.under m.top); counted = m.above.counted };
          below = record { parts = refl; counted = m.below.counted };
          new_is = refl;
        })

-- ---- runs

-- a run more is above the others
pub opened_more : (all : List ValueType) (lower below : List (List ValueType)) (run upper more : List ValueType)
    → lower ≡ below ++ run ∷ [] → more ≡ run ++ upper → joined lower ++ upper ≡ all → joined below ++ more ≡ all
opened_more all lower below run upper more parts is whole =
    ap (λ (l : List ValueType). joined below ++ l) is ∙ sym (append_assoc (joined below) run upper)
    ∙ ap (λ (l : List ValueType). l ++ upper) (sym (ap joined parts ∙ joined_push below run)) ∙ whole

-- the lowest above the runs become one
pub packed_same : (deep new : List (List ValueType)) (top lower upper : List ValueType) → new ≡ deep ++ lower ∷ []
    → top ≡ lower ++ upper → joined new ++ upper ≡ joined deep ++ top
packed_same deep new top lower upper put is =
    ap (λ (rs : List (List ValueType)). joined rs ++ upper) put
    ∙ ap (λ (l : List ValueType). l ++ upper) (joined_push deep lower) ∙ append_assoc (joined deep) lower upper
    ∙ ap (λ (l : List ValueType). joined deep ++ l) (sym is)
