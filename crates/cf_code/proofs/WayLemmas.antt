-- The pairs that come of instructions are those of which the second can follow the first.
use Rattle.std.proofs.Common.{◌≡◌, ◌⊎◌, ℕ, true, List, Some, None, map, Contains, IsPermutation, inl, inr}
use Rattle.std.proofs.Common.{sym, ◌∙◌, subst, eqb-true}
use Rattle.std.specs.Prelude.{◌==◌}
use Rattle.std.specs.Option.{option_to_list}
use Rattle.std.specs.List.{flat_map, list_any}
use Rattle.std.proofs.lemmas.Bool.{cases_Bool, cond-false}
use Rattle.std.proofs.lemmas.Cmp.{nat_eq_equiv}
use Rattle.std.proofs.lemmas.Map.Views.{Contains-from_any, list_any-from_Contains}
use Rattle.std.proofs.lemmas.List.Elements.{Contains-append_left, Contains-append_right, Contains-append_cases}
use Rattle.std.proofs.lemmas.List.Sorted.{Contains-permutation, IsPermutation-sym}
use Rattle.cf_code.specs.declared.code.Placed.{Placed}
use Rattle.cf_code.specs.declared.transfer.Row.{Row}
use Rattle.cf_code.specs.Decoding.{pcs}
use Rattle.cf_code.specs.Targets.{targets, goes_on}
use Rattle.cf_code.specs.Transfers.{next_pc, CanFollow}
use Rattle.cf_code.specs.Steps.Ways.{found_start, next_ways, target_ways, ways, IsHandled}
use Rattle.jv_list.proofs.MemberLemmas.{in_flat_map, from_flat_map, in_map, from_map, in_list_test}
use Rattle.jv_list.proofs.TestLemmas.{pair_parts}
use Rattle.jv_list.proofs.MemberLemmas.{from_list_test, in_option_test, from_option_test}

-- a pc that is none of these
pub start_missing : (starts : List ℕ) (pc : ℕ) → (Contains starts pc → ⊥) → found_start starts pc ≡ None
start_missing starts pc none =
    elim (cases_Bool (list_any (λ start. pc == start) starts)) [
      | inl found ↦ absurd (none (Contains-from_any eqb-true pc starts found))
      | inr no_start ↦ cond-false (list_any (λ start. pc == start) starts) (Some pc) None no_start
    ]

-- the pair with the next instruction
next_to : (starts : List ℕ) (placed : Placed) (a b : ℕ) → Contains (next_ways starts placed) (a, b)
    → (placed.pc ≡ a) × (goes_on placed.instr ≡ true) × (b ≡ next_pc placed) × Contains starts b
next_to starts placed a b h =
    let found = option_to_list (found_start starts (next_pc placed)) in
    let on = from_list_test (goes_on placed.instr) (map (λ (next : ℕ). (placed.pc, next)) found) (a, b) h in
    let m = from_map (λ (next : ℕ). (placed.pc, next)) found (a, b) on.1 in
    let is = from_option_test (list_any (λ start. next_pc placed == start) starts) (next_pc placed) m.0 m.1 in
    let same : b ≡ next_pc placed = sym (pair_parts placed.pc a m.0 b m.2).1 ∙ sym is.1 in (
      (pair_parts placed.pc a m.0 b m.2).0,
      on.0,
      same,
      subst (λ (n : ℕ). Contains starts n) (sym same)
          (Contains-from_any eqb-true (next_pc placed) starts is.0),
    )

next_from : (starts : List ℕ) (placed : Placed) → goes_on placed.instr ≡ true → Contains starts (next_pc placed)
    → Contains (next_ways starts placed) (placed.pc, next_pc placed)
next_from starts placed on is =
    let found = option_to_list (found_start starts (next_pc placed)) in
    in_list_test (goes_on placed.instr) (map (λ (next : ℕ). (placed.pc, next)) found) (placed.pc, next_pc placed) on
    (in_map (λ (next : ℕ). (placed.pc, next)) found (next_pc placed)
    (in_option_test (list_any (λ start. next_pc placed == start) starts) (next_pc placed)
    (list_any-from_Contains nat_eq_equiv (next_pc placed) starts is)))

-- the pair with a target
target_to : (placed : Placed) (a b : ℕ) → Contains (target_ways placed) (a, b)
    → (placed.pc ≡ a) × Contains (targets placed.instr) b
target_to placed a b h =
    let m = from_map (λ (target : ℕ). (placed.pc, target)) (targets placed.instr) (a, b) h in (
      (pair_parts placed.pc a m.0 b m.2).0,
      subst (λ (n : ℕ). Contains (targets placed.instr) n)
          (pair_parts placed.pc a m.0 b m.2).1 m.1,
    )

-- a pair that comes of an instruction by itself, or with a handler
abbrev pub IsWay : List Placed → List Row → List ℕ → ℕ → ℕ → Type 0
IsWay code rows starts a b = Contains (flat_map (ways starts) code) (a, b) ⊎ IsHandled starts rows a b

-- each pair is one of which the second can follow the first
pub ways_follow : (code : List Placed) (rows : List Row) (starts : List ℕ) (a b : ℕ) → IsPermutation (pcs code) starts
    → IsWay code rows starts a b → CanFollow code rows a b
ways_follow code rows starts a b same (inl alone) =
    let m = from_flat_map (ways starts) code (a, b) alone in
    elim (Contains-append_cases (next_ways starts m.0) (target_ways m.0) (a, b) m.2) [
      | inl next ↦
          let n = next_to starts m.0 a b next in
          let back = IsPermutation-sym (pcs code) starts same in
          record {
            placed = m.0;
            is_placed = m.1;
            pc = n.0;
            way = inl (n.1, n.2, Contains-permutation starts (pcs code) b back n.3);
          }
      | inr target ↦
          let t = target_to m.0 a b target in
          record { placed = m.0; is_placed = m.1; pc = t.0; way = inr (inl t.1) }
    ]
ways_follow code rows starts a b same (inr handled) =
    let is_pc = Contains-permutation starts (pcs code) a (IsPermutation-sym (pcs code) starts same) handled.0 in
    let m = from_map (λ (placed : Placed). placed.pc) code a is_pc in
    record { placed = m.0; is_placed = m.1; pc = m.2; way = inr (inr handled.1) }

-- the pairs of an instruction by itself
alone_is : (code : List Placed) (starts : List ℕ) (placed : Placed) (a b : ℕ) → Contains code placed → placed.pc ≡ a
    → Contains (ways starts placed) (placed.pc, b) → Contains (flat_map (ways starts) code) (a, b)
alone_is code starts placed a b is pc h =
    subst (λ (n : ℕ). Contains (flat_map (ways starts) code) (n, b)) pc
    (in_flat_map (ways starts) code placed (placed.pc, b) is h)

-- and each such pair is one of them
pub follow_is_way : (code : List Placed) (rows : List Row) (starts : List ℕ) (a b : ℕ) → IsPermutation (pcs code) starts
    → CanFollow code rows a b → IsWay code rows starts a b
follow_is_way code rows starts a b same c =
    elim c.way [
      | inl next ↦
          let is = subst (λ (n : ℕ). Contains starts n) next.1 (Contains-permutation (pcs code) starts b same next.2) in
          inl (alone_is code starts c.placed a b c.is_placed c.pc
          (Contains-append_left (next_ways starts c.placed) (target_ways c.placed) (c.placed.pc, b)
          (subst (λ (n : ℕ). Contains (next_ways starts c.placed) (c.placed.pc, n)) (sym next.1)
          (next_from starts c.placed next.0 is))))
      | inr others ↦ elim others [
        | inl target ↦
            inl (alone_is code starts c.placed a b c.is_placed c.pc
            (Contains-append_right (next_ways starts c.placed) (target_ways c.placed) (c.placed.pc, b)
            (in_map (λ (t : ℕ). (c.placed.pc, t)) (targets c.placed.instr) b target)))
        | inr handler ↦
            let is_pc = subst (λ (n : ℕ). Contains (pcs code) n) c.pc
            (in_map (λ (placed : Placed). placed.pc) code c.placed c.is_placed) in
            inr (Contains-permutation (pcs code) starts a same is_pc, handler)
      ]
    ]
