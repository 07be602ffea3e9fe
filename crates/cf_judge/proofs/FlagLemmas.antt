-- The flags of members.
use Rattle.std.proofs.Common.{ℕ, List, [], ◌∷◌, Result, refl, ap, arith, inl}
use Rattle.jv_list.specs.Firsts.{FirstBreaks}
use Rattle.cf_pool.specs.declared.entry.PoolEntry.{PoolEntry}
use Rattle.cf_pool.specs.declared.fault.What.TheVariants as words
use Rattle.cf_structure.specs.declared.fault.ClassFault.{ClassFault}
use Rattle.cf_structure.specs.Raw.{RawMember}
use Rattle.cf_judge.specs.declared.member.MemberKind.{MemberKind}
use Rattle.cf_judge.specs.declared.member.MemberKind.TheVariants as kinds
use Rattle.cf_judge.specs.Demands.{Demand, demand, is_new, has_codes, codes_in, flags_demands}
use Rattle.cf_judge.specs.Words.{rank}
use Rattle.cf_judge.specs.Judged.{IsSecond, BreaksCodeRule}
use Rattle.cf_judge.specs.Calls.Tells.{IsBroken, AreKept, IsFirstBroken, Tells}
use Rattle.cf_judge.proofs.TellsLemmas.{tells_behind}

module _ (pool : List PoolEntry) (earlier : List RawMember) (place : ℕ) (m : RawMember) where
  abbrev new : Demand
  new = demand place (is_new earlier m)

  abbrev code_rule : Demand
  code_rule = demand place (has_codes m.flags (codes_in m.attributes))

  is_duplicate : IsSecond pool earlier m → IsBroken pool new (record { place = place; what = words.Duplicate })
  is_duplicate second = record {
    place_is = refl;
    breaks = (refl, second);
    first = λ what h. omega (arith, ap rank h.0);
  }

  -- a member with the name and the descriptor of an earlier one is the first fault of its flags
  pub second_refused : (kind : MemberKind) → IsSecond pool earlier m
      → IsFirstBroken pool (flags_demands kind earlier place m) (record { place = place; what = words.Duplicate })
  unfolding IsFirstBroken FirstBreaks
  second_refused kinds.Field second = inl (is_duplicate second)
  second_refused kinds.Method second = inl (is_duplicate second)

  pub new_kept : (IsSecond pool earlier m → ⊥) → AreKept pool (new ∷ [])
  unfolding AreKept
  new_kept first = (λ what h. first h.1, tt)

  -- a method that is new is as its Codes are
  pub method_tells : (end : ℕ) (r : Result ℕ ClassFault) → (IsSecond pool earlier m → ⊥)
      → Tells pool (code_rule ∷ []) end r → Tells pool (flags_demands kinds.Method earlier place m) end r
  method_tells end r first h = tells_behind pool (new ∷ []) (code_rule ∷ []) end r (new_kept first) h

-- the rule of a method's Code
module _ (pool : List PoolEntry) (place flags codes : ℕ) where
  pub code_refused : BreaksCodeRule flags codes
      → IsFirstBroken pool (demand place (has_codes flags codes) ∷ []) (record { place = place; what = words.CodeRule })
  unfolding IsFirstBroken FirstBreaks
  code_refused breaks = inl (record {
    place_is = refl;
    breaks = (refl, breaks);
    first = λ what h. omega (arith, ap rank h.0);
  })

  pub code_kept : (BreaksCodeRule flags codes → ⊥) → AreKept pool (demand place (has_codes flags codes) ∷ [])
  unfolding AreKept
  code_kept keeps = (λ what h. keeps h.1, tt)
