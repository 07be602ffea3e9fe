-- Runs of thin code: one step more, at most one end, and no more steps than the code has bytes.
use Rattle.std.proofs.Common.{◌≡◌, ◌-◌, ◌<◌, ◌≤◌, ◌↔◌, ◌⊎◌, inl, inr, ℕ, zero, suc, ℤ, pos, List, [], ◌∷◌, ◌++◌, length}
use Rattle.std.proofs.Common.{Option, Some, None, refl, sym, ap, ◌∙◌, subst, arith}
use Rattle.std.proofs.Common.{if◌then◌else◌}
use Rattle.std.specs.Int.{w32, int_bit_xor}
use Rattle.std.specs.Ordering.{int_eq}
use Rattle.std.proofs.lemmas.Option.{some_pair_parts}
use Rattle.jv_base.specs.declared.method.Kind.{Kind}
use Rattle.jv_base.specs.declared.method.Kind.TheVariants.{Null}
use Rattle.jv_base.specs.declared.value.Value.{Value}
use Rattle.jv_base.specs.declared.value.Value.TheVariants.{Int, Long, Ref}
use Rattle.cf_thin.specs.declared.instr.ThinInstr.{ThinInstr}
use Rattle.cf_thin.specs.declared.instr.ThinInstr.TheVariants.{AconstNull, Iconst, Iload, Istore, Ixor, Ifeq, Ifne}
use Rattle.cf_thin.specs.declared.instr.ThinInstr.TheVariants.{IfIcmpeq, IfIcmpne, Goto, Ireturn, Return, Athrow}
use Rattle.cf_thin.specs.Instr.{Places, instr_at}
use Rattle.cf_thin.specs.Instr.{target_of}
use Rattle.cf_thin.specs.Laws.{GoForward}
use Rattle.jb_run.specs.declared.machine.State.{State}
use Rattle.jb_run.specs.declared.machine.Outcome.{Outcome}
use Rattle.jb_run.specs.declared.machine.Outcome.TheVariants.{Next, Raised, Ended, Stuck}
use Rattle.jb_run.specs.Machine.{int_inside, with_int, with_ints, goes_to, push, load, store, exclusive_or}
use Rattle.jb_run.specs.Machine.{branch_on_zero, branch_on_equal, throw, give, step_of, step_found, step, on_next}
use Rattle.jb_run.specs.Machine.{after, start}
use Rattle.jb_run.specs.Locals.{local_at, with_local}
use Rattle.jb_run.specs.Stack.{top, below}
use Rattle.jb_run.specs.Violates.{RunViolates}
use Rattle.std.proofs.lemmas.Bool.{cond_both}

-- a step by the instruction at the pc
pub step_some : (code : Places) (state : State) (instr : ThinInstr) (next : ℕ)
    → instr_at code state.pc ≡ Some (instr, next) → step code state ≡ step_of instr next state
unfolding step
step_some code state instr next is = ap (λ found. step_found found state) is

pub step_none : (code : Places) (state : State) → instr_at code state.pc ≡ None → step code state ≡ Stuck
unfolding step
step_none code state is = ap (λ found. step_found found state) is

-- the state that comes next
next_is : (a b : State) → Next a ≡ Next b → a ≡ b
next_is a b same = cc

-- what comes next is above a pc, where something comes next
record Rises (pc : ℕ) (outcome : Outcome) : Type 0 where
  rises : (new : State) → outcome ≡ Next new → pc < new.pc

goes_rises : (pc : ℕ) (state : State) → pc < state.pc → Rises pc (Next state)
goes_rises pc state above = record { rises = λ new is. subst (λ (s : State). pc < s.pc) (next_is state new is) above }

raised_rises : (pc : ℕ) (kind : Kind) → Rises pc (Raised kind)
raised_rises pc kind = record { rises = λ new is. absurd cc }

ended_rises : (pc : ℕ) → Rises pc Ended
ended_rises pc = record { rises = λ new is. absurd cc }

stuck_rises : (pc : ℕ) → Rises pc Stuck
stuck_rises pc = record { rises = λ new is. absurd cc }

int_rises : (pc : ℕ) (o : Option ℤ) (go : ℤ → Outcome) → ((n : ℤ) → Rises pc (go n)) → Rises pc (with_int o go)
int_rises pc None go each = stuck_rises pc
int_rises pc (Some n) go each = each n

ints_rises : (pc : ℕ) (o p : Option ℤ) (go : ℤ → ℤ → Outcome) → ((a b : ℤ) → Rises pc (go a b))
    → Rises pc (with_ints o p go)
ints_rises pc None p go each = stuck_rises pc
ints_rises pc (Some a) None go each = stuck_rises pc
ints_rises pc (Some a) (Some b) go each = each a b

throw_rises : (pc : ℕ) (value : Option Value) → Rises pc (throw value)
throw_rises pc None = stuck_rises pc
throw_rises pc (Some (Int n)) = stuck_rises pc
throw_rises pc (Some (Long n)) = stuck_rises pc
throw_rises pc (Some (Ref None)) = raised_rises pc Null
throw_rises pc (Some (Ref (Some n))) = stuck_rises pc

on_zero_rises : (x y : ℕ) (old : State) → old.pc < x → old.pc < y → Rises old.pc (branch_on_zero x y old)
on_zero_rises x y old first second =
    int_rises old.pc (int_inside (top old.stack))
    (λ n. goes_to old (if int_eq n (pos 0) then x else y) (below old.stack))
    (λ n. goes_rises old.pc _ (cond_both (int_eq n (pos 0)) x y (λ (k : ℕ). old.pc < k) (λ e. first) (λ e. second)))

on_equal_rises : (x y : ℕ) (old : State) → old.pc < x → old.pc < y → Rises old.pc (branch_on_equal x y old)
on_equal_rises x y old first second =
    ints_rises old.pc (int_inside (top (below old.stack))) (int_inside (top old.stack))
    (λ a b. goes_to old (if int_eq a b then x else y) (below (below old.stack)))
    (λ a b. goes_rises old.pc _ (cond_both (int_eq a b) x y (λ (k : ℕ). old.pc < k) (λ e. first) (λ e. second)))

load_rises : (index next : ℕ) (old : State) → old.pc < next → Rises old.pc (load index next old)
load_rises index next old falls =
    int_rises old.pc (int_inside (local_at old.locals index)) (λ n. push (Int n) next old)
    (λ n. goes_rises old.pc _ falls)

store_rises : (index next : ℕ) (old : State) → old.pc < next → Rises old.pc (store index next old)
store_rises index next old falls =
    int_rises old.pc (int_inside (top old.stack))
    (λ n. Next (record { pc = next; locals = with_local old.locals index (Int n); stack = below old.stack }))
    (λ n. goes_rises old.pc _ falls)

xor_rises : (next : ℕ) (old : State) → old.pc < next → Rises old.pc (exclusive_or next old)
xor_rises next old falls =
    ints_rises old.pc (int_inside (top (below old.stack))) (int_inside (top old.stack))
    (λ a b. goes_to old next (below (below old.stack) ++ Int (int_bit_xor w32 a b) ∷ []))
    (λ a b. goes_rises old.pc _ falls)

give_rises : (old : State) → Rises old.pc (give old)
give_rises old = int_rises old.pc (int_inside (top old.stack)) (λ n. Ended) (λ n. ended_rises old.pc)

step_of_rises : (instr : ThinInstr) (next : ℕ) (old : State) → old.pc < next
    → ((target : ℕ) → target_of instr ≡ Some target → old.pc < target) → Rises old.pc (step_of instr next old)
step_of_rises AconstNull next old falls jumps = goes_rises old.pc _ falls
step_of_rises (Iconst n) next old falls jumps = goes_rises old.pc _ falls
step_of_rises (Iload index) next old falls jumps = load_rises index next old falls
step_of_rises (Istore index) next old falls jumps = store_rises index next old falls
step_of_rises Ixor next old falls jumps = xor_rises next old falls
step_of_rises (Ifeq target) next old falls jumps = on_zero_rises target next old (jumps target refl) falls
step_of_rises (Ifne target) next old falls jumps = on_zero_rises next target old falls (jumps target refl)
step_of_rises (IfIcmpeq target) next old falls jumps = on_equal_rises target next old (jumps target refl) falls
step_of_rises (IfIcmpne target) next old falls jumps = on_equal_rises next target old falls (jumps target refl)
step_of_rises (Goto target) next old falls jumps = goes_rises old.pc _ (jumps target refl)
step_of_rises Ireturn next old falls jumps = give_rises old
step_of_rises Return next old falls jumps = ended_rises old.pc
step_of_rises Athrow next old falls jumps = throw_rises old.pc (top old.stack)

-- a step that goes on begins in the code, and the pc rises
pub step_rises : GoForward → (code : Places) (old new : State) → step code old ≡ Next new
    → (old.pc < length code) × (old.pc < new.pc)
step_rises forward code old new is =
    elim (instr_at code old.pc) as (λ o. instr_at code old.pc ≡ o → (old.pc < length code) × (old.pc < new.pc)) [
      | None ↦ λ none. let stuck = step_none code old none in absurd cc
      | Some found ↦ λ some.
          let goes = forward code old.pc found.0 found.1 some in (
            omega (arith, goes.ends, goes.within),
            (step_of_rises found.0 found.1 old goes.ends goes.jumps).rises new
                (sym (step_some code old found.0 found.1 some) ∙ is),
          )
    ] refl

-- the first of some steps
pub after_first : (code : Places) (n : ℕ) (from to : State) → after code (suc n) from ≡ Some to
    → (next : State) × (step code from ≡ Next next) × (after code n next ≡ Some to)
unfolding after
after_first code n from to is =
    elim (step code from) as (λ o. step code from ≡ o → on_next o (after code n) ≡ Some to
    → (next : State) × (step code from ≡ Next next) × (after code n next ≡ Some to)) [
      | Next next ↦ λ goes is. (next, goes, is)
      | Raised kind ↦ λ goes is. absurd cc
      | Ended ↦ λ goes is. absurd cc
      | Stuck ↦ λ goes is. absurd cc
    ] refl is

pub after_none : (code : Places) (state : State) → after code 0 state ≡ Some state
unfolding after
after_none code state = refl

pub after_suc : (code : Places) (n : ℕ) (from next : State) → step code from ≡ Next next
    → after code (suc n) from ≡ after code n next
unfolding after
after_suc code n from next is = ap (λ o. on_next o (after code n)) is

-- one step more
pub after_more : (code : Places) (n : ℕ) (from to next : State) → after code n from ≡ Some to → step code to ≡ Next next
    → after code (suc n) from ≡ Some next
after_more code zero from to next is goes =
    let same : from ≡ to = (let e = after_none code from in cc) in
    after_suc code 0 from next (ap (step code) same ∙ goes) ∙ after_none code next
after_more code (suc n) from to next is goes =
    let first = after_first code n from to is in
    after_suc code (suc n) from first.0 first.1 ∙ after_more code n first.0 to next first.2 goes

-- no step follows a state
pub record Stops (code : Places) (state : State) : Type 0 where
  pub stops : (next : State) → step code state ≡ Next next → ⊥

-- a run stops at one state alone
pub stops_once : (code : Places) (n m : ℕ) (from a b : State) → after code n from ≡ Some a → Stops code a
    → after code m from ≡ Some b → Stops code b → a ≡ b
stops_once code zero zero from a b first ends second ends_too = let e = after_none code from in cc
stops_once code zero (suc m) from a b first ends second ends_too =
    let e : from ≡ a = (let e = after_none code from in cc) in
    let goes = after_first code m from b second in
    absurd (ends.stops goes.0 (ap (step code) (sym e) ∙ goes.1))
stops_once code (suc n) zero from a b first ends second ends_too =
    let e : from ≡ b = (let e = after_none code from in cc) in
    let goes = after_first code n from a first in
    absurd (ends_too.stops goes.0 (ap (step code) (sym e) ∙ goes.1))
stops_once code (suc n) (suc m) from a b first ends second ends_too =
    let one = after_first code n from a first in
    let other = after_first code m from b second in
    let same : one.0 ≡ other.0 = next_is one.0 other.0 (sym one.1 ∙ other.1) in
    stops_once code n m one.0 a b one.2 ends (ap (after code m) same ∙ other.2) ends_too

-- a run of thin code has no more steps than there are bytes from its pc on
pub steps_left : GoForward → (code : Places) (n : ℕ) (from to : State) → after code n from ≡ Some to
    → n ≤ length code - from.pc
steps_left forward code zero from to is = omega arith
steps_left forward code (suc n) from to is =
    let first = after_first code n from to is in
    let rises = step_rises forward code from first.0 first.1 in
    let rest = steps_left forward code n first.0 to first.2 in
    omega (arith, rises.0, rises.1, rest)

-- a run of thin code ends, after no more steps than the code has bytes
pub run_ends : GoForward → (code : Places) (ints : List ℤ) (n : ℕ) (to : State) → after code n (start ints) ≡ Some to
    → n ≤ length code
run_ends forward code ints n to is = omega (arith, steps_left forward code n (start ints) to is)

some_pc : (pc pc' : ℕ) (kind kind' : Kind) → ◌≡◌ {A = Option (ℕ × Kind)} (Some (pc, kind)) (Some (pc', kind'))
    → pc ≡ pc'
some_pc pc pc' kind kind' same = (some_pair_parts pc pc' kind kind' same).0

some_kind : (pc pc' : ℕ) (kind kind' : Kind) → ◌≡◌ {A = Option (ℕ × Kind)} (Some (pc, kind)) (Some (pc', kind'))
    → kind ≡ kind'
some_kind pc pc' kind kind' same = (some_pair_parts pc pc' kind kind' same).1

raised_kind : (a b : Kind) → Raised a ≡ Raised b → a ≡ b
raised_kind a b same = cc

-- what a run violates that comes to an instruction that raises
pub raised_is : (code : Places) (ints : List ℤ) (n : ℕ) (state : State) (kind : Kind)
    → after code n (start ints) ≡ Some state → step code state ≡ Raised kind → (pc : ℕ) (kind' : Kind)
    → (◌≡◌ {A = Option (ℕ × Kind)} (Some (state.pc, kind)) (Some (pc, kind'))) ↔ RunViolates code ints pc kind'
raised_is code ints n state kind at raises pc kind' = (
  λ same. record {
    steps = n;
    state = state;
    reached = at;
    place = some_pc state.pc pc kind kind' same;
    raised = raises ∙ ap (λ k. Raised k) (some_kind state.pc pc kind kind' same);
  },
  λ violates.
      let same : state ≡ violates.state =
      stops_once code n violates.steps
      (start ints) state violates.state at (record { stops = λ next goes. absurd cc }) violates.reached
      (record { stops = λ next goes. (let r = violates.raised in absurd cc) }) in
      let kinds : kind ≡ kind' = raised_kind kind kind' (sym raises ∙ ap (step code) same ∙ violates.raised) in
      ap (λ p. Some (p, kind)) (ap (λ (s : State). s.pc) same ∙ violates.place) ∙ ap (λ k. Some (pc, k)) kinds,
)

-- a step that ends the run, or is stuck, is none that goes on or raises
pub ended_stops : (code : Places) (state : State) (o : Outcome) → o ≡ step code state → (o ≡ Ended) ⊎ (o ≡ Stuck)
    → Stops code state
ended_stops code state o is (inl ended) = record { stops = λ next goes. absurd cc }
ended_stops code state o is (inr stuck) = record { stops = λ next goes. absurd cc }

pub ended_quiet : (code : Places) (state : State) (o : Outcome) → o ≡ step code state → (o ≡ Ended) ⊎ (o ≡ Stuck)
    → (kind : Kind) → step code state ≡ Raised kind → ⊥
ended_quiet code state o is (inl ended) kind raises = cc
ended_quiet code state o is (inr stuck) kind raises = cc

-- a run that ends without a fault violates nothing
pub ended_is : (code : Places) (ints : List ℤ) (n : ℕ) (state : State) → after code n (start ints) ≡ Some state
    → Stops code state → ((kind : Kind) → step code state ≡ Raised kind → ⊥) → (pc : ℕ) (kind : Kind)
    → (◌≡◌ {A = Option (ℕ × Kind)} None (Some (pc, kind))) ↔ RunViolates code ints pc kind
ended_is code ints n state at ends quiet pc kind = (
  λ same. absurd cc,
  λ violates.
      let same : state ≡ violates.state =
      stops_once code n violates.steps (start ints) state violates.state at ends violates.reached
      (record { stops = λ next goes. (let r = violates.raised in absurd cc) }) in
      absurd (quiet kind (ap (step code) same ∙ violates.raised)),
)
