-- Locals that are merged, one after the other.
use Rattle.std.proofs.Common.{◌≡◌, ◌<◌, ◌≤◌, ◌+◌, ℕ, zero, suc, List, [], ◌∷◌, ◌++◌, length, get_or, Option, Some, None}
use Rattle.std.proofs.Common.{refl, sym, ap, ◌∙◌, subst, arith, below_more}
use Rattle.std.specs.Prelude.{slice_get, min}
use Rattle.std.proofs.lemmas.List.{length_push}
use Rattle.std.proofs.lemmas.Option.{slice_get-get_or, slice_get_within}
use Rattle.jb_run.specs.declared.formula.Formula.{Formula}
use Rattle.jb_run.specs.declared.gates.Bit.{Bit}
use Rattle.jb_run.specs.declared.int_bits.IntBits.{IntBits}
use Rattle.jb_run.specs.Clauses.{clauses_of}
use Rattle.jb_run.specs.Satisfies.{IsBitBelow, AreClausesBelow}
use Rattle.jb_run.specs.Gate.{Extends}
use Rattle.jb_run.specs.Locals.{held, local_at}
use Rattle.jb_run.specs.Encoder.{IsMergedInt, IsMergedLocal, IsLocalBelow, MergeLocal, AreLocalsBelow, MergeLocals}
use Rattle.jb_run.proofs.DefinitionLemmas.{bit_below_more, extends_refl, extends_then}
use Rattle.jb_run.proofs.GrowthLemmas.{word_later}

-- a local before the end, after one more is added
local_before : {A : Type 0} → (locals : List (Option A)) (last : Option A) (k : ℕ) → k < length locals
    → local_at (locals ++ last ∷ []) k ≡ local_at locals k
local_before [] last k inside = absurd (omega (arith, inside))
local_before (local ∷ locals) last zero inside = refl
local_before (local ∷ locals) last (suc k) inside = local_before locals last k (omega (arith, inside))

-- the local that was added
local_last : {A : Type 0} → (locals : List (Option A)) (last : Option A)
    → local_at (locals ++ last ∷ []) (length locals) ≡ last
local_last [] last = refl
local_last (local ∷ locals) last = local_last locals last

-- a local that holds something is not past the end
local_within : {A : Type 0} → (locals : List (Option A)) (k : ℕ) (x : A) → local_at locals k ≡ Some x
    → k < length locals
local_within locals k x is =
    elim (slice_get locals k) as (λ o. slice_get locals k ≡ o → held o ≡ Some x → k < length locals) [
      | None ↦ λ at none. absurd cc
      | Some local ↦ λ at some. slice_get_within locals k local at
    ] refl is

-- a local that is not past the end is the element there
local_is : {A : Type 0} → (locals : List (Option A)) (k : ℕ) (local : Option A) → k < length locals
    → local ≡ get_or locals k local → local_at locals k ≡ local
local_is locals k local inside is = ap held (slice_get-get_or locals k local inside) ∙ sym is

-- an int that was merged stays so when the formula grows
int_later : (between new : Formula) (choice : Bit) (first second : Option IntBits) (met : IntBits) → Extends between new
    → IsMergedInt between choice first second met → IsMergedInt new choice first second met
int_later between new choice first second met extends is = record {
  within = word_later between.variables new.variables met extends.grows is.within;
  one = is.one;
  other = is.other;
  in_first = is.in_first;
  in_second = is.in_second;
  shows_first = λ a h. is.shows_first a (extends.keeps a h);
  shows_second = λ a h. is.shows_second a (extends.keeps a h);
}

local_later : (old between new : Formula) (choice : Bit) (first second met : Option IntBits) → Extends between new
    → IsMergedLocal old between choice first second met → IsMergedLocal old new choice first second met
local_later old between new choice first second met extends is = record {
  extends = extends_then old between new is.extends extends;
  holds = is.holds;
  held = λ word at. int_later between new choice first second word extends (is.held word at);
}

-- a local that was merged after the formula grew
local_after : (old between new : Formula) (choice : Bit) (first second met : Option IntBits) → Extends old between
    → IsMergedLocal between new choice first second met → IsMergedLocal old new choice first second met
local_after old between new choice first second met extends is = record {
  extends = extends_then old between new extends is.extends;
  holds = is.holds;
  held = is.held;
}

-- the locals below an index are merged
pub record AreMergedBelow (old new : Formula) (choice : Bit) (first second met : List (Option IntBits))
    (n : ℕ) : Type 0 where
  pub extends : Extends old new
  pub each : (k : ℕ) → k < n → IsMergedLocal old new choice (local_at first k) (local_at second k) (local_at met k)

-- the locals so far are merged, where all is of the formula's variables
pub record LocalsSoFar (old new : Formula) (choice : Bit) (first second met : List (Option IntBits))
    (n : ℕ) : Type 0 where
  pub number : length met ≡ n
  pub merge : AreClausesBelow old.variables (clauses_of old) → IsBitBelow old.variables choice
      → AreLocalsBelow old.variables first → AreLocalsBelow old.variables second
      → AreMergedBelow old new choice first second met n

pub locals_none : (formula : Formula) (choice : Bit) (first second : List (Option IntBits))
    → LocalsSoFar formula formula choice first second [] 0
locals_none formula choice first second = record {
  number = refl;
  merge = λ named below firsts seconds. record {
    extends = extends_refl formula named;
    each = λ k inside. absurd (omega (arith, inside));
  };
}

each_more : (old between new : Formula) (choice : Bit) (first second met : List (Option IntBits))
    (last : Option IntBits) (n : ℕ) → length met ≡ n → AreMergedBelow old between choice first second met n
    → IsMergedLocal between new choice (local_at first n) (local_at second n) last → (k : ℕ) → k < n + 1
    → IsMergedLocal old new choice (local_at first k) (local_at second k) (local_at (met ++ last ∷ []) k)
each_more old between new choice first second met last n number so merged =
    below_more (λ (k : ℕ). IsMergedLocal old new choice (local_at first k) (local_at second k)
    (local_at (met ++ last ∷ []) k)) n
    (λ k inside.
    subst (λ (local : Option IntBits). IsMergedLocal old new choice (local_at first k) (local_at second k) local)
    (sym (local_before met last k (omega (arith, inside, number))))
    (local_later old between new choice (local_at first k) (local_at second k) (local_at met k) merged.extends
    (so.each k inside)))
    (subst (λ (local : Option IntBits). IsMergedLocal old new choice (local_at first n) (local_at second n) local)
    (sym (ap (local_at (met ++ last ∷ [])) (sym number) ∙ local_last met last))
    (local_after old between new choice (local_at first n) (local_at second n) last so.extends merged))

locals_below_later : (n m : ℕ) (locals : List (Option IntBits)) (k : ℕ) → n ≤ m → AreLocalsBelow n locals
    → IsLocalBelow m (local_at locals k)
locals_below_later n m locals k le below word at = word_later n m word le (below k word at)

-- one more local is merged
locals_push : (old between new : Formula) (choice : Bit) (first second met : List (Option IntBits))
    (one other last : Option IntBits) (n : ℕ) → LocalsSoFar old between choice first second met n
    → local_at first n ≡ one → local_at second n ≡ other → MergeLocal between new choice one other last
    → LocalsSoFar old new choice first second (met ++ last ∷ []) (n + 1)
locals_push old between new choice first second met one other last n so one_is other_is merge = record {
  number = length_push met last ∙ ap (λ (k : ℕ). k + 1) so.number;
  merge = λ named below firsts seconds.
      let earlier = so.merge named below firsts seconds in
      let n0 = old.variables in
      let n1 = between.variables in
      let le : n0 ≤ n1 = earlier.extends.grows in
      let one_below : IsLocalBelow n1 one = subst (IsLocalBelow n1) one_is (locals_below_later n0 n1 first n le firsts)
      in
      let other_below : IsLocalBelow n1 other =
      subst (IsLocalBelow n1) other_is (locals_below_later n0 n1 second n le seconds) in
      let given : IsMergedLocal between new choice one other last =
      merge earlier.extends.named (bit_below_more n0 n1 choice le below) one_below other_below in
      let half : IsMergedLocal between new choice (local_at first n) other last =
      subst (λ (local : Option IntBits). IsMergedLocal between new choice local other last) (sym one_is) given in
      let merged : IsMergedLocal between new choice (local_at first n) (local_at second n) last =
      subst (λ (local : Option IntBits). IsMergedLocal between new choice (local_at first n) local last)
      (sym other_is) half in
      record {
        extends = extends_then old between new earlier.extends merged.extends;
        each = each_more old between new choice first second met last n so.number earlier merged;
      };
}

pub locals_more : (old between new : Formula) (choice : Bit) (first second met items : List (Option IntBits))
    (one other last : Option IntBits) (n m : ℕ) → LocalsSoFar old between choice first second met n → n < length first
    → n < length second → one ≡ get_or first n one → other ≡ get_or second n other
    → MergeLocal between new choice one other last → items ≡ met ++ last ∷ [] → m ≡ n + 1
    → LocalsSoFar old new choice first second items m
locals_more old between new choice first second met items one other last n m so in_first in_second one_is other_is merge
    items_are m_is =
    let pushed : LocalsSoFar old new choice first second (met ++ last ∷ []) (n + 1) =
    locals_push old between new choice first second met one other last n so (local_is first n one in_first one_is)
    (local_is second n other in_second other_is) merge in
    let grown : LocalsSoFar old new choice first second items (n + 1) =
    subst (λ (w : List (Option IntBits)). LocalsSoFar old new choice first second w (n + 1)) (sym items_are) pushed
    in
    subst (LocalsSoFar old new choice first second items) (sym m_is) grown

-- the locals are merged where one of the two ends
pub locals_all : (old new : Formula) (choice : Bit) (first second met : List (Option IntBits)) (n : ℕ)
    → LocalsSoFar old new choice first second met n → n ≡ min (length first) (length second)
    → MergeLocals old new choice first second met
locals_all old new choice first second met n so all named below firsts seconds =
    let merged = so.merge named below firsts seconds in
    record {
      extends = merged.extends;
      holds = λ k one other one_is other_is.
          let inside : k < n = omega (arith, all, local_within first k one one_is, local_within second k other other_is)
          in
          (merged.each k inside).holds one other one_is other_is;
      held = λ k word is. (merged.each k (omega (arith, so.number, local_within met k word is))).held word is;
    }

pub locals_same : (old new : Formula) (choice : Bit) (one first other second met : List (Option IntBits)) → one ≡ first
    → other ≡ second → MergeLocals old new choice one other met → MergeLocals old new choice first second met
locals_same old new choice one first other second met first_is second_is merge =
    let half : MergeLocals old new choice first other met =
    subst (λ (w : List (Option IntBits)). MergeLocals old new choice w other met) first_is merge in
    subst (λ (w : List (Option IntBits)). MergeLocals old new choice first w met) second_is half
