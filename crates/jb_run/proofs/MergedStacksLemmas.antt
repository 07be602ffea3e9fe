-- Operands that are merged, one after the other.
use Rattle.std.proofs.Common.{◌≡◌, ◌<◌, ◌≤◌, ◌+◌, ℕ, suc, ℤ, Bool, true, false, List, [], ◌∷◌, ◌++◌, length, take}
use Rattle.std.proofs.Common.{get_or, refl, sym, ap, ◌∙◌, subst, arith, take_all}
use Rattle.std.specs.Prelude.{min}
use Rattle.std.proofs.lemmas.List.{take_more}
use Rattle.jv_base.specs.declared.value.Value.{Value}
use Rattle.jv_base.specs.declared.value.Value.TheVariants.{Int, Long, Ref}
use Rattle.cf_thin.specs.declared.shape.OperandType as kind
use Rattle.cf_thin.specs.declared.shape.OperandType.TheVariants as kinds
use Rattle.jb_run.specs.declared.formula.Formula.{Formula}
use Rattle.jb_run.specs.declared.frame.Operand.{Operand}
use Rattle.jb_run.specs.declared.frame.Operand.TheVariants as operand
use Rattle.jb_run.specs.declared.gates.Bit.{Bit}
use Rattle.jb_run.specs.declared.machine.State.{State}
use Rattle.jb_run.specs.declared.int_bits.IntBits.{IntBits}
use Rattle.jb_run.specs.Clauses.{clauses_of}
use Rattle.jb_run.specs.Satisfies.{bit_value, Satisfies, IsBitBelow, AreClausesBelow}
use Rattle.jb_run.specs.Gate.{bit_at, IsIntGate, AreIntsNamed, chosen}
use Rattle.jb_run.specs.Shown.{ShowsInt, ShowsValue, ShowStack, IsOfKind, AreOfKinds}
use Rattle.jb_run.specs.Encoder.{IsMergedOperand, MergeOperand, AreMergedStacks, MergeStacks}
use Rattle.jb_run.proofs.DefinitionLemmas.{bit_below_more, extends_refl, extends_then}
use Rattle.jb_run.proofs.GrowthLemmas.{kind_later, kinds_later}

-- an int that shows another shows it as an operand too
value_int : (a : ℕ → Bool) (word met : IntBits) → ((n : ℤ) → ShowsInt a word n → ShowsInt a met n) → (value : Value)
    → ShowsValue a (operand.Int word) value → ShowsValue a (operand.Int met) value
value_int a word met shows (Int n) shown = shows n shown
value_int a word met shows (Long n) shown = absurd shown
value_int a word met shows (Ref to) shown = absurd shown

-- the word is the first int where the choice is true, and else the second
pub record IsMuxed (old new : Formula) (choice : Bit) (one other word : IntBits) : Type 0 where
  pub gate : IsIntGate old new word (λ k. chosen choice (bit_at one k) (bit_at other k))
  pub first : (a : ℕ → Bool) (n : ℤ) → Satisfies a new → bit_value a choice ≡ true → ShowsInt a one n
      → ShowsInt a word n
  pub second : (a : ℕ → Bool) (n : ℤ) → Satisfies a new → bit_value a choice ≡ false → ShowsInt a other n
      → ShowsInt a word n

int_merged : (old new : Formula) (choice : Bit) (one other word : IntBits) → IsMuxed old new choice one other word
    → IsMergedOperand kinds.Int old new choice (operand.Int one) (operand.Int other) (operand.Int word)
int_merged old new choice one other word muxed = record {
  extends = muxed.gate.extends;
  kind_is = λ k inside. (muxed.gate.shows k inside).within;
  shows_first = λ a h on. value_int a one word (λ n. muxed.first a n h on);
  shows_second = λ a h off. value_int a other word (λ n. muxed.second a n h off);
}

ints_merged : (old new : Formula) (choice : Bit) (one other word : IntBits)
    → (AreIntsNamed old one other → IsBitBelow old.variables choice → IsMuxed old new choice one other word)
    → MergeOperand old new choice (operand.Int one) (operand.Int other) (operand.Int word)
ints_merged old new choice one other word muxed kinds.Int named below firsts seconds =
    int_merged old new choice one other word
    (muxed (record { clauses = named; first = firsts; second = seconds }) below)
ints_merged old new choice one other word muxed kinds.Reference named below firsts seconds = absurd firsts

-- two operands that are ints are merged
pub operands_merged : (old new : Formula) (choice : Bit) (first second : Operand) (one other word : IntBits)
    → first ≡ operand.Int one → second ≡ operand.Int other
    → (AreIntsNamed old one other → IsBitBelow old.variables choice → IsMuxed old new choice one other word)
    → MergeOperand old new choice first second (operand.Int word)
operands_merged old new choice first second one other word first_is second_is muxed =
    let half : MergeOperand old new choice first (operand.Int other) (operand.Int word) =
    subst (λ (o : Operand). MergeOperand old new choice o (operand.Int other) (operand.Int word)) (sym first_is)
    (ints_merged old new choice one other word muxed) in
    subst (λ (o : Operand). MergeOperand old new choice first o (operand.Int word)) (sym second_is) half

-- the kinds of operands, of which one is last
record KindsSplit (n : ℕ) (kinds : List kind.OperandType) (operands : List Operand) (shown : Operand) : Type 0 where
  pub front : List kind.OperandType
  pub last : kind.OperandType
  pub whole : kinds ≡ front ++ last ∷ []
  pub front_are : AreOfKinds n front operands
  pub last_is : IsOfKind n last shown

kinds_split : (n : ℕ) (kinds : List kind.OperandType) (operands : List Operand) (shown : Operand)
    → AreOfKinds n kinds (operands ++ shown ∷ []) → KindsSplit n kinds operands shown
kinds_split n [] [] shown are = absurd are
kinds_split n [] (first ∷ rest) shown are = absurd are
kinds_split n (k ∷ []) [] shown are = record { front = []; last = k; whole = refl; front_are = tt; last_is = are.0 }
kinds_split n (k ∷ other ∷ more) [] shown are = absurd are.1
kinds_split n (k ∷ ks) (first ∷ rest) shown are =
    let split = kinds_split n ks rest shown are.1 in
    record {
      front = k ∷ split.front;
      last = split.last;
      whole = ap (λ (w : List kind.OperandType). k ∷ w) split.whole;
      front_are = (are.0, split.front_are);
      last_is = split.last_is;
    }

kinds_parts : (n : ℕ) (front : List kind.OperandType) (last : kind.OperandType) (operands : List Operand)
    (shown : Operand) → AreOfKinds n (front ++ last ∷ []) (operands ++ shown ∷ [])
    → AreOfKinds n front operands × IsOfKind n last shown
kinds_parts n [] last [] shown are = (tt, are.0)
kinds_parts n [] last (first ∷ []) shown are = absurd are.1
kinds_parts n [] last (first ∷ other ∷ more) shown are = absurd are.1
kinds_parts n (k ∷ []) last [] shown are = absurd are.1
kinds_parts n (k ∷ other ∷ more) last [] shown are = absurd are.1
kinds_parts n (k ∷ ks) last (first ∷ rest) shown are =
    let parts = kinds_parts n ks last rest shown are.1 in
    ((are.0, parts.0), parts.1)

kinds_push : (n : ℕ) (front : List kind.OperandType) (last : kind.OperandType) (operands : List Operand)
    (shown : Operand) → AreOfKinds n front operands → IsOfKind n last shown
    → AreOfKinds n (front ++ last ∷ []) (operands ++ shown ∷ [])
kinds_push n [] last [] shown are is = (is, tt)
kinds_push n [] last (first ∷ rest) shown are is = absurd are
kinds_push n (k ∷ ks) last [] shown are is = absurd are
kinds_push n (k ∷ ks) last (first ∷ rest) shown are is = (are.0, kinds_push n ks last rest shown are.1 is)

kinds_number : (n : ℕ) (kinds : List kind.OperandType) (operands : List Operand) → AreOfKinds n kinds operands
    → length operands ≡ length kinds
kinds_number n [] [] are = refl
kinds_number n [] (first ∷ rest) are = absurd are
kinds_number n (k ∷ ks) [] are = absurd are
kinds_number n (k ∷ ks) (first ∷ rest) are = ap suc (kinds_number n ks rest are.1)

-- the values of operands, of which one is last
record StackSplit (a : ℕ → Bool) (operands : List Operand) (shown : Operand) (values : List Value) : Type 0 where
  pub front : List Value
  pub last : Value
  pub whole : values ≡ front ++ last ∷ []
  pub front_shown : ShowStack a operands front
  pub last_shown : ShowsValue a shown last

stack_split : (a : ℕ → Bool) (operands : List Operand) (shown : Operand) (values : List Value)
    → ShowStack a (operands ++ shown ∷ []) values → StackSplit a operands shown values
stack_split a [] shown [] shows = absurd shows
stack_split a (first ∷ rest) shown [] shows = absurd shows
stack_split a [] shown (value ∷ []) shows =
    record { front = []; last = value; whole = refl; front_shown = tt; last_shown = shows.0 }
stack_split a [] shown (value ∷ other ∷ more) shows = absurd shows.1
stack_split a (first ∷ rest) shown (value ∷ values) shows =
    let split = stack_split a rest shown values shows.1 in
    record {
      front = value ∷ split.front;
      last = split.last;
      whole = ap (λ (w : List Value). value ∷ w) split.whole;
      front_shown = (shows.0, split.front_shown);
      last_shown = split.last_shown;
    }

stack_push : (a : ℕ → Bool) (operands : List Operand) (shown : Operand) (front : List Value) (last : Value)
    → ShowStack a operands front → ShowsValue a shown last → ShowStack a (operands ++ shown ∷ []) (front ++ last ∷ [])
stack_push a [] shown [] last shows is = (is, tt)
stack_push a [] shown (value ∷ values) last shows is = absurd shows
stack_push a (first ∷ rest) shown [] last shows is = absurd shows
stack_push a (first ∷ rest) shown (value ∷ values) last shows is =
    (shows.0, stack_push a rest shown values last shows.1 is)

-- what shows the values of some operands shows them when the last ones are added
stack_more : (a : ℕ → Bool) (operands met : List Operand) (shown last : Operand) (state : State)
    → ((s : State) → ShowStack a operands s.stack → ShowStack a met s.stack)
    → ((value : Value) → ShowsValue a shown value → ShowsValue a last value)
    → ShowStack a (operands ++ shown ∷ []) state.stack → ShowStack a (met ++ last ∷ []) state.stack
stack_more a operands met shown last state fronts lasts shows =
    let split = stack_split a operands shown state.stack shows in
    subst (λ (values : List Value). ShowStack a (met ++ last ∷ []) values) (sym split.whole)
    (stack_push a met last split.front split.last (fronts (record state { stack = split.front }) split.front_shown)
    (lasts split.last split.last_shown))

-- two merged stacks with one more operand
merged_push : (front : List kind.OperandType) (last : kind.OperandType) (old between new : Formula) (choice : Bit)
    (first second met : List Operand) (one other both : Operand)
    → AreMergedStacks front old between choice first second met → IsMergedOperand last between new choice one other both
    → AreMergedStacks (front ++ last ∷ []) old new choice (first ++ one ∷ []) (second ++ other ∷ []) (met ++ both ∷ [])
merged_push front last old between new choice first second met one other both so is = record {
  extends = extends_then old between new so.extends is.extends;
  kinds_are =
      kinds_push new.variables front last met both
      (kinds_later between.variables new.variables front met is.extends.grows so.kinds_are) is.kind_is;
  shows_first = λ a h on state. stack_more a first met one both state (so.shows_first a (is.extends.keeps a h) on)
      (is.shows_first a h on);
  shows_second =
      λ a h off state. stack_more a second met other both state (so.shows_second a (is.extends.keeps a h) off)
      (is.shows_second a h off);
}

merge_push : (old between new : Formula) (choice : Bit) (first second met : List Operand) (one other both : Operand)
    → MergeStacks old between choice first second met → MergeOperand between new choice one other both
    → MergeStacks old new choice (first ++ one ∷ []) (second ++ other ∷ []) (met ++ both ∷ [])
merge_push old between new choice first second met one other both so merge kinds named below firsts seconds =
    let n = old.variables in
    let m = between.variables in
    let split = kinds_split n kinds first one firsts in
    let parts =
    kinds_parts n split.front split.last second other
    (subst (λ (ks : List kind.OperandType). AreOfKinds n ks (second ++ other ∷ [])) split.whole seconds) in
    let earlier : AreMergedStacks split.front old between choice first second met =
    so split.front named below split.front_are parts.0 in
    let le : n ≤ m = earlier.extends.grows in
    let is : IsMergedOperand split.last between new choice one other both =
    merge split.last earlier.extends.named (bit_below_more n m choice le below)
    (kind_later n m split.last one le split.last_is) (kind_later n m split.last other le parts.1) in
    subst (λ (ks : List kind.OperandType). AreMergedStacks ks old new choice (first ++ one ∷ []) (second ++ other ∷ [])
    (met ++ both ∷ [])) (sym split.whole)
    (merged_push split.front split.last old between new choice first second met one other both earlier is)

-- the operands so far are merged
pub record StacksSoFar (old new : Formula) (choice : Bit) (first second met : List Operand) (n : ℕ) : Type 0 where
  pub merge : MergeStacks old new choice (take n first) (take n second) met

stacks_empty : (kinds : List kind.OperandType) (formula : Formula) (choice : Bit)
    → AreClausesBelow formula.variables (clauses_of formula) → AreOfKinds formula.variables kinds []
    → AreMergedStacks kinds formula formula choice [] [] []
stacks_empty kinds formula choice named are = record {
  extends = extends_refl formula named;
  kinds_are = are;
  shows_first = λ a h on state shows. shows;
  shows_second = λ a h off state shows. shows;
}

pub stacks_none : (formula : Formula) (choice : Bit) (first second : List Operand)
    → StacksSoFar formula formula choice first second [] 0
stacks_none formula choice first second = record {
  merge = λ kinds named below firsts seconds. stacks_empty kinds formula choice named firsts;
}

-- one more operand is merged
stacks_push : (old between new : Formula) (choice : Bit) (first second met : List Operand) (one other both : Operand)
    (n : ℕ) → StacksSoFar old between choice first second met n → n < length first → n < length second
    → one ≡ get_or first n one → other ≡ get_or second n other → MergeOperand between new choice one other both
    → StacksSoFar old new choice first second (met ++ both ∷ []) (n + 1)
stacks_push old between new choice first second met one other both n so in_first in_second one_is other_is merge =
    let first_is : take n first ++ one ∷ [] ≡ take (n + 1) first =
    ap (λ (x : Operand). take n first ++ x ∷ []) one_is ∙ sym (take_more first n one in_first) in
    let second_is : take n second ++ other ∷ [] ≡ take (n + 1) second =
    ap (λ (x : Operand). take n second ++ x ∷ []) other_is ∙ sym (take_more second n other in_second) in
    let pushed : MergeStacks old new choice (take n first ++ one ∷ []) (take n second ++ other ∷ [])
    (met ++ both ∷ []) =
    merge_push old between new choice (take n first) (take n second) met one other both so.merge merge in
    let half : MergeStacks old new choice (take (n + 1) first) (take n second ++ other ∷ []) (met ++ both ∷ []) =
    subst (λ (w : List Operand). MergeStacks old new choice w (take n second ++ other ∷ [])
    (met ++ both ∷ [])) first_is pushed in
    record {
      merge = subst (λ (w : List Operand). MergeStacks old new choice (take (n + 1) first) w
          (met ++ both ∷ [])) second_is half;
    }

pub stacks_more : (old between new : Formula) (choice : Bit) (first second met items : List Operand)
    (one other both : Operand) (n m : ℕ) → StacksSoFar old between choice first second met n → n < length first
    → n < length second → one ≡ get_or first n one → other ≡ get_or second n other
    → MergeOperand between new choice one other both → items ≡ met ++ both ∷ [] → m ≡ n + 1
    → StacksSoFar old new choice first second items m
stacks_more old between new choice first second met items one other both n m so in_first in_second one_is other_is merge
    items_are m_is =
    let pushed : StacksSoFar old new choice first second (met ++ both ∷ []) (n + 1) =
    stacks_push old between new choice first second met one other both n so in_first in_second one_is other_is merge
    in
    let grown : StacksSoFar old new choice first second items (n + 1) =
    subst (λ (w : List Operand). StacksSoFar old new choice first second w (n + 1)) (sym items_are) pushed in
    subst (StacksSoFar old new choice first second items) (sym m_is) grown

-- stacks of the same kinds are as long, and all their operands are merged
pub stacks_all : (old new : Formula) (choice : Bit) (first second met : List Operand) (n : ℕ)
    → StacksSoFar old new choice first second met n → n ≡ min (length first) (length second)
    → MergeStacks old new choice first second met
stacks_all old new choice first second met n so all kinds named below firsts seconds =
    let one = kinds_number old.variables kinds first firsts in
    let other = kinds_number old.variables kinds second seconds in
    let first_is : take n first ≡ first = take_all n first (omega (arith, one, other, all)) in
    let second_is : take n second ≡ second = take_all n second (omega (arith, one, other, all)) in
    let half : MergeStacks old new choice first (take n second) met =
    subst (λ (w : List Operand). MergeStacks old new choice w (take n second) met) first_is so.merge in
    let whole : MergeStacks old new choice first second met =
    subst (λ (w : List Operand). MergeStacks old new choice first w met) second_is half in
    whole kinds named below firsts seconds

pub stacks_same : (old new : Formula) (choice : Bit) (one first other second met : List Operand) → one ≡ first
    → other ≡ second → MergeStacks old new choice one other met → MergeStacks old new choice first second met
stacks_same old new choice one first other second met first_is second_is merge =
    let half : MergeStacks old new choice first other met =
    subst (λ (w : List Operand). MergeStacks old new choice w other met) first_is merge in
    subst (λ (w : List Operand). MergeStacks old new choice first w met) second_is half
