-- Operand stacks taken apart at the top, and with one more operand on top.
use Rattle.std.proofs.Common.{◌≡◌, ℕ, ℤ, Bool, List, [], ◌∷◌, ◌++◌, length, take, Option, Some, None, refl, sym}
use Rattle.std.proofs.Common.{ap, ◌∙◌, subst, append_assoc}
use Rattle.std.specs.Prelude.{slice_get}
use Rattle.std.proofs.Math.Seq.{take-append_seam}
use Rattle.std.proofs.lemmas.Option.{none-some}
use Rattle.jv_base.specs.declared.value.Value.{Value}
use Rattle.jv_base.specs.declared.value.Value.TheVariants.{Int, Long, Ref}
use Rattle.cf_thin.specs.declared.shape.OperandType as kind
use Rattle.cf_thin.specs.declared.shape.OperandType.TheVariants as kinds
use Rattle.jb_run.specs.declared.int_bits.IntBits.{IntBits}
use Rattle.jb_run.specs.declared.frame.Operand.{Operand}
use Rattle.jb_run.specs.declared.frame.Operand.TheVariants as operand
use Rattle.jb_run.specs.Bits as bits
use Rattle.jb_run.specs.Machine as machine
use Rattle.jb_run.specs.Shown.{ShowsInt, ShowsValue, ShowStack, IsIntBelow, IsOfKind, AreOfKinds}
use Rattle.jb_run.specs.Stack.{top, below}
use Rattle.jv_list.proofs.PlaceLemmas.{slice_get-push_last}
use Rattle.jv_list.proofs.LengthLemmas.{one_less}

-- the top of a stack is the last
pub top_last : {A : Type 0} → (xs : List A) (x : A) → top (xs ++ x ∷ []) ≡ Some x
top_last {A} xs x = ap (λ (n : ℕ). slice_get (xs ++ x ∷ []) n) (one_less xs x)
    ∙ slice_get-push_last xs x (length xs) refl

-- and below it are the others
pub below_last : {A : Type 0} → (xs : List A) (x : A) → below (xs ++ x ∷ []) ≡ xs
below_last {A} xs x = ap (λ (n : ℕ). take n (xs ++ x ∷ [])) (one_less xs x) ∙ take-append_seam xs (x ∷ [])

-- a stack of some kinds whose top is of one more
pub record Ends (n : ℕ) (rest : List kind.OperandType) (k : kind.OperandType) (stack : List Operand) : Type 0 where
  pub under : List Operand
  pub last : Operand
  pub is : stack ≡ under ++ last ∷ []
  pub under_are : AreOfKinds n rest under
  pub last_is : IsOfKind n k last

pub kinds_last : (n : ℕ) (rest : List kind.OperandType) (k : kind.OperandType) (stack : List Operand)
    → AreOfKinds n (rest ++ k ∷ []) stack → Ends n rest k stack
kinds_last n [] k [] are = absurd are
kinds_last n [] k (x ∷ []) are = record { under = []; last = x; is = refl; under_are = tt; last_is = are.0 }
kinds_last n [] k (x ∷ y ∷ ys) are = absurd are.1
kinds_last n (j ∷ rest) k [] are = absurd are
kinds_last n (j ∷ rest) k (x ∷ xs) are =
    let e = kinds_last n rest k xs are.1 in
    record {
      under = x ∷ e.under;
      last = e.last;
      is = ap (λ (w : List Operand). x ∷ w) e.is;
      under_are = (are.0, e.under_are);
      last_is = e.last_is;
    }

-- a stack of values that shows an operand on top
pub record ShowsLast (a : ℕ → Bool) (under : List Operand) (last : Operand) (values : List Value) : Type 0 where
  pub rest : List Value
  pub value : Value
  pub is : values ≡ rest ++ value ∷ []
  pub rest_shown : ShowStack a under rest
  pub value_shown : ShowsValue a last value

pub stack_last : (a : ℕ → Bool) (under : List Operand) (last : Operand) (values : List Value)
    → ShowStack a (under ++ last ∷ []) values → ShowsLast a under last values
stack_last a [] last [] shown = absurd shown
stack_last a [] last (v ∷ []) shown = record { rest = []; value = v; is = refl; rest_shown = tt; value_shown = shown.0 }
stack_last a [] last (v ∷ w ∷ ws) shown = absurd shown.1
stack_last a (x ∷ xs) last [] shown = absurd shown
stack_last a (x ∷ xs) last (v ∷ vs) shown =
    let e = stack_last a xs last vs shown.1 in
    record {
      rest = v ∷ e.rest;
      value = e.value;
      is = ap (λ (w : List Value). v ∷ w) e.is;
      rest_shown = (shown.0, e.rest_shown);
      value_shown = e.value_shown;
    }

-- one more operand on top
pub kinds_push : (n : ℕ) (kinds : List kind.OperandType) (k : kind.OperandType) (stack : List Operand) (last : Operand)
    → AreOfKinds n kinds stack → IsOfKind n k last → AreOfKinds n (kinds ++ k ∷ []) (stack ++ last ∷ [])
kinds_push n [] k [] last are is = (is, tt)
kinds_push n [] k (x ∷ xs) last are is = absurd are
kinds_push n (j ∷ js) k [] last are is = absurd are
kinds_push n (j ∷ js) k (x ∷ xs) last are is = (are.0, kinds_push n js k xs last are.1 is)

pub stack_push : (a : ℕ → Bool) (stack : List Operand) (last : Operand) (values : List Value) (value : Value)
    → ShowStack a stack values → ShowsValue a last value → ShowStack a (stack ++ last ∷ []) (values ++ value ∷ [])
stack_push a [] last [] value shown is = (is, tt)
stack_push a [] last (v ∷ vs) value shown is = absurd shown
stack_push a (x ∷ xs) last [] value shown is = absurd shown
stack_push a (x ∷ xs) last (v ∷ vs) value shown is = (shown.0, stack_push a xs last vs value shown.1 is)

int_of_kind : (n : ℕ) (shown : Operand) → IsOfKind n kinds.Int shown → (word : IntBits) × (shown ≡ operand.Int word)
    × IsIntBelow n word
int_of_kind n (operand.Int word) is = (word, refl, is)
int_of_kind n operand.Null is = absurd is

null_of_kind : (n : ℕ) (shown : Operand) → IsOfKind n kinds.Reference shown → shown ≡ operand.Null
null_of_kind n operand.Null is = refl
null_of_kind n (operand.Int word) is = absurd is

int_shown : (a : ℕ → Bool) (word : IntBits) (value : Value) → ShowsValue a (operand.Int word) value
    → (k : ℤ) × (value ≡ Int k) × ShowsInt a word k
int_shown a word (Int k) is = (k, refl, is)
int_shown a word (Long k) is = absurd is
int_shown a word (Ref r) is = absurd is

null_shown : (a : ℕ → Bool) (value : Value) → ShowsValue a operand.Null value → value ≡ Ref None
null_shown a (Ref None) is = refl
null_shown a (Ref (Some r)) is = absurd is
null_shown a (Int k) is = absurd is
null_shown a (Long k) is = absurd is

-- an int of a stack of values, and the values below it
pub record PopsInt (a : ℕ → Bool) (word : IntBits) (under : List Operand) (values : List Value) : Type 0 where
  pub int : ℤ
  pub is : machine.int_inside (top values) ≡ Some int
  pub int_shown : ShowsInt a word int
  pub under_shown : ShowStack a under (below values)

-- this int is on top of a stack, and what is below it is of some kinds
pub record IsTop (n : ℕ) (rest : List kind.OperandType) (stack : List Operand) (word : IntBits) : Type 0 where
  pub within : IsIntBelow n word
  pub under : AreOfKinds n rest (below stack)
  pub shows : (a : ℕ → Bool) (values : List Value) → ShowStack a stack values → PopsInt a word (below stack) values

-- an int is on top of a stack
pub record TopInt (n : ℕ) (rest : List kind.OperandType) (stack : List Operand) : Type 0 where
  pub word : IntBits
  pub is : bits.bits_inside (top stack) ≡ Some word
  pub top : IsTop n rest stack word

pub top_int : (n : ℕ) (rest : List kind.OperandType) (stack : List Operand)
    → AreOfKinds n (rest ++ kinds.Int ∷ []) stack → TopInt n rest stack
top_int n rest stack are =
    let e = kinds_last n rest kinds.Int stack are in
    let i = int_of_kind n e.last e.last_is in
    let top_is : top stack ≡ Some e.last = ap (λ (w : List Operand). top w) e.is ∙ top_last e.under e.last in
    let under_is : below stack ≡ e.under = ap (λ (w : List Operand). below w) e.is ∙ below_last e.under e.last in
    record {
      word = i.0;
      is = ap bits.bits_inside top_is ∙ ap (λ (o : Operand). bits.bits_inside (Some o)) i.1;
      top = record {
        within = i.2;
        under = subst (AreOfKinds n rest) (sym under_is) e.under_are;
        shows = λ a values shown.
            let s = stack_last a e.under e.last values (subst (λ (w : List Operand). ShowStack a w values) e.is shown)
            in
            let v = int_shown a i.0 s.value (subst (λ (o : Operand). ShowsValue a o s.value) i.1 s.value_shown) in
            let rest_is : below values ≡ s.rest = ap (λ (w : List Value). below w) s.is ∙ below_last s.rest s.value in
            record {
              int = v.0;
              is = ap (λ (w : List Value). machine.int_inside (top w)) s.is
                  ∙ ap machine.int_inside (top_last s.rest s.value)
                  ∙ ap (λ (x : Value). machine.int_inside (Some x)) v.1;
              int_shown = v.2;
              under_shown =
                  subst (ShowStack a (below stack)) (sym rest_is)
                  (subst (λ (w : List Operand). ShowStack a w s.rest) (sym under_is) s.rest_shown);
            };
      };
    }

same_word : (o : Option IntBits) (a b : IntBits) → o ≡ Some a → o ≡ Some b → a ≡ b
same_word o a b first second = cc

-- the int that was found on top
pub top_known : (n : ℕ) (rest : List kind.OperandType) (stack : List Operand) (word : IntBits)
    → AreOfKinds n (rest ++ kinds.Int ∷ []) stack → bits.bits_inside (top stack) ≡ Some word → IsTop n rest stack word
top_known n rest stack word are is =
    let t = top_int n rest stack are in
    subst (IsTop n rest stack) (same_word (bits.bits_inside (top stack)) t.word word t.is is) t.top

-- an int is found on top
pub top_found : (n : ℕ) (rest : List kind.OperandType) (stack : List Operand)
    → AreOfKinds n (rest ++ kinds.Int ∷ []) stack → bits.bits_inside (top stack) ≡ None → ⊥
top_found n rest stack are none = let t = top_int n rest stack are in none-some t.word (sym none ∙ t.is)

-- two ints on top, as one over the other
pub two_on_top : (rest : List kind.OperandType) → rest ++ kinds.Int ∷ kinds.Int ∷ [] ≡ (rest ++ kinds.Int ∷ [])
    ++ kinds.Int ∷ []
two_on_top rest = sym (append_assoc rest (kinds.Int ∷ []) (kinds.Int ∷ []))

-- a reference on top of a stack is null
pub top_null : (n : ℕ) (rest : List kind.OperandType) (stack : List Operand) (a : ℕ → Bool) (values : List Value)
    → AreOfKinds n (rest ++ kinds.Reference ∷ []) stack → ShowStack a stack values → top values ≡ Some (Ref None)
top_null n rest stack a values are shown =
    let e = kinds_last n rest kinds.Reference stack are in
    let s = stack_last a e.under e.last values (subst (λ (w : List Operand). ShowStack a w values) e.is shown) in
    let v = null_shown a s.value
    (subst (λ (o : Operand). ShowsValue a o s.value) (null_of_kind n e.last e.last_is) s.value_shown) in
    ap (λ (w : List Value). top w) s.is ∙ top_last s.rest s.value ∙ ap (λ (x : Value). Some x) v
