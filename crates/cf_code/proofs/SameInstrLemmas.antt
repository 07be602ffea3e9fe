-- Instructions that `==` finds equal are the same, and so are placed ones and rows.
use Rattle.std.proofs.Common.{◌≡◌, ℕ, Bool, true, List, [], ◌∷◌, ◌∙◌, ap, subst, refl}
use Rattle.std.specs.Prelude.{nat_eq}
use Rattle.std.specs.Cmp.{IsEquivalence}
use Rattle.std.specs.Cmp.Lexicographic.{pointwise}
use Rattle.std.proofs.lemmas.Bool.{false≢true, and_parts}
use Rattle.cf_code.specs.declared.code.Placed.{Placed}
use Rattle.cf_code.specs.declared.instr.Instr.{Instr}
use Rattle.cf_code.specs.declared.instr.Instr.TheVariants as instr
use Rattle.cf_code.specs.declared.switch.Case.{Case}
use Rattle.cf_code.specs.declared.switch.TableSwitch.{TableSwitch}
use Rattle.cf_code.specs.declared.switch.LookupSwitch.{LookupSwitch}
use Rattle.cf_code.specs.declared.transfer.Row.{Row}
use Rattle.cf_code.specs.contracts.code.PlacedPartialEq.TheImpl as placed_eq
use Rattle.cf_code.specs.contracts.instr.InstrPartialEq.TheImpl as instr_eq
use Rattle.cf_code.specs.contracts.transfer.RowPartialEq.TheImpl as row_eq
use Rattle.cf_code.specs.Equality.{case_eq, table_eq, lookup_eq}
use Rattle.cf_code.proofs.SameLemmas.{Same, same_numbers, same_ints, same_two, same_three, same_number}
use Rattle.cf_code.proofs.SameFamilyLemmas.{same_array, same_call, same_constant, same_field, same_jump, same_local}
use Rattle.cf_code.proofs.SameFamilyLemmas.{same_object, same_returned, same_stack_move}
use Rattle.cf_code.proofs.SwitchLemmas.{case_of, table_of, lookup_of}

-- what is the same is found equal
pub equal_same : {K : Type 0} {E : K → K → Bool} → IsEquivalence E → (x y : K) → x ≡ y → E x y ≡ true
equal_same {K} {E} laws x y is = subst (λ (z : K). E x z ≡ true) is (laws.refl x)

-- ---- switches

module _ {K : Type 0} {E : K → K → Bool} (one : Same K E) where
  -- lists of what a test tells
  same_lists : Same (List K) (pointwise E)
  same_lists [] [] e = refl
  same_lists [] (y ∷ ys) e = absurd (false≢true e)
  same_lists (x ∷ xs) [] e = absurd (false≢true e)
  same_lists (x ∷ xs) (y ∷ ys) e =
      let both = and_parts (E x y) (pointwise E xs ys) e in
      ap (λ (z : K). z ∷ xs) (one x y both.0) ∙ ap (λ (zs : List K). y ∷ zs) (same_lists xs ys both.1)

same_case : Same Case case_eq
same_case x y e = same_two case_of same_ints same_numbers x.key y.key x.target y.target e

same_table : Same TableSwitch table_eq
same_table x y e =
    let both = and_parts (pointwise nat_eq x.padding y.padding) _ e in
    ap (λ (p : List ℕ). table_of p x.default x.low x.targets) (same_lists same_numbers x.padding y.padding both.0)
    ∙ same_three (table_of y.padding) same_numbers same_ints (same_lists same_numbers) x.default y.default x.low y.low
    x.targets y.targets both.1

same_lookup : Same LookupSwitch lookup_eq
same_lookup x y e =
    same_three lookup_of (same_lists same_numbers) same_numbers (same_lists same_case) x.padding y.padding x.default
    y.default x.cases y.cases e

-- ---- instructions

pub same_instr : Same Instr (instr_eq.ghosts).eq
same_instr instr.Nop instr.Nop e = refl
same_instr (instr.Constant x) (instr.Constant y) e = ap instr.Constant (same_constant x y e)
same_instr (instr.Local x) (instr.Local y) e = ap instr.Local (same_local x y e)
same_instr (instr.Array x) (instr.Array y) e = ap instr.Array (same_array x y e)
same_instr (instr.Stack x) (instr.Stack y) e = ap instr.Stack (same_stack_move x y e)
same_instr (instr.Number x) (instr.Number y) e = ap instr.Number (same_number x y e)
same_instr (instr.Jump x) (instr.Jump y) e = ap instr.Jump (same_jump x y e)
same_instr (instr.Table x) (instr.Table y) e = ap instr.Table (same_table x y e)
same_instr (instr.Lookup x) (instr.Lookup y) e = ap instr.Lookup (same_lookup x y e)
same_instr (instr.Return x) (instr.Return y) e = ap instr.Return (same_returned x y e)
same_instr (instr.Field x) (instr.Field y) e = ap instr.Field (same_field x y e)
same_instr (instr.Call x) (instr.Call y) e = ap instr.Call (same_call x y e)
same_instr (instr.Object x) (instr.Object y) e = ap instr.Object (same_object x y e)
same_instr x y e = absurd (false≢true e)

-- ---- where they stand

abbrev placed_of : ℕ → Instr → Placed
placed_of pc instr = record { pc = pc; instr = instr }

pub same_placed : Same Placed (placed_eq.ghosts).eq
same_placed x y e = same_two placed_of same_numbers same_instr x.pc y.pc x.instr y.instr e

abbrev row_of : ℕ → ℕ → ℕ → ℕ → Row
row_of start end handler catch_type =
    record { start = start; end = end; handler = handler; catch_type = catch_type }

pub same_row : Same Row (row_eq.ghosts).eq
same_row x y e =
    let both = and_parts (nat_eq x.start y.start) _ e in
    ap (λ (n : ℕ). row_of n x.end x.handler x.catch_type) (same_numbers x.start y.start both.0)
    ∙ same_three (row_of y.start) same_numbers same_numbers same_numbers x.end y.end x.handler y.handler x.catch_type
    y.catch_type both.1
