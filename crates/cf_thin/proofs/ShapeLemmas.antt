-- Shapes, what is known of their locals, and the steps from one to another.
use Rattle.std.proofs.lemmas.Slice.Eq.{slice_eq-Decides}
use Rattle.std.specs.Cmp.Lexicographic.{pointwise}
use Rattle.cf_thin.specs.Calls.Passes.{both_known}
use Rattle.std.proofs.Common.{◌≡◌, ◌<◌, ◌+◌, ◌++◌, ◌&&◌, ℕ, List, [], ◌∷◌, length, drop, get_or, drop-cons, add-one}
use Rattle.std.proofs.Common.{append_assoc, not, Bool, true, false, Decides, refl, sym, arith}
use Rattle.cf_thin.specs.contracts.shape.OperandTypePartialEq.TheImpl.{eq-value}
use Rattle.cf_thin.specs.declared.shape.OperandType.{OperandType}
use Rattle.cf_thin.specs.declared.shape.OperandType.TheVariants.{Int, Reference}
use Rattle.std.proofs.lemmas.Bool.{both_ways, not-true, not-false}

-- `==` on operands decides whether they are equal
pub operand_decides : (a b : OperandType) → Decides (eq-value.it a b) (a ≡ b)
operand_decides Int Int = (λ e. refl, λ e. refl)
operand_decides Reference Reference = (λ e. refl, λ e. refl)
operand_decides Int Reference = (λ e. absurd cc, λ e. absurd cc)
operand_decides Reference Int = (λ e. absurd cc, λ e. absurd cc)

-- the step of the loop over two lists of locals
pub both_more : (left right done new whole : List Bool) (i : ℕ) (x : Bool) → i < length left
    → length left ≡ length right → done ++ both_known (drop i left) (drop i right) ≡ whole → new ≡ done ++ x ∷ []
    → x ≡ (get_or left i false && get_or right i false)
    → new ++ both_known (drop (i + 1) left) (drop (i + 1) right) ≡ whole
both_more left right done new whole i x lt same before push value =
    let lt' : i < length right = omega arith in
    let l : drop i left ≡ get_or left i false ∷ drop (i + 1) left = rw add-one (drop-cons left i false lt) in
    let r : drop i right ≡ get_or right i false ∷ drop (i + 1) right = rw add-one (drop-cons right i false lt') in
    let whole-is : done
    ++ ((get_or left i false && get_or right i false) ∷ both_known (drop (i + 1) left)
    (drop (i + 1) right)) ≡ whole = rw l at (rw r at before) in
    rw push (rw value (rw append_assoc whole-is))

-- the test that two stacks differ said no
pub same_stacks : (a b : List OperandType) → false ≡ not (pointwise eq-value.it a b) → a ≡ b
same_stacks a b e = (slice_eq-Decides operand_decides a b (pointwise eq-value.it a b) refl).0
    (not-false (pointwise eq-value.it a b) (sym e))

-- the test that two stacks differ said yes
pub other_stacks : (a b : List OperandType) → true ≡ not (pointwise eq-value.it a b) → a ≡ b → ⊥
other_stacks a b e same = let said = (slice_eq-Decides operand_decides a b (pointwise eq-value.it a b) refl).1 same in
    both_ways (pointwise eq-value.it a b) (not-true (pointwise eq-value.it a b) (sym e)) said
