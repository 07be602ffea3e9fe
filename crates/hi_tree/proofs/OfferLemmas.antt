-- Steps up to a name, and interfaces with superinterface methods.
use Rattle.std.proofs.Common.{◌≡◌, ℕ, Bool, true, false, not, cond, ◌&&◌, ◌||◌, List, [], ◌∷◌, ◌⊎◌, inl, inr, Contains}
use Rattle.std.proofs.Common.{Option, Some, None, is_some, sym, ◌∙◌, ap, subst, refl, arith, true≢false}
use Rattle.std.specs.Prelude.{slice_get}
use Rattle.std.proofs.lemmas.Option.{none-some}
use Rattle.jv_list.proofs.MemberLemmas.{later_member}
use Rattle.hi_tree.specs.declared.declared.Declared.{Declared}
use Rattle.hi_tree.specs.Classes.{Known}
use Rattle.hi_tree.specs.Methods.{declared, declared_some, is_virtual, is_virtual_some, is_interface_class}
use Rattle.hi_tree.specs.Superinterfaces.{offers}
use Rattle.hi_tree.specs.Walks.{IsAbove, direct, further}
use Rattle.hi_tree.specs.Calls.Walking.{IsOrdered}
use Rattle.hi_tree.specs.Calls.Choosing.{if_virtual, offer_some}
use Rattle.hi_tree.proofs.WalkLemmas.{Contains_cases}

-- the last step up
pub last_step : (supers : List ℕ → List (List ℕ)) {a b : List ℕ} → IsAbove supers a b
    → (p : List ℕ) × (place : ℕ) × (slice_get (supers p) place ≡ Some b) × ((p ≡ a) ⊎ IsAbove supers a p)
last_step supers (direct a b place e) = (a, place, e, inl refl)
last_step supers (further a above b place e up) =
    let h = last_step supers up in (
      h.0,
      h.1,
      h.2,
      elim h.3 [
        | inl same ↦ inr (subst (λ (x : List ℕ). IsAbove supers a x) (sym same) (direct a above place e))
        | inr more ↦ inr (further a above h.0 place e more)
      ],
    )

-- what is directly above a name of such a list is in it
pub ordered_up : (supers : List ℕ → List (List ℕ)) (ns : List (List ℕ)) (p above : List ℕ) (place : ℕ)
    → IsOrdered supers ns → Contains ns p → slice_get (supers p) place ≡ Some above → Contains ns above
unfolding IsOrdered
ordered_up supers [] p above place is there e = absurd (omega (arith, there.1))
ordered_up supers (n ∷ ns) p above place is there e = elim (Contains_cases n ns p there) [
  | inl same ↦ later_member n ns above (is.1 place above
      (subst (λ (x : List ℕ). slice_get (supers x) place ≡ Some above)
      (sym same) e))
  | inr later ↦ later_member n ns above (ordered_up supers ns p above place is.2 later e)
]

pub or_cases : (a b : Bool) → (a || b) ≡ true → (a ≡ true) ⊎ (b ≡ true)
or_cases true b e = inl refl
or_cases false b e = inr e

pub or_first : (a b : Bool) → a ≡ true → (a || b) ≡ true
or_first true b e = refl
or_first false b e = absurd (true≢false (sym e))

pub or_second : (a b : Bool) → b ≡ true → (a || b) ≡ true
or_second true b e = refl
or_second false b e = e

pub and_both : (a b : Bool) → a ≡ true → b ≡ true → (a && b) ≡ true
and_both true b d e = e
and_both false b d e = absurd (true≢false (sym d))

pub not_true : (b : Bool) → not b ≡ true → b ≡ false
not_true true e = absurd (true≢false (sym e))
not_true false e = refl

-- an interface with a superinterface method is one that offers it
module _ (name desc : List ℕ) where
  virtual_is : (o : Option Declared) → is_some (if_virtual o) ≡ is_virtual_some o
  virtual_is None = refl
  virtual_is (Some d) = by (is_virtual d) refl
    where
      by : (t : Bool) → is_virtual d ≡ t → is_some (cond (is_virtual d) (Some d) None) ≡ is_virtual d
      by true e = ap (λ (t : Bool). is_some (cond t (Some d) None)) e ∙ sym e
      by false e = ap (λ (t : Bool). is_some (cond t (Some d) None)) e ∙ sym e

  pub offer_is : (k : Option Known) → is_some (offer_some name desc k) ≡ offers name desc k
  offer_is None = refl
  offer_is (Some k) = by (is_interface_class k) refl
    where
      by : (t : Bool) → is_interface_class k ≡ t
          → is_some (cond (is_interface_class k) (if_virtual (declared name desc k)) None)
          ≡ (is_interface_class k && is_virtual_some (declared name desc k))
      by true e =
          ap (λ (t : Bool). is_some (cond t (if_virtual (declared name desc k)) None)) e
          ∙ virtual_is (declared name desc k) ∙ ap (λ (t : Bool). t && is_virtual_some (declared name desc k)) (sym e)
      by false e =
          ap (λ (t : Bool). is_some (cond t (if_virtual (declared name desc k)) None)) e
          ∙ ap (λ (t : Bool). t && is_virtual_some (declared name desc k)) (sym e)

  virtual_same : (o : Option Declared) (d : Declared) → if_virtual o ≡ Some d → o ≡ Some d
  virtual_same None d e = absurd (none-some d e)
  virtual_same (Some x) d e = by (is_virtual x) refl
    where
      by : (t : Bool) → is_virtual x ≡ t → Some x ≡ Some d
      by true h = sym (ap (λ (t : Bool). cond t (Some x) None) h) ∙ e
      by false h = absurd (none-some d (sym (ap (λ (t : Bool). cond t (Some x) None) h) ∙ e))

  pub offer_declared : (k : Option Known) (d : Declared) → offer_some name desc k ≡ Some d
      → declared_some name desc k ≡ Some d
  offer_declared None d e = absurd (none-some d e)
  offer_declared (Some k) d e = by (is_interface_class k) refl
    where
      by : (t : Bool) → is_interface_class k ≡ t → declared name desc k ≡ Some d
      by true h = virtual_same (declared name desc k) d
          (sym (ap (λ (t : Bool). cond t (if_virtual (declared name desc k)) None) h) ∙ e)
      by false h = absurd (none-some d
          (sym (ap (λ (t : Bool). cond t (if_virtual (declared name desc k)) None) h) ∙ e))
