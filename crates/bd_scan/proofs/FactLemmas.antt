-- What is put at the end for a method that was found.
use Rattle.std.proofs.Common.{◌≡◌, ℕ, Bool, List, [], ◌∷◌, ◌++◌, Option, Some, Result, OnOk, sym, subst}
use Rattle.jv_base.specs.declared.method.MethodId.{MethodId}
use Rattle.bd_scan.specs.declared.fact.Fact.{Fact}
use Rattle.bd_scan.specs.Facts.{float_if, called, refuses_method}
use Rattle.bd_scan.specs.Descriptors.{has_float}

module _ {A E : Type 0} (r : Result A E) (facts added new : List Fact) (pc : ℕ) (float : Bool) where
  -- one fact, and the refusal of a float
  put_two : (fact : Fact) (desc : List ℕ) → added ≡ facts ++ fact ∷ [] → float ≡ has_float desc
      → OnOk r (new ≡ added ++ float_if pc float) → OnOk r (new ≡ facts ++ fact ∷ [] ++ float_if pc (has_float desc))
  put_two fact desc one is put =
      let two = subst (λ (xs : List Fact). OnOk r (new ≡ xs ++ float_if pc float)) one put in
      subst (λ (b : Bool). OnOk r (new ≡ facts ++ fact ∷ [] ++ float_if pc b)) is two

  pub put_called : (fact : MethodId → Bool → Fact) (m : MethodId) (interface : Bool) (found : Option (MethodId × Bool))
      → found ≡ Some (m, interface) → added ≡ facts ++ fact m interface ∷ [] → float ≡ has_float m.desc
      → OnOk r (new ≡ added ++ float_if pc float) → OnOk r (new ≡ facts ++ called fact found ++ refuses_method pc found)
  put_called fact m interface found at one is put =
      subst (λ (o : Option (MethodId × Bool)). OnOk r (new ≡ facts ++ called fact o ++ refuses_method pc o)) (sym at)
      (put_two (fact m interface) m.desc one is put)
