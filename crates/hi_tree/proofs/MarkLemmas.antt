-- Marks.
use Rattle.std.proofs.Common.{◌≡◌, ℕ, Bool, true, false, cond, List, Some, ◌∙◌, ap}
use Rattle.std.specs.Map.{update}
use Rattle.std.specs.Str.{bytes_eq}
use Rattle.std.proofs.lemmas.Slice.Eq.{bytes_eq-Decides}
use Rattle.hi_tree.specs.Calls.Steps.{Marks, IsMarked}

pub marked_from : (old new : Marks) (name : List ℕ) (mark : Bool)
    → ((q : List ℕ) → new q ≡ update bytes_eq old name (Some mark) q) → IsMarked old name mark new
marked_from old new name mark updated = record {
  same = updated name ∙ ap (λ (t : Bool). cond t (Some mark) (old name)) ((bytes_eq-Decides name name).1 (λ i. name));
  other = λ q differs. by q differs (bytes_eq name q) (λ i. bytes_eq name q);
}
  where
    by : (q : List ℕ) → (name ≡ q → ⊥) → (t : Bool) → bytes_eq name q ≡ t → new q ≡ old q
    by q differs true e = absurd (differs ((bytes_eq-Decides name q).0 e))
    by q differs false e = updated q ∙ ap (λ (t : Bool). cond t (Some mark) (old q)) e
