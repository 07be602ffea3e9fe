-- What holds of all elements of a list, of its parts and of what is made of it.
use Rattle.std.proofs.Common.{◌≡◌, List, [], ◌∷◌, ◌++◌, map, refl}
use Rattle.std.specs.List.{flat_map, AllByRecursion}
use Rattle.jv_list.proofs.FirstLemmas.{all_front, all_append}

module _ {A : Type 0} (P : A → Type 0) where
  pub all_behind : (xs ys : List A) → AllByRecursion P (xs ++ ys) → AllByRecursion P ys
  all_behind [] ys h = h
  all_behind (x ∷ xs) ys h = all_behind xs ys h.1

  -- what holds of the elements of all parts holds of those of each
  pub all_parts : {B : Type 0} (parts : B → List A) (bs : List B) → AllByRecursion P (flat_map parts bs)
      → AllByRecursion (λ b. AllByRecursion P (parts b)) bs
  all_parts parts [] h = tt
  all_parts parts (b ∷ bs) h =
      let others : List A = flat_map parts bs in
      (all_front P (parts b) others h, all_parts parts bs (all_behind (parts b) others h))

  -- and the other way round, where what holds of a part makes it hold of its elements
  pub all_flat : {B : Type 0} (F : B → Type 0) (parts : B → List A) → ((b : B) → F b → AllByRecursion P (parts b))
      → (bs : List B) → AllByRecursion F bs
      → AllByRecursion P (flat_map parts bs)
  all_flat F parts each [] h = tt
  all_flat F parts each (b ∷ bs) h =
      all_append P (parts b) (flat_map parts bs) (each b h.0) (all_flat F parts each bs h.1)

  pub all_mapped : {B : Type 0} (f : B → A) (bs : List B) → AllByRecursion (λ b. P (f b)) bs
      → AllByRecursion P (map f bs)
  all_mapped f [] h = tt
  all_mapped f (b ∷ bs) h = (h.0, all_mapped f bs h.1)

  pub all_unmapped : {B : Type 0} (f : B → A) (bs : List B) → AllByRecursion P (map f bs)
      → AllByRecursion (λ b. P (f b)) bs
  all_unmapped f [] h = tt
  all_unmapped f (b ∷ bs) h = (h.0, all_unmapped f bs h.1)

  -- what follows of each element
  pub all_from : (Q : A → Type 0) (xs : List A) → AllByRecursion (λ x. P x → Q x) xs → AllByRecursion P xs
      → AllByRecursion Q xs
  all_from Q [] f h = tt
  all_from Q (x ∷ xs) f h = (f.0 h.0, all_from Q xs f.1 h.1)

pub all_unit : {A : Type 0} (xs : List A) → AllByRecursion (λ x. Unit {0}) xs
all_unit [] = tt
all_unit (x ∷ xs) = (tt, all_unit xs)

-- what is the same, one behind the other
pub joined_same : {A : Type 0} (a b x y : List A) → a ≡ x → b ≡ y → a ++ b ≡ x ++ y
joined_same a b x y e f = rw (e, f) refl
