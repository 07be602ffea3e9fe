-- Lists to which pieces are added, one after the other.
use Rattle.std.proofs.Common.{◌≡◌, ℕ, ◌-◌, List, [], ◌∷◌, ◌++◌, length, take, drop, refl, sym, ap, ◌∙◌, append_assoc}
use Rattle.std.proofs.lemmas.List.{take-append-drop, take_rest}

module _ {X : Type 0} where
  -- two pieces
  pub two_pieces : (o a b x y : List X) → x ≡ o ++ a → y ≡ x ++ b → y ≡ o ++ (a ++ b)
  two_pieces o a b x y e f = f ∙ ap (λ (s : List X). s ++ b) e ∙ append_assoc o a b

  -- three pieces
  pub three_pieces : (o a b c x y z : List X) → x ≡ o ++ a → y ≡ x ++ b → z ≡ y ++ c → z ≡ o ++ ((a ++ b) ++ c)
  three_pieces o a b c x y z e f g = two_pieces o (a ++ b) c y z (two_pieces o a b x y e f) g

  -- four pieces
  pub four_pieces : (o a b c d w x y z : List X) → w ≡ o ++ a → x ≡ w ++ b → y ≡ x ++ c → z ≡ y ++ d
      → z ≡ o ++ (((a ++ b) ++ c) ++ d)
  four_pieces o a b c d w x y z e f g h = two_pieces o ((a ++ b) ++ c) d y z (three_pieces o a b c w x y e f g) h

  -- five pieces
  pub five_pieces : (o a b c d e v w x y z : List X) → v ≡ o ++ a → w ≡ v ++ b → x ≡ w ++ c → y ≡ x ++ d → z ≡ y ++ e
      → z ≡ o ++ ((((a ++ b) ++ c) ++ d) ++ e)
  five_pieces o a b c d e v w x y z p q r s t =
      two_pieces o (((a ++ b) ++ c) ++ d) e y z (four_pieces o a b c d v w x y p q r s) t

  -- a front and what is behind it are the whole
  pub split_whole : (n : ℕ) (rest front back : List X) → front ≡ take n rest → back ≡ drop n rest → rest ≡ front ++ back
  split_whole n rest front back e f =
      sym (take-append-drop n rest) ∙ ap (λ (s : List X). s ++ drop n rest) (sym e)
      ∙ ap (λ (s : List X). front ++ s) (sym f)

  -- the next elements of the rest move to the front; the others are the rest that is left
  pub moves_front : (all done rest : List X) (n : ℕ) → all ≡ done ++ rest
      → all ≡ (done ++ take n rest) ++ take (length rest - n) (drop n rest)
  moves_front all done rest n e =
      e ∙ ap (λ (s : List X). done ++ s) (sym (take-append-drop n rest))
      ∙ sym (append_assoc done (take n rest) (drop n rest))
      ∙ ap (λ (s : List X). (done ++ take n rest) ++ s) (sym (take_rest rest n))

  -- what is left from a place on
  pub rest_is : (xs : List X) (pc at : ℕ) → at ≡ pc → take (length xs - at) (drop at xs) ≡ drop pc xs
  rest_is xs pc at e = take_rest xs at ∙ ap (λ (n : ℕ). drop n xs) e

  -- what stands in front of a whole, and what stands behind that
  pub take_front : (xs ys : List X) → take (length xs) (xs ++ ys) ≡ xs
  take_front [] ys = refl
  take_front (x ∷ xs) ys = ap (λ (l : List X). x ∷ l) (take_front xs ys)

  pub drop_front : (xs ys : List X) → drop (length xs) (xs ++ ys) ≡ ys
  drop_front [] ys = refl
  drop_front (x ∷ xs) ys = drop_front xs ys
