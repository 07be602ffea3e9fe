-- Lists that begin with the instructions of Codes.
use Rattle.std.proofs.Common.{◌≡◌, ◌<◌, List, [], ◌∷◌, ◌++◌, length, drop, sym, subst, ap, arith}
use Rattle.std.specs.List.{AllZip}
use Rattle.cf_structure.specs.Raw.{RawCode}
use Rattle.cf_code.specs.declared.code.Placed.{Placed}
use Rattle.cf_code.specs.Decoding.{IsCode}
use Rattle.cf_class.specs.Calls.Contents.{HaveBodies}

pub have_front : (cs ds : List RawCode) (bs : List (List Placed)) → HaveBodies (cs ++ ds) bs → HaveBodies cs bs
unfolding HaveBodies
have_front [] ds bs h = tt
have_front (c ∷ cs) ds [] h = absurd h
have_front (c ∷ cs) ds (b ∷ bs) h = (h.0, have_front cs ds bs h.1)

pub have_behind : (cs ds : List RawCode) (bs : List (List Placed)) → HaveBodies (cs ++ ds) bs
    → HaveBodies ds (drop (length cs) bs)
unfolding HaveBodies
have_behind [] ds bs h = h
have_behind (c ∷ cs) ds [] h = absurd h
have_behind (c ∷ cs) ds (b ∷ bs) h = have_behind cs ds bs h.1

pub have_all : (cs : List RawCode) (bs : List (List Placed)) → AllZip (λ c b. IsCode c.code b) cs bs → HaveBodies cs bs
unfolding HaveBodies
have_all [] bs h = tt
have_all (c ∷ cs) [] h = absurd h
have_all (c ∷ cs) (b ∷ bs) h = (h.0, have_all cs bs h.1)

module _ (c : RawCode) where
  pub some_body : (bs : List (List Placed)) → HaveBodies (c ∷ []) bs → 0 < length bs
  unfolding HaveBodies
  some_body [] h = absurd h
  some_body (b ∷ bs) h = omega arith

  pub first_body : (old now : List (List Placed)) (body : List Placed) → HaveBodies (c ∷ []) old → old ≡ body ∷ now
      → IsCode c.code body
  unfolding HaveBodies
  first_body old now body h e =
      let parts : HaveBodies (c ∷ []) (body ∷ now) = subst (HaveBodies (c ∷ [])) e h in
      parts.0

pub body_left : (old now : List (List Placed)) (body : List Placed) → old ≡ body ∷ now → now ≡ drop 1 old
body_left old now body e = sym (ap (drop 1) e)

-- the instructions of the Codes of three parts, taken one part after the other
module _ (xs ys zs : List RawCode) (all : List (List Placed)) (h : HaveBodies (xs ++ (ys ++ zs)) all) where
  pub first_part : HaveBodies xs all
  first_part = have_front xs (ys ++ zs) all h

  module _ (second : List (List Placed)) (second_is : second ≡ drop (length xs) all) where
    others : HaveBodies (ys ++ zs) second
    others = subst (HaveBodies (ys ++ zs)) (sym second_is) (have_behind xs (ys ++ zs) all h)

    pub second_part : HaveBodies ys second
    second_part = have_front ys zs second others

    pub third_part : (third : List (List Placed)) → third ≡ drop (length ys) second → HaveBodies zs third
    third_part third third_is = subst (HaveBodies zs) (sym third_is) (have_behind ys zs second others)
