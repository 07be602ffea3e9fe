-- Members that are put behind others, by one rule after the other.
use Rattle.std.proofs.Common.{◌≡◌, ◌⊎◌, ℕ, ◌<◌, ◌+◌, List, [], ◌∷◌, ◌++◌, length, get_or, map, take, Contains, Some}
use Rattle.std.proofs.Common.{None}
use Rattle.std.proofs.Common.{refl, sym, ap, subst, ◌∙◌, inl, inr, append_assoc}
use Rattle.std.proofs.lemmas.List.{append-nil}
use Rattle.std.proofs.lemmas.List.Elements.{Contains-append_left, Contains-append_right, Contains-append_cases}
use Rattle.std.proofs.lemmas.List.Elements.{Contains-push}
use Rattle.std.proofs.lemmas.List.Elements.{Contains-push_cases}
use Rattle.std.proofs.lemmas.Option.{none-some, same_Some}
use Rattle.jv_list.proofs.MemberLemmas.{none_member, one_member}
use Rattle.jv_list.proofs.PlaceLemmas.{take_with}
use Rattle.bd_core.specs.declared.member.Member.{Member}
use Rattle.bd_core.specs.Calls.Adds.{Adds, Each, Is, OfSome}

-- a rule of which nothing follows
pub adds_nothing : (rule : Member → Type 0) (old : List Member) → ((x : Member) → rule x → ⊥) → Adds rule old old
adds_nothing rule old none =
    record {
      more = [];
      grows = sym (append-nil old);
      exact = λ x. ((λ h. absurd (none_member x h)), (λ h. absurd (none x h)));
    }

-- one member
pub adds_one : (m : Member) (old new : List Member) → new ≡ old ++ m ∷ [] → Adds (Is m) old new
adds_one m old new e =
    record {
      more = m ∷ [];
      grows = e;
      exact = λ x. ((λ h. sym (one_member m x h)), (λ h. subst (Contains (m ∷ [])) (sym h) (Contains-push [] m)));
    }

-- an equal one
pub adds_is : (m n : Member) (old new : List Member) → m ≡ n → Adds (Is m) old new → Adds (Is n) old new
adds_is m n old new e adds = subst (λ k. Adds (Is k) old new) e adds

-- one rule and then another
pub adds_both : (R S : Member → Type 0) (a b c : List Member) → Adds R a b → Adds S b c → Adds (λ x. R x ⊎ S x) a c
adds_both R S a b c first second =
    record {
      more = first.more ++ second.more;
      grows = second.grows ∙ ap (λ (l : List Member). l ++ second.more) first.grows
          ∙ append_assoc a first.more second.more;
      exact = λ x. (
        (λ h. elim (Contains-append_cases first.more second.more x h)
            [ inl l ↦ inl ((first.exact x).0 l) | inr r ↦ inr ((second.exact x).0 r) ]),
        (λ h. elim h [
          | inl l ↦ Contains-append_left first.more second.more x ((first.exact x).1 l)
          | inr r ↦ Contains-append_right first.more second.more x ((second.exact x).1 r)
        ]),
      );
    }

-- a rule that says the same
pub adds_same : (R S : Member → Type 0) (a b : List Member) → ((x : Member) → R x → S x) → ((x : Member) → S x → R x)
    → Adds R a b → Adds S a b
adds_same R S a b to from adds =
    record {
      more = adds.more;
      grows = adds.grows;
      exact = λ x. ((λ h. to x ((adds.exact x).0 h)), (λ h. (adds.exact x).1 (from x h)));
    }

-- what an option has
pub adds_some : {A : Type 0} (a : A) (rule : A → Member → Type 0) (old new : List Member) → Adds (rule a) old new
    → Adds (OfSome (Some a) rule) old new
adds_some a rule old new adds =
    adds_same (rule a) (OfSome (Some a) rule) old new (λ x h. (a, refl, h))
    (λ x h. subst (λ b. rule b x) (sym (same_Some a h.0 h.1)) h.2) adds

pub adds_none : {A : Type 0} (rule : A → Member → Type 0) (old : List Member) → Adds (OfSome None rule) old old
adds_none rule old = adds_nothing (OfSome None rule) old (λ x h. none-some h.0 h.1)

-- a part of a rule that holds or does not
pub adds_where : (P : Type 0) (R : Member → Type 0) (old new : List Member) → P → Adds R old new
    → Adds (λ x. P × R x) old new
adds_where P R old new p adds = adds_same R (λ x. P × R x) old new (λ x h. (p, h)) (λ x h. h.1) adds

pub adds_unless : (P : Type 0) (R : Member → Type 0) (old : List Member) → (P → ⊥) → Adds (λ x. P × R x) old old
adds_unless P R old none = adds_nothing (λ x. P × R x) old (λ x h. none h.0)

-- members that are made of the items of a list
module _ {A : Type 0} (make : A → Member) where
  abbrev pub MadeOf : List A → Member → Type 0
  MadeOf items x = (i : A) × Contains items i × (x ≡ make i)

  mapped : (items : List A) (x : Member) → Contains (map make items) x → MadeOf items x
  mapped [] x h = absurd (none_member x h)
  mapped (i ∷ items) x h =
      elim (Contains-append_cases (make i ∷ []) (map make items) x h) [
        | inl one ↦ (i, Contains-append_left (i ∷ []) items i (Contains-push [] i), sym (one_member (make i) x one))
        | inr more ↦ let m = mapped items x more in (m.0, Contains-append_right (i ∷ []) items m.0 m.1, m.2)
      ]

  to_mapped : (items : List A) (i : A) → Contains items i → Contains (map make items) (make i)
  to_mapped [] i h = absurd (none_member i h)
  to_mapped (j ∷ items) i h =
      elim (Contains-append_cases (j ∷ []) items i h) [
        | inl one ↦ Contains-append_left (make j ∷ []) (map make items) (make i)
            (subst (λ k. Contains (make j ∷ []) (make k)) (one_member j i one) (Contains-push [] (make j)))
        | inr more ↦ Contains-append_right (make j ∷ []) (map make items) (make i) (to_mapped items i more)
      ]

  pub adds_map : (items : List A) (old new : List Member) → new ≡ old ++ map make items → Adds (MadeOf items) old new
  adds_map items old new e =
      record {
        more = map make items;
        grows = e;
        exact = λ x. (
          (λ h. mapped items x h),
          (λ h. subst (Contains (map make items)) (sym h.2) (to_mapped items h.0 h.1)),
        );
      }

-- the items of a list, one after the other
module _ {A : Type 0} (rule : A → Member → Type 0) where
  pub each_start : (items : List A) (old : List Member) → items ≡ [] → Adds (Each items rule) old old
  each_start items old e =
      adds_nothing (Each items rule) old (λ x h. none_member h.0 (subst (λ l. Contains l h.0) e h.1))

  pub each_step : (items : List A) (n : ℕ) (i : A) (a b c : List Member) → n < length items → i ≡ get_or items n i
      → Adds (Each (take n items) rule) a b → Adds (rule i) b c → Adds (Each (take (n + 1) items) rule) a c
  each_step items n i a b c within e first second =
      let whole : take (n + 1) items ≡ take n items ++ i ∷ [] = take_with items n i within e in
      adds_same (λ x. Each (take n items) rule x ⊎ rule i x) (Each (take (n + 1) items) rule) a c
      (λ x h. elim h [
        | inl l ↦ (
          l.0,
          subst (λ s. Contains s l.0) (sym whole)
              (Contains-append_left (take n items) (i ∷ []) l.0 l.1),
          l.2,
        )
        | inr r ↦ (i, subst (λ s. Contains s i) (sym whole) (Contains-push (take n items) i), r)
      ])
      (λ x h. elim (Contains-push_cases (take n items) i h.0 (subst (λ s. Contains s h.0) whole h.1))
      [ inl l ↦ inl (h.0, l, h.2) | inr r ↦ inr (subst (λ k. rule k x) (sym r) h.2) ])
      (adds_both (Each (take n items) rule) (rule i) a b c first second)
