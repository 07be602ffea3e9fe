-- Items that are taken into a set, one after the other.
use Rattle.std.proofs.Common.{◌≡◌, Bool, true, false, List, [], ◌∷◌, ◌++◌, map, Contains, if◌then◌else◌}
use Rattle.std.proofs.Common.{refl, sym, ap, subst, ◌∙◌, inl, inr, append_assoc}
use Rattle.std.specs.Prelude.{Option, Result, Ok, Err, OnOk, MatchResult}
use Rattle.std.specs.Iterator.{Drains}
use Rattle.std.specs.Iterator.Runs.{YieldsInOrder}
use Rattle.std.specs.List.{list_any}
use Rattle.std.proofs.lemmas.List.{append-nil, map-append}
use Rattle.std.proofs.lemmas.List.Elements.{Contains-append_left, Contains-append_cases}
use Rattle.indexmap.specs.IndexSet.{insert_key, insert_all}
use Rattle.indexmap.proofs.CallerLemmas.{Contains-insert_key, Drains-YieldsInOrder}
use Rattle.jv_list.proofs.MemberLemmas.{none_member, one_member, member_cases, first_member, later_member}
use Rattle.jv_list.proofs.MemberLemmas.{in_map, from_map}
use Rattle.hi_inputs.specs.Calls.Sets.{Takes}

module _ {A : Type 0} where
  takes_none : (old : List A) → Takes old [] old
  takes_none old = record {
    more = [];
    grows = sym (append-nil old);
    among = λ x h. absurd (none_member x h);
    covers = λ x h. absurd (none_member x h);
  }

  -- one item, and then others
  takes_more : (old mid new : List A) (item : A) (items : List A) → Takes old (item ∷ []) mid → Takes mid items new
      → Takes old (item ∷ items) new
  takes_more old mid new item items s t = record {
    more = s.more ++ t.more;
    grows = t.grows ∙ ap (λ l. l ++ t.more) s.grows ∙ append_assoc old s.more t.more;
    among = λ x h. elim (Contains-append_cases s.more t.more x h) [
      | inl l ↦ subst (Contains (item ∷ items)) (one_member item x (s.among x l)) (first_member item items)
      | inr r ↦ later_member item items x (t.among x r)
    ];
    covers = λ x h. elim (member_cases item items x h) [
      | inl e ↦
          subst (λ l. Contains l x) (sym t.grows)
          (Contains-append_left mid t.more x (s.covers x (subst (Contains (item ∷ [])) e (first_member item []))))
      | inr r ↦ t.covers x r
    ];
  }

  module _ (eq : A → A → Bool) (same : (x y : A) → eq x y ≡ true → x ≡ y) where
    takes_one : (old : List A) (item : A) → Takes old (item ∷ []) (insert_key eq old item)
    takes_one old item = by (list_any (eq item) old) refl
      where
        there : (x : A) → Contains (item ∷ []) x → Contains (insert_key eq old item) x
        there x h =
            subst (Contains (insert_key eq old item)) (one_member item x h)
            (Contains-insert_key eq same old item)

        by : (b : Bool) → list_any (eq item) old ≡ b → Takes old (item ∷ []) (insert_key eq old item)
        by true e = record {
          more = [];
          grows = ap (λ b. if b then old else old ++ item ∷ []) e ∙ sym (append-nil old);
          among = λ x h. absurd (none_member x h);
          covers = there;
        }
        by false e = record {
          more = item ∷ [];
          grows = ap (λ b. if b then old else old ++ item ∷ []) e;
          among = λ x h. h;
          covers = there;
        }

    pub takes_all : (items old : List A) → Takes old items (insert_all eq old items)
    takes_all [] old = takes_none old
    takes_all (x ∷ xs) old =
        takes_more old (insert_key eq old x) (insert_all eq old (x ∷ xs)) x xs (takes_one old x)
        (takes_all xs (insert_key eq old x))

    pub takes_these : (old items new : List A) → new ≡ insert_all eq old items → Takes old items new
    takes_these old items new e = subst (Takes old items) (sym e) (takes_all items old)

    module _ {S : Type 0} (steps : S → Option A → S → Type 0) (rest : S → List A) (it : S) (xs old items new : List A)
      where
        -- what an `extend` by a list took in
        pub drained : YieldsInOrder steps rest → rest it ≡ items → new ≡ insert_all eq old xs → Drains steps it xs
            → Takes old items new
        drained runs is e drains =
            takes_these old items new
            (e ∙ ap (λ l. insert_all eq old l) (Drains-YieldsInOrder steps rest it xs runs drains ∙ is))

        -- where memory suffices
        pub extended : {E : Type 0} (given : E → Type 0) (r : Result (Unit {0}) E) → YieldsInOrder steps rest
            → rest it ≡ items → new ≡ insert_all eq old xs → MatchResult r (λ _. Drains steps it xs) given
            → OnOk r (Takes old items new)
        extended given (Ok u) runs is e drains = drained runs is e drains
        extended given (Err f) runs is e fails = tt

  -- by what the items are seen as
  pub takes_seen : {B : Type 0} (f : A → B) (old items new : List A) → Takes old items new
      → Takes (map f old) (map f items) (map f new)
  takes_seen f old items new t = record {
    more = map f t.more;
    grows = ap (map f) t.grows ∙ map-append f old t.more;
    among = λ y h.
        let p = from_map f t.more y h in
        subst (Contains (map f items)) p.2 (in_map f items p.0 (t.among p.0 p.1));
    covers = λ y h.
        let p = from_map f items y h in
        subst (Contains (map f new)) p.2 (in_map f new p.0 (t.covers p.0 p.1));
  }
