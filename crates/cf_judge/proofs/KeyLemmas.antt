-- Members with one name and one descriptor have one key.
use Rattle.std.proofs.Common.{◌≡◌, ℕ, List, [], ◌∷◌, ◌++◌, Bool, true, false, not, ◌&&◌, cond, Option, Some, None}
use Rattle.std.proofs.Common.{refl, sym, ap, ◌∙◌, subst, inl, inr, arith, IsTrue, ◌↔◌, nat_eq}
use Rattle.std.specs.Prelude.{slice_get}
use Rattle.std.specs.List.{Contains, list_any}
use Rattle.std.specs.HashSet.{HashSet}
use Rattle.std.proofs.lemmas.Bool.{false≢true}
use Rattle.std.proofs.lemmas.List.Elements.{Contains-append_left, Contains-push, Contains-push_cases}
use Rattle.std.proofs.lemmas.Bool.Decides.{Decides-eqb}
use Rattle.cf_pool.specs.declared.entry.PoolEntry.{PoolEntry}
use Rattle.cf_pool.specs.declared.entry.PoolEntry.TheVariants.{Utf8}
use Rattle.cf_structure.specs.Raw.{RawMember}
use Rattle.cf_judge.specs.declared.member.Key.{Key}
use Rattle.cf_judge.specs.declared.text.Text.{Text}
use Rattle.cf_judge.specs.Forms.{HasText, HaveOneText}
use Rattle.cf_judge.specs.Texts.{IsFirstIndex, IsTextOf, AreTexts}
use Rattle.cf_judge.specs.Judged.{IsSecond}
use Rattle.jv_list.proofs.MemberLemmas.{none_member}
use Rattle.cf_judge.specs.Calls.Keys.{IsKeyOf, AreSeen, has_key, is_same}

or_true : (b x : Bool) → IsTrue x → IsTrue (cond b true x)
or_true true x t = refl
or_true false x t = t

both : (x y : Bool) → (x && y) ≡ true → (x ≡ true) × (y ≡ true)
both true y e = (refl, e)
both false y e = absurd (false≢true e)

parts_same : (a b c d : ℕ) → (nat_eq a c && nat_eq b d) ≡ true → (a ≡ c) × (b ≡ d)
parts_same a b c d e =
    let tests = both (nat_eq a c) (nat_eq b d) e in
    ((Decides-eqb a c).0 tests.0, (Decides-eqb b d).0 tests.1)

same_parts : (a b c d : ℕ) → a ≡ c → b ≡ d → (nat_eq a c && nat_eq b d) ≡ true
same_parts a b c d e f = rw ((Decides-eqb a c).1 e, (Decides-eqb b d).1 f) refl

-- a test that is turned round twice
pub twice : (b : Bool) (P : Type 0) → (IsTrue b ↔ P) → IsTrue (not (not b)) ↔ P
twice true P ways = ways
twice false P ways = ways

module _ (pool : List PoolEntry) where
  same_units : (a b : List ℕ) → Some (Utf8 a) ≡ Some (Utf8 b) → a ≡ b
  same_units a b e = cc

  -- one text stands at an index
  one_text : (i : ℕ) (a b : List ℕ) → HasText pool i a → HasText pool i b → a ≡ b
  one_text i a b x y = same_units a b (sym x ∙ y)

  one_first : (a b : List ℕ) (i j : ℕ) → a ≡ b → IsFirstIndex pool a i → IsFirstIndex pool b j → i ≡ j
  one_first a b i j e x y =
      let at_j : HasText pool j a = subst (HasText pool j) (sym e) y.stands in
      let at_i : HasText pool i b = subst (HasText pool i) e x.stands in
      omega (arith, x.least j at_j, y.least i at_i)

  -- a member has one key
  one_key : (m : RawMember) (a b c d : ℕ) → IsKeyOf pool m a b → IsKeyOf pool m c d → (a ≡ c) × (b ≡ d)
  one_key m a b c d x y = (
    one_first x.name_units y.name_units a c (one_text m.name x.name_units y.name_units x.has_name y.has_name)
        x.first_name y.first_name,
    one_first x.desc_units y.desc_units b d (one_text m.desc x.desc_units y.desc_units x.has_desc y.has_desc)
        x.first_desc y.first_desc,
  )

  module _ (other m : RawMember) (name desc : ℕ) where
    -- with one key two members have one name and one descriptor
    names_same : IsKeyOf pool other name desc → IsKeyOf pool m name desc
        → HaveOneText pool other.name m.name × HaveOneText pool other.desc m.desc
    names_same x y =
        let n = one_text name y.name_units x.name_units y.first_name.stands x.first_name.stands in
        let d = one_text desc y.desc_units x.desc_units y.first_desc.stands x.first_desc.stands in (
          (x.name_units, x.has_name, subst (HasText pool m.name) n y.has_name),
          (x.desc_units, x.has_desc, subst (HasText pool m.desc) d y.has_desc),
        )

    -- with one name and one descriptor they have one key
    key_same : HaveOneText pool other.name m.name → HaveOneText pool other.desc m.desc → IsKeyOf pool m name desc
        → IsKeyOf pool other name desc
    key_same n d k = record {
      name_units = k.name_units;
      desc_units = k.desc_units;
      has_name = subst (HasText pool other.name) (one_text m.name n.0 k.name_units n.2 k.has_name) n.1;
      has_desc = subst (HasText pool other.desc) (one_text m.desc d.0 k.desc_units d.2 k.has_desc) d.1;
      first_name = k.first_name;
      first_desc = k.first_desc;
    }

  -- the texts tell where one first stands
  first_of : (units : List ℕ) (e : Option PoolEntry) (t : Option (Option Text)) → e ≡ Some (Utf8 units)
      → IsTextOf pool e t → (first : ℕ) × IsFirstIndex pool units first
  first_of units e (Some (Some t)) is h =
      let at = subst (λ (x : Option PoolEntry). IsTextOf pool x (Some (Some t))) is h in
      (t.first, at.first)
  first_of units e (Some None) is h = absurd (subst (λ (x : Option PoolEntry). IsTextOf pool x (Some None)) is h)
  first_of units e None is h = absurd (subst (λ (x : Option PoolEntry). IsTextOf pool x None) is h)

  module _ (texts : List (Option Text)) (are : AreTexts pool texts) (earlier : List RawMember) (m : RawMember) where
    -- a member with an earlier one's name and descriptor has a key
    pub has_some_key : IsSecond pool earlier m → (name : ℕ) × (desc : ℕ) × IsKeyOf pool m name desc
    has_some_key second =
        let n = second.name in
        let d = second.desc in
        let i = first_of n.0 (slice_get pool m.name) (slice_get texts m.name) n.2 (are m.name) in
        let j = first_of d.0 (slice_get pool m.desc) (slice_get texts m.desc) d.2 (are m.desc) in (
          i.0,
          j.0,
          record {
            name_units = n.0;
            desc_units = d.0;
            has_name = n.2;
            has_desc = d.2;
            first_name = i.1;
            first_desc = j.1;
          },
        )

  module _ {S : Type 0} (earlier : List RawMember) (m : RawMember) (seen : HashSet Key S)
      (are : AreSeen pool earlier seen)
      (name desc : ℕ) (key : IsKeyOf pool m name desc) where
    -- a member whose key was seen is a second one
    pub seen_second : IsTrue (has_key seen name desc) ↔ IsSecond pool earlier m
    seen_second = (
      λ t. let other = (are name desc).0 t in
          let same = names_same other.0 m name desc other.2 key in
          record { other = other.0; is_earlier = other.1; name = same.0; desc = same.1 },
      λ second. (are name desc).1 (
        second.other,
        second.is_earlier,
        key_same second.other m name desc second.name second.desc key,
      ),
    )

  module _ {S : Type 0} (earlier : List RawMember) (m : RawMember) (old : HashSet Key S)
      (are : AreSeen pool earlier old)
    where
      before : (n d : ℕ) → IsTrue (has_key old n d)
          → (x : RawMember) × Contains (earlier ++ m ∷ []) x × IsKeyOf pool x n d
      before n d t =
          let other = (are n d).0 t in
          (other.0, Contains-append_left earlier (m ∷ []) other.0 other.1, other.2)

      -- where a member has no key, those of the others are seen
      pub seen_still : ((name desc : ℕ) → IsKeyOf pool m name desc → ⊥) → AreSeen pool (earlier ++ m ∷ []) old
      seen_still none = λ n d. (
        before n d,
        λ other. elim (Contains-push_cases earlier m other.0 other.1) [
          | inl is_earlier ↦ (are n d).1 (other.0, is_earlier, other.2)
          | inr same ↦ absurd (none n d (subst (λ (x : RawMember). IsKeyOf pool x n d) (sym same) other.2))
        ],
      )

      module _ (new : HashSet Key S) (name desc : ℕ) (key : IsKeyOf pool m name desc)
          (updates : (n d : ℕ) → has_key new n d ≡ cond (nat_eq name n && nat_eq desc d) true (has_key old n d)) where
        by_test : (n d : ℕ) (b : Bool) → (nat_eq name n && nat_eq desc d) ≡ b → IsTrue (cond b true (has_key old n d))
            → (x : RawMember) × Contains (earlier ++ m ∷ []) x × IsKeyOf pool x n d
        by_test n d true e t =
            let same = parts_same name desc n d e in (
              m,
              Contains-push earlier m,
              subst (λ (k : ℕ). IsKeyOf pool m n k) same.1 (subst (λ (k : ℕ). IsKeyOf pool m k desc) same.0 key),
            )
        by_test n d false e t = before n d t

        -- with its key those of all members are seen
        pub seen_more : AreSeen pool (earlier ++ m ∷ []) new
        seen_more = λ n d. (
          λ t. by_test n d (nat_eq name n && nat_eq desc d) refl (rw (updates n d) at t),
          λ other. elim (Contains-push_cases earlier m other.0 other.1) [
            | inl is_earlier ↦
                updates n d ∙ or_true (nat_eq name n && nat_eq desc d) (has_key old n d)
                ((are n d).1 (other.0, is_earlier, other.2))
            | inr same ↦
                let of_m = subst (λ (x : RawMember). IsKeyOf pool x n d) (sym same) other.2 in
                let one = one_key m name desc n d key of_m in
                updates n d ∙ ap (λ (b : Bool). cond b true (has_key old n d)) (same_parts name desc n d one.0 one.1)
          ],
        )

  abbrev key_at : ℕ → ℕ → Key
  key_at name desc = record { name = name; desc = desc }

  -- a set without keys has those of no members
  pub none_seen : {S : Type 0} (seen : HashSet Key S) → seen.keys ≡ [] → AreSeen pool [] seen
  none_seen seen empty = λ n d. (
    λ t. absurd (false≢true (subst (λ (keys : List Key). list_any (is_same (key_at n d)) keys ≡ true) empty t)),
    λ other. absurd (none_member other.0 other.1),
  )
