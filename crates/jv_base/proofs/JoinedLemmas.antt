-- How far a text is the front of one that a mark parts.
use Rattle.std.proofs.Common.{◌≡◌, ◌≢◌, ℕ, ◌+◌, ◌-◌, ◌<◌, ◌≤◌, List, ◌∷◌, ◌++◌, length, take, sym, ap, subst, ◌∙◌}
use Rattle.std.proofs.Common.{append_assoc, arith, inl, inr}
use Rattle.std.specs.List.{All}
use Rattle.std.proofs.lemmas.Bool.{cases_lt}
use Rattle.std.proofs.lemmas.List.{length-append, take-append-le}
use Rattle.std.proofs.lemmas.List.Elements.{All-append, All-cons, All-take}
use Rattle.jv_base.specs.Front.{Begins}
use Rattle.jv_base.specs.Calls.Fronts.{IsLongestFront, Joined, LeavesAt}
use Rattle.jv_list.proofs.CutLemmas.{cut_same, not_without, before_mark, take_past}

-- what holds of all bytes on both sides, and of the mark
pub joined_all : (P : ℕ → Type 0) (mark : ℕ) (first second : List ℕ → Type 0) → P mark
    → ((a : List ℕ) → first a → All P a) → ((b : List ℕ) → second b → All P b)
    → (text : List ℕ) → Joined mark first second text → All P text
joined_all P mark first second at left right text h =
    subst (λ (t : List ℕ). All P t) (sym h.4)
    (All-append P h.0 (mark ∷ h.1) (left h.0 h.2) (All-cons P mark h.1 at (right h.1 h.3)))

-- a mark parts two grammars: it stands in no text of the first, and the second has a text
pub record IsParting (mark : ℕ) (first second : List ℕ → Type 0) : Type 0 where
  pub free : (a : List ℕ) → first a → All (λ b. b ≢ mark) a
  pub some : List ℕ
  pub valid : second some

module _ {mark : ℕ} {first second : List ℕ → Type 0} (p : IsParting mark first second) where
  -- what begins the first grammar begins the whole
  begins_first : (front : List ℕ) → Begins first front → Begins (Joined mark first second) front
  begins_first front h =
      (h.0 ++ mark ∷ p.some, (front ++ h.0, p.some, h.1, p.valid, sym (append_assoc front h.0 (mark ∷ p.some))))

  -- without a mark, what begins the whole begins the first grammar
  first_begins : (front : List ℕ) → All (λ b. b ≢ mark) front → Begins (Joined mark first second) front
      → Begins first front
  first_begins front none (rest, (x, y, fx, sy, e)) =
      let found = before_mark mark front rest x y none e in
      (found.0, subst first found.1 fx)

  -- the text has no mark
  pub alone : (text : List ℕ) (place at count : ℕ) → All (λ b. b ≢ mark) text → at ≡ place + count
      → IsLongestFront first text count → LeavesAt (Joined mark first second) text place at
  alone text place at count none sum h = record {
    outside = λ j. not_without mark j.0 j.1 text j.4 none;
    count = count;
    sum = sum;
    front = record {
      within = h.within;
      begins = begins_first (take count text) h.begins;
      longest = λ more lt le k.
          let part = All-take (λ b. b ≢ mark) more text none in
          h.longest more lt le (first_begins (take more text) part k);
    };
  }

  module _ (text a after : List ℕ) (e : text ≡ a ++ mark ∷ after) where
    size : length text ≡ length a + length (mark ∷ after)
    size = ap length e ∙ length-append a (mark ∷ after)

    -- a front that goes past the mark
    past : (more : ℕ) → length a < more → take more text ≡ a ++ mark ∷ take (more - length a - 1) after
    past more lt =
        ap (λ (t : List ℕ). take more t) e ∙ ap (λ (m : ℕ). take m (a ++ mark ∷ after)) (omega arith)
        ∙ take_past mark a after (more - length a - 1)

    past_parts : (more : ℕ) → length a < more → (rest x y : List ℕ) → take more text ++ rest ≡ x ++ mark ∷ y
        → a ++ mark ∷ (take (more - length a - 1) after ++ rest) ≡ x ++ mark ∷ y
    past_parts more lt rest x y k =
        let n : ℕ = more - length a - 1 in
        sym (append_assoc a (mark ∷ take n after) rest) ∙ ap (λ (t : List ℕ). t ++ rest) (sym (past more lt)) ∙ k

    module _ (none : All (λ b. b ≢ mark) a) where
      past_first : (more : ℕ) → length a < more → Begins (Joined mark first second) (take more text) → first a
      past_first more lt (rest, (x, y, fx, sy, k)) =
          let n : ℕ = more - length a - 1 in
          let same = cut_same mark a x (take n after ++ rest) y none (p.free x fx) (past_parts more lt rest x y k) in
          subst first (sym same.0) fx

      short : (n : ℕ) → n ≤ length a → take n text ≡ take n a
      short n le = ap (λ (t : List ℕ). take n t) e ∙ take-append-le n a (mark ∷ after) le

      in_front : (count : ℕ) → (first a → ⊥) → IsLongestFront first a count
          → IsLongestFront (Joined mark first second) text count
      in_front count other h = record {
        within = omega (arith, size, h.within);
        begins = subst (Begins (Joined mark first second)) (sym (short count h.within))
            (begins_first (take count a) h.begins);
        longest = λ more lt le k. elim (cases_lt (length a) more) [
          | inl above ↦ other (past_first more above k)
          | inr within ↦
              let part = All-take (λ b. b ≢ mark) more a none in
              let begun = subst (Begins (Joined mark first second)) (short more within) k in
              h.longest more lt within (first_begins (take more a) part begun)
        ];
      }

      -- what is before the mark is not in the first grammar
      pub in_first : (place at : ℕ) → LeavesAt first a place at → LeavesAt (Joined mark first second) text place at
      in_first place at h = record {
        outside = λ j.
            let same = cut_same mark a j.0 after j.1 none (p.free j.0 j.2) (sym e ∙ j.4) in
            h.outside (subst first (sym same.0) j.2);
        count = h.count;
        sum = h.sum;
        front = in_front h.count h.outside h.front;
      }

    module _ (is : first a) where
      past_second : (more : ℕ) → length a < more → Begins (Joined mark first second) (take more text)
          → Begins second (take (more - length a - 1) after)
      past_second more lt (rest, (x, y, fx, sy, k)) =
          let n : ℕ = more - length a - 1 in
          let whole = past_parts more lt rest x y k in
          let same = cut_same mark a x (take n after ++ rest) y (p.free a is) (p.free x fx) whole in
          (rest, subst second (sym same.1) sy)

      behind : (count : ℕ) → IsLongestFront second after count
          → IsLongestFront (Joined mark first second) text (length a + 1 + count)
      behind count h =
          let b : List ℕ = h.begins.0 in
          let taken : take (length a + 1 + count) text ≡ a ++ mark ∷ take count after =
          ap (λ (t : List ℕ). take (length a + 1 + count) t) e ∙ take_past mark a after count in
          let begun : Begins (Joined mark first second) (a ++ mark ∷ take count after) =
          (b, (a, take count after ++ b, is, h.begins.1, append_assoc a (mark ∷ take count after) b)) in
          record {
            within = omega (arith, size, h.within);
            begins = subst (Begins (Joined mark first second)) (sym taken) begun;
            longest = λ more lt le k.
                let n : ℕ = more - length a - 1 in
                h.longest n (omega arith) (omega (arith, size)) (past_second more (omega arith) k);
          }

      -- it is, and what is behind the mark is not in the second
      pub in_second : (place next at : ℕ) → next ≡ place + length a + 1 → LeavesAt second after next at
          → LeavesAt (Joined mark first second) text place at
      in_second place next at sum h = record {
        outside = λ j.
            let same = cut_same mark a j.0 after j.1 (p.free a is) (p.free j.0 j.2) (sym e ∙ j.4) in
            h.outside (subst second (sym same.1) j.3);
        count = length a + 1 + h.count;
        sum = omega (arith, sum, h.sum);
        front = behind h.count h.front;
      }
