-- How far a text is the front of one of a grammar.
use Rattle.std.proofs.Common.{◌≡◌, ◌≢◌, ℕ, ◌+◌, ◌-◌, ◌<◌, ◌≤◌, ◌⊎◌, max, List, [], ◌∷◌, ◌++◌, length, take, drop}
use Rattle.std.proofs.Common.{get_or, refl, sym, ap, subst, ◌∙◌, append_assoc, add-one, arith, inl, inr}
use Rattle.std.specs.List.{All}
use Rattle.std.specs.Str.{IsAscii}
use Rattle.std.proofs.Math.Seq.{take-append_seam, take-append-add}
use Rattle.std.proofs.lemmas.Bool.{cases_lt}
use Rattle.std.proofs.lemmas.List.{length-append, length-take-le, take-append-drop, take-append-le, take_at}
use Rattle.std.proofs.lemmas.List.{get_or_append_left, get_or-take}
use Rattle.std.proofs.lemmas.List.Elements.{All-take}
use Rattle.std.proofs.lemmas.Str.{IsUtf8-from_ascii, chars-IsAscii}
use Rattle.std.proofs.lemmas.Str.Ascii.{IsAscii-from_all}
use Rattle.jv_base.specs.Front.{Begins, StopsAt}
use Rattle.jv_base.specs.Calls.Fronts.{IsLongestFront, LeavesAt}

-- in a grammar of ASCII texts a place by bytes is one by characters
pub stops_at : (grammar : List ℕ → Type 0) (text : List ℕ) (count : ℕ)
    → ((t : List ℕ) → grammar t → All (λ b. b < 128) t) → IsLongestFront grammar text count → StopsAt grammar text count
stops_at grammar text count ascii h =
    let front : List ℕ = take count text in
    let whole : All (λ b. b < 128) (take (length front) (front ++ h.begins.0)) =
    All-take (λ b. b < 128) (length front) (front ++ h.begins.0) (ascii (front ++ h.begins.0) h.begins.1) in
    let plain : All (λ b. b < 128) front =
    subst (λ (t : List ℕ). All (λ b. b < 128) t) (take_at front h.begins.0 (length front) refl) whole in
    let small : IsAscii front = IsAscii-from_all front plain in
    let size : length front ≡ count = length-take-le count text h.within in
    record {
      front = front;
      after = drop count text;
      parts = sym (take-append-drop count text);
      unicode = IsUtf8-from_ascii front small;
      begins = h.begins;
      longest = λ longer rest u e lt k.
          let taken : take (length longer) text ≡ longer =
          ap (λ (t : List ℕ). take (length longer) t) e ∙ take_at longer rest (length longer) refl in
          let inside : length longer ≤ length text = omega (arith, ap length e ∙ length-append longer rest) in
          h.longest (length longer) (omega (arith, size)) inside (subst (Begins grammar) (sym taken) k);
      characters = sym size ∙ ap length (sym (chars-IsAscii front small));
    }

-- ---- one grammar and another

-- grammars with the same texts
pub front_same : (one other : List ℕ → Type 0) → ((t : List ℕ) → one t → other t)
    → ((t : List ℕ) → other t → one t) → (text : List ℕ) (count : ℕ) → IsLongestFront one text count
    → IsLongestFront other text count
front_same one other to from text count h = record {
  within = h.within;
  begins = (h.begins.0, to (take count text ++ h.begins.0) h.begins.1);
  longest = λ more lt le k. h.longest more lt le (k.0, from (take more text ++ k.0) k.1);
}

-- a text of ASCII that leaves one leaves the other, by its characters
module _ (one other : List ℕ → Type 0) (to : (t : List ℕ) → one t → other t) (from : (t : List ℕ) → other t → one t)
    (ascii : (t : List ℕ) → one t → All (λ b. b < 128) t) (text bytes : List ℕ) (at : ℕ) (same : bytes ≡ text)
    (h : LeavesAt one bytes 0 at) where
  pub leaves_not : other text → ⊥
  leaves_not is = h.outside (subst one (sym same) (from text is))

  pub leaves_stops : StopsAt other text at
  leaves_stops =
      let place : h.count ≡ at = omega (arith, h.sum) in
      let front : IsLongestFront other bytes h.count = front_same one other to from bytes h.count h.front in
      let ends : StopsAt other bytes h.count = stops_at other bytes h.count (λ t k. ascii t (from t k)) front in
      subst (λ (t : List ℕ). StopsAt other t at) same (subst (λ (n : ℕ). StopsAt other bytes n) place ends)

-- the texts of two grammars
abbrev pub Either : (List ℕ → Type 0) → (List ℕ → Type 0) → List ℕ → Type 0
Either one other text = one text ⊎ other text

pub either_front : {one other : List ℕ → Type 0} {text : List ℕ} {m n : ℕ} → IsLongestFront one text m
    → IsLongestFront other text n → IsLongestFront (Either one other) text (max m n)
either_front {one} {other} {text} {m} {n} h k = record {
  within = omega (arith, h.within, k.within);
  begins = elim (cases_lt m n) [
    | inl lt ↦
        let greater : n ≡ max m n = omega arith in
        subst (λ (c : ℕ). Begins (Either one other) (take c text)) greater (k.begins.0, inr k.begins.1)
    | inr le ↦
        let greater : m ≡ max m n = omega arith in
        subst (λ (c : ℕ). Begins (Either one other) (take c text)) greater (h.begins.0, inl h.begins.1)
  ];
  longest = λ more lt le b. elim b.1 [
    | inl t ↦ h.longest more (omega arith) le (b.0, t)
    | inr t ↦ k.longest more (omega arith) le (b.0, t)
  ];
}

-- one word, which goes on as the text does so far
pub word_longest : (text word : List ℕ) (n : ℕ) → n ≤ length text → n ≤ length word → take n text ≡ take n word
    → (n < length text → n < length word → get_or text n 0 ≢ get_or word n 0) → IsLongestFront (λ t. t ≡ word) text n
word_longest text word n in_text in_word same stops = record {
  within = in_text;
  begins = (drop n word, ap (λ (t : List ℕ). t ++ drop n word) same ∙ take-append-drop n word);
  longest = λ more lt le b. further more lt le b;
}
  where
    further : (more : ℕ) → n < more → more ≤ length text → Begins (λ t. t ≡ word) (take more text) → ⊥
    further more lt le b =
        let sum = length-append (take more text) b.0 in
        let long : length (take more text) + length b.0 ≡ length word = sym sum ∙ ap length b.1 in
        let taken : length (take more text) ≡ more = length-take-le more text le in
        let at : get_or word n 0 ≡ get_or text n 0 =
        ap (λ (t : List ℕ). get_or t n 0) (sym b.1) ∙ get_or_append_left (take more text) b.0 0 n (omega arith)
        ∙ get_or-take more text n 0 lt in
        stops (omega arith) (omega arith) (sym at)

-- ---- fronts that end

-- a text of which a front begins one of the grammar, and no longer front does
pub stops : (grammar : List ℕ → Type 0) (text front rest : List ℕ) → text ≡ front ++ rest → Begins grammar front
    → ((x : ℕ) (after more : List ℕ) → rest ≡ x ∷ after → grammar (front ++ x ∷ more) → ⊥)
    → IsLongestFront grammar text (length front)
stops grammar text front rest e begins ends =
    let Front : List ℕ → Type 0 = λ t. IsLongestFront grammar t (length front) in
    subst Front (sym e) (record {
      within = omega (arith, length-append front rest);
      begins = rw (take-append_seam front rest) begins;
      longest = λ more above below b. go_on rest ends more above below b;
    })
  where
    go_on : (rest : List ℕ)
        → ((x : ℕ) (after more : List ℕ) → rest ≡ x ∷ after → grammar (front ++ x ∷ more) → ⊥)
        → (more : ℕ) → length front < more → more ≤ length (front ++ rest) → Begins grammar (take more (front ++ rest))
        → ⊥
    go_on [] ends more above below b = omega (arith, length-append front [])
    go_on (x ∷ after) ends more above below b =
        let n = more - length front - 1 in
        let sum : more ≡ length front + (n + 1) = omega arith in
        let taken : take more (front ++ x ∷ after) ≡ front ++ x ∷ take n after =
        ap (λ (k : ℕ). take k (front ++ x ∷ after)) sum ∙ take-append-add front (x ∷ after) (n + 1)
        ∙ ap (λ (t : List ℕ). front ++ t) (simp add-one) in
        let P : List ℕ → Type 0 = λ t. grammar (t ++ b.0) in
        let whole = subst grammar (append_assoc front (x ∷ take n after) b.0) (subst P taken b.1) in
        ends x after (take n after ++ b.0) refl whole

take_less : (text : List ℕ) (m n : ℕ) → n ≤ m → m ≤ length text → take n (take m text) ≡ take n text
take_less text m n le fits =
    sym (take-append-le n (take m text) (drop m text) (omega (arith, length-take-le m text fits)))
    ∙ ap (λ (t : List ℕ). take n t) (take-append-drop m text)

-- each text of the first grammar has one size, and begins one of the second, all of whose texts begin so
pub record IsStart (first grammar : List ℕ → Type 0) (size : ℕ) : Type 0 where
  pub sized : (t : List ℕ) → first t → length t ≡ size
  pub goes_on : (t : List ℕ) → first t → Begins grammar t
  pub falls : (t : List ℕ) → grammar t → (a : List ℕ) × (b : List ℕ) × first a × (t ≡ a ++ b)

-- a front that is shorter than any text of the first ends where it does in the second
pub stops_before : {first grammar : List ℕ → Type 0} {size : ℕ} → IsStart first grammar size
    → (text : List ℕ) (count : ℕ)
    → count < size → IsLongestFront first text count → IsLongestFront grammar text count
stops_before {first} {grammar} {size} s text count short h =
    record {
      within = h.within;
      begins =
          let more = s.goes_on (take count text ++ h.begins.0) h.begins.1 in
          (h.begins.0 ++ more.0, subst grammar (append_assoc (take count text) h.begins.0 more.0) more.1);
      longest = λ more above below b.
          let parts = s.falls (take more text ++ b.0) b.1 in
          let a : List ℕ = parts.0 in
          let long : length a ≡ size = s.sized a parts.2 in
          let inside : count + 1 ≤ length (take more text) = omega (arith, length-take-le more text below) in
          let taken : take (count + 1) text ≡ take (count + 1) a =
          sym (take_less text more (count + 1) (omega arith) below)
          ∙ sym (take-append-le (count + 1) (take more text) b.0 inside)
          ∙ ap (λ (t : List ℕ). take (count + 1) t) parts.3 ∙ take-append-le (count + 1) a parts.1 (omega arith) in
          let whole : a ≡ take (count + 1) text ++ drop (count + 1) a =
          sym (take-append-drop (count + 1) a) ∙ ap (λ (t : List ℕ). t ++ drop (count + 1) a) (sym taken) in
          h.longest (count + 1) (omega arith) (omega arith) (drop (count + 1) a, subst first whole parts.2);
    }

-- a front after a text that each of the grammar has in front
pub stops_after : (rest_of grammar : List ℕ → Type 0) (front : List ℕ)
    → ((t : List ℕ) → rest_of t → grammar (front ++ t)) → ((t : List ℕ) → grammar (front ++ t) → rest_of t)
    → (text rest : List ℕ) (count : ℕ) → text ≡ front ++ rest → IsLongestFront rest_of rest count
    → IsLongestFront grammar text (length front + count)
stops_after rest_of grammar front to from text rest count e h =
    let Front : List ℕ → Type 0 = λ t. IsLongestFront grammar t (length front + count) in
    subst Front (sym e) (record {
      within = omega (arith, length-append front rest, h.within);
      begins = (
        h.begins.0,
        subst grammar (sym (split count h.begins.0))
            (to (take count rest ++ h.begins.0) h.begins.1),
      );
      longest = λ more above below b.
          let n = more - length front in
          let sum : more ≡ length front + n = omega arith in
          let whole : take more (front ++ rest) ++ b.0 ≡ front ++ (take n rest ++ b.0) =
          ap (λ (k : ℕ). take k (front ++ rest) ++ b.0) sum ∙ split n b.0 in
          let inside : n ≤ length rest = omega (arith, length-append front rest) in
          h.longest n (omega arith) inside (b.0, from (take n rest ++ b.0) (subst grammar whole b.1));
    })
  where
    split : (n : ℕ) (more : List ℕ) → take (length front + n) (front ++ rest) ++ more ≡ front ++ (take n rest ++ more)
    split n more =
        ap (λ (t : List ℕ). t ++ more) (take-append-add front rest n) ∙ append_assoc front (take n rest) more
