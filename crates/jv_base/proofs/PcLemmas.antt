-- Places in code, in decimal: how far a text is the front of one.
use Rattle.std.proofs.Common.{◌≡◌, ◌≢◌, ℕ, ◌+◌, ◌-◌, ◌*◌, ◌/◌, ◌%◌, ◌^◌, ◌<◌, ◌≤◌, ◌⊎◌, List, [], ◌∷◌, ◌++◌, length}
use Rattle.std.proofs.Common.{get_or}
use Rattle.std.proofs.Common.{take, drop, sym, ap, subst, ◌∙◌, append_assoc, length-append, arith, inl, inr}
use Rattle.std.specs.List.{All}
use Rattle.std.specs.Fmt.{decimal}
use Rattle.std.specs.Str.Parse.{AllDigits}
use Rattle.std.proofs.Math.Seq.{take-add}
use Rattle.std.proofs.lemmas.Bool.{cases_lt}
use Rattle.std.proofs.lemmas.Fmt.{decimal_digit, decimal_step, decimal_by_steps, decimal_injective, decimal_nonempty}
use Rattle.std.proofs.lemmas.Fmt.{decimal_is_IsNumeral}
use Rattle.std.proofs.lemmas.List.{append-nil, length-take-le, take_more, take_all, same_from_push}
use Rattle.std.proofs.lemmas.List.Elements.{All-nil, All-cons, All-weaker}
use Rattle.std.proofs.lemmas.Str.Parse.{digit_from_value}
use Rattle.jv_base.specs.Front.{Begins}
use Rattle.jv_base.specs.Calls.Fronts.{IsLongestFront}
use Rattle.jv_base.specs.Calls.Parts.{IsPcText}
use Rattle.jv_list.proofs.CutLemmas.{snoc_split}

-- ---- the fronts of a pc

abbrev FrontsAre : ℕ → List ℕ → Type 0
FrontsAre m ds =
    m < 2 ^ 16 → (decimal m ≡ ds)
    × ((x y : List ℕ) → ds ≡ x ++ y → 0 < length x → (u : ℕ) × (u < 2 ^ 16) × (x ≡ decimal u))

-- the digits that a pc begins with are a pc
pc_fronts : (v : ℕ) → v < 2 ^ 16 → (x y : List ℕ) → decimal v ≡ x ++ y → 0 < length x
    → (u : ℕ) × (u < 2 ^ 16) × (x ≡ decimal u)
pc_fronts v lt = (decimal_by_steps FrontsAre one step v (omega arith) lt).1
  where
    only : (d : ℕ) (x y : List ℕ) → d ∷ [] ≡ x ++ y → 0 < length x → x ≡ d ∷ []
    only d x y e some =
        elim (snoc_split [] x y d e) [
          | inl p ↦ p
          | inr q ↦ absurd (omega (arith, some, ap length q.1, length-append x q.0))
        ]

    one : (m : ℕ) → m < 10 → FrontsAre m ((48 + m) ∷ [])
    one m small lt =
        let digit : decimal m ≡ (48 + m) ∷ [] = decimal_digit m small in
        (digit, λ x y e some. (m, lt, only (48 + m) x y e some ∙ sym digit))

    step : (m : ℕ) (ds : List ℕ) → 10 ≤ m → FrontsAre (m / 10) ds → FrontsAre m (ds ++ ((48 + m % 10) ∷ []))
    step m ds large before lt =
        let last : List ℕ = (48 + m % 10) ∷ [] in
        let front = before (omega arith) in
        let whole : decimal m ≡ ds ++ last =
        decimal_step m large (omega arith) ∙ ap (λ (t : List ℕ). t ++ last) front.0 in (
          whole,
          λ x y e some. elim (snoc_split ds x y (48 + m % 10) e) [
            | inl p ↦ (m, lt, p ∙ sym whole)
            | inr q ↦ front.1 x q.0 q.1 some
          ],
        )

-- ---- reading a pc

-- the digits so far are those of the value
abbrev pub IsReadTo : List ℕ → ℕ → ℕ → Type 0
IsReadTo text count value =
    (value < 2 ^ 16) × (((count ≡ 0) × (value ≡ 0)) ⊎ ((0 < count) × (take count text ≡ decimal value)))

-- no pc goes on with this byte
abbrev pub EndsBefore : ℕ → ℕ → ℕ → Type 0
EndsBefore count value digit =
    ((0 < count) × (value ≡ 0)) ⊎ (48 ≤ digit → digit < 58 → value * 10 + (digit - 48) < 2 ^ 16 → ⊥)

module _ (text : List ℕ) (count value : ℕ) (read : IsReadTo text count value) where
  -- a pc ends in a digit behind a pc that is not 0, or is a digit
  no_next : (digit u : ℕ) → EndsBefore count value digit → u < 2 ^ 16 → take count text ++ digit ∷ [] ≡ decimal u → ⊥
  no_next digit u ends small e = elim read.1 [ inl z ↦ at_first z.0 z.1 | inr r ↦ behind r.1 ]
    where
      at_first : count ≡ 0 → value ≡ 0 → ⊥
      at_first start zero =
          let none : take count text ≡ [] = ap (λ (k : ℕ). take k text) start in
          let alone : digit ∷ [] ≡ decimal u = ap (λ (t : List ℕ). t ++ digit ∷ []) (sym none) ∙ e in
          elim (cases_lt u 10) [
            | inl one ↦
                let whole : digit ∷ [] ≡ (48 + u) ∷ [] = alone ∙ decimal_digit u one in
                let same : digit ≡ 48 + u = cc in
                elim ends [
                  | inl s ↦ omega (arith, s.0, start)
                  | inr s ↦ s (omega arith) (omega arith) (omega (arith, zero))
                ]
            | inr more ↦
                let long : 1 ≡ length (decimal (u / 10) ++ (48 + u % 10) ∷ []) =
                ap length (alone ∙ decimal_step u more (omega arith)) in
                let sum = length-append (decimal (u / 10)) ((48 + u % 10) ∷ []) in
                omega (arith, long, sum, decimal_nonempty (u / 10) (omega arith))
          ]

      behind : take count text ≡ decimal value → ⊥
      behind is =
          let longer : decimal value ++ digit ∷ [] ≡ decimal u =
          ap (λ (t : List ℕ). t ++ digit ∷ []) (sym is) ∙ e in
          elim (cases_lt u 10) [
            | inl one ↦
                let long = ap length (longer ∙ decimal_digit u one) in
                let sum = length-append (decimal value) (digit ∷ []) in
                omega (arith, long, sum, decimal_nonempty value (omega (arith, read.0)))
            | inr more ↦
                let step : decimal value ++ digit ∷ [] ≡ decimal (u / 10) ++ (48 + u % 10) ∷ [] =
                longer ∙ decimal_step u more (omega arith) in
                let same = same_from_push (decimal value) (decimal (u / 10)) digit (48 + u % 10) step in
                let front : value ≡ u / 10 =
                decimal_injective value (u / 10) (omega (arith, read.0)) (omega arith) same.0 in
                elim ends [
                  | inl s ↦ omega (arith, s.1, front)
                  | inr s ↦ s (omega (arith, same.1)) (omega (arith, same.1)) (omega (arith, same.1, front))
                ]
          ]

  pub pc_longest : count ≤ length text → (count < length text → EndsBefore count value (get_or text count 0))
      → IsLongestFront IsPcText text count
  pc_longest le ends = record {
    within = le;
    begins = elim read.1 [
      | inl z ↦ (decimal 0, (0, omega arith, ap (λ (k : ℕ). take k text ++ decimal 0) z.0))
      | inr r ↦ ([], (value, read.0, append-nil (take count text) ∙ r.1))
    ];
    longest = λ more lt within b.
        let n : ℕ = more - (count + 1) in
        let rest : List ℕ = take n (drop (count + 1) text) in
        let parts : take more text ≡ take (count + 1) text ++ rest =
        ap (λ (k : ℕ). take k text) (omega arith) ∙ take-add (count + 1) n text in
        let whole : decimal b.1.0 ≡ take (count + 1) text ++ (rest ++ b.0) =
        sym b.1.2 ∙ ap (λ (t : List ℕ). t ++ b.0) parts ∙ append_assoc (take (count + 1) text) rest b.0 in
        let taken : length (take (count + 1) text) ≡ count + 1 = length-take-le (count + 1) text (omega arith) in
        let front = pc_fronts b.1.0 b.1.1 (take (count + 1) text) (rest ++ b.0) whole (omega arith) in
        no_next (get_or text count 0) front.0 (ends (omega arith)) front.1
        (sym (take_more text count 0 (omega arith)) ∙ front.2);
  }

  pub read_more : (more : ℕ) → count < length text → (0 < count → value ≡ 0 → ⊥) → 48 ≤ get_or text count 0
      → get_or text count 0 < 58 → more ≡ value * 10 + (get_or text count 0 - 48) → more < 2 ^ 16
      → IsReadTo text (count + 1) more
  read_more more within leads from to is fits =
      let taken = take_more text count 0 within in
      elim read.1 [
        | inl z ↦
            let none : take count text ≡ [] = ap (λ (k : ℕ). take k text) z.0 in
            let digit : 48 + more ≡ get_or text count 0 = omega (arith, z.1, is, from) in
            let small : more < 10 = omega (arith, z.1, is, to, from) in (
              fits,
              inr (
                omega arith,
                taken ∙ ap (λ (t : List ℕ). t ++ get_or text count 0 ∷ []) none
                    ∙ ap (λ (d : ℕ). d ∷ []) (sym digit) ∙ sym (decimal_digit more small),
              ),
            )
        | inr r ↦
            let some : value ≢ 0 = leads r.0 in
            let front : more / 10 ≡ value = omega (arith, is, from, to) in
            let digit : 48 + more % 10 ≡ get_or text count 0 = omega (arith, is, from, to) in
            let large : 10 ≤ more = omega (arith, some, is) in (
              fits,
              inr (
                omega arith,
                taken ∙ ap (λ (t : List ℕ). t ++ get_or text count 0 ∷ []) r.1
                    ∙ ap (λ (d : ℕ). decimal value ++ d ∷ []) (sym digit)
                    ∙ ap (λ (v : ℕ). decimal v ++ (48 + more % 10) ∷ []) (sym front)
                    ∙ sym (decimal_step more large (omega arith)),
              ),
            )
      ]

-- what begins a pc in full is one, unless it is empty
pub pc_is_not : (text : List ℕ) (count : ℕ) → IsLongestFront IsPcText text count
    → ((0 < count) × (count ≡ length text) → ⊥) → IsPcText text → ⊥
pc_is_not text count h other p =
    let some : 0 < length text =
    subst (λ (t : List ℕ). 0 < length t) (sym p.2) (decimal_nonempty p.0 (omega (arith, p.1))) in
    let all : take (length text) text ≡ text = take_all (length text) text (omega arith) in
    let whole : Begins IsPcText (take (length text) text) =
    ([], (p.0, p.1, append-nil (take (length text) text) ∙ all ∙ p.2)) in
    elim (cases_lt count (length text)) [
      | inl lt ↦ h.longest (length text) lt (omega arith) whole
      | inr le ↦ other (omega (arith, some, le), omega (arith, h.within, le))
    ]

-- ---- the bytes of a pc

digits_below : (ds : List ℕ) → AllDigits 10 ds → All (λ b. b < 58) ds
digits_below [] all = All-nil (λ b. b < 58)
digits_below (d ∷ ds) all =
    All-cons (λ b. b < 58) d ds (omega (arith, digit_from_value d all.0, all.0)) (digits_below ds all.1)

pc_below : (text : List ℕ) → IsPcText text → All (λ b. b < 58) text
pc_below text h =
    subst (λ (t : List ℕ). All (λ b. b < 58) t) (sym h.2)
    (digits_below (decimal h.0) (decimal_is_IsNumeral h.0 (omega (arith, h.1))).0.1)

pub pc_free : (text : List ℕ) → IsPcText text → All (λ b. b ≢ 58) text
pc_free text h = All-weaker (λ b. b < 58) (λ b. b ≢ 58) (λ b lt e. omega (arith, lt, e)) text (pc_below text h)

pub pc_ascii : (text : List ℕ) → IsPcText text → All (λ b. b < 128) text
pc_ascii text h = All-weaker (λ b. b < 58) (λ b. b < 128) (λ b lt. omega (arith, lt)) text (pc_below text h)
