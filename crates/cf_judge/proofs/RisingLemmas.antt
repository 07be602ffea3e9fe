-- The demands of a file stand in the order of their places, and at one place in the order of their words.
use Rattle.std.proofs.Common.{◌≡◌, ℕ, ◌+◌, ◌<◌, ◌≤◌, List, [], ◌∷◌, ◌++◌, length, refl, subst, inl, inr, ◌⊎◌, arith}
use Rattle.std.proofs.Common.{length-append}
use Rattle.std.specs.List.{flat_map, AllByRecursion}
use Rattle.jv_list.specs.Places.{each_at}
use Rattle.cf_pool.specs.declared.entry.PoolEntry.{PoolEntry}
use Rattle.cf_pool.specs.declared.fault.What.{What}
use Rattle.cf_judge.specs.Words.{rank}
use Rattle.cf_judge.specs.Demands.{Rule, Demand, demand}
use Rattle.cf_judge.specs.Judged.{Breaks}

module _ (pool : List PoolEntry) where
  -- no fault of a demand is behind one of another
  abbrev pub IsBefore : Demand → Demand → Type 0
  IsBefore d e = (d.place < e.place)
      ⊎ ((d.place ≡ e.place) × ((a b : What) → Breaks pool d.rule a → Breaks pool e.rule b → rank a ≤ rank b))

  abbrev IsIn : ℕ → ℕ → Demand → Type 0
  IsIn low high d = (low ≤ d.place) × (d.place < high)

  unfoldable pub AreRising : List Demand → Type 0
  AreRising [] = Unit {0}
  AreRising (d ∷ ds) = AllByRecursion (IsBefore d) ds × AreRising ds

  -- demands rise, between two places
  pub record Rise (low high : ℕ) (ds : List Demand) : Type 0 where
    pub within : low ≤ high
    pub are_in : AllByRecursion (IsIn low high) ds
    pub rising : AreRising ds

  pub none_rise : (low high : ℕ) → low ≤ high → Rise low high []
  unfolding AreRising
  none_rise low high le = record { within = le; are_in = tt; rising = tt }

  pub one_rises : (low high place : ℕ) (rule : Rule) → low ≤ place → place < high
      → Rise low high (demand place rule ∷ [])
  unfolding AreRising
  one_rises low high place rule le lt = record { within = omega arith; are_in = ((le, lt), tt); rising = (tt, tt) }

  -- two at one place, whose words are in order
  pub two_rise : (place high : ℕ) (a b : Rule)
      → ((v w : What) → Breaks pool a v → Breaks pool b w → rank v ≤ rank w) → place < high
      → Rise place high (demand place a ∷ demand place b ∷ [])
  unfolding AreRising
  two_rise place high a b words lt = record {
    within = omega arith;
    are_in = ((omega arith, lt), ((omega arith, lt), tt));
    rising = ((inr (refl, words), tt), (tt, tt));
  }

  in_wider : (low mid top high : ℕ) (ds : List Demand) → low ≤ mid → top ≤ high → AllByRecursion (IsIn mid top) ds
      → AllByRecursion (IsIn low high) ds
  in_wider low mid top high [] le ge h = tt
  in_wider low mid top high (d ∷ ds) le ge h =
      let here = h.0 in
      ((omega (arith, here.0), omega (arith, here.1)), in_wider low mid top high ds le ge h.1)

  all_behind : (d : Demand) (mid high : ℕ) (ds : List Demand) → d.place < mid → AllByRecursion (IsIn mid high) ds
      → AllByRecursion (IsBefore d) ds
  all_behind d mid high [] lt h = tt
  all_behind d mid high (e ∷ ds) lt h =
      let here = h.0 in
      (inl (omega (arith, here.0)), all_behind d mid high ds lt h.1)

  all_append : (P : Demand → Type 0) (xs ys : List Demand) → AllByRecursion P xs → AllByRecursion P ys
      → AllByRecursion P (xs ++ ys)
  all_append P [] ys h k = k
  all_append P (x ∷ xs) ys h k = (h.0, all_append P xs ys h.1 k)

  rising_append : (low mid high : ℕ) (xs ys : List Demand) → AllByRecursion (IsIn low mid) xs → AreRising xs
      → AllByRecursion (IsIn mid high) ys → AreRising ys → AreRising (xs ++ ys)
  unfolding AreRising
  rising_append low mid high [] ys h r k s = s
  rising_append low mid high (x ∷ xs) ys h r k s = (
    all_append (IsBefore x) xs ys r.0 (all_behind x mid high ys h.0.1 k),
    rising_append low mid high xs ys h.1 r.1 k s,
  )

  -- one part behind another
  pub rise_append : (low mid high : ℕ) (xs ys : List Demand) → Rise low mid xs → Rise mid high ys
      → Rise low high (xs ++ ys)
  rise_append low mid high xs ys a b =
      let le = a.within in
      let ge = b.within in
      record {
        within = omega arith;
        are_in = all_append (IsIn low high) xs ys (in_wider low low mid high xs (omega arith) ge a.are_in)
            (in_wider low mid high high ys le (omega arith) b.are_in);
        rising = rising_append low mid high xs ys a.are_in a.rising b.are_in b.rising;
      }

  -- between two places that are further apart
  pub rise_wider : (low mid top high : ℕ) (ds : List Demand) → low ≤ mid → top ≤ high → Rise mid top ds
      → Rise low high ds
  rise_wider low mid top high ds le ge h =
      let inner = h.within in
      record {
        within = omega arith;
        are_in = in_wider low mid top high ds le ge h.are_in;
        rising = h.rising;
      }

  -- the same with the end written in another way
  pub rise_to : (low m n : ℕ) (ds : List Demand) → m ≡ n → Rise low m ds → Rise low n ds
  rise_to low m n ds e h = subst (λ (end : ℕ). Rise low end ds) e h

  -- structures one after the other
  pub each_rises : {A : Type 0} (one : List A → ℕ → A → List Demand) (text : A → List ℕ)
      → ((earlier : List A) (place : ℕ) (x : A) → Rise place (place + length (text x)) (one earlier place x))
      → (earlier : List A) (place : ℕ) (xs : List A)
      → Rise place (place + length (flat_map text xs)) (each_at one text earlier place xs)
  unfolding each_at
  each_rises one text rises earlier place [] = none_rise place (place + 0) (omega arith)
  each_rises one text rises earlier place (x ∷ xs) =
      let next : ℕ = place + length (text x) in
      let total : next + length (flat_map text xs) ≡ place + length (text x ++ flat_map text xs) =
      omega (arith, length-append (text x) (flat_map text xs)) in
      subst (λ (end : ℕ). Rise place end (one earlier place x ++ each_at one text (earlier ++ x ∷ []) next xs))
      total
      (rise_append place next (next + length (flat_map text xs)) (one earlier place x) _ (rises earlier place x)
      (each_rises one text rises (earlier ++ x ∷ []) next xs))
