-- One structure after the other, as a loop goes over them.
use Rattle.std.proofs.Common.{◌≡◌, ℕ, ◌+◌, ◌<◌, ◌≤◌, List, [], ◌++◌, length, take, get_or, map, Ok}
use Rattle.std.proofs.Common.{Err}
use Rattle.std.proofs.Common.{sym, ap, ◌∙◌, subst, arith, add-zero}
use Rattle.std.specs.List.{flat_map}
use Rattle.std.proofs.lemmas.List.{take_all, get_or_default}
use Rattle.jv_list.specs.Places.{each_at}
use Rattle.cf_pool.specs.declared.entry.PoolEntry.{PoolEntry}
use Rattle.cf_structure.specs.declared.fault.ClassFault.{ClassFault}
use Rattle.cf_structure.specs.ClassFile.{Names}
use Rattle.cf_judge.specs.Demands.{Demand}
use Rattle.cf_judge.specs.Calls.Tells.{AreKept, IsFirstBroken, Tells}
use Rattle.cf_judge.proofs.TellsLemmas.{kept_append, refused_front, tells_behind}
use Rattle.jv_list.proofs.EachLemmas.{each_fits, each_next, each_more, each_rest, each_split}
use Rattle.jv_list.proofs.EachLemmas.{one_of, text_of, each_map, text_map}

module _ {A : Type 0} (pool : List PoolEntry) (one : List A → ℕ → A → List Demand) (text : A → List ℕ) (start : ℕ)
    (xs : List A) where
  abbrev pub all : List Demand
  all = each_at one text [] start xs

  abbrev pub end : ℕ
  end = start + length (flat_map text xs)

  -- the first so many are in order, and end at a place
  pub record IsDone (count place : ℕ) : Type 0 where
    pub place_is : place ≡ start + length (flat_map text (take count xs))
    pub kept : AreKept pool (each_at one text [] start (take count xs))

  pub none_done : IsDone 0 start
  unfolding AreKept each_at
  none_done = record { place_is = sym (add-zero start); kept = tt }

  module _ (i place : ℕ) (x : A) (lt : i < length xs) (is : x ≡ get_or xs i x) (done : IsDone i place) where
    before : List Demand
    before = each_at one text [] start (take i xs)

    -- the next one fits where all do
    pub one_fits : place + length (text x) ≤ end
    one_fits = each_fits one text start xs i place x lt is done.place_is

    -- with one more in order, so many are
    pub one_more : (next : ℕ) → (next ≡ place + length (text x)) × AreKept pool (one (take i xs) place x)
        → IsDone (i + 1) next
    unfolding before
    one_more next tells = record {
      place_is = tells.0 ∙ each_next one text start xs i place x lt is done.place_is;
      kept =
          subst (AreKept pool) (sym (each_more one text start xs i place x lt is done.place_is))
          (kept_append pool before (one (take i xs) place x) done.kept tells.1);
    }

    -- the fault of the next one is that of all
    pub stops : (refusal : ClassFault) → Names (IsFirstBroken pool (one (take i xs) place x)) refusal
        → Names (IsFirstBroken pool all) refusal
    unfolding before
    stops refusal h =
        let these : List Demand = one (take i xs) place x in
        let behind : Tells pool (before ++ these) 0 (Err refusal) =
        tells_behind pool before these 0 (Err refusal) done.kept h in
        let rest : List Demand = each_rest one text start xs i place x lt is done.place_is in
        subst (λ (ds : List Demand). Names (IsFirstBroken pool ds) refusal)
        (sym (each_split one text start xs i place x lt is done.place_is))
        (refused_front pool (before ++ these) rest refusal behind)

  -- the same of an element that is read by its index
  module _ (i place : ℕ) (lt : i < length xs) (done : IsDone i place) where
    is : (d : A) → get_or xs i d ≡ get_or xs i (get_or xs i d)
    is d = get_or_default xs i d (get_or xs i d) lt

    pub next_fits : (d : A) (bound : ℕ) → end < bound → place + length (text (get_or xs i d)) < bound
    next_fits d bound below =
        let fits = one_fits i place (get_or xs i d) lt (is d) done in
        omega (arith, fits)

    pub next_done : (d : A) (next : ℕ)
        → (next ≡ place + length (text (get_or xs i d))) × AreKept pool (one (take i xs) place (get_or xs i d))
        → IsDone (i + 1) next
    next_done d next tells = one_more i place (get_or xs i d) lt (is d) done next tells

    pub next_stops : (d : A) (refusal : ClassFault)
        → Names (IsFirstBroken pool (one (take i xs) place (get_or xs i d))) refusal
        → Names (IsFirstBroken pool all) refusal
    next_stops d refusal h = stops i place (get_or xs i d) lt (is d) done refusal h

  -- all are in order
  pub all_done : (count place : ℕ) → length xs ≤ count → IsDone count place → Tells pool all end (Ok place)
  all_done count place le done =
      let whole : take count xs ≡ xs = take_all count xs le in (
        done.place_is ∙ ap (λ (ys : List A). start + length (flat_map text ys)) whole,
        subst (λ (ys : List A). AreKept pool (each_at one text [] start ys)) whole done.kept,
      )

-- what tells of structures by another view of them
module _ {A B : Type 0} (view : B → A) (pool : List PoolEntry) (one : List A → ℕ → A → List Demand) (text : A → List ℕ)
    (start : ℕ) (xs : List B) where
  same : each_at (one_of view one) (text_of view text) [] start xs ≡ each_at one text [] start (map view xs)
  same = each_map view one text [] start xs

  pub mapped_end : start + length (flat_map text (map view xs)) ≡ start + length (flat_map (text_of view text) xs)
  mapped_end = ap (λ (bytes : List ℕ). start + length bytes) (text_map view one text xs)

  pub mapped_stops : (refusal : ClassFault)
      → Names (IsFirstBroken pool (each_at (one_of view one) (text_of view text) [] start xs)) refusal
      → Names (IsFirstBroken pool (each_at one text [] start (map view xs))) refusal
  mapped_stops refusal h = subst (λ (ds : List Demand). Names (IsFirstBroken pool ds) refusal) same h

  pub mapped_done : (place : ℕ)
      → Tells pool (each_at (one_of view one) (text_of view text) [] start xs)
      (start + length (flat_map (text_of view text) xs)) (Ok place)
      → Tells pool (each_at one text [] start (map view xs)) (start + length (flat_map text (map view xs))) (Ok place)
  mapped_done place h = (h.0 ∙ sym mapped_end, subst (λ (ds : List Demand). AreKept pool ds) same h.1)
