-- The bytes of a code fall into its pcs, and are no other code.
use Rattle.std.proofs.Common.{◌≡◌, ℕ, ◌+◌, ◌≤◌, ◌^◌, List, [], ◌∷◌, ◌++◌, length, take, drop, ap, sym, ◌∙◌, subst, inl}
use Rattle.std.proofs.Common.{inr}
use Rattle.std.proofs.Common.{refl, append_assoc, append-nil, length-append, arith}
use Rattle.std.specs.List.{AllByRecursion}
use Rattle.std.proofs.lemmas.List.{drop_at, take_at}
use Rattle.jv_list.proofs.CutLemmas.{split_same}
use Rattle.cf_code.specs.Code.{placed_spelling, code_spelling, FitsPlaced, AllFit}
use Rattle.cf_code.specs.Decoding.{IsLaid, pcs, HasTargets, IsCode, FallsInto, HasStarts, IsGood}
use Rattle.cf_code.specs.Instr.{spelling, Fits}
use Rattle.cf_code.specs.Laws.{IsNoCode}
use Rattle.cf_code.specs.Sizes.{HasSize}
use Rattle.cf_code.specs.declared.code.Placed.{Placed}
use Rattle.cf_code.specs.declared.instr.Instr.{Instr}
use Rattle.cf_code.proofs.FaultLemmas.{no_bad_target}
use Rattle.cf_code.proofs.InstrLemmas.{instr_has_size, one_instr}
use Rattle.cf_code.proofs.SizeLemmas.{one_size}
use Rattle.cf_code.proofs.StartLemmas.{one_starts}

-- ---- the starts of a code

-- the bytes of a placed instruction have its size, whatever follows them
pub placed_sized : (pc : ℕ) (placed : Placed) (rest : List ℕ) → placed.pc ≡ pc → FitsPlaced placed
    → HasSize pc (placed_spelling placed ++ rest) (length (placed_spelling placed))
placed_sized pc placed rest is fits =
    let bytes = placed_spelling placed in
    let has = instr_has_size placed.pc bytes rest placed.instr (refl, fits) in
    subst (λ (n : ℕ). HasSize n (bytes ++ rest) (length bytes)) is has

-- the same of the first instruction of a code
placed_at : (pc : ℕ) (placed : Placed) (rest : List Placed) → placed.pc ≡ pc → FitsPlaced placed
    → HasSize pc (code_spelling (placed ∷ rest)) (length (placed_spelling placed))
placed_at pc placed rest is fits = placed_sized pc placed (code_spelling rest) is fits

-- the bytes are a front and a code behind it, at a pc
pub record Behind (bytes front : List ℕ) (pc : ℕ) (code : List Placed) : Type 0 where
  pub is : bytes ≡ front ++ code_spelling code
  pub long : length front ≡ pc
  pub laid : IsLaid pc code
  pub fit : AllFit code

module _ (bytes : List ℕ) where
  -- the bytes from there on are those of the code
  from_pc : (front : List ℕ) (pc : ℕ) (code : List Placed) → Behind bytes front pc code
      → drop pc bytes ≡ code_spelling code
  from_pc front pc code h = ap (λ (b : List ℕ). drop pc b) h.is ∙ drop_at front (code_spelling code) pc h.long

  -- behind the first instruction stand the others
  behind_next : (front : List ℕ) (pc : ℕ) (placed : Placed) (rest : List Placed) → Behind bytes front pc (placed ∷ rest)
      → Behind bytes (front ++ placed_spelling placed) (pc + length (placed_spelling placed)) rest
  behind_next front pc placed rest h =
      let size = length (placed_spelling placed) in
      record {
        is = h.is ∙ sym (append_assoc front (placed_spelling placed) (code_spelling rest));
        long = length-append front (placed_spelling placed) ∙ ap (λ (n : ℕ). n + size) h.long;
        laid = h.laid.1;
        fit = h.fit.1;
      }

  code_falls : (front : List ℕ) (pc : ℕ) (code : List Placed) → Behind bytes front pc code
      → FallsInto bytes pc (pcs code) (length bytes)
  code_falls front pc [] h = sym h.long ∙ ap length (sym (append-nil front)) ∙ ap length (sym h.is)
  code_falls front pc (placed ∷ rest) h =
      let size = length (placed_spelling placed) in
      let here = sym (from_pc front pc (placed ∷ rest) h) in
      let has = subst (λ (b : List ℕ). HasSize pc b size) here (placed_at pc placed rest h.laid.0 h.fit.0) in
      let next = behind_next front pc placed rest h in
      (h.laid.0, (size, has, code_falls (front ++ placed_spelling placed) (pc + size) rest next))

  -- each pc of a code is good
  code_good : (front starts : List ℕ) (pc : ℕ) (code : List Placed) → Behind bytes front pc code
      → AllByRecursion (λ placed. HasTargets starts placed.instr) code → AllByRecursion (IsGood bytes starts) (pcs code)
  code_good front starts pc [] h have = tt
  code_good front starts pc (placed ∷ rest) h have =
      let spelled = placed_spelling placed in
      let size = length spelled in
      let here : drop placed.pc bytes ≡ spelled ++ code_spelling rest =
      ap (λ (n : ℕ). drop n bytes) h.laid.0 ∙ from_pc front pc (placed ∷ rest) h in
      let sized = placed_at placed.pc placed rest refl h.fit.0 in
      let has = subst (λ (b : List ℕ). HasSize placed.pc b size) (sym here) sized in
      let cut = ap (λ (b : List ℕ). take size b) here ∙ take_at spelled (code_spelling rest) size refl in
      let others = code_good (front ++ spelled) starts (pc + size) rest (behind_next front pc placed rest h) have.1 in
      ((size, placed.instr, has, (cut, h.fit.0), have.0), others)

  code_behind : (code : List Placed) → IsCode bytes code → Behind bytes [] 0 code
  code_behind code h = record { is = h.spelled; long = refl; laid = h.laid; fit = h.fit }

  -- a code has its pcs as starts, up to the end of the bytes
  code_starts : (code : List Placed) → IsCode bytes code → HasStarts bytes (pcs code) (length bytes)
  code_starts code h = record {
    falls = code_falls [] 0 code (code_behind code h);
    within = omega arith;
    ends = inl refl;
  }

  code_all_good : (code : List Placed) → IsCode bytes code → AllByRecursion (IsGood bytes (pcs code)) (pcs code)
  code_all_good code h = code_good [] (pcs code) 0 code (code_behind code h) h.have_targets

pub fault_is_no_code : IsNoCode
fault_is_no_code bytes pc code (inl bad) h =
    let same = (one_starts bytes bad.starts (pcs code) pc (length bytes) bad.has (code_starts bytes code h)).1 in
    omega (arith, bad.inside, same)
fault_is_no_code bytes pc code (inr bad) h =
    no_bad_target bytes (pcs code) (length bytes) pc (code_starts bytes code h) (code_all_good bytes code h) bad

-- ---- one code

no_first : (pc : ℕ) (placed : Placed) (rest : List Placed) → placed.pc ≡ pc → FitsPlaced placed
    → [] ≡ code_spelling (placed ∷ rest) → ⊥
no_first pc placed rest is fits none =
    let size = length (placed_spelling placed) in
    subst (λ (b : List ℕ). HasSize pc b size) (sym none) (placed_at pc placed rest is fits)

abbrev placed_of : ℕ → Instr → Placed
placed_of pc instr = record { pc = pc; instr = instr }

same_placed : (x y : Placed) → x.pc ≡ y.pc → x.instr ≡ y.instr → x ≡ y
same_placed x y p q = ap (λ (n : ℕ). placed_of n x.instr) p ∙ ap (λ (i : Instr). placed_of y.pc i) q

-- instructions at one pc, of the same bytes
pub one_placed : (x y : Placed) → y.pc ≤ 2 ^ 31 → x.pc ≡ y.pc → FitsPlaced x → FitsPlaced y
    → placed_spelling x ≡ placed_spelling y → x ≡ y
one_placed x y reach p a b is =
    let fits = subst (λ (n : ℕ). Fits n x.instr) p a in
    let spelled = subst (λ (n : ℕ). spelling n x.instr ≡ placed_spelling y) p is in
    same_placed x y p (one_instr y.pc reach x.instr y.instr fits b spelled)

one_codes : (pc : ℕ) (xs ys : List Placed) → pc + length (code_spelling ys) ≤ 2 ^ 31
    → code_spelling xs ≡ code_spelling ys → IsLaid pc xs → IsLaid pc ys → AllFit xs → AllFit ys → xs ≡ ys
one_codes pc [] [] reach is x y a b = refl
one_codes pc [] (q ∷ ys) reach is x y a b = absurd (no_first pc q ys y.0 b.0 is)
one_codes pc (p ∷ xs) [] reach is x y a b = absurd (no_first pc p xs x.0 a.0 (sym is))
one_codes pc (p ∷ xs) (q ∷ ys) reach is x y a b =
    let m = length (placed_spelling p) in
    let n = length (placed_spelling q) in
    let sized = subst (λ (s : List ℕ). HasSize pc s m) is (placed_at pc p xs x.0 a.0) in
    let long : m ≡ n = one_size pc (code_spelling (q ∷ ys)) m n sized (placed_at pc q ys y.0 b.0) in
    let cut = split_same (placed_spelling p) (placed_spelling q) (code_spelling xs) (code_spelling ys) long is in
    let joined = length-append (placed_spelling q) (code_spelling ys) in
    let first = one_placed p q (omega (arith, y.0, reach, joined)) (x.0 ∙ sym y.0) a.0 b.0 cut.0 in
    let laid = subst (λ (s : ℕ). IsLaid (pc + s) ys) (sym long) y.1 in
    let rest = one_codes (pc + m) xs ys (omega (arith, reach, joined, long)) cut.1 x.1 laid a.1 b.1 in
    cc

-- bytes whose pcs are in reach of four signed bytes are one list of instructions at most
pub one_code_in_reach : (bytes : List ℕ) (code other : List Placed) → length bytes ≤ 2 ^ 31 → IsCode bytes code
    → IsCode bytes other → code ≡ other
one_code_in_reach bytes code other reach x y =
    one_codes 0 code other (omega (arith, ap length y.spelled)) (sym x.spelled ∙ y.spelled) x.laid y.laid x.fit y.fit
