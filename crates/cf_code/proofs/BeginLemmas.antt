-- What bytes begin with is the front of the instructions that stand before their end or their first fault.
use Rattle.std.proofs.Common.{◌≡◌, ℕ, ◌+◌, ◌≤◌, ◌^◌, List, [], ◌∷◌, ◌++◌, length, take, drop, ap, sym, ◌∙◌, subst, inl}
use Rattle.std.proofs.Common.{refl, append_assoc, length-append, arith}
use Rattle.std.specs.List.{AllByRecursion}
use Rattle.std.proofs.lemmas.List.{drop_at, take_at}
use Rattle.jv_list.proofs.CutLemmas.{split_same}
use Rattle.cf_code.specs.Code.{placed_spelling, code_spelling, FitsPlaced, AllFit}
use Rattle.cf_code.specs.Decoding.{IsLaid, HasTargets, HasStarts, IsGood, BeginsWith, EndsAs}
use Rattle.cf_code.specs.Instr.{spelling, Fits}
use Rattle.cf_code.specs.Sizes.{HasSize}
use Rattle.cf_code.specs.declared.code.Placed.{Placed}
use Rattle.cf_code.specs.declared.decoding.End.{End}
use Rattle.cf_code.specs.declared.decoding.End.TheVariants.{Whole, BadOpcode, BadTarget}
use Rattle.cf_code.proofs.CodeLemmas.{placed_sized, one_placed}
use Rattle.cf_code.proofs.SizeLemmas.{one_size}
use Rattle.cf_code.proofs.StartLemmas.{one_starts, no_more}

module _ (starts : List ℕ) where
  -- an instruction whose targets are starts stands in front of these bytes, at a pc
  pub record Stands (pc : ℕ) (bytes : List ℕ) (p : Placed) (rest : List ℕ) : Type 0 where
    pub is : bytes ≡ placed_spelling p ++ rest
    pub at : p.pc ≡ pc
    pub fits : FitsPlaced p
    pub has_targets : HasTargets starts p.instr

  -- no such instruction does
  abbrev pub NoneStands : ℕ → List ℕ → Type 0
  NoneStands pc bytes = (p : Placed) (rest : List ℕ) → Stands pc bytes p rest → ⊥

  abbrev HaveTargets : List Placed → Type 0
  HaveTargets code = AllByRecursion (λ (p : Placed). HasTargets starts p.instr) code

  -- of two lists in front of the same bytes, behind one of which none stands, the other is the front
  front_of : (pc : ℕ) (xs ys : List Placed) (a b : List ℕ) → pc + length (code_spelling xs) ≤ 2 ^ 31
      → NoneStands (pc + length (code_spelling xs)) a → code_spelling xs ++ a ≡ code_spelling ys ++ b
      → IsLaid pc xs → IsLaid pc ys → AllFit xs → AllFit ys → HaveTargets ys
      → (more : List Placed) × (xs ≡ ys ++ more)
  front_of pc xs [] a b reach none is x y f g t = (xs, refl)
  front_of pc [] (q ∷ ys) a b reach none is x y f g t =
      absurd (none q (code_spelling ys ++ b) (record {
        is = is ∙ append_assoc (placed_spelling q) (code_spelling ys) b;
        at = y.0 ∙ omega arith;
        fits = g.0;
        has_targets = t.0;
      }))
  front_of pc (p ∷ xs) (q ∷ ys) a b reach none is x y f g t =
      let m = length (placed_spelling p) in
      let n = length (placed_spelling q) in
      let joined = length-append (placed_spelling p) (code_spelling xs) in
      let behind_p = append_assoc (placed_spelling p) (code_spelling xs) a in
      let behind_q = append_assoc (placed_spelling q) (code_spelling ys) b in
      let apart = sym behind_p ∙ is ∙ behind_q in
      let sized = subst (λ (s : List ℕ). HasSize pc s m) apart (placed_sized pc p (code_spelling xs ++ a) x.0 f.0) in
      let long : m ≡ n = one_size pc _ m n sized (placed_sized pc q (code_spelling ys ++ b) y.0 g.0) in
      let cut = split_same (placed_spelling p) (placed_spelling q) _ _ long apart in
      let first : p ≡ q = one_placed p q (omega (arith, y.0, reach, joined)) (x.0 ∙ sym y.0) f.0 g.0 cut.0 in
      let laid = subst (λ (s : ℕ). IsLaid (pc + s) ys) (sym long) y.1 in
      let at : pc + length (code_spelling (p ∷ xs)) ≡ pc + m + length (code_spelling xs) = omega (arith, joined) in
      let after = subst (λ (s : ℕ). NoneStands s a) at none in
      let rest = front_of (pc + m) xs ys a b (omega (arith, reach, joined)) after cut.1 x.1 laid f.1 g.1 t.1 in
      (rest.0, ap (λ (ps : List Placed). p ∷ ps) rest.1 ∙ ap (λ (r : Placed). r ∷ ys ++ rest.0) first)

module _ (bytes : List ℕ) where
  -- what stands in front of the rest is good
  good_from_stands : (starts : List ℕ) (pc : ℕ) (p : Placed) (rest : List ℕ)
      → Stands starts pc (drop pc bytes) p rest → IsGood bytes starts pc
  good_from_stands starts pc p rest h =
      let text = placed_spelling p in
      let sized = subst (λ (b : List ℕ). HasSize pc b (length text)) (sym h.is) (placed_sized pc p rest h.at h.fits) in
      let cut = ap (λ (b : List ℕ). take (length text) b) h.is ∙ take_at text rest (length text) refl in
      let spelled = cut ∙ ap (λ (n : ℕ). spelling n p.instr) h.at in
      (length text, p.instr, sized, (spelled, subst (λ (n : ℕ). Fits n p.instr) h.at h.fits), h.has_targets)

  -- where the bytes end, or have their first fault, none stands
  none_at_end : (starts : List ℕ) (stop : ℕ) → HasStarts bytes starts stop → (code : List Placed) (end : End)
      → EndsAs bytes code end
      → NoneStands starts (length (code_spelling code)) (drop (length (code_spelling code)) bytes)
  none_at_end starts stop has code Whole ends p rest h =
      let at = length (code_spelling code) in
      let good = good_from_stands starts at p rest h in
      no_more bytes at good.0 (inl (ap length (sym ends.spelled))) good.2
  none_at_end starts stop has code (BadOpcode pc) ends p rest h =
      let good = good_from_stands starts (length (code_spelling code)) p rest h in
      let bad = ends.0 in
      let here = subst (λ (n : ℕ). HasSize n (drop n bytes) good.0) (sym ends.1) good.2 in
      no_more bytes pc good.0 bad.has.ends here
  none_at_end starts stop has code (BadTarget pc) ends p rest h =
      let bad = ends.0 in
      let good = good_from_stands starts (length (code_spelling code)) p rest h in
      let same = (one_starts bytes starts bad.starts stop bad.stop has bad.has).0 in
      let here = subst (λ (n : ℕ). IsGood bytes starts n) (sym ends.1) good in
      bad.bad (subst (λ (ss : List ℕ). IsGood bytes ss pc) same here)

  -- in reach of four signed bytes
  pub one_beginning_in_reach : length bytes ≤ 2 ^ 31 → (code : List Placed) (end : End) → BeginsWith bytes code
      → EndsAs bytes code end → (other : List Placed) → BeginsWith bytes other
      → (more : List Placed) × (code ≡ other ++ more)
  one_beginning_in_reach reach code end x ends other y =
      let at = length (code_spelling code) in
      let long = ap length x.parts ∙ length-append (code_spelling code) x.rest in
      let behind : drop at bytes ≡ x.rest =
      ap (λ (b : List ℕ). drop at b) x.parts ∙ drop_at (code_spelling code) x.rest at refl in
      let none = none_at_end y.starts y.stop y.has code end ends in
      let here = subst (λ (b : List ℕ). NoneStands y.starts at b) behind none in
      let from : at ≡ 0 + at = omega arith in
      front_of y.starts 0 code other x.rest y.rest (omega (arith, long, reach))
      (subst (λ (n : ℕ). NoneStands y.starts n x.rest) from here) (sym x.parts ∙ y.parts)
      x.laid y.laid x.fit y.fit y.have_targets
