-- The code that stands at the starts of bytes, as far as it is read.
use Rattle.std.proofs.Common.{◌≡◌, ◌<◌, ◌≤◌, ◌+◌, ◌-◌, ℕ, List, [], ◌∷◌, ◌++◌, length, take, drop, get_or, refl, sym}
use Rattle.std.proofs.Common.{ap}
use Rattle.std.proofs.Common.{subst, ◌∙◌, append_assoc, append-nil, length-append, arith}
use Rattle.std.specs.List.{AllByRecursion}
use Rattle.std.proofs.lemmas.List.{take-append-drop, drop-drop, drop_all, length-take-le, get_or-take, take_more}
use Rattle.std.proofs.lemmas.List.{take_all, get_or_default}
use Rattle.std.proofs.lemmas.List.Elements.{All-get_or, All-from_recursion}
use Rattle.jv_list.proofs.PieceLemmas.{rest_is}
use Rattle.cf_code.specs.Code.{code_spelling, AllFit}
use Rattle.cf_code.specs.Decoding.{IsLaid, pcs, HasTargets, IsCode, FallsInto, HasStarts, IsGood, HasBadOpcode}
use Rattle.cf_code.specs.Decoding.{HasBadTarget, BeginsWith, EndsAs}
use Rattle.cf_code.specs.Instr.{spelling, Fits, IsInstr}
use Rattle.cf_code.specs.Sizes.{HasSize}
use Rattle.cf_code.specs.Steps.Starts.{IsOnlyInstr}
use Rattle.cf_code.specs.declared.code.Placed.{Placed}
use Rattle.cf_code.specs.declared.decoding.End.TheVariants.{Whole, BadOpcode, BadTarget}
use Rattle.cf_code.specs.declared.instr.Instr.{Instr}
use Rattle.cf_code.proofs.SizeLemmas.{size_within}
use Rattle.cf_code.proofs.StartLemmas.{earlier_index, falls_take}

-- at each of these starts stands an instruction whose targets are starts
abbrev pub Places : List ℕ → List ℕ → List ℕ → List Placed → Type 0
Places bytes starts [] [] = Unit {0}
Places bytes starts [] (p ∷ ps) = ⊥
Places bytes starts (s ∷ ss) [] = ⊥
Places bytes starts (s ∷ ss) (p ∷ ps) =
    (p.pc ≡ s) × IsOnlyInstr starts s (drop s bytes) p.instr × Places bytes starts ss ps

module _ (bytes starts : List ℕ) where
  -- one more instruction
  places_more : (ss : List ℕ) (ps : List Placed) (s : ℕ) (p : Placed) → Places bytes starts ss ps → p.pc ≡ s
      → IsOnlyInstr starts s (drop s bytes) p.instr → Places bytes starts (ss ++ s ∷ []) (ps ++ p ∷ [])
  places_more [] [] s p h e is = (e, is, tt)
  places_more [] (q ∷ ps) s p h e is = absurd h
  places_more (t ∷ ss) [] s p h e is = absurd h
  places_more (t ∷ ss) (q ∷ ps) s p h e is = (h.0, h.1, places_more ss ps s p h.2 e is)

  -- one more instruction, of a list of starts
  pub places_step : (k : ℕ) (ps qs : List Placed) (p : Placed) → k < length starts
      → Places bytes starts (take k starts) ps → p.pc ≡ get_or starts k 0
      → IsOnlyInstr starts (get_or starts k 0) (drop (get_or starts k 0) bytes) p.instr → qs ≡ ps ++ p ∷ []
      → Places bytes starts (take (k + 1) starts) qs
  places_step k ps qs p l h e only is =
      let more = places_more (take k starts) ps (get_or starts k 0) p h e only in
      let here = subst (λ (ss : List ℕ). Places bytes starts ss (ps ++ p ∷ [])) (sym (take_more starts k 0 l)) more in
      subst (λ (rs : List Placed). Places bytes starts (take (k + 1) starts) rs) (sym is) here

  -- no start is left
  pub places_all : (k : ℕ) (ps : List Placed) → length starts ≤ k → Places bytes starts (take k starts) ps
      → Places bytes starts starts ps
  places_all k ps l h = subst (λ (ss : List ℕ). Places bytes starts ss ps) (take_all k starts l) h

  -- ---- what stands at the starts

  good_from_only : (s : ℕ) (i : Instr) → IsOnlyInstr starts s (drop s bytes) i → IsGood bytes starts s
  good_from_only s i only = (only.size, i, only.has, only.is, only.has_targets)

  -- the starts are good
  places_good : (ss : List ℕ) (ps : List Placed) → Places bytes starts ss ps → AllByRecursion (IsGood bytes starts) ss
  places_good [] ps h = tt
  places_good (s ∷ ss) [] h = absurd h
  places_good (s ∷ ss) (p ∷ ps) h = (good_from_only s p.instr h.1, places_good ss ps h.2)

  -- the pcs are the starts
  places_pcs : (ss : List ℕ) (ps : List Placed) → Places bytes starts ss ps → ss ≡ pcs ps
  places_pcs [] [] h = refl
  places_pcs [] (p ∷ ps) h = absurd h
  places_pcs (s ∷ ss) [] h = absurd h
  places_pcs (s ∷ ss) (p ∷ ps) h =
      ap (λ (n : ℕ). n ∷ ss) (sym h.0) ∙ ap (λ (ns : List ℕ). p.pc ∷ ns) (places_pcs ss ps h.2)

  places_fit : (ss : List ℕ) (ps : List Placed) → Places bytes starts ss ps → AllFit ps
  places_fit [] [] h = tt
  places_fit [] (p ∷ ps) h = absurd h
  places_fit (s ∷ ss) [] h = absurd h
  places_fit (s ∷ ss) (p ∷ ps) h = (subst (λ (n : ℕ). Fits n p.instr) (sym h.0) h.1.is.1, places_fit ss ps h.2)

  places_have_targets : (ss : List ℕ) (ps : List Placed) → Places bytes starts ss ps
      → AllByRecursion (λ (p : Placed). HasTargets starts p.instr) ps
  places_have_targets [] [] h = tt
  places_have_targets [] (p ∷ ps) h = absurd h
  places_have_targets (s ∷ ss) [] h = absurd h
  places_have_targets (s ∷ ss) (p ∷ ps) h = (h.1.has_targets, places_have_targets ss ps h.2)

  -- the bytes at a start are those of its instruction
  one_spelled : (pc s size : ℕ) (p : Placed) → s ≡ pc → HasSize pc (drop pc bytes) size → p.pc ≡ s
      → IsOnlyInstr starts s (drop s bytes) p.instr → take size (drop pc bytes) ≡ spelling p.pc p.instr
  one_spelled pc s size p e h pc_is only =
      let same = only.only size (subst (λ (n : ℕ). HasSize n (drop n bytes) size) (sym e) h) in
      ap (λ (n : ℕ). take size (drop n bytes)) (sym e) ∙ ap (λ (n : ℕ). take n (drop s bytes)) same ∙ only.is.0
      ∙ ap (λ (n : ℕ). spelling n p.instr) (sym pc_is)

  -- an instruction is as long as the bytes up to the next start
  one_long : (pc s size : ℕ) (p : Placed) → s ≡ pc → HasSize pc (drop pc bytes) size → p.pc ≡ s
      → IsOnlyInstr starts s (drop s bytes) p.instr → size ≡ length (spelling p.pc p.instr)
  one_long pc s size p e h pc_is only =
      let there = size_within pc (drop pc bytes) size h in
      sym (length-take-le size (drop pc bytes) there.1) ∙ ap length (one_spelled pc s size p e h pc_is only)

  -- the bytes up to a start are those of the instructions before it
  places_spelled : (pc : ℕ) (ss : List ℕ) (ps : List Placed) (at : ℕ) → FallsInto bytes pc ss at
      → Places bytes starts ss ps
      → (drop pc bytes ≡ code_spelling ps ++ drop at bytes) × (at ≡ pc + length (code_spelling ps))
  places_spelled pc [] [] at f h = (ap (λ (n : ℕ). drop n bytes) f, omega (arith, f))
  places_spelled pc [] (p ∷ ps) at f h = absurd h
  places_spelled pc (s ∷ ss) [] at f h = absurd h
  places_spelled pc (s ∷ ss) (p ∷ ps) at f h =
      let size = f.1.0 in
      let text = spelling p.pc p.instr in
      let one = one_spelled pc s size p f.0 f.1.1 h.0 h.1 in
      let long = one_long pc s size p f.0 f.1.1 h.0 h.1 in
      let others = places_spelled (pc + size) ss ps at f.1.2 h.2 in (
        sym (take-append-drop size (drop pc bytes)) ∙ ap (λ (t : List ℕ). t ++ drop size (drop pc bytes)) one
            ∙ ap (λ (t : List ℕ). text ++ t) (drop-drop size pc bytes ∙ others.0)
            ∙ sym (append_assoc text (code_spelling ps) (drop at bytes)),
        omega (arith, others.1, long, length-append text (code_spelling ps)),
      )

  places_laid : (pc : ℕ) (ss : List ℕ) (ps : List Placed) (stop : ℕ) → FallsInto bytes pc ss stop
      → Places bytes starts ss ps → IsLaid pc ps
  places_laid pc [] [] stop f h = tt
  places_laid pc [] (p ∷ ps) stop f h = absurd h
  places_laid pc (s ∷ ss) [] stop f h = absurd h
  places_laid pc (s ∷ ss) (p ∷ ps) stop f h =
      let long = one_long pc s f.1.0 p f.0 f.1.1 h.0 h.1 in
      (h.0 ∙ f.0, subst (λ (n : ℕ). IsLaid (pc + n) ps) long (places_laid (pc + f.1.0) ss ps stop f.1.2 h.2))

  -- ---- what is read at a place

  -- an instruction that is read from there on
  pub only_there : (same : List ℕ) (pc at : ℕ) (i : Instr) → at ≡ pc → same ≡ starts
      → IsOnlyInstr same pc (take (length bytes - at) (drop at bytes)) i → IsOnlyInstr starts pc (drop pc bytes) i
  only_there same pc at i e s only =
      let here = subst (λ (b : List ℕ). IsOnlyInstr same pc b i) (rest_is bytes pc at e) only in
      subst (λ (ss : List ℕ). IsOnlyInstr ss pc (drop pc bytes) i) s here

  -- a good start's instruction is to be read from there on
  pub good_there : (same : List ℕ) (pc at : ℕ) → at ≡ pc → same ≡ starts → IsGood bytes starts pc
      → (size : ℕ) × (i : Instr) × HasSize pc (take (length bytes - at) (drop at bytes)) size
      × IsInstr pc (take size (take (length bytes - at) (drop at bytes))) i × HasTargets same i
  good_there same pc at e s good =
      let back = sym (rest_is bytes pc at e) in
      let sized = subst (λ (b : List ℕ). HasSize pc b good.0) back good.2 in
      let is = subst (λ (b : List ℕ). IsInstr pc (take good.0 b) good.1) back good.3 in
      (good.0, good.1, sized, is, subst (λ (ss : List ℕ). HasTargets ss good.1) (sym s) good.4)

  -- ---- answers

  module _ (stop : ℕ) (ps : List Placed) (has : HasStarts bytes starts stop) where
    -- the code, where the instructions fill the bytes
    code_whole : length bytes ≤ stop → Places bytes starts starts ps → IsCode bytes ps
    code_whole l h =
        let given = places_have_targets starts ps h in
        let targeted = λ (ss : List ℕ). AllByRecursion (λ (p : Placed). HasTargets ss p.instr) ps in
        record {
          spelled = (places_spelled 0 starts ps stop has.falls h).0
              ∙ ap (λ (t : List ℕ). code_spelling ps ++ t) (drop_all stop bytes l) ∙ append-nil (code_spelling ps);
          laid = places_laid 0 starts ps stop has.falls h;
          fit = places_fit starts ps h;
          have_targets = subst targeted (places_pcs starts ps h) given;
        }

    -- what the bytes begin with, up to a start or the stop
    begins : (ss : List ℕ) (at : ℕ) → FallsInto bytes 0 ss at → Places bytes starts ss ps → BeginsWith bytes ps
    begins ss at falls h = record {
      starts = starts;
      stop = stop;
      rest = drop at bytes;
      has = has;
      parts = (places_spelled 0 ss ps at falls h).0;
      laid = places_laid 0 ss ps at falls h;
      fit = places_fit ss ps h;
      have_targets = places_have_targets ss ps h;
    }

    begins_to : (ss : List ℕ) (at : ℕ) → FallsInto bytes 0 ss at → Places bytes starts ss ps
        → at ≡ length (code_spelling ps)
    begins_to ss at falls h = omega (arith, (places_spelled 0 ss ps at falls h).1)

    -- no instruction begins where they stop
    bad_opcode : stop < length bytes → Places bytes starts starts ps → HasBadOpcode bytes stop
    bad_opcode inside h =
        record { starts = starts; has = has; inside = inside; good = places_good starts ps h }

    -- the start behind the good ones is not
    bad_target : (k pc : ℕ) → k < length starts → pc ≡ get_or starts k pc
        → Places bytes starts (take k starts) ps → (IsGood bytes starts pc → ⊥) → HasBadTarget bytes pc
    bad_target k pc kl ke h bad = record {
      starts = starts;
      stop = stop;
      has = has;
      is_start = (k, kl, sym ke);
      bad = bad;
      good = λ early is lt.
          let jk = earlier_index bytes starts stop is.0 k early pc has is.1 is.2 kl ke lt in
          let inside : is.0 < length (take k starts) = omega (arith, jk, length-take-le k starts (omega arith)) in
          let front = take k starts in
          let all = All-from_recursion (IsGood bytes starts) front (places_good front ps h) in
          let good = All-get_or (IsGood bytes starts) front is.0 early inside all in
          subst (λ (n : ℕ). IsGood bytes starts n) (get_or-take k starts is.0 early jk ∙ is.2) good;
    }

    -- ---- where a walk ends, after so many starts, with these instructions

    module _ (code : List Placed) (same : code ≡ ps) (k : ℕ) (h : Places bytes starts (take k starts) ps) where
      -- at a start
      pub begins_at : k < length starts → BeginsWith bytes code
      begins_at lt =
          let falls = falls_take bytes 0 starts stop k 0 has.falls lt in
          let read = begins (take k starts) (get_or starts k 0) falls h in
          subst (λ (qs : List Placed). BeginsWith bytes qs) (sym same) read

      -- which is not good
      pub ends_at : k < length starts → (IsGood bytes starts (get_or starts k 0) → ⊥)
          → EndsAs bytes code (BadTarget (get_or starts k 0))
      ends_at lt bad =
          let at = get_or starts k 0 in
          let falls = falls_take bytes 0 starts stop k 0 has.falls lt in
          let to = begins_to (take k starts) at falls h in (
            bad_target k at lt (get_or_default starts k 0 at lt) h bad,
            to ∙ ap (λ (qs : List Placed). length (code_spelling qs)) (sym same),
          )

      -- behind the last start
      pub begins_all : length starts ≤ k → BeginsWith bytes code
      begins_all past =
          let read = begins starts stop has.falls (places_all k ps past h) in
          subst (λ (qs : List Placed). BeginsWith bytes qs) (sym same) read

      -- where the bytes go on
      pub ends_inside : length starts ≤ k → stop < length bytes → EndsAs bytes code (BadOpcode stop)
      ends_inside past inside =
          let all = places_all k ps past h in
          let to = begins_to starts stop has.falls all in
          (bad_opcode inside all, to ∙ ap (λ (qs : List Placed). length (code_spelling qs)) (sym same))

      -- where they end
      pub ends_whole : length starts ≤ k → length bytes ≤ stop → EndsAs bytes code Whole
      ends_whole past le =
          subst (λ (qs : List Placed). IsCode bytes qs) (sym same) (code_whole le (places_all k ps past h))
