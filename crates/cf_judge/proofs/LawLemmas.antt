-- A file is in order, or it has one first fault.
use Rattle.std.proofs.Common.{◌≡◌, ℕ, ◌≤◌, List, [], ◌∷◌, get_or, Some, None, refl, sym, ap, ◌∙◌, inl, inr}
use Rattle.std.proofs.Common.{◌⊎◌, arith}
use Rattle.jv_base.specs.Laws.{FormsDecided}
use Rattle.jv_list.specs.Firsts.{FirstBreaks}
use Rattle.cf_pool.specs.declared.entry.PoolEntry.{PoolEntry}
use Rattle.cf_pool.specs.declared.fault.What.{What}
use Rattle.cf_pool.specs.declared.fault.What.TheVariants as words
use Rattle.cf_pool.specs.declared.fault.Fault.{Fault}
use Rattle.cf_structure.specs.Raw.{RawFile}
use Rattle.cf_judge.specs.Words.{rank}
use Rattle.cf_judge.specs.Demands.{Demand, demands}
use Rattle.cf_judge.specs.Judged.{Breaks, IsFirst}
use Rattle.cf_judge.specs.Laws.{OneJudgementOf}
use Rattle.cf_judge.specs.Calls.Tells.{IsKept, IsBroken, AreKept, IsFirstBroken}
use Rattle.cf_judge.proofs.JudgedLemmas.{judged, judged_fault}
use Rattle.cf_judge.proofs.WordLemmas.{HasWord, rule_word}

module _ (law : FormsDecided) (pool : List PoolEntry) where
  -- a demand is broken or kept
  one_demand : (d : Demand) → ((fault : Fault) × IsBroken pool d fault) ⊎ IsKept pool d
  one_demand d = by_word (rule_word law pool d.rule)
    where
      by_word : HasWord (Breaks pool d.rule) → ((fault : Fault) × IsBroken pool d fault) ⊎ IsKept pool d
      by_word (None, tells) = inr tells
      by_word (Some what, tells) = inl (
        record { place = d.place; what = what },
        record { place_is = refl; breaks = tells.0; first = tells.1 },
      )

  -- some demand is the first that is broken, or all are kept
  all_demands : (ds : List Demand) → ((fault : Fault) × IsFirstBroken pool ds fault) ⊎ AreKept pool ds
  unfolding AreKept IsFirstBroken FirstBreaks
  all_demands [] = inr tt
  all_demands (d ∷ ds) = elim (one_demand d) [
    | inl broken ↦ inl (broken.0, inl broken.1)
    | inr kept ↦ elim (all_demands ds) [
      | inl later ↦ inl (later.0, inr (kept, later.1))
      | inr others ↦ inr (kept, others)
    ]
  ]

-- ---- one fault

all_words : List What
all_words =
    words.Truncated ∷ words.BadMagic ∷ words.BadVersion ∷ words.BadTag ∷ words.BadUtf8 ∷ words.BadLength ∷ words.Extra
    ∷ words.BadIndex ∷ words.BadName ∷ words.BadDesc ∷ words.Duplicate ∷ words.CodeRule ∷ words.WrongName
    ∷ words.BadOpcode ∷ words.BadTarget ∷ words.TooLong ∷ words.Circular ∷ words.BadSuper ∷ []

word_at : ℕ → What
word_at n = get_or all_words n words.BadSuper

of_rank : (what : What) → word_at (rank what) ≡ what
unfolding all_words word_at
of_rank words.Truncated = refl
of_rank words.BadMagic = refl
of_rank words.BadVersion = refl
of_rank words.BadTag = refl
of_rank words.BadUtf8 = refl
of_rank words.BadLength = refl
of_rank words.Extra = refl
of_rank words.BadIndex = refl
of_rank words.BadName = refl
of_rank words.BadDesc = refl
of_rank words.Duplicate = refl
of_rank words.CodeRule = refl
of_rank words.WrongName = refl
of_rank words.BadOpcode = refl
of_rank words.BadTarget = refl
of_rank words.TooLong = refl
of_rank words.Circular = refl
of_rank words.BadSuper = refl

one_rank : (a b : What) → rank a ≤ rank b → rank b ≤ rank a → a ≡ b
one_rank a b le ge =
    let e : rank a ≡ rank b = omega arith in
    sym (of_rank a) ∙ ap word_at e ∙ of_rank b

same_fault : (a b : Fault) → a.place ≡ b.place → a.what ≡ b.what → a ≡ b
same_fault a b p w =
    ap (λ (n : ℕ). record { place = n; what = a.what }) p ∙ ap (λ (x : What). record { place = b.place; what = x }) w

-- of two faults neither is before the other only where they are the same
pub one_first : (a b : Fault) → IsFirst a b → IsFirst b a → a ≡ b
one_first a b (inl lt) (inl gt) = absurd (omega arith)
one_first a b (inl lt) (inr h) = absurd (omega (arith, h.0))
one_first a b (inr h) (inl gt) = absurd (omega (arith, h.0))
one_first a b (inr h) (inr k) = same_fault a b h.0 (one_rank a.what b.what h.1 k.1)

pub one_judgement : FormsDecided → (file : RawFile) → OneJudgementOf file
one_judgement law file = record {
  one = elim (all_demands law file.pool (demands file)) [
    | inl broken ↦ inr (broken.0, judged_fault file broken.0 broken.1)
    | inr kept ↦ inl (judged file kept)
  ];
  one_fault = λ a b h k. one_first a b (h.first b k.wrong) (k.first a h.wrong);
  not_both = λ fault is h. is fault h.wrong;
}
