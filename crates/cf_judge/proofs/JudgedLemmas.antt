-- The first broken demand of those that rise has the first fault.
use Rattle.std.proofs.Common.{◌≡◌, List, [], ◌∷◌, sym, subst, inl, inr, ap, ◌∙◌, arith}
use Rattle.std.specs.List.{Contains, AllByRecursion}
use Rattle.jv_list.specs.Firsts.{FirstBreaks}
use Rattle.cf_pool.specs.declared.entry.PoolEntry.{PoolEntry}
use Rattle.cf_pool.specs.declared.fault.What.{What}
use Rattle.cf_pool.specs.declared.fault.Fault.{Fault}
use Rattle.cf_structure.specs.declared.fault.ClassFault.{ClassFault}
use Rattle.cf_structure.specs.declared.fault.ClassFault.TheVariants.{Malformed, NoMemory}
use Rattle.cf_structure.specs.Raw.{RawFile}
use Rattle.cf_structure.specs.ClassFile.{Names}
use Rattle.cf_judge.specs.Demands.{Demand, demands}
use Rattle.cf_judge.specs.Judged.{Breaks, IsWrong, IsFirst, IsJudged, IsJudgedFault}
use Rattle.cf_judge.specs.Calls.Tells.{IsBroken, AreKept, IsFirstBroken}
use Rattle.cf_judge.proofs.RisingLemmas.{IsBefore, AreRising}
use Rattle.cf_judge.proofs.RiseLemmas.{file_rises}
use Rattle.jv_list.proofs.MemberLemmas.{none_member, member_cases, first_member}
use Rattle.std.proofs.lemmas.List.Elements.{Contains-append_right}

module _ (pool : List PoolEntry) where
  none_wrong : (ds : List Demand) → AreKept pool ds → (d : Demand) (what : What) → Contains ds d
      → Breaks pool d.rule what
      → ⊥
  unfolding AreKept
  none_wrong [] kept d what member breaks = none_member d member
  none_wrong (e ∷ ds) kept d what member breaks = elim (member_cases e ds d member) [
    | inl same ↦ kept.0 what (subst (λ (x : Demand). Breaks pool x.rule what) (sym same) breaks)
    | inr later ↦ none_wrong ds kept.1 d what later breaks
  ]

  wrong_more : (e : Demand) (ds : List Demand) (fault : Fault) → IsWrong pool ds fault → IsWrong pool (e ∷ ds) fault
  wrong_more e ds fault w = record {
    broken = w.broken;
    is_demanded = Contains-append_right (e ∷ []) ds w.broken w.is_demanded;
    place_is = w.place_is;
    breaks = w.breaks;
  }

  is_wrong : (ds : List Demand) (fault : Fault) → IsFirstBroken pool ds fault → IsWrong pool ds fault
  unfolding IsFirstBroken FirstBreaks
  is_wrong [] fault h = absurd h
  is_wrong (d ∷ ds) fault (inl here) =
      record { broken = d; is_demanded = first_member d ds; place_is = here.place_is; breaks = here.breaks }
  is_wrong (d ∷ ds) fault (inr later) = wrong_more d ds fault (is_wrong ds fault later.1)

  module _ (fault other : Fault) where
    from_before : (d e : Demand) → IsBroken pool d fault → IsBefore pool d e → other.place ≡ e.place
        → Breaks pool e.rule other.what → IsFirst fault other
    from_before d e here (inl lt) at breaks = inl (omega (arith, here.place_is, at))
    from_before d e here (inr same) at breaks =
        inr (here.place_is ∙ same.0 ∙ sym at, same.1 fault.what other.what here.breaks breaks)

    all_before : (d : Demand) (ds : List Demand) (e : Demand) → AllByRecursion (IsBefore pool d) ds → Contains ds e
        → IsBefore pool d e
    all_before d [] e h member = absurd (none_member e member)
    all_before d (x ∷ ds) e h member = elim (member_cases x ds e member) [
      | inl same ↦ subst (IsBefore pool d) same h.0
      | inr later ↦ all_before d ds e h.1 later
    ]

    is_first : (ds : List Demand) → AreRising pool ds → IsFirstBroken pool ds fault → (e : Demand) → Contains ds e
        → other.place ≡ e.place → Breaks pool e.rule other.what → IsFirst fault other
    unfolding AreRising IsFirstBroken FirstBreaks
    is_first [] rising h e member at breaks = absurd h
    is_first (d ∷ ds) rising (inl here) e member at breaks = elim (member_cases d ds e member) [
      | inl same ↦
          let is = subst (λ (x : Demand). Breaks pool x.rule other.what) (sym same) breaks in
          inr (here.place_is ∙ ap (λ (x : Demand). x.place) same ∙ sym at, here.first other.what is)
      | inr later ↦ from_before d e here (all_before d ds e rising.0 later) at breaks
    ]
    is_first (d ∷ ds) rising (inr behind) e member at breaks = elim (member_cases d ds e member) [
      | inl same ↦ absurd (behind.0 other.what
          (subst (λ (x : Demand). Breaks pool x.rule other.what) (sym same) breaks))
      | inr later ↦ is_first ds rising.1 behind.1 e later at breaks
    ]

-- what a refusal names
pub named : (P Q : Fault → Type 0) → ((fault : Fault) → P fault → Q fault) → (refusal : ClassFault) → Names P refusal
    → Names Q refusal
named P Q f (Malformed fault) h = f fault h
named P Q f NoMemory h = tt

-- a file whose demands are kept is in order
pub judged : (file : RawFile) → AreKept file.pool (demands file) → IsJudged file
judged file kept =
    λ fault wrong. none_wrong file.pool (demands file) kept wrong.broken fault.what wrong.is_demanded wrong.breaks

-- the first broken demand has the first fault
pub judged_fault : (file : RawFile) (fault : Fault) → IsFirstBroken file.pool (demands file) fault
    → IsJudgedFault file fault
judged_fault file fault h = record {
  wrong = is_wrong file.pool (demands file) fault h;
  first = λ other wrong. is_first file.pool fault other (demands file) (file_rises file).rising h wrong.broken
      wrong.is_demanded wrong.place_is wrong.breaks;
}

-- then it is not in order
pub not_judged : (file : RawFile) (fault : Fault) → IsFirstBroken file.pool (demands file) fault → IsJudged file → ⊥
not_judged file fault h judged = judged fault (is_wrong file.pool (demands file) fault h)
