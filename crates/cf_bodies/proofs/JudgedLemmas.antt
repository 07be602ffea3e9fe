-- The first of checks that rise which fails has the first fault.
use Rattle.std.proofs.Common.{◌≡◌, ℕ, ◌+◌, ◌≤◌, List, [], ◌∷◌, Result, Ok, Err, sym, subst, inl, inr, ap}
use Rattle.std.proofs.Common.{arith, IfOk, IfErr}
use Rattle.std.specs.List.{Contains}
use Rattle.std.proofs.lemmas.List.Elements.{Contains-append_right}
use Rattle.jv_list.specs.Firsts.{FirstBreaks}
use Rattle.jv_list.proofs.FirstLemmas.{all_member}
use Rattle.jv_list.proofs.MemberLemmas.{none_member, member_cases, first_member}
use Rattle.cf_pool.specs.declared.entry.PoolEntry.{PoolEntry}
use Rattle.cf_pool.specs.declared.fault.Fault.{Fault}
use Rattle.cf_structure.specs.declared.fault.ClassFault.{ClassFault}
use Rattle.cf_structure.specs.declared.fault.ClassFault.TheVariants.{Malformed, NoMemory}
use Rattle.cf_structure.specs.ClassFile.{Names}
use Rattle.cf_structure.specs.Raw.{RawFile}
use Rattle.cf_judge.specs.Judged.{IsFirst}
use Rattle.cf_bodies.specs.Checks.{CheckAt, checks}
use Rattle.cf_bodies.specs.Judged.{Fails, IsFailure, HasGoodBodies, IsBodyFault}
use Rattle.cf_bodies.specs.Calls.Tells.{IsPassed, IsFailed, ArePassed, IsFirstFailed, Tells}
use Rattle.cf_bodies.proofs.RiseLemmas.{Rise}

module _ (pool : List PoolEntry) where
  failure_more : (d : CheckAt) (cs : List CheckAt) (fault : Fault) → IsFailure pool cs fault
      → IsFailure pool (d ∷ cs) fault
  failure_more d cs fault f = record {
    failed = f.failed;
    offset = f.offset;
    is_checked = Contains-append_right (d ∷ []) cs f.failed f.is_checked;
    place_is = f.place_is;
    fails = f.fails;
  }

  pub is_failure : (cs : List CheckAt) (fault : Fault) → IsFirstFailed pool cs fault → IsFailure pool cs fault
  unfolding FirstBreaks
  is_failure [] fault h = absurd h
  is_failure (c ∷ cs) fault (inl here) = record {
    failed = c;
    offset = here.offset;
    is_checked = first_member c cs;
    place_is = here.place_is;
    fails = here.fails;
  }
  is_failure (c ∷ cs) fault (inr later) = failure_more c cs fault (is_failure cs fault later.1)

  module _ (fault other : Fault) (d : CheckAt) (offset : ℕ) (at : other.place ≡ d.place + offset)
      (fails : Fails pool d.check offset other.what) where
    here_again : (c : CheckAt) → c ≡ d → Fails pool c.check offset other.what
    here_again c same = subst (λ (x : CheckAt). Fails pool x.check offset other.what) (sym same) fails

    -- no failure stands below where the checks begin
    not_below : (low high : ℕ) (cs : List CheckAt) → Rise pool low high cs → Contains cs d → low ≤ other.place
    unfolding Rise
    not_below low high [] rise member = absurd (none_member d member)
    not_below low high (c ∷ cs) rise member = elim (member_cases c cs d member) [
      | inl same ↦
          let is = rise.1.fails_in offset other.what (here_again c same) in
          omega (arith, is.0, at, ap (λ (x : CheckAt). x.place) same)
      | inr later ↦
          let le = not_below rise.0 high cs rise.2 later in
          let mid = rise.1.le in
          omega (arith, le, mid)
    ]

    -- of one check
    in_one : (c : CheckAt) → IsFailed pool c fault → c ≡ d → IsFirst fault other
    in_one c here same = elim (here.first offset other.what (here_again c same)) [
      | inl lt ↦ inl (omega (arith, here.place_is, at, lt, ap (λ (x : CheckAt). x.place) same))
      | inr tie ↦ inr (omega (arith, here.place_is, at, tie.0, ap (λ (x : CheckAt). x.place) same), tie.1)
    ]

    pub is_first : (low high : ℕ) (cs : List CheckAt) → Rise pool low high cs → IsFirstFailed pool cs fault
        → Contains cs d
        → IsFirst fault other
    unfolding Rise FirstBreaks
    is_first low high [] rise h member = absurd h
    is_first low high (c ∷ cs) rise (inl here) member = elim (member_cases c cs d member) [
      | inl same ↦ in_one c here same
      | inr later ↦
          let le = not_below rise.0 high cs rise.2 later in
          let lt = (rise.1.fails_in here.offset fault.what here.fails).1 in
          inl (omega (arith, here.place_is, le, lt))
    ]
    is_first low high (c ∷ cs) rise (inr behind) member = elim (member_cases c cs d member) [
      | inl same ↦ absurd (behind.0 offset other.what (here_again c same))
      | inr later ↦ is_first rise.0 high cs rise.2 behind.1 later
    ]

-- a file whose checks are passed is in order
pub good_bodies : (file : RawFile) → ArePassed file.pool (checks file) → HasGoodBodies file
good_bodies file passed fault f =
    all_member (IsPassed file.pool) (checks file) f.failed passed f.is_checked f.offset fault.what f.fails

module _ (file : RawFile) (low high : ℕ) (rise : Rise file.pool low high (checks file)) where
  pub first_fault : (fault : Fault) → IsFirstFailed file.pool (checks file) fault → IsBodyFault file fault
  first_fault fault h = record {
    failure = is_failure file.pool (checks file) fault h;
    first = λ other f. is_first file.pool fault other f.failed f.offset f.place_is f.fails low high (checks file) rise h
        f.is_checked;
  }

  -- what tells of the checks of a file tells of the file
  module _ {X : Type 0} (IsGood : X → Type 0) where
    pub tells_found : (r : Result X ClassFault) → Tells file.pool (checks file) IsGood r
        → IfOk r (λ x. HasGoodBodies file)
    tells_found (Ok x) h = good_bodies file h.1
    tells_found (Err e) h = tt

    pub tells_value : (r : Result X ClassFault) → Tells file.pool (checks file) IsGood r → IfOk r IsGood
    tells_value (Ok x) h = h.0
    tells_value (Err e) h = tt

    pub tells_fault : (r : Result X ClassFault) → Tells file.pool (checks file) IsGood r
        → IfErr r (Names (IsBodyFault file))
    tells_fault (Ok x) h = tt
    tells_fault (Err (Malformed fault)) h = first_fault fault h
    tells_fault (Err NoMemory) h = tt

    pub tells_outside : (r : Result X ClassFault) → Tells file.pool (checks file) IsGood r
        → IfErr r (Names (λ fault. HasGoodBodies file → ⊥))
    tells_outside (Ok x) h = tt
    tells_outside (Err (Malformed fault)) h = λ good. good fault (is_failure file.pool (checks file) fault h)
    tells_outside (Err NoMemory) h = tt
