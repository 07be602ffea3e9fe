-- A class and those above it, climbed to one after the other.
use Rattle.std.proofs.Common.{◌≡◌, ◌⊎◌, ℕ, ◌<◌, ◌≤◌, ◌+◌, List, [], ◌∷◌, length, slice_get, Contains, Some}
use Rattle.std.proofs.Common.{sym, subst, inl, inr, arith}
use Rattle.std.proofs.lemmas.Bool.{cases_lt}
use Rattle.std.proofs.lemmas.List.Elements.{Contains-append_cases}
use Rattle.std.proofs.lemmas.Option.{slice_get_within}
use Rattle.jv_list.proofs.ElementLemmas.{place_of, at_contains}
use Rattle.jv_list.proofs.MemberLemmas.{one_member, first_member}
use Rattle.cf_class.specs.declared.class_file.ClassFile.{ClassFile}
use Rattle.hi_tree.specs.declared.known.Up.{Up}
use Rattle.hi_tree.specs.Walks.{IsAbove, direct, further}
use Rattle.hi_inputs.specs.Upward.{names_up, AreUpward}
use Rattle.hi_inputs.specs.Calls.Below.{IsSuperOf}
use Rattle.hi_inputs.specs.Calls.Sets.{Follows}
use Rattle.hi_inputs.proofs.GrowLemmas.{at_grown, still}

module _ (classes : List ClassFile) (up : Up) (name : List ℕ) where
  abbrev IsUpward : List ℕ → Type 0
  IsUpward class = (name ≡ class) ⊎ IsAbove (names_up classes up) name class

  -- the classes before a place are followed
  pub record IsClimbing (list : List (List ℕ)) (place : ℕ) : Type 0 where
    pub started : Contains list name
    pub sound : (x : List ℕ) → Contains list x → IsUpward x
    pub closed : (at : ℕ) (p x : List ℕ) → at < place → slice_get list at ≡ Some p → IsSuperOf classes up p x
        → Contains list x

  pub climbing_start : (list : List (List ℕ)) → list ≡ name ∷ [] → IsClimbing list 0
  climbing_start list e = record {
    started = subst (λ l. Contains l name) (sym e) (first_member name []);
    sound = λ x h. inl (one_member name x (subst (λ l. Contains l x) e h));
    closed = λ at p x below is n. absurd (omega (arith, below));
  }

  above_again : {a b : List ℕ} (c : List ℕ) → IsAbove (names_up classes up) a b → IsSuperOf classes up b c
      → IsAbove (names_up classes up) a c
  above_again c (direct a b place e) n =
      let at = place_of (names_up classes up b) c n in
      further a b c place e (direct b c at.0 at.1)
  above_again c (further a above b place e r) n = further a above c place e (above_again c r n)

  upward_again : (p x : List ℕ) → IsUpward p → IsSuperOf classes up p x → IsUpward x
  upward_again p x (inl same) n =
      let at = place_of (names_up classes up p) x n in
      inr (direct name x at.0 (subst (λ q. slice_get (names_up classes up q) at.0 ≡ Some x) (sym same) at.1))
  upward_again p x (inr above) n = inr (above_again x above n)

  pub climbing_step : (old new : List (List ℕ)) (place : ℕ) → IsClimbing old place → place < length old
      → Follows (IsSuperOf classes up) old place new → IsClimbing new (place + 1)
  climbing_step old new place c within f = record {
    started = still old f.more new f.grows name c.started;
    sound = λ x h. elim (Contains-append_cases old f.more x (subst (λ l. Contains l x) f.grows h)) [
      | inl o ↦ c.sound x o
      | inr m ↦ let p = f.among x m in upward_again p.0 x (c.sound p.0 (at_contains old place p.0 p.1)) p.2
    ];
    closed = λ at p x below is n. elim (cases_lt at place) [
      | inl less ↦
          still old f.more new f.grows x
          (c.closed at p x less (at_grown old f.more new f.grows at p (omega (arith, less, within)) is) n)
      | inr more ↦
          let same : at ≡ place = omega (arith, more, below) in
          f.covers p x (at_grown old f.more new f.grows place p within
          (subst (λ i. slice_get new i ≡ Some p) same is)) n
    ];
  }

  module _ (list : List (List ℕ)) (place : ℕ) (c : IsClimbing list place) (past : length list ≤ place) where
    closed_next : (p x : List ℕ) → Contains list p → IsSuperOf classes up p x → Contains list x
    closed_next p x h n =
        let at = place_of list p h in
        let below : at.0 < length list = slice_get_within list at.0 p at.1 in
        c.closed at.0 p x (omega (arith, below, past)) at.1 n

    closed_above : {a b : List ℕ} → IsAbove (names_up classes up) a b → Contains list a → Contains list b
    closed_above (direct a b i e) h = closed_next a b h (at_contains (names_up classes up a) i b e)
    closed_above (further a above b i e r) h =
        closed_above r (closed_next a above h (at_contains (names_up classes up a) i above e))

    pub climbing_end : AreUpward classes up name list
    climbing_end x = (
      c.sound x,
      λ u. elim u [
        | inl same ↦ subst (Contains list) same c.started
        | inr above ↦ closed_above above c.started
      ],
    )
