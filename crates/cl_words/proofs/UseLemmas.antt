-- A use of an argument of `clap` passes where it has no fault.
use Rattle.std.proofs.Common.{◌≡◌, ◌+◌, ◌&&◌, ◌||◌, ℕ, Bool, true, false, not, refl, sym, List, [], ◌∷◌}
use Rattle.std.proofs.Common.{Option, Some}
use Rattle.std.proofs.Common.{None, true≢false, length, min, arith}
use Rattle.std.specs.Prelude.{◌==◌, nat_lt, nat_le, if◌then◌else◌}
use Rattle.std.specs.Option.{option_map_or}
use Rattle.std.proofs.lemmas.Bool.{eqb-true, ltb-false, le-leb}
use Rattle.clap.specs.Facts.{parser_of_value, unwrap_or_range}
use Rattle.clap.specs.Faults.{action_fault, count_fault, repeat_fault, set_fault, use_fault, values_fault}
use Rattle.clap.specs.Kinds.{Kinds, or_else, range_kinds, value_kinds}
use Rattle.clap.specs.Matches.{count_text}
use Rattle.clap.specs.Takes.{action_passes, count_passes, set_passes, use_passes, values_pass}
use Rattle.clap.specs.Values.{refused_kind}
use Rattle.clap.specs.ValueTests.{accepts}
use Rattle.clap.specs.Walk.{Row, Rule, Text, action_of, count_of, has_row, most_values, values_or_missing}
use Rattle.clap.specs.declared.builder.action.ArgAction.{ArgAction}
use Rattle.clap.specs.declared.builder.action.ArgAction.TheVariants as action
use Rattle.clap.specs.declared.builder.value_parser.ValueParser.{ValueParser}
use Rattle.clap.specs.declared.error.kind.ErrorKind.{ErrorKind}
use Rattle.clap.specs.declared.error.kind.ErrorKind.TheVariants as kind

-- ---- lists of faults

-- there is no fault
abbrev pub Passes : Kinds → Type 0
Passes kinds = kinds ≡ []

pub some : (k : ErrorKind) (ks : Kinds) → Passes (k ∷ ks) → ⊥
some k ks e = cc

pub neither : (a b : Kinds) → Passes (or_else a b) → Passes a × Passes b
neither [] b e = (refl, e)
neither (k ∷ ks) b e = absurd (some k ks e)

pub both_hold : (a b : Bool) → a ≡ true → b ≡ true → (a && b) ≡ true
both_hold true b p q = q
both_hold false b p q = absurd (true≢false (sym p))

pub by_option : {X : Type 0} (fault : X → Kinds) (passes : X → Bool) (o : Option X)
    → ((x : X) → Passes (fault x) → passes x ≡ true) → Passes (option_map_or fault o [])
    → option_map_or passes o true ≡ true
by_option fault passes None each e = refl
by_option fault passes (Some x) each e = each x e

pub choice : (b : Bool) (k l : Kinds) (p q : Bool) → (Passes k → p ≡ true) → (Passes l → q ≡ true)
    → Passes (if b then k else l) → (if b then p else q) ≡ true
choice true k l p q f g e = f e
choice false k l p q f g e = g e

pub unless : (b : Bool) (k : Kinds) (p : Bool) → (Passes k → p ≡ true) → Passes (if b then [] else k) → (b || p) ≡ true
unless true k p f e = refl
unless false k p f e = f e

-- ---- values, and one use of an argument

value_passes_by : (ignore_case : Bool) (parser : ValueParser) (text : Text)
    → Passes (value_kinds ignore_case parser text) → accepts ignore_case parser text ≡ true
value_passes_by ignore_case parser text e = go (accepts ignore_case parser text) e
  where
    go : (b : Bool) → Passes (if b then [] else (refused_kind parser ∷ [])) → b ≡ true
    go true e = refl
    go false e = absurd (some _ _ e)

values_pass_by : (a : Rule) (values : List Text) → Passes (values_fault a values) → values_pass a values ≡ true
values_pass_by a [] e = refl
values_pass_by a (v ∷ vs) e =
    let parts = neither (value_kinds a.ignore_case (parser_of_value a.parser) v) (values_fault a vs) e in
    both_hold _ _ (value_passes_by a.ignore_case (parser_of_value a.parser) v parts.0) (values_pass_by a vs parts.1)

count_passes_by : (a : Rule) (values : List Text) (rows : List Row) → Passes (count_fault a values rows)
    → count_passes a values rows ≡ true
count_passes_by a [] rows e =
    value_passes_by a.ignore_case (parser_of_value a.parser) (count_text (min (count_of a.id rows + 1) 255)) e
count_passes_by a (v ∷ vs) rows e = values_pass_by a (v ∷ vs) e

set_passes_by : (again : Bool) (a : Rule) (values : List Text) (rows : List Row)
    → Passes (set_fault again a values rows)
    → set_passes again a values rows ≡ true
set_passes_by again a values rows e =
    let parts = neither (repeat_fault again a.id rows) (values_fault a values) e in
    both_hold _ _ (once (has_row a.id rows) again parts.0) (values_pass_by a values parts.1)
  where
    once : (had more : Bool)
        → Passes (if had && not more then kind.ArgumentConflict ∷ [] else [])
        → (not had || more) ≡ true
    once false more e = refl
    once true true e = refl
    once true false e = absurd (some _ _ e)

action_passes_by : (x : ArgAction) (again : Bool) (a : Rule) (values : List Text) (rows : List Row)
    → Passes (action_fault x again a values rows) → action_passes x again a values rows ≡ true
action_passes_by action.Set again a values rows e = set_passes_by again a values rows e
action_passes_by action.SetTrue again a values rows e = set_passes_by again a values rows e
action_passes_by action.SetFalse again a values rows e = set_passes_by again a values rows e
action_passes_by action.Append again a values rows e = values_pass_by a values e
action_passes_by action.Count again a values rows e = count_passes_by a values rows e
action_passes_by action.Help again a values rows e = absurd (some _ _ e)
action_passes_by action.HelpShort again a values rows e = absurd (some _ _ e)
action_passes_by action.HelpLong again a values rows e = absurd (some _ _ e)
action_passes_by action.Version again a values rows e = absurd (some _ _ e)

within : (least most n : ℕ) → Passes (range_kinds least most n) → (nat_le least n ≡ true) × (nat_le n most ≡ true)
within least most n e =
    go (nat_lt 0 least && n == 0) (least == most) (least == n) (nat_lt n least) (nat_lt most n)
    (λ same fits.
    let a = eqb-true least most same in
    let b = eqb-true least n fits in
    (le-leb least n (omega arith), le-leb n most (omega arith)))
    (λ above below.
    let a = ltb-false n least above in
    let b = ltb-false most n below in
    (le-leb least n (omega arith), le-leb n most (omega arith))) e
  where
    go : {X : Type 0} (none same fits above below : Bool) → (same ≡ true → fits ≡ true → X)
        → (above ≡ false → below ≡ false → X)
        → Passes (if none then kind.InvalidValue ∷ []
        else (if same then (if fits then [] else kind.WrongNumberOfValues ∷ [])
        else (if above then kind.TooFewValues ∷ [] else (if below then kind.TooManyValues ∷ [] else [])))) → X
    go true same fits above below one many e = absurd (some _ _ e)
    go false true true above below one many e = one refl refl
    go false true false above below one many e = absurd (some _ _ e)
    go false false fits true below one many e = absurd (some _ _ e)
    go false false fits false true one many e = absurd (some _ _ e)
    go false false fits false false one many e = many refl refl

pub use_passes_by : (again : Bool) (a : Rule) (values : List Text) (rows : List Row)
    → Passes (use_fault again a values rows)
    → use_passes again a values rows ≡ true
use_passes_by again a values rows e =
    let least = (unwrap_or_range a.range).start_inclusive in
    let parts = neither (range_kinds least (most_values a) (length values))
    (action_fault (action_of a) again a (values_or_missing a values) rows) e in
    let size = within least (most_values a) (length values) parts.0 in
    both_hold _ _ size.0
    (both_hold _ _ size.1 (action_passes_by (action_of a) again a (values_or_missing a values) rows parts.1))
