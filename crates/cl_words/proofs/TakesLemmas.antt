-- A simple command of `clap` takes the words where no step of their parse has a fault.
use Rattle.std.proofs.Common.{◌≡◌, ◌∙◌, ◌&&◌, ◌||◌, ℕ, Bool, true, false, not, zero, suc, refl, sym, ap, List, []}
use Rattle.std.proofs.Common.{◌∷◌, Option}
use Rattle.std.proofs.Common.{Some, None, length, drop, is_some}
use Rattle.std.specs.Prelude.{encode_utf8, slice_get, if◌then◌else◌}
use Rattle.std.specs.List.{list_all}
use Rattle.std.specs.Option.{option_map_or}
use Rattle.std.specs.Str.{bytes_eq, chars}
use Rattle.clap.specs.Faults.{built_fault, bundle_step_fault, entered_fault, fault_of, flag_word_fault, flags_fault}
use Rattle.clap.specs.Faults.{level_fault, long_fault, option_fault, other_fault, positional_fault, react_fault}
use Rattle.clap.specs.Faults.{settle_fault}
use Rattle.clap.specs.Faults.{short_fault, step_fault, stray_fault, turn_fault, use_fault, walk_fault, word_fault}
use Rattle.clap.specs.Kinds.{Kinds}
use Rattle.clap.specs.Lexer.{long_of, short_of}
use Rattle.clap.specs.Simple.{App, Shape, argument_words, built, entered, is_simple}
use Rattle.clap.specs.Takes.{built_takes, bundle_step_passes, default_passes, entered_passes, flag_word_passes}
use Rattle.clap.specs.Takes.{flags_pass}
use Rattle.clap.specs.Takes.{is_valid, level_passes, long_passes, option_passes, other_passes, positional_passes}
use Rattle.clap.specs.Takes.{react_passes, settle_passes, short_passes, step_passes, takes, turn_passes, walk_passes}
use Rattle.clap.specs.Takes.{word_passes}
use Rattle.clap.specs.Walk.{Held, Names, Row, Rule, Step, Text, Waiting, Walk, arg_by_id, arg_by_index, arg_by_long}
use Rattle.clap.specs.Walk.{arg_by_short, attached_value, finished, is_pending, nothing_held, reacted, settled}
use Rattle.clap.specs.Walk.{subcommand_met, takes_several, takes_values, walk, walk_from, walked, word_met}
use Rattle.clap.specs.Walk.{next, trailing, subcommand, value}
use Rattle.clap.specs.declared.error.kind.ErrorKind.TheVariants as kind
use Rattle.cl_words.proofs.UseLemmas.{Passes, both_hold, by_option, choice, neither, some, unless, use_passes_by}

-- ---- one word

module _ (c : List Rule) (again : Bool) where
  settle_by : (h : Held) → Passes (settle_fault c again h) → settle_passes c again h ≡ true
  settle_by h e =
      by_option _ _ h.pending
      (λ p f. by_option _ _ (arg_by_id c p.0) (λ a g. use_passes_by again a p.1 h.rows g) f) e

  react_by : (a : Rule) (values : List Text) (h : Held) → Passes (react_fault c again a values h)
      → react_passes c again a values h ≡ true
  react_by a values h e =
      let parts = neither (settle_fault c again h) (use_fault again a values (settled c h).rows) e in
      both_hold _ _ (settle_by h parts.0) (use_passes_by again a values (settled c h).rows parts.1)

  option_by : (a : Rule) (v : Option Text) (h : Held) → Passes (option_fault c again a v h)
      → option_passes c again a v h ≡ true
  option_by a (Some v) h e = react_by a (v ∷ []) h e
  option_by a None h e = settle_by h e

  long_by : (a : Option Rule) (v : Option Text) (h : Held) → Passes (long_fault c again a v h)
      → long_passes c again a v h ≡ true
  long_by None v h e = absurd (some _ _ e)
  long_by (Some a) v h e = choice (takes_values a) _ _ _ _ (option_by a v h) (flag v) e
    where
      flag : (v : Option Text)
          → Passes (if is_some v then kind.TooManyValues ∷ [] else react_fault c again a [] h)
          → (not (is_some v) && react_passes c again a [] h) ≡ true
      flag None e = react_by a [] h e
      flag (Some v) e = absurd (some _ _ e)

  short_by : (a : Option Rule) (rest : Text) (h : Held) (more : Held → Kinds) (passes : Held → Bool)
      → ((h : Held) → Passes (more h) → passes h ≡ true) → Passes (short_fault c again a rest h more)
      → short_passes c again a rest h passes ≡ true
  short_by None rest h more passes each e = absurd (some _ _ e)
  short_by (Some a) rest h more passes each e =
      choice (takes_values a) _ _ _ _ (option_by a (attached_value rest) h)
      (λ f.
      let parts = neither (react_fault c again a [] h) (more (reacted c a [] h)) f in
      both_hold _ _ (react_by a [] h parts.0) (each (reacted c a [] h) parts.1)) e

  bundle_step_by : (x : Option ℕ) (flags : Text) (skip : ℕ) (h : Held) (more : Text → ℕ → Held → Kinds)
      (passes : Text → ℕ → Held → Bool) → ((t : Text) (n : ℕ) (h : Held) → Passes (more t n h) → passes t n h ≡ true)
      → Passes (bundle_step_fault c again x flags skip h more) → bundle_step_passes c again x flags skip h passes ≡ true
  bundle_step_by None flags skip h more passes each e = refl
  bundle_step_by (Some x) flags zero h more passes each e =
      let rest = drop (length (encode_utf8 x)) flags in
      short_by (arg_by_short c x) rest h (more rest 0) (passes rest 0) (each rest 0) e
  bundle_step_by (Some x) flags (suc skip) h more passes each e = each (drop (length (encode_utf8 x)) flags) skip h e

  flags_by : (k : ℕ) (flags : Text) (skip : ℕ) (h : Held) → Passes (flags_fault c again k flags skip h)
      → flags_pass c again k flags skip h ≡ true
  unfolding flags_fault flags_pass
  flags_by zero flags skip h e = refl
  flags_by (suc k) flags skip h e =
      bundle_step_by (slice_get (chars flags) 0) flags skip h (flags_fault c again k) (flags_pass c again k)
      (flags_by k) e

  flag_word_by : (o : Option (Text × Option Text)) (word : Text) (h : Held) → Passes (flag_word_fault c again o word h)
      → flag_word_passes c again o word h ≡ true
  flag_word_by (Some p) word h e = long_by (arg_by_long c p.0) p.1 h e
  flag_word_by None word h e =
      by_option _ _ (short_of word)
      (λ flags f. flags_by (length flags) flags h.skip (record h { skip = 0 }) f) e

  positional_by : (a : Rule) (h : Held) → Passes (positional_fault c again a h) → positional_passes c again a h ≡ true
  positional_by a h e = unless (is_pending a h.pending && takes_several a) _ _ (settle_by h) e

module _ (s : Shape) (names : Names) where
  other_by : (name : Option Text) (word : Text) (h : Held) → Passes (other_fault s name word h)
      → other_passes s name word h ≡ true
  other_by (Some name) word h e = go _ _ e
    where
      go : (help off : Bool) → Passes (if help && not off then kind.DisplayHelp ∷ kind.InvalidSubcommand ∷ [] else [])
          → (not help || off) ≡ true
      go false off e = refl
      go true true e = refl
      go true false e = absurd (some _ _ e)
  other_by None word h e =
      unless (bytes_eq word (45 ∷ 45 ∷ [])) _ _ (flag_word_by s.rules s.args_override_self (long_of word) word h) e

  step_by : (position : ℕ) (h : Held) (x : Step) → Passes (step_fault s position h x)
      → step_passes s position h x ≡ true
  step_by position h value e = go (arg_by_index s.rules position) e
    where
      stray : (leaf : Bool)
          → Passes (if leaf then kind.UnknownArgument ∷ [] else kind.UnknownArgument ∷ kind.InvalidSubcommand ∷ []) → ⊥
      stray true e = some _ _ e
      stray false e = some _ _ e

      go : (o : Option Rule)
          → Passes (option_map_or (λ a. positional_fault s.rules s.args_override_self a h) o (stray_fault s))
          → option_map_or (λ a. positional_passes s.rules s.args_override_self a h) o false ≡ true
      go None e = absurd (stray s.is_leaf e)
      go (Some a) e = positional_by s.rules s.args_override_self a h e
  step_by position h (next w) e = refl
  step_by position h (trailing p) e = refl
  step_by position h (subcommand name) e = refl

  word_by : (is_trailing : Bool) (waiting : Waiting) (word : Text) (h : Held)
      → Passes (word_fault s names is_trailing waiting word h) → word_passes s names is_trailing waiting word h ≡ true
  word_by is_trailing waiting word h e = unless is_trailing _ _ (other_by (subcommand_met names waiting word) word h) e

  turn_by : (w : Walk) (word : Text) → Passes (turn_fault s names w word) → turn_passes s names w word ≡ true
  turn_by w word e =
      let met = word_met s.rules names w.is_trailing w.waiting w.position word w.held in
      unless (is_some w.stopped) _ _
      (λ f.
      let parts = neither (word_fault s names w.is_trailing w.waiting word w.held)
      (step_fault s w.position met.0 met.1) f in
      both_hold _ _ (word_by w.is_trailing w.waiting word w.held parts.0) (step_by w.position met.0 met.1 parts.1)) e

  walk_by : (w : Walk) (words : List Text) → Passes (walk_fault s names w words) → walk_passes s names w words ≡ true
  unfolding walk_fault walk_passes
  walk_by w [] e = refl
  walk_by w (word ∷ rest) e =
      let parts = neither (turn_fault s names w word) (walk_fault s names (walked s.rules names w word) rest) e in
      both_hold _ _ (turn_by w word parts.0) (walk_by (walked s.rules names w word) rest parts.1)

  level_by : (h : Held) (words : List Text) (has_subcommand : Bool) (below : Kinds)
      → list_all default_passes s.rules ≡ true
      → ((rows : List Row) → is_valid s rows has_subcommand ≡ true)
      → Passes (level_fault s names h words has_subcommand below) → level_passes s names h words has_subcommand ≡ true
  level_by h words has_subcommand below defaults valid e =
      let end = (walk s.rules names h words).held in
      let walked = neither (walk_fault s names (walk_from h) words) _ e in
      let entered = neither below _ walked.1 in
      let settled = neither (settle_fault s.rules s.args_override_self end) _ entered.1 in
      both_hold _ _ (walk_by (walk_from h) words walked.0)
      (both_hold _ _ (settle_by s.rules s.args_override_self end settled.0)
      (both_hold _ _ defaults (valid (finished s.rules end))))

-- ---- the command

leaf_by : (s : Shape) (words : List Text) → list_all default_passes s.rules ≡ true
    → ((rows : List Row) → is_valid s rows false ≡ true)
    → Passes (built_fault (record { top = s; subs = [] }) nothing_held words)
    → built_takes (record { top = s; subs = [] }) nothing_held words ≡ true
leaf_by s words defaults valid e = go (walk s.rules [] nothing_held words).stopped e
  where
    go : (stop : Option (Text × List Text))
        → Passes (level_fault s [] nothing_held words (is_some (entered (record { top = s; subs = [] }) stop))
        (entered_fault (record { top = s; subs = [] }) stop))
        → (entered_passes (record { top = s; subs = [] }) stop
        && level_passes s [] nothing_held words (is_some (entered (record { top = s; subs = [] }) stop))) ≡ true
    go None e = level_by s [] nothing_held words false [] defaults valid e
    go (Some p) e = level_by s [] nothing_held words false [] defaults valid e

-- a simple command without subcommands, whose defaults pass and whose arguments ask for no other, takes the words where
-- there is no fault
pub takes_by : (a : App) (words : List Text) → is_simple a ≡ true → (built a).subs ≡ []
    → list_all default_passes (built a).top.rules ≡ true
    → ((rows : List Row) → is_valid (built a).top rows false ≡ true)
    → fault_of a words ≡ [] → takes a words ≡ true
takes_by a words simple none defaults valid e =
    let top = (built a).top in
    let alone : ◌≡◌ {A = App} (built a) (record { top = top; subs = [] }) = λ i. record { top = top; subs = none i } in
    let left = argument_words a words in
    both_hold _ _ simple
    (ap (λ (b : App). built_takes b nothing_held left) alone
    ∙ leaf_by (built a).top left defaults valid (sym (ap (λ (b : App). built_fault b nothing_held left) alone) ∙ e))
