-- The handlers of exceptions (JVM Specification SE 8, 2.10 and 4.7.3).
use Rattle.std.specs.Prelude.{◌≡◌, ◌⊎◌, ℕ, ◌==◌, ◌&&◌, ◌||◌, nat_le, nat_lt, Bool, List, [], ◌∷◌, ◌++◌, Option, Some, All, Contains}
use Rattle.std.specs.List.{find, list_any}
use Rattle.std.specs.Option.{option_map}
use Rattle.jv_base.specs.declared.value.Value.TheVariants.{Ref}
use Rattle.cf_code.specs.declared.transfer.Row.{Row}
use Rattle.cf_code.specs.Transfers.{HoldsPc}
use Rattle.vm_world.specs.declared.frame.Frame.{Frame}

-- a row holds a pc: from its start on, below its end
abbrev pub holds : Row → ℕ → Bool
holds row pc = nat_le row.start pc && nat_lt pc row.end

-- a row suits an exception: it is for any, or its catch type is one of those that suit it
abbrev pub suits : Row → List ℕ → Bool
suits row suiting = row.catch_type == 0 || list_any (λ type. type == row.catch_type) suiting

abbrev pub catches : ℕ → List ℕ → Row → Bool
catches pc suiting row = holds row pc && suits row suiting

-- the handler of the first row of a table, in its order, that holds a pc and suits an exception, by the catch types that
-- suit it
abbrev pub handler_at : List Row → ℕ → List ℕ → Option ℕ
handler_at rows pc suiting = option_map (λ row. row.handler) (find (catches pc suiting) rows)

-- a frame enters a handler: the exception alone is on its stack, and its locals stay
abbrev pub entered : ℕ → ℕ → Frame → Frame
entered handler number frame = record frame { pc = handler; stack = Ref (Some number) ∷ [] }

-- a row catches an exception at a pc, as a fact
abbrev pub Catches : ℕ → List ℕ → Row → Type 0
Catches pc suiting row = HoldsPc row pc × ((row.catch_type ≡ 0) ⊎ Contains suiting row.catch_type)

-- a handler is that of the first row of a table that catches
pub record IsFirstHandler (rows : List Row) (pc : ℕ) (suiting : List ℕ) (handler : ℕ) : Type 0 where
  pub before : List Row
  pub row : Row
  pub behind : List Row
  pub table : rows ≡ before ++ row ∷ behind
  pub caught : Catches pc suiting row
  pub its : row.handler ≡ handler
  pub earlier : All (λ r. Catches pc suiting r → ⊥) before
