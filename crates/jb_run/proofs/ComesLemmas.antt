-- What each answer of the folder comes to.
use Rattle.std.proofs.Common.{◌≡◌, ℕ, List, refl, ap, subst, inl, inr, Err}
use Rattle.cf_pool.specs.declared.fault.Fault.{Fault}
use Rattle.cf_pool.specs.declared.fault.What.{What}
use Rattle.cf_pool.specs.declared.fault.What.TheVariants as words
use Rattle.cf_pool.specs.Laws.{ExactlyOne}
use Rattle.cf_bodies.specs.Passes.{IsFaultOf}
use Rattle.cf_class.specs.Content.{IsClass}
use Rattle.cf_class.specs.declared.class_file.ClassFile.{ClassFile}
use Rattle.cl_words.specs.declared.command.Command.{Command}
use Rattle.hi_tree.specs.declared.world.Was.{Was}
use Rattle.hi_tree.specs.declared.world.Was.TheVariants.{Found, Absent, TooLong}
use Rattle.jb_run.specs.declared.report.Refusal.{Refusal}
use Rattle.jb_run.specs.declared.report.Refusal.TheVariants.{NoEntry, Missing, Malformed, Narrow}
use Rattle.jb_run.specs.Refusals.{IsRefusedFor, Applies}
use Rattle.jb_run.specs.Calls.Decisions.{AsksClass, world_of, ComesTo}
use Rattle.jb_run.proofs.OneAnswerLemmas.{RefusedBy, here, refused_by}

pub malformed_same : (a b : List ℕ) (p q : ℕ) (v w : What) → a ≡ b → p ≡ q → v ≡ w → Malformed a p v ≡ Malformed b q w
malformed_same a b p q v w e f g = rw (e, f, g) refl

-- what is refused of what is asked applies
applies : (command : Command) (was : Was) (r : Refusal) → IsRefusedFor command (world_of command was) r
    → Applies command (world_of command was) r
applies command was (NoEntry entry) h = h
applies command was (Missing name) h = h
applies command was (Malformed name place what) h = h
applies command was Narrow h = absurd h

pub bytes_same : (bytes others : List ℕ) → Found bytes ≡ Found others → others ≡ bytes
bytes_same bytes others e = cc

module _ (command : Command) (asks : AsksClass command) where
  -- a refusal that applies is the only one, where the answer gives no other
  only : (was : Was) (r : Refusal) → IsRefusedFor command (world_of command was) r
      → ((other : Refusal) → RefusedBy command was other → other ≡ r)
      → (other : Refusal) → Applies command (world_of command was) other → other ≡ r
  only was r h same (NoEntry entry) k = same (NoEntry entry) (refused_by command was asks (NoEntry entry) k)
  only was r h same (Missing name) k = same (Missing name) (refused_by command was asks (Missing name) k)
  only was r h same (Malformed name place what) k =
      same (Malformed name place what) (refused_by command was asks (Malformed name place what) k)
  only was r h same Narrow k = absurd (k.0 r h)

  pub comes : (was : Was) (r : Refusal) → IsRefusedFor command (world_of command was) r
      → ((other : Refusal) → RefusedBy command was other → other ≡ r) → ComesTo command (world_of command was) (Err r)
  comes was r h same = (applies command was r h, only was r h same)

  absent_same : (other : Refusal) → RefusedBy command Absent other → other ≡ Missing command.entry.class
  absent_same (NoEntry entry) h = absurd cc
  absent_same (Missing name) h = ap (λ (n : List ℕ). Missing n) h.0
  absent_same (Malformed name place what) h = absurd h.1
  absent_same Narrow h = absurd h

  pub absent_comes : ComesTo command (world_of command Absent) (Err (Missing command.entry.class))
  absent_comes = comes Absent (Missing command.entry.class) (here command Absent asks) absent_same

  long_same : (other : Refusal) → RefusedBy command TooLong other
      → other ≡ Malformed command.entry.class 16777216 words.TooLong
  long_same (NoEntry entry) h = absurd cc
  long_same (Missing name) h = absurd cc
  long_same (Malformed name place what) h =
      malformed_same name command.entry.class place 16777216 what words.TooLong h.0 h.1.0 h.1.1
  long_same Narrow h = absurd h

  pub long_comes : ComesTo command (world_of command TooLong) (Err
      (Malformed command.entry.class 16777216 words.TooLong))
  long_comes = comes TooLong (Malformed command.entry.class 16777216 words.TooLong)
      (TooLong, here command TooLong asks, (refl, refl)) long_same

  module _ (bytes : List ℕ) (law : ExactlyOne (IsClass bytes) (IsFaultOf bytes)) where
    abbrev Was1 : Was
    Was1 = Found bytes

    -- of a file with a fault
    module _ (fault : Fault) (is : IsFaultOf bytes fault) where
      fault_same : (other : Refusal) → RefusedBy command Was1 other
          → other ≡ Malformed command.entry.class fault.place fault.what
      fault_same (NoEntry entry) h =
          let class : ClassFile = h.1.0 in
          let is_class = subst (λ (bs : List ℕ). IsClass bs class) (bytes_same bytes h.1.1 h.1.2) h.1.3 in
          absurd (law.not_both class fault is_class is)
      fault_same (Missing name) h = absurd cc
      fault_same (Malformed name place what) h =
          elim h.1 [
            | inl other ↦
                let same = law.one_fault (record { place = place; what = what }) fault other is in
                malformed_same name command.entry.class place fault.place what fault.what h.0
                (ap (λ (f : Fault). f.place) same) (ap (λ (f : Fault). f.what) same)
            | inr class ↦ absurd (law.not_both class.0 fault class.1 is)
          ]
      fault_same Narrow h = absurd h

      pub fault_comes : ComesTo command (world_of command Was1) (Err
          (Malformed command.entry.class fault.place fault.what))
      fault_comes = comes Was1 (Malformed command.entry.class fault.place fault.what)
          (Was1, here command Was1 asks, inl is) fault_same
