-- The answers of the top call: the status and the text of each.
use Rattle.std.specs.Prelude.{ℕ, Bool, true, false, ◌==◌, List, ◌++◌, length, count_by, if◌then◌else◌, codes, decimal}
use Rattle.std.specs.List.{flat_map}
use Rattle.cf_pool.specs.declared.fault.What.{What}
use Rattle.cf_pool.specs.declared.fault.What.TheVariants as words
use Rattle.cl_words.specs.declared.command.Command.{Command}
use Rattle.jv_base.specs.Spelling.{name_text, entry_spelling, site_spelling}
use Rattle.jv_base.specs.declared.input.Input.{Input}
use Rattle.jv_base.specs.declared.method.Bounds.{Bounds}
use Rattle.jv_base.specs.declared.method.MethodId.{MethodId}
use Rattle.jb_run.specs.InputText.{input_text}
use Rattle.jb_run.specs.declared.report.Refusal.{Refusal}
use Rattle.jb_run.specs.declared.report.Refusal.TheVariants.{NoEntry, Missing, Malformed, Narrow}
use Rattle.jb_run.specs.declared.report.Verdict.{Verdict}
use Rattle.jb_run.specs.declared.report.Verdict.TheVariants.{Success, Failure}
use Rattle.jb_run.specs.declared.report.Line.{Line}
use Rattle.jb_run.specs.declared.report.Answer.{Answer}
use Rattle.jb_run.specs.declared.report.Answer.TheVariants.{Usage, ReadFault, NoMemory, Refused, Decided}

-- the word for what is wrong in a class file
abbrev pub what_word : What → List ℕ
what_word words.Truncated = codes "Truncated"
what_word words.BadMagic = codes "BadMagic"
what_word words.BadVersion = codes "BadVersion"
what_word words.BadTag = codes "BadTag"
what_word words.BadUtf8 = codes "BadUtf8"
what_word words.BadLength = codes "BadLength"
what_word words.Extra = codes "Extra"
what_word words.BadIndex = codes "BadIndex"
what_word words.BadName = codes "BadName"
what_word words.BadDesc = codes "BadDesc"
what_word words.Duplicate = codes "Duplicate"
what_word words.CodeRule = codes "CodeRule"
what_word words.WrongName = codes "WrongName"
what_word words.BadOpcode = codes "BadOpcode"
what_word words.BadTarget = codes "BadTarget"
what_word words.TooLong = codes "TooLong"
what_word words.Circular = codes "Circular"
what_word words.BadSuper = codes "BadSuper"

-- no entry
unfoldable pub no_entry_text : MethodId → List ℕ
no_entry_text entry = codes "refused: no entry " ++ entry_spelling entry ++ codes "\n"

-- a class that is not there
unfoldable pub missing_text : List ℕ → List ℕ
missing_text name = codes "refused: missing class " ++ name_text name ++ codes "\n"

-- a file that is no class of that name, and where
unfoldable pub malformed_place : List ℕ → ℕ → List ℕ
malformed_place name place = codes "refused: malformed " ++ name_text name ++ codes " at " ++ decimal place

-- and what is wrong there
unfoldable pub malformed_text : List ℕ → ℕ → What → List ℕ
malformed_text name place what = malformed_place name place ++ codes ": " ++ what_word what ++ codes "\n"

-- the line of a refusal
abbrev pub refusal_text : Refusal → List ℕ
refusal_text (NoEntry entry) = no_entry_text entry
refusal_text (Missing name) = missing_text name
refusal_text (Malformed name place what) = malformed_text name place what
refusal_text Narrow = codes "refused: not built yet\n"

-- the input of a verdict that has one
unfoldable pub failure_text : Input → List ℕ
failure_text input = codes " FAILURE " ++ input_text input ++ codes "\n"

abbrev pub verdict_text : Verdict → List ℕ
verdict_text Success = codes " SUCCESS\n"
verdict_text (Failure input) = failure_text input

-- SITE SUCCESS, or SITE FAILURE INPUT
unfoldable pub line_text : Line → List ℕ
line_text line = site_spelling line.goal ++ verdict_text line.verdict

-- whether an input is printed
abbrev pub fails : Verdict → Bool
fails Success = false
fails (Failure input) = true

abbrev pub failure_count : List Line → ℕ
failure_count lines = count_by (λ line. fails line.verdict) lines

-- how many sites there are, and how many of them fail
unfoldable pub counts_text : List Line → List ℕ
counts_text lines =
    codes "sites " ++ decimal (length lines) ++ codes " failure " ++ decimal (failure_count lines)
    ++ codes " unknown 0\n"

-- a bound behind its name
abbrev pub bound_text : List ℕ → ℕ → List ℕ
bound_text name bound = name ++ decimal bound

-- the bounds of runs
unfoldable pub run_bounds : Bounds → List ℕ
run_bounds b = bound_text (codes "bounds unwind=") b.unwind ++ bound_text (codes " frames=") b.frames

-- the bounds of what runs are on
unfoldable pub value_bounds : Bounds → List ℕ
value_bounds b =
    bound_text (codes " depth=") b.depth ++ bound_text (codes " string=") b.string ++ bound_text (codes " array=") b.array
    ++ codes "\n"

abbrev pub bounds_text : Bounds → List ℕ
bounds_text b = run_bounds b ++ value_bounds b

-- the entry
unfoldable pub entry_line : MethodId → List ℕ
entry_line entry = codes "entry " ++ entry_spelling entry ++ codes "\n"

-- the entry, the bounds, a line for each site, and the counts
unfoldable pub plain_text : Command → List Line → List ℕ
plain_text command lines =
    entry_line command.entry ++ bounds_text command.bounds ++ flat_map line_text lines ++ counts_text lines

-- the text of an answer
abbrev pub answer_text : Answer → List ℕ
answer_text Usage = codes "usage: jbmc [OPTIONS] DIR ENTRY\n"
answer_text ReadFault = codes "fault: read\n"
answer_text NoMemory = codes "fault: no memory\n"
answer_text (Refused load refusals) = flat_map refusal_text refusals
answer_text (Decided load lines) = plain_text load.command lines

-- the status of an answer: where there are verdicts, 10 where one of them is FAILURE, else 0
abbrev pub status_of : Answer → ℕ
status_of Usage = 1
status_of ReadFault = 3
status_of NoMemory = 6
status_of (Refused load refusals) = 2
status_of (Decided load lines) = if failure_count lines == 0 then 0 else 10
