-- What the command line has matched is what the words are; where no step of the parse has a fault, it takes them.
use Rattle.std.proofs.Common.{sym, subst, List}
use Rattle.std.proofs.lemmas.Result.{IfOk-weaker}
use Rattle.clap.specs.Walk.{Row}
use Rattle.cl_words.specs.Command.{IsRead, texts}
use Rattle.cl_words.proofs.LineLemmas.{line_matches, line_takes}
use Rattle.cl_words.proofs.reading.read_words.Goals as goal

pub returns-clause-found : goal.returns-clause-found
returns-clause-found c =
    let words = texts c.args.words.now in
    let parse = c.in_ok-matches.ensures in
    let same = line_matches _ c.in_ok-command_line.ensures words c.in_ok-matches.matches parse.matches in
    IfOk-weaker c.command_of.result _ _
    (λ command read. record {
      taken = line_takes _ c.in_ok-command_line.ensures words parse.kinds;
      read = subst (λ (r : List Row). IsRead r command) same read;
    }) c.command_of.ensures.found

pub returns-clause-outside : goal.returns-clause-outside
returns-clause-outside c = λ usage command is.
    let words = texts c.args.words.now in
    let parse = c.in_ok-matches.ensures in
    let same = line_matches _ c.in_ok-command_line.ensures words c.in_ok-matches.matches parse.matches in
    c.command_of.ensures.outside usage command (subst (λ (r : List Row). IsRead r command) (sym same) is.read)
