-- The lines of the first goals, while the other goals wait.
use Rattle.std.proofs.Common.{◌≡◌, List, [], ◌∷◌, ◌++◌, map, sym, ap, ◌∙◌, subst, append_assoc}
use Rattle.std.proofs.lemmas.List.{map-append}
use Rattle.std.proofs.lemmas.List.Elements.{All-push}
use Rattle.jv_base.specs.declared.method.Goal.{Goal}
use Rattle.jb_run.specs.declared.encoding.Encoding.{Encoding}
use Rattle.jb_run.specs.declared.report.Line.{Line}
use Rattle.jb_run.specs.Verdicts.{IsVerdictBy, AreVerdictsBy}

-- the goals are those of the lines, and then the waiting ones
pub record LinesAnd (encoding : Encoding) (goals : List Goal) (lines : List Line) (waiting : List Goal) : Type 0 where
  pub goals_are : map (λ line. line.goal) lines ++ waiting ≡ goals
  pub decided : AreVerdictsBy encoding lines

pub lines_more : (encoding : Encoding) (goals : List Goal) (lines : List Line) (line : Line) (old waiting : List Goal)
    (new : List Line) → LinesAnd encoding goals lines old → old ≡ line.goal ∷ waiting →
    IsVerdictBy encoding line.goal line.verdict → new ≡ lines ++ line ∷ [] → LinesAnd encoding goals new waiting
lines_more encoding goals lines line old waiting new so next decided added =
    let goal_of : Line → Goal = λ l. l.goal in
    record {
      goals_are =
          ap (λ (w : List Line). map goal_of w ++ waiting) added
          ∙ ap (λ (w : List Goal). w ++ waiting) (map-append goal_of lines (line ∷ []))
          ∙ append_assoc (map goal_of lines) (line.goal ∷ []) waiting
          ∙ ap (λ (w : List Goal). map goal_of lines ++ w) (sym next)
          ∙ so.goals_are;
      decided =
          subst (λ (w : List Line). AreVerdictsBy encoding w) (sym added)
          (All-push (λ (l : Line). IsVerdictBy encoding l.goal l.verdict) lines line so.decided decided);
    }
