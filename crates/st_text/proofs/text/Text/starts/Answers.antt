use Rattle.std.proofs.Common.{◌≡◌, length, drop, ◌==◌}
use Rattle.std.proofs.lemmas.Bool.Decides.{Decides-eqb}
use Rattle.std.specs.List.{starts_with}
use Rattle.std.proofs.lemmas.Slice.Eq.{starts_is}
use Rattle.st_text.proofs.text.Text.starts.Goals as goal

pub returns : goal.returns
returns c =
    let value : c.starts_with.result ≡ starts_with (λ x y. x == y) c.args.self.now c.args.other.now = cc in
    let is = starts_is Decides-eqb c.args.self.now c.args.other.now c.starts_with.result value in
    (λ h. (drop (length c.args.other.now) c.args.self.now, is.0 h), λ h. is.1 h.0 h.1)
