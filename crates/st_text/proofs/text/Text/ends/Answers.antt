use Rattle.std.proofs.Common.{◌≡◌, ◌-◌, length, take, ◌==◌}
use Rattle.std.proofs.lemmas.Bool.Decides.{Decides-eqb}
use Rattle.std.specs.List.{ends_with}
use Rattle.std.proofs.lemmas.Slice.Eq.{ends_is}
use Rattle.st_text.proofs.text.Text.ends.Goals as goal

pub returns : goal.returns
returns c =
    let value : c.ends_with.result ≡ ends_with (λ x y. x == y) c.args.self.now c.args.other.now = cc in
    let is = ends_is Decides-eqb c.args.self.now c.args.other.now c.ends_with.result value in
    (λ h. (take (length c.args.self.now - length c.args.other.now) c.args.self.now, is.0 h), λ h. is.1 h.0 h.1)
