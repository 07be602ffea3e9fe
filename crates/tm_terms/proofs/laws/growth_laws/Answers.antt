-- Each is a lemma.
use Rattle.tm_terms.proofs.LawLemmas.{continues-itself, continues-through, sort-kept, value-kept, fits-kept}
use Rattle.tm_terms.proofs.laws.growth_laws.Goals as goal

pub returns : goal.returns
returns c = record {
  itself = continues-itself;
  through = continues-through;
  sort = sort-kept;
  value = value-kept;
  fits = fits-kept;
}
