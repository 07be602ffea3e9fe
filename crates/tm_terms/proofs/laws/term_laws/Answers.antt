-- Each is a lemma.
use Rattle.tm_terms.proofs.LawLemmas.{value-is-below, fits-there, sort-there, value-there, free-there}
use Rattle.tm_terms.proofs.laws.term_laws.Goals as goal

pub returns : goal.returns
returns c = record {
  below = value-is-below;
  fits = fits-there;
  sort = sort-there;
  value = value-there;
  free = free-there;
}
