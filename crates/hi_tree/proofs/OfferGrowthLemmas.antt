-- The superinterface methods of a class whose supertypes are all known stay as a table grows.
use Rattle.std.proofs.Common.{◌≡◌, ℕ, true, List, Option, is_some, sym, ◌∙◌}
use Rattle.cf_class.specs.declared.class_file.ClassFile.{ClassFile}
use Rattle.hi_tree.specs.declared.known.Up.TheVariants.{Supertypes}
use Rattle.hi_tree.specs.Classes.{Known, known_class}
use Rattle.hi_tree.specs.Methods.{declared_some, has_body_some}
use Rattle.hi_tree.specs.Subtypes.{supertypes}
use Rattle.hi_tree.specs.Superinterfaces.{whole_climb, offers, IsOffered, IsMaximal, IsDefault, IsOnlyDefault, IsLeast}
use Rattle.hi_tree.specs.Growth.{Grows}
use Rattle.hi_tree.specs.Walks.{IsAbove, IsClean}
use Rattle.hi_tree.proofs.WalkLemmas.{clean-known, clean-all}
use Rattle.hi_tree.proofs.GrowthLemmas.{told_kept, above_kept, above_back}

module _ (classes more : List ClassFile) (grows : Grows classes more) (class name desc : List ℕ)
    (whole : IsClean (whole_climb classes) class) where
  -- what is above the class is known
  known_there : {i : List ℕ} → IsAbove (supertypes classes) class i → is_some (known_class classes i) ≡ true
  known_there up = clean-known (whole_climb classes) (clean-all (whole_climb classes) whole up)

  up_back : {i : List ℕ} → IsAbove (supertypes more) class i → IsAbove (supertypes classes) class i
  up_back up = above_back classes more grows whole up

  pub offered_kept : (i : List ℕ) → IsOffered classes class name desc i → IsOffered more class name desc i
  offered_kept i is = record {
    above = above_kept classes more grows Supertypes is.above;
    offers = told_kept classes more grows (λ (o : Option Known). offers name desc o) i (known_there is.above)
        ∙ is.offers;
  }

  pub offered_back : (i : List ℕ) → IsOffered more class name desc i → IsOffered classes class name desc i
  offered_back i is = record {
    above = up_back is.above;
    offers = sym (told_kept classes more grows (λ (o : Option Known). offers name desc o) i
        (known_there (up_back is.above))) ∙ is.offers;
  }

  -- what is above an interface that is offered
  over_back : (i : List ℕ) {top : List ℕ} → IsOffered classes class name desc i → IsAbove (supertypes more) i top
      → IsAbove (supertypes classes) i top
  over_back i is up = above_back classes more grows (clean-all (whole_climb classes) whole is.above) up

  maximal_kept : (i : List ℕ) → IsMaximal classes class name desc i → IsMaximal more class name desc i
  maximal_kept i is = record {
    offered = offered_kept i is.offered;
    most = λ other offered up.
        let there = offered_back other offered in is.most other there (over_back other there up);
  }

  maximal_back : (i : List ℕ) → IsMaximal more class name desc i → IsMaximal classes class name desc i
  maximal_back i is = record {
    offered = offered_back i is.offered;
    most = λ other offered up.
        is.most other (offered_kept other offered) (above_kept classes more grows Supertypes up);
  }

  pub default_kept : (i : List ℕ) → IsDefault classes class name desc i → IsDefault more class name desc i
  default_kept i is = record {
    maximal = maximal_kept i is.maximal;
    body = told_kept classes more grows (λ (o : Option Known). has_body_some (declared_some name desc o)) i
        (known_there is.maximal.offered.above) ∙ is.body;
  }

  pub default_back : (i : List ℕ) → IsDefault more class name desc i → IsDefault classes class name desc i
  default_back i is =
      let there = maximal_back i is.maximal in record {
        maximal = there;
        body = sym (told_kept classes more grows (λ (o : Option Known). has_body_some (declared_some name desc o)) i
            (known_there there.offered.above)) ∙ is.body;
      }

  pub only_kept : (i : List ℕ) → IsOnlyDefault classes class name desc i → IsOnlyDefault more class name desc i
  only_kept i is = record {
    default = default_kept i is.default;
    only = λ other default. is.only other (default_back other default);
  }

  pub only_back : (i : List ℕ) → IsOnlyDefault more class name desc i → IsOnlyDefault classes class name desc i
  only_back i is = record {
    default = default_back i is.default;
    only = λ other default. is.only other (default_kept other default);
  }

  pub least_kept : (i : List ℕ) → IsLeast classes class name desc i → IsLeast more class name desc i
  least_kept i is = record {
    offered = offered_kept i is.offered;
    least = λ other offered. is.least other (offered_back other offered);
  }
