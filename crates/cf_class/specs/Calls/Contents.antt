-- What private functions ask for: that a part of a file has a content, and the instructions of its Codes.
use Rattle.std.specs.Prelude.{List, [], ◌∷◌, ◌++◌}
use Rattle.std.specs.List.{flat_map, AllZip}
use Rattle.cf_structure.specs.Raw.{RawCode, RawBody, constant, code, skipped, RawAttribute, RawMember, RawClass}
use Rattle.cf_code.specs.declared.code.Placed.{Placed}
use Rattle.cf_code.specs.Decoding.{IsCode}
use Rattle.cf_judge.specs.Texts.{AreTexts}
use Rattle.cf_class.specs.declared.named.PoolTexts.{PoolTexts}

-- the texts are those of the pool
abbrev pub AreNames : PoolTexts → Type 0
AreNames names = AreTexts names.pool.now names.texts.now

-- a part of a file has a content, and parts have contents, one beside each other
abbrev pub HasContent : {A B : Type 0} → (A → B → Type 0) → A → Type 0
HasContent {B} Is raw = (x : B) × Is raw x

abbrev pub HaveContent : {A B : Type 0} → (A → B → Type 0) → List A → Type 0
HaveContent {B} Is raws = (xs : List B) × AllZip Is raws xs

-- the Codes of a part, in file order
abbrev pub body_codes : RawBody → List RawCode
body_codes (constant index) = []
body_codes (code c) = c ∷ []
body_codes (skipped content) = []

abbrev pub attribute_codes : RawAttribute → List RawCode
attribute_codes a = body_codes a.body

abbrev pub member_codes : RawMember → List RawCode
member_codes m = flat_map attribute_codes m.attributes

abbrev pub class_codes : RawClass → List RawCode
class_codes c = flat_map member_codes c.fields ++ (flat_map member_codes c.methods ++ flat_map attribute_codes c.attributes)

-- the lists begin with the instructions of these Codes
unfoldable pub HaveBodies : List RawCode → List (List Placed) → Type 0
HaveBodies [] bodies = Unit {0}
HaveBodies (c ∷ cs) [] = ⊥
HaveBodies (c ∷ cs) (body ∷ bodies) = IsCode c.code body × HaveBodies cs bodies
