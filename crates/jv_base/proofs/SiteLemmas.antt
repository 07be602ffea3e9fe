-- A goal's text form falls into parts in one way.
use Rattle.std.proofs.Common.{◌≡◌, ℕ, ◌<◌, List, [], ◌∷◌, ◌++◌, refl, sym, subst, ◌∙◌, append_assoc}
use Rattle.std.proofs.Common.{arith, codes}
use Rattle.std.specs.List.{All}
use Rattle.std.specs.Fmt.{decimal}
use Rattle.std.proofs.lemmas.Fmt.{decimal_injective}
use Rattle.jv_base.specs.declared.form.Form.TheVariants.{ClassName, MethodDescriptor}
use Rattle.jv_base.specs.declared.method.Goal.{Goal}
use Rattle.jv_base.specs.declared.method.Kind.{Kind}
use Rattle.jv_base.specs.declared.method.Kind.TheVariants.{Null}
use Rattle.jv_base.specs.declared.method.MethodId.{MethodId}
use Rattle.jv_base.specs.Entry.{IsSite, IsSiteText}
use Rattle.jv_base.specs.Forms.{IsSpelled}
use Rattle.jv_base.specs.Front.{StopsAt}
use Rattle.jv_base.specs.Calls.Fronts.{IsLongestFront, Joined, LeavesAt}
use Rattle.jv_base.specs.Calls.Parts.{IsKindText, IsPcText, IsPlaceText, IsDescText, IsAnyMethodText, IsMemberText}
use Rattle.jv_base.specs.Calls.Parts.{IsClassAndMember}
use Rattle.jv_base.specs.Spelling.{name_text, kind_name, site_spelling}
use Rattle.jv_base.proofs.EntryLemmas.{some_descriptor}
use Rattle.jv_base.proofs.FrontLemmas.{leaves_not, leaves_stops}
use Rattle.jv_base.proofs.GoalLemmas.{method_of, goal_of, method_same, goal_same}
use Rattle.jv_base.proofs.JoinedLemmas.{IsParting, joined_all}
use Rattle.jv_base.proofs.KindLemmas.{kind_ascii, kind_told}
use Rattle.jv_base.proofs.MethodNameLemmas.{init_is, method_free, method_ascii}
use Rattle.jv_base.proofs.NameLemmas.{name_same}
use Rattle.jv_base.proofs.PcLemmas.{pc_free, pc_ascii}
use Rattle.jv_base.proofs.SpelledLemmas.{class_no_dot, spelled_ascii, spelled_no_at_sign}
use Rattle.jv_list.proofs.CutLemmas.{cut_same}

-- ---- each part has a text

abbrev IsClass : List ℕ → Type 0
IsClass text = IsSpelled ClassName text

abbrev IsDescriptor : List ℕ → Type 0
IsDescriptor text = IsSpelled MethodDescriptor text

pub place_parting : IsParting 58 IsPcText IsKindText
place_parting = record { free = pc_free; some = codes "null"; valid = (Null, refl) }

abbrev place_text : List ℕ
place_text = decimal 0 ++ 58 ∷ codes "null"

some_place : IsPlaceText place_text
some_place = (decimal 0, codes "null", (0, omega arith, refl), (Null, refl), refl)

pub desc_parting : IsParting 64 IsDescriptor IsPlaceText
desc_parting = record { free = spelled_no_at_sign MethodDescriptor; some = place_text; valid = some_place }

abbrev desc_text : List ℕ
desc_text = codes "()V" ++ 64 ∷ place_text

some_desc : IsDescText desc_text
some_desc = (codes "()V", place_text, some_descriptor, some_place, refl)

pub method_parting : IsParting 58 IsAnyMethodText IsDescText
method_parting = record { free = method_free; some = desc_text; valid = some_desc }

pub site_parting : IsParting 46 IsClass IsMemberText
site_parting = record {
  free = class_no_dot;
  some = codes "<init>" ++ 58 ∷ desc_text;
  valid = (codes "<init>", desc_text, (codes "<init>", init_is.0, init_is.1, init_is.2), some_desc, refl);
}

-- ---- a goal in parts

site_split : (class name desc pc kind : List ℕ)
    → class ++ 46 ∷ (name ++ 58 ∷ (desc ++ 64 ∷ (pc ++ 58 ∷ kind)))
    ≡ (class ++ (46 ∷ []) ++ name ++ (58 ∷ []) ++ desc) ++ (64 ∷ []) ++ pc ++ (58 ∷ []) ++ kind
site_split class name desc pc kind = simp append_assoc refl

-- the text of a goal falls into its parts
site_is : (text class name desc : List ℕ) (pc : ℕ) (kind : Kind)
    → text ≡ class ++ 46 ∷ (name ++ 58 ∷ (desc ++ 64 ∷ (decimal pc ++ 58 ∷ kind_name kind)))
    → text ≡ (class ++ (46 ∷ []) ++ name ++ (58 ∷ []) ++ desc) ++ (64 ∷ []) ++ decimal pc ++ (58 ∷ []) ++ kind_name kind
site_is text class name desc pc kind e = e ∙ site_split class name desc (decimal pc) (kind_name kind)

whole : (text : List ℕ) → IsClassAndMember text → IsSiteText text
whole text (class, member, (c, cu, cf, ce), (method, desc, (m, mu, mf, me), d, e1), e0) =
    let name : List ℕ = d.2.0 in
    let place : IsPlaceText d.1 = d.3 in
    let pc : ℕ = place.2.0 in
    let kind : Kind = place.3.0 in
    let behind : List ℕ = name_text name ++ 64 ∷ (decimal pc ++ 58 ∷ kind_name kind) in
    let parts : text ≡ name_text c ++ 46 ∷ (name_text m ++ 58 ∷ behind) =
    cc (e0, e1, ce, me, d.2.3, d.4, place.4, place.2.2, place.3.1) in (
      goal_of (method_of c m name) pc kind,
      record {
        class_text = cu;
        name_text = mu;
        desc_text = d.2.1;
        class = cf;
        name = mf;
        desc = d.2.2;
        pc = place.2.1;
      },
      site_is text (name_text c) (name_text m) (name_text name) pc kind parts,
    )

abbrev place_of : Goal → List ℕ
place_of g = decimal g.site.pc ++ 58 ∷ kind_name g.kind

abbrev desc_of : Goal → List ℕ
desc_of g = name_text g.site.method.desc ++ 64 ∷ place_of g

abbrev member_of : Goal → List ℕ
member_of g = name_text g.site.method.name ++ 58 ∷ desc_of g

split : (g : Goal) → name_text g.site.method.class ++ 46 ∷ member_of g ≡ site_spelling g
split g =
    let m : MethodId = g.site.method in
    site_split (name_text m.class) (name_text m.name) (name_text m.desc) (decimal g.site.pc) (kind_name g.kind)

parted : (text : List ℕ) → IsSiteText text → IsClassAndMember text
parted text (g, k, e) =
    let m : MethodId = g.site.method in
    let place : IsPlaceText (place_of g) =
    (decimal g.site.pc, kind_name g.kind, (g.site.pc, k.pc, refl), (g.kind, refl), refl) in
    let desc : IsDescText (desc_of g) =
    (name_text m.desc, place_of g, (m.desc, k.desc_text, k.desc, refl), place, refl) in
    let member : IsMemberText (member_of g) =
    (name_text m.name, desc_of g, (m.name, k.name_text, k.name, refl), desc, refl) in
    (name_text m.class, member_of g, (m.class, k.class_text, k.class, refl), member, e ∙ sym (split g))

abbrev AreAscii : (List ℕ → Type 0) → Type 0
AreAscii grammar = (text : List ℕ) → grammar text → All (λ b. b < 128) text

place_ascii : AreAscii IsPlaceText
place_ascii = joined_all (λ b. b < 128) 58 IsPcText IsKindText (omega arith) pc_ascii kind_ascii

desc_ascii : AreAscii IsDescText
desc_ascii =
    joined_all (λ b. b < 128) 64 IsDescriptor IsPlaceText (omega arith) (spelled_ascii MethodDescriptor) place_ascii

member_ascii : AreAscii IsMemberText
member_ascii = joined_all (λ b. b < 128) 58 IsAnyMethodText IsDescText (omega arith) method_ascii desc_ascii

site_ascii : AreAscii IsClassAndMember
site_ascii = joined_all (λ b. b < 128) 46 IsClass IsMemberText (omega arith) (spelled_ascii ClassName) member_ascii

-- ---- where a text leaves the grammar

module _ (text bytes : List ℕ) (at : ℕ) (same : bytes ≡ text) (h : LeavesAt IsClassAndMember bytes 0 at) where
  pub site_not : IsSiteText text → ⊥
  site_not = leaves_not IsClassAndMember IsSiteText whole parted site_ascii text bytes at same h

  pub site_stops : StopsAt IsSiteText text at
  site_stops = leaves_stops IsClassAndMember IsSiteText whole parted site_ascii text bytes at same h

-- ---- a goal is told by its text

module _ (g h : Goal) (k : IsSite g) (l : IsSite h) where
  pub site_same : site_spelling g ≡ site_spelling h → g ≡ h
  site_same e =
      let m : MethodId = g.site.method in
      let n : MethodId = h.site.method in
      let classes = cut_same 46 (name_text m.class) (name_text n.class) (member_of g) (member_of h)
      (class_no_dot (name_text m.class) (m.class, k.class_text, k.class, refl))
      (class_no_dot (name_text n.class) (n.class, l.class_text, l.class, refl)) (split g ∙ e ∙ sym (split h)) in
      let names = cut_same 58 (name_text m.name) (name_text n.name) (desc_of g) (desc_of h)
      (method_free (name_text m.name) (m.name, k.name_text, k.name, refl))
      (method_free (name_text n.name) (n.name, l.name_text, l.name, refl)) classes.1 in
      let descs = cut_same 64 (name_text m.desc) (name_text n.desc) (place_of g) (place_of h)
      (spelled_no_at_sign MethodDescriptor (name_text m.desc) (m.desc, k.desc_text, k.desc, refl))
      (spelled_no_at_sign MethodDescriptor (name_text n.desc) (n.desc, l.desc_text, l.desc, refl)) names.1 in
      let places = cut_same 58 (decimal g.site.pc) (decimal h.site.pc) (kind_name g.kind) (kind_name h.kind)
      (pc_free (decimal g.site.pc) (g.site.pc, k.pc, refl)) (pc_free (decimal h.site.pc) (h.site.pc, l.pc, refl))
      descs.1 in
      let method : m ≡ n =
      method_same m n (name_same m.class n.class k.class_text l.class_text classes.0)
      (name_same m.name n.name k.name_text l.name_text names.0)
      (name_same m.desc n.desc k.desc_text l.desc_text descs.0) in
      let pc : g.site.pc ≡ h.site.pc =
      decimal_injective g.site.pc h.site.pc (omega (arith, k.pc)) (omega (arith, l.pc)) places.0 in
      goal_same g h method pc (kind_told g.kind h.kind places.1)
