-- A folded web has a plan: its joints are those of the whole whose ends stand for its own.
use Rattle.std.specs.Prelude.{◌≡◌, ◌&&◌, Bool, true, false, not, IsTrue, List, [], ◌∷◌, ◌⊎◌, Option, Some, None, Contains, if◌then◌else◌}
use Rattle.std.proofs.Common.{refl, sym, ◌∙◌, ap, subst, inl, inr}
use Rattle.std.proofs.lemmas.Option.{none-some, same_Some}
use Rattle.gos_plan.specs.Kinds.{Contact, asks, serves}
use Rattle.gos_plan.specs.Plans.{End, PartEnd, ImportEnd, ResultEnd, Joint, Plan, contact_at, same_end, stands_in, is_free, Fits, AreRight}
use Rattle.gos_plan.proofs.JointLemmas.{IsIn, same_itself, same_is, contained, free_later, which_end}
use Rattle.gos_joining.specs.webs.Webs.{Dot, Web, Connects, WaysFit, joint, IsOfWeb}
use Rattle.gos_joining.specs.webs.Cutting.{lies_at}
use Rattle.gos_joining.proofs.webs.MovedLemmas.{listed}
use Rattle.gos_joining.proofs.webs.CutLemmas.{name_of, stands_by}
use Rattle.gos_nodes.specs.windows.Regions.{Serving}
use Rattle.gos_nodes.specs.folds.Folds.{Fold, IsFold, with_joints, FoldHasPlan}
use Rattle.gos_nodes.proofs.folds.FoldLemmas as folds
use Rattle.gos_nodes.proofs.folds.RegionLemmas.{folded_is_region}

-- the end of the region that lies there, if there is one
abbrev is_there : Option Contact → Bool
is_there None = false
is_there (Some k) = true

abbrev named_if : Fold → Plan → End → Option End → Option End
named_if f c a None = None
named_if f c a (Some d) = if is_there (contact_at c d) && same_end (lies_at f.cut d) a then Some d else None

abbrev own_end : Fold → Plan → End → Option End
own_end f c a = named_if f c a (name_of f.cut a)

-- the joint of these, if all is there
abbrev joint_onto : Option Dot → Option End → Option End → List Joint → List Joint
joint_onto None d e js = js
joint_onto (Some x) None e js = js
joint_onto (Some x) (Some d) None js = js
joint_onto (Some x) (Some d) (Some e) js = joint d e ∷ js

abbrev cut_joints : Fold → Web → Plan → List Joint → List Joint
cut_joints f w c [] = []
cut_joints f w c (j ∷ js) =
    joint_onto (f.back (w.at j.asking)) (own_end f c j.asking) (own_end f c j.serving) (cut_joints f w c js)

record Own (f : Fold) (c : Plan) (a d : End) : Type 0 where
  contact : Contact
  at : contact_at c d ≡ Some contact
  lies : lies_at f.cut d ≡ a

its_contact : (o : Option Contact) → is_there o ≡ true → (k : Contact) × (o ≡ Some k)
its_contact None h = let no : false ≡ true = h in absurd (cc no)
its_contact (Some k) h = (k, refl)

when_named : (a b : Bool) (d e : End) → (if a && b then Some d else None) ≡ Some e → (a ≡ true) × (b ≡ true) × (d ≡ e)
when_named true true d e h = (refl, refl, same_Some d e h)
when_named true false d e h = absurd (none-some e h)
when_named false b d e h = absurd (none-some e h)

named_is : (f : Fold) (c : Plan) (a d : End) (o : Option End) → named_if f c a o ≡ Some d → Own f c a d
named_is f c a d None h = absurd (none-some d h)
named_is f c a d (Some e) h =
    let (is, lies, same) = when_named (is_there (contact_at c e)) (same_end (lies_at f.cut e) a) e d h in
    let (k, at) = its_contact (contact_at c e) is in
    subst (λ (x : End). Own f c a x) same (record { contact = k; at = at; lies = same_is (lies_at f.cut e) a lies })

named_there : (f : Fold) (c : Plan) (a d : End) (k : Contact) → contact_at c d ≡ Some k → lies_at f.cut d ≡ a → named_if f c a (Some d) ≡ Some d
named_there f c a d k at lies =
    let is : is_there (contact_at c d) ≡ true = ap is_there at in
    let lie : same_end (lies_at f.cut d) a ≡ true = subst (λ (x : End). same_end (lies_at f.cut d) x ≡ true) lies (same_itself (lies_at f.cut d)) in
    λ i. if is i && lie i then Some d else None

-- a joint of these is that of a joint of the whole
record Cutting (f : Fold) (w : Web) (c : Plan) (js : List Joint) (y : Joint) : Type 0 where
  from : Joint
  is_in : IsIn from js
  dot : Dot
  stands : f.back (w.at from.asking) ≡ Some dot
  asking : Own f c from.asking y.asking
  serving : Own f c from.serving y.serving

later_cut : (f : Fold) (w : Web) (c : Plan) (js : List Joint) (x y : Joint) → Cutting f w c js y → Cutting f w c (x ∷ js) y
later_cut f w c js x y h =
    record { from = h.from; is_in = inr h.is_in; dot = h.dot; stands = h.stands; asking = h.asking; serving = h.serving }

onto_cut : (f : Fold) (w : Web) (c : Plan) (js rest : List Joint) (x y : Joint) (o : Option Dot) (d e : Option End)
    → f.back (w.at x.asking) ≡ o → own_end f c x.asking ≡ d → own_end f c x.serving ≡ e
    → IsIn y (joint_onto o d e rest) → (IsIn y rest → Cutting f w c js y) → Cutting f w c (x ∷ js) y
onto_cut f w c js rest x y None d e stands asking serving is_in further = later_cut f w c js x y (further is_in)
onto_cut f w c js rest x y (Some o) None e stands asking serving is_in further = later_cut f w c js x y (further is_in)
onto_cut f w c js rest x y (Some o) (Some d) None stands asking serving is_in further = later_cut f w c js x y (further is_in)
onto_cut f w c js rest x y (Some o) (Some d) (Some e) stands asking serving (inl same) further =
    subst (λ (z : Joint). Cutting f w c (x ∷ js) z) (sym same)
    (record {
      from = x;
      is_in = inl refl;
      dot = o;
      stands = stands;
      asking = named_is f c x.asking d (name_of f.cut x.asking) asking;
      serving = named_is f c x.serving e (name_of f.cut x.serving) serving;
    })
onto_cut f w c js rest x y (Some o) (Some d) (Some e) stands asking serving (inr is_in) further = later_cut f w c js x y (further is_in)

from_cut : (f : Fold) (w : Web) (c : Plan) (js : List Joint) (y : Joint) → IsIn y (cut_joints f w c js) → Cutting f w c js y
from_cut f w c [] y is_in = absurd is_in
from_cut f w c (x ∷ js) y is_in =
    onto_cut f w c js (cut_joints f w c js) x y (f.back (w.at x.asking)) (own_end f c x.asking) (own_end f c x.serving)
    refl refl refl is_in (from_cut f w c js y)

-- and each joint whose ends stand for ends of the region is one
onto_rest : (o : Option Dot) (d e : Option End) (js : List Joint) (y : Joint) → IsIn y js → IsIn y (joint_onto o d e js)
onto_rest None d e js y is_in = is_in
onto_rest (Some o) None e js y is_in = is_in
onto_rest (Some o) (Some d) None js y is_in = is_in
onto_rest (Some o) (Some d) (Some e) js y is_in = inr is_in

onto_first : (o : Option Dot) (d e : Option End) (js : List Joint) (x : Dot) (a b : End)
    → o ≡ Some x → d ≡ Some a → e ≡ Some b → IsIn (joint a b) (joint_onto o d e js)
onto_first o d e js x a b dot asking serving =
    subst (λ (p : Option Dot). IsIn (joint a b) (joint_onto p d e js)) (sym dot)
    (subst (λ (p : Option End). IsIn (joint a b) (joint_onto (Some x) p e js)) (sym asking)
    (subst (λ (p : Option End). IsIn (joint a b) (joint_onto (Some x) (Some a) p js)) (sym serving) (inl refl)))

to_cut : (f : Fold) (w : Web) (c : Plan) (js : List Joint) (j : Joint) (x : Dot) (a b : End)
    → IsIn j js → f.back (w.at j.asking) ≡ Some x → own_end f c j.asking ≡ Some a → own_end f c j.serving ≡ Some b
    → IsIn (joint a b) (cut_joints f w c js)
to_cut f w c [] j x a b is_in dot asking serving = absurd is_in
to_cut f w c (y ∷ js) j x a b (inl same) dot asking serving =
    onto_first (f.back (w.at y.asking)) (own_end f c y.asking) (own_end f c y.serving) (cut_joints f w c js) x a b
    (subst (λ (z : Joint). f.back (w.at z.asking) ≡ Some x) same dot)
    (subst (λ (z : Joint). own_end f c z.asking ≡ Some a) same asking)
    (subst (λ (z : Joint). own_end f c z.serving ≡ Some b) same serving)
to_cut f w c (y ∷ js) j x a b (inr later) dot asking serving =
    onto_rest (f.back (w.at y.asking)) (own_end f c y.asking) (own_end f c y.serving) (cut_joints f w c js) (joint a b)
    (to_cut f w c js j x a b later dot asking serving)

-- an end of joints stands, laid, in those in which they lie
abbrev laid : Fold → Joint → Joint
laid f j = joint (lies_at f.cut j.asking) (lies_at f.cut j.serving)

laid_stands : (f : Fold) (e : End) (y : Joint) → stands_in e y ≡ true → stands_in (lies_at f.cut e) (laid f y) ≡ true
laid_stands f e y t = stands_by (lies_at f.cut e) (laid f y) (either (which_end e y t))
  where
    either : (e ≡ y.asking) ⊎ (e ≡ y.serving) → (lies_at f.cut e ≡ lies_at f.cut y.asking) ⊎ (lies_at f.cut e ≡ lies_at f.cut y.serving)
    either (inl is) = inl (ap (lies_at f.cut) is)
    either (inr is) = inr (ap (lies_at f.cut) is)

abbrev AllLaid : Fold → List Joint → List Joint → Type 0
AllLaid f bs before = (y : Joint) → IsIn y bs → IsIn (laid f y) before

free_laid : (f : Fold) (e : End) (bs before : List Joint) → AllLaid f bs before → IsTrue (is_free (lies_at f.cut e) before) → IsTrue (is_free e bs)
free_laid f e [] before within free = refl
free_laid f e (y ∷ bs) before within free =
    by_test (stands_in e y) refl (free_laid f e bs before (λ z later. within z (inr later)) free)
  where
    by_test : (b : Bool) → stands_in e y ≡ b → IsTrue (is_free e bs) → (not (stands_in e y) && is_free e bs) ≡ true
    by_test true t rest =
        absurd (free_later (lies_at f.cut e) before (laid f y) (within y (inl refl)) free (laid_stands f e y t))
    by_test false t rest = ap (λ (b : Bool). not b && is_free e bs) t ∙ rest

more_laid : (f : Fold) (bs before : List Joint) (j : Joint) → AllLaid f bs before → AllLaid f bs (j ∷ before)
more_laid f bs before j within y is_in = inr (within y is_in)

module _
    (f : Fold) (ss : List Serving) (w v : Web) (r c : Plan) (is : IsFold f ss w v r c) where
  abbrev js : List Joint
  js = cut_joints f w c r.joints

  abbrev p : Plan
  p = with_joints c js

  same_contact : (e : End) → contact_at p e ≡ contact_at c e
  same_contact (PartEnd i h) = refl
  same_contact (ImportEnd i h) = refl
  same_contact (ResultEnd h) = refl

  -- its joints are right
  own_contact : (a d : End) (k : Contact) → Own f c a d → contact_at r a ≡ Some k → contact_at c d ≡ Some k
  own_contact a d k own at =
      own.at ∙ (sym (folds.laid_contact f ss w v r c is d own.contact own.at) ∙ (ap (contact_at r) own.lies ∙ at))

  fits_own : (j : Joint) (d e : End) → Own f c j.asking d → Own f c j.serving e → Fits r j → Fits p (joint d e)
  fits_own j d e asking serving (q, m, asked, served) = (
    q,
    m,
    same_contact d ∙ own_contact j.asking d (asks q m) asking asked,
    same_contact e ∙ own_contact j.serving e (serves q m) serving served,
  )

  abbrev RightRest : List Joint → List Joint → Type 0
  RightRest rest before = (bs : List Joint) → AllLaid f bs before → AreRight p bs rest

  right_onto : (rest before : List Joint) (j : Joint) (o : Option Dot) (d e : Option End)
      → own_end f c j.asking ≡ d → own_end f c j.serving ≡ e
      → Fits r j → IsTrue (is_free j.asking before) → IsTrue (is_free j.serving before)
      → RightRest rest (j ∷ before) → RightRest (joint_onto o d e rest) before
  right_onto rest before j None d e asking serving fit first last further bs within = further bs (more_laid f bs before j within)
  right_onto rest before j (Some o) None e asking serving fit first last further bs within = further bs (more_laid f bs before j within)
  right_onto rest before j (Some o) (Some d) None asking serving fit first last further bs within = further bs (more_laid f bs before j within)
  right_onto rest before j (Some o) (Some d) (Some e) asking serving fit first last further bs within =
      let one = named_is f c j.asking d (name_of f.cut j.asking) asking in
      let other = named_is f c j.serving e (name_of f.cut j.serving) serving in (
        (
          fits_own j d e one other fit,
          free_laid f d bs before within (subst (λ (x : End). IsTrue (is_free x before)) (sym one.lies) first),
          free_laid f e bs before within (subst (λ (x : End). IsTrue (is_free x before)) (sym other.lies) last),
        ),
        further (joint d e ∷ bs) (onto one.lies other.lies),
      )
    where
      onto : lies_at f.cut d ≡ j.asking → lies_at f.cut e ≡ j.serving → AllLaid f (joint d e ∷ bs) (j ∷ before)
      onto one other y (inl same) = inl (ap (laid f) same ∙ (λ i. joint (one i) (other i)))
      onto one other y (inr later) = inr (within y later)

  right_cut : (ks before : List Joint) → AreRight r before ks → RightRest (cut_joints f w c ks) before
  right_cut [] before right = λ bs within. tt
  right_cut (j ∷ ks) before ((fit, first, last), rest) =
      right_onto (cut_joints f w c ks) before j (f.back (w.at j.asking)) (own_end f c j.asking) (own_end f c j.serving)
      refl refl fit first last (right_cut ks (j ∷ before) rest)

  -- what connects fits
  web_fits : WaysFit v p
  web_fits a b k l at_a at_b differ way =
      let here = sym (same_contact a) ∙ at_a in
      let far = sym (same_contact b) ∙ at_b in
      is.whole.fits (lies_at f.cut a) (lies_at f.cut b) k l
      (folds.laid_contact f ss w v r c is a k here) (folds.laid_contact f ss w v r c is b l far)
      (λ same. differ (folds.laid_one f ss w v r c is a b k l here far same))
      (folds.laid_ends f ss w v r c is a b k l here far differ way)

  -- the joints are those of the web
  connects_there : (a b : End) → Connects v c a b → Connects v p a b
  connects_there a b (q, m, asked, served, way) = (q, m, same_contact a ∙ asked, same_contact b ∙ served, way)

  connects_here : (a b : End) → Connects v p a b → Connects v c a b
  connects_here a b (q, m, asked, served, way) = (q, m, sym (same_contact a) ∙ asked, sym (same_contact b) ∙ served, way)

  from_joint : (a b : End) → Contains js (joint a b) → Connects v p a b
  from_joint a b has =
      let cutting = from_cut f w c r.joints (joint a b) (contained js (joint a b) has) in
      let lift =
      folds.lifted_joint f ss w v r c is cutting.from.asking cutting.from.serving
      (listed r.joints cutting.from cutting.is_in) cutting.dot (inl cutting.stands) in
      let con = lift.connects in
      let one =
      folds.laid_one f ss w v r c is lift.first a (asks con.0 con.1) cutting.asking.contact con.2 cutting.asking.at
      (lift.first_lies ∙ sym cutting.asking.lies) in
      let other =
      folds.laid_one f ss w v r c is lift.last b (serves con.0 con.1) cutting.serving.contact con.3 cutting.serving.at
      (lift.last_lies ∙ sym cutting.serving.lies) in
      connects_there a b
      (subst (λ (x : End). Connects v c x b) one (subst (λ (x : End). Connects v c lift.first x) other con))

  to_joint : (a b : End) → Connects v c a b → Contains js (joint a b)
  to_joint a b con =
      let there = contained r.joints (joint (lies_at f.cut a) (lies_at f.cut b)) (folds.laid_joint f ss w v r c is a b con) in
      let folded =
      folds.is_folded f ss w v r c is a b (asks con.0 con.1) (serves con.0 con.1) con.2 con.3 (folds.connects_two v c a b con) con.4 in
      listed js (joint a b)
      (to_cut f w c r.joints (joint (lies_at f.cut a) (lies_at f.cut b)) (v.at a) a b there folded.1
      (own a (asks con.0 con.1) con.2) (own b (serves con.0 con.1) con.3))
    where
      own : (e : End) (k : Contact) → contact_at c e ≡ Some k → own_end f c (lies_at f.cut e) ≡ Some e
      own e k at =
          ap (named_if f c (lies_at f.cut e)) (folds.laid_name f ss w v r c is e k at)
          ∙ named_there f c (lies_at f.cut e) e k at refl

  pub of_web : IsOfWeb v p
  of_web =
      record {
        right = right_cut r.joints [] is.whole.right [] (λ y none. absurd none);
        fits = web_fits;
        joints = λ a b. (from_joint a b, λ con. to_joint a b (connects_here a b con));
      }

  -- the fold asks nothing of the joints
  pub same_fold : IsFold f ss w v r p
  same_fold =
      record {
        whole = is.whole;
        parts = is.parts;
        numbers = is.numbers;
        ports = λ e k port at. is.ports e k port (sym (same_contact e) ∙ at);
        serving = is.serving;
        others = is.others;
        ends = λ e k at. is.ends e k (sym (same_contact e) ∙ at);
        ways = is.ways;
        stays = is.stays;
        comes = λ e k y out at stands. is.comes e k y out at stands;
      }

pub fold_has_plan : FoldHasPlan
fold_has_plan f ss w v r c is =
    let web = of_web f ss w v r c is in (
      cut_joints f w c r.joints,
      web,
      folded_is_region f ss w v r (with_joints c (cut_joints f w c r.joints)) (same_fold f ss w v r c is) web,
    )
