-- The joints of a region, as they lie in the whole. The whole with these joints alone has the region as a cut.
--
-- So what is known of cuts is known of regions, where the places of an end are those of its joint in the region (`Agree`).
use Rattle.std.specs.Prelude.{None, map}
use Rattle.std.proofs.Common.{◌≡◌, ℕ, true, List, [], ◌∷◌, ◌⊎◌, Option, Some, inl, inr, refl, sym, ◌∙◌, ap, subst}
use Rattle.gos_types.specs.Events.{Direction}
use Rattle.gos_types.proofs.BoolLemmas.{same_tests}
use Rattle.gos_plan.specs.Firing.{Token, Row}
use Rattle.gos_plan.specs.Plans.{End, PartEnd, ImportEnd, ResultEnd, Joint, Plan, contact_at, same_end, stands_in, Fits}
use Rattle.gos_plan.specs.Tokens.{Tokens, places_of, held_at, with_held, with_token, with_state, token_at, with_puts, end_of, way_of, fired}
use Rattle.gos_plan.proofs.MovedJointLemmas.{map_in, in_map, right_where_fit}
use Rattle.gos_plan.proofs.JointLemmas.{IsIn, same_itself, same_is, fits, Found, found, one_joint, stands_there, contained, asking_stands, serving_stands, which_end}
use Rattle.gos_joining.specs.webs.Webs.{joint}
use Rattle.gos_joining.specs.webs.Cutting.{Cut, lies_at, IsInside, StandsIn, IsCut, asks_in}
use Rattle.gos_joining.proofs.webs.MovedLemmas.{listed}
use Rattle.gos_joining.proofs.webs.CutLemmas.{name_by, name_of, Owns, outside_name, stands_by, stands_own, Asked, asks_one}
use Rattle.gos_nodes.specs.windows.Regions.{Serving, IsOther, IsRegion}

abbrev pub laid : Cut → Joint → Joint
laid f j = joint (lies_at f j.asking) (lies_at f j.serving)

abbrev pub inlay : Cut → Plan → Plan → Plan
inlay f r c = record r { joints = map (laid f) c.joints }

pub same_contact : (f : Cut) (r c : Plan) (e : End) → contact_at (inlay f r c) e ≡ contact_at r e
same_contact f r c (PartEnd i h) = refl
same_contact f r c (ImportEnd i h) = refl
same_contact f r c (ResultEnd h) = refl

module _
    (f : Cut) (ss : List Serving) (r c : Plan) (is : IsRegion f ss r c) where
  -- ends of the region are apart in the whole
  pub region_name : (e : End) → Owns c e → name_of f (lies_at f e) ≡ Some e
  region_name (PartEnd i h) (k, there) = ap (name_by f (f.part i) h) (is.parts i k there).1
  region_name (ImportEnd i h) stands =
      let port = is.ports (ImportEnd i h) tt stands in outside_name f (f.outer (ImportEnd i h)) port.0 ∙ port.1
  region_name (ResultEnd h) stands =
      let port = is.ports (ResultEnd h) tt stands in outside_name f (f.outer (ResultEnd h)) port.0 ∙ port.1

  pub region_one : (d e : End) → Owns c d → Owns c e → lies_at f d ≡ lies_at f e → d ≡ e
  region_one d e own also same =
      let both : Some d ≡ Some e = sym (region_name d own) ∙ (ap (name_of f) same ∙ region_name e also) in cc both

  same_laid : (d e : End) → Owns c d → Owns c e → same_end (lies_at f d) (lies_at f e) ≡ same_end d e
  same_laid d e own also = same_tests (same_end (lies_at f d) (lies_at f e)) (same_end d e) to from
    where
      to : same_end (lies_at f d) (lies_at f e) ≡ true → same_end d e ≡ true
      to h = subst (λ (x : End). same_end d x ≡ true) (region_one d e own also (same_is (lies_at f d) (lies_at f e) h)) (same_itself d)

      from : same_end d e ≡ true → same_end (lies_at f d) (lies_at f e) ≡ true
      from h = subst (λ (x : End). same_end (lies_at f d) (lies_at f x) ≡ true) (same_is d e h) (same_itself (lies_at f d))

  -- the joints are right
  pub laid_there : (j : Joint) → IsIn j c.joints → IsIn (laid f j) r.joints
  laid_there j is_in = contained r.joints (laid f j) (is.joints j.asking j.serving (listed c.joints j is_in))

  fits_laid : (j : Joint) → IsIn j c.joints → Fits (inlay f r c) (laid f j)
  fits_laid j is_in =
      let fit = fits r [] r.joints (laid f j) is.whole_right (laid_there j is_in) in
      (fit.0, fit.1, same_contact f r c (lies_at f j.asking) ∙ fit.2, same_contact f r c (lies_at f j.serving) ∙ fit.3)

  own_ends : (j : Joint) → IsIn j c.joints → Owns c j.asking × Owns c j.serving
  own_ends j is_in = (stands_own c j j.asking is.right is_in (asking_stands j), stands_own c j j.serving is.right is_in (serving_stands j))

  -- the region is a cut of that plan
  pub inlay_cut : IsCut f (inlay f r c) c
  inlay_cut =
      record {
        whole_right = right_where_fit c (inlay f r c) (lies_at f) (Owns c) own_ends same_laid fits_laid is.right;
        right = is.right;
        parts = is.parts;
        numbers = is.numbers;
        ports = is.ports;
        inners = is.inners;
        contacts = λ e port stands. same_contact f r c (f.outer e) ∙ is.contacts e port stands;
        joints = λ a b here.
            listed (map (laid f) c.joints) (joint (lies_at f a) (lies_at f b)) (map_in (laid f) c.joints (joint a b) (contained c.joints (joint a b) here));
        all = λ a b here inside.
            let (j, is_in, same) = in_map (laid f) c.joints (joint a b) (contained (map (laid f) c.joints) (joint a b) here) in
            (j.asking, j.serving, listed c.joints j is_in, sym (ap (λ (x : Joint). x.asking) same), sym (ap (λ (x : Joint). x.serving) same));
      }

  -- an end whose places are those of a joint of the region, or which has none
  abbrev pub Agree : End → Type 0
  Agree e = places_of (inlay f r c) e ≡ places_of r e

  pub inlay_place : (e a : End) → places_of (inlay f r c) e ≡ Some a → places_of r e ≡ Some a
  inlay_place e a h =
      let at = found (map (laid f) c.joints) e a h in
      let (j, is_in, same) = in_map (laid f) c.joints at.joint at.is_in in
      let here : IsIn at.joint r.joints = subst (λ (x : Joint). IsIn x r.joints) (sym same) (laid_there j is_in) in
      stands_there r at.joint e is.whole_right here at.stands ∙ ap Some at.named

  pub place_agrees : (e a : End) → places_of (inlay f r c) e ≡ Some a → Agree e
  place_agrees e a h = h ∙ sym (inlay_place e a h)

  -- what a joint of the region has at its ends
  pub laid_place : (j : Joint) (e : End) → IsIn j c.joints → stands_in e (laid f j) ≡ true → places_of (inlay f r c) e ≡ Some (lies_at f j.asking)
  laid_place j e is_in stands = stands_there (inlay f r c) (laid f j) e inlay_cut.whole_right (map_in (laid f) c.joints j is_in) stands

  pub agree_token : (e : End) → Agree e → (s : Tokens) (way : Direction) → token_at (inlay f r c) s e way ≡ token_at r s e way
  agree_token e same s way = ap (held_at s way) same

  pub agree_put : (e : End) → Agree e → (way : Direction) (held : Option ℕ) (s : Tokens) → with_token (inlay f r c) e way held s ≡ with_token r e way held s
  agree_put e same way held s = ap (λ o. with_held way o held s) same

  abbrev pub AllAgree : ℕ → List Token → Type 0
  AllAgree i [] = Unit {0}
  AllAgree i (t ∷ ts) = Agree (end_of i t.slot) × AllAgree i ts

  pub agree_puts : (i : ℕ) (ts : List Token) → AllAgree i ts → (s : Tokens) → with_puts (inlay f r c) i ts s ≡ with_puts r i ts s
  agree_puts i [] same s = refl
  agree_puts i (t ∷ ts) (one, others) s =
      ap (with_puts (inlay f r c) i ts) (agree_put (end_of i t.slot) one (way_of t.slot) (Some t.value) s)
      ∙ agree_puts i ts others (with_token r (end_of i t.slot) (way_of t.slot) (Some t.value) s)

  pub agree_fired : (i : ℕ) (row : Row) (v : ℕ) → Agree (end_of i row.takes) → AllAgree i (row.puts v) → (s : Tokens)
      → fired (inlay f r c) i row v s ≡ fired r i row v s
  agree_fired i row v one others s =
      ap (λ u. with_puts (inlay f r c) i (row.puts v) (with_state i (row.next v) u)) (agree_put (end_of i row.takes) one (way_of row.takes) None s)
      ∙ agree_puts i (row.puts v) others (with_state i (row.next v) (with_token r (end_of i row.takes) (way_of row.takes) None s))

  -- an end of the region agrees, or it is one at which a Share serves its other caller
  pub agrees_or_other : (i h j : ℕ) → f.number i ≡ Some j → Agree (PartEnd i h) ⊎ IsOther ss (PartEnd i h)
  agrees_or_other i h j number = by_place (places_of (inlay f r c) (PartEnd i h)) refl
    where
      inside : IsInside f (PartEnd i h)
      inside = (j, number)

      either : (x : Joint) → (PartEnd i h ≡ x.asking) ⊎ (PartEnd i h ≡ x.serving) → IsInside f x.asking ⊎ IsInside f x.serving
      either x (inl one) = inl (subst (λ (e : End). IsInside f e) one inside)
      either x (inr one) = inr (subst (λ (e : End). IsInside f e) one inside)

      other : (x : Joint) → (PartEnd i h ≡ x.asking) ⊎ (PartEnd i h ≡ x.serving)
          → (IsInside f x.asking → IsOther ss x.asking) × (IsInside f x.serving → IsOther ss x.serving) → IsOther ss (PartEnd i h)
      other x (inl one) both = subst (λ (e : End). IsOther ss e) (sym one) (both.0 (subst (λ (e : End). IsInside f e) one inside))
      other x (inr one) both = subst (λ (e : End). IsOther ss e) (sym one) (both.1 (subst (λ (e : End). IsInside f e) one inside))

      of_joint : (x : End) → places_of (inlay f r c) (PartEnd i h) ≡ None → Found r.joints (PartEnd i h) x → Agree (PartEnd i h) ⊎ IsOther ss (PartEnd i h)
      of_joint x none at =
          let which = which_end (PartEnd i h) at.joint at.stands in
          elim (is.all at.joint.asking at.joint.serving (listed r.joints at.joint at.is_in) (either at.joint which)) [
            | inl own ↦ (let is_in = contained c.joints (joint own.0 own.1) own.2 in
                let same : at.joint ≡ laid f (joint own.0 own.1) = λ l. joint (sym own.3 l) (sym own.4 l) in
                let named = laid_place (joint own.0 own.1) (PartEnd i h) is_in (subst (λ (y : Joint). stands_in (PartEnd i h) y ≡ true) same at.stands) in
                let clash : None ≡ Some (lies_at f own.0) = sym none ∙ named in absurd (cc clash))
            | inr others ↦ inr (other at.joint which others)
          ]

      by_whole : (o : Option End) → places_of r (PartEnd i h) ≡ o → places_of (inlay f r c) (PartEnd i h) ≡ None → Agree (PartEnd i h) ⊎ IsOther ss (PartEnd i h)
      by_whole None none_there none = inl (none ∙ sym none_there)
      by_whole (Some x) named none = of_joint x none (found r.joints (PartEnd i h) x named)

      by_place : (o : Option End) → places_of (inlay f r c) (PartEnd i h) ≡ o → Agree (PartEnd i h) ⊎ IsOther ss (PartEnd i h)
      by_place None none = by_whole (places_of r (PartEnd i h)) refl none
      by_place (Some a) named = inl (place_agrees (PartEnd i h) a named)

  -- what lies on a joint of the region lies at two ends of it
  pub record LiesOn (e : End) : Type 0 where
    pub own : End
    pub owned : Owns c own
    pub stands : StandsIn c own
    pub lies : lies_at f own ≡ e
    pub agrees : Agree e

  pub lies_on : (e x a : End) → places_of r e ≡ Some x → asks_in c.joints a ≡ true → lies_at f a ≡ x → LiesOn e
  lies_on e x a named asks at = of_end (which_end e (laid f one.joint) stands)
    where
      one : Asked c.joints a
      one = asks_one c.joints a asks

      whole : Found r.joints e x
      whole = found r.joints e x named

      is_x : x ≡ lies_at f one.joint.asking
      is_x = sym at ∙ ap (lies_at f) one.asker

      same : whole.joint ≡ laid f one.joint
      same =
          one_joint r [] r.joints whole.joint (laid f one.joint) x is.whole_right whole.is_in (laid_there one.joint one.is_in)
          (stands_by x whole.joint (inl (sym whole.named))) (stands_by x (laid f one.joint) (inl is_x))

      stands : stands_in e (laid f one.joint) ≡ true
      stands = subst (λ (y : Joint). stands_in e y ≡ true) same whole.stands

      agreeing : Agree e
      agreeing = place_agrees e (lies_at f one.joint.asking) (laid_place one.joint e one.is_in stands)

      at_end : (d : End) → stands_in d one.joint ≡ true → e ≡ lies_at f d → LiesOn e
      at_end d in_joint lies =
          record { own = d; owned = stands_own c one.joint d is.right one.is_in in_joint; stands = (one.joint, listed c.joints one.joint one.is_in, in_joint); lies = sym lies; agrees = agreeing }

      of_end : (e ≡ lies_at f one.joint.asking) ⊎ (e ≡ lies_at f one.joint.serving) → LiesOn e
      of_end (inl lies) = at_end one.joint.asking (asking_stands one.joint) lies
      of_end (inr lies) = at_end one.joint.serving (serving_stands one.joint) lies
