-- The plan of a folded web is a region.
use Rattle.std.specs.Prelude.{◌≡◌, ℕ, ◌-◌, ◌<◌, ◌&&◌, Bool, true, false, not, List, [], ◌∷◌, ◌⊎◌, Option, Some, None, Contains, if◌then◌else◌}
use Rattle.std.proofs.Common.{refl, sym, ◌∙◌, ap, subst, inl, inr}
use Rattle.std.proofs.lemmas.Option.{none-some, same_Some}
use Rattle.gos_plan.specs.Kinds.{Contact, asks, serves}
use Rattle.gos_plan.specs.Plans.{End, PartEnd, ImportEnd, ResultEnd, Joint, Plan, contact_at, same_end, stands_in, is_free}
use Rattle.gos_plan.specs.Tokens.{IsPortEnd}
use Rattle.gos_plan.proofs.JointLemmas.{IsIn, same_itself, same_is, stands_there, joined, contained, which_end, stands_somewhere}
use Rattle.gos_realises.specs.realises.Regular.{count}
use Rattle.gos_joining.specs.webs.Webs.{Dot, Web, Connects, joint, IsOfWeb}
use Rattle.gos_joining.specs.webs.Cutting.{lies_at, IsInside, StandsIn}
use Rattle.gos_joining.proofs.webs.MovedLemmas.{listed}
use Rattle.gos_joining.proofs.webs.WayLemmas.{way_back}
use Rattle.gos_sharing.specs.sharing.Sharing.{caller_end}
use Rattle.gos_nodes.specs.windows.Regions.{Serving, IsOther, IsRegion}
use Rattle.gos_nodes.specs.folds.Folds.{Fold, IsFolded, IsAlone, IsSpare, IsFold, is_port, port_if, joined_cut, FoldedIsRegion, FoldedJoint}
use Rattle.gos_nodes.proofs.folds.FoldLemmas as folds

-- an end stands in one of these joints, or in none
free_of : (e : End) (js : List Joint) (j : Joint) → IsIn j js → stands_in e j ≡ true → is_free e js ≡ false
free_of e [] j is_in stands = absurd is_in
free_of e (x ∷ xs) j (inl is) stands =
    let here : stands_in e x ≡ true = subst (λ (y : Joint). stands_in e y ≡ true) is stands in ap (λ (b : Bool). not b && is_free e xs) here
free_of e (x ∷ xs) j (inr later) stands = either (stands_in e x) (is_free e xs) (free_of e xs j later stands)
  where
    either : (b d : Bool) → d ≡ false → (not b && d) ≡ false
    either true d h = refl
    either false d h = h

-- the ports of the joined cut
port_true : (e : End) → IsPortEnd e → is_port e ≡ true
port_true (PartEnd i h) port = absurd port
port_true (ImportEnd i h) port = refl
port_true (ResultEnd h) port = refl

port_known : (e : End) → is_port e ≡ true → IsPortEnd e
port_known (PartEnd i h) port = cc port
port_known (ImportEnd i h) port = tt
port_known (ResultEnd h) port = tt

kept : (a b d : Bool) (e : End) → a ≡ true → b ≡ true → d ≡ false → (if a && (b && not d) then Some e else None) ≡ Some e
kept a b d e first also last = λ i. if first i && (also i && not (last i)) then Some e else None

abbrev Kept : Bool → Bool → Bool → End → End → Type 0
Kept a b d e x = (a ≡ true) × (b ≡ true) × (d ≡ false) × (e ≡ x)

when_kept : (a b d : Bool) (e x : End) → (if a && (b && not d) then Some e else None) ≡ Some x → Kept a b d e x
when_kept true true false e x h = (refl, refl, refl, same_Some e x h)
when_kept true true true e x h = absurd (none-some x h)
when_kept true false d e x h = absurd (none-some x h)
when_kept false b d e x h = absurd (none-some x h)

abbrev Inner : (End → End) → Plan → End → End → Type 0
Inner outer c b e = IsPortEnd e × StandsIn c e × (outer e ≡ b)

port_is : (outer : End → End) (c : Plan) (b e : End) (o : Option End) → port_if outer c.joints b o ≡ Some e → Inner outer c b e
port_is outer c b e None h = absurd (none-some e h)
port_is outer c b e (Some d) h =
    let (port, lies, free, same) = when_kept (is_port d) (same_end (outer d) b) (is_free d c.joints) d e h in
    let (j, is_in, stands) = stands_somewhere d c.joints free in
    subst (Inner outer c b) same (port_known d port, (j, listed c.joints j is_in, stands), same_is (outer d) b lies)

module _
    (f : Fold) (ss : List Serving) (w v : Web) (r c : Plan) (is : IsFold f ss w v r c) (web : IsOfWeb v c) where
  -- an end that stands in a joint is there
  there : (e : End) → StandsIn c e → (k : Contact) × (contact_at c e ≡ Some k)
  there e (j, has, stands) =
      let one = joined c e j.asking web.right (stands_there c j e web.right (contained c.joints j has) stands) in (one.here, one.is_here)

  inner_is : (e : End) (k : Contact) → IsPortEnd e → contact_at c e ≡ Some k → StandsIn c e
      → port_if f.cut.outer c.joints (f.cut.outer e) (f.cut.inner (f.cut.outer e)) ≡ Some e
  inner_is e k port at (j, has, stands) =
      ap (port_if f.cut.outer c.joints (f.cut.outer e)) (is.ports e k port at).1
      ∙ kept (is_port e) (same_end (f.cut.outer e) (f.cut.outer e)) (is_free e c.joints) e (port_true e port) (same_itself (f.cut.outer e))
      (free_of e c.joints j (contained c.joints j has) stands)

  -- an end from which no way leads stands in no joint
  alone_of : (e : End) (j : Joint) → IsAlone v c e → Contains c.joints j → (e ≡ j.asking) ⊎ (e ≡ j.serving) → ⊥
  alone_of e j alone has (inl asks_there) =
      let con = (web.joints j.asking j.serving).0 has in
      let here : IsAlone v c j.asking = subst (λ (x : End). IsAlone v c x) asks_there alone in
      folds.connects_two v c j.asking j.serving con (sym (here j.serving (serves con.0 con.1) con.3 con.4))
  alone_of e j alone has (inr serves_there) =
      let con = (web.joints j.asking j.serving).0 has in
      let here : IsAlone v c j.serving = subst (λ (x : End). IsAlone v c x) serves_there alone in
      folds.connects_two v c j.asking j.serving con (here j.asking (asks con.0 con.1) con.2 (way_back v.ties (v.at j.asking) (v.at j.serving) con.4))

  alone_free : (e : End) → IsAlone v c e → StandsIn c e → ⊥
  alone_free e alone (j, has, stands) = alone_of e j alone has (which_end e j stands)

  -- an end inside that stands for nothing is that of another caller
  other_part : (d a : End) → (IsPortEnd d → ⊥) → lies_at f.cut d ≡ a → f.back (w.at a) ≡ None → IsFolded f w v d ⊎ IsSpare f ss w v c d → IsOther ss a
  other_part d a part lies none (inl folded) =
      absurd (none-some (v.at d) (sym none ∙ (ap (λ (e : End). f.back (w.at e)) (sym lies) ∙ folded.1)))
  other_part d a part lies none (inr spare) = by_kind spare.1
    where
      by_kind : IsPortEnd d ⊎ IsOther ss (lies_at f.cut d) → IsOther ss a
      by_kind (inl port) = absurd (part port)
      by_kind (inr other) = subst (λ (e : End). IsOther ss e) lies other

  other : (a : End) (k : Contact) → contact_at r a ≡ Some k → f.back (w.at a) ≡ None → IsInside f.cut a → IsOther ss a
  other (PartEnd i h) k at none (j, number) =
      let part = folds.inside_part f ss w v r c is i h j k number at in
      other_part (PartEnd j h) (PartEnd i h) (λ port. port) (ap (λ n. PartEnd n h) part.0) none (is.ends (PartEnd j h) k part.1)
  other (ImportEnd i h) k at none inside = absurd inside
  other (ResultEnd h) k at none inside = absurd inside

  abbrev OwnJoint : End → End → Type 0
  OwnJoint a b = (d e : End) × Contains c.joints (joint d e) × (lies_at f.cut d ≡ a) × (lies_at f.cut e ≡ b)

  pub own_joint : (a b : End) (x : Dot) → Contains r.joints (joint a b) → (f.back (w.at a) ≡ Some x) ⊎ (f.back (w.at b) ≡ Some x) → OwnJoint a b
  own_joint a b x has stands =
      let one = folds.lifted_joint f ss w v r c is a b has x stands in
      (one.first, one.last, (web.joints one.first one.last).1 one.connects, one.first_lies, one.last_lies)

  abbrev Known : End → End → Type 0
  Known a b =
      OwnJoint a b
      ⊎ ((IsInside f.cut a → IsOther ss a) × (IsInside f.cut b → IsOther ss b))

  known : (a b : End) → Contains r.joints (joint a b) → Known a b
  known a b has = by_first (f.back (w.at a)) refl
    where
      con : Connects w r a b
      con = (is.whole.joints a b).0 has

      from : (x : Dot) → (f.back (w.at a) ≡ Some x) ⊎ (f.back (w.at b) ≡ Some x) → Known a b
      from x stands = inl (own_joint a b x has stands)

      by_last : (o : Option Dot) → f.back (w.at b) ≡ o → f.back (w.at a) ≡ None → Known a b
      by_last None none none_first = inr (other a (asks con.0 con.1) con.2 none_first, other b (serves con.0 con.1) con.3 none)
      by_last (Some x) stands none_first = from x (inr stands)

      by_first : (o : Option Dot) → f.back (w.at a) ≡ o → Known a b
      by_first None none = by_last (f.back (w.at b)) refl none
      by_first (Some x) stands = from x (inl stands)

  -- the other caller's ends
  unused : (n : Serving) (i j : ℕ) → Contains ss n → f.cut.number n.part ≡ Some i → j < count n.ty → StandsIn c (caller_end i n.ty (1 - n.side) j) → ⊥
  unused n i j has number low stands = by_end (is.ends here (there here stands).0 (there here stands).1)
    where
      here : End
      here = caller_end i n.ty (1 - n.side) j

      lies : lies_at f.cut here ≡ caller_end n.part n.ty (1 - n.side) j
      lies = ap (λ m. caller_end m n.ty (1 - n.side) j) (is.numbers n.part i number).0

      none : f.back (w.at (lies_at f.cut here)) ≡ None
      none = is.others (lies_at f.cut here) (n, j, has, low, lies)

      by_end : IsFolded f w v here ⊎ IsSpare f ss w v c here → ⊥
      by_end (inl folded) = none-some (v.at here) (sym none ∙ folded.1)
      by_end (inr spare) = alone_free here spare.2 stands

  pub region : IsRegion (joined_cut f.cut c.joints) ss r c
  region =
      record {
        whole_right = is.whole.right;
        right = web.right;
        parts = is.parts;
        numbers = is.numbers;
        ports = λ e port stands.
            let at = there e stands in ((is.ports e at.0 port at.1).0, inner_is e at.0 port at.1 stands);
        inners = λ b e inner. port_is f.cut.outer c b e (f.cut.inner b) inner;
        contacts = λ e port stands. let at = there e stands in (is.ports e at.0 port at.1).2 ∙ sym at.1;
        joints = λ a b has. folds.laid_joint f ss w v r c is a b ((web.joints a b).0 has);
        all = λ a b has inside. known a b has;
        serving = is.serving;
        unused = unused;
      }

pub folded_is_region : FoldedIsRegion
folded_is_region f ss w v r c is web = region f ss w v r c is web

pub folded_joint : FoldedJoint
folded_joint f ss w v r c a b x is web has stands = own_joint f ss w v r c is web a b x has stands
