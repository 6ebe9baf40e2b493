-- What is open in a side is what is open at its ends in the whole; so what comes in order in the side does in the whole.
use Rattle.std.specs.Prelude.{None}
use Rattle.std.proofs.Common.{◌≡◌, ℕ, false, List, inl, inr, refl, ◌∙◌}
use Rattle.gos_plan.specs.Plans.{End, Plan}
use Rattle.gos_plan.specs.Tokens.{Tokens, Element, Fire, Out, In, IsPortEnd, places_of, end_of, way_of, shake_of, Does}
use Rattle.gos_plan.specs.Orderly.{Open, ComesInOrder, AllWelcome}
use Rattle.gos_realises.proofs.realises.InputLemmas.{in_there, out_there}
use Rattle.gos_joining.specs.webs.Cutting.{lies_at, StandsIn}
use Rattle.gos_joining.proofs.webs.CutLemmas.{Owns, port_own}
use Rattle.gos_nodes.specs.products.Both.{Side}
use Rattle.gos_nodes.proofs.products.PlaceLemmas.{IsLaid, at, at_port, at_lies, port_of, same_contact, IsLoose, Met}
use Rattle.gos_nodes.proofs.products.StirLemmas.{seen, end_is, InSide, lies, faithful, Ran}
use Rattle.gos_nodes.proofs.windows.OpensLemmas as opening
use Rattle.gos_nodes.proofs.windows.OpensLemmas.{IsLooseAt}

abbrev pub Never : End → Type 0
Never x = ⊥

module _ (r : Plan) (n : ℕ) (g : Side) (is : IsLaid r n g) where
  -- an element of the side as one of the whole
  abbrev pub placed : Element → Element
  placed (Fire j slot) = Fire (g.cut.part j) slot
  placed (Out e v) = Out (at r n g is e) v
  placed (In e v) = In (at r n g is e) v

  -- the ends at which it passes
  abbrev pub Stands : Element → Type 0
  Stands (Fire j slot) = Unit {0}
  Stands (Out e v) = IsPortEnd e × StandsIn g.plan e
  Stands (In e v) = Met r n g is e

  -- nothing else is open but at ports without a joint
  abbrev pub Opens : Open → Open → Type 0
  Opens own o = opening.Opens g.cut r g.plan Never Never own o

  never_kept : (x a : End) → Never x → Owns g.plan a → x ≡ lies_at g.cut a → ⊥
  never_kept x a never own lies_so = never

  -- a port of it at no joint
  loose_at : (e : End) → IsLoose r n g is e → IsLooseAt r g.plan e (at r n g is e)
  loose_at e loose =
      record {
        own_port = loose.port.port;
        port = at_port r n g is e loose.port.port;
        none = loose.none;
        own_none = loose.own_none;
        contact = loose.port.contact;
        there = same_contact r n g is e loose.port ∙ loose.port.there;
        own_there = loose.port.there;
        asks = loose.asks;
      }

  module _
      (before s t : Tokens) (hs : List Element) (ran : Ran r n g is before hs s) (within : InSide r n g is s) (own mown o : Open) (opens : Opens own o) where
    pub side_order : (y : Element) → Stands y → ((e : End) (v : ℕ) → y ≡ In e v → places_of r (at r n g is e) ≡ None → o (at r n g is e) ≡ false)
        → Does g.plan y (seen g s) (seen g t) → Does r (placed y) s t
        → ComesInOrder g.plan y (seen g s) own mown → (m : Open) × ComesInOrder r (placed y) s o m × Opens mown m
    side_order (Fire j slot) stands shut own_does does comes =
        opening.fire_order g.cut g.sides r g.plan is.side.region Never Never never_kept s t within own mown o opens j slot
        (faithful r n g is before s hs ran j slot) own_does does comes
    side_order (Out e v) (port, stands) shut own_does does comes =
        let (c, at_e) = out_there g.plan e v (seen g s) (seen g t) own_does in
        opening.out_order g.cut g.sides r g.plan is.side.region Never Never never_kept s t within own mown o opens e (at r n g is e) v c port stands
        (at_lies r n g is e (port_own g.plan e port stands)) (same_contact r n g is e (port_of r n g is e port stands)) at_e comes
    side_order (In e v) (inl (port, stands)) shut own_does does comes =
        let (c, at_e) = in_there g.plan e v (seen g s) (seen g t) own_does in
        opening.in_order_at g.cut g.sides r g.plan is.side.region Never Never never_kept s t within own mown o opens e (at r n g is e) v c port stands
        (at_lies r n g is e (port_own g.plan e port stands)) (same_contact r n g is e (port_of r n g is e port stands)) at_e comes
    side_order (In e v) (inr loose) shut own_does does comes =
        opening.loose_order g.cut g.sides r g.plan is.side.region Never Never never_kept s t within own mown o opens e (at r n g is e) v (loose_at e loose)
        comes (shut e v refl loose.none)

  -- what lies is welcome
  pub side_welcome : (t : Tokens) → InSide r n g is t → AllWelcome g.plan (seen g t) → AllWelcome r t
  side_welcome t within welcome i slot c v at_end way held =
      let on = lies r n g is t within (end_of i slot) (way_of slot) v held in
      let (j, number, is_own) = end_is r n g is i (shake_of slot) on.own on.owned on.lies in
      opening.welcome_in g.cut g.sides r g.plan is.side.region t i j slot c v number on.agrees at_end way held welcome
