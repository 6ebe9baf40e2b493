-- Two plans of webs are one but for numbers, if the webs connect the same ends: each tie of one is a way of the other.
use Rattle.std.specs.Prelude.{◌≡◌, ℕ, Option, Some, Contains, slice_get}
use Rattle.std.proofs.Common.{sym, ◌∙◌, ap}
use Rattle.gos_types.specs.Types.{Type'}
use Rattle.gos_model.specs.Typing.{Imported}
use Rattle.gos_plan.specs.Kinds.{Part, Contact, asks, serves, contacts_of}
use Rattle.gos_plan.specs.Plans.{End, PartEnd, ImportEnd, ResultEnd, Plan, contact_at, contacts_of_part, contacts_of_import, turned_if}
use Rattle.gos_joining.specs.webs.Webs.{Dot, Tie, Web, Way, Connects, IsOfWeb}
use Rattle.gos_joining.specs.webs.Renumbering.{Renumber, IsOneToOne, IsRenumbered, moved_end}
use Rattle.gos_joining.proofs.webs.WayLemmas.{way_then, way_back, mapped_way}

pub record Matching (g : Renumber) (w u : Web) (r s : Plan) : Type 0 where
  pub web : IsOfWeb w r
  pub other_web : IsOfWeb u s
  pub one_to_one : IsOneToOne g
  pub parts : (i : ℕ) → slice_get s.parts (g.part i) ≡ slice_get r.parts i
  pub imports : (i : ℕ) → slice_get s.imports (g.import i) ≡ slice_get r.imports i
  pub outcome : s.outcome ≡ r.outcome
  pub forth : Dot → Dot
  pub back : Dot → Dot
  pub ties_forth : (t : Tie) → Contains w.ties t → Way u.ties (forth t.one) (forth t.other)
  pub ties_back : (t : Tie) → Contains u.ties t → Way w.ties (back t.one) (back t.other)
  pub ends_forth : (e : End) (k : Contact) → contact_at r e ≡ Some k → Way u.ties (forth (w.at e)) (u.at (moved_end g e))
  pub ends_back : (e : End) (k : Contact) → contact_at r e ≡ Some k → Way w.ties (back (u.at (moved_end g e))) (w.at e)

module _
    (g : Renumber) (w u : Web) (r s : Plan) (is : Matching g w u r s) where
  same_contact : (e : End) → contact_at s (moved_end g e) ≡ contact_at r e
  same_contact (PartEnd i h) = ap (λ (o : Option Part). slice_get (contacts_of_part o) h) (is.parts i)
  same_contact (ImportEnd i h) = ap (λ (o : Option Imported). slice_get (contacts_of_import o) h) (is.imports i)
  same_contact (ResultEnd h) = ap (λ (t : Type'). turned_if (slice_get (contacts_of t) h)) is.outcome

  to : (a b : End) → Connects w r a b → Connects u s (moved_end g a) (moved_end g b)
  to a b (q, v, at_a, at_b, way) =
      let across = mapped_way w.ties u.ties is.forth is.ties_forth (w.at a) (w.at b) way in
      let first = way_back u.ties (is.forth (w.at a)) (u.at (moved_end g a)) (is.ends_forth a (asks q v) at_a) in
      let last = is.ends_forth b (serves q v) at_b in (
        q,
        v,
        same_contact a ∙ at_a,
        same_contact b ∙ at_b,
        way_then u.ties (u.at (moved_end g a)) (is.forth (w.at a)) (u.at (moved_end g b)) first
            (way_then u.ties (is.forth (w.at a)) (is.forth (w.at b)) (u.at (moved_end g b)) across last),
      )

  from : (a b : End) → Connects u s (moved_end g a) (moved_end g b) → Connects w r a b
  from a b (q, v, at_a, at_b, way) =
      let here : contact_at r a ≡ Some (asks q v) = sym (same_contact a) ∙ at_a in
      let there : contact_at r b ≡ Some (serves q v) = sym (same_contact b) ∙ at_b in
      let across = mapped_way u.ties w.ties is.back is.ties_back (u.at (moved_end g a)) (u.at (moved_end g b)) way in
      let first = way_back w.ties (is.back (u.at (moved_end g a))) (w.at a) (is.ends_back a (asks q v) here) in
      let last = is.ends_back b (serves q v) there in (
        q,
        v,
        here,
        there,
        way_then w.ties (w.at a) (is.back (u.at (moved_end g a))) (w.at b) first
            (way_then w.ties (is.back (u.at (moved_end g a))) (is.back (u.at (moved_end g b))) (w.at b) across last),
      )

  pub matched : IsRenumbered g r s
  matched =
      record {
        one_to_one = is.one_to_one;
        parts = is.parts;
        imports = is.imports;
        outcome = is.outcome;
        joints = λ a b. (
          λ has. (is.other_web.joints (moved_end g a) (moved_end g b)).1 (to a b ((is.web.joints a b).0 has)),
          λ has. (is.web.joints a b).1 (from a b ((is.other_web.joints (moved_end g a) (moved_end g b)).0 has)),
        );
        right = is.web.right;
        also_right = is.other_web.right;
      }
