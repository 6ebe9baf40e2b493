-- The elements of a plan that writes at a port.
use Rattle.std.specs.Prelude.{◌≡◌, ◌⊎◌, ℕ, true, Option, Some, None, Contains, slice_get}
use Rattle.std.proofs.Common.{refl, sym, ap, subst, inl, inr, ◌∙◌}
use Rattle.std.proofs.lemmas.Option.{none-some}
use Rattle.gos_types.specs.Events.{Direction}
use Rattle.gos_model.specs.Terms.{Name}
use Rattle.gos_plan.specs.Kinds.{Part, Contact}
use Rattle.gos_plan.specs.Firing.{Slot, Row}
use Rattle.gos_plan.specs.Plans.{End, PartEnd, ImportEnd, ResultEnd, Joint, Plan, contact_at, stands_in}
use Rattle.gos_plan.specs.Tokens.{Tokens, Fire, Out, In, IsPortEnd, places_of, held_at, token_at, way_taken, firing_of, Passes, Does}
use Rattle.gos_plan.proofs.JointLemmas.{found, asking_stands, serving_stands, which_end}
use Rattle.gos_plan.proofs.ElementLemmas.{firing_part}
use Rattle.gos_joining.specs.webs.Webs.{joint}
use Rattle.gos_joining.specs.webs.Cutting.{Cut, lies_at, StandsIn}
use Rattle.gos_joining.proofs.webs.MovedLemmas.{listed}
use Rattle.gos_nodes.specs.assign_part.Writes.{IsJointOf, IsPortWrite}
use Rattle.gos_nodes.specs.assign_part.Elements.{Done, within, run, given, written, asks, writes, answers, comes, ElementsOfWrites}
use Rattle.gos_nodes.proofs.assign_part.TableLemmas.{assigns_do}

module _ (d k w : ℕ) (x : Name) (f : Cut) (r p : Plan) (is : IsPortWrite d k w x f r p) (s t : Tokens) where
  by_own : (slot : Slot) (row : Row) → firing_of (slice_get r.parts d) (s.state d) slot ≡ Some row → Done d k f s (Fire d slot)
  by_own slot row by =
      let no_other = (assigns_do w).no_other (s.state d) slot row (subst (λ (o : Option Part). firing_of o (s.state d) slot ≡ Some row) is.own by) in
      elim no_other [
        | inl h ↦ subst (λ (x : Slot). Done d k f s (Fire d x)) (sym h.1) (run h.0)
        | inr (inl h) ↦ subst (λ (x : Slot). Done d k f s (Fire d x)) (sym h.1) (given h.0)
        | inr (inr h) ↦ subst (λ (x : Slot). Done d k f s (Fire d x)) (sym h.1) (written h.0)
      ]

  fired : (i : ℕ) (slot : Slot) → Does r (Fire i slot) s t → Done d k f s (Fire i slot)
  fired i slot (v, row, held, by, leads) =
      let there = firing_part (slice_get r.parts i) (s.state i) slot row by in
      elim (is.parts i there.0 there.1) [
        | inl same ↦ subst (λ (n : ℕ). Done d k f s (Fire n slot)) (sym same)
            (by_own slot row (subst (λ (n : ℕ). firing_of (slice_get r.parts n) (s.state n) slot ≡ Some row) same by))
        | inr at ↦ within i at.0 slot at.1
      ]

  -- an end of the region's that is a port
  at_port : (a e : End) (v : ℕ) → StandsIn p a → e ≡ lies_at f a → IsPortEnd e → Done d k f s (Out e v)
  at_port (PartEnd i h) e v stands at port = absurd (subst IsPortEnd at port)
  at_port (ImportEnd i h) e v stands at port =
      asks e (ImportEnd i h) v (ap f.inner at ∙ (is.cut.ports (ImportEnd i h) tt stands).1)
  at_port (ResultEnd h) e v stands at port = asks e (ResultEnd h) v (ap f.inner at ∙ (is.cut.ports (ResultEnd h) tt stands).1)

  no_part : (i h : ℕ) (e : End) → e ≡ PartEnd i h → IsPortEnd e → ⊥
  no_part i h e at port = subst IsPortEnd at port

  by_joint : (j : Joint) (e : End) (v : ℕ) → Contains r.joints j → stands_in e j ≡ true → IsPortEnd e → Done d k f s (Out e v)
  by_joint j e v has stands port = by_kind (which_end e j stands) (is.joints j.asking j.serving has)
    where
      by_kind : (e ≡ j.asking) ⊎ (e ≡ j.serving)
          → IsJointOf f p j.asking j.serving
          ⊎ (((j.asking ≡ ResultEnd 0) × (j.serving ≡ PartEnd d 2)) ⊎ ((j.asking ≡ PartEnd d 1) × (j.serving ≡ ImportEnd k 1)))
          → Done d k f s (Out e v)
      by_kind (inl at) (inl (a, b, has, first, second)) =
          at_port a e v (joint a b, has, asking_stands (joint a b)) (at ∙ sym first) port
      by_kind (inr at) (inl (a, b, has, first, second)) =
          at_port b e v (joint a b, has, serving_stands (joint a b)) (at ∙ sym second) port
      by_kind (inl at) (inr (inl h)) = subst (λ (x : End). Done d k f s (Out x v)) (sym (at ∙ h.0)) (answers v)
      by_kind (inr at) (inr (inl h)) = absurd (no_part d 2 e (at ∙ h.1) port)
      by_kind (inl at) (inr (inr h)) = absurd (no_part d 1 e (at ∙ h.0) port)
      by_kind (inr at) (inr (inr h)) = subst (λ (x : End). Done d k f s (Out x v)) (sym (at ∙ h.1)) (writes v)

  by_place : (e : End) (v : ℕ) (way : Direction) (o : Option End) → places_of r e ≡ o → token_at r s e way ≡ Some v → IsPortEnd e → Done d k f s (Out e v)
  by_place e v way None none held port = absurd (none-some v (ap (held_at s way) (sym none) ∙ held))
  by_place e v way (Some a) named held port =
      let at = found r.joints e a named in by_joint at.joint e v (listed r.joints at.joint at.is_in) at.stands port

  by_contact : (e : End) (v : ℕ) (o : Option Contact) → Passes r (Out e v) o s t → IsPortEnd e → Done d k f s (Out e v)
  by_contact e v None h port = absurd h
  by_contact e v (Some c) h port = by_place e v (way_taken c.role) (places_of r e) refl h.0 port

pub elements_of_writes : ElementsOfWrites
elements_of_writes d k w x f r p (Fire i slot) s t is does = fired d k w x f r p is s t i slot does
elements_of_writes d k w x f r p (Out e v) s t is does = by_contact d k w x f r p is s t e v (contact_at r e) does.1 does.0
elements_of_writes d k w x f r p (In e v) s t is does = comes e v
