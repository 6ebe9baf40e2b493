-- Values that were made from a module are its plan, and it has no other.
use Rattle.std.specs.Prelude.{◌≡◌, ◌↔◌, ℕ, List, map, slice_get}
use Rattle.std.proofs.Common.{ap, sym, ◌∙◌, subst}
use Rattle.gos_types.specs.Types.{Type', type_of}
use Rattle.gos_model.specs.Typing.{Imports}
use Rattle.gos_check.specs.Nodes.{Numbered}
use Rattle.gos_plan.specs.Kinds.{Part, contacts_of}
use Rattle.gos_plan.specs.Plans.{End, PartEnd, ImportEnd, ResultEnd, Joint, Plan, contact_at, contacts_of_part, contacts_of_import, turned_if, IsRight}
use Rattle.gos_plan.specs.Seen.{SeenPlan, import_of, part_of, plan_of}
use Rattle.gos_ties.specs.declared.points.Tie.{Tie}
use Rattle.gos_ties.specs.Ties.{at, Connects, Has, joint}
use Rattle.gos_ties.specs.Order.{points_of, position_in, AreInOrder}
use Rattle.gos_ties.proofs.OrderLemmas.{one_order}
use Rattle.gos_compile.specs.Wiring.{all_parts, all_ties, IsPlanOf, PlanIsOne}

pub is_plan : (is : Imports) (t : Type') (w : ℕ) (m : Numbered) (s : SeenPlan) (ts : List Tie)
    → map import_of s.imports ≡ is → type_of s.outcome ≡ t → s.weight ≡ w → map part_of s.parts ≡ all_parts is m → IsRight (plan_of s)
    → ts ≡ all_ties is m → ((a b : End) → Has (plan_of s).joints (joint a b) ↔ Connects ts (plan_of s) a b) → AreInOrder ts (plan_of s).joints
    → IsPlanOf is t w m (plan_of s)
is_plan is t w m s ts imports outcome weight parts right ties joints order =
    record {
      imports = imports;
      outcome = outcome;
      weight = weight;
      parts = parts;
      right = right;
      joints = subst (λ (us : List Tie). (a b : End) → Has (plan_of s).joints (joint a b) ↔ Connects us (plan_of s) a b) ties joints;
      order = subst (λ (us : List Tie). AreInOrder us (plan_of s).joints) ties order;
    }

-- plans of the same parts, imports and result have the same handshakes, and so ties connect the same ends
record AreAlike (p q : Plan) : Type 0 where
  parts : p.parts ≡ q.parts
  imports : p.imports ≡ q.imports
  outcome : p.outcome ≡ q.outcome

alike_contact : (p q : Plan) → AreAlike p q → (e : End) → contact_at p e ≡ contact_at q e
alike_contact p q alike (PartEnd i h) = ap (λ (ks : List Part). slice_get (contacts_of_part (slice_get ks i)) h) alike.parts
alike_contact p q alike (ImportEnd i h) = ap (λ (is : Imports). slice_get (contacts_of_import (slice_get is i)) h) alike.imports
alike_contact p q alike (ResultEnd h) = ap (λ (t : Type'). turned_if (slice_get (contacts_of t) h)) alike.outcome

alike_connects : (ts : List Tie) (p q : Plan) → AreAlike p q → (a b : End) → Connects ts p a b → Connects ts q a b
alike_connects ts p q alike a b (n, v, one, other, path) =
    (n, v, sym (alike_contact p q alike a) ∙ one, sym (alike_contact p q alike b) ∙ other, path)

pub plan_is_one : PlanIsOne
plan_is_one is t w m p q one other = λ i.
    record { weight = weight i; imports = imports i; outcome = outcome i; parts = parts i; joints = joints i }
  where
    ts : List Tie
    ts = all_ties is m

    weight : p.weight ≡ q.weight
    weight = one.weight ∙ sym other.weight

    imports : p.imports ≡ q.imports
    imports = one.imports ∙ sym other.imports

    outcome : p.outcome ≡ q.outcome
    outcome = one.outcome ∙ sym other.outcome

    parts : p.parts ≡ q.parts
    parts = one.parts ∙ sym other.parts

    forth : (j : Joint) → Has p.joints j → Has q.joints j
    forth j h =
        (other.joints j.asking j.serving).1
        (alike_connects ts p q (record { parts = parts; imports = imports; outcome = outcome }) j.asking j.serving
        ((one.joints j.asking j.serving).0 h))

    back : (j : Joint) → Has q.joints j → Has p.joints j
    back j h =
        (one.joints j.asking j.serving).1
        (alike_connects ts q p (record { parts = sym parts; imports = sym imports; outcome = sym outcome }) j.asking j.serving
        ((other.joints j.asking j.serving).0 h))

    joints : p.joints ≡ q.joints
    joints = one_order (λ j. position_in (points_of ts) (at j.asking)) 0 0 p.joints q.joints one.order other.order forth back
