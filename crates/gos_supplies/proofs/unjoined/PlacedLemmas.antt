-- Ends of a plan that stands beside loose parts, and their places.
--
-- The proofs take numbers so that each part that isn't there has a number that isn't there either (`IsPlaced`). Then no two
-- ends of the plan stand in one.
use Rattle.std.specs.Prelude.{◌≡◌, ℕ, Bool, true, false, ◌⊎◌, Option, Some, None, nat_eq, Contains, slice_get}
use Rattle.std.proofs.Common.{refl, sym, ◌∙◌, ap, subst, arith, inl, inr}
use Rattle.gos_types.proofs.BoolLemmas.{same_tests}
use Rattle.gos_plan.specs.Kinds.{contacts_of}
use Rattle.gos_plan.specs.Plans.{End, PartEnd, ImportEnd, ResultEnd, Joint, Plan, IsRight, contact_at, contacts_of_part, contacts_of_import, turned_if, same_end, stands_in}
use Rattle.gos_plan.specs.Tokens.{IsPortEnd, places_of}
use Rattle.gos_plan.proofs.JointLemmas.{same_itself, same_is, Found, found, has_place, stands_there, contained}
use Rattle.gos_joining.specs.webs.Webs.{joint}
use Rattle.gos_joining.proofs.webs.MovedLemmas.{listed}
use Rattle.gos_supplies.specs.unjoined.Beside.{Placing, placed, IsOwn}

-- the end of the plan that stands at an end of the whole, if one does
abbrev pub part_if : Option ℕ → ℕ → Option End
part_if None h = None
part_if (Some i) h = Some (PartEnd i h)

abbrev pub import_if : Option ℕ → ℕ → Option End
import_if None h = None
import_if (Some i) h = Some (ImportEnd i h)

abbrev pub end_in : Placing → End → Option End
end_in f (PartEnd i h) = part_if (f.number i) h
end_in f (ImportEnd i h) = import_if (f.import_number i) h
end_in f (ResultEnd h) = Some (ResultEnd h)

-- both ends are loose
abbrev pub AreLoose : Placing → End → End → Type 0
AreLoose f a b = (end_in f a ≡ None) × (end_in f b ≡ None)

pub record IsPlaced (f : Placing) (r c : Plan) : Type 0 where
  pub whole_right : IsRight r
  pub right : IsRight c
  pub outcome : r.outcome ≡ c.outcome
  pub parts : (i : ℕ) → slice_get r.parts (f.part i) ≡ slice_get c.parts i
  pub part_number : (i : ℕ) → f.number (f.part i) ≡ Some i
  pub number_part : (i j : ℕ) → f.number i ≡ Some j → f.part j ≡ i
  pub imports : (i : ℕ) → slice_get r.imports (f.import i) ≡ slice_get c.imports i
  pub import_number : (i : ℕ) → f.import_number (f.import i) ≡ Some i
  pub number_import : (i j : ℕ) → f.import_number i ≡ Some j → f.import j ≡ i
  pub joints : (a b : End) → Contains c.joints (joint a b) → Contains r.joints (joint (placed f a) (placed f b))
  pub all : (a b : End) → Contains r.joints (joint a b) → IsOwn f c a b ⊎ AreLoose f a b

-- where numbers come from the parts and imports that have them
pub own_end : (f : Placing) → ((i j : ℕ) → f.number i ≡ Some j → f.part j ≡ i) → ((i j : ℕ) → f.import_number i ≡ Some j → f.import j ≡ i)
    → (e d : End) → end_in f e ≡ Some d → placed f d ≡ e
own_end f part import (PartEnd i h) d own = by_number (f.number i) refl own
  where
    by_number : (o : Option ℕ) → f.number i ≡ o → part_if o h ≡ Some d → placed f d ≡ PartEnd i h
    by_number None none e = absurd (cc e)
    by_number (Some j) at e =
        let same : PartEnd j h ≡ d = cc e in ap (placed f) (sym same) ∙ ap (λ (k : ℕ). PartEnd k h) (part i j at)
own_end f part import (ImportEnd i h) d own = by_number (f.import_number i) refl own
  where
    by_number : (o : Option ℕ) → f.import_number i ≡ o → import_if o h ≡ Some d → placed f d ≡ ImportEnd i h
    by_number None none e = absurd (cc e)
    by_number (Some j) at e =
        let same : ImportEnd j h ≡ d = cc e in ap (placed f) (sym same) ∙ ap (λ (k : ℕ). ImportEnd k h) (import i j at)
own_end f part import (ResultEnd h) d own = let same : ResultEnd h ≡ d = cc own in ap (placed f) (sym same)

-- where the end that names a place stands
abbrev pub placed_if : Placing → Option End → Option End
placed_if f None = None
placed_if f (Some e) = Some (placed f e)

none_some : {A : Type 0} (x : A) (o : Option A) → o ≡ None → o ≡ Some x → ⊥
none_some x o e g = let both : None ≡ Some x = sym e ∙ g in cc both

module _ (f : Placing) (r c : Plan) (is : IsPlaced f r c) where
  pub in_placed : (e : End) → end_in f (placed f e) ≡ Some e
  in_placed (PartEnd i h) = ap (λ (o : Option ℕ). part_if o h) (is.part_number i)
  in_placed (ImportEnd i h) = ap (λ (o : Option ℕ). import_if o h) (is.import_number i)
  in_placed (ResultEnd h) = refl

  pub placed_in : (e d : End) → end_in f e ≡ Some d → placed f d ≡ e
  placed_in e d own = own_end f is.number_part is.number_import e d own

  -- no two ends stand in one
  pub one_end : (a b : End) → placed f a ≡ placed f b → a ≡ b
  one_end a b e =
      let both : Some a ≡ Some b = sym (in_placed a) ∙ (ap (end_in f) e ∙ in_placed b) in cc both

  pub same_placed : (a b : End) → same_end (placed f a) (placed f b) ≡ same_end a b
  same_placed a b = same_tests (same_end (placed f a) (placed f b)) (same_end a b) to from
    where
      to : same_end (placed f a) (placed f b) ≡ true → same_end a b ≡ true
      to t =
          let e = one_end a b (same_is (placed f a) (placed f b) t) in
          subst (λ (x : End). same_end a x ≡ true) e (same_itself a)

      from : same_end a b ≡ true → same_end (placed f a) (placed f b) ≡ true
      from t = subst (λ (x : End). same_end (placed f a) (placed f x) ≡ true) (same_is a b t) (same_itself (placed f a))

  -- a loose end is none of the plan's
  pub loose_apart : (e a : End) → end_in f e ≡ None → e ≡ placed f a → ⊥
  loose_apart e a loose same = none_some a (end_in f e) loose (ap (end_in f) same ∙ in_placed a)

  pub loose_other : (e a : End) → end_in f e ≡ None → same_end e (placed f a) ≡ false
  loose_other e a loose = by_test (same_end e (placed f a)) refl
    where
      by_test : (b : Bool) → same_end e (placed f a) ≡ b → b ≡ false
      by_test true t = absurd (loose_apart e a loose (same_is e (placed f a) t))
      by_test false t = refl

  pub other_loose : (e a : End) → end_in f e ≡ None → same_end (placed f a) e ≡ false
  other_loose e a loose = by_test (same_end (placed f a) e) refl
    where
      by_test : (b : Bool) → same_end (placed f a) e ≡ b → b ≡ false
      by_test true t = absurd (loose_apart e a loose (sym (same_is (placed f a) e t)))
      by_test false t = refl

  -- parts by their numbers
  pub same_number : (j i : ℕ) → nat_eq (f.part j) (f.part i) ≡ nat_eq j i
  same_number j i = same_tests (nat_eq (f.part j) (f.part i)) (nat_eq j i) to from
    where
      to : nat_eq (f.part j) (f.part i) ≡ true → nat_eq j i ≡ true
      to t =
          let same : f.part j ≡ f.part i = grind (arith, t) in
          let both : Some j ≡ Some i = sym (is.part_number j) ∙ (ap f.number same ∙ is.part_number i) in
          let one : j ≡ i = cc both in grind (arith, one)

      from : nat_eq j i ≡ true → nat_eq (f.part j) (f.part i) ≡ true
      from t =
          let one : j ≡ i = grind (arith, t) in
          let same : f.part j ≡ f.part i = ap f.part one in grind (arith, same)

  pub other_number : (j i : ℕ) → f.number j ≡ None → nat_eq j (f.part i) ≡ false
  other_number j i loose = by_test (nat_eq j (f.part i)) refl
    where
      by_test : (b : Bool) → nat_eq j (f.part i) ≡ b → b ≡ false
      by_test true t =
          let same : j ≡ f.part i = grind (arith, t) in
          absurd (none_some i (f.number j) loose (ap f.number same ∙ is.part_number i))
      by_test false t = refl

  pub contact_placed : (e : End) → contact_at r (placed f e) ≡ contact_at c e
  contact_placed (PartEnd i h) = ap (λ k. slice_get (contacts_of_part k) h) (is.parts i)
  contact_placed (ImportEnd i h) = ap (λ k. slice_get (contacts_of_import k) h) (is.imports i)
  contact_placed (ResultEnd h) = ap (λ t. turned_if (slice_get (contacts_of t) h)) is.outcome

  pub port_placed : (e : End) → IsPortEnd (placed f e) → IsPortEnd e
  port_placed (PartEnd i h) port = port
  port_placed (ImportEnd i h) port = port
  port_placed (ResultEnd h) port = port

  pub placed_port : (e : End) → IsPortEnd e → IsPortEnd (placed f e)
  placed_port (PartEnd i h) port = port
  placed_port (ImportEnd i h) port = port
  placed_port (ResultEnd h) port = port

  -- places
  stands_placed : (e : End) (j : Joint) → stands_in e j ≡ true → stands_in (placed f e) (joint (placed f j.asking) (placed f j.serving)) ≡ true
  stands_placed e j h =
      let a = same_placed e j.asking in let b = same_placed e j.serving in grind (arith, a, b, h)

  place_there : (e a : End) → places_of c e ≡ Some a → places_of r (placed f e) ≡ Some (placed f a)
  place_there e a h =
      let at = found c.joints e a h in
      stands_there r (joint (placed f at.joint.asking) (placed f at.joint.serving)) (placed f e) is.whole_right
      (contained r.joints (joint (placed f at.joint.asking) (placed f at.joint.serving))
      (is.joints at.joint.asking at.joint.serving (listed c.joints at.joint at.is_in)))
      (stands_placed e at.joint at.stands)
      ∙ ap (λ (x : End). Some (placed f x)) at.named

  -- where the plan has no place for an end, the whole has none
  no_place : (e a b : End) → places_of c e ≡ None → Contains r.joints (joint a b) → stands_in (placed f e) (joint a b) ≡ true → ⊥
  no_place e a b none has stands = by_sort (is.all a b has)
    where
      by_sort : IsOwn f c a b ⊎ AreLoose f a b → ⊥
      by_sort (inl (d, g, own, at_d, at_g)) =
          let one : same_end (placed f e) a ≡ same_end e d =
          ap (λ (x : End). same_end (placed f e) x) (sym at_d) ∙ same_placed e d
          in
          let other : same_end (placed f e) b ≡ same_end e g =
          ap (λ (x : End). same_end (placed f e) x) (sym at_g) ∙ same_placed e g
          in
          let here : stands_in e (joint d g) ≡ true = grind (arith, one, other, stands) in
          has_place c.joints (joint d g) e (contained c.joints (joint d g) own) here none
      by_sort (inr (loose_a, loose_b)) =
          let one = other_loose a e loose_a in let other = other_loose b e loose_b in grind (arith, one, other, stands)

  pub place_placed : (e : End) → places_of r (placed f e) ≡ placed_if f (places_of c e)
  place_placed e = by_place (places_of c e) refl
    where
      none_there : places_of c e ≡ None → (o : Option End) → places_of r (placed f e) ≡ o → o ≡ None
      none_there none None h = refl
      none_there none (Some b) h =
          let at = found r.joints (placed f e) b h in
          absurd (no_place e at.joint.asking at.joint.serving none (listed r.joints at.joint at.is_in) at.stands)

      by_place : (o : Option End) → places_of c e ≡ o → places_of r (placed f e) ≡ placed_if f (places_of c e)
      by_place None h = none_there h (places_of r (placed f e)) refl ∙ ap (placed_if f) (sym h)
      by_place (Some a) h = place_there e a h ∙ ap (placed_if f) (sym h)

  -- the place of a loose end is a loose end's
  pub loose_place : (e a : End) → end_in f e ≡ None → places_of r e ≡ Some a → end_in f a ≡ None
  loose_place e a loose h = by_sort (is.all at.joint.asking at.joint.serving (listed r.joints at.joint at.is_in))
    where
      at : Found r.joints e a
      at = found r.joints e a h

      by_sort : IsOwn f c at.joint.asking at.joint.serving ⊎ AreLoose f at.joint.asking at.joint.serving → end_in f a ≡ None
      by_sort (inl (d, g, own, at_d, at_g)) =
          let one : same_end e at.joint.asking ≡ false = ap (λ (x : End). same_end e x) (sym at_d) ∙ loose_other e d loose in
          let other : same_end e at.joint.serving ≡ false = ap (λ (x : End). same_end e x) (sym at_g) ∙ loose_other e g loose in
          let stands = at.stands in absurd (grind (arith, one, other, stands))
      by_sort (inr (loose_a, loose_b)) = ap (end_in f) (sym at.named) ∙ loose_a
