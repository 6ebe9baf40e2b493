-- A side of a plan of a product has the joints of the plan between the ends that it has.
use Rattle.std.specs.Prelude.{◌≡◌, ℕ, zero, suc, ◌+◌, ◌-◌, Bool, true, [], ◌∷◌, ◌++◌, length, map, Option, Some, None, slice_get, nat_lt, Contains, if◌then◌else◌}
use Rattle.std.proofs.Common.{refl, sym, ◌∙◌, ap, subst, arith, inl}
use Rattle.std.proofs.lemmas.Bool.Decides.{nat_tests}
use Rattle.std.proofs.lemmas.Option.{slice_get_within}
use Rattle.std.proofs.lemmas.List.{append-nil}
use Rattle.gos_types.specs.Types.{Type'}
use Rattle.gos_plan.specs.Kinds.{Contact, asks, serves, contacts_of, turned_contact}
use Rattle.gos_plan.specs.Plans.{End, PartEnd, ImportEnd, ResultEnd, Plan, contact_at, contacts_of_part, contacts_of_import, turned_if}
use Rattle.gos_plan.specs.Joining.{Place, place, Wiring, all_left, left_place, part_place, origin, Linked}
use Rattle.gos_plan.proofs.JointLemmas.{IsIn, listed, contained}
use Rattle.gos_plan.proofs.ContactLemmas.{part_is_there, import_is_there}
use Rattle.gos_realises.specs.realises.Links.{IsJoined}
use Rattle.gos_realises.specs.realises.Wirings.{side}
use Rattle.gos_realises.proofs.realises.LeftLemmas.{left_list, left_all, imports_left, left_at}
use Rattle.gos_joining.specs.webs.Webs.{joint}
use Rattle.gos_supplies.proofs.turns.TrailLemmas.{LinksArePorts, Trail}
use Rattle.gos_supplies.proofs.turns.FollowLemmas.{joint_trail}

pub turned_is : (o : Option Contact) (k : Contact) → turned_if o ≡ Some k → (d : Contact) × (o ≡ Some d) × (turned_contact d ≡ k)
turned_is None k e = absurd (cc e)
turned_is (Some d) k e = (d, refl, cc e)

-- where an end of the side stands in the plan
abbrev pub up : ℕ → End → End
up n (PartEnd i h) = PartEnd i h
up n (ImportEnd i h) = ImportEnd i h
up n (ResultEnd h) = ResultEnd (n + h)

module _ (s : Type') (n : ℕ) (q r : Plan) (joined : IsJoined (side n s q) r) where
  abbrev w : Wiring
  w = side n s q

  pub no_link : (c d : Place) → Linked (side n s q) c d → ⊥
  no_link c d (l, (k, small, is), ways) = omega (arith, small)

  pub no_ports : LinksArePorts (side n s q)
  no_ports l (k, small, is) = absurd (omega (arith, small))

  pub parts_so : r.parts ≡ q.parts
  parts_so = joined.joining.parts ∙ append-nil q.parts

  lefts : all_left (side n s q) ≡ left_list 0 0 q.imports ++ []
  lefts = ap (λ l. l ++ []) (left_all [] 0 (λ j. refl) 0 q.imports)

  pub imports_so : r.imports ≡ q.imports
  imports_so = joined.joining.imports ∙ (ap (map (λ l. l.import)) lefts ∙ imports_left 0 0 q.imports)

  pub origin_so : (e : End) (k : Contact) → contact_at r e ≡ Some k → origin (side n s q) e ≡ place 0 (up n e)
  origin_so (ResultEnd h) k there = refl
  origin_so (ImportEnd i h) k there =
      let (y, at_y) = import_is_there (slice_get r.imports i) h k there in
      let at_q : slice_get q.imports i ≡ Some y = ap (λ js. slice_get js i) (sym imports_so) ∙ at_y in
      let e : 0 + i ≡ i = omega arith in
      ap (λ o. left_place o h) (ap (λ l. slice_get l i) lefts ∙ left_at 0 0 q.imports i y at_q) ∙ ap (λ (j : ℕ). place 0 (ImportEnd j h)) e
  origin_so (PartEnd i h) k there =
      let (part, at_part) = part_is_there (slice_get r.parts i) h k there in
      let low = slice_get_within q.parts i part (ap (λ ks. slice_get ks i) (sym parts_so) ∙ at_part) in
      let test : nat_lt i (length q.parts) ≡ true = grind (arith, nat_tests, low) in
      ap (λ (b : Bool). if b then place 0 (PartEnd i h) else part_place 1 [] (i - length q.parts) h) test

  -- handshakes
  pub contact_up : (e : End) (k : Contact) → contact_at r e ≡ Some k → contact_at q (up n e) ≡ Some k
  contact_up (PartEnd i h) k there = ap (λ ks. slice_get (contacts_of_part (slice_get ks i)) h) (sym parts_so) ∙ there
  contact_up (ImportEnd i h) k there = ap (λ js. slice_get (contacts_of_import (slice_get js i)) h) (sym imports_so) ∙ there
  contact_up (ResultEnd h) k there =
      let (d, at_d, same) = turned_is (slice_get (contacts_of s) h) k (ap (λ (t : Type'). turned_if (slice_get (contacts_of t) h)) (sym joined.joining.outcome) ∙ there) in
      ap turned_if (joined.joining.result h d at_d) ∙ ap Some same

  pub result_down : (h : ℕ) (d : Contact) → slice_get (contacts_of s) h ≡ Some d → contact_at r (ResultEnd h) ≡ Some (turned_contact d)
  result_down h d at_d = ap (λ (t : Type'). turned_if (slice_get (contacts_of t) h)) joined.joining.outcome ∙ ap turned_if at_d

  pub result_there : (h : ℕ) (k : Contact) → contact_at r (ResultEnd h) ≡ Some k → (d : Contact) × (slice_get (contacts_of s) h ≡ Some d)
  result_there h k there =
      let (d, at_d, same) = turned_is (slice_get (contacts_of s) h) k (ap (λ (t : Type'). turned_if (slice_get (contacts_of t) h)) (sym joined.joining.outcome) ∙ there) in
      (d, at_d)

  pub part_down : (i h : ℕ) (k : Contact) → contact_at q (PartEnd i h) ≡ Some k → contact_at r (PartEnd i h) ≡ Some k
  part_down i h k there = ap (λ ks. slice_get (contacts_of_part (slice_get ks i)) h) parts_so ∙ there

  pub import_down : (i h : ℕ) (k : Contact) → contact_at q (ImportEnd i h) ≡ Some k → contact_at r (ImportEnd i h) ≡ Some k
  import_down i h k there = ap (λ js. slice_get (contacts_of_import (slice_get js i)) h) imports_so ∙ there

  -- joints
  pub joint_down : (a b : End) (o v : ℕ) → contact_at r a ≡ Some (asks o v) → contact_at r b ≡ Some (serves o v) → Contains q.joints (joint (up n a) (up n b))
      → Contains r.joints (joint a b)
  joint_down a b o v at_a at_b has =
      (joined.joining.joints a b).1 (
        o,
        v,
        1,
        at_a,
        at_b,
        (
          place 0 (up n b),
          inl (q, joint (up n a) (up n b), ap (λ (l : Place). l.plan) (origin_so a (asks o v) at_a), first, has, inl (ap (λ (l : Place). l.end) (origin_so a (asks o v) at_a), refl)),
          sym (origin_so b (serves o v) at_b),
        ),
      )
    where
      first : slice_get (q ∷ []) (origin (side n s q) a).plan ≡ Some q
      first = ap (λ (l : Place). slice_get (q ∷ []) l.plan) (origin_so a (asks o v) at_a)

  pub trail_is : (k : ℕ) (a d : Place) → Trail (side n s q) k a d → a ≡ d
  trail_is zero a d same = same
  trail_is (suc k) a d (b, e, rest, seg, linked, asks) = absurd (no_link (place b.plan e) d linked)

  pub joint_up : (a b : End) → Contains r.joints (joint a b) → Contains q.joints (joint (up n a) (up n b))
  joint_up a b has =
      let ((c, at_a, role_a), (d, at_b, role_b), (k, l, e, trail, (p, is_p, is_in), at_l)) = joint_trail (side n s q) r joined.fits no_ports joined.joining a b (contained r.joints (joint a b) has) in
      let first : place 0 (up n a) ≡ l = sym (origin_so a c at_a) ∙ trail_is k (origin (side n s q) a) l trail in
      let last : place 0 (up n b) ≡ place l.plan e = sym (origin_so b d at_b) ∙ at_l in
      let is_q : q ≡ p = (let one : Some q ≡ Some p = ap (λ (y : Place). slice_get (q ∷ []) y.plan) first ∙ is_p in cc one) in
      let end_a : l.end ≡ up n a = ap (λ (y : Place). y.end) (sym first) in
      let end_b : e ≡ up n b = ap (λ (y : Place). y.end) (sym last) in
      listed q.joints (joint (up n a) (up n b)) (subst (λ (X : Type 0). X) (λ z. IsIn (joint (end_a z) (end_b z)) (sym is_q z).joints) is_in)
