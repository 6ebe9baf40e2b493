-- The plan behind the Share is a region of the whole: where its ends lie there.
use Rattle.std.specs.Prelude.{◌≡◌, ℕ, ◌<◌, Bool, true, false, List, [], ◌∷◌, ◌⊎◌, length, Option, Some, None, slice_get, nat_eq, nat_lt, Contains}
use Rattle.std.proofs.Common.{refl, sym, ◌∙◌, ap, subst, arith, inl, inr, if◌then◌else◌}
use Rattle.std.proofs.lemmas.Bool.Decides.{nat_tests}
use Rattle.std.proofs.lemmas.Option.{slice_get_within}
use Rattle.gos_types.specs.declared.shakes.Role.{Role}
use Rattle.gos_types.specs.declared.shakes.Role.TheVariants.{Serve, Ask}
use Rattle.gos_types.specs.Types.{Type'}
use Rattle.gos_types.proofs.ListLemmas.{element_at}
use Rattle.gos_plan.specs.Kinds.{Part, Contact, asks, serves, contacts_of}
use Rattle.gos_plan.specs.Plans.{End, PartEnd, ImportEnd, ResultEnd, Joint, Plan, contact_at, stands_in, is_free}
use Rattle.gos_plan.specs.Tokens.{places_of, IsPortEnd}
use Rattle.gos_plan.proofs.JointLemmas.{IsIn, found, fits, has_place, stands_there, contained, which_end, stands_somewhere}
use Rattle.gos_joining.specs.webs.Webs.{joint}
use Rattle.gos_joining.specs.webs.Cutting.{Cut, IsCut, IsInside, IsOutside, StandsIn, lies_at}
use Rattle.gos_joining.proofs.webs.CutLemmas.{stands_by}
use Rattle.gos_joining.proofs.webs.MovedLemmas.{listed}
use Rattle.gos_sharing.specs.sharing.Sharing.{caller_end}
use Rattle.gos_sharing.specs.buffers.Buffering.{end_behind}
use Rattle.gos_sharing.proofs.behind.EndLemmas.{Owned, asker, server, outer_is, own_part, not_share, owned_contact, contact_behind, behind_one, not_asker, not_server}
use Rattle.gos_sharing.specs.behind.Behind.{outer_joint, IsBehind}

-- the port at an end that leads there, if it stands in a joint
abbrev unless : Bool → End → Option End
unless true e = None
unless false e = Some e

abbrev inner_of : ℕ → Plan → End → Option End
inner_of i p (PartEnd k h) = if nat_eq k i then unless (is_free (ResultEnd h) p.joints) (ResultEnd h) else None
inner_of i p (ImportEnd k h) = unless (is_free (ImportEnd k h) p.joints) (ImportEnd k h)
inner_of i p (ResultEnd h) = None

-- how the plan lies in the whole
abbrev pub lying : ℕ → Plan → Cut
lying i p =
    record {
      part = λ k. k;
      number = λ k. if nat_lt k (length p.parts) then Some k else None;
      outer = end_behind i;
      inner = inner_of i p;
    }

pub lies_behind : (i : ℕ) (p : Plan) (e : End) → lies_at (lying i p) e ≡ end_behind i e
lies_behind i p (PartEnd k h) = refl
lies_behind i p (ImportEnd k h) = refl
lies_behind i p (ResultEnd h) = refl

unless_is : (b : Bool) (e d : End) → unless b e ≡ Some d → (b ≡ false) × (e ≡ d)
unless_is true e d h = absurd (cc h)
unless_is false e d h = (refl, cc h)

stands_not_free : (p : Plan) (e : End) → StandsIn p e → is_free e p.joints ≡ false
stands_not_free p e (j, has, stands) = by_test (is_free e p.joints) refl
  where
    free_is : (js : List Joint) → IsIn j js → is_free e js ≡ true → ⊥
    free_is [] h free = absurd h
    free_is (x ∷ xs) (inl same) free =
        let here : stands_in e x ≡ true = subst (λ (y : Joint). stands_in e y ≡ true) same stands in grind (arith, here, free)
    free_is (x ∷ xs) (inr later) free = free_is xs later (grind (arith, free))

    by_test : (b : Bool) → is_free e p.joints ≡ b → b ≡ false
    by_test false h = refl
    by_test true h = absurd (free_is p.joints (contained p.joints j has) h)

module _ (i : ℕ) (t : Type') (c : ℕ) (r p : Plan) (is : IsBehind i t c r p) where
  abbrev behind : End → End
  behind = end_behind i

  -- joints
  pub inner_joint : (d e : End) → IsIn (joint d e) p.joints → IsIn (joint (behind d) (behind e)) r.joints
  inner_joint d e here = contained r.joints (joint (behind d) (behind e)) ((is.joints (behind d) (behind e)).1 (inl (d, e, listed p.joints (joint d e) here, refl, refl)))

  outer_in : (j : ℕ) (k : Contact) → slice_get (contacts_of t) j ≡ Some k → IsIn (joint (asker i t c j k.role) (server i t c j k.role)) r.joints
  outer_in j k at =
      contained r.joints (joint (asker i t c j k.role) (server i t c j k.role))
      ((is.joints (asker i t c j k.role) (server i t c j k.role)).1 (inr (j, k, at, sym (outer_is i t c j k.role))))

  -- where an end of the whole that stands in a joint comes from
  pub data From (e : End) : Type 0 where
    of_inner : (d : End) → Owned t p d → StandsIn p d → e ≡ behind d → From e
    of_asker : (j : ℕ) (k : Contact) → slice_get (contacts_of t) j ≡ Some k → e ≡ asker i t c j k.role → From e
    of_server : (j : ℕ) (k : Contact) → slice_get (contacts_of t) j ≡ Some k → e ≡ server i t c j k.role → From e

  pub from_joint : (j : Joint) (e : End) → IsIn j r.joints → stands_in e j ≡ true → From e
  from_joint j e is_in stands = of_joint ((is.joints j.asking j.serving).0 (listed r.joints j is_in))
    where
      of_joint : ((d : End) × (f : End) × Contains p.joints (joint d f) × (j.asking ≡ behind d) × (j.serving ≡ behind f))
          ⊎ ((n : ℕ) × (k : Contact) × (slice_get (contacts_of t) n ≡ Some k) × (joint j.asking j.serving ≡ outer_joint i t c n k.role))
          → From e
      of_joint (inl (d, f, has, at_d, at_f)) =
          let fit = fits p [] p.joints (joint d f) is.also_right (contained p.joints (joint d f) has) in
          elim (which_end e j stands) [
            | inl one ↦ of_inner d (owned_contact i t c r p is.frame d (asks fit.0 fit.1) fit.2) (joint d f, has, stands_by d (joint d f) (inl refl)) (one ∙ at_d)
            | inr one ↦ of_inner f (owned_contact i t c r p is.frame f (serves fit.0 fit.1) fit.3) (joint d f, has, stands_by f (joint d f) (inr refl)) (one ∙ at_f)
          ]
      of_joint (inr (n, k, at, same)) =
          let is_joint = same ∙ outer_is i t c n k.role in
          elim (which_end e j stands) [
            | inl one ↦ of_asker n k at (one ∙ ap (λ (x : Joint). x.asking) is_joint)
            | inr one ↦ of_server n k at (one ∙ ap (λ (x : Joint). x.serving) is_joint)
          ]

  pub from_place : (e a : End) → places_of r e ≡ Some a → From e
  from_place e a there = let f = found r.joints e a there in from_joint f.joint e f.is_in f.stands

  -- places
  pub place_there : (e a : End) → places_of p e ≡ Some a → places_of r (behind e) ≡ Some (behind a)
  place_there e a there =
      let f = found p.joints e a there in
      stands_there r (joint (behind f.joint.asking) (behind f.joint.serving)) (behind e) is.right (inner_joint f.joint.asking f.joint.serving f.is_in)
      (stands_by (behind e) (joint (behind f.joint.asking) (behind f.joint.serving)) (moved f.joint (which_end e f.joint f.stands)))
      ∙ ap (λ x. Some (behind x)) f.named
    where
      moved : (j : Joint) → (e ≡ j.asking) ⊎ (e ≡ j.serving) → (behind e ≡ behind j.asking) ⊎ (behind e ≡ behind j.serving)
      moved j (inl same) = inl (ap behind same)
      moved j (inr same) = inr (ap behind same)

  pub no_place : (e : End) → Owned t p e → places_of p e ≡ None → places_of r (behind e) ≡ None
  no_place e own none = by_place (places_of r (behind e)) refl
    where
      of_from : From (behind e) → ⊥
      of_from (of_inner d owned (j, has, stands) same) =
          has_place p.joints j e (contained p.joints j has) (subst (λ (x : End). stands_in x j ≡ true) (sym (behind_one i t c r p is.frame e d own owned same)) stands) none
      of_from (of_asker j k at same) = not_asker i t c r p is.frame e j k.role own same
      of_from (of_server j k at same) = not_server i t c r p is.frame e j k.role own same

      by_place : (o : Option End) → places_of r (behind e) ≡ o → o ≡ None
      by_place None n = refl
      by_place (Some a) n = absurd (of_from (from_place (behind e) a n))

  pub asker_place : (j : ℕ) (k : Contact) → slice_get (contacts_of t) j ≡ Some k → places_of r (asker i t c j k.role) ≡ Some (asker i t c j k.role)
  asker_place j k at =
      stands_there r (joint (asker i t c j k.role) (server i t c j k.role)) (asker i t c j k.role) is.right (outer_in j k at)
      (stands_by (asker i t c j k.role) (joint (asker i t c j k.role) (server i t c j k.role)) (inl refl))

  pub server_place : (j : ℕ) (k : Contact) → slice_get (contacts_of t) j ≡ Some k → places_of r (server i t c j k.role) ≡ Some (asker i t c j k.role)
  server_place j k at =
      stands_there r (joint (asker i t c j k.role) (server i t c j k.role)) (server i t c j k.role) is.right (outer_in j k at)
      (stands_by (server i t c j k.role) (joint (asker i t c j k.role) (server i t c j k.role)) (inr refl))

  pub result_place : (j : ℕ) (k : Contact) → slice_get (contacts_of t) j ≡ Some k → places_of r (ResultEnd j) ≡ Some (asker i t c j k.role)
  result_place j k at = by_role k.role (asker_place j k at) (server_place j k at)
    where
      by_role : (role : Role) → places_of r (asker i t c j role) ≡ Some (asker i t c j role) → places_of r (server i t c j role) ≡ Some (asker i t c j role)
          → places_of r (ResultEnd j) ≡ Some (asker i t c j role)
      by_role Serve one other = one
      by_role Ask one other = other

  pub caller_place : (j : ℕ) (k : Contact) → slice_get (contacts_of t) j ≡ Some k → places_of r (caller_end i t c j) ≡ Some (asker i t c j k.role)
  caller_place j k at = by_role k.role (asker_place j k at) (server_place j k at)
    where
      by_role : (role : Role) → places_of r (asker i t c j role) ≡ Some (asker i t c j role) → places_of r (server i t c j role) ≡ Some (asker i t c j role)
          → places_of r (caller_end i t c j) ≡ Some (asker i t c j role)
      by_role Serve one other = other
      by_role Ask one other = one

  -- the plan is a region
  pub within : (k : ℕ) → k < length p.parts → (lying i p).number k ≡ Some k
  within k low = let test : nat_lt k (length p.parts) ≡ true = grind (arith, nat_tests, low) in ap (λ b. if b then Some k else None) test

  number_is : (k j : ℕ) → (lying i p).number k ≡ Some j → (k < length p.parts) × (j ≡ k)
  number_is k j e = by_test (nat_lt k (length p.parts)) refl e
    where
      by_test : (b : Bool) → nat_lt k (length p.parts) ≡ b → (if b then Some k else None) ≡ Some j → (k < length p.parts) × (j ≡ k)
      by_test true test h = let same : k ≡ j = cc h in (grind (arith, nat_tests, test), sym same)
      by_test false test h = absurd (cc h)

  pub share_outside : (lying i p).number i ≡ None
  share_outside =
      let n = is.frame.number in
      let test : nat_lt i (length p.parts) ≡ false = grind (arith, nat_tests, n) in ap (λ b. if b then Some i else None) test

  pub is_cut : IsCut (lying i p) r p
  is_cut =
      record {
        whole_right = is.right;
        right = is.also_right;
        parts = λ k x at. (let low = slice_get_within p.parts k x at in (own_part i t c r p is.frame k low ∙ at, within k low));
        numbers = λ k j e. (let (low, same) = number_is k j e in (same, subst (λ (n : ℕ). (x : Part) × (slice_get p.parts n ≡ Some x)) (sym same) (element_at p.parts k low)));
        ports = ports;
        inners = inners;
        contacts = λ e port stands. (let (k, at) = stands_contact e stands in contact_behind i t c r p is.frame e k at ∙ sym at);
        joints = joints;
        all = all;
      }
    where
      stands_contact : (e : End) → StandsIn p e → (k : Contact) × (contact_at p e ≡ Some k)
      stands_contact e (j, has, stands) =
          let fit = fits p [] p.joints j is.also_right (contained p.joints j has) in
          elim (which_end e j stands) [
            | inl one ↦ (asks fit.0 fit.1, ap (contact_at p) one ∙ fit.2)
            | inr one ↦ (serves fit.0 fit.1, ap (contact_at p) one ∙ fit.3)
          ]

      ports : (e : End) → IsPortEnd e → StandsIn p e → IsOutside (lying i p) (behind e) × (inner_of i p (behind e) ≡ Some e)
      ports (PartEnd k h) port stands = absurd port
      ports (ImportEnd k h) port stands = (tt, ap (λ b. unless b (ImportEnd k h)) (stands_not_free p (ImportEnd k h) stands))
      ports (ResultEnd h) port stands =
          let test : nat_eq i i ≡ true = grind arith in
          (share_outside, ap (λ b. if b then unless (is_free (ResultEnd h) p.joints) (ResultEnd h) else None) test ∙ ap (λ b. unless b (ResultEnd h)) (stands_not_free p (ResultEnd h) stands))

      stood : (e : End) → is_free e p.joints ≡ false → StandsIn p e
      stood e h = let (j, is_in, stands) = stands_somewhere e p.joints h in (j, listed p.joints j is_in, stands)

      inners : (b e : End) → inner_of i p b ≡ Some e → IsPortEnd e × StandsIn p e × (behind e ≡ b)
      inners (PartEnd k h) e at = by_test (nat_eq k i) refl at
        where
          by_test : (x : Bool) → nat_eq k i ≡ x → (if x then unless (is_free (ResultEnd h) p.joints) (ResultEnd h) else None) ≡ Some e
              → IsPortEnd e × StandsIn p e × (behind e ≡ PartEnd k h)
          by_test true test lies =
              let (free, same) = unless_is (is_free (ResultEnd h) p.joints) (ResultEnd h) e lies in
              let number : k ≡ i = grind (arith, test) in
              subst (λ (x : End). IsPortEnd x × StandsIn p x × (behind x ≡ PartEnd k h)) same (tt, stood (ResultEnd h) free, ap (λ n. PartEnd n h) (sym number))
          by_test false test lies = absurd (cc lies)
      inners (ImportEnd k h) e at =
          let (free, same) = unless_is (is_free (ImportEnd k h) p.joints) (ImportEnd k h) e at in
          subst (λ (x : End). IsPortEnd x × StandsIn p x × (behind x ≡ ImportEnd k h)) same (tt, stood (ImportEnd k h) free, refl)
      inners (ResultEnd h) e at = absurd (cc at)

      joints : (a b : End) → Contains p.joints (joint a b) → Contains r.joints (joint (lies_at (lying i p) a) (lies_at (lying i p) b))
      joints a b has =
          subst (λ (x : End). Contains r.joints (joint x (lies_at (lying i p) b))) (sym (lies_behind i p a))
          (subst (λ (y : End). Contains r.joints (joint (behind a) y)) (sym (lies_behind i p b)) ((is.joints (behind a) (behind b)).1 (inl (a, b, has, refl, refl))))

      inside : (e : End) → IsInside (lying i p) e → ((role : Role) (j : ℕ) → e ≡ asker i t c j role → ⊥)
      inside (PartEnd k h) (n, at) Serve j e = cc e
      inside (PartEnd k h) (n, at) Ask j e =
          let (low, same) = number_is k n at in let part : k ≡ i = cc e in not_share i t c r p is.frame k low part
      inside (ImportEnd k h) none role j e = absurd none
      inside (ResultEnd h) none role j e = absurd none

      not_inside : (e : End) → IsInside (lying i p) e → ((role : Role) (j : ℕ) → e ≡ server i t c j role → ⊥)
      not_inside e here Serve j same = inside e here Ask j same
      not_inside e here Ask j same = inside e here Serve j same

      all : (a b : End) → Contains r.joints (joint a b) → IsInside (lying i p) a ⊎ IsInside (lying i p) b
          → (d e : End) × Contains p.joints (joint d e) × (lies_at (lying i p) d ≡ a) × (lies_at (lying i p) e ≡ b)
      all a b has side = of_joint ((is.joints a b).0 has) side
        where
          of_joint : ((d : End) × (e : End) × Contains p.joints (joint d e) × (a ≡ behind d) × (b ≡ behind e))
              ⊎ ((j : ℕ) × (k : Contact) × (slice_get (contacts_of t) j ≡ Some k) × (joint a b ≡ outer_joint i t c j k.role))
              → IsInside (lying i p) a ⊎ IsInside (lying i p) b
              → (d e : End) × Contains p.joints (joint d e) × (lies_at (lying i p) d ≡ a) × (lies_at (lying i p) e ≡ b)
          of_joint (inl (d, e, here, at_d, at_e)) side = (d, e, here, lies_behind i p d ∙ sym at_d, lies_behind i p e ∙ sym at_e)
          of_joint (inr (j, k, at, same)) (inl one) = absurd (inside a one k.role j (ap (λ (x : Joint). x.asking) (same ∙ outer_is i t c j k.role)))
          of_joint (inr (j, k, at, same)) (inr one) = absurd (not_inside b one k.role j (ap (λ (x : Joint). x.serving) (same ∙ outer_is i t c j k.role)))
