-- The plan behind a Share is the joining of that plan with the Share.
use Rattle.std.specs.Prelude.{◌⊎◌, ◌+◌, ◌*◌, ◌<◌, ◌≤◌, ◌||◌, ◌&&◌, None, IsTrue, slice_get, length, nat_eq, nat_lt}
use Rattle.std.proofs.Common.{◌≡◌, ℕ, zero, suc, Bool, true, false, List, [], ◌∷◌, ◌++◌, Option, Some, Contains, inl, inr, refl, sym, ◌∙◌, ap, subst, arith}
use Rattle.std.proofs.lemmas.Bool.Decides.{nat_tests}
use Rattle.std.proofs.lemmas.List.{length-append}
use Rattle.std.proofs.lemmas.Option.{slice_get_past, none-some}
use Rattle.gos_types.specs.Types.{Type', IsGround}
use Rattle.gos_model.specs.Typing.{Imported}
use Rattle.gos_plan.specs.Kinds.{Contact, asks, serves, Part, Share, contacts_of, turned_contact}
use Rattle.gos_plan.specs.Plans.{End, PartEnd, ImportEnd, ResultEnd, Joint, Plan, contact_at, contacts_of_part, contacts_of_import, turned_if, stands_in, is_free, IsRight}
use Rattle.gos_plan.specs.Joining.{Place, place, Link, Wiring, is_joined, origin, JoinedWithin, Linked, Path, IsJoining}
use Rattle.gos_plan.specs.Orderly.{handshake_at}
use Rattle.gos_plan.proofs.JointLemmas.{IsIn, fits, contained, apart_is_not_same, same_shake}
use Rattle.gos_plan.proofs.AskingLemmas.{source_at}
use Rattle.gos_realises.specs.realises.Regular.{count}
use Rattle.gos_realises.specs.realises.Links.{LinkFits, StandsIn, LinksFit}
use Rattle.gos_realises.specs.realises.Wirings.{link}
use Rattle.gos_joining.specs.webs.Webs.{joint}
use Rattle.gos_joining.proofs.webs.MovedLemmas.{listed}
use Rattle.gos_sharing.specs.sharing.Sharing.{source_end, caller_end, IsOfPart}
use Rattle.gos_sharing.specs.buffers.Buffering.{end_behind, buffered, lone_share, sources_linked, buffering, BufferedIsJoined}
use Rattle.gos_sharing.proofs.buffers.GroundLemmas.{ground_serves}
use Rattle.gos_sharing.proofs.buffers.BufferedLemmas.{neither, later, free_of, in_callers, callers_in, known_part, result_within, server_outside, Behind, OfCallers, of_whole, behind_in, caller_in, whole_right}
use Rattle.gos_sharing.proofs.buffers.KeptLemmas.{joint_keeps, link_keeps}
use Rattle.gos_sharing.proofs.buffers.HousedLemmas.{one_handshake, housed_joining}
use Rattle.gos_sharing.proofs.buffers.AttachedLemmas.{Attached, plan_imports, part_first, part_later, at_import, at_result, plain_origin, one_step}

-- the links
link_at : (n m k : ℕ) (l : Link) → slice_get (sources_linked n m) k ≡ Some l → (k < m) × (l ≡ link 0 (ResultEnd (n + k)) 1 (source_end 0 (n + k)))
link_at n zero k l is = absurd (none-some l is)
link_at n (suc m) zero l is =
    let same : link 0 (ResultEnd n) 1 (source_end 0 n) ≡ l = cc is in
    let e : n ≡ n + 0 = omega arith in
    (omega arith, sym same ∙ ap (λ x. link 0 (ResultEnd x) 1 (source_end 0 x)) e)
link_at n (suc m) (suc k) l is =
    let rest = link_at (suc n) m k l is in
    let small = rest.0 in
    let e : suc n + k ≡ n + suc k = omega arith in
    (omega (arith, small), rest.1 ∙ ap (λ x. link 0 (ResultEnd x) 1 (source_end 0 x)) e)

at_link : (n m h : ℕ) → n ≤ h → h < n + m → Contains (sources_linked n m) (link 0 (ResultEnd h) 1 (source_end 0 h))
at_link n zero h le lt = absurd (omega (arith, le, lt))
at_link n (suc m) h le lt = by_test (nat_eq h n) refl (λ up. further (at_link (suc n) m h up (omega (arith, lt))))
  where
    further : Contains (sources_linked (suc n) m) (link 0 (ResultEnd h) 1 (source_end 0 h)) → Contains (sources_linked n (suc m)) (link 0 (ResultEnd h) 1 (source_end 0 h))
    further (k, inside, is) = (suc k, omega (arith, inside), is)

    by_test : (b : Bool) → nat_eq h n ≡ b → (suc n ≤ h → Contains (sources_linked n (suc m)) (link 0 (ResultEnd h) 1 (source_end 0 h)))
        → Contains (sources_linked n (suc m)) (link 0 (ResultEnd h) 1 (source_end 0 h))
    by_test true e rest = let same : n ≡ h = grind (arith, e) in (0, omega arith, ap (λ x. link 0 (ResultEnd x) 1 (source_end 0 x)) same)
    by_test false e rest = rest (later h n le e)

no_import : (n m k j : ℕ) → is_joined (sources_linked n m) k j ≡ false
no_import n zero k j = refl
no_import n (suc m) k j = neither ((nat_eq 0 k && false) || (nat_eq 1 k && false)) (is_joined (sources_linked (suc n) m) k j) (both (nat_eq 0 k) (nat_eq 1 k)) (no_import (suc n) m k j)
  where
    both : (a b : Bool) → ((a && false) || (b && false)) ≡ false
    both true true = refl
    both true false = refl
    both false true = refl
    both false false = refl

-- where a place of the plans stands
abbrev home_in : ℕ → ℕ → End → End
home_in n zero e = end_behind n e
home_in n (suc k) (PartEnd i h) = PartEnd n h
home_in n (suc k) (ImportEnd i h) = ImportEnd i h
home_in n (suc k) (ResultEnd h) = ResultEnd h

abbrev home_at : ℕ → Place → End
home_at n a = home_in n a.plan a.end

-- a list with one more
one_longer : (xs : List Part) (y : Part) (i : ℕ) → suc (length xs) ≤ i → length (xs ++ (y ∷ [])) ≤ i
one_longer xs y i le = let e = length-append xs (y ∷ []) in omega (arith, e, le)

linked_is : (n m : ℕ) (l : Link) → Contains (sources_linked n m) l → (h : ℕ) × (l ≡ link 0 (ResultEnd h) 1 (source_end 0 h))
linked_is n zero l (k, inside, is) = absurd (omega (arith, inside))
linked_is n (suc m) l (zero, inside, is) = (n, sym is)
linked_is n (suc m) l (suc k, inside, is) = linked_is (suc n) m l (k, omega (arith, inside), is)

module _ (c : ℕ) (p : Plan) (two : c < 2) (right : IsRight p) (ground : IsGround p.outcome) where
  abbrev number : ℕ
  number = length p.parts

  abbrev whole : Plan
  whole = buffered p.outcome c p

  abbrev share : Plan
  share = lone_share p.outcome c

  abbrev wiring : Wiring
  wiring = buffering p.outcome c p

  abbrev base : Attached
  base =
      record {
        plan = p;
        others = share ∷ [];
        links = sources_linked 0 (count p.outcome);
        outcome = p.outcome;
        free = no_import 0 (count p.outcome) 0;
        alone = refl;
      }

  is_right : IsRight whole
  is_right = whole_right c p two right ground

  given : (a b : End) → Contains whole.joints (joint a b) → handshake_at whole a ≡ handshake_at whole b
  given a b has = one_handshake whole a b is_right (contained whole.joints (joint a b) has)

  of_plan : (k : ℕ) (q : Plan) → slice_get wiring.plans k ≡ Some q → (j : Joint) → Contains q.joints j
      → handshake_at whole (home_in number k j.asking) ≡ handshake_at whole (home_in number k j.serving)
  of_plan zero q is j has =
      let same : p ≡ q = cc is in
      given (end_behind number j.asking) (end_behind number j.serving)
      (behind_in c p two right ground j.asking j.serving (contained p.joints j (subst (λ (x : Plan). Contains x.joints j) (sym same) has)))
  of_plan (suc zero) q is j has =
      let same : share ≡ q = cc is in
      let (h, lt, le, e) = in_callers 0 p.outcome c 0 (count p.outcome) j (contained share.joints j (subst (λ (x : Plan). Contains x.joints j) (sym same) has)) in
      subst (λ (x : Joint). handshake_at whole (home_in number 1 x.asking) ≡ handshake_at whole (home_in number 1 x.serving)) (sym e)
      (given (ResultEnd h) (caller_end number p.outcome c h) (caller_in c p two right ground h (omega (arith, lt))))
  of_plan (suc (suc k)) q is j has = absurd (none-some q is)

  within : (a b : Place) → JoinedWithin wiring a b → handshake_at whole (home_at number a) ≡ handshake_at whole (home_at number b)
  within = joint_keeps End (λ k e. handshake_at whole (home_in number k e)) wiring of_plan

  -- a link's two places have one end
  one_home : (l : Link) → Contains wiring.links l → home_at number l.one ≡ home_at number l.other
  one_home l has =
      let at = linked_is 0 (count p.outcome) l has in
      subst (λ (x : Link). home_at number x.one ≡ home_at number x.other) (sym at.1) refl

  linked : (a b : Place) → Linked wiring a b → handshake_at whole (home_at number a) ≡ handshake_at whole (home_at number b)
  linked = link_keeps End (λ x. handshake_at whole (home_at number x)) wiring (λ l has. ap (handshake_at whole) (one_home l has))

  -- where the ends of the whole stand
  part_last : (h : ℕ) → origin wiring (PartEnd number h) ≡ place 1 (PartEnd 0 h)
  part_last h = let e : number ≡ number + 0 = omega arith in part_later base number 0 h e

  origins : (e : End) (k : Contact) → contact_at whole e ≡ Some k → home_at number (origin wiring e) ≡ e
  origins (PartEnd i h) k there = by_order (nat_lt i number) refl (nat_eq i number) refl
    where
      by_order : (a : Bool) → nat_lt i number ≡ a → (b : Bool) → nat_eq i number ≡ b → home_at number (origin wiring (PartEnd i h)) ≡ PartEnd i h
      by_order true t b u = ap (home_at number) (part_first base i h (grind (arith, nat_tests, t)))
      by_order false t true u =
          let same : i ≡ number = grind (arith, u) in
          ap (λ j. home_at number (origin wiring (PartEnd j h))) same ∙ (ap (home_at number) (part_last h) ∙ ap (λ j. PartEnd j h) (sym same))
      by_order false t false u =
          let low : number ≤ i = grind (arith, nat_tests, t) in
          let none = slice_get_past (p.parts ++ (Share p.outcome ∷ [])) i (one_longer p.parts (Share p.outcome) i (later i number low u)) in
          absurd (none-some k (sym (ap (λ x. slice_get (contacts_of_part x) h) none) ∙ there))
  origins (ImportEnd i h) k there = by_import (slice_get p.imports i) refl
    where
      by_import : (o : Option Imported) → slice_get p.imports i ≡ o → home_at number (origin wiring (ImportEnd i h)) ≡ ImportEnd i h
      by_import None e = absurd (none-some k (sym (ap (λ x. slice_get (contacts_of_import x) h) e) ∙ there))
      by_import (Some x) e = ap (home_at number) (at_import base i h x e)
  origins (ResultEnd h) k there = ap (home_at number) (at_result base h)

  -- an end of the plan that isn't its result's
  origin_behind : (e : End) (k : Contact) → contact_at p e ≡ Some k → (IsOfPart number (end_behind number e) → ⊥) → origin wiring (end_behind number e) ≡ place 0 e
  origin_behind (PartEnd i h) k there apart = plain_origin base (PartEnd i h) k there tt
  origin_behind (ImportEnd i h) k there apart = plain_origin base (ImportEnd i h) k there tt
  origin_behind (ResultEnd h) k there apart = absurd (apart refl)

  abbrev Walk : Place → Place → Type 0
  Walk a b = (n : ℕ) × Path wiring n a b

  -- from a joint of the plan
  walk_behind : (d e : End) → IsIn (joint d e) p.joints → Walk (origin wiring (end_behind number d)) (origin wiring (end_behind number e))
  walk_behind d e here = by_asker d here
    where
      server : (d : End) → IsIn (joint d e) p.joints → origin wiring (end_behind number e) ≡ place 0 e
      server d here =
          let fit = fits p [] p.joints (joint d e) right here in
          let out = server_outside c p two right ground d e here in
          origin_behind e (serves fit.0 fit.1) fit.3 (λ of. out.1 (subst (λ (x : End). IsOfPart number x) out.0 of))

      plainly : (d : End) (k : Contact) → contact_at p d ≡ Some k → (IsOfPart number (end_behind number d) → ⊥) → IsIn (joint d e) p.joints
          → Walk (origin wiring (end_behind number d)) (origin wiring (end_behind number e))
      plainly d k there apart here = (
        1,
        (
          place 0 e,
          inl (subst (λ (x : Place). JoinedWithin wiring x (place 0 e)) (sym (origin_behind d k there apart)) (one_step base d e here)),
          sym (server d here),
        ),
      )

      by_asker : (d : End) → IsIn (joint d e) p.joints → Walk (origin wiring (end_behind number d)) (origin wiring (end_behind number e))
      by_asker (PartEnd i h) here =
          let fit = fits p [] p.joints (joint (PartEnd i h) e) right here in
          plainly (PartEnd i h) (asks fit.0 fit.1) fit.2 (known_part c p two right ground i h (asks fit.0 fit.1) fit.2) here
      by_asker (ImportEnd i h) here =
          let fit = fits p [] p.joints (joint (ImportEnd i h) e) right here in plainly (ImportEnd i h) (asks fit.0 fit.1) fit.2 (λ of. of) here
      by_asker (ResultEnd h) here =
          let fit = fits p [] p.joints (joint (ResultEnd h) e) right here in
          let lt = result_within c p two right ground h (asks fit.0 fit.1) fit.2 in (
            2,
            (
              place 0 (ResultEnd h),
              inr (
                link 0 (ResultEnd h) 1 (source_end 0 h),
                at_link 0 (count p.outcome) h (omega arith) (omega (arith, lt)),
                inr (part_last h, refl),
              ),
              (place 0 e, inl (one_step base (ResultEnd h) e here), sym (server (ResultEnd h) here)),
            ),
          )

  paths : (a b : End) → Contains whole.joints (joint a b) → Walk (origin wiring a) (origin wiring b)
  paths a b has = by_side (of_whole c p two right ground a b has)
    where
      by_side : Behind c p two right ground a b ⊎ OfCallers c p two right ground a b → Walk (origin wiring a) (origin wiring b)
      by_side (inl (d, e, here, at_a, at_b)) =
          subst (λ (x : End). Walk (origin wiring x) (origin wiring b)) (sym at_a) (subst (λ (x : End). Walk (origin wiring (end_behind number d)) (origin wiring x)) (sym at_b) (walk_behind d e here))
      by_side (inr (h, lt, at_a, at_b)) =
          subst (λ (x : End). Walk (origin wiring x) (origin wiring b)) (sym at_a)
          (subst (λ (x : End). Walk (origin wiring (ResultEnd h)) (origin wiring x)) (sym at_b) (
            1,
            (
              place 1 (caller_end 0 p.outcome c h),
              inl (subst (λ (x : Place). JoinedWithin wiring x (place 1 (caller_end 0 p.outcome c h))) (sym (at_result base h))
                  (share, joint (ResultEnd h) (caller_end 0 p.outcome c h), refl, refl, listed share.joints (joint (ResultEnd h) (caller_end 0 p.outcome c h)) (callers_in 0 p.outcome c 0 (count p.outcome) h (omega arith) (omega (arith, lt))), inl (refl, refl))),
              sym (part_last (count p.outcome + c * count p.outcome + h)),
            ),
          ))

  pub is_joining : IsJoining wiring whole
  is_joining =
      housed_joining wiring whole (home_at number) is_right
      (record { within = within; linked = linked; origins = origins; paths = paths }) refl
      (sym (plan_imports base)) refl (omega arith)
      (λ h k there. let e : 0 + h ≡ h = omega arith in ap (slice_get (contacts_of p.outcome)) e ∙ there)

-- the Share alone is right: it is what stands behind a plan of nothing
abbrev nothing : Type' → Plan
nothing t = record { weight = 0; imports = []; outcome = t; parts = []; joints = [] }

lone_right : (t : Type') (c : ℕ) → c < 2 → IsGround t → IsRight (lone_share t c)
lone_right t c two ground = whole_right c (nothing t) two tt ground

-- the links fit
source_free : (t : Type') (c h : ℕ) → h < count t → IsTrue (is_free (source_end 0 h) (lone_share t c).joints)
source_free t c h lt = free_of (source_end 0 h) (lone_share t c).joints none
  where
    none : (j : Joint) → IsIn j (lone_share t c).joints → stands_in (source_end 0 h) j ≡ false
    none j here =
        let (g, within, le, e) = in_callers 0 t c 0 (count t) j here in
        subst (λ (x : Joint). stands_in (source_end 0 h) x ≡ false) (sym e)
        (apart_is_not_same (source_end 0 h) (caller_end 0 t c g) (λ same. let n = same_shake 0 h 0 (count t + c * count t + g) same in omega (arith, n, lt)))

abbrev the_link : ℕ → Link
the_link h = link 0 (ResultEnd h) 1 (source_end 0 h)

zero_not_one : (zero ≡ suc zero) → ⊥
zero_not_one e = omega (arith, e)

link_fits : (c : ℕ) (p : Plan) (h : ℕ) → IsGround p.outcome → h < count p.outcome → LinkFits (buffering p.outcome c p) (the_link h)
link_fits c p h ground lt =
    let (k, there, role) = ground_serves p.outcome h ground lt in
    (zero_not_one, (turned_contact k, turned_contact k, ap turned_if there, source_at p.outcome h k there, (refl, source_free p.outcome c h lt)))

place_of_link : (h : ℕ) (a : Place) → StandsIn a (the_link h) → (a ≡ place 0 (ResultEnd h)) ⊎ (a ≡ place 1 (source_end 0 h))
place_of_link h a stands = stands

ends_tell : (h g : ℕ) (a : Place) → (a ≡ place 0 (ResultEnd h)) ⊎ (a ≡ place 1 (source_end 0 h)) → (a ≡ place 0 (ResultEnd g)) ⊎ (a ≡ place 1 (source_end 0 g)) → h ≡ g
ends_tell h g a (inl one) (inl other) = let e : ResultEnd h ≡ ResultEnd g = ap (λ (x : Place). x.end) (sym one ∙ other) in cc e
ends_tell h g a (inl one) (inr other) = let e : zero ≡ suc zero = ap (λ (x : Place). x.plan) (sym one ∙ other) in absurd (zero_not_one e)
ends_tell h g a (inr one) (inl other) = let e : zero ≡ suc zero = ap (λ (x : Place). x.plan) (sym other ∙ one) in absurd (zero_not_one e)
ends_tell h g a (inr one) (inr other) = let e : PartEnd 0 h ≡ PartEnd 0 g = ap (λ (x : Place). x.end) (sym one ∙ other) in cc e

result_unlinked : (g h : ℕ) → (place 1 (ResultEnd g) ≡ place 0 (ResultEnd h)) ⊎ (place 1 (ResultEnd g) ≡ place 1 (source_end 0 h)) → ⊥
result_unlinked g h (inl e) = let n : suc zero ≡ zero = ap (λ (x : Place). x.plan) e in zero_not_one (sym n)
result_unlinked g h (inr e) = let n : ResultEnd g ≡ PartEnd 0 h = ap (λ (x : Place). x.end) e in cc n

links_fit : (c : ℕ) (p : Plan) → c < 2 → IsRight p → IsGround p.outcome → LinksFit (buffering p.outcome c p)
links_fit c p two right ground = record { right = rights; each = each; once = once; left = left }
  where
    rights : (k : ℕ) (x : Plan) → slice_get (buffering p.outcome c p).plans k ≡ Some x → IsRight x
    rights zero x is = let same : p ≡ x = cc is in subst IsRight same right
    rights (suc zero) x is = let same : lone_share p.outcome c ≡ x = cc is in subst IsRight same (lone_right p.outcome c two ground)
    rights (suc (suc k)) x is = absurd (none-some x is)

    each : (k : ℕ) (l : Link) → slice_get (sources_linked 0 (count p.outcome)) k ≡ Some l → LinkFits (buffering p.outcome c p) l
    each k l is =
        let (small, same) = link_at 0 (count p.outcome) k l is in
        let e : 0 + k ≡ k = omega arith in
        subst (LinkFits (buffering p.outcome c p)) (sym (same ∙ ap the_link e)) (link_fits c p k ground small)

    at_number : (k : ℕ) (l : Link) (a : Place) → slice_get (sources_linked 0 (count p.outcome)) k ≡ Some l → StandsIn a l → (a ≡ place 0 (ResultEnd k)) ⊎ (a ≡ place 1 (source_end 0 k))
    at_number k l a is stands =
        let (small, same) = link_at 0 (count p.outcome) k l is in
        let e : 0 + k ≡ k = omega arith in
        place_of_link k a (subst (StandsIn a) (same ∙ ap the_link e) stands)

    once : (j k : ℕ) (l m : Link) (a : Place) → slice_get (sources_linked 0 (count p.outcome)) j ≡ Some l → slice_get (sources_linked 0 (count p.outcome)) k ≡ Some m
        → StandsIn a l → StandsIn a m → j ≡ k
    once j k l m a one other in_one in_other = ends_tell j k a (at_number j l a one in_one) (at_number k m a other in_other)

    left : (h : ℕ) (k : Contact) → slice_get (contacts_of p.outcome) h ≡ Some k
        → (slice_get (contacts_of p.outcome) (0 + h) ≡ Some k)
        × ((n : ℕ) (l : Link) → slice_get (sources_linked 0 (count p.outcome)) n ≡ Some l → StandsIn (place 1 (ResultEnd (0 + h))) l → ⊥)
    left h k there = (
      (let e : 0 + h ≡ h = omega arith in ap (slice_get (contacts_of p.outcome)) e ∙ there),
      λ n l is stands. result_unlinked (0 + h) n (at_number n l (place 1 (ResultEnd (0 + h))) is stands),
    )

pub buffered_is_joined : BufferedIsJoined
buffered_is_joined c p two right ground = record { fits = links_fit c p two right ground; joining = is_joining c p two right ground }
