-- The plan of a wired variable without the joint by which it is read is that of its web, where what reads stands apart.
use Rattle.std.specs.Prelude.{◌≢◌, ◌+◌, Some, Contains}
use Rattle.std.proofs.Common.{◌≡◌, ℕ, zero, suc, Bool, true, false, List, [], inl, inr, refl, sym, ◌∙◌, ap, subst}
use Rattle.std.proofs.lemmas.List.Elements.{Contains-append_cases}
use Rattle.gos_types.specs.declared.shakes.Role.TheVariants.{Serve, Ask}
use Rattle.gos_types.specs.Types.{IsGround}
use Rattle.gos_check.specs.Nodes.{Numbered, type_of_node}
use Rattle.gos_plan.specs.Kinds.{Contact, serves, turned_contact}
use Rattle.gos_plan.specs.Plans.{End, PartEnd, ImportEnd, ResultEnd, Joint, Plan, contact_at, same_end, IsRight}
use Rattle.gos_plan.proofs.JointLemmas.{IsIn, same_is, fits, contained}
use Rattle.gos_realises.specs.realises.Regular.{count}
use Rattle.gos_ties.specs.declared.points.Place.TheVariants as places
use Rattle.gos_joining.specs.webs.Webs.{Dot, Of, Number, Within, Tie, tie, Way, here, along, Web, Connects, IsOfWeb, joint}
use Rattle.gos_joining.proofs.webs.WayLemmas.{way_back}
use Rattle.gos_joining.proofs.webs.MovedLemmas.{listed}
use Rattle.gos_joining.specs.unions.Unions.{within}
use Rattle.gos_joining.proofs.unions.UnionLemmas.{of_image}
use Rattle.gos_compile.specs.Wiring.{Types, row, ties_of}
use Rattle.gos_terms.specs.wired.Wired.{Supplies, Source, Own, Supplied, Placing, source_dot, dot_at, dot_ties, all_supply_ties, wired_ties, wired_web}
use Rattle.gos_terms.proofs.stages.ChildTieLemmas.{put_in, of_supplies, of_supply}
use Rattle.gos_nodes.specs.assignments.Written.{unread_joints, unread}
use Rattle.gos_nodes.proofs.assignments.JoinedLemmas.{kept_in, was_in, unread_right}
use Rattle.gos_nodes.proofs.windows.AskedLemmas.{ground_asks}

-- no result serves
no_result : (p : Plan) → IsRight p → IsGround p.outcome → (h : ℕ) (x : Joint) → IsIn x p.joints → x.serving ≡ ResultEnd h → ⊥
no_result p right ground h x there is =
    let fit = fits p [] p.joints x right there in
    let role : Ask ≡ Serve = ground_asks p.outcome ground h (serves fit.0 fit.1) (ap (contact_at p) (sym is) ∙ fit.3) in cc role

-- where an end stands: what reads at a point of its own
abbrev pub unread_at : (End → Dot) → End → Dot
unread_at at (PartEnd k h) = at (PartEnd k h)
unread_at at (ImportEnd k h) = at (ImportEnd k h)
unread_at at (ResultEnd zero) = Of (ResultEnd 0)
unread_at at (ResultEnd (suc h)) = at (ResultEnd (suc h))

abbrev pub unread_web : Web → Web
unread_web v = record { ties = v.ties; at = unread_at v.at }

-- the dots of a wired node's web
abbrev pub IsInner : Dot → Type 0
IsInner d = (k : ℕ) × (x : Dot) × (d ≡ Within k x)

abbrev HasInner : Tie → Type 0
HasInner t = IsInner t.one × IsInner t.other

module _ (types : Types) (i j : ℕ) (m : Numbered) (ns : List ℕ) (env : Supplies) where
  abbrev ties : List Tie
  ties = wired_ties types i j m ns env

  abbrev mine : List Tie
  mine = dot_ties (ties_of types i j m (row places.Result 0 (count (type_of_node m))))

  inner_ties : (t : Tie) → Contains ties t → HasInner t
  inner_ties t has =
      elim (Contains-append_cases (within 0 mine) (all_supply_ties types env ns) t has) [
        | inl own ↦ (let (v, there, at) = of_image (put_in 0) mine t own in subst HasInner at ((0, v.one, refl), (0, v.other, refl)))
        | inr supply ↦
            (let (n, uses, there) = of_supplies types env ns t supply in
            elim (of_supply types env n t there) [
              | inl joins ↦
                  (let (x, known, at) = joins in subst HasInner at ((suc n, Of x.asking, refl), (suc n, Of x.serving, refl)))
              | inr result ↦ (let (h, low, at) = result in subst HasInner at ((0, Number n h, refl), (suc n, Of (ResultEnd h), refl)))
            ])
      ]

  not_inner : (e : End) (d : Dot) → Of e ≡ d → IsInner d → ⊥
  not_inner e d is (k, x, at) = let clash : Of e ≡ Within k x = is ∙ at in cc clash

  -- no way leaves the point where what reads stands
  pub stuck : (e : End) (a b : Dot) → Of e ≡ a → Way ties a b → Of e ≡ b
  stuck e a b is (here x) = is
  stuck e a b is (along x y z (inl meet) way) = absurd (not_inner e a is (inner_ties (tie a y) meet).0)
  stuck e a b is (along x y z (inr meet) way) = absurd (not_inner e a is (inner_ties (tie y a) meet).1)

  module _ (pl : Placing) where
    abbrev at : End → Dot
    at = dot_at i pl

    at_inner : (e : End) → IsInner (at e)
    at_inner (PartEnd k h) = by_source (pl.source k)
      where
        by_source : (s : Source) → IsInner (source_dot i s h)
        by_source (Own x) = (0, Of (PartEnd (i + x) h), refl)
        by_source (Supplied n x) = (suc n, Of (PartEnd x h), refl)
    at_inner (ImportEnd k h) = (suc (pl.origin k).number, Of (ImportEnd (pl.origin k).import h), refl)
    at_inner (ResultEnd h) = (0, Of (ResultEnd h), refl)

    pub same_at : (e : End) → same_end e (ResultEnd 0) ≡ false → unread_at at e ≡ at e
    same_at (PartEnd k h) apart = refl
    same_at (ImportEnd k h) apart = refl
    same_at (ResultEnd zero) apart = absurd (cc apart)
    same_at (ResultEnd (suc h)) apart = refl

    -- a way from where what reads stands leads to itself alone
    pub alone_read : (e : End) → Way ties (Of (ResultEnd 0)) (unread_at at e) → e ≡ ResultEnd 0
    alone_read e way = by_test (same_end e (ResultEnd 0)) refl
      where
        by_test : (b : Bool) → same_end e (ResultEnd 0) ≡ b → e ≡ ResultEnd 0
        by_test true t = same_is e (ResultEnd 0) t
        by_test false t = absurd (not_inner (ResultEnd 0) (at e) (stuck (ResultEnd 0) (Of (ResultEnd 0)) (unread_at at e) refl way ∙ same_at e t) (at_inner e))

    pub unread_is_of_web : (c : Plan) → IsGround c.outcome → IsOfWeb (wired_web types i j m ns env pl) c
        → IsOfWeb (unread_web (wired_web types i j m ns env pl)) (unread c)
    unread_is_of_web c ground web = record { right = unread_right c web.right; fits = fits; joints = λ a b. (to a b, back a b) }
      where
        fits : (a b : End) (k l : Contact) → contact_at c a ≡ Some k → contact_at c b ≡ Some l → a ≢ b → Way ties (unread_at at a) (unread_at at b)
            → l ≡ turned_contact k
        fits a b k l at_a at_b apart way = by_tests (same_end a (ResultEnd 0)) refl (same_end b (ResultEnd 0)) refl
          where
            by_tests : (x : Bool) → same_end a (ResultEnd 0) ≡ x → (y : Bool) → same_end b (ResultEnd 0) ≡ y → l ≡ turned_contact k
            by_tests true s y t =
                let is = same_is a (ResultEnd 0) s in
                absurd (apart (is ∙ sym (alone_read b (subst (λ (e : End). Way ties (unread_at at e) (unread_at at b)) is way))))
            by_tests false s true t =
                let is = same_is b (ResultEnd 0) t in
                absurd (apart (alone_read a (way_back ties (unread_at at a) (Of (ResultEnd 0))
                (subst (λ (e : End). Way ties (unread_at at a) (unread_at at e)) is way)) ∙ sym is))
            by_tests false s false t =
                web.fits a b k l at_a at_b apart
                (subst (λ (d : Dot). Way ties d (at b)) (same_at a s) (subst (λ (d : Dot). Way ties (unread_at at a) d) (same_at b t) way))

        not_serving : (b : End) → ((h : ℕ) → b ≡ ResultEnd h → ⊥) → same_end b (ResultEnd 0) ≡ false
        not_serving (PartEnd k h) none = refl
        not_serving (ImportEnd k h) none = refl
        not_serving (ResultEnd h) none = absurd (none h refl)

        to : (a b : End) → Contains (unread c).joints (joint a b) → Connects (unread_web (wired_web types i j m ns env pl)) (unread c) a b
        to a b has =
            let (was, apart) = was_in (joint a b) c.joints (contained (unread_joints c.joints) (joint a b) has) in
            let (q, v, asks, serves, way) = (web.joints a b).0 (listed c.joints (joint a b) was) in
            let other = not_serving b (λ h is. no_result c web.right ground h (joint a b) was is) in
            (q, v, asks, serves, subst (λ (d : Dot). Way ties d (unread_at at b)) (sym (same_at a apart)) (subst (λ (d : Dot). Way ties (at a) d) (sym (same_at b other)) way))

        back : (a b : End) → Connects (unread_web (wired_web types i j m ns env pl)) (unread c) a b → Contains (unread c).joints (joint a b)
        back a b (q, v, at_a, at_b, way) =
            let other = not_serving b (λ h is. served h is) in
            by_test other (same_end a (ResultEnd 0)) refl
          where
            served : (h : ℕ) → b ≡ ResultEnd h → ⊥
            served h is =
                let role : Ask ≡ Serve = ground_asks c.outcome ground h (serves q v) (ap (contact_at c) (sym is) ∙ at_b) in cc role

            by_test : same_end b (ResultEnd 0) ≡ false → (x : Bool) → same_end a (ResultEnd 0) ≡ x → Contains (unread c).joints (joint a b)
            by_test other true s =
                let is = same_is a (ResultEnd 0) s in
                let read = alone_read b (subst (λ (e : End). Way ties (unread_at at e) (unread_at at b)) is way) in
                absurd (served 0 read)
            by_test other false s =
                let moved = subst (λ (d : Dot). Way ties d (at b)) (same_at a s) (subst (λ (d : Dot). Way ties (unread_at at a) d) (same_at b other) way) in
                listed (unread_joints c.joints) (joint a b)
                (kept_in (joint a b) c.joints s (contained c.joints (joint a b) ((web.joints a b).1 (q, v, at_a, at_b, moved))))
