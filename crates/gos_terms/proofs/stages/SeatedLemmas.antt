-- What stands for a number lies in what is wired to it.
use Rattle.std.specs.Prelude.{◌+◌, ◌<◌, ◌⊎◌, length, nat_eq, nat_lt, slice_get, None, Contains}
use Rattle.std.proofs.Common.{◌≡◌, ℕ, suc, Bool, true, false, List, [], Some, inl, inr, refl, sym, ◌∙◌, ap, subst, arith, if◌then◌else◌}
use Rattle.std.proofs.lemmas.Bool.Decides.{nat_tests}
use Rattle.std.proofs.lemmas.Option.{slice_get_within, none-some}
use Rattle.std.proofs.lemmas.List.Elements.{Contains-append_left, Contains-append_right, Contains-append_cases}
use Rattle.std.proofs.lemmas.Bool.{eqb-true, lt-ltb, eq-eqb}
use Rattle.gos_types.specs.declared.shakes.Role.TheVariants.{Serve, Ask}
use Rattle.gos_types.proofs.ListLemmas.{element_at}
use Rattle.gos_model.specs.Typing.{Imported}
use Rattle.gos_check.specs.Nodes.{Numbered, type_of_node}
use Rattle.gos_plan.specs.Kinds.{Part, Contact, asks, serves}
use Rattle.gos_plan.specs.Plans.{End, PartEnd, ImportEnd, ResultEnd, Joint, Plan, contact_at, contacts_of_part, contacts_of_import, IsRight}
use Rattle.gos_plan.proofs.JointLemmas.{fits, contained, which_end}
use Rattle.gos_plan.proofs.ContactLemmas.{part_is_there, import_is_there}
use Rattle.gos_realises.specs.realises.Regular.{count}
use Rattle.gos_ties.specs.declared.points.Place.TheVariants as places
use Rattle.gos_joining.specs.webs.Webs.{Dot, Of, Number, Within, Tie, tie, Meet, Way, here, along, own_web, joint}
use Rattle.gos_joining.specs.webs.Cutting.{StandsIn}
use Rattle.gos_joining.proofs.webs.CutLemmas.{stands_by}
use Rattle.gos_joining.specs.unions.Unions.{within}
use Rattle.gos_joining.proofs.unions.UnionLemmas.{of_image, in_image}
use Rattle.gos_compile.specs.Wiring.{Types, row, parts_of, ties_of}
use Rattle.gos_terms.specs.wired.Wired.{Supplies, Source, Own, Supplied, Origin, Placing, IsFrom, placed, source_dot, dot_at, dot_ties, result_ties, all_supply_ties, wired_ties, IsWired}
use Rattle.gos_sharing.specs.loyal.Seats.{Seat, seat_end, IsNoResult, IsSeated}
use Rattle.gos_terms.specs.stages.Seated.{supplied_part, supplied_import, supply_seat, SuppliesAreSeated}
use Rattle.gos_terms.proofs.stages.ChildTieLemmas.{joint_tie, put_in, of_supplies, of_supply}
use Rattle.gos_terms.proofs.wired.TieLemmas.{in_supplies}
use Rattle.gos_terms.proofs.stages.WayLemmas.{way_by_tie}

-- a way goes nowhere, or by a tie
first_step : (ts : List Tie) (a b : Dot) → Way ts a b → (a ≡ b) ⊎ ((c : Dot) × Meet ts a c)
first_step ts a b (here d) = inl refl
first_step ts a b (along d c e meet way) = inr (c, meet)

last_step : (ts : List Tie) (a b : Dot) → Way ts a b → (a ≡ b) ⊎ ((c : Dot) × Meet ts c b)
last_step ts a b (here d) = inl refl
last_step ts a b (along d c e meet way) = elim (last_step ts c b way) [
  | inl same ↦ inr (d, subst (Meet ts d) same meet)
  | inr (x, meets) ↦ inr (x, meets)
]

module _ (types : Types) (i j : ℕ) (m : Numbered) (ns : List ℕ) (env : Supplies) (pl : Placing) (r : Plan) (n : ℕ) (w : IsWired types i j m ns env pl r) (there : Contains ns n)
    (right : IsRight (env n).plan) where
  abbrev p : Plan
  p = (env n).plan

  abbrev seat : Seat
  seat = supply_seat pl n r

  -- parts and imports
  part_so : (k : ℕ) (x : Part) → slice_get p.parts k ≡ Some x → (slice_get r.parts (pl.supplied n k) ≡ Some x) × (pl.source (pl.supplied n k) ≡ Supplied n k)
  part_so k x at = w.parts x (Supplied n k) (there, at)

  number_so : (k : ℕ) (x : Part) → slice_get p.parts k ≡ Some x → seat.number (pl.supplied n k) ≡ Some k
  number_so k x at =
      let (at_r, source) = part_so k x at in
      ap (λ (b : Bool). if b then supplied_part n (pl.source (pl.supplied n k)) else None) (lt-ltb (pl.supplied n k) (length r.parts) (slice_get_within r.parts (pl.supplied n k) x at_r))
      ∙ (ap (supplied_part n) source ∙ ap (λ (b : Bool). if b then Some k else None) (eq-eqb n n refl))

  origin_so : (k : ℕ) (x : Imported) → slice_get p.imports k ≡ Some x → seat.origin (pl.import n k) ≡ Some k
  origin_so k x at =
      let (at_r, from) = w.imports n k x there at in
      ap (λ (b : Bool). if b then supplied_import n (pl.origin (pl.import n k)) else None) (lt-ltb (pl.import n k) (length r.imports) (slice_get_within r.imports (pl.import n k) x at_r))
      ∙ (ap (supplied_import n) from ∙ ap (λ (b : Bool). if b then Some k else None) (eq-eqb n n refl))

  within_list : {A : Type 0} (xs : List A) (k : ℕ) → nat_lt k (length xs) ≡ true → k < length xs
  within_list xs k t = grind (arith, nat_tests, t)

  numbers_so : (k l : ℕ) → seat.number k ≡ Some l → (pl.supplied n l ≡ k) × ((x : Part) × (slice_get p.parts l ≡ Some x))
  numbers_so k l e = by_size (nat_lt k (length r.parts)) refl e
    where
      by_source : (s : Source) (x : Part) → IsFrom (parts_of types m) ns env x s → placed pl s ≡ k → supplied_part n s ≡ Some l
          → (pl.supplied n l ≡ k) × ((x : Part) × (slice_get p.parts l ≡ Some x))
      by_source (Own q) x from back e = absurd (none-some l e)
      by_source (Supplied o q) x from back e = by_number (nat_eq o n) refl e
        where
          by_number : (b : Bool) → nat_eq o n ≡ b → (if b then Some q else None) ≡ Some l → (pl.supplied n l ≡ k) × ((x : Part) × (slice_get p.parts l ≡ Some x))
          by_number false t e = absurd (none-some l e)
          by_number true t e =
              let same : o ≡ n = eqb-true o n t in
              let at : q ≡ l = cc e in (
                ap (λ (v : ℕ). pl.supplied v l) (sym same) ∙ (ap (pl.supplied o) (sym at) ∙ back),
                (x, ap (λ (v : ℕ). slice_get (env v).plan.parts l) (sym same) ∙ (ap (slice_get (env o).plan.parts) (sym at) ∙ from.1)),
              )

      by_size : (b : Bool) → nat_lt k (length r.parts) ≡ b → (if b then supplied_part n (pl.source k) else None) ≡ Some l
          → (pl.supplied n l ≡ k) × ((x : Part) × (slice_get p.parts l ≡ Some x))
      by_size false t e = absurd (none-some l e)
      by_size true t e =
          let (x, at) = element_at r.parts k (within_list r.parts k t) in
          let (from, back) = w.no_more k x at in
          by_source (pl.source k) x from back e

  origins_so : (k l : ℕ) → seat.origin k ≡ Some l → pl.import n l ≡ k
  origins_so k l e = by_size (nat_lt k (length r.imports)) refl e
    where
      by_number : (b : Bool) → nat_eq (pl.origin k).number n ≡ b → pl.import (pl.origin k).number (pl.origin k).import ≡ k → (if b then Some (pl.origin k).import else None) ≡ Some l
          → pl.import n l ≡ k
      by_number false t back e = absurd (none-some l e)
      by_number true t back e =
          let same : (pl.origin k).number ≡ n = eqb-true (pl.origin k).number n t in
          let at : (pl.origin k).import ≡ l = cc e in
          ap (λ (v : ℕ). pl.import v l) (sym same) ∙ (ap (pl.import (pl.origin k).number) (sym at) ∙ back)

      by_size : (b : Bool) → nat_lt k (length r.imports) ≡ b → (if b then supplied_import n (pl.origin k) else None) ≡ Some l → pl.import n l ≡ k
      by_size false t e = absurd (none-some l e)
      by_size true t e =
          let (x, at) = element_at r.imports k (within_list r.imports k t) in
          by_number (nat_eq (pl.origin k).number n) refl (w.no_import k x at).2 e

  -- ends
  end_kept : (e : End) (k : Contact) → IsNoResult e → contact_at p e ≡ Some k → (contact_at r (seat_end seat e) ≡ Some k) × (dot_at i pl (seat_end seat e) ≡ Within (suc n) (Of e))
  end_kept (PartEnd q h) k own at =
      let (x, at_p) = part_is_there (slice_get p.parts q) h k at in
      let (at_r, source) = part_so q x at_p in
      (ap (λ o. slice_get (contacts_of_part o) h) (at_r ∙ sym at_p) ∙ at, ap (λ (s : Source). source_dot i s h) source)
  end_kept (ImportEnd q h) k own at =
      let (x, at_p) = import_is_there (slice_get p.imports q) h k at in
      let (at_r, from) = w.imports n q x there at_p in
      (ap (λ o. slice_get (contacts_of_import o) h) (at_r ∙ sym at_p) ∙ at, ap (λ (o : Origin). Within (suc o.number) (Of (ImportEnd o.import h))) from)
  end_kept (ResultEnd h) k own at = absurd own

  joint_so : (a b : End) → IsNoResult a → IsNoResult b → Contains p.joints (joint a b) → Contains r.joints (joint (seat_end seat a) (seat_end seat b))
  joint_so a b own also has =
      let fit = fits p [] p.joints (joint a b) right (contained p.joints (joint a b) has) in
      let (at_a, dot_a) = end_kept a (asks fit.0 fit.1) own fit.2 in
      let (at_b, dot_b) = end_kept b (serves fit.0 fit.1) also fit.3 in
      (w.web.joints (seat_end seat a) (seat_end seat b)).1 (
        fit.0,
        fit.1,
        at_a,
        at_b,
        subst (λ (d : Dot). Way (wired_ties types i j m ns env) d (dot_at i pl (seat_end seat b))) (sym dot_a)
            (subst (Way (wired_ties types i j m ns env) (Within (suc n) (Of a))) (sym dot_b)
            (way_by_tie (wired_ties types i j m ns env) (Within (suc n) (Of a)) (Within (suc n) (Of b)) tied)),
      )
    where
      t : Tie
      t = tie (Within (suc n) (Of a)) (Within (suc n) (Of b))

      tied : Contains (wired_ties types i j m ns env) t
      tied =
          Contains-append_right (within 0 (dot_ties (ties_of types i j m (row places.Result 0 (count (type_of_node m)))))) (all_supply_ties types env ns) t
          (in_supplies types env ns n t there
          (Contains-append_left (within (suc n) (own_web p).ties) (result_ties n 0 (count (types n))) t
          (in_image (put_in (suc n)) (own_web p).ties (joint_tie (joint a b)) (in_image joint_tie p.joints (joint a b) has))))

  -- a tie at a handshake of one of its parts or imports is one of its joints
  module _ (at : End) (here : IsNoResult at) where
    abbrev dot : Dot
    dot = Within (suc n) (Of at)

    stood : (o : ℕ) (x : Joint) (e : End) → Contains (env o).plan.joints x → (e ≡ x.asking) ⊎ (e ≡ x.serving) → Within (suc o) (Of e) ≡ dot → StandsIn p at
    stood o x e has side same =
        let number : o ≡ n = cc same in
        let is : e ≡ at = cc same in
        subst (StandsIn p) is (subst (λ (v : ℕ). StandsIn (env v).plan e) number (x, has, stands_by e x side))

    of_own : (v : Dot) → Within 0 v ≡ dot → ⊥
    of_own v same = cc same

    not_result : (o l : ℕ) → Within (suc o) (Of (ResultEnd l)) ≡ dot → ⊥
    not_result o l same = let is : ResultEnd l ≡ at = cc same in subst IsNoResult (sym is) here

    of_tie : (t : Tie) → Contains (wired_ties types i j m ns env) t → (t.one ≡ dot) ⊎ (t.other ≡ dot) → StandsIn p at
    of_tie t has side =
        elim (Contains-append_cases (within 0 (dot_ties (ties_of types i j m (row places.Result 0 (count (type_of_node m)))))) (all_supply_ties types env ns) t has) [
          | inl own ↦ (let (v, listed, is) = of_image (put_in 0) (dot_ties (ties_of types i j m (row places.Result 0 (count (type_of_node m))))) t own in absurd (inner v is side))
          | inr supply ↦ (let (o, known, listed) = of_supplies types env ns t supply in by_supply o (of_supply types env o t listed) side)
        ]
      where
        inner : (v : Tie) → put_in 0 v ≡ t → (t.one ≡ dot) ⊎ (t.other ≡ dot) → ⊥
        inner v is (inl e) = of_own v.one (ap (λ (x : Tie). x.one) is ∙ e)
        inner v is (inr e) = of_own v.other (ap (λ (x : Tie). x.other) is ∙ e)

        by_supply : (o : ℕ) → ((x : Joint) × Contains (env o).plan.joints x × (tie (Within (suc o) (Of x.asking)) (Within (suc o) (Of x.serving)) ≡ t))
            ⊎ ((l : ℕ) × (l < count (types o)) × (tie (Within 0 (Number o l)) (Within (suc o) (Of (ResultEnd l))) ≡ t))
            → (t.one ≡ dot) ⊎ (t.other ≡ dot) → StandsIn p at
        by_supply o (inl (x, listed, is)) (inl e) = stood o x x.asking listed (inl refl) (ap (λ (y : Tie). y.one) is ∙ e)
        by_supply o (inl (x, listed, is)) (inr e) = stood o x x.serving listed (inr refl) (ap (λ (y : Tie). y.other) is ∙ e)
        by_supply o (inr (l, lt, is)) (inl e) = absurd (of_own (Number o l) (ap (λ (y : Tie). y.one) is ∙ e))
        by_supply o (inr (l, lt, is)) (inr e) = absurd (not_result o l (ap (λ (y : Tie). y.other) is ∙ e))

    of_meet : (c d : Dot) → Meet (wired_ties types i j m ns env) c d → (c ≡ dot) ⊎ (d ≡ dot) → StandsIn p at
    of_meet c d (inl has) side = of_tie (tie c d) has side
    of_meet c d (inr has) (inl e) = of_tie (tie d c) has (inr e)
    of_meet c d (inr has) (inr e) = of_tie (tie d c) has (inl e)

    -- an end that stands there is that handshake
    of_source : (s : Source) (q g : ℕ) → placed pl s ≡ q → source_dot i s g ≡ dot → PartEnd q g ≡ seat_end seat at
    of_source (Own o) q g back same = absurd (of_own (Of (PartEnd (i + o) g)) same)
    of_source (Supplied o l) q g back same =
        let number : o ≡ n = cc same in
        let is : PartEnd l g ≡ at = cc same in
        let part : pl.supplied n l ≡ q = ap (λ (v : ℕ). pl.supplied v l) (sym number) ∙ back in
        ap (λ (v : ℕ). PartEnd v g) (sym part) ∙ ap (seat_end seat) is

    one_end : (e : End) (d : Contact) → contact_at r e ≡ Some d → dot_at i pl e ≡ dot → e ≡ seat_end seat at
    one_end (PartEnd q g) d at_r same =
        let (x, there_x) = part_is_there (slice_get r.parts q) g d at_r in
        of_source (pl.source q) q g (w.no_more q x there_x).1 same
    one_end (ImportEnd q g) d at_r same =
        let (x, there_x) = import_is_there (slice_get r.imports q) g d at_r in
        let number : (pl.origin q).number ≡ n = cc same in
        let is : ImportEnd (pl.origin q).import g ≡ at = cc same in
        let import : pl.import n (pl.origin q).import ≡ q = ap (λ (v : ℕ). pl.import v (pl.origin q).import) (sym number) ∙ (w.no_import q x there_x).2 in
        ap (λ (v : ℕ). ImportEnd v g) (sym import) ∙ ap (seat_end seat) is
    one_end (ResultEnd g) d at_r same = absurd (cc same)

    differ : (q v a b : ℕ) → asks q v ≡ serves a b → ⊥
    differ q v a b e = let role : Ask ≡ Serve = ap (λ (k : Contact). k.role) e in cc role

    stands_so : dot_at i pl (seat_end seat at) ≡ dot → StandsIn r (seat_end seat at) → StandsIn p at
    stands_so dot_is (jt, has, stands) =
        let (q, v, at_a, at_b, way) = (w.web.joints jt.asking jt.serving).0 has in
        by_side q v at_a at_b way (which_end (seat_end seat at) jt stands)
      where
        clash : (q v : ℕ) → contact_at r jt.asking ≡ Some (asks q v) → contact_at r jt.serving ≡ Some (serves q v) → jt.asking ≡ jt.serving → ⊥
        clash q v at_a at_b same =
            let both : Some (asks q v) ≡ Some (serves q v) = sym at_a ∙ (ap (contact_at r) same ∙ at_b) in
            let one : asks q v ≡ serves q v = cc both in differ q v q v one

        by_side : (q v : ℕ) → contact_at r jt.asking ≡ Some (asks q v) → contact_at r jt.serving ≡ Some (serves q v)
            → Way (wired_ties types i j m ns env) (dot_at i pl jt.asking) (dot_at i pl jt.serving)
            → (seat_end seat at ≡ jt.asking) ⊎ (seat_end seat at ≡ jt.serving) → StandsIn p at
        by_side q v at_a at_b way (inl one) =
            let from : dot_at i pl jt.asking ≡ dot = ap (dot_at i pl) (sym one) ∙ dot_is in
            elim (first_step (wired_ties types i j m ns env) (dot_at i pl jt.asking) (dot_at i pl jt.serving) way) [
              | inl same ↦ absurd (clash q v at_a at_b (sym one ∙ sym (one_end jt.serving (serves q v) at_b (sym same ∙ from))))
              | inr (c, meet) ↦ of_meet (dot_at i pl jt.asking) c meet (inl from)
            ]
        by_side q v at_a at_b way (inr one) =
            let from : dot_at i pl jt.serving ≡ dot = ap (dot_at i pl) (sym one) ∙ dot_is in
            elim (last_step (wired_ties types i j m ns env) (dot_at i pl jt.asking) (dot_at i pl jt.serving) way) [
              | inl same ↦ absurd (clash q v at_a at_b (one_end jt.asking (asks q v) at_a (same ∙ from) ∙ one))
              | inr (c, meet) ↦ of_meet c (dot_at i pl jt.serving) meet (inr from)
            ]

  pub seated_so : IsSeated (supply_seat pl n r) r (env n).plan
  seated_so =
      record {
        whole_right = w.web.right;
        right = right;
        parts = λ k x at. ((part_so k x at).0, number_so k x at);
        numbers = numbers_so;
        imports = λ k x at. ((w.imports n k x there at).0, origin_so k x at);
        origins = origins_so;
        joints = joint_so;
        stands = λ k h x at. stands_so (PartEnd k h) tt (ap (λ (s : Source). source_dot i s h) (part_so k x at).1);
        heard = λ k h x at. stands_so (ImportEnd k h) tt (ap (λ (o : Origin). Within (suc o.number) (Of (ImportEnd o.import h))) (w.imports n k x there at).1);
      }

pub supplies_are_seated : SuppliesAreSeated
supplies_are_seated types i j m ns env pl r n w there right = seated_so types i j m ns env pl r n w there right
