-- A plan behind a Share, applied to an argument, is split into the plan applied to the argument behind a Share, itself behind one.
use Rattle.std.specs.Prelude.{◌≡◌, ◌≢◌, ℕ, suc, ◌+◌, ◌-◌, ◌*◌, ◌<◌, Bool, true, false, [], ◌⊎◌, length, Some, slice_get, nat_eq, Contains}
use Rattle.std.proofs.Common.{refl, sym, ◌∙◌, ap, subst, arith, inl, inr}
use Rattle.std.proofs.lemmas.Option.{slice_get_within, same_Some}
use Rattle.gos_types.specs.declared.shakes.Role.{Role}
use Rattle.gos_types.specs.declared.shakes.Role.TheVariants.{Serve, Ask}
use Rattle.gos_types.specs.Types.{Type', Fun}
use Rattle.gos_types.proofs.ListLemmas.{element_at}
use Rattle.gos_plan.specs.Kinds.{Share, Contact, asks, serves, contacts_of, turned_contact}
use Rattle.gos_plan.specs.Plans.{End, PartEnd, ImportEnd, ResultEnd, Joint, Plan, IsRight, contact_at, contacts_of_part, contacts_of_import}
use Rattle.gos_plan.specs.Orderly.{handshake_at}
use Rattle.gos_plan.specs.Joining.{Place, place, Wiring, Path, Connects, origin, IsJoining}
use Rattle.gos_plan.proofs.JointLemmas.{fits}
use Rattle.gos_plan.proofs.ContactLemmas.{as_asks, as_serves}
use Rattle.gos_realises.specs.realises.Regular.{count}
use Rattle.gos_realises.specs.realises.Wirings.{applying}
use Rattle.gos_realises.proofs.realises.GroundTurnLemmas.{count_fun}
use Rattle.gos_realises.proofs.joined.ReachLemmas.{Step, step_back}
use Rattle.gos_joining.specs.webs.Webs.{joint}
use Rattle.gos_joining.specs.webs.Cutting.{StandsIn}
use Rattle.gos_joining.proofs.webs.CutLemmas.{stands_by}
use Rattle.gos_joining.proofs.webs.MovedLemmas.{listed}
use Rattle.gos_sharing.specs.sharing.Sharing.{caller_end}
use Rattle.gos_sharing.specs.buffers.Buffering.{end_behind}
use Rattle.gos_sharing.proofs.buffers.HousedLemmas.{Together, together, is_contact, not_both}
use Rattle.gos_sharing.specs.behind.Behind.{outer_joint, IsBehind}
use Rattle.gos_sharing.proofs.behind.BetweenLemmas.{second_of_fun}
use Rattle.gos_sharing.proofs.behind.EndLemmas.{owned_contact, contact_behind, caller_contact}
use Rattle.gos_sharing.specs.function_types.Split.{Splitting, IsUsed, IsSplit}
use Rattle.gos_sharing.proofs.function_types.NumberLemmas as numbered
use Rattle.gos_sharing.proofs.function_types.SideLemmas.{first_stays, result_stays}
use Rattle.gos_sharing.proofs.function_types.StandLemmas.{share_stands, part_side, import_side, first_origin, second_origin, stands_first, stands_second, low_or_more}
use Rattle.gos_sharing.proofs.function_types.PlacedLemmas.{outer_step}
use Rattle.gos_sharing.proofs.function_types.HomeLemmas as homes
use Rattle.gos_sharing.proofs.function_types.FrameLemmas.{bare}
use Rattle.gos_sharing.proofs.function_types.FrameLemmas as frames
use Rattle.gos_sharing.proofs.function_types.JoinedLemmas.{share_source, share_caller, contact_moved}

-- two ends of one handshake, of which the one asks and the other serves, are those of a joint
joint_of : (r : Plan) → IsRight r → (d e : End) (o v : ℕ) → contact_at r d ≡ Some (asks o v) → contact_at r e ≡ Some (serves o v) → handshake_at r d ≡ handshake_at r e → Contains r.joints (joint d e)
joint_of r right d e o v at_d at_e same = by_joint (together r d e right apart same)
  where
    apart : d ≢ e
    apart one = not_both o v o v (is_contact r d (asks o v) (serves o v) at_d (ap (contact_at r) one ∙ at_e))

    by_joint : Together r d e → Contains r.joints (joint d e)
    by_joint (inl here) = listed r.joints (joint d e) here
    by_joint (inr here) =
        let fit = fits r [] r.joints (joint e d) right here in
        absurd (not_both o v fit.0 fit.1 (is_contact r d (asks o v) (serves fit.0 fit.1) at_d fit.3))

module _ (a b : Type') (c : ℕ) (p q r z y x u : Plan) (of_r : IsBehind (length p.parts) (Fun a b) c r p) (of_z : IsBehind (length q.parts) a c z q)
    (of_y : IsJoining (applying a b p z) y) (of_x : IsJoining (applying a b r q) x) (of_u : IsBehind (suc (length p.parts + length q.parts)) b c u y)
  where
    abbrev P : ℕ
    P = length p.parts

    abbrev Q : ℕ
    Q = length q.parts

    abbrev I : ℕ
    I = suc (P + Q)

    abbrev t : Type'
    t = Fun a b

    abbrev w : Wiring
    w = applying a b r q

    abbrev v : Wiring
    v = applying a b p z

    abbrev pub numbers : Splitting
    numbers = numbered.numbers a b c P Q

    abbrev new : End → End
    new = numbered.new_end a b c P Q

    abbrev old : End → End
    old = numbered.old_end a b c P Q

    abbrev at_home : Place → End
    at_home l = homes.home_x a b c p q r z y x u of_r of_z of_y of_x of_u l.plan l.end

    abbrev at_other : Place → End
    at_other l = homes.home_y a b c p q r z y x u of_r of_z of_y of_x of_u l.plan l.end

    size : count t ≡ count a + count b
    size = count_fun a b

    bare_split : IsSplit numbers (bare x) (bare u)
    bare_split = frames.bare_split a b c p q r z y x u of_r of_z of_y of_x of_u

    origin_x : (e : End) (k : Contact) → contact_at x e ≡ Some k → at_home (origin w e) ≡ e
    origin_x (PartEnd n h) k there =
        elim (part_side a b r q x of_x n h k there) [
          | inl low ↦ ap at_home (first_origin a b r q x of_x n h low)
          | inr (m, sum, low) ↦
              ap (λ (l : ℕ). at_home (origin w (PartEnd l h))) sum ∙ (ap at_home (second_origin a b r q x of_x m h low) ∙ ap (λ (l : ℕ). PartEnd l h) (sym sum))
        ]
    origin_x (ImportEnd n h) k there =
        elim (import_side a b r q x of_x n h k there) [
          | inl e ↦ ap at_home e
          | inr (m, sum, e) ↦ ap at_home e ∙ ap (λ (l : ℕ). ImportEnd l h) (sym sum)
        ]
    origin_x (ResultEnd h) k there = homes.high_home a b c p q r z y x u of_r of_z of_y of_x of_u h

    named_u : (d e : End) (k l : Contact) → contact_at x d ≡ Some k → contact_at x e ≡ Some l → (n : ℕ) → Path w n (origin w d) (origin w e)
        → handshake_at u (new d) ≡ handshake_at u (new e)
    named_u d e k l at_d at_e n path =
        ap (λ (m : End). handshake_at u (new m)) (sym (origin_x d k at_d))
        ∙ (homes.path_u a b c p q r z y x u of_r of_z of_y of_x of_u n (origin w d) (origin w e) path
        ∙ ap (λ (m : End). handshake_at u (new m)) (origin_x e l at_e))

    used_x : (e : End) → StandsIn x e → IsUsed numbers e
    used_x (ImportEnd n h) stood = tt
    used_x (ResultEnd h) stood = tt
    used_x (PartEnd n h) stood = by_test (nat_eq n P) refl
      where
        by_test : (s : Bool) → nat_eq n P ≡ s → IsUsed numbers (PartEnd n h)
        by_test true test =
            let same : n ≡ P = grind (arith, test) in
            let s = homes.r_size a b c p q r z y x u of_r of_z of_y of_x of_u in
            inr (
              same,
              share_stands P t c r p of_r h
                  (stands_first a b r q x of_x P h (omega (arith, s)) (subst (λ (m : ℕ). StandsIn x (PartEnd m h)) same stood)),
            )
        by_test false test = inl (λ e. let s : nat_eq n P ≡ true = grind (arith, e) in let clash : true ≡ false = sym s ∙ test in cc clash)

    joints_u : (d e : End) → Contains x.joints (joint d e) → Contains u.joints (joint (new d) (new e))
    joints_u d e has = of_connects ((of_x.joints d e).0 has)
      where
        of_connects : Connects w x d e → Contains u.joints (joint (new d) (new e))
        of_connects (o, g, n, at_d, at_e, path) =
            joint_of u of_u.right (new d) (new e) o g
            (contact_moved numbers (bare x) (bare u) bare_split d (used_x d (joint d e, has, stands_by d (joint d e) (inl refl))) (asks o g) at_d)
            (contact_moved numbers (bare x) (bare u) bare_split e (used_x e (joint d e, has, stands_by e (joint d e) (inr refl))) (serves o g) at_e)
            (named_u d e (asks o g) (serves o g) at_d at_e n path)

    -- back
    old_result : (h : ℕ) → h < count b → old (PartEnd I h) ≡ PartEnd P (count a + h)
    old_result h low =
        numbered.second_old a b c P Q h
        ∙ numbered.so h (count b) (PartEnd P (count a + h)) (PartEnd P (numbered.callers a b c P Q t + (count a + (h - numbered.callers a b c P Q b)))) low

    origin_y : (e : End) (k : Contact) → contact_at y e ≡ Some k → at_other (origin v e) ≡ old (end_behind I e)
    origin_y (PartEnd n h) k there =
        elim (part_side a b p z y of_y n h k there) [
          | inl low ↦
              ap at_other (first_origin a b p z y of_y n h low)
              ∙ sym (numbered.other_old a b c P Q n h (λ e. omega (arith, e, low)) (λ e. omega (arith, e, low)) ∙ ap (λ (m : ℕ). PartEnd m h) (numbered.old_low a b c P Q n low))
          | inr (m, sum, low) ↦
              ap (λ (l : ℕ). at_other (origin v (PartEnd l h))) sum
              ∙ (ap at_other (second_origin a b p z y of_y m h low) ∙ (elim (low_or_more m Q) [
                | inl small ↦
                    (let e : suc (P + m) ≡ suc P + m = omega arith in
                    homes.part_home a b c p q r z y x u of_r of_z of_y of_x of_u m h (λ e. omega (arith, e, small))
                    ∙ sym (ap (λ (l : ℕ). old (PartEnd l h)) sum
                    ∙ (numbered.other_old a b c P Q (P + m) h (λ e. omega (arith, e, small)) (λ e. omega (arith, e, small))
                    ∙ (ap (λ (l : ℕ). PartEnd l h) (numbered.old_argument a b c P Q (P + m) (omega arith) (omega (arith, small))) ∙ ap (λ (l : ℕ). PartEnd l h) e))))
                | inr (l, more) ↦
                    (let s = homes.z_size a b c p q r z y x u of_r of_z of_y of_x of_u in
                    let same : m ≡ Q = omega (arith, low, more, s) in
                    let at_first : n ≡ P + Q = omega (arith, sum, same) in
                    ap (λ (l : ℕ). at_other (place 1 (PartEnd l h))) same
                    ∙ (homes.share_home a b c p q r z y x u of_r of_z of_y of_x of_u h
                    ∙ sym (ap (λ (l : ℕ). old (PartEnd l h)) at_first ∙ numbered.first_old a b c P Q h)))
              ]))
        ]
    origin_y (ImportEnd n h) k there =
        elim (import_side a b p z y of_y n h k there) [
          | inl e ↦ ap at_other e
          | inr (m, sum, e) ↦ ap at_other e ∙ ap (λ (l : ℕ). ImportEnd l h) (sym sum)
        ]
    origin_y (ResultEnd h) k there = sym (old_result h (owned_contact I b c u y of_u.frame (ResultEnd h) k there))

    named_x : (d e : End) (k l : Contact) → contact_at y d ≡ Some k → contact_at y e ≡ Some l → (n : ℕ) → Path v n (origin v d) (origin v e)
        → handshake_at x (old (end_behind I d)) ≡ handshake_at x (old (end_behind I e))
    named_x d e k l at_d at_e n path =
        ap (handshake_at x) (sym (origin_y d k at_d))
        ∙ (homes.path_x a b c p q r z y x u of_r of_z of_y of_x of_u n (origin v d) (origin v e) path ∙ ap (handshake_at x) (origin_y e l at_e))

    -- where an end of the other plan comes from
    abbrev Back : End → Type 0
    Back e =
        (d : End) × (old (end_behind I e) ≡ d) × (new d ≡ end_behind I e) × IsUsed numbers d × (l : Contact) × (contact_at x d ≡ Some l)

    wide : slice_get x.parts P ≡ Some (Share t)
    wide = frames.wide a b c p q r z y x u of_r of_z of_y of_x of_u

    back_source : (e : End) (j : ℕ) → j < count t → old (end_behind I e) ≡ PartEnd P j → new (PartEnd P j) ≡ end_behind I e → Back e
    back_source e j low from to =
        let (d, at_d) = element_at (contacts_of t) j low in
        (PartEnd P j, from, to, inr (refl, inl low), turned_contact d, share_source x P t j d wide at_d)

    back_caller : (e : End) (j : ℕ) → j < count t → old (end_behind I e) ≡ caller_end P t c j → new (caller_end P t c j) ≡ end_behind I e → Back e
    back_caller e j low from to =
        let (d, at_d) = element_at (contacts_of t) j low in
        (caller_end P t c j, from, to, inr (refl, inr (j, low, refl)), d, share_caller x P t c of_r.frame.caller j d wide at_d)

    back_of : (e : End) → StandsIn y e → (k : Contact) → contact_at y e ≡ Some k → Back e
    back_of (ResultEnd h) stood k there =
        let low = owned_contact I b c u y of_u.frame (ResultEnd h) k there in
        let s = size in
        back_source (ResultEnd h) (count a + h) (omega (arith, low, s)) (old_result h low) (numbered.outcome_source a b c P Q h low)
    back_of (ImportEnd n h) stood k there =
        let same = sym (frames.same_imports a b c p q r z y x u of_r of_z of_y of_x of_u) ∙ of_u.frame.imports in
        (ImportEnd n h, refl, refl, tt, k, ap (λ js. slice_get (contacts_of_import (slice_get js n)) h) same ∙ there)
    back_of (PartEnd n h) stood k there = by_test (nat_eq n (P + Q)) refl
      where
        of_share : (h < count a) ⊎ ((j : ℕ) × (j < count a) × (h ≡ count a + c * count a + j)) → n ≡ P + Q → Back (PartEnd n h)
        of_share (inl low) same =
            let s = size in
            back_caller (PartEnd n h) h (omega (arith, low, s))
            (ap (λ (l : ℕ). old (PartEnd l h)) same
            ∙ (numbered.first_old a b c P Q h ∙ homes.source_home a b c p q r z y x u of_r of_z of_y of_x of_u h low))
            (numbered.argument_caller a b c P Q h low ∙ ap (λ (l : ℕ). PartEnd l h) (sym same))
        of_share (inr (j, low, e)) same =
            let s = size in
            back_source (PartEnd n h) j (omega (arith, low, s))
            ((λ l. old (PartEnd (same l) (e l)))
            ∙ (numbered.first_old a b c P Q (count a + c * count a + j) ∙ homes.caller_home a b c p q r z y x u of_r of_z of_y of_x of_u j))
            (numbered.argument_source a b c P Q j low ∙ sym (λ l. PartEnd (same l) (e l)))

        by_test : (s : Bool) → nat_eq n (P + Q) ≡ s → Back (PartEnd n h)
        by_test true test =
            let same : n ≡ P + Q = grind (arith, test) in
            let s = homes.z_size a b c p q r z y x u of_r of_z of_y of_x of_u in
            of_share (share_stands Q a c z q of_z h (stands_second a b p z y of_y Q h (omega (arith, s)) (subst (λ (m : ℕ). StandsIn y (PartEnd m h)) same stood))) same
        by_test false test =
            let one : n ≢ P + Q = (λ e. let s : nat_eq n (P + Q) ≡ true = grind (arith, e) in let clash : true ≡ false = sym s ∙ test in cc clash) in
            let low = owned_contact I b c u y of_u.frame (PartEnd n h) k there in
            let s = frames.y_size a b c p q r z y x u of_r of_z of_y of_x of_u in
            let other : n ≢ suc (P + Q) = (λ e. omega (arith, e, low, s)) in
            let (back, own) = numbered.back_facts a b c P Q n one other in
            let to = numbered.other_end a b c P Q (numbered.old_part a b c P Q n) h own ∙ ap (λ (m : ℕ). PartEnd m h) back in (
              PartEnd (numbered.old_part a b c P Q n) h,
              numbered.other_old a b c P Q n h one other,
              to,
              inl own,
              k,
              ap (λ m. slice_get (contacts_of_part m) h) (sym (bare_split.parts (numbered.old_part a b c P Q n) own).0 ∙ ap (slice_get u.parts) back)
                  ∙ contact_behind I b c u y of_u.frame (PartEnd n h) k there,
            )

    old_contact : (e : End) (k : Contact) → contact_at y e ≡ Some k → (s : Back e) → contact_at x (old (end_behind I e)) ≡ Some k
    old_contact e k there (d, from, to, used, l, at_l) =
        let moved = contact_moved numbers (bare x) (bare u) bare_split d used l at_l in
        let same : l ≡ k = same_Some l k (sym moved ∙ (ap (contact_at u) to ∙ contact_behind I b c u y of_u.frame e k there)) in
        ap (contact_at x) from ∙ (at_l ∙ ap Some same)

    new_old : (e : End) → Back e → new (old (end_behind I e)) ≡ end_behind I e
    new_old e (d, from, to, used, l, at_l) = ap new from ∙ to

    abbrev From : End → End → Type 0
    From m n = (d : End) × (e : End) × Contains x.joints (joint d e) × (new d ≡ m) × (new e ≡ n)

    of_y_joint : (m n d e : End) → Contains y.joints (joint d e) → m ≡ end_behind I d → n ≡ end_behind I e → From m n
    of_y_joint m n d e has at_m at_n = of_connects ((of_y.joints d e).0 has)
      where
        of_connects : Connects v y d e → From m n
        of_connects (o, g, l, at_d, at_e, path) =
            let one = back_of d (joint d e, has, stands_by d (joint d e) (inl refl)) (asks o g) at_d in
            let other = back_of e (joint d e, has, stands_by e (joint d e) (inr refl)) (serves o g) at_e in (
              old (end_behind I d),
              old (end_behind I e),
              joint_of x of_x.right (old (end_behind I d)) (old (end_behind I e)) o g (old_contact d (asks o g) at_d one) (old_contact e (serves o g) at_e other)
                  (named_x d e (asks o g) (serves o g) at_d at_e l path),
              new_old d one ∙ sym at_m,
              new_old e other ∙ sym at_n,
            )

    -- the joints of the outcome's caller
    module _ (j : ℕ) (k : Contact) (at_k : slice_get (contacts_of b) j ≡ Some k) where
      abbrev far : End
      far = caller_end P t c (count a + j)

      at_t : slice_get (contacts_of t) (count a + j) ≡ Some k
      at_t = second_of_fun a b j ∙ at_k

      far_is : (origin w far ≡ place 0 far) × (contact_at x far ≡ Some k)
      far_is = first_stays a b r q x of_x far k (λ e. e) (caller_contact P t c r p of_r.frame (count a + j) k at_t)

      near_is : contact_at x (ResultEnd j) ≡ Some (turned_contact k)
      near_is = result_stays a b r q x of_x j k at_k

      step : Step w (place 0 far) (place 0 (ResultEnd (count a + j)))
      step = outer_step w P t c r p of_r 0 refl (count a + j) k at_t

      new_far : new far ≡ caller_end I b c j
      new_far = numbered.outcome_caller a b c P Q j (slice_get_within (contacts_of b) j k at_k)

      path_out : Path w 1 (origin w far) (origin w (ResultEnd j))
      path_out = subst (λ (l : Place). Path w 1 l (origin w (ResultEnd j))) (sym far_is.0) (place 0 (ResultEnd (count a + j)), step, refl)

      path_in : Path w 1 (origin w (ResultEnd j)) (origin w far)
      path_in =
          subst (λ (l : Place). Path w 1 (origin w (ResultEnd j)) l) (sym far_is.0)
          (place 0 far, step_back w (place 0 far) (place 0 (ResultEnd (count a + j))) step, refl)

      outer_from : (role : Role) → k.role ≡ role → (m n : End) → joint m n ≡ outer_joint I b c j role → From m n
      outer_from Serve same m n equal = (
        ResultEnd j,
        far,
        (of_x.joints (ResultEnd j) far).1
            (k.ask_bits, k.answer_bits, 1, near_is ∙ ap (λ l. Some (turned_contact l)) (as_serves k same), far_is.1 ∙ ap Some (as_serves k same), path_in),
        sym (ap (λ (l : Joint). l.asking) equal),
        new_far ∙ sym (ap (λ (l : Joint). l.serving) equal),
      )
      outer_from Ask same m n equal = (
        far,
        ResultEnd j,
        (of_x.joints far (ResultEnd j)).1
            (k.ask_bits, k.answer_bits, 1, far_is.1 ∙ ap Some (as_asks k same), near_is ∙ ap (λ l. Some (turned_contact l)) (as_asks k same), path_out),
        new_far ∙ sym (ap (λ (l : Joint). l.asking) equal),
        sym (ap (λ (l : Joint). l.serving) equal),
      )

    all_u : (m n : End) → Contains u.joints (joint m n) → From m n
    all_u m n has =
        elim ((of_u.joints m n).0 has) [
          | inl (d, e, in_y, at_m, at_n) ↦ of_y_joint m n d e in_y at_m at_n
          | inr (j, k, at_k, equal) ↦ outer_from j k at_k k.role refl m n equal
        ]

    pub applied_split : IsSplit numbers x u
    applied_split =
        record {
          chosen = bare_split.chosen;
          wide_share = bare_split.wide_share;
          argument_share = bare_split.argument_share;
          outcome_share = bare_split.outcome_share;
          apart = bare_split.apart;
          right = of_x.right;
          also_right = of_u.right;
          imports = bare_split.imports;
          outcome = bare_split.outcome;
          parts = bare_split.parts;
          others = bare_split.others;
          ports = bare_split.ports;
          ends = bare_split.ends;
          argument_source = bare_split.argument_source;
          argument_caller = bare_split.argument_caller;
          outcome_source = bare_split.outcome_source;
          outcome_caller = bare_split.outcome_caller;
          used = used_x;
          returns = bare_split.returns;
          joints = joints_u;
          all = all_u;
        }
