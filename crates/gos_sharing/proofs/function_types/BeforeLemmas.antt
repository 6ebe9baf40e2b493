-- What is before a Share in a plan is before it in what comes of joining others to the plan's result.
use Rattle.std.specs.Prelude.{◌≡◌, ℕ, zero, suc, ◌+◌, ◌-◌, ◌*◌, ◌<◌, Bool, true, false, List, [], ◌∷◌, ◌++◌, ◌⊎◌, length, map, Option, Some, None, slice_get, Contains}
use Rattle.std.proofs.Common.{refl, sym, ◌∙◌, ap, subst, arith, inl, inr}
use Rattle.std.proofs.lemmas.Option.{slice_get_within}
use Rattle.gos_types.specs.Types.{Type'}
use Rattle.gos_types.proofs.ListLemmas.{found_in_front, same_in_front}
use Rattle.gos_model.specs.Typing.{Imported}
use Rattle.gos_plan.specs.Kinds.{Share, Contact, asks, serves}
use Rattle.gos_plan.specs.Plans.{End, PartEnd, ImportEnd, ResultEnd, Joint, Plan, contact_at, contacts_of_part, contacts_of_import}
use Rattle.gos_plan.specs.Tokens.{IsPortEnd}
use Rattle.gos_plan.specs.Joining.{Place, place, Link, Wiring, LeftImport, is_joined, left_among, all_left, all_parts, left_place, origin, IsJoining}
use Rattle.gos_plan.proofs.JointLemmas.{fits, contained, one_joint, which_end}
use Rattle.gos_plan.proofs.ContactLemmas.{part_is_there}
use Rattle.gos_realises.specs.realises.Regular.{count}
use Rattle.gos_realises.proofs.realises.LeftLemmas.{left_list, left_all}
use Rattle.gos_realises.proofs.joined.ReachLemmas.{Step}
use Rattle.gos_joining.specs.webs.Webs.{joint}
use Rattle.gos_joining.specs.webs.Cutting.{Cut, StandsIn, IsInside, lies_at}
use Rattle.gos_joining.proofs.webs.CutLemmas.{stands_by}
use Rattle.gos_joining.proofs.unions.LinkLemmas.{joined_by}
use Rattle.gos_sharing.specs.behind.Source.{IsBefore, HasItsImports}
use Rattle.gos_sharing.specs.function_types.Joined.{wiring, AllPortPlaces}
use Rattle.gos_sharing.proofs.function_types.JoinedLemmas.{stands_first, stands_low, low_origin}

-- a place of the first plan is of its result
abbrev pub IsResultEnd : End → Type 0
IsResultEnd (PartEnd n h) = ⊥
IsResultEnd (ImportEnd n h) = ⊥
IsResultEnd (ResultEnd h) = Unit {0}

abbrev pub IsResultPlace : Place → Type 0
IsResultPlace a = a.plan ≡ 0 → IsResultEnd a.end

abbrev pub AllResults : List Link → Type 0
AllResults ls = (l : Link) → Contains ls l → IsResultPlace l.one × IsResultPlace l.other

result_port : (e : End) → IsResultEnd e → IsPortEnd e
result_port (PartEnd n h) is = is
result_port (ImportEnd n h) is = tt
result_port (ResultEnd h) is = tt

pub results_are_ports : (ls : List Link) → AllResults ls → AllPortPlaces ls
results_are_ports ls all l has = let both = all l has in ((λ same. result_port l.one.end (both.0 same)), λ same. result_port l.other.end (both.1 same))

pub listed_list : (k i : ℕ) (xs : List Imported) (j : ℕ) (x : Imported) → slice_get xs j ≡ Some x → slice_get (left_list k i xs) j ≡ Some (record { plan = k; number = i + j; import = x })
listed_list k i [] j x there = absurd (cc there)
listed_list k i (y ∷ xs) zero x there =
    let e : i ≡ i + 0 = omega arith in
    let same : y ≡ x = cc there in λ l. Some (record { plan = k; number = e l; import = same l })
listed_list k i (y ∷ xs) (suc j) x there =
    listed_list k (suc i) xs j x there ∙ (let e : suc i + j ≡ i + suc j = omega arith in λ l. Some (record { plan = k; number = e l; import = x }))

pub mapped_some : (ls : List LeftImport) (n : ℕ) (l : LeftImport) → slice_get ls n ≡ Some l → slice_get (map (λ y. y.import) ls) n ≡ Some l.import
mapped_some [] n l e = absurd (cc e)
mapped_some (y ∷ ys) zero l e = let same : y ≡ l = cc e in ap (λ z. Some z.import) same
mapped_some (y ∷ ys) (suc n) l e = mapped_some ys n l e

module _ (f : Cut) (i : ℕ) (t : Type') (c : ℕ) (x p : Plan) (is : IsBefore f i t c x p) (ps : List Plan) (ls : List Link) (giver skipped : ℕ) (ty : Type') (kept : AllResults ls) (X : Plan)
    (joins : IsJoining (wiring x ps ls giver skipped ty) X)
  where
    abbrev w : Wiring
    w = wiring x ps ls giver skipped ty

    ports : AllPortPlaces ls
    ports = results_are_ports ls kept

    low_x : (n : ℕ) → n < length x.parts → slice_get X.parts n ≡ slice_get x.parts n
    low_x n low = ap (λ ks. slice_get ks n) joins.parts ∙ same_in_front x.parts (all_parts ps) n low

    -- its imports stay
    none_joined : (n : ℕ) → is_joined ls 0 n ≡ false
    none_joined n = by_test (is_joined ls 0 n) refl
      where
        by_test : (b : Bool) → is_joined ls 0 n ≡ b → b ≡ false
        by_test false e = refl
        by_test true e =
            let (l, has, ends) = joined_by ls 0 n e in
            let both = kept l has in
            elim ends [
              | inl (h, at_l) ↦ absurd (subst IsResultEnd (ap (λ (y : Place). y.end) at_l) (both.0 (ap (λ (y : Place). y.plan) at_l)))
              | inr (h, at_l) ↦ absurd (subst IsResultEnd (ap (λ (y : Place). y.end) at_l) (both.1 (ap (λ (y : Place). y.plan) at_l)))
            ]

    left_first : all_left w ≡ left_list 0 0 x.imports ++ left_among ls 1 ps
    left_first = ap (λ l. l ++ left_among ls 1 ps) (left_all ls 0 none_joined 0 x.imports)

    left_some : (n : ℕ) (y : Imported) → slice_get x.imports n ≡ Some y → slice_get (all_left w) n ≡ Some (record { plan = 0; number = n; import = y })
    left_some n y there =
        let e : 0 + n ≡ n = omega arith in
        ap (λ l. slice_get l n) left_first
        ∙ (found_in_front (left_list 0 0 x.imports) (left_among ls 1 ps) n (record { plan = 0; number = 0 + n; import = y }) (listed_list 0 0 x.imports n y there)
        ∙ (λ l. Some (record { plan = 0; number = e l; import = y })))

    import_some : (n : ℕ) (y : Imported) → slice_get x.imports n ≡ Some y → slice_get X.imports n ≡ Some y
    import_some n y there =
        ap (λ js. slice_get js n) joins.imports ∙ mapped_some (all_left w) n (record { plan = 0; number = n; import = y }) (left_some n y there)

    import_is : (o : Option Imported) (h : ℕ) (k : Contact) → slice_get (contacts_of_import o) h ≡ Some k → (y : Imported) × (o ≡ Some y)
    import_is None h k e = absurd (cc e)
    import_is (Some y) h k e = (y, refl)

    -- ends that are none of the result stay
    abbrev Stays : End → Type 0
    Stays e = (origin w e ≡ place 0 e) × ((k : Contact) → contact_at x e ≡ Some k → contact_at X e ≡ Some k)

    stays : (e : End) (k : Contact) → (IsResultEnd e → ⊥) → contact_at x e ≡ Some k → Stays e
    stays (ResultEnd h) k own there = absurd (own tt)
    stays (PartEnd n h) k own there =
        let (part, at_part) = part_is_there (slice_get x.parts n) h k there in
        let low = slice_get_within x.parts n part at_part in
        (low_origin x ps ls giver skipped ty X ports joins n h low, λ d at_d. ap (λ y. slice_get (contacts_of_part y) h) (low_x n low) ∙ at_d)
    stays (ImportEnd n h) k own there =
        let (y, at_y) = import_is (slice_get x.imports n) h k there in (
          ap (λ o. left_place o h) (left_some n y at_y),
          λ d at_d. ap (λ o. slice_get (contacts_of_import o) h) (import_some n y at_y ∙ sym at_y) ∙ at_d,
        )

    joint_stays : (a b : End) → (IsResultEnd a → ⊥) → (IsResultEnd b → ⊥) → Contains x.joints (joint a b) → Contains X.joints (joint a b)
    joint_stays a b own also has =
        let fit = fits x [] x.joints (joint a b) is.cut.whole_right (contained x.joints (joint a b) has) in
        let at_a = stays a (asks fit.0 fit.1) own fit.2 in
        let at_b = stays b (serves fit.0 fit.1) also fit.3 in
        (joins.joints a b).1 (
          fit.0,
          fit.1,
          1,
          at_a.1 (asks fit.0 fit.1) fit.2,
          at_b.1 (serves fit.0 fit.1) fit.3,
          (
            place 0 b,
            inl (subst (λ (y : Place). Rattle.gos_plan.specs.Joining.JoinedWithin w y (place 0 b)) (sym at_a.0) (x, joint a b, refl, refl, has, inl (refl, refl))),
            sym at_b.0,
          ),
        )

    -- where the region's ends lie
    outer_own : (e : End) → IsPortEnd e → StandsIn p e → IsResultEnd (f.outer e) → ⊥
    outer_own (PartEnd n h) port stood is_result = port
    outer_own (ImportEnd n h) port stood is_result = let (m, l, at_m) = is.ports n h stood in subst IsResultEnd at_m is_result
    outer_own (ResultEnd j) port stood is_result = subst IsResultEnd (is.source j stood) is_result

    lies_own : (e : End) → StandsIn p e → IsResultEnd (lies_at f e) → ⊥
    lies_own (PartEnd n h) stood is_result = is_result
    lies_own (ImportEnd n h) stood is_result = outer_own (ImportEnd n h) tt stood is_result
    lies_own (ResultEnd h) stood is_result = outer_own (ResultEnd h) tt stood is_result

    joint_lies : (a b : End) → Contains p.joints (joint a b) → Contains X.joints (joint (lies_at f a) (lies_at f b))
    joint_lies a b has =
        joint_stays (lies_at f a) (lies_at f b) (lies_own a (joint a b, has, stands_by a (joint a b) (inl refl))) (lies_own b (joint a b, has, stands_by b (joint a b) (inr refl)))
        (is.cut.joints a b has)

    share_low : i < length x.parts
    share_low = slice_get_within x.parts i (Share t) is.share

    number_low : (n j : ℕ) → f.number n ≡ Some j → n < length x.parts
    number_low n j e =
        let (same, (k, there)) = is.cut.numbers n j e in
        slice_get_within x.parts n k (ap (slice_get x.parts) (sym same) ∙ (is.cut.parts j k there).0)

    abbrev Lies : End → End → Type 0
    Lies a b = (d e : End) × Contains p.joints (joint d e) × (lies_at f d ≡ a) × (lies_at f e ≡ b)

    inside_joint : (a b : End) (y : End) → IsInside f y → (y ≡ a) ⊎ (y ≡ b) → Contains X.joints (joint a b) → Lies a b
    inside_joint a b (ImportEnd n h) inside which has = absurd inside
    inside_joint a b (ResultEnd h) inside which has = absurd inside
    inside_joint a b (PartEnd n h) (j, number) which has =
        of_joint (stands_low x ps ls giver skipped ty X ports joins n h (number_low n j number) (joint a b, has, stands_by (PartEnd n h) (joint a b) which))
      where
        of_joint : StandsIn x (PartEnd n h) → Lies a b
        of_joint (k, has_k, stands) =
            let within : IsInside f k.asking ⊎ IsInside f k.serving = elim (which_end (PartEnd n h) k stands) [
              | inl one ↦ inl (subst (IsInside f) one (j, number))
              | inr one ↦ inr (subst (IsInside f) one (j, number))
            ] in
            let (d, e, here, at_d, at_e) = is.cut.all k.asking k.serving has_k within in
            let there = joint_lies d e here in
            let there_k : Contains X.joints k = subst (λ (y : Joint). Contains X.joints y) (λ l. joint (at_d l) (at_e l)) there in
            let one : k ≡ joint a b =
            one_joint X [] X.joints k (joint a b) (PartEnd n h) joins.right (contained X.joints k there_k) (contained X.joints (joint a b) has) stands (stands_by (PartEnd n h) (joint a b) which)
            in
            (d, e, here, at_d ∙ ap (λ (y : Joint). y.asking) one, at_e ∙ ap (λ (y : Joint). y.serving) one)

    port_contact : (e : End) → IsPortEnd e → StandsIn p e → contact_at X (f.outer e) ≡ contact_at p e
    port_contact e port stood =
        let (j, has, stands) = stood in
        let fit = fits p [] p.joints j is.cut.right (contained p.joints j has) in
        elim (which_end e j stands) [
          | inl one ↦ with_contact (asks fit.0 fit.1) (ap (contact_at p) one ∙ fit.2)
          | inr one ↦ with_contact (serves fit.0 fit.1) (ap (contact_at p) one ∙ fit.3)
        ]
      where
        with_contact : (k : Contact) → contact_at p e ≡ Some k → contact_at X (f.outer e) ≡ contact_at p e
        with_contact k at_k =
            let mine = is.cut.contacts e port stood ∙ at_k in (stays (f.outer e) k (outer_own e port stood) mine).1 k mine ∙ sym at_k

    pub joined_before : IsBefore f i t c X p
    joined_before =
        record {
          cut =
              record {
                whole_right = joins.right;
                right = is.cut.right;
                parts = λ n k there. (let both = is.cut.parts n k there in
                    (low_x (f.part n) (slice_get_within x.parts (f.part n) k both.0) ∙ both.0, both.1));
                numbers = is.cut.numbers;
                ports = is.cut.ports;
                inners = is.cut.inners;
                contacts = port_contact;
                joints = joint_lies;
                all = λ a b has inside. elim inside [
                  | inl one ↦ inside_joint a b a one (inl refl) has
                  | inr one ↦ inside_joint a b b one (inr refl) has
                ];
              };
          share = low_x i share_low ∙ is.share;
          caller = is.caller;
          outcome = is.outcome;
          outside = is.outside;
          alone = λ j low stood. is.alone j low (stands_low x ps ls giver skipped ty X ports joins i (count t + (1 - c) * count t + j) share_low stood);
          source = is.source;
          joined = λ j low stood. is.joined j low (stands_low x ps ls giver skipped ty X ports joins i j share_low stood);
          ports = is.ports;
        }

    -- an import's end that stands in a joint of the whole stands in one of its plan
    import_step : (n h : ℕ) (a : Place) → Step w (place 0 (ImportEnd n h)) a → StandsIn x (ImportEnd n h)
    import_step n h a (inl (q, j, same, at_q, has, ways)) =
        let is_x : x ≡ q = cc at_q in
        let has_x = subst (λ (y : Plan). Contains y.joints j) (sym is_x) has in
        elim ways [
          | inl (e, g) ↦ (j, has_x, stands_by (ImportEnd n h) j (inl e))
          | inr (e, g) ↦ (j, has_x, stands_by (ImportEnd n h) j (inr e))
        ]
    import_step n h a (inr (l, has, inl (e, g))) = absurd (subst IsResultPlace (sym e) (kept l has).0 refl)
    import_step n h a (inr (l, has, inr (e, g))) = absurd (subst IsResultPlace (sym e) (kept l has).1 refl)

    -- so the region has an import of the whole where it has it in its plan
    pub joined_has : HasItsImports f x p → HasItsImports f X p
    joined_has has n h m l g k stood at_m at_l role joined =
        let at_x : contact_at x (ImportEnd m l) ≡ Some k =
        ap (contact_at x) (sym at_m)
        ∙ (is.cut.contacts (ImportEnd n h) tt stood ∙ (sym (port_contact (ImportEnd n h) tt stood) ∙ (ap (contact_at X) at_m ∙ at_l)))
        in
        let (y, there) = import_is (slice_get x.imports m) l k at_x in
        has n h m l g k stood at_m at_x role
        (stands_first x ps ls giver skipped ty X ports joins (ImportEnd m g) (ap (λ o. left_place o g) (left_some m y there)) (import_step m g) joined)
