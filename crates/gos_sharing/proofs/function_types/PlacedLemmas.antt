-- Joints of a plan behind a Share, applied to an argument, and of the plan applied to the argument behind a Share, itself behind one.
use Rattle.std.specs.Prelude.{◌≡◌, ℕ, ◌+◌, ◌-◌, ◌*◌, ◌<◌, Bool, true, false, [], length, Some, slice_get, nat_lt, Contains, if◌then◌else◌}
use Rattle.std.proofs.Common.{refl, sym, ◌∙◌, ap, subst, arith, inl, inr}
use Rattle.std.proofs.lemmas.Bool.Decides.{nat_tests}
use Rattle.std.proofs.lemmas.Option.{slice_get_within, same_Some}
use Rattle.gos_types.specs.declared.shakes.Role.{Role}
use Rattle.gos_types.specs.declared.shakes.Role.TheVariants.{Serve, Ask}
use Rattle.gos_types.specs.Types.{Type', Fun}
use Rattle.gos_types.proofs.ListLemmas.{element_at}
use Rattle.gos_plan.specs.Kinds.{Contact, asks, serves, contacts_of, turned_contact}
use Rattle.gos_plan.specs.Plans.{End, PartEnd, ImportEnd, ResultEnd, Plan, contact_at}
use Rattle.gos_plan.specs.Orderly.{named_by, handshake_at}
use Rattle.gos_plan.specs.Joining.{Place, place, Wiring, origin, IsJoining}
use Rattle.gos_plan.proofs.JointLemmas.{fits, contained}
use Rattle.gos_plan.proofs.ContactLemmas.{turned_contact_twice}
use Rattle.gos_realises.specs.realises.Regular.{count}
use Rattle.gos_realises.specs.realises.Wirings.{applying}
use Rattle.gos_realises.proofs.joined.ReachLemmas.{Step, Paths, paths_then, paths_back, step_back}
use Rattle.gos_joining.specs.webs.Webs.{joint}
use Rattle.gos_supplies.proofs.turns.BetweenLemmas.{fun_first}
use Rattle.gos_sharing.specs.sharing.Sharing.{caller_end}
use Rattle.gos_sharing.proofs.sharing.SeenTokenLemmas.{place_asking, place_serving}
use Rattle.gos_sharing.specs.buffers.Buffering.{end_behind}
use Rattle.gos_sharing.specs.behind.Behind.{outer_joint, IsBehind}
use Rattle.gos_sharing.proofs.behind.BetweenLemmas.{second_of_fun}
use Rattle.gos_sharing.proofs.behind.EndLemmas.{contact_behind, caller_contact, result_is}
use Rattle.gos_sharing.proofs.function_types.BeforeLemmas.{IsResultEnd}
use Rattle.gos_sharing.proofs.function_types.SideLemmas.{moved, first_stays, second_stays, result_stays, link_step, first_step, second_step}

not_result : (i : ℕ) (e : End) → IsResultEnd (end_behind i e) → ⊥
not_result i (PartEnd n h) is = is
not_result i (ImportEnd n h) is = is
not_result i (ResultEnd h) is = is

-- a joint gives its two ends one handshake
pub one_handshake : (r : Plan) (a b : End) → Rattle.gos_plan.specs.Plans.IsRight r → Contains r.joints (joint a b) → handshake_at r a ≡ handshake_at r b
one_handshake r a b right has =
    let here = contained r.joints (joint a b) has in
    ap (λ f. named_by f a) (place_asking r a b right here) ∙ sym (ap (λ f. named_by f b) (place_serving r a b right here))

-- the caller's joint, as a step either way
pub outer_step : (w : Wiring) (i : ℕ) (t : Type') (c : ℕ) (r p : Plan) → IsBehind i t c r p → (n : ℕ) → slice_get w.plans n ≡ Some r → (j : ℕ) (k : Contact)
    → slice_get (contacts_of t) j ≡ Some k → Step w (place n (caller_end i t c j)) (place n (ResultEnd j))
outer_step w i t c r p is n at_n j k at_k = by_role k.role refl
  where
    has : (role : Role) → k.role ≡ role → (x y : End) → outer_joint i t c j role ≡ joint x y → Contains r.joints (joint x y)
    has role same x y e = (is.joints x y).1 (inr (j, k, at_k, sym e ∙ ap (outer_joint i t c j) (sym same)))

    by_role : (role : Role) → k.role ≡ role → Step w (place n (caller_end i t c j)) (place n (ResultEnd j))
    by_role Serve same = inl (r, joint (ResultEnd j) (caller_end i t c j), refl, at_n, has Serve same (ResultEnd j) (caller_end i t c j) refl, inr (refl, refl))
    by_role Ask same = inl (r, joint (caller_end i t c j) (ResultEnd j), refl, at_n, has Ask same (caller_end i t c j) (ResultEnd j) refl, inl (refl, refl))

one_path : (w : Wiring) (a b : Place) → Step w a b → Paths w a b
one_path w a b step = (1, (b, step, refl))

module _ (a b : Type') (c : ℕ) (p q r z y x : Plan) (of_r : IsBehind (length p.parts) (Fun a b) c r p) (of_z : IsBehind (length q.parts) a c z q)
    (of_y : IsJoining (applying a b p z) y) (of_x : IsJoining (applying a b r q) x)
  where
    abbrev P : ℕ
    P = length p.parts

    abbrev Q : ℕ
    Q = length q.parts

    abbrev w : Wiring
    w = applying a b r q

    abbrev v : Wiring
    v = applying a b p z

    abbrev there_x : End → End
    there_x = moved a b r q x of_x

    abbrev there_y : End → End
    there_y = moved a b p z y of_y

    -- an end of the argument in the whole
    abbrev pub in_x : End → End
    in_x (PartEnd n h) = PartEnd (length r.parts + n) h
    in_x (ImportEnd n h) = ImportEnd (length r.imports + n) h
    in_x (ResultEnd j) = caller_end P (Fun a b) c j

    abbrev Leads : Wiring → Plan → End → Place → Contact → Type 0
    Leads w x e l k = Paths w (origin w e) l × (contact_at x e ≡ Some k)

    stays_there : (w : Wiring) (x : Plan) (e : End) (l : Place) (k : Contact) → (origin w e ≡ l) × (contact_at x e ≡ Some k) → Leads w x e l k
    stays_there w x e l k (at_e, there) = ((0, at_e), there)

    pub joined_so : (w : Wiring) (x : Plan) (d e : End) (m l : Place) (s : Step w m l) → IsJoining w x → (o b : ℕ) → Leads w x d m (asks o b) → Leads w x e l (serves o b) → Contains x.joints (joint d e)
    joined_so w x d e m l s joins o b (path, at_d) (back, at_e) =
        let (n, all) = paths_then w (origin w d) m (origin w e) path (paths_then w m l (origin w e) (one_path w m l s) (paths_back w (origin w e) l back)) in
        (joins.joints d e).1 (o, b, n, at_d, at_e, all)

    -- a joint of the function
    pub function_in_x : (d e : End) → Contains p.joints (joint d e) → Contains x.joints (joint (end_behind P d) (end_behind P e))
    function_in_x d e has =
        let fit = fits p [] p.joints (joint d e) of_r.also_right (contained p.joints (joint d e) has) in
        let in_r = (of_r.joints (end_behind P d) (end_behind P e)).1 (inl (d, e, has, refl, refl)) in
        joined_so w x (end_behind P d) (end_behind P e) (place 0 (end_behind P d)) (place 0 (end_behind P e)) (first_step a b r q x of_x (end_behind P d) (end_behind P e) in_r) of_x fit.0 fit.1
        (stays_there w x (end_behind P d) (place 0 (end_behind P d)) (asks fit.0 fit.1)
        (first_stays a b r q x of_x (end_behind P d) (asks fit.0 fit.1) (not_result P d) (contact_behind P (Fun a b) c r p of_r.frame d (asks fit.0 fit.1) fit.2)))
        (stays_there w x (end_behind P e) (place 0 (end_behind P e)) (serves fit.0 fit.1)
        (first_stays a b r q x of_x (end_behind P e) (serves fit.0 fit.1) (not_result P e) (contact_behind P (Fun a b) c r p of_r.frame e (serves fit.0 fit.1) fit.3)))

    -- of the argument
    lead_x : (e : End) (k : Contact) → contact_at q e ≡ Some k → Leads w x (in_x e) (place 1 e) k
    lead_x (PartEnd n h) k there = stays_there w x (PartEnd (length r.parts + n) h) (place 1 (PartEnd n h)) k (second_stays a b r q x of_x (PartEnd n h) k (λ e. e) there)
    lead_x (ImportEnd n h) k there = stays_there w x (ImportEnd (length r.imports + n) h) (place 1 (ImportEnd n h)) k (second_stays a b r q x of_x (ImportEnd n h) k (λ e. e) there)
    lead_x (ResultEnd j) k there =
        let (d, at_d, turned) = result_is Q a c z q of_z.frame j k there in
        let at_t : slice_get (contacts_of (Fun a b)) j ≡ Some k = fun_first a b j d at_d ∙ ap Some (sym turned) in
        let (at_o, at_c) = first_stays a b r q x of_x (caller_end P (Fun a b) c j) k (λ e. e) (caller_contact P (Fun a b) c r p of_r.frame j k at_t) in
        let first_two = paths_then w (place 0 (caller_end P (Fun a b) c j)) (place 0 (ResultEnd j)) (place 1 (ResultEnd j))
        (one_path w (place 0 (caller_end P (Fun a b) c j)) (place 0 (ResultEnd j)) (outer_step w P (Fun a b) c r p of_r 0 refl j k at_t))
        (one_path w (place 0 (ResultEnd j)) (place 1 (ResultEnd j)) (link_step a b r q x of_x j (slice_get_within (contacts_of a) j d at_d)))
        in
        (subst (λ (o : Place). Paths w o (place 1 (ResultEnd j))) (sym at_o) first_two, at_c)

    pub argument_in_x : (d e : End) → Contains q.joints (joint d e) → Contains x.joints (joint (in_x d) (in_x e))
    argument_in_x d e has =
        let fit = fits q [] q.joints (joint d e) of_z.also_right (contained q.joints (joint d e) has) in
        joined_so w x (in_x d) (in_x e) (place 1 d) (place 1 e) (second_step a b r q x of_x d e has) of_x fit.0 fit.1 (lead_x d (asks fit.0 fit.1) fit.2) (lead_x e (serves fit.0 fit.1) fit.3)

    -- in the other plan
    abbrev pub in_y : End → End
    in_y (PartEnd n h) = PartEnd n h
    in_y (ImportEnd n h) = ImportEnd n h
    in_y (ResultEnd j) = if nat_lt j (count a) then PartEnd (P + Q) (count a + c * count a + j) else ResultEnd (j - count a)

    pub low_y : (j : ℕ) → j < count a → in_y (ResultEnd j) ≡ PartEnd (P + Q) (count a + c * count a + j)
    low_y j low =
        let test : nat_lt j (count a) ≡ true = grind (arith, nat_tests, low) in
        ap (λ (t : Bool). if t then PartEnd (P + Q) (count a + c * count a + j) else ResultEnd (j - count a)) test

    pub high_y : (l : ℕ) → in_y (ResultEnd (count a + l)) ≡ ResultEnd l
    high_y l =
        let test : nat_lt (count a + l) (count a) ≡ false = grind (arith, nat_tests) in
        let less : count a + l - count a ≡ l = omega arith in
        ap (λ (t : Bool). if t then PartEnd (P + Q) (count a + c * count a + (count a + l)) else ResultEnd (count a + l - count a)) test ∙ ap ResultEnd less

    lead_y : (e : End) (k : Contact) → contact_at p e ≡ Some k → Leads v y (in_y e) (place 0 e) k
    lead_y (PartEnd n h) k there = stays_there v y (PartEnd n h) (place 0 (PartEnd n h)) k (first_stays a b p z y of_y (PartEnd n h) k (λ e. e) there)
    lead_y (ImportEnd n h) k there = stays_there v y (ImportEnd n h) (place 0 (ImportEnd n h)) k (first_stays a b p z y of_y (ImportEnd n h) k (λ e. e) there)
    lead_y (ResultEnd j) k there = by_test (nat_lt j (count a)) refl
      where
        shake : (d : Contact) × (slice_get (contacts_of (Fun a b)) j ≡ Some d) × (k ≡ turned_contact d)
        shake = result_is P (Fun a b) c r p of_r.frame j k there

        by_test : (t : Bool) → nat_lt j (count a) ≡ t → Leads v y (in_y (ResultEnd j)) (place 0 (ResultEnd j)) k
        by_test true test =
            let low : j < count a = grind (arith, nat_tests, test) in
            let (d, at_d) = element_at (contacts_of a) j low in
            let same : shake.0 ≡ turned_contact d = same_Some shake.0 (turned_contact d) (sym shake.1 ∙ fun_first a b j d at_d) in
            let is_d : d ≡ k = sym (turned_contact_twice d) ∙ (ap turned_contact (sym same) ∙ sym shake.2) in
            let (at_o, at_c) = second_stays a b p z y of_y (caller_end Q a c j) d (λ e. e) (caller_contact Q a c z q of_z.frame j d at_d) in
            let all = paths_then v (place 1 (caller_end Q a c j)) (place 1 (ResultEnd j)) (place 0 (ResultEnd j))
            (one_path v (place 1 (caller_end Q a c j)) (place 1 (ResultEnd j)) (outer_step v Q a c z q of_z 1 refl j d at_d))
            (one_path v (place 1 (ResultEnd j)) (place 0 (ResultEnd j)) (step_back v (place 0 (ResultEnd j)) (place 1 (ResultEnd j)) (link_step a b p z y of_y j low)))
            in
            subst (λ (e : End). Leads v y e (place 0 (ResultEnd j)) k) (sym (low_y j low))
            (subst (λ (o : Place). Paths v o (place 0 (ResultEnd j))) (sym at_o) all, at_c ∙ ap Some is_d)
        by_test false test =
            let sum : j ≡ count a + (j - count a) = grind (arith, nat_tests, test) in
            let at_l : slice_get (contacts_of b) (j - count a) ≡ Some shake.0 = sym (second_of_fun a b (j - count a)) ∙ (ap (slice_get (contacts_of (Fun a b))) (sym sum) ∙ shake.1) in
            subst (λ (n : ℕ). Leads v y (in_y (ResultEnd n)) (place 0 (ResultEnd n)) k) (sym sum)
            (subst (λ (e : End). Leads v y e (place 0 (ResultEnd (count a + (j - count a)))) k) (sym (high_y (j - count a)))
            ((0, refl), result_stays a b p z y of_y (j - count a) shake.0 at_l ∙ ap Some (sym shake.2)))

    pub function_in_y : (d e : End) → Contains p.joints (joint d e) → Contains y.joints (joint (in_y d) (in_y e))
    function_in_y d e has =
        let fit = fits p [] p.joints (joint d e) of_r.also_right (contained p.joints (joint d e) has) in
        joined_so v y (in_y d) (in_y e) (place 0 d) (place 0 e) (first_step a b p z y of_y d e has) of_y fit.0 fit.1 (lead_y d (asks fit.0 fit.1) fit.2) (lead_y e (serves fit.0 fit.1) fit.3)

    pub argument_in_y : (d e : End) → Contains q.joints (joint d e) → Contains y.joints (joint (there_y (end_behind Q d)) (there_y (end_behind Q e)))
    argument_in_y d e has =
        let fit = fits q [] q.joints (joint d e) of_z.also_right (contained q.joints (joint d e) has) in
        let in_z = (of_z.joints (end_behind Q d) (end_behind Q e)).1 (inl (d, e, has, refl, refl)) in
        joined_so v y (there_y (end_behind Q d)) (there_y (end_behind Q e)) (place 1 (end_behind Q d)) (place 1 (end_behind Q e)) (second_step a b p z y of_y (end_behind Q d) (end_behind Q e) in_z) of_y fit.0 fit.1
        (stays_there v y (there_y (end_behind Q d)) (place 1 (end_behind Q d)) (asks fit.0 fit.1)
        (second_stays a b p z y of_y (end_behind Q d) (asks fit.0 fit.1) (not_result Q d) (contact_behind Q a c z q of_z.frame d (asks fit.0 fit.1) fit.2)))
        (stays_there v y (there_y (end_behind Q e)) (place 1 (end_behind Q e)) (serves fit.0 fit.1)
        (second_stays a b p z y of_y (end_behind Q e) (serves fit.0 fit.1) (not_result Q e) (contact_behind Q a c z q of_z.frame e (serves fit.0 fit.1) fit.3)))
