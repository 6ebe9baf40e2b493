-- Where the places of either joining stand in the other plan: what a joint or a link joins has one handshake there.
use Rattle.std.specs.Prelude.{◌≡◌, ◌≢◌, ℕ, zero, suc, ◌+◌, ◌-◌, ◌*◌, ◌<◌, ◌≤◌, Bool, true, false, List, [], ◌∷◌, ◌++◌, length, Some, slice_get, nat_eq, nat_lt, Contains, if◌then◌else◌}
use Rattle.std.proofs.Common.{refl, sym, ◌∙◌, ap, subst, arith, inl, inr}
use Rattle.std.proofs.lemmas.Bool.Decides.{nat_tests}
use Rattle.std.proofs.lemmas.Option.{slice_get_within}
use Rattle.gos_types.specs.declared.shakes.Role.{Role}
use Rattle.gos_types.specs.declared.shakes.Role.TheVariants.{Serve, Ask}
use Rattle.gos_types.specs.Types.{Type', Fun}
use Rattle.gos_plan.specs.Kinds.{Part, Share, Contact, asks, serves, contacts_of}
use Rattle.gos_plan.specs.Plans.{End, PartEnd, ImportEnd, ResultEnd, Joint, Plan}
use Rattle.gos_plan.specs.Orderly.{handshake_at}
use Rattle.gos_plan.specs.Joining.{Place, Link, Wiring, Path, IsJoining}
use Rattle.gos_plan.proofs.JointLemmas.{fits, contained}
use Rattle.gos_realises.specs.realises.Regular.{count}
use Rattle.gos_realises.specs.realises.Wirings.{link, applying}
use Rattle.gos_realises.proofs.realises.GroundTurnLemmas.{count_fun}
use Rattle.gos_realises.proofs.joined.ReachLemmas.{Step}
use Rattle.gos_joining.specs.webs.Webs.{joint}
use Rattle.gos_sharing.specs.sharing.Sharing.{caller_end}
use Rattle.gos_sharing.specs.buffers.Buffering.{end_behind}
use Rattle.gos_sharing.specs.behind.Behind.{outer_joint, IsBehind}
use Rattle.gos_sharing.proofs.behind.BetweenLemmas.{second_of_fun}
use Rattle.gos_sharing.proofs.behind.EndLemmas.{Owned, owned_contact}
use Rattle.gos_sharing.proofs.function_types.SideLemmas.{moved, linked_is}
use Rattle.gos_sharing.proofs.function_types.NumberLemmas as numbered
use Rattle.gos_sharing.proofs.function_types.PlacedLemmas.{one_handshake}
use Rattle.gos_sharing.proofs.function_types.PlacedLemmas as placed

pub one_longer : (xs : List Part) (k : Part) → length (xs ++ (k ∷ [])) ≡ suc (length xs)
one_longer [] k = refl
one_longer (x ∷ xs) k = ap suc (one_longer xs k)

-- one of the caller's joints gives its two ends one handshake
outer_named : (u : Plan) (i : ℕ) (t : Type') (c : ℕ) (y : Plan) → IsBehind i t c u y → (j : ℕ) (k : Contact) → slice_get (contacts_of t) j ≡ Some k
    → handshake_at u (ResultEnd j) ≡ handshake_at u (caller_end i t c j)
outer_named u i t c y is j k at_k = by_role k.role refl
  where
    by_role : (role : Role) → k.role ≡ role → handshake_at u (ResultEnd j) ≡ handshake_at u (caller_end i t c j)
    by_role Serve same =
        one_handshake u (ResultEnd j) (caller_end i t c j) is.right ((is.joints (ResultEnd j) (caller_end i t c j)).1 (inr (j, k, at_k, ap (outer_joint i t c j) (sym same))))
    by_role Ask same =
        sym (one_handshake u (caller_end i t c j) (ResultEnd j) is.right ((is.joints (caller_end i t c j) (ResultEnd j)).1 (inr (j, k, at_k, ap (outer_joint i t c j) (sym same)))))

-- what holds of the ends of a joint either way holds of those of the caller's joint
outer_ends : (i : ℕ) (t : Type') (c j : ℕ) (role : Role) (d e : End) (A : Type 0) (value : End → A) → joint d e ≡ outer_joint i t c j role
    → value (ResultEnd j) ≡ value (caller_end i t c j) → value d ≡ value e
outer_ends i t c j Serve d e A value same equal =
    ap (λ (x : Joint). value x.asking) same ∙ (equal ∙ sym (ap (λ (x : Joint). value x.serving) same))
outer_ends i t c j Ask d e A value same equal =
    ap (λ (x : Joint). value x.asking) same ∙ (sym equal ∙ sym (ap (λ (x : Joint). value x.serving) same))

module _ (a b : Type') (c : ℕ) (p q r z y x u : Plan) (of_r : IsBehind (length p.parts) (Fun a b) c r p) (of_z : IsBehind (length q.parts) a c z q)
    (of_y : IsJoining (applying a b p z) y) (of_x : IsJoining (applying a b r q) x) (of_u : IsBehind (suc (length p.parts + length q.parts)) b c u y)
  where
    abbrev P : ℕ
    P = length p.parts

    abbrev Q : ℕ
    Q = length q.parts

    abbrev I : ℕ
    I = suc (P + Q)

    abbrev t : Type'
    t = Fun a b

    abbrev w : Wiring
    w = applying a b r q

    abbrev v : Wiring
    v = applying a b p z

    abbrev pub new : End → End
    new = numbered.new_end a b c P Q

    abbrev pub old : End → End
    old = numbered.old_end a b c P Q

    abbrev in_x : End → End
    in_x = placed.in_x a b c p q r z y x of_r of_z of_y of_x

    abbrev in_y : End → End
    in_y = placed.in_y a b c p q r z y x of_r of_z of_y of_x

    abbrev there_y : End → End
    there_y = moved a b p z y of_y

    size : count t ≡ count a + count b
    size = count_fun a b

    pub r_size : length r.parts ≡ suc P
    r_size = ap length of_r.frame.parts ∙ one_longer p.parts (Share t)

    pub z_size : length z.parts ≡ suc Q
    z_size = ap length of_z.frame.parts ∙ one_longer q.parts (Share a)

    pub new_low : (n h : ℕ) → n < P → new (PartEnd n h) ≡ PartEnd n h
    new_low n h low =
        numbered.other_end a b c P Q n h (λ e. omega (arith, e, low)) ∙ ap (λ (m : ℕ). PartEnd m h) (numbered.low_part a b c P Q n low)

    pub new_argument : (n h : ℕ) → n < Q → new (PartEnd (suc P + n) h) ≡ PartEnd (P + n) h
    new_argument n h low =
        numbered.other_end a b c P Q (suc P + n) h (λ e. omega (arith, e)) ∙ ap (λ (m : ℕ). PartEnd m h) (numbered.argument_part a b c P Q n low)

    -- the function's ends, and the argument's
    new_front : (e : End) → Owned t p e → new (end_behind P e) ≡ end_behind I (in_y e)
    new_front (PartEnd n h) own = new_low n h own
    new_front (ImportEnd n h) own = refl
    new_front (ResultEnd j) own = by_test (nat_lt j (count a)) refl
      where
        by_test : (s : Bool) → nat_lt j (count a) ≡ s → new (end_behind P (ResultEnd j)) ≡ end_behind I (in_y (ResultEnd j))
        by_test true test =
            let low : j < count a = grind (arith, nat_tests, test) in
            numbered.argument_source a b c P Q j low ∙ sym (ap (end_behind I) (placed.low_y a b c p q r z y x of_r of_z of_y of_x j low))
        by_test false test =
            let s = size in
            let high : count a ≤ j = grind (arith, nat_tests, test) in
            let sum : j ≡ count a + (j - count a) = omega (arith, high) in
            let small : j - count a < count b = omega (arith, high, own, s) in
            ap (λ (m : ℕ). new (PartEnd P m)) sum
            ∙ (numbered.outcome_source a b c P Q (j - count a) small
            ∙ sym (ap (λ (m : ℕ). end_behind I (in_y (ResultEnd m))) sum ∙ ap (end_behind I) (placed.high_y a b c p q r z y x of_r of_z of_y of_x (j - count a))))

    new_back : (e : End) → Owned a q e → new (in_x e) ≡ end_behind I (there_y (end_behind Q e))
    new_back (PartEnd n h) own = ap (λ (m : ℕ). new (PartEnd (m + n) h)) r_size ∙ new_argument n h own
    new_back (ImportEnd n h) own = ap (λ js. ImportEnd (length js + n) h) of_r.frame.imports
    new_back (ResultEnd j) own = numbered.argument_caller a b c P Q j own

    first_owned : (e : End) (k : Contact) → Rattle.gos_plan.specs.Plans.contact_at p e ≡ Some k → Owned t p e
    first_owned = owned_contact P t c r p of_r.frame

    second_owned : (e : End) (k : Contact) → Rattle.gos_plan.specs.Plans.contact_at q e ≡ Some k → Owned a q e
    second_owned = owned_contact Q a c z q of_z.frame

    both_owned : (d e : End) → Contains q.joints (joint d e) → Owned a q d × Owned a q e
    both_owned d e has =
        let fit = fits q [] q.joints (joint d e) of_z.also_right (contained q.joints (joint d e) has) in
        (second_owned d (asks fit.0 fit.1) fit.2, second_owned e (serves fit.0 fit.1) fit.3)

    function_in_u : (d e : End) → Contains p.joints (joint d e) → Contains u.joints (joint (new (end_behind P d)) (new (end_behind P e)))
    function_in_u d e has =
        let fit = fits p [] p.joints (joint d e) of_r.also_right (contained p.joints (joint d e) has) in
        (of_u.joints (new (end_behind P d)) (new (end_behind P e))).1
        (inl (
          in_y d,
          in_y e,
          placed.function_in_y a b c p q r z y x of_r of_z of_y of_x d e has,
          new_front d (first_owned d (asks fit.0 fit.1) fit.2),
          new_front e (first_owned e (serves fit.0 fit.1) fit.3),
        ))

    argument_in_u : (d e : End) → Contains q.joints (joint d e) → Contains u.joints (joint (new (in_x d)) (new (in_x e)))
    argument_in_u d e has =
        let owned = both_owned d e has in
        (of_u.joints (new (in_x d)) (new (in_x e))).1
        (inl (there_y (end_behind Q d), there_y (end_behind Q e), placed.argument_in_y a b c p q r z y x of_r of_z of_y of_x d e has, new_back d owned.0, new_back e owned.1))

    -- where a place of the one joining stands in x
    abbrev pub home_x : ℕ → End → End
    home_x zero (PartEnd n h) = PartEnd n h
    home_x zero (ImportEnd n h) = ImportEnd n h
    home_x zero (ResultEnd j) = if nat_lt j (count a) then caller_end P t c j else ResultEnd (j - count a)
    home_x (suc k) e = in_x e

    pub low_home : (j : ℕ) → j < count a → home_x 0 (ResultEnd j) ≡ caller_end P t c j
    low_home j low = numbered.so j (count a) (caller_end P t c j) (ResultEnd (j - count a)) low

    pub high_home : (j : ℕ) → home_x 0 (ResultEnd (count a + j)) ≡ ResultEnd j
    high_home j =
        let less : count a + j - count a ≡ j = omega arith in
        numbered.not_so (count a + j) (count a) (caller_end P t c (count a + j)) (ResultEnd (count a + j - count a)) (omega arith) ∙ ap ResultEnd less

    home_behind : (e : End) → home_x 0 (end_behind P e) ≡ end_behind P e
    home_behind (PartEnd n h) = refl
    home_behind (ImportEnd n h) = refl
    home_behind (ResultEnd j) = refl

    -- its handshake in u
    abbrev pub name_u : ℕ → End → End
    name_u n e = handshake_at u (new (home_x n e))

    outer_u : (j : ℕ) (k : Contact) → slice_get (contacts_of t) j ≡ Some k → name_u 0 (ResultEnd j) ≡ name_u 0 (caller_end P t c j)
    outer_u j k at_k = by_test (nat_lt j (count a)) refl
      where
        by_test : (s : Bool) → nat_lt j (count a) ≡ s → name_u 0 (ResultEnd j) ≡ name_u 0 (caller_end P t c j)
        by_test true test = let low : j < count a = grind (arith, nat_tests, test) in ap (λ (e : End). handshake_at u (new e)) (low_home j low)
        by_test false test =
            let s = size in
            let own = slice_get_within (contacts_of t) j k at_k in
            let high : count a ≤ j = grind (arith, nat_tests, test) in
            let sum : j ≡ count a + (j - count a) = omega (arith, high) in
            let small : j - count a < count b = omega (arith, high, own, s) in
            let at_l : slice_get (contacts_of b) (j - count a) ≡ Some k = sym (second_of_fun a b (j - count a)) ∙ (ap (slice_get (contacts_of t)) (sym sum) ∙ at_k) in
            let front : name_u 0 (ResultEnd (count a + (j - count a))) ≡ handshake_at u (ResultEnd (j - count a)) =
            ap (λ (e : End). handshake_at u (new e)) (high_home (j - count a)) in
            let back : name_u 0 (caller_end P t c (count a + (j - count a))) ≡ handshake_at u (caller_end I b c (j - count a)) =
            ap (handshake_at u) (numbered.outcome_caller a b c P Q (j - count a) small) in
            subst (λ (m : ℕ). name_u 0 (ResultEnd m) ≡ name_u 0 (caller_end P t c m)) (sym sum) (front ∙ (outer_named u I b c y of_u (j - count a) k at_l ∙ sym back))

    within_u : (n : ℕ) (s : Plan) → slice_get (r ∷ q ∷ []) n ≡ Some s → (d e : End) → Contains s.joints (joint d e) → name_u n d ≡ name_u n e
    within_u zero s at_s d e has =
        let same : r ≡ s = cc at_s in
        elim ((of_r.joints d e).0 (subst (λ (m : Plan). Contains m.joints (joint d e)) (sym same) has)) [
          | inl (f, g, in_p, at_d, at_e) ↦
              ap (name_u 0) at_d
              ∙ (ap (λ (m : End). handshake_at u (new m)) (home_behind f)
              ∙ (one_handshake u (new (end_behind P f)) (new (end_behind P g)) of_u.right (function_in_u f g in_p)
              ∙ sym (ap (name_u 0) at_e ∙ ap (λ (m : End). handshake_at u (new m)) (home_behind g))))
          | inr (j, k, at_k, same_joint) ↦ outer_ends P t c j k.role d e End (name_u 0) same_joint (outer_u j k at_k)
        ]
    within_u (suc zero) s at_s d e has =
        let same : q ≡ s = cc at_s in
        one_handshake u (new (in_x d)) (new (in_x e)) of_u.right (argument_in_u d e (subst (λ (m : Plan). Contains m.joints (joint d e)) (sym same) has))
    within_u (suc (suc n)) s at_s d e has = absurd (cc at_s)

    abbrev pub at_u : Place → End
    at_u l = name_u l.plan l.end

    step_u : (l m : Place) → Step w l m → at_u l ≡ at_u m
    step_u l m (inl (s, j, same, at_s, has, inl (one, other))) =
        ap (name_u l.plan) one ∙ (within_u l.plan s at_s j.asking j.serving has ∙ sym (ap (name_u l.plan) other) ∙ ap (λ (n : ℕ). name_u n m.end) same)
    step_u l m (inl (s, j, same, at_s, has, inr (one, other))) =
        ap (name_u l.plan) one ∙ (sym (within_u l.plan s at_s j.asking j.serving has) ∙ sym (ap (name_u l.plan) other) ∙ ap (λ (n : ℕ). name_u n m.end) same)
    step_u l m (inr (k, has, ways)) = of_link (linked_is 0 (count a) k has)
      where
        linked_u : (h : ℕ) → h < count a → name_u 0 (ResultEnd h) ≡ name_u 1 (ResultEnd h)
        linked_u h low = ap (λ (e : End). handshake_at u (new e)) (low_home h low)

        of_link : (h : ℕ) × (h < 0 + count a) × (k ≡ link 0 (ResultEnd h) 1 (ResultEnd h)) → at_u l ≡ at_u m
        of_link (h, low, same) = elim ways [
          | inl (one, other) ↦
              ap at_u (one ∙ ap (λ (n : Link). n.one) same) ∙ (linked_u h (omega (arith, low)) ∙ sym (ap at_u (other ∙ ap (λ (n : Link). n.other) same)))
          | inr (one, other) ↦
              ap at_u (one ∙ ap (λ (n : Link). n.other) same) ∙ (sym (linked_u h (omega (arith, low))) ∙ sym (ap at_u (other ∙ ap (λ (n : Link). n.one) same)))
        ]

    pub path_u : (n : ℕ) (l m : Place) → Path w n l m → at_u l ≡ at_u m
    path_u zero l m same = ap at_u same
    path_u (suc n) l m (k, step, rest) = step_u l k step ∙ path_u n k m rest

    -- where a place of the other joining stands in x
    abbrev pub home_y : ℕ → End → End
    home_y zero e = end_behind P e
    home_y (suc k) (PartEnd n h) = if nat_eq n Q then numbered.first_back a b c P Q h else PartEnd (suc P + n) h
    home_y (suc k) (ImportEnd n h) = ImportEnd (length p.imports + n) h
    home_y (suc k) (ResultEnd j) = PartEnd P j

    pub share_home : (h : ℕ) → home_y 1 (PartEnd Q h) ≡ numbered.first_back a b c P Q h
    share_home h = numbered.is_so Q Q (numbered.first_back a b c P Q h) (PartEnd (suc P + Q) h) refl

    pub part_home : (n h : ℕ) → n ≢ Q → home_y 1 (PartEnd n h) ≡ PartEnd (suc P + n) h
    part_home n h own = numbered.is_not n Q (numbered.first_back a b c P Q h) (PartEnd (suc P + n) h) own

    pub source_home : (j : ℕ) → j < count a → numbered.first_back a b c P Q j ≡ caller_end P t c j
    source_home j low = numbered.so j (count a) (caller_end P t c j) (PartEnd P (j - (count a + c * count a))) low

    pub caller_home : (j : ℕ) → numbered.first_back a b c P Q (count a + c * count a + j) ≡ PartEnd P j
    caller_home j =
        let less : count a + c * count a + j - (count a + c * count a) ≡ j = omega arith in
        numbered.not_so (count a + c * count a + j) (count a) (caller_end P t c (count a + c * count a + j)) (PartEnd P (count a + c * count a + j - (count a + c * count a))) (omega arith)
        ∙ ap (PartEnd P) less

    argument_home : (e : End) → Owned a q e → home_y 1 (end_behind Q e) ≡ in_x e
    argument_home (PartEnd n h) own = part_home n h (λ e. omega (arith, e, own)) ∙ ap (λ (m : ℕ). PartEnd (m + n) h) (sym r_size)
    argument_home (ImportEnd n h) own = ap (λ js. ImportEnd (length js + n) h) (sym of_r.frame.imports)
    argument_home (ResultEnd j) own = share_home j ∙ source_home j own

    abbrev pub name_x : ℕ → End → End
    name_x n e = handshake_at x (home_y n e)

    within_x : (n : ℕ) (s : Plan) → slice_get (p ∷ z ∷ []) n ≡ Some s → (d e : End) → Contains s.joints (joint d e) → name_x n d ≡ name_x n e
    within_x zero s at_s d e has =
        let same : p ≡ s = cc at_s in
        one_handshake x (end_behind P d) (end_behind P e) of_x.right
        (placed.function_in_x a b c p q r z y x of_r of_z of_y of_x d e (subst (λ (m : Plan). Contains m.joints (joint d e)) (sym same) has))
    within_x (suc zero) s at_s d e has =
        let same : z ≡ s = cc at_s in
        elim ((of_z.joints d e).0 (subst (λ (m : Plan). Contains m.joints (joint d e)) (sym same) has)) [
          | inl (f, g, in_q, at_d, at_e) ↦
              (let owned = both_owned f g in_q in
              ap (name_x 1) at_d
              ∙ (ap (handshake_at x) (argument_home f owned.0)
              ∙ (one_handshake x (in_x f) (in_x g) of_x.right (placed.argument_in_x a b c p q r z y x of_r of_z of_y of_x f g in_q)
              ∙ sym (ap (name_x 1) at_e ∙ ap (handshake_at x) (argument_home g owned.1)))))
          | inr (j, k, at_k, same_joint) ↦
              outer_ends Q a c j k.role d e End (name_x 1) same_joint
              (sym (ap (handshake_at x) (share_home (count a + c * count a + j) ∙ caller_home j)))
        ]
    within_x (suc (suc n)) s at_s d e has = absurd (cc at_s)

    abbrev pub at_x : Place → End
    at_x l = name_x l.plan l.end

    step_x : (l m : Place) → Step v l m → at_x l ≡ at_x m
    step_x l m (inl (s, j, same, at_s, has, inl (one, other))) =
        ap (name_x l.plan) one ∙ (within_x l.plan s at_s j.asking j.serving has ∙ sym (ap (name_x l.plan) other) ∙ ap (λ (n : ℕ). name_x n m.end) same)
    step_x l m (inl (s, j, same, at_s, has, inr (one, other))) =
        ap (name_x l.plan) one ∙ (sym (within_x l.plan s at_s j.asking j.serving has) ∙ sym (ap (name_x l.plan) other) ∙ ap (λ (n : ℕ). name_x n m.end) same)
    step_x l m (inr (k, has, ways)) = of_link (linked_is 0 (count a) k has)
      where
        of_link : (h : ℕ) × (h < 0 + count a) × (k ≡ link 0 (ResultEnd h) 1 (ResultEnd h)) → at_x l ≡ at_x m
        of_link (h, low, same) = elim ways [
          | inl (one, other) ↦ ap at_x (one ∙ ap (λ (n : Link). n.one) same) ∙ sym (ap at_x (other ∙ ap (λ (n : Link). n.other) same))
          | inr (one, other) ↦ ap at_x (one ∙ ap (λ (n : Link). n.other) same) ∙ sym (ap at_x (other ∙ ap (λ (n : Link). n.one) same))
        ]

    pub path_x : (n : ℕ) (l m : Place) → Path v n l m → at_x l ≡ at_x m
    path_x zero l m same = ap at_x same
    path_x (suc n) l m (k, step, rest) = step_x l k step ∙ path_x n k m rest
