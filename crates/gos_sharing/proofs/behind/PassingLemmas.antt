-- The plan behind a Share lies behind it: its joints are right, and are those of the plan and of the caller.
use Rattle.std.specs.Prelude.{◌≡◌, ℕ, zero, suc, ◌+◌, ◌*◌, ◌<◌, ◌≤◌, false, List, [], ◌∷◌, ◌++◌, ◌⊎◌, length, map, Some, slice_get, Contains}
use Rattle.std.proofs.Common.{refl, sym, ◌∙◌, ap, subst, arith, inl, inr}
use Rattle.std.proofs.lemmas.Bool.{false_from_ne_true}
use Rattle.gos_types.specs.declared.shakes.Role.{Role}
use Rattle.gos_types.specs.declared.shakes.Role.TheVariants.{Serve, Ask}
use Rattle.gos_types.specs.Types.{Type'}
use Rattle.gos_types.specs.Handshakes.{turned}
use Rattle.gos_plan.specs.Kinds.{Contact, asks, serves, contacts_of}
use Rattle.gos_plan.specs.Plans.{End, Joint, Plan, stands_in, Fits, AreRight, IsRight}
use Rattle.gos_plan.proofs.MovedJointLemmas.{map_in, in_map, right_moved}
use Rattle.gos_plan.proofs.JointLemmas.{IsIn, fits, contained, which_end}
use Rattle.gos_plan.proofs.ContactLemmas.{as_serves, turned_asks}
use Rattle.gos_realises.specs.realises.Regular.{count}
use Rattle.gos_joining.specs.webs.Webs.{joint}
use Rattle.gos_joining.proofs.webs.MovedLemmas.{listed}
use Rattle.gos_sharing.specs.buffers.Buffering.{end_behind, joint_behind}
use Rattle.gos_sharing.proofs.buffers.BufferedLemmas.{in_first, in_second, in_either, free_of}
use Rattle.gos_sharing.specs.behind.Behind.{outer_joint, outer_joints, passing, HasShare, IsBehind, LiesBehind}
use Rattle.gos_sharing.proofs.behind.EndLemmas.{Owned, asker, server, outer_is, owned_contact, contact_behind, caller_contact, result_contact, same_behind, not_asker, not_server}

-- joints of the caller
in_outer : (i : ℕ) (t : Type') (c j : ℕ) (cs : List Contact) (x : Joint) → IsIn x (outer_joints i t c j cs)
    → (m : ℕ) × (k : Contact) × (slice_get cs m ≡ Some k) × (x ≡ outer_joint i t c (j + m) k.role)
in_outer i t c j [] x h = absurd h
in_outer i t c j (k ∷ ks) x (inl e) = let here : j ≡ j + 0 = omega arith in (0, k, refl, e ∙ ap (λ (n : ℕ). outer_joint i t c n k.role) here)
in_outer i t c j (k ∷ ks) x (inr h) =
    let (m, d, at, e) = in_outer i t c (suc j) ks x h in
    let there : suc j + m ≡ j + suc m = omega arith in (suc m, d, at, e ∙ ap (λ (n : ℕ). outer_joint i t c n d.role) there)

outer_in : (i : ℕ) (t : Type') (c j : ℕ) (cs : List Contact) (m : ℕ) (k : Contact) → slice_get cs m ≡ Some k → IsIn (outer_joint i t c (j + m) k.role) (outer_joints i t c j cs)
outer_in i t c j [] m k at = absurd (cc at)
outer_in i t c j (d ∷ ds) zero k at =
    let same : d ≡ k = cc at in
    let here : j + 0 ≡ j = omega arith in inl ((λ l. outer_joint i t c (here l) (sym same l).role))
outer_in i t c j (d ∷ ds) (suc m) k at =
    let there : suc j + m ≡ j + suc m = omega arith in
    inr (subst (λ (n : ℕ). IsIn (outer_joint i t c n k.role) (outer_joints i t c (suc j) ds)) there (outer_in i t c (suc j) ds m k at))

-- right joints, and then others that are right behind them
together : (q : Plan) (before xs ys : List Joint) → AreRight q before xs
    → ((b : List Joint) → ((j : Joint) → IsIn j b → IsIn j before ⊎ IsIn j xs) → AreRight q b ys) → AreRight q before (xs ++ ys)
together q before [] ys one other = other before (λ j h. inl h)
together q before (x ∷ xs) ys one other = (one.0, together q (x ∷ before) xs ys one.1 (λ b known. other b (λ j h. moved j (known j h))))
  where
    moved : (j : Joint) → IsIn j (x ∷ before) ⊎ IsIn j xs → IsIn j before ⊎ IsIn j (x ∷ xs)
    moved j (inl (inl e)) = inr (inl e)
    moved j (inl (inr h)) = inl h
    moved j (inr h) = inr (inr h)

module _ (c : ℕ) (p : Plan) (two : c < 2) (right : IsRight p) where
  abbrev i : ℕ
  i = length p.parts

  abbrev t : Type'
  t = p.outcome

  abbrev whole : Plan
  whole = passing p.outcome c p

  frame : HasShare (length p.parts) p.outcome c (passing p.outcome c p) p
  frame = record { caller = two; number = refl; parts = refl; imports = refl; outcome = refl; also_outcome = refl }

  -- the plan's joints
  own_asking : (j : Joint) → Fits p j → Owned t p j.asking
  own_asking j fit = owned_contact i t c whole p frame j.asking (asks fit.0 fit.1) fit.2

  own_serving : (j : Joint) → Fits p j → Owned t p j.serving
  own_serving j fit = owned_contact i t c whole p frame j.serving (serves fit.0 fit.1) fit.3

  right_behind : AreRight whole [] (map (joint_behind i) p.joints)
  right_behind =
      right_moved p whole (end_behind i) right
      (λ e d k x one other.
      same_behind i t c whole p frame e d (owned_contact i t c whole p frame e k one) (owned_contact i t c whole p frame d x other))
      (contact_behind i t c whole p frame)

  -- the caller's
  outer_fits : (j : ℕ) (k : Contact) → slice_get (contacts_of t) j ≡ Some k → Fits whole (outer_joint i t c j k.role)
  outer_fits j k at = by_role k.role refl
    where
      by_role : (role : Role) → k.role ≡ role → Fits whole (outer_joint i t c j role)
      by_role Serve same = (
        k.ask_bits,
        k.answer_bits,
        result_contact i t c whole p frame j k at ∙ ap Some (turned_asks k same),
        caller_contact i t c whole p frame j k at ∙ ap Some (as_serves k same),
      )
      by_role Ask same = (
        k.ask_bits,
        k.answer_bits,
        caller_contact i t c whole p frame j k at ∙ ap Some (λ n. record { role = same n; ask_bits = k.ask_bits; answer_bits = k.answer_bits }),
        result_contact i t c whole p frame j k at ∙ ap Some (λ n. record { role = turned (same n); ask_bits = k.ask_bits; answer_bits = k.answer_bits }),
      )

  -- from handshake n on none of these joints has the ends
  abbrev NoneFrom : ℕ → List Joint → Type 0
  NoneFrom n js = (x : Joint) → IsIn x js → (h : ℕ) (role : Role) → n ≤ h → (stands_in (asker i t c h role) x ≡ false) × (stands_in (server i t c h role) x ≡ false)

  none_of : (e : End) (x : Joint) → ((e ≡ x.asking) ⊎ (e ≡ x.serving) → ⊥) → stands_in e x ≡ false
  none_of e x apart = false_from_ne_true (stands_in e x) (λ h. apart (which_end e x h))

  apart_outer : (n h : ℕ) (role other : Role) → n ≤ h → (asker i t c (suc h) role ≡ asker i t c n other → ⊥) × (asker i t c (suc h) role ≡ server i t c n other → ⊥)
  apart_outer n h Serve Serve le = (λ e. let same : suc h ≡ n = cc e in omega (arith, le, same), λ e. cc e)
  apart_outer n h Serve Ask le = (λ e. cc e, λ e. let same : suc h ≡ n = cc e in omega (arith, le, same))
  apart_outer n h Ask Serve le = (λ e. cc e, λ e. let same : count t + c * count t + suc h ≡ count t + c * count t + n = cc e in omega (arith, le, same))
  apart_outer n h Ask Ask le = (λ e. let same : count t + c * count t + suc h ≡ count t + c * count t + n = cc e in omega (arith, le, same), λ e. cc e)

  turned_asker : (h : ℕ) (role : Role) → server i t c h role ≡ asker i t c h (turned role)
  turned_asker h Serve = refl
  turned_asker h Ask = refl

  none_here : (n h : ℕ) (role other : Role) → suc n ≤ h → stands_in (asker i t c h role) (joint (asker i t c n other) (server i t c n other)) ≡ false
  none_here n zero role other le = absurd (omega (arith, le))
  none_here n (suc h) role other le =
      let apart = apart_outer n h role other (omega (arith, le)) in
      none_of (asker i t c (suc h) role) (joint (asker i t c n other) (server i t c n other)) (λ either. elim either [
        | inl e ↦ apart.0 e
        | inr e ↦ apart.1 e
      ])

  one_more : (n : ℕ) (other : Role) (before : List Joint) → NoneFrom n before → NoneFrom (suc n) (outer_joint i t c n other ∷ before)
  one_more n other before none x (inr here) h role le = none x here h role (omega (arith, le))
  one_more n other before none x (inl e) h role le =
      subst (λ (y : Joint). (stands_in (asker i t c h role) y ≡ false) × (stands_in (server i t c h role) y ≡ false)) (sym (outer_is i t c n other) ∙ sym e) (
        none_here n h role other le,
        ap (λ (d : End). stands_in d (joint (asker i t c n other) (server i t c n other))) (turned_asker h role) ∙ none_here n h (turned role) other le,
      )

  right_outer : (n : ℕ) (cs : List Contact) (before : List Joint) → ((m : ℕ) (k : Contact) → slice_get cs m ≡ Some k → slice_get (contacts_of t) (n + m) ≡ Some k)
      → NoneFrom n before → AreRight whole before (outer_joints i t c n cs)
  right_outer n [] before there none = tt
  right_outer n (k ∷ ks) before there none =
      let zeros : n + 0 ≡ n = omega arith in
      let at : slice_get (contacts_of t) n ≡ Some k = ap (slice_get (contacts_of t)) (sym zeros) ∙ there 0 k refl in
      let asking : (outer_joint i t c n k.role).asking ≡ asker i t c n k.role = ap (λ (x : Joint). x.asking) (outer_is i t c n k.role) in
      let serving : (outer_joint i t c n k.role).serving ≡ server i t c n k.role = ap (λ (x : Joint). x.serving) (outer_is i t c n k.role) in (
        (
          outer_fits n k at,
          free_of (outer_joint i t c n k.role).asking before (λ x h. ap (λ (d : End). stands_in d x) asking ∙ (none x h n k.role (omega arith)).0),
          free_of (outer_joint i t c n k.role).serving before (λ x h. ap (λ (d : End). stands_in d x) serving ∙ (none x h n k.role (omega arith)).1),
        ),
        right_outer (suc n) ks (outer_joint i t c n k.role ∷ before)
            (λ m d at_d. let sum : n + suc m ≡ suc n + m = omega arith in ap (slice_get (contacts_of t)) (sym sum) ∙ there (suc m) d at_d)
            (one_more n k.role before none),
      )

  -- no joint behind the Share has an end of the caller
  none_behind : (b : List Joint) → ((j : Joint) → IsIn j b → IsIn j [] ⊎ IsIn j (map (joint_behind i) p.joints)) → NoneFrom 0 b
  none_behind b known x h n role le = by_side (known x h)
    where
      by_side : IsIn x [] ⊎ IsIn x (map (joint_behind i) p.joints) → (stands_in (asker i t c n role) x ≡ false) × (stands_in (server i t c n role) x ≡ false)
      by_side (inl none) = absurd none
      by_side (inr in_all) =
          let (k, is_in, same) = in_map (joint_behind i) p.joints x in_all in
          let fit = fits p [] p.joints k right is_in in
          subst (λ (y : Joint). (stands_in (asker i t c n role) y ≡ false) × (stands_in (server i t c n role) y ≡ false)) (sym same) (
            none_of (asker i t c n role) (joint_behind i k) (λ either. elim either [
              | inl e ↦ not_asker i t c whole p frame k.asking n role (own_asking k fit) (sym e)
              | inr e ↦ not_asker i t c whole p frame k.serving n role (own_serving k fit) (sym e)
            ]),
            none_of (server i t c n role) (joint_behind i k) (λ either. elim either [
              | inl e ↦ not_server i t c whole p frame k.asking n role (own_asking k fit) (sym e)
              | inr e ↦ not_server i t c whole p frame k.serving n role (own_serving k fit) (sym e)
            ]),
          )

  whole_right : IsRight whole
  whole_right =
      together whole [] (map (joint_behind i) p.joints) (outer_joints i t c 0 (contacts_of t)) right_behind
      (λ b known. right_outer 0 (contacts_of t) b (λ m k at. let zeros : m ≡ 0 + m = omega arith in ap (slice_get (contacts_of t)) (sym zeros) ∙ at) (none_behind b known))

  abbrev Lies : End → End → Type 0
  Lies a b =
      ((d : End) × (e : End) × Contains p.joints (joint d e) × (a ≡ end_behind i d) × (b ≡ end_behind i e))
      ⊎ ((j : ℕ) × (k : Contact) × (slice_get (contacts_of t) j ≡ Some k) × (joint a b ≡ outer_joint i t c j k.role))

  lies : (a b : End) → Contains whole.joints (joint a b) → Lies a b
  lies a b has = elim (in_either (map (joint_behind i) p.joints) (outer_joints i t c 0 (contacts_of t)) (joint a b) (contained whole.joints (joint a b) has)) [
    | inl here ↦
        (let (k, is_in, same) = in_map (joint_behind i) p.joints (joint a b) here in
        inl (k.asking, k.serving, listed p.joints k is_in, ap (λ (x : Joint). x.asking) same, ap (λ (x : Joint). x.serving) same))
    | inr here ↦
        (let (m, k, at, same) = in_outer i t c 0 (contacts_of t) (joint a b) here in
        let zeros : 0 + m ≡ m = omega arith in inr (m, k, at, same ∙ ap (λ (n : ℕ). outer_joint i t c n k.role) zeros))
  ]

  has : (a b : End) → Lies a b → Contains whole.joints (joint a b)
  has a b (inl (d, e, here, at_a, at_b)) =
      listed whole.joints (joint a b)
      (in_first (map (joint_behind i) p.joints) (outer_joints i t c 0 (contacts_of t)) (joint a b)
      (subst (λ (x : Joint). IsIn x (map (joint_behind i) p.joints)) (λ l. joint (sym at_a l) (sym at_b l))
      (map_in (joint_behind i) p.joints (joint d e) (contained p.joints (joint d e) here))))
  has a b (inr (j, k, at, same)) =
      let zeros : 0 + j ≡ j = omega arith in
      listed whole.joints (joint a b)
      (in_second (map (joint_behind i) p.joints) (outer_joints i t c 0 (contacts_of t)) (joint a b)
      (subst (λ (x : Joint). IsIn x (outer_joints i t c 0 (contacts_of t))) (ap (λ (n : ℕ). outer_joint i t c n k.role) zeros ∙ sym same) (outer_in i t c 0 (contacts_of t) j k at)))

  pub passing_lies : IsBehind (length p.parts) p.outcome c (passing p.outcome c p) p
  passing_lies = record { frame = frame; right = whole_right; also_right = right; joints = λ a b. (lies a b, has a b) }

pub lies_behind_share : LiesBehind
lies_behind_share c p two right = passing_lies c p two right
