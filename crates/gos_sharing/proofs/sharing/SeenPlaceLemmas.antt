-- Where the places of a plan seen through a Share lie in the plan with the Share.
use Rattle.std.specs.Prelude.{◌+◌, ◌-◌, ◌*◌, ◌<◌, ◌≤◌, ◌⊎◌, None, nat_eq, nat_lt, slice_get}
use Rattle.std.proofs.Common.{◌≡◌, ℕ, Bool, true, false, List, [], ◌∷◌, Some, Contains, inl, inr, refl, sym, ◌∙◌, ap, subst, arith, if◌then◌else◌}
use Rattle.std.proofs.lemmas.Option.{slice_get_within}
use Rattle.gos_types.specs.declared.shakes.Role.{Role}
use Rattle.gos_types.specs.declared.shakes.Role.TheVariants.{Serve, Ask}
use Rattle.gos_types.specs.Types.{Type'}
use Rattle.gos_realises.specs.realises.Regular.{count}
use Rattle.gos_plan.specs.Kinds.{Contact, contacts_of}
use Rattle.gos_plan.specs.Plans.{End, PartEnd, ImportEnd, ResultEnd, Joint, Plan, same_end, stands_in, IsRight}
use Rattle.gos_plan.proofs.JointLemmas.{IsIn, same_itself, same_is, one_joint, contained}
use Rattle.gos_joining.specs.webs.Webs.{joint}
use Rattle.gos_joining.specs.webs.Cutting.{asks_in}
use Rattle.gos_sharing.specs.sharing.Sharing.{other_end, IsOfPart, way_into, way_out_of, LeadsThrough, IsSeenThrough, passed_on, follower}
use Rattle.gos_joining.proofs.webs.MovedLemmas.{listed}
use Rattle.gos_joining.proofs.webs.WebLemmas.{asks_there}

-- who asks
pub asker : (js : List Joint) (a : End) → asks_in js a ≡ true → (b : End) × IsIn (joint a b) js
asker [] a h = absurd (cc h)
asker (x ∷ xs) a h = by_test (same_end a x.asking) refl (λ e. asker xs a e)
  where
    by_test : (b : Bool) → same_end a x.asking ≡ b → (asks_in xs a ≡ true → (b : End) × IsIn (joint a b) xs) → (b : End) × IsIn (joint a b) (x ∷ xs)
    by_test true t further = (x.serving, inl (ap (λ e. joint e x.serving) (same_is a x.asking t)))
    by_test false t further =
        let e : asks_in xs a ≡ true = grind (arith, h, t) in
        let rest = further e in (rest.0, inr rest.1)

pub asks_so : (js : List Joint) (a b : End) → IsIn (joint a b) js → asks_in js a ≡ true
asks_so [] a b h = absurd h
asks_so (x ∷ xs) a b (inl e) =
    let t : same_end a x.asking ≡ true = subst (λ (d : End). same_end a d ≡ true) (ap (λ (j : Joint). j.asking) e) (same_itself a) in
    grind (arith, t)
asks_so (x ∷ xs) a b (inr h) =
    let e = asks_so xs a b h in by_test (same_end a x.asking) refl e
  where
    by_test : (b : Bool) → same_end a x.asking ≡ b → asks_in xs a ≡ true → asks_in (x ∷ xs) a ≡ true
    by_test true t e = grind (arith, t)
    by_test false t e = grind (arith, t, e)

-- the other end of a joint
pub other_served : (js : List Joint) (p : Plan) (before : List Joint) (a b : End) → IsRight p → ((j : Joint) → IsIn j js → IsIn j p.joints) → IsIn (joint a b) js → other_end js a ≡ Some b
other_served [] p before a b right all h = absurd h
other_served (x ∷ xs) p before a b right all h =
    by_test (same_end a x.asking) refl (same_end a x.serving) refl (λ k. other_served xs p before a b right (λ j i. all j (inr i)) k)
  where
    here : IsIn (joint a b) p.joints
    here = all (joint a b) h

    in_x : stands_in a x ≡ true → joint a b ≡ x
    in_x s = one_joint p [] p.joints (joint a b) x a right here (all x (inl refl)) (asks_there a b) s

    later : IsIn (joint a b) (x ∷ xs) → same_end a x.asking ≡ false → IsIn (joint a b) xs
    later (inl e) f =
        let t : same_end a x.asking ≡ true = subst (λ (d : End). same_end a d ≡ true) (ap (λ (j : Joint). j.asking) e) (same_itself a) in
        absurd (cc (t, f))
    later (inr k) f = k

    by_test : (v : Bool) → same_end a x.asking ≡ v → (w : Bool) → same_end a x.serving ≡ w → (IsIn (joint a b) xs → other_end xs a ≡ Some b) → other_end (x ∷ xs) a ≡ Some b
    by_test true t w u further =
        let s : stands_in a x ≡ true = grind (arith, t) in
        let e : Some x.serving ≡ Some b = ap (λ (j : Joint). Some j.serving) (sym (in_x s)) in
        let g : other_end (x ∷ xs) a ≡ Some x.serving = grind (arith, t) in g ∙ e
    by_test false t true u further =
        let s : stands_in a x ≡ true = grind (arith, t, u) in
        let e : a ≡ x.asking = ap (λ (j : Joint). j.asking) (in_x s) in
        let k : same_end a x.asking ≡ true = subst (λ (d : End). same_end a d ≡ true) e (same_itself a) in
        absurd (cc (k, t))
    by_test false t false u further =
        let g : other_end (x ∷ xs) a ≡ other_end xs a = grind (arith, t, u) in
        g ∙ further (later h t)

-- the handshakes of a Share that belong together
pub to_caller : (n m j : ℕ) → j < n → (if nat_lt j n then m + j else j - m) ≡ m + j
to_caller n m j h = grind (arith, h)

pub to_source : (n m j : ℕ) → n ≤ m → (if nat_lt (m + j) n then m + (m + j) else m + j - m) ≡ j
to_source n m j h = grind (arith, h)

-- a plain joint of the plan with the Share, and two joints that are seen as one
pub record Plain (i : ℕ) (t : Type') (c : ℕ) (r q : Plan) (a : End) : Type 0 where
  pub serving : End
  pub in_q : IsIn (joint a serving) q.joints
  pub in_r : IsIn (joint a serving) r.joints
  pub next : follower i t c (other_end r.joints a) ≡ None
  pub outside : IsOfPart i a → ⊥

pub record Through (i : ℕ) (t : Type') (c : ℕ) (r q : Plan) (a : End) : Type 0 where
  pub serving : End
  pub shake : ℕ
  pub in_q : IsIn (joint a serving) q.joints
  pub into : IsIn (joint a (PartEnd i shake)) r.joints
  pub out : IsIn (joint (PartEnd i (passed_on t c shake)) serving) r.joints
  pub next : follower i t c (other_end r.joints a) ≡ Some (PartEnd i (passed_on t c shake))
  pub back : passed_on t c (passed_on t c shake) ≡ shake
  pub outside : IsOfPart i a → ⊥

not_followed : (i : ℕ) (t : Type') (c : ℕ) (e : End) → (IsOfPart i e → ⊥) → follower i t c (Some e) ≡ None
not_followed i t c (PartEnd k h) apart = by_test (nat_eq k i) refl
  where
    by_test : (b : Bool) → nat_eq k i ≡ b → (if nat_eq k i then Some (PartEnd i (passed_on t c h)) else None) ≡ None
    by_test true t = absurd (apart (grind (arith, t)))
    by_test false t = rw t
not_followed i t c (ImportEnd k h) apart = refl
not_followed i t c (ResultEnd h) apart = refl

pub followed : (i : ℕ) (t : Type') (c h : ℕ) → follower i t c (Some (PartEnd i h)) ≡ Some (PartEnd i (passed_on t c h))
followed i t c h = let e : nat_eq i i ≡ true = grind arith in rw e

pub other_in : (r : Plan) (a b : End) → IsRight r → IsIn (joint a b) r.joints → other_end r.joints a ≡ Some b
other_in r a b right h = other_served r.joints r [] a b right (λ j k. k) h

way_in : (i : ℕ) (t : Type') (c : ℕ) (r q : Plan) → IsSeenThrough i t c r q → (a b : End) (h g : ℕ) → IsIn (joint a b) q.joints
    → Contains r.joints (joint a (PartEnd i h)) → Contains r.joints (joint (PartEnd i g) b) → passed_on t c h ≡ g → passed_on t c g ≡ h → Through i t c r q a
way_in i t c r q is a b h g in_q into out there back =
    record {
      serving = b;
      shake = h;
      in_q = in_q;
      into = contained r.joints (joint a (PartEnd i h)) into;
      out = subst (λ (n : ℕ). IsIn (joint (PartEnd i n) b) r.joints) (sym there) (contained r.joints (joint (PartEnd i g) b) out);
      next = ap (follower i t c) (other_in r a (PartEnd i h) is.right (contained r.joints (joint a (PartEnd i h)) into)) ∙ followed i t c h;
      back = ap (passed_on t c) there ∙ back;
      outside = λ of. is.apart a (PartEnd i h) into of refl;
    }

pub asking_of : (i : ℕ) (t : Type') (c : ℕ) (r q : Plan) → IsSeenThrough i t c r q → (a b : End) → IsIn (joint a b) q.joints → Plain i t c r q a ⊎ Through i t c r q a
asking_of i t c r q is a b in_q = by_kind ((is.joints a b).0 (listed q.joints (joint a b) in_q))
  where
    through : (k : Contact) (j : ℕ) (role : Role) → slice_get (contacts_of t) j ≡ Some k → Contains r.joints (joint a (way_into i t c j role)) → Contains r.joints (joint (way_out_of i t c j role) b)
        → Through i t c r q a
    through k j Serve at into out =
        let lt : j < count t = slice_get_within (contacts_of t) j k at in
        way_in i t c r q is a b (count t + c * count t + j) j in_q into out (to_source (count t) (count t + c * count t) j (omega arith)) (to_caller (count t) (count t + c * count t) j lt)
    through k j Ask at into out =
        let lt : j < count t = slice_get_within (contacts_of t) j k at in
        way_in i t c r q is a b j (count t + c * count t + j) in_q into out (to_caller (count t) (count t + c * count t) j lt) (to_source (count t) (count t + c * count t) j (omega arith))

    by_kind : (Contains r.joints (joint a b) × (IsOfPart i a → ⊥) × (IsOfPart i b → ⊥)) ⊎ LeadsThrough i t c r a b → Plain i t c r q a ⊎ Through i t c r q a
    by_kind (inl (has, apart, other)) =
        let in_r = contained r.joints (joint a b) has in
        inl (record { serving = b; in_q = in_q; in_r = in_r; next = ap (follower i t c) (other_in r a b is.right in_r) ∙ not_followed i t c b other; outside = apart })
    by_kind (inr (j, k, at, into, out)) = inr (through k j k.role at into out)
