-- Inside one split: what is connected stays so, and the split's own ties are within one plan.
use Rattle.std.specs.Prelude.{◌≢◌, ◌+◌, ◌<◌, ◌||◌, length, map, nat_eq, slice_get, None, Contains}
use Rattle.std.proofs.Common.{◌≡◌, ℕ, zero, suc, Bool, true, false, List, [], ◌∷◌, Option, Some, inl, inr, refl, ap, subst, arith, if◌then◌else◌}
use Rattle.std.proofs.lemmas.List.Elements.{Contains-append_left, Contains-append_right}
use Rattle.std.proofs.lemmas.Bool.{eq-eqb, ne_eqb}
use Rattle.gos_types.specs.declared.shakes.Role.{Role}
use Rattle.gos_types.specs.declared.shakes.Role.TheVariants.{Serve, Ask}
use Rattle.gos_types.specs.Types.{Type'}
use Rattle.gos_types.proofs.ListLemmas.{element_at}
use Rattle.gos_check.specs.declared.linear.Split.{Split}
use Rattle.gos_check.specs.Linearity.{times, sides}
use Rattle.gos_check.proofs.TimesLemmas.{times_none}
use Rattle.gos_plan.specs.Kinds.{Contact, contacts_of}
use Rattle.gos_plan.specs.Plans.{End, PartEnd, ResultEnd, Joint, Plan}
use Rattle.gos_realises.specs.realises.Regular.{count}
use Rattle.gos_joining.specs.webs.Webs.{Dot, Of, Number, Node, Within, Tie, tie, Meet, Way, here, along, own_web, joint}
use Rattle.gos_joining.proofs.unions.UnionLemmas.{of_image, in_image}
use Rattle.gos_sharing.specs.sharing.Sharing.{caller_end}
use Rattle.gos_sharing.specs.buffers.Buffering.{end_behind, joint_behind}
use Rattle.gos_sharing.specs.behind.Behind.{outer_joint, outer_joints, passing}
use Rattle.gos_terms.specs.stages.Lodging.{Spot, is_side, moved, share_spot, side_spot, one_home}

-- ways, with other dots
pub way_mapped : (f : Dot → Dot) (ts us : List Tie) → ((t : Tie) → Contains ts t → Contains us (tie (f t.one) (f t.other)))
    → (a b : Dot) → Way ts a b → Way us (f a) (f b)
way_mapped f ts us keeps a b (here x) = here (f x)
way_mapped f ts us keeps a b (along x c y meet way) = along (f x) (f c) (f y) (meets meet) (way_mapped f ts us keeps c y way)
  where
    meets : Meet ts x c → Meet us (f x) (f c)
    meets (inl has) = inl (keeps (tie x c) has)
    meets (inr has) = inr (keeps (tie c x) has)

abbrev joint_tie : Joint → Tie
joint_tie j = tie (Of j.asking) (Of j.serving)

abbrev dot_behind : ℕ → Dot → Dot
dot_behind k (Of e) = Of (end_behind k e)
dot_behind k (Number n h) = Number n h
dot_behind k (Node n h) = Node n h
dot_behind k (Within n d) = Within n d

-- behind a Share
pub way_behind : (t : Type') (c : ℕ) (p : Plan) (a b : End) → Way (own_web p).ties (Of a) (Of b)
    → Way (own_web (passing t c p)).ties (Of (end_behind (length p.parts) a)) (Of (end_behind (length p.parts) b))
way_behind t c p a b way = way_mapped (dot_behind k) (own_web p).ties (own_web (passing t c p)).ties keeps (Of a) (Of b) way
  where
    k : ℕ
    k = length p.parts

    keeps : (x : Tie) → Contains (own_web p).ties x → Contains (own_web (passing t c p)).ties (tie (dot_behind k x.one) (dot_behind k x.other))
    keeps x has =
        let (j, there, is) = of_image joint_tie p.joints x has in
        subst (λ (y : Tie). Contains (own_web (passing t c p)).ties (tie (dot_behind k y.one) (dot_behind k y.other))) is
        (in_image joint_tie (passing t c p).joints (joint_behind k j)
        (Contains-append_left (map (joint_behind k) p.joints) (outer_joints k t c 0 (contacts_of t)) (joint_behind k j) (in_image (joint_behind k) p.joints j there)))

-- and at its caller
outer_listed : (i : ℕ) (t : Type') (c n : ℕ) (ks : List Contact) (h : ℕ) (k : Contact) → slice_get ks h ≡ Some k
    → Contains (outer_joints i t c n ks) (outer_joint i t c (n + h) k.role)
outer_listed i t c n [] h k at = absurd (cc at)
outer_listed i t c n (d ∷ ks) zero k at =
    let same : d ≡ k = cc at in
    let here : n ≡ n + 0 = omega arith in
    (0, omega arith, λ l. outer_joint i t c (here l) (same l).role)
outer_listed i t c n (d ∷ ks) (suc h) k at =
    let (u, low, is) = outer_listed i t c (suc n) ks h k at in
    let there : suc n + h ≡ n + suc h = omega arith in
    subst (λ (m : ℕ). Contains (outer_joints i t c n (d ∷ ks)) (outer_joint i t c m k.role)) there (suc u, omega (arith, low), is)

pub way_to_caller : (t : Type') (c : ℕ) (p : Plan) (h : ℕ) → h < count t
    → Way (own_web (passing t c p)).ties (Of (ResultEnd h)) (Of (caller_end (length p.parts) t c h))
way_to_caller t c p h lt =
    let (d, at) = element_at (contacts_of t) h lt in
    let same : 0 + h ≡ h = omega arith in
    by_role d.role
    (subst (λ (m : ℕ). Contains (passing t c p).joints (outer_joint k t c m d.role)) same
    (Contains-append_right (map (joint_behind k) p.joints) (outer_joints k t c 0 (contacts_of t)) (outer_joint k t c (0 + h) d.role)
    (outer_listed k t c 0 (contacts_of t) h d at)))
  where
    k : ℕ
    k = length p.parts

    by_role : (r : Role) → Contains (passing t c p).joints (outer_joint k t c h r) → Way (own_web (passing t c p)).ties (Of (ResultEnd h)) (Of (caller_end k t c h))
    by_role Serve has =
        along (Of (ResultEnd h)) (Of (caller_end k t c h)) (Of (caller_end k t c h)) (inl (in_image joint_tie (passing t c p).joints (joint (ResultEnd h) (caller_end k t c h)) has))
        (here (Of (caller_end k t c h)))
    by_role Ask has =
        along (Of (ResultEnd h)) (Of (caller_end k t c h)) (Of (caller_end k t c h)) (inr (in_image joint_tie (passing t c p).joints (joint (caller_end k t c h) (ResultEnd h)) has))
        (here (Of (caller_end k t c h)))

-- a dot that no split from Share q on touches
abbrev pub Untouched : ℕ → List Split → Dot → Type 0
Untouched q ss (Within zero (Of (PartEnd i h))) = i < q
Untouched q ss (Within zero (Number n h)) = times n (sides ss) ≡ 0
Untouched q ss d = Unit {0}

-- what it stands for is of a number that is no side later
abbrev pub IsOld : List Split → Option Spot → Type 0
IsOld ss None = Unit {0}
IsOld ss (Some x) = times x.number (sides ss) ≡ 0

pub neither_side : (s : Split) (ss : List Split) (n : ℕ) → times n (sides (s ∷ ss)) ≡ 0 → (n ≢ s.left) × (n ≢ s.right) × (times n (sides ss) ≡ 0)
neither_side s ss n none =
    let l = times_none n s.left (s.right ∷ sides ss) none in
    let r = times_none n s.right (sides ss) l.1 in
    (l.0, r.0, r.1)

pub no_side : (s : Split) (n : ℕ) → n ≢ s.left → n ≢ s.right → is_side s n ≡ false
no_side s n l r = rw (ne_eqb n s.left l, ne_eqb n s.right r) refl

pub left_side : (s : Split) → is_side s s.left ≡ true
left_side s = rw (eq-eqb s.left s.left refl) refl

pub right_side : (s : Split) → is_side s s.right ≡ true
right_side s = let e = eq-eqb s.right s.right refl in either (nat_eq s.right s.left) (nat_eq s.right s.right) e
  where
    either : (a b : Bool) → b ≡ true → (a || b) ≡ true
    either true b e = refl
    either false b e = e

pub untouched_later : (q : ℕ) (s : Split) (ss : List Split) (d : Dot) → Untouched q (s ∷ ss) d → Untouched (suc q) ss d
untouched_later q s ss (Within zero (Of (PartEnd i h))) u = omega (arith, u)
untouched_later q s ss (Within zero (Number n h)) u = (neither_side s ss n u).2
untouched_later q s ss d u = tt

-- an untouched dot moves with what it stands for
pub plainly : (q m k : ℕ) (s : Split) (ss : List Split) (c : Option ℕ) (home : Dot → Option Spot) (d : Dot)
    → Untouched q (s ∷ ss) d → one_home q m k s c home d ≡ moved s c k (home d)
plainly q m k s ss c home (Within zero (Of (PartEnd i h))) u =
    let e : nat_eq i q ≡ false = ne_eqb i q (λ is. let same : i ≡ q = is in omega (arith, same, u)) in
    ap (λ (b : Bool). if b then share_spot m k s c h else moved s c k (home (Within 0 (Of (PartEnd i h))))) e
plainly q m k s ss c home (Within zero (Number n h)) u =
    let (l, r, rest) = neither_side s ss n u in
    ap (λ (b : Bool). if b then side_spot s c n h else moved s c k (home (Within 0 (Number n h)))) (no_side s n l r)
plainly q m k s ss c home d u = refl
