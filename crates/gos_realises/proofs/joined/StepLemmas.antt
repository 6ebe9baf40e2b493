-- The joints and links of a wiring whose links fit make chains.
--
-- An end is seen by its joint as the plan has it. Its link sees a part's end so too, and a port's from the other side.
use Rattle.std.specs.Prelude.{◌≡◌, ◌≢◌, ℕ, zero, suc, ◌||◌, Bool, true, [], ◌⊎◌, Option, Some, None, Contains, slice_get}
use Rattle.std.proofs.Common.{sym, ◌∙◌, ap, subst, inl, inr}
use Rattle.gos_types.specs.declared.shakes.Role.{Role}
use Rattle.gos_types.specs.declared.shakes.Role.TheVariants.{Serve, Ask}
use Rattle.gos_types.specs.Handshakes.{turned}
use Rattle.gos_types.proofs.BoolLemmas.{or_true}
use Rattle.gos_types.proofs.RoleLemmas.{turned_twice}
use Rattle.gos_plan.specs.Kinds.{Contact}
use Rattle.gos_plan.specs.Plans.{End, PartEnd, ImportEnd, ResultEnd, Joint, Plan, contact_at, same_end, stands_in, Fits, IsRight}
use Rattle.gos_plan.specs.Joining.{Place, Link, Wiring, JoinedWithin, Linked, Path}
use Rattle.gos_plan.proofs.JointLemmas.{same_itself, one_joint, contained, free_later, ends_are_apart}
use Rattle.gos_plan.proofs.JointLemmas as joints
use Rattle.gos_plan.proofs.WiringLemmas.{linked_back, joined_back, place_is}
use Rattle.gos_realises.specs.realises.Links.{contact_of, contact_in, IsUnjoined, EndsFit, LinkFits, StandsIn, LinksFit}
use Rattle.gos_realises.proofs.realises.PlaceLemmas.{place_of}
use Rattle.gos_realises.proofs.joined.ReachLemmas.{Step, Paths}
use Rattle.gos_realises.proofs.joined.ChainLemmas.{Chains, Walk, IsOnly, one_end}

pub not_turned : (r : Role) → r ≡ turned r → ⊥
not_turned Serve e = cc e
not_turned Ask e = cc e

abbrev pub joint_role : Option Contact → Option Role
joint_role None = None
joint_role (Some c) = Some c.role

abbrev seen : End → Contact → Role
seen (PartEnd i h) c = c.role
seen (ImportEnd i h) c = turned c.role
seen (ResultEnd h) c = turned c.role

abbrev link_role : End → Option Contact → Option Role
link_role e None = None
link_role e (Some c) = Some (seen e c)

-- a step, by the role of the first place in it
abbrev pub RoleStep : Wiring → Role → Place → Place → Type 0
RoleStep w r a b =
    (JoinedWithin w a b × (joint_role (contact_of w a) ≡ Some r)) ⊎ (Linked w a b × (link_role a.end (contact_of w a) ≡ Some r))

abbrev pub IsPart : End → Type 0
IsPart (PartEnd i h) = Unit {0}
IsPart (ImportEnd i h) = ⊥
IsPart (ResultEnd h) = ⊥

-- joints
abbrev Ends : Joint → End → End → Type 0
Ends j a b = ((a ≡ j.asking) × (b ≡ j.serving)) ⊎ ((a ≡ j.serving) × (b ≡ j.asking))

other_end : (p : Plan) (j : Joint) → Fits p j → (e b c : End) → Ends j e b → Ends j e c → b ≡ c
other_end p j fit e b c (inl (at, is)) (inl (at_too, is_too)) = is ∙ sym is_too
other_end p j fit e b c (inl (at, is)) (inr (at_too, is_too)) = absurd (ends_are_apart p j fit (sym at ∙ at_too))
other_end p j fit e b c (inr (at, is)) (inl (at_too, is_too)) = absurd (ends_are_apart p j fit (sym at_too ∙ at))
other_end p j fit e b c (inr (at, is)) (inr (at_too, is_too)) = is ∙ sym is_too

stands : (j : Joint) (e b : End) → Ends j e b → stands_in e j ≡ true
stands j e b (inl (at, is)) =
    subst (λ (x : End). stands_in x j ≡ true) (sym at) (ap (λ (t : Bool). t || same_end j.asking j.serving) (same_itself j.asking))
stands j e b (inr (at, is)) =
    subst (λ (x : End). stands_in x j ≡ true) (sym at)
    (ap (λ (t : Bool). same_end j.serving j.asking || t) (same_itself j.serving) ∙ or_true (same_end j.serving j.asking))

joined_one : (w : Wiring) → LinksFit w → (a b c : Place) → JoinedWithin w a b → JoinedWithin w a c → b ≡ c
joined_one w fit a b c (p, j, same, is, has, ways) (q, k, same_too, is_too, has_too, ways_too) =
    let right : IsRight p = fit.right a.plan p is in
    let plans : q ≡ p = cc (is, is_too) in
    let in_p : Contains p.joints k = subst (λ (x : Plan). Contains x.joints k) plans has_too in
    let j_is : j ≡ k =
    one_joint p [] p.joints j k a.end right (contained p.joints j has) (contained p.joints k in_p) (stands j a.end b.end ways) (stands k a.end c.end ways_too)
    in
    place_is b c (sym same ∙ same_too)
    (other_end p j (joints.fits p [] p.joints j right (contained p.joints j has)) a.end b.end c.end ways (subst (λ (x : Joint). Ends x a.end c.end) (sym j_is) ways_too))

abbrev Opposite : Option Role → Option Role → Type 0
Opposite o u = (r : Role) × (o ≡ Some r) × (u ≡ Some (turned r))

joined_roles : (w : Wiring) → LinksFit w → (a b : Place) → JoinedWithin w a b → Opposite (joint_role (contact_of w a)) (joint_role (contact_of w b))
joined_roles w fit a b (p, j, same, is, has, ways) = by_way (joints.fits p [] p.joints j (fit.right a.plan p is) (contained p.joints j has)) ways
  where
    at_a : (e : End) → a.end ≡ e → contact_of w a ≡ contact_at p e
    at_a e at = ap (λ (o : Option Plan). contact_in o a.end) is ∙ ap (contact_at p) at

    at_b : (e : End) → b.end ≡ e → contact_of w b ≡ contact_at p e
    at_b e at =
        ap (λ (k : ℕ). contact_in (slice_get w.plans k) b.end) (sym same) ∙ (ap (λ (o : Option Plan). contact_in o b.end) is ∙ ap (contact_at p) at)

    by_way : Fits p j → Ends j a.end b.end → Opposite (joint_role (contact_of w a)) (joint_role (contact_of w b))
    by_way (q, v, asked, served) (inl (e, f)) =
        (Ask, ap joint_role (at_a j.asking e ∙ asked), ap joint_role (at_b j.serving f ∙ served))
    by_way (q, v, asked, served) (inr (e, f)) =
        (Serve, ap joint_role (at_a j.serving e ∙ served), ap joint_role (at_b j.asking f ∙ asked))

-- links
abbrev Between : Link → Place → Place → Type 0
Between l a b = ((a ≡ l.one) × (b ≡ l.other)) ⊎ ((a ≡ l.other) × (b ≡ l.one))

pub stands_link : (l : Link) (a b : Place) → Between l a b → StandsIn a l
stands_link l a b (inl (e, f)) = inl e
stands_link l a b (inr (e, f)) = inr e

other_place : (l : Link) → (l.one.plan ≢ l.other.plan) → (a b c : Place) → Between l a b → Between l a c → b ≡ c
other_place l apart a b c (inl (at, is)) (inl (at_too, is_too)) = is ∙ sym is_too
other_place l apart a b c (inl (at, is)) (inr (at_too, is_too)) = absurd (apart (ap (λ (x : Place). x.plan) (sym at ∙ at_too)))
other_place l apart a b c (inr (at, is)) (inl (at_too, is_too)) = absurd (apart (ap (λ (x : Place). x.plan) (sym at_too ∙ at)))
other_place l apart a b c (inr (at, is)) (inr (at_too, is_too)) = is ∙ sym is_too

pub linked_one : (w : Wiring) → LinksFit w → (a b c : Place) → Linked w a b → Linked w a c → b ≡ c
linked_one w fit a b c (l, has, ways) (m, has_too, ways_too) =
    let (j, at_j) = place_of w.links l has in
    let (k, at_k) = place_of w.links m has_too in
    let same : j ≡ k = fit.once j k l m a at_j at_k (stands_link l a b ways) (stands_link m a c ways_too) in
    let there : Some l ≡ Some m = sym at_j ∙ (ap (slice_get w.links) same ∙ at_k) in
    let l_is : l ≡ m = cc there in
    other_place l (fit.each j l at_j).0 a b c ways (subst (λ (x : Link). Between x a c) (sym l_is) ways_too)

fit_seen : (w : Wiring) (a b : Place) (c d : Contact) (e f : End) → EndsFit w a b c d e f → seen f d ≡ turned (seen e c)
fit_seen w a b c d (PartEnd i h) (PartEnd j g) fit = absurd fit
fit_seen w a b c d (PartEnd i h) (ImportEnd j g) fit = ap (λ (x : Contact). turned x.role) fit.0
fit_seen w a b c d (PartEnd i h) (ResultEnd g) fit = ap (λ (x : Contact). turned x.role) fit.0
fit_seen w a b c d (ImportEnd i h) (PartEnd j g) fit = ap (λ (x : Contact). x.role) fit.0 ∙ sym (turned_twice c.role)
fit_seen w a b c d (ResultEnd h) (PartEnd j g) fit = ap (λ (x : Contact). x.role) fit.0 ∙ sym (turned_twice c.role)
fit_seen w a b c d (ImportEnd i h) (ImportEnd j g) fit = ap (λ (x : Contact). turned x.role) fit
fit_seen w a b c d (ImportEnd i h) (ResultEnd g) fit = ap (λ (x : Contact). turned x.role) fit
fit_seen w a b c d (ResultEnd h) (ImportEnd j g) fit = ap (λ (x : Contact). turned x.role) fit
fit_seen w a b c d (ResultEnd h) (ResultEnd g) fit = ap (λ (x : Contact). turned x.role) fit

link_fits : (w : Wiring) → LinksFit w → (l : Link) → Contains w.links l → LinkFits w l
link_fits w fit l has = let (k, at) = place_of w.links l has in fit.each k l at

abbrev role_at_link : Wiring → Place → Option Role
role_at_link w a = link_role a.end (contact_of w a)

link_roles : (w : Wiring) (l : Link) → LinkFits w l → Opposite (role_at_link w l.one) (role_at_link w l.other)
link_roles w l (apart, (c, d, at_one, at_other, fit)) = (
  seen l.one.end c,
  ap (link_role l.one.end) at_one,
  ap (link_role l.other.end) at_other ∙ ap Some (fit_seen w l.one l.other c d l.one.end l.other.end fit),
)

opposite_back : (o u : Option Role) → Opposite o u → Opposite u o
opposite_back o u (r, e, f) = (turned r, f, e ∙ ap Some (sym (turned_twice r)))

linked_roles : (w : Wiring) → LinksFit w → (a b : Place) → Linked w a b → Opposite (role_at_link w a) (role_at_link w b)
linked_roles w fit a b (l, has, ways) = by_way (link_roles w l (link_fits w fit l has)) ways
  where
    by_way : Opposite (role_at_link w l.one) (role_at_link w l.other) → Between l a b → Opposite (role_at_link w a) (role_at_link w b)
    by_way o (inl (e, f)) =
        subst (λ (x : Place). Opposite (role_at_link w x) (role_at_link w b)) (sym e)
        (subst (λ (x : Place). Opposite (role_at_link w l.one) (role_at_link w x)) (sym f) o)
    by_way o (inr (e, f)) =
        subst (λ (x : Place). Opposite (role_at_link w x) (role_at_link w b)) (sym e)
        (subst (λ (x : Place). Opposite (role_at_link w l.other) (role_at_link w x)) (sym f)
        (opposite_back (role_at_link w l.one) (role_at_link w l.other) o))

-- a part's end that is linked is in no joint
fit_unjoined : (w : Wiring) (a b : Place) (c d : Contact) (e f : End) → EndsFit w a b c d e f
    → (IsPart e → IsUnjoined (slice_get w.plans a.plan) a.end) × (IsPart f → IsUnjoined (slice_get w.plans b.plan) b.end)
fit_unjoined w a b c d (PartEnd i h) (PartEnd j g) fit = absurd fit
fit_unjoined w a b c d (PartEnd i h) (ImportEnd j g) fit = (λ x. fit.1, λ x. absurd x)
fit_unjoined w a b c d (PartEnd i h) (ResultEnd g) fit = (λ x. fit.1, λ x. absurd x)
fit_unjoined w a b c d (ImportEnd i h) (PartEnd j g) fit = (λ x. absurd x, λ x. fit.1)
fit_unjoined w a b c d (ResultEnd h) (PartEnd j g) fit = (λ x. absurd x, λ x. fit.1)
fit_unjoined w a b c d (ImportEnd i h) (ImportEnd j g) fit = (λ x. absurd x, λ x. absurd x)
fit_unjoined w a b c d (ImportEnd i h) (ResultEnd g) fit = (λ x. absurd x, λ x. absurd x)
fit_unjoined w a b c d (ResultEnd h) (ImportEnd j g) fit = (λ x. absurd x, λ x. absurd x)
fit_unjoined w a b c d (ResultEnd h) (ResultEnd g) fit = (λ x. absurd x, λ x. absurd x)

linked_unjoined : (w : Wiring) → LinksFit w → (a b : Place) → Linked w a b → IsPart a.end → IsUnjoined (slice_get w.plans a.plan) a.end
linked_unjoined w fit a b (l, has, ways) part = by_way (link_fits w fit l has) ways
  where
    by_way : LinkFits w l → Between l a b → IsUnjoined (slice_get w.plans a.plan) a.end
    by_way (apart, (c, d, at_one, at_other, ends)) (inl (e, f)) =
        subst (λ (x : Place). IsUnjoined (slice_get w.plans x.plan) x.end) (sym e)
        ((fit_unjoined w l.one l.other c d l.one.end l.other.end ends).0 (subst (λ (x : Place). IsPart x.end) e part))
    by_way (apart, (c, d, at_one, at_other, ends)) (inr (e, f)) =
        subst (λ (x : Place). IsUnjoined (slice_get w.plans x.plan) x.end) (sym e)
        ((fit_unjoined w l.one l.other c d l.one.end l.other.end ends).1 (subst (λ (x : Place). IsPart x.end) e part))

one_side : (e : End) (o : Option Contact) (r : Role) → joint_role o ≡ Some r → link_role e o ≡ Some r → IsPart e
one_side (PartEnd i h) o r j l = tt
one_side (ImportEnd i h) None r j l = absurd (cc j)
one_side (ResultEnd h) None r j l = absurd (cc j)
one_side (ImportEnd i h) (Some c) r j l = let same : Some c.role ≡ Some (turned c.role) = j ∙ sym l in absurd (not_turned c.role (cc same))
one_side (ResultEnd h) (Some c) r j l = let same : Some c.role ≡ Some (turned c.role) = j ∙ sym l in absurd (not_turned c.role (cc same))

not_both : (w : Wiring) → LinksFit w → (r : Role) (a b c : Place) → JoinedWithin w a b → Linked w a c
    → joint_role (contact_of w a) ≡ Some r → role_at_link w a ≡ Some r → ⊥
not_both w fit r a b c (p, j, same, is, has, ways) linked at_joint at_link =
    let unjoined : IsUnjoined (slice_get w.plans a.plan) a.end = linked_unjoined w fit a c linked (one_side a.end (contact_of w a) r at_joint at_link) in
    free_later a.end p.joints j (contained p.joints j has) (subst (λ (o : Option Plan). IsUnjoined o a.end) is unjoined) (stands j a.end b.end ways)

-- so they make chains
one_way : (w : Wiring) → LinksFit w → (r : Role) (a b c : Place) → RoleStep w r a b → RoleStep w r a c → b ≡ c
one_way w fit r a b c (inl (x, e)) (inl (y, f)) = joined_one w fit a b c x y
one_way w fit r a b c (inl (x, e)) (inr (y, f)) = absurd (not_both w fit r a b c x y e f)
one_way w fit r a b c (inr (x, e)) (inl (y, f)) = absurd (not_both w fit r a c b y x f e)
one_way w fit r a b c (inr (x, e)) (inr (y, f)) = linked_one w fit a b c x y

back_role : (o u : Option Role) (r : Role) → Opposite o u → o ≡ Some r → u ≡ Some (turned r)
back_role o u r (s, e, f) is =
    let same : Some s ≡ Some r = sym e ∙ is in
    let roles : s ≡ r = cc same in
    f ∙ ap (λ (x : Role). Some (turned x)) roles

way_back : (w : Wiring) → LinksFit w → (r : Role) (a b : Place) → RoleStep w r a b → RoleStep w (turned r) b a
way_back w fit r a b (inl (x, e)) =
    inl (joined_back w a b x, back_role (joint_role (contact_of w a)) (joint_role (contact_of w b)) r (joined_roles w fit a b x) e)
way_back w fit r a b (inr (x, e)) = inr (linked_back w a b x, back_role (role_at_link w a) (role_at_link w b) r (linked_roles w fit a b x) e)

pub chains : (w : Wiring) → LinksFit w → Chains (RoleStep w)
chains w fit = record { one = one_way w fit; back = way_back w fit }

by_role : (w : Wiring) (a b : Place) (r : Role) → RoleStep w r a b → RoleStep w Ask a b ⊎ RoleStep w Serve a b
by_role w a b Ask s = inl s
by_role w a b Serve s = inr s

has_role : (w : Wiring) → LinksFit w → (a b : Place) → Step w a b → RoleStep w Ask a b ⊎ RoleStep w Serve a b
has_role w fit a b (inl x) = let (r, e, f) = joined_roles w fit a b x in by_role w a b r (inl (x, e))
has_role w fit a b (inr x) = let (r, e, f) = linked_roles w fit a b x in by_role w a b r (inr (x, e))

walk_of : (w : Wiring) → LinksFit w → (n : ℕ) (a b : Place) → Path w n a b → Walk (RoleStep w) n a b
walk_of w fit zero a b e = e
walk_of w fit (suc n) a b (c, s, p) = (c, has_role w fit a c s, walk_of w fit n c b p)

-- a place where a chain ends: a part's, or one in no link
abbrev pub IsOutside : Wiring → Place → Type 0
IsOutside w a = IsPart a.end ⊎ ((b : Place) → Linked w a b → ⊥)

part_role : (e : End) (o : Option Contact) (r : Role) → IsPart e → link_role e o ≡ Some r → joint_role o ≡ Some r
part_role (PartEnd i h) None r part is = is
part_role (PartEnd i h) (Some c) r part is = is
part_role (ImportEnd i h) o r part is = absurd part
part_role (ResultEnd h) o r part is = absurd part

only_role : (w : Wiring) (a : Place) (c : Contact) → contact_of w a ≡ Some c → IsOutside w a → IsOnly (RoleStep w) c.role a
only_role w a c is outside b s = by_case outside s
  where
    clash : joint_role (contact_of w a) ≡ Some (turned c.role) → ⊥
    clash e = let same : Some c.role ≡ Some (turned c.role) = sym (ap joint_role is) ∙ e in not_turned c.role (cc same)

    by_case : IsOutside w a → RoleStep w (turned c.role) a b → ⊥
    by_case o (inl (x, e)) = clash e
    by_case (inl part) (inr (x, e)) = clash (part_role a.end (contact_of w a) (turned c.role) part e)
    by_case (inr none) (inr (x, e)) = none b x

-- two places outside, of one role, between which there is a path, are one
pub one_outside : (w : Wiring) → LinksFit w → (a b : Place) (c d : Contact) → contact_of w a ≡ Some c → contact_of w b ≡ Some d
    → IsOutside w a → IsOutside w b → c.role ≡ d.role → Paths w a b → a ≡ b
one_outside w fit a b c d at_a at_b out_a out_b roles (n, path) =
    one_end (RoleStep w) (chains w fit) c.role n a b (only_role w a c at_a out_a)
    (subst (λ (r : Role). IsOnly (RoleStep w) r b) (sym roles) (only_role w b d at_b out_b)) (walk_of w fit n a b path)
