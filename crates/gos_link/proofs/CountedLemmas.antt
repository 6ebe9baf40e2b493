-- Plans within the limits of object files, of which there are no more than a build file has instances, are counted by 32 bits.
use Rattle.std.specs.Prelude.{◌≡◌, ℕ, zero, suc, ◌+◌, ◌*◌, ◌<◌, ◌≤◌, ◌^◌, Bool, true, false, List, [], ◌∷◌, ◌++◌, All, drop, length, map, Option, Some, None, slice_get}
use Rattle.std.proofs.Common.{inl, inr, refl, sym, ◌∙◌, ap, subst, arith, length-append}
use Rattle.std.proofs.lemmas.List.{length-map}
use Rattle.std.proofs.lemmas.List.Elements.{All-head, All-tail}
use Rattle.std.proofs.lemmas.Option.{slice_get_within}
use Rattle.gos_types.specs.Types.{type_of}
use Rattle.gos_types.specs.Handshakes.{handshakes_of}
use Rattle.gos_model.specs.Typing.{Imported, IsLength}
use Rattle.gos_plan.specs.declared.kinds.Kind.{Kind}
use Rattle.gos_plan.specs.declared.kinds.Kind.TheVariants as kinds
use Rattle.gos_plan.specs.Kinds.{Contact, Part, asks, serves, contact, turned_contact, contacts_of, other_side, part_contacts}
use Rattle.gos_plan.specs.Plans.{End, PartEnd, ImportEnd, ResultEnd, Joint, Plan, contact_at, contacts_of_part, contacts_of_import, AreRight, IsRight}
use Rattle.gos_plan.specs.ObjectFaults.{IsRead}
use Rattle.gos_plan.specs.Ranges.{IsInRange}
use Rattle.gos_plan.specs.Seen.{SeenPlan, import_of, joint_of, part_of, plan_of}
use Rattle.gos_plan.specs.Size.{shakes_of, numbers_in, numbers_of}
use Rattle.gos_plan.specs.Joining.{Link, is_joined, left_in, left_among, all_left, all_parts, all_weight, IsJoining}
use Rattle.gos_link.specs.declared.build.Instance.{Instance}
use Rattle.gos_link.specs.declared.build.Bind.{Bind}
use Rattle.gos_link.specs.declared.build.Build.{Build}
use Rattle.gos_link.specs.declared.services.Service.{Service}
use Rattle.gos_link.specs.Services.{BindsOn}
use Rattle.gos_link.specs.Linked.{AllKeepLimits, IsLinkable, KeepsLimits, plans_of, wiring_of}
use Rattle.gos_link.specs.Answers.{all_joints}
use Rattle.gos_link.specs.inner.Counts.{all_imports, AreCounted, HasRoom, HaveRoom, IsCountable}
use Rattle.gos_link.specs.inner.Wired.{AllRight, AreJoinable}
use Rattle.gos_link.proofs.FewLemmas.{few_joined}
use Rattle.gos_link.proofs.TieLemmas.{drop_at}

-- each line means one service
binds_length : (is : List Instance) (ps : List SeenPlan) (before : List Service) (bs : List Bind) (ss : List Service)
    → BindsOn is ps before bs ss None → length ss ≡ length bs
binds_length is ps before [] [] binds = refl
binds_length is ps before [] (s ∷ ss) binds = absurd binds
binds_length is ps before (b ∷ bs) [] binds = absurd binds
binds_length is ps before (b ∷ bs) (s ∷ ss) binds = ap suc (binds_length is ps (before ++ s ∷ []) bs ss binds.1)

-- what plans have together, by the limits of each
record AreSmall (ps : List Plan) : Type 0 where
  weight : all_weight ps ≤ 8192 * length ps
  parts : length (all_parts ps) ≤ 16384 * length ps
  imports : all_imports ps ≤ 64 * length ps
  joints : all_joints ps ≤ 65536 * length ps

are_small : (ps : List Plan) → AllKeepLimits ps → AreSmall ps
are_small [] limits = record { weight = omega arith; parts = omega arith; imports = omega arith; joints = omega arith }
are_small (p ∷ ps) (one, others) =
    let rest = are_small ps others in
    let sum = length-append p.parts (all_parts ps) in
    let weight = one.light in
    let imports = one.small.imports.0 in
    let parts = one.small.parts.0 in
    let joints = one.small.joints in
    let weights = rest.weight in
    let more_parts = rest.parts in
    let more_imports = rest.imports in
    let more_joints = rest.joints in
    record {
      weight = omega (arith, weight, weights);
      parts = omega (arith, sum, parts, more_parts);
      imports = omega (arith, imports, more_imports);
      joints = omega (arith, joints, more_joints);
    }

pub counted : (b : Build) (ps : List SeenPlan) (ss : List Service) → IsLinkable b ps → BindsOn b.instances.items ps [] b.binds.items ss None
    → AreCounted (plans_of ps) ss
counted b ps ss is binds =
    let small = are_small (plans_of ps) is.limits in
    let size = length-map ps plan_of in
    let lines = binds_length b.instances.items ps [] b.binds.items ss binds in
    let each = is.each in
    let few = is.few_instances in
    let few_binds = is.few_binds in
    let weight = small.weight in
    let parts = small.parts in
    let imports = small.imports in
    let joints = small.joints in
    record {
      weight = omega (arith, weight, size, each, few);
      parts = omega (arith, parts, size, each, few);
      imports = omega (arith, imports, size, each, few);
      joints = omega (arith, joints, size, each, few);
      plans = omega (arith, size, each, few);
      services = omega (arith, lines, few_binds);
    }

-- the imports that stay are among all
few_left_in : (ls : List Link) (k i : ℕ) (xs : List Imported) → length (left_in ls k i xs) ≤ length xs
few_left_in ls k i [] = omega arith
few_left_in ls k i (x ∷ xs) = by (is_joined ls k i) refl (few_left_in ls k (suc i) xs)
  where
    by : (b : Bool) → is_joined ls k i ≡ b → length (left_in ls k (suc i) xs) ≤ length xs → length (left_in ls k i (x ∷ xs)) ≤ length (x ∷ xs)
    by true e rest = rw e (omega (arith, rest))
    by false e rest = rw e (omega (arith, rest))

pub few_left : (ls : List Link) (k : ℕ) (ps : List Plan) → length (left_among ls k ps) ≤ all_imports ps
few_left ls k [] = omega arith
few_left ls k (p ∷ ps) =
    let both = length-append (left_in ls k 0 p.imports) (left_among ls (suc k) ps) in
    let one = few_left_in ls k 0 p.imports in
    let rest = few_left ls (suc k) ps in
    omega (arith, both, one, rest)

-- a joining has few parts, imports and joints
pub countable : (ps : List Plan) (ss : List Service) (root : ℕ) (r : Plan) → AreJoinable ps ss root → AllRight ps → AreCounted ps ss
    → IsJoining (wiring_of ps ss root) r → IsCountable r
countable ps ss root r known right count joining =
    let parts : length r.parts ≡ length (all_parts ps) = ap (λ (ks : List Part). length ks) joining.parts in
    let imports : length r.imports ≡ length (all_left (wiring_of ps ss root)) =
    ap (λ (xs : List Imported). length xs) joining.imports ∙ length-map (all_left (wiring_of ps ss root)) (λ l. l.import) in
    let left = few_left (wiring_of ps ss root).links 0 ps in
    let joints = few_joined ps ss root known right r joining in
    let few_parts = count.parts in
    let few_imports = count.imports in
    let few_joints = count.joints in
    record {
      parts = omega (arith, parts, few_parts);
      imports = omega (arith, imports, left, few_imports);
      joints = omega (arith, joints, few_joints);
    }

-- the ends of right joints are of parts and imports that there are
room_at : (p : Plan) (start n : ℕ) (e : End) (c : Contact) → start + length p.parts < 2 ^ 32 → length p.imports ≤ n → contact_at p e ≡ Some c → HasRoom start n e
room_at p start n (PartEnd i h) c fits low is = by (slice_get p.parts i) refl is
  where
    by : (o : Option Part) → slice_get p.parts i ≡ o → slice_get (contacts_of_part o) h ≡ Some c → start + i < 2 ^ 32
    by None none e = absurd (cc e)
    by (Some k) at e = let inside = slice_get_within p.parts i k at in omega (arith, inside, fits)
room_at p start n (ImportEnd i h) c fits low is = by (slice_get p.imports i) refl is
  where
    by : (o : Option Imported) → slice_get p.imports i ≡ o → slice_get (contacts_of_import o) h ≡ Some c → i < n
    by None none e = absurd (cc e)
    by (Some x) at e = let inside = slice_get_within p.imports i x at in omega (arith, inside, low)
room_at p start n (ResultEnd h) c fits low is = tt

pub have_room : (p : Plan) (start n : ℕ) (before js : List Joint) → start + length p.parts < 2 ^ 32 → length p.imports ≤ n → AreRight p before js
    → HaveRoom start n js
have_room p start n before [] fits low right = tt
have_room p start n before (j ∷ js) fits low (((q, v, asked, served), free_one, free_other), rest) =
    (room_at p start n j.asking (asks q v) fits low asked, room_at p start n j.serving (serves q v) fits low served, have_room p start n (j ∷ before) js fits low rest)

pub joint_room : (start n : ℕ) (js : List Joint) (k : ℕ) (j : Joint) → HaveRoom start n js → slice_get js k ≡ Some j
    → HasRoom start n j.asking × HasRoom start n j.serving
joint_room start n [] k j room e = absurd (cc e)
joint_room start n (i ∷ js) zero j (one, other, rest) e =
    let same : i ≡ j = cc e in subst (λ (x : Joint). HasRoom start n x.asking × HasRoom start n x.serving) same (one, other)
joint_room start n (i ∷ js) (suc k) j (one, other, rest) e = joint_room start n js k j rest e

-- a plan further
pub parts_on : (ps : List SeenPlan) (k : ℕ) (p : SeenPlan) → slice_get ps k ≡ Some p
    → length (all_parts (map plan_of (drop k ps))) ≡ length p.parts + length (all_parts (map plan_of (drop (k + 1) ps)))
parts_on ps k p at =
    let size = length-map p.parts part_of in
    let sum = length-append (map part_of p.parts) (all_parts (map plan_of (drop (k + 1) ps))) in
    ap (λ (qs : List SeenPlan). length (all_parts (map plan_of qs))) (drop_at ps k p at) ∙ (omega (arith, size, sum))

pub imports_on : (ps : List SeenPlan) (k : ℕ) (p : SeenPlan) → slice_get ps k ≡ Some p
    → all_imports (map plan_of (drop k ps)) ≡ length p.imports + all_imports (map plan_of (drop (k + 1) ps))
imports_on ps k p at =
    let size = length-map p.imports import_of in
    ap (λ (qs : List SeenPlan). all_imports (map plan_of qs)) (drop_at ps k p at) ∙ (omega (arith, size))

-- its ends have room
pub ties_room : (ps : List SeenPlan) (k : ℕ) (p : SeenPlan) (start places : ℕ) → slice_get ps k ≡ Some p
    → start + length (all_parts (map plan_of (drop k ps))) ≤ length (all_parts (map plan_of ps)) → length (all_parts (map plan_of ps)) < 2 ^ 32
    → places ≡ length p.imports → IsRight (plan_of p) → HaveRoom start places (map joint_of p.joints)
ties_room ps k p start places at before few size right =
    let on = parts_on ps k p at in
    let parts = length-map p.parts part_of in
    let imports = length-map p.imports import_of in
    have_room (plan_of p) start places [] (map joint_of p.joints) (omega (arith, before, few, on, parts)) (omega (arith, size, imports)) right

-- a part has at most 192 handshakes
part_few : (k : Kind) → IsInRange k → length (part_contacts (part_of k)) ≤ 192
part_few kinds.Skip range = omega arith
part_few (kinds.Lit w k) range = omega arith
part_few kinds.Seq range = omega arith
part_few (kinds.SeqExp w) range = omega arith
part_few kinds.Par range = omega arith
part_few kinds.If range = omega arith
part_few (kinds.IfExp w) range = omega arith
part_few kinds.While range = omega arith
part_few (kinds.Op op w) range = omega arith
part_few (kinds.Not w) range = omega arith
part_few (kinds.Assign w) range = omega arith
part_few (kinds.Deref w) range = omega arith
part_few (kinds.Local w v) range = omega arith
part_few (kinds.Array w n v) range = omega arith
part_few (kinds.Share t) (widths, small) =
    let cs : List Contact = contacts_of (type_of t) in
    let all = length-append (other_side cs) (cs ++ cs) in
    let two = length-append cs cs in
    let other = length-map cs turned_contact in
    let one = length-map (handshakes_of (type_of t)) contact in
    omega (arith, all, two, other, one, small)

pub shakes_few : (ks : List Kind) → All IsInRange ks → shakes_of (map part_of ks) ≤ 192 * length ks
shakes_few [] range = omega arith
shakes_few (k ∷ ks) range =
    let one = part_few k (All-head IsInRange k ks range) in let rest = shakes_few ks (All-tail IsInRange k ks range) in omega (arith, one, rest)

-- an array has at most 16 numbers
pub length_few : (n : ℕ) → IsLength n → n ≤ 16
length_few n (inl is) = omega (arith, is)
length_few n (inr (inl is)) = omega (arith, is)
length_few n (inr (inr (inl is))) = omega (arith, is)
length_few n (inr (inr (inr is))) = omega (arith, is)

kind_few : (k : Kind) → IsInRange k → numbers_in (part_of k) ≤ 16
kind_few (kinds.Array w n v) range = length_few n range.1
kind_few kinds.Skip range = omega arith
kind_few (kinds.Lit w k) range = omega arith
kind_few kinds.Seq range = omega arith
kind_few (kinds.SeqExp w) range = omega arith
kind_few kinds.Par range = omega arith
kind_few kinds.If range = omega arith
kind_few (kinds.IfExp w) range = omega arith
kind_few kinds.While range = omega arith
kind_few (kinds.Op op w) range = omega arith
kind_few (kinds.Not w) range = omega arith
kind_few (kinds.Assign w) range = omega arith
kind_few (kinds.Deref w) range = omega arith
kind_few (kinds.Local w v) range = omega arith
kind_few (kinds.Share t) range = omega arith

pub numbers_few : (ks : List Kind) → All IsInRange ks → numbers_of (map part_of ks) ≤ 16 * length ks
numbers_few [] range = omega arith
numbers_few (k ∷ ks) range =
    let one = kind_few k (All-head IsInRange k ks range) in
    let rest = numbers_few ks (All-tail IsInRange k ks range) in
    omega (arith, one, rest)

-- a text that is read is that of a plan within the limits
pub keeps_limits : (text : List ℕ) (p : Plan) → IsRead text p → KeepsLimits p
keeps_limits text p (is, right) = record { light = is.writable.weight.1; small = is.small }

all_limits : (ps qs : List SeenPlan) → AllKeepLimits (plans_of ps) → AllKeepLimits (plans_of qs) → AllKeepLimits (plans_of (ps ++ qs))
all_limits [] qs one other = other
all_limits (p ∷ ps) qs (one, rest) other = (one, all_limits ps qs rest other)

pub limits_more : (old new : List SeenPlan) (p : SeenPlan) → new ≡ old ++ p ∷ [] → AllKeepLimits (plans_of old) → KeepsLimits (plan_of p)
    → AllKeepLimits (plans_of new)
limits_more old new p pushed before one = subst (λ (ps : List SeenPlan). AllKeepLimits (plans_of ps)) (sym pushed) (all_limits old (p ∷ []) before (one, tt))
