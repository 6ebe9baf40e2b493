-- The netlist of a plan has no more cells than the plan's size.
--
-- Read first: Size of gos_plan; Starts. A port has two handshakes at most. A token has two cells at most, and so has
-- an end without a joint; the gates of a part are few for its handshakes.
use Rattle.std.proofs.Common.{◌≡◌, ◌+◌, ◌*◌, ◌≤◌, ℕ, zero, suc, Bool, true, false, List, [], ◌∷◌, ◌++◌, length, slice_get, Some, filter, if◌then◌else◌, refl, ap, length-append, arith, subst}
use Rattle.std.specs.List.{AllByRecursion}
use Rattle.gos_types.specs.Types.{Type', Com, Exp, Var, Pair, Fun, IsGround}
use Rattle.gos_types.specs.Events.{Request, Answer}
use Rattle.gos_plan.specs.Kinds.{Part, Skip, Lit, Seq, Par, If, While, Op, Not, Assign, Deref, Local, Array, Share, Contact, contacts_of, part_contacts}
use Rattle.gos_model.specs.Typing.{Imported}
use Rattle.gos_plan.specs.Plans.{End, PartEnd, Joint, Plan, contact_at, is_free}
use Rattle.gos_plan.specs.Seen.{plan_of}
use Rattle.gos_plan.specs.Size.{shakes_of, numbers_in, numbers_of, plan_size}
use Rattle.gos_data.proofs.ArrayLemmas.{array_length}
use Rattle.gos_expand.specs.Blocks.{token_size, total}
use Rattle.gos_expand.specs.Gates.{ForOrder, ForEach, Making, part_size}
use Rattle.gos_expand.specs.Kept.{AreFew, IsWhole}
use Rattle.gos_expand.specs.Starts.{plain, Laying, Outer, ports_of, taken_ports, shake_size, port_size, bits_taken, kept_size, way_size, joint_size, loose_size, ends_at, port_ends, part_ends, loose_ends}
use Rattle.gos_expand.specs.Laid.{circuit_cells}
use Rattle.gos_expand.specs.Acceptance.{AreWhole, CircuitIsSmall, LaidIsSmall}
use Rattle.gos_expand.proofs.GroupLemmas.{layout_length, port_group, joint_group, loose_group, part_group, ports_long, joints_long, loose_long, parts_long}
use Rattle.gos_expand.proofs.ShareLemmas.{share_few, fast_few}
use Rattle.gos_expand.proofs.FlowLemmas.{IsSound, done_ground}
use Rattle.gos_expand.proofs.AcceptLemmas.{sound}

-- the gates of a part are few
pub part_few : (m : Making) (k : Part) → IsWhole m k → part_size m k ≤ 24 * (length (part_contacts k) + 1) + 8 * numbers_in k
part_few m Skip whole = omega arith
part_few m (Lit w k) whole = omega arith
part_few m (Seq zero) whole = omega arith
part_few m (Seq (suc v)) whole = omega arith
part_few m Par whole = omega arith
part_few m (If zero) whole = omega arith
part_few m (If (suc v)) whole = omega arith
part_few m While whole = omega arith
part_few m (Op op w) whole = omega arith
part_few m (Not w) whole = omega arith
part_few m (Assign w) whole = omega arith
part_few m (Deref w) whole = omega arith
part_few m (Local w zero) whole = omega arith
part_few m (Local w (suc v)) whole = omega arith
part_few m (Array w n zero) whole =
    let size : part_size m (Array w n zero) ≡ 19 + 7 * n = array_length w n zero 0 (record { pulse = λ h. 0; value = λ h. 0 }) in omega (arith, size)
part_few m (Array w n (suc v)) whole =
    let size : part_size m (Array w n (suc v)) ≡ 20 + 7 * n = array_length w n (suc v) 0 (record { pulse = λ h. 0; value = λ h. 0 }) in omega (arith, size)
part_few ForEach (Share t) whole = let few = share_few t in omega (arith, few)
part_few (ForOrder order) (Share t) whole = let few = fast_few t order whole in omega (arith, few)

pub gates_few : AreFew
gates_few m k b i whole = let size = layout_length m k b i in let few = part_few m k whole in omega (arith, size, few)

parts_few : (making : ℕ → Making) (n : ℕ) (ks : List Part) → ((i : ℕ) (k : Part) → slice_get ks i ≡ Some k → IsWhole (making (n + i)) k)
    → total (λ i k. part_size (making i) k) n ks ≤ 24 * (shakes_of ks + length ks) + 8 * numbers_of ks
parts_few making n [] whole = omega arith
parts_few making n (k ∷ ks) whole =
    let one = part_few (making n) k (subst (λ (m : ℕ). IsWhole (making m) k) (omega arith) (whole 0 k refl)) in
    let behind : (i : ℕ) (l : Part) → slice_get ks i ≡ Some l → IsWhole (making (suc n + i)) l =
    λ i l there. subst (λ (m : ℕ). IsWhole (making m) l) (omega arith) (whole (suc i) l there) in
    let rest = parts_few making (suc n) ks behind in
    omega (arith, one, rest)

-- tokens

token_few : (w : ℕ) → token_size w ≤ 2
token_few zero = omega arith
token_few (suc w) = omega arith

kept_few : (kept : Bool) (w : ℕ) → kept_size kept w ≤ 2
kept_few true w = token_few w
kept_few false w = omega arith

joints_few : (lay : Laying) (p : Plan) (x : ℕ) (js : List Joint) → total (joint_size lay p) x js ≤ 4 * length js
joints_few lay p x [] = omega arith
joints_few lay p x (j ∷ js) =
    let request : way_size lay p x j Request ≤ 2 = kept_few (lay.keep x Request) _ in
    let answer : way_size lay p x j Answer ≤ 2 = kept_few (lay.keep x Answer) _ in
    let rest = joints_few lay p (suc x) js in
    omega (arith, request, answer, rest)

shakes_few : (h : ℕ) (cs : List Contact) → total shake_size h cs ≤ 4 * length cs
shakes_few h [] = omega arith
shakes_few h (c ∷ cs) =
    let request = token_few c.ask_bits in
    let answer = token_few c.answer_bits in
    let rest = shakes_few (suc h) cs in
    omega (arith, request, answer, rest)

loose_few : (p : Plan) (n : ℕ) (ds : List End) → total (loose_size p) n ds ≤ 2 * length ds
loose_few p n [] = omega arith
loose_few p n (d ∷ ds) =
    let one = token_few (bits_taken (contact_at p d)) in
    let rest = loose_few p (suc n) ds in
    omega (arith, one, rest)

-- ports

abbrev pub IsShort : Outer → Type 0
IsShort o = length o.contacts ≤ 2

contacts_few : (t : Type') → IsGround t → length (contacts_of t) ≤ 2
contacts_few Com ground = omega arith
contacts_few (Exp w) ground = omega arith
contacts_few (Var w) ground = omega arith
contacts_few (Pair a b) ground = absurd ground
contacts_few (Fun a b) ground = absurd ground

short_imports : (n : ℕ) (ts : List Imported) → ((i : ℕ) (t : Imported) → slice_get ts i ≡ Some t → IsGround t.ty)
    → AllByRecursion IsShort (taken_ports n ts)
short_imports n [] grounds = tt
short_imports n (t ∷ ts) grounds = (contacts_few t.ty (grounds 0 t refl), short_imports (suc n) ts (λ i u is. grounds (suc i) u is))

short_ports : (lay : Laying) → (p : Plan) → IsSound lay p → AllByRecursion IsShort (ports_of p)
short_ports lay p sound = (contacts_few p.outcome (done_ground p.outcome sound.done), short_imports 0 p.imports sound.grounds)

ports_few : (k : ℕ) (os : List Outer) → AllByRecursion IsShort os → total port_size k os ≤ 8 * length os
ports_few k [] short = omega arith
ports_few k (o ∷ os) short =
    let first = short.0 in
    let size = shakes_few 0 o.contacts in
    let rest = ports_few (suc k) os short.1 in
    omega (arith, first, size, rest)

imports_long : (n : ℕ) (ts : List Imported) → length (taken_ports n ts) ≡ length ts
imports_long n [] = refl
imports_long n (t ∷ ts) = ap suc (imports_long (suc n) ts)

-- ends

filter_few : (test : End → Bool) (xs : List End) → length (filter test xs) ≤ length xs
filter_few test [] = omega arith
filter_few test (x ∷ xs) = by_test (test x) (filter_few test xs)
  where
    by_test : (b : Bool) → length (filter test xs) ≤ length xs → length (if b then x ∷ filter test xs else filter test xs) ≤ suc (length xs)
    by_test true rest = omega (arith, rest)
    by_test false rest = omega (arith, rest)

ends_long : (end : ℕ → End) (h : ℕ) (cs : List Contact) → length (ends_at end h cs) ≡ length cs
ends_long end h [] = refl
ends_long end h (c ∷ cs) = ap suc (ends_long end (suc h) cs)

part_ends_long : (n : ℕ) (ks : List Part) → length (part_ends n ks) ≡ shakes_of ks
part_ends_long n [] = refl
part_ends_long n (k ∷ ks) =
    let both = length-append (ends_at (PartEnd n) 0 (part_contacts k)) (part_ends (suc n) ks) in
    let one = ends_long (PartEnd n) 0 (part_contacts k) in
    let rest = part_ends_long (suc n) ks in
    omega (arith, both, one, rest)

port_ends_few : (os : List Outer) → AllByRecursion IsShort os → length (port_ends os) ≤ 2 * length os
port_ends_few [] short = omega arith
port_ends_few (o ∷ os) short =
    let first = short.0 in
    let both = length-append (ends_at o.end_at 0 o.contacts) (port_ends os) in
    let one = ends_long o.end_at 0 o.contacts in
    let rest = port_ends_few os short.1 in
    omega (arith, first, both, one, rest)

loose_ends_few : (lay : Laying) → (p : Plan) → IsSound lay p → length (loose_ends p) ≤ 2 * length (ports_of p) + shakes_of p.parts
loose_ends_few lay p sound =
    let ends : List End = port_ends (ports_of p) ++ part_ends 0 p.parts in
    let few = filter_few (λ e. is_free e p.joints) ends in
    let both = length-append (port_ends (ports_of p)) (part_ends 0 p.parts) in
    let ports = port_ends_few (ports_of p) (short_ports lay p sound) in
    let parts = part_ends_long 0 p.parts in
    omega (arith, few, both, ports, parts)

-- all cells

laid_long : (lay : Laying) (p : Plan)
    → length (circuit_cells lay p) ≡ length (port_group lay p) + (length (joint_group lay p) + (length (loose_group p) + length (part_group lay p)))
laid_long lay p =
    let first = length-append (port_group lay p) (joint_group lay p ++ (loose_group p ++ part_group lay p)) in
    let second = length-append (joint_group lay p) (loose_group p ++ part_group lay p) in
    let third = length-append (loose_group p) (part_group lay p) in
    omega (arith, first, second, third)

few_cells : (lay : Laying) (p : Plan) → IsSound lay p → AreWhole lay p → length (circuit_cells lay p) ≤ plan_size p
few_cells lay p sound whole =
    let long = laid_long lay p in
    let ports_are = ports_long lay p in
    let joints_are = joints_long lay p in
    let loose_are = loose_long p in
    let parts_are = parts_long lay p in
    let ports = ports_few 0 (ports_of p) (short_ports lay p sound) in
    let joints = joints_few lay p 0 p.joints in
    let loose = loose_few p 0 (loose_ends p) in
    let ends = loose_ends_few lay p sound in
    let parts = parts_few lay.making 0 p.parts (λ i k there. subst (λ (m : ℕ). IsWhole (lay.making m) k) (omega arith) (whole i k there)) in
    let count : length (ports_of p) ≡ suc (length p.imports) = ap suc (imports_long 0 p.imports) in
    omega (arith, long, ports_are, joints_are, loose_are, parts_are, ports, joints, loose, ends, parts, count)

pub circuit_small : CircuitIsSmall
circuit_small lay p root can whole = few_cells lay (plan_of p) (sound lay p root can) whole

-- gates that are made for no order are few
pub laid_small : LaidIsSmall
laid_small keep p root can = circuit_small (plain keep) p root can (λ i k there. tt)
