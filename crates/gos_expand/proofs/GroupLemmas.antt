-- Where the cells of a plan's netlist stand.
--
-- Read first: Laid; StandLemmas.
use Rattle.std.proofs.Common.{◌≡◌, ◌+◌, ℕ, zero, suc, Bool, true, false, List, ◌++◌, length, take, slice_get, Some, refl, sym, ap₂, subst, ◌∙◌, length-append, arith}
use Rattle.gos_netlist.specs.Nets.{Function, Cell, Side, Give, Take}
use Rattle.gos_macro.specs.Gates.{Incoming}
use Rattle.gos_plan.specs.Kinds.{Part, Skip, Lit, Seq, Par, If, While, Op, Not, Assign, Deref, Local, Array, Share, Contact, contacts_of}
use Rattle.gos_plan.specs.Plans.{End, Joint, Plan, contact_at}
use Rattle.gos_data.proofs.ArrayLemmas.{array_length}
use Rattle.gos_expand.specs.Blocks.{Nets, token_size, token_cells, registers, blocks, total}
use Rattle.gos_expand.specs.Gates.{ForOrder, ForEach, Making, layout, part_size}
use Rattle.gos_expand.specs.Starts.{Laying, Outer, ports_of, shake_size, port_size, bits_taken, kept_size, way_size, joint_size, loose_ends, loose_size, port_start, joints_start, joint_start, loose_ends_start, part_start}
use Rattle.gos_expand.specs.Laid.{registers_if, side_cells, shake_cells, port_cells, joint_cells, loose_cells, part_cells, circuit_cells, leaves, arrives, way_start, way_cells}
use Rattle.gos_expand.specs.Facts.{source, width}
use Rattle.gos_types.specs.Events.{Direction, Request, Answer}
use Rattle.gos_fast_share.specs.laws.Named.{fast_length}
use Rattle.gos_expand.proofs.ShareLemmas.{share_length}
use Rattle.gos_expand.proofs.StandLemmas.{Each, StandAt, each_left, each_right, each_both, each_block, each_of_blocks, length_blocks, first_moved, first_moved_back, all_stand}

-- the blocks have their sizes

pub token_length : (w : ℕ) (f g : Function) → length (token_cells w f g) ≡ token_size w
token_length zero f g = refl
token_length (suc w) f g = refl

two_tokens : (v w : ℕ) (f g d e : Function) → length (token_cells v f g ++ token_cells w d e) ≡ token_size v + token_size w
two_tokens v w f g d e =
    length-append (token_cells v f g) (token_cells w d e)
    ∙ ap₂ (λ (a b : ℕ). a + b) (token_length v f g) (token_length w d e)

pub shake_length : (side : Side) (c : Contact) (n : Nets) → length (side_cells side c n) ≡ token_size c.ask_bits + token_size c.answer_bits
shake_length Give c n = two_tokens c.ask_bits c.answer_bits _ _ _ _
shake_length Take c n = two_tokens c.ask_bits c.answer_bits _ _ _ _

pub shakes_length : (lay : Laying) (p : Plan) (o : Outer) (h : ℕ) (c : Contact) → length (shake_cells lay p o h c) ≡ shake_size h c
shakes_length lay p o h c = shake_length o.side c (arrives lay p (o.end_at h))

pub port_length : (lay : Laying) (p : Plan) (k : ℕ) (o : Outer) → length (port_cells lay p k o) ≡ port_size k o
port_length lay p k o = length_blocks (shake_cells lay p o) shake_size (shakes_length lay p o) 0 o.contacts

pub kept_length : (kept : Bool) (w : ℕ) (n : Nets) → length (registers_if kept w n) ≡ kept_size kept w
kept_length true w n = token_length w _ _
kept_length false w n = refl

pub joint_length : (lay : Laying) (p : Plan) (x : ℕ) (j : Joint) → length (joint_cells lay p x j) ≡ joint_size lay p x j
joint_length lay p x j =
    length-append (registers_if (lay.keep x Request) _ _) (registers_if (lay.keep x Answer) _ _)
    ∙ ap₂ (λ (a b : ℕ). a + b) (kept_length (lay.keep x Request) _ _) (kept_length (lay.keep x Answer) _ _)

pub loose_length : (p : Plan) (n : ℕ) (e : End) → length (loose_cells p n e) ≡ loose_size p n e
loose_length p n e = token_length (bits_taken (contact_at p e)) _ _

-- a part has as many cells wherever it stands
pub layout_length : (m : Making) (k : Part) (b : ℕ) (i : Incoming) → length (layout m k b i) ≡ part_size m k
layout_length m Skip b i = refl
layout_length m (Lit w k) b i = refl
layout_length m (Seq zero) b i = refl
layout_length m (Seq (suc v)) b i = refl
layout_length m Par b i = refl
layout_length m (If zero) b i = refl
layout_length m (If (suc v)) b i = refl
layout_length m While b i = refl
layout_length m (Op op w) b i = refl
layout_length m (Not w) b i = refl
layout_length m (Assign w) b i = refl
layout_length m (Deref w) b i = refl
layout_length m (Local w zero) b i = refl
layout_length m (Local w (suc v)) b i = refl
layout_length m (Array w n v) b i = array_length w n v b i ∙ sym (array_length w n v 0 (record { pulse = λ h. 0; value = λ h. 0 }))
layout_length ForEach (Share t) b i = share_length (contacts_of t) b i ∙ sym (share_length (contacts_of t) 0 _)
layout_length (ForOrder order) (Share t) b i = fast_length b i (contacts_of t) order ∙ sym (fast_length 0 _ (contacts_of t) order)

pub part_length : (lay : Laying) (p : Plan) (i : ℕ) (k : Part) → length (part_cells lay p i k) ≡ part_size (lay.making i) k
part_length lay p i k = layout_length (lay.making i) k _ _

-- the four groups, and where each begins
abbrev pub port_group : Laying → Plan → List Cell
port_group lay p = blocks (port_cells lay p) 0 (ports_of p)

abbrev pub joint_group : Laying → Plan → List Cell
joint_group lay p = blocks (joint_cells lay p) 0 p.joints

abbrev pub loose_group : Plan → List Cell
loose_group p = blocks (loose_cells p) 0 (loose_ends p)

abbrev pub part_group : Laying → Plan → List Cell
part_group lay p = blocks (part_cells lay p) 0 p.parts

pub ports_long : (lay : Laying) (p : Plan) → length (port_group lay p) ≡ joints_start p
ports_long lay p = length_blocks (port_cells lay p) port_size (port_length lay p) 0 (ports_of p)

pub joints_long : (lay : Laying) (p : Plan) → length (joint_group lay p) ≡ total (joint_size lay p) 0 p.joints
joints_long lay p = length_blocks (joint_cells lay p) (joint_size lay p) (joint_length lay p) 0 p.joints

pub loose_long : (p : Plan) → length (loose_group p) ≡ total (loose_size p) 0 (loose_ends p)
loose_long p = length_blocks (loose_cells p) (loose_size p) (loose_length p) 0 (loose_ends p)

pub parts_long : (lay : Laying) (p : Plan) → length (part_group lay p) ≡ total (λ n k. part_size (lay.making n) k) 0 p.parts
parts_long lay p = length_blocks (part_cells lay p) (λ n k. part_size (lay.making n) k) (part_length lay p) 0 p.parts

-- what holds of all cells, of each block
each_joint_on : (lay : Laying) (P : ℕ → Cell → Type 0) (p : Plan) → Each P 0 (circuit_cells lay p)
    → Each P (0 + length (port_group lay p)) (joint_group lay p ++ (loose_group p ++ part_group lay p))
each_joint_on lay P p all = each_right P 0 (port_group lay p) (joint_group lay p ++ (loose_group p ++ part_group lay p)) all

each_loose_on : (lay : Laying) (P : ℕ → Cell → Type 0) (p : Plan) → Each P 0 (circuit_cells lay p)
    → Each P (0 + length (port_group lay p) + length (joint_group lay p)) (loose_group p ++ part_group lay p)
each_loose_on lay P p all =
    each_right P (0 + length (port_group lay p)) (joint_group lay p) (loose_group p ++ part_group lay p) (each_joint_on lay P p all)

pub each_port : (lay : Laying) (P : ℕ → Cell → Type 0) (p : Plan) (k : ℕ) (o : Outer) → slice_get (ports_of p) k ≡ Some o
    → Each P 0 (circuit_cells lay p)
    → Each P (port_start p k) (port_cells lay p k o)
each_port lay P p k o h all =
    let group = each_left P 0 (port_group lay p) (joint_group lay p ++ (loose_group p ++ part_group lay p)) all in
    let one = each_block P (port_cells lay p) port_size (port_length lay p) 0 0 (ports_of p) k o h group in
    first_moved P (0 + port_start p k) (port_start p k) (λ m. port_cells lay p m o) k (omega arith) one

pub each_joint : (lay : Laying) (P : ℕ → Cell → Type 0) (p : Plan) (x : ℕ) (j : Joint) → slice_get p.joints x ≡ Some j → Each P 0 (circuit_cells lay p)
    → Each P (joint_start lay p x) (joint_cells lay p x j)
each_joint lay P p x j h all =
    let size = joint_size lay p in
    let b : ℕ = 0 + length (port_group lay p) in
    let group = each_left P b (joint_group lay p) (loose_group p ++ part_group lay p) (each_joint_on lay P p all) in
    let one = each_block P (joint_cells lay p) size (joint_length lay p) b 0 p.joints x j h group in
    let long = ports_long lay p in
    first_moved P (b + total size 0 (take x p.joints)) (joint_start lay p x) (λ m. joint_cells lay p m j) x (omega (arith, long)) one

pub each_loose : (lay : Laying) (P : ℕ → Cell → Type 0) (p : Plan) → Each P 0 (circuit_cells lay p)
    → Each P (loose_ends_start lay p) (loose_group p)
each_loose lay P p all =
    let b : ℕ = 0 + length (port_group lay p) + length (joint_group lay p) in
    let ports = ports_long lay p in
    let joints = joints_long lay p in
    let group = each_left P b (loose_group p) (part_group lay p) (each_loose_on lay P p all) in
    let e : b ≡ loose_ends_start lay p = omega (arith, ports, joints) in
    subst (λ (m : ℕ). Each P m (loose_group p)) e group

pub each_part : (lay : Laying) (P : ℕ → Cell → Type 0) (p : Plan) (i : ℕ) (k : Part) → slice_get p.parts i ≡ Some k → Each P 0 (circuit_cells lay p)
    → Each P (part_start lay p i) (part_cells lay p i k)
each_part lay P p i k h all =
    let size : ℕ → Part → ℕ = λ n k. part_size (lay.making n) k in
    let ports = ports_long lay p in
    let joints = joints_long lay p in
    let loose = loose_long p in
    let b : ℕ = 0 + length (port_group lay p) + length (joint_group lay p) + length (loose_group p) in
    let group = each_right P (0 + length (port_group lay p) + length (joint_group lay p)) (loose_group p) (part_group lay p) (each_loose_on lay P p all) in
    let one = each_block P (part_cells lay p) size (part_length lay p) b 0 p.parts i k h group in
    first_moved P (b + total size 0 (take i p.parts)) (part_start lay p i) (λ m. part_cells lay p m k) i (omega (arith, ports, joints, loose)) one

-- what holds of each block holds of all cells
pub each_laid : (lay : Laying) (P : ℕ → Cell → Type 0) (p : Plan)
    → ((k : ℕ) (o : Outer) → slice_get (ports_of p) k ≡ Some o → Each P (port_start p k) (port_cells lay p k o))
    → ((x : ℕ) (j : Joint) → slice_get p.joints x ≡ Some j → Each P (joint_start lay p x) (joint_cells lay p x j))
    → ((b n : ℕ) (e : End) → Each P b (loose_cells p n e))
    → ((i : ℕ) (k : Part) → slice_get p.parts i ≡ Some k → Each P (part_start lay p i) (part_cells lay p i k))
    → Each P 0 (circuit_cells lay p)
each_laid lay P p of_ports of_joints of_loose of_parts =
    let long = ports_long lay p in
    let joints = joints_long lay p in
    let loose = loose_long p in
    let size = joint_size lay p in
    let weight : ℕ → Part → ℕ = λ n k. part_size (lay.making n) k in
    let b : ℕ = 0 + length (port_group lay p) in
    let c : ℕ = b + length (joint_group lay p) in
    let d : ℕ = c + length (loose_group p) in
    each_both P 0 (port_group lay p) (joint_group lay p ++ (loose_group p ++ part_group lay p))
    (each_of_blocks P (port_cells lay p) port_size (port_length lay p) 0 0 (ports_of p)
    (λ k o h. first_moved_back P (0 + port_start p k) (port_start p k) (λ m. port_cells lay p m o) k (omega arith) (of_ports k o h)))
    (each_both P b (joint_group lay p) (loose_group p ++ part_group lay p)
    (each_of_blocks P (joint_cells lay p) size (joint_length lay p) b 0 p.joints
    (λ x j h.
    first_moved_back P (b + total size 0 (take x p.joints)) (joint_start lay p x) (λ m. joint_cells lay p m j) x (omega (arith, long))
    (of_joints x j h)))
    (each_both P c (loose_group p) (part_group lay p)
    (each_of_blocks P (loose_cells p) (loose_size p) (loose_length p) c 0 (loose_ends p) (λ i e h. of_loose _ (0 + i) e))
    (each_of_blocks P (part_cells lay p) weight (part_length lay p) d 0 p.parts
    (λ i k h.
    first_moved_back P (d + total weight 0 (take i p.parts)) (part_start lay p i) (λ m. part_cells lay p m k) i (omega (arith, long, joints, loose))
    (of_parts i k h)))))

-- the blocks stand among all cells
abbrev pub stands : Laying → Plan → ℕ → Cell → Type 0
stands lay p n c = slice_get (circuit_cells lay p) n ≡ Some c

pub port_stands : (lay : Laying) (p : Plan) (k : ℕ) (o : Outer) → slice_get (ports_of p) k ≡ Some o
    → StandAt (circuit_cells lay p) (port_start p k) (port_cells lay p k o)
port_stands lay p k o h = each_port lay (stands lay p) p k o h (all_stand (circuit_cells lay p))

pub joint_stands : (lay : Laying) (p : Plan) (x : ℕ) (j : Joint) → slice_get p.joints x ≡ Some j
    → StandAt (circuit_cells lay p) (joint_start lay p x) (joint_cells lay p x j)
joint_stands lay p x j h = each_joint lay (stands lay p) p x j h (all_stand (circuit_cells lay p))

-- the registers of a direction of a joint that keeps them
pub way_stands : (lay : Laying) (p : Plan) (x : ℕ) (j : Joint) (way : Direction) → slice_get p.joints x ≡ Some j → lay.keep x way ≡ true
    → StandAt (circuit_cells lay p) (way_start lay p x (Some j) way) (registers (width p j way) (leaves lay p (source j way)))
way_stands lay p x j Request there kept =
    let requests : List Cell = way_cells lay p x j Request j.asking in
    let answers : List Cell = way_cells lay p x j Answer j.serving in
    subst (λ (b : Bool). StandAt (circuit_cells lay p) (joint_start lay p x) (registers_if b (width p j Request) (leaves lay p j.asking))) kept
    (each_left (stands lay p) (joint_start lay p x) requests answers (joint_stands lay p x j there))
way_stands lay p x j Answer there kept =
    let requests : List Cell = way_cells lay p x j Request j.asking in
    let answers : List Cell = way_cells lay p x j Answer j.serving in
    let long : length requests ≡ way_size lay p x j Request = kept_length (lay.keep x Request) _ _ in
    subst (λ (b : Bool). StandAt (circuit_cells lay p) (joint_start lay p x + way_size lay p x j Request) (registers_if b (width p j Answer) (leaves lay p j.serving)))
    kept
    (subst (λ (m : ℕ). StandAt (circuit_cells lay p) (joint_start lay p x + m) answers) long
    (each_right (stands lay p) (joint_start lay p x) requests answers (joint_stands lay p x j there)))

pub loose_stand : (lay : Laying) (p : Plan) → StandAt (circuit_cells lay p) (loose_ends_start lay p) (loose_group p)
loose_stand lay p = each_loose lay (stands lay p) p (all_stand (circuit_cells lay p))

pub part_stands : (lay : Laying) (p : Plan) (i : ℕ) (k : Part) → slice_get p.parts i ≡ Some k
    → StandAt (circuit_cells lay p) (part_start lay p i) (part_cells lay p i k)
part_stands lay p i k h = each_part lay (stands lay p) p i k h (all_stand (circuit_cells lay p))
