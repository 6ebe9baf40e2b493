-- Where the table says so a path leads through a Share, from pulse to pulse: by one cell.
--
-- Read first: Pairs, Own.
use Rattle.std.proofs.Common.{◌≡◌, ℕ, zero, suc, ◌+◌, true, List, [], ◌∷◌, ◌++◌, Some, refl, sym, subst, arith}
use Rattle.std.specs.Prelude.{length, slice_get}
use Rattle.gos_types.specs.declared.shakes.Role.{Role}
use Rattle.gos_types.specs.declared.shakes.Role.TheVariants.{Serve, Ask}
use Rattle.gos_netlist.specs.Nets.{Cell}
use Rattle.gos_plan.specs.Kinds.{Contact}
use Rattle.gos_macro.specs.Gates.{Incoming, Outgoing}
use Rattle.gos_macro.specs.Paths.{Drives, IsPulseOut, PulseLeadsOn}
use Rattle.gos_macro.specs.laws.StandingCells.{StandAt, stand_left, stand_right}
use Rattle.gos_share.specs.Blocks.{outgoing, asked_size, answered_cells, sent_size, told_cells, block_cells, block_size, kept_net, source_out, caller_out}
use Rattle.gos_share.specs.Share.{row_cells, share_cells, source_outs, caller_outs, share_outs, share_passing}
use Rattle.gos_share.specs.laws.Row.{block_length}
use Rattle.gos_share.specs.laws.Keeping.{source_length, caller_length}
use Rattle.gos_share.specs.laws.Own.{serve_parts, ask_parts, row_stands}
use Rattle.gos_share.specs.laws.Pairs.{AtPairs, AtAllPairs, where_it_passes}

answered_ways : (w : ℕ) (i : Incoming) (j b n : ℕ) (all : List Cell) → StandAt all n (answered_cells w i j b n)
    → Drives b all (i.pulse j) (b + (n + 0)) × Drives b all (i.pulse j) (b + (n + 1))
answered_ways zero i j b n all stand = (
  (n + 0, _, refl, stand 0 _ refl, (λ r. cc r.1), (0, omega arith, refl)),
  (n + 1, _, refl, stand 1 _ refl, (λ r. cc r.1), (0, omega arith, refl)),
)
answered_ways (suc w) i j b n all stand = (
  (n + 0, _, refl, stand 0 _ refl, (λ r. cc r.1), (0, omega arith, refl)),
  (n + 1, _, refl, stand 1 _ refl, (λ r. cc r.1), (0, omega arith, refl)),
)

pub told_ways : (w : ℕ) (i : Incoming) (h j b n : ℕ) (all : List Cell) → StandAt all n (told_cells w i h j b n)
    → Drives b all (i.pulse (h + j)) (b + (n + 0)) × Drives b all (i.pulse (h + h + j)) (b + (n + 0))
told_ways zero i h j b n all stand = (
  (n + 0, _, refl, stand 0 _ refl, (λ r. cc r.1), (0, omega arith, refl)),
  (n + 0, _, refl, stand 0 _ refl, (λ r. cc r.1), (1, omega arith, refl)),
)
told_ways (suc w) i h j b n all stand = (
  (n + 0, _, refl, stand 0 _ refl, (λ r. cc r.1), (0, omega arith, refl)),
  (n + 0, _, refl, stand 0 _ refl, (λ r. cc r.1), (1, omega arith, refl)),
)

pulse_out : (w p a : ℕ) → IsPulseOut (Some (outgoing w p a)) p
pulse_out zero p a = refl
pulse_out (suc w) p a = refl

-- the pulse that comes in at one handshake drives that which goes out at another
pub by_one_cell : (b : ℕ) (i : Incoming) (all : List Cell) (outs : List Outgoing) (from to w p a : ℕ) → slice_get outs to ≡ Some (outgoing w p a)
    → Drives b all (i.pulse from) p → PulseLeadsOn b i all outs from to
by_one_cell b i all outs from to w p a there drives =
    (p, [], subst (λ o. IsPulseOut o p) (sym there) (pulse_out w p a), drives)

block_ways : (r : Role) (q a : ℕ) (i : Incoming) (h j b n c d : ℕ) (all : List Cell) (outs : List Outgoing) → slice_get outs j ≡ Some (source_out r q a b n)
    → slice_get outs (h + j) ≡ Some (caller_out 0 r q a b n) → slice_get outs (h + h + j) ≡ Some (caller_out 1 r q a b n)
    → StandAt all n (block_cells r q a i h j b n c d) → AtPairs (PulseLeadsOn b i all outs) r h j
block_ways Serve q a i h j b n c d all outs source first second stand =
    let parts = serve_parts q a i h j b n c d all stand in
    let ways = answered_ways a i j b (n + 2 + asked_size q) all parts.2 in
    (by_one_cell b i all outs j (h + j) a _ _ first ways.0, by_one_cell b i all outs j (h + h + j) a _ _ second ways.1)
block_ways Ask q a i h j b n c d all outs source first second stand =
    let parts = ask_parts q a i h j b n c d all stand in
    let ways = told_ways a i h j b (n + sent_size q) all parts.1 in
    (by_one_cell b i all outs (h + j) j a _ _ source ways.0, by_one_cell b i all outs (h + h + j) j a _ _ source ways.1)

-- what goes out stands among others from place e on
abbrev pub OutAt : List Outgoing → ℕ → List Outgoing → Type 0
OutAt outs e os = (m : ℕ) (o : Outgoing) → slice_get os m ≡ Some o → slice_get outs (e + m) ≡ Some o

pub out_here : (outs os : List Outgoing) (e d : ℕ) (o : Outgoing) → e ≡ d → OutAt outs e (o ∷ os) → slice_get outs d ≡ Some o
out_here outs os e d o is there = let here : e + 0 ≡ d = omega (arith, is) in subst (λ (m : ℕ). slice_get outs m ≡ Some o) here (there 0 o refl)

pub out_behind : (outs os : List Outgoing) (e : ℕ) (o : Outgoing) → OutAt outs e (o ∷ os) → OutAt outs (suc e) os
out_behind outs os e o there m p at =
    let here : e + suc m ≡ suc e + m = omega arith in subst (λ (k : ℕ). slice_get outs k ≡ Some p) here (there (suc m) p at)

row_ways : (i : Incoming) (h j e1 e2 b n c d : ℕ) (all : List Cell) (outs : List Outgoing) (ks : List Contact) → e1 ≡ h + j → e2 ≡ h + h + j
    → OutAt outs j (source_outs b n ks) → OutAt outs e1 (caller_outs 0 b n ks) → OutAt outs e2 (caller_outs 1 b n ks)
    → StandAt all n (row_cells i h j b n c d ks) → AtAllPairs (PulseLeadsOn b i all outs) h j ks
row_ways i h j e1 e2 b n c d all outs [] is1 is2 source first second stand = tt
row_ways i h j e1 e2 b n c d all outs (k ∷ ks) is1 is2 source first second stand =
    let q = k.ask_bits in
    let a = k.answer_bits in
    let size = block_size k.role q a in
    let next_c = kept_net k.role (b + (n + 0)) c in
    let next_d = kept_net k.role (b + (n + 1)) d in
    let block = block_cells k.role q a i h j b n c d in
    let row = row_cells i h (suc j) b (n + size) next_c next_d ks in (
      block_ways k.role q a i h j b n c d all outs
          (out_here outs (source_outs b (n + size) ks) j j _ refl source)
          (out_here outs (caller_outs 0 b (n + size) ks) e1 (h + j) _ is1 first)
          (out_here outs (caller_outs 1 b (n + size) ks) e2 (h + h + j) _ is2 second) (stand_left all n block row stand),
      row_ways i h (suc j) (suc e1) (suc e2) b (n + size) next_c next_d all outs ks (omega (arith, is1)) (omega (arith, is2))
          (out_behind outs (source_outs b (n + size) ks) j _ source)
          (out_behind outs (caller_outs 0 b (n + size) ks) e1 _ first)
          (out_behind outs (caller_outs 1 b (n + size) ks) e2 _ second)
          (stand_right all n size block row (block_length k.role q a i h j b n c d) stand),
    )

pub out_left : (os qs : List Outgoing) (m : ℕ) (o : Outgoing) → slice_get os m ≡ Some o → slice_get (os ++ qs) m ≡ Some o
out_left [] qs m o there = absurd (cc there)
out_left (p ∷ os) qs zero o there = there
out_left (p ∷ os) qs (suc m) o there = out_left os qs m o there

pub out_right : (os qs : List Outgoing) (l : ℕ) → length os ≡ l → OutAt (os ++ qs) l qs
out_right [] qs l long m o there = let here : m ≡ l + m = omega (arith, long) in subst (λ (e : ℕ). slice_get qs e ≡ Some o) here there
out_right (p ∷ os) qs zero long m o there = absurd (omega (arith, long))
out_right (p ∷ os) qs (suc l) long m o there =
    let here : suc (l + m) ≡ suc l + m = omega arith in
    subst (λ (e : ℕ). slice_get (p ∷ (os ++ qs)) e ≡ Some o) here (out_right os qs l (omega (arith, long)) m o there)

pub share_ways : (b : ℕ) (i : Incoming) (ks : List Contact) (from to : ℕ) → share_passing ks from to ≡ true
    → PulseLeadsOn b i (share_cells ks b i) (share_outs ks b) from to
share_ways b i ks from to passes =
    where_it_passes (PulseLeadsOn b i (share_cells ks b i) (share_outs ks b)) h 0 from to ks
    (row_ways i h 0 h (h + h) b 3 (b + 0) (b + 2) (share_cells ks b i) (share_outs ks b) ks (omega arith) (omega arith)
    source_there first_there second_there (row_stands b i ks)) passes
  where
    h : ℕ
    h = length ks

    source : List Outgoing
    source = source_outs b 3 ks

    first : List Outgoing
    first = caller_outs 0 b 3 ks

    second : List Outgoing
    second = caller_outs 1 b 3 ks

    source_there : OutAt (share_outs ks b) 0 source
    source_there m o there =
        let here : m ≡ 0 + m = omega arith in
        subst (λ (e : ℕ). slice_get (share_outs ks b) e ≡ Some o) here (out_left source (first ++ second) m o there)

    first_there : OutAt (share_outs ks b) h first
    first_there m o there = out_right source (first ++ second) h (source_length b 3 ks) m o (out_left first second m o there)

    second_there : OutAt (share_outs ks b) (h + h) second
    second_there m o there =
        let here : h + (h + m) ≡ h + h + m = omega arith in
        subst (λ (e : ℕ). slice_get (share_outs ks b) e ≡ Some o) here
        (out_right source (first ++ second) h (source_length b 3 ks) (h + m) o (out_right first second h (caller_length 0 b 3 ks) m o there))
