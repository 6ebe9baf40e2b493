-- Where the table says so a path leads through a Share by order, from pulse to pulse: by one cell, or along the thread.
--
-- Read first: Pairs, Own; Cones of gos_share.
use Rattle.std.proofs.Common.{◌≡◌, inl, inr, ◌⊎◌, ℕ, zero, suc, ◌+◌, Bool, true, false, List, [], ◌∷◌, ◌++◌, Some, refl, sym, subst, arith}
use Rattle.std.specs.Prelude.{◌||◌, length, slice_get, nat_eq, if◌then◌else◌}
use Rattle.std.proofs.lemmas.Bool.{and_parts, or_cases, eqb-true}
use Rattle.gos_netlist.specs.Nets.{Cell}
use Rattle.gos_plan.specs.Kinds.{Contact}
use Rattle.gos_macro.specs.Gates.{Incoming, Outgoing}
use Rattle.gos_macro.specs.Paths.{Drives, Path, IsPulseOut, PulseLeadsOn}
use Rattle.gos_macro.specs.laws.StandingCells.{StandAt, stand_left, stand_right}
use Rattle.gos_share.specs.Blocks.{outgoing, told_cells, told_size}
use Rattle.gos_share.specs.laws.Cones.{LeadsTo}
use Rattle.gos_share.specs.laws.Ways.{told_ways, by_one_cell, OutAt, out_here, out_behind, out_left, out_right}
use Rattle.gos_fast_share.specs.Thread.{Asker, Nobody, Caller0, Caller1, asker, one_if_asks, requests, requests_before, stands_before}
use Rattle.gos_fast_share.specs.Fast.{set_cells, thread_cells, up_bits, down_bits, split_cells, block_size, row_cells, fast_cells, source_outs, caller_out, caller_outs, fast_outs, sets, fast_passing}
use Rattle.gos_fast_share.specs.laws.Threaded.{set_length}
use Rattle.gos_fast_share.specs.laws.Shown.{told_length, block_length}
use Rattle.gos_fast_share.specs.laws.Keeping.{source_length, caller_length}
use Rattle.gos_fast_share.specs.laws.Own.{thread_stands, row_stands}
use Rattle.gos_fast_share.specs.laws.Pairs.{AtPairs, AtAllPairs, where_it_passes}

-- paths one behind another
longer : (b : ℕ) (cells : List Cell) (m n z : ℕ) → LeadsTo b cells m n → LeadsTo b cells n z → LeadsTo b cells m z
longer b cells m n z (inl same) rest = subst (λ (e : ℕ). LeadsTo b cells e z) (sym same) rest
longer b cells m n z (inr (ns, path)) rest = along m ns path rest
  where
    along : (l : ℕ) (ls : List ℕ) → Path b cells l ls n → LeadsTo b cells n z → LeadsTo b cells l z
    along l ls path (inl same) = subst (λ (e : ℕ). LeadsTo b cells l e) same (inr (ls, path))
    along l [] path (inr (ms, more)) = inr (n ∷ ms, (path, more))
    along l (k ∷ ls) path (inr (ms, more)) = by_rest (along k ls path.1 (inr (ms, more)))
      where
        by_rest : LeadsTo b cells k z → LeadsTo b cells l z
        by_rest (inl same) = subst (λ (e : ℕ). LeadsTo b cells l e) same (inr ([], path.0))
        by_rest (inr (ns, rest)) = inr (k ∷ ns, (path.0, rest))

then_drives : (b : ℕ) (cells : List Cell) (m n z : ℕ) → LeadsTo b cells m n → Drives b cells n z → (ns : List ℕ) × Path b cells m ns z
then_drives b cells m n z (inl same) drives = ([], subst (λ (e : ℕ). Drives b cells e z) (sym same) drives)
then_drives b cells m n z (inr (ns, path)) drives = along m ns path
  where
    along : (l : ℕ) (ls : List ℕ) → Path b cells l ls n → (ms : List ℕ) × Path b cells l ms z
    along l [] path = (n ∷ [], (path, drives))
    along l (k ∷ ls) path = let rest = along k ls path.1 in (k ∷ rest.0, (path.0, rest.1))

-- a request drives its cell of the thread, and so does the branch of before
set_ways : (a : Asker) (pulse b n : ℕ) (all : List Cell) → StandAt all (suc n) (set_cells a pulse b n)
    → LeadsTo b all (b + n) (b + (n + one_if_asks a)) × (sets a ≡ true → LeadsTo b all pulse (b + (n + one_if_asks a)))
set_ways Nobody pulse b n all stand = let here : b + n ≡ b + (n + 0) = omega arith in (inl here, λ asks. cc asks)
set_ways Caller0 pulse b n all stand =
    let here : suc n + 0 ≡ n + 1 = omega arith in (
      inr ([], subst (λ (e : ℕ). Drives b all (b + n) (b + e)) here (suc n + 0, _, refl, stand 0 _ refl, (λ r. cc r.1), (2, omega arith, refl))),
      λ asks. inr ([], subst (λ (e : ℕ). Drives b all pulse (b + e)) here (suc n + 0, _, refl, stand 0 _ refl, (λ r. cc r.1), (0, omega arith, refl))),
    )
set_ways Caller1 pulse b n all stand =
    let here : suc n + 0 ≡ n + 1 = omega arith in (
      inr ([], subst (λ (e : ℕ). Drives b all (b + n) (b + e)) here (suc n + 0, _, refl, stand 0 _ refl, (λ r. cc r.1), (0, omega arith, refl))),
      λ asks. inr ([], subst (λ (e : ℕ). Drives b all pulse (b + e)) here (suc n + 0, _, refl, stand 0 _ refl, (λ r. cc r.1), (1, omega arith, refl))),
    )

-- along the thread the branch leads to that of each handshake, and so does each request before
record ThreadLeads (ks : List Contact) (i : Incoming) (b n j : ℕ) (all : List Cell) (es : List ℕ) : Type 0 where
  pub branch : LeadsTo b all (b + n) (b + (n + requests_before ks j es))
  pub request : (e : ℕ) → sets (asker ks e) ≡ true → stands_before e j es ≡ true → LeadsTo b all (i.pulse e) (b + (n + requests_before ks j es))

thread_step : (ks : List Contact) (i : Incoming) (b n j d : ℕ) (all : List Cell) (es : List ℕ)
    → LeadsTo b all (b + n) (b + (n + one_if_asks (asker ks d))) × (sets (asker ks d) ≡ true → LeadsTo b all (i.pulse d) (b + (n + one_if_asks (asker ks d))))
    → ThreadLeads ks i b (n + one_if_asks (asker ks d)) j all es → ThreadLeads ks i b n j all (d ∷ es)
thread_step ks i b n j d all es here rest = let known = by_test (nat_eq d j) in record { branch = known.0; request = known.1 }
  where
    size : ℕ
    size = one_if_asks (asker ks d)

    there : n + size + requests_before ks j es ≡ n + (size + requests_before ks j es)
    there = omega arith

    further : (m : ℕ) → LeadsTo b all m (b + (n + size + requests_before ks j es)) → LeadsTo b all m (b + (n + (size + requests_before ks j es)))
    further m leads = subst (λ (e : ℕ). LeadsTo b all m (b + e)) there leads

    by_place : (e : ℕ) → sets (asker ks e) ≡ true → (nat_eq d e ≡ true) ⊎ (stands_before e j es ≡ true) → LeadsTo b all (i.pulse e) (b + (n + size + requests_before ks j es))
    by_place e asks (inr behind) = rest.request e asks behind
    by_place e asks (inl same) =
        let is : d ≡ e = eqb-true d e same in
        longer b all (i.pulse e) (b + (n + size)) (b + (n + size + requests_before ks j es))
        (subst (λ (c : ℕ). LeadsTo b all (i.pulse c) (b + (n + size))) is (here.1 (subst (λ (c : ℕ). sets (asker ks c) ≡ true) (sym is) asks))) rest.branch

    by_test : (t : Bool)
        → (LeadsTo b all (b + n) (b + (n + (if t then 0 else size + requests_before ks j es))))
        × ((e : ℕ) → sets (asker ks e) ≡ true → (if t then false else nat_eq d e || stands_before e j es) ≡ true → LeadsTo b all (i.pulse e) (b + (n + (if t then 0 else size + requests_before ks j es))))
    by_test true = (let same : b + n ≡ b + (n + 0) = omega arith in inl same, λ e asks before. cc before)
    by_test false = (
      further (b + n) (longer b all (b + n) (b + (n + size)) (b + (n + size + requests_before ks j es)) here.0 rest.branch),
      λ e asks before. further (i.pulse e) (by_place e asks (or_cases (nat_eq d e) (stands_before e j es) before)),
    )

thread_ways : (ks : List Contact) (i : Incoming) (b n j : ℕ) (all : List Cell) (es : List ℕ) → StandAt all (suc n) (thread_cells ks i b n es) → ThreadLeads ks i b n j all es
thread_ways ks i b n j all [] stand =
    let here : b + n ≡ b + (n + 0) = omega arith in record { branch = inl here; request = λ e asks before. cc before }
thread_ways ks i b n j all (d ∷ es) stand =
    let who = asker ks d in
    let size = one_if_asks who in
    let here : suc n + size ≡ suc (n + size) = omega arith in
    let first = set_cells who (i.pulse d) b n in
    let behind = thread_cells ks i b (n + size) es in
    thread_step ks i b n j d all es (set_ways who (i.pulse d) b n all (stand_left all (suc n) first behind stand))
    (thread_ways ks i b (n + size) j all es
    (subst (λ (m : ℕ). StandAt all m behind) here (stand_right all (suc n) size first behind (set_length who (i.pulse d) b n) stand)))

-- what comes in from the source, and the branch, drive both pulses that go out
record SplitWays (b i_pulse c n : ℕ) (all : List Cell) : Type 0 where
  pub first : Drives b all i_pulse (b + (n + 0))
  pub second : Drives b all i_pulse (b + (n + 1))
  pub branch_first : Drives b all c (b + (n + 0))
  pub branch_second : Drives b all c (b + (n + 1))

split_ways : (w : ℕ) (i : Incoming) (j b n c : ℕ) (all : List Cell) → StandAt all n (split_cells w i j b n c) → SplitWays b (i.pulse j) c n all
split_ways zero i j b n c all stand =
    record {
      first = (n + 0, _, refl, stand 0 _ refl, (λ r. cc r.1), (2, omega arith, refl));
      second = (n + 1, _, refl, stand 1 _ refl, (λ r. cc r.1), (0, omega arith, refl));
      branch_first = (n + 0, _, refl, stand 0 _ refl, (λ r. cc r.1), (0, omega arith, refl));
      branch_second = (n + 1, _, refl, stand 1 _ refl, (λ r. cc r.1), (1, omega arith, refl));
    }
split_ways (suc w) i j b n c all stand =
    record {
      first = (n + 0, _, refl, stand 0 _ refl, (λ r. cc r.1), (2, omega arith, refl));
      second = (n + 1, _, refl, stand 1 _ refl, (λ r. cc r.1), (0, omega arith, refl));
      branch_first = (n + 0, _, refl, stand 0 _ refl, (λ r. cc r.1), (0, omega arith, refl));
      branch_second = (n + 1, _, refl, stand 1 _ refl, (λ r. cc r.1), (1, omega arith, refl));
    }

pulse_out : (w p a : ℕ) → IsPulseOut (Some (outgoing w p a)) p
pulse_out zero p a = refl
pulse_out (suc w) p a = refl

-- a path along the thread, and the cell that lets the pulse out
by_thread : (b : ℕ) (i : Incoming) (all : List Cell) (outs : List Outgoing) (from to w p a c : ℕ) → slice_get outs to ≡ Some (outgoing w p a)
    → LeadsTo b all (i.pulse from) c → Drives b all c p → PulseLeadsOn b i all outs from to
by_thread b i all outs from to w p a c there leads drives =
    let path = then_drives b all (i.pulse from) c p leads drives in
    (p, path.0, subst (λ o. IsPulseOut o p) (sym there) (pulse_out w p a), path.1)

block_ways : (ks : List Contact) (order : List ℕ) (l : Contact) (i : Incoming) (j b n : ℕ) (all : List Cell) (outs : List Outgoing)
    → slice_get outs j ≡ Some (outgoing (up_bits l.role l.ask_bits l.answer_bits) (b + (n + 0)) (b + (n + 2)))
    → slice_get outs (length ks + j) ≡ Some (caller_out 0 l.role l.ask_bits l.answer_bits b n)
    → slice_get outs (length ks + length ks + j) ≡ Some (caller_out 1 l.role l.ask_bits l.answer_bits b n)
    → ThreadLeads ks i b 1 j all order
    → StandAt all n (told_cells (up_bits l.role l.ask_bits l.answer_bits) i (length ks) j b n)
    → StandAt all (n + told_size (up_bits l.role l.ask_bits l.answer_bits)) (split_cells (down_bits l.role l.ask_bits l.answer_bits) i j b (n + told_size (up_bits l.role l.ask_bits l.answer_bits)) (b + (1 + requests_before ks j order)))
    → AtPairs (PulseLeadsOn b i all outs) ks order j
block_ways ks order l i j b n all outs source first second thread told split =
    let h = length ks in
    let u = up_bits l.role l.ask_bits l.answer_bits in
    let d = down_bits l.role l.ask_bits l.answer_bits in
    let net = b + (1 + requests_before ks j order) in
    let up = told_ways u i h j b n all told in
    let down = split_ways d i j b (n + told_size u) net all split in
    record {
      up = (by_one_cell b i all outs (h + j) j u _ _ source up.0, by_one_cell b i all outs (h + h + j) j u _ _ source up.1);
      down = (by_one_cell b i all outs j (h + j) d _ _ first down.first, by_one_cell b i all outs j (h + h + j) d _ _ second down.second);
      by_request = λ e before.
          let parts = and_parts (sets (asker ks e)) (stands_before e j order) before in
          let leads = thread.request e parts.0 parts.1 in
          (by_thread b i all outs e (h + j) d _ _ net first leads down.branch_first, by_thread b i all outs e (h + h + j) d _ _ net second leads down.branch_second);
    }

row_ways : (ks : List Contact) (order : List ℕ) (i : Incoming) (j e1 e2 b n : ℕ) (all : List Cell) (outs : List Outgoing) (ls : List Contact) → e1 ≡ length ks + j → e2 ≡ length ks + length ks + j
    → OutAt outs j (source_outs b n ls) → OutAt outs e1 (caller_outs 0 b n ls) → OutAt outs e2 (caller_outs 1 b n ls)
    → ((m : ℕ) → ThreadLeads ks i b 1 m all order) → StandAt all n (row_cells ks order i j b n ls) → AtAllPairs (PulseLeadsOn b i all outs) ks order j ls
row_ways ks order i j e1 e2 b n all outs [] is1 is2 source first second thread stand = tt
row_ways ks order i j e1 e2 b n all outs (l ∷ ls) is1 is2 source first second thread stand =
    let q = l.ask_bits in
    let a = l.answer_bits in
    let u = up_bits l.role q a in
    let d = down_bits l.role q a in
    let h = length ks in
    let size = block_size l.role q a in
    let net = b + (1 + requests_before ks j order) in
    let told = told_cells u i h j b n in
    let split = split_cells d i j b (n + told_size u) net in
    let row = row_cells ks order i (suc j) b (n + size) ls in
    let block = stand_left all n (told ++ split) row stand in (
      block_ways ks order l i j b n all outs
          (out_here outs (source_outs b (n + size) ls) j j _ refl source)
          (out_here outs (caller_outs 0 b (n + size) ls) e1 (h + j) _ is1 first)
          (out_here outs (caller_outs 1 b (n + size) ls) e2 (h + h + j) _ is2 second)
          (thread j) (stand_left all n told split block) (stand_right all n (told_size u) told split (told_length u i h j b n) block),
      row_ways ks order i (suc j) (suc e1) (suc e2) b (n + size) all outs ls (omega (arith, is1)) (omega (arith, is2))
          (out_behind outs (source_outs b (n + size) ls) j _ source)
          (out_behind outs (caller_outs 0 b (n + size) ls) e1 _ first)
          (out_behind outs (caller_outs 1 b (n + size) ls) e2 _ second) thread
          (stand_right all n size (told ++ split) row (block_length l.role q a i h j b n net) stand),
    )

pub fast_ways : (b : ℕ) (i : Incoming) (ks : List Contact) (order : List ℕ) (from to : ℕ) → fast_passing ks order from to ≡ true
    → PulseLeadsOn b i (fast_cells ks order b i) (fast_outs ks order b) from to
fast_ways b i ks order from to passes =
    where_it_passes (PulseLeadsOn b i all outs) ks order 0 from to ks
    (row_ways ks order i 0 h (h + h) b n all outs ks (omega arith) (omega arith) source_there first_there second_there
    (λ m. thread_ways ks i b 1 m all order (thread_stands b i ks order)) (row_stands b i ks order)) passes
  where
    all : List Cell
    all = fast_cells ks order b i

    outs : List Outgoing
    outs = fast_outs ks order b

    h : ℕ
    h = length ks

    n : ℕ
    n = 2 + requests ks order

    source : List Outgoing
    source = source_outs b n ks

    first : List Outgoing
    first = caller_outs 0 b n ks

    second : List Outgoing
    second = caller_outs 1 b n ks

    source_there : OutAt outs 0 source
    source_there m o there =
        let here : m ≡ 0 + m = omega arith in subst (λ (e : ℕ). slice_get outs e ≡ Some o) here (out_left source (first ++ second) m o there)

    first_there : OutAt outs h first
    first_there m o there = out_right source (first ++ second) h (source_length b n ks) m o (out_left first second m o there)

    second_there : OutAt outs (h + h) second
    second_there m o there =
        let here : h + (h + m) ≡ h + h + m = omega arith in
        subst (λ (e : ℕ). slice_get outs e ≡ Some o) here
        (out_right source (first ++ second) h (source_length b n ks) (h + m) o (out_right first second h (caller_length 0 b n ks) m o there))
