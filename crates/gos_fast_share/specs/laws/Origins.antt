-- What goes out of a Share by order comes from what may pass alone.
--
-- Read first: Pairs, Own; Cones and Origins of gos_share.
use Rattle.std.proofs.Common.{◌≡◌, inl, inr, ℕ, zero, suc, ◌+◌, ◌<◌, Bool, true, false, List, [], ◌∷◌, ◌++◌, Some, refl, sym, subst, arith}
use Rattle.std.specs.Prelude.{length, slice_get, nat_eq, if◌then◌else◌}
use Rattle.std.proofs.lemmas.Bool.{and_from, or_left, or_right, eq-eqb}
use Rattle.std.proofs.lemmas.Option.{slice_get_within}
use Rattle.gos_netlist.specs.Nets.{Cell}
use Rattle.gos_plan.specs.Kinds.{Contact, turned_contact}
use Rattle.gos_macro.specs.Gates.{Incoming, bits_in}
use Rattle.gos_macro.specs.Paths.{AreApart, LeadsOn}
use Rattle.gos_macro.specs.laws.StandingCells.{StandAt, stand_left, stand_right}
use Rattle.gos_share.specs.Blocks.{outgoing, told_cells, told_size}
use Rattle.gos_share.specs.laws.Slots.{bits_there}
use Rattle.gos_share.specs.laws.Comes.{sides, ArePlaced, all_placed}
use Rattle.gos_share.specs.laws.Cones.{OnlyFrom, comes_alone, comes_by_pins}
use Rattle.gos_share.specs.laws.Origins.{GoesOn, OfSide, OfOut, of_outgoing, told_from, AllOfOut, out_both, out_at}
use Rattle.gos_fast_share.specs.Thread.{Asker, Nobody, Caller0, Caller1, asker, one_if_asks, requests, requests_before, stands_before}
use Rattle.gos_fast_share.specs.Fast.{set_cells, thread_cells, up_bits, down_bits, split_cells, block_size, row_cells, fast_cells, source_outs, caller_out, caller_outs, fast_outs, sets, sets_before, fast_passing}
use Rattle.gos_fast_share.specs.laws.Threaded.{set_length, IsThere, asker_there}
use Rattle.gos_fast_share.specs.laws.Shown.{told_length, block_length}
use Rattle.gos_fast_share.specs.laws.Keeping.{sides_length, source_length, caller_length, up_is, down_is}
use Rattle.gos_fast_share.specs.laws.Own.{thread_stands, row_stands}
use Rattle.gos_fast_share.specs.laws.Pairs.{AtAllPairs, Passes, all_pass}

-- a cell of the thread has a fact of nets where its request has it, the branch of before, and the 0
set_from : (P : ℕ → Type 0) (a : Asker) (pulse b n : ℕ) (all : List Cell) → GoesOn b all P → P (b + 0) → P (b + n) → (sets a ≡ true → P pulse)
    → StandAt all (suc n) (set_cells a pulse b n) → P (b + (n + one_if_asks a))
set_from P Nobody pulse b n all goes none branch request stand =
    let here : n ≡ n + 0 = omega arith in subst (λ (e : ℕ). P (b + e)) here branch
set_from P Caller0 pulse b n all goes none branch request stand =
    let here : suc n + 0 ≡ n + 1 = omega arith in
    subst (λ (e : ℕ). P (b + e)) here (goes (suc n + 0) _ (stand 0 _ refl) (λ gate. (request refl, (none, (branch, tt)))))
set_from P Caller1 pulse b n all goes none branch request stand =
    let here : suc n + 0 ≡ n + 1 = omega arith in
    subst (λ (e : ℕ). P (b + e)) here (goes (suc n + 0) _ (stand 0 _ refl) (λ gate. (branch, (request refl, tt))))

-- so the branch that handshake j finds has it, where each request before has it
thread_from : (P : ℕ → Type 0) (ks : List Contact) (i : Incoming) (b n j : ℕ) (all : List Cell) (es : List ℕ) → GoesOn b all P → P (b + 0) → P (b + n)
    → ((e : ℕ) → sets (asker ks e) ≡ true → stands_before e j es ≡ true → P (i.pulse e)) → StandAt all (suc n) (thread_cells ks i b n es)
    → P (b + (n + requests_before ks j es))
thread_from P ks i b n j all [] goes none branch request stand =
    let here : n ≡ n + 0 = omega arith in subst (λ (e : ℕ). P (b + e)) here branch
thread_from P ks i b n j all (d ∷ es) goes none branch request stand =
    let size = one_if_asks (asker ks d) in
    let first = set_cells (asker ks d) (i.pulse d) b n in
    let behind = thread_cells ks i b (n + size) es in
    by_test (nat_eq d j) refl
    (λ at requests_have. thread_from P ks i b (n + size) j all es goes none at requests_have
    (subst (λ (m : ℕ). StandAt all m behind) next (stand_right all (suc n) size first behind (set_length (asker ks d) (i.pulse d) b n) stand)))
  where
    who : Asker
    who = asker ks d

    next : suc n + one_if_asks who ≡ suc (n + one_if_asks who)
    next = omega arith

    by_test : (t : Bool) → nat_eq d j ≡ t
        → (P (b + (n + one_if_asks who)) → ((e : ℕ) → sets (asker ks e) ≡ true → stands_before e j es ≡ true → P (i.pulse e)) → P (b + (n + one_if_asks who + requests_before ks j es)))
        → P (b + (n + (if t then 0 else one_if_asks who + requests_before ks j es)))
    by_test true is ih = let here : n ≡ n + 0 = omega arith in subst (λ (e : ℕ). P (b + e)) here branch
    by_test false is ih =
        let there : n + one_if_asks who + requests_before ks j es ≡ n + (one_if_asks who + requests_before ks j es) = omega arith in
        let before : stands_before d j (d ∷ es) ≡ true = rw is (or_left (nat_eq d d) (stands_before d j es) (eq-eqb d d refl)) in
        subst (λ (e : ℕ). P (b + e)) there
        (ih (set_from P who (i.pulse d) b n all goes none branch (λ asks. request d asks before)
        (stand_left all (suc n) (set_cells who (i.pulse d) b n) (thread_cells ks i b (n + one_if_asks who) es) stand))
        (λ e asks further. request e asks (rw is (or_right (nat_eq d e) (stands_before e j es) further))))

-- what goes to a caller comes from the source, and from the branch
split_first : (P : ℕ → Type 0) (w : ℕ) (i : Incoming) (j b n c : ℕ) (all : List Cell) → GoesOn b all P → P (b + 0) → P c → OfSide P i w j
    → StandAt all n (split_cells w i j b n c) → OfOut P (outgoing w (b + (n + 0)) (b + (n + 2)))
split_first P zero i j b n c all goes none branch source stand =
    of_outgoing P zero (b + (n + 0)) (b + (n + 2)) (goes (n + 0) _ (stand 0 _ refl) (λ gate. (branch, (none, (source.0, tt))))) (λ some. absurd (omega (arith, some)))
split_first P (suc w) i j b n c all goes none branch source stand =
    let pulse : P (b + (n + 0)) = goes (n + 0) _ (stand 0 _ refl) (λ gate. (branch, (none, (source.0, tt)))) in
    of_outgoing P (suc w) (b + (n + 0)) (b + (n + 2)) pulse (λ some. goes (n + 2) _ (stand 2 _ refl) (λ gate. (pulse, (source.1 some, tt))))

split_second : (P : ℕ → Type 0) (w : ℕ) (i : Incoming) (j b n c : ℕ) (all : List Cell) → GoesOn b all P → P c → OfSide P i w j
    → StandAt all n (split_cells w i j b n c) → OfOut P (outgoing w (b + (n + 1)) (b + (n + 3)))
split_second P zero i j b n c all goes branch source stand =
    of_outgoing P zero (b + (n + 1)) (b + (n + 3)) (goes (n + 1) _ (stand 1 _ refl) (λ gate. (source.0, (branch, tt)))) (λ some. absurd (omega (arith, some)))
split_second P (suc w) i j b n c all goes branch source stand =
    let pulse : P (b + (n + 1)) = goes (n + 1) _ (stand 1 _ refl) (λ gate. (source.0, (branch, tt))) in
    of_outgoing P (suc w) (b + (n + 1)) (b + (n + 3)) pulse (λ some. goes (n + 3) _ (stand 3 _ refl) (λ gate. (pulse, (source.1 some, tt))))

-- For each handshake a fact of nets: it goes on, and what comes in where it may pass has it.
record Facts (P : ℕ → ℕ → Type 0) (ks : List Contact) (order : List ℕ) (i : Incoming) (b : ℕ) (all : List Cell) : Type 0 where
  pub goes : (e : ℕ) → GoesOn b all (P e)
  pub none : (e : ℕ) → P e (b + 0)
  pub branch : (e : ℕ) → P e (b + 1)
  pub pulse : (from to : ℕ) → from < length (sides ks) → fast_passing ks order from to ≡ true → P to (i.pulse from)
  pub value : (from to : ℕ) (k : Contact) → slice_get (sides ks) from ≡ Some k → 0 < bits_in k.role k → fast_passing ks order from to ≡ true → P to (i.value from)

-- a request is one of the Share's handshakes
request_there : (ks : List Contact) (e : ℕ) → sets (asker ks e) ≡ true → e < length (sides ks)
request_there ks e asks = by_asker (asker ks e) (asker_there ks e) asks
  where
    by_asker : (a : Asker) → IsThere ks e a → sets a ≡ true → e < length (sides ks)
    by_asker Nobody there is = cc is
    by_asker Caller0 there is = let long = sides_length ks in omega (arith, there, long)
    by_asker Caller1 there is = let long = sides_length ks in omega (arith, there, long)

of_side : (P : ℕ → ℕ → Type 0) (ks : List Contact) (order : List ℕ) (i : Incoming) (b from to w : ℕ) (all : List Cell) (k : Contact) → Facts P ks order i b all
    → slice_get (sides ks) from ≡ Some k → bits_in k.role k ≡ w → fast_passing ks order from to ≡ true → OfSide (P to) i w from
of_side P ks order i b from to w all k facts there is passes = (
  facts.pulse from to (slice_get_within (sides ks) from k there) passes,
  λ some. facts.value from to k there (omega (arith, some, is)) passes,
)

-- the branch that handshake j finds has the fact of whom it goes on to
branch_from : (P : ℕ → ℕ → Type 0) (ks : List Contact) (order : List ℕ) (i : Incoming) (b j to : ℕ) (all : List Cell) → Facts P ks order i b all
    → ((e : ℕ) → sets_before ks order j e ≡ true → fast_passing ks order e to ≡ true) → StandAt all 2 (thread_cells ks i b 1 order)
    → P to (b + (1 + requests_before ks j order))
branch_from P ks order i b j to all facts passes stand =
    thread_from (P to) ks i b 1 j all order (facts.goes to) (facts.none to) (facts.branch to)
    (λ e asks before. facts.pulse e to (request_there ks e asks) (passes e (and_from (sets (asker ks e)) (stands_before e j order) asks before))) stand

row_from : (P : ℕ → ℕ → Type 0) (ks : List Contact) (order : List ℕ) (i : Incoming) (j e1 e2 b n : ℕ) (all : List Cell) (ls : List Contact) → Facts P ks order i b all
    → StandAt all 2 (thread_cells ks i b 1 order) → e1 ≡ length ks + j → e2 ≡ length ks + length ks + j → AtAllPairs (Passes (fast_passing ks order)) ks order j ls → ArePlaced ks j ls
    → StandAt all n (row_cells ks order i j b n ls)
    → AllOfOut P j (source_outs b n ls) × AllOfOut P e1 (caller_outs 0 b n ls) × AllOfOut P e2 (caller_outs 1 b n ls)
row_from P ks order i j e1 e2 b n all [] facts thread is1 is2 pass placed stand = (tt, tt, tt)
row_from P ks order i j e1 e2 b n all (l ∷ ls) facts thread is1 is2 pass placed stand =
    let q = l.ask_bits in
    let a = l.answer_bits in
    let h = length ks in
    let u = up_bits l.role q a in
    let d = down_bits l.role q a in
    let size = block_size l.role q a in
    let net = b + (1 + requests_before ks j order) in
    let told = told_cells u i h j b n in
    let split = split_cells d i j b (n + told_size u) net in
    let row = row_cells ks order i (suc j) b (n + size) ls in
    let block = stand_left all n (told ++ split) row stand in
    let lower = stand_right all n (told_size u) told split (told_length u i h j b n) block in
    let pairs = pass.0 in
    let source = told_from (P j) u i h j b n all (facts.goes j)
    (of_side P ks order i b (h + j) j u all l facts placed.0.first (up_is l.role l) pairs.up.0)
    (of_side P ks order i b (h + h + j) j u all l facts placed.0.second (up_is l.role l) pairs.up.1) (stand_left all n told split block) in
    let first = split_first (P (h + j)) d i j b (n + told_size u) net all (facts.goes (h + j)) (facts.none (h + j))
    (branch_from P ks order i b j (h + j) all facts (λ e before. (pairs.by_request e before).0) thread)
    (of_side P ks order i b j (h + j) d all (turned_contact l) facts placed.0.source (down_is l.role l) pairs.down.0) lower in
    let second = split_second (P (h + h + j)) d i j b (n + told_size u) net all (facts.goes (h + h + j))
    (branch_from P ks order i b j (h + h + j) all facts (λ e before. (pairs.by_request e before).1) thread)
    (of_side P ks order i b j (h + h + j) d all (turned_contact l) facts placed.0.source (down_is l.role l) pairs.down.1) lower in
    let rest = row_from P ks order i (suc j) (suc e1) (suc e2) b (n + size) all ls facts thread (omega (arith, is1)) (omega (arith, is2)) pass.1 placed.1
    (stand_right all n size (told ++ split) row (block_length l.role q a i h j b n net) stand) in (
      (source, rest.0),
      (subst (λ (e : ℕ). OfOut (P e) (caller_out 0 l.role q a b n)) (sym is1) first, rest.1),
      (subst (λ (e : ℕ). OfOut (P e) (caller_out 1 l.role q a b n)) (sym is2) second, rest.2),
    )

-- a path leads only from where the table says
pub fast_from : (b : ℕ) (i : Incoming) (ks : List Contact) (order : List ℕ) (from to : ℕ) → AreApart (sides ks) b (length (fast_cells ks order b i)) i → from < length (sides ks)
    → LeadsOn (sides ks) b i (fast_cells ks order b i) (fast_outs ks order b) from to → fast_passing ks order from to ≡ true
fast_from b i ks order from to apart low (m, z, ns, comes, out, path) =
    out_at P 0 to to z (fast_outs ks order b) (omega arith) every out from m low comes (inr (ns, path))
  where
    all : List Cell
    all = fast_cells ks order b i

    h : ℕ
    h = length ks

    n : ℕ
    n = 2 + requests ks order

    P : ℕ → ℕ → Type 0
    P e = OnlyFrom (sides ks) b i all (λ d. fast_passing ks order d e ≡ true)

    goes : (e : ℕ) → GoesOn b all (P e)
    goes e k c there = comes_by_pins (sides ks) b i all (λ d. fast_passing ks order d e ≡ true) k c apart there

    facts : Facts P ks order i b all
    facts =
        record {
          goes = goes;
          none = λ e. goes e 0 _ refl (λ gate. tt);
          branch = λ e. goes e 1 _ refl (λ gate. absurd (gate (_, refl)));
          pulse = λ d e within passes. comes_alone (sides ks) b i all (λ x. fast_passing ks order x e ≡ true) d (i.pulse d) apart within (inl refl) passes;
          value = λ d e k there some passes.
              let within = slice_get_within (sides ks) d k there in
              let bits = bits_there d (sides ks) k there in
              comes_alone (sides ks) b i all (λ x. fast_passing ks order x e ≡ true) d (i.value d) apart within (inr (omega (arith, some, bits), refl)) passes;
        }

    every : AllOfOut P 0 (fast_outs ks order b)
    every =
        let known = row_from P ks order i 0 h (h + h) b n all ks facts (thread_stands b i ks order)
        (omega arith) (omega arith) (all_pass ks order) (all_placed ks) (row_stands b i ks order) in
        let one = source_length b n ks in
        let two = caller_length 0 b n ks in
        out_both P 0 h (source_outs b n ks) (caller_outs 0 b n ks ++ caller_outs 1 b n ks) (omega (arith, one)) known.0
        (out_both P h (h + h) (caller_outs 0 b n ks) (caller_outs 1 b n ks) (omega (arith, two)) known.1 known.2)
