-- No number goes out of a Share by order without its pulse.
--
-- Read first: StaySilent in Law; Shown. The last cell of each number lets it through by its pulse.
use Rattle.std.proofs.Common.{◌≡◌, ℕ, zero, suc, ◌+◌, List, [], ◌∷◌, ◌++◌, refl, ◌∙◌}
use Rattle.std.specs.Prelude.{length, nat_eq, if◌then◌else◌}
use Rattle.gos_types.specs.Types.{Type'}
use Rattle.gos_netlist.specs.Settling.{Numbers, at}
use Rattle.gos_plan.specs.Kinds.{Share, Contact, contacts_of}
use Rattle.gos_macro.specs.Gates.{Incoming, Outgoing, Bare, Bearing, Settled}
use Rattle.gos_macro.specs.Law.{AreSilent, StaySilent}
use Rattle.gos_macro.specs.laws.SettledCells.{settled_both, settled_at}
use Rattle.gos_share.specs.Blocks.{outgoing, told_cells, told_size}
use Rattle.gos_fast_share.specs.Thread.{requests, requests_before}
use Rattle.gos_fast_share.specs.Fast.{up_bits, down_bits, split_cells, block_cells, block_size, thread_cells, row_cells, fast_cells, source_outs, caller_out, caller_outs, fast_outs}
use Rattle.gos_fast_share.specs.laws.Shown.{told_length, block_length}
use Rattle.gos_fast_share.specs.laws.Keeping.{thread_length}

-- the number at a handshake is 0 where its pulse is
abbrev SilentAt : Numbers → Outgoing → Type 0
SilentAt v (Bare p) = Unit {0}
SilentAt v (Bearing p a) = at v p ≡ 0 → at v a ≡ 0

one_behind : (v : Numbers) (o : Outgoing) (os : List Outgoing) → SilentAt v o → AreSilent v os → AreSilent v (o ∷ os)
one_behind v (Bare p) os first rest = rest
one_behind v (Bearing p a) os first rest = (first, rest)

silent_append : (v : Numbers) (os qs : List Outgoing) → AreSilent v os → AreSilent v qs → AreSilent v (os ++ qs)
silent_append v [] qs first second = second
silent_append v (Bare p ∷ os) qs first second = silent_append v os qs first second
silent_append v (Bearing p a ∷ os) qs first second = (first.0, silent_append v os qs first.1 second)

let_through : (p a number : ℕ) → number ≡ (if nat_eq p 1 then a else 0) → p ≡ 0 → number ≡ 0
let_through p a number shown none = shown ∙ (rw none refl)

told_silent : (w : ℕ) (i : Incoming) (h j b n : ℕ) (v regs after : Numbers) → Settled v regs after b n (told_cells w i h j b n)
    → SilentAt v (outgoing w (b + (n + 0)) (b + (n + 2)))
told_silent zero i h j b n v regs after settled = tt
told_silent (suc w) i h j b n v regs after settled =
    let c0 = settled_at v regs after b n (told_cells (suc w) i h j b n) settled in
    let c1 = c0.2 in
    let c2 = c1.2 in
    let_through (at v (b + (n + 0))) (at v (b + (n + 1))) (at v (b + (n + 2))) c2.0

split_silent : (w : ℕ) (i : Incoming) (j b n c : ℕ) (v regs after : Numbers) → Settled v regs after b n (split_cells w i j b n c)
    → SilentAt v (outgoing w (b + (n + 0)) (b + (n + 2))) × SilentAt v (outgoing w (b + (n + 1)) (b + (n + 3)))
split_silent zero i j b n c v regs after settled = (tt, tt)
split_silent (suc w) i j b n c v regs after settled =
    let c0 = settled_at v regs after b n (split_cells (suc w) i j b n c) settled in
    let c1 = c0.2 in
    let c2 = c1.2 in
    let c3 = c2.2 in (
      let_through (at v (b + (n + 0))) (at v (i.value j)) (at v (b + (n + 2))) c2.0,
      let_through (at v (b + (n + 1))) (at v (i.value j)) (at v (b + (n + 3))) c3.0,
    )

row_silent : (ks : List Contact) (order : List ℕ) (i : Incoming) (j b n : ℕ) (v regs after : Numbers) (ls : List Contact)
    → Settled v regs after b n (row_cells ks order i j b n ls)
    → AreSilent v (source_outs b n ls) × AreSilent v (caller_outs 0 b n ls) × AreSilent v (caller_outs 1 b n ls)
row_silent ks order i j b n v regs after [] settled = (tt, tt, tt)
row_silent ks order i j b n v regs after (l ∷ ls) settled =
    let q = l.ask_bits in
    let a = l.answer_bits in
    let u = up_bits l.role q a in
    let d = down_bits l.role q a in
    let size = block_size l.role q a in
    let net = b + (1 + requests_before ks j order) in
    let parts = settled_both v regs after b n size (block_cells l.role q a i (length ks) j b n net) (row_cells ks order i (suc j) b (n + size) ls)
    (block_length l.role q a i (length ks) j b n net) settled in
    let both = settled_both v regs after b n (told_size u) (told_cells u i (length ks) j b n) (split_cells d i j b (n + told_size u) net)
    (told_length u i (length ks) j b n) parts.0 in
    let told = told_silent u i (length ks) j b n v regs after both.0 in
    let split = split_silent d i j b (n + told_size u) net v regs after both.1 in
    let rest = row_silent ks order i (suc j) b (n + size) v regs after ls parts.1 in (
      one_behind v (outgoing u (b + (n + 0)) (b + (n + 2))) (source_outs b (n + size) ls) told rest.0,
      one_behind v (caller_out 0 l.role q a b n) (caller_outs 0 b (n + size) ls) split.0 rest.1,
      one_behind v (caller_out 1 l.role q a b n) (caller_outs 1 b (n + size) ls) split.1 rest.2,
    )

pub fast_silent : (t : Type') (order : List ℕ) → StaySilent (Share t) (fast_cells (contacts_of t) order) (fast_outs (contacts_of t) order)
fast_silent t order b i v regs after (c0, k0, (c1, k1, rest)) pulses =
    let all = contacts_of t in
    let n = 2 + requests all order in
    let parts = settled_both v regs after b 2 (requests all order) (thread_cells all i b 1 order) (row_cells all order i 0 b n all) (thread_length all i b 1 order) rest in
    let known = row_silent all order i 0 b n v regs after all parts.1 in
    silent_append v (source_outs b n all) (caller_outs 0 b n all ++ caller_outs 1 b n all) known.0
    (silent_append v (caller_outs 0 b n all) (caller_outs 1 b n all) known.1 known.2)
