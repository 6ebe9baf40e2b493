-- No number goes out of a Share without its pulse.
--
-- Read first: StaySilent in Law; Row. The last cell of each number lets it through by its pulse.
use Rattle.std.proofs.Common.{◌≡◌, ℕ, zero, suc, ◌+◌, List, [], ◌∷◌, ◌++◌, refl, ◌∙◌}
use Rattle.std.specs.Prelude.{length, nat_eq, if◌then◌else◌}
use Rattle.gos_types.specs.declared.shakes.Role.{Role}
use Rattle.gos_types.specs.declared.shakes.Role.TheVariants.{Serve, Ask}
use Rattle.gos_types.specs.Types.{Type'}
use Rattle.gos_netlist.specs.Settling.{Numbers, at}
use Rattle.gos_plan.specs.Kinds.{Share, Contact, contacts_of}
use Rattle.gos_macro.specs.Gates.{Incoming, Outgoing, Bare, Bearing, Settled}
use Rattle.gos_macro.specs.Law.{AreSilent, StaySilent}
use Rattle.gos_share.specs.Blocks.{outgoing, asked_cells, asked_size, answered_cells, sent_cells, sent_size, told_cells, branch_cells, block_cells, block_size, kept_net, source_out, caller_out}
use Rattle.gos_share.specs.Share.{row_cells, share_cells, source_outs, caller_outs, share_outs}
use Rattle.gos_macro.specs.laws.SettledCells.{settled_both, settled_at}
use Rattle.gos_share.specs.laws.Row.{asked_length, sent_length, block_length}

-- the number at a handshake is 0 where its pulse is
abbrev pub SilentAt : Numbers → Outgoing → Type 0
SilentAt v (Bare p) = Unit {0}
SilentAt v (Bearing p a) = at v p ≡ 0 → at v a ≡ 0

pub one_behind : (v : Numbers) (o : Outgoing) (os : List Outgoing) → SilentAt v o → AreSilent v os → AreSilent v (o ∷ os)
one_behind v (Bare p) os first rest = rest
one_behind v (Bearing p a) os first rest = (first, rest)

pub silent_append : (v : Numbers) (os qs : List Outgoing) → AreSilent v os → AreSilent v qs → AreSilent v (os ++ qs)
silent_append v [] qs first second = second
silent_append v (Bare p ∷ os) qs first second = silent_append v os qs first second
silent_append v (Bearing p a ∷ os) qs first second = (first.0, silent_append v os qs first.1 second)

pub let_through : (p a number : ℕ) → number ≡ (if nat_eq p 1 then a else 0) → p ≡ 0 → number ≡ 0
let_through p a number shown none = shown ∙ (rw none refl)

asked_silent : (w : ℕ) (i : Incoming) (h j b n : ℕ) (v regs after : Numbers) → Settled v regs after b n (asked_cells w i h j b n)
    → SilentAt v (outgoing w (b + (n + 1)) (b + (n + 4)))
asked_silent zero i h j b n v regs after settled = tt
asked_silent (suc w) i h j b n v regs after settled =
    let c0 = settled_at v regs after b n (asked_cells (suc w) i h j b n) settled in
    let c1 = c0.2 in
    let c2 = c1.2 in
    let c3 = c2.2 in
    let c4 = c3.2 in
    let_through (at v (b + (n + 1))) (at v (b + (n + 3))) (at v (b + (n + 4))) c4.0

answered_silent : (w : ℕ) (i : Incoming) (j b n : ℕ) (v regs after : Numbers) → Settled v regs after b n (answered_cells w i j b n)
    → SilentAt v (outgoing w (b + (n + 0)) (b + (n + 2))) × SilentAt v (outgoing w (b + (n + 1)) (b + (n + 3)))
answered_silent zero i j b n v regs after settled = (tt, tt)
answered_silent (suc w) i j b n v regs after settled =
    let c0 = settled_at v regs after b n (answered_cells (suc w) i j b n) settled in
    let c1 = c0.2 in
    let c2 = c1.2 in
    let c3 = c2.2 in (
      let_through (at v (b + (n + 0))) (at v (i.value j)) (at v (b + (n + 2))) c2.0,
      let_through (at v (b + (n + 1))) (at v (i.value j)) (at v (b + (n + 3))) c3.0,
    )

sent_silent : (w : ℕ) (i : Incoming) (j b n : ℕ) (v regs after : Numbers) → Settled v regs after b n (sent_cells w i j b n)
    → SilentAt v (outgoing w (b + (n + 2)) (b + (n + 5))) × SilentAt v (outgoing w (b + (n + 3)) (b + (n + 6)))
sent_silent zero i j b n v regs after settled = (tt, tt)
sent_silent (suc w) i j b n v regs after settled =
    let c0 = settled_at v regs after b n (sent_cells (suc w) i j b n) settled in
    let c1 = c0.2 in
    let c2 = c1.2 in
    let c3 = c2.2 in
    let c4 = c3.2 in
    let c5 = c4.2 in
    let c6 = c5.2 in (
      let_through (at v (b + (n + 2))) (at v (b + (n + 4))) (at v (b + (n + 5))) c5.0,
      let_through (at v (b + (n + 3))) (at v (b + (n + 4))) (at v (b + (n + 6))) c6.0,
    )

pub told_silent : (w : ℕ) (i : Incoming) (h j b n : ℕ) (v regs after : Numbers) → Settled v regs after b n (told_cells w i h j b n)
    → SilentAt v (outgoing w (b + (n + 0)) (b + (n + 2)))
told_silent zero i h j b n v regs after settled = tt
told_silent (suc w) i h j b n v regs after settled =
    let c0 = settled_at v regs after b n (told_cells (suc w) i h j b n) settled in
    let c1 = c0.2 in
    let c2 = c1.2 in
    let_through (at v (b + (n + 0))) (at v (b + (n + 1))) (at v (b + (n + 2))) c2.0

block_silent : (r : Role) (q a : ℕ) (i : Incoming) (h j b n c d : ℕ) (v regs after : Numbers) → Settled v regs after b n (block_cells r q a i h j b n c d)
    → SilentAt v (source_out r q a b n) × SilentAt v (caller_out 0 r q a b n) × SilentAt v (caller_out 1 r q a b n)
block_silent Serve q a i h j b n c d v regs after settled =
    let parts = settled_both v regs after b n 2 (branch_cells i h j b c d) (asked_cells q i h j b (n + 2) ++ answered_cells a i j b (n + 2 + asked_size q)) refl settled in
    let both = settled_both v regs after b (n + 2) (asked_size q) (asked_cells q i h j b (n + 2)) (answered_cells a i j b (n + 2 + asked_size q)) (asked_length q i h j b (n + 2)) parts.1 in
    let answers = answered_silent a i j b (n + 2 + asked_size q) v regs after both.1 in
    (asked_silent q i h j b (n + 2) v regs after both.0, answers.0, answers.1)
block_silent Ask q a i h j b n c d v regs after settled =
    let parts = settled_both v regs after b n (sent_size q) (sent_cells q i j b n) (told_cells a i h j b (n + sent_size q)) (sent_length q i j b n) settled in
    let requests = sent_silent q i j b n v regs after parts.0 in
    (told_silent a i h j b (n + sent_size q) v regs after parts.1, requests.0, requests.1)

row_silent : (i : Incoming) (h j b n c d : ℕ) (v regs after : Numbers) (ks : List Contact) → Settled v regs after b n (row_cells i h j b n c d ks)
    → AreSilent v (source_outs b n ks) × AreSilent v (caller_outs 0 b n ks) × AreSilent v (caller_outs 1 b n ks)
row_silent i h j b n c d v regs after [] settled = (tt, tt, tt)
row_silent i h j b n c d v regs after (k ∷ ks) settled =
    let q = k.ask_bits in
    let a = k.answer_bits in
    let size = block_size k.role q a in
    let next_c = kept_net k.role (b + (n + 0)) c in
    let next_d = kept_net k.role (b + (n + 1)) d in
    let parts = settled_both v regs after b n size (block_cells k.role q a i h j b n c d) (row_cells i h (suc j) b (n + size) next_c next_d ks) (block_length k.role q a i h j b n c d) settled in
    let here = block_silent k.role q a i h j b n c d v regs after parts.0 in
    let rest = row_silent i h (suc j) b (n + size) next_c next_d v regs after ks parts.1 in (
      one_behind v (source_out k.role q a b n) (source_outs b (n + size) ks) here.0 rest.0,
      one_behind v (caller_out 0 k.role q a b n) (caller_outs 0 b (n + size) ks) here.1 rest.1,
      one_behind v (caller_out 1 k.role q a b n) (caller_outs 1 b (n + size) ks) here.2 rest.2,
    )

pub share_silent : (t : Type') → StaySilent (Share t) (share_cells (contacts_of t)) (share_outs (contacts_of t))
share_silent t b i v regs after (c0, k0, (c1, k1, (c2, k2, row))) pulses =
    let all = contacts_of t in
    let known = row_silent i (length all) 0 b 3 (b + 0) (b + 2) v regs after all row in
    silent_append v (source_outs b 3 all) (caller_outs 0 b 3 all ++ caller_outs 1 b 3 all) known.0
    (silent_append v (caller_outs 0 b 3 all) (caller_outs 1 b 3 all) known.1 known.2)
