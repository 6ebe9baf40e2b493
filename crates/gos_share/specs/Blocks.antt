-- The cells of one handshake that two callers share: between the source and both of them.
--
-- Read first: Firing of gos_plan; Gates of gos_macro. The type has h handshakes. Of its handshake j the source's side is j,
-- that of caller 0 is h + j, and that of caller 1 is h + h + j. Nets are numbered from b: net b is the branch, net
-- b + 1 its complement, and net b + 2 shows 0; n is the place of the first cell here. A number is let through last of
-- all, by the pulse that goes out, so a register of a number may hold anything while that of its pulse is 0.
use Rattle.std.specs.Prelude.{ℕ, zero, suc, ◌+◌, List, [], ◌∷◌, ◌++◌}
use Rattle.gos_types.specs.declared.shakes.Role.{Role}
use Rattle.gos_types.specs.declared.shakes.Role.TheVariants.{Serve, Ask}
use Rattle.gos_netlist.specs.Nets.{Cell, And, Or, Mux, Gate, Reg}
use Rattle.gos_macro.specs.Gates.{Incoming, Outgoing, Bare, Bearing}
use Rattle.gos_macro.specs.Cells.{bit, wide}

-- the nets of a pulse and of a number of w bits, where it has bits
abbrev pub outgoing : ℕ → ℕ → ℕ → Outgoing
outgoing zero p a = Bare p
outgoing (suc w) p a = Bearing p a

-- A request of either caller is held for a cycle, and so is its number, which is let through with it.
abbrev pub asked_cells : ℕ → Incoming → ℕ → ℕ → ℕ → ℕ → List Cell
asked_cells zero i h j b n = bit (Or (i.pulse (h + j)) (i.pulse (h + h + j))) ∷ bit (Reg (b + (n + 0))) ∷ []
asked_cells (suc w) i h j b n =
    bit (Or (i.pulse (h + j)) (i.pulse (h + h + j)))
    ∷ bit (Reg (b + (n + 0)))
    ∷ wide (suc w) (Mux (i.pulse (h + h + j)) (i.value (h + h + j)) (i.value (h + j)))
    ∷ wide (suc w) (Reg (b + (n + 2)))
    ∷ wide (suc w) (Gate (b + (n + 1)) (b + (n + 3))) ∷ []

abbrev pub asked_size : ℕ → ℕ
asked_size zero = 2
asked_size (suc w) = 5

-- The answer of the source goes to the caller of the branch.
abbrev pub answered_cells : ℕ → Incoming → ℕ → ℕ → ℕ → List Cell
answered_cells zero i j b n = bit (And (i.pulse j) (b + 1)) ∷ bit (And (i.pulse j) (b + 0)) ∷ []
answered_cells (suc w) i j b n =
    bit (And (i.pulse j) (b + 1))
    ∷ bit (And (i.pulse j) (b + 0))
    ∷ wide (suc w) (Gate (b + (n + 0)) (i.value j))
    ∷ wide (suc w) (Gate (b + (n + 1)) (i.value j)) ∷ []

abbrev pub answered_size : ℕ → ℕ
answered_size zero = 2
answered_size (suc w) = 4

-- A request of the source is held for a cycle for the caller of the branch, which is chosen before. Its number is
-- held once for both, and let through with the request.
abbrev pub sent_cells : ℕ → Incoming → ℕ → ℕ → ℕ → List Cell
sent_cells zero i j b n =
    bit (And (i.pulse j) (b + 1)) ∷ bit (And (i.pulse j) (b + 0)) ∷ bit (Reg (b + (n + 0))) ∷ bit (Reg (b + (n + 1))) ∷ []
sent_cells (suc w) i j b n =
    bit (And (i.pulse j) (b + 1))
    ∷ bit (And (i.pulse j) (b + 0))
    ∷ bit (Reg (b + (n + 0)))
    ∷ bit (Reg (b + (n + 1)))
    ∷ wide (suc w) (Reg (i.value j))
    ∷ wide (suc w) (Gate (b + (n + 2)) (b + (n + 4)))
    ∷ wide (suc w) (Gate (b + (n + 3)) (b + (n + 4))) ∷ []

abbrev pub sent_size : ℕ → ℕ
sent_size zero = 4
sent_size (suc w) = 7

-- The answer of either caller goes to the source.
abbrev pub told_cells : ℕ → Incoming → ℕ → ℕ → ℕ → ℕ → List Cell
told_cells zero i h j b n = bit (Or (i.pulse (h + j)) (i.pulse (h + h + j))) ∷ []
told_cells (suc w) i h j b n =
    bit (Or (i.pulse (h + j)) (i.pulse (h + h + j)))
    ∷ wide (suc w) (Mux (i.pulse (h + h + j)) (i.value (h + h + j)) (i.value (h + j)))
    ∷ wide (suc w) (Gate (b + (n + 0)) (b + (n + 1))) ∷ []

abbrev pub told_size : ℕ → ℕ
told_size zero = 1
told_size (suc w) = 3

-- What is known of the branch after the requests at handshakes before: net c is the old one where caller 0 asked at
-- none of them, and else 0; net d is 1 where caller 1 asked at one. A handshake that the callers ask at adds to both.
abbrev pub branch_cells : Incoming → ℕ → ℕ → ℕ → ℕ → ℕ → List Cell
branch_cells i h j b c d = bit (Mux (i.pulse (h + j)) (b + 2) c) ∷ bit (Or d (i.pulse (h + h + j))) ∷ []

-- the cells of a handshake of this role, with q bits asked and a bits answered
abbrev pub block_cells : Role → ℕ → ℕ → Incoming → ℕ → ℕ → ℕ → ℕ → ℕ → ℕ → List Cell
block_cells Serve q a i h j b n c d =
    branch_cells i h j b c d ++ (asked_cells q i h j b (n + 2) ++ answered_cells a i j b (n + 2 + asked_size q))
block_cells Ask q a i h j b n c d = sent_cells q i j b n ++ told_cells a i h j b (n + sent_size q)

-- how many they are
abbrev pub block_size : Role → ℕ → ℕ → ℕ
block_size Serve q a = 2 + asked_size q + answered_size a
block_size Ask q a = sent_size q + told_size a

-- both nets of the branch behind the cells
abbrev pub kept_net : Role → ℕ → ℕ → ℕ
kept_net Serve net c = net
kept_net Ask net c = c

-- what goes out at the source's side
abbrev pub source_out : Role → ℕ → ℕ → ℕ → ℕ → Outgoing
source_out Serve q a b n = outgoing q (b + (n + 2 + 1)) (b + (n + 2 + 4))
source_out Ask q a b n = outgoing a (b + (n + sent_size q + 0)) (b + (n + sent_size q + 2))

-- what goes out at the side of a caller, 0 or 1
abbrev pub caller_out : ℕ → Role → ℕ → ℕ → ℕ → ℕ → Outgoing
caller_out zero Serve q a b n = outgoing a (b + (n + 2 + asked_size q + 0)) (b + (n + 2 + asked_size q + 2))
caller_out zero Ask q a b n = outgoing q (b + (n + 2)) (b + (n + 5))
caller_out (suc k) Serve q a b n = outgoing a (b + (n + 2 + asked_size q + 1)) (b + (n + 2 + asked_size q + 3))
caller_out (suc k) Ask q a b n = outgoing q (b + (n + 3)) (b + (n + 6))
