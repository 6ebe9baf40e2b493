-- A search for paths through gates at the fixed place.
--
-- Read first: Fixed. Whether a path leads on is looked for backwards from its end, in so many steps. That nothing was missed
-- is then a test: from what comes in and from the nets that were found no cell leads to a net that wasn't.
use Rattle.std.specs.Prelude.{ℕ, zero, suc, ◌+◌, ◌-◌, Bool, true, false, not, ◌&&◌, ◌||◌, List, [], ◌∷◌, length, Option, None, Some, slice_get, nat_eq, nat_lt, nat_le, if◌then◌else◌}
use Rattle.std.specs.List.{list_any, list_all}
use Rattle.gos_netlist.specs.Nets.{Function, Reg, Cell, pins}
use Rattle.gos_plan.specs.Kinds.{Contact}
use Rattle.gos_macro.specs.Gates.{Outgoing, Bare, Bearing, incoming_bits, is_among}

abbrev pub is_register : Function → Bool
is_register (Reg a) = true
is_register g = false

-- whether one of these nets is a pin of the cell, which is no register
abbrev pub flows : (ℕ → Bool) → Option Cell → Bool
flows these None = false
flows these (Some c) = not (is_register c.gate) && list_any these (pins c.gate)

-- whether a path of at most so many cells leads from one of these nets to a net
abbrev pub leads : List Cell → (ℕ → Bool) → ℕ → ℕ → Bool
leads cells these zero n = false
leads cells these (suc steps) n = flows (λ m. these m || leads cells these steps m) (slice_get cells n)

-- the nets that come in at a handshake, and its pulse alone
abbrev pub comes_in : ℕ → ℕ → Bool
comes_in h n = nat_eq n (1000 + h) || nat_eq n (2000 + h)

abbrev pub is_pulse : ℕ → ℕ → Bool
is_pulse h n = nat_eq n (1000 + h)

-- From cell k on, each cell with a pin that starts or was found was found itself, if it is no register.
abbrev pub is_closed : (ℕ → Bool) → (ℕ → Bool) → ℕ → List Cell → Bool
is_closed starts found k [] = true
is_closed starts found k (c ∷ cs) =
    (not (flows (λ m. starts m || found m) (Some c)) || found k) && is_closed starts found (suc k) cs

-- whether one of what goes out is such a net, and whether its pulse is one
abbrev pub goes_out : (ℕ → Bool) → Option Outgoing → Bool
goes_out these None = false
goes_out these (Some (Bare p)) = these p
goes_out these (Some (Bearing p a)) = these p || these a

abbrev pub pulse_goes_out : (ℕ → Bool) → Option Outgoing → Bool
pulse_goes_out these None = false
pulse_goes_out these (Some (Bare p)) = these p
pulse_goes_out these (Some (Bearing p a)) = these p

-- whether a number of bits isn't 0
abbrev pub is_some_bits : ℕ → Bool
is_some_bits zero = false
is_some_bits (suc n) = true

-- the number is one of a cell, or of what comes in at a handshake, as a value where it has bits
abbrev pub is_known : List Contact → ℕ → ℕ → Bool
is_known contacts size n =
    if nat_lt n 1000
    then nat_lt n size
    else (if nat_lt n 2000
    then nat_lt (n - 1000) (length contacts)
    else nat_lt (n - 2000) (length contacts) && is_some_bits (incoming_bits contacts (n - 2000)))

-- all numbers below this one
abbrev pub all_below : ℕ → (ℕ → Bool) → Bool
all_below zero test = true
all_below (suc n) test = test n && all_below n test

-- what `passing` says of two handshakes is what the search says
abbrev pub is_so : List Cell → List Outgoing → List ℕ → (ℕ → ℕ → Bool) → ℕ → ℕ → Bool
is_so cells outs late passing from to =
    if passing from to
    then not (is_among late from) && pulse_goes_out (leads cells (is_pulse from) (length cells)) (slice_get outs to)
    else not (goes_out (leads cells (comes_in from) (length cells)) (slice_get outs to))

-- all that comes in at a handshake was followed
abbrev pub is_followed : List Cell → ℕ → Bool
is_followed cells from = is_closed (comes_in from) (leads cells (comes_in from) (length cells)) 0 cells

-- What `passing` says of gates at the fixed place is so. There are few enough that no number stands for two nets.
abbrev pub is_told : List Contact → List Cell → List Outgoing → List ℕ → (ℕ → ℕ → Bool) → Bool
is_told contacts cells outs late passing =
    nat_le (length cells) 1000
    && (nat_le (length contacts) 1000
    && (list_all (λ c. list_all (is_known contacts (length cells)) (pins c.gate)) cells
    && all_below (length contacts)
    (λ from. is_followed cells from && all_below (length contacts) (λ to. is_so cells outs late passing from to))))
