-- The branch of a Share as it passes through the handshakes of a cycle, in their order.
--
-- Read first: Firing of gos_plan; Law of gos_macro. The type has h handshakes. Of its handshake j the source's side is j, that
-- of caller 0 is h + j, and that of caller 1 is h + h + j. What a caller asks sets the branch; all else is passed by it.
use Rattle.std.specs.Prelude.{ℕ, zero, suc, ◌+◌, ◌-◌, Bool, true, false, ◌||◌, List, [], ◌∷◌, length, nat_eq, nat_lt, if◌then◌else◌}
use Rattle.gos_types.specs.declared.shakes.Role.{Role}
use Rattle.gos_types.specs.declared.shakes.Role.TheVariants.{Serve, Ask}
use Rattle.gos_plan.specs.Kinds.{Contact}

-- whose request comes in at a handshake of the Share, if it is one of a caller
pub data Asker : Type 0 where
  Nobody Caller0 Caller1 : Asker

-- whether callers ask at handshake j of the type
abbrev pub is_asked : Role → Bool
is_asked Serve = true
is_asked Ask = false

abbrev pub asked_at : List Contact → ℕ → Bool
asked_at [] j = false
asked_at (k ∷ ks) zero = is_asked k.role
asked_at (k ∷ ks) (suc j) = asked_at ks j

-- who asks at handshake e of the Share of these
abbrev pub asker : List Contact → ℕ → Asker
asker ks e =
    if nat_lt e (length ks) then Nobody
    else (if nat_lt e (length ks + length ks) then (if asked_at ks (e - length ks) then Caller0 else Nobody)
    else (if asked_at ks (e - (length ks + length ks)) then Caller1 else Nobody))

-- the branch behind what comes in from this one
abbrev pub set_by : Asker → ℕ → ℕ
set_by Nobody n = n
set_by Caller0 n = 0
set_by Caller1 n = 1

abbrev pub set_at : List Contact → (ℕ → ℕ) → ℕ → ℕ → ℕ
set_at ks p e n = if nat_eq (p e) 1 then set_by (asker ks e) n else n

-- the branch n behind these handshakes, which come in this order with these pulses
abbrev pub behind : List Contact → (ℕ → ℕ) → ℕ → List ℕ → ℕ
behind ks p n [] = n
behind ks p n (e ∷ es) = behind ks p (set_at ks p e n) es

-- and the branch when handshake j comes
abbrev pub when : List Contact → (ℕ → ℕ) → ℕ → ℕ → List ℕ → ℕ
when ks p j n [] = n
when ks p j n (e ∷ es) = if nat_eq e j then n else when ks p j (set_at ks p e n) es

-- how many of these are requests of callers, and how many of those that come before handshake j
abbrev pub one_if_asks : Asker → ℕ
one_if_asks Nobody = 0
one_if_asks Caller0 = 1
one_if_asks Caller1 = 1

abbrev pub requests : List Contact → List ℕ → ℕ
requests ks [] = 0
requests ks (e ∷ es) = one_if_asks (asker ks e) + requests ks es

abbrev pub requests_before : List Contact → ℕ → List ℕ → ℕ
requests_before ks j [] = 0
requests_before ks j (e ∷ es) = if nat_eq e j then 0 else one_if_asks (asker ks e) + requests_before ks j es

-- whether one handshake stands before the first time that another does
abbrev pub stands_before : ℕ → ℕ → List ℕ → Bool
stands_before e j [] = false
stands_before e j (d ∷ ds) = if nat_eq d j then false else nat_eq d e || stands_before e j ds
