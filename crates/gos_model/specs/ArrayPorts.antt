-- Ports that may be of arrays: which inputs may come there, and what the definitions say of accesses, in small.
--
-- Read first: Protocol, Moves, Accesses. Programs whose imports are ground put and take nothing of all this.
use Rattle.std.specs.Prelude.{◌≡◌, ◌⊎◌, ℕ, ◌^◌, ◌<◌, Bool, false, ◌&&◌, ◌||◌, List, [], ◌∷◌, IsTrue, IsFalse, Some, codes, nat_eq, slice_get, if◌then◌else◌}
use Rattle.gos_types.specs.Types.{Type', Exp, Var, Fun, IsGround}
use Rattle.gos_types.specs.Events.{Event, events}
use Rattle.gos_model.specs.Terms.{Name, Term, Lit, Import, App, Both, Deref, Assign, Wait, Put}
use Rattle.gos_model.specs.Typing.{Imports, import_type}
use Rattle.gos_model.specs.Accesses.{IsArrayImport}
use Rattle.gos_model.specs.Labels.{Port, Given, Taken, Label, given, taken, is_answer, is_output, Emits, Takes}
use Rattle.gos_model.specs.Moves.{Program, Running, Trace, Stalled}
use Rattle.gos_model.specs.Protocol.{shake_of, same_port, is_open, Allowed, KeepsProtocol}

-- whether an array has asked for its index: of the index' two events at this port the last is 1
abbrev pub is_asked : List Label → Name → Bool
is_asked [] x = false
is_asked (l ∷ past) x = if same_port l.port (Taken x) && nat_eq (shake_of l.event) 0 then is_answer l.event else is_asked past x

-- The input may come after these labels, newest first, at the port of an array: while it doesn't wait for its index, it may
-- ask for the index of a request that is open, or answer it, a read with a number that has at most its w bits.
abbrev pub AllowedAtArray : Imports → List Label → Port → ℕ → ℕ → Type 0
AllowedAtArray i past Given n k = ⊥
AllowedAtArray i past (Taken x) n k =
    (j : ℕ) × (w : ℕ) × IsArrayImport i x j w × IsFalse (is_asked past x)
    × (((n ≡ 1) × (k ≡ 0) × IsTrue (is_open past (Taken x) 1 || is_open past (Taken x) 2))
    ⊎ (((n ≡ 3) × (k < 2 ^ w) × IsTrue (is_open past (Taken x) 1)) ⊎ ((n ≡ 5) × (k ≡ 0) × IsTrue (is_open past (Taken x) 2))))

-- each input is allowed by the labels before it, of which `past` came first, at a ground port or at an array's
abbrev pub KeepsPortsAfter : Imports → List Label → List Label → Type 0
KeepsPortsAfter i past [] = Unit {0}
KeepsPortsAfter i past (l ∷ ls) =
    (IsFalse (is_output l) → Allowed i past l.port l.event l.value ⊎ AllowedAtArray i past l.port l.event l.value)
    × KeepsPortsAfter i (l ∷ past) ls

-- the labels keep the protocol of inputs, at ports that are ground or of arrays
abbrev pub KeepsPorts : Imports → List Label → Type 0
KeepsPorts i ls = KeepsPortsAfter i [] ls

-- Where imports are ground this is the protocol of inputs.
abbrev pub AreGround : Imports → Type 0
AreGround i = (x : Name) (t : Type') → import_type i x ≡ Some t → IsGround t

abbrev pub GroundPortsKeep : Type 0
GroundPortsKeep =
    (i : Imports) (ls : List Label) → (KeepsProtocol i ls → KeepsPorts i ls) × (AreGround i → KeepsPorts i ls → KeepsProtocol i ls)

-- And a label is an event of its port's type, so none is that of an access.
abbrev pub GroundLabels : Type 0
GroundLabels =
    (i : Imports) (o : Label) (m t : Term) (x : Name) (ty : Type') → import_type i x ≡ Some ty → IsGround ty → o.port ≡ Taken x
    → Emits i o m t ⊎ Takes i o m t → (e : Event) × (slice_get (events ty) o.event ≡ Some e)

-- `import a : exp 1 -> var 8` and `import b : exp 1`
abbrev pub a : Name
a = codes "a"

abbrev pub b : Name
b = codes "b"

abbrev pub an_array : Imports
an_array = record { name = a; ty = Fun (Exp 1) (Var 8) } ∷ record { name = b; ty = Exp 1 } ∷ []

-- `! (a b)`, and `a 1:1 := 5:8`
abbrev pub read_at : Program
read_at = record { imports = an_array; body = Deref (App (Import a) (Import b)) }

abbrev pub write_at : Program
write_at = record { imports = an_array; body = Assign (App (Import a) (Lit 1 1)) (Lit 5 8) }

-- the index is asked for within the read, here twice, and the write has its number before its index
abbrev pub AccessesRun : Type 0
AccessesRun =
    Trace read_at
    (
    given 0 0 ∷ taken a 2 0 ∷ taken a 1 0 ∷ taken b 0 0 ∷ taken b 1 1 ∷ taken a 0 1
    ∷ taken a 1 0 ∷ taken b 0 0 ∷ taken b 1 0 ∷ taken a 0 0 ∷ taken a 3 7 ∷ given 1 7 ∷ []
    )
    × Trace write_at (given 0 0 ∷ taken a 4 5 ∷ taken a 1 0 ∷ taken a 0 1 ∷ taken a 5 0 ∷ given 1 0 ∷ [])

-- Until the array asks for it the index isn't reached, so the program can only wait; then b is asked.
abbrev pub IndexWaits : Type 0
IndexWaits =
    Stalled read_at (Running (Deref (App (Wait a 1) (Both (Import b) (Import b)))) [])
    × (Stalled read_at (Running (Deref (App (Wait a 0) (Both (Import b) (Import b)))) []) → ⊥)

-- the number of the index is not put before the array asks for it, nor is a read asked for by a write
abbrev pub IndexIsNotFirst : Type 0
IndexIsNotFirst =
    ((k : ℕ) (t : Term) → Emits an_array (taken a 0 k) (Deref (App (Wait a 1) (Both (Lit k 1) (Lit k 1)))) t → ⊥)
    × ((k : ℕ) (t : Term) → Emits an_array (taken a 2 k) (Put (App (Import a) (Lit 1 1)) k) t → ⊥)

-- After a request to read the array may ask for the index, and answer with 8 bits; it may not answer a write that wasn't
-- asked for, nor anything while it waits for the index.
abbrev pub ArrayAnswers : Type 0
ArrayAnswers =
    AllowedAtArray an_array (taken a 2 0 ∷ []) (Taken a) 1 0
    × AllowedAtArray an_array (taken a 0 1 ∷ taken a 1 0 ∷ taken a 2 0 ∷ []) (Taken a) 3 255
    × (AllowedAtArray an_array (taken a 2 0 ∷ []) (Taken a) 5 0 → ⊥)
    × (AllowedAtArray an_array (taken a 2 0 ∷ []) (Taken a) 3 256 → ⊥)
    × (AllowedAtArray an_array (taken a 1 0 ∷ taken a 2 0 ∷ []) (Taken a) 3 255 → ⊥)
    × (AllowedAtArray an_array [] (Taken a) 1 0 → ⊥)
