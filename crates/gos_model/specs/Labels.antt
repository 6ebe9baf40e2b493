-- Labels: what the outside sees of a running program.
--
-- Read first: Accesses. The program gives one port, its result's, and takes one for each import. The given port
-- has no name here, so a program has labels before a root is named.
use Rattle.std.specs.Prelude.{◌≡◌, ℕ, zero, suc, ◌^◌, ◌<◌, Bool, true, false, not, ◌⊎◌, Option, Some}
use Rattle.gos_types.specs.Types.{Type', Com, Exp, Var}
use Rattle.gos_model.specs.Terms.{Name, Term, Skip, Lit, Import, Deref, Wait, Put}
use Rattle.gos_model.specs.Typing.{Imports, import_type}
use Rattle.gos_model.specs.Reach.{Rel}
use Rattle.gos_model.specs.Accesses.{AccessPuts, ReadEnds, WriteEnds, AccessTakes}

-- the port that the program gives, or one that it takes
pub data Port : Type 0 where
  Given : Port
  Taken : (x : Name) → Port

-- a port, the number of an event of it, and the event's number, 0 where it has none
pub record Label : Type 0 where
  pub port : Port
  pub event : ℕ
  pub value : ℕ

-- a label of the given port
abbrev pub given : ℕ → ℕ → Label
given event k = record { port = Given; event = event; value = k }

-- a label of a taken port
abbrev pub taken : Name → ℕ → ℕ → Label
taken x event k = record { port = Taken x; event = event; value = k }

-- whether an event of this number is an answer
abbrev pub is_answer : ℕ → Bool
is_answer zero = false
is_answer (suc zero) = true
is_answer (suc (suc n)) = is_answer n

-- Whether an event is an output: at the given port the answers are, at a taken port the requests.
abbrev pub is_output_at : Port → ℕ → Bool
is_output_at Given n = is_answer n
is_output_at (Taken x) n = not (is_answer n)

-- whether a label is an output
abbrev pub is_output : Label → Bool
is_output o = is_output_at o.port o.event

-- An output at the place itself, which becomes a wait for its answer. A `com` import is run, an `exp` import is
-- asked, and a `var` import is read by `!` and written by a held number. So is an array's, at an access.
abbrev pub Emits : Imports → Label → Rel
Emits i o (Import x) t =
    ((import_type i x ≡ Some Com) × (o ≡ taken x 0 0) × (t ≡ Wait x 1))
    ⊎ ((w : ℕ) × (import_type i x ≡ Some (Exp w)) × (o ≡ taken x 0 0) × (t ≡ Wait x 1))
Emits i o (Deref m) t =
    ((x : Name) × (w : ℕ) × (m ≡ Import x) × (import_type i x ≡ Some (Var w)) × (o ≡ taken x 0 0) × (t ≡ Wait x 1))
    ⊎ ((x : Name) × (o.port ≡ Taken x) × AccessPuts i Deref 2 0 x o.event o.value m t)
Emits i o (Put m k) t =
    ((x : Name) × (w : ℕ) × (m ≡ Import x) × (import_type i x ≡ Some (Var w)) × (o ≡ taken x 2 k) × (t ≡ Wait x 3))
    ⊎ ((x : Name) × (o.port ≡ Taken x) × AccessPuts i (λ m'. Put m' k) 4 k x o.event o.value m t)
Emits i o m t = ⊥

-- event s of a port of this type, with number k, is an answer that leaves t
abbrev pub IsAnswer : Option Type' → ℕ → ℕ → Term → Type 0
IsAnswer (Some Com) (suc zero) k t = (k ≡ 0) × (t ≡ Skip)
IsAnswer (Some (Exp w)) (suc zero) k t = (k < 2 ^ w) × (t ≡ Lit k w)
IsAnswer (Some (Var w)) (suc zero) k t = (k < 2 ^ w) × (t ≡ Lit k w)
IsAnswer (Some (Var w)) (suc (suc (suc zero))) k t = (k ≡ 0) × (t ≡ Skip)
IsAnswer o s k t = ⊥

-- an input at the place itself: the answer that a wait waits for, or what an access takes
abbrev pub Takes : Imports → Label → Rel
Takes i o (Wait x s) t = (o.port ≡ Taken x) × (o.event ≡ s) × IsAnswer (import_type i x) s o.value t
Takes i o (Deref m) t = (x : Name) × (o.port ≡ Taken x) × AccessTakes i Deref ReadEnds x o.event o.value m t
Takes i o (Put m k) t = (x : Name) × (o.port ≡ Taken x) × AccessTakes i (λ m'. Put m' k) WriteEnds x o.event o.value m t
Takes i o m t = ⊥
