-- What may be a port, in small, and the handshakes of an array.
--
-- Read first: Handshakes, Events.
use Rattle.std.specs.Prelude.{◌≡◌, ℕ, [], ◌∷◌}
use Rattle.gos_types.specs.declared.shakes.Role.TheVariants.{Ask}
use Rattle.gos_types.specs.declared.shakes.Step.TheVariants.{Argument, Outcome, Read, Write}
use Rattle.gos_types.specs.Types.{Type', Com, Exp, Var, Pair, Fun, IsGround, IsPort}
use Rattle.gos_types.specs.Handshakes.{served, handshakes_of}

-- a ground type, and an array of variables of w bits with indices of i bits
abbrev pub SomePorts : Type 0
SomePorts = ((t : Type') → IsGround t → IsPort t) × ((i w : ℕ) → IsPort (Fun (Exp i) (Var w)))

-- A product is none, nor is a function that gives no variable, or takes no number: a command's index, or two of them.
abbrev pub OthersAreNoPorts : Type 0
OthersAreNoPorts =
    ((a b : Type') → IsPort (Pair a b) → ⊥)
    × ((a : Type') (w : ℕ) → IsPort (Fun a (Exp w)) → ⊥)
    × ((w : ℕ) → IsPort (Fun Com (Var w)) → ⊥)
    × ((i j w : ℕ) → IsPort (Fun (Exp i) (Fun (Exp j) (Var w))) → ⊥)

-- Handshake 0 of an array asks for the index, 1 is a read and 2 a write.
abbrev pub ArrayShakes : Type 0
ArrayShakes =
    (i w : ℕ)
    → handshakes_of (Fun (Exp i) (Var w))
    ≡ record { role = Ask; ask_bits = 0; answer_bits = i; path = Argument ∷ [] }
    ∷ served 0 w (Outcome ∷ Read ∷ [])
    ∷ served w 0 (Outcome ∷ Write ∷ []) ∷ []
