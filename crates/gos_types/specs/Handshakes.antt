-- The handshakes of a type.
--
-- Read first: Types. A handshake is seen by the holder of a term of the type: `Serve` is one that the holder
-- answers, `Ask` one that it requests. Every crate speaks of handshakes by this list and their places in it.
use Rattle.std.specs.Prelude.{◌≡◌, ℕ, List, [], ◌∷◌, ◌++◌, map}
use Rattle.gos_types.specs.declared.shakes.Role.{Role}
use Rattle.gos_types.specs.declared.shakes.Role.TheVariants.{Serve, Ask}
use Rattle.gos_types.specs.declared.shakes.Step.{Step}
use Rattle.gos_types.specs.declared.shakes.Step.TheVariants.{First, Second, Argument, Outcome, Read, Write}
use Rattle.gos_types.specs.Types.{Type', Com, Exp, Var, Pair, Fun}

-- who asks, the bits of the request and of the answer, and the way from the type's root
pub record Shake : Type 0 where
  pub role : Role
  pub ask_bits : ℕ
  pub answer_bits : ℕ
  pub path : List Step

-- a handshake that the holder answers, at this way
abbrev pub served : ℕ → ℕ → List Step → Shake
served ask answer path = record { role = Serve; ask_bits = ask; answer_bits = answer; path = path }

-- the other side of a handshake
abbrev pub turned : Role → Role
turned Serve = Ask
turned Ask = Serve

-- a handshake as the other side sees it
abbrev pub turn : Shake → Shake
turn h = record h { role = turned h.role }

-- handshakes as the other side sees them
abbrev pub turn_all : List Shake → List Shake
turn_all = map turn

-- a handshake one step further from the root
abbrev pub one_below : Step → Shake → Shake
one_below step h = record h { path = step ∷ h.path }

-- handshakes one step further from the root
abbrev pub below : Step → List Shake → List Shake
below step = map (one_below step)

-- the handshakes of a type; those of an argument are turned
abbrev pub handshakes_of : Type' → List Shake
handshakes_of Com = served 0 0 [] ∷ []
handshakes_of (Exp w) = served 0 w [] ∷ []
handshakes_of (Var w) = served 0 w (Read ∷ []) ∷ served w 0 (Write ∷ []) ∷ []
handshakes_of (Pair a b) = below First (handshakes_of a) ++ below Second (handshakes_of b)
handshakes_of (Fun a b) = below Argument (turn_all (handshakes_of a)) ++ below Outcome (handshakes_of b)

-- the other side of the other side is the side itself
abbrev pub TurningTwice : Type 0
TurningTwice = (shakes : List Shake) → turn_all (turn_all shakes) ≡ shakes
