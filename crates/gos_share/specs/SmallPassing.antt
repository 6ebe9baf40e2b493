-- Where paths lead through the gates of a Share of small types: of a command, of a variable and of a function.
--
-- Read first: Share; Paths of gos_macro. The pairs, from handshake to handshake, are written out by hand. The source's
-- handshakes are numbered first, then those of caller 0, and then those of caller 1.
use Rattle.std.specs.Prelude.{◌≡◌, ℕ, List, [], ◌∷◌}
use Rattle.gos_types.specs.Types.{Type', Com, Exp, Var, Fun}
use Rattle.gos_plan.specs.Kinds.{contacts_of}
use Rattle.gos_macro.specs.Paths.{is_pair}
use Rattle.gos_share.specs.Share.{share_passing}

-- paths lead by these pairs, and by no others
abbrev pub PassesAt : Type' → List (ℕ × ℕ) → Type 0
PassesAt t pairs = (from to : ℕ) → share_passing (contacts_of t) from to ≡ is_pair pairs from to

-- the answer of a command goes on to each caller; its requests, at 1 and 2, go on nowhere
abbrev pub CommandPasses : Type 0
CommandPasses = PassesAt Com ((0, 1) ∷ (0, 2) ∷ [])

-- so do the answers of a variable: when it is read, at 0, and when it is written, at 1
abbrev pub VariablePasses : Type 0
VariablePasses = (w : ℕ) → PassesAt (Var w) ((0, 2) ∷ (0, 4) ∷ (1, 3) ∷ (1, 5) ∷ [])

-- A function asks for its argument, and this answer comes from a caller. Its own answer, at 1, goes on to each.
abbrev pub FunctionPasses : Type 0
FunctionPasses = (w : ℕ) → PassesAt (Fun (Exp w) Com) ((2, 0) ∷ (4, 0) ∷ (1, 3) ∷ (1, 5) ∷ [])
