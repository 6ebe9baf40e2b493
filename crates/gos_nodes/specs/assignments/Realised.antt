-- That the plan of `M := N` realises it, where N's stage realises N, and each session of M's stage is matched by `M := k`.
--
-- Read first: Writes; Matched, Realises of gos_realises.
use Rattle.std.specs.Prelude.{◌≡◌, ◌≢◌, ℕ, ◌^◌, ◌<◌, List, [], ◌∷◌, Contains}
use Rattle.gos_types.specs.Types.{Com, Exp}
use Rattle.gos_model.specs.Terms.{Term, Lit, Assign}
use Rattle.gos_model.specs.Typing.{Typed}
use Rattle.gos_model.specs.Labels.{Label, given}
use Rattle.gos_model.specs.Moves.{Program, Config, Running, Act, Moves, labels}
use Rattle.gos_plan.specs.Plans.{ResultEnd, Plan}
use Rattle.gos_plan.specs.Tokens.{Tokens, Element, Out, In, Does, Runs, IsIdle}
use Rattle.gos_realises.specs.realises.Regular.{InputsKeepTurns}
use Rattle.gos_realises.specs.realises.Matched.{shows, GoesOn, Agrees, program_of, RealisesInTurn}
use Rattle.gos_realises.specs.realises.Realises.{AllPorts, Realises}
use Rattle.gos_nodes.specs.windows.Nodes.{Stage}
use Rattle.gos_nodes.specs.windows.OneSession.{IsTidy, EndsWell}
use Rattle.gos_nodes.specs.assignments.Writes.{IsWrite, AreRestful}

-- What an element shows in a session: the answer of the result, at whatever handshake, is that of the program.
abbrev pub session_shows : Plan → Element → List Label
session_shows p (Out (ResultEnd h) v) = given 1 v ∷ []
session_shows p x = shows p x

-- the list of a session is matched by moves from c: IsMatched of gos_realises, but for what is shown
abbrev pub IsSessionMatched : Plan → Program → List Element → Tokens → Config → Type 0
IsSessionMatched p g [] s c = Agrees p g s c
IsSessionMatched p g (x ∷ xs) s c =
    Agrees p g s c
    × ((t : Tokens) → Does p x s t
    → (acts : List Act) × (d : Config) × Moves g acts c d × (labels acts ≡ session_shows p x) × GoesOn p s x acts × IsSessionMatched p g xs t d)

-- Each session of handshake h of the result, asked with k in an idle state, is matched by the term: silent moves lead to where
-- its list is matched. The write of a number isn't asked before a step is made.
abbrev pub SessionIsRealised : Plan → ℕ → ℕ → Term → Type 0
SessionIsRealised p h k n =
    (s u t : Tokens) (ys : List Element)
    → IsTidy p s → IsIdle p s → EndsWell h p ys → Does p (In (ResultEnd h) k) s u → Runs p ys u t → InputsKeepTurns p [] (In (ResultEnd h) k ∷ ys)
    → (acts : List Act) × (c : Config) × Moves (program_of p n) acts (Running n []) c × (labels acts ≡ []) × (h ≡ 1 → acts ≢ [])
    × IsSessionMatched p (program_of p n) ys u c

-- the stage of N realises N, and M's stage does what `M := k` does where it is written with k
pub record AreWritten (w : ℕ) (m n : Term) (gs : List Stage) : Type 0 where
  pub number : (g : Stage) → Contains gs g → g.asked_at ≡ 0 → Typed g.plan.imports [] n (Exp w) × RealisesInTurn g.plan n
  pub variable :
      (g : Stage) → Contains gs g → g.asked_at ≡ 1
      → (k : ℕ) → k < 2 ^ w → Typed g.plan.imports [] (Assign m (Lit k w)) Com × SessionIsRealised g.plan 1 k (Assign m (Lit k w))

-- Then the plan realises `M := N`, with imports of any types; by its type where these are ports.
abbrev pub WriteRealises : Type 0
WriteRealises =
    (r : Plan) (d w : ℕ) (gs : List Stage) (m n : Term)
    → IsWrite r d w gs → AreRestful gs → AreWritten w m n gs → RealisesInTurn r (Assign m n)

abbrev pub WriteRealisesByType : Type 0
WriteRealisesByType =
    (r : Plan) (d w : ℕ) (gs : List Stage) (m n : Term)
    → IsWrite r d w gs → AllPorts r.imports → AreRestful gs → AreWritten w m n gs → Typed r.imports [] (Assign m n) Com → Realises Com r (Assign m n)
