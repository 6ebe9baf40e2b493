-- From Idle no inner move leads.
use Rattle.std.specs.Prelude.{◌≡◌, List, [], ◌∷◌}
use Rattle.std.proofs.Common.{refl, sym, ap}
use Rattle.gos_model.specs.Labels.{Label, given}
use Rattle.gos_model.specs.Moves.{Program, Config, Idle, Act, Computing, Showing, Moves}
use Rattle.gos_programs.specs.contexts.Plugged.{AreInner}

pub idle_inner : (g : Program) (acts : List Act) (c : Config) → AreInner acts → Moves g acts Idle c → (acts ≡ []) × (c ≡ Idle)
idle_inner g [] c inner moves = (refl, sym moves)
idle_inner g (Computing ∷ acts) c inner (b, (is, to), moves) = absurd (cc is)
idle_inner g (Showing o ∷ acts) c inner (b, (is, to), moves) =
    let one : o ≡ given 0 0 = cc is in absurd (inner.0 (ap (λ (l : Label). l.port) one))
