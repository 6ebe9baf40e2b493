-- The right side of an assignment: a context beside which nothing is reached.
use Rattle.std.specs.Prelude.{[], ◌∷◌}
use Rattle.std.proofs.Common.{refl, inl}
use Rattle.gos_model.specs.Terms.{Skip, Lit, Import, Assign, Wait, Put}
use Rattle.gos_model.specs.Labels.{given, taken}
use Rattle.gos_model.specs.Moves.{Idle, Running, Computing, Showing, Moves}
use Rattle.gos_programs.specs.contexts.Contexts.{AssignRight}
use Rattle.gos_programs.proofs.contexts.PluggedLemmas.{unfoldings_plugged, moves_plugged}
use Rattle.gos_programs.proofs.contexts.BackwardLemmas.{waits_within}
use Rattle.gos_programs.proofs.contexts.WideningLemmas.{moves_widen, waits_widely}
use Rattle.gos_programs.proofs.results.ResultLemmas.{moves_then}
use Rattle.gos_nodes.specs.assign_part.Tables.{WriteMoves}
use Rattle.gos_nodes.specs.assign_part.Sides.{RightSideMoves, RightSideWaits, WriteRuns}
use Rattle.gos_nodes.proofs.assign_part.TableLemmas.{writes_move}

pub right_side_moves : RightSideMoves
right_side_moves p g acts m n t s u among inner h =
    moves_plugged g g acts (AssignRight m) s u n t refl inner (moves_widen p g acts n t s u among inner h)

pub right_side_waits : RightSideWaits
right_side_waits p g m n s among knows h = waits_within g g (AssignRight m) s n refl tt (waits_widely p g n s among knows h)

pub write_runs : WriteRuns
write_runs p g acts x n t s u v w k among known inner h us =
    moves_then g acts (Computing ∷ Showing (taken x 2 v) ∷ Showing (taken x 3 0) ∷ Showing (given 1 0) ∷ [])
    (Running (Assign (Import x) n) s) (Running (Assign (Import x) t) u) Idle
    (right_side_moves p g acts (Import x) n t s u among inner h) written
  where
    moves : WriteMoves g x w u
    moves = writes_move g x w u known

    written : Moves g (Computing ∷ Showing (taken x 2 v) ∷ Showing (taken x 3 0) ∷ Showing (given 1 0) ∷ []) (Running (Assign (Import x) t) u) Idle
    written = (
      Running (Put (Import x) v) u,
      (k, Assign (Import x) (Lit v w), unfoldings_plugged (AssignRight (Import x)) k t (Lit v w) us, inl (v, w, refl, refl, refl)),
      moves_then g (Showing (taken x 2 v) ∷ []) (Showing (taken x 3 0) ∷ Showing (given 1 0) ∷ [])
          (Running (Put (Import x) v) u) (Running (Wait x 3) u) Idle (moves.writes v)
          (moves_then g (Showing (taken x 3 0) ∷ []) (Showing (given 1 0) ∷ []) (Running (Wait x 3) u) (Running Skip u) Idle
          moves.answered (Idle, (0, Skip, refl, inl (refl, refl)), refl)),
    )
