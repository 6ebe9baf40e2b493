-- A good command or expression is not stalled, and what a run leads to is good where nothing waits.
use Rattle.std.specs.Prelude.{[], ◌∷◌}
use Rattle.std.proofs.Common.{refl, subst, inl, inr}
use Rattle.gos_types.specs.Types.{Type', Com, Exp, Var, Pair, Fun, IsDone}
use Rattle.gos_model.specs.Terms.{Term}
use Rattle.gos_model.specs.Labels.{given}
use Rattle.gos_model.specs.Moves.{Program, Idle, Running, Computing, Showing, Stalled}
use Rattle.gos_supplies.specs.progress.Progress.{ProgramsBegin, RunsGoOn, UnaskedRunsGoOn}
use Rattle.gos_supplies.proofs.progress.ClosingLemmas.{closed_by_none}
use Rattle.gos_supplies.proofs.progress.WaitLemmas.{source_waits, unasked}
use Rattle.gos_programs.specs.results.HasTypes.{widths_of}
use Rattle.gos_programs.proofs.results.ResultLemmas.{runs_keep_types}
use Rattle.gos_model.specs.Stores.{Store}
use Rattle.gos_realises.proofs.realises.PlaceLemmas.{port_import}
use Rattle.gos_supplies.proofs.progress.GoodLemmas.{CanBegin, IsGood, good}

not_stalled : (p : Program) (m : Term) (s : Store) → CanBegin p.imports s m → Stalled p (Running m s) → ⊥
not_stalled p m s (n, u, hs, (Computing, r, t, own, h)) stalled = stalled.0 (Running t r) (n, u, hs, h)
not_stalled p m s (n, u, hs, (Showing o, r, t, own, h)) stalled = stalled.1 o (Running t r) own (n, u, hs, h)

good_begins : (p : Program) (t : Type') (m : Term) (s : Store) → IsDone t → IsGood p.imports s t m → Stalled p (Running m s) → ⊥
good_begins p Com m s d (n, u, hs, inl e) stalled = stalled.1 (given 1 0) Idle refl (n, u, hs, inl (e, refl))
good_begins p (Exp w) m s d (n, u, hs, inl (k, e, fits)) stalled = stalled.1 (given 1 k) Idle refl (n, u, hs, inr (k, w, e, refl))
good_begins p Com m s d (n, u, hs, inr h) stalled = not_stalled p m s (n, u, hs, h) stalled
good_begins p (Exp w) m s d (n, u, hs, inr h) stalled = not_stalled p m s (n, u, hs, h) stalled
good_begins p (Var w) m s d h stalled = d
good_begins p (Pair a b) m s d h stalled = d
good_begins p (Fun a b) m s d h stalled = d

pub runs_go_on : RunsGoOn
runs_go_on p t acts m s all typed d run none =
    let runs = runs_keep_types p t acts m s typed run in
    good_begins p t m s d
    (subst (λ (x : Term). IsGood p.imports s t x) (closed_by_none (widths_of s) p.imports [] m t runs.0)
    (good p.imports s (port_import p.imports all) [] m t [] tt none runs.0))

pub programs_begin : ProgramsBegin
programs_begin p t all typed d =
    runs_go_on p t (Showing (given 0 0) ∷ []) p.body [] all typed d (Running p.body [], (refl, refl), refl)
    (source_waits p.imports [] p.body t typed)

pub unasked_runs_go_on : UnaskedRunsGoOn
unasked_runs_go_on p t acts m s all typed d run shown =
    runs_go_on p t acts m s all typed d run
    (unasked p acts (Running m s) (source_waits p.imports [] p.body t typed) run shown)
