-- Small terms that meet the definitions, and others that miss them.
--
-- Read first: Waits, PlacedBack.
use Rattle.std.specs.Prelude.{◌≡◌}
use Rattle.gos_model.specs.Terms.{Import, App, Seq, Par, Deref, Wait, Both}
use Rattle.gos_model.specs.Labels.{taken}
use Rattle.gos_model.specs.Moves.{Computing, Showing}
use Rattle.gos_model.specs.SmallPrograms.{c, d}
use Rattle.gos_programs.specs.variables.Waits.{HasNoWaitAt, WaitsAt, requests_at, answers_at}
use Rattle.gos_programs.specs.variables.PlacedBack.{IsActive}

-- `c ; c` waits for none as it begins, and waits at c where c was asked
abbrev pub OneWaits : Type 0
OneWaits = HasNoWaitAt c (Seq (Import c) (Import c)) × (HasNoWaitAt c (Seq (Wait c 1) (Import c)) → ⊥)

-- that is one wait, at c and not at d; and where the second c waits it is at no reached place
abbrev pub WaitIsReached : Type 0
WaitIsReached =
    WaitsAt c 1 (Par (Wait c 1) (Wait d 1)) × (WaitsAt c 0 (Par (Wait c 1) (Wait d 1)) → ⊥) × (WaitsAt c 1 (Seq (Import c) (Wait c 1)) → ⊥)

-- the index of an access of c waits at d where it was asked for, and at no reached place where it was not
abbrev pub IndexWaitsToo : Type 0
IndexWaitsToo = WaitsAt d 1 (Deref (App (Wait c 0) (Both (Import d) (Wait d 1)))) × (WaitsAt d 1 (Deref (App (Wait c 1) (Both (Import d) (Wait d 1)))) → ⊥)

-- the request at c is one request at c, and no answer, and at d nothing
abbrev pub LabelsAreCounted : Type 0
LabelsAreCounted =
    (requests_at c (Showing (taken c 0 0)) ≡ 1) × (answers_at c (Showing (taken c 0 0)) ≡ 0) × (requests_at d (Showing (taken c 0 0)) ≡ 0)

-- a request to an import is active, and its answer is not
abbrev pub AnswersAreNotActive : Type 0
AnswersAreNotActive = IsActive Computing × IsActive (Showing (taken c 0 0)) × (IsActive (Showing (taken c 1 0)) → ⊥)
