-- From one state to the next the whole stands for the same.
use Rattle.std.proofs.Common.{◌≡◌, ℕ, List}
use Rattle.gos_model.specs.Substitution.{instantiate}
use Rattle.gos_witness.specs.NodeLists.{Listed, seen}
use Rattle.gos_witness.specs.declared.putting.Job.{Job}
use Rattle.gos_witness.specs.declared.putting.State.{State}
use Rattle.gos_witness.specs.inner.Keeping.{Keeps}
use Rattle.gos_witness.specs.inner.Jobs.{done, state_term, AreJobs, FitsState}

-- a list a became l, and what is to be done stands for the body of a with its argument
pub record IsPutting (a l : Listed) (body argument : ℕ) (js : List Job) (s : State) : Type 0 where
  pub keeps : Keeps a l
  pub fits : FitsState l s
  pub jobs : AreJobs l js
  pub term : done l (seen a argument) js (state_term l (seen a argument) s) ≡ instantiate (seen a body) (seen a argument)
