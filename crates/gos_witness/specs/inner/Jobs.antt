-- How a closed term is put in: a state, and the jobs around it.
--
-- Read first: NodeLists; Substitution of gos_model. The state stands for a term, and each job, the outermost first, for a form around it.
use Rattle.std.specs.Prelude.{◌≡◌, ◌<◌, ◌+◌, ◌*◌, ℕ, List, [], ◌∷◌, length}
use Rattle.gos_model.specs.Terms.{Term, If}
use Rattle.gos_model.specs.Substitution.{put_at}
use Rattle.gos_witness.specs.Sizes.{size}
use Rattle.gos_witness.specs.NodeLists.{Listed, one_term, two_term, seen, FitsOne}
use Rattle.gos_witness.specs.declared.putting.Job.{Job}
use Rattle.gos_witness.specs.declared.putting.Job.TheVariants as jobs
use Rattle.gos_witness.specs.declared.putting.State.{State}
use Rattle.gos_witness.specs.declared.putting.State.TheVariants as states

-- the form of a job with the part that it waits for, where n is put in
abbrev pub fill_job : Listed → Term → Job → Term → Term
fill_job l n (jobs.One o) m = one_term l.tables o m
fill_job l n (jobs.First o b d) m = two_term o m (put_at d n (seen l b))
fill_job l n (jobs.Second o a) m = two_term o (seen l a) m
fill_job l n (jobs.Test b c d) m = If m (put_at d n (seen l b)) (put_at d n (seen l c))
fill_job l n (jobs.Yes a c d) m = If (seen l a) m (put_at d n (seen l c))
fill_job l n (jobs.No a b) m = If (seen l a) (seen l b) m

-- what comes of jobs
abbrev pub done : Listed → Term → List Job → Term → Term
done l n [] m = m
done l n (j ∷ js) m = fill_job l n j (done l n js m)

-- the term of a state
abbrev pub state_term : Listed → Term → State → Term
state_term l n (states.Down i d) = put_at d n (seen l i)
state_term l n (states.Up i) = seen l i

-- the numbers of a job and of a state are in range
abbrev pub FitsJob : Listed → Job → Type 0
FitsJob l (jobs.One o) = FitsOne l.tables o
FitsJob l (jobs.First o b d) = b < length l.nodes
FitsJob l (jobs.Second o a) = a < length l.nodes
FitsJob l (jobs.Test b c d) = (b < length l.nodes) × (c < length l.nodes)
FitsJob l (jobs.Yes a c d) = (a < length l.nodes) × (c < length l.nodes)
FitsJob l (jobs.No a b) = (a < length l.nodes) × (b < length l.nodes)

abbrev pub AreJobs : Listed → List Job → Type 0
AreJobs l [] = Unit {0}
AreJobs l (j ∷ js) = FitsJob l j × AreJobs l js

abbrev pub FitsState : Listed → State → Type 0
FitsState l (states.Down i d) = i < length l.nodes
FitsState l (states.Up i) = i < length l.nodes

-- how much is left to do
abbrev pub job_work : Listed → Job → ℕ
job_work l (jobs.One o) = 1
job_work l (jobs.First o b d) = 8 * size (seen l b) + 3
job_work l (jobs.Second o a) = 1
job_work l (jobs.Test b c d) = 8 * size (seen l b) + 8 * size (seen l c) + 5
job_work l (jobs.Yes a c d) = 8 * size (seen l c) + 3
job_work l (jobs.No a b) = 1

abbrev pub jobs_work : Listed → List Job → ℕ
jobs_work l [] = 0
jobs_work l (j ∷ js) = job_work l j + jobs_work l js

abbrev pub state_work : Listed → State → ℕ
state_work l (states.Down i d) = 8 * size (seen l i) + 1
state_work l (states.Up i) = 0

abbrev pub work : Listed → List Job → State → ℕ
work l js s = state_work l s + jobs_work l js

-- a state and jobs that stand for the same in the new list, with less work to do
pub record IsNext (old new : Listed) (n : Term) (js : List Job) (s : State) (js' : List Job) (s' : State) : Type 0 where
  pub fits : FitsState new s'
  pub jobs : AreJobs new js'
  pub term : done new n js' (state_term new n s') ≡ done old n js (state_term old n s)
  pub less : work new js' s' < work old js s
