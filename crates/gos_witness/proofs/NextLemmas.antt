-- One state leads to the next, and the jobs around it stand for the same.
use Rattle.std.proofs.Common.{◌≡◌, ◌<◌, ◌+◌, ℕ, List, [], ◌∷◌, ◌++◌, length, sym, ap, subst, arith, ◌∙◌}
use Rattle.gos_model.specs.Terms.{Term}
use Rattle.std.specs.Prelude.{Result, Ok, Err, IfOk}
use Rattle.gos_witness.specs.declared.nodes.Form.{Form}
use Rattle.gos_witness.specs.NodeLists.{Listed, seen, shape}
use Rattle.gos_witness.specs.declared.putting.Job.{Job}
use Rattle.gos_witness.specs.declared.putting.State.{State}
use Rattle.gos_witness.specs.declared.putting.State.TheVariants as states
use Rattle.gos_witness.specs.inner.Keeping.{Keeps}
use Rattle.gos_witness.specs.inner.Jobs.{fill_job, done, state_term, FitsJob, AreJobs, FitsState, job_work, state_work, IsNext}
use Rattle.gos_witness.proofs.PutLemmas.{jobs_keep, done_keeps, work_keeps, done_more, work_more, jobs_more}

-- the same term, with less to do
pub turned : (l : Listed) (n : Term) (js : List Job) (s s' : State) → AreJobs l js → FitsState l s' → state_term l n s' ≡ state_term l n s
    → state_work l s' < state_work l s → IsNext l l n js s js s'
turned l n js s s' are fits e less = record {
  fits = fits;
  jobs = are;
  term = ap (done l n js) e;
  less = omega (arith, less);
}

-- a part, with the job of the form around it
pub entered : (l : Listed) (n : Term) (js : List Job) (j : Job) (s s' : State) → AreJobs l js → FitsJob l j → FitsState l s'
    → fill_job l n j (state_term l n s') ≡ state_term l n s → state_work l s' + job_work l j < state_work l s → IsNext l l n js s (js ++ j ∷ []) s'
entered l n js j s s' are fit fits e less =
    let more = work_more l js j in
    record {
      fits = fits;
      jobs = jobs_more l js j are fit;
      term = done_more l n js j (state_term l n s') ∙ ap (done l n js) e;
      less = omega (arith, less, more);
    }

-- the next part, with the job that is left
pub moved : (l : Listed) (n : Term) (js : List Job) (j j' : Job) (s s' : State) → AreJobs l js → FitsJob l j' → FitsState l s'
    → fill_job l n j' (state_term l n s') ≡ fill_job l n j (state_term l n s) → state_work l s' + job_work l j' < state_work l s + job_work l j
    → IsNext l l n (js ++ j ∷ []) s (js ++ j' ∷ []) s'
moved l n js j j' s s' are fit fits e less =
    let more = work_more l js j in
    let more' = work_more l js j' in
    record {
      fits = fits;
      jobs = jobs_more l js j' are fit;
      term = done_more l n js j' (state_term l n s') ∙ ap (done l n js) e ∙ sym (done_more l n js j (state_term l n s));
      less = omega (arith, less, more, more');
    }

-- the form that is made
pub left : (l l' : Listed) (n : Term) (js : List Job) (j : Job) (s s' : State) → Keeps l l' → AreJobs l js → FitsState l' s'
    → state_term l' n s' ≡ fill_job l n j (state_term l n s) → state_work l' s' < state_work l s + job_work l j
    → IsNext l l' n (js ++ j ∷ []) s js s'
left l l' n js j s s' keeps are fits e less =
    let more = work_more l js j in
    let same = work_keeps l l' js keeps are in
    record {
      fits = fits;
      jobs = jobs_keep l l' js keeps are;
      term =
          done_keeps l l' n js (state_term l' n s') keeps are ∙ ap (done l n js) e
          ∙ sym (done_more l n js j (state_term l n s));
      less = omega (arith, less, more, same);
    }

-- the form that is made of a job, if there is memory
pub up_made : {E : Type 0} (l l' : Listed) (js : List Job) (j : Job) (part : ℕ) (f : Form) (r : Result State E) → Keeps l l' → AreJobs l js
    → ((n : Term) → shape l f ≡ fill_job l n j (seen l part)) → 0 < job_work l j
    → IfOk r (λ s. (node : ℕ) × (s ≡ states.Up node) × (node < length l'.nodes) × (seen l' node ≡ shape l f))
    → IfOk r (λ s. (n : Term) → IsNext l l' n (js ++ j ∷ []) (states.Up part) js s)
up_made l l' js j part f (Ok s) keeps are e some (node, is, there, term) = λ n.
    subst (λ (x : State). IsNext l l' n (js ++ j ∷ []) (states.Up part) js x) (sym is)
    (left l l' n js j (states.Up part) (states.Up node) keeps are there (term ∙ e n) (omega (arith, some)))
up_made l l' js j part f (Err x) keeps are e some h = tt
