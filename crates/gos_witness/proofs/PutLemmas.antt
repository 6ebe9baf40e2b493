-- A closed term is put in, form by form.
use Rattle.std.proofs.Common.{Bool, true, false, ◌≡◌, ◌≤◌, ◌+◌, ◌*◌, ℕ, suc, List, [], ◌∷◌, ◌++◌, refl, ap, arith, ◌∙◌}
use Rattle.std.specs.Prelude.{nat_eq, if◌then◌else◌}
use Rattle.gos_model.specs.Terms.{Term, Skip, Lit, Bound, Import, Lam, App, Both, Fst, Snd, Seq, Par, If, While, Assign, Deref, New, NewArray, Not, Bin, Loc, Arr, Scope, Wait, Held, Put}
use Rattle.gos_model.specs.Substitution.{put_at}
use Rattle.gos_witness.specs.Sizes.{size}
use Rattle.gos_witness.specs.Needs.{needs}
use Rattle.gos_witness.specs.declared.nodes.OnePart.{OnePart}
use Rattle.gos_witness.specs.declared.nodes.OnePart.TheVariants as one
use Rattle.gos_witness.specs.declared.nodes.TwoParts.{TwoParts}
use Rattle.gos_witness.specs.declared.nodes.TwoParts.TheVariants as two
use Rattle.gos_witness.specs.declared.putting.Job.{Job}
use Rattle.gos_witness.specs.declared.putting.Job.TheVariants as jobs
use Rattle.gos_witness.specs.NodeLists.{Tables, Listed, one_term, two_term, binders_of}
use Rattle.gos_witness.specs.inner.Keeping.{Keeps}
use Rattle.gos_witness.specs.inner.Jobs.{fill_job, done, FitsJob, AreJobs, job_work, jobs_work}
use Rattle.gos_witness.proofs.KeepLemmas.{one_keeps, fits_one}

-- a term that needs no more binders has no variable into which anything is put
pub closed_stays : (d : ℕ) (n m : Term) → needs m ≤ d → put_at d n m ≡ m
closed_stays d n Skip h = refl
closed_stays d n (Lit k w) h = refl
closed_stays d n (Bound i) h = other (nat_eq i d) refl
  where
    other : (b : Bool) → nat_eq i d ≡ b → (if nat_eq i d then n else Bound i) ≡ Bound i
    other true e = absurd (grind (arith, e, h))
    other false e = rw e refl
closed_stays d n (Import x) h = refl
closed_stays d n (Lam a m) h = ap (Lam a) (closed_stays (suc d) n m (omega (arith, h)))
closed_stays d n (App m p) h = λ i. App (closed_stays d n m (grind (arith, h)) i) (closed_stays d n p (grind (arith, h)) i)
closed_stays d n (Both m p) h = λ i. Both (closed_stays d n m (grind (arith, h)) i) (closed_stays d n p (grind (arith, h)) i)
closed_stays d n (Fst m) h = ap Fst (closed_stays d n m h)
closed_stays d n (Snd m) h = ap Snd (closed_stays d n m h)
closed_stays d n (Seq m p) h = λ i. Seq (closed_stays d n m (grind (arith, h)) i) (closed_stays d n p (grind (arith, h)) i)
closed_stays d n (Par m p) h = λ i. Par (closed_stays d n m (grind (arith, h)) i) (closed_stays d n p (grind (arith, h)) i)
closed_stays d n (If m p q) h = λ i.
    If (closed_stays d n m (grind (arith, h)) i) (closed_stays d n p (grind (arith, h)) i) (closed_stays d n q (grind (arith, h)) i)
closed_stays d n (While m p) h = λ i. While (closed_stays d n m (grind (arith, h)) i) (closed_stays d n p (grind (arith, h)) i)
closed_stays d n (Assign m p) h = λ i. Assign (closed_stays d n m (grind (arith, h)) i) (closed_stays d n p (grind (arith, h)) i)
closed_stays d n (Deref m) h = ap Deref (closed_stays d n m h)
closed_stays d n (New w m) h = ap (New w) (closed_stays (suc d) n m (omega (arith, h)))
closed_stays d n (NewArray k w m) h = ap (NewArray k w) (closed_stays (suc d) n m (omega (arith, h)))
closed_stays d n (Not m) h = ap Not (closed_stays d n m h)
closed_stays d n (Bin op m p) h = λ i. Bin op (closed_stays d n m (grind (arith, h)) i) (closed_stays d n p (grind (arith, h)) i)
closed_stays d n (Loc l) h = refl
closed_stays d n (Arr l) h = refl
closed_stays d n (Scope l m) h = ap (Scope l) (closed_stays d n m h)
closed_stays d n (Wait x s) h = refl
closed_stays d n (Held k op m) h = ap (Held k op) (closed_stays d n m h)
closed_stays d n (Put m k) h = ap (λ x. Put x k) (closed_stays d n m h)

-- what is put into a form is put into its parts
pub put_one : (a : Tables) (o : OnePart) (d : ℕ) (n m : Term) → put_at d n (one_term a o m) ≡ one_term a o (put_at (d + binders_of o) n m)
put_one a (one.Lam t) d n m = let e : suc d ≡ d + 1 = omega arith in ap (λ (k : ℕ). one_term a (one.Lam t) (put_at k n m)) e
put_one a (one.New w) d n m = let e : suc d ≡ d + 1 = omega arith in ap (λ (k : ℕ). New w (put_at k n m)) e
put_one a (one.NewArray c w) d n m = let e : suc d ≡ d + 1 = omega arith in ap (λ (k : ℕ). NewArray c w (put_at k n m)) e
put_one a one.Fst d n m = let e : d ≡ d + 0 = omega arith in ap (λ (k : ℕ). Fst (put_at k n m)) e
put_one a one.Snd d n m = let e : d ≡ d + 0 = omega arith in ap (λ (k : ℕ). Snd (put_at k n m)) e
put_one a one.Deref d n m = let e : d ≡ d + 0 = omega arith in ap (λ (k : ℕ). Deref (put_at k n m)) e
put_one a one.Not d n m = let e : d ≡ d + 0 = omega arith in ap (λ (k : ℕ). Not (put_at k n m)) e
put_one a (one.Scope p) d n m = let e : d ≡ d + 0 = omega arith in ap (λ (k : ℕ). Scope p (put_at k n m)) e
put_one a (one.Held j op) d n m = let e : d ≡ d + 0 = omega arith in ap (λ (k : ℕ). one_term a (one.Held j op) (put_at k n m)) e
put_one a (one.Put j) d n m = let e : d ≡ d + 0 = omega arith in ap (λ (k : ℕ). Put (put_at k n m) j) e

pub put_two : (o : TwoParts) (d : ℕ) (n m p : Term) → put_at d n (two_term o m p) ≡ two_term o (put_at d n m) (put_at d n p)
put_two two.App d n m p = refl
put_two two.Both d n m p = refl
put_two two.Seq d n m p = refl
put_two two.Par d n m p = refl
put_two two.While d n m p = refl
put_two two.Assign d n m p = refl
put_two (two.Bin op) d n m p = refl

-- jobs in a list that grows
pub fill_job_keeps : (l l' : Listed) (n : Term) (j : Job) (m : Term) → Keeps l l' → FitsJob l j → fill_job l' n j m ≡ fill_job l n j m
fill_job_keeps l l' n (jobs.One o) m k fits = one_keeps l.tables l'.tables o m k.tables fits
fill_job_keeps l l' n (jobs.First o b d) m k fits = ap (λ q. two_term o m (put_at d n q)) (k.terms b fits)
fill_job_keeps l l' n (jobs.Second o c) m k fits = ap (λ q. two_term o q m) (k.terms c fits)
fill_job_keeps l l' n (jobs.Test b c d) m k fits = λ i. If m (put_at d n (k.terms b fits.0 i)) (put_at d n (k.terms c fits.1 i))
fill_job_keeps l l' n (jobs.Yes c b d) m k fits = λ i. If (k.terms c fits.0 i) m (put_at d n (k.terms b fits.1 i))
fill_job_keeps l l' n (jobs.No c b) m k fits = λ i. If (k.terms c fits.0 i) (k.terms b fits.1 i) m

pub job_keeps : (l l' : Listed) (j : Job) → Keeps l l' → FitsJob l j → FitsJob l' j
job_keeps l l' (jobs.One o) k fits = fits_one l.tables l'.tables o k.tables fits
job_keeps l l' (jobs.First o b d) k fits = omega (arith, fits, k.more)
job_keeps l l' (jobs.Second o c) k fits = omega (arith, fits, k.more)
job_keeps l l' (jobs.Test b c d) k fits = (omega (arith, fits.0, k.more), omega (arith, fits.1, k.more))
job_keeps l l' (jobs.Yes c b d) k fits = (omega (arith, fits.0, k.more), omega (arith, fits.1, k.more))
job_keeps l l' (jobs.No c b) k fits = (omega (arith, fits.0, k.more), omega (arith, fits.1, k.more))

pub job_work_keeps : (l l' : Listed) (j : Job) → Keeps l l' → FitsJob l j → job_work l' j ≡ job_work l j
job_work_keeps l l' (jobs.One o) k fits = refl
job_work_keeps l l' (jobs.First o b d) k fits = ap (λ q. 8 * size q + 3) (k.terms b fits)
job_work_keeps l l' (jobs.Second o c) k fits = refl
job_work_keeps l l' (jobs.Test b c d) k fits = λ i. 8 * size (k.terms b fits.0 i) + 8 * size (k.terms c fits.1 i) + 5
job_work_keeps l l' (jobs.Yes c b d) k fits = ap (λ q. 8 * size q + 3) (k.terms b fits.1)
job_work_keeps l l' (jobs.No c b) k fits = refl

pub jobs_keep : (l l' : Listed) (js : List Job) → Keeps l l' → AreJobs l js → AreJobs l' js
jobs_keep l l' [] k are = tt
jobs_keep l l' (j ∷ js) k are = (job_keeps l l' j k are.0, jobs_keep l l' js k are.1)

pub done_keeps : (l l' : Listed) (n : Term) (js : List Job) (m : Term) → Keeps l l' → AreJobs l js → done l' n js m ≡ done l n js m
done_keeps l l' n [] m k are = refl
done_keeps l l' n (j ∷ js) m k are =
    fill_job_keeps l l' n j (done l' n js m) k are.0 ∙ ap (fill_job l n j) (done_keeps l l' n js m k are.1)

pub work_keeps : (l l' : Listed) (js : List Job) → Keeps l l' → AreJobs l js → jobs_work l' js ≡ jobs_work l js
work_keeps l l' [] k are = refl
work_keeps l l' (j ∷ js) k are = λ i. job_work_keeps l l' j k are.0 i + work_keeps l l' js k are.1 i

-- one job more
pub done_more : (l : Listed) (n : Term) (js : List Job) (j : Job) (m : Term) → done l n (js ++ j ∷ []) m ≡ done l n js (fill_job l n j m)
done_more l n [] j m = refl
done_more l n (i ∷ js) j m = ap (fill_job l n i) (done_more l n js j m)

pub work_more : (l : Listed) (js : List Job) (j : Job) → jobs_work l (js ++ j ∷ []) ≡ jobs_work l js + job_work l j
work_more l [] j = omega arith
work_more l (i ∷ js) j = let rest = work_more l js j in omega (arith, rest)

pub jobs_more : (l : Listed) (js : List Job) (j : Job) → AreJobs l js → FitsJob l j → AreJobs l (js ++ j ∷ [])
jobs_more l [] j are fits = (fits, tt)
jobs_more l (i ∷ js) j are fits = (are.0, jobs_more l js j are.1 fits)

pub jobs_less : (l : Listed) (js : List Job) (j : Job) → AreJobs l (js ++ j ∷ []) → AreJobs l js × FitsJob l j
jobs_less l [] j are = (tt, are.0)
jobs_less l (i ∷ js) j are = let (rest, last) = jobs_less l js j are.1 in ((are.0, rest), last)
