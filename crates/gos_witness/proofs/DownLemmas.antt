-- What becomes of a node below so many binders, form by form.
use Rattle.std.proofs.Common.{◌≡◌, ◌<◌, ◌≤◌, ◌+◌, ◌⊎◌, ℕ, true, nat_eq, List, [], ◌∷◌, ◌++◌, length, refl, sym, ap, subst, arith, inl, inr, ◌∙◌}
use Rattle.std.proofs.lemmas.Bool.{eq-eqb}
use Rattle.gos_model.specs.Terms.{Term, Bound, If}
use Rattle.gos_model.specs.Substitution.{put_at}
use Rattle.gos_witness.specs.Sizes.{size}
use Rattle.gos_witness.specs.Needs.{needs}
use Rattle.gos_witness.specs.declared.nodes.Leaf.{Leaf}
use Rattle.gos_witness.specs.declared.nodes.Leaf.TheVariants as leaves
use Rattle.gos_witness.specs.declared.nodes.OnePart.{OnePart}
use Rattle.gos_witness.specs.declared.nodes.TwoParts.{TwoParts}
use Rattle.gos_witness.specs.declared.nodes.Form.{Form}
use Rattle.gos_witness.specs.declared.nodes.Form.TheVariants as forms
use Rattle.gos_witness.specs.declared.nodes.Node.{Node}
use Rattle.gos_witness.specs.declared.putting.Job.{Job}
use Rattle.gos_witness.specs.declared.putting.Job.TheVariants as jobs
use Rattle.gos_witness.specs.declared.putting.State.{State}
use Rattle.gos_witness.specs.declared.putting.State.TheVariants as states
use Rattle.gos_witness.specs.NodeLists.{Listed, leaf_term, one_term, two_term, seen, shape, Fits, IsRight, binders_of}
use Rattle.gos_witness.specs.inner.Jobs.{AreJobs, IsNext}
use Rattle.gos_witness.proofs.PutLemmas.{closed_stays, put_one, put_two}
use Rattle.gos_witness.proofs.SizeLemmas.{size_one, size_two}
use Rattle.gos_witness.proofs.NextLemmas.{turned, entered}

-- the term and the parts of a node with this form
known_term : (l : Listed) (i : ℕ) (known : Node) (f : Form) → IsRight l i known → known.form ≡ f → seen l i ≡ shape l f
known_term l i known f right is = right.term ∙ ap (shape l) is

known_fits : (l : Listed) (i : ℕ) (known : Node) (f : Form) → IsRight l i known → known.form ≡ f → Fits l.tables i f
known_fits l i known f right is = subst (λ (g : Form). Fits l.tables i g) is right.fits

-- nothing is put into it
pub down_closed : (l : Listed) (n : Term) (js : List Job) (i d : ℕ) (known : Node) → IsRight l i known → known.needs ≤ d → i < length l.nodes → AreJobs l js
    → IsNext l l n js (states.Down i d) js (states.Up i)
down_closed l n js i d known right few there are =
    let few' : needs (seen l i) ≤ d = subst (λ (k : ℕ). k ≤ d) right.needs few in
    turned l n js (states.Down i d) (states.Up i) are there (sym (closed_stays d n (seen l i) few')) (omega arith)

pub down_same : (l : Listed) (n : Term) (js : List Job) (i k d : ℕ) → put_at d n (seen l i) ≡ seen l k → k < length l.nodes → AreJobs l js
    → IsNext l l n js (states.Down i d) js (states.Up k)
down_same l n js i k d e there are = turned l n js (states.Down i d) (states.Up k) are there (sym e) (omega arith)

pub down_one : (l : Listed) (n : Term) (js : List Job) (i d : ℕ) (known : Node) (o : OnePart) (a : ℕ) → IsRight l i known → known.form ≡ forms.One o a
    → i < length l.nodes → AreJobs l js → IsNext l l n js (states.Down i d) (js ++ jobs.One o ∷ []) (states.Down a (d + binders_of o))
down_one l n js i d known o a right is there are =
    let term : seen l i ≡ one_term l.tables o (seen l a) = known_term l i known (forms.One o a) right is in
    let fits = known_fits l i known (forms.One o a) right is in
    let sized = ap size term ∙ size_one l.tables o (seen l a) in
    entered l n js (jobs.One o) (states.Down i d) (states.Down a (d + binders_of o)) are fits.0 (omega (arith, fits.1, there))
    (sym (put_one l.tables o d n (seen l a)) ∙ ap (put_at d n) (sym term)) (omega (arith, sized))

pub down_two : (l : Listed) (n : Term) (js : List Job) (i d : ℕ) (known : Node) (o : TwoParts) (a b : ℕ) → IsRight l i known
    → known.form ≡ forms.Two o a b → i < length l.nodes → AreJobs l js
    → IsNext l l n js (states.Down i d) (js ++ jobs.First o b d ∷ []) (states.Down a d)
down_two l n js i d known o a b right is there are =
    let term : seen l i ≡ two_term o (seen l a) (seen l b) = known_term l i known (forms.Two o a b) right is in
    let fits = known_fits l i known (forms.Two o a b) right is in
    let sized = ap size term ∙ size_two o (seen l a) (seen l b) in
    entered l n js (jobs.First o b d) (states.Down i d) (states.Down a d) are (omega (arith, fits.1, there)) (omega (arith, fits.0, there))
    (sym (put_two o d n (seen l a) (seen l b)) ∙ ap (put_at d n) (sym term)) (omega (arith, sized))

pub down_if : (l : Listed) (n : Term) (js : List Job) (i d : ℕ) (known : Node) (a b c : ℕ) → IsRight l i known → known.form ≡ forms.If a b c
    → i < length l.nodes → AreJobs l js → IsNext l l n js (states.Down i d) (js ++ jobs.Test b c d ∷ []) (states.Down a d)
down_if l n js i d known a b c right is there are =
    let term : seen l i ≡ If (seen l a) (seen l b) (seen l c) = known_term l i known (forms.If a b c) right is in
    let fits = known_fits l i known (forms.If a b c) right is in
    let sized = ap size term in
    entered l n js (jobs.Test b c d) (states.Down i d) (states.Down a d) are (omega (arith, fits.1, there), omega (arith, fits.2, there))
    (omega (arith, fits.0, there)) (ap (put_at d n) (sym term)) (omega (arith, sized))

-- a leaf
pub down_leaf : (l : Listed) (js : List Job) (i d : ℕ) (known : Node) (leaf : Leaf) (argument : ℕ) (s : State) → IsRight l i known → known.form ≡ forms.Leaf leaf
    → i < length l.nodes → argument < length l.nodes → AreJobs l js
    → ((leaf ≡ leaves.Bound d) × (s ≡ states.Up argument)) ⊎ ((put_at d (seen l argument) (leaf_term l.tables leaf) ≡ leaf_term l.tables leaf) × (s ≡ states.Up i))
    → IsNext l l (seen l argument) js (states.Down i d) js s
down_leaf l js i d known leaf argument s right is there within are (inl (variable, to)) =
    let term : seen l i ≡ Bound d = known_term l i known (forms.Leaf leaf) right is ∙ ap (leaf_term l.tables) variable in
    let here : nat_eq d d ≡ true = eq-eqb d d refl in
    let put : put_at d (seen l argument) (Bound d) ≡ seen l argument = rw here refl in
    subst (λ (x : State). IsNext l l (seen l argument) js (states.Down i d) js x) (sym to)
    (down_same l (seen l argument) js i argument d (ap (put_at d (seen l argument)) term ∙ put) within are)
down_leaf l js i d known leaf argument s right is there within are (inr (same, to)) =
    let term : seen l i ≡ leaf_term l.tables leaf = known_term l i known (forms.Leaf leaf) right is in
    subst (λ (x : State). IsNext l l (seen l argument) js (states.Down i d) js x) (sym to)
    (down_same l (seen l argument) js i i d (ap (put_at d (seen l argument)) term ∙ (same ∙ sym term)) there are)
