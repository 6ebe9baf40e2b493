use Rattle.std.proofs.Common.{◌++◌, ◌∷◌, [], List, refl, sym, subst, arith}
use Rattle.std.specs.Prelude.{IfOk}
use Rattle.gos_model.specs.Terms.{Term}
use Rattle.gos_witness.specs.declared.nodes.Form.TheVariants as forms
use Rattle.gos_witness.specs.declared.putting.Job.{Job}
use Rattle.gos_witness.specs.declared.putting.Job.TheVariants as jobs
use Rattle.gos_witness.specs.declared.putting.State.TheVariants as states
use Rattle.gos_witness.specs.inner.Jobs.{FitsJob, IsNext}
use Rattle.gos_witness.proofs.NextLemmas.{moved, up_made}
use Rattle.gos_witness.proofs.putting.up.Goals as goal

pub returns-in-One-clause-next : goal.returns-in-One-clause-next
returns-in-One-clause-next c =
    let l = c.args.list.now in
    let js = c.args.jobs.now.items in
    subst (λ (j : Job). IfOk c.made.result (λ next. (n : Term) → IsNext l c.made.new.list n (js ++ j ∷ []) (states.Up c.args.part) js next)) (sym c.in-One.is)
    (up_made l c.made.new.list js (jobs.One c.in-One.one) c.args.part (forms.One c.in-One.one c.args.part) c.made.result c.made.ensures.keeps c.requires.jobs (λ n. refl) (omega arith)
    c.made.ensures.made)

pub returns-in-Second-clause-next : goal.returns-in-Second-clause-next
returns-in-Second-clause-next c =
    let l = c.args.list.now in
    let js = c.args.jobs.now.items in
    subst (λ (j : Job). IfOk c.made-in-Second.result (λ next. (n : Term) → IsNext l c.made-in-Second.new.list n (js ++ j ∷ []) (states.Up c.args.part) js next)) (sym c.in-Second.is)
    (up_made l c.made-in-Second.new.list js (jobs.Second c.in-Second.two c.in-Second.a) c.args.part (forms.Two c.in-Second.two c.in-Second.a c.args.part) c.made-in-Second.result c.made-in-Second.ensures.keeps c.requires.jobs (λ n. refl) (omega arith)
    c.made-in-Second.ensures.made)

pub returns-in-No-clause-next : goal.returns-in-No-clause-next
returns-in-No-clause-next c =
    let l = c.args.list.now in
    let js = c.args.jobs.now.items in
    subst (λ (j : Job). IfOk c.made-in-No.result (λ next. (n : Term) → IsNext l c.made-in-No.new.list n (js ++ j ∷ []) (states.Up c.args.part) js next)) (sym c.in-No.is)
    (up_made l c.made-in-No.new.list js (jobs.No c.in-No.a c.in-No.b) c.args.part (forms.If c.in-No.a c.in-No.b c.args.part) c.made-in-No.result c.made-in-No.ensures.keeps c.requires.jobs (λ n. refl) (omega arith)
    c.made-in-No.ensures.made)

pub returns-in_ok-push-in-First-clause-next : goal.returns-in_ok-push-in-First-clause-next
returns-in_ok-push-in-First-clause-next c = λ n.
    let l = c.args.list.now in
    let js = c.args.jobs.now.items in
    let known : FitsJob l (jobs.First c.in-First.two c.in-First.b c.in-First.depth) = subst (λ (j : Job). FitsJob l j) c.in-First.is c.requires.job in
    subst (λ (more : List Job). IsNext l l n (js ++ c.args.job ∷ []) (states.Up c.args.part) more (states.Down c.in-First.b c.in-First.depth)) (sym c.in_ok-push-in-First.ensures.items)
    (subst (λ (j : Job). IsNext l l n (js ++ j ∷ []) (states.Up c.args.part) (js ++ jobs.Second c.in-First.two c.args.part ∷ []) (states.Down c.in-First.b c.in-First.depth)) (sym c.in-First.is)
    (moved l n js (jobs.First c.in-First.two c.in-First.b c.in-First.depth) (jobs.Second c.in-First.two c.args.part) (states.Up c.args.part) (states.Down c.in-First.b c.in-First.depth) c.requires.jobs c.requires.part known refl (omega arith)))

pub returns-in_ok-push-in-Test-clause-next : goal.returns-in_ok-push-in-Test-clause-next
returns-in_ok-push-in-Test-clause-next c = λ n.
    let l = c.args.list.now in
    let js = c.args.jobs.now.items in
    let known : FitsJob l (jobs.Test c.in-Test.b c.in-Test.c c.in-Test.depth) = subst (λ (j : Job). FitsJob l j) c.in-Test.is c.requires.job in
    subst (λ (more : List Job). IsNext l l n (js ++ c.args.job ∷ []) (states.Up c.args.part) more (states.Down c.in-Test.b c.in-Test.depth)) (sym c.in_ok-push-in-Test.ensures.items)
    (subst (λ (j : Job). IsNext l l n (js ++ j ∷ []) (states.Up c.args.part) (js ++ jobs.Yes c.args.part c.in-Test.c c.in-Test.depth ∷ []) (states.Down c.in-Test.b c.in-Test.depth)) (sym c.in-Test.is)
    (moved l n js (jobs.Test c.in-Test.b c.in-Test.c c.in-Test.depth) (jobs.Yes c.args.part c.in-Test.c c.in-Test.depth) (states.Up c.args.part) (states.Down c.in-Test.b c.in-Test.depth) c.requires.jobs (c.requires.part, known.1) known.0 refl (omega arith)))

pub returns-in_ok-push-in-Yes-clause-next : goal.returns-in_ok-push-in-Yes-clause-next
returns-in_ok-push-in-Yes-clause-next c = λ n.
    let l = c.args.list.now in
    let js = c.args.jobs.now.items in
    let known : FitsJob l (jobs.Yes c.in-Yes.a c.in-Yes.c c.in-Yes.depth) = subst (λ (j : Job). FitsJob l j) c.in-Yes.is c.requires.job in
    subst (λ (more : List Job). IsNext l l n (js ++ c.args.job ∷ []) (states.Up c.args.part) more (states.Down c.in-Yes.c c.in-Yes.depth)) (sym c.in_ok-push-in-Yes.ensures.items)
    (subst (λ (j : Job). IsNext l l n (js ++ j ∷ []) (states.Up c.args.part) (js ++ jobs.No c.in-Yes.a c.args.part ∷ []) (states.Down c.in-Yes.c c.in-Yes.depth)) (sym c.in-Yes.is)
    (moved l n js (jobs.Yes c.in-Yes.a c.in-Yes.c c.in-Yes.depth) (jobs.No c.in-Yes.a c.args.part) (states.Up c.args.part) (states.Down c.in-Yes.c c.in-Yes.depth) c.requires.jobs (known.0, c.requires.part) known.1 refl (omega arith)))
