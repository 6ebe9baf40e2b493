use Rattle.std.proofs.Common.{rules, ◌≡◌, ℕ, List, None, subst}
use Rattle.gos_model.specs.Terms.{Term}
use Rattle.gos_model.specs.Stores.{Store}
use Rattle.gos_witness.specs.inner.Rows.{entries_of, StepsTo}
use Rattle.gos_witness.specs.declared.walking.Zone.TheVariants as zones
use Rattle.gos_witness.specs.NodeLists.{seen}
use Rattle.gos_witness.specs.inner.Places.{part_at, IsPlace}
use Rattle.gos_witness.proofs.PlaceLemmas.{frames_keep}
use Rattle.gos_witness.proofs.ChangeLemmas.{changed, no_place, no_change}
use Rattle.gos_witness.proofs.changing.step_at.Goals as goal

pub returns-in_default-clause-outcome : goal.returns-in_default-clause-outcome
returns-in_default-clause-outcome c =
    let l = c.args.list.now in
    let none : part_at zones.Reached c.steps.result.now (seen l c.args.root) ≡ None = search rules in
    let here = subst (λ (path : List ℕ). part_at zones.Reached path (seen l c.args.root) ≡ None) c.steps.ensures.steps none in
    λ r t h. no_place zones.Reached (StepsTo (entries_of c.args.store.now.items) r) c.args.path.now (seen l c.args.root) t here h

pub returns-in_default-2-clause-outcome : goal.returns-in_default-2-clause-outcome
returns-in_default-2-clause-outcome c =
    let l = c.args.list.now in
    let place : IsPlace l c.args.root zones.Reached c.steps.result.now c.in-Some.place = search rules in
    let here = subst (λ (path : List ℕ). IsPlace l c.args.root zones.Reached path c.in-Some.place) c.steps.ensures.steps place in
    let never : (r : Store) (t : Term) → StepsTo (entries_of c.args.store.now.items) r (seen l c.in-Some.place.node) t → ⊥ = search rules in
    λ r t h. no_change zones.Reached (StepsTo (entries_of c.args.store.now.items) r) c.args.path.now (seen l c.args.root) (seen l c.in-Some.place.node) t here.part (never r) h

pub rebuild-requires-clause-frames : goal.rebuild-requires-clause-frames
rebuild-requires-clause-frames c =
    let l = c.args.list.now in
    let place : IsPlace l c.args.root zones.Reached c.steps.result.now c.in-Some.place = search rules in
    frames_keep l c.step.new.list c.in-Some.place.frames.items c.step.ensures.keeps place.frames

pub returns-clause-outcome : goal.returns-clause-outcome
returns-clause-outcome c =
    let l = c.args.list.now in
    let place : IsPlace l c.args.root zones.Reached c.steps.result.now c.in-Some.place = search rules in
    let here = subst (λ (path : List ℕ). IsPlace l c.args.root zones.Reached path c.in-Some.place) c.steps.ensures.steps place in
    let does : StepsTo (entries_of c.args.store.now.items) (entries_of c.step.new.store.items) (seen l c.in-Some.place.node) (seen c.step.new.list c.in-Some-2.next) = search rules in (
      c.in_ok-whole.ensures.there,
      changed zones.Reached tt (StepsTo (entries_of c.args.store.now.items) (entries_of c.step.new.store.items)) c.args.path.now l c.step.new.list c.rebuild.new.list c.args.root c.in-Some-2.next c.in_ok-whole.whole
          c.in-Some.place here c.step.ensures.keeps does c.in_ok-whole.ensures.term,
    )
