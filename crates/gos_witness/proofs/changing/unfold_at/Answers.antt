use Rattle.std.proofs.Common.{rules, ◌≡◌, ℕ, List, None, subst}
use Rattle.gos_model.specs.Terms.{Term}
use Rattle.gos_model.specs.Reach.{Rewrites}
use Rattle.gos_witness.specs.declared.walking.Zone.TheVariants as zones
use Rattle.gos_witness.specs.NodeLists.{seen}
use Rattle.gos_witness.specs.inner.Places.{part_at, IsPlace}
use Rattle.gos_witness.proofs.PlaceLemmas.{frames_keep}
use Rattle.gos_witness.proofs.ChangeLemmas.{changed, no_place, no_change}
use Rattle.gos_witness.proofs.changing.unfold_at.Goals as goal

pub returns-in_default-clause-outcome : goal.returns-in_default-clause-outcome
returns-in_default-clause-outcome c =
    let l = c.args.list.now in
    let none : part_at zones.Head c.steps.result.now (seen l c.args.root) ≡ None = search rules in
    let here = subst (λ (path : List ℕ). part_at zones.Head path (seen l c.args.root) ≡ None) c.steps.ensures.steps none in
    λ t h. no_place zones.Head (Rewrites) c.args.path.now (seen l c.args.root) t here h

pub returns-in_default-2-clause-outcome : goal.returns-in_default-2-clause-outcome
returns-in_default-2-clause-outcome c =
    let l = c.args.list.now in
    let place : IsPlace l c.args.root zones.Head c.steps.result.now c.in-Some.place = search rules in
    let here = subst (λ (path : List ℕ). IsPlace l c.args.root zones.Head path c.in-Some.place) c.steps.ensures.steps place in
    let never : (t : Term) → Rewrites (seen l c.in-Some.place.node) t → ⊥ = search rules in
    λ t h. no_change zones.Head (Rewrites) c.args.path.now (seen l c.args.root) (seen l c.in-Some.place.node) t here.part (never) h

pub rebuild-requires-clause-frames : goal.rebuild-requires-clause-frames
rebuild-requires-clause-frames c =
    let l = c.args.list.now in
    let place : IsPlace l c.args.root zones.Head c.steps.result.now c.in-Some.place = search rules in
    frames_keep l c.unfold.new.list c.in-Some.place.frames.items c.unfold.ensures.keeps place.frames

pub returns-clause-outcome : goal.returns-clause-outcome
returns-clause-outcome c =
    let l = c.args.list.now in
    let place : IsPlace l c.args.root zones.Head c.steps.result.now c.in-Some.place = search rules in
    let here = subst (λ (path : List ℕ). IsPlace l c.args.root zones.Head path c.in-Some.place) c.steps.ensures.steps place in
    let does : Rewrites (seen l c.in-Some.place.node) (seen c.unfold.new.list c.in-Some-2.next) = search rules in (
      c.in_ok-whole.ensures.there,
      changed zones.Head tt (Rewrites) c.args.path.now l c.unfold.new.list c.rebuild.new.list c.args.root c.in-Some-2.next c.in_ok-whole.whole
          c.in-Some.place here c.unfold.ensures.keeps does c.in_ok-whole.ensures.term,
    )
