-- What is quiet in the whole: a stage that runs is quiet too, and the own part and the answer's output can go on.
use Rattle.std.specs.Prelude.{None, slice_get, Contains}
use Rattle.std.proofs.Common.{◌≡◌, ℕ, List, Option, Some, inl, inr, refl, sym, ◌∙◌, ap, subst}
use Rattle.gos_types.specs.Events.{Direction, Request, Answer}
use Rattle.gos_plan.specs.Kinds.{Part, Contact}
use Rattle.gos_plan.specs.Firing.{Phase, Slot, Req, Ans, Row, at, firing}
use Rattle.gos_plan.specs.Plans.{End, PartEnd, ImportEnd, ResultEnd, Plan, contact_at}
use Rattle.gos_plan.specs.Tokens.{Tokens, Fire, Out, IsPortEnd, token_at, with_token, end_of, way_of, way_taken, fired, firing_of, Passes, Does, IsQuiet}
use Rattle.gos_plan.proofs.ElementLemmas.{firing_part}
use Rattle.gos_realises.proofs.realises.InputLemmas.{out_there}
use Rattle.gos_joining.specs.webs.Cutting.{StandsIn}
use Rattle.gos_nodes.specs.windows.Nodes.{Stage}
use Rattle.gos_nodes.specs.windows.Windows.{Runner, seen, HoldsOnly, StirsOnly}
use Rattle.gos_nodes.proofs.windows.PortLemmas.{port_end, result_there}
use Rattle.gos_nodes.proofs.windows.RunnerLemmas.{IsAskedStage, RunsStages}
use Rattle.gos_nodes.proofs.windows.AskedLemmas.{ground_port}
use Rattle.gos_nodes.proofs.windows.StageLemmas.{stage}
use Rattle.gos_nodes.proofs.windows.LiftLemmas.{held_whole, stage_stands, fires_whole}

module _
    (r : Plan) (d : ℕ) (runner : Runner) (gs : List Stage) (node : RunsStages r d runner gs) (g : Stage) (has : Contains gs g) (s : Tokens)
    (stirs : StirsOnly d runner g s) (quiet : IsQuiet r s) where
  fires_not : (j : ℕ) (t : Slot) (w : Tokens) → Does g.plan (Fire j t) (seen g s) w → ⊥
  fires_not j t w (v, row, held, by, leads) =
      let part = firing_part (slice_get g.plan.parts j) ((seen g s).state j) t row by in
      quiet.0 (g.cut.part j) t (fired r (g.cut.part j) row v s)
      (v, row, held_whole r d runner gs node.base g has s (end_of j t) part (way_of t) v held, fires_whole r d runner gs node.base g has s j t row by, refl)

  answer_not : (v : ℕ) → token_at g.plan (seen g s) (ResultEnd (runner.asked g)) Answer ≡ Some v → ⊥
  answer_not v held =
      quiet.0 d (Ans g.asked_at) (fired r d takes.0 v s) (v, takes.0, at_own, ap (λ (o : Option Part). firing_of o (s.state d) (Ans g.asked_at)) node.base.own ∙ takes.1, refl)
    where
      stands : StandsIn g.plan (ResultEnd (runner.asked g))
      stands = stage_stands r d runner gs node.base g has s (ResultEnd (runner.asked g)) Answer v held

      at_own : token_at r s (PartEnd d g.asked_at) Answer ≡ Some v
      at_own = ap (λ (e : End). token_at r s e Answer) (sym ((stage r d runner gs node.base g has).run_by stands)) ∙ held_whole r d runner gs node.base g has s (ResultEnd (runner.asked g)) stands Answer v held

      takes : (row : Row) × (firing runner.part (s.state d) (Ans g.asked_at) ≡ Some row)
      takes = node.table.takes_answer (s.state d) g.asked_at stirs.session

  outs_not : (e : End) (v : ℕ) (w : Tokens) → Does g.plan (Out e v) (seen g s) w → ⊥
  outs_not e v w does =
      elim (ground_port g.plan here.asked.ground e there.0 does.0 there.1) [
        | inl result ↦
            (let at_end : token_at g.plan (seen g s) (ResultEnd result.0) Answer ≡ Some v =
            ap (λ (x : End). token_at g.plan (seen g s) x Answer) (sym result.1)
            ∙ (ap (λ (x : Direction). token_at g.plan (seen g s) e x) (sym (ap way_taken result.2)) ∙ held) in
            let same : result.0 ≡ runner.asked g = here.only result.0 (stage_stands r d runner gs node.base g has s (ResultEnd result.0) Answer v at_end) in
            answer_not v (subst (λ (h : ℕ). token_at g.plan (seen g s) (ResultEnd h) Answer ≡ Some v) same at_end))
        | inr import ↦ at_import import.0 import.1 import.2
      ]
    where
      here : IsAskedStage r d runner g
      here = stage r d runner gs node.base g has

      there : (c : Contact) × (contact_at g.plan e ≡ Some c)
      there = out_there g.plan e v (seen g s) w does

      held : token_at g.plan (seen g s) e (way_taken there.0.role) ≡ Some v
      held = (subst (λ (o : Option Contact). Passes g.plan (Out e v) o (seen g s) w) there.1 does.1).0

      at_import : (i h : ℕ) → e ≡ ImportEnd i h → ⊥
      at_import i h is =
          quiet.1 (g.cut.outer (ImportEnd i h)) v (with_token r (g.cut.outer (ImportEnd i h)) (way_taken there.0.role) None s) (
            subst (λ (x : End). IsPortEnd x) (sym port.1) tt,
            subst (λ (o : Option Contact). Passes r (Out (g.cut.outer (ImportEnd i h)) v) o s (with_token r (g.cut.outer (ImportEnd i h)) (way_taken there.0.role) None s)) (sym whole)
                (held_whole r d runner gs node.base g has s (ImportEnd i h) stands (way_taken there.0.role) v here, refl),
          )
        where
          here : token_at g.plan (seen g s) (ImportEnd i h) (way_taken there.0.role) ≡ Some v
          here = ap (λ (x : End). token_at g.plan (seen g s) x (way_taken there.0.role)) (sym is) ∙ held

          stands : StandsIn g.plan (ImportEnd i h)
          stands = stage_stands r d runner gs node.base g has s (ImportEnd i h) (way_taken there.0.role) v here

          port : (k : ℕ) × (g.cut.outer (ImportEnd i h) ≡ ImportEnd k h) × (slice_get r.imports k ≡ slice_get g.plan.imports i)
          port = (stage r d runner gs node.base g has).ports i h stands

          whole : contact_at r (g.cut.outer (ImportEnd i h)) ≡ Some there.0
          whole = (stage r d runner gs node.base g has).region.contacts (ImportEnd i h) tt stands ∙ (ap (contact_at g.plan) (sym is) ∙ there.1)

pub stage_is_quiet : (r : Plan) (d : ℕ) (runner : Runner) (gs : List Stage) (g : Stage) (s : Tokens) → RunsStages r d runner gs → Contains gs g → StirsOnly d runner g s
    → IsQuiet r s → IsQuiet g.plan (seen g s)
stage_is_quiet r d runner gs g s node has stirs quiet = (fires_not r d runner gs node g has s stirs quiet, outs_not r d runner gs node g has s stirs quiet)

-- the own part, and the answer
pub part_can : (r : Plan) (d : ℕ) (runner : Runner) (gs : List Stage) (s : Tokens) → RunsStages r d runner gs
    → (HoldsOnly r (PartEnd d runner.run) Request 0 s → IsQuiet r s → ⊥) × ((v : ℕ) → HoldsOnly r (ResultEnd 0) Answer v s → IsQuiet r s → ⊥)
part_can r d runner gs s node = (own_fires, goes_out)
  where
    own_fires : HoldsOnly r (PartEnd d runner.run) Request 0 s → IsQuiet r s → ⊥
    own_fires holds quiet =
        let takes = node.table.takes_request (s.state d).number in
        let by = ap (λ (p : Phase). firing runner.part (at p (s.state d).number) (Req runner.run)) (holds.states d) ∙ takes.1 in
        quiet.0 d (Req runner.run) (fired r d takes.0 0 s)
        (0, takes.0, holds.held, ap (λ (o : Option Part). firing_of o (s.state d) (Req runner.run)) node.base.own ∙ by, refl)

    goes_out : (v : ℕ) → HoldsOnly r (ResultEnd 0) Answer v s → IsQuiet r s → ⊥
    goes_out v holds quiet = by_contact (contact_at r (ResultEnd 0)) refl
      where
        by_contact : (o : Option Contact) → contact_at r (ResultEnd 0) ≡ o → ⊥
        by_contact None none = result_there r.outcome node.done none
        by_contact (Some c) there =
            elim (port_end r node.done (ResultEnd 0) c tt there) [
              | inl result ↦
                  quiet.1 (ResultEnd 0) v (with_token r (ResultEnd 0) (way_taken c.role) None s) (
                    tt,
                    subst (λ (o : Option Contact). Passes r (Out (ResultEnd 0) v) o s (with_token r (ResultEnd 0) (way_taken c.role) None s)) (sym there)
                        (ap (λ (x : Direction). token_at r s (ResultEnd 0) x) (ap way_taken result.1) ∙ holds.held, refl),
                  )
              | inr import ↦ (let clash : ResultEnd 0 ≡ ImportEnd import.0 import.1 = import.2 in cc clash)
            ]
