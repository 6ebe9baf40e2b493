-- A child of a node that may share supplies with others is an open stage of it, where its own node is regular and rests.
use Rattle.std.specs.Prelude.{All}
use Rattle.std.proofs.Common.{◌≡◌, ℕ, ◌∷◌, [], List}
use Rattle.gos_types.specs.Types.{IsDone}
use Rattle.gos_plan.specs.Kinds.{Part}
use Rattle.gos_plan.specs.Plans.{Plan}
use Rattle.gos_plan.specs.TokenBits.{LiteralFits}
use Rattle.gos_realises.specs.realises.Realises.{NamesDiffer}
use Rattle.gos_joining.specs.webs.Webs.{Tie, IsOfWeb}
use Rattle.gos_nodes.specs.windows.OpenNodes.{IsOpenStage}
use Rattle.gos_terms.specs.wired.Wired.{Placing, dot_at}
use Rattle.gos_terms.specs.wired.Regular.{AreRegular, RegularWired}
use Rattle.gos_terms.specs.stages.Inside.{AreOrdered}
use Rattle.gos_terms.specs.stages.Folding.{AtOwn, Child, IsChild, IsLaid}
use Rattle.gos_terms.specs.stages.Regions.{HasParts, IsStaged}
use Rattle.gos_terms.specs.stages.Stages.{stage_of}
use Rattle.gos_terms.proofs.stages.LoyalLemmas.{servings_are_loyal}
use Rattle.gos_terms.proofs.stages.StageLemmas.{child_is_stage}
use Rattle.gos_terms.proofs.stages.ChildNameLemmas.{names_below}
use Rattle.gos_terms.proofs.stages.ChildImportLemmas as hearing
use Rattle.gos_terms.proofs.regular_and_resting.RestLemmas.{rests_after_answers}

module _ (f : Child) (own : List Part) (ts : List Tie) (pl plc : Placing) (r c : Plan) (is : IsChild f ts) (parts : HasParts f own r.outcome)
    (laid : IsLaid own f.numbers f.env pl r) (staged : IsStaged f pl plc r c) (web : IsOfWeb (record { ties = ts; at = dot_at f.first pl }) r) where
  ordered : AreRegular f.types f.env f.numbers → AreOrdered f.env f.numbers
  ordered all n has = let one = all n has in record { literals = one.literals; regular = one.regular }

  -- So it is a stage of the node.
  pub child_is_open_stage : (h : ℕ) → f.out ≡ AtOwn h ∷ [] → IsDone c.outcome → RegularWired f.types f.uses f.term → AreRegular f.types f.env f.numbers
      → NamesDiffer r.imports → All LiteralFits r.parts → IsOpenStage r (pl.own f.own) (stage_of f pl plc r c)
  child_is_open_stage h leads done steady all differ fit =
      let (regular, rests) = hearing.child_is_steady f own ts pl plc r c is parts laid staged web steady all differ fit in
      let names = names_below f own ts pl plc r c is laid staged.wired differ in
      record {
        stage =
            child_is_stage f own ts pl plc r c h is leads parts laid staged done regular (rests_after_answers c done regular rests) names
            (servings_are_loyal f own ts pl plc r c is parts laid staged (ordered all));
        heard = hearing.child_is_heard f own ts pl plc r c is parts laid staged web names;
      }
