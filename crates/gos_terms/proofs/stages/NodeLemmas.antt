-- Stages that cover a wired node make it a node.
use Rattle.std.specs.Prelude.{◌⊎◌, length, map, slice_get, Contains}
use Rattle.std.proofs.Common.{◌≡◌, ℕ, true, List, [], Some, inl, inr, refl, sym, ◌∙◌, ap, subst}
use Rattle.gos_plan.specs.Kinds.{asks, Part}
use Rattle.gos_plan.specs.Plans.{End, PartEnd, ImportEnd, ResultEnd, Joint, Plan, stands_in}
use Rattle.gos_plan.proofs.JointLemmas.{fits, one_joint, contained}
use Rattle.gos_joining.specs.webs.Webs.{Dot, Tie, Web, IsOfWeb, joint}
use Rattle.gos_joining.specs.webs.Cutting.{lies_at}
use Rattle.gos_joining.proofs.webs.WebLemmas.{asks_there, serves_there}
use Rattle.gos_joining.proofs.unions.UnionLemmas.{of_image, in_image}
use Rattle.gos_nodes.specs.sessions.Sessions.{Form, own_part, run_shake}
use Rattle.gos_nodes.specs.windows.Nodes.{Stage, IsOfStage}
use Rattle.gos_nodes.specs.windows.OpenNodes.{IsOpenStage}
use Rattle.gos_nodes.specs.folds.Folds.{IsFold}
use Rattle.gos_nodes.proofs.folds.RegionLemmas.{folded_joint}
use Rattle.gos_terms.specs.wired.Wired.{Placing, dot_at}
use Rattle.gos_terms.specs.stages.Folding.{asked, child_web, child_back, child_fold, child_cut, child_servings}
use Rattle.gos_terms.specs.stages.Nodes.{Cared, stage, IsCared, AreCovering, StagesMakeNode}
use Rattle.gos_terms.proofs.stages.ChildFoldLemmas.{child_is_folded}
use Rattle.gos_terms.proofs.stages.StageLemmas.{has_child_of, laid_of, web_of}
use Rattle.gos_terms.proofs.stages.ChildImportLemmas.{child_is_heard}

module _ (f : Form) (own : List Part) (ts : List Tie) (first : ℕ) (pl : Placing) (r : Plan) (d : ℕ) (es : List Cared)
    (web : IsOfWeb (record { ties = ts; at = dot_at first pl }) r)
    (result : Contains r.joints (joint (ResultEnd 0) (PartEnd d (run_shake (own_part f))))) (cared : (e : Cared) → Contains es e → IsCared own ts first pl r d e)
    (covers : AreCovering f first pl r d es) where
  abbrev whole : ℕ → Web
  whole n = record { ties = ts; at = dot_at n pl }

  fold_of : (e : Cared) → Contains es e → IsFold (child_fold e.child pl e.placing (length r.parts)) (child_servings e.child pl) (whole e.child.first) (child_web e.child e.placing) r e.plan
  fold_of e listed =
      let it = cared e listed in
      child_is_folded e.child own ts pl e.placing r e.plan it.child (has_child_of e.child own pl e.placing r e.plan it.parts it.staged) it.laid (laid_of e.child pl e.placing r e.plan it.staged)
      (subst (λ (n : ℕ). IsOfWeb (whole n) r) (sym it.begins) web)

  abbrev Stages : List Stage
  Stages = map (stage pl r) es

  -- a joint one of whose ends a child has
  of_child : (a b : End) → Contains r.joints (joint a b) → (e : Cared) (x : Dot) → Contains es e
      → (child_back e.child (dot_at first pl a) ≡ Some x) ⊎ (child_back e.child (dot_at first pl b) ≡ Some x) → IsOfStage Stages a b
  of_child a b has e x listed side =
      let it = cared e listed in
      let (y, z, there, one, other) =
      folded_joint (child_fold e.child pl e.placing (length r.parts)) (child_servings e.child pl) (whole e.child.first) (child_web e.child e.placing) r e.plan a b x
      (fold_of e listed) (web_of e.child pl e.placing r e.plan it.staged) has (turned side)
      in
      (stage pl r e, y, z, in_image (stage pl r) es e listed, there, lying y ∙ one, lying z ∙ other)
    where
      turned : (child_back e.child (dot_at first pl a) ≡ Some x) ⊎ (child_back e.child (dot_at first pl b) ≡ Some x)
          → (child_back e.child (dot_at e.child.first pl a) ≡ Some x) ⊎ (child_back e.child (dot_at e.child.first pl b) ≡ Some x)
      turned (inl e') = inl (ap (λ (n : ℕ). child_back e.child (dot_at n pl a)) (cared e listed).begins ∙ e')
      turned (inr e') = inr (ap (λ (n : ℕ). child_back e.child (dot_at n pl b)) (cared e listed).begins ∙ e')

      lying : (y : End) → lies_at (stage pl r e).cut y ≡ lies_at (child_cut e.child pl e.placing (length r.parts)) y
      lying (PartEnd i h) = refl
      lying (ImportEnd i h) = refl
      lying (ResultEnd h) = refl

  -- the joint at which the node is run
  is_run : (a b : End) → Contains r.joints (joint a b) → (e : End) → stands_in e (joint a b) ≡ true
      → stands_in e (joint (ResultEnd 0) (PartEnd d (run_shake (own_part f)))) ≡ true
      → (a ≡ ResultEnd 0) × (b ≡ PartEnd d (run_shake (own_part f)))
  is_run a b has e one other =
      let same = one_joint r [] r.joints (joint a b) (joint (ResultEnd 0) (PartEnd d (run_shake (own_part f)))) e web.right (contained r.joints (joint a b) has)
      (contained r.joints (joint (ResultEnd 0) (PartEnd d (run_shake (own_part f)))) result) one other
      in
      (ap (λ (j : Joint). j.asking) same, ap (λ (j : Joint). j.serving) same)

  pub joints_so : (a b : End) → Contains r.joints (joint a b)
      → ((a ≡ ResultEnd 0) × (b ≡ PartEnd d (run_shake (own_part f)))) ⊎ IsOfStage Stages a b
  joints_so a b has =
      let fit = fits r [] r.joints (joint a b) web.right (contained r.joints (joint a b) has) in
      elim (covers.ends a (asks fit.0 fit.1) fit.2) [
        | inl result ↦
            inl (is_run a b has a (asks_there a b)
            (subst (λ (x : End). stands_in x (joint (ResultEnd 0) (PartEnd d (run_shake (own_part f)))) ≡ true) (sym result)
            (asks_there (ResultEnd 0) (PartEnd d (run_shake (own_part f))))))
        | inr more ↦
            elim more [
              | inl asked ↦
                  inl (is_run a b has a (asks_there a b)
                  (subst (λ (x : End). stands_in x (joint (ResultEnd 0) (PartEnd d (run_shake (own_part f)))) ≡ true) (sym asked)
                  (serves_there (ResultEnd 0) (PartEnd d (run_shake (own_part f))))))
              | inr child ↦ (let (e, x, listed, back) = child in inr (of_child a b has e x listed (inl back)))
            ]
      ]

  -- one stage for each child, and each part is a stage's
  pub ones : ((e b : Cared) → Contains es e → Contains es b → asked e.child ≡ asked b.child → e ≡ b) → (g b : Stage) → Contains Stages g → Contains Stages b
      → g.asked_at ≡ b.asked_at → g ≡ b
  ones one g b has also same =
      let (e, listed, at_g) = of_image (stage pl r) es g has in
      let (c, known, at_b) = of_image (stage pl r) es b also in
      let shakes : asked e.child ≡ asked c.child = ap (λ (x : Stage). x.asked_at) at_g ∙ (same ∙ ap (λ (x : Stage). x.asked_at) (sym at_b)) in
      sym at_g ∙ (ap (stage pl r) (one e c listed known shakes) ∙ at_b)

  pub parts_so : (i : ℕ) (k : Part) → slice_get r.parts i ≡ Some k → (i ≡ d) ⊎ ((g : Stage) × (j : ℕ) × Contains Stages g × (g.cut.number i ≡ Some j))
  parts_so i k at =
      elim (covers.parts i k at) [
        | inl own ↦ inl own
        | inr child ↦ (let (e, j, listed, number) = child in inr (stage pl r e, j, in_image (stage pl r) es e listed, number))
      ]

pub stages_make_node : StagesMakeNode
stages_make_node f own ts first pl r d es web formed cared covers one staged =
    record {
      right = web.right;
      own = formed.own;
      outcome = formed.outcome;
      done = formed.done;
      literals = formed.literals;
      names = formed.names;
      stages = stages;
      one = ones f own ts first pl r d es web formed.result cared covers one;
      staged =
          λ p n s e.
          let (c, listed, at, ty) = staged p n s e in (stage pl r c, in_image (stage pl r) es c listed, at, ty);
      result = formed.result;
      joints = joints_so f own ts first pl r d es web formed.result cared covers;
      parts = parts_so f own ts first pl r d es web formed.result cared covers;
    }
  where
    -- a child is asked where an import of it asks
    of_cared : (e : Cared) → IsCared own ts first pl r d e → IsOpenStage r d (stage pl r e)
    of_cared e it =
        record {
          stage = it.stage;
          heard =
              child_is_heard e.child own ts pl e.placing r e.plan it.child it.parts it.laid it.staged
              (subst (λ (n : ℕ). IsOfWeb (record { ties = ts; at = dot_at n pl }) r) (sym it.begins) web) it.stage.names;
        }

    stages : (g : Stage) → Contains (map (stage pl r) es) g → IsOpenStage r d g
    stages g has = let (e, listed, same) = of_image (stage pl r) es g has in subst (IsOpenStage r d) same (of_cared e (cared e listed))
