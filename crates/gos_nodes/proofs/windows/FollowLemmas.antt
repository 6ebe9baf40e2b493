-- What is open at the ports of a stage is what is open at those of the whole, but for the result.
use Rattle.std.specs.Prelude.{slice_get, Contains, nat_eq}
use Rattle.std.proofs.Common.{◌≡◌, ℕ, Bool, true, false, List, [], ◌∷◌, Some, refl, sym, ◌∙◌, ap, subst, arith, if◌then◌else◌}
use Rattle.gos_types.specs.declared.shakes.Role.TheVariants.{Ask}
use Rattle.gos_types.specs.Types.{IsDone}
use Rattle.gos_types.specs.Events.{Direction, Request, Answer}
use Rattle.gos_model.specs.Typing.{Imported}
use Rattle.gos_model.proofs.NumberLemmas.{nat_eq_itself}
use Rattle.gos_plan.specs.Kinds.{Contact}
use Rattle.gos_plan.specs.Plans.{End, ImportEnd, ResultEnd, Plan, contact_at, same_end}
use Rattle.gos_plan.proofs.JointLemmas.{same_is}
use Rattle.gos_realises.specs.realises.Regular.{Pass, pass, is_request, is_open, KeepsTurnsOf, ComesInTurn}
use Rattle.gos_joining.specs.webs.Cutting.{lies_at, StandsIn}
use Rattle.gos_joining.proofs.webs.CutLemmas.{place_there}
use Rattle.gos_sharing.proofs.buffers.BranchLemmas.{place_stands}
use Rattle.gos_nodes.specs.windows.Nodes.{Stage}
use Rattle.gos_nodes.specs.windows.Windows.{Runner}
use Rattle.gos_nodes.proofs.windows.InlayLemmas.{inlay, inlay_place}
use Rattle.gos_nodes.proofs.windows.MeetLemmas.{Meets, met_joined, HasPorts, AreFollowed, met_at, met_import, heard_meets, followed_pass, alike}
use Rattle.gos_nodes.proofs.windows.PortLemmas.{stands_place}
use Rattle.gos_nodes.proofs.windows.TurnLemmas.{Turned, import_kept, imports_turned, OnlyResult}
use Rattle.gos_nodes.proofs.windows.RunnerLemmas.{IsAskedStage, HasStages}
use Rattle.gos_nodes.proofs.windows.AskedLemmas.{OnlyAt, asked_turned}
use Rattle.gos_nodes.proofs.windows.StageLemmas.{stage, cut}

-- What passed a stage's ports, and the whole's: the whole's result is open, of the stage's result what is asked alone, and the open
-- handshakes of imports are the same.
pub record Follows (r : Plan) (runner : Runner) (g : Stage) (own past : List Pass) : Type 0 where
  pub result : is_open past (ResultEnd 0) ≡ true
  pub of_stage : is_open own (ResultEnd (runner.asked g)) ≡ true
  pub alone : OnlyAt (runner.asked g) own
  pub imports : AreFollowed r g.cut g.plan own past
  pub only :
      (k h : ℕ) → is_open past (ImportEnd k h) ≡ true
      → (i : ℕ) × Meets r g.cut g.plan i h × (g.cut.outer (ImportEnd i h) ≡ ImportEnd k h)

module _
    (r : Plan) (d : ℕ) (runner : Runner) (gs : List Stage) (node : HasStages r d runner gs) (g : Stage) (has : Contains gs g) where
  there : IsAskedStage r d runner g
  there = stage r d runner gs node g has

  pub has_ports : HasPorts r g.cut g.plan
  has_ports =
      record {
        right = there.region.right;
        whole_right = node.right;
        names = there.names;
        whole_names = node.names;
        ports = λ i h k stands at.
            let (q, at_q, same) = there.ports i h stands in
            let both : ImportEnd q h ≡ ImportEnd k h = sym at_q ∙ at in
            let one : q ≡ k = cc both in
            ap (slice_get r.imports) (sym one) ∙ same;
        joined = λ i h stands.
            let (a, named) = stands_place g.plan there.region.right (ImportEnd i h) stands in
            let laid = place_there g.cut (inlay g.cut r g.plan) g.plan (cut r d runner gs node g has) (ImportEnd i h) a named in
            place_stands r (g.cut.outer (ImportEnd i h)) (lies_at g.cut a)
            (inlay_place g.cut g.sides r g.plan there.region (g.cut.outer (ImportEnd i h)) (lies_at g.cut a) laid);
        heard = there.heard;
      }

  -- what stands in a joint leads to an import of the whole
  pub standing : (i h : ℕ) → StandsIn g.plan (ImportEnd i h) → Meets r g.cut g.plan i h
  standing i h stands = let (k, at, same) = there.ports i h stands in met_joined r g.cut g.plan i h k stands at

  pub follows_first : (past : List Pass) → OnlyResult past → Follows r runner g (pass (ResultEnd (runner.asked g)) Request ∷ []) past
  follows_first past (result, closed) =
      record {
        result = result;
        of_stage = ap (λ (b : Bool). if b then true else false) (nat_eq_itself (runner.asked g));
        alone = λ k up. by_test k (nat_eq (runner.asked g) k) refl up;
        imports = record { same = λ i h k meets at. sym (closed k h); met = λ i h up. absurd (cc up) };
        only = λ k h up. let clash : false ≡ true = sym (closed k h) ∙ up in absurd (cc clash);
      }
    where
      by_test : (k : ℕ) (b : Bool) → nat_eq (runner.asked g) k ≡ b → (if b then true else false) ≡ true → k ≡ runner.asked g
      by_test k true t up = grind (arith, t)
      by_test k false t up = absurd (cc up)

  follows_at : (own past : List Pass) → Follows r runner g own past → (i h k : ℕ) → Meets r g.cut g.plan i h → g.cut.outer (ImportEnd i h) ≡ ImportEnd k h → (way : Direction)
      → Follows r runner g (pass (ImportEnd i h) way ∷ own) (pass (ImportEnd k h) way ∷ past)
  follows_at own past follows i h k meets at way =
      record {
        result = follows.result;
        of_stage = follows.of_stage;
        alone = follows.alone;
        imports = followed_pass r g.cut g.plan has_ports own past follows.imports i h k meets at way;
        only = λ m n up. only m n (same_end (ImportEnd k h) (ImportEnd m n)) refl up;
      }
    where
      only : (m n : ℕ) (b : Bool) → same_end (ImportEnd k h) (ImportEnd m n) ≡ b → (if b then is_request way else is_open past (ImportEnd m n)) ≡ true
          → (j : ℕ) × Meets r g.cut g.plan j n × (g.cut.outer (ImportEnd j n) ≡ ImportEnd m n)
      only m n true t up =
          let is : ImportEnd k h ≡ ImportEnd m n = same_is (ImportEnd k h) (ImportEnd m n) t in
          let shake : h ≡ n = cc is in
          let both = subst (λ (x : ℕ). Meets r g.cut g.plan i x × (g.cut.outer (ImportEnd i x) ≡ ImportEnd m n)) shake (meets, at ∙ is) in
          (i, both.0, both.1)
      only m n false t up = follows.only m n up

  pub follows_step : (own past : List Pass) → Follows r runner g own past → (i h : ℕ) (b : End) → Meets r g.cut g.plan i h → g.cut.outer (ImportEnd i h) ≡ b → (way : Direction)
      → Follows r runner g (pass (ImportEnd i h) way ∷ own) (pass b way ∷ past)
  follows_step own past follows i h b meets at way =
      let (k, at_k, is) = met_at r g.cut g.plan has_ports i h meets in
      subst (λ (x : End). Follows r runner g (pass (ImportEnd i h) way ∷ own) (pass x way ∷ past)) (sym at_k ∙ at) (follows_at own past follows i h k meets at_k way)

  -- an end at which the surroundings ask, of an import that is open in the stage
  pub asked_meets : (own past : List Pass) → Follows r runner g own past → (k h n : ℕ) (c : Contact) → is_open past (ImportEnd k n) ≡ true
      → contact_at r (ImportEnd k h) ≡ Some c → c.role ≡ Ask → (i : ℕ) × Meets r g.cut g.plan i h × (g.cut.outer (ImportEnd i h) ≡ ImportEnd k h)
  asked_meets own past follows k h n c up at_k asks =
      let (i, meets, at) = follows.only k n up in
      let (here, there) = heard_meets r g.cut g.plan has_ports i n k h c meets at at_k asks in (i, here, there)

  -- So the turns of both are the same.
  module _ (own past : List Pass) (follows : Follows r runner g own past) where
    alike_there : (i h k : ℕ) → Meets r g.cut g.plan i h → g.cut.outer (ImportEnd i h) ≡ ImportEnd k h → (n : ℕ)
        → is_open own (ImportEnd i n) ≡ is_open past (ImportEnd k n)
    alike_there i h k meets at = alike r g.cut g.plan has_ports own past follows.imports i h k meets at (λ n up. follows.only k n up)

    pub stage_turned : Turned r past → Turned g.plan own
    stage_turned turned = asked_turned g.plan _ _ _ there.asked own follows.alone follows.of_stage kept
      where
        kept : (i h : ℕ) (x : Imported) → slice_get g.plan.imports i ≡ Some x → is_open own (ImportEnd i h) ≡ true → KeepsTurnsOf x.ty (λ n. is_open own (ImportEnd i n))
        kept i h x is up =
            let meets = follows.imports.met i h up in
            let (k, at, same) = met_at r g.cut g.plan has_ports i h meets in
            subst (KeepsTurnsOf x.ty) (λ l n. sym (alike_there i h k meets at n) l) (import_kept r past turned k x (same ∙ is))

    pub whole_turned : IsDone r.outcome → Turned g.plan own → Turned r past
    whole_turned done turned = imports_turned r done past kept (λ i h up. follows.result)
      where
        kept : (k h : ℕ) (x : Imported) → slice_get r.imports k ≡ Some x → is_open past (ImportEnd k h) ≡ true → KeepsTurnsOf x.ty (λ n. is_open past (ImportEnd k n))
        kept k h x is up =
            let (i, meets, at) = follows.only k h up in
            subst (KeepsTurnsOf x.ty) (λ l n. alike_there i h k meets at n l)
            (import_kept g.plan own turned i x (sym (met_import r g.cut g.plan has_ports i h k meets at) ∙ is))

    -- an input or an output comes in turn in both
    same_there : (i h : ℕ) (b : End) → Meets r g.cut g.plan i h → g.cut.outer (ImportEnd i h) ≡ b → is_open own (ImportEnd i h) ≡ is_open past b
    same_there i h b meets at =
        let (k, at_k, is) = met_at r g.cut g.plan has_ports i h meets in
        follows.imports.same i h k meets at_k ∙ ap (is_open past) (sym at_k ∙ at)

    pub comes_as : (i h : ℕ) (b : End) → Meets r g.cut g.plan i h → g.cut.outer (ImportEnd i h) ≡ b → (way : Direction) → ComesInTurn past b way
        → ComesInTurn own (ImportEnd i h) way
    comes_as i h b meets at Request turn = same_there i h b meets at ∙ turn
    comes_as i h b meets at Answer turn = same_there i h b meets at ∙ turn

    pub goes_as : (i h : ℕ) (b : End) → Meets r g.cut g.plan i h → g.cut.outer (ImportEnd i h) ≡ b → (way : Direction) → ComesInTurn own (ImportEnd i h) way
        → ComesInTurn past b way
    goes_as i h b meets at Request turn = sym (same_there i h b meets at) ∙ turn
    goes_as i h b meets at Answer turn = sym (same_there i h b meets at) ∙ turn

    pub imports_shut : ((k h : ℕ) → is_open past (ImportEnd k h) ≡ false) → (i h : ℕ) → is_open own (ImportEnd i h) ≡ false
    imports_shut closed i h = by_test (is_open own (ImportEnd i h)) refl
      where
        by_test : (b : Bool) → is_open own (ImportEnd i h) ≡ b → b ≡ false
        by_test false shut = refl
        by_test true up =
            let meets = follows.imports.met i h up in
            let (k, at, same) = met_at r g.cut g.plan has_ports i h meets in
            sym up ∙ (follows.imports.same i h k meets at ∙ closed k h)
