-- The outputs of a whole that runs stages keep turns, and it rests after its answer.
use Rattle.std.specs.Prelude.{Contains}
use Rattle.std.proofs.Common.{◌≡◌, ℕ, List, [], ◌∷◌, ◌++◌, ◌⊎◌, inl, inr, refl, sym, ◌∙◌, ap, subst}
use Rattle.gos_types.specs.Events.{Direction, Answer}
use Rattle.gos_plan.specs.Firing.{Row, Req, Ans}
use Rattle.gos_plan.specs.Plans.{End, ImportEnd, ResultEnd, Plan, contact_at}
use Rattle.gos_plan.specs.Tokens.{Tokens, Element, Fire, Out, In, Does, Runs, IsIdle}
use Rattle.gos_plan.specs.TokenBits.{AllFit}
use Rattle.gos_plan.proofs.TokenBitsLemmas.{idle_fits}
use Rattle.gos_realises.specs.realises.Regular.{Pass, pass, way_out, ComesInTurn, KeepsTurns, InputsKeepTurns, OutputsKeepTurns}
use Rattle.gos_realises.proofs.realises.InputLemmas.{passed, InputTurns, first_turn, later_turns}
use Rattle.gos_realises.proofs.realises.RingLemmas.{after}
use Rattle.gos_joining.specs.webs.Cutting.{StandsIn}
use Rattle.gos_nodes.specs.windows.Nodes.{Stage, IsRestful, OutputsInTurn}
use Rattle.gos_nodes.specs.windows.Windows.{Runner, seen}
use Rattle.gos_nodes.proofs.windows.TurnLemmas.{result_out, OnlyResult, closed_turned}
use Rattle.gos_nodes.proofs.windows.NodeLemmas.{Place, AtRest, AtAsked, AtStage, AtAnswer, Holds, rest_step, asked_step, answer_step}
use Rattle.gos_nodes.proofs.windows.RunnerLemmas.{RunsStages, AreRestful}
use Rattle.gos_nodes.proofs.windows.OneSessionLemmas.{then_one}
use Rattle.gos_nodes.proofs.windows.StageLemmas.{stage, InStage, out_in}
use Rattle.gos_nodes.proofs.windows.FollowLemmas.{has_ports, standing, whole_turned, goes_as}
use Rattle.gos_nodes.proofs.windows.MeetLemmas.{met_contacts}
use Rattle.gos_nodes.proofs.windows.WholeLemmas as whole
use Rattle.gos_nodes.proofs.windows.WholeLemmas.{done, Going, Led, asks}
use Rattle.gos_nodes.proofs.windows.WindowLemmas.{StageStep, OwnStep, stage_step, stage_out_turned, fit_after}

-- an output of the element keeps turns
abbrev OutTurn : Plan → List Pass → Element → Type 0
OutTurn p past (Fire i t) = Unit {0}
OutTurn p past (Out e v) = KeepsTurns p past (pass e (way_out (contact_at p e)))
OutTurn p past (In e v) = Unit {0}

outputs_before : (p : Plan) (past : List Pass) (x : Element) (xs : List Element) → OutTurn p past x → OutputsKeepTurns p (after p x past) xs → OutputsKeepTurns p past (x ∷ xs)
outputs_before p past (Fire i t) xs one others = others
outputs_before p past (Out e v) xs one others = (one, others)
outputs_before p past (In e v) xs one others = others

module _ (r : Plan) (d : ℕ) (runner : Runner) (gs : List Stage) (node : RunsStages r d runner gs) (restful : AreRestful runner gs) where
  -- where the whole is after an element
  pub record Next (t : Tokens) (past : List Pass) : Type 0 where
    pub place : Place gs
    pub holds : Holds r d runner gs node place t past

  after_led : (row : Row) (v : ℕ) (t : Tokens) (past : List Pass) → Led r d runner gs node row v t past → Next t past
  after_led row v t past (asks g has n before fits going does puts) = record { place = AtStage g has (In (ResultEnd (runner.asked g)) n ∷ []) before; holds = going }
  after_led row v t past (whole.replies k holding only puts) = record { place = AtAnswer k; holds = (holding, only) }

  pub next : (pl : Place gs) (x : Element) (s t : Tokens) (past : List Pass) → AllFit r s → Holds r d runner gs node pl s past → Does r x s t → InputTurns r past x
      → Next t (after r x past)
  next AtRest x s t past fit (idle, closed) does turn =
      let (is, holding, only) = rest_step r d runner gs node x s t past idle closed does turn in record { place = AtAsked; holds = (holding, only) }
  next AtAsked x s t past fit (holding, only) does turn =
      let step = asked_step r d runner gs node x s t past holding only does turn in after_led step.row 0 t (after r x past) step.led
  next (AtStage g has hs before) x s t past fit going does turn = of_step (stage_step r d runner gs node restful g has hs before s t past going fit x does turn)
    where
      of_step : StageStep r d runner gs node restful g has hs before s t (after r x past) x ⊎ OwnStep r d runner gs node restful g has hs before s t (after r x past) x → Next t (after r x past)
      of_step (inl step) = record { place = AtStage g has (hs ++ step.y ∷ []) before; holds = step.going }
      of_step (inr step) = after_led step.row step.v t (after r x past) step.led
  next (AtAnswer k) x s t past fit (holding, only) does turn =
      let (is, idle, closed) = answer_step r d runner gs node k x s t past holding only does turn in record { place = AtRest; holds = (idle, closed) }

  pub reached : (xs : List Element) (x : Element) (pl : Place gs) (s t : Tokens) (past : List Pass) → AllFit r s → Holds r d runner gs node pl s past → Runs r (xs ++ x ∷ []) s t
      → InputsKeepTurns r past (xs ++ x ∷ [])
      → (w : Tokens) × (now : Place gs) × (gone : List Pass) × AllFit r w × Holds r d runner gs node now w gone × Does r x w t × InputTurns r gone x
  reached [] x pl s t past fit holding (w, does, is) turns =
      (s, pl, past, fit, holding, subst (λ (y : Tokens). Does r x s y) (sym is) does, first_turn r past x [] turns)
  reached (y ∷ ys) x pl s t past fit holding (w, does, runs) turns =
      let now = next pl y s w past fit holding does (first_turn r past y (ys ++ x ∷ []) turns) in
      reached ys x now.place w t (after r y past) (fit_after r d runner gs node restful y s w fit does) now.holds runs (later_turns r past y (ys ++ x ∷ []) turns)

  -- the answer leads to rest
  rests_after : (v : ℕ) (pl : Place gs) (s t : Tokens) (past : List Pass) → AllFit r s → Holds r d runner gs node pl s past → Does r (Out (ResultEnd 0) v) s t → IsIdle r t
  rests_after v AtRest s t past fit (idle, closed) does =
      let step = rest_step r d runner gs node (Out (ResultEnd 0) v) s t past idle closed does tt in
      let clash : Out (ResultEnd 0) v ≡ In (ResultEnd 0) 0 = step.0 in absurd (cc clash)
  rests_after v AtAsked s t past fit (holding, only) does =
      let step = asked_step r d runner gs node (Out (ResultEnd 0) v) s t past holding only does tt in
      let clash : Out (ResultEnd 0) v ≡ Fire d (Req runner.run) = step.is in absurd (cc clash)
  rests_after v (AtStage g has hs before) s t past fit going does =
      let (i, h, stands, at, own_does, in_stage) = out_in r d runner gs node.base g has (ResultEnd 0) v s t going.stirs.places does in
      let (k, there, is) = (stage r d runner gs node.base g has).ports i h stands in
      let clash : ImportEnd k h ≡ ResultEnd 0 = sym there ∙ at in absurd (cc clash)
  rests_after v (AtAnswer k) s t past fit (holding, only) does =
      (answer_step r d runner gs node k (Out (ResultEnd 0) v) s t past holding only does tt).1

  pub is_restful : IsRestful r
  is_restful s t xs v idle runs turns =
      let (w, now, gone, fit, holding, does, turn) =
      reached xs (Out (ResultEnd 0) v) AtRest s t [] (idle_fits r s idle) (idle, (refl, λ k h. refl)) runs turns in
      rests_after v now w t gone fit holding does

  -- an output of a stage
  stage_out : (g : Stage) (has : Contains gs g) (hs : List Element) (before s t : Tokens) (past : List Pass) (b : End) (v : ℕ) → AllFit r s
      → Going r d runner gs node g has hs before s past → StageStep r d runner gs node restful g has hs before s t (after r (Out b v) past) (Out b v) → Does r (Out b v) s t
      → KeepsTurns r past (pass b (way_out (contact_at r b)))
  stage_out g has hs before s t past b v fit going step does = (
    subst (ComesInTurn past b) (sym ways)
        (goes_as r d runner gs node.base g has (passed g.plan [] hs) past going.follows port.0 port.1 b (standing r d runner gs node.base g has port.0 port.1 port.2) port.3 (way_out (contact_at g.plan (ImportEnd port.0 port.1))) turn.0),
    whole_turned r d runner gs node.base g has (passed g.plan [] (hs ++ step.y ∷ [])) (after r (Out b v) past) step.going.follows (done r d runner gs node) step.going.turned,
  )
    where
      port : (i h : ℕ) × StandsIn g.plan (ImportEnd i h) × (g.cut.outer (ImportEnd i h) ≡ b) × Does g.plan (Out (ImportEnd i h) v) (seen g s) (seen g t) × InStage r d runner gs node.base g has t
      port = out_in r d runner gs node.base g has b v s t going.stirs.places does

      turn : KeepsTurns g.plan (passed g.plan [] hs) (pass (ImportEnd port.0 port.1) (way_out (contact_at g.plan (ImportEnd port.0 port.1))))
      turn =
          stage_out_turned r d runner gs node restful g has hs before s t past going (ImportEnd port.0 port.1) v
          (then_one (runner.asked g) g.plan hs (Out (ImportEnd port.0 port.1) v) going.ran.session port.2) port.4

      ways : way_out (contact_at r b) ≡ way_out (contact_at g.plan (ImportEnd port.0 port.1))
      ways = ap way_out (met_contacts r g.cut g.plan (has_ports r d runner gs node.base g has) port.0 port.1 b (standing r d runner gs node.base g has port.0 port.1 port.2) port.3)

  answer_out : (k : ℕ) (past : List Pass) → OnlyResult past → KeepsTurns r past (pass (ResultEnd 0) (way_out (contact_at r (ResultEnd 0))))
  answer_out k past only =
      subst (λ (way : Direction). KeepsTurns r past (pass (ResultEnd 0) way)) (sym (result_out r (done r d runner gs node)))
      (only.0, closed_turned r (done r d runner gs node) (pass (ResultEnd 0) Answer ∷ past) only.1)

  out_turn : (pl : Place gs) (x : Element) (s t : Tokens) (past : List Pass) → AllFit r s → Holds r d runner gs node pl s past → Does r x s t → InputTurns r past x → OutTurn r past x
  out_turn pl (Fire i slot) s t past fit holding does turn = tt
  out_turn pl (In b v) s t past fit holding does turn = tt
  out_turn AtRest (Out b v) s t past fit (idle, closed) does turn =
      let step = rest_step r d runner gs node (Out b v) s t past idle closed does turn in
      let clash : Out b v ≡ In (ResultEnd 0) 0 = step.0 in absurd (cc clash)
  out_turn AtAsked (Out b v) s t past fit (holding, only) does turn =
      let step = asked_step r d runner gs node (Out b v) s t past holding only does turn in
      let clash : Out b v ≡ Fire d (Req runner.run) = step.is in absurd (cc clash)
  out_turn (AtStage g has hs before) (Out b v) s t past fit going does turn = of_step (stage_step r d runner gs node restful g has hs before s t past going fit (Out b v) does turn)
    where
      of_step : StageStep r d runner gs node restful g has hs before s t (after r (Out b v) past) (Out b v) ⊎ OwnStep r d runner gs node restful g has hs before s t (after r (Out b v) past) (Out b v)
          → KeepsTurns r past (pass b (way_out (contact_at r b)))
      of_step (inl step) = stage_out g has hs before s t past b v fit going step does
      of_step (inr step) = let clash : Out b v ≡ Fire d (Ans g.asked_at) = step.is in absurd (cc clash)
  out_turn (AtAnswer k) (Out b v) s t past fit (holding, only) does turn =
      let step = answer_step r d runner gs node k (Out b v) s t past holding only does turn in
      let same : Out b v ≡ Out (ResultEnd 0) k = step.0 in
      let at : ResultEnd 0 ≡ b = cc same in
      subst (λ (e : End). KeepsTurns r past (pass e (way_out (contact_at r e)))) at (answer_out k past only)

  outputs : (xs : List Element) (pl : Place gs) (s t : Tokens) (past : List Pass) → AllFit r s → Holds r d runner gs node pl s past → Runs r xs s t → InputsKeepTurns r past xs
      → OutputsKeepTurns r past xs
  outputs [] pl s t past fit holding runs turns = tt
  outputs (x ∷ xs) pl s t past fit holding (w, does, runs) turns =
      let turn = first_turn r past x xs turns in
      let now = next pl x s w past fit holding does turn in
      outputs_before r past x xs (out_turn pl x s w past fit holding does turn)
      (outputs xs now.place w t (after r x past) (fit_after r d runner gs node restful x s w fit does) now.holds runs (later_turns r past x xs turns))

  pub outputs_in_turn : OutputsInTurn r
  outputs_in_turn s t xs idle runs turns = outputs xs AtRest s t [] (idle_fits r s idle) (idle, (refl, λ k h. refl)) runs turns
