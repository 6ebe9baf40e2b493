-- What is open in a stage is what is open at its ends in the whole; so what comes in order in the stage does in the whole.
use Rattle.std.specs.Prelude.{None, slice_get, Contains}
use Rattle.std.proofs.Common.{◌≡◌, ℕ, false, List, ◌⊎◌, Option, Some, inl, inr, refl, sym, ◌∙◌, ap, subst}
use Rattle.gos_types.specs.Events.{Direction, Answer}
use Rattle.gos_model.specs.Typing.{Imported}
use Rattle.gos_plan.specs.Kinds.{Part}
use Rattle.gos_plan.specs.Firing.{Ans, Row}
use Rattle.gos_plan.specs.Plans.{End, PartEnd, ImportEnd, ResultEnd, Plan, contacts_of_import, contact_at}
use Rattle.gos_plan.specs.Tokens.{Tokens, Element, Fire, Out, In, IsPortEnd, places_of, end_of, way_of, shake_of, way_taken, firing_of, Does}
use Rattle.gos_plan.specs.Orderly.{Open, after_taken, ComesInOrder, AllWelcome}
use Rattle.gos_realises.proofs.realises.InputLemmas.{in_there, out_there}
use Rattle.gos_joining.specs.webs.Cutting.{lies_at, StandsIn}
use Rattle.gos_joining.proofs.webs.CutLemmas.{Owns}
use Rattle.gos_nodes.specs.windows.Regions.{whole_element}
use Rattle.gos_nodes.specs.windows.Nodes.{Stage}
use Rattle.gos_nodes.proofs.windows.RunnerLemmas.{IsAskedStage, RunsStages}
use Rattle.gos_nodes.specs.windows.Windows.{Runner, seen, StirsOnly}
use Rattle.gos_nodes.proofs.windows.AskedLemmas.{asked_role}
use Rattle.gos_nodes.proofs.windows.InlayLemmas.{Agree}
use Rattle.gos_nodes.proofs.windows.RegionLemmas as regions
use Rattle.gos_nodes.proofs.windows.OpensLemmas as opening
use Rattle.gos_nodes.proofs.windows.OpensLemmas.{IsLooseAt}
use Rattle.gos_nodes.proofs.windows.NodeLemmas.{answer_slot}
use Rattle.gos_nodes.proofs.windows.WindowLemmas.{Standing}
use Rattle.gos_nodes.proofs.windows.MeetLemmas.{IsUnjoined}
use Rattle.gos_nodes.proofs.windows.StageLemmas.{stage, InStage, OnStage, Ran, lies, end_is, faithful, own_contact}

module _
    (r : Plan) (d : ℕ) (runner : Runner) (gs : List Stage) (node : RunsStages r d runner gs) (g : Stage) (has : Contains gs g) where
  abbrev there : IsAskedStage r d runner g
  there = stage r d runner gs node.base g has

  abbrev Agrees : End → Type 0
  Agrees e = Agree g.cut g.sides r g.plan (stage r d runner gs node.base g has).region e

  pub stands_agree : (e : End) → IsPortEnd e → StandsIn g.plan e → Agrees (lies_at g.cut e)
  stands_agree e port stands = regions.stands_agree g.cut g.sides r g.plan there.region e stands

  pub not_result : (a : End) → Owns g.plan a → ResultEnd 0 ≡ lies_at g.cut a → ⊥
  not_result (PartEnd i h) own is = cc is
  not_result (ImportEnd i h) stands is =
      let (k, at, same) = there.ports i h stands in
      let clash : ResultEnd 0 ≡ ImportEnd k h = is ∙ at in cc clash
  not_result (ResultEnd h) stands is =
      let none = there.only h stands in
      let here = subst (λ (n : ℕ). StandsIn g.plan (ResultEnd n)) none stands in
      let clash : ResultEnd 0 ≡ PartEnd d g.asked_at = is ∙ (ap (λ (n : ℕ). g.cut.outer (ResultEnd n)) none ∙ there.run_by here) in cc clash

  -- The result of the whole stays open, and the handshake at which the stage is asked may be.
  abbrev pub Kept : End → Type 0
  Kept x = x ≡ ResultEnd 0

  abbrev pub Beside : End → Type 0
  Beside x = (x ≡ ResultEnd 0) ⊎ (x ≡ PartEnd d g.asked_at)

  kept_apart : (x a : End) → Kept x → Owns g.plan a → x ≡ lies_at g.cut a → ⊥
  kept_apart x a is own lies_so = not_result a own (sym is ∙ lies_so)

  abbrev pub Opens : Open → Open → Type 0
  Opens own o = opening.Opens g.cut r g.plan Kept Beside own o

  pub taken_opens : (own o : Open) → Opens own o → (e : End) → Owns g.plan e → Agrees (lies_at g.cut e) → (way : Direction)
      → Opens (after_taken g.plan e way own) (after_taken r (lies_at g.cut e) way o)
  taken_opens = opening.taken_opens g.cut g.sides r g.plan there.region Kept Beside kept_apart

  module _
      (before s t : Tokens) (hs : List Element) (ran : Ran r d runner gs node.base g has before hs s) (within : InStage r d runner gs node.base g has s)
      (own mown o : Open) (opens : Opens own o) where
    contact_so : (e : End) → IsPortEnd e → StandsIn g.plan e → contact_at r (lies_at g.cut e) ≡ contact_at g.plan e
    contact_so (PartEnd i h) port stands = absurd port
    contact_so (ImportEnd i h) port stands = there.region.contacts (ImportEnd i h) tt stands
    contact_so (ResultEnd h) port stands = there.region.contacts (ResultEnd h) tt stands

    -- an input where there is no joint
    loose_at : (i n : ℕ) → (none : IsUnjoined r g.cut g.plan i n) → IsLooseAt r g.plan (ImportEnd i n) (ImportEnd none.import n)
    loose_at i n none =
        record {
          own_port = tt;
          port = tt;
          none = none.none;
          own_none = none.own_none;
          contact = none.contact;
          there = ap (λ (x : Option Imported). slice_get (contacts_of_import x) n) none.same ∙ none.own;
          own_there = none.own;
          asks = none.asks;
        }

    pub stage_order : (y : Element) → Standing r g y
        → ((k n v : ℕ) → whole_element g.cut y ≡ In (ImportEnd k n) v → places_of r (ImportEnd k n) ≡ None → o (ImportEnd k n) ≡ false)
        → Does g.plan y (seen g s) (seen g t) → Does r (whole_element g.cut y) s t
        → ComesInOrder g.plan y (seen g s) own mown → (m : Open) × ComesInOrder r (whole_element g.cut y) s o m × Opens mown m
    stage_order (Fire j slot) stands shut own_does does comes =
        opening.fire_order g.cut g.sides r g.plan there.region Kept Beside kept_apart s t within own mown o opens j slot
        (faithful r d runner gs node.base g has before s hs ran j slot) own_does does comes
    stage_order (Out e v) stands shut own_does does comes =
        let (c, at_e) = out_there g.plan e v (seen g s) (seen g t) own_does in
        opening.out_order g.cut g.sides r g.plan there.region Kept Beside kept_apart s t within own mown o opens e (lies_at g.cut e) v c own_does.0 stands
        refl (contact_so e own_does.0 stands) at_e comes
    stage_order (In e v) (i, n, is, inl joined) shut own_does does comes =
        let (c, at_e) = in_there g.plan e v (seen g s) (seen g t) own_does in
        let stands = subst (λ (x : End). StandsIn g.plan x) (sym is) joined.stands in
        opening.in_order_at g.cut g.sides r g.plan there.region Kept Beside kept_apart s t within own mown o opens e (lies_at g.cut e) v c own_does.0 stands
        refl (contact_so e own_does.0 stands) at_e comes
    stage_order (In e v) (i, n, is, inr none) shut own_does does comes =
        let lies_so : lies_at g.cut e ≡ ImportEnd none.import n = ap (lies_at g.cut) is ∙ none.outer in
        subst (λ (x : End). (m : Open) × ComesInOrder r (In x v) s o m × Opens mown m) (sym lies_so)
        (opening.loose_order g.cut g.sides r g.plan there.region Kept Beside kept_apart s t within own mown o opens (ImportEnd i n) (ImportEnd none.import n) v
        (loose_at i n none) (subst (λ (x : End). ComesInOrder g.plan (In x v) (seen g s) own mown) is comes)
        (shut none.import n v (ap (λ (x : End). In x v) lies_so) none.none))

  -- what lies is welcome
  pub stage_welcome : (t : Tokens) → StirsOnly d runner g t → AllWelcome g.plan (seen g t) → AllWelcome r t
  stage_welcome t stirs welcome i slot c v at_end way held =
      elim (end_is r d runner gs node.base g has i (shake_of slot) on.own on.owned on.stands on.lies) [
        | inl (j, number) ↦ opening.welcome_in g.cut g.sides r g.plan there.region t i j slot c v number on.agrees at_end way held welcome
        | inr (part, shake, stands) ↦ of_own part shake stands
      ]
    where
      on : OnStage r d runner gs node.base g has (end_of i slot)
      on = lies r d runner gs node.base g has t stirs.places (end_of i slot) (way_of slot) v held

      of_own : i ≡ d → shake_of slot ≡ g.asked_at → StandsIn g.plan (ResultEnd (runner.asked g))
          → (row : Row) × (firing_of (slice_get r.parts i) (t.state i) slot ≡ Some row)
      of_own part shake stands =
          let ends : end_of i slot ≡ PartEnd d g.asked_at = λ l. PartEnd (part l) (shake l) in
          let asks = asked_role g.plan _ _ _ there.asked c
          (sym (own_contact r d runner gs node.base g has stands) ∙ (ap (contact_at r) (sym ends) ∙ at_end)) in
          let answer : way_of slot ≡ Answer = sym way ∙ ap way_taken (sym asks) in
          let slot_is : slot ≡ Ans g.asked_at = answer_slot slot g.asked_at answer shake in
          let (row, own_fires) = node.table.takes_answer (t.state d) g.asked_at stirs.session in
          let at_own : firing_of (slice_get r.parts d) (t.state d) (Ans g.asked_at) ≡ Some row =
          ap (λ (o : Option Part). firing_of o (t.state d) (Ans g.asked_at)) node.base.own ∙ own_fires in
          (row, (λ l. firing_of (slice_get r.parts (part l)) (t.state (part l)) (slot_is l)) ∙ at_own)
