-- A stage in the whole: where its tokens lie, what its parts do, and what is left after its answer.
use Rattle.std.specs.Prelude.{◌≢◌, ◌^◌, ◌<◌, None, slice_get, Contains, nat_lt, length}
use Rattle.std.proofs.Common.{◌≡◌, ℕ, Bool, true, false, List, [], ◌∷◌, ◌⊎◌, Option, Some, inl, inr, refl, sym, ◌∙◌, ap, subst, if◌then◌else◌}
use Rattle.gos_types.specs.declared.shakes.Role.TheVariants.{Ask}
use Rattle.gos_types.specs.Events.{Direction, Request, Answer}
use Rattle.gos_plan.specs.Kinds.{Skip, Contact, asks}
use Rattle.gos_plan.specs.Firing.{Rest, State, Slot, Row, at}
use Rattle.gos_plan.specs.Plans.{End, PartEnd, ImportEnd, ResultEnd, Plan, contact_at}
use Rattle.gos_plan.specs.Tokens.{Tokens, Element, Fire, Out, In, IsPortEnd, places_of, with_held, with_token, token_at, end_of, way_of, way_taken, way_put, bits_of, firing_of, Passes, Does, Runs, IsIdle}
use Rattle.gos_plan.specs.TokenBits.{AllFit}
use Rattle.gos_realises.specs.realises.Regular.{InputsKeepTurns}
use Rattle.gos_realises.proofs.realises.InputLemmas.{out_there}
use Rattle.gos_joining.specs.webs.Cutting.{lies_at, StandsIn, IsCut, asks_in, out_if, in_if}
use Rattle.gos_joining.proofs.webs.CutLemmas.{Owns, outside_name, place_there, number_at, taken_out, put_in}
use Rattle.gos_sharing.proofs.buffers.BranchLemmas.{place_stands}
use Rattle.gos_nodes.specs.windows.Nodes.{Stage}
use Rattle.gos_nodes.specs.windows.OneSession.{IsTidy, IsOpenSession}
use Rattle.gos_nodes.proofs.windows.RunnerLemmas.{IsAskedStage, HasStages}
use Rattle.gos_nodes.specs.windows.Windows.{Runner, seen}
use Rattle.gos_nodes.proofs.windows.InlayLemmas.{inlay, same_contact, inlay_cut, inlay_place, place_agrees, Agree, agree_token, agree_put, AllAgree}
use Rattle.gos_nodes.proofs.windows.RegionLemmas as regions
use Rattle.gos_nodes.proofs.windows.RegionLemmas.{InRegion, OnRegion, IsFaithful}
use Rattle.gos_nodes.proofs.windows.AskedLemmas.{asked_is, asked_role}
use Rattle.gos_nodes.proofs.windows.PortLemmas.{stands_contact, stands_place, run_one}

-- All is idle but for the part of this number.
pub record Emptied (d : ℕ) (s : Tokens) : Type 0 where
  pub places : (way : Direction) (e : End) → s.in_place way e ≡ None
  pub states : (i : ℕ) → i ≢ d → (s.state i).phase ≡ Rest

module _
    (r : Plan) (d : ℕ) (runner : Runner) (gs : List Stage) (node : HasStages r d runner gs) (g : Stage) (has : Contains gs g) where
  pub stage : IsAskedStage r d runner g
  stage = node.stages g has

  -- the end of its result that is asked
  abbrev result_end : End
  result_end = ResultEnd (runner.asked g)

  pub cut : IsCut g.cut (inlay g.cut r g.plan) g.plan
  cut = inlay_cut g.cut g.sides r g.plan stage.region

  -- which ends of the whole the ends of the stage are
  pub end_is : (i h : ℕ) (e : End) → Owns g.plan e → StandsIn g.plan e → lies_at g.cut e ≡ PartEnd i h
      → ((j : ℕ) × (g.cut.number i ≡ Some j)) ⊎ ((i ≡ d) × (h ≡ g.asked_at) × StandsIn g.plan result_end)
  end_is i h (PartEnd j k) (part, there) stands lies =
      let same : g.cut.part j ≡ i = cc lies in inl (j, ap g.cut.number (sym same) ∙ (stage.region.parts j part there).1)
  end_is i h (ImportEnd j k) owned stands lies =
      let port = stage.ports j k stands in
      let clash : ImportEnd port.0 k ≡ PartEnd i h = sym port.1 ∙ lies in absurd (cc clash)
  end_is i h (ResultEnd k) owned stands lies =
      let none = stage.only k stands in
      let here = subst (λ (n : ℕ). StandsIn g.plan (ResultEnd n)) none stands in
      let at : PartEnd d g.asked_at ≡ PartEnd i h = sym (stage.run_by here) ∙ (ap (λ (n : ℕ). g.cut.outer (ResultEnd n)) (sym none) ∙ lies) in
      let part : d ≡ i = cc at in
      let shake : g.asked_at ≡ h = cc at in inr (sym part, sym shake, here)

  pub port_is : (b e : End) → IsPortEnd b → Owns g.plan e → StandsIn g.plan e → lies_at g.cut e ≡ b
      → (i h : ℕ) × StandsIn g.plan (ImportEnd i h) × (g.cut.outer (ImportEnd i h) ≡ b)
  port_is b (PartEnd j k) port owned stands lies = absurd (subst (λ (x : End). IsPortEnd x) (sym lies) port)
  port_is b (ImportEnd j k) port owned stands lies = (j, k, stands, lies)
  port_is b (ResultEnd k) port owned stands lies =
      let none = stage.only k stands in
      let here = subst (λ (n : ℕ). StandsIn g.plan (ResultEnd n)) none stands in
      let at : b ≡ PartEnd d g.asked_at = sym lies ∙ (ap (λ (n : ℕ). g.cut.outer (ResultEnd n)) none ∙ stage.run_by here) in
      absurd (subst (λ (x : End). IsPortEnd x) at port)

  -- each token lies on a joint of the stage
  abbrev pub InStage : Tokens → Type 0
  InStage s = InRegion g.cut g.sides r g.plan stage.region s

  abbrev pub OnStage : End → Type 0
  OnStage e = OnRegion g.cut g.sides r g.plan stage.region e

  pub lies : (s : Tokens) → InStage s → (e : End) (way : Direction) (v : ℕ) → token_at r s e way ≡ Some v → OnStage e
  lies = regions.lies g.cut g.sides r g.plan stage.region

  -- the states of its parts
  pub seen_state : (s : Tokens) (i j : ℕ) → g.cut.number i ≡ Some j → (seen g s).state j ≡ s.state i
  seen_state = regions.seen_state g.cut g.sides r g.plan stage.region

  -- its list so far, from an idle state
  pub record Ran (before : Tokens) (hs : List Element) (s : Tokens) : Type 0 where
    pub idle : IsIdle g.plan before
    pub ran : Runs g.plan hs before (seen g s)
    pub turns : InputsKeepTurns g.plan [] hs
    pub tidy : IsTidy g.plan before
    pub session : IsOpenSession (runner.asked g) g.plan hs

  -- a firing of one of its parts
  pub faithful : (before s : Tokens) (hs : List Element) → Ran before hs s → (j : ℕ) (slot : Slot) → IsFaithful g.cut g.sides r g.plan stage.region s j slot
  faithful before s hs ran j slot u does n is_side number low =
      stage.loyal n j is_side number before (seen g s) u hs slot ran.tidy ran.idle ran.session ran.ran ran.turns does low

  pub fires_agree : (before s : Tokens) (hs : List Element) → Ran before hs s → (i j : ℕ) → g.cut.number i ≡ Some j → (slot : Slot) (v : ℕ) (row : Row)
      → token_at (inlay g.cut r g.plan) s (end_of i slot) (way_of slot) ≡ Some v → firing_of (slice_get r.parts i) (s.state i) slot ≡ Some row
      → AllAgree g.cut g.sides r g.plan stage.region i (row.puts v)
  fires_agree before s hs ran i j number slot v row held by =
      regions.fires_agree g.cut g.sides r g.plan stage.region s i j number slot (faithful before s hs ran j slot) v row held by

  pub fires_in : (before s t : Tokens) (hs : List Element) → Ran before hs s → InStage s → (i j : ℕ) → g.cut.number i ≡ Some j → (slot : Slot)
      → Does r (Fire i slot) s t → Does g.plan (Fire j slot) (seen g s) (seen g t) × InStage t
  fires_in before s t hs ran within i j number slot does =
      regions.fires_in g.cut g.sides r g.plan stage.region s t within i j number slot (faithful before s hs ran j slot) does

  -- ports of the whole
  pub port_contact : (i h : ℕ) (b : End) → StandsIn g.plan (ImportEnd i h) → g.cut.outer (ImportEnd i h) ≡ b
      → contact_at r b ≡ contact_at g.plan (ImportEnd i h)
  port_contact i h b stands at = ap (contact_at r) (sym at) ∙ stage.region.contacts (ImportEnd i h) tt stands

  pub out_in : (b : End) (v : ℕ) (s t : Tokens) → InStage s → Does r (Out b v) s t
      → (i h : ℕ) × StandsIn g.plan (ImportEnd i h) × (g.cut.outer (ImportEnd i h) ≡ b)
      × Does g.plan (Out (ImportEnd i h) v) (seen g s) (seen g t) × InStage t
  out_in b v s t within does =
      let (c, there) = out_there r b v s t does in
      let passes = subst (λ (o : Option Contact). Passes r (Out b v) o s t) there does.1 in
      let on = lies s within b (way_taken c.role) v passes.0 in
      let (i, h, stands, at) = port_is b on.own does.0 on.owned on.stands on.lies in
      let both = regions.out_in g.cut g.sides r g.plan stage.region (ImportEnd i h) tt stands b at (port_contact i h b stands at) v s t within does in
      (i, h, stands, at, both.0, both.1)

  pub in_in : (b : End) (v : ℕ) (s t : Tokens) (i h : ℕ) → InStage s → StandsIn g.plan (ImportEnd i h) → g.cut.outer (ImportEnd i h) ≡ b → Does r (In b v) s t
      → Does g.plan (In (ImportEnd i h) v) (seen g s) (seen g t) × InStage t
  in_in b v s t i h within stands at does =
      regions.in_in g.cut g.sides r g.plan stage.region (ImportEnd i h) tt stands b at (port_contact i h b stands at) v s t within does

  -- where no joint is nothing comes in
  pub in_none : (b : End) (v : ℕ) (s t : Tokens) (i h : ℕ) → InStage s → contact_at r b ≡ contact_at g.plan (ImportEnd i h)
      → places_of r b ≡ None → places_of g.plan (ImportEnd i h) ≡ None → Does r (In b v) s t
      → Does g.plan (In (ImportEnd i h) v) (seen g s) (seen g t) × InStage t
  in_none b v s t i h within same none own_none does =
      regions.in_nothing g.cut g.sides r g.plan stage.region (ImportEnd i h) b v s t within tt same none own_none does

  -- the own part takes its answer
  pub own_contact : StandsIn g.plan result_end → contact_at r (PartEnd d g.asked_at) ≡ contact_at g.plan result_end
  own_contact stands = ap (contact_at r) (sym (stage.run_by stands)) ∙ stage.region.contacts result_end tt stands

  own_inner : StandsIn g.plan result_end → g.cut.inner (PartEnd d g.asked_at) ≡ Some result_end
  own_inner stands = ap g.cut.inner (sym (stage.run_by stands)) ∙ (stage.region.ports result_end tt stands).1

  own_asks : StandsIn g.plan result_end → (k : Contact) → contact_at r (PartEnd d g.asked_at) ≡ Some k → Ask ≡ k.role
  own_asks stands k is = asked_role g.plan _ _ _ stage.asked k (sym (own_contact stands) ∙ is)

  pub own_stands : (s : Tokens) → InStage s → (way : Direction) (v : ℕ) → token_at r s (PartEnd d g.asked_at) way ≡ Some v → StandsIn g.plan result_end
  own_stands s within way v held =
      let on = lies s within (PartEnd d g.asked_at) way v held in
      elim (end_is d g.asked_at on.own on.owned on.stands on.lies) [
        | inl inside ↦ (let clash : None ≡ Some inside.0 = sym stage.outside ∙ inside.1 in absurd (cc clash))
        | inr at ↦ at.2
      ]

  own_agrees : (way : Direction) (s : Tokens) (v : ℕ) → InStage s → token_at r s (PartEnd d g.asked_at) way ≡ Some v
      → Agree g.cut g.sides r g.plan stage.region (PartEnd d g.asked_at)
  own_agrees way s v within held = let on = lies s within (PartEnd d g.asked_at) way v held in on.agrees

  pub answers : (s : Tokens) → InStage s → (v : ℕ) → token_at r s (PartEnd d g.asked_at) Answer ≡ Some v
      → Does g.plan (Out result_end v) (seen g s) (seen g (with_token r (PartEnd d g.asked_at) Answer None s))
      × InStage (with_token r (PartEnd d g.asked_at) Answer None s)
  answers s within v held = (
    run_one g.plan (Out result_end v) (seen g s) (seen g (with_token r (PartEnd d g.asked_at) Answer None s))
        (subst (λ (x : Tokens). Runs g.plan (Out result_end v ∷ []) (seen g s) (seen g x)) put
        (subst (λ (o : Option End). Runs g.plan (out_if o v) (seen g s) (seen g (with_token (inlay g.cut r g.plan) (PartEnd d g.asked_at) Answer None s)))
        (own_inner stands)
        (taken_out g.cut (inlay g.cut r g.plan) g.plan cut (PartEnd d g.asked_at) (outside_name g.cut (PartEnd d g.asked_at) stage.outside) Answer v s ways
        (agree_token g.cut g.sides r g.plan stage.region (PartEnd d g.asked_at) agrees s Answer ∙ held)))),
    subst (λ (x : Tokens). InStage x) put (regions.in_region_put g.cut g.sides r g.plan stage.region s within (PartEnd d g.asked_at) Answer None),
  )
    where
      stands : StandsIn g.plan result_end
      stands = own_stands s within Answer v held

      agrees : Agree g.cut g.sides r g.plan stage.region (PartEnd d g.asked_at)
      agrees = own_agrees Answer s v within held

      put : with_token (inlay g.cut r g.plan) (PartEnd d g.asked_at) Answer None s ≡ with_token r (PartEnd d g.asked_at) Answer None s
      put = agree_put g.cut g.sides r g.plan stage.region (PartEnd d g.asked_at) agrees Answer None s

      ways : (k : Contact) → contact_at (inlay g.cut r g.plan) (PartEnd d g.asked_at) ≡ Some k → Answer ≡ way_taken k.role
      ways k is = ap way_taken (own_asks stands k is)

  -- its number has the bits of the outcome
  pub answer_fits : (s : Tokens) → AllFit r s → InStage s → (v : ℕ) → token_at r s (PartEnd d g.asked_at) Answer ≡ Some v → v < 2 ^ runner.answer_bits g
  answer_fits s fit within v held =
      let stands = own_stands s within Answer v held in
      let (k, is) = stands_contact g.plan stage.region.right result_end stands in
      let small : v < 2 ^ k.answer_bits = fit.0 (PartEnd d g.asked_at) k Answer v (own_contact stands ∙ is) held in
      subst (λ (x : Contact). v < 2 ^ x.answer_bits) (sym (asked_is g.plan _ _ _ stage.asked k is)) small

  -- where the stage is idle too
  pub emptied : (u : Tokens) → InStage u → ((i : ℕ) → i ≢ d → g.cut.number i ≡ None → (u.state i).phase ≡ Rest) → IsIdle g.plan (seen g u) → Emptied d u
  emptied u within others idle =
      record {
        places = regions.none_lies g.cut g.sides r g.plan stage.region u within idle;
        states = λ i apart. by_number i apart (g.cut.number i) refl;
      }
    where
      by_number : (i : ℕ) → i ≢ d → (o : Option ℕ) → g.cut.number i ≡ o → (u.state i).phase ≡ Rest
      by_number i apart None out = others i apart out
      by_number i apart (Some j) number = ap (λ (q : State). q.phase) (sym (seen_state u i j number)) ∙ idle.1 j

  pub idle_seen : (s : Tokens) → Emptied d s → IsIdle g.plan (seen g s)
  idle_seen s empty = (λ way e. by_asks way e (asks_in g.plan.joints e), λ j. by_part j (nat_lt j (length g.plan.parts)) refl)
    where
      by_asks : (way : Direction) (e : End) (b : Bool) → (if b then s.in_place way (lies_at g.cut e) else None) ≡ None
      by_asks way e true = empty.places way (lies_at g.cut e)
      by_asks way e false = refl

      apart : (j : ℕ) → nat_lt j (length g.plan.parts) ≡ true → g.cut.part j ≢ d
      apart j within same =
          let clash : None ≡ Some j =
          sym stage.outside ∙ (ap g.cut.number (sym same) ∙ number_at g.cut (inlay g.cut r g.plan) g.plan cut Skip j within) in cc clash

      by_part : (j : ℕ) (b : Bool) → nat_lt j (length g.plan.parts) ≡ b → (if b then s.state (g.cut.part j) else at Rest 0).phase ≡ Rest
      by_part j true within = empty.states (g.cut.part j) (apart j within)
      by_part j false within = refl

  -- It is asked. What lies at the own part's handshake in the whole lies there in the stage.
  pub asked : (n : ℕ) → n < 2 ^ runner.request_bits g → (s : Tokens) → Emptied d s
      → ((x : End) → places_of r (PartEnd d g.asked_at) ≡ Some x → StandsIn g.plan result_end)
      → Does g.plan (In result_end n) (seen g s) (seen g (with_token r (PartEnd d g.asked_at) Request (Some n) s))
      × InStage (with_token r (PartEnd d g.asked_at) Request (Some n) s)
  asked n fits s empty joined = by_place (places_of r (PartEnd d g.asked_at)) refl
    where
      none_lies : InStage s
      none_lies way e v is = let clash : None ≡ Some v = sym (empty.places way e) ∙ is in absurd (cc clash)

      small : (k : Contact) → contact_at g.plan result_end ≡ Some k → (Request ≡ way_put k.role) × (n < 2 ^ bits_of k Request)
      small k is = (
        ap way_put (asked_role g.plan _ _ _ stage.asked k is),
        subst (λ (x : Contact). n < 2 ^ x.ask_bits) (asked_is g.plan _ _ _ stage.asked k is) fits,
      )

      by_place : (o : Option End) → places_of r (PartEnd d g.asked_at) ≡ o
          → Does g.plan (In result_end n) (seen g s) (seen g (with_held Request o (Some n) s)) × InStage (with_held Request o (Some n) s)
      by_place None none = (
        (tt, by_contact (contact_at g.plan result_end) refl),
        none_lies,
      )
        where
          lost : (way : Direction) → with_token g.plan result_end way (Some n) (seen g s) ≡ seen g s
          lost way = by_own (places_of g.plan result_end) refl
            where
              by_own : (o : Option End) → places_of g.plan result_end ≡ o → with_held way o (Some n) (seen g s) ≡ seen g s
              by_own None lost_there = refl
              by_own (Some a) named =
                  let there = place_there g.cut (inlay g.cut r g.plan) g.plan cut result_end a named in
                  let stands = place_stands g.plan result_end a named in
                  let in_whole = inlay_place g.cut g.sides r g.plan stage.region (g.cut.outer result_end) (lies_at g.cut a) there in
                  let clash : None ≡ Some (lies_at g.cut a) = sym none ∙ (ap (places_of r) (sym (stage.run_by stands)) ∙ in_whole) in absurd (cc clash)

          by_contact : (o : Option Contact) → contact_at g.plan result_end ≡ o → Passes g.plan (In result_end n) o (seen g s) (seen g s)
          by_contact None lost_there = (
              let clash : None ≡ Some (asks (runner.request_bits g) (runner.answer_bits g)) = sym lost_there ∙ stage.asked.contact in
              absurd (cc clash)
              )
          by_contact (Some k) is = (
            subst (λ (way : Direction). n < 2 ^ bits_of k way) (small k is).0 (small k is).1,
            sym (lost (way_put k.role)),
          )
      by_place (Some x) named = (
        run_one g.plan (In result_end n) (seen g s) (seen g (with_held Request (Some x) (Some n) s))
            (subst (λ (y : Tokens). Runs g.plan (In result_end n ∷ []) (seen g s) (seen g y)) put
            (subst (λ (o : Option End). Runs g.plan (in_if o n) (seen g s) (seen g (with_token (inlay g.cut r g.plan) (PartEnd d g.asked_at) Request (Some n) s)))
            (own_inner stands)
            (put_in g.cut (inlay g.cut r g.plan) g.plan cut (PartEnd d g.asked_at) (outside_name g.cut (PartEnd d g.asked_at) stage.outside) Request n s
            (λ k is held. small k (sym (own_contact stands) ∙ (sym (same_contact g.cut r g.plan (PartEnd d g.asked_at)) ∙ is)))))),
        subst (λ (y : Tokens). InStage y) put (regions.in_region_put g.cut g.sides r g.plan stage.region s none_lies (PartEnd d g.asked_at) Request (Some n)),
      )
        where
          stands : StandsIn g.plan result_end
          stands = joined x named

          agrees : Agree g.cut g.sides r g.plan stage.region (PartEnd d g.asked_at)
          agrees =
              let (a, own) = stands_place g.plan stage.region.right result_end stands in
              place_agrees g.cut g.sides r g.plan stage.region (PartEnd d g.asked_at) (lies_at g.cut a)
              (ap (places_of (inlay g.cut r g.plan)) (sym (stage.run_by stands)) ∙ place_there g.cut (inlay g.cut r g.plan) g.plan cut result_end a own)

          put : with_token (inlay g.cut r g.plan) (PartEnd d g.asked_at) Request (Some n) s ≡ with_held Request (Some x) (Some n) s
          put =
              agree_put g.cut g.sides r g.plan stage.region (PartEnd d g.asked_at) agrees Request (Some n) s
              ∙ ap (λ (o : Option End). with_held Request o (Some n) s) named
