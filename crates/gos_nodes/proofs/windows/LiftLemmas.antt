-- What a stage does, the whole does: where the tokens of the whole are those of the stage.
use Rattle.std.specs.Prelude.{None, slice_get, Contains, length}
use Rattle.std.proofs.Common.{◌≡◌, ℕ, Bool, List, Option, Some, inl, inr, refl, sym, ◌∙◌, ap, subst, if◌then◌else◌}
use Rattle.std.proofs.lemmas.Option.{same_Some, slice_get_within}
use Rattle.std.proofs.lemmas.Bool.{lt-ltb}
use Rattle.gos_types.specs.Events.{Direction, Answer}
use Rattle.gos_plan.specs.Kinds.{Part, Contact}
use Rattle.gos_model.specs.Typing.{Imported}
use Rattle.gos_model.specs.Moves.{Act}
use Rattle.gos_plan.specs.Firing.{Rest, Slot, Req, Ans, Row, at}
use Rattle.gos_plan.specs.Plans.{End, PartEnd, ImportEnd, Plan, contact_at, contacts_of_import}
use Rattle.gos_plan.specs.Tokens.{Tokens, Element, Fire, Out, In, IsPortEnd, places_of, token_at, with_held, with_token, end_of, way_of, way_taken, way_put, fired, firing_of, Passes, Does}
use Rattle.gos_plan.proofs.DecidedLemmas.{one_state}
use Rattle.gos_plan.proofs.HeldLemmas.{nothing_there}
use Rattle.gos_plan.proofs.ElementLemmas.{firing_part}
use Rattle.gos_realises.proofs.realises.InputLemmas.{in_there, out_there}
use Rattle.gos_realises.specs.realises.Matched.{GoesOn}
use Rattle.gos_joining.specs.webs.Cutting.{lies_at, StandsIn}
use Rattle.gos_joining.proofs.webs.CutLemmas.{Owns, token_cut}
use Rattle.gos_sharing.proofs.buffers.BranchLemmas.{place_stands}
use Rattle.gos_nodes.specs.windows.Nodes.{Stage}
use Rattle.gos_nodes.specs.windows.Windows.{Runner, seen}
use Rattle.gos_nodes.proofs.windows.InlayLemmas.{inlay, place_agrees, agree_token}
use Rattle.gos_nodes.proofs.windows.RunnerLemmas.{IsAskedStage, HasStages}
use Rattle.gos_nodes.proofs.windows.StageLemmas.{stage, cut, InStage, Ran, fires_in, out_in, in_in, in_none}
use Rattle.gos_nodes.proofs.windows.MeetLemmas.{IsUnjoined, Meets}

module _ (r : Plan) (d : ℕ) (runner : Runner) (gs : List Stage) (base : HasStages r d runner gs) (g : Stage) (has : Contains gs g) where
  abbrev there : IsAskedStage r d runner g
  there = stage r d runner gs base g has

  -- a token of the stage lies in the whole
  pub held_whole : (s : Tokens) (e : End) → Owns g.plan e → (way : Direction) (v : ℕ) → token_at g.plan (seen g s) e way ≡ Some v
      → token_at r s (lies_at g.cut e) way ≡ Some v
  held_whole s e own way v held = by_place (places_of (inlay g.cut r g.plan) (lies_at g.cut e)) refl
    where
      inlaid : token_at (inlay g.cut r g.plan) s (lies_at g.cut e) way ≡ Some v
      inlaid = sym (token_cut g.cut (inlay g.cut r g.plan) g.plan (cut r d runner gs base g has) e own s way) ∙ held

      by_place : (o : Option End) → places_of (inlay g.cut r g.plan) (lies_at g.cut e) ≡ o → token_at r s (lies_at g.cut e) way ≡ Some v
      by_place None none = absurd (nothing_there (inlay g.cut r g.plan) (lies_at g.cut e) way v s inlaid none)
      by_place (Some x) named =
          sym (agree_token g.cut g.sides r g.plan there.region (lies_at g.cut e) (place_agrees g.cut g.sides r g.plan there.region (lies_at g.cut e) x named) s way)
          ∙ inlaid

  pub stage_stands : (s : Tokens) (e : End) (way : Direction) (v : ℕ) → token_at g.plan (seen g s) e way ≡ Some v → StandsIn g.plan e
  stage_stands s e way v held = by_place (places_of g.plan e) refl
    where
      by_place : (o : Option End) → places_of g.plan e ≡ o → StandsIn g.plan e
      by_place None none = absurd (nothing_there g.plan e way v (seen g s) held none)
      by_place (Some x) named = place_stands g.plan e x named

  -- what fires in the stage fires in the whole
  pub fires_whole : (s : Tokens) (j : ℕ) (slot : Slot) (row : Row) → firing_of (slice_get g.plan.parts j) ((seen g s).state j) slot ≡ Some row
      → firing_of (slice_get r.parts (g.cut.part j)) (s.state (g.cut.part j)) slot ≡ Some row
  fires_whole s j slot row by =
      let part = firing_part (slice_get g.plan.parts j) ((seen g s).state j) slot row by in
      let within = lt-ltb j (length g.plan.parts) (slice_get_within g.plan.parts j part.0 part.1) in
      let in_state : firing_of (slice_get g.plan.parts j) (s.state (g.cut.part j)) slot ≡ Some row =
      sym (ap (λ (b : Bool). firing_of (slice_get g.plan.parts j) (if b then s.state (g.cut.part j) else at Rest 0) slot) within) ∙ by in
      let same = (there.region.parts j part.0 part.1).0 in
      ap (λ (o : Option Part). firing_of o (s.state (g.cut.part j)) slot) (same ∙ sym part.1) ∙ in_state

  -- an element of the whole that is one of the stage, and leads to the same
  pub record Lifted (x : Element) (s u : Tokens) : Type 0 where
    pub to : Tokens
    pub does : Does r x s to
    pub same : seen g to ≡ u
    pub within : InStage r d runner gs base g has to

  pub fire_up : (before s : Tokens) (hs : List Element) → Ran r d runner gs base g has before hs s → InStage r d runner gs base g has s → (j : ℕ) (slot : Slot) (u : Tokens)
      → Does g.plan (Fire j slot) (seen g s) u → Lifted (Fire (g.cut.part j) slot) s u
  fire_up before s hs ran within j slot u (v, row, held, by, leads) =
      record { to = to; does = does; same = one_state g.plan (Fire j slot) (seen g s) (seen g to) u own.0 (v, row, held, by, leads); within = own.1 }
    where
      part : (k : Part) × (slice_get g.plan.parts j ≡ Some k)
      part = firing_part (slice_get g.plan.parts j) ((seen g s).state j) slot row by

      to : Tokens
      to = fired r (g.cut.part j) row v s

      does : Does r (Fire (g.cut.part j) slot) s to
      does = (v, row, held_whole s (end_of j slot) part (way_of slot) v held, fires_whole s j slot row by, refl)

      own : Does g.plan (Fire j slot) (seen g s) (seen g to) × InStage r d runner gs base g has to
      own = fires_in r d runner gs base g has before s to hs ran within (g.cut.part j) j (there.region.parts j part.0 part.1).1 slot does

  port_contact : (i h : ℕ) → StandsIn g.plan (ImportEnd i h) → (c : Contact) → contact_at g.plan (ImportEnd i h) ≡ Some c
      → contact_at r (g.cut.outer (ImportEnd i h)) ≡ Some c
  port_contact i h stands c is = there.region.contacts (ImportEnd i h) tt stands ∙ is

  port_end : (i h : ℕ) → StandsIn g.plan (ImportEnd i h) → IsPortEnd (g.cut.outer (ImportEnd i h))
  port_end i h stands = subst (λ (x : End). IsPortEnd x) (sym (there.ports i h stands).1) tt

  pub out_up : (s : Tokens) → InStage r d runner gs base g has s → (i h v : ℕ) (u : Tokens) → StandsIn g.plan (ImportEnd i h)
      → Does g.plan (Out (ImportEnd i h) v) (seen g s) u → Lifted (Out (g.cut.outer (ImportEnd i h)) v) s u
  out_up s within i h v u stands own_does =
      record { to = to; does = does; same = one_state g.plan (Out (ImportEnd i h) v) (seen g s) (seen g to) u back own_does; within = found.5 }
    where
      c : (c : Contact) × (contact_at g.plan (ImportEnd i h) ≡ Some c)
      c = out_there g.plan (ImportEnd i h) v (seen g s) u own_does

      held : token_at g.plan (seen g s) (ImportEnd i h) (way_taken c.0.role) ≡ Some v
      held = (subst (λ (o : Option Contact). Passes g.plan (Out (ImportEnd i h) v) o (seen g s) u) c.1 own_does.1).0

      to : Tokens
      to = with_token r (g.cut.outer (ImportEnd i h)) (way_taken c.0.role) None s

      does : Does r (Out (g.cut.outer (ImportEnd i h)) v) s to
      does = (
        port_end i h stands,
        subst (λ (o : Option Contact). Passes r (Out (g.cut.outer (ImportEnd i h)) v) o s to) (sym (port_contact i h stands c.0 c.1))
            (held_whole s (ImportEnd i h) stands (way_taken c.0.role) v held, refl),
      )

      found : (j n : ℕ) × StandsIn g.plan (ImportEnd j n) × (g.cut.outer (ImportEnd j n) ≡ g.cut.outer (ImportEnd i h))
          × Does g.plan (Out (ImportEnd j n) v) (seen g s) (seen g to) × InStage r d runner gs base g has to
      found = out_in r d runner gs base g has (g.cut.outer (ImportEnd i h)) v s to within does

      one : ImportEnd found.0 found.1 ≡ ImportEnd i h
      one =
          same_Some (ImportEnd found.0 found.1) (ImportEnd i h)
          (sym (there.region.ports (ImportEnd found.0 found.1) tt found.2).1 ∙ (ap g.cut.inner found.3 ∙ (there.region.ports (ImportEnd i h) tt stands).1))

      back : Does g.plan (Out (ImportEnd i h) v) (seen g s) (seen g to)
      back = subst (λ (e : End). Does g.plan (Out e v) (seen g s) (seen g to)) one found.4

  pub in_up : (s : Tokens) → InStage r d runner gs base g has s → (i h v : ℕ) (u : Tokens) → StandsIn g.plan (ImportEnd i h)
      → Does g.plan (In (ImportEnd i h) v) (seen g s) u → Lifted (In (g.cut.outer (ImportEnd i h)) v) s u
  in_up s within i h v u stands own_does =
      record { to = to; does = does; same = one_state g.plan (In (ImportEnd i h) v) (seen g s) (seen g to) u own.0 own_does; within = own.1 }
    where
      c : (c : Contact) × (contact_at g.plan (ImportEnd i h) ≡ Some c)
      c = in_there g.plan (ImportEnd i h) v (seen g s) u own_does

      to : Tokens
      to = with_token r (g.cut.outer (ImportEnd i h)) (way_put c.0.role) (Some v) s

      does : Does r (In (g.cut.outer (ImportEnd i h)) v) s to
      does = (
        port_end i h stands,
        subst (λ (o : Option Contact). Passes r (In (g.cut.outer (ImportEnd i h)) v) o s to) (sym (port_contact i h stands c.0 c.1))
            ((subst (λ (o : Option Contact). Passes g.plan (In (ImportEnd i h) v) o (seen g s) u) c.1 own_does.1).0, refl),
      )

      own : Does g.plan (In (ImportEnd i h) v) (seen g s) (seen g to) × InStage r d runner gs base g has to
      own = in_in r d runner gs base g has (g.cut.outer (ImportEnd i h)) v s to i h within stands refl does

  -- where no joint is nothing comes in
  lost_up : (s : Tokens) → InStage r d runner gs base g has s → (i h v : ℕ) (u : Tokens) → IsUnjoined r g.cut g.plan i h
      → Does g.plan (In (ImportEnd i h) v) (seen g s) u → Lifted (In (g.cut.outer (ImportEnd i h)) v) s u
  lost_up s within i h v u none own_does =
      record { to = s; does = does; same = one_state g.plan (In (ImportEnd i h) v) (seen g s) (seen g s) u own.0 own_does; within = own.1 }
    where
      contacts : contact_at r (g.cut.outer (ImportEnd i h)) ≡ contact_at g.plan (ImportEnd i h)
      contacts = ap (contact_at r) none.outer ∙ ap (λ (o : Option Imported). slice_get (contacts_of_import o) h) none.same

      nowhere : places_of r (g.cut.outer (ImportEnd i h)) ≡ None
      nowhere = ap (places_of r) none.outer ∙ none.none

      does : Does r (In (g.cut.outer (ImportEnd i h)) v) s s
      does = (
        subst (λ (x : End). IsPortEnd x) (sym none.outer) tt,
        subst (λ (o : Option Contact). Passes r (In (g.cut.outer (ImportEnd i h)) v) o s s) (sym (contacts ∙ none.own)) (
          (subst (λ (o : Option Contact). Passes g.plan (In (ImportEnd i h) v) o (seen g s) u) none.own own_does.1).0,
          sym (ap (λ (o : Option End). with_held (way_put none.contact.role) o (Some v) s) nowhere),
        ),
      )

      own : Does g.plan (In (ImportEnd i h) v) (seen g s) (seen g s) × InStage r d runner gs base g has s
      own = in_none r d runner gs base g has (g.cut.outer (ImportEnd i h)) v s s i h within contacts nowhere none.own_none does

  pub met_up : (s : Tokens) → InStage r d runner gs base g has s → (i h v : ℕ) (u : Tokens) → Meets r g.cut g.plan i h
      → Does g.plan (In (ImportEnd i h) v) (seen g s) u → Lifted (In (g.cut.outer (ImportEnd i h)) v) s u
  met_up s within i h v u (inl joined) own_does = in_up s within i h v u joined.stands own_does
  met_up s within i h v u (inr none) own_does = lost_up s within i h v u none own_does

  -- a firing of the stage goes on where that of the whole does
  pub goes_down : (s u : Tokens) (j : ℕ) (slot : Slot) (acts : List Act) → Does g.plan (Fire j slot) (seen g s) u → GoesOn r s (Fire (g.cut.part j) slot) acts
      → GoesOn g.plan (seen g s) (Fire j slot) acts
  goes_down s u j (Req h) acts does goes = tt
  goes_down s u j (Ans h) acts does goes = λ v row held by asks.
      let part = firing_part (slice_get g.plan.parts j) ((seen g s).state j) (Ans h) row by in
      goes v row (held_whole s (PartEnd j h) part Answer v held) (fires_whole s j (Ans h) row by) asks
