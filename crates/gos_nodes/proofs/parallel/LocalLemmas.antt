-- An element of a region shows in the whole what it shows in the region, and goes on there where it does here; and what the part that
-- asks the region does goes on, too.
use Rattle.std.specs.Prelude.{◌≡◌, ℕ, true, false, List, [], ◌∷◌, Option, Some, slice_get}
use Rattle.std.proofs.Common.{refl, sym, ap, inl, ◌∙◌}
use Rattle.gos_types.specs.Events.{Request, Answer}
use Rattle.gos_model.specs.Typing.{Imported}
use Rattle.gos_model.specs.Labels.{Given, Taken}
use Rattle.gos_model.specs.Moves.{Act}
use Rattle.gos_plan.specs.Firing.{Slot, Req, Ans, Row}
use Rattle.gos_plan.specs.Plans.{End, PartEnd, Plan}
use Rattle.gos_plan.specs.Tokens.{Tokens, Element, Fire, token_at, firing_of}
use Rattle.gos_joining.specs.webs.Cutting.{Cut, cut_tokens}
use Rattle.gos_realises.specs.realises.Matched.{port_if, event_number, shows, asks_on, GoesOn}
use Rattle.gos_nodes.proofs.parallel.HungLemmas.{IsHung, Local, fires, puts_out, takes_in, held_token}
use Rattle.gos_nodes.proofs.parallel.OpenLemmas.{firing_same}

pub local_shows : (f : Cut) (r p : Plan) (x y : Element) → Local f r p x y → shows p y ≡ shows r x
local_shows f r p x y (fires i j k number) = refl
local_shows f r p x y (puts_out i j k v stands leads slices) =
    λ t. record { port = port_if (slices t); event = event_number Request k; value = v } ∷ []
local_shows f r p x y (takes_in i j k v stands leads slices) =
    λ t. record { port = port_if (slices t); event = event_number Answer k; value = v } ∷ []

-- an import has a name
pub not_given : (o : Option Imported) (x : Imported) → o ≡ Some x → port_if o ≡ Given → ⊥
not_given o x at same = let bad : Taken x.name ≡ Given = sym (ap port_if at) ∙ same in cc bad

module _ {Counted : End → Type 0} {d h w : ℕ} {f : Cut} {r p : Plan} (hung : IsHung Counted d h w f r p) where
  pub local_goes : (x y : Element) (s : Tokens) (acts : List Act) → Local f r p x y → GoesOn p (cut_tokens f p s) y acts → GoesOn r s x acts
  local_goes x y s acts (fires i j (Req k) number) goes = tt
  local_goes x y s acts (fires i j (Ans k) number) goes = λ v row lies by asks.
      let (at_part, (part, there)) = hung.cut.numbers i j number in
      goes v row
      (held_token hung (PartEnd j k) (inl (part, there)) s Answer ∙ (ap (λ t. token_at r s (PartEnd t k) Answer) at_part ∙ lies))
      (firing_same hung j part there (Ans k) s ∙ (ap (λ t. firing_of (slice_get r.parts t) (s.state t) (Ans k)) at_part ∙ by)) asks
  local_goes x y s acts (puts_out i j k v stands leads slices) goes = tt
  local_goes x y s acts (takes_in i j k v stands leads slices) goes = tt

-- a firing goes on where its row asks for nothing
pub quiet_goes : (r : Plan) (d : ℕ) (slot : Slot) (row : Row) (s : Tokens) (acts : List Act) → firing_of (slice_get r.parts d) (s.state d) slot ≡ Some row
    → ((v : ℕ) → asks_on (row.puts v) ≡ false) → GoesOn r s (Fire d slot) acts
quiet_goes r d (Req h) row s acts by never = tt
quiet_goes r d (Ans h) row s acts by never = λ v other lies firing asks.
    let same : row ≡ other = cc (by, firing) in
    let clash : false ≡ true = sym (never v) ∙ (ap (λ (y : Row). asks_on (y.puts v)) same ∙ asks) in absurd (cc clash)
