-- The outputs of a block keep turns where those of its body do.
use Rattle.std.specs.Prelude.{◌≡◌, List, ◌∷◌, ◌++◌, All}
use Rattle.std.proofs.Common.{sym, subst, ◌∙◌}
use Rattle.gos_types.specs.Events.{Direction, Request, Answer}
use Rattle.gos_plan.specs.Plans.{End, ImportEnd, ResultEnd, Plan, contact_at}
use Rattle.gos_plan.specs.Tokens.{Tokens, Element}
use Rattle.gos_plan.specs.TokenBits.{LiteralFits}
use Rattle.gos_realises.specs.realises.Regular.{Pass, way_out, is_open, ComesInTurn, OutputsKeepTurns}
use Rattle.gos_realises.proofs.realises.RingLemmas.{after, OutputTurns}
use Rattle.gos_nodes.proofs.parallel.GateLemmas.{gate}
use Rattle.gos_nodes.proofs.parallel.HungLemmas.{Local, fires, puts_out, takes_in, import_contact}
use Rattle.gos_nodes.proofs.windows.MeetLemmas.{HasPorts, met_joined}
use Rattle.gos_nodes.proofs.windows.TurnLemmas.{Turned}
use Rattle.gos_nodes.specs.blocks.Block.{Block, IsBlock}
use Rattle.gos_nodes.proofs.blocks.RegionLemmas.{hung_body}
use Rattle.gos_nodes.proofs.blocks.StepLemmas.{Step, of_body, asked, told, starts, supplies, ended, lost}
use Rattle.gos_nodes.proofs.blocks.SharedLemmas.{Shared, import_same}
use Rattle.gos_nodes.proofs.blocks.LinkedLemmas.{Driven, when_told, seen, way_told}

back_turn : (past own : List Pass) (a c : End) (way : Direction) → is_open past a ≡ is_open own c → ComesInTurn own c way → ComesInTurn past a way
back_turn past own a c Request same turn = same ∙ turn
back_turn past own a c Answer same turn = same ∙ turn

module _ (r : Plan) (b : Block) (is : IsBlock r b) (literals : All LiteralFits r.parts) (ports : HasPorts r b.cut b.body) where
  -- an output of the whole comes in turn
  local_turn : (x y : Element) (past own : List Pass) (s : Tokens) (zs : List Element) → Local b.cut r b.body x y → Shared r b is ports past own
      → OutputsKeepTurns b.body own (y ∷ zs) → Turned r (after r x past) → OutputTurns r past x
  local_turn x y past own s zs (fires i j k number) shared keeps turned = tt
  local_turn x y past own s zs (puts_out i j k v stands leads slices) shared keeps turned = (
    subst (λ o. ComesInTurn past (ImportEnd j k) (way_out o)) (sym (import_contact (hung_body r b is) i j k stands leads))
        (back_turn past own (ImportEnd j k) (ImportEnd i k) (way_out (contact_at b.body (ImportEnd i k)))
        (sym (import_same r b is ports past own shared i k j (met_joined r b.cut b.body i k j stands leads) leads)) keeps.0.0),
    turned,
  )
  local_turn x y past own s zs (takes_in i j k v stands leads slices) shared keeps turned = tt

  pub output_turn : (x : Element) (s t : Tokens) (z : Step r b x s t) (past own : List Pass) (ys : List Element) → Driven b past own s → Shared r b is ports past own
      → OutputsKeepTurns b.body own (seen r b is literals x s t z ++ ys) → Turned r (after r x past) → OutputTurns r past x
  output_turn x s t (of_body x' y s' t' local sees same) past own ys driven shared keeps turned = local_turn x' y past own s' ys local shared keeps turned
  output_turn x s t (asked v s' t' small unseen state ask ans) past own ys driven shared keeps turned = tt
  output_turn x s t (told v s' t' unseen state ans none ask) past own ys driven shared keeps turned =
      let (up, rest, empty) = when_told b.server.runs is.server.rests (is_open past (ResultEnd 0)) (s'.state b.own).phase (gate s' Request) (gate s' Answer) v driven.stage ans in
      (subst (λ w. ComesInTurn past (ResultEnd 0) w) (sym (way_told r b is literals)) up, turned)
  output_turn x s t (starts s' t' z) past own ys driven shared keeps turned = tt
  output_turn x s t (supplies slot s' t' z) past own ys driven shared keeps turned = tt
  output_turn x s t (ended s' t' z) past own ys driven shared keeps turned = tt
  output_turn x s t (lost j k v s' t' c there none unseen same) past own ys driven shared keeps turned = tt
