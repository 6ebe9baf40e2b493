-- The outputs of the whole keep turns where those of its regions do.
use Rattle.std.specs.Prelude.{◌≡◌, ℕ, List, ◌∷◌, ◌++◌, All}
use Rattle.std.proofs.Common.{sym, subst, ◌∙◌}
use Rattle.gos_types.specs.Events.{Direction, Request, Answer}
use Rattle.gos_plan.specs.Plans.{End, ImportEnd, ResultEnd, Plan, contact_at}
use Rattle.gos_plan.specs.Tokens.{Tokens, Element}
use Rattle.gos_plan.specs.TokenBits.{LiteralFits}
use Rattle.gos_joining.specs.webs.Cutting.{Cut}
use Rattle.gos_realises.specs.realises.Regular.{Pass, way_out, is_open, ComesInTurn, OutputsKeepTurns}
use Rattle.gos_realises.proofs.realises.RingLemmas.{after, OutputTurns}
use Rattle.gos_nodes.proofs.parallel.GateLemmas.{gate}
use Rattle.gos_nodes.proofs.parallel.HungLemmas.{Local, fires, puts_out, takes_in, import_contact}
use Rattle.gos_nodes.proofs.windows.MeetLemmas.{HasPorts, met_joined}
use Rattle.gos_nodes.proofs.windows.TurnLemmas.{Turned}
use Rattle.gos_nodes.specs.parallel.Parallel.{IsParallel}
use Rattle.gos_nodes.proofs.parallel.StepLemmas.{Step, of_left, of_right, asked, told, starts, left_ends, right_ends, left_ends_all, right_ends_all, lost, hung_left, hung_right}
use Rattle.gos_nodes.proofs.parallel.SharedLemmas.{Shared}
use Rattle.gos_nodes.proofs.parallel.LinkedLemmas.{Driven, left_seen, right_seen, when_told, way_told}

module _
    (d : ℕ) (f g : Cut) (r p q : Plan) (is : IsParallel d f g r p q) (literals : All LiteralFits r.parts) (left_ports : HasPorts r f p)
    (right_ports : HasPorts r g q) where
  -- an output of the whole comes in turn
  back_turn : (past own : List Pass) (a b : End) (way : Direction) → is_open past a ≡ is_open own b → ComesInTurn own b way → ComesInTurn past a way
  back_turn past own a b Request same turn = same ∙ turn
  back_turn past own a b Answer same turn = same ∙ turn

  local_left_turn : (x y : Element) (past lefts rights : List Pass) (s : Tokens) (zs : List Element) → Local f r p x y → Shared d f g r p q is left_ports right_ports past lefts rights
      → OutputsKeepTurns p lefts (y ∷ zs) → Turned r (after r x past) → OutputTurns r past x
  local_left_turn x y past lefts rights s zs (fires i j k number) shared keeps turned = tt
  local_left_turn x y past lefts rights s zs (puts_out i j k v stands leads slices) shared keeps turned = (
    subst (λ o. ComesInTurn past (ImportEnd j k) (way_out o)) (sym (import_contact (hung_left d f g r p q is) i j k stands leads))
        (back_turn past lefts (ImportEnd j k) (ImportEnd i k) (way_out (contact_at p (ImportEnd i k))) (sym (shared.left.same i k j (met_joined r f p i k j stands leads) leads)) keeps.0.0),
    turned,
  )
  local_left_turn x y past lefts rights s zs (takes_in i j k v stands leads slices) shared keeps turned = tt

  local_right_turn : (x y : Element) (past lefts rights : List Pass) (s : Tokens) (zs : List Element) → Local g r q x y → Shared d f g r p q is left_ports right_ports past lefts rights
      → OutputsKeepTurns q rights (y ∷ zs) → Turned r (after r x past) → OutputTurns r past x
  local_right_turn x y past lefts rights s zs (fires i j k number) shared keeps turned = tt
  local_right_turn x y past lefts rights s zs (puts_out i j k v stands leads slices) shared keeps turned = (
    subst (λ o. ComesInTurn past (ImportEnd j k) (way_out o)) (sym (import_contact (hung_right d f g r p q is) i j k stands leads))
        (back_turn past rights (ImportEnd j k) (ImportEnd i k) (way_out (contact_at q (ImportEnd i k))) (sym (shared.right.same i k j (met_joined r g q i k j stands leads) leads)) keeps.0.0),
    turned,
  )
  local_right_turn x y past lefts rights s zs (takes_in i j k v stands leads slices) shared keeps turned = tt

  pub output_turn : (x : Element) (s t : Tokens) (z : Step d f g r p q x s t) (past lefts rights : List Pass) (ys zs : List Element)
      → Driven d past lefts rights s → Shared d f g r p q is left_ports right_ports past lefts rights
      → OutputsKeepTurns p lefts (left_seen d f g r p q is literals x s t z ++ ys)
      → OutputsKeepTurns q rights (right_seen d f g r p q is literals x s t z ++ zs) → Turned r (after r x past) → OutputTurns r past x
  output_turn x s t (of_left x' y s' t' local sees unseen same) past lefts rights ys zs driven shared left_keeps right_keeps turned =
      local_left_turn x' y past lefts rights s' ys local shared left_keeps turned
  output_turn x s t (of_right x' y s' t' local sees unseen same) past lefts rights ys zs driven shared left_keeps right_keeps turned =
      local_right_turn x' y past lefts rights s' zs local shared right_keeps turned
  output_turn x s t (asked v s' t' small left right state ask ans) past lefts rights ys zs driven shared left_keeps right_keeps turned = tt
  output_turn x s t (told v s' t' left right state ans none ask) past lefts rights ys zs driven shared left_keeps right_keeps turned =
      let (up, rest, empty, value) = when_told (is_open past (ResultEnd 0)) (s'.state d).phase (gate s' Request) (gate s' Answer) v driven.stage ans in
      (subst (λ w. ComesInTurn past (ResultEnd 0) w) (sym (way_told d f g r p q is literals r is.outcome)) up, turned)
  output_turn x s t (starts v s' t' left right rest ask both none ans) past lefts rights ys zs driven shared left_keeps right_keeps turned = tt
  output_turn x s t (left_ends v s' t' left right both next gates) past lefts rights ys zs driven shared left_keeps right_keeps turned = tt
  output_turn x s t (right_ends v s' t' right left both next gates) past lefts rights ys zs driven shared left_keeps right_keeps turned = tt
  output_turn x s t (left_ends_all v s' t' left right phase rest ask ans) past lefts rights ys zs driven shared left_keeps right_keeps turned = tt
  output_turn x s t (right_ends_all v s' t' right left phase rest ask ans) past lefts rights ys zs driven shared left_keeps right_keeps turned = tt
  output_turn x s t (lost j k v s' t' c there not_left not_right left right same) past lefts rights ys zs driven shared left_keeps right_keeps turned = tt
