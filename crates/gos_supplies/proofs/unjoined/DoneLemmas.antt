-- The whole realises what the plan realises, of commands and expressions.
use Rattle.std.specs.Prelude.{◌≡◌, ℕ, List, [], ◌∷◌, ◌++◌, Option, Some, None}
use Rattle.std.proofs.Common.{refl, sym, ◌∙◌, ap, subst}
use Rattle.gos_types.specs.Events.{Direction, Request, Answer}
use Rattle.gos_model.specs.Terms.{Term}
use Rattle.gos_model.specs.Moves.{Program, Config, Idle, Running, Act, Move, Moves, Stalled}
use Rattle.gos_model.proofs.MoveLemmas.{moves_then}
use Rattle.gos_plan.specs.Firing.{Rest, Req, Ans}
use Rattle.gos_plan.specs.Plans.{End, PartEnd, ImportEnd, ResultEnd, Plan}
use Rattle.gos_plan.specs.Tokens.{Tokens, Element, Fire, Out, In, Runs, IsIdle}
use Rattle.gos_plan.specs.Orderly.{IsOrderly}
use Rattle.gos_realises.specs.realises.Matched.{port_if, event_number, shows, GoesOn, Agrees, IsMatched, program_of, RealisesInTurn}
use Rattle.gos_realises.specs.realises.Regular.{InputsKeepTurns}
use Rattle.gos_realises.specs.realises.Realises.{NamesDiffer}
use Rattle.gos_programs.specs.contexts.Widening.{AreAmong, Knows}
use Rattle.gos_programs.proofs.contexts.WideningLemmas.{runs_known, move_widens, waits_widely}
use Rattle.gos_realises.proofs.realises.PlaceLemmas.{place_of, contains_at}
use Rattle.gos_supplies.specs.unjoined.Beside.{Placing}
use Rattle.gos_supplies.proofs.unjoined.PlacedLemmas.{IsPlaced, end_in, placed_in}
use Rattle.gos_supplies.proofs.unjoined.TokenLemmas.{set, set_list, own_tokens, own_idle, token_own, firing_own, does_own, runs_own, quiet_own}
use Rattle.gos_supplies.proofs.unjoined.StillLemmas.{IsStill, idle_still, stays_still}
use Rattle.gos_supplies.proofs.unjoined.OrderLemmas.{ordered_whole}
use Rattle.gos_supplies.proofs.unjoined.TurnLemmas.{inputs_own}
use Rattle.gos_supplies.proofs.unjoined.RegularLemmas.{all_own}
use Rattle.gos_supplies.proofs.unjoined.ImportLemmas.{AllAmong, among}

pub own_imports : (f : Placing) (r c : Plan) → IsPlaced f r c → AllAmong c.imports r.imports
own_imports f r c is i has = let (n, at) = place_of c.imports i has in contains_at r.imports (f.import n) i (is.imports n ∙ at)

module _ (f : Placing) (r c : Plan) (is : IsPlaced f r c) where
  -- what is shown
  shows_whole : (x : Element) → shows r (set f x) ≡ shows c x
  shows_whole (Fire i t) = refl
  shows_whole (Out (PartEnd i h) v) = refl
  shows_whole (Out (ImportEnd i h) v) = λ k. record { port = port_if (is.imports i k); event = event_number Request h; value = v } ∷ []
  shows_whole (Out (ResultEnd h) v) = refl
  shows_whole (In (PartEnd i h) v) = refl
  shows_whole (In (ImportEnd i h) v) = λ k. record { port = port_if (is.imports i k); event = event_number Answer h; value = v } ∷ []
  shows_whole (In (ResultEnd h) v) = refl

  goes_whole : (x : Element) (s : Tokens) (acts : List Act) → GoesOn c (own_tokens f s) x acts → GoesOn r s (set f x) acts
  goes_whole (Fire i (Req h)) s acts goes = tt
  goes_whole (Fire i (Ans h)) s acts goes = λ v x lies fires.
      goes v x (sym (token_own f r c is s (PartEnd i h) Answer) ∙ lies) (sym (firing_own f r c is i (Ans h) s) ∙ fires)
  goes_whole (Out e v) s acts goes = tt
  goes_whole (In e v) s acts goes = tt

  pub idle_whole : (s : Tokens) → IsStill f s → IsIdle c (own_tokens f s) → IsIdle r s
  idle_whole s still idle = (
    λ way e. at_end way e (end_in f e) refl,
    λ i. at_part i (f.number i) refl,
  )
    where
      at_end : (way : Direction) (e : End) (o : Option End) → end_in f e ≡ o → s.in_place way e ≡ None
      at_end way e None loose = still.places way e loose
      at_end way e (Some d) own = ap (s.in_place way) (sym (placed_in f r c is e d own)) ∙ idle.0 way d

      at_part : (i : ℕ) (o : Option ℕ) → f.number i ≡ o → (s.state i).phase ≡ Rest
      at_part i None loose = still.states i loose
      at_part i (Some j) own = ap (λ (k : ℕ). (s.state k).phase) (sym (is.number_part i j own)) ∙ idle.1 j

  module _ (m : Term) (names : NamesDiffer r.imports) where
    abbrev small : Program
    small = program_of c m

    abbrev large : Program
    large = program_of r m

    more : AreAmong c.imports r.imports
    more = among c.imports r.imports names (own_imports f r c is)

    -- moves under more imports
    move_whole : (a : Act) (x y : Config) → Move small a x y → Move large a x y
    move_whole a Idle y h = h
    move_whole a (Running t u) y h = move_widens small large a t u y more h

    moves_whole : (acts : List Act) (x y : Config) → Moves small acts x y → Moves large acts x y
    moves_whole [] x y h = h
    moves_whole (a ∷ acts) x y (z, h, hs) = (z, move_whole a x z h, moves_whole acts z y hs)

    module _ (knows : Knows c.imports m) where
      abbrev Reached : Config → Type 0
      Reached x = (acts : List Act) × Moves small acts Idle x

      stalled_whole : (x : Config) → Reached x → Stalled small x → Stalled large x
      stalled_whole Idle reached stalled = stalled
      stalled_whole (Running t u) (acts, moves) stalled = waits_widely small large t u more (runs_known small acts t u knows moves) stalled

      agrees_whole : (s : Tokens) (x : Config) → IsStill f s → Reached x → Agrees c small (own_tokens f s) x → Agrees r large s x
      agrees_whole s x still reached agrees = (
        λ quiet. stalled_whole x reached (agrees.0 (quiet_own f r c is s quiet)),
        λ e. idle_whole s still (agrees.1 e),
      )

      matched_whole : (xs : List Element) (s : Tokens) (x : Config) → IsStill f s → Reached x
          → IsMatched c small xs (own_tokens f s) x → IsMatched r large (set_list f xs) s x
      matched_whole [] s x still reached matched = agrees_whole s x still reached matched
      matched_whole (y ∷ xs) s x still reached (agrees, after) = (
        agrees_whole s x still reached agrees,
        λ t does.
            let (acts, d, moves, shown, goes, rest) = after (own_tokens f t) (does_own f r c is y s t does) in (
              acts,
              d,
              moves_whole acts x d moves,
              shown ∙ sym (shows_whole y),
              goes_whole y s acts goes,
              matched_whole xs t d (stays_still f r c is y s t still does)
                  (reached.0 ++ acts, moves_then small reached.0 acts Idle x d reached.1 moves) rest,
            ),
      )

      placed_done : RealisesInTurn c m → (xs : List Element) (s t : Tokens) → IsIdle r s → Runs r (set_list f xs) s t
          → InputsKeepTurns r [] (set_list f xs) → IsMatched r large (set_list f xs) s Idle × IsOrderly r (set_list f xs) s
      placed_done done xs s t idle runs turns =
          let both = done (own_tokens f s) (own_tokens f t) xs (own_idle f r c s idle) (runs_own f r c is xs s t runs) (inputs_own f r c is xs [] turns) in (
            matched_whole xs s Idle (idle_still f r s idle) ([], refl) both.0,
            ordered_whole f r c is xs s t (idle_still f r s idle) runs both.1,
          )

      pub whole_done : RealisesInTurn c m → RealisesInTurn r m
      whole_done done s t xs idle runs turns =
          let (ys, e) = all_own f r c is xs s t [] (idle_still f r s idle) runs turns in
          subst (λ (zs : List Element). IsMatched r large zs s Idle × IsOrderly r zs s) (sym e)
          (placed_done done ys s t idle (subst (λ (zs : List Element). Runs r zs s t) e runs) (subst (InputsKeepTurns r []) e turns))
