-- A plan that is quiet after its request, without an answer or an output, realises no command and no expression.
use Rattle.std.specs.Prelude.{◌≡◌, List, [], ◌∷◌, ◌++◌}
use Rattle.std.proofs.Common.{refl, sym, ◌∙◌, subst}
use Rattle.gos_types.specs.Types.{Type', IsDone}
use Rattle.gos_model.specs.Terms.{Term}
use Rattle.gos_model.specs.Labels.{given}
use Rattle.gos_model.specs.Moves.{Program, Config, Idle, Running, Act, Moves, labels}
use Rattle.gos_model.specs.Protocol.{KeepsProtocol}
use Rattle.gos_model.proofs.MoveLemmas.{moves_then, labels_then}
use Rattle.gos_plan.specs.Plans.{Plan}
use Rattle.gos_plan.specs.Tokens.{Tokens, Element, Runs, IsQuiet}
use Rattle.gos_realises.specs.realises.Matched.{all_shown, Agrees, IsMatched, program_of, RealisesInTurn, RealisesDone}
use Rattle.gos_realises.specs.realises.Realises.{Suits}
use Rattle.gos_realises.proofs.realises.PortInputLemmas.{realising_is_by_turns}
use Rattle.gos_supplies.proofs.progress.WaitLemmas.{source_waits, unasked}
use Rattle.gos_supplies.proofs.progress.ProgressLemmas.{unasked_runs_go_on}
use Rattle.gos_sharing.proofs.ground_types.TokenLemmas.{resting, resting_idle}

-- where a matched list ends
abbrev Ends : Plan → Program → List Element → Tokens → Config → Type 0
Ends p g xs t a = (acts : List Act) × (b : Config) × Moves g acts a b × (labels acts ≡ all_shown p xs) × Agrees p g t b

ends : (p : Plan) (g : Program) (xs : List Element) (s t : Tokens) (a : Config) → IsMatched p g xs s a → Runs p xs s t → Ends p g xs t a
ends p g [] s t a matched runs = ([], a, refl, refl, subst (λ (x : Tokens). Agrees p g x a) (sym runs) matched)
ends p g (x ∷ xs) s t a matched (w, does, runs) =
    let (acts, b, moves, shown, goes, rest) = matched.1 w does in
    let (others, e, then, told, agrees) = ends p g xs w t b rest runs in
    (acts ++ others, e, moves_then g acts others a b e moves then, labels_then acts others ∙ (λ i. shown i ++ told i), agrees)

pub never_quiet : (p : Plan) (t : Type') (m : Term) (xs : List Element) (s : Tokens)
    → IsDone t → Suits t p m → RealisesInTurn p m → Runs p xs resting s → all_shown p xs ≡ given 0 0 ∷ [] → IsQuiet p s → ⊥
never_quiet p t m xs s done suits realises runs shown quiet =
    by_end (ends p (program_of p m) xs resting s Idle (by_protocol resting s xs (resting_idle p) runs keeps).0 runs)
  where
    by_protocol : RealisesDone p m
    by_protocol = (realising_is_by_turns p m suits.regular suits.all_ports suits.names (subst IsDone (sym suits.outcome) done)).1 realises

    keeps : KeepsProtocol p.imports (all_shown p xs)
    keeps = subst (KeepsProtocol p.imports) (sym shown) (λ h. (refl, refl, refl), tt)

    by_end : Ends p (program_of p m) xs s Idle → ⊥
    by_end (acts, Idle, moves, e, agrees) =
        unasked (program_of p m) acts Idle (source_waits p.imports [] m t suits.typed) moves (e ∙ shown)
    by_end (acts, Running u store, moves, e, agrees) =
        unasked_runs_go_on (program_of p m) t acts u store suits.all_ports suits.typed done moves (e ∙ shown) (agrees.0 quiet)
