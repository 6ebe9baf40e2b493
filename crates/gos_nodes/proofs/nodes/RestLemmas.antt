-- What realises a command or an expression rests after its answer, since the program is idle then.
use Rattle.std.specs.Prelude.{◌≡◌, ℕ, List, [], ◌∷◌, ◌++◌}
use Rattle.std.proofs.Common.{arith, sym, ap, subst, ◌∙◌}
use Rattle.gos_types.specs.Types.{IsDone}
use Rattle.gos_model.specs.Labels.{given}
use Rattle.gos_model.specs.Moves.{Program, Config, Idle, Running, Act, Moves, labels}
use Rattle.gos_plan.specs.Plans.{ResultEnd, Plan}
use Rattle.gos_plan.specs.Tokens.{Tokens, Element, Out, Runs, IsIdle}
use Rattle.gos_realises.specs.realises.Matched.{IsMatched, program_of}
use Rattle.gos_nodes.specs.nodes.Realised.{RealisersRest}
use Rattle.gos_programs.proofs.contexts.SilentLemmas.{idle_shows, answer_last}
use Rattle.gos_nodes.proofs.nodes.PortLemmas.{answer_shown}

-- after its answer a program is idle
pub ends_idle : (p : Program) (acts : List Act) (c d : Config) (v : ℕ) → Moves p acts c d → labels acts ≡ given 1 v ∷ [] → d ≡ Idle
ends_idle p acts Idle d v h e =
    let event : 1 ≡ 0 = ap (λ o. o.event) (idle_shows p acts d (given 1 v) [] h e) in absurd (omega (arith, event))
ends_idle p acts (Running m s) d v h e = (answer_last p acts m s d v h e).6

rests_after : (p : Plan) (g : Program) (v : ℕ) → IsDone p.outcome → (xs : List Element) (s t : Tokens) (c : Config)
    → IsMatched p g (xs ++ Out (ResultEnd 0) v ∷ []) s c → Runs p (xs ++ Out (ResultEnd 0) v ∷ []) s t → IsIdle p t
rests_after p g v done [] s t c (agrees, next) (u, does, e) =
    let n = next u does in
    subst (λ (x : Tokens). IsIdle p x) (sym e) (n.5.1 (ends_idle g n.0 c n.1 v n.2 (n.3 ∙ answer_shown p v done)))
rests_after p g v done (x ∷ xs) s t c (agrees, next) (u, does, runs) =
    let n = next u does in rests_after p g v done xs u t n.1 n.5 runs

pub realisers_rest : RealisersRest
realisers_rest p m done realises s t xs v idle runs turns =
    rests_after p (program_of p m) v done xs s t Idle (realises s t (xs ++ Out (ResultEnd 0) v ∷ []) idle runs turns).0 runs
