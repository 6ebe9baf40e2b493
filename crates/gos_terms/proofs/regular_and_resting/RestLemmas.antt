-- Where a plan of a command or an expression rests; and turns after an output.
use Rattle.std.proofs.Common.{ℕ, List, [], ◌∷◌, ◌++◌, sym, subst}
use Rattle.gos_types.specs.Types.{IsDone}
use Rattle.gos_plan.specs.Plans.{End, Plan}
use Rattle.gos_plan.specs.Tokens.{Tokens, Element, Out, Runs, IsIdle}
use Rattle.gos_realises.specs.realises.Regular.{InputsKeepTurns, IsRegular}
use Rattle.gos_realises.proofs.realises.InputLemmas.{passed, passed_then, outputs_last}
use Rattle.gos_supplies.specs.turns.Rests.{Rests}
use Rattle.gos_nodes.specs.windows.Nodes.{IsRestful}
use Rattle.gos_nodes.proofs.windows.TurnLemmas.{Turned}
use Rattle.gos_nodes.proofs.resting.RestfulLemmas.{restful_rests}

pub rests_after_answers : (p : Plan) → IsDone p.outcome → IsRegular p → Rests p → IsRestful p
rests_after_answers p done regular = (restful_rests p done regular).1

pub rests_where_restful : (p : Plan) → IsDone p.outcome → IsRegular p → IsRestful p → Rests p
rests_where_restful p done regular = (restful_rests p done regular).0

pub last_turned : (p : Plan) → IsRegular p → (s t : Tokens) (xs : List Element) (e : End) (v : ℕ) → IsIdle p s → Runs p (xs ++ Out e v ∷ []) s t
    → InputsKeepTurns p [] (xs ++ Out e v ∷ []) → Turned p (passed p [] (xs ++ Out e v ∷ []))
last_turned p regular s t xs e v idle runs turns =
    let all = (regular s t (xs ++ Out e v ∷ []) idle runs turns).1 in
    subst (Turned p) (sym (passed_then p [] xs (Out e v))) (outputs_last p [] xs (Out e v ∷ []) all).0.1
