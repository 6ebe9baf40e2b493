use Rattle.gos_link.proofs.CountedLemmas.{keeps_limits}
use Rattle.std.proofs.Common.{◌∷◌, []}
use Rattle.gos_command.proofs.EndLemmas.{stops_after}
use Rattle.gos_tool.specs.Calls.{read_object}
use Rattle.gos_tool.proofs.circuits.objects.plan_in.Goals as goal

pub returns-in-Ok-clause-limits : goal.returns-in-Ok-clause-limits
returns-in-Ok-clause-limits g c = keeps_limits _ _ c.in-Ok.ensures.read

pub returns-clause-calls : goal.returns-clause-calls
returns-clause-calls g c =
    stops_after _ (read_object c.args.object.now ∷ []) ([]) (g.S.Store.calls c.args.store.now) (g.S.Store.calls c.read_file.new.store) c.reject.ensures.no_store c.in_ok-text.ensures.calls
