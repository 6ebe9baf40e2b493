use Rattle.std.proofs.Common.{◌≡◌, ◌∙◌, take, ◌∷◌, []}
use Rattle.gos_outside.specs.Files.{bytes_at}
use Rattle.gos_command.proofs.EndLemmas.{of_some, stops_after}
use Rattle.gos_tool.specs.Calls.{read_source}
use Rattle.gos_tool.proofs.lemmas.explained.SourceLemmas.{said_file}
use Rattle.gos_tool.proofs.explained.sources.source_in.Goals as goal

pub returns-in-Ok-clause-says : goal.returns-in-Ok-clause-says
returns-in-Ok-clause-says g c =
    let old = g.S.Store.contents c.args.store.now in
    said_file old c.args.source.now c.as_slice.result.now c.in-Ok.read.made
    (of_some (λ files. c.in_ok-text.text.items ≡ take 65537 (bytes_at files c.args.source.now)) (λ files. c.as_slice.result.now ≡ take 65537 (bytes_at files c.args.source.now)) old
    (λ files e. c.as_slice.ensures.value ∙ e) c.in_ok-text.ensures.read)
    c.in-Ok.ensures.says

pub returns-clause-calls : goal.returns-clause-calls
returns-clause-calls g c =
    stops_after _ (read_source c.args.source.now ∷ []) ([]) (g.S.Store.calls c.args.store.now) (g.S.Store.calls c.read_start.new.store) c.reject.ensures.no_store c.in_ok-text.ensures.calls
