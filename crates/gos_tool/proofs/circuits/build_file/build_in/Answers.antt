use Rattle.std.proofs.Common.{ℕ, List, ap, sym, subst, ◌∷◌, []}
use Rattle.std.specs.Prelude.{IfSome}
use Rattle.gos_outside.specs.Files.{bytes_at}
use Rattle.gos_command.specs.Files.{IsReadWhole}
use Rattle.gos_tool.proofs.lemmas.circuits.LinkLemmas.{says_build}
use Rattle.gos_command.proofs.EndLemmas.{stops_after}
use Rattle.gos_tool.specs.Calls.{read_build_file}
use Rattle.gos_link.specs.BuildFile.{IsFirstWrong}
use Rattle.gos_command.specs.declared.status.Cause.TheVariants.{Link}
use Rattle.gos_command.specs.declared.status.Fault.{Fault}
use Rattle.gos_tool.specs.Causes.{OfBuild}
use Rattle.gos_tool.proofs.lemmas.StopLemmas.{stops_for, of_form}
use Rattle.gos_tool.proofs.circuits.build_file.build_in.Goals as goal

pub returns-in-Ok-clause-read : goal.returns-in-Ok-clause-read
returns-in-Ok-clause-read g c = (c.as_slice.result.now, c.in-Ok.ensures.read)

pub returns-in-Ok-clause-says : goal.returns-in-Ok-clause-says
returns-in-Ok-clause-says g c =
    let old = g.S.Store.contents c.args.store.now in
    let own = c.args.own.now in
    says_build old own c.as_slice.result.now c.in-Ok.build
    (subst (λ (text : List ℕ). IfSome old (λ files. IsReadWhole 65536 text (bytes_at files own))) (sym c.as_slice.ensures.value) c.in_ok-text.ensures.read)
    c.in-Ok.ensures.read

pub returns-clause-kind : goal.returns-clause-kind
returns-clause-kind g c =
    let fault = c.in-Err.fault in
    stops_for (OfBuild ∷ []) (Link fault) c.reject.result _ (of_form fault (IsFirstWrong c.as_slice.result.now c.args.own.now) c.in-Err.ensures.fault)
    (λ fault line is. (ap (λ (f : Fault). f.cause) is.0, is.1)) c.reject.ensures.stopped

pub returns-clause-calls : goal.returns-clause-calls
returns-clause-calls g c =
    stops_after _ (read_build_file c.args.own.now ∷ []) ([]) (g.S.Store.calls c.args.store.now) (g.S.Store.calls c.read_file.new.store) c.reject.ensures.no_store c.in_ok-text.ensures.calls
