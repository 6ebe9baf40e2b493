use Rattle.std.proofs.Common.{◌≡◌, List, Some, length, refl, subst, sym}
use Rattle.std.specs.Prelude.{get_or, slice_get}
use Rattle.std.proofs.lemmas.Option.{slice_get_read}
use Rattle.gos_link.specs.declared.services.Service.{Service}
use Rattle.gos_link.proofs.ServedLemmas.{bound_line, bound_none}
use Rattle.gos_link.proofs.served.Services.first_bound.Goals as goal

pub returns-in-Some : goal.returns-in-Some
returns-in-Some c =
    let s : Service = c.index.result.now in
    let is = subst (λ (ss : List Service). s ≡ get_or ss c.in-Some.number s) c.self.view_is c.index.ensures in
    let at : slice_get c.args.self.now c.in-Some.number ≡ Some s =
    slice_get_read c.args.self.now (length c.args.self.now) c.in-Some.number s refl c.in-Some.ensures.within is in
    sym (bound_line c.args.self.now c.args.user c.args.import c.in-Some.number s (sym c.in-Some.ensures.number) at)

pub returns-in-None : goal.returns-in-None
returns-in-None c = sym (bound_none c.args.self.now c.args.user c.args.import (sym c.in-None.ensures.number))
