-- A plan whose imports are ground realises its term where it does so with any supplies, and keeps pace.
use Rattle.std.specs.Prelude.{◌≡◌}
use Rattle.std.proofs.Common.{sym, ◌∙◌, subst}
use Rattle.gos_realises.specs.realises.Realises.{NamesDiffer, Realises}
use Rattle.gos_realises.specs.realises.Modules.{term_for, supplying}
use Rattle.gos_realises.proofs.joined.WholeLemmas.{supplied_is_joined}
use Rattle.gos_joining.proofs.webs.IdleLemmas.{renumbered_back}
use Rattle.gos_joining.specs.renumbered.SmallRewirings.{unchanged}
use Rattle.gos_joining.proofs.renumbered.HigherLemmas.{renumbered_is_realised}
use Rattle.gos_supplies.proofs.typing.LeftLemmas.{imports_are_of_supplies}
use Rattle.gos_supplies.specs.names.Names.{NameIsRealised}
use Rattle.gos_supplies.specs.ports.Ports.{OpenIsRealised, OpenIsDone}
use Rattle.gos_supplies.proofs.ports.ShadowLemmas.{shadow_is_it}
use Rattle.gos_supplies.proofs.ports.OwnLemmas.{own_supplies, own_are, own_term, supplied_stays, parts_stay, own_imports, own_stand, own_home, own_shadow}
use Rattle.gos_supplies.proofs.progress.RealiserLemmas.{by_protocol}

pub open_is_realised : NameIsRealised → OpenIsRealised
open_is_realised named p m right ground wide differ any =
    let ss = own_supplies p.imports in
    let are = own_are named p.imports ground wide in
    let (r, joined) = supplied_is_joined p ss right are in
    let imports : r.imports ≡ p.imports = imports_are_of_supplies p r ss joined.joining ∙ own_imports p.imports in
    let parts : r.parts ≡ p.parts = joined.joining.parts ∙ parts_stay p in
    let same =
    shadow_is_it (supplying p ss) p r own_stand own_home right joined.joining parts imports joined.joining.outcome (own_shadow p)
    in
    let realised = any ss r are joined (subst NamesDiffer (sym imports) differ) in
    renumbered_is_realised unchanged p r p.outcome m (renumbered_back unchanged r p same)
    (subst (Realises p.outcome r) (supplied_stays (term_for p.imports ss) (own_term p.imports) m) realised)

pub open_is_done : OpenIsRealised → OpenIsDone
open_is_done law p m right ground wide differ any done =
    let realised = law p m right ground wide differ any in (realised.suits.regular, by_protocol p.outcome p m done realised)
