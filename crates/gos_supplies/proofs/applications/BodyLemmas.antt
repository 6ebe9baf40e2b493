-- The plan of a function, supplied and applied, realises the body with the argument in it.
use Rattle.std.specs.Prelude.{List, [], ◌∷◌, ◌++◌, Contains}
use Rattle.std.proofs.Common.{sym, subst, arith}
use Rattle.gos_model.specs.Typing.{Imported}
use Rattle.gos_model.specs.Linking.{supplied}
use Rattle.gos_plan.specs.Joining.{Link}
use Rattle.gos_realises.specs.realises.Wirings.{applying}
use Rattle.gos_realises.specs.realises.Realises.{NamesDiffer}
use Rattle.gos_realises.specs.realises.Modules.{Supply, AreSupplied, supplying, term_for}
use Rattle.gos_realises.proofs.realises.PlaceLemmas.{differ_both}
use Rattle.gos_realises.proofs.joined.WholeLemmas.{supplied_is_joined}
use Rattle.gos_joining.proofs.unions.FlatLemmas.{joinings_join}
use Rattle.gos_joining.proofs.unions.FlatFitLemmas.{links_stand}
use Rattle.gos_joining.specs.renumbered.SmallRewirings.{unchanged}
use Rattle.gos_joining.proofs.renumbered.ImportLemmas.{names_same}
use Rattle.gos_joining.proofs.renumbered.OrderLemmas.{reordered}
use Rattle.gos_joining.proofs.renumbered.HigherLemmas.{renumbered_is_realised}
use Rattle.gos_supplies.specs.applications.Opened.{OpenedIsSupplied, BodyIsRealised}
use Rattle.gos_supplies.proofs.applications.SingleLemmas.{alone_joins}
use Rattle.gos_supplies.proofs.applications.TogetherLemmas.{supplied_length, supplied_two, imports_of}
use Rattle.gos_supplies.proofs.applications.OpenedLemmas.{own, is_body}

no_link : (l : Link) → Contains [] l → ⊥
no_link l (k, small, e) = omega (arith, small)

pub opened_is_supplied : OpenedIsSupplied
opened_is_supplied x p q y r z ss u is of_ss of_u of_y of_r of_z =
    let own_size = supplied_length p.imports ss of_ss in
    let applied_joins =
    joinings_join (applying x.ty q.outcome y u.plan) (own x p q y ss u is own_size) r (of_y.joining, (alone_joins u.plan of_u.suits.right, tt))
    (links_stand (supplying p ss) of_y.fits, ((λ l has. absurd (no_link l has)), tt)) (links_stand (applying x.ty q.outcome y u.plan) of_r.fits) of_r.joining
    in
    (unchanged, is_body x p q y ss u is own_size r z applied_joins of_z.joining)

pub body_is_realised : BodyIsRealised
body_is_realised x p q y r ss u m is open_q of_ss of_y names_y of_u apart of_r =
    let us : List Supply = ss ++ (u ∷ []) in
    let are_q : AreSupplied q.imports us =
    subst (λ (l : List Imported). AreSupplied l us) (sym is.imports) (supplied_two p.imports (x ∷ []) ss (u ∷ []) of_ss (of_u, tt))
    in
    let (z, of_z) = supplied_is_joined q us is.body_right are_q in
    let (g, same) = opened_is_supplied x p q y r z ss u is of_ss of_u of_y of_r of_z in
    let names_r : NamesDiffer r.imports =
    subst NamesDiffer (sym (imports_of x.ty q.outcome y u.plan r of_r)) (differ_both y.imports u.plan.imports names_y of_u.suits.names apart)
    in
    let names_z = names_same g.import g.import_back r.imports z.imports (reordered g r z same) names_r in
    renumbered_is_realised g r z q.outcome (supplied (term_for q.imports us) m) same (open_q us z are_q of_z names_z)
