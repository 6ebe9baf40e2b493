-- Regions that have their imports, and one that has not.
use Rattle.std.specs.Prelude.{◌≡◌, zero, suc, false, true}
use Rattle.std.proofs.Common.{refl, sym, subst, arith}
use Rattle.gos_plan.specs.Plans.{PartEnd, ImportEnd, Joint, stands_in}
use Rattle.gos_joining.specs.webs.Webs.{joint}
use Rattle.gos_joining.specs.webs.Cutting.{StandsIn}
use Rattle.gos_sharing.specs.behind.SmallSource.{argument, WholeHasImports, ArgumentHasNot}

pub whole_has_imports : WholeHasImports
whole_has_imports n h m l g x stood at_m at_l role joined = (m, g, joined, refl)

not_there : StandsIn argument (ImportEnd 0 1) → ⊥
not_there (j, (zero, small, is), stands) =
    let one : joint (ImportEnd 0 0) (PartEnd 0 0) ≡ j = cc is in
    let never : false ≡ true = subst (λ (x : Joint). stands_in (ImportEnd 0 1) x ≡ true) (sym one) stands in
    cc never
not_there (j, (suc k, small, is), stands) = omega (arith, small)

pub argument_has_not : ArgumentHasNot
argument_has_not has =
    let (k, j, stood, same) = has 0 0 0 0 1 _ (_, (0, omega arith, refl), refl) refl refl refl (_, (1, omega arith, refl), refl) in
    not_there (subst (StandsIn argument) same stood)
