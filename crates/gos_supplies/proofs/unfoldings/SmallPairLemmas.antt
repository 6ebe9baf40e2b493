-- The plan of `skip` and the sides of a small pair.
use Rattle.std.specs.Prelude.{◌≡◌, []}
use Rattle.std.proofs.Common.{refl, arith}
use Rattle.gos_types.specs.Types.{Com, Exp}
use Rattle.gos_model.specs.Terms.{Skip, Lit, Both, Fst}
use Rattle.gos_model.specs.Typing.{Typed}
use Rattle.gos_plan.specs.SmallPlans.{skip_plan}
use Rattle.gos_realises.proofs.realises.SkipLemmas.{skip_is_realised}
use Rattle.gos_supplies.specs.unfoldings.SmallPairs.{SideIsSkip, SideIsNumber}
use Rattle.gos_supplies.proofs.unfoldings.PairLemmas.{first_of_both}

pub side_is_skip : SideIsSkip
side_is_skip = first_of_both Com skip_plan Skip (Lit 0 1) typed skip_is_realised
  where
    typed : Typed [] [] (Fst (Both Skip (Lit 0 1))) Com
    typed = (Exp 1, (Com, Exp 1, refl, refl, (refl, (omega arith, omega arith), omega arith)))

pub side_is_number : SideIsNumber
side_is_number realised =
    let (a, (c, d, same, of_skip, (is_number, width, small))) = realised.suits.typed in
    let second : Com ≡ d = cc same in
    cc (second, is_number)
