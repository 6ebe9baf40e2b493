-- The joinings of a still plan with an argument, and its sides, are still.
use Rattle.std.specs.Prelude.{ℕ, zero, suc, [], ◌∷◌, All}
use Rattle.std.proofs.Common.{refl, subst, arith}
use Rattle.gos_plan.specs.Plans.{Plan}
use Rattle.gos_plan.specs.Joining.{Link}
use Rattle.gos_plan.specs.TokenBits.{LiteralFits}
use Rattle.gos_realises.specs.realises.Regular.{count, IsRegular}
use Rattle.gos_realises.specs.realises.Wirings.{results_linked, side, applying}
use Rattle.gos_realises.proofs.joined.WholeLemmas.{applied_is_joined, sides_are_joined}
use Rattle.gos_supplies.proofs.turns.ApplyLemmas.{ported, composes, all_of}
use Rattle.gos_supplies.proofs.turns.SideLemmas.{no_ports, one_of, first_composes, second_composes}
use Rattle.gos_supplies.proofs.turns.PassLemmas.{passes_turns}
use Rattle.gos_sharing.specs.cores.Joined.{IsOuter, AllOuter, ApplyingIsStill, SidesAreStill}
use Rattle.gos_sharing.proofs.cores.CoreLemmas.{live, live_right}
use Rattle.gos_sharing.proofs.cores.RegularLemmas.{core_regular}
use Rattle.gos_sharing.proofs.cores.StillLemmas.{joined_still}

results_from : (n m : ℕ) → AllOuter (results_linked 1 n m)
results_from n zero l (k, small, is) = absurd (omega (arith, small))
results_from n (suc m) l (zero, small, is) = subst (λ (k : Link). IsOuter k.one.plan k.one.end × IsOuter k.other.plan k.other.end) is (tt, tt)
results_from n (suc m) l (suc k, small, is) = results_from (suc n) m l (k, omega (arith, small), is)

pub results_outer : (n : ℕ) → AllOuter (results_linked 1 0 n)
results_outer n = results_from 0 n

pub none_outer : AllOuter []
none_outer l (k, small, is) = absurd (omega (arith, small))

pub applying_is_still : ApplyingIsStill
applying_is_still f r c q x y a b is still r_type q_type r_literals q_literals c_regular q_regular of_x of_y =
    let regular = core_regular f r c is still c_regular in
    let (z, of_z) = applied_is_joined a b (live f r c is) q (live_right f r c is) (of_x.fits.right 1 q refl) r_type q_type in
    let ports = ported a b r q x r_type q_type in
    joined_still f r c is (q ∷ []) (results_linked 1 0 (count a)) (results_outer (count a)) 0 (count a) b x z y of_x.joining of_z.joining of_y.joining still of_x.fits ports
    (all_of a b r q x r_type q_type IsRegular regular q_regular)
    (all_of a b r q x r_type q_type (λ (p : Plan). All LiteralFits p.parts) r_literals q_literals)
    (passes_turns (applying a b r q) x of_x.fits ports of_x.joining (composes a b r q x r_type q_type))

pub sides_are_still : SidesAreStill
sides_are_still f r c x y a b is still r_type literals c_regular = (
  λ of_x of_y.
      (let (z, of_z) = (sides_are_joined a b (live f r c is) (live_right f r c is) r_type).0 in
      let ports = no_ports a b r r_type 0 a in
      joined_still f r c is [] [] none_outer 0 0 a x z y of_x.joining of_z.joining of_y.joining still of_x.fits ports (one_of a b r r_type IsRegular regular)
      (one_of a b r r_type (λ (p : Plan). All LiteralFits p.parts) literals)
      (passes_turns (side 0 a r) x of_x.fits ports of_x.joining (first_composes a b r r_type x of_x.fits of_x.joining))),
  λ of_x of_y.
      (let (z, of_z) = (sides_are_joined a b (live f r c is) (live_right f r c is) r_type).1 in
      let ports = no_ports a b r r_type (count a) b in
      joined_still f r c is [] [] none_outer 0 (count a) b x z y of_x.joining of_z.joining of_y.joining still of_x.fits ports (one_of a b r r_type IsRegular regular)
      (one_of a b r r_type (λ (p : Plan). All LiteralFits p.parts) literals)
      (passes_turns (side (count a) b r) x of_x.fits ports of_x.joining (second_composes a b r r_type x of_x.fits of_x.joining))),
)
  where
    regular : IsRegular r
    regular = core_regular f r c is still c_regular
