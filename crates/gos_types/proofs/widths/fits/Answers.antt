use Rattle.std.proofs.Common.{◌≤◌, ◌^◌, arith, refl}
use Rattle.std.proofs.Math.Pow.{pow_mono}
use Rattle.gos_types.proofs.widths.fits.Goals as goal

pub returns-then-width-ge-BITS : goal.returns-then-width-ge-BITS
returns-then-width-ge-BITS c =
    let wide : 64 ≤ c.args.width = omega arith in
    let room : 2 ^ 64 ≤ 2 ^ c.args.width = pow_mono wide in
    (λ _. omega (arith, room), λ _. refl)
