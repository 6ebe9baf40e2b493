use Rattle.std.proofs.Common.{◌≤◌, ◌^◌, arith}
use Rattle.std.proofs.Math.Pow.{pow_mono}
use Rattle.gos_types.proofs.laws.greatest_numbers.Goals as goal

pub returns-clause-room : goal.returns-clause-room
returns-clause-room c = λ v w k narrower small.
    let room : 2 ^ v ≤ 2 ^ w = pow_mono narrower in
    omega (arith, small, room)
