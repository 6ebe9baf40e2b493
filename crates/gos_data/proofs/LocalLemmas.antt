-- How many cells a local variable has.
use Rattle.std.proofs.Common.{◌≡◌, ℕ, zero, suc, ◌<◌, refl, arith}
use Rattle.gos_data.specs.inner.Sizes.{local_size}

pub nine_or_ten : (v : ℕ) → 0 < v → local_size v ≡ 10
nine_or_ten zero some = absurd (omega (arith, some))
nine_or_ten (suc v) some = refl
