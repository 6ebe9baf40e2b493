-- A stored number is set by a write, cleared by an entry, and kept otherwise.
--
-- Read first: Stored.
use Rattle.std.proofs.Common.{◌≡◌, suc, ◌+◌, [], ◌∷◌, ◌∙◌, refl, arith}
use Rattle.std.specs.Prelude.{nat_eq, if◌then◌else◌}
use Rattle.gos_netlist.specs.Settling.{at}
use Rattle.gos_data.specs.Stored.{StoredIsKept, KeptIsNotStored}

pub stored_is_kept : StoredIsKept
stored_is_kept w b n stays sets value v regs after (c0, k0, (c1, k1, (c2, k2, nothing))) =
    let left : at v (b + n) ≡ (if nat_eq (at v stays) 1 then at regs (b + suc (suc n)) else 0) =
    c0 ∙ (λ j. if nat_eq (at v stays) 1 then c2 j else 0) in
    (c2, k2 ∙ (c1 ∙ (λ j. if nat_eq (at v sets) 1 then at v value else left j)))

pub kept_is_not_stored : KeptIsNotStored
kept_is_not_stored law =
    let bad : 7 ≡ 0 =
    law (7 ∷ 7 ∷ 7 ∷ 0 ∷ 0 ∷ 0 ∷ []) (0 ∷ 0 ∷ 7 ∷ []) (0 ∷ 0 ∷ 7 ∷ []) (refl, refl, (refl, refl, (refl, refl, tt))) in
    omega (arith, bad)
