-- Who asks, by the handshakes from one on.
--
-- Read first: Thread.
use Rattle.std.proofs.Common.{◌≡◌, ℕ, zero, suc, false, List, [], ◌∷◌, refl}
use Rattle.std.specs.Prelude.{drop}
use Rattle.gos_plan.specs.Kinds.{Contact}
use Rattle.gos_fast_share.specs.Thread.{is_asked, asked_at}

pub asked_there : (ks : List Contact) (j : ℕ) (k : Contact) (rest : List Contact) → drop j ks ≡ k ∷ rest → asked_at ks j ≡ is_asked k.role
asked_there [] zero k rest there = absurd (cc there)
asked_there [] (suc j) k rest there = absurd (cc there)
asked_there (x ∷ ks) zero k rest there = let same : x ≡ k = cc there in λ i. is_asked (same i).role
asked_there (x ∷ ks) (suc j) k rest there = asked_there ks j k rest there

pub asked_nowhere : (ks : List Contact) (j : ℕ) → drop j ks ≡ [] → asked_at ks j ≡ false
asked_nowhere [] zero none = refl
asked_nowhere [] (suc j) none = refl
asked_nowhere (x ∷ ks) zero none = absurd (cc none)
asked_nowhere (x ∷ ks) (suc j) none = asked_nowhere ks j none
