-- Registers, one after another: how far they are loaded, and how far they have taken over.
use Rattle.std.specs.Prelude.{◌≡◌, ◌≢◌, ℕ, ◌+◌, ◌<◌, ◌⊎◌, List, All, Some, length, set, slice_get}
use Rattle.std.proofs.Common.{ap, sym, subst, inl, inr, ◌∙◌, get_or-set_same, get_or-set_other, below_more}
use Rattle.std.proofs.lemmas.Bool.{cases_eq}
use Rattle.gos_netlist.specs.Settling.{Numbers, at}
use Rattle.gos_sim.specs.declared.program.Latch.{Latch}
use Rattle.gos_sim.specs.inner.Running.{HaveOnePin}
use Rattle.gos_sim.proofs.PlaceLemmas.{all_at, same_element}

-- the nets of the registers before place k have what these hold
abbrev pub AreLoadedBefore : List Latch → Numbers → ℕ → Numbers → Type 0
AreLoadedBefore latches registers k v = (j : ℕ) → j < k → (l : Latch) → slice_get latches j ≡ Some l → at v l.net ≡ at registers l.net

-- the registers before place k hold what their pins have
abbrev pub AreTakenBefore : List Latch → Numbers → ℕ → Numbers → Type 0
AreTakenBefore latches v k registers = (j : ℕ) → j < k → (l : Latch) → slice_get latches j ≡ Some l → at registers l.net ≡ at v l.pin

-- one register more is loaded
pub loaded_more : (latches : List Latch) (registers v : Numbers) (k : ℕ) (l : Latch) → slice_get latches k ≡ Some l → l.net < length v
    → AreLoadedBefore latches registers k v → AreLoadedBefore latches registers (k + 1) (set v l.net (at registers l.net))
loaded_more latches registers v k l is low before =
    below_more (λ j. (r : Latch) → slice_get latches j ≡ Some r → at (set v l.net (at registers l.net)) r.net ≡ at registers r.net) k
    (λ j below r at_j. by_net r (before j below r at_j) (cases_eq r.net l.net))
    (λ r at_k. subst (λ (m : Latch). at (set v l.net (at registers l.net)) m.net ≡ at registers m.net) (same_element latches k l r is at_k)
    (get_or-set_same v l.net (at registers l.net) 0 low))
  where
    by_net : (r : Latch) → at v r.net ≡ at registers r.net → (r.net ≡ l.net) ⊎ (r.net ≢ l.net)
        → at (set v l.net (at registers l.net)) r.net ≡ at registers r.net
    by_net r old (inl same) =
        ap (at (set v l.net (at registers l.net))) same ∙ (get_or-set_same v l.net (at registers l.net) 0 low ∙ ap (at registers) (sym same))
    by_net r old (inr apart) = get_or-set_other v l.net r.net (at registers l.net) 0 apart ∙ old

-- one register more has taken over
pub taken_more : (latches : List Latch) (v registers : Numbers) (k : ℕ) (l : Latch) → HaveOnePin latches → slice_get latches k ≡ Some l → l.net < length registers
    → AreTakenBefore latches v k registers → AreTakenBefore latches v (k + 1) (set registers l.net (at v l.pin))
taken_more latches v registers k l one is low before =
    below_more (λ j. (r : Latch) → slice_get latches j ≡ Some r → at (set registers l.net (at v l.pin)) r.net ≡ at v r.pin) k
    (λ j below r at_j. by_net j r at_j (before j below r at_j) (cases_eq r.net l.net))
    (λ r at_k. subst (λ (m : Latch). at (set registers l.net (at v l.pin)) m.net ≡ at v m.pin) (same_element latches k l r is at_k)
    (get_or-set_same registers l.net (at v l.pin) 0 low))
  where
    by_net : (j : ℕ) (r : Latch) → slice_get latches j ≡ Some r → at registers r.net ≡ at v r.pin → (r.net ≡ l.net) ⊎ (r.net ≢ l.net)
        → at (set registers l.net (at v l.pin)) r.net ≡ at v r.pin
    by_net j r at_j old (inl same) =
        ap (at (set registers l.net (at v l.pin))) same
        ∙ (get_or-set_same registers l.net (at v l.pin) 0 low ∙ ap (at v) (sym (one j k r l at_j is same)))
    by_net j r at_j old (inr apart) = get_or-set_other registers l.net r.net (at v l.pin) 0 apart ∙ old

-- a net that is no register's is kept
pub kept_by_latch : (latches : List Latch) (v : Numbers) (k n x : ℕ) (l : Latch) → slice_get latches k ≡ Some l → All (λ m. m.net ≢ n) latches
    → at (set v l.net x) n ≡ at v n
kept_by_latch latches v k n x l is others =
    get_or-set_other v l.net n x 0 (λ same. all_at (λ (m : Latch). m.net ≢ n) latches k l others is (sym same))
