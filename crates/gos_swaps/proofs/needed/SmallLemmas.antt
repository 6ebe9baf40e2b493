-- Small terms at which nothing leads on.
use Rattle.std.specs.Prelude.{◌≡◌, ℕ, zero, suc, List, [], ◌∷◌}
use Rattle.std.proofs.Common.{arith, refl, ap, inl, inr, ◌∙◌}
use Rattle.gos_model.specs.Terms.{Skip, Wait}
use Rattle.gos_model.specs.Labels.{Port, Taken, taken}
use Rattle.gos_model.specs.SmallPrograms.{c, d, two_commands}
use Rattle.gos_swaps.specs.doings.Doings.{Unfolding, Computing, Showing}
use Rattle.gos_swaps.specs.needed.Lists.{ToShow, port_of}
use Rattle.gos_swaps.specs.needed.Blocked.{IsStuck}
use Rattle.gos_swaps.specs.needed.SmallNeeded.{WaitIsStuck}

-- the first byte of the name of a port
abbrev first_byte : Port → ℕ
first_byte (Taken (b ∷ x)) = b
first_byte p = 0

names_differ : Taken d ≡ Taken c → ⊥
names_differ e = let bad : 100 ≡ 99 = ap first_byte e in omega (arith, bad)

stuck : IsStuck two_commands (ToShow (taken d 0 0)) [] (Wait c 1)
stuck [] Unfolding v u t same (h, e) toward = h
stuck [] Computing v u t same h toward = h
stuck [] (Showing k) v u t same (inl h, e) toward = h
stuck [] (Showing k) v u t same (inr (port, event, is), e) toward = names_differ (ap port_of toward ∙ port)
stuck (zero ∷ path) Unfolding v u t same (h, e) toward = h
stuck (zero ∷ path) Computing v u t same h toward = h
stuck (zero ∷ path) (Showing k) v u t same (h, e) toward = h
stuck (suc zero ∷ path) Unfolding v u t same (h, e) toward = h
stuck (suc zero ∷ path) Computing v u t same h toward = h
stuck (suc zero ∷ path) (Showing k) v u t same (h, e) toward = h
stuck (suc (suc i) ∷ path) Unfolding v u t same (h, e) toward = h
stuck (suc (suc i) ∷ path) Computing v u t same h toward = h
stuck (suc (suc i) ∷ path) (Showing k) v u t same (h, e) toward = h

pub wait_is_stuck : WaitIsStuck
wait_is_stuck = (stuck, λ is. is [] (Showing (taken c 1 0)) [] [] Skip (λ l h. refl) (inr (refl, refl, (refl, refl)), refl) refl)
