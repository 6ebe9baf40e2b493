-- What goes out of a part, handshake by handshake.
use Rattle.std.proofs.Common.{◌≡◌, inl, inr, ℕ, zero, suc, ◌<◌, List, [], ◌∷◌, Some, length, refl, sym, ◌∙◌, subst, arith}
use Rattle.std.specs.Prelude.{slice_get}
use Rattle.gos_netlist.specs.Nets.{Cell}
use Rattle.gos_netlist.specs.Settling.{Numbers, at}
use Rattle.gos_plan.specs.Kinds.{Contact}
use Rattle.gos_macro.specs.Gates.{Outgoing, Bare, Bearing, bits_out, NetsShow}
use Rattle.gos_macro.specs.Fit.{IsOwn, GoesOut, AllGoOut}
use Rattle.gos_macro.specs.Paths.{IsOut}

-- what goes out at a handshake
pub goes_out : (b : ℕ) (cells : List Cell) (cs : List Contact) (os : List Outgoing) → AllGoOut b cells cs os
    → (to : ℕ) (o : Outgoing) → slice_get os to ≡ Some o → (to < length cs) × (c : Contact) × GoesOut b cells c o
goes_out b cells [] [] every to o is = absurd (cc is)
goes_out b cells [] (x ∷ os) every to o is = absurd every
goes_out b cells (c ∷ cs) [] every to o is = absurd every
goes_out b cells (c ∷ cs) (x ∷ os) every zero o is =
    let same : x ≡ o = cc is in (omega arith, c, subst (λ (y : Outgoing). GoesOut b cells c y) same every.0)
goes_out b cells (c ∷ cs) (x ∷ os) every (suc to) o is =
    let rest = goes_out b cells cs os every.1 to o is in (omega (arith, rest.0), rest.1, rest.2)

-- its nets are the part's own
pub is_own : (b : ℕ) (cells : List Cell) (c : Contact) (o : Outgoing) → GoesOut b cells c o → (z : ℕ) → IsOut (Some o) z → (bits : ℕ) × IsOwn b cells z bits
is_own b cells c (Bare p) out z is = (1, subst (λ (n : ℕ). IsOwn b cells n 1) (sym is) out.1)
is_own b cells c (Bearing p a) out z (inl is) = (1, subst (λ (n : ℕ). IsOwn b cells n 1) (sym is) out.1)
is_own b cells c (Bearing p a) out z (inr is) = (bits_out c.role c, subst (λ (n : ℕ). IsOwn b cells n (bits_out c.role c)) (sym is) out.2)

-- numbers that agree at these nets show the same there
pub same_nets : (v w : Numbers) (o : Outgoing) (n x : ℕ) → ((z : ℕ) → IsOut (Some o) z → at v z ≡ at w z) → NetsShow w o n x → NetsShow v o n x
same_nets v w (Bare p) n x same shows = same p refl ∙ shows
same_nets v w (Bearing p a) n x same shows = (same p (inl refl) ∙ shows.0, same a (inr refl) ∙ shows.1)
