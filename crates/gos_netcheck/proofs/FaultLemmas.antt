-- An accepted netlist has no fault, and a refused one has one.
use Rattle.std.specs.Prelude.{◌≡◌, ◌≢◌, ℕ, ◌≤◌, ◌<◌, ◌⊎◌, Bool, true, false, List, length, map, nat_lt}
use Rattle.std.proofs.Common.{refl, sym, ◌∙◌, ap, inl, inr, arith}
use Rattle.std.proofs.lemmas.Bool.Decides.{nat_tests}
use Rattle.gos_netlist.specs.Nets.{Netlist}
use Rattle.gos_netlist.specs.Seen.{number_of}
use Rattle.gos_netcheck.specs.Accepted.{IsAccepted, HasFault, AreOneFault}
use Rattle.gos_netcheck.specs.PortRules.{PortsFit, IsRightPort, IsFirstWrongPort, IsLoose, all_inputs}
use Rattle.gos_netcheck.specs.Rules.{IsFirstToBreak}
use Rattle.gos_netcheck.specs.CellRules.{PinsExist, HasRightWidths, widths_of}
use Rattle.gos_netcheck.specs.declared.fault.NetFault.{NetFault}
use Rattle.gos_netcheck.specs.declared.fault.NetFault.TheVariants as faults

no_wrong_port : (net : Netlist) (k : ℕ) → PortsFit net.cells net.ports → IsFirstWrongPort net.cells net.ports k → ⊥
no_wrong_port net k fit (inl breaks) = breaks.3 (fit.each k breaks.1 breaks.2)
no_wrong_port net k fit (inr (last, lacks)) = lacking lacks.lacks
  where
    lacking : (length net.ports ≡ 0) ⊎ ((n : ℕ) × IsLoose net.cells (all_inputs net.ports) n) → ⊥
    lacking (inl none) = omega (arith, none, fit.some)
    lacking (inr loose) = fit.inputs loose.0 loose.1

pub no_fault : (net : Netlist) (fault : NetFault) → IsAccepted net → HasFault net fault → fault ≡ faults.NoMemory
no_fault net (faults.NoSuchNet cell) accepted h = absurd (h.3 (accepted.nets cell h.1 h.2))
no_fault net (faults.Width cell) accepted h = absurd (h.1.3 (accepted.widths cell h.1.1 h.1.2))
no_fault net (faults.Port index) accepted h = absurd (no_wrong_port net index accepted.ports h.2)
no_fault net (faults.Cycle nets) accepted h = absurd (accepted.acyclic (map number_of nets.items, h.3.0))
no_fault net faults.NoMemory accepted h = refl

-- there is one first element that breaks a rule
first_one : {A : Type 0} (Rule : ℕ → A → Type 0) (xs : List A) (m n : ℕ) → IsFirstToBreak Rule xs m → IsFirstToBreak Rule xs n → m ≡ n
first_one Rule xs m n (before_m, x, at_m, breaks_m) (before_n, y, at_n, breaks_n) = by_less (nat_lt m n) refl
  where
    by_more : (b : Bool) → nat_lt n m ≡ b → n ≤ m → m ≡ n
    by_more true e low = let more : n < m = grind (arith, nat_tests, e) in absurd (breaks_n (before_m n y more at_n))
    by_more false e low = grind (arith, nat_tests, e, low)

    by_less : (b : Bool) → nat_lt m n ≡ b → m ≡ n
    by_less true e = let less : m < n = grind (arith, nat_tests, e) in absurd (breaks_m (before_n m x less at_m))
    by_less false e = by_more (nat_lt n m) refl (grind (arith, nat_tests, e))

port_one : (net : Netlist) (m n : ℕ) → IsFirstWrongPort net.cells net.ports m → IsFirstWrongPort net.cells net.ports n → m ≡ n
port_one net m n (inl first) (inl other) = first_one (IsRightPort net.cells net.ports) net.ports m n first other
port_one net m n (inl first) (inr (last, lacks)) = absurd (first.3 (lacks.each m first.1 first.2))
port_one net m n (inr (last, lacks)) (inl other) = absurd (other.3 (lacks.each n other.1 other.2))
port_one net m n (inr (last, lacks)) (inr (end, others)) = last ∙ sym end

pub one_fault : (net : Netlist) (fault other : NetFault) → HasFault net fault → HasFault net other → fault ≢ faults.NoMemory → other ≢ faults.NoMemory
    → AreOneFault fault other
one_fault net (faults.NoSuchNet m) (faults.NoSuchNet n) f g some more = ap faults.NoSuchNet (first_one (λ _ c. PinsExist (length net.cells) c) net.cells m n f g)
one_fault net (faults.NoSuchNet m) (faults.Width n) f g some more = absurd (f.3 (g.0 m f.1 f.2))
one_fault net (faults.NoSuchNet m) (faults.Port n) f g some more = absurd (f.3 (g.0 m f.1 f.2))
one_fault net (faults.NoSuchNet m) (faults.Cycle ns) f g some more = absurd (f.3 (g.0 m f.1 f.2))
one_fault net (faults.NoSuchNet m) faults.NoMemory f g some more = absurd (more refl)
one_fault net (faults.Width m) (faults.NoSuchNet n) f g some more = absurd (g.3 (f.0 n g.1 g.2))
one_fault net (faults.Width m) (faults.Width n) f g some more =
    ap faults.Width (first_one (λ _ c. HasRightWidths (widths_of net.cells) c) net.cells m n f.1 g.1)
one_fault net (faults.Width m) (faults.Port n) f g some more = absurd (f.1.3 (g.1 m f.1.1 f.1.2))
one_fault net (faults.Width m) (faults.Cycle ns) f g some more = absurd (f.1.3 (g.1 m f.1.1 f.1.2))
one_fault net (faults.Width m) faults.NoMemory f g some more = absurd (more refl)
one_fault net (faults.Port m) (faults.NoSuchNet n) f g some more = absurd (g.3 (f.0 n g.1 g.2))
one_fault net (faults.Port m) (faults.Width n) f g some more = absurd (g.1.3 (f.1 n g.1.1 g.1.2))
one_fault net (faults.Port m) (faults.Port n) f g some more = ap faults.Port (port_one net m n f.2 g.2)
one_fault net (faults.Port m) (faults.Cycle ns) f g some more = absurd (no_wrong_port net m g.2 f.2)
one_fault net (faults.Port m) faults.NoMemory f g some more = absurd (more refl)
one_fault net (faults.Cycle ms) (faults.NoSuchNet n) f g some more = absurd (g.3 (f.0 n g.1 g.2))
one_fault net (faults.Cycle ms) (faults.Width n) f g some more = absurd (g.1.3 (f.1 n g.1.1 g.1.2))
one_fault net (faults.Cycle ms) (faults.Port n) f g some more = absurd (no_wrong_port net n f.2 g.2)
one_fault net (faults.Cycle ms) (faults.Cycle ns) f g some more = tt
one_fault net (faults.Cycle ms) faults.NoMemory f g some more = absurd (more refl)
one_fault net faults.NoMemory other f g some more = absurd (some refl)
