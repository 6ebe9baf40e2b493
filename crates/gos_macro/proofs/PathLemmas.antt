-- Paths through small gates.
use Rattle.std.proofs.Common.{◌≡◌, inl, inr, ◌⊎◌, ℕ, zero, suc, ◌+◌, ◌<◌, ◌≤◌, List, [], ◌∷◌, Some, refl, ap, subst, arith}
use Rattle.std.specs.Prelude.{slice_get}
use Rattle.gos_types.specs.Types.{Com}
use Rattle.gos_netlist.specs.Nets.{Cell, Function, Const}
use Rattle.gos_netlist.specs.Cycles.{IsRegister}
use Rattle.gos_plan.specs.Kinds.{Skip, Share, part_contacts}
use Rattle.gos_macro.specs.Gates.{Incoming, incoming_bits}
use Rattle.gos_macro.specs.SmallGates.{shared_cells, shared_outs}
use Rattle.gos_macro.specs.Paths.{Drives, Path, IsIn, AreApart, LeadsOn, Renames}
use Rattle.gos_macro.specs.SmallPaths.{SkipIsNoDeadEnd, SharedAnswersPass, SharedRequestsWait, SharedAnswersAreNotLate, CountingIsNotNamed}
use Rattle.gos_macro.specs.laws.SkipPaths.{skip_path}

-- a path ends with a cell that is no register
pub ends : (b : ℕ) (cells : List Cell) (m : ℕ) (ns : List ℕ) (z : ℕ) → Path b cells m ns z → (n : ℕ) × Drives b cells n z
ends b cells m [] z path = (m, path)
ends b cells m (n ∷ ns) z path = ends b cells n ns z path.1

-- wires whose nets are 1, and without values 0
abbrev wires : Incoming
wires = record { pulse = λ h. 1; value = λ h. 0 }

no_bits : (h : ℕ) → h < 1 → 0 < incoming_bits (part_contacts Skip) h → ⊥
no_bits zero small some = omega (arith, some)
no_bits (suc h) small some = omega (arith, small)

skip_apart : AreApart (part_contacts Skip) 0 1 wires
skip_apart =
    record {
      shakes = λ h j net small other is same. omega (arith, small, other);
      sorts = λ h small some. absurd (no_bits h small some);
      outside = outside;
    }
  where
    outside : (h net : ℕ) → h < 1 → IsIn (part_contacts Skip) wires h net → (net < 0) ⊎ (0 + 1 ≤ net)
    outside h net small (inl is) = inr (omega (arith, is))
    outside h net small (inr is) = absurd (no_bits h small is.0)

pub skip_is_no_dead_end : SkipIsNoDeadEnd
skip_is_no_dead_end keeps = cc ((keeps.exact 0 0 (omega arith) (omega arith) 0 wires skip_apart).1 (1, 0, [], inl refl, refl, skip_path 0 wires))

-- cell 7 of a Share of a command is the answer to its first caller
pub shared_answers_pass : SharedAnswersPass
shared_answers_pass b i apart = (
  (λ yes. (i.pulse 0, b + 7, [], inl refl, refl, (7, _, refl, refl, (λ r. cc r.1), (0, omega arith, refl)))),
  (λ leads. refl),
)

-- the cell at place 6 is a register
sixth : (b : ℕ) (i : Incoming) (n : ℕ) → Drives b (shared_cells b i) n (b + 6) → ⊥
sixth b i n d = at_place d.0 (omega (arith, d.2)) d.1 d.3 d.4
  where
    at_place : (k : ℕ) → k ≡ 6 → (c : Cell) → slice_get (shared_cells b i) k ≡ Some c → (IsRegister c.gate → ⊥) → ⊥
    at_place k is c e none = none (b + 5, cc (subst (λ m. slice_get (shared_cells b i) m ≡ Some c) is e))

pub shared_requests_wait : SharedRequestsWait
shared_requests_wait b i apart = ((λ yes. cc yes), (λ leads. absurd (waits leads)))
  where
    waits : LeadsOn (part_contacts (Share Com)) b i (shared_cells b i) (shared_outs b) 1 0 → ⊥
    waits (m, z, ns, is_in, is_out, path) =
        let last = ends b (shared_cells b i) m ns z path in
        sixth b i last.0 (subst (λ n. Drives b (shared_cells b i) last.0 n) is_out last.1)

-- the nets from 9 on, a pulse and a value for each handshake
abbrev spread : Incoming
spread = record { pulse = λ h. 9 + h; value = λ h. 0 }

com_bits : (h : ℕ) → h < 3 → 0 < incoming_bits (part_contacts (Share Com)) h → ⊥
com_bits zero small some = omega (arith, some)
com_bits (suc zero) small some = omega (arith, some)
com_bits (suc (suc zero)) small some = omega (arith, some)
com_bits (suc (suc (suc h))) small some = omega (arith, small)

spread_pulse : (h net : ℕ) → h < 3 → IsIn (part_contacts (Share Com)) spread h net → net ≡ 9 + h
spread_pulse h net small (inl is) = is
spread_pulse h net small (inr is) = absurd (com_bits h small is.0)

spread_apart : AreApart (part_contacts (Share Com)) 0 9 spread
spread_apart =
    record {
      shakes = λ h j net small other is same. omega (arith, spread_pulse h net small is, spread_pulse j net other same);
      sorts = λ h small some. absurd (com_bits h small some);
      outside = λ h net small is. inr (omega (arith, spread_pulse h net small is));
    }

pub shared_answers_are_not_late : SharedAnswersAreNotLate
shared_answers_are_not_late passing keeps =
    let yes = (keeps.exact 0 1 (omega arith) (omega arith) 0 spread spread_apart).1 ((shared_answers_pass 0 spread spread_apart).0 refl) in
    cc (yes, keeps.waits 0 1 (omega arith) (omega arith) refl)

-- the number that a first cell shows, where it is a constant
abbrev number_of : Function → ℕ
number_of (Const k) = k
number_of f = 0

abbrev constant : List Cell → ℕ
constant [] = 0
constant (c ∷ cs) = number_of c.gate

-- wires whose nets are all of this number
abbrev all_at : ℕ → Incoming
all_at n = record { pulse = λ h. n; value = λ h. n }

pub counting_is_not_named : CountingIsNotNamed
counting_is_not_named passing keeps = omega (arith, ap constant (keeps.named (λ n. n + 1) 0 1 (all_at 0) (all_at 1) renames))
  where
    renames : Renames (part_contacts Skip) 1 (λ n. n + 1) 0 1 (all_at 0) (all_at 1)
    renames =
        record {
          own = λ n small. omega arith;
          pulse = λ h small. refl;
          value = λ h small some. refl;
        }
