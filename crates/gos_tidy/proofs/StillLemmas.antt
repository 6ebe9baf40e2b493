-- What is reduced from an accepted netlist once.
--
-- Read first: Laws; AcceptedLemmas, AlikeLemmas, PaceLemmas, OrderLemmas.
use Rattle.std.proofs.Common.{◌≡◌, ◌⊎◌, inl, inr, ◌<◌, ℕ, List, length, replicate, slice_get, Some, refl, sym, ap, subst, ◌∙◌, arith}
use Rattle.std.proofs.lemmas.Option.{slice_get_within, slice_get-get_or}
use Rattle.gos_netlist.specs.Nets.{Function, Input, Const, Not, And, Or, Xor, Mux, Add, Sub, Eq, Less, Gate, Reg, Cell, Netlist}
use Rattle.gos_netlist.specs.Settling.{at}
use Rattle.gos_netcheck.specs.Accepted.{IsAccepted}
use Rattle.gos_tidy.specs.Mapped.{renamed, IsKept}
use Rattle.gos_tidy.specs.Reduced.{IsQuotient, IsReduced, NotYet, Again}
use Rattle.gos_tidy.specs.Alike.{Became, IsAlike, KeepsOrder}
use Rattle.gos_tidy.specs.Laws.{ReducedOnce, ReducedAgain}
use Rattle.gos_tidy.proofs.RenamedLemmas.{renamed_const}
use Rattle.gos_tidy.proofs.PortNetLemmas.{contained_at}
use Rattle.gos_tidy.proofs.AcceptedLemmas.{reduced_accepted}
use Rattle.gos_tidy.proofs.RunLemmas.{drawn, length_drawn, some_run}
use Rattle.gos_tidy.proofs.AlikeLemmas.{alike_inputs, alike_outputs, alike_ports, item_there, port_net_there}
use Rattle.gos_tidy.proofs.PaceLemmas.{alike_pace}
use Rattle.gos_tidy.proofs.OrderLemmas.{drawn_is, reduced_fewer, reduced_order}

pub reduced_once : ReducedOnce
reduced_once net other accepted reduced =
    record {
      alike = record {
        ports = alike_ports net other accepted reduced;
        inputs = alike_inputs net other accepted reduced;
        outputs = alike_outputs net other accepted reduced;
        pace = alike_pace net other accepted reduced;
      };
      accepted = reduced_accepted net other accepted reduced;
      fewer = reduced_fewer net other reduced;
      order = reduced_order net other reduced;
    }

-- A netlist is reduced to itself.

same_renamed : (g : Function) → renamed (λ n. n) g ≡ g
same_renamed Input = refl
same_renamed (Const k) = refl
same_renamed (Not a) = refl
same_renamed (And a b) = refl
same_renamed (Or a b) = refl
same_renamed (Xor a b) = refl
same_renamed (Mux s a b) = refl
same_renamed (Add a b) = refl
same_renamed (Sub a b) = refl
same_renamed (Eq a b) = refl
same_renamed (Less a b) = refl
same_renamed (Gate s a) = refl
same_renamed (Reg a) = refl

kept_itself : (cells : List Cell) (n : ℕ) (c : Cell) → slice_get cells n ≡ Some c → IsKept cells (λ m. m) n c
kept_itself cells n c there = there ∙ ap (λ (g : Function). Some (record { width = c.width; gate = g })) (sym (same_renamed c.gate))

quotient_itself : (cells : List Cell) → IsQuotient cells cells (λ n. n) (drawn (λ n. n) (length cells))
quotient_itself cells =
    record {
      mapped = λ n c there. inl (kept_itself cells n c there);
      widths = λ n c there. (c, there, refl);
      inputs = λ m n c e is there input input_too same. same;
      each = length_drawn (λ n. n) (length cells);
      rises = λ i j m n less at_m at_n.
          let (low, first) = drawn_is (λ x. x) (length cells) i m at_m in
          let (high, second) = drawn_is (λ x. x) (length cells) j n at_n in
          omega (arith, less, first, second);
      stays = λ i m at_m.
          let (low, same) = drawn_is (λ x. x) (length cells) i m at_m in
          let (c, there) = item_there cells m (omega (arith, low, same)) in
          (same, c, there, inl (kept_itself cells m c there));
      first = λ i m n c at_m there same stays short.
          let (low, here) = drawn_is (λ x. x) (length cells) i m at_m in
          omega (arith, here, same);
    }

pub reduced_itself : (net : Netlist) → IsAccepted net → IsReduced net net
reduced_itself net accepted =
    record {
      merged = net.cells;
      roots = drawn (λ n. n) (length net.cells);
      merging = λ n. n;
      placing = λ n. n;
      quotient = quotient_itself net.cells;
      part = record {
        kept = λ n c there. kept_itself net.cells n c there;
        pins = accepted.nets;
        rises = λ m n less low. less;
        inputs = λ m e is input. (m, slice_get_within net.cells m e is, refl);
      };
      ports = refl;
      ends = λ k p is i n at_n. port_net_there net.cells net.ports accepted.ports k p is n (contained_at p.nets i n at_n);
    }
