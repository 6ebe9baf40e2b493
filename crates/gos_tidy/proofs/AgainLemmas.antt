-- What is reduced from an accepted netlist again and again, with steady cells made constants in between.
--
-- Read first: Laws; StillLemmas, SteadyLemmas.
use Rattle.std.proofs.Common.{◌≡◌, ◌⊎◌, inl, inr, ◌<◌, ℕ, List, length, replicate, slice_get, Some, refl, sym, ap, subst, ◌∙◌, arith}
use Rattle.std.proofs.lemmas.Option.{slice_get_within, slice_get-get_or}
use Rattle.gos_netlist.specs.Nets.{Const, Cell, Netlist}
use Rattle.gos_netlist.specs.Settling.{at}
use Rattle.gos_netcheck.specs.Accepted.{IsAccepted}
use Rattle.gos_tidy.specs.Mapped.{renamed}
use Rattle.gos_tidy.specs.Reduced.{Reduces, NotYet, Again, Steadied}
use Rattle.gos_tidy.specs.Alike.{Became, IsAlike, KeepsOrder}
use Rattle.gos_tidy.specs.Laws.{IsStill, ReducedAgain}
use Rattle.gos_tidy.proofs.RenamedLemmas.{renamed_const}
use Rattle.gos_tidy.proofs.RunLemmas.{drawn, length_drawn, some_run}
use Rattle.gos_tidy.proofs.AlikeLemmas.{item_there}
use Rattle.gos_tidy.proofs.OrderLemmas.{drawn_is}
use Rattle.gos_tidy.proofs.StillLemmas.{reduced_once, reduced_itself}
use Rattle.gos_tidy.proofs.SteadyLemmas.{steadied_once}

alike_again : (net mid other : Netlist) → IsAccepted mid → IsAlike net mid → IsAlike mid other → IsAlike net other
alike_again net mid other accepted first second =
    record {
      ports = first.ports ∙ second.ports;
      inputs = λ ins range.
          let (mids, mid_range, same) = first.inputs ins range in
          let (others, other_range, same_too) = second.inputs mids mid_range in
          (others, other_range, same ∙ same_too);
      outputs = λ ins vs others ws range same run other_run.
          let (mids, mid_range, to_mid) = first.inputs ins range in
          let (us, mid_run) = some_run mid.cells accepted.acyclic (replicate (length mid.cells) 0) mids in
          first.outputs ins vs mids us range to_mid run mid_run
          ∙ second.outputs mids us others ws mid_range (sym to_mid ∙ same) mid_run other_run;
      pace = λ weight p keeps. second.pace weight p (first.pace weight p keeps);
    }

became_again : (b c d : Cell) → Became b c → Became c d → Became b d
became_again b c d (width, first) (width_too, second) = (width_too ∙ width, by_kind first second)
  where
    by_kind : (renamed (λ _. 0) c.gate ≡ renamed (λ _. 0) b.gate) ⊎ ((k : ℕ) × (c.gate ≡ Const k))
        → (renamed (λ _. 0) d.gate ≡ renamed (λ _. 0) c.gate) ⊎ ((k : ℕ) × (d.gate ≡ Const k))
        → (renamed (λ _. 0) d.gate ≡ renamed (λ _. 0) b.gate) ⊎ ((k : ℕ) × (d.gate ≡ Const k))
    by_kind first (inr const) = inr const
    by_kind (inl same) (inl same_too) = inl (same_too ∙ same)
    by_kind (inr (k, const)) (inl same) = inr (k, renamed_const (λ _. 0) d.gate k (same ∙ ap (renamed (λ _. 0)) const))

order_again : (cells mids others : List Cell) (places later : List ℕ) → KeepsOrder cells mids places → KeepsOrder mids others later
    → (all : List ℕ) × KeepsOrder cells others all
order_again cells mids others places later first second = (
  drawn (λ i. at places (at later i)) (length others),
  record {
    each = length_drawn (λ i. at places (at later i)) (length others);
    rises = λ i j m n less at_m at_n.
        let (low, is_m) = drawn_is (λ x. at places (at later x)) (length others) i m at_m in
        let (high, is_n) = drawn_is (λ x. at places (at later x)) (length others) j n at_n in
        let one = step i low in
        let other = step j high in
        let rising = first.rises (at later i) (at later j) (at places (at later i)) (at places (at later j))
        (second.rises i j (at later i) (at later j) less one.0 other.0) one.1 other.1 in
        omega (arith, rising, is_m, is_n);
    became = λ i m e at_m is.
        let (low, is_m) = drawn_is (λ x. at places (at later x)) (length others) i m at_m in
        let one = step i low in
        let (d, at_mid, became) = second.became i (at later i) e one.0 is in
        let (c, there, became_too) = first.became (at later i) (at places (at later i)) d one.1 at_mid in
        (c, subst (λ (x : ℕ). slice_get cells x ≡ Some c) (sym is_m) there, became_again c d e became_too became);
  },
)
  where
    step : (i : ℕ) → i < length others → (slice_get later i ≡ Some (at later i)) × (slice_get places (at later i) ≡ Some (at places (at later i)))
    step i low =
        let at_later = slice_get-get_or later i 0 (omega (arith, low, second.each)) in
        let (e, is) = item_there others i low in
        let (d, at_mid, became) = second.became i (at later i) e at_later is in
        let within = slice_get_within mids (at later i) d at_mid in
        (at_later, slice_get-get_or places (at later i) 0 (omega (arith, within, first.each)))

still_again : (net mid other : Netlist) → IsStill net mid → IsStill mid other → IsStill net other
still_again net mid other before now =
    record {
      alike = alike_again net mid other before.accepted before.alike now.alike;
      accepted = now.accepted;
      fewer = let first = before.fewer in let second = now.fewer in omega (arith, first, second);
      order = order_again net.cells mid.cells other.cells before.order.0 now.order.0 before.order.1 now.order.1;
    }

pub reduced_again : ReducedAgain
reduced_again net other accepted NotYet = reduced_once net net accepted (reduced_itself net accepted)
reduced_again net other accepted (Again mid _ reduces reduced) =
    let before = reduced_again net mid accepted reduces in
    still_again net mid other before (reduced_once mid other before.accepted reduced)
reduced_again net other accepted (Steadied mid _ reduces steadied) =
    let before = reduced_again net mid accepted reduces in
    still_again net mid other before (steadied_once mid other before.accepted steadied)
