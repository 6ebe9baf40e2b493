-- Small netlists are made tidy, and others aren't tidy, mapped or alike.
--
-- Read first: SmallTidy; TidiedLemmas.
use Rattle.std.proofs.Common.{◌≡◌, ◌≢◌, ◌⊎◌, inl, inr, ℕ, zero, suc, ◌+◌, ◌<◌, ◌≤◌, List, [], ◌∷◌, ◌++◌, length, take, slice_get, Some, Contains, refl, sym, subst, ◌∙◌, arith}
use Rattle.std.specs.List.{AllByRecursion}
use Rattle.std.specs.Prelude.{codes}
use Rattle.std.proofs.lemmas.Option.{slice_get_within, same_Some}
use Rattle.gos_types.specs.Types.{Com}
use Rattle.gos_netlist.specs.Nets.{Input, Const, Not, And, Or, Xor, Mux, Reg, Cell, NetPort, Netlist, Give, pins}
use Rattle.gos_netlist.specs.Settling.{at, shown}
use Rattle.gos_netlist.specs.SmallNets.{bit, latch}
use Rattle.gos_netlist.specs.Cycles.{Feeds, IsRegister, HasCycle}
use Rattle.gos_netcheck.specs.CellRules.{PinsExist, HasRightWidths, widths_of}
use Rattle.gos_netcheck.specs.Rules.{Kept}
use Rattle.gos_netcheck.specs.PortRules.{places, FitsAt, IsRightPort}
use Rattle.gos_netcheck.specs.Accepted.{IsAccepted}
use Rattle.gos_pace.specs.SmallPace.{skip}
use Rattle.gos_model.specs.Weight.{weight}
use Rattle.gos_pace.proofs.SmallPaceLemmas.{skip_keeps_pace}
use Rattle.gos_pace.proofs.SilentLemmas.{silent_lags}
use Rattle.gos_tidy.specs.Mapped.{IsConst, IsKept, Stands}
use Rattle.gos_tidy.specs.Reduced.{HasWidth, Stays, IsQuotient, IsPart, IsReduced, NotYet, Again}
use Rattle.gos_tidy.specs.Tidy.{LeadsTo, IsEnd, IsPin, NamesConstants, IsSpare, Folds, IsTidy}
use Rattle.gos_tidy.specs.SmallTidy.{command, folding, LatchIsTidied, FoldingIsTidied, TwiceIsNotTidy, SpareIsNotTidy, ChosenIsNotTidy, TurnedIsNotTidy, MixedIsNotTidy, FoldedIsNotTidy, IdleIsNotTidy, HeldIsTidy, OtherSideIsNotMapped, RegisterIsNotFolded, InputsStayApart, InputsStay, SilentIsNotAlike}
use Rattle.gos_tidy.proofs.NarrowLemmas.{pin_first}
use Rattle.gos_tidy.proofs.RenamedLemmas.{each_of, one_gate}
use Rattle.gos_tidy.proofs.QuotientLemmas.{ring_back, register_kept}
use Rattle.gos_tidy.proofs.TidiedLemmas.{tidied}

-- what holds of each element and its place
abbrev AllFrom : {X : Type 0} → (ℕ → X → Type 0) → ℕ → List X → Type 0
AllFrom P k [] = Unit {0}
AllFrom P k (x ∷ xs) = P k x × AllFrom P (suc k) xs

from_place : {X : Type 0} (P : ℕ → X → Type 0) (k : ℕ) (xs : List X) → AllFrom P k xs → (n : ℕ) (x : X) → slice_get xs n ≡ Some x → P (k + n) x
from_place P k [] all n x is = absurd (cc is)
from_place P k (y ∷ xs) all zero x is = let here : k ≡ k + 0 = omega arith in subst (λ m. P m x) here (subst (P k) (same_Some y x is) all.0)
from_place P k (y ∷ xs) all (suc n) x is = let here : suc k + n ≡ k + suc n = omega arith in subst (λ m. P m x) here (from_place P (suc k) xs all.1 n x is)

pub each_at : {X : Type 0} (P : ℕ → X → Type 0) (xs : List X) → AllFrom P 0 xs → (n : ℕ) (x : X) → slice_get xs n ≡ Some x → P n x
each_at P xs all n x is = let here : 0 + n ≡ n = omega arith in subst (λ m. P m x) here (from_place P 0 xs all n x is)

-- Accepted netlists of one command.

-- cells with ranks that rise from each net to one that it feeds have no ring
ranked : (cells : List Cell) (rank : ℕ → ℕ) → ((a b : ℕ) → Feeds cells a b → rank a < rank b) → HasCycle cells → ⊥
ranked cells rank rises ([], ring) = ring
ranked cells rank rises (z ∷ ns, (apart, chain)) = descend (suc (rank z)) z (pin_first z ns) (omega arith)
  where
    descend : (k m : ℕ) → Contains (z ∷ ns) m → rank m < k → ⊥
    descend zero m has low = omega (arith, low)
    descend (suc k) m has low =
        let (a, member, feeds) = ring_back cells z ns m chain has in
        let less = rises a m feeds in
        descend k a member (omega (arith, low, less))

-- the pins of a cell have lower ranks, or are registers
abbrev Rises : List Cell → (ℕ → ℕ) → ℕ → Cell → Type 0
Rises cells rank n c = AllByRecursion (λ a. (rank a < rank n) ⊎ ((e : Cell) × (slice_get cells a ≡ Some e) × IsRegister e.gate)) (pins c.gate)

rises_feeds : (cells : List Cell) (rank : ℕ → ℕ) → AllFrom (Rises cells rank) 0 cells → (a b : ℕ) → Feeds cells a b → rank a < rank b
rises_feeds cells rank all a b (c, e, first, second, free, pin) =
    by_pin (each_of (λ m. (rank m < rank b) ⊎ ((d : Cell) × (slice_get cells m ≡ Some d) × IsRegister d.gate)) (pins e.gate) a (each_at (Rises cells rank) cells all b e second) pin)
  where
    by_pin : (rank a < rank b) ⊎ ((d : Cell) × (slice_get cells a ≡ Some d) × IsRegister d.gate) → rank a < rank b
    by_pin (inl less) = less
    by_pin (inr (d, is, (r, gate))) = absurd (free (r, one_gate cells a c d first is ∙ gate))

-- the port of a command
abbrev the_port : ℕ → ℕ → NetPort
the_port a b = record { name = codes "main"; side = Give; ty = Com; nets = a ∷ b ∷ [] }

module _ (cells : List Cell) (a b r : ℕ) (input : slice_get cells a ≡ Some (bit Input)) (output : slice_get cells b ≡ Some (bit (Reg r)))
    (alone : (n : ℕ) (c : Cell) → slice_get cells n ≡ Some c → c.gate ≡ Input → n ≡ a) where
  stands : (i n : ℕ) → slice_get (a ∷ b ∷ []) i ≡ Some n → FitsAt cells (slice_get (places Give Com) i) n
  stands zero n is = subst (FitsAt cells (slice_get (places Give Com) 0)) (same_Some a n is) (bit Input, input, refl, refl)
  stands (suc zero) n is = subst (FitsAt cells (slice_get (places Give Com) 1)) (same_Some b n is) (bit (Reg r), output, refl, (r, refl))
  stands (suc (suc i)) n is = absurd (cc is)

  right : IsRightPort cells (command cells (a ∷ b ∷ [])).ports 0 (the_port a b)
  right =
      record {
        side = (refl, tt);
        name = λ k q low is same. omega (arith, low);
        nets = (refl, stands);
        inputs = λ i n is has. no_member i n is has;
      }
    where
      no_member : (i n : ℕ) → slice_get (a ∷ []) i ≡ Some n → Contains ([] ++ take i (a ∷ [])) n → ⊥
      no_member zero n is (k, l, e) = omega (arith, l)
      no_member (suc i) n is has = cc is

  right_each : (k : ℕ) (p : NetPort) → slice_get (command cells (a ∷ b ∷ [])).ports k ≡ Some p → IsRightPort cells (command cells (a ∷ b ∷ [])).ports k p
  right_each zero p is = subst (IsRightPort cells (command cells (a ∷ b ∷ [])).ports 0) (same_Some (the_port a b) p is) right
  right_each (suc k) p is = absurd (cc is)

  command_accepted : AllFrom (λ _ c. PinsExist (length cells) c) 0 cells → AllFrom (λ _ c. HasRightWidths (widths_of cells) c) 0 cells
      → (rank : ℕ → ℕ) → AllFrom (Rises cells rank) 0 cells → IsAccepted (command cells (a ∷ b ∷ []))
  command_accepted exist fits rank rises =
      record {
        nets = each_at (λ _ c. PinsExist (length cells) c) cells exist;
        widths = each_at (λ _ c. HasRightWidths (widths_of cells) c) cells fits;
        ports = record {
          some = omega arith;
          each = right_each;
          inputs = λ n (c, there, gate, missing). missing (0, omega arith, sym (alone n c there gate));
        };
        acyclic = ranked cells rank (rises_feeds cells rank rises);
      }

-- Numbers that rise.

abbrev Rising : ℕ → List ℕ → Type 0
Rising a [] = Unit {0}
Rising a (n ∷ ns) = (a < n) × Rising n ns

above_first : (a : ℕ) (ns : List ℕ) → Rising a ns → (k n : ℕ) → slice_get ns k ≡ Some n → a < n
above_first a [] rises k n is = absurd (cc is)
above_first a (m ∷ ns) rises zero n is = subst (λ x. a < x) (same_Some m n is) rises.0
above_first a (m ∷ ns) rises (suc k) n is = let more = above_first m ns rises.1 k n is in let low = rises.0 in omega (arith, more, low)

rising : (a : ℕ) (ns : List ℕ) → Rising a ns → (i j m n : ℕ) → i < j → slice_get (a ∷ ns) i ≡ Some m → slice_get (a ∷ ns) j ≡ Some n → m < n
rising a ns rises zero zero m n less at_m at_n = absurd (omega (arith, less))
rising a ns rises zero (suc j) m n less at_m at_n = subst (λ x. x < n) (same_Some a m at_m) (above_first a ns rises j n at_n)
rising a ns rises (suc i) zero m n less at_m at_n = absurd (omega (arith, less))
rising a [] rises (suc i) (suc j) m n less at_m at_n = absurd (cc at_m)
rising a (b ∷ ns) rises (suc i) (suc j) m n less at_m at_n = rising b ns rises.1 i j m n (omega (arith, less)) at_m at_n

-- A latch.

latch_alone : (n : ℕ) (c : Cell) → slice_get latch.cells n ≡ Some c → c.gate ≡ Input → n ≡ 0
latch_alone =
    each_at (λ n c. c.gate ≡ Input → n ≡ 0) latch.cells ((λ e. refl), ((λ e. absurd (cc e)), ((λ e. absurd (cc e)), ((λ e. absurd (cc e)), tt))))

latch_accepted : IsAccepted latch
latch_accepted =
    command_accepted latch.cells 0 3 1 refl refl latch_alone
    (tt, ((omega arith, (omega arith, tt)), ((omega arith, tt), ((omega arith, tt), tt)))) (
      (omega arith, omega arith, tt),
      ((omega arith, omega arith, (refl, refl)), ((omega arith, omega arith, refl), ((omega arith, omega arith, refl), tt))),
    )
    (at (0 ∷ 1 ∷ 2 ∷ 2 ∷ []))
    (tt, ((inl (omega arith), (inr (bit (Reg 1), refl, (1, refl)), tt)), ((inl (omega arith), tt), ((inl (omega arith), tt), tt))))

abbrev tidy_latch : Netlist
tidy_latch = command (bit Input ∷ bit (Or 0 2) ∷ bit (Reg 1) ∷ []) (0 ∷ 2 ∷ [])

abbrev latch_map : ℕ → ℕ
latch_map = at (0 ∷ 1 ∷ 2 ∷ 2 ∷ [])

latch_quotient : IsQuotient latch.cells tidy_latch.cells latch_map (0 ∷ 1 ∷ 2 ∷ [])
latch_quotient =
    record {
      mapped = each_at (λ n c. Stands tidy_latch.cells latch_map n c) latch.cells (inl refl, (inl refl, (inl refl, (inl refl, tt))));
      widths = each_at (λ n c. HasWidth tidy_latch.cells (latch_map n) c.width) latch.cells
          ((bit Input, refl, refl), ((bit (Or 0 2), refl, refl), ((bit (Reg 1), refl, refl), ((bit (Reg 1), refl, refl), tt))));
      inputs = λ m n c e at_m at_n input input_too same. latch_alone m c at_m input ∙ sym (latch_alone n e at_n input_too);
      each = refl;
      rises = rising 0 (1 ∷ 2 ∷ []) (omega arith, (omega arith, tt));
      stays = each_at (λ i m. (latch_map m ≡ i) × (c : Cell) × (slice_get latch.cells m ≡ Some c) × Stays tidy_latch.cells latch_map m c) (0 ∷ 1 ∷ 2 ∷ [])
          ((refl, bit Input, refl, inl refl), ((refl, bit (Or 0 2), refl, inl refl), ((refl, bit (Reg 1), refl, inl refl), tt)));
      first = λ i m n c at_root there same stays short.
          each_at (λ j r. (x : ℕ) → latch_map x ≡ j → r ≤ x) (0 ∷ 1 ∷ 2 ∷ []) ((λ x e. omega arith), (from_one, (from_two, tt))) i m at_root n same;
    }
  where
    from_one : (x : ℕ) → latch_map x ≡ 1 → 1 ≤ x
    from_one zero e = absurd (omega (arith, e))
    from_one (suc x) e = omega arith

    from_two : (x : ℕ) → latch_map x ≡ 2 → 2 ≤ x
    from_two zero e = absurd (omega (arith, e))
    from_two (suc zero) e = absurd (omega (arith, e))
    from_two (suc (suc x)) e = omega arith

latch_part : IsPart tidy_latch.cells tidy_latch.cells (λ n. n)
latch_part =
    record {
      kept = each_at (λ n c. IsKept tidy_latch.cells (λ x. x) n c) tidy_latch.cells (refl, (refl, (refl, tt)));
      pins = each_at (λ _ c. PinsExist 3 c) tidy_latch.cells (tt, ((omega arith, (omega arith, tt)), ((omega arith, tt), tt)));
      rises = λ m n less low. less;
      inputs = λ m e is input. (m, slice_get_within tidy_latch.cells m e is, refl);
    }

latch_reduced : IsReduced latch tidy_latch
latch_reduced =
    record {
      merged = tidy_latch.cells;
      roots = 0 ∷ 1 ∷ 2 ∷ [];
      merging = latch_map;
      placing = λ n. n;
      quotient = latch_quotient;
      part = latch_part;
      ports = refl;
      ends = each_at (λ _ p. Kept (λ _ n. n < 3) p.nets) tidy_latch.ports (each_at (λ _ n. n < 3) (0 ∷ 2 ∷ []) (omega arith, (omega arith, tt)), tt);
    }

latch_tidy : IsTidy tidy_latch.cells (2 ∷ [])
latch_tidy =
    record {
      leads = each_at (λ n c. c.gate ≢ Input → LeadsTo tidy_latch.cells (2 ∷ []) n) tidy_latch.cells (
        (λ no_input. absurd (no_input refl)),
        ((λ _. IsPin 1 2 (bit (Reg 1)) refl (pin_first 1 []) (IsEnd 2 (pin_first 2 []))), ((λ _. IsEnd 2 (pin_first 2 [])), tt)),
      );
      once = λ m n c at_m at_n no_input. each_at (λ i d. (j : ℕ) (e : Cell) → slice_get tidy_latch.cells j ≡ Some e → d.gate ≡ e.gate → d.gate ≢ Input → i ≡ j)
          tidy_latch.cells rows m c at_m n c at_n refl no_input;
      folded = each_at (λ n c. Folds c.gate → NamesConstants tidy_latch.cells c.gate → ⊥) tidy_latch.cells
          ((λ none _. none), ((λ _ names. input_no_const (names 0 (pin_first 0 (2 ∷ [])))), ((λ none _. none), tt)));
      short = each_at (λ n c. IsSpare tidy_latch.cells c.gate → ⊥) tidy_latch.cells ((λ none. none), ((λ same. omega (arith, same)), ((λ none. none), tt)));
    }
  where
    input_no_const : (k : ℕ) × IsConst tidy_latch.cells 0 k → ⊥
    input_no_const (k, (w, is)) = let never : Input ≡ Const k = one_gate tidy_latch.cells 0 (bit Input) (record { width = w; gate = Const k }) refl is in cc

    row_of : (i : ℕ) (d : Cell) → AllFrom (λ j e. d.gate ≡ e.gate → d.gate ≢ Input → i ≡ j) 0 tidy_latch.cells
        → (j : ℕ) (e : Cell) → slice_get tidy_latch.cells j ≡ Some e → d.gate ≡ e.gate → d.gate ≢ Input → i ≡ j
    row_of i d all = each_at (λ j e. d.gate ≡ e.gate → d.gate ≢ Input → i ≡ j) tidy_latch.cells all

    rows : AllFrom (λ i d. (j : ℕ) (e : Cell) → slice_get tidy_latch.cells j ≡ Some e → d.gate ≡ e.gate → d.gate ≢ Input → i ≡ j) 0 tidy_latch.cells
    rows = (
      row_of 0 (bit Input) ((λ e no_input. refl), ((λ e no_input. absurd (no_input refl)), ((λ e no_input. absurd (no_input refl)), tt))),
      (
        row_of 1 (bit (Or 0 2)) ((λ e no_input. absurd (cc e)), ((λ e no_input. refl), ((λ e no_input. absurd (cc e)), tt))),
        (row_of 2 (bit (Reg 1)) ((λ e no_input. absurd (cc e)), ((λ e no_input. absurd (cc e)), ((λ e no_input. refl), tt))), tt),
      ),
    )

pub latch_is_tidied : LatchIsTidied
latch_is_tidied = tidied latch tidy_latch latch_accepted (Again latch tidy_latch NotYet latch_reduced) latch_tidy

-- A gate whose selector folds.

folding_alone : (n : ℕ) (c : Cell) → slice_get folding.cells n ≡ Some c → c.gate ≡ Input → n ≡ 0
folding_alone =
    each_at (λ n c. c.gate ≡ Input → n ≡ 0) folding.cells (
      (λ e. refl),
      ((λ e. absurd (cc e)), ((λ e. absurd (cc e)), ((λ e. absurd (cc e)), ((λ e. absurd (cc e)), ((λ e. absurd (cc e)), tt))))),
    )

folding_accepted : IsAccepted folding
folding_accepted =
    command_accepted folding.cells 0 4 3 refl refl folding_alone
    (tt, (tt, ((omega arith, (omega arith, tt)), ((omega arith, (omega arith, tt)), ((omega arith, tt), ((omega arith, tt), tt)))))) (
      (omega arith, omega arith, tt),
      (
        (omega arith, omega arith, omega arith),
        (
          (omega arith, omega arith, (refl, refl)),
          ((omega arith, omega arith, (refl, refl)), ((omega arith, omega arith, refl), ((omega arith, omega arith, refl), tt))),
        ),
      ),
    )
    (at (0 ∷ 0 ∷ 1 ∷ 2 ∷ 3 ∷ 3 ∷ [])) (
      tt,
      (
        tt,
        (
          (inl (omega arith), (inl (omega arith), tt)),
          ((inl (omega arith), (inl (omega arith), tt)), ((inl (omega arith), tt), ((inl (omega arith), tt), tt))),
        ),
      ),
    )

abbrev merged_folding : List Cell
merged_folding = bit Input ∷ bit (Const 1) ∷ bit (Reg 0) ∷ []

abbrev tidy_folding : Netlist
tidy_folding = command (bit Input ∷ bit (Reg 0) ∷ []) (0 ∷ 1 ∷ [])

abbrev folding_map : ℕ → ℕ
folding_map = at (0 ∷ 1 ∷ 1 ∷ 0 ∷ 2 ∷ 2 ∷ [])

abbrev folding_place : ℕ → ℕ
folding_place = at (0 ∷ 2 ∷ [])

folding_quotient : IsQuotient folding.cells merged_folding folding_map (0 ∷ 1 ∷ 4 ∷ [])
folding_quotient =
    record {
      mapped = each_at (λ n c. Stands merged_folding folding_map n c) folding.cells (
        inl refl,
        (
          inl refl,
          (
            inr (inl ((λ _. 1), (λ a has. each_of (λ m. IsConst merged_folding (folding_map m) 1) (1 ∷ 1 ∷ []) a ((1, refl), ((1, refl), tt)) has), (λ r i. (1, refl)))),
            (inr (inr (inl ((1, refl), refl))), (inl refl, (inl refl, tt))),
          ),
        ),
      );
      widths = each_at (λ n c. HasWidth merged_folding (folding_map n) c.width) folding.cells (
        (bit Input, refl, refl),
        (
          (bit (Const 1), refl, refl),
          ((bit (Const 1), refl, refl), ((bit Input, refl, refl), ((bit (Reg 0), refl, refl), ((bit (Reg 0), refl, refl), tt)))),
        ),
      );
      inputs = λ m n c e at_m at_n input input_too same. folding_alone m c at_m input ∙ sym (folding_alone n e at_n input_too);
      each = refl;
      rises = rising 0 (1 ∷ 4 ∷ []) (omega arith, (omega arith, tt));
      stays = each_at (λ i m. (folding_map m ≡ i) × (c : Cell) × (slice_get folding.cells m ≡ Some c) × Stays merged_folding folding_map m c) (0 ∷ 1 ∷ 4 ∷ [])
          ((refl, bit Input, refl, inl refl), ((refl, bit (Const 1), refl, inl refl), ((refl, bit (Reg 3), refl, inl refl), tt)));
      first = λ i m n c at_root there same stays short.
          each_at (λ j r. (x : ℕ) → folding_map x ≡ j → r ≤ x) (0 ∷ 1 ∷ 4 ∷ []) ((λ x e. omega arith), (from_one, (from_four, tt))) i m at_root n same;
    }
  where
    from_one : (x : ℕ) → folding_map x ≡ 1 → 1 ≤ x
    from_one zero e = absurd (omega (arith, e))
    from_one (suc x) e = omega arith

    from_four : (x : ℕ) → folding_map x ≡ 2 → 4 ≤ x
    from_four zero e = absurd (omega (arith, e))
    from_four (suc zero) e = absurd (omega (arith, e))
    from_four (suc (suc zero)) e = absurd (omega (arith, e))
    from_four (suc (suc (suc zero))) e = absurd (omega (arith, e))
    from_four (suc (suc (suc (suc x)))) e = omega arith

folding_part : IsPart tidy_folding.cells merged_folding folding_place
folding_part =
    record {
      kept = each_at (λ n c. IsKept merged_folding folding_place n c) tidy_folding.cells (refl, (refl, tt));
      pins = each_at (λ _ c. PinsExist 2 c) tidy_folding.cells (tt, ((omega arith, tt), tt));
      rises = place_rises;
      inputs = each_at (λ m e. e.gate ≡ Input → (n : ℕ) × (n < 2) × (folding_place n ≡ m)) merged_folding
          ((λ e. (0, omega arith, refl)), ((λ e. absurd (cc e)), ((λ e. absurd (cc e)), tt)));
    }
  where
    place_rises : (m n : ℕ) → m < n → n < 2 → folding_place m < folding_place n
    place_rises m zero less low = absurd (omega (arith, less))
    place_rises zero (suc zero) less low = omega arith
    place_rises (suc m) (suc zero) less low = absurd (omega (arith, less))
    place_rises m (suc (suc n)) less low = absurd (omega (arith, low))

folding_reduced : IsReduced folding tidy_folding
folding_reduced =
    record {
      merged = merged_folding;
      roots = 0 ∷ 1 ∷ 4 ∷ [];
      merging = folding_map;
      placing = folding_place;
      quotient = folding_quotient;
      part = folding_part;
      ports = refl;
      ends = each_at (λ _ p. Kept (λ _ n. n < 2) p.nets) tidy_folding.ports (each_at (λ _ n. n < 2) (0 ∷ 1 ∷ []) (omega arith, (omega arith, tt)), tt);
    }

folding_tidy : IsTidy tidy_folding.cells (1 ∷ [])
folding_tidy =
    record {
      leads = each_at (λ n c. c.gate ≢ Input → LeadsTo tidy_folding.cells (1 ∷ []) n) tidy_folding.cells
          ((λ no_input. absurd (no_input refl)), ((λ _. IsEnd 1 (pin_first 1 [])), tt));
      once = λ m n c at_m at_n no_input. register_once m c at_m no_input ∙ sym (register_once n c at_n no_input);
      folded = each_at (λ n c. Folds c.gate → NamesConstants tidy_folding.cells c.gate → ⊥) tidy_folding.cells ((λ none _. none), ((λ none _. none), tt));
      short = each_at (λ n c. IsSpare tidy_folding.cells c.gate → ⊥) tidy_folding.cells ((λ none. none), ((λ none. none), tt));
    }
  where
    register_once : (n : ℕ) (c : Cell) → slice_get tidy_folding.cells n ≡ Some c → c.gate ≢ Input → n ≡ 1
    register_once = each_at (λ n c. c.gate ≢ Input → n ≡ 1) tidy_folding.cells ((λ no_input. absurd (no_input refl)), ((λ _. refl), tt))

pub folding_is_tidied : FoldingIsTidied
folding_is_tidied = tidied folding tidy_folding folding_accepted (Again folding tidy_folding NotYet folding_reduced) folding_tidy

-- What isn't tidy, and what is.

pub twice_is_not_tidy : TwiceIsNotTidy
twice_is_not_tidy tidy = let same : 2 ≡ 3 = tidy.once 2 3 (bit (Reg 1)) refl refl (λ e. cc e) in omega (arith, same)

pub spare_is_not_tidy : SpareIsNotTidy
spare_is_not_tidy tidy = tidy.short 1 (bit (And 0 0)) refl refl

pub chosen_is_not_tidy : ChosenIsNotTidy
chosen_is_not_tidy tidy = tidy.short 2 (bit (Mux 1 0 3)) refl (0, (1, refl))

pub turned_is_not_tidy : TurnedIsNotTidy
turned_is_not_tidy tidy = tidy.short 2 (bit (Not 1)) refl (1, 0, refl)

pub mixed_is_not_tidy : MixedIsNotTidy
mixed_is_not_tidy tidy = tidy.short 3 (bit (Xor 2 0)) refl (1, 1, inr (inl refl))

pub folded_is_not_tidy : FoldedIsNotTidy
folded_is_not_tidy tidy =
    let cells : List Cell = bit (Const 0) ∷ bit (Not 0) ∷ bit (Reg 1) ∷ [] in
    tidy.folded 1 (bit (Not 0)) refl tt (λ a has. each_of (λ (m : ℕ). (k : ℕ) × IsConst cells m k) (0 ∷ []) a ((0, (1, refl)), tt) has)

abbrev idle_cells : List Cell
idle_cells = bit Input ∷ bit (Reg 0) ∷ bit (Reg 1) ∷ []

idle_leads_nowhere : (n : ℕ) → LeadsTo idle_cells (1 ∷ []) n → n ≡ 2 → ⊥
idle_leads_nowhere n (IsEnd _ (zero, l, e)) is = omega (arith, e, is)
idle_leads_nowhere n (IsEnd _ (suc k, l, e)) is = omega (arith, l)
idle_leads_nowhere n (IsPin _ m c there pin leads) is =
    each_at (λ _ d. Contains (pins d.gate) 2 → ⊥) idle_cells (not_nil, (not_zero, (not_one, tt))) m c there (subst (Contains (pins c.gate)) is pin)
  where
    not_nil : Contains (pins Input) 2 → ⊥
    not_nil (k, l, e) = omega (arith, l)

    not_zero : Contains (pins (Reg 0)) 2 → ⊥
    not_zero (zero, l, e) = omega (arith, e)
    not_zero (suc k, l, e) = omega (arith, l)

    not_one : Contains (pins (Reg 1)) 2 → ⊥
    not_one (zero, l, e) = omega (arith, e)
    not_one (suc k, l, e) = omega (arith, l)

pub idle_is_not_tidy : IdleIsNotTidy
idle_is_not_tidy tidy = idle_leads_nowhere 2 (tidy.leads 2 (bit (Reg 1)) refl (λ e. cc e)) refl

abbrev held : List Cell
held = bit (Const 1) ∷ bit (Reg 0) ∷ []

pub held_is_tidy : HeldIsTidy
held_is_tidy =
    record {
      leads = each_at (λ n c. c.gate ≢ Input → LeadsTo held (1 ∷ []) n) held
          ((λ _. IsPin 0 1 (bit (Reg 0)) refl (pin_first 0 []) (IsEnd 1 (pin_first 1 []))), ((λ _. IsEnd 1 (pin_first 1 [])), tt));
      once = λ m n c at_m at_n no_input. each_at (λ i d. (j : ℕ) (e : Cell) → slice_get held j ≡ Some e → d.gate ≡ e.gate → i ≡ j) held rows m c at_m n c at_n refl;
      folded = each_at (λ n c. Folds c.gate → NamesConstants held c.gate → ⊥) held ((λ none _. none), ((λ none _. none), tt));
      short = each_at (λ n c. IsSpare held c.gate → ⊥) held ((λ none. none), ((λ none. none), tt));
    }
  where
    rows : AllFrom (λ i d. (j : ℕ) (e : Cell) → slice_get held j ≡ Some e → d.gate ≡ e.gate → i ≡ j) 0 held
    rows = (
      each_at (λ j e. Const 1 ≡ e.gate → 0 ≡ j) held ((λ e. refl), ((λ e. absurd (cc e)), tt)),
      (each_at (λ j e. Reg 0 ≡ e.gate → 1 ≡ j) held ((λ e. absurd (cc e)), ((λ e. refl), tt)), tt),
    )

-- What isn't mapped, and what isn't alike.

abbrev chosen_cells : List Cell
chosen_cells = bit Input ∷ bit Input ∷ bit (Const 1) ∷ []

pub other_side_is_not_mapped : OtherSideIsNotMapped
other_side_is_not_mapped mapped = by_change (mapped 3 (bit (Mux 2 0 1)) refl)
  where
    by_change : Stands chosen_cells (at (0 ∷ 1 ∷ 2 ∷ 1 ∷ [])) 3 (bit (Mux 2 0 1)) → ⊥
    by_change (inl kept) = let never : Input ≡ Mux 2 0 1 = one_gate chosen_cells 1 (bit Input) (bit (Mux 2 0 1)) refl kept in cc
    by_change (inr (inl (u, consts, shows))) =
        let (w, is) = shows 0 0 in
        let k : ℕ = shown 1 (Mux 2 0 1) 0 0 u in
        let never : Input ≡ Const k = one_gate chosen_cells 1 (bit Input) (record { width = w; gate = Const k }) refl is in
        cc
    by_change (inr (inr (inl (one, is)))) = omega (arith, is)
    by_change (inr (inr (inr (k, other, (w, const), is)))) =
        let same : Const 1 ≡ Const k = one_gate chosen_cells 2 (bit (Const 1)) (record { width = w; gate = Const k }) refl const in
        other (let one : 1 ≡ k = cc in sym one)

pub register_is_not_folded : RegisterIsNotFolded
register_is_not_folded mapped =
    let kept = register_kept (bit (Const 1) ∷ []) (at (0 ∷ 0 ∷ [])) 1 (bit (Reg 0)) (0, refl) (mapped 1 (bit (Reg 0)) refl) in
    let never : Const 1 ≡ Reg 0 = one_gate (bit (Const 1) ∷ []) 0 (bit (Const 1)) (bit (Reg 0)) refl kept in
    cc

pub inputs_stay_apart : InputsStayApart
inputs_stay_apart roots q = let same : 0 ≡ 1 = q.inputs 0 1 (bit Input) (bit Input) refl refl refl refl refl in omega (arith, same)

pub inputs_stay : InputsStay
inputs_stay g part = let (n, low, to) = part.inputs 0 (bit Input) refl refl in omega (arith, low)

pub silent_is_not_alike : SilentIsNotAlike
silent_is_not_alike alike = silent_lags (alike.pace (weight skip.imports skip.body) skip skip_keeps_pace)
