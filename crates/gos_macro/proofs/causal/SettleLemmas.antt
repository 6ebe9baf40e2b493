-- The cells of a part settle for each choice of what comes in, since no gate names a later one.
--
-- Each net is computed from the nets that its cell names, so many steps deep. As deep as there are cells, and two more, a
-- further step changes nothing.
use Rattle.std.proofs.Common.{◌≡◌, inl, inr, ◌⊎◌, ℕ, zero, suc, ◌+◌, ◌-◌, ◌<◌, ◌≤◌, true, false, List, Option, Some, length, map, refl, sym, ◌∙◌, ap, subst, arith, if◌then◌else◌}
use Rattle.std.specs.Prelude.{None, nat_lt, slice_get}
use Rattle.std.specs.List.{range_with_len}
use Rattle.std.proofs.lemmas.Option.{slice_get_within, slice_get_past}
use Rattle.std.proofs.lemmas.List.FromFn.{get_or-map-range_with_len}
use Rattle.gos_netlist.specs.Nets.{Cell}
use Rattle.gos_netlist.specs.Settling.{Numbers, at, shown, next_of}
use Rattle.gos_netlist.specs.Cycles.{IsRegister}
use Rattle.gos_plan.specs.Kinds.{Contact}
use Rattle.gos_macro.specs.Gates.{Incoming, Settled}
use Rattle.gos_macro.specs.Fit.{IsKnown, NameEarlier}
use Rattle.gos_macro.specs.Paths.{IsIn}
use Rattle.gos_macro.proofs.causal.CellLemmas.{Meets, Follows, settles, same_gate, register_shows, known}

-- the cell of a net, where it is in the region
abbrev pub own_cell : ℕ → List Cell → ℕ → Option Cell
own_cell b cells n = if nat_lt n b then None else slice_get cells (n - b)

own_here : (b : ℕ) (cells : List Cell) (k : ℕ) → own_cell b cells (b + k) ≡ slice_get cells k
own_here b cells k =
    let after : nat_lt (b + k) b ≡ false = grind arith in
    let place : b + k - b ≡ k = omega arith in
    rw after (ap (slice_get cells) place)

own_nowhere : (b : ℕ) (cells : List Cell) (n : ℕ) → (n < b) ⊎ (b + length cells ≤ n) → own_cell b cells n ≡ None
own_nowhere b cells n (inl before) = let less : nat_lt n b ≡ true = grind (arith, before) in rw less refl
own_nowhere b cells n (inr behind) =
    let after : nat_lt n b ≡ false = grind (arith, behind) in
    rw after (slice_get_past cells (n - b) (omega (arith, behind)))

-- what a net shows by its cell, or else what comes in there
abbrev pub shown_by : Option Cell → ℕ → (ℕ → ℕ) → ℕ → ℕ
shown_by None r v x = x
shown_by (Some c) r v x = shown c.width c.gate r 0 v

-- what a net shows, computed so many steps deep
abbrev pub deep : List Cell → Numbers → ℕ → (ℕ → ℕ) → ℕ → ℕ → ℕ
deep cells regs b input zero n = input n
deep cells regs b input (suc steps) n = shown_by (own_cell b cells n) (at regs n) (deep cells regs b input steps) (input n)

-- what settling stands on: a region of cells that name what comes in, and no gate a later one
pub record Orderly (contacts : List Contact) (b : ℕ) (i : Incoming) (cells : List Cell) : Type 0 where
  pub order : NameEarlier contacts i b cells 0 cells
  pub outside : (h net : ℕ) → h < length contacts → IsIn contacts i h net → (net < b) ⊎ (b + length cells ≤ net)

deep_own : (cells : List Cell) (regs : Numbers) (b : ℕ) (input : ℕ → ℕ) (steps k : ℕ) (c : Cell) → slice_get cells k ≡ Some c
    → deep cells regs b input (suc steps) (b + k) ≡ shown c.width c.gate (at regs (b + k)) 0 (deep cells regs b input steps)
deep_own cells regs b input steps k c is =
    ap (λ (o : Option Cell). shown_by o (at regs (b + k)) (deep cells regs b input steps) (input (b + k))) (own_here b cells k ∙ is)

deep_in : (cells : List Cell) (regs : Numbers) (b : ℕ) (input : ℕ → ℕ) (steps n : ℕ) → (n < b) ⊎ (b + length cells ≤ n)
    → deep cells regs b input steps n ≡ input n
deep_in cells regs b input zero n out = refl
deep_in cells regs b input (suc steps) n out =
    ap (λ (o : Option Cell). shown_by o (at regs n) (deep cells regs b input steps) (input n)) (own_nowhere b cells n out)

deep_register : (cells : List Cell) (regs : Numbers) (b : ℕ) (input : ℕ → ℕ) (steps k : ℕ) (c : Cell) → slice_get cells k ≡ Some c
    → IsRegister c.gate → 1 ≤ steps → deep cells regs b input steps (b + k) ≡ at regs (b + k)
deep_register cells regs b input zero k c is register some = absurd (omega (arith, some))
deep_register cells regs b input (suc steps) k c is register some =
    deep_own cells regs b input steps k c is ∙ register_shows c.width (at regs (b + k)) c.gate (deep cells regs b input steps) register

-- further steps change nothing
stable : (contacts : List Contact) (b : ℕ) (i : Incoming) (cells : List Cell) → Orderly contacts b i cells → (regs : Numbers) (input : ℕ → ℕ)
    → (bound k : ℕ) (c : Cell) → k < bound → slice_get cells k ≡ Some c → (m n : ℕ) → k + 2 ≤ m → k + 2 ≤ n
    → deep cells regs b input m (b + k) ≡ deep cells regs b input n (b + k)
stable contacts b i cells orderly regs input zero k c below is m n some more = absurd (omega (arith, below))
stable contacts b i cells orderly regs input (suc bound) k c below is zero n some more = absurd (omega (arith, some))
stable contacts b i cells orderly regs input (suc bound) k c below is (suc m) zero some more = absurd (omega (arith, more))
stable contacts b i cells orderly regs input (suc bound) k c below is (suc m) (suc n) some more =
    deep_own cells regs b input m k c is
    ∙ (same_gate c.width (at regs (b + k)) c.gate (deep cells regs b input m) (deep cells regs b input n)
    (λ none net named.
    at_pin net (known contacts i b cells orderly.order k c is none net named) (λ j d. stable contacts b i cells orderly regs input bound j d))
    ∙ sym (deep_own cells regs b input n k c is))
  where
    Earlier : Type 0
    Earlier =
        (j : ℕ) (d : Cell) → j < bound → slice_get cells j ≡ Some d → (m n : ℕ) → j + 2 ≤ m → j + 2 ≤ n
        → deep cells regs b input m (b + j) ≡ deep cells regs b input n (b + j)

    at_pin : (net : ℕ) → IsKnown contacts i b cells k net → Earlier → deep cells regs b input m net ≡ deep cells regs b input n net
    at_pin net (inl (h, small, come)) ih =
        let out = orderly.outside h net small come in deep_in cells regs b input m net out ∙ sym (deep_in cells regs b input n net out)
    at_pin net (inr (j, d, place, here, inl earlier)) ih =
        subst (λ (x : ℕ). deep cells regs b input m x ≡ deep cells regs b input n x) (sym place)
        (ih j d (omega (arith, earlier, below)) here m n (omega (arith, earlier, some)) (omega (arith, earlier, more)))
    at_pin net (inr (j, d, place, here, inr register)) ih =
        subst (λ (x : ℕ). deep cells regs b input m x ≡ deep cells regs b input n x) (sym place)
        (deep_register cells regs b input m j d here register (omega (arith, some)) ∙ sym (deep_register cells regs b input n j d here register (omega (arith, more))))

-- so the values as deep as there are cells, and two steps more, meet all equations
abbrev pub final : List Cell → Numbers → ℕ → (ℕ → ℕ) → ℕ → ℕ
final cells regs b input = deep cells regs b input (suc (suc (length cells)))

final_meets : (contacts : List Contact) (b : ℕ) (i : Incoming) (cells : List Cell) → Orderly contacts b i cells → (regs : Numbers) (input : ℕ → ℕ)
    → Meets (final cells regs b input) regs b cells
final_meets contacts b i cells orderly regs input k c is =
    deep_own cells regs b input (suc (length cells)) k c is
    ∙ same_gate c.width (at regs (b + k)) c.gate (deep cells regs b input (suc (length cells))) (final cells regs b input)
    (λ none net named. at_pin net (known contacts i b cells orderly.order k c is none net named))
  where
    at_cell : (net j : ℕ) (d : Cell) → net ≡ b + j → slice_get cells j ≡ Some d → deep cells regs b input (suc (length cells)) net ≡ final cells regs b input net
    at_cell net j d place here =
        let within = slice_get_within cells j d here in
        subst (λ (x : ℕ). deep cells regs b input (suc (length cells)) x ≡ final cells regs b input x) (sym place)
        (stable contacts b i cells orderly regs input (suc j) j d (omega arith) here (suc (length cells)) (suc (suc (length cells))) (omega (arith, within)) (omega (arith, within)))

    at_pin : (net : ℕ) → IsKnown contacts i b cells k net → deep cells regs b input (suc (length cells)) net ≡ final cells regs b input net
    at_pin net (inl (h, small, come)) =
        let out = orderly.outside h net small come in
        deep_in cells regs b input (suc (length cells)) net out ∙ sym (deep_in cells regs b input (suc (suc (length cells))) net out)
    at_pin net (inr (j, d, place, here, which)) = at_cell net j d place here

-- a list of the values of a function
abbrev pub listed : ℕ → (ℕ → ℕ) → Numbers
listed limit v = map v (range_with_len 0 limit)

pub at_listed : (limit : ℕ) (v : ℕ → ℕ) (n : ℕ) → n < limit → at (listed limit v) n ≡ v n
at_listed limit v n below = get_or-map-range_with_len v 0 limit n n 0 below (omega arith)

-- the next register of a net, where it has a cell
abbrev pub next_by : Option Cell → Numbers → ℕ
next_by None v = 0
next_by (Some c) v = next_of c.gate v

-- Numbers for which the cells settle, and which are the input where it comes in.
pub record Settles (contacts : List Contact) (b : ℕ) (i : Incoming) (cells : List Cell) (regs : Numbers) (input : ℕ → ℕ) : Type 0 where
  pub now : Numbers
  pub after : Numbers
  pub settled : Settled now regs after b 0 cells
  pub comes : (h net : ℕ) → h < length contacts → IsIn contacts i h net → at now net ≡ input net

pub there_are : (contacts : List Contact) (b : ℕ) (i : Incoming) (cells : List Cell) → Orderly contacts b i cells → (regs : Numbers) (input : ℕ → ℕ) (limit : ℕ)
    → b + length cells ≤ limit → ((h net : ℕ) → h < length contacts → IsIn contacts i h net → net < limit)
    → Settles contacts b i cells regs input
there_are contacts b i cells orderly regs input limit long wide =
    record {
      now = now;
      after = listed limit (λ n. next_by (own_cell b cells n) now);
      settled = settles now regs (listed limit (λ n. next_by (own_cell b cells n) now)) b cells met next;
      comes = λ h net small come. at_listed limit v net (wide h net small come) ∙ deep_in cells regs b input (suc (suc (length cells))) net (orderly.outside h net small come);
    }
  where
    v : ℕ → ℕ
    v = final cells regs b input

    now : Numbers
    now = listed limit v

    at_place : (k : ℕ) → k < length cells → b + k < limit
    at_place k within = omega (arith, within, long)

    at_pin : (k net : ℕ) → IsKnown contacts i b cells k net → v net ≡ at now net
    at_pin k net (inl (h, small, come)) = sym (at_listed limit v net (wide h net small come))
    at_pin k net (inr (j, d, place, here, which)) =
        let within = slice_get_within cells j d here in
        sym (at_listed limit v net (omega (arith, place, at_place j within)))

    met : Meets (at now) regs b cells
    met k c is =
        at_listed limit v (b + k) (at_place k (slice_get_within cells k c is))
        ∙ (final_meets contacts b i cells orderly regs input k c is
        ∙ same_gate c.width (at regs (b + k)) c.gate v (at now) (λ none net named. at_pin k net (known contacts i b cells orderly.order k c is none net named)))

    next : Follows now (listed limit (λ n. next_by (own_cell b cells n) now)) b cells
    next k c is =
        at_listed limit (λ n. next_by (own_cell b cells n) now) (b + k) (at_place k (slice_get_within cells k c is))
        ∙ ap (λ (o : Option Cell). next_by o now) (own_here b cells k ∙ is)
