-- Levels, one net after another in an order in which they can be evaluated; and that cells with such an order have no others.
use Rattle.std.specs.Prelude.{◌≡◌, ◌≢◌, ℕ, zero, suc, ◌+◌, ◌<◌, ◌≤◌, ◌⊎◌, List, [], ◌∷◌, All, Contains, Some, None, length, max, replicate, set, slice_get, take, get_or}
use Rattle.std.proofs.Common.{arith, refl, ap, sym, subst, inl, inr, ◌∙◌, get_or-set_same, get_or-set_other}
use Rattle.std.proofs.lemmas.Bool.{cases_order}
use Rattle.std.proofs.lemmas.List.{length-set, length-take, get_or-take, length-replicate, get_or-replicate, get_or_past, ext_get_or}
use Rattle.std.proofs.lemmas.List.Elements.{All-set, All-weaker, All-replicate}
use Rattle.std.proofs.lemmas.Option.{same_Some, slice_get_within, slice_get_cases, get_or_from_slice_get}
use Rattle.gos_netlist.specs.Nets.{Function, Input, Const, Not, And, Or, Xor, Mux, Add, Sub, Eq, Less, Gate, Reg, Cell, pins}
use Rattle.gos_netlist.specs.Settling.{Numbers, at}
use Rattle.gos_netlist.specs.Cycles.{IsRegister, Feeds}
use Rattle.gos_netcheck.specs.Schedule.{IsSchedule}
use Rattle.gos_netcheck.specs.Levels.{AreLevels, greatest, level_of}
use Rattle.gos_netcheck.proofs.ScheduleLemmas.{among_first, place_of}

-- the greatest of levels that agree
same_greatest : (l m : ℕ → ℕ) (ns : List ℕ) → ((a : ℕ) → Contains ns a → l a ≡ m a) → greatest l ns ≡ greatest m ns
same_greatest l m [] same = refl
same_greatest l m (a ∷ []) same = same a (0, omega arith, refl)
same_greatest l m (a ∷ b ∷ ns) same =
    let first : l a ≡ m a = same a (0, omega arith, refl) in
    let rest : greatest l (b ∷ ns) ≡ greatest m (b ∷ ns) = same_greatest l m (b ∷ ns) (λ c (k, below, is). same c (suc k, omega (arith, below), is)) in
    (λ i. max (first i) (rest i))

-- a cell has the same level where levels agree on its pins
same_level : (f : Function) (l m : ℕ → ℕ) → ((a : ℕ) → Contains (pins f) a → l a ≡ m a) → level_of f l ≡ level_of f m
same_level Input l m same = refl
same_level (Const k) l m same = refl
same_level (Not a) l m same = ap suc (same_greatest l m (a ∷ []) same)
same_level (And a b) l m same = ap suc (same_greatest l m (a ∷ b ∷ []) same)
same_level (Or a b) l m same = ap suc (same_greatest l m (a ∷ b ∷ []) same)
same_level (Xor a b) l m same = ap suc (same_greatest l m (a ∷ b ∷ []) same)
same_level (Mux s a b) l m same = ap suc (same_greatest l m (s ∷ a ∷ b ∷ []) same)
same_level (Add a b) l m same = ap suc (same_greatest l m (a ∷ b ∷ []) same)
same_level (Sub a b) l m same = ap suc (same_greatest l m (a ∷ b ∷ []) same)
same_level (Eq a b) l m same = ap suc (same_greatest l m (a ∷ b ∷ []) same)
same_level (Less a b) l m same = ap suc (same_greatest l m (a ∷ b ∷ []) same)
same_level (Gate s a) l m same = ap suc (same_greatest l m (s ∷ a ∷ []) same)
same_level (Reg a) l m same = refl

-- a register has level 0
level_of_register : (f : Function) (l : ℕ → ℕ) → IsRegister f → level_of f l ≡ 0
level_of_register f l (a, e) = ap (λ g. level_of g l) e

register_or_not : (f : Function) → IsRegister f ⊎ (IsRegister f → ⊥)
register_or_not Input = inr (λ h. cc h.1)
register_or_not (Const k) = inr (λ h. cc h.1)
register_or_not (Not a) = inr (λ h. cc h.1)
register_or_not (And a b) = inr (λ h. cc h.1)
register_or_not (Or a b) = inr (λ h. cc h.1)
register_or_not (Xor a b) = inr (λ h. cc h.1)
register_or_not (Mux s a b) = inr (λ h. cc h.1)
register_or_not (Add a b) = inr (λ h. cc h.1)
register_or_not (Sub a b) = inr (λ h. cc h.1)
register_or_not (Eq a b) = inr (λ h. cc h.1)
register_or_not (Less a b) = inr (λ h. cc h.1)
register_or_not (Gate s a) = inr (λ h. cc h.1)
register_or_not (Reg a) = inl (a, refl)

-- the nets before place i of the order have their levels, and registers have 0
pub record AreLevelsBefore (cells : List Cell) (order : List ℕ) (i : ℕ) (levels : Numbers) : Type 0 where
  pub each : length levels ≡ length cells
  pub leveled : (j n : ℕ) (c : Cell) → j < i → slice_get order j ≡ Some n → slice_get cells n ≡ Some c → at levels n ≡ level_of c.gate (at levels)
  pub registers : (n : ℕ) (c : Cell) → slice_get cells n ≡ Some c → IsRegister c.gate → at levels n ≡ 0
  pub bound : All (λ l. l ≤ i) levels

-- a place before another one
among_earlier : (order : List ℕ) (i j a : ℕ) → j ≤ i → Contains (take j order) a → Contains (take i order) a
among_earlier order i j a le has =
    let is = among_first order j a has in
    let inside = slice_get_within order is.at a is.is in
    let count : length (take i order) ≡ _ = length-take i order in
    (is.at, omega (arith, is.before, le, inside, count), get_or-take i order is.at a (omega (arith, is.before, le)) ∙ get_or_from_slice_get order is.at a a is.is)

-- levels agree on the nets before a place
abbrev AgreeBefore : List ℕ → Numbers → Numbers → ℕ → Type 0
AgreeBefore order l m i = (j n : ℕ) → j < i → slice_get order j ≡ Some n → at l n ≡ at m n

module _ (cells : List Cell) (order : List ℕ) (s : IsSchedule cells order) where
  pub none_leveled : AreLevelsBefore cells order 0 (replicate (length cells) 0)
  none_leveled =
      record {
        each = length-replicate (length cells) 0;
        leveled = λ j n c below. absurd (omega (arith, below));
        registers = λ n c is register.
            let none : ℕ = 0 in
            get_or-replicate (length cells) n none none (omega (arith, slice_get_within cells n c is, length-replicate (length cells) none));
        bound = All-replicate (λ l. l ≤ 0) (length cells) 0 (omega arith);
      }

  -- one net more
  pub one_leveled : (levels : Numbers) (i b x : ℕ) (c : Cell) → slice_get order i ≡ Some b → slice_get cells b ≡ Some c → x ≡ level_of c.gate (at levels)
      → x ≤ i + 1 → AreLevelsBefore cells order i levels → AreLevelsBefore cells order (i + 1) (set levels b x)
  one_leveled levels i b x c is cell e low before = record { each = length-set levels b x ∙ before.each; leveled = leveled; registers = registers; bound = bound }
    where
      within : b < length levels
      within = omega (arith, slice_get_within cells b c cell, before.each)

      new : at (set levels b x) b ≡ x
      new = get_or-set_same levels b x 0 within

      -- a net that is read keeps its level
      kept : (j n a : ℕ) (d : Cell) → j ≤ i → slice_get order j ≡ Some n → slice_get cells n ≡ Some d → Contains (pins d.gate) a → at (set levels b x) a ≡ at levels a
      kept j n a d le there cell_n read = by_net (cases_order a b)
        where
          same : a ≡ b → at (set levels b x) a ≡ at levels a
          same net = by_register (register_or_not c.gate)
            where
              by_register : IsRegister c.gate ⊎ (IsRegister c.gate → ⊥) → at (set levels b x) a ≡ at levels a
              by_register (inl register) =
                  let P : ℕ → Type 0 = λ k. at (set levels b x) k ≡ at levels k in
                  subst P (sym net) (new ∙ (e ∙ (level_of_register c.gate (at levels) register ∙ sym (before.registers b c cell register))))
              by_register (inr other) =
                  let Q : ℕ → Type 0 = λ k. Contains (pins d.gate) k in
                  let feeds : Feeds cells b n = (c, d, cell, cell_n, other, subst Q net read) in
                  absurd ((s.due i b is).1 (among_earlier order i j b le ((s.due j n there).2 b feeds)))

          by_net : (a ≡ b) ⊎ ((a < b) ⊎ (b < a)) → at (set levels b x) a ≡ at levels a
          by_net (inl net) = same net
          by_net (inr (inl less)) = get_or-set_other levels b a x 0 (λ net. omega (arith, less, net))
          by_net (inr (inr more)) = get_or-set_other levels b a x 0 (λ net. omega (arith, more, net))

      still : (j n : ℕ) (d : Cell) → j ≤ i → slice_get order j ≡ Some n → slice_get cells n ≡ Some d → level_of d.gate (at (set levels b x)) ≡ level_of d.gate (at levels)
      still j n d le there cell_n = same_level d.gate (at (set levels b x)) (at levels) (λ a. kept j n a d le there cell_n)

      leveled : (j n : ℕ) (d : Cell) → j < i + 1 → slice_get order j ≡ Some n → slice_get cells n ≡ Some d → at (set levels b x) n ≡ level_of d.gate (at (set levels b x))
      leveled j n d below there cell_n = by_place (cases_order j i)
        where
          newest : j ≡ i → at (set levels b x) n ≡ level_of d.gate (at (set levels b x))
          newest place =
              let P : ℕ → Type 0 = λ k. slice_get order k ≡ Some n in
              let net : b ≡ n = same_Some b n (sym is ∙ subst P place there) in
              let Q : ℕ → Type 0 = λ k. slice_get cells k ≡ Some d in
              let same : c ≡ d = same_Some c d (sym cell ∙ subst Q (sym net) cell_n) in
              let R : ℕ → Type 0 = λ k. at (set levels b x) k ≡ x in
              subst R net new ∙ (e ∙ (ap (λ (y : Cell). level_of y.gate (at levels)) same ∙ sym (still j n d (omega (arith, below)) there cell_n)))

          older : j < i → at (set levels b x) n ≡ level_of d.gate (at (set levels b x))
          older less =
              let apart : n ≢ b = λ net. again net in
              get_or-set_other levels b n x 0 apart ∙ (before.leveled j n d less there cell_n ∙ sym (still j n d (omega (arith, less)) there cell_n))
            where
              again : n ≡ b → ⊥
              again net =
                  let count : length (take i order) ≡ _ = length-take i order in
                  let inside = slice_get_within order j n there in
                  (s.due i b is).1 (j, omega (arith, less, inside, count), get_or-take i order j b less ∙ (get_or_from_slice_get order j n b there ∙ net))

          by_place : (j ≡ i) ⊎ ((j < i) ⊎ (i < j)) → at (set levels b x) n ≡ level_of d.gate (at (set levels b x))
          by_place (inl place) = newest place
          by_place (inr (inl less)) = older less
          by_place (inr (inr more)) = absurd (omega (arith, more, below))

      registers : (n : ℕ) (d : Cell) → slice_get cells n ≡ Some d → IsRegister d.gate → at (set levels b x) n ≡ 0
      registers n d cell_n register = by_net (cases_order n b)
        where
          same : n ≡ b → at (set levels b x) n ≡ 0
          same net =
              let Q : ℕ → Type 0 = λ k. slice_get cells k ≡ Some d in
              let one : c ≡ d = same_Some c d (sym cell ∙ subst Q net cell_n) in
              let R : ℕ → Type 0 = λ k. at (set levels b x) k ≡ x in
              subst R (sym net) new ∙ (e ∙ (ap (λ (y : Cell). level_of y.gate (at levels)) one ∙ level_of_register d.gate (at levels) register))

          by_net : (n ≡ b) ⊎ ((n < b) ⊎ (b < n)) → at (set levels b x) n ≡ 0
          by_net (inl net) = same net
          by_net (inr (inl less)) = get_or-set_other levels b n x 0 (λ net. omega (arith, less, net)) ∙ before.registers n d cell_n register
          by_net (inr (inr more)) = get_or-set_other levels b n x 0 (λ net. omega (arith, more, net)) ∙ before.registers n d cell_n register

      bound : All (λ l. l ≤ i + 1) (set levels b x)
      bound = All-set (λ l. l ≤ i + 1) levels b x low (All-weaker (λ l. l ≤ i) (λ l. l ≤ i + 1) (λ l le. omega (arith, le)) levels before.bound)

  -- all nets
  pub all_leveled : (levels : Numbers) (i : ℕ) → length order ≤ i → AreLevelsBefore cells order i levels → AreLevels cells levels
  all_leveled levels i le before = record { each = before.each; leveled = leveled }
    where
      leveled : (n : ℕ) (c : Cell) → slice_get cells n ≡ Some c → at levels n ≡ level_of c.gate (at levels)
      leveled n c is =
          let among = s.all n (slice_get_within cells n c is) in
          before.leveled among.0 n c (omega (arith, among.1, le)) (place_of order n among) is

  -- other levels of the same cells
  module _ (l m : Numbers) (first : AreLevels cells l) (second : AreLevels cells m) where
    agree_before : (i : ℕ) → AgreeBefore order l m i
    agree_before zero j n below there = absurd (omega (arith, below))
    agree_before (suc i) j n below there = by_cell (λ k b less. agree_before i k b less) (slice_get_cases cells n).1
      where
        low : n < length cells
        low = (s.due j n there).0

        -- a net that its cell reads
        by_pin : AgreeBefore order l m i → (c : Cell) → slice_get cells n ≡ Some c → (a : ℕ) → Contains (pins c.gate) a → at l a ≡ at m a
        by_pin earlier c is a read = by_feed (slice_get_cases cells a).1
          where
            by_feed : ((d : Cell) × (a < length cells) × (slice_get cells a ≡ Some d) × (get_or cells a d ≡ d)) ⊎ ((length cells ≤ a) × (slice_get cells a ≡ None)) → at l a ≡ at m a
            by_feed (inl (d, inside, cell, got)) = by_register (register_or_not d.gate)
              where
                by_register : IsRegister d.gate ⊎ (IsRegister d.gate → ⊥) → at l a ≡ at m a
                by_register (inl register) =
                    first.leveled a d cell ∙ (level_of_register d.gate (at l) register ∙ sym (second.leveled a d cell ∙ level_of_register d.gate (at m) register))
                by_register (inr other) =
                    let is_before = among_first order j a ((s.due j n there).2 a (d, c, cell, is, other, read)) in
                    earlier is_before.at a (omega (arith, is_before.before, below)) is_before.is
            by_feed (inr (past, none)) = get_or_past l a 0 (omega (arith, past, first.each)) ∙ sym (get_or_past m a 0 (omega (arith, past, second.each)))

        by_cell : AgreeBefore order l m i → ((c : Cell) × (n < length cells) × (slice_get cells n ≡ Some c) × (get_or cells n c ≡ c)) ⊎ ((length cells ≤ n) × (slice_get cells n ≡ None)) → at l n ≡ at m n
        by_cell earlier (inl (c, inside, is, got)) = first.leveled n c is ∙ (same_level c.gate (at l) (at m) (by_pin earlier c is) ∙ sym (second.leveled n c is))
        by_cell earlier (inr (past, none)) = absurd (omega (arith, past, low))

    pub agree : l ≡ m
    agree = ext_get_or 0 l m (first.each ∙ sym second.each) each
      where
        each : (n : ℕ) → n < length l → get_or l n 0 ≡ get_or m n 0
        each n below =
            let among = s.all n (omega (arith, below, first.each)) in
            agree_before (suc among.0) among.0 n (omega arith) (place_of order n among)
