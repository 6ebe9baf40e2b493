-- A single change of the cells of an accepted netlist makes a quotient of them.
--
-- Read first: Reduced; Changes. A cell that goes to another net is left out, and those behind it move up by one; a cell that
-- becomes a constant stays in its place.
use Rattle.std.proofs.Common.{◌≡◌, ◌≢◌, ◌⊎◌, inl, inr, ◌+◌, ◌<◌, ◌≤◌, ℕ, zero, suc, List, [], ◌∷◌, length, slice_get, Some, Contains, refl, sym, ap, subst, ◌∙◌, arith}
use Rattle.std.proofs.lemmas.Option.{slice_get_within}
use Rattle.gos_netlist.specs.Nets.{Function, Input, Const, Not, And, Or, Xor, Mux, Add, Sub, Eq, Less, Gate, Reg, Cell, pins}
use Rattle.gos_netlist.specs.Settling.{shown}
use Rattle.gos_netlist.specs.Cycles.{IsRegister, Feeds, HasCycle}
use Rattle.gos_netlist.proofs.RepeatLemmas.{same_or_not}
use Rattle.gos_netcheck.specs.CellRules.{width_at, widths_of, OperandsFit, NetsExist, WidthsFit}
use Rattle.gos_tidy.specs.Mapped.{renamed, IsConst, IsXorOf, IsKept, IsShort, Stands}
use Rattle.gos_tidy.specs.Reduced.{HasWidth, IsClosed, Stays, IsQuotient}
use Rattle.gos_tidy.specs.Tidy.{Folds}
use Rattle.gos_tidy.specs.inner.Changes.{skip, ShowsNet, GoesTo, ShowsNumber, IsShut, BecomesNumber}
use Rattle.gos_tidy.proofs.NarrowLemmas.{pin_first, pin_second, pin_third, width_is, there_or_none}
use Rattle.gos_tidy.proofs.RenamedLemmas.{each_of, one_cell, one_gate}
use Rattle.gos_tidy.proofs.QuotientLemmas.{cell_there}

-- No net is behind itself.

no_self : (cells : List Cell) → (HasCycle cells → ⊥) → (n : ℕ) (c : Cell) → slice_get cells n ≡ Some c → (IsRegister c.gate → ⊥) → Contains (pins c.gate) n → ⊥
no_self cells acyclic n c there free pin = acyclic (n ∷ [], (((λ (k, l, e). omega (arith, l)), tt), (c, c, there, there, free, pin)))

no_pair : (cells : List Cell) → (HasCycle cells → ⊥) → (n a : ℕ) (c e : Cell) → n ≢ a → Feeds cells n a → Feeds cells a n → ⊥
no_pair cells acyclic n a c e apart first second =
    acyclic (n ∷ a ∷ [], ((not_there, ((λ (k, l, e). omega (arith, l)), tt)), (first, second)))
  where
    not_there : Contains (a ∷ []) n → ⊥
    not_there (zero, l, e) = apart (sym e)
    not_there (suc k, l, e) = omega (arith, l)

pub skip_apart : (n j : ℕ) → skip n j ≢ n
skip_apart zero j e = omega (arith, e)
skip_apart (suc n) zero e = omega (arith, e)
skip_apart (suc n) (suc j) e = skip_apart n j (omega (arith, e))

pub skip_rises : (n i j : ℕ) → i < j → skip n i < skip n j
skip_rises zero i j less = omega (arith, less)
skip_rises (suc n) zero zero less = absurd (omega (arith, less))
skip_rises (suc n) zero (suc j) less = omega arith
skip_rises (suc n) (suc i) zero less = absurd (omega (arith, less))
skip_rises (suc n) (suc i) (suc j) less = let more = skip_rises n i j (omega (arith, less)) in omega (arith, more)

pub skip_within : (n j count : ℕ) → j + 1 < count → skip n j < count
skip_within zero j count low = omega (arith, low)
skip_within (suc n) zero count low = omega (arith, low)
skip_within (suc n) (suc j) zero low = absurd (omega (arith, low))
skip_within (suc n) (suc j) (suc count) low = let less = skip_within n j count (omega (arith, low)) in omega (arith, less)

-- each other net has a place after it
after : (n m count : ℕ) → m ≢ n → m < count → n < count → (j : ℕ) × (j + 1 < count) × (skip n j ≡ m)
after zero zero count apart low high = absurd (apart refl)
after zero (suc m) count apart low high = (m, omega (arith, low), refl)
after (suc n) zero count apart low high = (0, omega (arith, high), refl)
after (suc n) (suc m) zero apart low high = absurd (omega (arith, low))
after (suc n) (suc m) (suc count) apart low high =
    let (j, less, same) = after n m count (λ e. apart (ap suc e)) (omega (arith, low)) (omega (arith, high)) in
    (suc j, omega (arith, less), ap suc same)

-- The cells without net n, which goes where net t does: what the change makes, cell by cell.
pub record IsWithout (cells others : List Cell) (f : ℕ → ℕ) (roots : List ℕ) (n t : ℕ) : Type 0 where
  pub count : length others + 1 ≡ length cells
  pub moved : (j : ℕ) → j < length others → f (skip n j) ≡ j
  pub goes : f n ≡ f t
  pub cell : (j : ℕ) (c : Cell) → j < length others → slice_get cells (skip n j) ≡ Some c
      → slice_get others j ≡ Some (record { width = c.width; gate = renamed f c.gate })
  pub each : length roots ≡ length others
  pub root : (i m : ℕ) → slice_get roots i ≡ Some m → m ≡ skip n i

module _ (cells : List Cell) (n t : ℕ) (acyclic : HasCycle cells → ⊥) (fits : WidthsFit cells) (may : GoesTo cells n t) where
  n_there : n < length cells
  n_there = slice_get_within cells n may.0 may.1

  -- a pin isn't the net itself
  pin_apart : (g : Function) → may.0.gate ≡ g → (IsRegister g → ⊥) → (a : ℕ) → Contains (pins g) a → a ≢ n
  pin_apart g is free a pin same =
      no_self cells acyclic n may.0 may.1 (λ r. free (r.0, sym is ∙ r.1))
      (subst (λ (x : ℕ). Contains (pins may.0.gate) x) same (subst (λ (h : Function). Contains (pins h) a) (sym is) pin))

  -- a Xor of which a pin is one has not the net itself as its pin
  xor_apart : (g : Function) → may.0.gate ≡ g → (IsRegister g → ⊥) → (a x : ℕ) → Contains (pins g) a → IsXorOf cells may.0.width a x t → t ≢ n
  xor_apart g is free a x pin there same = by_order there
    where
      apart : n ≢ a
      apart e = pin_apart g is free a pin (sym e)

      in_net : Contains (pins may.0.gate) a
      in_net = subst (λ (k : Function). Contains (pins k) a) (sym is) pin

      is_free : IsRegister may.0.gate → ⊥
      is_free r = free (r.0, sym is ∙ r.1)

      by_order : IsXorOf cells may.0.width a x t → ⊥
      by_order (inl h) =
          let mix : Cell = record { width = may.0.width; gate = Xor x t } in
          no_pair cells acyclic n a may.0 mix apart (may.0, mix, may.1, h, is_free, subst (λ (y : ℕ). Contains (x ∷ t ∷ []) y) same (pin_second x t []))
          (mix, may.0, h, may.1, (λ r. cc r.1), in_net)
      by_order (inr h) =
          let mix : Cell = record { width = may.0.width; gate = Xor t x } in
          no_pair cells acyclic n a may.0 mix apart (may.0, mix, may.1, h, is_free, subst (λ (y : ℕ). Contains (t ∷ x ∷ []) y) same (pin_first t (x ∷ [])))
          (mix, may.0, h, may.1, (λ r. cc r.1), in_net)

  -- the net that is shown is another one, of the same width
  shown_apart : (g : Function) → may.0.gate ≡ g → ShowsNet cells may.0.width g t → t ≢ n
  shown_apart Input is h = absurd h
  shown_apart (Const k) is h = absurd h
  shown_apart (Not a) is h = λ same.
      let apart = pin_apart (Not a) is (λ r. cc r.1) a (pin_first a []) in
      let turn : Cell = record { width = may.0.width; gate = Not t } in
      no_pair cells acyclic n a may.0 turn (λ e. apart (sym e))
      (may.0, turn, may.1, h, (λ r. let never : Not a ≡ Reg r.0 = sym is ∙ r.1 in cc), subst (λ (x : ℕ). Contains (t ∷ []) x) same (pin_first t []))
      (turn, may.0, h, may.1, (λ r. cc r.1), subst (λ (k : Function). Contains (pins k) a) (sym is) (pin_first a []))
  shown_apart (And a b) is (one, same) = λ e. pin_apart (And a b) is (λ r. cc r.1) a (pin_first a (b ∷ [])) (sym same ∙ e)
  shown_apart (Or a b) is (one, same) = λ e. pin_apart (Or a b) is (λ r. cc r.1) a (pin_first a (b ∷ [])) (sym same ∙ e)
  shown_apart (Xor a b) is (inl there) = xor_apart (Xor a b) is (λ r. cc r.1) b a (pin_second a b []) there
  shown_apart (Xor a b) is (inr there) = xor_apart (Xor a b) is (λ r. cc r.1) a b (pin_first a (b ∷ [])) there
  shown_apart (Mux s a b) is (inl (one, same)) = λ e. pin_apart (Mux s a b) is (λ r. cc r.1) a (pin_second s a (b ∷ [])) (sym same ∙ e)
  shown_apart (Mux s a b) is (inr (k, other, const, same)) = λ e. pin_apart (Mux s a b) is (λ r. cc r.1) b (pin_third s a b) (sym same ∙ e)
  shown_apart (Add a b) is h = absurd h
  shown_apart (Sub a b) is h = absurd h
  shown_apart (Eq a b) is h = absurd h
  shown_apart (Less a b) is h = absurd h
  shown_apart (Gate s a) is (one, same) = λ e. pin_apart (Gate s a) is (λ r. cc r.1) a (pin_second s a []) (sym same ∙ e)
  shown_apart (Reg a) is h = absurd h

  fit_as : (g : Function) → may.0.gate ≡ g → OperandsFit (widths_of cells) may.0.width g
  fit_as g is = subst (λ (h : Function). OperandsFit (widths_of cells) may.0.width h) is (fits n may.0 may.1).2

  shown_width : (g : Function) → may.0.gate ≡ g → ShowsNet cells may.0.width g t → width_at (widths_of cells) t ≡ may.0.width
  shown_width Input is h = absurd h
  shown_width (Const k) is h = absurd h
  shown_width (Not a) is h = (fits a (record { width = may.0.width; gate = Not t }) h).2
  shown_width (And a b) is (one, same) = ap (width_at (widths_of cells)) same ∙ (fit_as (And a b) is).0
  shown_width (Or a b) is (one, same) = ap (width_at (widths_of cells)) same ∙ (fit_as (Or a b) is).0
  shown_width (Xor a b) is (inl (inl h)) = (fits b (record { width = may.0.width; gate = Xor a t }) h).2.1
  shown_width (Xor a b) is (inl (inr h)) = (fits b (record { width = may.0.width; gate = Xor t a }) h).2.0
  shown_width (Xor a b) is (inr (inl h)) = (fits a (record { width = may.0.width; gate = Xor b t }) h).2.1
  shown_width (Xor a b) is (inr (inr h)) = (fits a (record { width = may.0.width; gate = Xor t b }) h).2.0
  shown_width (Mux s a b) is (inl (one, same)) = ap (width_at (widths_of cells)) same ∙ (fit_as (Mux s a b) is).1
  shown_width (Mux s a b) is (inr (k, other, const, same)) = ap (width_at (widths_of cells)) same ∙ (fit_as (Mux s a b) is).2
  shown_width (Add a b) is h = absurd h
  shown_width (Sub a b) is h = absurd h
  shown_width (Eq a b) is h = absurd h
  shown_width (Less a b) is h = absurd h
  shown_width (Gate s a) is (one, same) = ap (width_at (widths_of cells)) same ∙ (fit_as (Gate s a) is).1
  shown_width (Reg a) is h = absurd h

  no_input : may.0.gate ≡ Input → ⊥
  no_input is = by_case may.2
    where
      by_case : ShowsNet cells may.0.width may.0.gate t ⊎ ((t < n) × (slice_get cells t ≡ Some may.0) × (may.0.gate ≢ Input)) → ⊥
      by_case (inl shows) = subst (λ (g : Function). ShowsNet cells may.0.width g t) is shows
      by_case (inr (less, same, other)) = other is

  -- net t is another one, of the same width
  pub goes_apart : (t ≢ n) × (c : Cell) × (slice_get cells t ≡ Some c) × (c.width ≡ may.0.width)
  goes_apart = by_case may.2
    where
      by_there : ShowsNet cells may.0.width may.0.gate t → ((c : Cell) × (slice_get cells t ≡ Some c)) ⊎ ((length cells ≤ t) × (width_at (widths_of cells) t ≡ 0))
          → (t ≢ n) × (c : Cell) × (slice_get cells t ≡ Some c) × (c.width ≡ may.0.width)
      by_there shows (inl (c, there)) =
          (shown_apart may.0.gate refl shows, c, there, sym (width_is cells t c there) ∙ shown_width may.0.gate refl shows)
      by_there shows (inr (past, none)) =
          absurd (let some = (fits n may.0 may.1).0 in let same = shown_width may.0.gate refl shows in omega (arith, some, same, none))

      by_case : ShowsNet cells may.0.width may.0.gate t ⊎ ((t < n) × (slice_get cells t ≡ Some may.0) × (may.0.gate ≢ Input))
          → (t ≢ n) × (c : Cell) × (slice_get cells t ≡ Some c) × (c.width ≡ may.0.width)
      by_case (inl shows) = by_there shows (there_or_none cells t)
      by_case (inr (less, there, other)) = ((λ e. omega (arith, less, e)), may.0, there, refl)

module _ (cells others : List Cell) (f : ℕ → ℕ) (roots : List ℕ) (n t : ℕ) (acyclic : HasCycle cells → ⊥) (fits : WidthsFit cells)
    (may : GoesTo cells n t) (made : IsWithout cells others f roots n t) where
  -- each other net is kept
  kept_other : (m : ℕ) (c : Cell) → m ≢ n → slice_get cells m ≡ Some c → IsKept others f m c
  kept_other m c apart there =
      let (j, low, same) = after n m (length cells) apart (slice_get_within cells m c there) (n_there cells n t acyclic fits may) in
      let within : j < length others = let count = made.count in omega (arith, low, count) in
      let here : slice_get cells (skip n j) ≡ Some c = subst (λ (x : ℕ). slice_get cells x ≡ Some c) (sym same) there in
      let place : f m ≡ j = subst (λ (x : ℕ). f x ≡ j) same (made.moved j within) in
      subst (λ (x : ℕ). slice_get others x ≡ Some (record { width = c.width; gate = renamed f c.gate })) (sym place) (made.cell j c within here)

  const_kept : (s k : ℕ) → s ≢ n → IsConst cells s k → IsConst others (f s) k
  const_kept s k apart (w, is) = (w, kept_other s (record { width = w; gate = Const k }) apart is)

  xor_kept : (m x : ℕ) → m ≢ n → IsXorOf cells may.0.width m x t → IsXorOf others may.0.width (f m) (f x) (f n)
  xor_kept m x apart (inl h) =
      inl (kept_other m (record { width = may.0.width; gate = Xor x t }) apart h ∙ ap (λ (y : ℕ). Some (record { width = may.0.width; gate = Xor (f x) y })) (sym made.goes))
  xor_kept m x apart (inr h) =
      inr (kept_other m (record { width = may.0.width; gate = Xor t x }) apart h ∙ ap (λ (y : ℕ). Some (record { width = may.0.width; gate = Xor y (f x) })) (sym made.goes))

  -- a net that shows another one is short
  short_moved : (g : Function) → may.0.gate ≡ g → ShowsNet cells may.0.width g t → IsShort others f n may.0.width g
  short_moved Input is h = absurd h
  short_moved (Const k) is h = absurd h
  short_moved (Not a) is h =
      let turn : Cell = record { width = may.0.width; gate = Not t } in
      kept_other a turn (pin_apart cells n t acyclic fits may (Not a) is (λ r. cc r.1) a (pin_first a [])) h
      ∙ ap (λ (x : ℕ). Some (record { width = may.0.width; gate = Not x })) (sym made.goes)
  short_moved (And a b) is (one, same) = (ap f one, made.goes ∙ ap f same)
  short_moved (Or a b) is (one, same) = (ap f one, made.goes ∙ ap f same)
  short_moved (Xor a b) is (inl there) = inl (xor_kept b a (pin_apart cells n t acyclic fits may (Xor a b) is (λ r. cc r.1) b (pin_second a b [])) there)
  short_moved (Xor a b) is (inr there) = inr (xor_kept a b (pin_apart cells n t acyclic fits may (Xor a b) is (λ r. cc r.1) a (pin_first a (b ∷ []))) there)
  short_moved (Mux s a b) is (inl (one, same)) =
      inl (const_kept s 1 (pin_apart cells n t acyclic fits may (Mux s a b) is (λ r. cc r.1) s (pin_first s (a ∷ b ∷ []))) one, made.goes ∙ ap f same)
  short_moved (Mux s a b) is (inr (k, other, const, same)) =
      inr (k, other, const_kept s k (pin_apart cells n t acyclic fits may (Mux s a b) is (λ r. cc r.1) s (pin_first s (a ∷ b ∷ []))) const, made.goes ∙ ap f same)
  short_moved (Add a b) is h = absurd h
  short_moved (Sub a b) is h = absurd h
  short_moved (Eq a b) is h = absurd h
  short_moved (Less a b) is h = absurd h
  short_moved (Gate s a) is (one, same) =
      inl (const_kept s 1 (pin_apart cells n t acyclic fits may (Gate s a) is (λ r. cc r.1) s (pin_first s (a ∷ []))) one, made.goes ∙ ap f same)
  short_moved (Reg a) is h = absurd h

  -- net t, where net n goes
  record Target : Type 0 where
    stands : Stands others f n may.0
    early : IsShort others f n may.0.width may.0.gate ⊎ (t < n)

  target : Target
  target = by_case may.2
    where
      by_case : ShowsNet cells may.0.width may.0.gate t ⊎ ((t < n) × (slice_get cells t ≡ Some may.0) × (may.0.gate ≢ Input)) → Target
      by_case (inl shows) =
          let short = short_moved may.0.gate refl shows in
          record { stands = inr (inr short); early = inl short }
      by_case (inr (less, there, other)) =
          record { stands = inl (ap (slice_get others) made.goes ∙ kept_other t may.0 (λ e. omega (arith, less, e)) there); early = inr less }

  pub without_quotient : IsQuotient cells others f roots
  without_quotient =
      record {
        mapped = λ m c there. stands_at m c there (same_or_not m n);
        widths = λ m c there. width_at_net m c there (same_or_not m n);
        inputs = λ m p c e at_m at_p input input_too same. inputs_apart m p c e at_m at_p input input_too same;
        each = made.each;
        rises = λ i j m p less at_m at_p.
            let first = made.root i m at_m in
            let second = made.root j p at_p in
            let rising = skip_rises n i j less in
            omega (arith, rising, first, second);
        stays = λ i m at_m. root_stays i m at_m;
        first = λ i m p c at_m there same stays long. earliest i m p c at_m there same long (same_or_not p n);
      }
    where
      stands_at : (m : ℕ) (c : Cell) → slice_get cells m ≡ Some c → (m ≡ n) ⊎ (m ≢ n) → Stands others f m c
      stands_at m c there (inr apart) = inl (kept_other m c apart there)
      stands_at m c there (inl same) =
          let here : slice_get cells n ≡ Some c = subst (λ (x : ℕ). slice_get cells x ≡ Some c) same there in
          subst (λ (x : ℕ). Stands others f x c) (sym same) (subst (Stands others f n) (one_cell cells n may.0 c may.1 here) target.stands)

      width_at_net : (m : ℕ) (c : Cell) → slice_get cells m ≡ Some c → (m ≡ n) ⊎ (m ≢ n) → HasWidth others (f m) c.width
      width_at_net m c there (inr apart) = (record { width = c.width; gate = renamed f c.gate }, kept_other m c apart there, refl)
      width_at_net m c there (inl same) =
          let here : slice_get cells n ≡ Some c = subst (λ (x : ℕ). slice_get cells x ≡ Some c) same there in
          let it : may.0 ≡ c = one_cell cells n may.0 c may.1 here in let (apart, d, at_t, width) = goes_apart cells n t acyclic fits may in (
            record { width = d.width; gate = renamed f d.gate },
            ap (λ (x : ℕ). slice_get others (f x)) same ∙ (ap (slice_get others) made.goes ∙ kept_other t d apart at_t),
            width ∙ ap (λ (x : Cell). x.width) it,
          )

      -- a net that isn't left out is told by where it goes
      place_of : (m : ℕ) → m < length cells → m ≢ n → (skip n (f m) ≡ m) × (f m < length others)
      place_of m low apart =
          let (j, less, same) = after n m (length cells) apart low (n_there cells n t acyclic fits may) in
          let within : j < length others = let count = made.count in omega (arith, less, count) in
          let place : f m ≡ j = subst (λ (x : ℕ). f x ≡ j) same (made.moved j within) in
          (ap (skip n) place ∙ same, subst (λ (x : ℕ). x < length others) (sym place) within)

      not_n : (m : ℕ) (c : Cell) → slice_get cells m ≡ Some c → c.gate ≡ Input → m ≢ n
      not_n m c there input same =
          let here : slice_get cells n ≡ Some c = subst (λ (x : ℕ). slice_get cells x ≡ Some c) same there in
          no_input cells n t acyclic fits may (one_gate cells n may.0 c may.1 here ∙ input)

      inputs_apart : (m p : ℕ) (c e : Cell) → slice_get cells m ≡ Some c → slice_get cells p ≡ Some e → c.gate ≡ Input → e.gate ≡ Input → f m ≡ f p → m ≡ p
      inputs_apart m p c e at_m at_p input input_too same =
          sym (place_of m (slice_get_within cells m c at_m) (not_n m c at_m input)).0
          ∙ (ap (skip n) same ∙ (place_of p (slice_get_within cells p e at_p) (not_n p e at_p input_too)).0)

      root_stays : (i m : ℕ) → slice_get roots i ≡ Some m → (f m ≡ i) × (c : Cell) × (slice_get cells m ≡ Some c) × Stays others f m c
      root_stays i m at_m =
          let is = made.root i m at_m in
          let low : i < length others = let within = slice_get_within roots i m at_m in let each = made.each in omega (arith, within, each) in
          let (c, there) = cell_there cells m (let less = skip_within n i (length cells) (let count = made.count in omega (arith, low, count)) in omega (arith, less, is)) in
          (ap f is ∙ made.moved i low, c, there, inl (kept_other m c (λ e. skip_apart n i (sym is ∙ e)) there))

      earliest : (i m p : ℕ) (c : Cell) → slice_get roots i ≡ Some m → slice_get cells p ≡ Some c → f p ≡ i → (IsShort others f p c.width c.gate → ⊥)
          → (p ≡ n) ⊎ (p ≢ n) → m ≤ p
      earliest i m p c at_m there same long (inr apart) =
          let it = (place_of p (slice_get_within cells p c there) apart).0 in
          let is = made.root i m at_m in
          let one : m ≡ p = is ∙ (ap (skip n) (sym same) ∙ it) in
          omega (arith, one)
      earliest i m p c at_m there same long (inl is_n) =
          let here : slice_get cells n ≡ Some c = subst (λ (x : ℕ). slice_get cells x ≡ Some c) is_n there in
          let cell : may.0 ≡ c = one_cell cells n may.0 c may.1 here in
          let to : f t ≡ i = sym made.goes ∙ (ap f (sym is_n) ∙ same) in
          let (apart, d, at_t, width) = goes_apart cells n t acyclic fits may in
          let it = (place_of t (slice_get_within cells t d at_t) apart).0 in
          let one : m ≡ t = made.root i m at_m ∙ (ap (skip n) (sym to) ∙ it) in
          by_early one target.early (λ short. long (subst (λ (x : ℕ). IsShort others f x c.width c.gate) (sym is_n)
          (subst (λ (x : Cell). IsShort others f n x.width x.gate) cell short)))
        where
          by_early : m ≡ t → IsShort others f n may.0.width may.0.gate ⊎ (t < n) → (IsShort others f n may.0.width may.0.gate → ⊥) → m ≤ p
          by_early one (inl short) never = absurd (never short)
          by_early one (inr less) never = omega (arith, one, less, is_n)

-- A constant in place of a cell.

renamed_same : (f : ℕ → ℕ) (g : Function) → ((a : ℕ) → Contains (pins g) a → f a ≡ a) → renamed f g ≡ g
renamed_same f Input same = refl
renamed_same f (Const k) same = refl
renamed_same f (Not a) same = λ i. Not (same a (pin_first a []) i)
renamed_same f (And a b) same = λ i. And (same a (pin_first a (b ∷ [])) i) (same b (pin_second a b []) i)
renamed_same f (Or a b) same = λ i. Or (same a (pin_first a (b ∷ [])) i) (same b (pin_second a b []) i)
renamed_same f (Xor a b) same = λ i. Xor (same a (pin_first a (b ∷ [])) i) (same b (pin_second a b []) i)
renamed_same f (Mux s a b) same = λ i. Mux (same s (pin_first s (a ∷ b ∷ [])) i) (same a (pin_second s a (b ∷ [])) i) (same b (pin_third s a b) i)
renamed_same f (Add a b) same = λ i. Add (same a (pin_first a (b ∷ [])) i) (same b (pin_second a b []) i)
renamed_same f (Sub a b) same = λ i. Sub (same a (pin_first a (b ∷ [])) i) (same b (pin_second a b []) i)
renamed_same f (Eq a b) same = λ i. Eq (same a (pin_first a (b ∷ [])) i) (same b (pin_second a b []) i)
renamed_same f (Less a b) same = λ i. Less (same a (pin_first a (b ∷ [])) i) (same b (pin_second a b []) i)
renamed_same f (Gate s a) same = λ i. Gate (same s (pin_first s (a ∷ [])) i) (same a (pin_second s a []) i)
renamed_same f (Reg a) same = λ i. Reg (same a (pin_first a []) i)

-- The cells with the constant k in the place of net n: what the change makes, cell by cell.
pub record IsWithNumber (cells others : List Cell) (f : ℕ → ℕ) (roots : List ℕ) (n k : ℕ) : Type 0 where
  pub count : length others ≡ length cells
  pub same : (j : ℕ) (c : Cell) → j ≢ n → slice_get cells j ≡ Some c → slice_get others j ≡ Some c
  pub number : (c : Cell) → slice_get cells n ≡ Some c → slice_get others n ≡ Some (record { width = c.width; gate = Const k })
  pub stays : (j : ℕ) → j < length cells → f j ≡ j
  pub each : length roots ≡ length others
  pub root : (i m : ℕ) → slice_get roots i ≡ Some m → m ≡ i

-- a gate that folds is no constant
folds_no_const : (g : Function) (k : ℕ) → Folds g → g ≢ Const k
folds_no_const g k folds is = subst Folds is folds

module _ (cells others : List Cell) (f : ℕ → ℕ) (roots : List ℕ) (n k : ℕ) (exist : NetsExist cells) (may : BecomesNumber cells n k)
    (made : IsWithNumber cells others f roots n k) where
  place_same : (m : ℕ) (c : Cell) → slice_get cells m ≡ Some c → f m ≡ m
  place_same m c there = made.stays m (slice_get_within cells m c there)

  cell_same : (m : ℕ) (c : Cell) → m ≢ n → slice_get cells m ≡ Some c → IsKept others f m c
  cell_same m c apart there =
      ap (slice_get others) (place_same m c there)
      ∙ (made.same m c apart there
      ∙ ap (λ (g : Function). Some (record { width = c.width; gate = g }))
      (sym (renamed_same f c.gate (λ a pin. made.stays a (each_of (λ (x : ℕ). x < length cells) (pins c.gate) a (exist m c there) pin)))))

  -- a constant that the gate names is there still
  const_there : (a j : ℕ) → (Const j ≡ may.0.gate → ⊥) → IsConst cells a j → IsConst others (f a) j
  const_there a j differ (w, is) =
      let apart : a ≢ n = λ e.
      differ (one_gate cells n (record { width = w; gate = Const j }) may.0
      (subst (λ (x : ℕ). slice_get cells x ≡ Some (record { width = w; gate = Const j })) e is) may.1) in
      (w, cell_same a (record { width = w; gate = Const j }) apart is)

  number_there : slice_get others (f n) ≡ Some (record { width = may.0.width; gate = Const k })
  number_there = ap (slice_get others) (place_same n may.0 may.1) ∙ made.number may.0 may.1

  shut_closed : (g : Function) → may.0.gate ≡ g → IsShut cells g → k ≡ 0 → IsClosed others f n g × IsShort others f n may.0.width g
  shut_closed Input is h none = absurd h
  shut_closed (Const j) is h none = absurd h
  shut_closed (Not a) is h none = absurd h
  shut_closed (And a b) is h none = absurd h
  shut_closed (Or a b) is h none = absurd h
  shut_closed (Xor a b) is h none = absurd h
  shut_closed (Mux s a b) is h none = absurd h
  shut_closed (Add a b) is h none = absurd h
  shut_closed (Sub a b) is h none = absurd h
  shut_closed (Eq a b) is h none = absurd h
  shut_closed (Less a b) is h none = absurd h
  shut_closed (Gate s a) is (j, other, const) none =
      let selector = const_there s j (λ e. let never : Const j ≡ Gate s a = e ∙ is in cc) const in
      let nothing : IsConst others (f n) 0 =
      (may.0.width, number_there ∙ ap (λ (x : ℕ). Some (record { width = may.0.width; gate = Const x })) none) in
      ((j, other, selector, nothing), inr (j, other, selector, nothing))
  shut_closed (Reg a) is h none = absurd h

  becomes : Stays others f n may.0 × Stands others f n may.0
  becomes = by_case may.2
    where
      by_case : ShowsNumber cells may.0.width may.0.gate k ⊎ (IsShut cells may.0.gate × (k ≡ 0)) → Stays others f n may.0 × Stands others f n may.0
      by_case (inr (shut, none)) = let both = shut_closed may.0.gate refl shut none in (inr (inr both.0), inr (inr both.1))
      by_case (inl (folds, v, consts, shows)) =
          let named : (a : ℕ) → Contains (pins may.0.gate) a → IsConst others (f a) (v a) =
          λ a pin. const_there a (v a) (λ e. folds_no_const may.0.gate (v a) folds (sym e)) (consts a pin) in
          let there : (r i : ℕ) → IsConst others (f n) (shown may.0.width may.0.gate r i v) =
          λ r i. (may.0.width, number_there ∙ ap (λ (x : ℕ). Some (record { width = may.0.width; gate = Const x })) (sym (shows r i))) in
          (inr (inl (v, named, there)), inr (inl (v, named, there)))

  pub number_quotient : IsQuotient cells others f roots
  number_quotient =
      record {
        mapped = λ m c there. stands_at m c there (same_or_not m n);
        widths = λ m c there. width_at_net m c there (same_or_not m n);
        inputs = λ m p c e at_m at_p input input_too same. sym (place_same m c at_m) ∙ (same ∙ place_same p e at_p);
        each = made.each;
        rises = λ i j m p less at_m at_p.
            let first = made.root i m at_m in
            let second = made.root j p at_p in
            omega (arith, less, first, second);
        stays = λ i m at_m. root_stays i m at_m;
        first = λ i m p c at_m there same stays long.
            let first = made.root i m at_m in
            let second = place_same p c there in
            omega (arith, first, same, second);
      }
    where
      stands_at : (m : ℕ) (c : Cell) → slice_get cells m ≡ Some c → (m ≡ n) ⊎ (m ≢ n) → Stands others f m c
      stands_at m c there (inr apart) = inl (cell_same m c apart there)
      stands_at m c there (inl same) =
          let here : slice_get cells n ≡ Some c = subst (λ (x : ℕ). slice_get cells x ≡ Some c) same there in
          subst (λ (x : ℕ). Stands others f x c) (sym same) (subst (Stands others f n) (one_cell cells n may.0 c may.1 here) becomes.1)

      width_at_net : (m : ℕ) (c : Cell) → slice_get cells m ≡ Some c → (m ≡ n) ⊎ (m ≢ n) → HasWidth others (f m) c.width
      width_at_net m c there (inr apart) = (record { width = c.width; gate = renamed f c.gate }, cell_same m c apart there, refl)
      width_at_net m c there (inl same) =
          let here : slice_get cells n ≡ Some c = subst (λ (x : ℕ). slice_get cells x ≡ Some c) same there in (
            record { width = may.0.width; gate = Const k },
            ap (λ (x : ℕ). slice_get others (f x)) same ∙ number_there,
            ap (λ (x : Cell). x.width) (one_cell cells n may.0 c may.1 here),
          )

      stays_at : (m : ℕ) (c : Cell) → slice_get cells m ≡ Some c → (m ≡ n) ⊎ (m ≢ n) → Stays others f m c
      stays_at m c there (inr apart) = inl (cell_same m c apart there)
      stays_at m c there (inl same) =
          let here : slice_get cells n ≡ Some c = subst (λ (x : ℕ). slice_get cells x ≡ Some c) same there in
          subst (λ (x : ℕ). Stays others f x c) (sym same) (subst (Stays others f n) (one_cell cells n may.0 c may.1 here) becomes.0)

      root_stays : (i m : ℕ) → slice_get roots i ≡ Some m → (f m ≡ i) × (c : Cell) × (slice_get cells m ≡ Some c) × Stays others f m c
      root_stays i m at_m =
          let is = made.root i m at_m in
          let low : m < length cells =
          let within = slice_get_within roots i m at_m in let each = made.each in let count = made.count in omega (arith, within, each, count, is) in
          let (c, there) = cell_there cells m low in
          (place_same m c there ∙ is, c, there, stays_at m c there (same_or_not m n))
