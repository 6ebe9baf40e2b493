-- What a part puts goes where a path leads, row by row.
--
-- Read first: Paths.
use Rattle.std.proofs.Common.{◌≡◌, ℕ, suc, ◌<◌, Bool, true, false, List, [], ◌∷◌, Some, refl, sym, subst, arith, nat_eq, if◌then◌else◌}
use Rattle.std.specs.List.{AllByRecursion}
use Rattle.gos_plan.specs.Kinds.{Part}
use Rattle.gos_plan.specs.Firing.{Phase, Slot, Token, Row, rows, same_slot, row_for}
use Rattle.gos_plan.specs.Firings.{due}
use Rattle.gos_plan.specs.Tokens.{shake_of}
use Rattle.gos_plan.specs.laws.Inversion.{same}
use Rattle.gos_macro.specs.Gates.{is_among}
use Rattle.gos_macro.specs.Paths.{PutsPass}

-- these tokens go out where a path leads from this handshake
abbrev pub AllPass : (ℕ → ℕ → Bool) → ℕ → List Token → Type 0
AllPass passing from = AllByRecursion (λ t. passing from (shake_of t.slot) ≡ true)

-- what a row puts by a token that isn't late goes where a path leads
abbrev pub RowPasses : List ℕ → (ℕ → ℕ → Bool) → Row → Type 0
RowPasses late passing r = is_among late (shake_of r.takes) ≡ false → (x : ℕ) → AllPass passing (shake_of r.takes) (r.puts x)

-- so it is at a handshake at which one of them is due
pub due_passes : (passing : ℕ → ℕ → Bool) (from j : ℕ) (ts : List Token) → AllPass passing from ts → 0 < due j ts → passing from j ≡ true
due_passes passing from j [] all some = absurd (omega (arith, some))
due_passes passing from j (t ∷ ts) all some = by_test (nat_eq (shake_of t.slot) j) refl some (due_passes passing from j ts all.1)
  where
    by_test : (b : Bool) → nat_eq (shake_of t.slot) j ≡ b → 0 < (if b then suc (due j ts) else due j ts) → (0 < due j ts → passing from j ≡ true)
        → passing from j ≡ true
    by_test true is some rest = let here : shake_of t.slot ≡ j = grind (arith, is) in subst (λ (h : ℕ). passing from h ≡ true) here all.0
    by_test false is some rest = rest some

row_passes : (late : List ℕ) (passing : ℕ → ℕ → Bool) (s : Slot) (rs : List Row) (w : Row) → AllByRecursion (RowPasses late passing) rs → row_for s rs ≡ Some w
    → is_among late (shake_of s) ≡ false → (x : ℕ) → AllPass passing (shake_of s) (w.puts x)
row_passes late passing s [] w all is early x = absurd (cc is)
row_passes late passing s (r ∷ rs) w all is early x = by_test (same_slot r.takes s) refl is (row_passes late passing s rs w all.1)
  where
    by_test : (b : Bool) → same_slot r.takes s ≡ b → (if b then Some r else row_for s rs) ≡ Some w
        → (row_for s rs ≡ Some w → is_among late (shake_of s) ≡ false → (y : ℕ) → AllPass passing (shake_of s) (w.puts y))
        → AllPass passing (shake_of s) (w.puts x)
    by_test true same_one here rest =
        let takes : r.takes ≡ s = same r.takes s same_one in
        let row : r ≡ w = cc here in
        subst (λ (t : Slot). AllPass passing (shake_of t) (w.puts x)) takes
        (subst (λ (z : Row). AllPass passing (shake_of r.takes) (z.puts x)) row
        (all.0 (subst (λ (t : Slot). is_among late (shake_of t) ≡ false) (sym takes) early) x))
    by_test false other here rest = rest here early x

-- a part of which each row does so
pub puts_pass : (k : Part) (late : List ℕ) (passing : ℕ → ℕ → Bool) → ((p : Phase) (n : ℕ) → AllByRecursion (RowPasses late passing) (rows k p n))
    → PutsPass k late passing
puts_pass k late passing all q s w x j is low early small some =
    due_passes passing (shake_of s) j (w.puts x) (row_passes late passing s (rows k q.phase q.number) w (all q.phase q.number) is early x) some
