-- What a cell shows through a map of nets.
use Rattle.std.specs.Prelude.{◌≡◌, ◌≢◌, ℕ, ◌<◌, Bool, List, [], ◌∷◌, Contains, bit_and, bit_or, bit_xor, nat_eq, nat_lt, if◌then◌else◌, ◌+◌, ◌-◌, ◌^◌, ◌%◌}
use Rattle.std.proofs.Common.{arith, refl, sym, ap, inl, inr, ◌∙◌}
use Rattle.std.specs.Int.Bits.{and_self, or_self, xor_assoc, xor_self}
use Rattle.std.proofs.lemmas.Bool.{ne_eqb}
use Rattle.std.proofs.lemmas.Nat.{xor_comm}
use Rattle.gos_netlist.specs.Nets.{Function, Input, Const, Not, And, Or, Xor, Mux, Add, Sub, Eq, Less, Gate, Reg, Cell, pins}
use Rattle.gos_netlist.specs.Settling.{Numbers, at, shown, Settling}
use Rattle.gos_tidy.specs.Mapped.{renamed, IsConst, IsXorOf, IsShort, Stands}
use Rattle.gos_tidy.specs.Laws.{PulledBack}

first : (a : ℕ) (ns : List ℕ) → Contains (a ∷ ns) a
first a ns = (0, omega arith, refl)

second : (a b : ℕ) (ns : List ℕ) → Contains (a ∷ b ∷ ns) b
second a b ns = (1, omega arith, refl)

third : (a b c : ℕ) → Contains (a ∷ b ∷ c ∷ []) c
third a b c = (2, omega arith, refl)

-- what a cell shows depends on its pins alone
pub same_shown : (w r i : ℕ) (g : Function) (f h : ℕ → ℕ) → ((a : ℕ) → Contains (pins g) a → f a ≡ h a) → shown w g r i f ≡ shown w g r i h
same_shown w r i Input f h same = refl
same_shown w r i (Const k) f h same = refl
same_shown w r i (Not a) f h same = ap (λ (x : ℕ). 2 ^ w - 1 - x) (same a (first a []))
same_shown w r i (And a b) f h same = λ j. bit_and (same a (first a (b ∷ [])) j) (same b (second a b []) j)
same_shown w r i (Or a b) f h same = λ j. bit_or (same a (first a (b ∷ [])) j) (same b (second a b []) j)
same_shown w r i (Xor a b) f h same = λ j. bit_xor (same a (first a (b ∷ [])) j) (same b (second a b []) j)
same_shown w r i (Mux s a b) f h same =
    λ j. if nat_eq (same s (first s (a ∷ b ∷ [])) j) 1 then same a (second s a (b ∷ [])) j else same b (third s a b) j
same_shown w r i (Add a b) f h same = λ j. (same a (first a (b ∷ [])) j + same b (second a b []) j) % 2 ^ w
same_shown w r i (Sub a b) f h same = λ j. (same a (first a (b ∷ [])) j + 2 ^ w - same b (second a b []) j) % 2 ^ w
same_shown w r i (Eq a b) f h same = λ j. if nat_eq (same a (first a (b ∷ [])) j) (same b (second a b []) j) then 1 else 0
same_shown w r i (Less a b) f h same = λ j. if nat_lt (same a (first a (b ∷ [])) j) (same b (second a b []) j) then 1 else 0
same_shown w r i (Gate s a) f h same = λ j. if nat_eq (same s (first s (a ∷ [])) j) 1 then same a (second s a []) j else 0
same_shown w r i (Reg a) f h same = refl

-- a renamed function shows what the function shows of the renamed values
shown_renamed : (w r i : ℕ) (g : Function) (f v : ℕ → ℕ) → shown w (renamed f g) r i v ≡ shown w g r i (λ a. v (f a))
shown_renamed w r i Input f v = refl
shown_renamed w r i (Const k) f v = refl
shown_renamed w r i (Not a) f v = refl
shown_renamed w r i (And a b) f v = refl
shown_renamed w r i (Or a b) f v = refl
shown_renamed w r i (Xor a b) f v = refl
shown_renamed w r i (Mux s a b) f v = refl
shown_renamed w r i (Add a b) f v = refl
shown_renamed w r i (Sub a b) f v = refl
shown_renamed w r i (Eq a b) f v = refl
shown_renamed w r i (Less a b) f v = refl
shown_renamed w r i (Gate s a) f v = refl
shown_renamed w r i (Reg a) f v = refl

-- a constant shows its number
const_shows : (others : List Cell) (regs ins v : Numbers) (n k : ℕ) → Settling others regs ins v → IsConst others n k → at v n ≡ k
const_shows others regs ins v n k settles (w, is) = settles.1 n (record { width = w; gate = Const k }) is

-- a test that is so, or not
chosen_one : (s a b : ℕ) → s ≡ 1 → (if nat_eq s 1 then a else b) ≡ a
chosen_one s a b e = ap (λ (x : ℕ). if nat_eq x 1 then a else b) e

chosen_other : (s k a b : ℕ) → s ≡ k → k ≢ 1 → (if nat_eq s 1 then a else b) ≡ b
chosen_other s k a b e other = ap (λ (x : ℕ). if nat_eq x 1 then a else b) e ∙ ap (λ (t : Bool). if t then a else b) (ne_eqb k 1 other)

-- what comes through a Xor twice
xor_twice : (a t : ℕ) → bit_xor a (bit_xor a t) ≡ t
xor_twice a t = sym (xor_assoc a a t) ∙ ap (λ (x : ℕ). bit_xor x t) (xor_self a)

xor_shows : (others : List Cell) (regs ins v : Numbers) (w n a t : ℕ) → Settling others regs ins v → IsXorOf others w n a t → at v n ≡ bit_xor (at v a) (at v t)
xor_shows others regs ins v w n a t settles (inl there) = settles.1 n (record { width = w; gate = Xor a t }) there
xor_shows others regs ins v w n a t settles (inr there) = settles.1 n (record { width = w; gate = Xor t a }) there ∙ xor_comm (at v t) (at v a)

short_shows : (others : List Cell) (f : ℕ → ℕ) (regs ins v : Numbers) (n w r i : ℕ) (g : Function) → Settling others regs ins v
    → at v (f n) < 2 ^ w → IsShort others f n w g → at v (f n) ≡ shown w g r i (λ a. at v (f a))
short_shows others f regs ins v n w r i Input settles narrow h = absurd h
short_shows others f regs ins v n w r i (Const k) settles narrow h = absurd h
short_shows others f regs ins v n w r i (Not a) settles narrow h =
    let e : at v (f a) ≡ 2 ^ w - 1 - at v (f n) = settles.1 (f a) (record { width = w; gate = Not (f n) }) h in
    omega (arith, e, narrow)
short_shows others f regs ins v n w r i (And a b) settles narrow (one, is) =
    ap (at v) is ∙ sym (and_self (at v (f a))) ∙ ap (λ (x : ℕ). bit_and (at v (f a)) (at v x)) one
short_shows others f regs ins v n w r i (Or a b) settles narrow (one, is) =
    ap (at v) is ∙ sym (or_self (at v (f a))) ∙ ap (λ (x : ℕ). bit_or (at v (f a)) (at v x)) one
short_shows others f regs ins v n w r i (Xor a b) settles narrow (inl there) =
    sym (ap (bit_xor (at v (f a))) (xor_shows others regs ins v w (f b) (f a) (f n) settles there) ∙ xor_twice (at v (f a)) (at v (f n)))
short_shows others f regs ins v n w r i (Xor a b) settles narrow (inr there) =
    sym (ap (λ (x : ℕ). bit_xor x (at v (f b))) (xor_shows others regs ins v w (f a) (f b) (f n) settles there)
    ∙ (xor_comm (bit_xor (at v (f b)) (at v (f n))) (at v (f b)) ∙ xor_twice (at v (f b)) (at v (f n))))
short_shows others f regs ins v n w r i (Mux s a b) settles narrow (inl (one, is)) =
    ap (at v) is ∙ sym (chosen_one (at v (f s)) (at v (f a)) (at v (f b)) (const_shows others regs ins v (f s) 1 settles one))
short_shows others f regs ins v n w r i (Mux s a b) settles narrow (inr (k, other, const, is)) =
    ap (at v) is ∙ sym (chosen_other (at v (f s)) k (at v (f a)) (at v (f b)) (const_shows others regs ins v (f s) k settles const) other)
short_shows others f regs ins v n w r i (Add a b) settles narrow h = absurd h
short_shows others f regs ins v n w r i (Sub a b) settles narrow h = absurd h
short_shows others f regs ins v n w r i (Eq a b) settles narrow h = absurd h
short_shows others f regs ins v n w r i (Less a b) settles narrow h = absurd h
short_shows others f regs ins v n w r i (Gate s a) settles narrow (inl (one, is)) =
    ap (at v) is ∙ sym (chosen_one (at v (f s)) (at v (f a)) 0 (const_shows others regs ins v (f s) 1 settles one))
short_shows others f regs ins v n w r i (Gate s a) settles narrow (inr (k, other, const, is)) =
    const_shows others regs ins v (f n) 0 settles is
    ∙ sym (chosen_other (at v (f s)) k (at v (f a)) 0 (const_shows others regs ins v (f s) k settles const) other)
short_shows others f regs ins v n w r i (Reg a) settles narrow h = absurd h

-- the values of the nets that are mapped to meet the equations of the mapped cells
pub pulled_back : PulledBack
pulled_back cells others f regs ins v mapped settles narrow n c is = by_change (mapped n c is)
  where
    by_change : Stands others f n c → at v (f n) ≡ shown c.width c.gate (at regs (f n)) (at ins (f n)) (λ a. at v (f a))
    by_change (inl kept) =
        settles.1 (f n) (record { width = c.width; gate = renamed f c.gate }) kept
        ∙ shown_renamed c.width (at regs (f n)) (at ins (f n)) c.gate f (at v)
    by_change (inr (inl (u, consts, there))) =
        const_shows others regs ins v (f n) _ settles (there (at regs (f n)) (at ins (f n)))
        ∙ same_shown c.width (at regs (f n)) (at ins (f n)) c.gate u (λ a. at v (f a))
        (λ a named. sym (const_shows others regs ins v (f a) (u a) settles (consts a named)))
    by_change (inr (inr short)) =
        short_shows others f regs ins v n c.width (at regs (f n)) (at ins (f n)) c.gate settles (narrow n c is) short
