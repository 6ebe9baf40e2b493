-- What a renamed function tells of the function.
use Rattle.std.proofs.Common.{◌≡◌, ◌⊎◌, inl, inr, ℕ, zero, suc, List, [], ◌∷◌, map, slice_get, Some, Contains, refl, sym, ap, subst, ◌∙◌, arith}
use Rattle.std.specs.List.{AllByRecursion}
use Rattle.std.proofs.lemmas.Option.{same_Some}
use Rattle.gos_netlist.specs.Nets.{Function, Input, Const, Not, And, Or, Xor, Mux, Add, Sub, Eq, Less, Gate, Reg, Cell, pins}
use Rattle.gos_netcheck.specs.CellRules.{width_at, OperandsFit}
use Rattle.gos_tidy.specs.Mapped.{renamed, IsConst, IsXorOf}
use Rattle.gos_tidy.proofs.NarrowLemmas.{pin_first, pin_second, pin_third}

pub renamed_input : (f : ℕ → ℕ) (g : Function) → renamed f g ≡ Input → g ≡ Input
renamed_input f Input e = refl
renamed_input f (Const k) e = absurd (cc e)
renamed_input f (Not a) e = absurd (cc e)
renamed_input f (And a b) e = absurd (cc e)
renamed_input f (Or a b) e = absurd (cc e)
renamed_input f (Xor a b) e = absurd (cc e)
renamed_input f (Mux s a b) e = absurd (cc e)
renamed_input f (Add a b) e = absurd (cc e)
renamed_input f (Sub a b) e = absurd (cc e)
renamed_input f (Eq a b) e = absurd (cc e)
renamed_input f (Less a b) e = absurd (cc e)
renamed_input f (Gate s a) e = absurd (cc e)
renamed_input f (Reg a) e = absurd (cc e)

pub renamed_register : (f : ℕ → ℕ) (g : Function) (b : ℕ) → renamed f g ≡ Reg b → (a : ℕ) × (g ≡ Reg a) × (f a ≡ b)
renamed_register f Input b e = absurd (cc e)
renamed_register f (Const k) b e = absurd (cc e)
renamed_register f (Not a) b e = absurd (cc e)
renamed_register f (And x y) b e = absurd (cc e)
renamed_register f (Or x y) b e = absurd (cc e)
renamed_register f (Xor x y) b e = absurd (cc e)
renamed_register f (Mux s x y) b e = absurd (cc e)
renamed_register f (Add x y) b e = absurd (cc e)
renamed_register f (Sub x y) b e = absurd (cc e)
renamed_register f (Eq x y) b e = absurd (cc e)
renamed_register f (Less x y) b e = absurd (cc e)
renamed_register f (Gate s x) b e = absurd (cc e)
renamed_register f (Reg a) b e = (a, refl, cc e)

pub renamed_const : (f : ℕ → ℕ) (g : Function) (k : ℕ) → renamed f g ≡ Const k → g ≡ Const k
renamed_const f Input k e = absurd (cc e)
renamed_const f (Const j) k e = e
renamed_const f (Not a) k e = absurd (cc e)
renamed_const f (And x y) k e = absurd (cc e)
renamed_const f (Or x y) k e = absurd (cc e)
renamed_const f (Xor x y) k e = absurd (cc e)
renamed_const f (Mux s x y) k e = absurd (cc e)
renamed_const f (Add x y) k e = absurd (cc e)
renamed_const f (Sub x y) k e = absurd (cc e)
renamed_const f (Eq x y) k e = absurd (cc e)
renamed_const f (Less x y) k e = absurd (cc e)
renamed_const f (Gate s x) k e = absurd (cc e)
renamed_const f (Reg a) k e = absurd (cc e)

pub renamed_not : (f : ℕ → ℕ) (g : Function) (b : ℕ) → renamed f g ≡ Not b → (a : ℕ) × Contains (pins g) a × (f a ≡ b)
renamed_not f Input b e = absurd (cc e)
renamed_not f (Const k) b e = absurd (cc e)
renamed_not f (Not a) b e = (a, pin_first a [], cc e)
renamed_not f (And x y) b e = absurd (cc e)
renamed_not f (Or x y) b e = absurd (cc e)
renamed_not f (Xor x y) b e = absurd (cc e)
renamed_not f (Mux s x y) b e = absurd (cc e)
renamed_not f (Add x y) b e = absurd (cc e)
renamed_not f (Sub x y) b e = absurd (cc e)
renamed_not f (Eq x y) b e = absurd (cc e)
renamed_not f (Less x y) b e = absurd (cc e)
renamed_not f (Gate s x) b e = absurd (cc e)
renamed_not f (Reg a) b e = absurd (cc e)

renamed_mix : (f : ℕ → ℕ) (g : Function) (x y : ℕ) → renamed f g ≡ Xor x y → (a : ℕ) × (b : ℕ) × (g ≡ Xor a b) × (f a ≡ x) × (f b ≡ y)
renamed_mix f Input x y e = absurd (cc e)
renamed_mix f (Const k) x y e = absurd (cc e)
renamed_mix f (Not a) x y e = absurd (cc e)
renamed_mix f (And a b) x y e = absurd (cc e)
renamed_mix f (Or a b) x y e = absurd (cc e)
renamed_mix f (Xor a b) x y e = (a, b, refl, cc e, cc e)
renamed_mix f (Mux s a b) x y e = absurd (cc e)
renamed_mix f (Add a b) x y e = absurd (cc e)
renamed_mix f (Sub a b) x y e = absurd (cc e)
renamed_mix f (Eq a b) x y e = absurd (cc e)
renamed_mix f (Less a b) x y e = absurd (cc e)
renamed_mix f (Gate s a) x y e = absurd (cc e)
renamed_mix f (Reg a) x y e = absurd (cc e)

-- a Xor in either order has a net that goes to the second of these
pub renamed_xor : (f : ℕ → ℕ) (g : Function) (x y : ℕ) → (renamed f g ≡ Xor x y) ⊎ (renamed f g ≡ Xor y x) → (a : ℕ) × Contains (pins g) a × (f a ≡ y)
renamed_xor f g x y (inl e) =
    let (a, b, same, first, second) = renamed_mix f g x y e in
    (b, subst (λ (h : Function). Contains (pins h) b) (sym same) (pin_second a b []), second)
renamed_xor f g x y (inr e) =
    let (a, b, same, first, second) = renamed_mix f g y x e in
    (a, subst (λ (h : Function). Contains (pins h) a) (sym same) (pin_first a (b ∷ [])), first)

pub renamed_pins : (f : ℕ → ℕ) (g : Function) → pins (renamed f g) ≡ map f (pins g)
renamed_pins f Input = refl
renamed_pins f (Const k) = refl
renamed_pins f (Not a) = refl
renamed_pins f (And a b) = refl
renamed_pins f (Or a b) = refl
renamed_pins f (Xor a b) = refl
renamed_pins f (Mux s a b) = refl
renamed_pins f (Add a b) = refl
renamed_pins f (Sub a b) = refl
renamed_pins f (Eq a b) = refl
renamed_pins f (Less a b) = refl
renamed_pins f (Gate s a) = refl
renamed_pins f (Reg a) = refl

-- members of a mapped list
pub from_mapped : (f : ℕ → ℕ) (ns : List ℕ) (x : ℕ) → Contains (map f ns) x → (a : ℕ) × Contains ns a × (f a ≡ x)
from_mapped f [] x (k, l, e) = absurd (omega (arith, l))
from_mapped f (n ∷ ns) x (zero, l, e) = (n, pin_first n ns, e)
from_mapped f (n ∷ ns) x (suc k, l, e) =
    let (a, (j, m, is), same) = from_mapped f ns x (k, omega (arith, l), e) in
    (a, (suc j, omega (arith, m), is), same)

pub to_mapped : (f : ℕ → ℕ) (ns : List ℕ) (a : ℕ) → Contains ns a → Contains (map f ns) (f a)
to_mapped f [] a (k, l, e) = absurd (omega (arith, l))
to_mapped f (n ∷ ns) a (zero, l, e) = (0, omega arith, ap f e)
to_mapped f (n ∷ ns) a (suc k, l, e) =
    let (j, m, is) = to_mapped f ns a (k, omega (arith, l), e) in
    (suc j, omega (arith, m), is)

-- what holds of all holds of each
pub each_of : (P : ℕ → Type 0) (ns : List ℕ) (a : ℕ) → AllByRecursion P ns → Contains ns a → P a
each_of P [] a all (k, l, e) = absurd (omega (arith, l))
each_of P (n ∷ ns) a all (zero, l, e) = subst P e all.0
each_of P (n ∷ ns) a all (suc k, l, e) = each_of P ns a all.1 (k, omega (arith, l), e)

-- a net has one cell
pub one_cell : (cells : List Cell) (n : ℕ) (c e : Cell) → slice_get cells n ≡ Some c → slice_get cells n ≡ Some e → c ≡ e
one_cell cells n c e first second = same_Some c e (sym first ∙ second)

pub one_gate : (cells : List Cell) (n : ℕ) (c e : Cell) → slice_get cells n ≡ Some c → slice_get cells n ≡ Some e → c.gate ≡ e.gate
one_gate cells n c e first second = ap (λ (x : Cell). x.gate) (one_cell cells n c e first second)

-- the gate of a Xor of two nets
pub xor_gate : (cells : List Cell) (m w a x : ℕ) (e : Cell) → IsXorOf cells w m a x → slice_get cells m ≡ Some e → (e.gate ≡ Xor a x) ⊎ (e.gate ≡ Xor x a)
xor_gate cells m w a x e (inl there) is = inl (sym (one_gate cells m (record { width = w; gate = Xor a x }) e there is))
xor_gate cells m w a x e (inr there) is = inr (sym (one_gate cells m (record { width = w; gate = Xor x a }) e there is))

pub one_width : (cells : List Cell) (n : ℕ) (c e : Cell) → slice_get cells n ≡ Some c → slice_get cells n ≡ Some e → c.width ≡ e.width
one_width cells n c e first second = ap (λ (x : Cell). x.width) (one_cell cells n c e first second)

-- and one number, where it is a constant
pub one_const : (cells : List Cell) (n j k : ℕ) → IsConst cells n j → IsConst cells n k → j ≡ k
one_const cells n j k (w, first) (u, second) =
    let same : Const j ≡ Const k = one_gate cells n (record { width = w; gate = Const j }) (record { width = u; gate = Const k }) first second in
    cc

-- operands fit with other nets of the same widths
pub renamed_fits : (ws us : List ℕ) (w : ℕ) (g : Function) (f : ℕ → ℕ) → OperandsFit ws w g
    → ((a : ℕ) → Contains (pins g) a → width_at us (f a) ≡ width_at ws a) → OperandsFit us w (renamed f g)
renamed_fits ws us w Input f fit same = tt
renamed_fits ws us w (Const k) f fit same = fit
renamed_fits ws us w (Not a) f fit same = same a (pin_first a []) ∙ fit
renamed_fits ws us w (And a b) f fit same = (same a (pin_first a (b ∷ [])) ∙ fit.0, same b (pin_second a b []) ∙ fit.1)
renamed_fits ws us w (Or a b) f fit same = (same a (pin_first a (b ∷ [])) ∙ fit.0, same b (pin_second a b []) ∙ fit.1)
renamed_fits ws us w (Xor a b) f fit same = (same a (pin_first a (b ∷ [])) ∙ fit.0, same b (pin_second a b []) ∙ fit.1)
renamed_fits ws us w (Mux s a b) f fit same =
    (same s (pin_first s (a ∷ b ∷ [])) ∙ fit.0, same a (pin_second s a (b ∷ [])) ∙ fit.1, same b (pin_third s a b) ∙ fit.2)
renamed_fits ws us w (Add a b) f fit same = (same a (pin_first a (b ∷ [])) ∙ fit.0, same b (pin_second a b []) ∙ fit.1)
renamed_fits ws us w (Sub a b) f fit same = (same a (pin_first a (b ∷ [])) ∙ fit.0, same b (pin_second a b []) ∙ fit.1)
renamed_fits ws us w (Eq a b) f fit same = (same a (pin_first a (b ∷ [])) ∙ (fit.0 ∙ sym (same b (pin_second a b []))), fit.1)
renamed_fits ws us w (Less a b) f fit same = (same a (pin_first a (b ∷ [])) ∙ (fit.0 ∙ sym (same b (pin_second a b []))), fit.1)
renamed_fits ws us w (Gate s a) f fit same = (same s (pin_first s (a ∷ [])) ∙ fit.0, same a (pin_second s a []) ∙ fit.1)
renamed_fits ws us w (Reg a) f fit same = same a (pin_first a []) ∙ fit

-- and the other way round
pub fits_renamed : (ws us : List ℕ) (w : ℕ) (g : Function) (f : ℕ → ℕ) → OperandsFit us w (renamed f g)
    → ((a : ℕ) → Contains (pins g) a → width_at ws a ≡ width_at us (f a)) → OperandsFit ws w g
fits_renamed ws us w Input f fit same = tt
fits_renamed ws us w (Const k) f fit same = fit
fits_renamed ws us w (Not a) f fit same = same a (pin_first a []) ∙ fit
fits_renamed ws us w (And a b) f fit same = (same a (pin_first a (b ∷ [])) ∙ fit.0, same b (pin_second a b []) ∙ fit.1)
fits_renamed ws us w (Or a b) f fit same = (same a (pin_first a (b ∷ [])) ∙ fit.0, same b (pin_second a b []) ∙ fit.1)
fits_renamed ws us w (Xor a b) f fit same = (same a (pin_first a (b ∷ [])) ∙ fit.0, same b (pin_second a b []) ∙ fit.1)
fits_renamed ws us w (Mux s a b) f fit same =
    (same s (pin_first s (a ∷ b ∷ [])) ∙ fit.0, same a (pin_second s a (b ∷ [])) ∙ fit.1, same b (pin_third s a b) ∙ fit.2)
fits_renamed ws us w (Add a b) f fit same = (same a (pin_first a (b ∷ [])) ∙ fit.0, same b (pin_second a b []) ∙ fit.1)
fits_renamed ws us w (Sub a b) f fit same = (same a (pin_first a (b ∷ [])) ∙ fit.0, same b (pin_second a b []) ∙ fit.1)
fits_renamed ws us w (Eq a b) f fit same = (same a (pin_first a (b ∷ [])) ∙ (fit.0 ∙ sym (same b (pin_second a b []))), fit.1)
fits_renamed ws us w (Less a b) f fit same = (same a (pin_first a (b ∷ [])) ∙ (fit.0 ∙ sym (same b (pin_second a b []))), fit.1)
fits_renamed ws us w (Gate s a) f fit same = (same s (pin_first s (a ∷ [])) ∙ fit.0, same a (pin_second s a []) ∙ fit.1)
fits_renamed ws us w (Reg a) f fit same = same a (pin_first a []) ∙ fit
