-- The line that drives a cell's net, as the reader tries it: of which kind it is, and what stands behind it.
use Rattle.std.proofs.Common.{◌≡◌, ◌⊎◌, inl, inr, ℕ, ◌<◌, Bool, true, false, List, [], ◌∷◌, ◌++◌, get_or, Some, None, refl, sym, ◌∙◌, ap, arith, append_assoc, codes}
use Rattle.std.specs.Fmt.{decimal}
use Rattle.gos_lex.specs.Items.{Misses}
use Rattle.gos_types.specs.Widths.{IsWidth}
use Rattle.gos_netlist.specs.Nets.{Function, Input, Const, Not, And, Or, Xor, Mux, Add, Sub, Eq, Less, Gate, Reg}
use Rattle.gos_verilog.specs.declared.cell_line.Kind.{Kind}
use Rattle.gos_verilog.specs.declared.cell_line.Kind.TheVariants as kinds
use Rattle.gos_verilog.specs.Lines.{cell_net, expression, driver_of}
use Rattle.gos_verilog.specs.inner.Drivers.{is_register}
use Rattle.gos_verilog.specs.inner.Stages.{IsNetName}
use Rattle.gos_verilog.specs.inner.CellLines.{kind_of, HasKind, IsKindLine}
use Rattle.gos_verilog.specs.inner.Noted.{IsLineOf, IsNoLine}
use Rattle.gos_lex.proofs.RestLemmas.{not_missed}
use Rattle.gos_verilog.proofs.ExpressionLemmas.{IsSmall, AreSmall}
use Rattle.gos_verilog.proofs.DriverLemmas.{front, driver_text, driver_code}
use Rattle.gos_verilog.proofs.OneTextLemmas.{small_function, no_source}

-- a line is known by its text, whether it is a register's too
pub line_code : (i w : ℕ) (s t : List ℕ) (f g : Function) (x y : List ℕ) → IsSmall w → AreSmall f → AreSmall g → (f ≡ Input → IsNetName s) → (g ≡ Input → IsNetName t)
    → driver_of i w s f ++ x ≡ driver_of i w t g ++ y → (f ≡ g) × (f ≡ Input → s ≡ t) × (x ≡ y)
line_code i w s t f g x y small is_f is_g name_f name_g same = by (is_register f) (is_register g) refl refl
  where
    Known : Type 0
    Known = (f ≡ g) × (f ≡ Input → s ≡ t) × (x ≡ y)

    byte : (a b : Bool) → is_register f ≡ a → is_register g ≡ b → get_or (front i w a ++ (expression w s f ++ 59 ∷ 10 ∷ x)) 3 0 ≡ get_or (front i w b ++ (expression w t g ++ 59 ∷ 10 ∷ y)) 3 0
    byte a b is_a is_b =
        ap (λ (bytes : List ℕ). get_or bytes 3 0)
        (ap (λ (k : Bool). front i w k ++ (expression w s f ++ 59 ∷ 10 ∷ x)) (sym is_a)
        ∙ (sym (driver_text i w s x f) ∙ (same ∙ (driver_text i w t y g ∙ ap (λ (k : Bool). front i w k ++ (expression w t g ++ 59 ∷ 10 ∷ y)) is_b))))

    by : (a b : Bool) → is_register f ≡ a → is_register g ≡ b → Known
    by true true is_a is_b = driver_code i w s t f g x y small is_f is_g name_f name_g (is_a ∙ sym is_b) same
    by false false is_a is_b = driver_code i w s t f g x y small is_f is_g name_f name_g (is_a ∙ sym is_b) same
    by true false is_a is_b = let other : 108 ≡ 115 = byte true false is_a is_b in absurd (omega (arith, other))
    by false true is_a is_b = let other : 115 ≡ 108 = byte false true is_a is_b in absurd (omega (arith, other))

-- a function of some kind is no input
pub kind_no_input : (kind : Kind) (f : Function) → kind_of f ≡ Some kind → f ≡ Input → ⊥
kind_no_input kind f has is = let none : None ≡ Some kind = sym (ap kind_of is) ∙ has in cc none

-- a line that was read is the one that stands
pub line_reads : (kind : Kind) (text : List ℕ) (i w : ℕ) (g f : Function) (s x new : List ℕ) → IsWidth w → HasKind kind w g → text ≡ driver_of i w [] g ++ new → IsLineOf text i w f s x
    → (g ≡ f) × (new ≡ x)
line_reads kind text i w g f s x new wide has is line =
    let known = line_code i w [] s g f new x (omega (arith, wide.1)) (small_function w g wide has.1) (small_function w f wide line.fits) (λ input. absurd (kind_no_input kind g has.0 input)) line.named (sym is ∙ line.is) in
    (known.0, known.2)

-- where a line of a kind breaks off, none stands
pub line_wrong : (kind : Kind) (text : List ℕ) (i w place : ℕ) → Misses (IsKindLine kind i w) text 0 place → IsNoLine kind i w text
line_wrong kind text i w place misses f s x has line =
    not_missed (IsKindLine kind i w) text 0 place (driver_of i w [] f) x misses (f, (has, line.fits), refl)
    (line.is ∙ ap (λ bytes. bytes ++ x) (no_source i w s [] f (λ input. absurd (kind_no_input kind f has input))))

-- the kinds of wires that are tried, the likely one first
abbrev pub tried : Kind → List Kind
tried likely =
    likely ∷ kinds.Const ∷ kinds.Not ∷ kinds.And ∷ kinds.Or ∷ kinds.Xor ∷ kinds.Mux ∷ kinds.Add ∷ kinds.Sub ∷ kinds.Eq ∷ kinds.Less ∷ kinds.Gate ∷ []

pub none_fits : (likely : Kind) (i w : ℕ) (text : List ℕ) → ((k : ℕ) → k < 12 → IsNoLine (get_or (tried likely) k kinds.Const) i w text) → (f : Function) (s x : List ℕ)
    → is_register f ≡ false → (f ≡ Input → ⊥) → IsLineOf text i w f s x → ⊥
none_fits likely i w text none Input s x wire other line = other refl
none_fits likely i w text none (Const k) s x wire other line = none 1 (omega arith) (Const k) s x refl line
none_fits likely i w text none (Not a) s x wire other line = none 2 (omega arith) (Not a) s x refl line
none_fits likely i w text none (And a b) s x wire other line = none 3 (omega arith) (And a b) s x refl line
none_fits likely i w text none (Or a b) s x wire other line = none 4 (omega arith) (Or a b) s x refl line
none_fits likely i w text none (Xor a b) s x wire other line = none 5 (omega arith) (Xor a b) s x refl line
none_fits likely i w text none (Mux c a b) s x wire other line = none 6 (omega arith) (Mux c a b) s x refl line
none_fits likely i w text none (Add a b) s x wire other line = none 7 (omega arith) (Add a b) s x refl line
none_fits likely i w text none (Sub a b) s x wire other line = none 8 (omega arith) (Sub a b) s x refl line
none_fits likely i w text none (Eq a b) s x wire other line = none 9 (omega arith) (Eq a b) s x refl line
none_fits likely i w text none (Less a b) s x wire other line = none 10 (omega arith) (Less a b) s x refl line
none_fits likely i w text none (Gate c a) s x wire other line = none 11 (omega arith) (Gate c a) s x refl line
none_fits likely i w text none (Reg a) s x wire other line = cc wire

pub is_input_or : (f : Function) → (f ≡ Input) ⊎ (f ≡ Input → ⊥)
is_input_or Input = inl refl
is_input_or (Const k) = inr (λ e. cc e)
is_input_or (Not a) = inr (λ e. cc e)
is_input_or (And a b) = inr (λ e. cc e)
is_input_or (Or a b) = inr (λ e. cc e)
is_input_or (Xor a b) = inr (λ e. cc e)
is_input_or (Mux s a b) = inr (λ e. cc e)
is_input_or (Add a b) = inr (λ e. cc e)
is_input_or (Sub a b) = inr (λ e. cc e)
is_input_or (Eq a b) = inr (λ e. cc e)
is_input_or (Less a b) = inr (λ e. cc e)
is_input_or (Gate s a) = inr (λ e. cc e)
is_input_or (Reg a) = inr (λ e. cc e)

-- a register's line is of the kind of registers
pub register_kind : (f : Function) → is_register f ≡ true → kind_of f ≡ Some kinds.Reg
register_kind (Reg a) is = refl
register_kind f is = absurd (cc is)

pub register_no_input : (f : Function) → is_register f ≡ true → f ≡ Input → ⊥
register_no_input f is input = let both : false ≡ true = ap is_register (sym input) ∙ is in cc both

-- the line of an Input cell, by its parts
pub source_parts : (i w : ℕ) (name x : List ℕ)
    → driver_of i w name Input ++ x ≡ codes "  assign n" ++ (decimal i ++ 32 ∷ (codes "= " ++ (name ++ (codes ";\n" ++ x))))
source_parts i w name x =
    append_assoc (codes "  assign " ++ cell_net i ++ codes " = " ++ name) (codes ";\n") x
    ∙ (append_assoc (codes "  assign " ++ cell_net i ++ codes " = ") name (codes ";\n" ++ x)
    ∙ append_assoc (codes "  assign " ++ cell_net i) (codes " = ") (name ++ (codes ";\n" ++ x)))
