-- The lines that drive the nets of cells are known by their text.
use Rattle.std.proofs.Common.{◌≡◌, ℕ, Bool, true, false, List, ◌∷◌, ◌++◌, refl, sym, ◌∙◌, ap, subst, append_assoc, codes}
use Rattle.std.specs.Fmt.{decimal}
use Rattle.std.proofs.lemmas.List.{append_cancel_left}
use Rattle.gos_netlist.specs.Nets.{Function, Input, Reg}
use Rattle.gos_verilog.specs.Lines.{cell_net, literal, expression, driver_of}
use Rattle.gos_verilog.specs.inner.Drivers.{is_register}
use Rattle.gos_verilog.proofs.CodeLemmas.{number_code}
use Rattle.gos_verilog.proofs.ExpressionLemmas.{IsSmall, AreSmall, Clocked, sort_of, IsNetName, expression_code}

-- what stands before the expression of a cell
abbrev pub front : ℕ → ℕ → Bool → List ℕ
front i w true = codes "  always @(posedge clk) if (rst) " ++ cell_net i ++ codes " <= " ++ literal w 0 ++ codes "; else " ++ cell_net i ++ codes " <= "
front i w false = codes "  assign " ++ cell_net i ++ codes " = "

pub driver_text : (i w : ℕ) (s x : List ℕ) (f : Function) → driver_of i w s f ++ x ≡ front i w (is_register f) ++ (expression w s f ++ 59 ∷ 10 ∷ x)
driver_text i w s x (Reg a) =
    append_assoc (front i w true ++ cell_net a) (codes ";\n") x ∙ append_assoc (front i w true) (cell_net a) (codes ";\n" ++ x)
driver_text i w s x f = append_assoc (front i w false ++ expression w s f) (codes ";\n") x ∙ append_assoc (front i w false) (expression w s f) (codes ";\n" ++ x)

wire_sort : (f : Function) → is_register f ≡ false → sort_of f ≡ Clocked → ⊥
wire_sort (Reg a) wire sort = cc wire
wire_sort f wire sort = cc sort

reg_of : (f : Function) → is_register f ≡ true → (a : ℕ) × (f ≡ Reg a)
reg_of (Reg a) is = (a, refl)
reg_of f is = absurd (cc is)

-- a driver of the net of one cell, of known bits and kind
pub driver_code : (i w : ℕ) (s t : List ℕ) (f g : Function) (x y : List ℕ) → IsSmall w → AreSmall f → AreSmall g → (f ≡ Input → IsNetName s) → (g ≡ Input → IsNetName t)
    → is_register f ≡ is_register g → driver_of i w s f ++ x ≡ driver_of i w t g ++ y → (f ≡ g) × (f ≡ Input → s ≡ t) × (x ≡ y)
driver_code i w s t f g x y small is_f is_g name_f name_g kinds same = by (is_register f) refl
  where
    inner : expression w s f ++ 59 ∷ 10 ∷ x ≡ expression w t g ++ 59 ∷ 10 ∷ y
    inner =
        append_cancel_left (front i w (is_register f)) (expression w s f ++ 59 ∷ 10 ∷ x) (expression w t g ++ 59 ∷ 10 ∷ y)
        (sym (driver_text i w s x f) ∙ (same ∙ (driver_text i w t y g ∙ ap (λ (kind : Bool). front i w kind ++ (expression w t g ++ 59 ∷ 10 ∷ y)) (sym kinds))))

    by : (kind : Bool) → is_register f ≡ kind → (f ≡ g) × (f ≡ Input → s ≡ t) × (x ≡ y)
    by true is =
        let a = reg_of f is in
        let b = reg_of g (sym kinds ∙ is) in
        let small_a : AreSmall (Reg a.0) = subst AreSmall a.1 is_f in
        let small_b : AreSmall (Reg b.0) = subst AreSmall b.1 is_g in
        let whole : 110 ∷ (decimal a.0 ++ 59 ∷ 10 ∷ x) ≡ 110 ∷ (decimal b.0 ++ 59 ∷ 10 ∷ y) =
        ap (λ (h : Function). expression w s h ++ 59 ∷ 10 ∷ x) (sym a.1) ∙ (inner ∙ ap (λ (h : Function). expression w t h ++ 59 ∷ 10 ∷ y) b.1) in
        let known = number_code a.0 b.0 59 59 (10 ∷ x) (10 ∷ y) small_a small_b refl refl (cc whole) in
        (a.1 ∙ (ap Reg known.0 ∙ sym b.1), (λ input. absurd (let both : Reg a.0 ≡ Input = sym a.1 ∙ input in cc both)), cc (known.1))
    by false is =
        let known = expression_code w s t f g (10 ∷ x) (10 ∷ y) small is_f is_g name_f name_g (wire_sort f is) (wire_sort g (sym kinds ∙ is)) inner in
        (known.0, known.1, cc (known.2))
