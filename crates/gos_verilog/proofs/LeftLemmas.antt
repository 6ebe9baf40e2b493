-- What may be left of a text: that something may always be, and from one stage to the next.
use Rattle.std.proofs.Common.{◌≡◌, inl, inr, ℕ, suc, ◌+◌, Bool, true, false, List, [], ◌∷◌, ◌++◌, length, get_or, refl, sym, ◌∙◌, ap, subst, arith, append_assoc, append-nil, length-append, codes}
use Rattle.std.proofs.Math.Nat.{one-le-pow}
use Rattle.gos_lex.specs.Items.{Begins}
use Rattle.gos_netlist.specs.Nets.{Function, Const, Reg}
use Rattle.gos_netlist.specs.Writable.{IsNumber}
use Rattle.gos_verilog.specs.declared.declared.Shape.{Shape}
use Rattle.gos_verilog.specs.PortNets.{PortNet}
use Rattle.gos_verilog.specs.Lines.{cell_net, assignment, expression}
use Rattle.gos_verilog.specs.inner.Drivers.{is_register}
use Rattle.gos_verilog.specs.inner.Stages.{IsBody}
use Rattle.gos_verilog.specs.inner.Breaks.{Either}
use Rattle.gos_verilog.specs.inner.Left.{LeftOutput, LeftOutputs, IsDriver, driver_text, LeftDrivers, shape_text, shapes_text, LeftCells, LeftShape}
use Rattle.gos_verilog.proofs.DriverLemmas as drivers

-- something may be left
pub some_outputs : (nets : List PortNet) → (x : List ℕ) × LeftOutputs nets x
some_outputs [] = (codes "endmodule\n", refl)
some_outputs (net ∷ nets) = by net.input (some_outputs nets)
  where
    by : (b : Bool) → (x : List ℕ) × LeftOutputs nets x → (x : List ℕ) × LeftOutput b net.name (LeftOutputs nets) x
    by true some = some
    by false some = (assignment net.name (cell_net 0) ++ some.0, (0, some.0, omega arith, some.1, refl))

simple_driver : (nets : List PortNet) (w : ℕ) (b : Bool) → (v : Function × List ℕ) × IsDriver nets (record { width = w; register = b }) v
simple_driver nets w true = ((Reg 0, []), record { kind = refl; fits = (omega arith, tt); fed = λ e. absurd (cc e); bare = λ _. refl })
simple_driver nets w false = ((Const 0, []), record { kind = refl; fits = omega (arith, one-le-pow w 2 (omega arith)); fed = λ e. absurd (cc e); bare = λ _. refl })

pub some_drivers : (nets : List PortNet) (i : ℕ) (shapes : List Shape) → (x : List ℕ) × LeftDrivers nets i shapes x
some_drivers nets i [] = some_outputs nets
some_drivers nets i (shape ∷ shapes) =
    let rest = some_drivers nets (suc i) shapes in
    let v = simple_driver nets shape.width shape.register in
    (driver_text i shape v.0 ++ rest.0, (v.0, rest.0, v.1, rest.1, refl))

pub some_cells : (nets : List PortNet) (before : List Shape) → IsNumber (length before) → (x : List ℕ) × LeftCells nets before x
some_cells nets before few =
    let rest = some_drivers nets 0 before in
    let none : before ≡ before ++ [] = sym (append-nil before) in
    (rest.0, ([], rest.0, tt, subst (λ (shapes : List Shape). IsNumber (length shapes)) none few, subst (λ (shapes : List Shape). LeftDrivers nets 0 shapes rest.0) none rest.1, refl))

-- what stands behind the declarations begins as none of them
outputs_begin : (nets : List PortNet) (x : List ℕ) → LeftOutputs nets x → IsBody x
outputs_begin [] x is = inl (ap (λ (bytes : List ℕ). get_or bytes 0 0) is)
outputs_begin (net ∷ nets) x is = by net.input (outputs_begin nets x) is
  where
    by : (b : Bool) → (LeftOutputs nets x → IsBody x) → LeftOutput b net.name (LeftOutputs nets) x → IsBody x
    by true rest is = rest is
    by false rest is =
        inr
        (ap (λ (bytes : List ℕ). get_or bytes 2 0)
        (is.4 ∙ (append_assoc (codes "  assign " ++ net.name ++ codes " = " ++ cell_net is.0) (codes ";\n") is.1
        ∙ (append_assoc (codes "  assign " ++ net.name ++ codes " = ") (cell_net is.0) (codes ";\n" ++ is.1)
        ∙ (append_assoc (codes "  assign " ++ net.name) (codes " = ") (cell_net is.0 ++ (codes ";\n" ++ is.1))
        ∙ append_assoc (codes "  assign ") net.name (codes " = " ++ (cell_net is.0 ++ (codes ";\n" ++ is.1))))))))

pub drivers_begin : (nets : List PortNet) (i : ℕ) (shapes : List Shape) (x : List ℕ) → LeftDrivers nets i shapes x → IsBody x
drivers_begin nets i [] x is = outputs_begin nets x is
drivers_begin nets i (shape ∷ shapes) x (v, rest, driver, left, whole) =
    inr (ap (λ (bytes : List ℕ). get_or bytes 2 0) (whole ∙ drivers.driver_text i shape.width v.1 rest v.0) ∙ third (is_register v.0) (expression shape.width v.1 v.0 ++ 59 ∷ 10 ∷ rest))
  where
    third : (b : Bool) (x : List ℕ) → get_or (drivers.front i shape.width b ++ x) 2 0 ≡ 97
    third true x = refl
    third false x = refl

pub shape_first : (i : ℕ) (shape : Shape) (x : List ℕ) → IsBody (shape_text i shape ++ x) → ⊥
shape_first i shape x body = by shape.register body
  where
    by : (b : Bool) → IsBody (shape_text i (record { width = shape.width; register = b }) ++ x) → ⊥
    by true (inl first) = let byte : 32 ≡ 101 = first in omega (arith, byte)
    by true (inr third) = let byte : 114 ≡ 97 = third in omega (arith, byte)
    by false (inl first) = let byte : 32 ≡ 101 = first in omega (arith, byte)
    by false (inr third) = let byte : 119 ≡ 97 = third in omega (arith, byte)

-- no line that drives a net begins as a declaration
pub no_shape : (nets : List PortNet) (j i : ℕ) (shapes : List Shape) (shape : Shape) → Begins (LeftDrivers nets j shapes) (shape_text i shape) → ⊥
no_shape nets j i shapes shape (more, is) = shape_first i shape more (drivers_begin nets j shapes (shape_text i shape ++ more) is)

-- cells with another shape before them, and with none
snoc_append : (before : List Shape) (s : Shape) (more : List Shape) → before ++ s ∷ more ≡ (before ++ s ∷ []) ++ more
snoc_append before s more = sym (append_assoc before (s ∷ []) more)

snoc_length : (before : List Shape) (s : Shape) → length (before ++ s ∷ []) ≡ suc (length before)
snoc_length before s = let e : length before + 1 ≡ suc (length before) = omega arith in length-append before (s ∷ []) ∙ e

pub cells_split : (nets : List PortNet) (before : List Shape) (x : List ℕ) → LeftCells nets before x → Either (LeftShape nets before) (LeftDrivers nets 0 before) x
cells_split nets before x ([], rest, shapes, few, left, is) =
    inr (subst (λ (bytes : List ℕ). LeftDrivers nets 0 before bytes) (sym is) (subst (λ (all : List Shape). LeftDrivers nets 0 all rest) (append-nil before) left))
cells_split nets before x ((s ∷ more), rest, shapes, few, left, is) =
    inl (
      s,
      shapes_text (suc (length before)) more ++ rest,
      (shapes.0, omega (arith, few, length-append before (s ∷ more))),
      (
        more,
        rest,
        shapes.1,
        subst (λ (all : List Shape). IsNumber (length all)) (snoc_append before s more) few,
        subst (λ (all : List Shape). LeftDrivers nets 0 all rest) (snoc_append before s more) left,
        ap (λ (n : ℕ). shapes_text n more ++ rest) (sym (snoc_length before s)),
      ),
      is ∙ append_assoc (shape_text (length before) s) (shapes_text (suc (length before)) more) rest,
    )

pub cells_join : (nets : List PortNet) (before : List Shape) → IsNumber (length before) → (x : List ℕ) → Either (LeftShape nets before) (LeftDrivers nets 0 before) x → LeftCells nets before x
cells_join nets before few x (inr left) =
    let none : before ≡ before ++ [] = sym (append-nil before) in
    ([], x, tt, subst (λ (shapes : List Shape). IsNumber (length shapes)) none few, subst (λ (shapes : List Shape). LeftDrivers nets 0 shapes x) none left, refl)
cells_join nets before few x (inl (s, rest, is_s, (more, last, shapes, fit, left, inner), is)) = (
  s ∷ more,
  last,
  (is_s.0, shapes),
  subst (λ (all : List Shape). IsNumber (length all)) (sym (snoc_append before s more)) fit,
  subst (λ (all : List Shape). LeftDrivers nets 0 all last) (sym (snoc_append before s more)) left,
  is
      ∙ (ap (λ (bytes : List ℕ). shape_text (length before) s ++ bytes) (inner ∙ ap (λ (n : ℕ). shapes_text n more ++ last) (snoc_length before s))
      ∙ sym (append_assoc (shape_text (length before) s) (shapes_text (suc (length before)) more) last)),
)
