-- The imports of a plan that has a circuit have widths: a port's nets have the bits of its type, and each cell has 1 to 64.
use Rattle.std.specs.Prelude.{◌≡◌, ℕ, zero, suc, ◌<◌, List, [], ◌∷◌, map, length, Some, slice_get}
use Rattle.std.proofs.Common.{refl, sym, ◌∙◌, ap, subst, arith}
use Rattle.gos_types.specs.Types.{Type', Com, Exp, Var, Pair, Fun, IsGround}
use Rattle.gos_types.specs.Widths.{IsWidth, HasWidths}
use Rattle.gos_types.specs.Events.{Direction, Answer}
use Rattle.gos_lex.specs.Lines.{Word}
use Rattle.gos_netlist.specs.Nets.{Side, NetPort, Netlist}
use Rattle.gos_netcheck.specs.PortRules.{place, places, FitsAt, AllFit}
use Rattle.gos_netcheck.specs.Accepted.{IsAccepted}
use Rattle.gos_model.specs.Typing.{Imported}
use Rattle.gos_plan.specs.Plans.{Plan}
use Rattle.gos_realises.specs.realises.Realises.{AllGround}
use Rattle.gos_realises.specs.realises.Modules.{HaveWidths}
use Rattle.gos_tool.specs.declared.circuits.layout.Layout.{Layout}
use Rattle.gos_tool.specs.circuits.Circuit.{Face, face_of, taken_face, IsCircuitOf}

port_found : (ps : List NetPort) (k : ℕ) (f : Face) → slice_get (map face_of ps) k ≡ Some f → (q : NetPort) × (slice_get ps k ≡ Some q) × (face_of q ≡ f)
port_found [] k f at = absurd (cc at)
port_found (q ∷ ps) zero f at = (q, refl, cc at)
port_found (q ∷ ps) (suc k) f at = port_found ps k f at

face_there : (is : List Imported) (i : ℕ) (x : Imported) → slice_get is i ≡ Some x → slice_get (map taken_face is) i ≡ Some (taken_face x)
face_there [] i x at = absurd (cc at)
face_there (y ∷ is) zero x at = let same : y ≡ x = cc at in ap (λ (z : Imported). Some (taken_face z)) same
face_there (y ∷ is) (suc i) x at = face_there is i x at

net_there : (ns : List ℕ) (i : ℕ) → i < length ns → (n : ℕ) × (slice_get ns i ≡ Some n)
net_there [] i low = absurd (omega (arith, low))
net_there (n ∷ ns) zero low = (n, refl)
net_there (n ∷ ns) (suc i) low = net_there ns i (omega (arith, low))

-- the cell of a net that fits its place has the place's bits
bits_there : (net : Netlist) → IsAccepted net → (side : Side) (t : Type') (ns : List ℕ) → AllFit net.cells (places side t) ns → (i w : ℕ) (way : Direction)
    → slice_get (places side t) i ≡ Some (place side way w) → i < length (places side t) → IsWidth w
bits_there net accepted side t ns (size, fit) i w way at low =
    let (n, at_n) = net_there ns i (omega (arith, size, low)) in
    let (c, at_c, width, end) = subst (λ o. FitsAt net.cells o n) at (fit i n at_n) in
    let right = accepted.widths n c at_c in
    subst IsWidth width (right.0, right.1)

port_wide : (net : Netlist) → IsAccepted net → (side : Side) (t : Type') (ns : List ℕ) → IsGround t → AllFit net.cells (places side t) ns → HasWidths t
port_wide net accepted side Com ns ground fit = tt
port_wide net accepted side (Exp w) ns ground fit =
    let size : length (places side (Exp w)) ≡ 3 = refl in
    bits_there net accepted side (Exp w) ns fit 2 w Answer refl (omega (arith, size))
port_wide net accepted side (Var w) ns ground fit =
    let size : length (places side (Var w)) ≡ 6 = refl in
    bits_there net accepted side (Var w) ns fit 2 w Answer refl (omega (arith, size))
port_wide net accepted side (Pair a b) ns ground fit = absurd ground
port_wide net accepted side (Fun a b) ns ground fit = absurd ground

import_wide : {layout : Layout} (root : Word) (p : Plan) (net : Netlist) → IsCircuitOf layout root p net → (i : ℕ) (x : Imported) → slice_get p.imports i ≡ Some x → IsGround x.ty
    → HasWidths x.ty
import_wide root p net circuit i x at ground =
    let there : slice_get (map face_of net.ports) (suc i) ≡ Some (taken_face x) =
    ap (λ (fs : List Face). slice_get fs (suc i)) circuit.ports ∙ face_there p.imports i x at
    in
    let (q, at_q, face) = port_found net.ports (suc i) (taken_face x) there in
    let ty : q.ty ≡ x.ty = ap (λ (f : Face). f.ty) face in
    let right = circuit.accepted.ports.each (suc i) q at_q in
    subst HasWidths ty (port_wide net circuit.accepted q.side q.ty q.nets (subst IsGround (sym ty) ground) right.nets)

all_wide : (is : List Imported) → AllGround is → ((i : ℕ) (x : Imported) → slice_get is i ≡ Some x → IsGround x.ty → HasWidths x.ty) → HaveWidths is
all_wide [] ground each = tt
all_wide (x ∷ is) ground each = (each 0 x refl ground.0, all_wide is ground.1 (λ i y at of_y. each (suc i) y at of_y))

pub imports_are_wide : {layout : Layout} (root : Word) (p : Plan) (net : Netlist) → IsCircuitOf layout root p net → AllGround p.imports → HaveWidths p.imports
imports_are_wide root p net circuit ground = all_wide p.imports ground (λ i x at of_x. import_wide root p net circuit i x at of_x)
