-- Nets are raised one by one, and a netlist's are low enough for that.
use Rattle.std.specs.Prelude.{Some, None, slice_get}
use Rattle.std.specs.List.{AllByRecursion}
use Rattle.std.proofs.Common.{◌≡◌, ◌∙◌, ℕ, ◌+◌, ◌-◌, ◌<◌, ◌≤◌, List, [], ◌∷◌, ◌++◌, map, take, drop, length, get_or, All, refl, sym, ap, ap₂, subst, add-zero, arith}
use Rattle.std.proofs.lemmas.List.{length-map, length-take, get_or-map, get_or-append_right, get_or-drop}
use Rattle.std.proofs.lemmas.Option.{slice_get-get_or, slice_get_within}
use Rattle.gos_types.specs.Types.{Type'}
use Rattle.gos_netlist.specs.declared.nets.NetId.{NetId}
use Rattle.gos_netlist.specs.Seen.{number_of}
use Rattle.gos_pool.specs.Pools.{Pool, KeepsClosed}
use Rattle.gos_netlist.specs.Nets.{Function, Input, Const, Not, And, Or, Xor, Mux, Add, Sub, Eq, Less, Gate, Reg, Cell, Side, NetPort, Netlist, pins}
use Rattle.gos_netcheck.specs.CellRules.{NetsExist}
use Rattle.gos_netcheck.specs.PortRules.{PortsFit, IsRightPort, FitsAt, places}
use Rattle.gos_expand.specs.Choices.{IsLaidBy}
use Rattle.gos_macro.specs.Paths.{renamed}
use Rattle.gos_expand.specs.Into.{raised_cell, raised_nets, raised_port, LaysIntoNone}
use Rattle.gos_expand.specs.inner.Raised.{raised_net}

-- what isn't changed yet is as it was
pub untouched : {X : Type 0} (f : X → X) (xs ys : List X) (i : ℕ) (d : X) → i < length xs → ys ≡ map f (take i xs) ++ drop i xs
    → get_or ys i d ≡ get_or xs i d
untouched {X} f xs ys i d within is =
    let front : List X = map f (take i xs) in
    let long : length front ≡ i = length-map (take i xs) f ∙ omega (arith, length-take i xs) in
    let none : i - i ≡ 0 = omega arith in
    let here : i + 0 ≡ i = omega arith in
    ap (λ (l : List X). get_or l i d) is
    ∙ (get_or-append_right front (drop i xs) i i d long (omega arith)
    ∙ (ap (λ (k : ℕ). get_or (drop i xs) k d) none ∙ (get_or-drop i xs 0 d ∙ ap (λ (k : ℕ). get_or xs k d) here)))

-- what holds of all that is mapped holds of what it is mapped from
pub all_mapped : {X Y : Type 0} (P : Y → Type 0) (f : X → Y) (xs : List X) → All P (map f xs) → All (λ x. P (f x)) xs
all_mapped P f xs all = λ k d within. subst P (get_or-map f xs k d (f d) within) (all k (f d) (omega (arith, within, length-map xs f)))

-- the numbers of nets that are raised
pub raised_numbers : (n : ℕ) (nets : List NetId) → map number_of (map (raised_net n) nets) ≡ raised_nets n (map number_of nets)
raised_numbers n [] = refl
raised_numbers n (net ∷ nets) = ap (λ (l : List ℕ). (net.0 + n) ∷ l) (raised_numbers n nets)

-- closed regions stay closed over two steps
pub keeps_then : (a b c : Pool) → KeepsClosed a b → KeepsClosed b c → KeepsClosed a c
keeps_then a b c p q =
    record { closed = λ region has. q.closed region (p.closed region has); cells = λ region has. q.cells region (p.closed region has) ∙ p.cells region has }

-- what is below a bound is below a higher one
lower : (n m : ℕ) (nets : List ℕ) → n ≤ m → AllByRecursion (λ a. a < n) nets → AllByRecursion (λ a. a < m) nets
lower n m [] most all = tt
lower n m (a ∷ bs) most all = (omega (arith, all.0), lower n m bs most all.1)

-- the pins of an accepted netlist are low
pub low_pins : (cells : List Cell) → NetsExist cells → length cells ≤ 5000000 → All (λ c. AllByRecursion (λ a. a < 5000000) (pins c.gate)) cells
low_pins cells exist few = λ k d within.
    lower (length cells) 5000000 (pins (get_or cells k d).gate) few (exist k (get_or cells k d) (slice_get-get_or cells k d within))

-- and so are the nets of its ports
low_net : (cells : List Cell) (side : Side) (t : Type') (i n : ℕ) → FitsAt cells (slice_get (places side t) i) n → length cells ≤ 5000000 → n < 5000000
low_net cells side t i n fits few =
    (elim (slice_get (places side t) i) as (λ place. FitsAt cells place n → n < 5000000) [
      | None ↦ λ none. absurd none
      | Some place ↦ λ some. let within = slice_get_within cells n some.0 some.1 in omega (arith, within, few)
    ]) fits

pub low_nets : (cells : List Cell) (ports : List NetPort) → PortsFit cells ports → length cells ≤ 5000000 → All (λ p. All (λ a. a < 5000000) p.nets) ports
low_nets cells ports fit few = λ k d within.
    let p : NetPort = get_or ports k d in
    let right : IsRightPort cells ports k p = fit.each k p (slice_get-get_or ports k d within) in
    λ j e inside. low_net cells p.side p.ty j (get_or p.nets j e) (right.nets.1 j (get_or p.nets j e) (slice_get-get_or p.nets j e inside)) few

-- nets that are raised by none
function_as_it_is : (f : Function) → renamed (λ a. a + 0) f ≡ f
function_as_it_is Input = refl
function_as_it_is (Const k) = refl
function_as_it_is (Not a) = ap Not (add-zero a)
function_as_it_is (And a b) = ap₂ And (add-zero a) (add-zero b)
function_as_it_is (Or a b) = ap₂ Or (add-zero a) (add-zero b)
function_as_it_is (Xor a b) = ap₂ Xor (add-zero a) (add-zero b)
function_as_it_is (Mux s a b) = ap₂ (λ (x y : ℕ). Mux x y (b + 0)) (add-zero s) (add-zero a) ∙ ap (Mux s a) (add-zero b)
function_as_it_is (Add a b) = ap₂ Add (add-zero a) (add-zero b)
function_as_it_is (Sub a b) = ap₂ Sub (add-zero a) (add-zero b)
function_as_it_is (Eq a b) = ap₂ Eq (add-zero a) (add-zero b)
function_as_it_is (Less a b) = ap₂ Less (add-zero a) (add-zero b)
function_as_it_is (Gate s a) = ap₂ Gate (add-zero s) (add-zero a)
function_as_it_is (Reg a) = ap Reg (add-zero a)

cells_as_they_are : (cells : List Cell) → map (raised_cell 0) cells ≡ cells
cells_as_they_are [] = refl
cells_as_they_are (c ∷ cells) =
    ap₂ (λ (f : Function) (cs : List Cell). record { width = c.width; gate = f } ∷ cs) (function_as_it_is c.gate) (cells_as_they_are cells)

nets_as_they_are : (nets : List ℕ) → raised_nets 0 nets ≡ nets
nets_as_they_are [] = refl
nets_as_they_are (a ∷ nets) = ap₂ (λ (n : ℕ) (ns : List ℕ). n ∷ ns) (add-zero a) (nets_as_they_are nets)

ports_as_they_are : (ports : List NetPort) → map (raised_port 0) ports ≡ ports
ports_as_they_are [] = refl
ports_as_they_are (p ∷ ports) =
    ap₂ (λ (ns : List ℕ) (ps : List NetPort). record p { nets = ns } ∷ ps) (nets_as_they_are p.nets) (ports_as_they_are ports)

-- a netlist behind no cells is as it is
pub behind_none : LaysIntoNone
behind_none policy p root old new ports none =
    let count : length old.cells ≡ 0 = ap (λ (cs : List Cell). length cs) none in
    let behind : (net : Netlist) → old.cells ++ map (raised_cell (length old.cells)) net.cells ≡ net.cells = λ net.
    ap₂ (λ (cs : List Cell) (n : ℕ). cs ++ map (raised_cell n) net.cells) none count ∙ cells_as_they_are net.cells in
    let there : (net : Netlist) → map (raised_port (length old.cells)) net.ports ≡ net.ports = λ net.
    ap (λ (n : ℕ). map (raised_port n) net.ports) count ∙ ports_as_they_are net.ports in (
      λ into.
          subst (IsLaidBy policy p root)
          (ap₂ (λ (cs : List Cell) (ps : List NetPort). record { cells = cs; ports = ps }) (sym (into.cells ∙ behind into.net)) (sym (into.ports ∙ there into.net)))
          into.laid,
      λ laid.
          let net : Netlist = record { cells = new.cells; ports = ports } in
          record { net = net; laid = laid; cells = sym (behind net); ports = sym (there net) },
    )
