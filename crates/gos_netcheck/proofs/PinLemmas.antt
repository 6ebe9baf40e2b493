-- What a net waits for, as the program looks at its pins one by one.
use Rattle.std.specs.Prelude.{◌≡◌, ℕ, ◌<◌, List, length, map, get_or, Contains, All, Option, Some, None, IsNone, IfSome, MatchOption, slice_get}
use Rattle.std.proofs.Common.{arith, refl, sym, ap, subst, ◌∙◌}
use Rattle.std.proofs.Math.ListN.{get_or-map}
use Rattle.std.proofs.lemmas.List.{length-map}
use Rattle.std.proofs.lemmas.List.Elements.{All-from_recursion, All-from_get_or}
use Rattle.std.proofs.lemmas.Option.{same_Some, slice_get-get_or, get_or_from_slice_get}
use Rattle.gos_netlist.specs.declared.nets.NetId.{NetId}
use Rattle.gos_netlist.specs.declared.nets.Cell as declared
use Rattle.gos_netlist.specs.declared.nets.Gate.TheVariants.{Input}
use Rattle.gos_netlist.specs.Nets.{Cell, pins}
use Rattle.gos_netlist.specs.Seen.{cell_of, function_of, number_of}
use Rattle.gos_netlist.specs.Cycles.{IsRegister}
use Rattle.gos_netcheck.specs.declared.schedule.Mark.{Mark}
use Rattle.gos_netcheck.specs.declared.schedule.Mark.TheVariants.{Placed}
use Rattle.gos_netcheck.specs.Rules.{Kept}
use Rattle.gos_netcheck.specs.CellRules.{NetsExist}
use Rattle.gos_netcheck.specs.inner.Search.{IsDone, IsUndone, IsReady, IsWaiting}
use Rattle.gos_netcheck.proofs.RuleLemmas.{get_mapped}
use Rattle.gos_netcheck.proofs.TurnLemmas.{no_net}

-- what a list of cells is read as past its end
abbrev pub no_cell : declared.Cell
no_cell = record { width = 0; gate = Input }

-- each pin of a cell is a net
pub pins_exist : (cells : List declared.Cell) (net : ℕ) (d : declared.Cell) (items : List NetId) → NetsExist (map cell_of cells) → net < length cells
    → map number_of items ≡ pins (function_of (get_or cells net d).gate) → All (λ (n : NetId). n.0 < length cells) items
pins_exist cells net d items exist l e = All-from_get_or (λ (n : NetId). n.0 < length cells) items no_net each
  where
    each : (k : ℕ) → k < length items → (get_or items k no_net).0 < length cells
    each k within =
        let count : length (map cell_of cells) ≡ length cells = length-map cells cell_of in
        let P : ℕ → Type 0 = λ a. a < length (map cell_of cells) in
        let named : All P (pins (function_of (get_or cells net d).gate)) =
        All-from_recursion P (pins (function_of (get_or cells net d).gate)) (exist net (cell_of (get_or cells net d)) (get_mapped cell_of cells net d l)) in
        let all : All P (map number_of items) = subst (All P) (sym e) named in
        let one : get_or (map number_of items) k 0 < length (map cell_of cells) = all k 0 (omega (arith, within, length-map items number_of)) in
        let same : get_or (map number_of items) k 0 ≡ (get_or items k no_net).0 = get_or-map number_of items k no_net in
        omega (arith, one, same, count)

-- where each pin is done, all that feeds the net is placed
pub all_done : (cells : List declared.Cell) (marks : List Mark) (net : ℕ) (d : declared.Cell) (items : List NetId) → net < length cells
    → map number_of items ≡ pins (function_of (get_or cells net d).gate)
    → Kept (λ _ a. IsDone (map cell_of cells) marks a) (map number_of items) → IsReady (map cell_of cells) marks net
all_done cells marks net d items l e kept a (c, b, is, at, register, (k, low, named)) =
    let whole : cell_of (get_or cells net d) ≡ b = same_Some (cell_of (get_or cells net d)) b (sym (get_mapped cell_of cells net d l) ∙ at) in
    let nets : map number_of items ≡ pins b.gate = e ∙ ap (λ (x : Cell). pins x.gate) whole in
    let P : List ℕ → Type 0 = λ xs. slice_get xs k ≡ Some a in
    let there : slice_get (pins b.gate) k ≡ Some a = slice_get-get_or (pins b.gate) k a low ∙ ap Some named in
    kept k a (subst P (sym nets) there) c is register

-- a pin that isn't done is waited for
pub one_waiting : (cells : List declared.Cell) (marks : List Mark) (net : ℕ) (d : declared.Cell) (items : List NetId) (pin : ℕ) → net < length cells
    → map number_of items ≡ pins (function_of (get_or cells net d).gate) → Contains (map number_of items) pin
    → IsUndone (map cell_of cells) marks pin → IsWaiting (map cell_of cells) marks net pin
one_waiting cells marks net d items pin l e named (x, is, register, placed) =
    let P : List ℕ → Type 0 = λ xs. Contains xs pin in
    ((x, cell_of (get_or cells net d), is, get_mapped cell_of cells net d l, register, subst P e named), placed)

-- a net that is read is done, where it is a register or placed
pub is_done : (cells : List declared.Cell) (marks : List Mark) (a : ℕ) (x : declared.Cell) (m : Mark) → slice_get (map cell_of cells) a ≡ Some (cell_of x)
    → slice_get marks a ≡ Some m → ((IsRegister (function_of x.gate) → ⊥) → m ≡ Placed) → IsDone (map cell_of cells) marks a
is_done cells marks a x m is mark done c at register =
    let same : cell_of x ≡ c = same_Some (cell_of x) c (sym is ∙ at) in
    let P : Cell → Type 0 = λ y. IsRegister y.gate → ⊥ in
    mark ∙ ap Some (done (subst P (sym same) register))

-- and isn't, where it is neither
pub is_undone : (cells : List declared.Cell) (marks : List Mark) (a : ℕ) (x : declared.Cell) (m : Mark) → slice_get (map cell_of cells) a ≡ Some (cell_of x)
    → slice_get marks a ≡ Some m → (IsRegister (function_of x.gate) → ⊥) → (m ≡ Placed → ⊥) → IsUndone (map cell_of cells) marks a
is_undone cells marks a x m is mark register placed =
    (cell_of x, is, register, λ e. placed (same_Some m Placed (sym mark ∙ e)))

-- a net of a list is in the list of their numbers
pub named : (nets : List NetId) (k : ℕ) → k < length nets → Contains (map number_of nets) (get_or nets k no_net).0
named nets k l =
    let pin : ℕ = (get_or nets k no_net).0 in
    (k, omega (arith, l, length-map nets number_of), get_or_from_slice_get (map number_of nets) k pin pin (get_mapped number_of nets k no_net l))

-- what the search learns of a net from the first of its pins that isn't done
pub first_learnt : (cells : List declared.Cell) (marks : List Mark) (net : ℕ) (items : List NetId) (r : Option NetId) → net < length cells
    → map number_of items ≡ pins (function_of (get_or cells net no_cell).gate)
    → (IsNone r → Kept (λ _ a. IsDone (map cell_of cells) marks a) (map number_of items))
    → IfSome r (λ (n : NetId). Contains (map number_of items) n.0) → IfSome r (λ (n : NetId). IsUndone (map cell_of cells) marks n.0)
    → MatchOption r (IsReady (map cell_of cells) marks net) (λ (n : NetId). IsWaiting (map cell_of cells) marks net n.0)
first_learnt cells marks net items None l e none among undone = all_done cells marks net no_cell items l e (none refl)
first_learnt cells marks net items (Some n) l e none among undone = one_waiting cells marks net no_cell items n.0 l e among undone
