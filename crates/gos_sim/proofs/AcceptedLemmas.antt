-- An accepted netlist has what a simulator asks of it.
use Rattle.std.specs.Prelude.{◌≡◌, ◌≢◌, ℕ, zero, suc, ◌<◌, ◌≤◌, Bool, true, false, ◌⊎◌, List, [], ◌∷◌, ◌++◌, Option, Some, None, length, get_or, map, nat_le, take, filter, All, Contains, slice_get}
use Rattle.std.specs.List.{flat_map}
use Rattle.std.specs.Bool.{beq}
use Rattle.std.proofs.lemmas.Option.{slice_get-get_or, slice_get_within}
use Rattle.std.proofs.Common.{arith, refl, sym, ◌∙◌, ap, subst, inl, inr}
use Rattle.std.proofs.lemmas.Bool.Decides.{nat_tests}
use Rattle.std.proofs.lemmas.List.{append-nil, append_assoc}
use Rattle.std.proofs.lemmas.List.Sums.{AllPass-from_list_all}
use Rattle.std.proofs.lemmas.List.Elements.{All-append, All-cons, All-nil, All-filter, All-from_recursion, Contains-append_left, Contains-append_right, Contains-push, filter-append, filter_passes}
use Rattle.gos_types.specs.Types.{Type', Com, Exp, Var, Pair, Fun}
use Rattle.gos_netlist.specs.Nets.{Function, Input, Const, Not, And, Or, Xor, Mux, Add, Sub, Eq, Less, Gate, Reg, Cell, pins, Side, Give, Take, NetPort, Netlist}
use Rattle.gos_netlist.specs.Events.{is_input, net_count}
use Rattle.gos_types.specs.Events.{Direction, Request, Answer}
use Rattle.gos_netcheck.specs.CellRules.{NetsExist, OperandsFit, widths_of}
use Rattle.gos_netcheck.specs.PortRules.{AllFit, AreNew, Fits, IsEnd, all_inputs, inputs_among, inputs_of, place, places}
use Rattle.gos_netcheck.specs.Accepted.{IsAccepted}
use Rattle.gos_sim.specs.declared.event_nets.EventNets.{EventNets}
use Rattle.gos_sim.specs.EventNets.{Names, OnNets, all_events, comes_in, events_at, input_events, port_events}
use Rattle.gos_netlist.specs.declared.nets.Cell as declared
use Rattle.gos_netlist.specs.Seen.{cell_of}
use Rattle.gos_sim.specs.inner.Program.{IsShort, are_narrow}
use Rattle.gos_sim.proofs.PlaceLemmas.{all_at, all_of_at, moved_from}
use Rattle.gos_sim.specs.inner.Ready.{AreApart, AreCellsReady, AreTwo, IsReady}

-- a constant fits its cell
short : (ws : List ℕ) (w : ℕ) (f : Function) → OperandsFit ws w f → IsShort w f
short ws w (Const k) fits = fits
short ws w Input fits = tt
short ws w (Not a) fits = tt
short ws w (And a b) fits = tt
short ws w (Or a b) fits = tt
short ws w (Xor a b) fits = tt
short ws w (Mux s a b) fits = tt
short ws w (Add a b) fits = tt
short ws w (Sub a b) fits = tt
short ws w (Eq a b) fits = tt
short ws w (Less a b) fits = tt
short ws w (Gate s a) fits = tt
short ws w (Reg a) fits = tt

-- its cells
cells_ready : (cells : List Cell) → NetsExist cells → AreCellsReady cells
cells_ready cells exist = λ n c is. record { pins = All-from_recursion (λ a. a < length cells) (pins c.gate) (exist n c is) }

-- none has more bits than a wide word
pub widths_below : (net : Netlist) → IsAccepted net → All (λ c. c.width ≤ 64) net.cells
widths_below net accepted = all_of_at (λ c. c.width ≤ 64) net.cells (λ n c is. omega (arith, (accepted.widths n c is).1))

-- none has more than a narrow one, where that was found
pub narrow_widths : (cells : List declared.Cell) → are_narrow cells ≡ true → All (λ c. c.width ≤ 32) (map cell_of cells)
narrow_widths cells are = all_of_at (λ c. c.width ≤ 32) (map cell_of cells) (λ n c is.
    let (d, at_d, same) = moved_from cell_of cells n c is in
    subst (λ (e : Cell). e.width ≤ 32) same (narrow d.width (all_at (λ d. nat_le d.width 32 ≡ true) cells n d (AllPass-from_list_all (λ d. nat_le d.width 32) cells are) at_d)))
  where
    narrow : (w : ℕ) → nat_le w 32 ≡ true → w ≤ 32
    narrow w test = grind (arith, nat_tests)

-- the nets of an event, its pulse's first
abbrev nets_of_number : Option ℕ → List ℕ
nets_of_number None = []
nets_of_number (Some x) = x ∷ []

abbrev nets_of : EventNets → List ℕ
nets_of e = e.pulse ∷ nets_of_number e.number

-- each net of an event is at the end that its direction wants
abbrev IsAtEnd : List Cell → Bool → ℕ → Type 0
IsAtEnd cells input a = (c : Cell) × (slice_get cells a ≡ Some c) × IsEnd input c.gate

abbrev AreAtEnds : List Cell → EventNets → Type 0
AreAtEnds cells e = OnNets (IsAtEnd cells e.input) e

fit_end : (cells : List Cell) (side : Side) (way : Direction) (w n : ℕ) → Fits cells (place side way w) n → IsAtEnd cells (is_input side way) n
fit_end cells side way w n (c, is, width, end) = (c, is, end)

-- the net at a place of a port is at the end that this place wants
end_at : (cells : List Cell) (side : Side) (ty : Type') (ns : List ℕ) (i : ℕ) (way : Direction) (w : ℕ) → AllFit cells (places side ty) ns
    → slice_get (places side ty) i ≡ Some (place side way w) → IsAtEnd cells (is_input side way) (get_or ns i 0)
end_at cells side ty ns i way w all is =
    let within : i < length ns = omega (arith, slice_get_within (places side ty) i (place side way w) is, all.0) in
    let fits : Fits cells (place side way w) (get_or ns i 0) = rw is at (all.1 i (get_or ns i 0) (slice_get-get_or ns i 0 within)) in
    fit_end cells side way w (get_or ns i 0) fits

-- the nets of a port's events are at their ends
port_ends : (cells : List Cell) (side : Side) (ty : Type') (ns : List ℕ) → AllFit cells (places side ty) ns → All (AreAtEnds cells) (events_at side ty ns)
port_ends cells side Com ns all =
    All-from_recursion (AreAtEnds cells) (events_at side Com ns)
    ((end_at cells side Com ns 0 Request 1 all refl, tt), ((end_at cells side Com ns 1 Answer 1 all refl, tt), tt))
port_ends cells side (Exp w) ns all =
    All-from_recursion (AreAtEnds cells) (events_at side (Exp w) ns) (
      (end_at cells side (Exp w) ns 0 Request 1 all refl, tt),
      ((end_at cells side (Exp w) ns 1 Answer 1 all refl, end_at cells side (Exp w) ns 2 Answer w all refl), tt),
    )
port_ends cells side (Var w) ns all =
    All-from_recursion (AreAtEnds cells) (events_at side (Var w) ns) (
      (end_at cells side (Var w) ns 0 Request 1 all refl, tt),
      (
        (end_at cells side (Var w) ns 1 Answer 1 all refl, end_at cells side (Var w) ns 2 Answer w all refl),
        (
          (end_at cells side (Var w) ns 3 Request 1 all refl, end_at cells side (Var w) ns 4 Request w all refl),
          ((end_at cells side (Var w) ns 5 Answer 1 all refl, tt), tt),
        ),
      ),
    )
port_ends cells side (Pair a b) ns all = All-nil (AreAtEnds cells)
port_ends cells side (Fun a b) ns all = All-nil (AreAtEnds cells)

-- the nets of each port fit
abbrev AllPortsFit : List Cell → List NetPort → Type 0
AllPortsFit cells ports = (k : ℕ) (p : NetPort) → slice_get ports k ≡ Some p → AllFit cells (places p.side p.ty) p.nets

all_ends : (cells : List Cell) (ports : List NetPort) → AllPortsFit cells ports → All (AreAtEnds cells) (flat_map port_events ports)
all_ends cells [] fit = All-nil (AreAtEnds cells)
all_ends cells (p ∷ ps) fit =
    All-append (AreAtEnds cells) (port_events p) (flat_map port_events ps) (port_ends cells p.side p.ty p.nets (fit 0 p refl)) (all_ends cells ps (λ k q is. fit (suc k) q is))

-- those that come in, or go out
ends_of : (cells : List Cell) (input : Bool) (es : List EventNets) → All (AreAtEnds cells) es → All (OnNets (IsAtEnd cells input)) (filter (comes_in input) es)
ends_of cells input es all = λ k d below.
    let end = All-filter (comes_in input) (AreAtEnds cells) es all k d below in
    subst (λ (b : Bool). OnNets (IsAtEnd cells b) (get_or (filter (comes_in input) es) k d)) (same_from_beq _ _ (filter_passes (comes_in input) es k d below)) end
  where
    same_from_beq : (a b : Bool) → beq a b ≡ true → a ≡ b
    same_from_beq true true e = refl
    same_from_beq false false e = refl
    same_from_beq true false e = absurd (cc)
    same_from_beq false true e = absurd (cc)

-- a port has as many nets as its type wants
counts : (side : Side) (ty : Type') (cells : List Cell) (ns : List ℕ) → AllFit cells (places side ty) ns → net_count ty ≤ length ns
counts side Com cells ns all = omega (arith, all.0)
counts side (Exp w) cells ns all = omega (arith, all.0)
counts side (Var w) cells ns all = omega (arith, all.0)
counts side (Pair a b) cells ns all = omega arith
counts side (Fun a b) cells ns all = omega arith

-- the nets of a port's input events are those that stand where inputs do
port_inputs : (side : Side) (ty : Type') (ns : List ℕ) → length ns ≡ length (places side ty) → flat_map nets_of (filter (comes_in true) (events_at side ty ns)) ≡ inputs_among (places side ty) ns
port_inputs Give Com (a ∷ b ∷ []) l = refl
port_inputs Take Com (a ∷ b ∷ []) l = refl
port_inputs side Com [] l = absurd (omega (arith, l))
port_inputs side Com (a ∷ []) l = absurd (omega (arith, l))
port_inputs side Com (a ∷ b ∷ c ∷ ns) l = absurd (omega (arith, l))
port_inputs Give (Exp w) (a ∷ b ∷ c ∷ []) l = refl
port_inputs Take (Exp w) (a ∷ b ∷ c ∷ []) l = refl
port_inputs side (Exp w) [] l = absurd (omega (arith, l))
port_inputs side (Exp w) (a ∷ []) l = absurd (omega (arith, l))
port_inputs side (Exp w) (a ∷ b ∷ []) l = absurd (omega (arith, l))
port_inputs side (Exp w) (a ∷ b ∷ c ∷ d ∷ ns) l = absurd (omega (arith, l))
port_inputs Give (Var w) (a ∷ b ∷ c ∷ d ∷ e ∷ f ∷ []) l = refl
port_inputs Take (Var w) (a ∷ b ∷ c ∷ d ∷ e ∷ f ∷ []) l = refl
port_inputs side (Var w) [] l = absurd (omega (arith, l))
port_inputs side (Var w) (a ∷ []) l = absurd (omega (arith, l))
port_inputs side (Var w) (a ∷ b ∷ []) l = absurd (omega (arith, l))
port_inputs side (Var w) (a ∷ b ∷ c ∷ []) l = absurd (omega (arith, l))
port_inputs side (Var w) (a ∷ b ∷ c ∷ d ∷ []) l = absurd (omega (arith, l))
port_inputs side (Var w) (a ∷ b ∷ c ∷ d ∷ e ∷ []) l = absurd (omega (arith, l))
port_inputs side (Var w) (a ∷ b ∷ c ∷ d ∷ e ∷ f ∷ g ∷ ns) l = absurd (omega (arith, l))
port_inputs side (Pair a b) [] l = refl
port_inputs side (Pair a b) (n ∷ ns) l = absurd (omega (arith, l))
port_inputs side (Fun a b) [] l = refl
port_inputs side (Fun a b) (n ∷ ns) l = absurd (omega (arith, l))

flat_map-append : {X A : Type 0} (f : X → List A) (xs ys : List X) → flat_map f (xs ++ ys) ≡ flat_map f xs ++ flat_map f ys
flat_map-append f [] ys = refl
flat_map-append f (x ∷ xs) ys = ap (λ l. f x ++ l) (flat_map-append f xs ys) ∙ sym (append_assoc (f x) (flat_map f xs) (flat_map f ys))

-- and so of all ports
same_inputs : (cells : List Cell) (ports : List NetPort) → AllPortsFit cells ports → flat_map nets_of (filter (comes_in true) (flat_map port_events ports)) ≡ all_inputs ports
same_inputs cells [] fit = refl
same_inputs cells (p ∷ ps) fit =
    ap (flat_map nets_of) (filter-append (comes_in true) (port_events p) (flat_map port_events ps))
    ∙ (flat_map-append nets_of (filter (comes_in true) (port_events p)) (filter (comes_in true) (flat_map port_events ps))
    ∙ (λ i. port_inputs p.side p.ty p.nets (fit 0 p refl).0 i ++ same_inputs cells ps (λ k q is. fit (suc k) q is) i))

-- none of the nets is among those before, and none stands twice
abbrev IsFresh : List ℕ → List ℕ → Type 0
IsFresh before [] = Unit {0}
IsFresh before (n ∷ ns) = (Contains before n → ⊥) × IsFresh (before ++ n ∷ []) ns

fresh_of_new : (before ns : List ℕ) → AreNew before ns → IsFresh before ns
fresh_of_new before [] new = tt
fresh_of_new before (n ∷ ns) new = (
  λ has. new 0 n refl (Contains-append_left before [] n has),
  fresh_of_new (before ++ n ∷ []) ns (λ i m is has. new (suc i) m is (subst (λ (l : List ℕ). Contains l m) (append_assoc before (n ∷ []) (take i ns)) has)),
)

fresh_join : (before xs ys : List ℕ) → IsFresh before xs → IsFresh (before ++ xs) ys → IsFresh before (xs ++ ys)
fresh_join before [] ys first rest = subst (λ (l : List ℕ). IsFresh l ys) (append-nil before) rest
fresh_join before (x ∷ xs) ys first rest = (
  first.0,
  fresh_join (before ++ x ∷ []) xs ys first.1 (subst (λ (l : List ℕ). IsFresh l ys) (sym (append_assoc before (x ∷ []) xs)) rest),
)

-- the inputs of all ports, where no port has one of those before it
all_fresh : (front ports : List NetPort) → ((k : ℕ) (p : NetPort) → slice_get ports k ≡ Some p → AreNew (all_inputs (front ++ take k ports)) (inputs_of p)) → IsFresh (all_inputs front) (all_inputs ports)
all_fresh front [] new = tt
all_fresh front (p ∷ ps) new =
    let first : IsFresh (all_inputs front) (inputs_of p) = subst (λ (l : List NetPort). IsFresh (all_inputs l) (inputs_of p)) (append-nil front) (fresh_of_new (all_inputs (front ++ [])) (inputs_of p) (new 0 p refl)) in
    let more : all_inputs (front ++ p ∷ []) ≡ all_inputs front ++ inputs_of p = flat_map-append inputs_of front (p ∷ []) ∙ ap (λ (l : List ℕ). all_inputs front ++ l) (append-nil (inputs_of p)) in
    let rest : IsFresh (all_inputs (front ++ p ∷ [])) (all_inputs ps) = all_fresh (front ++ p ∷ []) ps (λ k q is. subst (λ (l : List NetPort). AreNew (all_inputs l) (inputs_of q)) (sym (append_assoc front (p ∷ []) (take k ps))) (new (suc k) q is)) in
    fresh_join (all_inputs front) (inputs_of p) (all_inputs ps) first (subst (λ (l : List ℕ). IsFresh l (all_inputs ps)) more rest)

-- what that says of one event
record StandsOnce (pulse : ℕ) (number : Option ℕ) (before rest : List ℕ) : Type 0 where
  two : (x : ℕ) → number ≡ Some x → pulse ≢ x
  new : (a : ℕ) → (a ≡ pulse) ⊎ (number ≡ Some a) → Contains before a → ⊥
  stands : (a : ℕ) → (a ≡ pulse) ⊎ (number ≡ Some a) → Contains (before ++ pulse ∷ nets_of_number number) a
  more : IsFresh (before ++ pulse ∷ nets_of_number number) rest

stands_once : (pulse : ℕ) (number : Option ℕ) (before rest : List ℕ) → IsFresh before ((pulse ∷ nets_of_number number) ++ rest) → StandsOnce pulse number before rest
stands_once pulse None before rest fresh =
    record { two = λ x is. absurd (cc); new = new; stands = stands; more = fresh.1 }
  where
    new : (a : ℕ) → (a ≡ pulse) ⊎ (None ≡ Some a) → Contains before a → ⊥
    new a (inl same) has = fresh.0 (subst (λ (b : ℕ). Contains before b) same has)
    new a (inr is) has = cc

    stands : (a : ℕ) → (a ≡ pulse) ⊎ (None ≡ Some a) → Contains (before ++ pulse ∷ []) a
    stands a (inl same) = subst (λ (b : ℕ). Contains (before ++ pulse ∷ []) b) (sym same) (Contains-push before pulse)
    stands a (inr is) = absurd (cc)
stands_once pulse (Some y) before rest fresh =
    record { two = two; new = new; stands = stands; more = subst (λ (l : List ℕ). IsFresh l rest) (append_assoc before (pulse ∷ []) (y ∷ [])) fresh.1.1 }
  where
    two : (x : ℕ) → Some y ≡ Some x → pulse ≢ x
    two x is same =
        let one : y ≡ x = cc in
        fresh.1.0 (subst (λ (b : ℕ). Contains (before ++ pulse ∷ []) b) (same ∙ sym one) (Contains-push before pulse))

    new : (a : ℕ) → (a ≡ pulse) ⊎ (Some y ≡ Some a) → Contains before a → ⊥
    new a (inl same) has = fresh.0 (subst (λ (b : ℕ). Contains before b) same has)
    new a (inr is) has =
        let one : a ≡ y = cc in
        fresh.1.0 (Contains-append_left before (pulse ∷ []) y (subst (λ (b : ℕ). Contains before b) one has))

    stands : (a : ℕ) → (a ≡ pulse) ⊎ (Some y ≡ Some a) → Contains (before ++ pulse ∷ y ∷ []) a
    stands a (inl same) = Contains-append_right before (pulse ∷ y ∷ []) a (0, omega arith, sym same)
    stands a (inr is) =
        let one : y ≡ a = cc in
        Contains-append_right before (pulse ∷ y ∷ []) a (1, omega arith, one)

-- what it says of events, one after another
record StandApart (es : List EventNets) (before : List ℕ) : Type 0 where
  apart : AreApart es
  new : (k a : ℕ) (e : EventNets) → slice_get es k ≡ Some e → Names e a → Contains before a → ⊥

stand_apart : (es : List EventNets) (before : List ℕ) → IsFresh before (flat_map nets_of es) → StandApart es before
stand_apart [] before fresh = record { apart = record { within = All-nil AreTwo; between = λ j k a e f at_j. absurd (cc) }; new = λ k a e at_k. absurd (cc) }
stand_apart (e ∷ es) before fresh =
    let first = stands_once e.pulse e.number before (flat_map nets_of es) fresh in
    let others = stand_apart es (before ++ nets_of e) first.more in
    record { apart = record { within = All-cons AreTwo e es first.two others.apart.within; between = between first others }; new = new first others }
  where
    between : StandsOnce e.pulse e.number before (flat_map nets_of es) → StandApart es (before ++ nets_of e)
        → (j k a : ℕ) (f g : EventNets) → slice_get (e ∷ es) j ≡ Some f → slice_get (e ∷ es) k ≡ Some g → Names f a → Names g a → j ≡ k
    between first others zero zero a f g at_j at_k n m = refl
    between first others zero (suc k) a f g at_j at_k n m =
        let same : f ≡ e = cc in
        absurd (others.new k a g at_k m (first.stands a (subst (λ (e : EventNets). Names e a) same n)))
    between first others (suc j) zero a f g at_j at_k n m =
        let same : g ≡ e = cc in
        absurd (others.new j a f at_j n (first.stands a (subst (λ (e : EventNets). Names e a) same m)))
    between first others (suc j) (suc k) a f g at_j at_k n m = ap suc (others.apart.between j k a f g at_j at_k n m)

    new : StandsOnce e.pulse e.number before (flat_map nets_of es) → StandApart es (before ++ nets_of e)
        → (k a : ℕ) (f : EventNets) → slice_get (e ∷ es) k ≡ Some f → Names f a → Contains before a → ⊥
    new first others zero a f at_k n has =
        let same : f ≡ e = cc in
        first.new a (subst (λ (e : EventNets). Names e a) same n) has
    new first others (suc k) a f at_k n has = others.new k a f at_k n (Contains-append_left before (nets_of e) a has)

-- an accepted netlist is ready
pub ready_of_accepted : (net : Netlist) → IsAccepted net → IsReady net
ready_of_accepted net accepted =
    let fit : AllPortsFit net.cells net.ports = λ k p is. (accepted.ports.each k p is).nets in
    let ends = all_ends net.cells net.ports fit in
    let fresh : IsFresh [] (all_inputs net.ports) = all_fresh [] net.ports (λ k p is. (accepted.ports.each k p is).inputs) in
    record {
      cells = cells_ready net.cells accepted.nets;
      constants = λ n c is. short (widths_of net.cells) c.width c.gate (accepted.widths n c is).2;
      counts = All-from_slice_get net.ports (λ k p is. counts p.side p.ty net.cells p.nets (fit k p is));
      inputs = ends_of net.cells true (all_events net) ends;
      outputs = ends_of net.cells false (all_events net) ends;
      apart = (stand_apart (input_events net) [] (subst (IsFresh []) (sym (same_inputs net.cells net.ports fit)) fresh)).apart;
    }
  where
    All-from_slice_get : (ports : List NetPort) → ((k : ℕ) (p : NetPort) → slice_get ports k ≡ Some p → net_count p.ty ≤ length p.nets) → All (λ p. net_count p.ty ≤ length p.nets) ports
    All-from_slice_get ports each = λ k d below. each k (get_or ports k d) (slice_get-get_or ports k d below)
