-- A port that keeps all rules, from what its test found.
use Rattle.std.specs.Prelude.{◌≡◌, ◌≢◌, ℕ, zero, suc, ◌<◌, ◌≤◌, Bool, true, false, if◌then◌else◌, List, [], ◌∷◌, ◌++◌, length, map, take, drop, get_or, MatchBool, All}
use Rattle.std.proofs.Common.{arith, refl, sym, ap, subst, ◌∙◌}
use Rattle.std.proofs.Math.ListN.{get_or-map}
use Rattle.std.proofs.lemmas.List.{append-nil, drop_all, take_all, length-map}
use Rattle.std.proofs.lemmas.List.Elements.{All-nil, All-cons, All-append, All-from_get_or}
use Rattle.std.proofs.lemmas.Option.{slice_get_within}
use Rattle.gos_netlist.specs.declared.nets.NetId.{NetId}
use Rattle.gos_netlist.specs.Nets.{Cell, NetPort}
use Rattle.gos_netlist.specs.Seen.{number_of}
use Rattle.gos_netcheck.specs.declared.ports.Place.{Place}
use Rattle.gos_netcheck.specs.Rules.{KeptBefore}
use Rattle.gos_netcheck.specs.PortRules.{HasSide, Fits, AllFit, AreNew, IsRightPort, inputs_among, inputs_of, all_inputs, places}
use Rattle.gos_netcheck.specs.inner.PortSearch.{AreTaken}
use Rattle.gos_netcheck.proofs.TurnLemmas.{no_net}

pub is_right : (cells : List Cell) (ports : List NetPort) (k : ℕ) (seen p : NetPort) → seen ≡ p → HasSide k seen.side seen.ty
    → KeptBefore (λ _ (q : NetPort). q.name ≢ seen.name) ports k → AllFit cells (places seen.side seen.ty) seen.nets
    → AreNew (all_inputs (take k ports)) (inputs_of seen) → IsRightPort cells ports k p
is_right cells ports k seen p e side name nets inputs =
    let here : IsRightPort cells ports k seen = record { side = side; name = name; nets = nets; inputs = inputs } in
    subst (IsRightPort cells ports k) e here

pub inputs_new : (cells : List Cell) (ports : List NetPort) (k : ℕ) (seen p : NetPort) → seen ≡ p → IsRightPort cells ports k p
    → AreNew (all_inputs (take k ports)) (inputs_of seen)
inputs_new cells ports k seen p e right =
    let here : IsRightPort cells ports k seen = subst (IsRightPort cells ports k) (sym e) right in
    here.inputs

-- what the last test says, where all others were passed
pub conclude : (r : Bool) (New Taken Right Names Inputs : Type 0) → MatchBool r (New × Taken) (New → ⊥) → (New → Right) → (Right → New) → Names
    → (Taken → Inputs) → MatchBool r (Right × Names × Inputs) (Right → ⊥)
conclude true New Taken Right Names Inputs (new, taken) right back names inputs = (right new, names, inputs taken)
conclude false New Taken Right Names Inputs old right back names inputs = λ it. old (back it)

-- the list that a slice of it was written to, whole
pub whole_after : (n : ℕ) (new old : List Bool) → length new ≡ length old → n ≡ length old → take n (new ++ drop (length new) old) ≡ new
whole_after n new old same count =
    ap (λ xs. take n (new ++ xs)) (drop_all (length new) old (omega (arith, same))) ∙ ap (λ xs. take n xs) (append-nil new)
    ∙ take_all n new (omega (arith, same, count))

-- the inputs of nets that fit are nets
inputs_exist : (cells : List Cell) (ps : List Place) (ns : List ℕ) → AllFit cells ps ns → All (λ n. n < length cells) (inputs_among ps ns)
inputs_exist cells [] ns fit = All-nil (λ n. n < length cells)
inputs_exist cells (p ∷ ps) [] fit = All-nil (λ n. n < length cells)
inputs_exist cells (p ∷ ps) (n ∷ ns) (count, fit) =
    let P : ℕ → Type 0 = λ m. m < length cells in
    let rest : All P (inputs_among ps ns) = inputs_exist cells ps ns (omega (arith, count), λ i m at. fit (suc i) m at) in
    All-append P (if p.input then n ∷ [] else []) (inputs_among ps ns) (one p.input (fit zero n refl)) rest
  where
    one : (input : Bool) → Fits cells p n → All (λ m. m < length cells) (if input then n ∷ [] else [])
    one true (c, at, width, end) = All-cons (λ m. m < length cells) n [] (slice_get_within cells n c at) (All-nil (λ m. m < length cells))
    one false fits = All-nil (λ m. m < length cells)

pub inputs_within : (cells : List Cell) (ps : List Place) (ns : List ℕ) (items : List NetId) (count : ℕ) → AllFit cells ps ns
    → map number_of items ≡ inputs_among ps ns → length cells ≡ count → All (λ (net : NetId). net.0 < count) items
inputs_within cells ps ns items count fit e same = All-from_get_or (λ (net : NetId). net.0 < count) items no_net each
  where
    each : (k : ℕ) → k < length items → (get_or items k no_net).0 < count
    each k l =
        let P : ℕ → Type 0 = λ m. m < length cells in
        let all : All P (map number_of items) = subst (All P) (sym e) (inputs_exist cells ps ns fit) in
        let one : get_or (map number_of items) k 0 < length cells = all k 0 (omega (arith, l, length-map items number_of)) in
        let read : get_or (map number_of items) k 0 ≡ (get_or items k no_net).0 = get_or-map number_of items k no_net in
        omega (arith, one, read, same)

-- the inputs of all ports, where all have been seen
pub all_seen : (taken : List Bool) (ports : List NetPort) (k : ℕ) → length ports ≤ k → AreTaken taken (all_inputs (take k ports))
    → AreTaken taken (all_inputs ports)
all_seen taken ports k l marks =
    let P : List NetPort → Type 0 = λ ps. AreTaken taken (all_inputs ps) in
    subst P (take_all k ports l) marks

-- what the test of the loose inputs says, by its answer
pub is_loose : (r : Bool) (A B : Type 0) → r ≡ true → MatchBool r A B → A
is_loose true A B e m = m
is_loose false A B e m = absurd (let never : false ≡ true = e in cc)

pub is_not : (r : Bool) (A B : Type 0) → r ≡ false → MatchBool r A B → B
is_not false A B e m = m
is_not true A B e m = absurd (let never : false ≡ true = sym e in cc)
