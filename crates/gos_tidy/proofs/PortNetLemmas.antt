-- Ports that stand at the same nets of some cells.
--
-- Read first: Ends, Reduced; PortRules of gos_netcheck.
use Rattle.std.proofs.Common.{◌≡◌, ◌⊎◌, inl, inr, ℕ, zero, suc, Bool, true, false, if◌then◌else◌, List, [], ◌∷◌, ◌++◌, map, slice_get, Some, None, Contains, refl, sym, ap, subst, ◌∙◌, arith}
use Rattle.std.specs.List.{flat_map}
use Rattle.std.proofs.lemmas.List.{map-append}
use Rattle.std.proofs.lemmas.List.Elements.{Contains-append_left, Contains-append_right, Contains-append_cases}
use Rattle.std.proofs.lemmas.Option.{slice_get_within, get_or_from_slice_get, slice_get-get_or, same_Some}
use Rattle.gos_types.specs.Events.{Direction, Event, Is, events}
use Rattle.gos_netlist.specs.Nets.{Input, Cell, Side, NetPort}
use Rattle.gos_netlist.specs.Events.{is_input}
use Rattle.gos_netcheck.specs.Rules.{Kept}
use Rattle.gos_netcheck.specs.PortRules.{places, IsEnd, FitsAt, inputs_among, inputs_of, all_inputs, PortsFit}
use Rattle.gos_tidy.specs.Ends.{outputs_among, outputs_of, all_outputs, if_output, with_nets}

-- members and places
pub contained_at : {X : Type 0} (xs : List X) (k : ℕ) (x : X) → slice_get xs k ≡ Some x → Contains xs x
contained_at xs k x is = (k, slice_get_within xs k x is, get_or_from_slice_get xs k x x is)

pub at_contained : {X : Type 0} (xs : List X) (x : X) → Contains xs x → (k : ℕ) × (slice_get xs k ≡ Some x)
at_contained xs x (k, l, e) = (k, slice_get-get_or xs k x l ∙ ap (λ y. Some y) e)

pub kept_member : (P : ℕ → Type 0) (ns : List ℕ) → Kept (λ _ n. P n) ns → (x : ℕ) → Contains ns x → P x
kept_member P ns kept x has = let (k, is) = at_contained ns x has in kept k x is

-- a member of a list of lists is one of some list
pub flat_member : {X : Type 0} (f : X → List ℕ) (xs : List X) (n : ℕ) → Contains (flat_map f xs) n → (k : ℕ) × (x : X) × (slice_get xs k ≡ Some x) × Contains (f x) n
flat_member f [] n (k, l, e) = absurd (omega (arith, l))
flat_member {X} f (x ∷ xs) n has = by_part (Contains-append_cases (f x) (flat_map f xs) n has) (λ later. flat_member f xs n later)
  where
    by_part : Contains (f x) n ⊎ Contains (flat_map f xs) n
        → (Contains (flat_map f xs) n → (k : ℕ) × (y : X) × (slice_get xs k ≡ Some y) × Contains (f y) n)
        → (k : ℕ) × (y : X) × (slice_get (x ∷ xs) k ≡ Some y) × Contains (f y) n
    by_part (inl here) further = (0, x, refl, here)
    by_part (inr later) further = let (k, y, is, in_y) = further later in (suc k, y, is, in_y)

pub member_flat : {X : Type 0} (f : X → List ℕ) (xs : List X) (n k : ℕ) (x : X) → slice_get xs k ≡ Some x → Contains (f x) n → Contains (flat_map f xs) n
member_flat f [] n k x is has = absurd (cc is)
member_flat f (y ∷ xs) n zero x is has =
    let same : y ≡ x = same_Some y x is in
    Contains-append_left (f y) (flat_map f xs) n (subst (λ z. Contains (f z) n) (sym same) has)
member_flat f (y ∷ xs) n (suc k) x is has = Contains-append_right (f y) (flat_map f xs) n (member_flat f xs n k x is has)

-- The inputs of a port with other nets.

map_if : (f : ℕ → ℕ) (b : Bool) (n : ℕ) → map f (if b then n ∷ [] else []) ≡ (if b then f n ∷ [] else [])
map_if f true n = refl
map_if f false n = refl

inputs_among_map : (f : ℕ → ℕ) (ps : _) (ns : List ℕ) → inputs_among ps (map f ns) ≡ map f (inputs_among ps ns)
inputs_among_map f [] ns = refl
inputs_among_map f (p ∷ ps) [] = refl
inputs_among_map f (p ∷ ps) (n ∷ ns) =
    (λ i. sym (map_if f p.input n) i ++ inputs_among_map f ps ns i)
    ∙ sym (map-append f (if p.input then n ∷ [] else []) (inputs_among ps ns))

pub inputs_of_map : (f : ℕ → ℕ) (p : NetPort) → inputs_of (with_nets f p) ≡ map f (inputs_of p)
inputs_of_map f p = inputs_among_map f (places p.side p.ty) p.nets

pub all_inputs_map : (f : ℕ → ℕ) (ps : List NetPort) → all_inputs (map (with_nets f) ps) ≡ map f (all_inputs ps)
all_inputs_map f [] = refl
all_inputs_map f (p ∷ ps) = (λ i. inputs_of_map f p i ++ all_inputs_map f ps i) ∙ sym (map-append f (inputs_of p) (all_inputs ps))

-- And its outputs.

map_output : (f : ℕ → ℕ) (side : Side) (way : Direction) (ns : List ℕ) → map f (if_output side way ns) ≡ if_output side way (map f ns)
map_output f side way ns = by_way (is_input side way)
  where
    by_way : (b : Bool) → map f (if b then [] else ns) ≡ (if b then [] else map f ns)
    by_way true = refl
    by_way false = refl

outputs_among_map : (f : ℕ → ℕ) (side : Side) (es : List Event) (ns : List ℕ) → outputs_among side es (map f ns) ≡ map f (outputs_among side es ns)
outputs_among_map f side [] ns = refl
outputs_among_map f side (Is way None ∷ es) [] = refl
outputs_among_map f side (Is way None ∷ es) (a ∷ ns) =
    (λ i. sym (map_output f side way (a ∷ [])) i ++ outputs_among_map f side es ns i)
    ∙ sym (map-append f (if_output side way (a ∷ [])) (outputs_among side es ns))
outputs_among_map f side (Is way (Some b) ∷ es) [] = refl
outputs_among_map f side (Is way (Some b) ∷ es) (a ∷ []) = refl
outputs_among_map f side (Is way (Some b) ∷ es) (a ∷ x ∷ ns) =
    (λ i. sym (map_output f side way (a ∷ x ∷ [])) i ++ outputs_among_map f side es ns i)
    ∙ sym (map-append f (if_output side way (a ∷ x ∷ [])) (outputs_among side es ns))

pub outputs_of_map : (f : ℕ → ℕ) (p : NetPort) → outputs_of (with_nets f p) ≡ map f (outputs_of p)
outputs_of_map f p = outputs_among_map f p.side (events p.ty) p.nets

pub all_outputs_map : (f : ℕ → ℕ) (ps : List NetPort) → all_outputs (map (with_nets f) ps) ≡ map f (all_outputs ps)
all_outputs_map f [] = refl
all_outputs_map f (p ∷ ps) = (λ i. outputs_of_map f p i ++ all_outputs_map f ps i) ∙ sym (map-append f (outputs_of p) (all_outputs ps))

-- Inputs and outputs are nets of the port.

pub input_is_net : (ps : _) (ns : List ℕ) (x : ℕ) → Contains (inputs_among ps ns) x → Contains ns x
input_is_net [] ns x (k, l, e) = absurd (omega (arith, l))
input_is_net (p ∷ ps) [] x (k, l, e) = absurd (omega (arith, l))
input_is_net (p ∷ ps) (n ∷ ns) x has = by_input p.input has (λ among. input_is_net ps ns x among)
  where
    later : Contains ns x → Contains (n ∷ ns) x
    later (k, l, e) = (suc k, omega (arith, l), e)

    here_or : Contains (n ∷ []) x ⊎ Contains (inputs_among ps ns) x → (Contains (inputs_among ps ns) x → Contains ns x) → Contains (n ∷ ns) x
    here_or (inl (zero, l, e)) further = (0, omega arith, e)
    here_or (inl (suc k, l, e)) further = absurd (omega (arith, l))
    here_or (inr rest) further = later (further rest)

    by_input : (b : Bool) → Contains ((if b then n ∷ [] else []) ++ inputs_among ps ns) x → (Contains (inputs_among ps ns) x → Contains ns x) → Contains (n ∷ ns) x
    by_input true has further = here_or (Contains-append_cases (n ∷ []) (inputs_among ps ns) x has) further
    by_input false has further = later (further has)

-- an Input cell stands at the net
abbrev pub IsInputNet : List Cell → ℕ → Type 0
IsInputNet cells x = (c : Cell) × (slice_get cells x ≡ Some c) × (c.gate ≡ Input)

inputs_fit : (cells : List Cell) (ps : _) (ns : List ℕ) → ((i n : ℕ) → slice_get ns i ≡ Some n → FitsAt cells (slice_get ps i) n)
    → (x : ℕ) → Contains (inputs_among ps ns) x → IsInputNet cells x
inputs_fit cells [] ns fit x (k, l, e) = absurd (omega (arith, l))
inputs_fit cells (p ∷ ps) [] fit x (k, l, e) = absurd (omega (arith, l))
inputs_fit cells (p ∷ ps) (n ∷ ns) fit x has =
    let (c, there, width, end) = fit 0 n refl in
    by_input c there p.input end has (λ among. inputs_fit cells ps ns (λ i m is. fit (suc i) m is) x among)
  where
    here_or : (c : Cell) → slice_get cells n ≡ Some c → c.gate ≡ Input → Contains (n ∷ []) x ⊎ Contains (inputs_among ps ns) x
        → (Contains (inputs_among ps ns) x → IsInputNet cells x) → IsInputNet cells x
    here_or c there is (inl (zero, l, e)) rest = subst (IsInputNet cells) e (c, there, is)
    here_or c there is (inl (suc k, l, e)) rest = absurd (omega (arith, l))
    here_or c there is (inr has) rest = rest has

    by_input : (c : Cell) → slice_get cells n ≡ Some c → (b : Bool) → IsEnd b c.gate → Contains ((if b then n ∷ [] else []) ++ inputs_among ps ns) x
        → (Contains (inputs_among ps ns) x → IsInputNet cells x) → IsInputNet cells x
    by_input c there true is has rest = here_or c there is (Contains-append_cases (n ∷ []) (inputs_among ps ns) x has) rest
    by_input c there false is has rest = rest has

pub input_there : (cells : List Cell) (ports : List NetPort) → PortsFit cells ports → (x : ℕ) → Contains (all_inputs ports) x → IsInputNet cells x
input_there cells ports fit x has =
    let (k, p, is, in_p) = flat_member inputs_of ports x has in
    let right = fit.each k p is in
    inputs_fit cells (places p.side p.ty) p.nets right.nets.1 x in_p

-- ports and their nets, side by side
pub port_beside : (f g : ℕ → ℕ) (qs ps : List NetPort) → map (with_nets g) qs ≡ map (with_nets f) ps → (k : ℕ) (q : NetPort) → slice_get qs k ≡ Some q
    → (p : NetPort) × (slice_get ps k ≡ Some p) × (with_nets g q ≡ with_nets f p)
port_beside f g [] ps same k q is = absurd (cc is)
port_beside f g (r ∷ qs) [] same k q is = absurd (cc same)
port_beside f g (r ∷ qs) (p ∷ ps) same zero q is =
    let at_head : r ≡ q = same_Some r q is in
    let heads : with_nets g r ≡ with_nets f p = cc in
    (p, refl, subst (λ (x : NetPort). with_nets g x ≡ with_nets f p) at_head heads)
port_beside f g (r ∷ qs) (p ∷ ps) same (suc k) q is =
    let tails : map (with_nets g) qs ≡ map (with_nets f) ps = cc in
    port_beside f g qs ps tails k q is

pub net_beside : (f g : ℕ → ℕ) (ms ns : List ℕ) → map g ms ≡ map f ns → (k m : ℕ) → slice_get ms k ≡ Some m → (n : ℕ) × (slice_get ns k ≡ Some n) × (g m ≡ f n)
net_beside f g [] ns same k m is = absurd (cc is)
net_beside f g (x ∷ ms) [] same k m is = absurd (cc same)
net_beside f g (x ∷ ms) (n ∷ ns) same zero m is =
    let at_head : x ≡ m = same_Some x m is in
    let heads : g x ≡ f n = cc in
    (n, refl, subst (λ (y : ℕ). g y ≡ f n) at_head heads)
net_beside f g (x ∷ ms) (n ∷ ns) same (suc k) m is =
    let tails : map g ms ≡ map f ns = cc in
    net_beside f g ms ns tails k m is
