-- The nets of ports that are inputs are different cells.
use Rattle.std.proofs.Common.{◌≡◌, ◌≢◌, ℕ, zero, suc, Bool, true, false, if◌then◌else◌, List, [], ◌∷◌, ◌++◌, length, map, take, Some, refl, sym, ◌∙◌, ap, subst, arith, slice_get, append_assoc, append-nil, Contains}
use Rattle.std.specs.List.{AllByRecursion}
use Rattle.std.proofs.lemmas.Grind.{flat_map-append}
use Rattle.gos_types.specs.Types.{Type', Com, Exp, Var, Pair, Fun}
use Rattle.gos_netlist.specs.Nets.{Side, NetPort}
use Rattle.gos_netlist.specs.Events.{is_input}
use Rattle.gos_netcheck.specs.PortRules.{place, places, inputs_among, inputs_of, all_inputs, AreNew}
use Rattle.gos_verilog.specs.declared.port_net.Role.{Role}
use Rattle.gos_verilog.specs.PortNets.{PortNet, direction, bits, roles, number_bits, nets_in_roles, nets_of_port, port_nets}

-- the cells of the nets that are inputs
abbrev pub input_cells : List PortNet → List ℕ
input_cells [] = []
input_cells (n ∷ ns) = (if n.input then n.cell ∷ [] else []) ++ input_cells ns

inputs_append : (xs ys : List PortNet) → input_cells (xs ++ ys) ≡ input_cells xs ++ input_cells ys
inputs_append [] ys = refl
inputs_append (x ∷ xs) ys =
    ap (λ more. (if x.input then x.cell ∷ [] else []) ++ more) (inputs_append xs ys) ∙ sym (append_assoc (if x.input then x.cell ∷ [] else []) (input_cells xs) (input_cells ys))

inputs_in_roles : (name : List ℕ) (side : Side) (w : ℕ) (ns : List ℕ) (rs : List Role)
    → inputs_among (map (λ role. place side (direction role) (bits w role)) rs) ns ≡ input_cells (nets_in_roles name side w ns rs)
inputs_in_roles name side w [] [] = refl
inputs_in_roles name side w [] (r ∷ rs) = refl
inputs_in_roles name side w (n ∷ ns) [] = refl
inputs_in_roles name side w (n ∷ ns) (r ∷ rs) = ap (λ more. (if is_input side (direction r) then n ∷ [] else []) ++ more) (inputs_in_roles name side w ns rs)

inputs_of_type : (name : List ℕ) (side : Side) (ns : List ℕ) (t : Type') → inputs_among (places side t) ns ≡ input_cells (nets_in_roles name side (number_bits t) ns (roles t))
inputs_of_type name side ns Com = inputs_in_roles name side 1 ns (roles Com)
inputs_of_type name side ns (Exp w) = inputs_in_roles name side w ns (roles (Exp w))
inputs_of_type name side ns (Var w) = inputs_in_roles name side w ns (roles (Var w))
inputs_of_type name side ns (Pair a b) = inputs_in_roles name side 1 ns []
inputs_of_type name side ns (Fun a b) = inputs_in_roles name side 1 ns []

inputs_of_ports : (ps : List NetPort) → all_inputs ps ≡ input_cells (port_nets ps)
inputs_of_ports [] = refl
inputs_of_ports (p ∷ ps) = (λ i. inputs_of_type p.name p.side p.nets p.ty i ++ inputs_of_ports ps i) ∙ sym (inputs_append (nets_of_port p) (port_nets ps))

-- no number stands twice
abbrev pub AreApart : List ℕ → Type 0
AreApart [] = Unit {0}
AreApart (n ∷ ns) = AllByRecursion (λ m. n ≢ m) ns × AreApart ns

all_snoc : (n m : ℕ) (ns : List ℕ) → AllByRecursion (λ k. n ≢ k) ns → n ≢ m → AllByRecursion (λ k. n ≢ k) (ns ++ m ∷ [])
all_snoc n m [] all other = (other, tt)
all_snoc n m (k ∷ ns) all other = (all.0, all_snoc n m ns all.1 other)

apart_snoc : (ns : List ℕ) (m : ℕ) → AreApart ns → (Contains ns m → ⊥) → AreApart (ns ++ m ∷ [])
apart_snoc [] m apart new = (tt, tt)
apart_snoc (n ∷ ns) m apart new =
    (all_snoc n m ns apart.0 (λ same. new (zero, omega arith, same)), apart_snoc ns m apart.1 (λ found. new (suc found.0, omega (arith, found.1), found.2)))

-- what is new one by one is apart
apart_more : (before ns : List ℕ) → AreApart before → AreNew before ns → AreApart (before ++ ns)
apart_more before [] apart new = subst AreApart (sym (append-nil before)) apart
apart_more before (n ∷ ns) apart new =
    subst AreApart (append_assoc before (n ∷ []) ns)
    (apart_more (before ++ n ∷ []) ns
    (apart_snoc before n apart (λ found. new zero n refl (subst (λ (all : List ℕ). Contains all n) (sym (append-nil before)) found)))
    (λ k m is found. new (suc k) m is (subst (λ (all : List ℕ). Contains all m) (append_assoc before (n ∷ []) (take k ns)) found)))

take_front : (done rest : List NetPort) → take (length done) (done ++ rest) ≡ done
take_front [] rest = refl
take_front (p ∷ done) rest = ap (λ more. p ∷ more) (take_front done rest)

get_next : (done rest : List NetPort) (p : NetPort) → slice_get (done ++ p ∷ rest) (length done) ≡ Some p
get_next [] rest p = refl
get_next (q ∷ done) rest p = get_next done rest p

apart_ports : (done rest : List NetPort) → AreApart (all_inputs done)
    → ((k : ℕ) (p : NetPort) → slice_get (done ++ rest) k ≡ Some p → AreNew (all_inputs (take k (done ++ rest))) (inputs_of p)) → AreApart (all_inputs (done ++ rest))
apart_ports done [] apart rule = subst (λ (ps : List NetPort). AreApart (all_inputs ps)) (sym (append-nil done)) apart
apart_ports done (p ∷ rest) apart rule =
    let new : AreNew (all_inputs done) (inputs_of p) = subst (λ (ps : List NetPort). AreNew (all_inputs ps) (inputs_of p)) (take_front done (p ∷ rest)) (rule (length done) p (get_next done rest p)) in
    let one : all_inputs (done ++ p ∷ []) ≡ all_inputs done ++ inputs_of p = flat_map-append inputs_of done (p ∷ []) ∙ ap (λ more. all_inputs done ++ more) (append-nil (inputs_of p)) in
    let known = apart_ports (done ++ p ∷ []) rest (subst AreApart (sym one) (apart_more (all_inputs done) (inputs_of p) apart new))
    (λ k q is. subst (λ (ps : List NetPort). AreNew (all_inputs (take k ps)) (inputs_of q)) (sym (append_assoc done (p ∷ []) rest)) (rule k q (subst (λ (ps : List NetPort). slice_get ps k ≡ Some q) (append_assoc done (p ∷ []) rest) is))) in
    subst (λ (ps : List NetPort). AreApart (all_inputs ps)) (append_assoc done (p ∷ []) rest) known

pub inputs_apart : (ps : List NetPort) → ((k : ℕ) (p : NetPort) → slice_get ps k ≡ Some p → AreNew (all_inputs (take k ps)) (inputs_of p)) → AreApart (input_cells (port_nets ps))
inputs_apart ps rule = subst AreApart (inputs_of_ports ps) (apart_ports [] ps tt rule)

-- an input's cell is among them
differs_at : (c : ℕ) (ns : List PortNet) (k : ℕ) (b : PortNet) → AllByRecursion (λ m. c ≢ m) (input_cells ns) → slice_get ns k ≡ Some b → b.input ≡ true → c ≡ b.cell → ⊥
differs_at c [] k b apart is input same = cc is
differs_at c (n ∷ ns) zero b apart is input same =
    let other : n ≡ b = cc is in
    let first : AllByRecursion (λ m. c ≢ m) (n.cell ∷ input_cells ns) =
    subst (λ (t : Bool). AllByRecursion (λ m. c ≢ m) ((if t then n.cell ∷ [] else []) ++ input_cells ns)) (ap (λ (p : PortNet). p.input) other ∙ input) apart in
    first.0 (same ∙ ap (λ (p : PortNet). p.cell) (sym other))
differs_at c (n ∷ ns) (suc k) b apart is input same = by n.input apart (λ all. differs_at c ns k b all is input same)
  where
    by : (t : Bool) → AllByRecursion (λ m. c ≢ m) ((if t then n.cell ∷ [] else []) ++ input_cells ns) → (AllByRecursion (λ m. c ≢ m) (input_cells ns) → ⊥) → ⊥
    by true all behind = behind all.1
    by false all behind = behind all

-- inputs that are one cell stand at one place
pub one_place : (ns : List PortNet) (j k : ℕ) (a b : PortNet) → AreApart (input_cells ns) → slice_get ns j ≡ Some a → slice_get ns k ≡ Some b
    → a.input ≡ true → b.input ≡ true → a.cell ≡ b.cell → j ≡ k
one_place [] j k a b apart is_a is_b in_a in_b same = absurd (cc is_a)
one_place (n ∷ ns) zero zero a b apart is_a is_b in_a in_b same = refl
one_place (n ∷ ns) zero (suc k) a b apart is_a is_b in_a in_b same =
    let first : n ≡ a = cc is_a in
    let here : AreApart (n.cell ∷ input_cells ns) = subst (λ (t : Bool). AreApart ((if t then n.cell ∷ [] else []) ++ input_cells ns)) (ap (λ (p : PortNet). p.input) first ∙ in_a) apart in
    absurd (differs_at n.cell ns k b here.0 is_b in_b (ap (λ (p : PortNet). p.cell) first ∙ same))
one_place (n ∷ ns) (suc j) zero a b apart is_a is_b in_a in_b same =
    let first : n ≡ b = cc is_b in
    let here : AreApart (n.cell ∷ input_cells ns) = subst (λ (t : Bool). AreApart ((if t then n.cell ∷ [] else []) ++ input_cells ns)) (ap (λ (p : PortNet). p.input) first ∙ in_b) apart in
    absurd (differs_at n.cell ns j a here.0 is_a in_a (ap (λ (p : PortNet). p.cell) first ∙ sym same))
one_place (n ∷ ns) (suc j) (suc k) a b apart is_a is_b in_a in_b same = ap suc (one_place ns j k a b (by n.input apart) is_a is_b in_a in_b same)
  where
    by : (t : Bool) → AreApart ((if t then n.cell ∷ [] else []) ++ input_cells ns) → AreApart (input_cells ns)
    by true all = all.1
    by false all = all
