-- The ports of a plan, one after another, and how many ends they have.
use Rattle.std.specs.Prelude.{Some, All}
use Rattle.std.proofs.Common.{sym, ◌≡◌, ℕ, zero, suc, ◌+◌, ◌*◌, ◌≤◌, List, [], ◌∷◌, ◌++◌, length, map, take, slice_get, refl, ap, arith, ◌∙◌}
use Rattle.std.proofs.lemmas.List.{length-append, length-map, map-append}
use Rattle.gos_netlist.specs.declared.nets.NetId.{NetId}
use Rattle.gos_netlist.specs.Seen.{number_of}
use Rattle.gos_expand.specs.Blocks.{nets_on}
use Rattle.gos_types.specs.Types.{Type', Com, Exp, Var, Pair, Fun, IsGround, IsDone, type_of}
use Rattle.gos_netlist.specs.Nets.{Give, Take}
use Rattle.gos_plan.specs.declared.plan.PlanImport.{PlanImport}
use Rattle.gos_plan.specs.Kinds.{Part, Contact, contacts_of, part_contacts}
use Rattle.gos_model.specs.Typing.{Imported}
use Rattle.gos_plan.specs.Plans.{End, PartEnd, ImportEnd, ResultEnd, Plan}
use Rattle.gos_plan.specs.Seen.{SeenPlan, plan_of, import_of}
use Rattle.gos_plan.specs.Size.{shakes_of}
use Rattle.gos_expand.specs.Starts.{Outer, ports_of, taken_ports, ends_at, port_ends, part_ends}

-- the port of an import
abbrev pub taken_port : ℕ → Imported → Outer
taken_port n i = record { side = Take; contacts = contacts_of i.ty; end_at = ImportEnd n }

taken_there : (n i : ℕ) (is : List Imported) (x : Imported) → slice_get is i ≡ Some x → slice_get (taken_ports n is) i ≡ Some (taken_port (n + i) x)
taken_there n i [] x e = absurd (cc e)
taken_there n zero (y ∷ ys) x e =
    let is : y ≡ x = cc e in
    let here : n + 0 ≡ n = omega arith in
    rw (is, here) refl
taken_there n (suc i) (y ∷ ys) x e =
    let shift : suc n + i ≡ n + suc i = omega arith in
    taken_there (suc n) i ys x e ∙ ap (λ (m : ℕ). Some (taken_port m x)) shift

pub import_port : (i : ℕ) (is : List Imported) (x : Imported) → slice_get is i ≡ Some x → slice_get (taken_ports 0 is) i ≡ Some (taken_port i x)
import_port i is x e =
    let none : 0 + i ≡ i = omega arith in
    taken_there 0 i is x e ∙ ap (λ (m : ℕ). Some (taken_port m x)) none

pub port_there : (p : Plan) (i : ℕ) (x : Imported) → slice_get p.imports i ≡ Some x → slice_get (ports_of p) (i + 1) ≡ Some (taken_port i x)
port_there p i x e =
    let up : i + 1 ≡ suc i = omega arith in
    let none : 0 + i ≡ i = omega arith in
    ap (λ (m : ℕ). slice_get (ports_of p) m) up ∙ (taken_there 0 i p.imports x e ∙ ap (λ (m : ℕ). Some (taken_port m x)) none)

pub all_taken : (n i : ℕ) (is : List Imported) → length is ≤ i → take i (taken_ports n is) ≡ taken_ports n is
all_taken n zero [] over = refl
all_taken n (suc i) [] over = refl
all_taken n zero (x ∷ xs) over = absurd (grind (arith, over))
all_taken n (suc i) (x ∷ xs) over = ap (λ (os : List Outer). taken_port n x ∷ os) (all_taken (suc n) i xs (grind (arith, over)))

-- past the last import, these are all ports
pub all_ports : (p : SeenPlan) (i : ℕ) → length p.imports ≤ i → take (i + 1) (ports_of (plan_of p)) ≡ ports_of (plan_of p)
all_ports p i over =
    let up : i + 1 ≡ suc i = omega arith in
    let counts = length-map p.imports import_of in
    ap (λ (m : ℕ). take m (ports_of (plan_of p))) up ∙ ap (λ (os : List Outer). record { side = Give; contacts = contacts_of (type_of p.outcome); end_at = ResultEnd } ∷ os) (all_taken 0 i (plan_of p).imports (omega (arith, counts, over)))

-- how many ends there are
ends_length : (end : ℕ → End) (h : ℕ) (cs : List Contact) → length (ends_at end h cs) ≡ length cs
ends_length end h [] = refl
ends_length end h (c ∷ cs) = ap (λ (n : ℕ). suc n) (ends_length end (suc h) cs)

pub part_ends_length : (n : ℕ) (ks : List Part) → length (part_ends n ks) ≡ shakes_of ks
part_ends_length n [] = refl
part_ends_length n (k ∷ ks) =
    rw (length-append (ends_at (PartEnd n) 0 (part_contacts k)) (part_ends (suc n) ks), ends_length (PartEnd n) 0 (part_contacts k), part_ends_length (suc n) ks) refl

pub few_contacts : (t : Type') → IsGround t → length (contacts_of t) ≤ 2
few_contacts Com ground = grind arith
few_contacts (Exp w) ground = grind arith
few_contacts (Var w) ground = grind arith
few_contacts (Pair a b) ground = absurd ground
few_contacts (Fun a b) ground = absurd ground

pub done_is_ground : (t : Type') → IsDone t → IsGround t
done_is_ground Com done = tt
done_is_ground (Exp w) done = tt
done_is_ground (Var w) done = tt
done_is_ground (Pair a b) done = done
done_is_ground (Fun a b) done = done

-- at most two for each port
few_taken : (n : ℕ) (is : List PlanImport) → All (λ i. IsGround (type_of i.ty)) is → length (port_ends (taken_ports n (map import_of is))) ≤ 2 * length is
few_taken n [] ground = omega arith
few_taken n (i ∷ is) ground =
    let first = few_contacts (type_of i.ty) (ground 0 i (omega arith)) in
    let rest = few_taken (suc n) is (λ k d within. ground (suc k) d (omega (arith, within))) in
    let own = ends_length (ImportEnd n) 0 (contacts_of (type_of i.ty)) in
    let joined = length-append (ends_at (ImportEnd n) 0 (contacts_of (type_of i.ty))) (port_ends (taken_ports (suc n) (map import_of is))) in
    omega (arith, first, rest, own, joined)

-- how many ends a plan has at most whose ports are ground
pub few_ends : (p : SeenPlan) → IsDone (type_of p.outcome) → All (λ i. IsGround (type_of i.ty)) p.imports
    → length (port_ends (ports_of (plan_of p)) ++ part_ends 0 (plan_of p).parts) ≤ 2 * (length p.imports + 1) + shakes_of (plan_of p).parts
few_ends p done ground =
    let ports : List End = port_ends (taken_ports 0 (map import_of p.imports)) in
    let own : List End = ends_at ResultEnd 0 (contacts_of (type_of p.outcome)) in
    let one = few_contacts (type_of p.outcome) (done_is_ground (type_of p.outcome) done) in
    let counted = ends_length ResultEnd 0 (contacts_of (type_of p.outcome)) in
    let rest = few_taken 0 p.imports ground in
    let parts = part_ends_length 0 (plan_of p).parts in
    let first = length-append own ports in
    let all = length-append (own ++ ports) (part_ends 0 (plan_of p).parts) in
    omega (arith, one, counted, rest, parts, first, all)

-- one net more
nets_on_suc : (n k : ℕ) → nets_on n (suc k) ≡ nets_on n k ++ (n + k) ∷ []
nets_on_suc n zero = let here : n + 0 ≡ n = omega arith in rw here refl
nets_on_suc n (suc k) =
    let shift : n + 1 + k ≡ n + suc k = omega arith in
    ap (λ (ns : List ℕ). n ∷ ns) (nets_on_suc (n + 1) k ∙ ap (λ (m : ℕ). nets_on (n + 1) k ++ m ∷ []) shift)

pub nets_added : (n k : ℕ) (before : List NetId) (net : NetId) → map number_of before ≡ nets_on n k → number_of net ≡ n + k
    → map number_of (before ++ net ∷ []) ≡ nets_on n (k + 1)
nets_added n k before net so_far is =
    let up : k + 1 ≡ suc k = omega arith in
    map-append number_of before (net ∷ [])
    ∙ (ap (λ (ns : List ℕ). ns ++ number_of net ∷ []) so_far
    ∙ (ap (λ (m : ℕ). nets_on n k ++ m ∷ []) is ∙ (sym (nets_on_suc n k) ∙ ap (nets_on n) (sym up))))
