-- What stands at an end that is there: its part or its import, and where their cells begin.
use Rattle.std.specs.Prelude.{Option, None, Some, IsSome, All}
use Rattle.std.proofs.Common.{get_or, ◌≡◌, ℕ, zero, suc, ◌+◌, ◌≤◌, List, [], ◌∷◌, ◌++◌, length, map, refl, sym, ap, subst, arith, ◌∙◌, take, slice_get}
use Rattle.std.proofs.lemmas.Option.{get_or_from_slice_get}
use Rattle.gos_types.specs.Types.{type_of}
use Rattle.gos_netlist.specs.Nets.{Take, NetPort}
use Rattle.gos_types.specs.Events.{Request, Answer}
use Rattle.gos_plan.specs.declared.plan.PlanImport.{PlanImport}
use Rattle.gos_plan.specs.Kinds.{Part, Contact, contacts_of}
use Rattle.gos_model.specs.Typing.{Imported}
use Rattle.gos_plan.specs.Plans.{ImportEnd, Plan, contacts_of_import}
use Rattle.gos_plan.specs.Seen.{import_of}
use Rattle.gos_expand.specs.Gates.{part_size}
use Rattle.gos_expand.specs.Laid.{request_start, answer_nets, leaves, laid_port, taken}
use Rattle.gos_expand.specs.Blocks.{nets_from, token_size, total}
use Rattle.gos_expand.specs.Starts.{Laying, bits_if, ports_of, port_size, port_start, part_start}
use Rattle.gos_expand.specs.inner.Numbering.{starts, laid_size}
use Rattle.gos_expand.proofs.BlockLemmas.{start_of, total_within, take_one}
use Rattle.gos_expand.proofs.PortLemmas.{taken_port, port_there}
use Rattle.gos_expand.proofs.PlaceLemmas.{length_first}

is_there : (o : Option Contact) → IsSome o → (c : Contact) × (o ≡ Some c)
is_there None some = absurd (cc some)
is_there (Some c) some = (c, refl)

-- at an import's end there is an import, which has the handshake
pub import_known : (is : List PlanImport) (i h : ℕ) → IsSome (slice_get (contacts_of_import (slice_get (map import_of is) i)) h)
    → (x : PlanImport) × (c : Contact) × (slice_get is i ≡ Some x) × (slice_get (contacts_of (type_of x.ty)) h ≡ Some c)
import_known [] i h some = absurd (cc some)
import_known (x ∷ xs) zero h some = let found = is_there (slice_get (contacts_of (type_of x.ty)) h) some in (x, found.0, refl, found.1)
import_known (x ∷ xs) (suc i) h some = import_known xs i h some

-- where a part ends
pub part_ends_within : (lay : Laying) (p : Plan) (i : ℕ) (k : Part) → slice_get p.parts i ≡ Some k → part_start lay p i + part_size (lay.making i) k ≤ laid_size lay p
part_ends_within lay p i k there =
    let within = total_within (λ n k. part_size (lay.making n) k) 0 i p.parts k there in
    let at : part_size (lay.making (0 + i)) k ≡ part_size (lay.making i) k = ap (λ (n : ℕ). part_size (lay.making n) k) (omega arith) in
    omega (arith, within, at)

-- where the import begins
pub import_begins : (p : Plan) (items : List ℕ) (i : ℕ) (x : Imported) → items ≡ starts port_size 0 0 (ports_of p) → slice_get p.imports i ≡ Some x
    → slice_get items (i + 1) ≡ Some (port_start p (i + 1))
import_begins p items i x is there =
    let none : 0 + total port_size 0 (take (i + 1) (ports_of p)) ≡ port_start p (i + 1) = omega arith in
    ap (λ (ns : List ℕ). slice_get ns (i + 1)) is
    ∙ (start_of port_size 0 0 (i + 1) (ports_of p) (taken_port i x) (port_there p i x there) ∙ ap (λ (n : ℕ). Some n) none)

pub import_ends_within : (lay : Laying) (p : Plan) (i : ℕ) (x : Imported) → slice_get p.imports i ≡ Some x → port_start p (i + 1) + port_size 0 (taken_port i x) ≤ laid_size lay p
import_ends_within lay p i x there =
    let within = total_within port_size 0 (i + 1) (ports_of p) (taken_port i x) (port_there p i x there) in
    omega (arith, within)

-- a fact of all elements is one of each
pub all_there : {A : Type 0} (P : A → Type 0) (xs : List A) (i : ℕ) (x : A) → All P xs → slice_get xs i ≡ Some x → P x
all_there P [] i x all there = absurd (cc there)
all_there P (y ∷ ys) zero x all there = let is : y ≡ x = cc there in subst P is (all 0 y (omega arith))
all_there P (y ∷ ys) (suc i) x all there = all_there P ys i x (λ k d within. all (suc k) d (omega (arith, within))) there

-- the import that was looked up
pub import_here : (ps items : List PlanImport) (i h : ℕ) (x : PlanImport) → items ≡ ps → IsSome (slice_get (contacts_of_import (slice_get (map import_of ps) i)) h) → x ≡ get_or items i x
    → (slice_get ps i ≡ Some x) × ((c : Contact) × (slice_get (contacts_of (type_of x.ty)) h ≡ Some c))
import_here ps items i h x same some is =
    let known = import_known ps i h some in
    let found : known.0 ≡ x = sym (is ∙ (ap (λ (ks : List PlanImport). get_or ks i x) same ∙ get_or_from_slice_get ps i known.0 x known.2)) in (
      known.2 ∙ ap (λ (y : PlanImport). Some y) found,
      (known.1, subst (λ (y : PlanImport). slice_get (contacts_of (type_of y.ty)) h ≡ Some known.1) found known.3),
    )

-- what leaves there
pub import_leaves_here : (lay : Laying) (p : Plan) (i h start request size answer ask : ℕ) (x : Imported) (c : Contact) → slice_get p.imports i ≡ Some x → slice_get (contacts_of x.ty) h ≡ Some c
    → answer ≡ c.answer_bits → ask ≡ c.ask_bits → start ≡ port_start p (i + 1) → request ≡ request_start start (contacts_of x.ty) h → size ≡ token_size ask
    → nets_from answer (request + size) ≡ leaves lay p (ImportEnd i h)
import_leaves_here lay p i h start request size answer ask x c there shake answers asks at is sized =
    let up : i + 1 ≡ suc i = omega arith in
    let first : start ≡ port_start p (suc i) = at ∙ ap (port_start p) up in
    let begins : request ≡ request_start (port_start p (suc i)) (contacts_of x.ty) h = is ∙ ap (λ (n : ℕ). request_start n (contacts_of x.ty) h) first in
    let bits : size ≡ token_size c.ask_bits = sized ∙ ap token_size asks in
    rw (answers, begins, bits)
    (ap (λ (o : Option Contact). nets_from (bits_if o Answer) (request_start (port_start p (suc i)) (contacts_of x.ty) h + token_size (bits_if o Request))) (sym shake)
    ∙ ap (λ (o : Option Imported). answer_nets (port_start p (suc i)) (contacts_of_import o) h) (sym there))

-- the ports of the first imports, with one more
taken_end : (p : Plan) (n : ℕ) (is : List Imported) (x : Imported) → taken p n (is ++ x ∷ []) ≡ taken p n is ++ laid_port p (n + length is) x.name Take x.ty ∷ []
taken_end p n [] x = let here : n + 0 ≡ n = omega arith in rw here refl
taken_end p n (i ∷ is) x =
    let shift : suc n + length is ≡ n + suc (length is) = omega arith in
    ap (λ (ps : List NetPort). laid_port p n i.name Take i.ty ∷ ps)
    (taken_end p (suc n) is x ∙ ap (λ (m : ℕ). taken p (suc n) is ++ laid_port p m x.name Take x.ty ∷ []) shift)

pub port_added : (p : Plan) (i : ℕ) (is : List Imported) (x : Imported) (first : NetPort) (before : List NetPort) (port : NetPort) → slice_get is i ≡ Some x
    → before ≡ first ∷ taken p 1 (take i is) → port ≡ laid_port p (i + 1) x.name Take x.ty → before ++ port ∷ [] ≡ first ∷ taken p 1 (take (i + 1) is)
port_added p i is x first before port there so_far same =
    let count : i + 1 ≡ 1 + length (take i is) = (let counts = length_first i is x there in omega (arith, counts)) in
    ap (λ (ps : List NetPort). ps ++ port ∷ []) so_far
    ∙ ap (λ (ps : List NetPort). first ∷ ps)
    (ap (λ (q : NetPort). taken p 1 (take i is) ++ q ∷ []) (same ∙ ap (λ (m : ℕ). laid_port p m x.name Take x.ty) count)
    ∙ (sym (taken_end p 1 (take i is) x) ∙ ap (taken p 1) (sym (take_one i is x there))))
