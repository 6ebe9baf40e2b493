-- The ports of the imports that nothing serves, module by module.
use Rattle.std.proofs.Common.{◌≡◌, ◌<◌, ◌+◌, ℕ, suc, Option, Some, None, arith, List, [], ◌∷◌, ◌++◌, length, map, drop, get_or, refl, sym, ap, subst, ◌∙◌, Vec, Global, append_assoc}
use Rattle.std.specs.List.{AllByRecursion}
use Rattle.std.proofs.lemmas.List.{drop_more}
use Rattle.std.specs.Prelude.{slice_get, if◌then◌else◌}
use Rattle.std.proofs.lemmas.Option.{slice_get_within}
use Rattle.gos_syntax.specs.Modules.{SeenImport, SeenModule}
use Rattle.gos_model.specs.Sources.{import_of}
use Rattle.gos_model.specs.Linking.{giver_of, add_open, open_of, open_from}
use Rattle.gos_netlist.specs.declared.nets.Side.TheVariants.{Take}
use Rattle.gos_witness.specs.Substituted.{AreOnSides, imports_if, imports_at, binds_of, instances_of, linked_program, IsBind}
use Rattle.gos_witness.proofs.BuildLemmas.{same_giver, next_imports}
use Rattle.gos_netlist.specs.Writable.{IsPortType}
use Rattle.gos_model.specs.Typing.{Imported, Imports}
use Rattle.gos_witness.specs.declared.binding.Bound.{Bound}
use Rattle.gos_witness.specs.declared.program.ProgramPort.{ProgramPort}
use Rattle.gos_witness.specs.inner.Built.{of_user, list_at, AreByUser, giver_in, is_made, AreImports, AllImports, open_in, opens_from}
use Rattle.gos_witness.specs.inner.TraceParts.{IsNamed}

abbrev pub MayBeTaken : Imports → Type 0
MayBeTaken is = AllByRecursion (λ (x : Imported). IsPortType x.ty) is

taken_left : (is js : Imports) → MayBeTaken (is ++ js) → MayBeTaken is
taken_left [] js all = tt
taken_left (i ∷ is) js all = (all.0, taken_left is js all.1)

taken_right : (is js : Imports) → MayBeTaken (is ++ js) → MayBeTaken js
taken_right [] js all = all
taken_right (i ∷ is) js all = taken_right is js all.1

-- of the modules from n on, the first, and those behind it
pub first_opens : (vs : List (Vec Bound Global)) (ms : List SeenModule) (n : ℕ) (m : SeenModule) → n < length ms → m ≡ get_or ms n m
    → opens_from vs n (drop n ms) ≡ open_in m.imports (list_at vs n) m.imports ++ opens_from vs (n + 1) (drop (n + 1) ms)
first_opens vs ms n m low at =
    ap (opens_from vs n) (drop_more ms n m low ∙ ap (λ (o : SeenModule). o ∷ drop (n + 1) ms) (sym at))

pub first_taken : (vs : List (Vec Bound Global)) (ms : List SeenModule) (n : ℕ) (m : SeenModule) → n < length ms → m ≡ get_or ms n m
    → MayBeTaken (opens_from vs n (drop n ms)) → MayBeTaken (open_in m.imports (list_at vs n) m.imports)
first_taken vs ms n m low at all =
    taken_left (open_in m.imports (list_at vs n) m.imports) (opens_from vs (n + 1) (drop (n + 1) ms))
    (subst (λ (is : Imports). MayBeTaken is) (first_opens vs ms n m low at) all)

pub rest_taken : (vs : List (Vec Bound Global)) (ms : List SeenModule) (n : ℕ) (m : SeenModule) → n < length ms → m ≡ get_or ms n m
    → MayBeTaken (opens_from vs n (drop n ms)) → MayBeTaken (opens_from vs (n + 1) (drop (n + 1) ms))
rest_taken vs ms n m low at all =
    taken_right (open_in m.imports (list_at vs n) m.imports) (opens_from vs (n + 1) (drop (n + 1) ms))
    (subst (λ (is : Imports). MayBeTaken is) (first_opens vs ms n m low at) all)

-- the ports so far and the rest
pub next_opens : (vs : List (Vec Bound Global)) (ms : List SeenModule) (n : ℕ) (m : SeenModule) (old new all : Imports) → n < length ms → m ≡ get_or ms n m
    → new ≡ old ++ open_in m.imports (list_at vs n) m.imports → old ++ opens_from vs n (drop n ms) ≡ all
    → new ++ opens_from vs (n + 1) (drop (n + 1) ms) ≡ all
next_opens vs ms n m old new all low at more so_far =
    ap (λ (is : Imports). is ++ opens_from vs (n + 1) (drop (n + 1) ms)) more
    ∙ append_assoc old (open_in m.imports (list_at vs n) m.imports) (opens_from vs (n + 1) (drop (n + 1) ms))
    ∙ ap (λ (is : Imports). old ++ is) (sym (first_opens vs ms n m low at)) ∙ so_far

-- the imports that a user's own binds leave are those that all binds leave
same_open : (ms : List SeenModule) (bs : List Bound) (u : ℕ) (all is : List SeenImport) → imports_at ms u ≡ all
    → open_in all (of_user u bs) is ≡ open_of (binds_of ms bs) u (map import_of is)
same_open ms bs u all [] at = refl
same_open ms bs u all (i ∷ is) at =
    ap (λ (o : Option ℕ). if is_made o then open_in all (of_user u bs) is else import_of i ∷ open_in all (of_user u bs) is) same
    ∙ by (giver_of (binds_of ms bs) u i.name) (same_open ms bs u all is at)
  where
    same : giver_in all (of_user u bs) i.name ≡ giver_of (binds_of ms bs) u i.name
    same = ap (λ (js : List SeenImport). giver_in js (of_user u bs) i.name) (sym at) ∙ sym (same_giver ms u bs i.name)

    by : (o : Option ℕ) → open_in all (of_user u bs) is ≡ open_of (binds_of ms bs) u (map import_of is)
        → (if is_made o then open_in all (of_user u bs) is else import_of i ∷ open_in all (of_user u bs) is)
        ≡ add_open o (import_of i) (open_of (binds_of ms bs) u (map import_of is))
    by None rest = ap (λ (js : Imports). import_of i ∷ js) rest
    by (Some g) rest = rest

-- these modules are those from number u on
abbrev AreFrom : List SeenModule → ℕ → List SeenModule → Type 0
AreFrom ms u [] = Unit {0}
AreFrom ms u (m ∷ rest) = (slice_get ms u ≡ Some m) × AreFrom ms (suc u) rest

from_more : (m : SeenModule) (ms : List SeenModule) (u : ℕ) (rest : List SeenModule) → AreFrom ms u rest → AreFrom (m ∷ ms) (suc u) rest
from_more m ms u [] h = tt
from_more m ms u (n ∷ rest) h = (h.0, from_more m ms (suc u) rest h.1)

all_from : (ms : List SeenModule) → AreFrom ms 0 ms
all_from [] = tt
all_from (m ∷ ms) = (refl, from_more m ms 0 ms (all_from ms))

low_of : (ms : List SeenModule) (u : ℕ) (m : SeenModule) → slice_get ms u ≡ Some m → u < length ms
low_of ms u m at = slice_get_within ms u m at

opens_on : (ms : List SeenModule) (bs : List Bound) (vs : List (Vec Bound Global)) (u : ℕ) (rest : List SeenModule) → AreByUser (length ms) vs bs
    → AreFrom ms u rest → opens_from vs u rest ≡ open_from (binds_of ms bs) u (instances_of rest)
opens_on ms bs vs u [] own from = refl
opens_on ms bs vs u (m ∷ rest) own (at, from) =
    let one_on : u + 1 ≡ suc u = omega arith in
    let first = ap (λ (cs : List Bound). open_in m.imports cs m.imports) (own.own u (low_of ms u m at)) ∙ same_open ms bs u m.imports m.imports (ap imports_if at) in
    let later = ap (λ (k : ℕ). opens_from vs k rest) one_on ∙ opens_on ms bs vs (suc u) rest own from in
    λ i. first i ++ later i

pub all_opens : (ms : List SeenModule) (bs : List Bound) (vs : List (Vec Bound Global)) (root : ℕ) → AreByUser (length ms) vs bs
    → opens_from vs 0 ms ≡ (linked_program ms bs root).imports
all_opens ms bs vs root own = opens_on ms bs vs 0 ms own (all_from ms)

-- and binds are for imports that there are
pub all_imports : (ms : List SeenModule) (bs : List Bound) (vs : List (Vec Bound Global)) → AllByRecursion (IsBind ms) bs → AreByUser (length ms) vs bs
    → AllImports ms vs
all_imports ms bs vs all own u m at =
    subst (λ (is : List SeenImport). AreImports (length is) (list_at vs u)) (ap imports_if at) (next_imports ms bs vs u all own (low_of ms u m at))

-- one port more with a name
pub one_more_named : (ports : List ProgramPort) (p : ProgramPort) → AllByRecursion IsNamed ports → IsNamed p → AllByRecursion IsNamed (ports ++ p ∷ [])
one_more_named [] p all one = (one, tt)
one_more_named (q ∷ ports) p all one = (all.0, one_more_named ports p all.1 one)

-- one port more that is taken
one_more_on_side : (ports : List ProgramPort) (p : ProgramPort) → AllByRecursion (λ q. q.side ≡ Take) ports → p.side ≡ Take
    → AllByRecursion (λ q. q.side ≡ Take) (ports ++ p ∷ [])
one_more_on_side [] p all one = (one, tt)
one_more_on_side (q ∷ ports) p all one = (all.0, one_more_on_side ports p all.1 one)

pub one_more_taken : (ports : List ProgramPort) (p : ProgramPort) → AreOnSides ports → p.side ≡ Take → AreOnSides (ports ++ p ∷ [])
one_more_taken [] p all one = absurd all
one_more_taken (q ∷ ports) p all one = (all.0, one_more_on_side ports p all.1 one)
