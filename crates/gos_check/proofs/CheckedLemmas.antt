-- What is made of an accepted module is checked.
use Rattle.std.specs.Prelude.{◌≡◌, List, [], ◌∷◌, map}
use Rattle.std.proofs.Common.{refl, sym, ap, subst, ◌∙◌}
use Rattle.gos_types.specs.Types.{Type', type_of}
use Rattle.gos_syntax.specs.Modules.{SeenImport, SeenModule}
use Rattle.gos_model.specs.Terms.{Name}
use Rattle.gos_model.specs.Typing.{Imports, Typed}
use Rattle.gos_model.specs.Weight.{weight}
use Rattle.gos_model.specs.Moves.{Program}
use Rattle.gos_model.specs.Sources.{import_of, program_of}
use Rattle.gos_check.specs.Accepted.{IsNew, NamesDiffer, AreWritten, IsWritten, KeepsLimits, IsAccepted, weighed}
use Rattle.gos_check.specs.Nodes.{meaning, node_seen}
use Rattle.gos_check.specs.Linearity.{import_at, StandsFor}
use Rattle.gos_check.specs.Copies.{PlainImport, plain_import}
use Rattle.gos_check.specs.Checked.{SeenLinear, program_in, IsChecked}

imports_same : (is js : List SeenImport) → map plain_import is ≡ map plain_import js → map import_of is ≡ map import_of js
imports_same [] [] h = refl
imports_same [] (j ∷ js) h = cc
imports_same (i ∷ is) [] h = cc
imports_same (i ∷ is) (j ∷ js) h =
    let first : plain_import i ≡ plain_import j = cc in
    let others : map plain_import is ≡ map plain_import js = cc in
    let one : import_of i ≡ import_of j = ap (λ (p : PlainImport). record { name = p.name; ty = p.ty }) first in
    let rest = imports_same is js others in
    λ k. one k ∷ rest k

new_same : (x : Name) (is js : List SeenImport) → map plain_import is ≡ map plain_import js → IsNew x js → IsNew x is
new_same x [] [] h n = tt
new_same x [] (j ∷ js) h n = cc
new_same x (i ∷ is) [] h n = cc
new_same x (i ∷ is) (j ∷ js) h n =
    let first : plain_import i ≡ plain_import j = cc in
    let others : map plain_import is ≡ map plain_import js = cc in
    ((λ e. n.0 (ap (λ (p : PlainImport). p.name) (sym first) ∙ e)), new_same x is js others n.1)

names_same : (is js : List SeenImport) → map plain_import is ≡ map plain_import js → NamesDiffer js → NamesDiffer is
names_same [] [] h n = tt
names_same [] (j ∷ js) h n = cc
names_same (i ∷ is) [] h n = cc
names_same (i ∷ is) (j ∷ js) h n =
    let first : plain_import i ≡ plain_import j = cc in
    let others : map plain_import is ≡ map plain_import js = cc in
    let name : j.name ≡ i.name = ap (λ (p : PlainImport). p.name) (sym first) in
    (subst (λ (x : Name). IsNew x is) name (new_same j.name is js others n.0), names_same is js others n.1)

written_same : (is js : List SeenImport) → map plain_import is ≡ map plain_import js → AreWritten js → AreWritten is
written_same [] [] h n = tt
written_same [] (j ∷ js) h n = cc
written_same (i ∷ is) [] h n = cc
written_same (i ∷ is) (j ∷ js) h n =
    let first : plain_import i ≡ plain_import j = cc in
    let others : map plain_import is ≡ map plain_import js = cc in
    let ty : type_of j.ty ≡ type_of i.ty = ap (λ (p : PlainImport). p.ty) (sym first) in
    (subst (λ (t : Type'). IsWritten t) ty n.0, written_same is js others n.1)

-- the program of what is made of a module
pub program_same : (m : SeenModule) (l : SeenLinear) → map plain_import l.imports ≡ map plain_import m.imports
    → StandsFor (program_of m) (node_seen l.term) → program_in l ≡ program_of m
program_same m l h s =
    let imports : map import_of l.imports ≡ map import_of m.imports = imports_same l.imports m.imports h in
    let body : meaning (import_at (map import_of l.imports)) (node_seen l.term) ≡ (program_of m).body =
    ap (λ (i : Imports). meaning (import_at i) (node_seen l.term)) imports ∙ s.body in
    λ k. record { imports = imports k; body = body k }

-- what is made of an accepted module is checked
pub checked_of : (m : SeenModule) (l : SeenLinear) → IsAccepted m → map plain_import l.imports ≡ map plain_import m.imports
    → type_of l.result ≡ type_of m.result → StandsFor (program_of m) (node_seen l.term) → l.weight ≡ weighed m → IsChecked l
checked_of m l a h t s w =
    let p : program_of m ≡ program_in l = sym (program_same m l h s) in
    let result : type_of m.result ≡ type_of l.result = sym t in
    record {
      names = names_same l.imports m.imports h a.names;
      imports = written_same l.imports m.imports h a.imports;
      result = subst (λ (u : Type'). IsWritten u) result a.result;
      typed = subst (λ (q : Program). Typed q.imports [] q.body (type_of l.result)) p
          (subst (λ (u : Type'). Typed (program_of m).imports [] (program_of m).body u) result a.typed);
      limits = subst (λ (q : Program). KeepsLimits q.imports [] q.body) p a.limits;
      term = subst (λ (q : Program). StandsFor q (node_seen l.term)) p s;
      light = rw w a.weight;
      weight = ap (λ (q : Program). weight q.imports q.body) (sym p) ∙ sym w;
    }
