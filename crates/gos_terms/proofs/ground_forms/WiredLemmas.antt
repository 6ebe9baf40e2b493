-- What a wired node has of its supplies: its imports, and the names of its term.
use Rattle.std.specs.Prelude.{◌≡◌, ℕ, suc, true, List, [], ◌∷◌, Some, Contains, slice_get}
use Rattle.std.specs.Str.{bytes_eq}
use Rattle.std.proofs.lemmas.Slice.Eq.{bytes_eq-Decides}
use Rattle.std.proofs.Common.{refl, sym, ◌∙◌, arith}
use Rattle.gos_types.specs.Types.{Type', IsPort}
use Rattle.gos_model.specs.Terms.{Name}
use Rattle.gos_model.specs.Typing.{Imported, Imports, import_type, Named, things, Typed}
use Rattle.gos_check.specs.Nodes.{Numbered, meaning}
use Rattle.gos_plan.specs.Plans.{Plan}
use Rattle.gos_realises.proofs.realises.PortLemmas.{port_at}
use Rattle.gos_realises.specs.realises.Realises.{AllPorts, NamesDiffer, Realises}
use Rattle.gos_realises.proofs.realises.PlaceLemmas.{contains_at, place_of}
use Rattle.gos_joining.proofs.renumbered.ImportLemmas.{type_has}
use Rattle.gos_compile.specs.Wiring.{Types}
use Rattle.gos_supplies.proofs.typing.WhenceLemmas.{named}
use Rattle.gos_supplies.proofs.typing.NameLemmas.{typed_under_fewer}
use Rattle.gos_terms.specs.wired.Wired.{Supplies, Placing, IsWired, AreRealised, terms_of}
use Rattle.gos_terms.proofs.wired.NameLemmas.{names_differ}
use Rattle.gos_terms.specs.meanings.Meanings.{HasLeaves}
use Rattle.gos_terms.specs.numbers.Kept.{InScope}
use Rattle.gos_terms.proofs.ground_forms.WhoseLemmas.{whose}

-- imports that are each a port
each_port : (is : Imports) → ((k : ℕ) (x : Imported) → slice_get is k ≡ Some x → IsPort x.ty) → AllPorts is
each_port [] each = tt
each_port (i ∷ is) each = (each 0 i refl, each_port is (λ k x at. each (suc k) x at))

module _ (types : Types) (i j : ℕ) (m : Numbered) (ns : List ℕ) (env : Supplies) (pl : Placing) (r : Plan) (w : IsWired types i j m ns env pl r) where
  -- the imports of its plan are those of its supplies
  pub imports_are_ports : AreRealised types env ns → AllPorts r.imports
  imports_are_ports realised = each_port r.imports each
    where
      each : (k : ℕ) (x : Imported) → slice_get r.imports k ≡ Some x → IsPort x.ty
      each k x at =
          let (has, there, back) = w.no_import k x at in
          port_at (env (pl.origin k).number).plan.imports (realised (pl.origin k).number has).suits.all_ports (pl.origin k).import x there

  module _
      (a b : ℕ) (n : Numbered) (ms : List ℕ) (pc : Placing) (c : Plan) (v : IsWired types a b n ms env pc c)
      (among : (k : ℕ) → Contains ms k → Contains ns k) where
    -- a node that is wired to some of these supplies has a term of its type under its imports too
    pub typed_there : (t : Type') → AreRealised types env ns → NamesDiffer r.imports → HasLeaves n → InScope ms n
        → Typed r.imports [] (meaning (terms_of env) n) t → Typed c.imports [] (meaning (terms_of env) n) t
    typed_there t realised differ leaves scope typed = typed_under_fewer r.imports c.imports [] (meaning (terms_of env) n) t agree typed
      where
        agree : (x : Name) → Contains (things 0 (meaning (terms_of env) n)) (Named x) → import_type c.imports x ≡ import_type r.imports x
        agree x has =
            let (k, f, in_ms, of_k) = whose n ms (terms_of env) 0 x leaves scope has in
            let of : Realises (types k) (env k).plan (env k).term = realised k (among k in_ms) in
            let name = named (env k).plan.imports (Named x) (env k).term f [] (types k) (omega arith) of.suits.typed of_k in
            let (q, at_q) = place_of (env k).plan.imports name.import name.has in
            let is_x : bytes_eq name.import.name x ≡ true = (bytes_eq-Decides name.import.name x).1 (sym (cc (name.same))) in
            let here = v.imports k q name.import in_ms at_q in
            let there = w.imports k q name.import (among k in_ms) at_q in
            type_has c.imports (names_differ types i j m ns env pl r w a b n ms pc c v among differ) x name.import (contains_at c.imports (pc.import k q) name.import here.0) is_x
            ∙ sym (type_has r.imports differ x name.import (contains_at r.imports (pl.import k q) name.import there.0) is_x)

-- supplies for some of the numbers
pub fewer : (types : Types) (env : Supplies) (ns ms : List ℕ) → ((k : ℕ) → Contains ms k → Contains ns k)
    → AreRealised types env ns → AreRealised types env ms
fewer types env ns ms among all k has = all k (among k has)
