-- A port by its number is that of the import with its name.
use Rattle.std.proofs.Common.{◌≡◌, ◌<◌, ℕ, zero, suc, Bool, true, false, List, [], ◌∷◌, map, refl, ap, Option, Some, arith}
use Rattle.std.specs.Prelude.{slice_get}
use Rattle.std.specs.Str.{bytes_eq}
use Rattle.std.proofs.lemmas.Option.{none-some}
use Rattle.gos_types.proofs.BytesLemmas.{bytes_eq_same, same_bytes_eq}
use Rattle.gos_netlist.specs.Seen.{ground_type}
use Rattle.gos_model.specs.Typing.{import_type}
use Rattle.gos_model.specs.Labels as shown
use Rattle.gos_witness.specs.declared.labels.Label.{Label}
use Rattle.gos_witness.specs.declared.program.ProgramPort.{ProgramPort}
use Rattle.gos_witness.specs.Ports.{imported, imports_of, name_of, port_of, label_of, AreApart}
use Rattle.gos_witness.specs.inner.Rows.{IsPortOf, label_at}

-- no earlier one has its name
first_is : (ports : List ProgramPort) (k : ℕ) (p : ProgramPort) → AreApart ports → slice_get ports k ≡ Some p
    → import_type (map imported ports) p.name ≡ Some (ground_type p.ground)
first_is [] k p apart at = absurd (none-some p at)
first_is (q ∷ ports) zero p apart at =
    let same : q ≡ p = cc at in
    let here = same_bytes_eq q.name p.name (ap (λ (x : ProgramPort). x.name) same) in
    rw here (ap (λ (x : ProgramPort). Some (ground_type x.ground)) same)
first_is (q ∷ ports) (suc k) p apart at =
    by (bytes_eq q.name p.name) refl (first_is ports k p (λ i j x y a b n. let same = apart (suc i) (suc j) x y a b n in cc same) at)
  where
    by : (b : Bool) → bytes_eq q.name p.name ≡ b → import_type (map imported ports) p.name ≡ Some (ground_type p.ground)
        → import_type (map imported (q ∷ ports)) p.name ≡ Some (ground_type p.ground)
    by true e rest = let place = apart zero (suc k) q p refl at (bytes_eq_same q.name p.name e) in absurd (cc place)
    by false e rest = rw e rest

-- a port is the import's
pub port_is : (ports : List ProgramPort) (n : ℕ) (p : ProgramPort) → 0 < n → AreApart ports → slice_get ports n ≡ Some p → IsPortOf (imports_of ports) p
port_is [] n p some apart at = absurd (none-some p at)
port_is (root ∷ ports) zero p some apart at = absurd (omega (arith, some))
port_is (root ∷ ports) (suc n) p some apart at = first_is ports n p (λ i j x y a b m. let same = apart (suc i) (suc j) x y a b m in cc same) at

-- a label of it
pub label_is : (ports : List ProgramPort) (o : Label) (p : ProgramPort) → 0 < o.port → slice_get ports o.port ≡ Some p → label_of ports o ≡ label_at p o
label_is ports o p some at = λ i. record { port = by o.port some at i; event = o.place; value = o.value }
  where
    by : (n : ℕ) → 0 < n → slice_get ports n ≡ Some p → port_of ports n ≡ shown.Taken p.name
    by zero h e = absurd (omega (arith, h))
    by (suc n) h e = ap (λ (q : Option ProgramPort). shown.Taken (name_of q)) e
