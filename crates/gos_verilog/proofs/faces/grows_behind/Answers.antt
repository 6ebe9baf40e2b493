use Rattle.std.proofs.Common.{◌≡◌, ◌++◌, ℕ, List, length, drop}
use Rattle.std.specs.Prelude.{IsTrue, ◌↔◌}
use Rattle.std.proofs.lemmas.Bool.Decides.{Decides-eqb}
use Rattle.std.proofs.lemmas.Slice.Eq.{starts_is}
use Rattle.gos_verilog.specs.inner.Faces.{Grows}
use Rattle.gos_verilog.proofs.FreeLemmas.{contrary}
use Rattle.gos_verilog.proofs.LeftNetLemmas.{if_ok}
use Rattle.gos_verilog.proofs.faces.grows_behind.Goals as goal

pub returns-then-starts_with-clause-is : goal.returns-then-starts_with-clause-is
returns-then-starts_with-clause-is c =
    let name = c.args.name.now in
    let bytes = c.args.bytes.now in
    let places = c.args.places.now in
    let begins = (starts_is Decides-eqb name bytes c.starts_with.result c.starts_with.ensures.value).0 c.if-starts_with.true in
    if_ok c.grows.result (λ is. IsTrue is ↔ Grows places name) (λ is. IsTrue is → (x : List ℕ) × (name ≡ bytes ++ x) × Grows places name)
    (λ is known so. (drop (length bytes) name, begins, known.0 so)) c.grows.ensures

pub returns-else-starts_with-clause-none : goal.returns-else-starts_with-clause-none
returns-else-starts_with-clause-none c = λ _ more is grows. contrary ((starts_is Decides-eqb c.args.name.now c.args.bytes.now c.starts_with.result c.starts_with.ensures.value).1 more is) c.if-starts_with.false
