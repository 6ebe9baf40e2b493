use Rattle.std.proofs.Common.{rules, ◌≡◌, ◌∙◌, ◌<◌, List, Some, None, ap, arith, length, map, refl, sym}
use Rattle.std.specs.Prelude.{slice_get}
use Rattle.std.proofs.lemmas.Option.{slice_get_read}
use Rattle.std.proofs.lemmas.List.{length-map}
use Rattle.gos_lex.specs.Lines.{Word}
use Rattle.gos_link.specs.Linked.{Port}
use Rattle.gos_link.specs.declared.whole.Port as declared_port
use Rattle.gos_lex.specs.NameTables.{added, number_at}
use Rattle.gos_link.specs.inner.Ports.{port_seen}
use Rattle.gos_link.proofs.PortLemmas.{port_at, same_at, table_grows, different_more}
use Rattle.gos_link.proofs.whole.clash_of.Goals as goal

pub returns-in-Some : goal.returns-in-Some
returns-in-Some c =
    let ports : List declared_port.Port = c.args.ports.now in
    let q : declared_port.Port = c.index-ports-number.result in
    let at : slice_get ports c.loop-number.number ≡ Some q = slice_get_read ports (length ports) c.loop-number.number q refl c.loop-number-test.true c.index-ports-number.is in
    let (p, low, there, named) = c.loop-number.invariant.0.sound c.bytes-bytes.result.now c.in-Some.first (sym c.in-Some.ensures) in
    let one : declared_port.Port = c.index-ports-first.result in
    let size = length-map ports port_seen in
    let within : c.in-Some.first < length ports = omega (arith, low, c.loop-number-test.true) in
    let at_first : slice_get ports c.in-Some.first ≡ Some one = slice_get_read ports (length ports) c.in-Some.first one refl within c.index-ports-first.is in
    let same : p ≡ port_seen one = same_at (map port_seen ports) c.in-Some.first c.in-Some.first p (port_seen one) refl there (port_at ports c.in-Some.first one at_first) in
    record {
      first = c.in-Some.first;
      second = c.loop-number.number;
      before = low;
      at_first = port_at ports c.in-Some.first one at_first;
      at_second = port_at ports c.loop-number.number q at;
      same = ap (λ (x : Port). x.name) (sym same) ∙ (named ∙ c.bytes-bytes.ensures.value);
      different = c.loop-number.invariant.1;
    }

pub loop-number-preserved : goal.loop-number-preserved
loop-number-preserved c =
    let ports : List declared_port.Port = c.args.ports.now in
    let q : declared_port.Port = c.index-ports-number.result in
    let at = port_at ports c.loop-number.number q (slice_get_read ports (length ports) c.loop-number.number q refl c.loop-number-test.true c.index-ports-number.is) in
    let copied : c.in_ok-name.name.items ≡ c.bytes-bytes.result.now = search rules in
    let named : c.in_ok-name.name.items ≡ (port_seen q).name = copied ∙ c.bytes-bytes.ensures.value in
    let adds : (other : Word) → number_at c.add.new.self other ≡ added (port_seen q).name c.loop-number.number (number_at c.loop-number.numbers other) other =
    (λ other. c.in_ok-add.ensures other ∙ ap (λ (name : Word). added name c.loop-number.number (number_at c.loop-number.numbers other) other) named) in
    let gone : number_at c.loop-number.numbers (port_seen q).name ≡ None =
    ap (number_at c.loop-number.numbers) (sym c.bytes-bytes.ensures.value) ∙ (sym c.get.ensures ∙ c.in_default.is) in (
      table_grows (map port_seen ports) c.loop-number.number (port_seen q) c.loop-number.numbers c.add.new.self c.loop-number.invariant.0 at adds,
      different_more (map port_seen ports) c.loop-number.number (port_seen q) c.loop-number.numbers c.loop-number.invariant.1 c.loop-number.invariant.0 at gone,
    )
