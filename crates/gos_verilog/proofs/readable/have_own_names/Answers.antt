use Rattle.std.proofs.Common.{◌≡◌, ◌≢◌, ℕ, List, length, false, true, refl, sym, ap, subst, ◌∙◌}
use Rattle.std.proofs.lemmas.Option.{slice_get_read}
use Rattle.gos_netlist.specs.Nets.{NetPort}
use Rattle.gos_netcheck.specs.Rules.{KeptBefore}
use Rattle.gos_netcheck.specs.inner.PortSearch.{has_name}
use Rattle.gos_netcheck.proofs.NameLemmas.{not_true, not_false, unnamed_before, names_more}
use Rattle.gos_netcheck.proofs.RuleLemmas.{kept_more, kept_all}
use Rattle.gos_verilog.specs.Readable.{HasOwnName}
use Rattle.gos_verilog.proofs.ReadableLemmas.{named_before}
use Rattle.gos_verilog.proofs.readable.have_own_names.Goals as goal

pub loop-port-preserved : goal.loop-port-preserved
loop-port-preserved c =
    let ports = c.args.ports.now in
    let k = c.loop-port.port-index in
    let p = c.port-item.result in
    let at = slice_get_read ports (length ports) k p refl c.loop-port-test.true c.port-item.is in
    let bytes = c.bytes.result.now in
    let name : bytes ≡ p.name = c.bytes.ensures.value ∙ ap (λ (q : NetPort). q.name) c.port.view_is in
    let known : has_name c.loop-port.names bytes ≡ false = not_true (has_name c.loop-port.names bytes) (sym c.if-not-branch.false ∙ c.in_ok-add_name.ensures.added) in
    let unnamed = unnamed_before ports k bytes (sym (c.loop-port.invariant.names bytes) ∙ known) in
    record {
      own =
          kept_more (HasOwnName ports) ports k p at c.loop-port.invariant.own
          (subst (λ (b : List ℕ). KeptBefore (λ _ (q : NetPort). q.name ≢ b) ports k) name unnamed);
      names =
          names_more c.loop-port.names c.add_name.new.names ports k p at c.loop-port.invariant.names
          (rw name at (c.in_ok-add_name.ensures.names c.if-not-branch.false));
    }

pub returns-then-not-branch : goal.returns-then-not-branch
returns-then-not-branch c = (
  (λ no. absurd (let both : false ≡ true = no in cc both)),
  (λ kept.
      let ports = c.args.ports.now in
      let k = c.loop-port.port-index in
      let p = c.port-item.result in
      let at = slice_get_read ports (length ports) k p refl c.loop-port-test.true c.port-item.is in
      let bytes = c.bytes.result.now in
      let name : bytes ≡ p.name = c.bytes.ensures.value ∙ ap (λ (q : NetPort). q.name) c.port.view_is in
      let known : has_name c.loop-port.names bytes ≡ true = not_false (has_name c.loop-port.names bytes) (sym c.if-not-branch.true ∙ c.in_ok-add_name.ensures.added) in
      let other = named_before ports k bytes (sym (c.loop-port.invariant.names bytes) ∙ known) in
      absurd (kept k p at other.0 other.1 other.2 other.3 (other.4 ∙ name))),
)

pub returns : goal.returns
returns c = (
  (λ own. kept_all (HasOwnName c.args.ports.now) c.args.ports.now c.loop-port.port-index c.loop-port-test.false c.loop-port.invariant.own),
  (λ kept. refl),
)
