use Rattle.std.proofs.Common.{◌≡◌, ◌++◌, ◌<◌, ℕ, List, Some, length, get_or, true, false, refl, sym, ◌∙◌, ap, arith}
use Rattle.std.specs.Prelude.{slice_get}
use Rattle.std.proofs.lemmas.Option.{slice_get_read}
use Rattle.gos_types.specs.Types.{Exp, Var}
use Rattle.gos_verilog.specs.declared.port_net.Role.TheVariants.{Run, Ask}
use Rattle.gos_verilog.specs.PortNets.{PortNet, suffix}
use Rattle.gos_verilog.proofs.FoundLemmas.{view, not_short, is_com, is_exp, is_var, not_two, not_none}
use Rattle.gos_verilog.proofs.ports_of.ground_of.Goals as goal
use Rattle.gos_verilog.proofs.ports_of.ground_of.Goals.{else-nets-ge6-via-then-nets-ge6+else-ends_with-3, else-nets-ge6-via-else-nets-ge6}

-- a test that failed holds of nothing
no_test : false ≡ true → ⊥
no_test is = cc is

read : (nets : List PortNet) (k : ℕ) (net : PortNet) → k < length nets → net ≡ get_or nets k net → slice_get nets k ≡ Some net
read nets k net inside is = slice_get_read nets (length nets) k net refl inside is

pub returns-then-nets-lt2-clause-stands : goal.returns-then-nets-lt2-clause-stands
returns-then-nets-lt2-clause-stands c p behind is same = not_short p c.args.nets.now (view p c.args.nets.now behind is same) c.if-nets-lt2.true

pub returns-then-ends_with-clause-stands : goal.returns-then-ends_with-clause-stands
returns-then-ends_with-clause-stands c p behind is same =
    let nets = c.args.nets.now in
    let first = c.index-nets-0.result in
    let at = read nets 0 first (omega (arith, c.if-nets-lt2.false)) c.index-nets-0.is in
    let ends = c.if-ends_with.ensures.only refl in
    let name : c.deref.result.now ≡ first.name = c.deref.ensures.value ∙ ap (λ (n : PortNet). n.name) c.first.view_is in
    is_com p nets first ends.0 (view p nets behind is same) at (sym name ∙ ends.1)

pub returns-then-nets-lt3-clause-stands : goal.returns-then-nets-lt3-clause-stands
returns-then-nets-lt3-clause-stands c p behind is same =
    let nets = c.args.nets.now in
    let first = c.index-nets-0.result in
    let at = read nets 0 first (omega (arith, c.if-nets-lt2.false)) c.index-nets-0.is in
    let name : c.deref.result.now ≡ first.name = c.deref.ensures.value ∙ ap (λ (n : PortNet). n.name) c.first.view_is in
    not_two p nets first (view p nets behind is same) at (λ front e. no_test (c.if-ends_with.ensures.is front (name ∙ e))) c.if-nets-lt3.true

pub returns-then-ends_with-2-clause-stands : goal.returns-then-ends_with-2-clause-stands
returns-then-ends_with-2-clause-stands c p behind is same =
    let nets = c.args.nets.now in
    let first = c.index-nets-0.result in
    let value = c.index-nets-2.result in
    let at = read nets 0 first (omega (arith, c.if-nets-lt2.false)) c.index-nets-0.is in
    let at_value = read nets 2 value (omega (arith, c.if-nets-lt3.false)) c.index-nets-2.is in
    let ends = c.if-ends_with-2.ensures.only refl in
    let name : c.deref-2.result.now ≡ first.name = c.deref-2.ensures.value ∙ ap (λ (n : PortNet). n.name) c.first.view_is in
    ap Exp (ap (λ (n : PortNet). n.width) c.value.view_is) ∙ is_exp p nets first value ends.0 (view p nets behind is same) at at_value (sym name ∙ ends.1)

pub returns-then-ends_with-3-clause-stands : goal.returns-then-ends_with-3-clause-stands
returns-then-ends_with-3-clause-stands c p behind is same =
    let nets = c.args.nets.now in
    let first = c.index-nets-0.result in
    let value = c.index-nets-2.result in
    let at = read nets 0 first (omega (arith, c.if-nets-lt2.false)) c.index-nets-0.is in
    let at_value = read nets 2 value (omega (arith, c.if-nets-lt3.false)) c.index-nets-2.is in
    let ends = c.if-ends_with-3.ensures.only refl in
    let name : c.deref-then-nets-ge6.result.now ≡ first.name = c.deref-then-nets-ge6.ensures.value ∙ ap (λ (n : PortNet). n.name) c.first.view_is in
    ap Var (ap (λ (n : PortNet). n.width) c.value.view_is) ∙ is_var p nets first value ends.0 (view p nets behind is same) at at_value (sym name ∙ ends.1)

pub returns-else-nets-ge6-clause-stands : goal.returns-else-nets-ge6-clause-stands
returns-else-nets-ge6-clause-stands c p behind is same =
    let nets = c.args.nets.now in
    let first = c.index-nets-0.result in
    let at = read nets 0 first (omega (arith, c.if-nets-lt2.false)) c.index-nets-0.is in
    let view_is = ap (λ (n : PortNet). n.name) c.first.view_is in
    let run = λ (front : List ℕ) (e : first.name ≡ front ++ suffix Run). no_test (c.if-ends_with.ensures.is front (c.deref.ensures.value ∙ (view_is ∙ e))) in
    let ask = λ (front : List ℕ) (e : first.name ≡ front ++ suffix Ask). no_test (c.if-ends_with-2.ensures.is front (c.deref-2.ensures.value ∙ (view_is ∙ e))) in
    elim c.else-nets-ge6.branch [
      | else-nets-ge6-via-then-nets-ge6+else-ends_with-3 w ↦
          not_none p nets first (view p nets behind is same) at run ask (λ long front e. no_test (w.if-ends_with-3.ensures.is front (w.deref-then-nets-ge6.ensures.value ∙ (view_is ∙ e))))
      | else-nets-ge6-via-else-nets-ge6 w ↦
          let short = w.if-nets-ge6.false in
          not_none p nets first (view p nets behind is same) at run ask (λ long front e. omega (arith, long, short))
    ]
