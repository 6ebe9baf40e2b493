use Rattle.std.proofs.Common.{◌≡◌, ℕ, List, Bool, true, false, sym, ◌∙◌, subst}
use Rattle.std.proofs.lemmas.Result.{IfErr-weaker}
use Rattle.gos_lex.specs.Items.{TextAt, Misses}
use Rattle.gos_netlist.specs.Seen.{side_of}
use Rattle.gos_verilog.specs.declared.fault.VFault.{VFault}
use Rattle.gos_verilog.specs.inner.Stages.{BreaksAt}
use Rattle.gos_verilog.specs.inner.Left.{is_first, least_of, most_of, IsDeclaration, IsDeclared, IsNetOf}
use Rattle.gos_verilog.proofs.StartLemmas.{breaks_as}
use Rattle.gos_verilog.proofs.LeftNetLemmas.{ReadAs, ReadOf, read_known, read_open, if_ok, known_misses, open_misses}
use Rattle.gos_verilog.proofs.declared.net_declaration.Goals as goal

pub returns-then-not-is_first-clause-declared : goal.returns-then-not-is_first-clause-declared
returns-then-not-is_first-clause-declared c =
    let side = side_of c.args.side in
    let role = c.args.role in
    let last = c.args.last in
    let name = c.args.name.now in
    let rest = c.args.rest.now in
    let other : is_first role ≡ false = sym c.is_first.ensures ∙ c.if-not-is_first.true in
    if_ok c.net_line.result (λ both. ReadOf rest both.0 both.1 name c.is_input.result role last) (λ both. ReadAs rest both.0 both.1 name (IsDeclared role side last))
    (λ both read. read_known role side last c.is_input.result name rest both.0 both.1 other c.is_input.ensures read) c.net_line.ensures.declared

pub returns-then-not-is_first-clause-wrong : goal.returns-then-not-is_first-clause-wrong
returns-then-not-is_first-clause-wrong c =
    let side = side_of c.args.side in
    let role = c.args.role in
    let last = c.args.last in
    let name = c.args.name.now in
    let rest = c.args.rest.now in
    let start : TextAt = record { text = rest; at = 0 } in
    let other : is_first role ≡ false = sym c.is_first.ensures ∙ c.if-not-is_first.true in
    let One : List ℕ → Type 0 = IsNetOf c.is_input.result (least_of role last) (most_of role last) name in
    IfErr-weaker c.net_line.result (BreaksAt One start) (BreaksAt (IsDeclaration role side last name) start)
    (λ fault breaks. breaks_as One (IsDeclaration role side last name) start start fault
    (λ place misses. known_misses role side last name rest 0 place other (subst (λ (b : Bool). Misses (IsNetOf b (least_of role last) (most_of role last) name) rest 0 place) c.is_input.ensures misses)) breaks)
    c.net_line.ensures.wrong

pub returns-in-Ok-clause-declared : goal.returns-in-Ok-clause-declared
returns-in-Ok-clause-declared c =
    read_open c.args.role (side_of c.args.side) c.args.last true c.args.name.now c.args.rest.now c.in-Ok.both.0 c.in-Ok.both.1 (sym c.is_first.ensures ∙ c.if-not-is_first.false) c.in-Ok.ensures.declared

pub returns-in-Ok-net_line-clause-declared : goal.returns-in-Ok-net_line-clause-declared
returns-in-Ok-net_line-clause-declared c =
    read_open c.args.role (side_of c.args.side) c.args.last false c.args.name.now c.args.rest.now c.in-Ok-net_line.both.0 c.in-Ok-net_line.both.1 (sym c.is_first.ensures ∙ c.if-not-is_first.false) c.in-Ok-net_line.ensures.declared

pub returns-in-Err-Form-net_line-clause-wrong : goal.returns-in-Err-Form-net_line-clause-wrong
returns-in-Err-Form-net_line-clause-wrong c =
    let role = c.args.role in
    let last = c.args.last in
    let name = c.args.name.now in
    let rest = c.args.rest.now in
    let start : TextAt = record { text = rest; at = 0 } in
    let one = subst (λ (f : VFault). BreaksAt (IsNetOf true (least_of role last) (most_of role last) name) start f) c.in-Err-Form.field-0-is c.in-Err-Form.ensures.wrong in
    let other = subst (λ (f : VFault). BreaksAt (IsNetOf false (least_of role last) (most_of role last) name) start f) c.in-Err-Form-net_line.field-0-is c.in-Err-Form-net_line.ensures.wrong in
    open_misses role (side_of c.args.side) last name rest 0 c.in-Err-Form.one c.in-Err-Form-net_line.other c.further.result (sym c.is_first.ensures ∙ c.if-not-is_first.false)
    c.further.ensures.at_least.0 c.further.ensures.at_least.1
    c.further.ensures.one one other
