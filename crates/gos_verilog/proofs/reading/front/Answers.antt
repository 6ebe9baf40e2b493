use Rattle.std.proofs.Common.{◌≡◌, ◌≤◌, ◌++◌, [], append_assoc, List, ℕ, Bor, length, map, drop, sym, ◌∙◌, ap, subst, arith}
use Rattle.std.specs.Prelude.{codes}
use Rattle.std.specs.List.{flat_map}
use Rattle.std.proofs.lemmas.Result.{err_from_is_err_and, IfErr-weaker, MatchResult-from_both}
use Rattle.gos_lex.specs.Items.{TextAt}
use Rattle.gos_netlist.specs.Nets.{NetPort, Give}
use Rattle.gos_verilog.specs.PortNets.{port_nets}
use Rattle.gos_verilog.specs.Lines.{clock_declarations, port_declaration}
use Rattle.gos_verilog.specs.VerilogText.{first_name}
use Rattle.gos_verilog.specs.Place.{IsFormedText, head_of}
use Rattle.gos_verilog.specs.inner.Stages.{Rest, AreNamesOf, declared_net, listed, HaveWidths}
use Rattle.gos_verilog.specs.inner.Breaks.{FaultFrom, LeadsOn, PassedIn}
use Rattle.gos_verilog.specs.inner.Left.{LeadsOnOf, LeftCells, LeftNets, AreNamed, named_nets}
use Rattle.gos_verilog.proofs.PortLemmas.{right_nets}
use Rattle.gos_verilog.proofs.OneTextLemmas.{names_of}
use Rattle.gos_verilog.proofs.WholeLemmas.{first_named}
use Rattle.gos_verilog.proofs.NamedLemmas.{all_named, names_are}
use Rattle.gos_verilog.proofs.FormedLemmas.{head_parts}
use Rattle.gos_verilog.proofs.FrontLemmas.{want_fault, head_leads_on, head_fault, nets_same}
use Rattle.gos_verilog.proofs.LeftNetLemmas.{both_ok, three_ok}
use Rattle.gos_verilog.proofs.reading.front.Goals as goal

begins : (cursor : TextAt) (text : List ℕ) (ports : List NetPort) (more : List ℕ) → cursor.text ≡ text → cursor.at ≡ 0 → text ≡ head_of ports ++ more
    → Rest cursor (codes "module gos_" ++ (first_name ports ++ (codes "(clk, rst" ++ (listed (port_nets ports) ++ (codes ");\n" ++ (clock_declarations ++ more))))))
begins cursor text ports more same at is = (λ i. drop (at i) (same i)) ∙ (is ∙ head_parts ports more)

at_place : (cursor : TextAt) (text bytes : List ℕ) (at : ℕ) → cursor.text ≡ text → at ≡ cursor.at → Rest cursor bytes → drop at text ≡ bytes
at_place cursor text bytes at same place left = (λ i. drop (place i) (sym same i)) ∙ left

at_within : (cursor : TextAt) (text : List ℕ) (at : ℕ) → cursor.text ≡ text → at ≡ cursor.at → cursor.at ≤ length cursor.text → at ≤ length text
at_within cursor text at same place within = omega (arith, place, ap length same, within)

pub returns-in_err-judge-clause-head : goal.returns-in_err-judge-clause-head
returns-in_err-judge-clause-head c =
    let p = err_from_is_err_and c.from_residual.result c.from_residual.ensures.1 in
    rw (p.1, p.2) c.in_err-judge.ensures.wrong

pub returns-in_err-names-clause-head : goal.returns-in_err-names-clause-head
returns-in_err-names-clause-head c =
    let given = c.in_ok-judge.ensures.head in
    let ports = given.0 in
    let more = given.1 in
    let are = given.2 in
    let is = given.3 in
    let text = c.args.text.now in
    let start = begins c.new-cursor.result text ports more c.new-cursor.ensures.text c.new-cursor.ensures.at is in
    let known = c.in_err-names.ensures.stands (first_name ports) (port_nets ports) (clock_declarations ++ more) (first_named ports are.some are.writable) (names_of (port_nets ports) (right_nets ports are.writable)) start in
    let p = err_from_is_err_and c.from_residual-in_err-names.result c.from_residual-in_err-names.ensures.1 in
    rw (p.1, p.2) (want_fault IsFormedText (record { text = text; at = 0 }) c.in_err-names.field-0.0 known)

pub returns-in_err-word-clause-head : goal.returns-in_err-word-clause-head
returns-in_err-word-clause-head c =
    let given = c.in_ok-judge.ensures.head in
    let ports = given.0 in
    let more = given.1 in
    let are = given.2 in
    let is = given.3 in
    let start = begins c.new-cursor.result c.args.text.now ports more c.new-cursor.ensures.text c.new-cursor.ensures.at is in
    let known = c.in_ok-names.ensures.stands (first_name ports) (port_nets ports) (clock_declarations ++ more) (first_named ports are.some are.writable) (names_of (port_nets ports) (right_nets ports are.writable)) start in
    absurd (c.in_err-word.ensures.stands more known.1)

pub returns-clause-head : goal.returns-clause-head
returns-clause-head c =
    let given = c.in_ok-judge.ensures.head in
    let ports = given.0 in
    let more = given.1 in
    let are = given.2 in
    let is = given.3 in
    let text = c.args.text.now in
    let names = c.deref.result.now in
    let start = begins c.new-cursor.result text ports more c.new-cursor.ensures.text c.new-cursor.ensures.at is in
    let one = c.in_ok-names.ensures.stands (first_name ports) (port_nets ports) (clock_declarations ++ more) (first_named ports are.some are.writable) (names_of (port_nets ports) (right_nets ports are.writable)) start in
    let two = c.in_ok-word.ensures.stands more one.1 in
    let same = c.in_ok-word.ensures.text ∙ c.in_ok-names.ensures.text in
    let left = at_place c.word.new.cursor text more c.at.result same c.at.ensures.at two in
    let within = at_within c.word.new.cursor text c.at.result same c.at.ensures.at c.at.ensures.within in
    let named = subst (λ (list : List (Bor (List ℕ))). AreNamesOf (port_nets ports) list) (sym c.deref.ensures.value) one.0 in
    let known : AreNamed (named_nets ports) names = (named ∙ sym (names_are ports), all_named ports) in
    let r = c.port_declarations.result in
    let start_at_text : TextAt = record { text = text; at = 0 } in
    MatchResult-from_both r (λ both. LeadsOnOf text both.1 both.0.items) (FaultFrom IsFormedText start_at_text)
    (both_ok r (λ both. AreNamesOf both.0.items names) (λ both. LeadsOn (LeftNets [] Give 0 (named_nets ports)) (LeftCells both.0.items []) (record { text = text; at = c.at.result }) (record { text = text; at = both.1 })) (λ both. LeadsOnOf text both.1 both.0.items)
    (λ both names_both lead. head_leads_on text c.at.result ports more both.0.items both.1 are is within left (sym names_both ∙ named) lead)
    c.port_declarations.ensures.names (c.port_declarations.ensures.left (named_nets ports) known))
    (IfErr-weaker r (FaultFrom (LeftNets [] Give 0 (named_nets ports)) (record { text = text; at = c.at.result })) (FaultFrom IsFormedText start_at_text)
    (λ fault. head_fault text c.at.result ports more fault are is within left) (c.port_declarations.ensures.wrong (named_nets ports) known))

pub returns-clause-found : goal.returns-clause-found
returns-clause-found c ports more are is =
    let text = c.args.text.now in
    let names = c.deref.result.now in
    let lines : List ℕ = flat_map port_declaration (port_nets ports) in
    let whole : text ≡ head_of ports ++ (lines ++ more) = is ∙ append_assoc (head_of ports) lines more in
    let start = begins c.new-cursor.result text ports (lines ++ more) c.new-cursor.ensures.text c.new-cursor.ensures.at whole in
    let one = c.in_ok-names.ensures.stands (first_name ports) (port_nets ports) (clock_declarations ++ (lines ++ more)) (first_named ports are.some are.writable) (names_of (port_nets ports) (right_nets ports are.writable)) start in
    let two = c.in_ok-word.ensures.stands (lines ++ more) one.1 in
    let same = c.in_ok-word.ensures.text ∙ c.in_ok-names.ensures.text in
    let left = at_place c.word.new.cursor text (lines ++ more) c.at.result same c.at.ensures.at two in
    let named = subst (λ (list : List (Bor (List ℕ))). AreNamesOf (port_nets ports) list) (sym c.deref.ensures.value) one.0 in
    let r = c.port_declarations.result in
    let e = c.port_declarations.ensures in
    both_ok r (λ both. AreNamesOf both.0.items names) (λ both. HaveWidths both.0.items × (map declared_net both.0.items ≡ both.0.items) × PassedIn text c.at.result both.1 (flat_map port_declaration both.0.items))
    (λ both. (both.0.items ≡ map declared_net (port_nets ports)) × (drop both.1 text ≡ more))
    (λ both names_both facts. nets_same text c.at.result both.1 ports more both.0.items are.writable facts.0 facts.1 (sym names_both ∙ named) facts.2 left) e.names
    (three_ok r (λ both. HaveWidths both.0.items) (λ both. map declared_net both.0.items ≡ both.0.items) (λ both. PassedIn text c.at.result both.1 (flat_map port_declaration both.0.items)) e.wide e.bare e.passed)
