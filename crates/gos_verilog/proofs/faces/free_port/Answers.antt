use Rattle.std.proofs.Common.{◌≡◌, ◌≤◌, ◌+◌, ◌-◌, ℕ, List, length, take, drop, length-drop, ap, ◌∙◌, subst, sym, arith}
use Rattle.std.specs.Prelude.{codes}
use Rattle.gos_lex.specs.Items.{IsJust, Misses}
use Rattle.gos_lex.specs.ItemTexts.{Passed, ended}
use Rattle.gos_lex.proofs.PlaceLemmas.{rest_whole}
use Rattle.gos_verilog.specs.declared.fault.VFault.{VFault}
use Rattle.gos_lex.specs.declared.table.NameTable.{NameTable}
use Rattle.gos_verilog.specs.inner.Stages.{BreaksAt}
use Rattle.gos_verilog.specs.inner.Faces.{Face', IsFreeFace, IsFreePort, IsFirstNet, first_text, behind_text}
use Rattle.gos_verilog.proofs.WordLemmas.{shift_passed, shift_misses}
use Rattle.gos_verilog.proofs.FreeLemmas.{nothing_begins}
use Rattle.gos_verilog.proofs.FaceLemmas.{no_comma, no_first_net, no_behind, port_passed}
use Rattle.gos_verilog.proofs.faces.free_port.Goals as goal

rest_size : (text : List ℕ) (at : ℕ) → at ≤ length text → at + length (take (length text - at) (drop at text)) ≡ length text
rest_size text at within = omega (arith, ap length (rest_whole text at) ∙ length-drop at text, within)

pub returns-in-Err-clause-wrong : goal.returns-in-Err-clause-wrong
returns-in-Err-clause-wrong c =
    no_comma c.args.places.now c.args.rest.now 0 c.in-Err.at (nothing_begins c.args.places.now c.args.faces.now c.requires.known c.requires.few) c.in-Err.ensures.wrong

pub returns-in-Err-Form-clause-wrong : goal.returns-in-Err-Form-clause-wrong
returns-in-Err-Form-clause-wrong c =
    let text = c.args.rest.now in
    let mid = c.in-Ok.end in
    let places = c.args.places.now in
    let rest : List ℕ = take (length text - mid) (drop mid text) in
    let wrong = subst (λ (f : VFault). BreaksAt (IsFirstNet places) (record { text = rest; at = 0 }) f) c.in-Err-Form.field-0-is c.in-Err-Form.ensures.wrong in
    subst (λ (n : ℕ). Misses (IsFreePort places) text 0 (mid + n)) (sym c.in-Err-Form.place-is)
    (no_first_net places text 0 mid (mid + c.in-Err-Form.place) c.in-Ok.ensures.passed
    (shift_misses (IsFirstNet places) text rest mid c.in-Err-Form.place (rest_whole text mid) (rest_size text mid c.in-Ok.ensures.within) wrong))

-- the two parts of a port's names, and the rest
record First (text : List ℕ) (mid len : ℕ) (places : NameTable) (v : Face') : Type 0 where
  free : IsFreeFace places v
  comma : Passed (record { text = text; at = 0 }) (record { text = text; at = mid }) (codes ", ")
  net : Passed (record { text = text; at = mid }) (record { text = text; at = mid + len }) (ended 44 (first_text v))

first_of : (text : List ℕ) (mid len : ℕ) (places : NameTable) (v : Face') → mid ≤ length text → IsFreeFace places v → Passed (record { text = text; at = 0 }) (record { text = text; at = mid }) (codes ", ")
    → Passed (record { text = take (length text - mid) (drop mid text); at = 0 }) (record { text = take (length text - mid) (drop mid text); at = len }) (ended 44 (first_text v)) → First text mid len places v
first_of text mid len places v within free comma net =
    record { free = free; comma = comma; net = shift_passed text (take (length text - mid) (drop mid text)) mid len (ended 44 (first_text v)) (rest_whole text mid) (rest_size text mid within) net }

pub returns-clause-wrong : goal.returns-clause-wrong
returns-clause-wrong c =
    let text = c.args.rest.now in
    let mid = c.in-Ok.end in
    let v = c.in-Ok-first_net.both.0 in
    let len = c.in-Ok-first_net.both.1 in
    let places = c.args.places.now in
    let known = first_of text mid len places v c.in-Ok.ensures.within c.in-Ok-first_net.ensures.face c.in-Ok.ensures.passed c.in-Ok-first_net.ensures.passed in
    let behind : c.deref.result.now ≡ behind_text v = c.deref.ensures.value ∙ c.in_ok-behind.ensures in
    no_behind places v text 0 mid (mid + len) c.in-Err-pass_at.at known.free known.comma known.net (subst (λ (b : List ℕ). Misses (IsJust b) text (mid + len) c.in-Err-pass_at.at) behind c.in-Err-pass_at.ensures.wrong)

pub returns-in-Ok-pass_at-clause-passed : goal.returns-in-Ok-pass_at-clause-passed
returns-in-Ok-pass_at-clause-passed c =
    let text = c.args.rest.now in
    let mid = c.in-Ok.end in
    let v = c.in-Ok-first_net.both.0 in
    let len = c.in-Ok-first_net.both.1 in
    let places = c.args.places.now in
    let known = first_of text mid len places v c.in-Ok.ensures.within c.in-Ok-first_net.ensures.face c.in-Ok.ensures.passed c.in-Ok-first_net.ensures.passed in
    let behind : c.deref.result.now ≡ behind_text v = c.deref.ensures.value ∙ c.in_ok-behind.ensures in
    port_passed v text 0 mid (mid + len) c.in-Ok-pass_at.end known.free.0 known.comma known.net
    (subst (λ (b : List ℕ). Passed (record { text = text; at = mid + len }) (record { text = text; at = c.in-Ok-pass_at.end }) b) behind c.in-Ok-pass_at.ensures.passed)
