use Rattle.std.proofs.Common.{◌≡◌, ◌⊎◌, ◌≤◌, ◌+◌, ◌-◌, ◌∷◌, ◌++◌, [], ℕ, List, length, take, drop, length-drop, ap, ◌∙◌, subst, sym, arith, append_assoc}
use Rattle.std.specs.List.{flat_map}
use Rattle.std.proofs.lemmas.Result.{err_from_is_err_and}
use Rattle.gos_lex.specs.Names.{IsNameOrWord}
use Rattle.gos_lex.specs.Items.{TextAt, IsJust, Misses}
use Rattle.gos_lex.specs.ItemTexts.{Passed}
use Rattle.gos_lex.proofs.PlaceLemmas.{rest_whole}
use Rattle.gos_verilog.specs.declared.fault.VFault.{VFault}
use Rattle.gos_verilog.specs.inner.Stages.{BreaksAt}
use Rattle.gos_verilog.specs.inner.Breaks.{BreaksFrom}
use Rattle.gos_verilog.specs.inner.Faces.{Face', IsFaceOf, HasMore, IsPortOf, LeftFirst, LeftFaces, HasPorts, head_end, port_text}
use Rattle.gos_lex.proofs.RestLemmas.{passed_rest}
use Rattle.gos_verilog.proofs.WordLemmas.{shift_passed}
use Rattle.gos_verilog.proofs.BreakLemmas.{on_breaks}
use Rattle.gos_verilog.proofs.FrontLemmas.{want_fault}
use Rattle.gos_verilog.proofs.FaceLemmas.{all_lead, faces_break, first_fault, first_leads}
use Rattle.gos_verilog.proofs.judged.ports.Goals as goal

rest_size : (text : List ℕ) (at : ℕ) → at ≤ length text → at + length (take (length text - at) (drop at text)) ≡ length text
rest_size text at within = omega (arith, ap length (rest_whole text at) ∙ length-drop at text, within)

pub returns-in-Err-Form-clause-wrong : goal.returns-in-Err-Form-clause-wrong
returns-in-Err-Form-clause-wrong c = λ _.
    let text = c.args.text.now in
    let at = c.args.at in
    let name = c.args.name.now in
    let rest : List ℕ = take (length text - at) (drop at text) in
    let wrong = subst (λ (f : VFault). BreaksAt (IsPortOf name) (record { text = rest; at = 0 }) f) c.in-Err-Form.field-0-is c.in-Err-Form.ensures.wrong in
    subst (λ (n : ℕ). BreaksFrom (LeftFirst name) (record { text = text; at = at }) (at + n)) (sym c.in-Err-Form.place-is) (first_fault name text rest at c.in-Err-Form.place (rest_whole text at) wrong)

pub returns-in_err-end-clause-wrong : goal.returns-in_err-end-clause-wrong
returns-in_err-end-clause-wrong c = λ _.
    let p = err_from_is_err_and c.from_residual.result c.from_residual.ensures.1 in
    rw (p.1, p.2) (want_fault (LeftFirst c.args.name.now) (record { text = c.args.text.now; at = c.args.at }) c.in_err-end.field-0.0 c.in_err-end.ensures.only)

-- the places behind the first port
record Passes (name text : List ℕ) (at mid end stopped : ℕ) (first : Face') : Type 0 where
  of : IsFaceOf name first
  one : Passed (record { text = text; at = at }) (record { text = text; at = mid }) (port_text first)
  all : HasMore first text mid end stopped

breaks_off : (name text : List ℕ) (at mid end stopped place r : ℕ) (first : Face') → IsNameOrWord name → Passes name text at mid end stopped first → Misses (IsJust head_end) text end place
    → stopped ≤ r → place ≤ r → (r ≡ stopped) ⊎ (r ≡ place) → BreaksFrom (LeftFirst name) (record { text = text; at = at }) r
breaks_off name text at mid end stopped place r first is known misses over_stopped over_place max =
    let more = known.all.more in
    let start : TextAt = record { text = text; at = at } in
    let middle : TextAt = record { text = text; at = mid } in
    let last : TextAt = record { text = text; at = end } in
    on_breaks (LeftFirst name) (LeftFaces (first ∷ [])) start middle r (first_leads name text at mid first is known.of known.one)
    (on_breaks (LeftFaces (first ∷ [])) (LeftFaces (first ∷ more)) middle last r (all_lead text mid end first more known.all.new known.all.few known.all.passed)
    (faces_break (first ∷ more) text end stopped place r known.all.few known.all.none misses over_stopped over_place max))

has_ports : (name text : List ℕ) (at mid end stopped last : ℕ) (first : Face') → Passes name text at mid end stopped first → Passed (record { text = text; at = end }) (record { text = text; at = last }) head_end → HasPorts name (drop at text)
has_ports name text at mid end stopped last first known passed =
    let more = known.all.more in
    record {
      first = first;
      more = more;
      rest = drop last text;
      of = known.of;
      new = known.all.new;
      few = known.all.few;
      is = passed_rest (record { text = text; at = at }) (record { text = text; at = mid }) (port_text first) known.one
          ∙ (ap (λ (b : List ℕ). port_text first ++ b) (passed_rest (record { text = text; at = mid }) (record { text = text; at = end }) (flat_map port_text more) known.all.passed
          ∙ ap (λ (b : List ℕ). flat_map port_text more ++ b) (passed_rest (record { text = text; at = end }) (record { text = text; at = last }) head_end passed))
          ∙ sym (append_assoc (port_text first) (flat_map port_text more) (head_end ++ drop last text)));
    }

passes : (name text : List ℕ) (at len end stopped : ℕ) (first : Face') → at ≤ length text → IsFaceOf name first
    → Passed (record { text = take (length text - at) (drop at text); at = 0 }) (record { text = take (length text - at) (drop at text); at = len }) (port_text first)
    → HasMore first text (at + len) end stopped → Passes name text at (at + len) end stopped first
passes name text at len end stopped first within of one all =
    record { of = of; one = shift_passed text (take (length text - at) (drop at text)) at len (port_text first) (rest_whole text at) (rest_size text at within) one; all = all }

pub returns-in-Err-clause-wrong : goal.returns-in-Err-clause-wrong
returns-in-Err-clause-wrong c = λ is.
    let name = c.args.name.now in
    let text = c.args.text.now in
    let at = c.args.at in
    let first = c.in-Ok.both.0 in
    let len = c.in-Ok.both.1 in
    let end = c.in_ok-end.end in
    let stopped = c.in_ok-end.stopped in
    let known = passes name text at len end stopped first c.requires c.in-Ok.ensures.face c.in-Ok.ensures.passed c.in_ok-end.ensures.more in
    breaks_off name text at (at + len) end stopped c.in-Err.place c.further.result first is known c.in-Err.ensures.wrong c.further.ensures.at_least.0 c.further.ensures.at_least.1 c.further.ensures.one

pub returns-in-Ok-pass_at-clause-ports : goal.returns-in-Ok-pass_at-clause-ports
returns-in-Ok-pass_at-clause-ports c =
    let name = c.args.name.now in
    let text = c.args.text.now in
    let at = c.args.at in
    let first = c.in-Ok.both.0 in
    let len = c.in-Ok.both.1 in
    let end = c.in_ok-end.end in
    let stopped = c.in_ok-end.stopped in
    let known = passes name text at len end stopped first c.requires c.in-Ok.ensures.face c.in-Ok.ensures.passed c.in_ok-end.ensures.more in
    has_ports name text at (at + len) end stopped c.in-Ok-pass_at.field-0 first known c.in-Ok-pass_at.ensures.passed
