use Rattle.std.proofs.Common.{◌≡◌, ◌≤◌, ◌++◌, ℕ, List, length, drop, refl, sym, ◌∙◌, ap, subst, arith, append_assoc}
use Rattle.std.specs.Prelude.{codes}
use Rattle.std.proofs.lemmas.Result.{err_from_is_err_and, IfErr-weaker}
use Rattle.gos_lex.specs.Items.{TextAt}
use Rattle.gos_lex.specs.Names.{IsNameOrWord}
use Rattle.gos_verilog.specs.Place.{HasHead, IsFormedText}
use Rattle.gos_verilog.specs.inner.Breaks.{FaultFrom, LeadsOn}
use Rattle.gos_verilog.specs.inner.Stages.{BreaksAt, IsStart, HasStart, Rest, start_text}
use Rattle.gos_verilog.specs.inner.Faces.{HasPorts, LeftFirst}
use Rattle.gos_verilog.proofs.BreakLemmas.{fault_on}
use Rattle.gos_verilog.proofs.PortLemmas.{name_bytes}
use Rattle.gos_verilog.proofs.LeftNetLemmas.{if_ok}
use Rattle.gos_verilog.proofs.PlaceLemmas.{start_at}
use Rattle.gos_verilog.proofs.NamedPortLemmas.{ports_head, start_fault, start_on_text, name_behind}
use Rattle.gos_verilog.proofs.judged.judge.Goals as goal
use Rattle.gos_lex.specs.ItemTexts.{ended}

-- what stands behind the start
record Started (text : List ℕ) (at : ℕ) (name : List ℕ) : Type 0 where
  named : IsNameOrWord name
  whole : text ≡ start_text name ++ drop at text
  lead : LeadsOn IsFormedText (LeftFirst name) (record { text = text; at = 0 }) (record { text = text; at = at })

started : (text name found x : List ℕ) (at : ℕ) → IsNameOrWord name → text ≡ start_text name ++ x → at ≤ length text → drop at text ≡ x → found ≡ name → Started text at found
started text name found x at named is within left same =
    subst (Started text at) (sym same)
    (record { named = named; whole = is ∙ ap (λ (b : List ℕ). start_text name ++ b) (sym left); lead = start_on_text text at name x named is within left })

pub returns-in_err-start-clause-wrong : goal.returns-in_err-start-clause-wrong
returns-in_err-start-clause-wrong c =
    let here = start_at c.new-cursor.result c.args.text.now c.new-cursor.ensures.text c.new-cursor.ensures.at in
    let p = err_from_is_err_and c.from_residual.result c.from_residual.ensures.1 in
    rw (p.1, p.2) (start_fault c.args.text.now c.in_err-start.field-0.0 (subst (λ (cursor : TextAt). BreaksAt IsStart cursor c.in_err-start.field-0.0) here c.in_err-start.ensures.wrong))

-- what is known behind the start
at_place : (cursor : TextAt) (text bytes : List ℕ) (at : ℕ) → cursor.text ≡ text → at ≡ cursor.at → Rest cursor bytes → drop at text ≡ bytes
at_place cursor text bytes at same place left = (λ i. drop (place i) (sym same i)) ∙ left

at_within : (cursor : TextAt) (text : List ℕ) (at : ℕ) → cursor.text ≡ text → at ≡ cursor.at → cursor.at ≤ length cursor.text → at ≤ length text
at_within cursor text at same place within = omega (arith, place, ap length same, within)

parted : (cursor : TextAt) (name x : List ℕ) → Rest cursor (start_text name ++ x) → Rest cursor (codes "module gos_" ++ (ended 40 name ++ (codes "clk, rst" ++ x)))
parted cursor name x left = left ∙ ap (λ (more : List ℕ). codes "module gos_" ++ more) (append_assoc (ended 40 name) (codes "clk, rst") x)

pub name_at-name-requires : goal.name_at-name-requires
name_at-name-requires c =
    let here = start_at c.new-cursor.result c.args.text.now c.new-cursor.ensures.text c.new-cursor.ensures.at in
    let begun = subst HasStart here c.in_ok-start.ensures.begun in
    (name_behind c.args.text.now begun.0 begun.1 begun.3).0

pub returns-clause-wrong : goal.returns-clause-wrong
returns-clause-wrong c =
    let text = c.args.text.now in
    let here = start_at c.new-cursor.result text c.new-cursor.ensures.text c.new-cursor.ensures.at in
    let begun = subst HasStart here c.in_ok-start.ensures.begun in
    let mid = c.start.new.cursor in
    let rest : Rest mid begun.1 = c.in_ok-start.ensures.stands begun.0 begun.1 begun.2 (parted c.new-cursor.result begun.0 begun.1 (subst (λ (t : TextAt). Rest t (start_text begun.0 ++ begun.1)) (sym here) begun.3)) in
    let same : mid.text ≡ text = c.in_ok-start.ensures.text ∙ c.new-cursor.ensures.text in
    let found = c.name_at-name.ensures begun.0 40 (codes "clk, rst" ++ begun.1) (name_bytes begun.0 begun.2) refl (name_behind text begun.0 begun.1 begun.3).1 in
    let at : ℕ = c.at.result in
    let known = started text begun.0 c.name_at-name.result.now begun.1 at begun.2 begun.3 (at_within mid text at same c.at.ensures.at c.at.ensures.within) (at_place mid text begun.1 at same c.at.ensures.at rest) found in
    IfErr-weaker c.ports.result (FaultFrom (LeftFirst c.name_at-name.result.now) (record { text = text; at = at })) (FaultFrom IsFormedText (record { text = text; at = 0 }))
    (λ fault. fault_on IsFormedText (LeftFirst c.name_at-name.result.now) (record { text = text; at = 0 }) (record { text = text; at = at }) fault known.lead) (c.ports.ensures.wrong known.named)

pub returns-clause-head : goal.returns-clause-head
returns-clause-head c =
    let text = c.args.text.now in
    let here = start_at c.new-cursor.result text c.new-cursor.ensures.text c.new-cursor.ensures.at in
    let begun = subst HasStart here c.in_ok-start.ensures.begun in
    let mid = c.start.new.cursor in
    let rest : Rest mid begun.1 = c.in_ok-start.ensures.stands begun.0 begun.1 begun.2 (parted c.new-cursor.result begun.0 begun.1 (subst (λ (t : TextAt). Rest t (start_text begun.0 ++ begun.1)) (sym here) begun.3)) in
    let same : mid.text ≡ text = c.in_ok-start.ensures.text ∙ c.new-cursor.ensures.text in
    let found = c.name_at-name.ensures begun.0 40 (codes "clk, rst" ++ begun.1) (name_bytes begun.0 begun.2) refl (name_behind text begun.0 begun.1 begun.3).1 in
    let at : ℕ = c.at.result in
    let known = started text begun.0 c.name_at-name.result.now begun.1 at begun.2 begun.3 (at_within mid text at same c.at.ensures.at c.at.ensures.within) (at_place mid text begun.1 at same c.at.ensures.at rest) found in
    if_ok c.ports.result (λ _. HasPorts c.name_at-name.result.now (drop at text)) (λ _. HasHead text)
    (λ _ has. ports_head c.name_at-name.result.now (drop at text) text known.named has known.whole) c.ports.ensures.ports
