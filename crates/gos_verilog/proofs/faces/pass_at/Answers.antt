use Rattle.std.proofs.Common.{◌≡◌, ◌≤◌, ◌+◌, ◌-◌, ℕ, List, length, take, drop, length-drop, ap, ◌∙◌, subst, sym, arith}
use Rattle.gos_lex.specs.Items.{TextAt, IsJust, Misses}
use Rattle.gos_lex.specs.ItemTexts.{Passed}
use Rattle.gos_lex.proofs.PlaceLemmas.{rest_whole}
use Rattle.gos_verilog.proofs.PlaceLemmas.{start_at}
use Rattle.gos_verilog.proofs.WordLemmas.{shift_passed, shift_misses}
use Rattle.gos_verilog.proofs.faces.pass_at.Goals as goal

-- what the cursor passes in the rest
passed_in : (old new : TextAt) (text bytes : List ℕ) (at len : ℕ) → at ≤ length text → old.text ≡ take (length text - at) (drop at text) → old.at ≡ 0 → len ≡ new.at → Passed old new bytes
    → (at + len ≤ length text) × Passed (record { text = text; at = at }) (record { text = text; at = at + len }) bytes
passed_in old new text bytes at len within same start end passed =
    let rest : List ℕ = take (length text - at) (drop at text) in
    let size : length rest ≡ length text - at = ap length (rest_whole text at) ∙ length-drop at text in
    let from : old ≡ record { text = rest; at = 0 } = start_at old rest same start in
    let to : new ≡ record { text = rest; at = len } = (λ i. record { text = (passed.text ∙ same) i; at = sym end i }) in
    let here : Passed (record { text = rest; at = 0 }) (record { text = rest; at = len }) bytes = subst (λ (t : TextAt). Passed (record { text = rest; at = 0 }) t bytes) to (subst (λ (t : TextAt). Passed t new bytes) from passed) in
    (omega (arith, here.within, size, within), shift_passed text rest at len bytes (rest_whole text at) (omega (arith, size, within)) here)

pub returns-in-Ok-clause-within : goal.returns-in-Ok-clause-within
returns-in-Ok-clause-within c =
    (passed_in c.new-cursor.result c.pass.new.cursor c.args.text.now c.args.bytes.now c.args.at c.at.result c.requires c.new-cursor.ensures.text c.new-cursor.ensures.at c.at.ensures.at c.in-Ok.ensures.passed).0

pub returns-in-Ok-clause-passed : goal.returns-in-Ok-clause-passed
returns-in-Ok-clause-passed c =
    (passed_in c.new-cursor.result c.pass.new.cursor c.args.text.now c.args.bytes.now c.args.at c.at.result c.requires c.new-cursor.ensures.text c.new-cursor.ensures.at c.at.ensures.at c.in-Ok.ensures.passed).1

pub returns-in-Err-clause-wrong : goal.returns-in-Err-clause-wrong
returns-in-Err-clause-wrong c =
    let text = c.args.text.now in
    let at = c.args.at in
    let rest : List ℕ = take (length text - at) (drop at text) in
    let size : length rest ≡ length text - at = ap length (rest_whole text at) ∙ length-drop at text in
    let from = start_at c.new-cursor.result rest c.new-cursor.ensures.text c.new-cursor.ensures.at in
    shift_misses (IsJust c.args.bytes.now) text rest at c.in-Err.place (rest_whole text at) (omega (arith, size, c.requires))
    (subst (λ (t : TextAt). Misses (IsJust c.args.bytes.now) t.text t.at c.in-Err.place) from c.in-Err.ensures.wrong)
