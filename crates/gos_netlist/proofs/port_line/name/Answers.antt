use Rattle.std.proofs.Common.{◌≡◌, ◌∷◌, [], ◌∙◌, ℕ, List, sym, subst, refl}
use Rattle.std.specs.List.{slice_range}
use Rattle.gos_lex.specs.Items.{IsJust, Misses}
use Rattle.gos_lex.specs.Names.{IsSpelled}
use Rattle.gos_lex.proofs.NameTextLemmas.{no_name, name_not_ended}
use Rattle.gos_lex.proofs.PassedLemmas.{passed_both, passed_item}
use Rattle.gos_netlist.proofs.port_line.name.Goals as goal

pub returns-in-Err-clause-wrong : goal.returns-in-Err-clause-wrong
returns-in-Err-clause-wrong c = no_name 32 refl c.args.cursor.now.text c.args.cursor.now.at c.in-Err.at c.in-Err.ensures.wrong c.in-Err.ensures.none

pub returns-in-Ok-new-clause-passed : goal.returns-in-Ok-new-clause-passed
returns-in-Ok-new-clause-passed c =
    let old = c.args.cursor.now in
    let mid = c.name.new.self in
    let new = c.word.new.self in
    let from = c.in-Ok.ensures.span.0 in
    let to = c.in-Ok.ensures.span.1 in
    let is : slice_range old.text old.at mid.at ≡ c.in-Ok-new.name =
    (λ i. slice_range (c.requires i) (sym from i) (sym to i)) ∙ sym c.in-Ok-new.ensures.ok in
    passed_both old mid new c.in-Ok-new.name (32 ∷ []) (passed_item IsSpelled old mid c.in-Ok-new.name c.in-Ok.ensures.text is c.in-Ok.ensures.passes)
    (passed_item (IsJust (32 ∷ [])) mid new (32 ∷ []) c.in-Ok-word.ensures.text c.in-Ok-word.ensures.passes.item c.in-Ok-word.ensures.passes)

pub returns-in-Err-word-clause-wrong : goal.returns-in-Err-word-clause-wrong
returns-in-Err-word-clause-wrong c =
    let old = c.args.cursor.now in
    let mid = c.name.new.self in
    let missed = subst (λ (text : List ℕ). Misses (IsJust (32 ∷ [])) text mid.at c.in-Err-word.at) c.in-Ok.ensures.text c.in-Err-word.ensures.wrong in
    name_not_ended 32 refl old.text old.at mid.at c.in-Err-word.at c.in-Ok.ensures.passes c.in-Ok.ensures.name missed
