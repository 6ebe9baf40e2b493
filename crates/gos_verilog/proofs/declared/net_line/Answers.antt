use Rattle.std.proofs.Common.{◌≡◌, ◌+◌, ◌∷◌, [], ℕ, List, rules, get_or, sym, ◌∙◌, ap, subst}
use Rattle.gos_lex.specs.Items.{TextAt, Misses}
use Rattle.gos_lex.specs.ItemTexts.{Passed, IsInRange}
use Rattle.gos_verilog.specs.inner.Slots.{Slot', FitSlots, line_text, IsLine}
use Rattle.gos_verilog.specs.inner.Left.{least_of, most_of, IsNetOf, net_text}
use Rattle.gos_verilog.proofs.PlaceLemmas.{start_at}
use Rattle.gos_verilog.proofs.LeftNetLemmas.{net_slot, net_tail, net_misses, net_passed}
use Rattle.gos_verilog.proofs.declared.net_line.Goals as goal

pub returns-clause-wrong : goal.returns-clause-wrong
returns-clause-wrong c =
    let old = c.new-cursor.result in
    let rest = c.args.rest.now in
    let name = c.args.name.now in
    let role = c.args.role in
    let last = c.args.last in
    let tail : c.deref.result.now ≡ net_tail name = search rules in
    let slots : record { before = c.net_word.result.now; low = c.least_of.result; high = c.most_of.result; end = 58 } ∷ [] ≡ net_slot c.args.input (least_of role last) (most_of role last) ∷ [] =
    λ j. record { before = c.net_word.ensures j; low = c.least_of.ensures j; high = c.most_of.ensures j; end = 58 } ∷ [] in
    let wrong = subst (λ (list : List Slot'). Misses (IsLine list c.deref.result.now) old.text old.at c.in-Err.at) slots c.in-Err.ensures.wrong in
    let known = subst (λ (t : List ℕ). Misses (IsLine (net_slot c.args.input (least_of role last) (most_of role last) ∷ []) t) old.text old.at c.in-Err.at) tail wrong in
    subst (λ (t : TextAt). Misses (IsNetOf c.args.input (least_of role last) (most_of role last) name) t.text t.at c.in-Err.at) (start_at old rest c.new-cursor.ensures.text c.new-cursor.ensures.at)
    (net_misses c.args.input (least_of role last) (most_of role last) name old.text old.at c.in-Err.at known)

pub returns-in-Ok-clause-declared : goal.returns-in-Ok-clause-declared
returns-in-Ok-clause-declared c =
    let old = c.new-cursor.result in
    let new = c.line.new.cursor in
    let rest = c.args.rest.now in
    let name = c.args.name.now in
    let role = c.args.role in
    let last = c.args.last in
    let ns = c.in-Ok.numbers.items in
    let tail : c.deref.result.now ≡ net_tail name = search rules in
    let slots : record { before = c.net_word.result.now; low = c.least_of.result; high = c.most_of.result; end = 58 } ∷ [] ≡ net_slot c.args.input (least_of role last) (most_of role last) ∷ [] =
    λ j. record { before = c.net_word.ensures j; low = c.least_of.ensures j; high = c.most_of.ensures j; end = 58 } ∷ [] in
    let fit = subst (λ (list : List Slot'). FitSlots list ns) slots c.in-Ok.ensures.fit in
    let passed = subst (λ (list : List Slot'). Passed old new (line_text list c.deref.result.now ns)) slots c.in-Ok.ensures.passed in
    let whole = subst (λ (t : List ℕ). Passed old new (line_text (net_slot c.args.input (least_of role last) (most_of role last) ∷ []) t ns)) tail passed in
    let known = net_passed c.args.input (least_of role last) (most_of role last) name old new ns fit whole in
    let number : get_or ns 0 0 ≡ get_or c.deref-in-Ok.result.now 0 0 = ap (λ (list : List ℕ). get_or list 0 0) (sym c.deref-in-Ok.ensures) in
    let n : ℕ = get_or c.deref-in-Ok.result.now 0 0 in
    let word : List ℕ = net_text name (c.args.input, n) in
    let line = subst (λ (k : ℕ). Passed old new (net_text name (c.args.input, k))) number known.1 in
    let end : new ≡ record { text = rest; at = c.at.result } = λ j. record { text = (whole.text ∙ c.new-cursor.ensures.text) j; at = sym c.at.ensures.at j } in
    let copy : c.in_ok-to_vec-in-Ok.field-0.items ≡ name = c.in_ok-to_vec-in-Ok.ensures.items_if_clones_equal (λ x y e. e) in (
      n,
      subst (IsInRange (least_of role last) (most_of role last)) number known.0,
      (λ j. record { name = copy j; input = c.args.input; width = n + 1; cell = 0 }),
      subst (λ (t : TextAt). Passed (record { text = rest; at = 0 }) t word) end (subst (λ (t : TextAt). Passed t new word) (start_at old rest c.new-cursor.ensures.text c.new-cursor.ensures.at) line),
    )
