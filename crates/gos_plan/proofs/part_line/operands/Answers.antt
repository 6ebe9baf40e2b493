use Rattle.std.proofs.Common.{subst, sym, arith}
use Rattle.std.proofs.lemmas.Result.{err_from_is_err_and}
use Rattle.gos_plan.specs.declared.word.PartWord.{PartWord}
use Rattle.gos_plan.specs.declared.word.PartWord.TheVariants as parts
use Rattle.gos_plan.specs.Formats.{greatest}
use Rattle.gos_plan.specs.TextItems.{Fails, number_in}
use Rattle.gos_plan.specs.ObjectItems.{typed, literal_numbers, local_numbers, array_numbers, IsWordIn, part_operands}
use Rattle.gos_types.specs.Types.{type_of}
use Rattle.gos_plan.proofs.TextLemmas.{via_fails}
use Rattle.gos_plan.proofs.FormatLemmas.{widths_there}
use Rattle.gos_plan.proofs.PartLemmas.{sized_via, lit_via, local_via, array_via, share_via}
use Rattle.gos_plan.proofs.part_line.operands.Goals as goal

pub returns-in_err-w-in-Sized-clause-wrong : goal.returns-in_err-w-in-Sized-clause-wrong
returns-in_err-w-in-Sized-clause-wrong c =
    let old = c.args.cursor.now in
    let fault = c.in_err-w-in-Sized.field-0.0 in
    let here = via_fails (part_operands c.args.format (parts.Sized c.in-Sized.word)) (number_in 1 (greatest c.args.format) 10) (sized_via c.args.format c.in-Sized.word) old.text old.at fault c.in_err-w-in-Sized.ensures.wrong in
    let known = subst (λ (w : PartWord). Fails (part_operands c.args.format w) old.text old.at fault) (sym c.in-Sized.is) here in
    let p = err_from_is_err_and c.from_residual.result c.from_residual.ensures.1 in
    rw (p.1, p.2) known

pub returns-in_err-w-in-Lit-clause-wrong : goal.returns-in_err-w-in-Lit-clause-wrong
returns-in_err-w-in-Lit-clause-wrong c =
    let old = c.args.cursor.now in
    let fault = c.in_err-w-in-Lit.field-0.0 in
    let here = via_fails (part_operands c.args.format parts.Lit) (literal_numbers c.args.format) (lit_via c.args.format) old.text old.at fault c.in_err-w-in-Lit.ensures.wrong in
    let known = subst (λ (w : PartWord). Fails (part_operands c.args.format w) old.text old.at fault) (sym c.in-Lit.is) here in
    let p = err_from_is_err_and c.from_residual-in_err-w-in-Lit.result c.from_residual-in_err-w-in-Lit.ensures.1 in
    rw (p.1, p.2) known

pub returns-in_err-w-in-Local-clause-wrong : goal.returns-in_err-w-in-Local-clause-wrong
returns-in_err-w-in-Local-clause-wrong c =
    let old = c.args.cursor.now in
    let fault = c.in_err-w-in-Local.field-0.0 in
    let here = via_fails (part_operands c.args.format parts.Local) (local_numbers c.args.format) (local_via c.args.format) old.text old.at fault c.in_err-w-in-Local.ensures.wrong in
    let known = subst (λ (w : PartWord). Fails (part_operands c.args.format w) old.text old.at fault) (sym c.in-Local.is) here in
    let p = err_from_is_err_and c.from_residual-in_err-w-in-Local.result c.from_residual-in_err-w-in-Local.ensures.1 in
    rw (p.1, p.2) known

pub returns-in_err-w-in-Array-clause-wrong : goal.returns-in_err-w-in-Array-clause-wrong
returns-in_err-w-in-Array-clause-wrong c =
    let old = c.args.cursor.now in
    let fault = c.in_err-w-in-Array.field-0.0 in
    let has = subst (IsWordIn c.args.format) c.in-Array.is c.requires.word in
    let here = via_fails (part_operands c.args.format parts.Array) (array_numbers c.args.format) (array_via c.args.format has) old.text old.at fault c.in_err-w-in-Array.ensures.wrong in
    let known = subst (λ (w : PartWord). Fails (part_operands c.args.format w) old.text old.at fault) (sym c.in-Array.is) here in
    let p = err_from_is_err_and c.from_residual-in_err-w-in-Array.result c.from_residual-in_err-w-in-Array.ensures.1 in
    rw (p.1, p.2) known

pub returns-in_err-source-in-Share-clause-wrong : goal.returns-in_err-source-in-Share-clause-wrong
returns-in_err-source-in-Share-clause-wrong c =
    let old = c.args.cursor.now in
    let fault = c.in_err-source-in-Share.field-0.0 in
    let here = via_fails (part_operands c.args.format parts.Share) (typed c.args.format 10 0) (share_via c.args.format) old.text old.at fault c.in_err-source-in-Share.ensures.wrong in
    let known = subst (λ (w : PartWord). Fails (part_operands c.args.format w) old.text old.at fault) (sym c.in-Share.is) here in
    let p = err_from_is_err_and c.from_residual-in_err-source-in-Share.result c.from_residual-in_err-source-in-Share.ensures.1 in
    rw (p.1, p.2) known

pub returns-in_ok-source-in-Share-clause-in_range : goal.returns-in_ok-source-in-Share-clause-in_range
returns-in_ok-source-in-Share-clause-in_range c =
    let read = c.in_ok-source-in-Share.ensures.read in
    (widths_there c.args.format (type_of c.in_ok-source-in-Share.source) read.is, omega (arith, read.keeps))
