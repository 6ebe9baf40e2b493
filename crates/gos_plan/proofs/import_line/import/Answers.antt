use Rattle.std.proofs.lemmas.Result.{err_from_is_err_and}
use Rattle.std.specs.Prelude.{codes}
use Rattle.gos_types.specs.Types.{type_of, Com}
use Rattle.gos_plan.specs.TextItems.{exactly, any_name}
use Rattle.gos_plan.specs.ObjectItems.{typed, import_line}
use Rattle.gos_plan.proofs.TextLemmas.{first_fails, rest_fails, via_fails}
use Rattle.gos_plan.proofs.ItemLemmas.{lawful_name}
use Rattle.gos_plan.proofs.LineLemmas.{named_type, import_parts, import_via, lawful_named_type, lawful_import_word, import_reads}
use Rattle.gos_plan.proofs.import_line.import.Goals as goal

pub returns-in_err-exact-clause-wrong : goal.returns-in_err-exact-clause-wrong
returns-in_err-exact-clause-wrong c =
    let old = c.args.cursor.now in
    let fault = c.in_err-exact.field-0.0 in
    let here = first_fails (exactly (codes "import ")) (λ u. named_type c.args.format) (λ u is. ((lawful_named_type c.args.format).some, (lawful_named_type c.args.format).some_is)) old.text old.at fault c.in_err-exact.ensures.wrong in
    let known = via_fails (import_line c.args.format) (import_parts c.args.format) (import_via c.args.format) old.text old.at fault here in
    let p = err_from_is_err_and c.from_residual.result c.from_residual.ensures.1 in
    rw (p.1, p.2) known

pub returns-in_err-name-clause-wrong : goal.returns-in_err-name-clause-wrong
returns-in_err-name-clause-wrong c =
    let old = c.args.cursor.now in
    let mid = c.exact.new.cursor in
    let fault = c.in_err-name.field-0.0 in
    let second = first_fails any_name (λ name. typed c.args.format 10 0) (λ name is. (Com, tt)) mid.text mid.at fault c.in_err-name.ensures.wrong in
    let here = rest_fails (exactly (codes "import ")) (λ u. named_type c.args.format) lawful_import_word old mid tt c.in_ok-exact.ensures.read fault second in
    let known = via_fails (import_line c.args.format) (import_parts c.args.format) (import_via c.args.format) old.text old.at fault here in
    let p = err_from_is_err_and c.from_residual-in_err-name.result c.from_residual-in_err-name.ensures.1 in
    rw (p.1, p.2) known

pub returns-in_err-ty-clause-wrong : goal.returns-in_err-ty-clause-wrong
returns-in_err-ty-clause-wrong c =
    let old = c.args.cursor.now in
    let mid = c.exact.new.cursor in
    let last = c.name.new.cursor in
    let fault = c.in_err-ty.field-0.0 in
    let second = rest_fails any_name (λ name. typed c.args.format 10 0) lawful_name mid last c.in_ok-name.name c.in_ok-name.ensures.read fault c.in_err-ty.ensures.wrong in
    let here = rest_fails (exactly (codes "import ")) (λ u. named_type c.args.format) lawful_import_word old mid tt c.in_ok-exact.ensures.read fault second in
    let known = via_fails (import_line c.args.format) (import_parts c.args.format) (import_via c.args.format) old.text old.at fault here in
    let p = err_from_is_err_and c.from_residual-in_err-ty.result c.from_residual-in_err-ty.ensures.1 in
    rw (p.1, p.2) known

pub returns-clause-read : goal.returns-clause-read
returns-clause-read c =
    import_reads c.args.format c.in_ok-name.name (type_of c.in_ok-ty.ty) c.args.cursor.now c.exact.new.cursor c.name.new.cursor c.ty.new.cursor c.in_ok-exact.ensures.read c.in_ok-name.ensures.read c.in_ok-ty.ensures.read
