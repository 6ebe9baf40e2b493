use Rattle.std.proofs.Common.{◌++◌, ◌∷◌, [], ℕ, List, sym, ◌∙◌, ap, append_assoc}
use Rattle.std.specs.Prelude.{codes}
use Rattle.std.proofs.lemmas.Result.{err_from_is_err_and}
use Rattle.gos_lex.specs.Items.{TextAt}
use Rattle.gos_lex.specs.ItemTexts.{ended}
use Rattle.gos_verilog.specs.inner.Stages.{Rest, listed}
use Rattle.gos_verilog.proofs.head.head.Goals as goal

-- the start, by its parts
parted : (old : TextAt) (first rest : List ℕ) → Rest old (codes "module gos_" ++ (first ++ (codes "(clk, rst" ++ rest))) → Rest old (codes "module gos_" ++ (ended 40 first ++ (codes "clk, rst" ++ rest)))
parted old first rest left = left ∙ ap (λ more. codes "module gos_" ++ more) (sym (append_assoc first (40 ∷ []) (codes "clk, rst" ++ rest)))

pub returns-in_err-start-clause-stands : goal.returns-in_err-start-clause-stands
returns-in_err-start-clause-stands c first nets x is have left =
    let rest : List ℕ = listed nets ++ (codes ");\n" ++ x) in
    absurd (c.in_err-start.ensures.stands first rest is (parted c.args.cursor.now first rest left))

pub returns-in_err-names-clause-stands : goal.returns-in_err-names-clause-stands
returns-in_err-names-clause-stands c first nets x is have left =
    let rest : List ℕ = listed nets ++ (codes ");\n" ++ x) in
    let one = c.in_ok-start.ensures.stands first rest is (parted c.args.cursor.now first rest left) in
    let p = err_from_is_err_and c.from_residual-in_err-names.result c.from_residual-in_err-names.ensures.1 in
    rw (p.1, p.2) (c.in_err-names.ensures.stands nets (codes ";\n" ++ x) have one)

pub returns-in_err-word-clause-stands : goal.returns-in_err-word-clause-stands
returns-in_err-word-clause-stands c first nets x is have left =
    let rest : List ℕ = listed nets ++ (codes ");\n" ++ x) in
    let one = c.in_ok-start.ensures.stands first rest is (parted c.args.cursor.now first rest left) in
    let two = c.in_ok-names.ensures.stands nets (codes ";\n" ++ x) have one in
    absurd (c.in_err-word.ensures.stands x two.1)

pub returns-clause-stands : goal.returns-clause-stands
returns-clause-stands c first nets x is have left =
    let rest : List ℕ = listed nets ++ (codes ");\n" ++ x) in
    let one = c.in_ok-start.ensures.stands first rest is (parted c.args.cursor.now first rest left) in
    let two = c.in_ok-names.ensures.stands nets (codes ";\n" ++ x) have one in
    (two.0, c.in_ok-word.ensures.stands x two.1)
