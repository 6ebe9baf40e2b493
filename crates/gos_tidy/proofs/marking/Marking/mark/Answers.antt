use Rattle.std.specs.Prelude.{◌≡◌, ℕ, ◌<◌, Bool, true, List, [], ◌∷◌, length, get_or, slice_set}
use Rattle.std.proofs.Common.{arith, sym, subst}
use Rattle.gos_tidy.specs.inner.Marks.{Grows}
use Rattle.gos_tidy.proofs.MarkLemmas.{grows_not, grows_new}
use Rattle.gos_tidy.proofs.marking.Marking.mark.Goals as goal

pub returns-then-index : goal.returns-then-index
returns-then-index c =
    let marks = c.args.self.now.marks.items in
    let low : c.args.net.0 < length marks = omega (arith, c.requires, c.args.self.now.marks.ok.0) in
    let Read : Bool → Type 0 = λ b. b ≡ get_or marks c.args.net.0 b in
    grows_not marks c.args.self.now.found.items c.args.net.0 low (sym (subst Read c.if-index.true c.index.ensures))

pub returns : goal.returns
returns c =
    let marks = c.args.self.now.marks.items in
    let found = c.args.self.now.found.items in
    let low : c.args.net.0 < length marks = omega (arith, c.requires, c.args.self.now.marks.ok.0) in
    let Read : Bool → Type 0 = λ b. b ≡ get_or marks c.args.net.0 b in
    let Grown : List ℕ → Type 0 = λ list. Grows (c.args.net.0 ∷ []) marks found (slice_set marks c.args.net.0 true) list in
    subst Grown (sym c.in_ok-push.ensures.items) (grows_new marks found c.args.net.0 low (sym (subst Read c.if-index.false c.index.ensures)))
