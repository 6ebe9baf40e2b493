use Rattle.std.specs.Prelude.{◌≡◌, ℕ, ◌-◌, ◌<◌, List, length, map, get_or}
use Rattle.std.proofs.Common.{arith, sym, ap, subst, ◌∙◌}
use Rattle.std.proofs.lemmas.List.{length-map}
use Rattle.gos_netlist.specs.Nets.{Cell}
use Rattle.gos_netlist.specs.Seen.{cell_of}
use Rattle.gos_netlist.specs.Settling.{at}
use Rattle.gos_tidy.specs.inner.Changes.{AreNumbersOf, skip, target_of}
use Rattle.gos_tidy.specs.inner.Places.{ArePlaced}
use Rattle.gos_tidy.proofs.ChangeLemmas.{without_quotient}
use Rattle.gos_tidy.proofs.PlaceLemmas.{roots_within, without_made}
use Rattle.gos_tidy.proofs.SizeLemmas.{without_size}
use Rattle.gos_tidy.proofs.change.without.Goals as goal

pub placed-requires : goal.placed-requires
placed-requires c = λ k d l.
    let ds = c.args.cells.now in
    let n = c.args.left_out in
    let t = c.args.to in
    let roots = c.in_ok-roots.roots.items in
    let targets = subst (λ (m : ℕ). AreNumbersOf (target_of n t) m c.in_ok-map.map.items) (sym (length-map ds cell_of)) c.in_ok-map.ensures in
    let places = subst (λ (m : ℕ). AreNumbersOf (skip n) m roots) (c.saturating_sub.ensures ∙ ap (λ (m : ℕ). m - 1) (sym (length-map ds cell_of))) c.in_ok-roots.ensures in
    let inside : k < length roots = subst (λ (xs : List ℕ). k < length xs) c.deref-2.ensures.value l in
    let low = roots_within (map cell_of ds) n t c.requires.sound.acyclic c.requires.sound.widths c.requires.goes c.in_ok-map.map.items roots targets places k d inside in
    let read : get_or c.deref-2.result.now k d ≡ get_or roots k d = ap (λ (xs : List ℕ). get_or xs k d) c.deref-2.ensures.value in
    omega (arith, low, read, length-map ds cell_of)

pub returns-clause-quotient : goal.returns-clause-quotient
returns-clause-quotient c =
    let ds = c.args.cells.now in
    let cells : List Cell = map cell_of ds in
    let others : List Cell = map cell_of c.in_ok-others.others.items in
    let n = c.args.left_out in
    let t = c.args.to in
    let goes_to = c.in_ok-map.map.items in
    let roots = c.in_ok-roots.roots.items in
    let targets = subst (λ (m : ℕ). AreNumbersOf (target_of n t) m goes_to) (sym (length-map ds cell_of)) c.in_ok-map.ensures in
    let places = subst (λ (m : ℕ). AreNumbersOf (skip n) m roots) (c.saturating_sub.ensures ∙ ap (λ (m : ℕ). m - 1) (sym (length-map ds cell_of))) c.in_ok-roots.ensures in
    let placed = subst (λ (xs : List ℕ). ArePlaced cells others xs roots (length roots)) c.deref.ensures.value
    (subst (λ (ys : List ℕ). ArePlaced cells others c.deref.result.now ys (length ys)) c.deref-2.ensures.value c.in_ok-others.ensures) in
    let sound = c.requires.sound in
    without_quotient cells others (at goes_to) roots n t sound.acyclic sound.widths c.requires.goes
    (without_made cells n t sound.acyclic sound.widths c.requires.goes goes_to roots targets places others placed)

pub returns-clause-few : goal.returns-clause-few
returns-clause-few c =
    let ds = c.args.cells.now in
    let cells : List Cell = map cell_of ds in
    let others : List Cell = map cell_of c.in_ok-others.others.items in
    let n = c.args.left_out in
    let t = c.args.to in
    let goes_to = c.in_ok-map.map.items in
    let roots = c.in_ok-roots.roots.items in
    let targets = subst (λ (m : ℕ). AreNumbersOf (target_of n t) m goes_to) (sym (length-map ds cell_of)) c.in_ok-map.ensures in
    let places = subst (λ (m : ℕ). AreNumbersOf (skip n) m roots) (c.saturating_sub.ensures ∙ ap (λ (m : ℕ). m - 1) (sym (length-map ds cell_of))) c.in_ok-roots.ensures in
    let placed = subst (λ (xs : List ℕ). ArePlaced cells others xs roots (length roots)) c.deref.ensures.value
    (subst (λ (ys : List ℕ). ArePlaced cells others c.deref.result.now ys (length ys)) c.deref-2.ensures.value c.in_ok-others.ensures) in
    let sound = c.requires.sound in
    let made = without_made cells n t sound.acyclic sound.widths c.requires.goes goes_to roots targets places others placed in
    let count = made.count in
    omega (arith, count, length-map ds cell_of, length-map c.in_ok-others.others.items cell_of)

pub returns-clause-smaller : goal.returns-clause-smaller
returns-clause-smaller c =
    let ds = c.args.cells.now in
    let cells : List Cell = map cell_of ds in
    let others : List Cell = map cell_of c.in_ok-others.others.items in
    let n = c.args.left_out in
    let t = c.args.to in
    let goes_to = c.in_ok-map.map.items in
    let roots = c.in_ok-roots.roots.items in
    let targets = subst (λ (m : ℕ). AreNumbersOf (target_of n t) m goes_to) (sym (length-map ds cell_of)) c.in_ok-map.ensures in
    let places = subst (λ (m : ℕ). AreNumbersOf (skip n) m roots) (c.saturating_sub.ensures ∙ ap (λ (m : ℕ). m - 1) (sym (length-map ds cell_of))) c.in_ok-roots.ensures in
    let placed = subst (λ (xs : List ℕ). ArePlaced cells others xs roots (length roots)) c.deref.ensures.value
    (subst (λ (ys : List ℕ). ArePlaced cells others c.deref.result.now ys (length ys)) c.deref-2.ensures.value c.in_ok-others.ensures) in
    let sound = c.requires.sound in
    without_size cells others (at goes_to) roots n t (without_made cells n t sound.acyclic sound.widths c.requires.goes goes_to roots targets places others placed)
