use Rattle.std.proofs.Common.{◌≡◌, true, false}
use Rattle.std.proofs.lemmas.Bool.{eqb-true}
use Rattle.gos_netcheck.proofs.PortLemmas.{fits_read, fits_made, fits_past}
use Rattle.gos_netcheck.proofs.ports.fits.Goals as goal

pub returns-then-cell-place : goal.returns-then-cell-place
returns-then-cell-place c =
    let there = c.in-Some.ensures.lookup in (
      λ yes. fits_made c.args.cells.now c.args.place c.args.net.0 c.in-Some.cell.now there.3.0 there.1 c.if-cell-place.true (c.is_end.ensures.0 yes),
      λ fit. c.is_end.ensures.1 (fits_read c.args.cells.now c.args.place c.args.net.0 c.in-Some.cell.now there.3.0 there.1 fit).1,
    )

pub returns-else-cell-place : goal.returns-else-cell-place
returns-else-cell-place c =
    let there = c.in-Some.ensures.lookup in (
      λ yes. absurd (c.if-cell-place.false (eqb-true c.in-Some.cell.now.width c.args.place.width yes)),
      λ fit. absurd (c.if-cell-place.false (fits_read c.args.cells.now c.args.place c.args.net.0 c.in-Some.cell.now there.3.0 there.1 fit).0),
    )

pub returns-in-None : goal.returns-in-None
returns-in-None c = (
  λ yes. absurd (let no : false ≡ true = yes in cc),
  λ fit. absurd (fits_past c.args.cells.now c.args.place c.args.net.0 c.in-None.ensures.lookup.3 fit),
)
