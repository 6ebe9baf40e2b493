use Rattle.std.proofs.Common.{◌≡◌, ◌<◌, ℕ, map, length, true, false, refl, sym, ◌∙◌, arith}
use Rattle.std.specs.Prelude.{slice_get, List}
use Rattle.std.proofs.lemmas.List.{length-map}
use Rattle.gos_netlist.specs.Nets.{Cell}
use Rattle.gos_netlist.specs.Seen.{cell_of, number_of}
use Rattle.gos_netcheck.specs.PortRules.{FitsAt}
use Rattle.gos_netcheck.proofs.RuleLemmas.{get_mapped, mapped_more, mapped_all}
use Rattle.gos_netcheck.proofs.TurnLemmas.{no_net}
use Rattle.gos_netcheck.proofs.PortLemmas.{fits_at, fits_there}
use Rattle.gos_netcheck.proofs.ports.all_fit.Goals as goal

pub returns-then-not-fits : goal.returns-then-not-fits
returns-then-not-fits c =
    let cells : List Cell = map cell_of c.args.cells.now in
    let l : c.loop-i.i < length c.args.places.now = omega (arith, c.loop-i-test.true, c.if-nets-places.false) in (
      λ yes. absurd (let no : false ≡ true = yes in cc),
      λ all. sym c.if-not-fits.true
          ∙ c.fits.ensures.1 (fits_there cells c.args.places.now c.loop-i.i _ l (all.1 c.loop-i.i _ (get_mapped number_of c.args.nets.now c.loop-i.i no_net c.loop-i-test.true))),
    )

pub loop-i-preserved : goal.loop-i-preserved
loop-i-preserved c =
    let cells : List Cell = map cell_of c.args.cells.now in
    let Rule : ℕ → ℕ → Type 0 = λ i n. FitsAt cells (slice_get c.args.places.now i) n in
    let l : c.loop-i.i < length c.args.places.now = omega (arith, c.loop-i-test.true, c.if-nets-places.false) in
    mapped_more Rule number_of c.args.nets.now c.loop-i.i no_net c.loop-i-test.true c.loop-i.invariant
    (fits_at cells c.args.places.now c.loop-i.i _ l (c.fits.ensures.0 c.if-not-fits.false))

pub returns : goal.returns
returns c =
    let cells : List Cell = map cell_of c.args.cells.now in
    let Rule : ℕ → ℕ → Type 0 = λ i n. FitsAt cells (slice_get c.args.places.now i) n in (
      λ _. (length-map c.args.nets.now number_of ∙ c.if-nets-places.false, mapped_all Rule number_of c.args.nets.now c.loop-i.i c.loop-i-test.false c.loop-i.invariant),
      λ _. refl,
    )
