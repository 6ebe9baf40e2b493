-- Levels that are counted are visited, whatever the settling before is known by.
use Rattle.std.specs.Prelude.{◌≡◌, ℕ, List}
use Rattle.std.proofs.Common.{sym, subst}
use Rattle.gos_netlist.specs.Nets.{Cell}
use Rattle.gos_netlist.specs.Settling.{Numbers}
use Rattle.gos_sim.specs.declared.past.Past.{Past}
use Rattle.gos_sim.specs.declared.past.Past.TheVariants.{First, Later}
use Rattle.gos_sim.specs.Visits.{HasVisited, VisitsLevels}
use Rattle.gos_sim.specs.inner.Past.{IsPast, settlings_of}

module _ (cells : List Cell) (values before : Numbers) (past : Past) (count : ℕ) (h : VisitsLevels cells before values count) where
  pub visited_first : past ≡ First → IsPast cells past values before → HasVisited cells (settlings_of past values before) count
  visited_first e came =
      let P : Past → Type 0 = λ p. IsPast cells p values before in
      let Q : Past → Type 0 = λ p. HasVisited cells (settlings_of p values before) count in
      subst Q (sym e) (before, subst P e came, h)

  pub visited_later : past ≡ Later → HasVisited cells (settlings_of past values before) count
  visited_later e =
      let Q : Past → Type 0 = λ p. HasVisited cells (settlings_of p values before) count in
      subst Q (sym e) h
