-- The gates of a Share by order keep the laws in this order, at each type.
--
-- Read first: Fast, Order; Ranges of gos_plan.
use Rattle.gos_types.specs.Types.{type_of}
use Rattle.gos_plan.specs.Kinds.{contacts_of}
use Rattle.gos_share.specs.laws.Widths.{type_narrow}
use Rattle.gos_fast_share.specs.Order.{FastFit, FastKeep}
use Rattle.gos_fast_share.specs.laws.Keeping.{fast_law, fast_rests}
use Rattle.gos_fast_share.specs.laws.Silent.{fast_silent}
use Rattle.gos_fast_share.specs.laws.Own.{fast_out, fast_inner}
use Rattle.gos_fast_share.specs.laws.Named.{fast_names}
use Rattle.gos_fast_share.specs.laws.Widths.{fast_right}

-- in a netlist they keep what is asked of an accepted one, whichever order they are made for
pub fast_fits : FastFit
fast_fits t order small =
    record {
      outgoing = λ b i. fast_out b i (contacts_of (type_of t)) order;
      inner = λ b i. fast_inner b i (contacts_of (type_of t)) order;
      order = λ b i. fast_names b i (contacts_of (type_of t)) order;
      widths = λ b i bits come own. fast_right b i bits (contacts_of (type_of t)) order (type_narrow (type_of t) small.0) come own;
    }

pub fast_gates : FastKeep
fast_gates t order rank small by_rank =
    record {
      law = fast_law (type_of t) order rank by_rank;
      rests = fast_rests;
      silent = fast_silent (type_of t) order;
      fits = fast_fits t order small;
    }
