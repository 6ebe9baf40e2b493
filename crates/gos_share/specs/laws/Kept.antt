-- The gates of a Share keep the laws, at each type.
--
-- Read first: Layout; Ranges of gos_plan.
use Rattle.gos_types.specs.declared.types.Ty.{Ty}
use Rattle.gos_types.specs.Types.{type_of}
use Rattle.gos_plan.specs.Kinds.{Share, contacts_of}
use Rattle.gos_plan.specs.Ranges.{IsSmall}
use Rattle.gos_macro.specs.Kept.{KeepLawsInEachOrder}
use Rattle.gos_macro.specs.laws.AnyOrder.{law_in_order}
use Rattle.gos_share.specs.Layout.{layout, outs_of, late_of, pending_of, stands_of}
use Rattle.gos_share.specs.laws.Keeping.{share_law, share_rests}
use Rattle.gos_share.specs.laws.Silent.{share_silent}
use Rattle.gos_share.specs.laws.Own.{share_out, share_inner}
use Rattle.gos_share.specs.laws.Order.{share_order}
use Rattle.gos_share.specs.laws.Widths.{type_narrow, share_right}

-- what the laws say of the Share of a type
abbrev pub ShareGates : Ty → Type 0
ShareGates t =
    KeepLawsInEachOrder (Share (type_of t)) (layout (Share (type_of t))) (outs_of (Share (type_of t))) (late_of (Share (type_of t))) (pending_of (Share (type_of t))) (stands_of (Share (type_of t)))

pub share_gates : (t : Ty) → IsSmall t → ShareGates t
share_gates t small rank =
    record {
      law =
          law_in_order (Share (type_of t)) (layout (Share (type_of t))) (outs_of (Share (type_of t))) (late_of (Share (type_of t))) (pending_of (Share (type_of t)))
          (stands_of (Share (type_of t))) (share_law (type_of t)) rank;
      rests = share_rests (contacts_of (type_of t));
      silent = share_silent (type_of t);
      fits =
          record {
            outgoing = λ b i. share_out b i (contacts_of (type_of t));
            inner = λ b i. share_inner b i (contacts_of (type_of t));
            order = λ b i. share_order b i (contacts_of (type_of t));
            widths = λ b i bits come own. share_right b i bits (contacts_of (type_of t)) (type_narrow (type_of t) small.0) come own;
          };
    }
