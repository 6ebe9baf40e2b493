-- The gates of each kind in range keep the laws: those of gos_control, gos_data, gos_share and gos_fast_share, kind by kind.
use Rattle.gos_plan.specs.declared.kinds.Kind.TheVariants as kinds
use Rattle.gos_control.specs.laws.Kept.{control_gates}
use Rattle.gos_data.specs.laws.Kept.{arith_gates}
use Rattle.gos_share.specs.laws.Kept.{share_gates}
use Rattle.gos_control.specs.laws.Paths.{control_paths}
use Rattle.gos_data.specs.laws.Paths.{arith_paths}
use Rattle.gos_share.specs.laws.Paths.{share_paths}
use Rattle.gos_fast_share.specs.laws.Kept.{fast_gates, fast_fits}
use Rattle.gos_fast_share.specs.laws.Paths.{fast_paths}
use Rattle.gos_expand.specs.Gates.{ForOrder, ForEach}
use Rattle.gos_expand.specs.Kept.{AllKeep, AllFit, AllKeepPaths}

pub all_gates : AllKeep
all_gates m kinds.Skip rank range made = control_gates kinds.Skip (tt, range) rank
all_gates m (kinds.Lit w k) rank range made = arith_gates (kinds.Lit w k) range rank
all_gates m kinds.Seq rank range made = control_gates kinds.Seq (tt, range) rank
all_gates m (kinds.SeqExp w) rank range made = control_gates (kinds.SeqExp w) (tt, range) rank
all_gates m kinds.Par rank range made = control_gates kinds.Par (tt, range) rank
all_gates m kinds.If rank range made = control_gates kinds.If (tt, range) rank
all_gates m (kinds.IfExp w) rank range made = control_gates (kinds.IfExp w) (tt, range) rank
all_gates m kinds.While rank range made = control_gates kinds.While (tt, range) rank
all_gates m (kinds.Op op w) rank range made = arith_gates (kinds.Op op w) range rank
all_gates m (kinds.Not w) rank range made = arith_gates (kinds.Not w) range rank
all_gates m (kinds.Assign w) rank range made = arith_gates (kinds.Assign w) range rank
all_gates m (kinds.Deref w) rank range made = arith_gates (kinds.Deref w) range rank
all_gates m (kinds.Local w v) rank range made = arith_gates (kinds.Local w v) range rank
all_gates m (kinds.Array w n v) rank range made = arith_gates (kinds.Array w n v) range rank
all_gates ForEach (kinds.Share t) rank range made = share_gates t range rank
all_gates (ForOrder order) (kinds.Share t) rank range made = fast_gates t order rank range made

-- and fit a netlist that is accepted
pub all_fit : AllFit
all_fit m kinds.Skip range = (control_gates kinds.Skip (tt, range) (λ h. 0)).fits
all_fit m (kinds.Lit w k) range = (arith_gates (kinds.Lit w k) range (λ h. 0)).fits
all_fit m kinds.Seq range = (control_gates kinds.Seq (tt, range) (λ h. 0)).fits
all_fit m (kinds.SeqExp w) range = (control_gates (kinds.SeqExp w) (tt, range) (λ h. 0)).fits
all_fit m kinds.Par range = (control_gates kinds.Par (tt, range) (λ h. 0)).fits
all_fit m kinds.If range = (control_gates kinds.If (tt, range) (λ h. 0)).fits
all_fit m (kinds.IfExp w) range = (control_gates (kinds.IfExp w) (tt, range) (λ h. 0)).fits
all_fit m kinds.While range = (control_gates kinds.While (tt, range) (λ h. 0)).fits
all_fit m (kinds.Op op w) range = (arith_gates (kinds.Op op w) range (λ h. 0)).fits
all_fit m (kinds.Not w) range = (arith_gates (kinds.Not w) range (λ h. 0)).fits
all_fit m (kinds.Assign w) range = (arith_gates (kinds.Assign w) range (λ h. 0)).fits
all_fit m (kinds.Deref w) range = (arith_gates (kinds.Deref w) range (λ h. 0)).fits
all_fit m (kinds.Local w v) range = (arith_gates (kinds.Local w v) range (λ h. 0)).fits
all_fit m (kinds.Array w n v) range = (arith_gates (kinds.Array w n v) range (λ h. 0)).fits
all_fit ForEach (kinds.Share t) range = (share_gates t range (λ h. 0)).fits
all_fit (ForOrder order) (kinds.Share t) range = fast_fits t order range

-- and keep what is asked of paths
pub all_paths : AllKeepPaths
all_paths m kinds.Skip range = control_paths kinds.Skip (tt, range)
all_paths m (kinds.Lit w k) range = arith_paths (kinds.Lit w k) range
all_paths m kinds.Seq range = control_paths kinds.Seq (tt, range)
all_paths m (kinds.SeqExp w) range = control_paths (kinds.SeqExp w) (tt, range)
all_paths m kinds.Par range = control_paths kinds.Par (tt, range)
all_paths m kinds.If range = control_paths kinds.If (tt, range)
all_paths m (kinds.IfExp w) range = control_paths (kinds.IfExp w) (tt, range)
all_paths m kinds.While range = control_paths kinds.While (tt, range)
all_paths m (kinds.Op op w) range = arith_paths (kinds.Op op w) range
all_paths m (kinds.Not w) range = arith_paths (kinds.Not w) range
all_paths m (kinds.Assign w) range = arith_paths (kinds.Assign w) range
all_paths m (kinds.Deref w) range = arith_paths (kinds.Deref w) range
all_paths m (kinds.Local w v) range = arith_paths (kinds.Local w v) range
all_paths m (kinds.Array w n v) range = arith_paths (kinds.Array w n v) range
all_paths ForEach (kinds.Share t) range = share_paths t range
all_paths (ForOrder order) (kinds.Share t) range = fast_paths t order
