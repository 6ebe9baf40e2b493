-- The gates of each kind of control keep the laws.
--
-- Read first: Layout, Ranges.
use Rattle.std.proofs.Common.{zero, suc, arith}
use Rattle.gos_plan.specs.declared.kinds.Kind.{Kind}
use Rattle.gos_plan.specs.declared.kinds.Kind.TheVariants as kinds
use Rattle.gos_plan.specs.Seen.{part_of}
use Rattle.gos_macro.specs.Kept.{KeepLawsInEachOrder}
use Rattle.gos_macro.specs.laws.SkipKept.{skip_gates}
use Rattle.gos_control.specs.laws.SeqKept.{seq_com_gates, seq_exp_gates}
use Rattle.gos_control.specs.laws.ParKept.{par_gates}
use Rattle.gos_control.specs.laws.ChoiceKept.{choice_com_gates, choice_exp_gates}
use Rattle.gos_control.specs.laws.RepeatKept.{repeat_gates}
use Rattle.gos_control.specs.Layout.{layout, outs_of, late_of, pending_of, stands_of}
use Rattle.gos_control.specs.Ranges.{IsControl}

-- what the law says of a kind
abbrev pub ControlGates : Kind → Type 0
ControlGates k =
    KeepLawsInEachOrder (part_of k) (layout (part_of k)) (outs_of (part_of k)) (late_of (part_of k)) (pending_of (part_of k)) (stands_of (part_of k))

pub control_gates : (k : Kind) → IsControl k → ControlGates k
control_gates kinds.Skip is = skip_gates
control_gates kinds.Seq is = seq_com_gates
control_gates (kinds.SeqExp zero) is = absurd (let some = is.1.0 in omega (arith, some))
control_gates (kinds.SeqExp (suc w)) is = seq_exp_gates (suc w) is.1.0 is.1.1
control_gates kinds.Par is = par_gates
control_gates kinds.If is = choice_com_gates
control_gates (kinds.IfExp zero) is = absurd (let some = is.1.0 in omega (arith, some))
control_gates (kinds.IfExp (suc w)) is = choice_exp_gates (suc w) is.1.0 is.1.1
control_gates kinds.While is = repeat_gates
control_gates k is = absurd is.0
