-- What the Shares of a node load: at most what the node does.
use Rattle.std.specs.Prelude.{◌≤◌, List}
use Rattle.std.proofs.Common.{arith}
use Rattle.gos_types.specs.declared.types.Ty.{Ty}
use Rattle.gos_check.specs.declared.linear.Split.{Split}
use Rattle.gos_check.specs.declared.linear.Node.{Node}
use Rattle.gos_check.specs.declared.linear.NodeForm.{NodeForm}
use Rattle.gos_check.specs.declared.linear.NodeForm.TheVariants as forms
use Rattle.gos_check.specs.Nodes.{numbered_of, node_seen}
use Rattle.gos_compile.specs.Wiring.{Types}
use Rattle.gos_compile.specs.inner.Loads.{splits_load, load}

splits_of_form : (types : Types) (t : Ty) (ss : List Split) (f : NodeForm) → splits_load ss types ≤ load types (numbered_of t ss f)
splits_of_form types t ss forms.Skip = omega arith
splits_of_form types t ss (forms.Lit k w) = omega arith
splits_of_form types t ss (forms.Use n) = omega arith
splits_of_form types t ss (forms.Fun' n p a qs f) = omega arith
splits_of_form types t ss (forms.New' n w p a qs f) = omega arith
splits_of_form types t ss (forms.Array' n l w p a qs f) = omega arith
splits_of_form types t ss (forms.App' p a qs f q b rs g) = omega arith
splits_of_form types t ss (forms.Pair' p a qs f q b rs g) = omega arith
splits_of_form types t ss (forms.Fst' p a qs f) = omega arith
splits_of_form types t ss (forms.Snd' p a qs f) = omega arith
splits_of_form types t ss (forms.Seq' p a qs f q b rs g) = omega arith
splits_of_form types t ss (forms.Par' p a qs f q b rs g) = omega arith
splits_of_form types t ss (forms.If' p a qs f q b rs g r c us h) = omega arith
splits_of_form types t ss (forms.While' p a qs f q b rs g) = omega arith
splits_of_form types t ss (forms.Assign' p a qs f q b rs g) = omega arith
splits_of_form types t ss (forms.Deref' p a qs f) = omega arith
splits_of_form types t ss (forms.Not' p a qs f) = omega arith
splits_of_form types t ss (forms.Bin' op p a qs f q b rs g) = omega arith

-- there is room for a node's Shares where there is room for the node
pub splits_seen : (types : Types) (node : Node) → splits_load node.splits.items types ≤ load types (node_seen node)
splits_seen types node = splits_of_form types node.ty node.splits.items node.form
