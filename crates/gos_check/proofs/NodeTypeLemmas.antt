-- The type of a node as it is seen is the node's own.
use Rattle.std.specs.Prelude.{◌≡◌, List}
use Rattle.std.proofs.Common.{refl}
use Rattle.gos_types.specs.declared.types.Ty.{Ty}
use Rattle.gos_types.specs.Types.{type_of}
use Rattle.gos_check.specs.declared.linear.Split.{Split}
use Rattle.gos_check.specs.declared.linear.Node.{Node}
use Rattle.gos_check.specs.declared.linear.NodeForm.{NodeForm}
use Rattle.gos_check.specs.declared.linear.NodeForm.TheVariants as forms
use Rattle.gos_check.specs.Nodes.{numbered_of, node_seen, type_of_node}

type_of_form : (t : Ty) (ss : List Split) (f : NodeForm) → type_of t ≡ type_of_node (numbered_of t ss f)
type_of_form t ss forms.Skip = refl
type_of_form t ss (forms.Lit k w) = refl
type_of_form t ss (forms.Use n) = refl
type_of_form t ss (forms.Fun' n p a qs f) = refl
type_of_form t ss (forms.New' n w p a qs f) = refl
type_of_form t ss (forms.Array' n l w p a qs f) = refl
type_of_form t ss (forms.App' p a qs f q b rs g) = refl
type_of_form t ss (forms.Pair' p a qs f q b rs g) = refl
type_of_form t ss (forms.Fst' p a qs f) = refl
type_of_form t ss (forms.Snd' p a qs f) = refl
type_of_form t ss (forms.Seq' p a qs f q b rs g) = refl
type_of_form t ss (forms.Par' p a qs f q b rs g) = refl
type_of_form t ss (forms.If' p a qs f q b rs g r c us h) = refl
type_of_form t ss (forms.While' p a qs f q b rs g) = refl
type_of_form t ss (forms.Assign' p a qs f q b rs g) = refl
type_of_form t ss (forms.Deref' p a qs f) = refl
type_of_form t ss (forms.Not' p a qs f) = refl
type_of_form t ss (forms.Bin' op p a qs f q b rs g) = refl

pub type_seen : (node : Node) → type_of node.ty ≡ type_of_node (node_seen node)
type_seen node = type_of_form node.ty node.splits.items node.form
