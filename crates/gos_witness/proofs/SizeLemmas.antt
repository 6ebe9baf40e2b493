-- How many nodes and binders a form adds to those of its parts.
use Rattle.std.proofs.Common.{◌≡◌, ◌+◌, refl}
use Rattle.gos_model.specs.Terms.{Term}
use Rattle.gos_witness.specs.Sizes.{size}
use Rattle.gos_witness.specs.declared.nodes.OnePart.{OnePart}
use Rattle.gos_witness.specs.declared.nodes.OnePart.TheVariants as one
use Rattle.gos_witness.specs.declared.nodes.TwoParts.{TwoParts}
use Rattle.gos_witness.specs.declared.nodes.TwoParts.TheVariants as two
use Rattle.gos_witness.specs.NodeLists.{Tables, one_term, two_term}

pub size_one : (a : Tables) (o : OnePart) (m : Term) → size (one_term a o m) ≡ 1 + size m
size_one a (one.Lam t) m = refl
size_one a (one.New w) m = refl
size_one a (one.NewArray n w) m = refl
size_one a one.Fst m = refl
size_one a one.Snd m = refl
size_one a one.Deref m = refl
size_one a one.Not m = refl
size_one a (one.Scope p) m = refl
size_one a (one.Held j op) m = refl
size_one a (one.Put j) m = refl

pub size_two : (o : TwoParts) (m p : Term) → size (two_term o m p) ≡ 1 + size m + size p
size_two two.App m p = refl
size_two two.Both m p = refl
size_two two.Seq m p = refl
size_two two.Par m p = refl
size_two two.While m p = refl
size_two two.Assign m p = refl
size_two (two.Bin op) m p = refl
