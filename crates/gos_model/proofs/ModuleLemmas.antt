-- Weights, types and links of small modules.
use Rattle.std.specs.Prelude.{◌≡◌, zero, suc, [], ◌∷◌, Contains}
use Rattle.std.proofs.Common.{arith, refl, sym, ◌∙◌}
use Rattle.gos_types.specs.Types.{Com, Fun}
use Rattle.gos_model.specs.Typing.{Thing, Named}
use Rattle.gos_types.specs.Widths.{IsWidth}
use Rattle.gos_model.specs.SmallPrograms.{c}
use Rattle.gos_model.specs.SmallModules.{f, v, Weights, Types, Shared, Links, LinkWeighs}

pub weights : Weights
weights = (refl, refl, refl, refl, refl, refl)

pub links : Links
links = refl

pub link_weighs : LinkWeighs
link_weighs = refl

pub shared : Shared
shared (t, m, n, apart) = apart (Named c) (0, omega arith, refl) (0, omega arith, refl)

only : (x y : Thing) → Contains (x ∷ []) y → y ≡ x
only x y (zero, l, e) = sym e
only x y (suc k, l, e) = let no : ⊥ = omega (arith, l) in absurd no

apart : (t : Thing) → Contains (Named f ∷ []) t → Contains (Named v ∷ []) t → ⊥
apart t h k = let e : Named f ≡ Named v = sym (only _ t h) ∙ only _ t k in grind (arith, e)

w8 : IsWidth 8
w8 = (omega arith, omega arith)

pub types : Types
types = (
  (
    Fun Com Com,
    refl,
    (
      Com,
      refl,
      (
        tt,
        w8,
        (
          tt,
          (8, refl, refl, refl),
          (
            refl,
            (1, refl, (8, refl, (8, refl, refl), (refl, w8, omega arith))),
            (tt, refl, (8, refl, refl, (8, refl, (8, refl, refl), (refl, w8, omega arith)))),
          ),
        ),
      ),
    ),
  ),
  (
    tt,
    (Com, refl, (8, refl, refl, (refl, w8, omega arith)), apart),
    (Com, refl, (8, refl, refl, (refl, w8, omega arith)), apart),
  ),
)
