-- The whole with a part that has changed.
use Rattle.std.proofs.Common.{◌≡◌, ℕ, List, [], ◌∷◌, length, refl, sym, ap, subst, Some, None, ◌∙◌}
use Rattle.std.proofs.lemmas.Option.{none-some, same_Some}
use Rattle.gos_model.specs.Terms.{Term}
use Rattle.gos_model.specs.Reach.{Rel}
use Rattle.gos_witness.specs.declared.walking.Zone.{Zone}
use Rattle.gos_witness.specs.declared.walking.Frame.{Frame}
use Rattle.gos_witness.specs.declared.walking.Place.{Place}
use Rattle.gos_witness.specs.NodeLists.{Listed, seen}
use Rattle.gos_witness.specs.inner.Keeping.{Keeps}
use Rattle.gos_witness.specs.inner.Places.{part_at, replaced, At, fill, plug, AreFrames, IsPlace}
use Rattle.gos_witness.proofs.PlaceLemmas.{IsStart, at_found, changed_at, fill_keeps}

-- frames in a list that grows
pub plug_keeps : (l l' : Listed) (fs : List Frame) (m : Term) → Keeps l l' → AreFrames l.tables (length l.nodes) fs → plug l' fs m ≡ plug l fs m
plug_keeps l l' [] m k are = refl
plug_keeps l l' (f ∷ fs) m k are = fill_keeps l l' f (plug l' fs m) k are.0 ∙ ap (fill l f) (plug_keeps l l' fs m k are.1)

-- the part at a place has changed, and was put in again
pub changed : (z : Zone) → IsStart z → (R : Rel) (path : List ℕ) (a b c : Listed) (root next whole : ℕ) (place : Place) → IsPlace a root z path place → Keeps a b
    → R (seen a place.node) (seen b next) → seen c whole ≡ plug b place.frames.items (seen b next) → At z path R (seen a root) (seen c whole)
changed z start R path a b c root next whole place is keeps r e =
    let y = seen b next in
    let same : seen c whole ≡ replaced z path (seen a root) y =
    e ∙ plug_keeps a b place.frames.items y keeps is.frames ∙ sym (is.whole y) in
    subst (λ (t : Term). At z path R (seen a root) t) (sym same) (changed_at z start R path (seen a root) (seen a place.node) y is.part r)

-- there is no such place
pub no_place : (z : Zone) (R : Rel) (path : List ℕ) (m t : Term) → part_at z path m ≡ None → At z path R m t → ⊥
no_place z R path m t none h = let (x, y, at, r, is) = at_found z R path m t h in none-some x (sym none ∙ at)

-- nothing changes there
pub no_change : (z : Zone) (R : Rel) (path : List ℕ) (m x t : Term) → part_at z path m ≡ Some x → ((y : Term) → R x y → ⊥) → At z path R m t → ⊥
no_change z R path m x t some none h =
    let (u, y, at, r, is) = at_found z R path m t h in
    none y (subst (λ (v : Term). R v y) (same_Some u x (sym at ∙ some)) r)
