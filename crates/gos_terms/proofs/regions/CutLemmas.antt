-- A region without Shares is cut, and the literals of its parts fit where those of the whole do.
use Rattle.std.specs.Prelude.{[], ◌⊎◌, All, Contains}
use Rattle.std.proofs.Common.{◌≡◌, inl, inr, arith}
use Rattle.gos_plan.specs.Plans.{End, Plan}
use Rattle.gos_plan.specs.TokenBits.{LiteralFits}
use Rattle.gos_realises.proofs.realises.LiteralLemmas.{literals_among}
use Rattle.gos_joining.specs.webs.Webs.{joint}
use Rattle.gos_joining.specs.webs.Cutting.{Cut, IsCut, lies_at, IsInside}
use Rattle.gos_nodes.specs.windows.Regions.{IsOther}
use Rattle.gos_terms.specs.regions.Frames.{RegionIsCut}

none_other : (e : End) → IsOther [] e → ⊥
none_other e (n, j, (i, lt, same), small, at) = omega (arith, lt)

pub region_is_cut : RegionIsCut
region_is_cut f r c is =
    record {
      whole_right = is.whole_right;
      right = is.right;
      parts = is.parts;
      numbers = is.numbers;
      ports = is.ports;
      inners = is.inners;
      contacts = is.contacts;
      joints = is.joints;
      all = λ a b has inside. joined_one a b inside (is.all a b has inside);
    }
  where
    none_inside : (a b : End) → IsInside f a ⊎ IsInside f b → (IsInside f a → IsOther [] a) × (IsInside f b → IsOther [] b) → ⊥
    none_inside a b (inl one) (left, right) = none_other a (left one)
    none_inside a b (inr other) (left, right) = none_other b (right other)

    joined_one :
        (a b : End) → IsInside f a ⊎ IsInside f b
        → ((d e : End) × Contains c.joints (joint d e) × (lies_at f d ≡ a) × (lies_at f e ≡ b))
        ⊎ ((IsInside f a → IsOther [] a) × (IsInside f b → IsOther [] b))
        → (d e : End) × Contains c.joints (joint d e) × (lies_at f d ≡ a) × (lies_at f e ≡ b)
    joined_one a b inside (inl found) = found
    joined_one a b inside (inr others) = absurd (none_inside a b inside others)

pub literals_within : (f : Cut) (r c : Plan) → IsCut f r c → All LiteralFits r.parts → All LiteralFits c.parts
literals_within f r c cut fit = literals_among f.part c.parts r.parts (λ k x at. (cut.parts k x at).0) fit
