-- Where an end of a region stands in the whole: at an end of one of its own parts, at an import of the whole, or at the end that asks it.
use Rattle.std.specs.Prelude.{◌≡◌, ℕ, Some}
use Rattle.std.proofs.Common.{refl, sym, ap, inl, inr, ◌∙◌}
use Rattle.gos_plan.specs.Plans.{End, PartEnd, ImportEnd, ResultEnd, Plan}
use Rattle.gos_joining.specs.webs.Cutting.{Cut, lies_at}
use Rattle.gos_nodes.specs.parallel.Parallel.{IsSide}
use Rattle.gos_nodes.proofs.parallel.HungLemmas.{Held}
use Rattle.gos_nodes.proofs.parallel.RegionLemmas.{side_shake}

-- where an end of a region stands in the whole
pub data Lies (d h : ℕ) (f : Cut) (b : End) : Type 0 where
  in_part : (i j k : ℕ) → b ≡ PartEnd i k → f.number i ≡ Some j → Lies d h f b
  at_import : (i j k : ℕ) → b ≡ ImportEnd j k → f.inner (ImportEnd j k) ≡ Some (ImportEnd i k) → Lies d h f b
  at_driver : b ≡ PartEnd d h → Lies d h f b

pub lies : (d h : ℕ) (f : Cut) (r p : Plan) → IsSide d h f r p → (n : End) → Held p n → Lies d h f (lies_at f n)
lies d h f r p side (PartEnd j k) (inl (part, there)) = in_part (f.part j) j k refl (side.cut.parts j part there).1
lies d h f r p side (PartEnd j k) (inr is) = absurd (cc is)
lies d h f r p side (ImportEnd i k) (inl stands) =
    let (j, leads, same) = side.imports i k stands in
    at_import i j k leads (ap f.inner (sym leads) ∙ (side.cut.ports (ImportEnd i k) tt stands).1)
lies d h f r p side (ImportEnd i k) (inr is) = absurd (cc is)
lies d h f r p side (ResultEnd k) (inl stands) =
    at_driver (ap (λ n. f.outer (ResultEnd n)) (side_shake d h f r p side k stands) ∙ side.result)
lies d h f r p side (ResultEnd k) (inr is) = at_driver (ap (lies_at f) is ∙ side.result)
