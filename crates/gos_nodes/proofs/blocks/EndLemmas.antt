-- Where an end of a block's body stands in the whole: at an end of one of its own parts, at an import of the whole, or at an end of the
-- server.
use Rattle.std.specs.Prelude.{◌≡◌, ℕ, suc, Some}
use Rattle.std.proofs.Common.{refl, sym, ap, inl, inr, ◌∙◌}
use Rattle.gos_plan.specs.Plans.{End, PartEnd, ImportEnd, ResultEnd, Plan}
use Rattle.gos_joining.specs.webs.Cutting.{lies_at}
use Rattle.gos_nodes.specs.blocks.Block.{Block, IsBlock}
use Rattle.gos_nodes.proofs.parallel.HungLemmas.{HeldBy}
use Rattle.gos_nodes.proofs.blocks.RegionLemmas.{IsPort, Which, variable, other, which, served_at, body_shake, port_lies_at}

-- where an end of the body stands in the whole
pub data Lies (b : Block) (e : End) : Type 0 where
  in_part : (i j n : ℕ) → e ≡ PartEnd i n → b.cut.number i ≡ Some j → Lies b e
  at_import : (i j n : ℕ) → e ≡ ImportEnd j n → b.cut.inner (ImportEnd j n) ≡ Some (ImportEnd i n) → Lies b e
  at_driver : (h : ℕ) → e ≡ PartEnd b.own h → Lies b e

pub lies : (r : Plan) (b : Block) → IsBlock r b → (n : End) → HeldBy (IsPort b) b.body n → Lies b (lies_at b.cut n)
lies r b is (PartEnd j k) (inl (part, there)) = in_part (b.cut.part j) j k refl (is.cut.parts j part there).1
lies r b is (ImportEnd i k) (inl stands) = by_which (which b i)
  where
    by_which : Which b i → Lies b (b.cut.outer (ImportEnd i k))
    by_which (variable same) = at_driver (suc k) (served_at r b is i k same)
    by_which (other apart) =
        let (j, leads, slices) = is.imports i k apart stands in
        at_import i j k leads (ap b.cut.inner (sym leads) ∙ (is.cut.ports (ImportEnd i k) tt stands).1)
lies r b is (ResultEnd k) (inl stands) = at_driver 0 (ap (λ n. b.cut.outer (ResultEnd n)) (body_shake r b is k stands) ∙ is.result)
lies r b is e (inr (h, apart, same)) = at_driver h (ap (lies_at b.cut) same ∙ port_lies_at r b is h)
