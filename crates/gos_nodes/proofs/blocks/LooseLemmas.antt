-- An input at an end that stands in no joint, of an import of which the body has another end: it is the body's, and nothing comes in.
use Rattle.std.specs.Prelude.{◌≡◌, ℕ, true, All, List, Some, None}
use Rattle.std.proofs.Common.{sym, ap, ◌∙◌}
use Rattle.gos_plan.specs.Firing.{State}
use Rattle.gos_plan.specs.Plans.{End, PartEnd, ImportEnd, Plan, same_end}
use Rattle.gos_plan.specs.Tokens.{Tokens, In, Does}
use Rattle.gos_plan.specs.Orderly.{Open, with_open, ComesInOrder}
use Rattle.gos_plan.specs.TokenBits.{LiteralFits}
use Rattle.gos_plan.proofs.HeldLemmas as held
use Rattle.gos_plan.proofs.JointLemmas.{apart_is_not_same}
use Rattle.gos_joining.specs.webs.Cutting.{lies_at}
use Rattle.gos_realises.specs.realises.Regular.{Pass}
use Rattle.gos_realises.proofs.realises.RingLemmas.{after}
use Rattle.gos_nodes.proofs.blocks.EndLemmas.{Lies, in_part, at_import, at_driver, lies}
use Rattle.gos_nodes.proofs.parallel.GateLemmas.{Same}
use Rattle.gos_nodes.proofs.parallel.OpenLemmas.{opened_so, AgreeBy}
use Rattle.gos_nodes.specs.blocks.Block.{Block, IsBlock}
use Rattle.gos_nodes.proofs.blocks.RegionLemmas.{IsPort}
use Rattle.gos_nodes.proofs.blocks.OrderLemmas.{Opened}

module _ (r : Plan) (b : Block) (is : IsBlock r b) (k n : ℕ) (none : b.cut.inner (ImportEnd k n) ≡ None) where
  -- it is none of the body's ends
  not_lies : (e : End) → Lies b e → e ≡ ImportEnd k n → ⊥
  not_lies e (in_part i j m at number) same = let bad : PartEnd i m ≡ ImportEnd k n = sym at ∙ same in cc bad
  not_lies e (at_import i j m at inner) same =
      let there : ImportEnd j m ≡ ImportEnd k n = sym at ∙ same in
      let clash : None ≡ Some (ImportEnd i m) = sym none ∙ (ap b.cut.inner (sym there) ∙ inner) in cc clash
  not_lies e (at_driver h at) same = let bad : PartEnd b.own h ≡ ImportEnd k n = sym at ∙ same in cc bad

  loose_agrees : (i : ℕ) → b.cut.outer (ImportEnd i n) ≡ ImportEnd k n → (o own : Open) → AgreeBy (IsPort b) b.cut b.body o own
      → AgreeBy (IsPort b) b.cut b.body (with_open (ImportEnd k n) true o) (with_open (ImportEnd i n) true own)
  loose_agrees i leads o own agree m also =
      opened_so (same_end (lies_at b.cut m) (ImportEnd k n)) true (o (lies_at b.cut m))
      (apart_is_not_same (lies_at b.cut m) (ImportEnd k n) (λ e. not_lies (lies_at b.cut m) (lies r b is m also) e))
      ∙ (agree m also ∙ sym (opened_so (same_end m (ImportEnd i n)) true (own m) (apart_is_not_same m (ImportEnd i n) not_own)))
    where
      not_own : m ≡ ImportEnd i n → ⊥
      not_own e = not_lies (lies_at b.cut m) (lies r b is m also) (ap (lies_at b.cut) e ∙ leads)

  pub opened_loose : (literals : All LiteralFits r.parts) (v : ℕ) (s w : Tokens) (past : List Pass) (o lo : Open) → Opened r b is literals past o lo s → Same b.own s w
      → Does r (In (ImportEnd k n) v) s w → ComesInOrder r (In (ImportEnd k n) v) s o (with_open (ImportEnd k n) true o)
      → (i : ℕ) → b.cut.outer (ImportEnd i n) ≡ ImportEnd k n
      → Opened r b is literals (after r (In (ImportEnd k n) v) past) (with_open (ImportEnd k n) true o) (with_open (ImportEnd i n) true lo) w
  opened_loose literals v s w past o lo opened same does comes i leads =
      record {
        agree = loose_agrees i leads o lo opened.agree;
        result = opened.result;
        waits = opened.waits ∙ ap (λ (c : State). b.server.runs c.phase) (sym same.state);
        fit = held.step r (In (ImportEnd k n) v) o (with_open (ImportEnd k n) true o) s w does comes opened.fit;
      }
