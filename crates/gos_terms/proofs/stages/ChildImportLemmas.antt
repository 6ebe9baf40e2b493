-- Where its node is regular and rests, so does a child's plan. It is asked where an import of it asks, since all ends of the supply of a
-- number that it uses are its own.
use Rattle.std.specs.Prelude.{◌+◌, ◌⊎◌, length, slice_get, All, Contains}
use Rattle.std.proofs.Common.{◌≡◌, ℕ, List, Option, Some, None, refl, ap}
use Rattle.gos_plan.specs.Kinds.{Part}
use Rattle.gos_plan.specs.Plans.{End, PartEnd, ImportEnd, ResultEnd, Joint, Plan}
use Rattle.gos_plan.specs.TokenBits.{LiteralFits}
use Rattle.gos_realises.specs.realises.Regular.{IsRegular}
use Rattle.gos_realises.specs.realises.Realises.{NamesDiffer}
use Rattle.gos_realises.proofs.realises.LiteralLemmas.{literals_among}
use Rattle.gos_joining.specs.webs.Webs.{Dot, Tie, Web, IsOfWeb, joint}
use Rattle.gos_joining.specs.webs.Cutting.{StandsIn, lies_at}
use Rattle.gos_supplies.specs.turns.Rests.{Rests}
use Rattle.gos_nodes.specs.folds.Folds.{IsFold, joined_cut}
use Rattle.gos_nodes.proofs.folds.RegionLemmas.{folded_joint}
use Rattle.gos_nodes.specs.windows.OpenNodes.{IsHeard}
use Rattle.gos_terms.specs.wired.Wired.{Placing, dot_at}
use Rattle.gos_terms.specs.wired.Regular.{AreRegular, RegularWired}
use Rattle.gos_terms.specs.stages.Inside.{inside_supplies}
use Rattle.gos_terms.specs.stages.Folding.{Lead, AtOwn, AtResult, led_end, Child, lodge, child_back, child_cut, child_fold, child_servings, child_web, IsChild, IsLaid}
use Rattle.gos_terms.specs.stages.Regions.{HasParts, IsStaged}
use Rattle.gos_terms.proofs.stages.InsideRegularLemmas.{inside_is_regular}
use Rattle.gos_terms.proofs.stages.ChildNameLemmas.{names_below, ends_stand}
use Rattle.gos_terms.proofs.stages.ChildFoldLemmas.{child_is_folded}
use Rattle.gos_terms.proofs.stages.StageLemmas.{has_child_of, laid_of, web_of}

-- no handshake leads to an import
no_import_lead : (q : ℕ) (o : Option Lead) (h k n : ℕ) → led_end q o h ≡ ImportEnd k n → ⊥
no_import_lead q None h k n same = let clash : ResultEnd h ≡ ImportEnd k n = same in cc clash
no_import_lead q (Some (AtOwn s)) h k n same = let clash : PartEnd q s ≡ ImportEnd k n = same in cc clash
no_import_lead q (Some (AtResult s)) h k n same = let clash : ResultEnd s ≡ ImportEnd k n = same in cc clash

module _ (f : Child) (own : List Part) (ts : List Tie) (pl plc : Placing) (r c : Plan) (is : IsChild f ts) (parts : HasParts f own r.outcome)
    (laid : IsLaid own f.numbers f.env pl r) (staged : IsStaged f pl plc r c) (web : IsOfWeb (record { ties = ts; at = dot_at f.first pl }) r) where
  literals_below : All LiteralFits r.parts → All LiteralFits c.parts
  literals_below fit = literals_among (child_cut f pl plc (length r.parts)).part c.parts r.parts (λ k x at. (staged.region.parts k x at).0) fit

  -- The child's plan is regular and rests.
  pub child_is_steady : RegularWired f.types f.uses f.term → AreRegular f.types f.env f.numbers → NamesDiffer r.imports → All LiteralFits r.parts → IsRegular c × Rests c
  child_is_steady steady all differ fit =
      steady (f.first + f.off) f.node (inside_supplies f.types f.splits f.env) plc c staged.wired
      (λ k has. inside_is_regular f.types f.splits f.env f.numbers is.agree is.split all k (is.scope k has).0)
      (names_below f own ts pl plc r c is laid staged.wired differ) (literals_below fit)

  abbrev pub whole : Web
  whole = record { ties = ts; at = dot_at f.first pl }

  pub fold : IsFold (child_fold f pl plc (length r.parts)) (child_servings f pl) whole (child_web f plc) r c
  fold = child_is_folded f own ts pl plc r c is (has_child_of f own pl plc r c parts staged) laid (laid_of f pl plc r c staged) web

  pub child_is_heard : NamesDiffer c.imports → IsHeard (joined_cut (child_cut f pl plc (length r.parts)) c.joints) r c
  child_is_heard names i h n k x stands at contact asks = (ap (λ (y : ℕ). ImportEnd y n) import_is, back)
    where
      import_is : pl.import ((lodge f).root (plc.origin i).number) (plc.origin i).import ≡ k
      import_is = cc at

      folds : (t : Joint) (y : Dot) → Contains r.joints t
          → (child_back f (dot_at f.first pl t.asking) ≡ Some y) ⊎ (child_back f (dot_at f.first pl t.serving) ≡ Some y)
          → (d e : End) × Contains c.joints (joint d e)
          × (lies_at (child_cut f pl plc (length r.parts)) d ≡ t.asking) × (lies_at (child_cut f pl plc (length r.parts)) e ≡ t.serving)
      folds t y listed which =
          folded_joint (child_fold f pl plc (length r.parts)) (child_servings f pl) whole (child_web f plc) r c t.asking t.serving y fold
          (web_of f pl plc r c staged) listed which

      back : StandsIn r (ImportEnd k n) → StandsIn c (ImportEnd i n)
      back =
          ends_stand f own ts pl plc r c is laid staged.wired c staged.region.right refl (child_cut f pl plc (length r.parts)) names (λ j s. refl)
          (λ j s m o lies. cc lies) (λ s m o lies. no_import_lead (pl.own f.own) (slice_get f.out s) s m o lies) folds i h k n stands import_is
