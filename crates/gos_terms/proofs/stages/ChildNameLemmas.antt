-- What a child has of the imports of its node: each of its own is one of the node's, which tells the number that it is of. So they have
-- different names, and the child has all that stands at an end of such an import, where it has one.
use Rattle.std.specs.Prelude.{◌+◌, ◌<◌, ◌⊎◌, true, slice_get, Contains, nat_lt}
use Rattle.std.proofs.Common.{◌≡◌, ℕ, suc, List, Option, Some, None, inl, inr, sym, ◌∙◌, ap, subst, arith}
use Rattle.std.proofs.lemmas.Option.{same_Some}
use Rattle.std.proofs.lemmas.Bool.Decides.{nat_tests}
use Rattle.gos_model.specs.Typing.{Imported, Imports}
use Rattle.gos_check.specs.Linearity.{times}
use Rattle.gos_check.proofs.TimesLemmas.{some_times}
use Rattle.gos_plan.specs.Kinds.{Part}
use Rattle.gos_plan.specs.Plans.{End, PartEnd, ImportEnd, ResultEnd, Joint, Plan, IsRight}
use Rattle.gos_plan.proofs.JointLemmas.{asking_stands, serving_stands, which_end}
use Rattle.gos_realises.specs.realises.Realises.{NamesDiffer}
use Rattle.gos_realises.proofs.realises.ToldLemmas.{there_is}
use Rattle.gos_joining.specs.webs.Webs.{Dot, Of, Within, Tie, joint}
use Rattle.gos_joining.specs.webs.Cutting.{Cut, StandsIn, lies_at}
use Rattle.gos_nodes.proofs.windows.PortLemmas.{stands_contact, one_place}
use Rattle.gos_terms.specs.wired.Wired.{Supplies, Placing, Origin, IsWired, dot_at}
use Rattle.gos_terms.proofs.wired.NameLemmas.{names_differ_along}
use Rattle.gos_terms.specs.stages.Inside.{inside_supplies}
use Rattle.gos_terms.specs.stages.Lodging.{Spot}
use Rattle.gos_terms.specs.stages.Folding.{Child, is_used, lodge, spot_dot, child_back, IsChild, IsLaid}
use Rattle.gos_terms.proofs.stages.LodgingLemmas.{lodged_are_inside}
use Rattle.gos_terms.proofs.stages.PartHomeLemmas.{numbers_are_at_home}
use Rattle.gos_terms.proofs.stages.HousingLemmas.{imports_are_from}

used_so : (n : ℕ) (ns : List ℕ) → Contains ns n → nat_lt 0 (times n ns) ≡ true
used_so n ns has = let some : 0 < times n ns = some_times n ns has in grind (arith, nat_tests, some)

-- the number of an end's plan
abbrev number_at : Option Spot → ℕ
number_at None = 0
number_at (Some z) = z.number

module _ (f : Child) (own : List Part) (ts : List Tie) (pl plc : Placing) (r c : Plan) (is : IsChild f ts) (laid : IsLaid own f.numbers f.env pl r)
    (wired : IsWired f.types (f.first + f.off) f.node f.term f.uses (inside_supplies f.types f.splits f.env) plc c) where
  -- what stands for its numbers
  abbrev Inner : Supplies
  Inner = inside_supplies f.types f.splits f.env

  abbrev pub root : ℕ → ℕ
  root n = (lodge f).root n

  -- the imports of what stands for a number are those of a supply outside
  rooted : (n : ℕ) → Contains f.uses n → Contains f.numbers (root n) × ((Inner n).plan.imports ≡ (f.env (root n)).plan.imports)
  rooted n has =
      let (there, same) = imports_are_from f.types f.first (is_used f) f.splits f.env f.numbers n is.tidy is.split (is.scope n has).0 in
      (there, ap (λ (e : Supplies). (e n).plan.imports) (sym (lodged_are_inside f.types f.first (is_used f) f.splits f.env)) ∙ same)

  -- and so they are imports of the node
  pub outside : (n q : ℕ) (x : Imported) → Contains f.uses n → slice_get (Inner n).plan.imports q ≡ Some x
      → (slice_get r.imports (pl.import (root n) q) ≡ Some x) × (pl.origin (pl.import (root n) q) ≡ record { number = root n; import = q })
  outside n q x has at =
      let (there, same) = rooted n has in
      laid.imports (root n) q x there (ap (λ (xs : Imports). slice_get xs q) (sym same) ∙ at)

  -- all their ends are the child's
  home_at : (n : ℕ) → Contains f.uses n → (q h : ℕ) → (lodge f).home (Within (suc (root n)) (Of (ImportEnd q h))) ≡ Some (record { number = n; end = ImportEnd q h })
  home_at n has q h =
      (numbers_are_at_home f.types f.first (is_used f) f.splits f.env f.numbers n is.tidy (is.scope n has).1 (used_so n f.uses has)).imports q h

  -- so they tell the number
  told : (n k q : ℕ) → Contains f.uses n → Contains f.uses k → root n ≡ root k → n ≡ k
  told n k q has also same =
      ap number_at (sym (home_at n has q 0) ∙ (ap (λ (m : ℕ). (lodge f).home (Within (suc m) (Of (ImportEnd q 0)))) same ∙ home_at k also q 0))

  apart : (k l p q : ℕ) (x y : Imported) → Contains f.uses k → Contains f.uses l → slice_get (Inner k).plan.imports p ≡ Some x
      → slice_get (Inner l).plan.imports q ≡ Some y → pl.import (root k) p ≡ pl.import (root l) q → (k ≡ l) × (p ≡ q)
  apart k l p q x y has also at_k at_l same =
      let origins : record { number = root k; import = p } ≡ record { number = root l; import = q } =
      sym (outside k p x has at_k).1 ∙ (ap pl.origin same ∙ (outside l q y also at_l).1) in
      (told k l 0 has also (ap (λ (o : Origin). o.number) origins), ap (λ (o : Origin). o.import) origins)

  pub names_below : NamesDiffer r.imports → NamesDiffer c.imports
  names_below =
      names_differ_along f.types (f.first + f.off) f.node f.term f.uses Inner plc c wired r.imports (λ k q. pl.import (root k) q)
      (λ k q x has at. (outside k q x has at).0) apart

  -- an import of the child is one of the node
  pub record InNode (i : ℕ) : Type 0 where
    pub import : Imported
    pub within : slice_get c.imports i ≡ Some import
    pub used : Contains f.uses (plc.origin i).number
    pub outside_at : slice_get r.imports (pl.import (root (plc.origin i).number) (plc.origin i).import) ≡ Some import
    pub origin :
        pl.origin (pl.import (root (plc.origin i).number) (plc.origin i).import)
        ≡ record { number = root (plc.origin i).number; import = (plc.origin i).import }

  pub of_import : (i : ℕ) (y : Imported) → slice_get c.imports i ≡ Some y → InNode i
  of_import i y is_y =
      let (used, there, back) = wired.no_import i y is_y in
      let (outer, origin) = outside (plc.origin i).number (plc.origin i).import y used there in
      record { import = y; within = is_y; used = used; outside_at = outer; origin = origin }

  -- with a plan q of these imports, which lies in the node as the cut has it, where its joints are those that stand for the child's
  module _ (q : Plan) (right : IsRight q) (imports : q.imports ≡ c.imports) where
    pub in_node : (i h : ℕ) → StandsIn q (ImportEnd i h) → InNode i
    in_node i h stands =
        let (x, at) = stands_contact q right (ImportEnd i h) stands in
        let (y, is_y) = there_is q.imports i h x at in of_import i y (ap (λ (xs : Imports). slice_get xs i) (sym imports) ∙ is_y)

    module _ (cut : Cut) (names : NamesDiffer c.imports)
        (ports : (i h : ℕ) → lies_at cut (ImportEnd i h) ≡ ImportEnd (pl.import (root (plc.origin i).number) (plc.origin i).import) h)
        (no_part : (i h k n : ℕ) → lies_at cut (PartEnd i h) ≡ ImportEnd k n → ⊥)
        (no_result : (h k n : ℕ) → lies_at cut (ResultEnd h) ≡ ImportEnd k n → ⊥)
        (folds : (t : Joint) (x : Dot) → Contains r.joints t
        → (child_back f (dot_at f.first pl t.asking) ≡ Some x) ⊎ (child_back f (dot_at f.first pl t.serving) ≡ Some x)
        → (d e : End) × Contains q.joints (joint d e) × (lies_at cut d ≡ t.asking) × (lies_at cut e ≡ t.serving)) where
      abbrev dot_of : ℕ → ℕ → Dot
      dot_of i n = Within (suc (plc.origin i).number) (Of (ImportEnd (plc.origin i).import n))

      pub ends_stand : (i h k n : ℕ) → StandsIn q (ImportEnd i h) → pl.import (root (plc.origin i).number) (plc.origin i).import ≡ k
          → StandsIn r (ImportEnd k n) → StandsIn q (ImportEnd i n)
      ends_stand i h k n stands import_is (t, listed, stands_there) = by_end (which_end (ImportEnd k n) t stands_there)
        where
          it : InNode i
          it = in_node i h stands

          home : child_back f (dot_at f.first pl (ImportEnd k n)) ≡ Some (dot_of i n)
          home =
              ap (λ (o : Origin). child_back f (Within (suc o.number) (Of (ImportEnd o.import n)))) (ap pl.origin (sym import_is) ∙ it.origin)
              ∙ ap spot_dot (home_at (plc.origin i).number it.used (plc.origin i).import n)

          -- an end of a joint of the child that lies there
          of_end : (e : End) → StandsIn q e → lies_at cut e ≡ ImportEnd k n → StandsIn q (ImportEnd i n)
          of_end (PartEnd j s) there lies = absurd (no_part j s k n lies)
          of_end (ResultEnd s) there lies = absurd (no_result s k n lies)
          of_end (ImportEnd j s) there lies =
              let other = in_node j s there in
              let leads : ImportEnd (pl.import (root (plc.origin j).number) (plc.origin j).import) s ≡ ImportEnd k n = sym (ports j s) ∙ lies in
              let lands : pl.import (root (plc.origin j).number) (plc.origin j).import ≡ k = cc leads in
              let shake : s ≡ n = cc leads in
              let same : other.import ≡ it.import =
              same_Some other.import it.import (sym other.outside_at ∙ (ap (slice_get r.imports) (lands ∙ sym import_is) ∙ it.outside_at)) in
              let one : j ≡ i = one_place c.imports names j i it.import (other.within ∙ ap (λ (y : Imported). Some y) same) it.within in
              subst (λ (y : ℕ). StandsIn q (ImportEnd y n)) one (subst (λ (y : ℕ). StandsIn q (ImportEnd j y)) shake there)

          by_end : (ImportEnd k n ≡ t.asking) ⊎ (ImportEnd k n ≡ t.serving) → StandsIn q (ImportEnd i n)
          by_end (inl same) =
              let (d, e, there, lies_d, lies_e) = folds t (dot_of i n) listed (inl (ap (λ (y : End). child_back f (dot_at f.first pl y)) (sym same) ∙ home)) in
              of_end d (joint d e, there, asking_stands (joint d e)) (lies_d ∙ sym same)
          by_end (inr same) =
              let (d, e, there, lies_d, lies_e) = folds t (dot_of i n) listed (inr (ap (λ (y : End). child_back f (dot_at f.first pl y)) (sym same) ∙ home)) in
              of_end e (joint d e, there, serving_stands (joint d e)) (lies_e ∙ sym same)
