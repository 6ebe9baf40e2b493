-- The plan of a child: its own parts, and those of its supplies one after another.
use Rattle.std.specs.Prelude.{◌+◌, ◌-◌, ◌<◌, ◌≤◌, length, nat_lt, slice_get}
use Rattle.std.proofs.Common.{◌≡◌, ℕ, Bool, true, false, List, [], ◌++◌, Some, refl, sym, ◌∙◌, ap, subst, arith, if◌then◌else◌}
use Rattle.std.proofs.lemmas.Bool.Decides.{nat_tests}
use Rattle.std.proofs.lemmas.Option.{slice_get_within}
use Rattle.std.proofs.lemmas.Bool.{lt-ltb, le-ltb}
use Rattle.gos_types.proofs.ListLemmas.{found_in_front, found_behind}
use Rattle.gos_model.specs.Typing.{Imported}
use Rattle.gos_check.specs.Nodes.{type_of_node}
use Rattle.gos_check.specs.Linearity.{times}
use Rattle.gos_plan.specs.Kinds.{Part}
use Rattle.gos_plan.specs.Plans.{Plan, Joint}
use Rattle.gos_joining.specs.webs.Webs.{IsOfWeb}
use Rattle.gos_nodes.specs.folds.Folds.{with_joints}
use Rattle.gos_nodes.proofs.folds.PlanLemmas.{fold_has_plan}
use Rattle.gos_compile.specs.Wiring.{parts_of}
use Rattle.gos_terms.specs.wired.Wired.{Supplies, Source, Own, Supplied, Placing, IsFrom, placed, IsWired, dot_at}
use Rattle.gos_terms.specs.stages.Inside.{inside_supplies}
use Rattle.gos_terms.specs.stages.Folding.{is_used, lodge, child_web, child_fold, child_servings, IsLaid}
use Rattle.gos_terms.specs.stages.Folded.{HasChild}
use Rattle.gos_terms.specs.stages.Regions.{ChildIsStaged}
use Rattle.gos_terms.proofs.stages.LodgingLemmas.{lodged_are_inside}
use Rattle.gos_terms.proofs.stages.ChildFoldLemmas.{child_is_folded}
use Rattle.gos_terms.proofs.stages.LayoutLemmas.{Found, in_front, in_back, all, place, find, placed_there, placed_found, is_found}

module _ (own : List Part) (ns : List ℕ) (env : Supplies) (once : (k : ℕ) → times k ns ≤ 1) where
  abbrev pub parts_for : ℕ → List Part
  parts_for n = (env n).plan.parts

  abbrev pub imports_for : ℕ → List Imported
  imports_for n = (env n).plan.imports

  abbrev source_at : Found → Source
  source_at d = Supplied d.number d.index

  abbrev pub laying : Placing
  laying =
      record {
        own = λ k. k;
        supplied = λ n k. length own + place parts_for ns n k;
        import = place imports_for ns;
        source = λ j. if nat_lt j (length own) then Own j else source_at (find parts_for ns (j - length own));
        origin = λ j. record { number = (find imports_for ns j).number; import = (find imports_for ns j).index };
      }

  -- a plan with these parts and imports
  module _ (c : Plan) (parts : c.parts ≡ own ++ all parts_for ns) (imports : c.imports ≡ all imports_for ns) where
    there : (x : Part) (s : Source) → IsFrom own ns env x s → (slice_get c.parts (placed laying s) ≡ Some x) × (laying.source (placed laying s) ≡ s)
    there x (Own k) at = (
      ap (λ (xs : List Part). slice_get xs k) parts ∙ found_in_front own (all parts_for ns) k x at,
      ap (λ (b : Bool). if b then Own k else source_at (find parts_for ns (k - length own))) (lt-ltb k (length own) (slice_get_within own k x at)),
    )
    there x (Supplied n k) (listed, at) = (
      ap (λ (xs : List Part). slice_get xs (length own + place parts_for ns n k)) parts
          ∙ (found_behind own (all parts_for ns) (place parts_for ns n k) ∙ placed_there parts_for ns n k x listed at),
      ap (λ (b : Bool). if b then Own (length own + place parts_for ns n k) else source_at (find parts_for ns (length own + place parts_for ns n k - length own)))
          (le-ltb (length own + place parts_for ns n k) (length own) (omega arith))
          ∙ (ap (λ (j : ℕ). source_at (find parts_for ns j)) (less (length own) (place parts_for ns n k))
          ∙ ap source_at (placed_found parts_for ns n k listed (slice_get_within (parts_for n) k x at))),
    )
      where
        less : (a b : ℕ) → a + b - a ≡ b
        less a b = omega arith

    none_else : (j : ℕ) (x : Part) → slice_get c.parts j ≡ Some x → IsFrom own ns env x (laying.source j) × (placed laying (laying.source j) ≡ j)
    none_else j x at = by_size (nat_lt j (length own)) refl
      where
        listed : slice_get (own ++ all parts_for ns) j ≡ Some x
        listed = ap (λ (xs : List Part). slice_get xs j) (sym parts) ∙ at

        told_low : nat_lt j (length own) ≡ true → j < length own
        told_low h = grind (arith, nat_tests, h)

        told_high : nat_lt j (length own) ≡ false → length own ≤ j
        told_high h = grind (arith, nat_tests, h)

        by_size : (b : Bool) → nat_lt j (length own) ≡ b → IsFrom own ns env x (laying.source j) × (placed laying (laying.source j) ≡ j)
        by_size true t =
            subst (λ (b : Bool). IsFrom own ns env x (if b then Own j else source_at (find parts_for ns (j - length own)))
            × (placed laying (if b then Own j else source_at (find parts_for ns (j - length own))) ≡ j)) (sym t)
            (in_front own (all parts_for ns) j x listed (told_low t), refl)
        by_size false t =
            let le = told_high t in
            let it = is_found parts_for ns (j - length own) x once (in_back own (all parts_for ns) j x listed le) in
            let back = it.back in
            subst (λ (b : Bool). IsFrom own ns env x (if b then Own j else source_at (find parts_for ns (j - length own)))
            × (placed laying (if b then Own j else source_at (find parts_for ns (j - length own))) ≡ j)) (sym t)
            ((it.listed, it.there), ap (λ (m : ℕ). length own + m) back ∙ sum le)
          where
            sum : length own ≤ j → length own + (j - length own) ≡ j
            sum le = omega (arith, le)

    pub laid_so : IsLaid own ns env laying c
    laid_so =
        record {
          parts = there;
          no_more = none_else;
          imports =
              λ n k x listed at. (
                ap (λ (xs : List Imported). slice_get xs (place imports_for ns n k)) imports ∙ placed_there imports_for ns n k x listed at,
                ap (λ (d : Found). record { number = d.number; import = d.index }) (placed_found imports_for ns n k listed (slice_get_within (imports_for n) k x at)),
              );
          no_import =
              λ k x at.
              let it = is_found imports_for ns k x once (ap (λ (xs : List Imported). slice_get xs k) (sym imports) ∙ at) in
              (it.listed, it.there, it.back);
        }

pub child_is_staged : ChildIsStaged
child_is_staged f own ts pl r is has once laid web =
    let (js, of_web, region) =
    fold_has_plan (child_fold f pl plc (length r.parts)) (child_servings f pl) (record { ties = ts; at = dot_at f.first pl }) (child_web f plc) r c
    (child_is_folded f own ts pl plc r c is has_child laid laidc web)
    in
    (plc, with_joints c js, record { wired = wired js of_web; region = region })
  where
    plc : Placing
    plc = laying (parts_of f.types f.term) f.uses (lodge f).env once

    c : Plan
    c =
        record {
          weight = 0;
          imports = all (imports_for (parts_of f.types f.term) f.uses (lodge f).env once) f.uses;
          outcome = type_of_node f.term;
          parts = parts_of f.types f.term ++ all (parts_for (parts_of f.types f.term) f.uses (lodge f).env once) f.uses;
          joints = [];
        }

    has_child : HasChild f own r.outcome c
    has_child = record { shares = has.shares; child = has.child; outcome = refl; asks = has.asks }

    laidc : IsLaid (parts_of f.types f.term) f.uses (lodge f).env plc c
    laidc = laid_so (parts_of f.types f.term) f.uses (lodge f).env once c refl refl

    wired : (js : List Joint) → IsOfWeb (child_web f plc) (with_joints c js)
        → IsWired f.types (f.first + f.off) f.node f.term f.uses (inside_supplies f.types f.splits f.env) plc (with_joints c js)
    wired js of_web =
        subst (λ (e : Supplies). IsWired f.types (f.first + f.off) f.node f.term f.uses e plc (with_joints c js))
        (lodged_are_inside f.types f.first (is_used f) f.splits f.env)
        (record { outcome = refl; parts = laidc.parts; no_more = laidc.no_more; imports = laidc.imports; no_import = laidc.no_import; web = of_web })
