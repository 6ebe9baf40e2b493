-- What is kept of a node lets its children be wired: they are linear, and what they connect fits.
use Rattle.std.specs.Prelude.{ℕ, ◌+◌, ◌<◌, ◌⊎◌, List, ◌++◌, All, slice_get, Contains, length}
use Rattle.std.proofs.Common.{sym, ◌∙◌, ap, arith, inl, inr}
use Rattle.std.proofs.lemmas.Option.{slice_get_within}
use Rattle.gos_types.proofs.ListLemmas.{found_behind, same_in_front}
use Rattle.gos_model.proofs.NumberLemmas.{either}
use Rattle.gos_check.specs.Nodes.{Numbered}
use Rattle.gos_check.specs.Linearity.{times, used, made}
use Rattle.gos_check.proofs.TimesLemmas.{some_times, listed_times}
use Rattle.gos_plan.specs.Kinds.{Part}
use Rattle.gos_plan.specs.Plans.{Plan}
use Rattle.gos_plan.specs.TokenBits.{LiteralFits}
use Rattle.gos_realises.proofs.realises.LiteralLemmas.{literals_among}
use Rattle.gos_joining.specs.webs.Renumbering.{Renumber, IsRenumbered}
use Rattle.gos_compile.specs.Wiring.{Types}
use Rattle.gos_terms.specs.wired.Wired.{Supplies}
use Rattle.gos_terms.specs.wired.NodeFitting.{IsLinear, AreOfTypes, WiredNodeFits, FittingIsPlain}
use Rattle.gos_terms.specs.applying.Uses.{CanBeWired, Stands, AreParted, AreApart}
use Rattle.gos_terms.specs.regions.Frames as frames
use Rattle.gos_terms.proofs.regions.PartedLemmas.{first_among, second_among}
use Rattle.gos_terms.specs.numbers.Kept.{IsKept}
use Rattle.gos_terms.specs.wired.Regular.{AreRegular}

linear : (types : Types) (m : Numbered) (ns : List ℕ) → IsKept types ns m → IsLinear m ns
linear types m ns kept =
    record {
      used_once = kept.used_once;
      made_once = λ k. (let one = kept.once k in omega (arith, one));
      supplied = λ k has. (let one = kept.once k in let some = some_times k ns has in omega (arith, one, some));
    }

pub can_be_wired : WiredNodeFits → FittingIsPlain → (types : Types) (i j : ℕ) (m : Numbered) (ns : List ℕ) (env : Supplies)
    → IsKept types ns m → AreOfTypes types env ns → CanBeWired types i j m ns env
can_be_wired fits plain types i j m ns env kept of pl c is =
    let these =
    fits types i j m ns env pl c kept.typed (linear types m ns kept) of
    (record { outcome = is.outcome; parts = is.parts; no_more = is.no_more; imports = is.imports; no_import = is.no_import }) in
    (these, plain _ c these)

-- regular supplies are of their types
pub regular_of : (types : Types) (env : Supplies) (ns : List ℕ) → AreRegular types env ns → AreOfTypes types env ns
regular_of types env ns are n has = ((are n has).right, (are n has).outcome)

-- the numbers of a node of two parts are each of one part alone
module _ (m n : Numbered) (ns ms ks : List ℕ) (is : frames.AreParted m n ns ms ks) where
  of_either : (k : ℕ) → (0 < times k ms) ⊎ (0 < times k ks) → Contains ms k ⊎ Contains ks k
  of_either k (inl h) = inl (listed_times k ms h)
  of_either k (inr h) = inr (listed_times k ks h)

  pub are_parted : AreParted ns ms ks
  are_parted =
      record {
        either = λ k has. of_either k (either (times k ms) (times k ks) (let some = some_times k ns has in let sum = is.split k in omega (arith, some, sum)));
        first = first_among m n ns ms ks is;
        second = second_among m n ns ms ks is;
        apart = λ k one other. (
            let a = some_times k ms one in let b = some_times k ks other in let sum = is.split k in let once = is.once k in omega (arith, a, b, sum, once));
      }

  -- what stands in a part is made there or supplied to it
  home_first : (k : ℕ) → Stands k m → 0 < times k (made m) + times k ms
  home_first k stands = by_case (either (times k (used m)) (times k (made m)) stands)
    where
      by_case : (0 < times k (used m)) ⊎ (0 < times k (made m)) → 0 < times k (made m) + times k ms
      by_case (inl h) = is.left k h
      by_case (inr h) = omega (arith, h)

  home_second : (k : ℕ) → Stands k n → 0 < times k (made n) + times k ks
  home_second k stands = by_case (either (times k (used n)) (times k (made n)) stands)
    where
      by_case : (0 < times k (used n)) ⊎ (0 < times k (made n)) → 0 < times k (made n) + times k ks
      by_case (inl h) = is.right k h
      by_case (inr h) = omega (arith, h)

  not_both : (k : ℕ) → 0 < times k (made m) + times k ms → 0 < times k (made n) + times k ks → ⊥
  not_both k one other = let sum = is.split k in let once = is.once k in omega (arith, one, other, sum, once)

  pub are_apart : AreApart m n ms ks
  are_apart =
      record {
        nodes = λ k one other. not_both k (home_first k one) (home_second k other);
        first = λ k has other. not_both k (let some = some_times k ms has in omega (arith, some)) (home_second k other);
        second = λ k has one. not_both k (home_first k one) (let some = some_times k ks has in omega (arith, some));
      }

-- the literals of a renumbered plan, and of plans whose parts stand one behind the other
pub literals_renumbered : (g : Renumber) (r s : Plan) → IsRenumbered g r s → All LiteralFits r.parts → All LiteralFits s.parts
literals_renumbered g r s is fit =
    literals_among g.part_back s.parts r.parts
    (λ k x at. sym (is.parts (g.part_back k)) ∙ (ap (slice_get s.parts) (is.one_to_one.parts_back k) ∙ at)) fit

pub literals_front : (ps qs : List Part) → All LiteralFits (ps ++ qs) → All LiteralFits ps
literals_front ps qs fit = literals_among (λ k. k) ps (ps ++ qs) (λ k x at. same_in_front ps qs k (slice_get_within ps k x at) ∙ at) fit

pub literals_behind : (ps qs : List Part) → All LiteralFits (ps ++ qs) → All LiteralFits qs
literals_behind ps qs fit = literals_among (λ k. length ps + k) qs (ps ++ qs) (λ k x at. found_behind ps qs k ∙ at) fit
