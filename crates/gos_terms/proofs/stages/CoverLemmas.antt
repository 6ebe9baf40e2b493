-- What a child covers of its node.
use Rattle.std.specs.Prelude.{◌+◌, ◌<◌, length, nat_eq, slice_get, None}
use Rattle.std.proofs.Common.{◌≡◌, ℕ, suc, Bool, true, List, [], ◌∷◌, Option, Some, ◌∙◌, ap, arith}
use Rattle.std.proofs.lemmas.Option.{slice_get_within}
use Rattle.gos_plan.specs.Kinds.{Share}
use Rattle.gos_check.specs.declared.linear.Split.{Split}
use Rattle.gos_plan.specs.Plans.{End, ResultEnd}
use Rattle.gos_joining.specs.webs.Webs.{Of, Within}
use Rattle.gos_compile.specs.Wiring.{Types, shares}
use Rattle.gos_terms.specs.wired.Wired.{Supplies, Own, Placing, source_dot}
use Rattle.gos_terms.specs.stages.Lodging.{Spot, spot, spot_if, Lodging, live, first_lodging, side_number, moved_spot, moved, one_lodging, lodging, lodged}
use Rattle.gos_terms.specs.stages.Folding.{AtOwn, is_used, spot_dot}
use Rattle.gos_terms.specs.stages.Covering.{LiveIsCovered, ServedIsCovered, OwnIsCovered}
use Rattle.gos_terms.proofs.stages.LodgingLemmas.{seen}
use Rattle.gos_terms.proofs.stages.ServedLemmas.{servings_serve}
use Rattle.gos_terms.proofs.stages.ChildBackLemmas.{lead_stands}
use Rattle.gos_terms.proofs.stages.ChildPartLemmas.{plain_source, own_source_back}
use Rattle.gos_terms.proofs.stages.ContactLemmas.{shares_length}

-- what stands for something stands for something inside one split more
abbrev pub Stands : Option Spot → Type 0
Stands a = (z : Spot) × (a ≡ Some z)

stands_moved : (s : Split) (b : Option ℕ) (k : ℕ) (a : Option Spot) → Stands a → Stands (moved s b k a)
stands_moved s None k a it = it
stands_moved s (Some c) k a (z, at) =
    (moved_spot (nat_eq z.number s.of) (side_number s c) k z, ap (moved s (Some c) k) at)

final_stands : (types : Types) (inner : ℕ → Bool) (ss : List Split) (q x : ℕ) (l : Lodging) (n : ℕ) (e : End)
    → Stands (l.home (Within (suc n) (Of e))) → Stands ((lodging types q x inner ss l).home (Within (suc n) (Of e)))
final_stands types inner [] q x l n e it = it
final_stands types inner (s ∷ ss) q x l n e it =
    final_stands types inner ss (suc q) (suc x) (one_lodging types q x s (seen types inner ss s) l) n e
    (stands_moved s (seen types inner ss s) (length (l.env s.of).plan.parts) (l.home (Within (suc n) (Of e))) it)

-- so each end of the supply of a live number does
pub live_stands : (types : Types) (i : ℕ) (inner : ℕ → Bool) (ss : List Split) (env : Supplies) (n : ℕ) (e : End)
    → live ss inner n ≡ true → Stands ((lodged types i inner ss env).home (Within (suc n) (Of e)))
live_stands types i inner ss env n e lives =
    final_stands types inner ss i 0 (first_lodging (live ss inner) env) n e (spot n e, ap (λ (b : Bool). spot_if b n e) lives)

pub live_is_covered : LiveIsCovered
live_is_covered f n e lives =
    let (z, at) = live_stands f.types f.first (is_used f) f.splits f.env n e lives in (Within (suc z.number) (Of z.end), ap spot_dot at)

pub served_is_covered : ServedIsCovered
served_is_covered f ts pl s is listed =
    let (x, at, it) = servings_serve f.types f.first (is_used f) f.splits f.env f.numbers pl s is.tidy listed in
    (x, at, λ h serves. let (z, home) = it.seen h serves in (Within (suc z.number) (Of z.end), plain_source f ts pl pl is (Own x) h (low x it.share) ∙ ap spot_dot home))
  where
    low : (x : ℕ) → slice_get (shares f.splits f.types) x ≡ Some (Share s.ty) → x < length f.splits
    low x share =
        let lt = slice_get_within (shares f.splits f.types) x (Share s.ty) share in
        let size = shares_length f.types f.splits in
        omega (arith, lt, size)

-- with the parts numbered as they are
abbrev pub plainly : Placing
plainly =
    record {
      own = λ k. k;
      supplied = λ n k. k;
      import = λ n k. k;
      source = λ j. Own j;
      origin = λ j. record { number = 0; import = j };
    }

pub own_is_covered : OwnIsCovered
own_is_covered f ts is = (
  (λ k h lt. (source_dot (f.first + f.off) (Own k) h, own_source_back f ts plainly plainly is k h lt)),
  (λ h s at. (Within 0 (Of (ResultEnd h)), lead_stands f ts plainly is h (AtOwn s) at)),
)
