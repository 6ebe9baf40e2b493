-- Small nodes: parted numbers, uses apart, and nodes that can be wired.
use Rattle.std.specs.Prelude.{◌≡◌, ◌≢◌, ℕ, zero, suc, ◌+◌, ◌<◌, ◌≤◌, [], ◌∷◌, ◌⊎◌, Option, Some, slice_get, Contains}
use Rattle.std.proofs.Common.{refl, sym, ◌∙◌, ap, subst, arith, inl, inr}
use Rattle.std.proofs.lemmas.Option.{none-some, same_Some}
use Rattle.gos_types.specs.Types.{Type', Com}
use Rattle.gos_types.proofs.ListLemmas.{none_in_empty}
use Rattle.gos_model.proofs.NumberLemmas.{number_cases}
use Rattle.gos_check.specs.Nodes.{Use}
use Rattle.gos_plan.specs.Kinds.{Part, Skip, Contact, asks, serves, contacts_of, turned_contact}
use Rattle.gos_plan.specs.Plans.{End, PartEnd, ImportEnd, ResultEnd, Plan, contact_at, contacts_of_part, turned_if}
use Rattle.gos_plan.proofs.ContactLemmas.{part_is_there, import_is_there}
use Rattle.gos_joining.specs.webs.Webs.{Dot, Of, Within, Web, here, along, WaysFit}
use Rattle.gos_compile.specs.Wiring.{Types, parts_of}
use Rattle.gos_terms.specs.wired.Wired.{Supplies, Placing, Source, Own, Supplied, IsFrom, placed, source_dot, wired_web}
use Rattle.gos_joining.specs.weaving.Woven.{meetings, IsThin, IsPlain}
use Rattle.gos_joining.proofs.weaving.CrossingLemmas.{Crossing, Past, Forth, Back, crossing, no_way}
use Rattle.gos_joining.proofs.weaving.ThinLemmas.{thin_is_plain}
use Rattle.gos_joining.proofs.weaving.DotLemmas.{once_at_most}
use Rattle.gos_terms.specs.applying.Uses.{IsPlaced, Stands}
use Rattle.gos_terms.specs.applying.SmallUses.{TwoAreParted, OneIsNotParted, UsesAreApart, SameUsesAreNot, skip_node, wrong_node, in_place, wrong_plan, WrongIsPlaced, EmptyIsNotPlaced, SkipCanBeWired, WrongCannot}

only : (n k : ℕ) → Contains (n ∷ []) k → n ≡ k
only n k (zero, small, is) = is
only n k (suc l, small, is) = absurd (omega (arith, small))

not_both : (k : ℕ) → 0 ≡ k → 1 ≡ k → ⊥
not_both k one other = omega (arith, one, other)

either : (k : ℕ) → Contains (0 ∷ 1 ∷ []) k → Contains (0 ∷ []) k ⊎ Contains (1 ∷ []) k
either k (zero, small, is) = inl (0, omega arith, is)
either k (suc zero, small, is) = inr (0, omega arith, is)
either k (suc (suc n), small, is) = absurd (omega (arith, small))

pub two_are_parted : TwoAreParted
two_are_parted =
    record {
      either = either;
      first = λ k has. (0, omega arith, only 0 k has);
      second = λ k has. (1, omega arith, only 1 k has);
      apart = λ k one other. not_both k (only 0 k one) (only 1 k other);
    }

pub one_is_not_parted : OneIsNotParted
one_is_not_parted is = is.apart 0 (0, omega arith, refl) (0, omega arith, refl)

used_there : (n k : ℕ) → Stands k (Use Com [] n) → n ≡ k
used_there n k some =
    number_cases n k (λ same t. same) (λ other f. let none : Stands k (Use Com [] n) ≡ (0 < 0 + 0 + 0) = rw f refl in absurd (no_less (subst (λ (x : Type 0). x) none some)))
  where
    no_less : 0 < 0 + 0 + 0 → ⊥
    no_less less = omega (arith, less)

pub uses_are_apart : UsesAreApart
uses_are_apart =
    record {
      nodes = λ k one other. not_both k (used_there 0 k one) (used_there 1 k other);
      first = λ k has some. not_both k (only 0 k has) (used_there 1 k some);
      second = λ k has some. not_both k (used_there 0 k some) (only 1 k has);
    }

pub same_uses_are_not : SameUsesAreNot
same_uses_are_not is = is.nodes 0 (omega arith) (omega arith)

in_node : (types : Types) (env : Supplies) (x : Part) (s : Source) → IsFrom (parts_of types wrong_node) [] env x s
    → (slice_get wrong_plan.parts (placed in_place s) ≡ Some x) × (in_place.source (placed in_place s) ≡ s)
in_node types env x (Own k) at = (at, refl)
in_node types env x (Supplied n k) (among, at) = absurd (none_in_empty n among)

pub wrong_is_placed : WrongIsPlaced
wrong_is_placed types env =
    record {
      outcome = refl;
      parts = in_node types env;
      no_more = λ k x at. (at, refl);
      imports = λ n k x among at. absurd (none_in_empty n among);
      no_import = λ k x at. absurd (none-some x at);
    }

pub empty_is_not_placed : EmptyIsNotPlaced
empty_is_not_placed types env is = none-some Skip (is.parts Skip (Own 0) refl).0

abbrev kind : End → ℕ
kind (PartEnd i h) = 0
kind (ImportEnd i h) = 1
kind (ResultEnd h) = 2

pub wrong_cannot : WrongCannot
wrong_cannot types env can =
    let fits = (can in_place wrong_plan (wrong_is_placed types env)).0 in
    let same : serves 0 0 ≡ serves 0 8 =
    fits (ResultEnd 0) (PartEnd 0 0) (asks 0 8) (serves 0 0) refl refl differ
    (along (Within 0 (Of (ResultEnd 0))) (Within 0 (Of (PartEnd 0 0))) (Within 0 (Of (PartEnd 0 0))) (inl (0, omega arith, refl))
    (here (Within 0 (Of (PartEnd 0 0))))) in
    let bits : 0 ≡ 8 = ap (λ (c : Contact). c.answer_bits) same in
    omega (arith, bits)
  where
    differ : ResultEnd 0 ≢ PartEnd 0 0
    differ is = let no : 2 ≡ 0 = ap kind is in omega (arith, no)

-- the node of `skip`: one tie
abbrev result : Dot
result = Within 0 (Of (ResultEnd 0))

abbrev served : Dot
served = Within 0 (Of (PartEnd 0 0))

-- what an end's dot is
abbrev kind_of : Dot → ℕ
kind_of (Of e) = kind e
kind_of (Within n d) = kind_of d
kind_of d = 3

abbrev shake : End → ℕ
shake (PartEnd i h) = h
shake (ImportEnd i h) = h
shake (ResultEnd h) = h

abbrev shake_of : Dot → ℕ
shake_of (Of e) = shake e
shake_of (Within n d) = shake_of d
shake_of d = 0

module _
    (types : Types) (env : Supplies) (pl : Placing) (c : Plan) (is : IsPlaced types skip_node [] env pl c) where
  abbrev web : Web
  web = wired_web types 0 0 skip_node [] env pl

  -- a part of it is its Skip
  record IsSkip (k : ℕ) (x : Part) : Type 0 where
    source : pl.source k ≡ Own 0
    number : pl.own 0 ≡ k
    same : x ≡ Skip

  by_source : (k : ℕ) (x : Part) (o : Source) → pl.source k ≡ o → IsFrom (Skip ∷ []) [] env x o → placed pl o ≡ k → IsSkip k x
  by_source k x (Own zero) at from back = record { source = at; number = back; same = sym (same_Some Skip x from) }
  by_source k x (Own (suc n)) at from back = absurd (none-some x from)
  by_source k x (Supplied n l) at (among, from) back = absurd (none_in_empty n among)

  skip_there : (k h : ℕ) (d : Contact) → contact_at c (PartEnd k h) ≡ Some d → (x : Part) × (slice_get c.parts k ≡ Some x) × IsSkip k x
  skip_there k h d at =
      let (x, there) = part_is_there (slice_get c.parts k) h d at in
      let (from, back) = is.no_more k x there in
      (x, there, by_source k x (pl.source k) refl from back)

  no_import : (k h : ℕ) (d : Contact) → contact_at c (ImportEnd k h) ≡ Some d → ⊥
  no_import k h d at =
      let (x, there) = import_is_there (slice_get c.imports k) h d at in none_in_empty (pl.origin k).number (is.no_import k x there).0

  dot_is : (k h : ℕ) (d : Contact) → contact_at c (PartEnd k h) ≡ Some d → web.at (PartEnd k h) ≡ Within 0 (Of (PartEnd 0 h))
  dot_is k h d at =
      let (x, there, skip) = skip_there k h d at in ap (λ (o : Source). source_dot 0 o h) skip.source

  points : (d : Dot) → meetings d web.ties ≤ 2
  points d = let first = once_at_most d result in let last = once_at_most d served in omega (arith, first, last)

  ends : (e : End) (d : Contact) → contact_at c e ≡ Some d → meetings (web.at e) web.ties ≤ 1
  ends (PartEnd k h) d at =
      let one = once_at_most (Within 0 (Of (PartEnd 0 h))) served in
      let here : meetings (Within 0 (Of (PartEnd 0 h))) web.ties ≤ 1 = omega (arith, one) in
      subst (λ (x : Dot). meetings x web.ties ≤ 1) (sym (dot_is k h d at)) here
  ends (ImportEnd k h) d at = absurd (no_import k h d at)
  ends (ResultEnd h) d at = let one = once_at_most (Within 0 (Of (ResultEnd h))) result in omega (arith, one)

  apart : (a b : End) (k l : Contact) → contact_at c a ≡ Some k → contact_at c b ≡ Some l → web.at a ≡ web.at b → a ≡ b
  apart (PartEnd x h) (PartEnd y g) k l at_a at_b same =
      let (one, there, first) = skip_there x h k at_a in
      let (other, here', second) = skip_there y g l at_b in
      let number : x ≡ y = sym first.number ∙ second.number in
      let shakes : h ≡ g = ap shake_of (sym (dot_is x h k at_a) ∙ (same ∙ dot_is y g l at_b)) in
      λ i. PartEnd (number i) (shakes i)
  apart (PartEnd x h) (ImportEnd y g) k l at_a at_b same = absurd (no_import y g l at_b)
  apart (PartEnd x h) (ResultEnd g) k l at_a at_b same =
      let kinds : 0 ≡ 2 = ap kind_of (sym (dot_is x h k at_a) ∙ same) in absurd (omega (arith, kinds))
  apart (ImportEnd x h) b k l at_a at_b same = absurd (no_import x h k at_a)
  apart (ResultEnd h) (PartEnd y g) k l at_a at_b same =
      let kinds : 2 ≡ 0 = ap kind_of (same ∙ dot_is y g l at_b) in absurd (omega (arith, kinds))
  apart (ResultEnd h) (ImportEnd y g) k l at_a at_b same = absurd (no_import y g l at_b)
  apart (ResultEnd h) (ResultEnd g) k l at_a at_b same = ap ResultEnd (ap shake_of same)

  thin : IsThin web c
  thin = record { points = points; ends = ends; apart = apart }

  -- what the result's end and the Skip's are
  result_is : (e : End) (k : Contact) → contact_at c e ≡ Some k → web.at e ≡ result → k ≡ asks 0 0
  result_is (PartEnd x h) k at same =
      let kinds : 0 ≡ 2 = ap kind_of (sym (dot_is x h k at) ∙ same) in absurd (omega (arith, kinds))
  result_is (ImportEnd x h) k at same = absurd (no_import x h k at)
  result_is (ResultEnd h) k at same =
      let zeros : h ≡ 0 = ap shake_of same in
      let there : contact_at c (ResultEnd h) ≡ Some (asks 0 0) =
      ap (λ (t : Type'). turned_if (slice_get (contacts_of t) h)) is.outcome ∙ ap (λ (n : ℕ). turned_if (slice_get (contacts_of Com) n)) zeros in
      same_Some k (asks 0 0) (sym at ∙ there)

  served_is : (e : End) (k : Contact) → contact_at c e ≡ Some k → web.at e ≡ served → k ≡ serves 0 0
  served_is (PartEnd x h) k at same =
      let zeros : h ≡ 0 = ap shake_of (sym (dot_is x h k at) ∙ same) in
      let (y, there, skip) = skip_there x h k at in
      let is_skip : contact_at c (PartEnd x h) ≡ Some (serves 0 0) =
      ap (λ (o : Option Part). slice_get (contacts_of_part o) h) (there ∙ ap Some skip.same)
      ∙ ap (λ (n : ℕ). slice_get (contacts_of_part (Some Skip)) n) zeros in
      same_Some k (serves 0 0) (sym at ∙ is_skip)
  served_is (ImportEnd x h) k at same = absurd (no_import x h k at)
  served_is (ResultEnd h) k at same = let kinds : 2 ≡ 0 = ap kind_of same in absurd (omega (arith, kinds))

  fits : WaysFit web c
  fits a b k l at_a at_b differ way = by_crossing (crossing [] result served (web.at a) (web.at b) way)
    where
      by_crossing : Crossing [] result served (web.at a) (web.at b) → l ≡ turned_contact k
      by_crossing (Past way) = absurd (differ (apart a b k l at_a at_b (no_way (web.at a) (web.at b) way)))
      by_crossing (Forth first rest) =
          let one = result_is a k at_a (no_way (web.at a) result first) in
          let other = served_is b l at_b (sym (no_way served (web.at b) rest)) in
          other ∙ ap turned_contact (sym one)
      by_crossing (Back first rest) =
          let one = served_is a k at_a (no_way (web.at a) served first) in
          let other = result_is b l at_b (sym (no_way result (web.at b) rest)) in
          other ∙ ap turned_contact (sym one)

  both : WaysFit web c × IsPlain web c
  both = (fits, thin_is_plain web c thin)

pub skip_can_be_wired : SkipCanBeWired
skip_can_be_wired types env pl c is = both types env pl c is
