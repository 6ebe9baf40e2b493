-- The ties of imports, of supplies, and to supplies' results, one by one.
use Rattle.std.specs.Prelude.{◌≡◌, ℕ, zero, suc, ◌+◌, ◌-◌, ◌<◌, ◌≤◌, List, [], ◌∷◌, ◌⊎◌, Some, Contains, slice_get}
use Rattle.std.proofs.Common.{refl, sym, ◌∙◌, ap, subst, arith, inl, inr}
use Rattle.std.proofs.lemmas.List.Elements.{Contains-append_left, Contains-append_right, Contains-append_cases}
use Rattle.gos_model.specs.Typing.{Imports, Imported}
use Rattle.gos_plan.specs.Plans.{End, ResultEnd}
use Rattle.gos_ties.specs.declared.points.Place.TheVariants as places
use Rattle.gos_ties.specs.declared.points.Tie as point_ties
use Rattle.gos_ties.specs.Ties as paths
use Rattle.gos_ties.specs.Ties.{point}
use Rattle.gos_realises.specs.realises.Regular.{count}
use Rattle.gos_realises.specs.realises.Modules.{Supply}
use Rattle.gos_joining.specs.webs.Webs.{Of, Number, Within, Tie, tie, Web, own_web}
use Rattle.gos_joining.specs.unions.Unions.{within, all_within, at_of}
use Rattle.gos_joining.proofs.unions.UnionLemmas.{Image, of_image, in_image}
use Rattle.gos_compile.specs.Wiring.{Types, row, led, import_types, import_ties}
use Rattle.gos_terms.specs.wired.Wired.{Supplies, result_ties, supply_ties, all_supply_ties}

-- the tie of an import's handshake
abbrev pub import_tie : ℕ → ℕ → point_ties.Tie
import_tie k h = paths.tie (point (places.Import k) h) (point (places.Number k) h)

abbrev pub OfImportTies : ℕ → Imports → point_ties.Tie → Type 0
OfImportTies k is t = (i h : ℕ) × (t ≡ import_tie (k + i) h)

of_row : (k a n : ℕ) (t : point_ties.Tie) → Contains (led (row (places.Import k) a n) (places.Number k) a) t → (h : ℕ) × (t ≡ import_tie k h)
of_row k a zero t (i, small, e) = absurd (omega (arith, small))
of_row k a (suc n) t (zero, small, e) = (a, sym e)
of_row k a (suc n) t (suc i, small, e) = of_row k (suc a) n t (i, omega (arith, small), e)

in_row : (k a n h : ℕ) → a ≤ h → h < a + n → Contains (led (row (places.Import k) a n) (places.Number k) a) (import_tie k h)
in_row k a zero h low high = absurd (omega (arith, low, high))
in_row k a (suc n) h low high = by_number (h - a) (omega (arith, low)) (λ above. behind (in_row k (suc a) n h above (omega (arith, high))))
  where
    behind : Contains (led (row (places.Import k) (suc a) n) (places.Number k) (suc a)) (import_tie k h)
        → Contains (led (row (places.Import k) a (suc n)) (places.Number k) a) (import_tie k h)
    behind (i, small, e) = (suc i, omega (arith, small), e)

    by_number : (d : ℕ) → h ≡ a + d → (suc a ≤ h → Contains (led (row (places.Import k) a (suc n)) (places.Number k) a) (import_tie k h))
        → Contains (led (row (places.Import k) a (suc n)) (places.Number k) a) (import_tie k h)
    by_number zero e further = let same : a ≡ h = omega (arith, e) in (0, omega arith, ap (import_tie k) same)
    by_number (suc d) e further = further (omega (arith, e))

pub of_import_ties : (k : ℕ) (is : Imports) (t : point_ties.Tie) → Contains (import_ties k is) t → OfImportTies k is t
of_import_ties k [] t (n, small, e) = absurd (omega (arith, small))
of_import_ties k (x ∷ is) t has =
    by_part (Contains-append_cases (led (row (places.Import k) 0 (count x.ty)) (places.Number k) 0) (import_ties (suc k) is) t has)
    (λ later. of_import_ties (suc k) is t later)
  where
    by_part : Contains (led (row (places.Import k) 0 (count x.ty)) (places.Number k) 0) t ⊎ Contains (import_ties (suc k) is) t
        → (Contains (import_ties (suc k) is) t → OfImportTies (suc k) is t) → OfImportTies k (x ∷ is) t
    by_part (inl here) rest =
        let (h, same) = of_row k 0 (count x.ty) t here in
        let zeros : k ≡ k + 0 = omega arith in
        (0, h, same ∙ ap (λ (n : ℕ). import_tie n h) zeros)
    by_part (inr later) rest =
        let (i, h, same) = rest later in
        let sum : suc k + i ≡ k + suc i = omega arith in
        (suc i, h, same ∙ ap (λ (n : ℕ). import_tie n h) sum)

pub in_import_ties : (k : ℕ) (is : Imports) (i h : ℕ) (x : Imported) → slice_get is i ≡ Some x → h < count x.ty → Contains (import_ties k is) (import_tie (k + i) h)
in_import_ties k [] i h x at small = absurd (cc at)
in_import_ties k (y ∷ is) zero h x at small =
    let same : y ≡ x = cc at in
    let zeros : k ≡ k + 0 = omega arith in
    let low : h < 0 + count y.ty = (let less = subst (λ (z : Imported). h < count z.ty) (sym same) small in omega (arith, less)) in
    Contains-append_left (led (row (places.Import k) 0 (count y.ty)) (places.Number k) 0) (import_ties (suc k) is) (import_tie (k + 0) h)
    (subst (λ (n : ℕ). Contains (led (row (places.Import k) 0 (count y.ty)) (places.Number k) 0) (import_tie n h)) zeros
    (in_row k 0 (count y.ty) h (omega arith) low))
in_import_ties k (y ∷ is) (suc i) h x at small =
    let sum : suc k + i ≡ k + suc i = omega arith in
    Contains-append_right (led (row (places.Import k) 0 (count y.ty)) (places.Number k) 0) (import_ties (suc k) is) (import_tie (k + suc i) h)
    (subst (λ (n : ℕ). Contains (import_ties (suc k) is) (import_tie n h)) sum (in_import_ties (suc k) is i h x at small))

-- the ties to a supply's result
abbrev pub result_tie : ℕ → ℕ → Tie
result_tie n h = tie (Within 0 (Number n h)) (Within (suc n) (Of (ResultEnd h)))

pub of_results : (n h m : ℕ) (t : Tie) → Contains (result_ties n h m) t → (g : ℕ) × (h ≤ g) × (g < h + m) × (t ≡ result_tie n g)
of_results n h zero t (i, small, e) = absurd (omega (arith, small))
of_results n h (suc m) t (zero, small, e) = (h, omega arith, omega arith, sym e)
of_results n h (suc m) t (suc i, small, e) =
    let (g, low, high, same) = of_results n (suc h) m t (i, omega (arith, small), e) in (g, omega (arith, low), omega (arith, high), same)

pub in_results : (n h m g : ℕ) → h ≤ g → g < h + m → Contains (result_ties n h m) (result_tie n g)
in_results n h zero g low high = absurd (omega (arith, low, high))
in_results n h (suc m) g low high = by_number (g - h) (omega (arith, low)) (λ above. behind (in_results n (suc h) m g above (omega (arith, high))))
  where
    behind : Contains (result_ties n (suc h) m) (result_tie n g) → Contains (result_ties n h (suc m)) (result_tie n g)
    behind (i, small, e) = (suc i, omega (arith, small), e)

    by_number : (d : ℕ) → g ≡ h + d → (suc h ≤ g → Contains (result_ties n h (suc m)) (result_tie n g)) → Contains (result_ties n h (suc m)) (result_tie n g)
    by_number zero e further = let same : h ≡ g = omega (arith, e) in (0, omega arith, ap (result_tie n) same)
    by_number (suc d) e further = further (omega (arith, e))

-- the ties of all supplies are those of each
pub in_supplies : (types : Types) (env : Supplies) (ns : List ℕ) (n : ℕ) (t : Tie) → Contains ns n → Contains (supply_ties types env n) t
    → Contains (all_supply_ties types env ns) t
in_supplies types env [] n t (k, small, e) has = absurd (omega (arith, small))
in_supplies types env (a ∷ ns) n t (zero, small, e) has =
    Contains-append_left (supply_ties types env a) (all_supply_ties types env ns) t
    (subst (λ (b : ℕ). Contains (supply_ties types env b) t) (sym e) has)
in_supplies types env (a ∷ ns) n t (suc k, small, e) has =
    Contains-append_right (supply_ties types env a) (all_supply_ties types env ns) t
    (in_supplies types env ns n t (k, omega (arith, small), e) has)

abbrev pub OfSupplies : Types → Supplies → List ℕ → Tie → Type 0
OfSupplies types env ns t = (n : ℕ) × Contains ns n × Contains (supply_ties types env n) t

pub of_supplies : (types : Types) (env : Supplies) (ns : List ℕ) (t : Tie) → Contains (all_supply_ties types env ns) t → OfSupplies types env ns t
of_supplies types env [] t (k, small, e) = absurd (omega (arith, small))
of_supplies types env (a ∷ ns) t has =
    by_part (Contains-append_cases (supply_ties types env a) (all_supply_ties types env ns) t has) (λ later. of_supplies types env ns t later)
  where
    by_part : Contains (supply_ties types env a) t ⊎ Contains (all_supply_ties types env ns) t
        → (Contains (all_supply_ties types env ns) t → OfSupplies types env ns t) → OfSupplies types env (a ∷ ns) t
    by_part (inl here) rest = (a, (0, omega arith, refl), here)
    by_part (inr later) rest =
        let (n, (k, small, e), has_n) = rest later in (n, (suc k, omega (arith, small), e), has_n)

-- the webs of supplies
abbrev pub webs_of : List Supply → List Web
webs_of [] = []
webs_of (s ∷ ss) = own_web s.plan ∷ webs_of ss

abbrev pub inside : ℕ → Tie → Tie
inside k t = tie (Within k t.one) (Within k t.other)

pub in_webs : (m : ℕ) (ss : List Supply) (n : ℕ) (s : Supply) (t : Tie) → slice_get ss n ≡ Some s → Contains (own_web s.plan).ties t
    → Contains (all_within m (webs_of ss)) (inside (m + n) t)
in_webs m [] n s t at has = absurd (cc at)
in_webs m (y ∷ ss) zero s t at has =
    let same : y ≡ s = cc at in
    let zeros : m ≡ m + 0 = omega arith in
    Contains-append_left (within m (own_web y.plan).ties) (all_within (suc m) (webs_of ss)) (inside (m + 0) t)
    (subst (λ (k : ℕ). Contains (within m (own_web y.plan).ties) (inside k t)) zeros
    (in_image (inside m) (own_web y.plan).ties t (subst (λ (z : Supply). Contains (own_web z.plan).ties t) (sym same) has)))
in_webs m (y ∷ ss) (suc n) s t at has =
    let sum : suc m + n ≡ m + suc n = omega arith in
    Contains-append_right (within m (own_web y.plan).ties) (all_within (suc m) (webs_of ss)) (inside (m + suc n) t)
    (subst (λ (k : ℕ). Contains (all_within (suc m) (webs_of ss)) (inside k t)) sum (in_webs (suc m) ss n s t at has))

abbrev pub OfWebs : ℕ → List Supply → Tie → Type 0
OfWebs m ss t = (n : ℕ) × (s : Supply) × (u : Tie) × (slice_get ss n ≡ Some s) × Contains (own_web s.plan).ties u × (inside (m + n) u ≡ t)

pub of_webs : (m : ℕ) (ss : List Supply) (t : Tie) → Contains (all_within m (webs_of ss)) t → OfWebs m ss t
of_webs m [] t (k, small, e) = absurd (omega (arith, small))
of_webs m (y ∷ ss) t has =
    by_part (Contains-append_cases (within m (own_web y.plan).ties) (all_within (suc m) (webs_of ss)) t has) (λ later. of_webs (suc m) ss t later)
  where
    by_image : Image (inside m) (own_web y.plan).ties t → OfWebs m (y ∷ ss) t
    by_image (u, among, same) =
        let zeros : m + 0 ≡ m = omega arith in (0, y, u, refl, among, ap (λ (k : ℕ). inside k u) zeros ∙ same)

    by_part : Contains (within m (own_web y.plan).ties) t ⊎ Contains (all_within (suc m) (webs_of ss)) t
        → (Contains (all_within (suc m) (webs_of ss)) t → OfWebs (suc m) ss t) → OfWebs m (y ∷ ss) t
    by_part (inl here) rest = by_image (of_image (inside m) (own_web y.plan).ties t here)
    by_part (inr later) rest =
        let (n, s, u, at, among, same) = rest later in
        let sum : m + suc n ≡ suc m + n = omega arith in
        (suc n, s, u, at, among, ap (λ (k : ℕ). inside k u) sum ∙ same)

pub web_at : (ss : List Supply) (n : ℕ) (e : End) → at_of (slice_get (webs_of ss) n) e ≡ Of e
web_at [] n e = refl
web_at (s ∷ ss) zero e = refl
web_at (s ∷ ss) (suc n) e = web_at ss n e

-- the types of the imports' numbers
pub import_type : (is : Imports) (n : ℕ) (x : Imported) → slice_get is n ≡ Some x → import_types is n ≡ x.ty
import_type [] n x at = absurd (cc at)
import_type (y ∷ is) zero x at = let same : y ≡ x = cc at in ap (λ (z : Imported). z.ty) same
import_type (y ∷ is) (suc n) x at = import_type is n x at
