-- The first child of `c ; c`, with the Share for its supply, is folded; without its tie, or unshared, it isn't.
use Rattle.std.specs.Prelude.{◌≡◌, ℕ, zero, suc, ◌-◌, ◌<◌, [], ◌∷◌, ◌⊎◌, Some, None, Contains}
use Rattle.std.proofs.Common.{refl, sym, ap, subst, arith, inl, inr}
use Rattle.std.proofs.lemmas.Option.{none-some}
use Rattle.gos_plan.specs.Kinds.{Contact, serves}
use Rattle.gos_plan.specs.Plans.{End, PartEnd, ImportEnd, ResultEnd, contact_at}
use Rattle.gos_plan.specs.Tokens.{IsPortEnd}
use Rattle.gos_realises.specs.realises.Regular.{count}
use Rattle.gos_joining.specs.webs.Webs.{Dot, Of, Number, Node, Within, Tie, tie, Meet, Way, here, along, own_web}
use Rattle.gos_joining.specs.webs.Cutting.{IsOutside}
use Rattle.gos_joining.proofs.webs.WebLemmas.{right_is_of_its_web}
use Rattle.gos_sharing.specs.sharing.Sharing.{caller_end}
use Rattle.gos_nodes.specs.windows.Regions.{Serving, IsOther}
use Rattle.gos_nodes.specs.windows.SmallNodes.{calls_plan, call_plan, call_outer, call_inner, call_out, served}
use Rattle.gos_nodes.proofs.windows.SmallRegionLemmas.{call_is_region}
use Rattle.gos_nodes.specs.folds.Folds.{Follows, IsFolded, IsAlone, IsSpare}
use Rattle.gos_nodes.specs.folds.SmallFolds.{call_dot, call_back, call_fold, CallIsFold, UnsharedIsNone, untied_web, UntiedIsNone}
use Rattle.gos_nodes.proofs.folds.WayLemmas.{unmet_way, unmet_is_alone}

-- the ports
abbrev pub Port : End → Contact → Type 0
Port e k = IsOutside call_out (call_outer e) × (call_inner (call_outer e) ≡ Some e) × (contact_at calls_plan (call_outer e) ≡ Some k)

pub its_ports : (e : End) (k : Contact) → IsPortEnd e → contact_at call_plan e ≡ Some k → Port e k
its_ports (PartEnd i h) k port at = absurd port
its_ports (ImportEnd zero zero) k port at = (tt, refl, at)
its_ports (ImportEnd zero (suc h)) k port at = absurd (none-some k at)
its_ports (ImportEnd (suc i) h) k port at = absurd (none-some k at)
its_ports (ResultEnd zero) k port at = (refl, refl, at)
its_ports (ResultEnd (suc h)) k port at = absurd (none-some k at)

-- the second caller's end
only_served : (n : Serving) → Contains (served 0 ∷ []) n → served 0 ≡ n
only_served n (zero, l, is) = is
only_served n (suc k, l, is) = absurd (omega (arith, l))

abbrev Nothing : Serving → Type 0
Nothing n = (j : ℕ) → j < count n.ty → call_back (Of (caller_end n.part n.ty (1 - n.side) j)) ≡ None

second_nothing : Nothing (served 0)
second_nothing zero low = refl
second_nothing (suc j) low = absurd (omega (arith, low))

pub its_others : (e : End) → IsOther (served 0 ∷ []) e → call_back (Of e) ≡ None
its_others e (n, j, has, low, is) =
    subst (λ (x : End). call_back (Of x) ≡ None) (sym is) (subst Nothing (only_served n has) second_nothing j low)

-- which is alone
abbrev shake_in : Dot → ℕ
shake_in (Of (PartEnd i h)) = h
shake_in (Of (ImportEnd i h)) = 0
shake_in (Of (ResultEnd h)) = 0
shake_in (Number n h) = 0
shake_in (Node n h) = 0
shake_in (Within k d) = 0

abbrev end_in : Dot → End
end_in (Of e) = e
end_in (Number n h) = ResultEnd 0
end_in (Node n h) = ResultEnd 0
end_in (Within k d) = ResultEnd 0

low_ends : (t : Tie) → Contains (own_web call_plan).ties t → (shake_in t.one < 2) × (shake_in t.other < 2)
low_ends t (zero, l, is) = subst (λ (x : Tie). (shake_in x.one < 2) × (shake_in x.other < 2)) is (omega arith, omega arith)
low_ends t (suc zero, l, is) = subst (λ (x : Tie). (shake_in x.one < 2) × (shake_in x.other < 2)) is (omega arith, omega arith)
low_ends t (suc (suc n), l, is) = absurd (omega (arith, l))

unmet : (x : Dot) → Meet (own_web call_plan).ties (Of (PartEnd 0 2)) x → ⊥
unmet x (inl has) = let low = (low_ends (tie (Of (PartEnd 0 2)) x) has).0 in omega (arith, low)
unmet x (inr has) = let low = (low_ends (tie x (Of (PartEnd 0 2))) has).1 in omega (arith, low)

second_alone : IsAlone (own_web call_plan) call_plan (PartEnd 0 2)
second_alone = unmet_is_alone (own_web call_plan) call_plan (PartEnd 0 2) unmet (λ d k at is. ap end_in is)

-- the ends
abbrev pub Known : End → Type 0
Known e =
    IsFolded call_fold (own_web calls_plan) (own_web call_plan) e
    ⊎ IsSpare call_fold (served 0 ∷ []) (own_web calls_plan) (own_web call_plan) call_plan e

pub its_ends : (e : End) (k : Contact) → contact_at call_plan e ≡ Some k → Known e
its_ends (PartEnd zero zero) k at = inl (refl, refl)
its_ends (PartEnd zero (suc zero)) k at = inl (refl, refl)
its_ends (PartEnd zero (suc (suc zero))) k at =
    inr (refl, inr (served 0, 0, (0, omega arith, refl), omega arith, refl), second_alone)
its_ends (PartEnd zero (suc (suc (suc h)))) k at = absurd (none-some k at)
its_ends (PartEnd (suc i) h) k at = absurd (none-some k at)
its_ends (ImportEnd zero zero) k at = inl (refl, refl)
its_ends (ImportEnd zero (suc h)) k at = absurd (none-some k at)
its_ends (ImportEnd (suc i) h) k at = absurd (none-some k at)
its_ends (ResultEnd zero) k at = inl (refl, refl)
its_ends (ResultEnd (suc h)) k at = absurd (none-some k at)

-- the ties
abbrev Laid : Tie → Type 0
Laid t = Way (own_web calls_plan).ties (call_dot t.one) (call_dot t.other)

its_ways : (t : Tie) → Contains (own_web call_plan).ties t → Laid t
its_ways t (zero, l, is) =
    subst Laid is
    (along (Of (PartEnd 0 0)) (Of (PartEnd 1 1)) (Of (PartEnd 1 1)) (inl (1, omega arith, refl)) (here (Of (PartEnd 1 1))))
its_ways t (suc zero, l, is) =
    subst Laid is
    (along (Of (PartEnd 1 0)) (Of (ImportEnd 0 0)) (Of (ImportEnd 0 0)) (inl (3, omega arith, refl)) (here (Of (ImportEnd 0 0))))
its_ways t (suc (suc n), l, is) = absurd (omega (arith, l))

abbrev Stays : Tie → Type 0
Stays t = Follows (own_web call_plan).ties (call_back t.one) (call_back t.other)

its_stays : (t : Tie) → Contains (own_web calls_plan).ties t → Stays t
its_stays t (zero, l, is) = subst Stays is tt
its_stays t (suc zero, l, is) =
    subst Stays is
    (along (Of (ResultEnd 0)) (Of (PartEnd 0 1)) (Of (PartEnd 0 1)) (inl (0, omega arith, refl)) (here (Of (PartEnd 0 1))))
its_stays t (suc (suc zero), l, is) = subst Stays is tt
its_stays t (suc (suc (suc zero)), l, is) =
    subst Stays is
    (along (Of (PartEnd 0 0)) (Of (ImportEnd 0 0)) (Of (ImportEnd 0 0)) (inl (1, omega arith, refl)) (here (Of (ImportEnd 0 0))))
its_stays t (suc (suc (suc (suc n))), l, is) = absurd (omega (arith, l))

-- the ends outside
abbrev pub Comes : End → Contact → Type 0
Comes e k = (d : End) × IsPortEnd d × (call_outer d ≡ e) × (contact_at call_plan d ≡ Some k)

pub its_comes : (e : End) (k : Contact) (y : Dot)
    → IsOutside call_out e → contact_at calls_plan e ≡ Some k → call_back (Of e) ≡ Some y → Comes e k
its_comes (PartEnd zero zero) k y out at stands = (ResultEnd 0, tt, refl, at)
its_comes (PartEnd zero (suc h)) k y out at stands = absurd (none-some y stands)
its_comes (PartEnd (suc zero) h) k y out at stands = absurd (none-some 0 (sym out))
its_comes (PartEnd (suc (suc i)) h) k y out at stands = absurd (none-some y stands)
its_comes (ImportEnd zero zero) k y out at stands = (ImportEnd 0 0, tt, refl, at)
its_comes (ImportEnd zero (suc h)) k y out at stands = absurd (none-some y stands)
its_comes (ImportEnd (suc i) h) k y out at stands = absurd (none-some y stands)
its_comes (ResultEnd h) k y out at stands = absurd (none-some y stands)

pub call_is_fold : CallIsFold
call_is_fold =
    record {
      whole = right_is_of_its_web calls_plan call_is_region.whole_right;
      parts = call_is_region.parts;
      numbers = call_is_region.numbers;
      ports = its_ports;
      serving = call_is_region.serving;
      others = its_others;
      ends = its_ends;
      ways = its_ways;
      stays = its_stays;
      comes = its_comes;
    }

-- the second caller's end is neither folded nor spare
no_other : (e : End) → IsOther [] e → ⊥
no_other e (n, j, (k, l, is), low, at) = omega (arith, l)

pub unshared_is_none : UnsharedIsNone
unshared_is_none is =
    elim (is.ends (PartEnd 0 2) (serves 0 0) refl) [
      | inl folded ↦ none-some (Of (PartEnd 0 2)) folded.1
      | inr spare ↦
          elim spare.1 [
            | inl port ↦ port
            | inr other ↦ no_other (PartEnd 1 2) other
          ]
    ]

-- the result's dot meets nothing
abbrev is_result : Dot → ℕ
is_result (Of (PartEnd i h)) = 0
is_result (Of (ImportEnd i h)) = 0
is_result (Of (ResultEnd h)) = 1
is_result (Number n h) = 0
is_result (Node n h) = 0
is_result (Within k d) = 0

no_result : (t : Tie) → Contains untied_web.ties t → (is_result t.one < 1) × (is_result t.other < 1)
no_result t (zero, l, is) = subst (λ (x : Tie). (is_result x.one < 1) × (is_result x.other < 1)) is (omega arith, omega arith)
no_result t (suc n, l, is) = absurd (omega (arith, l))

untied : (x : Dot) → Meet untied_web.ties (Of (ResultEnd 0)) x → ⊥
untied x (inl has) = let low = (no_result (tie (Of (ResultEnd 0)) x) has).0 in omega (arith, low)
untied x (inr has) = let low = (no_result (tie x (Of (ResultEnd 0))) has).1 in omega (arith, low)

pub untied_is_none : UntiedIsNone
untied_is_none is =
    let way = is.stays (tie (Of (PartEnd 0 0)) (Of (PartEnd 1 1))) (1, omega arith, refl) in
    let same : Of (PartEnd 0 1) ≡ Of (ResultEnd 0) = unmet_way untied_web.ties (Of (ResultEnd 0)) (Of (PartEnd 0 1)) way untied in
    let marks : 0 ≡ 1 = ap is_result same in omega (arith, marks)
