-- A map of a plan's ends that keeps its joints and its ports' ends carries the paths of what is joined to it.
use Rattle.std.specs.Prelude.{◌≡◌, ℕ, zero, suc, ◌-◌, ◌<◌, ◌≤◌, Bool, true, false, List, [], ◌∷◌, ◌++◌, length, Option, Some, None, slice_get, nat_lt, Contains, if◌then◌else◌}
use Rattle.std.proofs.Common.{refl, sym, ◌∙◌, ap, subst, arith, inl, inr}
use Rattle.std.proofs.lemmas.Bool.Decides.{nat_tests}
use Rattle.gos_types.specs.Types.{Type'}
use Rattle.gos_types.proofs.ListLemmas.{same_in_front}
use Rattle.gos_plan.specs.Kinds.{Part}
use Rattle.gos_plan.specs.Plans.{End, PartEnd, Plan}
use Rattle.gos_plan.specs.Tokens.{IsPortEnd}
use Rattle.gos_plan.specs.Joining.{Place, place, Link, Wiring, LeftImport, left_place, part_place, origin, JoinedWithin, Linked, Path}
use Rattle.gos_plan.proofs.WiringLemmas.{place_is}
use Rattle.gos_realises.proofs.joined.OriginLemmas.{behind_at}
use Rattle.gos_realises.proofs.joined.ReachLemmas.{Step, Paths}
use Rattle.gos_joining.specs.webs.Webs.{joint}
use Rattle.gos_joining.proofs.unions.PathLemmas.{path_walk, walks_paths}
use Rattle.gos_joining.proofs.unions.WalkLemmas.{goes, mapped_walk}
use Rattle.gos_sharing.specs.function_types.Joined.{wiring, IsPortPlace, AllPortPlaces}

later_plan : (m : ℕ) (ps : List Plan) (i h : ℕ) → (n : ℕ) × ((part_place (suc m) ps i h).plan ≡ suc n)
later_plan m [] i h = (m, refl)
later_plan m (p ∷ ps) i h = by_test (nat_lt i (length p.parts)) refl (later_plan (suc m) ps (i - length p.parts) h)
  where
    by_test : (b : Bool) → nat_lt i (length p.parts) ≡ b → (n : ℕ) × ((part_place (suc (suc m)) ps (i - length p.parts) h).plan ≡ suc n)
        → (n : ℕ) × ((if b then place (suc m) (PartEnd i h) else part_place (suc (suc m)) ps (i - length p.parts) h).plan ≡ suc n)
    by_test true test rest = (m, refl)
    by_test false test rest = rest

-- places of the other plans, and of the imports that stay, are no part's of the first plan
pub later_port : (m : ℕ) (ps : List Plan) (i h : ℕ) → IsPortPlace (part_place (suc m) ps i h)
later_port m ps i h none = let (n, is_n) = later_plan m ps i h in absurd (omega (arith, none, is_n))

pub left_port : (o : Option LeftImport) (h : ℕ) → IsPortPlace (left_place o h)
left_port None h same = tt
left_port (Some l) h same = tt

-- the parts of the first plan, and those behind them
pub first_part : (p P : Plan) (ks : List Part) → P.parts ≡ p.parts ++ ks → (n : ℕ) → n < length p.parts → slice_get P.parts n ≡ slice_get p.parts n
first_part p P ks parts n low = ap (λ xs. slice_get xs n) parts ∙ same_in_front p.parts ks n low

pub other_part : (p P : Plan) (ks : List Part) → P.parts ≡ p.parts ++ ks → (n : ℕ) → length p.parts ≤ n
    → slice_get P.parts n ≡ slice_get ks (n - length p.parts)
other_part p P ks parts n high = ap (λ xs. slice_get xs n) parts ∙ behind_at p.parts ks n high

pub other_origin : (p : Plan) (ps : List Plan) (ls : List Link) (giver skipped : ℕ) (t : Type') (n h : ℕ) → length p.parts ≤ n
    → origin (wiring p ps ls giver skipped t) (PartEnd n h) ≡ part_place 1 ps (n - length p.parts) h
other_origin p ps ls giver skipped t n h high =
    let test : nat_lt n (length p.parts) ≡ false = grind (arith, nat_tests, high) in
    ap (λ (b : Bool). if b then place 0 (PartEnd n h) else part_place 1 ps (n - length p.parts) h) test

-- where a place goes: the map is of plan 0
abbrev pub end_at : (End → End) → ℕ → End → End
end_at f zero e = f e
end_at f (suc k) e = e

abbrev pub place_at : (End → End) → Place → Place
place_at f a = place a.plan (end_at f a.plan a.end)

-- the map keeps the ends of ports, and joints of the one plan are joints of the other
pub record IsCarried (f : End → End) (x u : Plan) : Type 0 where
  pub ports : (e : End) → IsPortEnd e → f e ≡ e
  pub joints : (d e : End) → Contains x.joints (joint d e) → Contains u.joints (joint (f d) (f e))

module _ (f : End → End) (x u : Plan) (is : IsCarried f x u) where
  port_end : (k : ℕ) (e : End) → (k ≡ 0 → IsPortEnd e) → end_at f k e ≡ e
  port_end zero e port = is.ports e (port refl)
  port_end (suc k) e port = refl

  pub port_stays : (a : Place) → IsPortPlace a → place_at f a ≡ a
  port_stays a port = place_is (place_at f a) a refl (port_end a.plan a.end port)

  module _ (ps : List Plan) (ls : List Link) (giver skipped : ℕ) (t : Type') (kept : AllPortPlaces ls) where
    abbrev w : Wiring
    w = wiring x ps ls giver skipped t

    abbrev v : Wiring
    v = wiring u ps ls giver skipped t

    abbrev Onto : ℕ → Plan → Type 0
    Onto k p =
        (q : Plan) × (slice_get (u ∷ ps) k ≡ Some q) × ((d e : End) → Contains p.joints (joint d e) → Contains q.joints (joint (end_at f k d) (end_at f k e)))

    onto : (k : ℕ) (p : Plan) → slice_get (x ∷ ps) k ≡ Some p → Onto k p
    onto zero p at_p = let same : x ≡ p = cc at_p in subst (λ (y : Plan). Onto 0 y) same (u, refl, is.joints)
    onto (suc k) p at_p = (p, at_p, λ d e has. has)

    joint_goes : (a b : Place) → JoinedWithin w a b → JoinedWithin v (place_at f a) (place_at f b)
    joint_goes a b (p, j, same, at_p, has, ways) =
        let (q, at_q, carry) = onto a.plan p at_p in
        let b_end : end_at f b.plan b.end ≡ end_at f a.plan b.end = ap (λ (k : ℕ). end_at f k b.end) (sym same) in (
          q,
          joint (end_at f a.plan j.asking) (end_at f a.plan j.serving),
          same,
          at_q,
          carry j.asking j.serving has,
          elim ways [
            | inl (e, s) ↦ inl (ap (end_at f a.plan) e, b_end ∙ ap (end_at f a.plan) s)
            | inr (e, s) ↦ inr (ap (end_at f a.plan) e, b_end ∙ ap (end_at f a.plan) s)
          ],
        )

    link_goes : (a b : Place) → Linked w a b → Linked v (place_at f a) (place_at f b)
    link_goes a b (l, has, inl (e, s)) =
        let both = kept l has in (l, has, inl (ap (place_at f) e ∙ port_stays l.one both.0, ap (place_at f) s ∙ port_stays l.other both.1))
    link_goes a b (l, has, inr (e, s)) =
        let both = kept l has in (l, has, inr (ap (place_at f) e ∙ port_stays l.other both.1, ap (place_at f) s ∙ port_stays l.one both.0))

    step_goes : (a b : Place) → Step w a b → Step v (place_at f a) (place_at f b)
    step_goes a b (inl s) = inl (joint_goes a b s)
    step_goes a b (inr s) = inr (link_goes a b s)

    pub path_goes : (n : ℕ) (a b : Place) → Path w n a b → Paths v (place_at f a) (place_at f b)
    path_goes n a b path =
        walks_paths v (place_at f a) (place_at f b)
        (mapped_walk Place Place (Step w) (Step v) (place_at f) (λ y z s. goes Place (Step v) (place_at f y) (place_at f z) (step_goes y z s)) n a b
        (path_walk w n a b path))
