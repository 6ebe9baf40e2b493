-- What is joined to a still plan is still, where turns pass through the wiring.
--
-- A dead joint of the joining is a trail with a dead joint of the plan on it. A request on the trail has been there, or can be led there.
use Rattle.std.specs.Prelude.{ℕ, zero, suc, ◌-◌, ◌<◌, ◌≤◌, Bool, true, false, List, Option, Some, None, All, Contains, slice_get, nat_lt}
use Rattle.std.proofs.Common.{◌≡◌, [], ◌∷◌, ◌⊎◌, inl, inr, refl, sym, ◌∙◌, ap, subst, arith}
use Rattle.std.proofs.lemmas.Bool.Decides.{nat_tests}
use Rattle.gos_types.specs.Types.{Type'}
use Rattle.gos_model.specs.Typing.{Imported}
use Rattle.gos_types.specs.Events.{Direction, Request, Answer}
use Rattle.gos_types.proofs.ListLemmas.{some_is_not_none}
use Rattle.gos_plan.specs.Kinds.{Part, contacts_of}
use Rattle.gos_plan.specs.Plans.{End, PartEnd, ImportEnd, ResultEnd, Plan, contact_at, contacts_of_part, contacts_of_import, turned_if}
use Rattle.gos_plan.specs.Tokens.{Tokens, places_of}
use Rattle.gos_plan.specs.TokenBits.{LiteralFits}
use Rattle.gos_plan.specs.Orderly.{Open, none_open}
use Rattle.gos_plan.specs.Joining.{Place, place, Link, Wiring, origin, JoinedWithin, IsJoining}
use Rattle.gos_plan.proofs.JointLemmas.{IsIn, stands_there, contained, asking_stands}
use Rattle.gos_realises.specs.realises.Regular.{Pass, IsRegular}
use Rattle.gos_realises.specs.realises.Links.{LinksFit}
use Rattle.gos_realises.proofs.realises.InputLemmas.{passed}
use Rattle.gos_joining.specs.webs.Webs.{joint}
use Rattle.gos_joining.proofs.webs.MovedLemmas.{listed}
use Rattle.gos_realises.proofs.joined.ReachLemmas.{Paths, paths_then}
use Rattle.gos_supplies.proofs.turns.StandLemmas.{open_by_fit}
use Rattle.gos_supplies.proofs.turns.RunLemmas.{Reached}
use Rattle.gos_supplies.proofs.turns.TrailLemmas.{LinksArePorts, Segment, Trail, trail_rest, plan_at}
use Rattle.gos_supplies.proofs.turns.FollowLemmas.{Family, open_at, lying, joint_trail, chain}
use Rattle.gos_supplies.proofs.turns.GoesLemmas.{PassesTurns, Goes, goes_on}
use Rattle.gos_supplies.proofs.turns.WholeLemmas.{joining_is_regular, goes_all}
use Rattle.gos_supplies.specs.unjoined.Beside.{IsOwn}
use Rattle.gos_supplies.proofs.unjoined.PlacedLemmas.{IsPlaced, end_in, AreLoose, in_placed}
use Rattle.gos_supplies.proofs.unjoined.JoinedLemmas.{numbers, loose_stands, joinings_placed}
use Rattle.gos_sharing.specs.cores.Core.{Core, IsCore, IsDead, IsStill}
use Rattle.gos_sharing.specs.cores.Joined.{AllOuter, carried}
use Rattle.gos_sharing.proofs.cores.AlongLemmas.{Always, along_map}
use Rattle.gos_sharing.proofs.cores.TrimLemmas.{IsOut, Clear, told_joint}
use Rattle.gos_sharing.proofs.cores.CoreLemmas.{seats, kept, live, within, live_placed, out_dead, seated_from}
use Rattle.gos_sharing.proofs.cores.RegularLemmas.{along}
use Rattle.gos_sharing.proofs.cores.ClosedLemmas.{NoRequest, shut_along, no_answer}
use Rattle.gos_sharing.proofs.cores.JoinedLemmas.{plain_links, large, middle, small, number_same}

zero_suc : (k n : ℕ) → k ≡ 0 → k ≡ suc n → ⊥
zero_suc k n e h = omega (arith, e, h)

module _ (f : Core) (r c : Plan) (is : IsCore f r c) (ps : List Plan) (ls : List Link) (outer : AllOuter ls) (giver skipped : ℕ) (t : Type') (x z y : Plan)
    (of_x : IsJoining (large f r c is ps ls outer giver skipped t) x) (of_z : IsJoining (middle f r c is ps ls outer giver skipped t) z)
    (of_y : IsJoining (small f r c is ps ls outer giver skipped t) y) where
  abbrev large_w : Wiring
  large_w = large f r c is ps ls outer giver skipped t

  abbrev middle_w : Wiring
  middle_w = middle f r c is ps ls outer giver skipped t

  abbrev joined_core : Core
  joined_core = carried f r c x

  -- a segment is one of the plan without dead joints, or dead
  abbrev IsLive : Place → End → Type 0
  IsLive b e = JoinedWithin middle_w b (place b.plan e) × (b.plan ≡ 0 → Contains (kept f r c is) (joint b.end e))

  abbrev IsDeadAt : Place → End → Type 0
  IsDeadAt b e = (b.plan ≡ 0) × IsOut r (kept f r c is) is.right (within f r c is) b.end e

  told_segment : (b : Place) (e : End) → Segment large_w b e → IsLive b e ⊎ IsDeadAt b e
  told_segment b e (p, at, has) = by_plan b.plan refl at
    where
      by_plan : (k : ℕ) → b.plan ≡ k → slice_get (r ∷ ps) k ≡ Some p → IsLive b e ⊎ IsDeadAt b e
      by_plan zero first at_p =
          let same : r ≡ p = cc at_p in
          let in_r : IsIn (joint b.end e) r.joints = subst (λ (q : Plan). IsIn (joint b.end e) q.joints) (sym same) has in
          elim (told_joint r (kept f r c is) is.right (within f r c is) b.end e in_r) [
            | inl has_k ↦ inl ((live f r c is, joint b.end e, refl, ap (slice_get (live f r c is ∷ ps)) first, has_k, inl (refl, refl)), λ also. has_k)
            | inr out ↦ inr (first, out)
          ]
      by_plan (suc k) first at_p =
          inl (
            (p, joint b.end e, refl, ap (slice_get (live f r c is ∷ ps)) first ∙ at_p, listed p.joints (joint b.end e) has, inl (refl, refl)),
            λ also. absurd (zero_suc b.plan k also first),
          )

  -- a trail goes by segments of that plan, or one of them is dead
  abbrev DeadOn : Place → Place → Type 0
  DeadOn a d =
      (k : ℕ) × (m : ℕ) × (b : Place) × (e : End) × Trail large_w k a b × Segment large_w b e × IsDeadAt b e × Trail large_w m b d

  told_trail : (n : ℕ) (a d : Place) → Trail large_w n a d → Paths middle_w a d ⊎ DeadOn a d
  told_trail zero a d same = inl (0, same)
  told_trail (suc n) a d (b, e, tr, seg, linked, asks) = by_first (told_trail n a b tr) (told_segment b e seg)
    where
      by_first : Paths middle_w a b ⊎ DeadOn a b → IsLive b e ⊎ IsDeadAt b e → Paths middle_w a d ⊎ DeadOn a d
      by_first (inr (k, m, b0, e0, t0, seg0, dead, rest)) told = inr (k, suc m, b0, e0, t0, seg0, dead, (b, e, rest, seg, linked, asks))
      by_first (inl path) (inl alive) = inl (paths_then middle_w a b d path (2, (place b.plan e, inl alive.0, (d, inr linked, refl))))
      by_first (inl path) (inr dead) = inr (n, 1, b, e, tr, seg, dead, (b, e, refl, seg, linked, asks))

  -- contacts and places of its joining
  same_contact : (e : End) → contact_at z e ≡ contact_at x e
  same_contact (PartEnd i h) = ap (λ (qs : List Part). slice_get (contacts_of_part (slice_get qs i)) h) (of_z.parts ∙ sym of_x.parts)
  same_contact (ImportEnd i h) = ap (λ (qs : List Imported). slice_get (contacts_of_import (slice_get qs i)) h) (of_z.imports ∙ sym of_x.imports)
  same_contact (ResultEnd h) = ap (λ (q : Type'). turned_if (slice_get (contacts_of q) h)) (of_z.outcome ∙ sym of_x.outcome)

  same_origin : (e : End) → origin large_w e ≡ origin middle_w e
  same_origin (PartEnd i h) = refl
  same_origin (ImportEnd i h) = refl
  same_origin (ResultEnd h) = refl

  -- a joint without a dead segment is one of the core's joining
  alive : (a b : End) → IsDead joined_core x y a b → (d : Place) (e : End) → origin large_w b ≡ place d.plan e → IsLive d e → Paths middle_w (origin large_w a) d → ⊥
  alive a b dead d e lands here path = by_sort (its.all a b in_z)
    where
      its : IsPlaced (numbers (seats f r c is) (live f r c is) c (live_placed f r c is) ps ls (plain_links ls outer) giver skipped t) z y
      its = joinings_placed (seats f r c is) (live f r c is) c (live_placed f r c is) ps ls (plain_links ls outer) giver skipped t z y of_z of_y

      whole_path : Paths middle_w (origin middle_w a) (origin middle_w b)
      whole_path =
          subst (λ (q : Place). Paths middle_w q (origin middle_w b)) (same_origin a)
          (subst (Paths middle_w (origin large_w a)) (same_origin b)
          (paths_then middle_w (origin large_w a) d (origin large_w b) path (1, (place d.plan e, inl here.0, sym lands))))

      in_z : Contains z.joints (joint a b)
      in_z =
          let (q, v, n, asked, served, old) = (of_x.joints a b).0 dead.0 in
          (of_z.joints a b).1 (q, v, whole_path.0, same_contact a ∙ asked, same_contact b ∙ served, whole_path.1)

      by_sort : IsOwn (numbers (seats f r c is) (live f r c is) c (live_placed f r c is) ps ls (plain_links ls outer) giver skipped t) y a b
          ⊎ AreLoose (numbers (seats f r c is) (live f r c is) c (live_placed f r c is) ps ls (plain_links ls outer) giver skipped t) a b → ⊥
      by_sort (inl (d0, e0, has, at_d, at_e)) =
          dead.1 d0 e0 has (number_same f r c is ps ls outer giver skipped t x y of_x of_y d0 ∙ at_d) (number_same f r c is ps ls outer giver skipped t x y of_x of_y e0 ∙ at_e)
      by_sort (inr (loose_a, loose_b)) =
          let (first, loose) =
          loose_stands (seats f r c is) (live f r c is) c (live_placed f r c is) ps ls (plain_links ls outer) giver skipped t z y of_z of_y b loose_b
          in
          let stands : origin middle_w b ≡ place d.plan e = sym (same_origin b) ∙ lands in
          let plan : d.plan ≡ 0 = ap (λ (q : Place). q.plan) (sym stands) ∙ first in
          let (d0, e0, has, at_d, at_e) = seated_from (seats f r c is) c.joints (joint d.end e) (contained (kept f r c is) (joint d.end e) (here.1 plan)) in
          let none : end_in (seats f r c is) e ≡ None = ap (λ (q : Place). end_in (seats f r c is) q.end) (sym stands) ∙ loose in
          let clash : Some e0 ≡ None = sym (in_placed (seats f r c is) (live f r c is) c (live_placed f r c is) e0) ∙ (ap (end_in (seats f r c is)) at_e ∙ none) in
          cc clash

  module _ (still : IsStill f r c) (fit : LinksFit large_w) (ported : LinksArePorts large_w)
      (regular : (k : ℕ) (p : Plan) → slice_get (r ∷ ps) k ≡ Some p → IsRegular p)
      (literals : (k : ℕ) (p : Plan) → slice_get (r ∷ ps) k ≡ Some p → All LiteralFits p.parts) (passes : PassesTurns large_w x) where
    abbrev DeadFrom : End → Type 0
    DeadFrom a = (k : ℕ) × (b : Place) × (e : End) × Trail large_w k (origin large_w a) b × Segment large_w b e × IsDeadAt b e

    dead_on : (a b : End) → IsDead joined_core x y a b → DeadFrom a
    dead_on a b dead = of_trail (joint_trail large_w x fit ported of_x a b (contained x.joints (joint a b) dead.0)).2
      where
        of_trail : (n : ℕ) × (d : Place) × (e : End) × Trail large_w n (origin large_w a) d × Segment large_w d e × (origin large_w b ≡ place d.plan e) → DeadFrom a
        of_trail (n, d, e, tr, seg, lands) = by_told (told_trail n (origin large_w a) d tr) (told_segment d e seg)
          where
            by_told : Paths middle_w (origin large_w a) d ⊎ DeadOn (origin large_w a) d → IsLive d e ⊎ IsDeadAt d e → DeadFrom a
            by_told (inr (k, m, b0, e0, t0, seg0, dead0, rest)) told = (k, b0, e0, t0, seg0, dead0)
            by_told (inl path) (inr dead0) = (n, d, e, tr, seg, dead0)
            by_told (inl path) (inl here) = absurd (alive a b dead d e lands here path)

    -- a dead joint of the plan is closed and empty
    closed : (F : Family) (o : Open) (past : List Pass) (s : Tokens) → Goes large_w x F o past s → (b : Place) (e : End) → IsDeadAt b e → open_at F b ≡ false
    closed F o past s so b e (first, out) =
        ap (λ (k : ℕ). (F k).opens b.end) first
        ∙ shut_along r is.right b.end own m.list none_open (F 0).opens m.first (F 0).tokens
        (along_map r (Clear r (kept f r c is) is.right (within f r c is)) (NoRequest r is.right b.end own) (λ q clear. clear b.end e Request out) m.list m.first
        (along f r c is still m.first m.list m.idle m.inputs)) m.orderly refl
      where
        own : places_of r b.end ≡ Some b.end
        own = stands_there r (joint b.end e) b.end is.right (contained r.joints (joint b.end e) out.0) (asking_stands (joint b.end e))

        m : Reached r (F 0).opens (F 0).past (F 0).tokens
        m = so.reached 0 r refl

    empty : (F : Family) (o : Open) (past : List Pass) (s : Tokens) → Goes large_w x F o past s → (b : Place) (e : End) → IsDeadAt b e → (way : Direction)
        → lying F way b ≡ None
    empty F o past s so b e (first, out) way =
        let m : Reached r (F 0).opens (F 0).past (F 0).tokens = so.reached 0 r refl in
        ap (λ (k : ℕ). (F k).tokens.in_place way b.end) first
        ∙ still m.first (F 0).tokens m.list b.end e way m.idle m.runs m.inputs (out_dead f r c is b.end e out)

    trail_plan : (n : ℕ) (a d : Place) → (p : Plan) × (slice_get (r ∷ ps) a.plan ≡ Some p) → Trail large_w n a d → (p : Plan) × (slice_get (r ∷ ps) d.plan ≡ Some p)
    trail_plan zero a d (p, at) same = (p, ap (λ (q : Place). slice_get (r ∷ ps) q.plan) (sym same) ∙ at)
    trail_plan (suc n) a d there (b, e, tr, seg, linked, (k, at, asks)) = let (p, at_p, has) = plan_at large_w d k at in (p, at_p)

    no_request : (a b : End) → IsDead joined_core x y a b → Always x (λ s. s.in_place Request a ≡ None)
    no_request a b dead s u xs idle runs keeps =
        let (F, o, so) = goes_all large_w x fit ported of_x regular literals passes s u xs idle runs keeps in
        by_held F o (passed x [] xs) so (u.in_place Request a) refl
      where
        at_request : (F : Family) (o : Open) (past : List Pass) → Goes large_w x F o past u → (v n k : ℕ) (c0 b0 : Place) (e0 : End) → Trail large_w n (origin large_w a) c0
            → lying F Request c0 ≡ Some v → Trail large_w k (origin large_w a) b0 → Segment large_w b0 e0 → IsDeadAt b0 e0 → (l : Bool) → nat_lt k n ≡ l → ⊥
        at_request F o past so v n k c0 b0 e0 trail lies t0 seg dead0 true test =
            let later : k < n = grind (arith, nat_tests, test) in
            let rest = trail_rest large_w fit ported (n - k) k n (origin large_w a) b0 c0 (omega (arith, later)) t0 trail in
            let (p, at) = trail_plan (n - k) b0 c0 (seg.0, seg.1) rest in
            let up =
            (open_by_fit ((F c0.plan).opens c0.end) ((F c0.plan).tokens.in_place Request c0.end) ((F c0.plan).tokens.in_place Answer c0.end) v
            ((so.follows.stands c0.plan p at).fit c0.end) lies).0
            in
            let open_b = (chain large_w x fit ported of_x F so.follows.stands so.follows.agree (n - k) b0 c0 rest up).0 in
            let clash : true ≡ false = sym open_b ∙ closed F o past u so b0 e0 dead0 in cc clash
        at_request F o past so v n k c0 b0 e0 trail lies t0 seg dead0 false test =
            let before : n ≤ k = grind (arith, nat_tests, test) in
            let rest = trail_rest large_w fit ported (k - n) n k (origin large_w a) c0 b0 (omega (arith, before)) trail t0 in
            let (G, goes, now, same) = goes_on large_w x fit ported of_x regular literals passes (k - n) F o past u so c0 b0 e0 v rest seg lies in
            some_is_not_none v (lying G Request b0) now (empty G o past u goes b0 e0 dead0 Request)

        by_held : (F : Family) (o : Open) (past : List Pass) → Goes large_w x F o past u → (h : Option ℕ) → u.in_place Request a ≡ h → u.in_place Request a ≡ None
        by_held F o past so None none = none
        by_held F o past so (Some v) held =
            let (n, c0, trail, lies) = so.follows.lies a b (contained x.joints (joint a b) dead.0) Request v held in
            let (k, b0, e0, t0, seg, dead0) = dead_on a b dead in
            absurd (at_request F o past so v n k c0 b0 e0 trail lies t0 seg dead0 (nat_lt k n) refl)

    pub joined_still : IsStill joined_core x y
    joined_still s u xs a b way idle runs keeps dead = by_way way
      where
        own : places_of x a ≡ Some a
        own = stands_there x (joint a b) a of_x.right (contained x.joints (joint a b) dead.0) (asking_stands (joint a b))

        by_way : (w : Direction) → u.in_place w a ≡ None
        by_way Request = no_request a b dead s u xs idle runs keeps
        by_way Answer =
            no_answer x of_x.right a own (joining_is_regular large_w x fit ported of_x regular literals passes) (no_request a b dead) s u xs idle runs keeps
