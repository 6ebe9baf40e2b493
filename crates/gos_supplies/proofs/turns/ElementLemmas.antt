-- Each element of the whole: what is put comes well, outputs keep turns, and the whole goes on.
use Rattle.std.specs.Prelude.{ℕ, ◌<◌, ◌^◌, List, Option, Some, None, All, slice_get}
use Rattle.std.proofs.Common.{◌≡◌, [], ◌∷◌, inl, inr, refl, sym, ◌∙◌, ap, subst}
use Rattle.gos_types.specs.Events.{Direction}
use Rattle.gos_plan.specs.Kinds.{Part, Contact}
use Rattle.gos_plan.specs.Plans.{End, Plan, contact_at}
use Rattle.gos_plan.specs.Tokens.{Tokens, Element, Out, In, Passes, token_at, with_token, bits_of, way_taken, way_put, Does}
use Rattle.gos_plan.specs.TokenBits.{LiteralFits}
use Rattle.gos_plan.specs.Orderly.{Open, after_taken, after_put, ComesWell, ComesInOrder, AllWelcome}
use Rattle.gos_plan.specs.Joining.{Wiring, origin, IsJoining}
use Rattle.gos_plan.proofs.TurnLemmas.{token_state}
use Rattle.gos_realises.specs.realises.Regular.{Pass, pass, way_in, way_out, is_open, KeepsTurns, OutputsKeepTurns, IsRegular}
use Rattle.gos_realises.specs.realises.Links.{LinksFit}
use Rattle.gos_realises.proofs.realises.InputLemmas.{in_there, out_there}
use Rattle.gos_realises.proofs.realises.RingLemmas.{after}
use Rattle.gos_plan.proofs.DecidedLemmas.{Told}
use Rattle.gos_realises.proofs.joined.ReachLemmas.{told_number}
use Rattle.gos_realises.proofs.realises.PassLemmas.{same_turn}
use Rattle.gos_supplies.proofs.turns.RunLemmas.{Reached, out_next, in_next}
use Rattle.gos_supplies.proofs.turns.TrailLemmas.{LinksArePorts, plan_at}
use Rattle.gos_supplies.proofs.turns.FollowLemmas.{Stand, Family, Follows, Seat, at_place, port_there}
use Rattle.gos_supplies.proofs.turns.OpLemmas.{Op, follows_took, follows_put}
use Rattle.gos_supplies.proofs.turns.GoesLemmas.{IsTurned, PassesTurns, Goes, SameStates, setting, set_here, set_else}
use Rattle.gos_supplies.proofs.turns.ReadyLemmas.{ready, all_welcome}

abbrev pub stand : Open → List Pass → Tokens → Stand
stand o past s = record { opens = o; past = past; tokens = s }

-- what an element of the whole comes to
pub record Went (w : Wiring) (r : Plan) (x : Element) (o : Open) (past : List Pass) (s t : Tokens) : Type 0 where
  pub open_then : Open
  pub comes : ComesInOrder r x s o open_then
  pub welcome : AllWelcome r t
  pub outputs : OutputsKeepTurns r past (x ∷ [])
  pub family : Family
  pub goes : Goes w r family open_then (after r x past) t

-- a family with the stand that a plan has is the family
pub same_family : (k : ℕ) (F : Family) → setting k (F k) F ≡ F
same_family k F = λ z m. of_number m z
  where
    of_number : (m : ℕ) → setting k (F k) F m ≡ F m
    of_number m = by_told (told_number m k)
      where
        by_told : Told (m ≡ k) → setting k (F k) F m ≡ F m
        by_told (inl same) =
            subst (λ (n : ℕ). setting k (F k) F n ≡ F n) (sym same) (set_here k (F k) F)
        by_told (inr apart) = set_else k (F k) F m apart

pub each_plan : (w : Wiring) (k : ℕ) (p : Plan) (X : Stand) (F : Family) (Q : Plan → Stand → Type 0) → slice_get w.plans k ≡ Some p → Q p X
    → ((m : ℕ) (z : Plan) → slice_get w.plans m ≡ Some z → Q z (F m)) → (m : ℕ) (z : Plan) → slice_get w.plans m ≡ Some z → Q z (setting k X F m)
each_plan w k p X F Q is new rest m z at = by_told (told_number m k)
  where
    by_told : Told (m ≡ k) → Q z (setting k X F m)
    by_told (inl same) =
        let plans : z ≡ p = cc (at, is, same) in
        subst (λ (y : Plan). Q y (setting k X F m)) (sym plans)
        (subst (λ (n : ℕ). Q p (setting k X F n)) (sym same) (subst (Q p) (sym (set_here k X F)) new))
    by_told (inr apart) = subst (Q z) (sym (set_else k X F m apart)) (rest m z at)

pub goes_then : (w : Wiring) (r : Plan) (F : Family) (o u : Open) (past later : List Pass) (s t : Tokens) (k : ℕ) (p : Plan) (X : Stand) → Goes w r F o past s
    → slice_get w.plans k ≡ Some p → Follows w r (setting k X F) u later t → Reached p X.opens X.past X.tokens → IsTurned p X.past → IsTurned r later
    → ((i : ℕ) (f : Part) (q : Seat w i f) → slice_get r.parts i ≡ Some f → t.state i ≡ (setting k X F q.plan).tokens.state q.part)
    → Goes w r (setting k X F) u later t
goes_then w r F o u past later s t k p X so is follows reached turned outer states =
    record {
      follows = follows;
      reached = each_plan w k p X F (λ (z : Plan) (y : Stand). Reached z y.opens y.past y.tokens) is reached so.reached;
      turned = each_plan w k p X F (λ (z : Plan) (y : Stand). IsTurned z y.past) is turned so.turned;
      outer = outer;
      states = states;
    }

-- where only places change states stay
states_stay : (w : Wiring) (r : Plan) (F : Family) (o : Open) (past : List Pass) (s t : Tokens) (k : ℕ) (X : Stand) → Goes w r F o past s
    → ((i : ℕ) → t.state i ≡ s.state i) → ((i : ℕ) → X.tokens.state i ≡ (F k).tokens.state i)
    → (i : ℕ) (f : Part) (q : Seat w i f) → slice_get r.parts i ≡ Some f → t.state i ≡ (setting k X F q.plan).tokens.state q.part
states_stay w r F o past s t k X so whole own i f q has = whole i ∙ (so.states i f q has ∙ sym (by_told (told_number q.plan k)))
  where
    by_told : Told (q.plan ≡ k) → (setting k X F q.plan).tokens.state q.part ≡ (F q.plan).tokens.state q.part
    by_told (inl same) =
        ap (λ (n : ℕ). (setting k X F n).tokens.state q.part) same
        ∙ (ap (λ (y : Stand). y.tokens.state q.part) (set_here k X F) ∙ (own q.part ∙ ap (λ (n : ℕ). (F n).tokens.state q.part) (sym same)))
    by_told (inr apart) = ap (λ (y : Stand). y.tokens.state q.part) (set_else k X F q.plan apart)

module _ (w : Wiring) (r : Plan) (fit : LinksFit w) (ported : LinksArePorts w) (whole : IsJoining w r)
    (regular : (k : ℕ) (p : Plan) → slice_get w.plans k ≡ Some p → IsRegular p)
    (literals : (k : ℕ) (p : Plan) → slice_get w.plans k ≡ Some p → All LiteralFits p.parts) (passes : PassesTurns w r) where
  pub went_out : (F : Family) (o : Open) (past : List Pass) (s t : Tokens) (e : End) (v : ℕ) → Goes w r F o past s → Does r (Out e v) s t → Went w r (Out e v) o past s t
  went_out F o past s t e v so does = by_contact (out_there r e v s t does)
    where
      by_contact : (c : Contact) × (contact_at r e ≡ Some c) → Went w r (Out e v) o past s t
      by_contact (c, there) =
          record {
            open_then = after_taken r e way o;
            comes = λ d also. (let same : c ≡ d = cc (there, also) in ap (λ (x : Contact). after_taken r e (way_taken x.role) o) same);
            welcome = all_welcome w r fit ported whole regular literals passes (setting k X G) (after_taken r e way o) (pass e way ∷ past) t goes;
            outputs = (
              subst (λ (u : Direction). KeepsTurns r past (pass e u)) (sym led)
                  (same_turn (G k).past past (origin w e).end e way (sym (going.follows.ports e c does.0 there)) out.0.0, outer),
              tt,
            );
            family = setting k X G;
            goes = subst (λ (u : Direction). Goes w r (setting k X G) (after_taken r e way o) (pass e u ∷ past) t) (sym led) goes;
          }
        where
          way : Direction
          way = way_taken c.role

          led : way_out (contact_at r e) ≡ way
          led = ap way_out there

          moves : (token_at r s e way ≡ Some v) × (t ≡ with_token r e way None s)
          moves = subst (λ (f : Option Contact). Passes r (Out e v) f s t) there does.1

          k : ℕ
          k = (origin w e).plan

          its : (p : Plan) × (slice_get w.plans k ≡ Some p) × (contact_at p (origin w e).end ≡ Some c)
          its = plan_at w (origin w e) c (at_place w r fit ported whole e c there)

          p : Plan
          p = its.0

          led_there : (G : Family) × Goes w r G o past s × (token_at p (G (origin w e).plan).tokens (origin w e).end way ≡ Some v) × SameStates F G
          led_there = ready w r fit ported whole regular literals passes F o past s so e c way v p there refl moves.0 its.1

          G : Family
          G = led_there.0

          going : Goes w r G o past s
          going = led_there.1

          out : KeepsTurns p (G k).past (pass (origin w e).end way)
              × Reached p (after_taken p (origin w e).end way (G k).opens) (pass (origin w e).end way ∷ (G k).past) (with_token p (origin w e).end way None (G k).tokens)
          out =
              out_next p (origin w e).end c v (G k).opens (G k).past (G k).tokens way (regular k p its.1) (going.reached k p its.1)
              (port_there w r fit ported whole e c there does.0) its.2 refl led_there.2

          outer : IsTurned r (pass e way ∷ past)
          outer =
              passes.leaves (λ n. (G n).past) past going.follows.agree going.follows.ports going.follows.dead going.turned going.outer e p c way does.0 there its.1 refl out.0.1

          X : Stand
          X =
              stand (after_taken p (origin w e).end way (G k).opens) (pass (origin w e).end way ∷ (G k).past) (with_token p (origin w e).end way None (G k).tokens)

          op : Op w r G (setting k X G) past (pass e way ∷ past) e c way None p
          op =
              record {
                there = there;
                is = its.1;
                others = set_else k X G;
                tokens = ap (λ (y : Stand). y.tokens.in_place) (set_here k X G);
                own = λ d port. ap (λ (y : Stand). is_open y.past d) (set_here k X G);
                outer = λ d port. refl;
              }

          follows : Follows w r (setting k X G) (after_taken r e way o) (pass e way ∷ past) (with_token r e way None s)
          follows =
              follows_took w r fit ported whole G (setting k X G) past (pass e way ∷ past) e c v p o s way refl op going.follows moves.0 led_there.2
              (ap (λ (y : Stand). y.opens) (set_here k X G))

          goes : Goes w r (setting k X G) (after_taken r e way o) (pass e way ∷ past) t
          goes =
              subst (Goes w r (setting k X G) (after_taken r e way o) (pass e way ∷ past)) (sym moves.1)
              (goes_then w r G o (after_taken r e way o) past (pass e way ∷ past) s (with_token r e way None s) k p X going its.1 follows out.1 out.0.1 outer
              (states_stay w r G o past s (with_token r e way None s) k X going (token_state r e way None s) (token_state p (origin w e).end way None (G k).tokens)))

  pub went_in : (F : Family) (o : Open) (past : List Pass) (s t : Tokens) (e : End) (v : ℕ) → Goes w r F o past s → Does r (In e v) s t
      → KeepsTurns r past (pass e (way_in (contact_at r e))) → Went w r (In e v) o past s t
  went_in F o past s t e v so does keeps = by_contact (in_there r e v s t does)
    where
      by_contact : (c : Contact) × (contact_at r e ≡ Some c) → Went w r (In e v) o past s t
      by_contact (c, there) =
          record {
            open_then = after_put r e way o;
            comes = λ d also. (let same : c ≡ d = cc (there, also) in
                subst (λ (x : Contact). ComesWell r e (way_put x.role) o s × (after_put r e way o ≡ after_put r e (way_put x.role) o)) same (put.0, refl));
            welcome = all_welcome w r fit ported whole regular literals passes (setting k X F) (after_put r e way o) (pass e way ∷ past) t goes;
            outputs = tt;
            family = setting k X F;
            goes = subst (λ (u : Direction). Goes w r (setting k X F) (after_put r e way o) (pass e u ∷ past) t) (sym led) goes;
          }
        where
          way : Direction
          way = way_put c.role

          led : way_in (contact_at r e) ≡ way
          led = ap way_in there

          turn : KeepsTurns r past (pass e way)
          turn = subst (λ (u : Direction). KeepsTurns r past (pass e u)) led keeps

          moves : (v < 2 ^ bits_of c way) × (t ≡ with_token r e way (Some v) s)
          moves = subst (λ (f : Option Contact). Passes r (In e v) f s t) there does.1

          k : ℕ
          k = (origin w e).plan

          its : (p : Plan) × (slice_get w.plans k ≡ Some p) × (contact_at p (origin w e).end ≡ Some c)
          its = plan_at w (origin w e) c (at_place w r fit ported whole e c there)

          p : Plan
          p = its.0

          turned : IsTurned p (pass (origin w e).end way ∷ (F k).past)
          turned =
              passes.enters (λ n. (F n).past) past so.follows.agree so.follows.ports so.follows.dead so.turned so.outer e p c way does.0 there its.1 refl turn.1

          come : ComesWell p (origin w e).end way (F k).opens (F k).tokens
              × Reached p (after_put p (origin w e).end way (F k).opens) (pass (origin w e).end way ∷ (F k).past) (with_token p (origin w e).end way (Some v) (F k).tokens)
          come =
              in_next p (origin w e).end c v (F k).opens (F k).past (F k).tokens way (regular k p its.1) (so.reached k p its.1)
              (port_there w r fit ported whole e c there does.0) its.2 refl moves.0
              (same_turn past (F k).past e (origin w e).end way (so.follows.ports e c does.0 there) turn.0, turned)

          X : Stand
          X =
              stand (after_put p (origin w e).end way (F k).opens) (pass (origin w e).end way ∷ (F k).past) (with_token p (origin w e).end way (Some v) (F k).tokens)

          op : Op w r F (setting k X F) past (pass e way ∷ past) e c way (Some v) p
          op =
              record {
                there = there;
                is = its.1;
                others = set_else k X F;
                tokens = ap (λ (y : Stand). y.tokens.in_place) (set_here k X F);
                own = λ d port. ap (λ (y : Stand). is_open y.past d) (set_here k X F);
                outer = λ d port. refl;
              }

          put : ComesWell r e way o s × Follows w r (setting k X F) (after_put r e way o) (pass e way ∷ past) (with_token r e way (Some v) s)
          put =
              follows_put w r fit ported whole F (setting k X F) past (pass e way ∷ past) e c v p o s way refl op so.follows come.0
              (ap (λ (y : Stand). y.opens) (set_here k X F))

          goes : Goes w r (setting k X F) (after_put r e way o) (pass e way ∷ past) t
          goes =
              subst (Goes w r (setting k X F) (after_put r e way o) (pass e way ∷ past)) (sym moves.1)
              (goes_then w r F o (after_put r e way o) past (pass e way ∷ past) s (with_token r e way (Some v) s) k p X so its.1 put.1 come.1 turned turn.1
              (states_stay w r F o past s (with_token r e way (Some v) s) k X so (token_state r e way (Some v) s) (token_state p (origin w e).end way (Some v) (F k).tokens)))
