-- A handshake in service stays so until it is answered.
use Rattle.std.specs.Prelude.{Option, None}
use Rattle.std.proofs.Common.{◌≡◌, ℕ, Bool, true, false, List, [], ◌∷◌, Some, refl, sym, ◌∙◌, ap, subst, arith, if◌then◌else◌}
use Rattle.gos_types.specs.declared.shakes.Role.TheVariants.{Serve, Ask}
use Rattle.gos_types.specs.Events.{Direction, Request, Answer}
use Rattle.gos_plan.specs.Kinds.{Contact}
use Rattle.gos_plan.specs.Firing.{Slot, Req, Ans, Token, same_slot}
use Rattle.gos_plan.specs.Plans.{End, PartEnd, Joint, Plan, IsRight, Fits, contact_at, same_end, stands_in}
use Rattle.gos_plan.specs.Tokens.{Tokens, places_of, held_at, with_held, end_of, way_of, token_at, with_token, with_puts}
use Rattle.gos_plan.specs.Orderly.{named_by, handshake_at, Open, with_open, after_taken, after_put, ComesWell, AllComeWell, after_puts}
use Rattle.gos_plan.proofs.JointLemmas.{same_is, same_itself, fits, Found, found, one_joint}
use Rattle.gos_plan.proofs.HeldLemmas.{nothing_there}
use Rattle.gos_realises.specs.quiet.Ranks.{Ranks, with_rank, rank_put, ranks_after}
use Rattle.gos_realises.proofs.quiet.TieLemmas.{is_put}

-- a handshake whose request was taken, and whose answer was not put
pub record Busy (o : Open) (s : Tokens) (n : End) : Type 0 where
  pub is_open : o n ≡ true
  pub request : s.in_place Request n ≡ None
  pub answer : s.in_place Answer n ≡ None

-- two ends of one joint that both serve are one
serves_there : (p : Plan) (e n : End) → IsRight p → places_of p e ≡ Some n → ((c : Contact) → contact_at p e ≡ Some c → c.role ≡ Serve)
    → (f : Found p.joints e n) → e ≡ f.joint.serving
serves_there p e n right there serves f = by_test (same_end e f.joint.asking) refl
  where
    fit : Fits p f.joint
    fit = fits p [] p.joints f.joint right f.is_in

    by_test : (b : Bool) → same_end e f.joint.asking ≡ b → e ≡ f.joint.serving
    by_test true is =
        let asks = ap (contact_at p) (same_is e f.joint.asking is) ∙ fit.2 in
        let never : Serve ≡ Ask = sym (serves _ asks) in
        absurd (cc never)
    by_test false is = same_is e f.joint.serving (grind (arith, f.stands, is))

pub one_server : (p : Plan) (e d n : End) → IsRight p → places_of p e ≡ Some n → places_of p d ≡ Some n
    → ((c : Contact) → contact_at p e ≡ Some c → c.role ≡ Serve) → ((c : Contact) → contact_at p d ≡ Some c → c.role ≡ Serve) → e ≡ d
one_server p e d n right one two serves also =
    serves_there p e n right one serves f ∙ (ap (λ (j : Joint). j.serving) same ∙ sym (serves_there p d n right two also g))
  where
    f : Found p.joints e n
    f = found p.joints e n one

    g : Found p.joints d n
    g = found p.joints d n two

    same : f.joint ≡ g.joint
    same =
        one_joint p [] p.joints f.joint g.joint n right f.is_in g.is_in (asks_in f.joint n f.named)
        (asks_in g.joint n g.named)
      where
        asks_in : (j : Joint) (a : End) → j.asking ≡ a → stands_in a j ≡ true
        asks_in j a is = let first : same_end a j.asking ≡ true = ap (same_end a) is ∙ same_itself a in grind (arith, first)

-- a token is taken
pub busy_taken : (p : Plan) (d : End) (way : Direction) (v : ℕ) (o : Open) (s : Tokens) (n : End) → token_at p s d way ≡ Some v → Busy o s n
    → Busy (after_taken p d way o) (with_token p d way None s) n
busy_taken p d way v o s n lies busy = by_place (places_of p d) refl
  where
    by_place : (a : Option End) → places_of p d ≡ a → Busy (after_taken p d way o) (with_token p d way None s) n
    by_place None none = absurd (nothing_there p d way v s lies none)
    by_place (Some e) there = by_test (same_end n e) refl
      where
        here : s.in_place way e ≡ Some v
        here = sym (ap (held_at s way) there) ∙ lies

        nothing : (w : Direction) → s.in_place w n ≡ None
        nothing Request = busy.request
        nothing Answer = busy.answer

        of_way : (w : Direction) → same_end n e ≡ false → Busy (after_taken p d w o) (with_token p d w None s) n
        of_way Request apart =
            subst (λ (a : Option End). Busy o (with_held Request a None s) n) (sym there)
            (record { is_open = busy.is_open; request = rw apart busy.request; answer = busy.answer })
        of_way Answer apart =
            subst (λ (a : Option End). Busy (with_open (named_by a d) false o) (with_held Answer a None s) n) (sym there)
            (record { is_open = rw apart busy.is_open; request = busy.request; answer = rw apart busy.answer })

        by_test : (b : Bool) → same_end n e ≡ b → Busy (after_taken p d way o) (with_token p d way None s) n
        by_test true is =
            let never : None ≡ Some v = sym (nothing way) ∙ (ap (s.in_place way) (same_is n e is) ∙ here) in
            absurd (cc never)
        by_test false apart = of_way way apart

-- a token is put, which is no answer to it
pub busy_put : (p : Plan) (d : End) (way : Direction) (v : ℕ) (o : Open) (s : Tokens) (n : End) → ComesWell p d way o s
    → (way ≡ Answer → places_of p d ≡ Some n → ⊥) → Busy o s n → Busy (after_put p d way o) (with_token p d way (Some v) s) n
busy_put p d Request v o s n well other busy = by_place (places_of p d) refl
  where
    by_place : (a : Option End) → places_of p d ≡ a → Busy (with_open (handshake_at p d) true o) (with_token p d Request (Some v) s) n
    by_place None none =
        subst (λ (a : Option End). Busy (with_open (named_by a d) true o) (with_held Request a (Some v) s) n) (sym none)
        (record { is_open = opened (same_end n d); request = busy.request; answer = busy.answer })
      where
        opened : (b : Bool) → (if b then true else o n) ≡ true
        opened true = refl
        opened false = busy.is_open
    by_place (Some e) there =
        subst (λ (a : Option End). Busy (with_open (named_by a d) true o) (with_held Request a (Some v) s) n) (sym there) (by_test (same_end n e) refl)
      where
        by_test : (b : Bool) → same_end n e ≡ b → Busy (with_open e true o) (with_held Request (Some e) (Some v) s) n
        by_test true is =
            let shut : o e ≡ false = subst (λ (a : Option End). o (named_by a d) ≡ false) there well in
            let never : true ≡ false = sym busy.is_open ∙ (ap o (same_is n e is) ∙ shut) in
            absurd (cc never)
        by_test false apart = record { is_open = rw apart busy.is_open; request = rw apart busy.request; answer = busy.answer }
busy_put p d Answer v o s n well other busy = by_place (places_of p d) refl
  where
    by_place : (a : Option End) → places_of p d ≡ a → Busy o (with_token p d Answer (Some v) s) n
    by_place None none = subst (λ (a : Option End). Busy o (with_held Answer a (Some v) s) n) (sym none)
        (record { is_open = busy.is_open; request = busy.request; answer = busy.answer })
    by_place (Some e) there =
        subst (λ (a : Option End). Busy o (with_held Answer a (Some v) s) n) (sym there) (by_test (same_end n e) refl)
      where
        by_test : (b : Bool) → same_end n e ≡ b → Busy o (with_held Answer (Some e) (Some v) s) n
        by_test true is = absurd (other refl (there ∙ ap (λ (x : End). Some x) (sym (same_is n e is))))
        by_test false apart = record { is_open = busy.is_open; request = busy.request; answer = rw apart busy.answer }

-- and its rank stays
rank_stays : (p : Plan) (d : End) (way : Direction) (k : ℕ) (o : Open) (f : Ranks) (s : Tokens) (n : End) → ComesWell p d way o s → o n ≡ true
    → rank_put p d way k f n ≡ f n
rank_stays p d Request k o f s n well is_open = by_test (same_end n (handshake_at p d)) refl
  where
    by_test : (b : Bool) → same_end n (handshake_at p d) ≡ b → with_rank (handshake_at p d) k f n ≡ f n
    by_test true is = let never : true ≡ false = sym is_open ∙ (ap o (same_is n (handshake_at p d) is) ∙ well) in absurd (cc never)
    by_test false apart = rw apart refl
rank_stays p d Answer k o f s n well is_open = refl

-- part i puts tokens, none of which answers it
abbrev pub NeverAnswers : Plan → ℕ → End → List Token → Type 0
NeverAnswers p i n ts = (h : ℕ) → is_put (Ans h) ts ≡ true → places_of p (PartEnd i h) ≡ Some n → ⊥

pub busy_puts : (p : Plan) (i k : ℕ) (ts : List Token) (o : Open) (f : Ranks) (s : Tokens) (n : End) → AllComeWell p i ts o s → NeverAnswers p i n ts
    → Busy o s n → Busy (after_puts p i ts o) (with_puts p i ts s) n × (ranks_after p i k ts f n ≡ f n)
busy_puts p i k [] o f s n well other busy = (busy, refl)
busy_puts p i k (t ∷ ts) o f s n well other busy =
    let first = busy_put p (end_of i t.slot) (way_of t.slot) t.value o s n well.0 (not_here t.slot refl) busy in
    let rest = busy_puts p i k ts (after_put p (end_of i t.slot) (way_of t.slot) o) (rank_put p (end_of i t.slot) (way_of t.slot) k f)
    (with_token p (end_of i t.slot) (way_of t.slot) (Some t.value) s) n well.1 later first in
    (rest.0, rest.1 ∙ rank_stays p (end_of i t.slot) (way_of t.slot) k o f s n well.0 busy.is_open)
  where
    not_here : (slot : Slot) → t.slot ≡ slot → way_of slot ≡ Answer → places_of p (end_of i slot) ≡ Some n → ⊥
    not_here (Req h) is way there = cc way
    not_here (Ans h) is way there = other h (grind (arith, is)) there

    later : NeverAnswers p i n ts
    later h put there = other h (by_test (same_slot t.slot (Ans h))) there
      where
        by_test : (b : Bool) → (if b then true else is_put (Ans h) ts) ≡ true
        by_test true = refl
        by_test false = put
