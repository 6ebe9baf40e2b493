-- How a plan stands at its ports: what is open there is so on the joint behind.
--
-- A port that asks, as the joints see it, has its own handshake open while the outside has it open. Where one that serves is
-- open to the outside its joint is open and empty, since the request has gone out and no answer has come.
use Rattle.std.specs.Prelude.{ℕ, Bool, true, false, ◌&&◌, [], Option, Some, None, if◌then◌else◌}
use Rattle.std.proofs.Common.{◌≡◌, inl, inr, refl, sym, ◌∙◌, ap, subst, arith}
use Rattle.gos_types.specs.declared.shakes.Role.{Role}
use Rattle.gos_types.specs.declared.shakes.Role.TheVariants.{Serve, Ask}
use Rattle.gos_types.specs.Events.{Direction, Request, Answer}
use Rattle.gos_types.proofs.ListLemmas.{some_is_not_none}
use Rattle.gos_types.proofs.RoleLemmas.{ask_is_not_serve, request_is_not_answer}
use Rattle.gos_plan.specs.Kinds.{Contact}
use Rattle.gos_plan.specs.Plans.{End, Joint, Plan, contact_at, same_end, stands_in, IsRight}
use Rattle.gos_plan.specs.Tokens.{Tokens, IsPortEnd, places_of, held_at, with_held, token_at, with_token, same_way, way_taken, way_put}
use Rattle.gos_plan.specs.Orderly.{Open, named_by, handshake_at, with_open, after_taken, after_put, ComesWell}
use Rattle.gos_plan.proofs.HeldLemmas as holding
use Rattle.gos_plan.proofs.HeldLemmas.{nothing_there}
use Rattle.gos_plan.proofs.JointLemmas.{IsIn, same_itself, same_is, fits, one_joint, Found, found, asking_role, serving_role, apart_is_not_same, asking_stands}
use Rattle.gos_plan.proofs.ProjectionLemmas.{port_by_itself}
use Rattle.gos_realises.specs.realises.Regular.{is_request}
use Rattle.gos_realises.proofs.joined.ReachLemmas.{told_end}

-- an end that asks gives its joint the name; two that serve in one joint are one
pub asks_own : (p : Plan) (e a : End) (c : Contact) → IsRight p → contact_at p e ≡ Some c → c.role ≡ Ask → places_of p e ≡ Some a → a ≡ e
asks_own p e a c right there role at = by_test (same_end e f.joint.asking) refl
  where
    f : Found p.joints e a
    f = found p.joints e a at

    by_test : (b : Bool) → same_end e f.joint.asking ≡ b → a ≡ e
    by_test true t = sym f.named ∙ sym (same_is e f.joint.asking t)
    by_test false t =
        let s : same_end e f.joint.serving ≡ true = grind (arith, f.stands, t) in
        absurd (ask_is_not_serve (sym role ∙ serving_role p f.joint c (fits p [] p.joints f.joint right f.is_in) (ap (contact_at p) (sym (same_is e f.joint.serving s)) ∙ there)))

pub serves_in : (p : Plan) (e a : End) (c : Contact) → IsRight p → contact_at p e ≡ Some c → c.role ≡ Serve → places_of p e ≡ Some a
    → (j : Joint) × IsIn j p.joints × (j.asking ≡ a) × (j.serving ≡ e)
serves_in p e a c right there role at = by_test (same_end e f.joint.asking) refl
  where
    f : Found p.joints e a
    f = found p.joints e a at

    by_test : (b : Bool) → same_end e f.joint.asking ≡ b → (j : Joint) × IsIn j p.joints × (j.asking ≡ a) × (j.serving ≡ e)
    by_test true t =
        absurd (ask_is_not_serve (sym (asking_role p f.joint c (fits p [] p.joints f.joint right f.is_in) (ap (contact_at p) (sym (same_is e f.joint.asking t)) ∙ there)) ∙ role))
    by_test false t =
        let s : same_end e f.joint.serving ≡ true = grind (arith, f.stands, t) in (f.joint, f.is_in, f.named, sym (same_is e f.joint.serving s))

pub one_server : (p : Plan) (d e a : End) (b c : Contact) → IsRight p → contact_at p d ≡ Some b → b.role ≡ Serve → contact_at p e ≡ Some c → c.role ≡ Serve
    → places_of p d ≡ Some a → places_of p e ≡ Some a → d ≡ e
one_server p d e a b c right at_d d_serves at_e e_serves named also =
    let (j, has, asking, serving) = serves_in p d a b right at_d d_serves named in
    let (k, has_too, asking_too, serving_too) = serves_in p e a c right at_e e_serves also in
    let one : j ≡ k =
    one_joint p [] p.joints j k a right has has_too (subst (λ (x : End). stands_in x j ≡ true) asking (asking_stands j))
    (subst (λ (x : End). stands_in x k ≡ true) asking_too (asking_stands k))
    in
    sym serving ∙ (ap (λ (x : Joint). x.serving) one ∙ serving_too)

-- what lies in a place after it is filled or emptied, and in the others
pub placed_here : (p : Plan) (e a : End) (way : Direction) (held : Option ℕ) (s : Tokens) → places_of p e ≡ Some a → (with_token p e way held s).in_place way a ≡ held
placed_here p e a way held s at =
    subst (λ (f : Option End). (with_held way f held s).in_place way a ≡ held) (sym at)
    (let one = same_itself a in let two : same_way way way ≡ true = same_ways way in grind (arith, one, two))
  where
    same_ways : (way : Direction) → same_way way way ≡ true
    same_ways Request = refl
    same_ways Answer = refl

pub placed_apart : (p : Plan) (e d : End) (way w : Direction) (held : Option ℕ) (s : Tokens) → (w ≡ way → places_of p e ≡ Some d → ⊥)
    → (with_token p e way held s).in_place w d ≡ s.in_place w d
placed_apart p e d way w held s apart = by_place (places_of p e) refl
  where
    of_way : (w way : Direction) (b : Bool) → (w ≡ way → b ≡ true → ⊥) → (if same_way w way && b then held else s.in_place w d) ≡ s.in_place w d
    of_way Request Request true clash = absurd (clash refl refl)
    of_way Answer Answer true clash = absurd (clash refl refl)
    of_way Request Request false clash = refl
    of_way Answer Answer false clash = refl
    of_way Request Answer b clash = refl
    of_way Answer Request b clash = refl

    by_place : (f : Option End) → places_of p e ≡ f → (with_held way f held s).in_place w d ≡ s.in_place w d
    by_place None none = refl
    by_place (Some a) at = of_way w way (same_end d a) (λ same t. apart same (at ∙ ap Some (sym (same_is d a t))))

-- where a token lies
pub lies_in : (p : Plan) (e : End) (way : Direction) (v : ℕ) (s : Tokens) → token_at p s e way ≡ Some v
    → (a : End) × (places_of p e ≡ Some a) × (s.in_place way a ≡ Some v)
lies_in p e way v s lies = by_place (places_of p e) refl
  where
    by_place : (f : Option End) → places_of p e ≡ f → (a : End) × (places_of p e ≡ Some a) × (s.in_place way a ≡ Some v)
    by_place None none = absurd (nothing_there p e way v s lies none)
    by_place (Some a) at = (a, at, sym (ap (held_at s way) at) ∙ lies)

-- which handshakes are open after one is opened or closed
pub opened_here : (n e : End) (b : Bool) (o : Open) → n ≡ e → with_open n b o e ≡ b
opened_here n e b o same = subst (λ (x : End). (if same_end e x then b else o e) ≡ b) (sym same) (let one = same_itself e in rw one refl)

pub opened_apart : (n d : End) (b : Bool) (o : Open) → (d ≡ n → ⊥) → with_open n b o d ≡ o d
opened_apart n d b o apart = let other = apart_is_not_same d n apart in rw other refl

pub only_closes : (n d : End) (o : Open) → o d ≡ false → with_open n false o d ≡ false
only_closes n d o shut = by_test (same_end d n)
  where
    by_test : (t : Bool) → (if t then false else o d) ≡ false
    by_test true = refl
    by_test false = shut

-- what is open to the outside after something passed an end
abbrev pub Passed : (End → Bool) → (End → Bool) → End → Direction → Type 0
Passed F G e way = (d : End) → IsPortEnd d → G d ≡ (if same_end e d then is_request way else F d)

pub passed_here : (F G : End → Bool) (e : End) (way : Direction) → Passed F G e way → IsPortEnd e → G e ≡ is_request way
passed_here F G e way so port = so e port ∙ (let one = same_itself e in rw one refl)

pub passed_apart : (F G : End → Bool) (e d : End) (way : Direction) → Passed F G e way → IsPortEnd d → (e ≡ d → ⊥) → G d ≡ F d
passed_apart F G e d way so port apart = so d port ∙ (let other = apart_is_not_same e d apart in rw other refl)

-- the joint of an end is open, and nothing lies there
abbrev pub OpenAndEmpty : Plan → End → Open → Tokens → Type 0
OpenAndEmpty p e o s = (a : End) × (places_of p e ≡ Some a) × (o a ≡ true) × (s.in_place Request a ≡ None) × (s.in_place Answer a ≡ None)

-- How a plan stands: the open handshakes by name, those that are open to the outside, and the tokens.
pub record Stands (p : Plan) (o : Open) (F : End → Bool) (s : Tokens) : Type 0 where
  pub fit : holding.AllFit o s
  pub asks_open : (e : End) (c : Contact) → IsPortEnd e → contact_at p e ≡ Some c → c.role ≡ Ask → o e ≡ F e
  pub serves_open : (e : End) (c : Contact) → IsPortEnd e → contact_at p e ≡ Some c → c.role ≡ Serve → F e ≡ true → OpenAndEmpty p e o s
  pub only_asks : (e : End) (c : Contact) → contact_at p e ≡ Some c → c.role ≡ Serve → o e ≡ false

pub role_apart : (p : Plan) (d e : End) (b c : Contact) → contact_at p d ≡ Some b → b.role ≡ Ask → contact_at p e ≡ Some c → c.role ≡ Serve → d ≡ e → ⊥
role_apart p d e b c at_d asks at_e serves same =
    let one : Some b ≡ Some c = sym at_d ∙ (ap (contact_at p) same ∙ at_e) in
    let is : b ≡ c = cc one in ask_is_not_serve (sym asks ∙ (ap (λ (x : Contact). x.role) is ∙ serves))

pub open_by_fit : (b : Bool) (q r : Option ℕ) (v : ℕ) → holding.Fits b q r → q ≡ Some v → (b ≡ true) × (r ≡ None)
open_by_fit false q r v h some = absurd (some_is_not_none v q some h.0)
open_by_fit true q r v (inl none) some = absurd (some_is_not_none v q some none)
open_by_fit true q r v (inr none) some = (refl, none)

pub both_ways : Answer ≡ Request → ⊥
both_ways e = cc e

-- an answer is taken where the plan asks
pub took_answer : (p : Plan) (e : End) (c : Contact) (v : ℕ) (o : Open) (F G : End → Bool) (s : Tokens) → IsRight p → contact_at p e ≡ Some c → c.role ≡ Ask
    → token_at p s e Answer ≡ Some v → Passed F G e Answer → Stands p o F s → Stands p (after_taken p e Answer o) G (with_token p e Answer None s)
took_answer p e c v o F G s right there asks lies passed st =
    record {
      fit = holding.taken p e Answer v o s lies st.fit;
      asks_open = asks_open;
      serves_open = serves_open;
      only_asks = λ d b at role. only_closes (handshake_at p e) d o (st.only_asks d b at role);
    }
  where
    own : handshake_at p e ≡ e
    own = port_by_itself p e c right there asks

    held : s.in_place Answer e ≡ Some v
    held = let (a, at, is) = lies_in p e Answer v s lies in ap (s.in_place Answer) (sym (asks_own p e a c right there asks at)) ∙ is

    asks_open : (d : End) (b : Contact) → IsPortEnd d → contact_at p d ≡ Some b → b.role ≡ Ask → (after_taken p e Answer o) d ≡ G d
    asks_open d b port at role =
        elim (told_end e d) [
          | inl same ↦ subst (λ (x : End). (after_taken p e Answer o) x ≡ G x) same
              (opened_here (handshake_at p e) e false o own ∙ sym (passed_here F G e Answer passed (subst IsPortEnd (sym same) port)))
          | inr apart ↦ opened_apart (handshake_at p e) d false o (λ same. apart (sym (same ∙ own)))
              ∙ (st.asks_open d b port at role ∙ sym (passed_apart F G e d Answer passed port apart))
        ]

    serves_open : (d : End) (b : Contact) → IsPortEnd d → contact_at p d ≡ Some b → b.role ≡ Serve → G d ≡ true
        → OpenAndEmpty p d (after_taken p e Answer o) (with_token p e Answer None s)
    serves_open d b port at role up =
        let apart = role_apart p e d c b there asks at role in
        let (a, named, a_open, request, answer) = st.serves_open d b port at role (sym (passed_apart F G e d Answer passed port apart) ∙ up) in
        let other : a ≡ e → ⊥ = λ same. some_is_not_none v (s.in_place Answer e) held (ap (s.in_place Answer) (sym same) ∙ answer) in (
          a,
          named,
          opened_apart (handshake_at p e) a false o (λ same. other (same ∙ own)) ∙ a_open,
          placed_apart p e a Answer Request None s (λ same. absurd (request_is_not_answer same)) ∙ request,
          placed_apart p e a Answer Answer None s (λ same is. other (asks_own p e a c right there asks is)) ∙ answer,
        )

-- a request is taken where it serves
pub took_request : (p : Plan) (e : End) (c : Contact) (v : ℕ) (o : Open) (F G : End → Bool) (s : Tokens) → IsRight p → contact_at p e ≡ Some c → c.role ≡ Serve
    → token_at p s e Request ≡ Some v → Passed F G e Request → Stands p o F s → Stands p o G (with_token p e Request None s)
took_request p e c v o F G s right there serves lies passed st =
    record {
      fit = holding.taken p e Request v o s lies st.fit;
      asks_open = λ d b port at role. st.asks_open d b port at role
          ∙ sym (passed_apart F G e d Request passed port (λ same. role_apart p d e b c at role there serves (sym same)));
      serves_open = λ d b port at role up. elim (told_end e d) [ inl same ↦ here d same | inr apart ↦ other d b port at role up apart ];
      only_asks = st.only_asks;
    }
  where
    here : (d : End) → e ≡ d → OpenAndEmpty p d o (with_token p e Request None s)
    here d same =
        let (a, named, is) = lies_in p e Request v s lies in
        let fit = open_by_fit (o a) (s.in_place Request a) (s.in_place Answer a) v (st.fit a) is in (
          a,
          ap (places_of p) (sym same) ∙ named,
          fit.0,
          placed_here p e a Request None s named,
          placed_apart p e a Request Answer None s (λ other. absurd (both_ways other)) ∙ fit.1,
        )

    other : (d : End) (b : Contact) → IsPortEnd d → contact_at p d ≡ Some b → b.role ≡ Serve → G d ≡ true → (e ≡ d → ⊥)
        → OpenAndEmpty p d o (with_token p e Request None s)
    other d b port at role up apart =
        let (a, named, a_open, request, answer) = st.serves_open d b port at role (sym (passed_apart F G e d Request passed port apart) ∙ up) in (
          a,
          named,
          a_open,
          placed_apart p e a Request Request None s (λ same is. apart (one_server p e d a c b right there serves at role is named)) ∙ request,
          placed_apart p e a Request Answer None s (λ same. absurd (both_ways same)) ∙ answer,
        )

-- a request is put where the plan asks
pub put_request : (p : Plan) (e : End) (c : Contact) (v : ℕ) (o : Open) (F G : End → Bool) (s : Tokens) → IsRight p → contact_at p e ≡ Some c → c.role ≡ Ask
    → ComesWell p e Request o s → Passed F G e Request → Stands p o F s → Stands p (after_put p e Request o) G (with_token p e Request (Some v) s)
put_request p e c v o F G s right there asks well passed st =
    record {
      fit = holding.put_well p e Request v o s well st.fit;
      asks_open = asks_open;
      serves_open = serves_open;
      only_asks = λ d b at role.
          opened_apart (handshake_at p e) d true o (λ same. role_apart p e d c b there asks at role (sym (same ∙ own))) ∙ st.only_asks d b at role;
    }
  where
    own : handshake_at p e ≡ e
    own = port_by_itself p e c right there asks

    shut : o e ≡ false
    shut = ap o (sym own) ∙ well

    asks_open : (d : End) (b : Contact) → IsPortEnd d → contact_at p d ≡ Some b → b.role ≡ Ask → (after_put p e Request o) d ≡ G d
    asks_open d b port at role =
        elim (told_end e d) [
          | inl same ↦ subst (λ (x : End). (after_put p e Request o) x ≡ G x) same
              (opened_here (handshake_at p e) e true o own ∙ sym (passed_here F G e Request passed (subst IsPortEnd (sym same) port)))
          | inr apart ↦ opened_apart (handshake_at p e) d true o (λ same. apart (sym (same ∙ own)))
              ∙ (st.asks_open d b port at role ∙ sym (passed_apart F G e d Request passed port apart))
        ]

    serves_open : (d : End) (b : Contact) → IsPortEnd d → contact_at p d ≡ Some b → b.role ≡ Serve → G d ≡ true
        → OpenAndEmpty p d (after_put p e Request o) (with_token p e Request (Some v) s)
    serves_open d b port at role up =
        let apart = role_apart p e d c b there asks at role in
        let (a, named, a_open, request, answer) = st.serves_open d b port at role (sym (passed_apart F G e d Request passed port apart) ∙ up) in
        let other : a ≡ e → ⊥ = λ same. (let never : true ≡ false = sym a_open ∙ (ap o same ∙ shut) in cc never) in (
          a,
          named,
          opened_apart (handshake_at p e) a true o (λ same. other (same ∙ own)) ∙ a_open,
          placed_apart p e a Request Request (Some v) s (λ same is. other (asks_own p e a c right there asks is)) ∙ request,
          placed_apart p e a Request Answer (Some v) s (λ same. absurd (both_ways same)) ∙ answer,
        )

-- an answer is put where it serves
pub put_answer : (p : Plan) (e : End) (c : Contact) (v : ℕ) (o : Open) (F G : End → Bool) (s : Tokens) → IsRight p → contact_at p e ≡ Some c → c.role ≡ Serve
    → ComesWell p e Answer o s → Passed F G e Answer → Stands p o F s → Stands p o G (with_token p e Answer (Some v) s)
put_answer p e c v o F G s right there serves well passed st =
    record {
      fit = holding.put_well p e Answer v o s well st.fit;
      asks_open = λ d b port at role. st.asks_open d b port at role
          ∙ sym (passed_apart F G e d Answer passed port (λ same. role_apart p d e b c at role there serves (sym same)));
      serves_open = λ d b port at role up. elim (told_end e d) [ inl same ↦ absurd (shut d same port up) | inr apart ↦ other d b port at role up apart ];
      only_asks = st.only_asks;
    }
  where
    shut : (d : End) → e ≡ d → IsPortEnd d → G d ≡ true → ⊥
    shut d same port up =
        let never : true ≡ false = sym up ∙ (ap G (sym same) ∙ passed_here F G e Answer passed (subst IsPortEnd (sym same) port)) in cc never

    other : (d : End) (b : Contact) → IsPortEnd d → contact_at p d ≡ Some b → b.role ≡ Serve → G d ≡ true → (e ≡ d → ⊥)
        → OpenAndEmpty p d o (with_token p e Answer (Some v) s)
    other d b port at role up apart =
        let (a, named, a_open, request, answer) = st.serves_open d b port at role (sym (passed_apart F G e d Answer passed port apart) ∙ up) in (
          a,
          named,
          a_open,
          placed_apart p e a Answer Request (Some v) s (λ same. absurd (request_is_not_answer same)) ∙ request,
          placed_apart p e a Answer Answer (Some v) s (λ same is. apart (one_server p e d a c b right there serves at role is named)) ∙ answer,
        )

-- it depends on the tokens alone
pub stands_same : (p : Plan) (o : Open) (F : End → Bool) (s t : Tokens) → t.in_place ≡ s.in_place → Stands p o F s → Stands p o F t
stands_same p o F s t same st =
    record {
      fit = λ a. subst (λ (g : Direction → End → Option ℕ). holding.Fits (o a) (g Request a) (g Answer a)) (sym same) (st.fit a);
      asks_open = st.asks_open;
      serves_open = λ e c port at role up.
          let (a, named, a_open, request, answer) = st.serves_open e c port at role up in
          (a, named, a_open, (λ i. same i Request a) ∙ request, (λ i. same i Answer a) ∙ answer);
      only_asks = st.only_asks;
    }

-- taking and putting, in either role
pub taken_stands : (p : Plan) (e : End) (c : Contact) (v : ℕ) (o : Open) (F G : End → Bool) (s : Tokens) (way : Direction) → IsRight p → contact_at p e ≡ Some c
    → way_taken c.role ≡ way → token_at p s e way ≡ Some v → Passed F G e way → Stands p o F s → Stands p (after_taken p e way o) G (with_token p e way None s)
taken_stands p e c v o F G s way right there is lies passed st = by_role c.role refl
  where
    by_role : (role : Role) → c.role ≡ role → Stands p (after_taken p e way o) G (with_token p e way None s)
    by_role Ask role =
        let ways : Answer ≡ way = sym (ap way_taken role) ∙ is in
        subst (λ (u : Direction). Stands p (after_taken p e u o) G (with_token p e u None s)) ways
        (took_answer p e c v o F G s right there role (subst (λ (u : Direction). token_at p s e u ≡ Some v) (sym ways) lies) (subst (Passed F G e) (sym ways) passed) st)
    by_role Serve role =
        let ways : Request ≡ way = sym (ap way_taken role) ∙ is in
        subst (λ (u : Direction). Stands p (after_taken p e u o) G (with_token p e u None s)) ways
        (took_request p e c v o F G s right there role (subst (λ (u : Direction). token_at p s e u ≡ Some v) (sym ways) lies) (subst (Passed F G e) (sym ways) passed) st)

pub put_stands : (p : Plan) (e : End) (c : Contact) (v : ℕ) (o : Open) (F G : End → Bool) (s : Tokens) (way : Direction) → IsRight p → contact_at p e ≡ Some c
    → way_put c.role ≡ way → ComesWell p e way o s → Passed F G e way → Stands p o F s → Stands p (after_put p e way o) G (with_token p e way (Some v) s)
put_stands p e c v o F G s way right there is well passed st = by_role c.role refl
  where
    by_role : (role : Role) → c.role ≡ role → Stands p (after_put p e way o) G (with_token p e way (Some v) s)
    by_role Ask role =
        let ways : Request ≡ way = sym (ap way_put role) ∙ is in
        subst (λ (u : Direction). Stands p (after_put p e u o) G (with_token p e u (Some v) s)) ways
        (put_request p e c v o F G s right there role (subst (λ (u : Direction). ComesWell p e u o s) (sym ways) well) (subst (Passed F G e) (sym ways) passed) st)
    by_role Serve role =
        let ways : Answer ≡ way = sym (ap way_put role) ∙ is in
        subst (λ (u : Direction). Stands p (after_put p e u o) G (with_token p e u (Some v) s)) ways
        (put_answer p e c v o F G s right there role (subst (λ (u : Direction). ComesWell p e u o s) (sym ways) well) (subst (Passed F G e) (sym ways) passed) st)

-- only the end's own handshake is opened or closed
pub taken_apart : (p : Plan) (e d : End) (c : Contact) (o : Open) (way : Direction) → IsRight p → contact_at p e ≡ Some c → way_taken c.role ≡ way → (d ≡ e → ⊥)
    → after_taken p e way o d ≡ o d
taken_apart p e d c o way right there is apart = by_role c.role refl
  where
    by_role : (role : Role) → c.role ≡ role → after_taken p e way o d ≡ o d
    by_role Ask role =
        subst (λ (u : Direction). after_taken p e u o d ≡ o d) (sym (ap way_taken role) ∙ is)
        (opened_apart (handshake_at p e) d false o (λ same. apart (same ∙ port_by_itself p e c right there role)))
    by_role Serve role = subst (λ (u : Direction). after_taken p e u o d ≡ o d) (sym (ap way_taken role) ∙ is) refl

pub put_apart : (p : Plan) (e d : End) (c : Contact) (o : Open) (way : Direction) → IsRight p → contact_at p e ≡ Some c → way_put c.role ≡ way → (d ≡ e → ⊥)
    → after_put p e way o d ≡ o d
put_apart p e d c o way right there is apart = by_role c.role refl
  where
    by_role : (role : Role) → c.role ≡ role → after_put p e way o d ≡ o d
    by_role Ask role =
        subst (λ (u : Direction). after_put p e u o d ≡ o d) (sym (ap way_put role) ∙ is)
        (opened_apart (handshake_at p e) d true o (λ same. apart (same ∙ port_by_itself p e c right there role)))
    by_role Serve role = subst (λ (u : Direction). after_put p e u o d ≡ o d) (sym (ap way_put role) ∙ is) refl

-- what comes well finds its place empty
pub well_empty : (p : Plan) (e a : End) (way : Direction) (o : Open) (s : Tokens) → ComesWell p e way o s → holding.AllFit o s → places_of p e ≡ Some a
    → s.in_place way a ≡ None
well_empty p e a Request o s well fit named =
    let shut : o a ≡ false = sym (ap (λ (f : Option End). o (named_by f e)) named) ∙ well in
    (subst (λ (b : Bool). holding.Fits b (s.in_place Request a) (s.in_place Answer a)) shut (fit a)).0
well_empty p e a Answer o s well fit named = sym (ap (held_at s Answer) named) ∙ well.1 Answer
