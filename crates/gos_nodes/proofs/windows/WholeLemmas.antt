-- The whole where one token lies, or none; and what a firing of the own part leads to.
use Rattle.std.specs.Prelude.{◌^◌, ◌<◌, ◌&&◌, None, nat_eq, slice_get, Contains}
use Rattle.std.proofs.Common.{◌≡◌, ℕ, Bool, true, false, List, [], ◌∷◌, ◌⊎◌, Option, Some, inl, inr, refl, sym, ◌∙◌, ap, subst, arith, if◌then◌else◌}
use Rattle.std.proofs.lemmas.Option.{same_Some}
use Rattle.std.proofs.lemmas.Bool.{ne_eqb}
use Rattle.gos_types.specs.declared.shakes.Role.{Role}
use Rattle.gos_types.specs.declared.shakes.Role.TheVariants.{Serve, Ask}
use Rattle.gos_types.specs.Types.{Type', Com, Exp, Var, Pair, Fun, IsDone}
use Rattle.gos_types.specs.Events.{Direction, Request, Answer}
use Rattle.gos_types.proofs.BoolLemmas.{and_first, and_second}
use Rattle.gos_model.proofs.NumberLemmas.{nat_eq_itself}
use Rattle.gos_plan.specs.Kinds.{Contact, contacts_of}
use Rattle.gos_plan.specs.Firing.{Rest, State, Req, Ans, Token, Row, at, put}
use Rattle.gos_plan.specs.Plans.{End, PartEnd, ImportEnd, ResultEnd, Joint, Plan, contact_at, stands_in, same_end, turned_if}
use Rattle.gos_plan.specs.Tokens.{Tokens, Element, In, places_of, same_way, held_at, with_held, with_token, with_state, token_at, with_puts, end_of, way_of, way_put, bits_of, Passes, Does}
use Rattle.gos_plan.proofs.JointLemmas.{IsIn, Found, found, one_joint, stands_there, contained, same_is, same_itself, asking_stands, serving_stands, which_end}
use Rattle.gos_plan.proofs.HeldLemmas.{nothing_there}
use Rattle.gos_plan.proofs.TurnLemmas.{token_state}
use Rattle.gos_plan.proofs.TokenBitsLemmas.{same_way_itself, same_way_is}
use Rattle.gos_realises.specs.realises.Regular.{Pass, pass, way_in, is_open, ComesInTurn, KeepsTurns}
use Rattle.gos_realises.proofs.realises.InputLemmas.{in_there, passed}
use Rattle.gos_joining.specs.webs.Webs.{joint}
use Rattle.gos_joining.specs.webs.Cutting.{lies_at, StandsIn}
use Rattle.gos_joining.proofs.webs.MovedLemmas.{listed}
use Rattle.gos_joining.proofs.webs.CutLemmas.{stands_by, stands_own, lies_there}
use Rattle.gos_nodes.specs.windows.Nodes.{Stage}
use Rattle.gos_nodes.specs.windows.OneSession.{IsTidy}
use Rattle.gos_nodes.specs.windows.Windows.{Runner, seen, StirsOnly, HoldsOnly}
use Rattle.gos_nodes.proofs.windows.PortLemmas.{port_end}
use Rattle.gos_nodes.proofs.windows.StageLemmas.{Emptied, stage, InStage, Ran, end_is, idle_seen, asked}
use Rattle.gos_nodes.proofs.windows.TurnLemmas.{Turned, asked_within, way_in_of, OnlyResult}
use Rattle.gos_nodes.proofs.windows.FollowLemmas.{Follows, follows_first}
use Rattle.gos_nodes.proofs.windows.AskedLemmas.{asked_first, asked_in}
use Rattle.gos_nodes.proofs.windows.RunnerLemmas.{IsAskedStage, LeadsOn, RunsStages}

pub no_bits : (t : Type') → IsDone t → (c : Contact) → turned_if (slice_get (contacts_of t) 0) ≡ Some c → c.ask_bits ≡ 0
no_bits Com done c is = ap (λ (x : Contact). x.ask_bits) (sym (same_Some _ c is))
no_bits (Exp w) done c is = ap (λ (x : Contact). x.ask_bits) (sym (same_Some _ c is))
no_bits (Var w) done c is = absurd done
no_bits (Pair a b) done c is = absurd done
no_bits (Fun a b) done c is = absurd done

pub zero_only : (v : ℕ) → v < 2 ^ 0 → v ≡ 0
zero_only v less = let small : v < 1 = less in omega (arith, small)

-- one token
module _ (r : Plan) (e : End) (way : Direction) (v : ℕ) (s : Tokens) where
  pub put_only : ((w : Direction) (y : End) → s.in_place w y ≡ None) → ((i : ℕ) → (s.state i).phase ≡ Rest) → (x : End) → places_of r e ≡ Some x
      → HoldsOnly r e way v (with_token r e way (Some v) s)
  put_only empty rests x named =
      record {
        states = λ i. ap (λ (q : State). q.phase) (token_state r e way (Some v) s i) ∙ rests i;
        held = lies_there r e x way v s named;
        alone = λ w y k is. of_place w y k (subst (λ (o : Option End). (with_held way o (Some v) s).in_place w y ≡ Some k) named is);
      }
    where
      of_test : (w : Direction) (y : End) (k : ℕ) (b : Bool) → same_way w way && same_end y x ≡ b → (if b then Some v else s.in_place w y) ≡ Some k
          → (w ≡ way) × (places_of r e ≡ Some y)
      of_test w y k true t is =
          (same_way_is w way (and_first (same_way w way) (same_end y x) t), named ∙ ap Some (sym (same_is y x (and_second (same_way w way) (same_end y x) t))))
      of_test w y k false t is = let clash : None ≡ Some k = sym (empty w y) ∙ is in absurd (cc clash)

      of_place : (w : Direction) (y : End) (k : ℕ) → (with_held way (Some x) (Some v) s).in_place w y ≡ Some k → (w ≡ way) × (places_of r e ≡ Some y)
      of_place w y k is = of_test w y k (same_way w way && same_end y x) refl is

  pub taken_empty : HoldsOnly r e way v s → (w : Direction) (y : End) → (with_token r e way None s).in_place w y ≡ None
  taken_empty holds w y = by_place (places_of r e) refl
    where
      of_held : (x : End) → places_of r e ≡ Some x → same_way w way && same_end y x ≡ false → (o : Option ℕ) → s.in_place w y ≡ o → s.in_place w y ≡ None
      of_held x named test None none = none
      of_held x named test (Some k) some =
          let (same, there) = holds.alone w y k some in
          let end : x ≡ y = same_Some x y (sym named ∙ there) in
          let one : same_way w way && same_end y x ≡ same_way way way && same_end x x = λ l. same_way (same l) way && same_end (sym end l) x in
          let two : same_way way way && same_end x x ≡ true = λ l. same_way_itself way l && same_itself x l in
          let clash : false ≡ true = sym test ∙ (one ∙ two) in absurd (cc clash)

      of_test : (x : End) → places_of r e ≡ Some x → (b : Bool) → same_way w way && same_end y x ≡ b → (if b then None else s.in_place w y) ≡ None
      of_test x named true test = refl
      of_test x named false test = of_held x named test (s.in_place w y) refl

      by_place : (o : Option End) → places_of r e ≡ o → (with_held way o None s).in_place w y ≡ None
      by_place None none = absurd (nothing_there r e way v s holds.held none)
      by_place (Some x) named = of_test x named (same_way w way && same_end y x) refl

  pub only_there : HoldsOnly r e way v s → (b : End) (w : Direction) (k : ℕ) → token_at r s b w ≡ Some k → (w ≡ way) × (places_of r b ≡ places_of r e) × (k ≡ v)
  only_there holds b w k held = by_place (places_of r b) refl
    where
      by_place : (o : Option End) → places_of r b ≡ o → (w ≡ way) × (places_of r b ≡ places_of r e) × (k ≡ v)
      by_place None none = absurd (nothing_there r b w k s held none)
      by_place (Some x) named =
          let (same, there) = holds.alone w x k (sym (ap (held_at s w) named) ∙ held) in
          let places : places_of r b ≡ places_of r e = named ∙ sym there in
          let tokens : token_at r s b w ≡ token_at r s e way = λ l. held_at s (same l) (places l) in
          (same, places, same_Some k v (sym held ∙ (tokens ∙ holds.held)))

pub held_beside : (r : Plan) (e b : End) (way : Direction) (v : ℕ) (s : Tokens) → places_of r e ≡ places_of r b → HoldsOnly r e way v s → HoldsOnly r b way v s
held_beside r e b way v s same holds =
    record {
      states = holds.states;
      held = ap (held_at s way) (sym same) ∙ holds.held;
      alone = λ w y k is. let (way_same, there) = holds.alone w y k is in (way_same, sym same ∙ there);
    }

module _ (r : Plan) (d : ℕ) (runner : Runner) (gs : List Stage) (node : RunsStages r d runner gs) where
  abbrev pub own_end : End
  own_end = PartEnd d runner.run

  pub done : IsDone r.outcome
  done = node.done

  -- the joint of the result

  own_is_in : IsIn (joint (ResultEnd 0) own_end) r.joints
  own_is_in = contained r.joints (joint (ResultEnd 0) own_end) node.result

  pub result_place : places_of r (ResultEnd 0) ≡ Some (ResultEnd 0)
  result_place = stands_there r (joint (ResultEnd 0) own_end) (ResultEnd 0) node.base.right own_is_in (asking_stands (joint (ResultEnd 0) own_end))

  pub own_place : places_of r own_end ≡ Some (ResultEnd 0)
  own_place = stands_there r (joint (ResultEnd 0) own_end) own_end node.base.right own_is_in (serving_stands (joint (ResultEnd 0) own_end))

  pub at_own_joint : (b : End) → places_of r b ≡ Some (ResultEnd 0) → (b ≡ ResultEnd 0) ⊎ (b ≡ own_end)
  at_own_joint b named =
      let at = found r.joints b (ResultEnd 0) named in
      let same : at.joint ≡ joint (ResultEnd 0) own_end =
      one_joint r [] r.joints at.joint (joint (ResultEnd 0) own_end) (ResultEnd 0) node.base.right at.is_in own_is_in
      (stands_by (ResultEnd 0) at.joint (inl (sym at.named))) (asking_stands (joint (ResultEnd 0) own_end)) in
      which_end b (joint (ResultEnd 0) own_end) (subst (λ (x : Joint). stands_in b x ≡ true) same at.stands)

  -- which inputs may come: the request, an answer to an import, or a request at an import of which another handshake is open
  pub in_turn_at : (b : End) (v : ℕ) (s t : Tokens) (past : List Pass) → Does r (In b v) s t → KeepsTurns r past (pass b (way_in (contact_at r b)))
      → ((b ≡ ResultEnd 0) × (v ≡ 0) × (is_open past (ResultEnd 0) ≡ false) × (t ≡ with_token r (ResultEnd 0) Request (Some 0) s))
      ⊎ ((k h n : ℕ) × (b ≡ ImportEnd k h) × (is_open past (ImportEnd k n) ≡ true)
      × ((n ≡ h) ⊎ ((c : Contact) × (contact_at r (ImportEnd k h) ≡ Some c) × (c.role ≡ Ask))))
  in_turn_at b v s t past does turn =
      elim (port_end r done b c does.0 at_b) [
        | inl result ↦ inl (at_result result.0 result.1)
        | inr import ↦
            (let (n, is, up, which) = at_import import.0 import.1 import.2 c.role refl in inr (import.0, import.1, n, is, up, which))
      ]
    where
      there : (c : Contact) × (contact_at r b ≡ Some c)
      there = in_there r b v s t does

      c : Contact
      c = there.0

      at_b : contact_at r b ≡ Some c
      at_b = there.1

      passes : (v < 2 ^ bits_of c (way_put c.role)) × (t ≡ with_token r b (way_put c.role) (Some v) s)
      passes = subst (λ (o : Option Contact). Passes r (In b v) o s t) at_b does.1

      keeps : KeepsTurns r past (pass b (way_put c.role))
      keeps = subst (λ (way : Direction). KeepsTurns r past (pass b way)) (way_in_of r b c at_b) turn

      at_result : b ≡ ResultEnd 0 → c.role ≡ Ask
          → (b ≡ ResultEnd 0) × (v ≡ 0) × (is_open past (ResultEnd 0) ≡ false) × (t ≡ with_token r (ResultEnd 0) Request (Some 0) s)
      at_result is asks =
          let way : way_put c.role ≡ Request = ap way_put asks in
          let small : v < 2 ^ bits_of c Request = subst (λ (w : Direction). v < 2 ^ bits_of c w) way passes.0 in
          let none = no_bits r.outcome done c (ap (contact_at r) (sym is) ∙ at_b) in
          let zero_is : v ≡ 0 = zero_only v (subst (λ (n : ℕ). v < 2 ^ n) none small) in
          let closed : is_open past b ≡ false = subst (ComesInTurn past b) way keeps.0 in
          (is, zero_is, ap (is_open past) (sym is) ∙ closed, passes.1 ∙ (λ l. with_token r (is l) (way l) (Some (zero_is l)) s))

      at_import : (k h : ℕ) → b ≡ ImportEnd k h → (role : Role) → c.role ≡ role
          → (n : ℕ) × (b ≡ ImportEnd k h) × (is_open past (ImportEnd k n) ≡ true) × ((n ≡ h) ⊎ ((c : Contact) × (contact_at r (ImportEnd k h) ≡ Some c) × (c.role ≡ Ask)))
      at_import k h is Serve serves =
          let open_there : is_open past b ≡ true = subst (ComesInTurn past b) (ap way_put serves) keeps.0 in
          (h, is, ap (is_open past) (sym is) ∙ open_there, inl refl)
      at_import k h is Ask asks =
          let turned : Turned r (pass (ImportEnd k h) Request ∷ past) =
          subst (λ (x : Pass). Turned r (x ∷ past)) (λ l. pass (is l) (ap way_put asks l)) keeps.1 in
          let at_k = ap (contact_at r) (sym is) ∙ at_b in
          let (n, up) = asked_within r past k h c turned at_k asks in (n, is, up, inr (c, at_k, asks))

  -- a stage that the own part asks has its joint
  module _ (g : Stage) (has : Contains gs g) (apart : g.asked_at ≡ runner.run → ⊥) where
    of_other : (e : Stage) → Contains gs e → (x : End) (j : Joint) → Contains e.plan.joints j → stands_in x j ≡ true → lies_at e.cut x ≡ PartEnd d g.asked_at
        → StandsIn g.plan (ResultEnd (runner.asked g))
    of_other e also x j in_joints stands lies =
        let there : IsAskedStage r d runner e = stage r d runner gs node.base e also in
        let owned = stands_own e.plan j x there.region.right (contained e.plan.joints j in_joints) stands in
        elim (end_is r d runner gs node.base e also d g.asked_at x owned (j, in_joints, stands) lies) [
          | inl inside ↦ (let clash : None ≡ Some inside.0 = sym there.outside ∙ inside.1 in absurd (cc clash))
          | inr at ↦ subst (λ (y : Stage). StandsIn y.plan (ResultEnd (runner.asked y))) (sym (node.one g e has also at.1)) at.2
        ]

    pub run_stands : (x : End) → places_of r (PartEnd d g.asked_at) ≡ Some x → StandsIn g.plan (ResultEnd (runner.asked g))
    run_stands x named =
        elim (node.joints whole.joint.asking whole.joint.serving (listed r.joints whole.joint whole.is_in)) [
          | inl result ↦ absurd (not_own result.0 result.1 (which_end (PartEnd d g.asked_at) whole.joint whole.stands))
          | inr (e, a, b, also, in_joints, first, last) ↦ of_stage e a b also in_joints first last (which_end (PartEnd d g.asked_at) whole.joint whole.stands)
        ]
      where
        whole : Found r.joints (PartEnd d g.asked_at) x
        whole = found r.joints (PartEnd d g.asked_at) x named

        not_own : whole.joint.asking ≡ ResultEnd 0 → whole.joint.serving ≡ own_end
            → (PartEnd d g.asked_at ≡ whole.joint.asking) ⊎ (PartEnd d g.asked_at ≡ whole.joint.serving) → ⊥
        not_own first last (inl is) = let clash : PartEnd d g.asked_at ≡ ResultEnd 0 = is ∙ first in cc clash
        not_own first last (inr is) =
            let same : PartEnd d g.asked_at ≡ PartEnd d runner.run = is ∙ last in
            let shake : g.asked_at ≡ runner.run = cc same in apart shake

        of_stage : (e : Stage) (a b : End) → Contains gs e → Contains e.plan.joints (joint a b) → lies_at e.cut a ≡ whole.joint.asking → lies_at e.cut b ≡ whole.joint.serving
            → (PartEnd d g.asked_at ≡ whole.joint.asking) ⊎ (PartEnd d g.asked_at ≡ whole.joint.serving) → StandsIn g.plan (ResultEnd (runner.asked g))
        of_stage e a b also in_joints first last (inl is) = of_other e also a (joint a b) in_joints (asking_stands (joint a b)) (first ∙ sym is)
        of_stage e a b also in_joints first last (inr is) = of_other e also b (joint a b) in_joints (serving_stands (joint a b)) (last ∙ sym is)

  -- A stage runs: its list so far, from an idle state; its turns, and what passed its ports.
  pub record Going (g : Stage) (has : Contains gs g) (hs : List Element) (before s : Tokens) (past : List Pass) : Type 0 where
    pub ran : Ran r d runner gs node.base g has before hs s
    pub turned : Turned g.plan (passed g.plan [] hs)
    pub stirs : StirsOnly d runner g s
    pub follows : Follows r runner g (passed g.plan [] hs) past

  -- what the own part's firing leads to
  pub data Led (row : Row) (v : ℕ) (t : Tokens) (past : List Pass) : Type 0 where
    asks :
        (g : Stage) (has : Contains gs g) (n : ℕ) (before : Tokens)
        → n < 2 ^ runner.request_bits g → Going g has (In (ResultEnd (runner.asked g)) n ∷ []) before t past → Does g.plan (In (ResultEnd (runner.asked g)) n) before (seen g t)
        → row.puts v ≡ put (Req g.asked_at) n ∷ []
        → Led row v t past
    replies : (k : ℕ) → HoldsOnly r (ResultEnd 0) Answer k t → OnlyResult past → row.puts v ≡ put (Ans runner.run) k ∷ [] → Led row v t past

  module _
      (u t : Tokens) (row : Row) (v : ℕ) (past : List Pass) (empty : Emptied d u)
      (leads : t ≡ with_puts r d (row.puts v) (with_state d (row.next v) u)) (only : OnlyResult past) where
    abbrev between : Tokens
    between = with_state d (row.next v) u

    at_own : between.state d ≡ row.next v
    at_own = ap (λ (b : Bool). if b then row.next v else u.state d) (nat_eq_itself d)

    empty_between : Emptied d between
    empty_between =
        record {
          places = empty.places;
          states = λ i apart. ap (λ (b : Bool). (if b then row.next v else u.state i).phase) (ne_eqb i d apart) ∙ empty.states i apart;
        }

    after_one : (x : Token) → row.puts v ≡ x ∷ [] → t ≡ with_token r (end_of d x.slot) (way_of x.slot) (Some x.value) between
    after_one x puts = leads ∙ ap (λ (ts : List Token). with_puts r d ts (with_state d (row.next v) u)) puts

    to_stage : (g : Stage) (n : ℕ) → Contains gs g → runner.waits (row.next v) ≡ Some g.asked_at → row.puts v ≡ put (Req g.asked_at) n ∷ []
        → n < 2 ^ runner.request_bits g → Led row v t past
    to_stage g n has is puts fits = asks g has n (seen g between) fits going does puts
      where
        t_is : t ≡ with_token r (PartEnd d g.asked_at) Request (Some n) between
        t_is = after_one (put (Req g.asked_at) n) puts

        there : IsAskedStage r d runner g
        there = stage r d runner gs node.base g has

        apart : g.asked_at ≡ runner.run → ⊥
        apart = node.table.apart (row.next v) g.asked_at is

        begun : Does g.plan (In (ResultEnd (runner.asked g)) n) (seen g between) (seen g (with_token r (PartEnd d g.asked_at) Request (Some n) between))
            × InStage r d runner gs node.base g has (with_token r (PartEnd d g.asked_at) Request (Some n) between)
        begun =
            asked r d runner gs node.base g has n fits between empty_between (run_stands g has apart)

        does : Does g.plan (In (ResultEnd (runner.asked g)) n) (seen g between) (seen g t)
        does = subst (λ (x : Tokens). Does g.plan (In (ResultEnd (runner.asked g)) n) (seen g between) (seen g x)) (sym t_is) begun.0

        state : (i : ℕ) → t.state i ≡ between.state i
        state i = ap (λ (x : Tokens). x.state i) t_is ∙ token_state r (PartEnd d g.asked_at) Request (Some n) between i

        stirring : StirsOnly d runner g t
        stirring =
            record {
              session = ap (λ (q : State). runner.waits q) (state d ∙ at_own) ∙ is;
              states = λ i other out. ap (λ (q : State). q.phase) (state i) ∙ empty_between.states i other;
              places = subst (λ (x : Tokens). InStage r d runner gs node.base g has x) (sym t_is) begun.1;
            }

        first : Turned g.plan (pass (ResultEnd (runner.asked g)) Request ∷ [])
        first = asked_first g.plan _ _ _ there.asked

        comes : way_in (contact_at g.plan (ResultEnd (runner.asked g))) ≡ Request
        comes = asked_in g.plan _ _ _ there.asked

        turn : KeepsTurns g.plan [] (pass (ResultEnd (runner.asked g)) (way_in (contact_at g.plan (ResultEnd (runner.asked g)))))
        turn = subst (λ (way : Direction). KeepsTurns g.plan [] (pass (ResultEnd (runner.asked g)) way)) (sym comes) (refl, first)

        tidy : IsTidy g.plan (seen g between)
        tidy i beyond = ap (λ (b : Bool). if b then between.state (g.cut.part i) else at Rest 0) beyond

        going : Going g has (In (ResultEnd (runner.asked g)) n ∷ []) (seen g between) t past
        going =
            record {
              ran = record { idle = idle_seen r d runner gs node.base g has between empty_between; ran = (seen g t, does, refl); turns = (turn, tt); tidy = tidy; session = (refl, tt) };
              turned = turn.1;
              stirs = stirring;
              follows = subst (λ (way : Direction). Follows r runner g (pass (ResultEnd (runner.asked g)) way ∷ []) past) (sym comes) (follows_first r d runner gs node.base g has past only);
            }

    to_reply : (k : ℕ) → (row.next v).phase ≡ Rest → row.puts v ≡ put (Ans runner.run) k ∷ [] → Led row v t past
    to_reply k rests puts =
        replies k
        (subst (λ (x : Tokens). HoldsOnly r (ResultEnd 0) Answer k x) (sym (after_one (put (Ans runner.run) k) puts))
        (held_beside r own_end (ResultEnd 0) Answer k (with_token r own_end Answer (Some k) between) (own_place ∙ sym result_place)
        (put_only r own_end Answer k between empty_between.places at_rest (ResultEnd 0) own_place)))
        only puts
      where
        at_rest : (i : ℕ) → (between.state i).phase ≡ Rest
        at_rest i = by_test (nat_eq i d) refl
          where
            by_test : (b : Bool) → nat_eq i d ≡ b → (between.state i).phase ≡ Rest
            by_test true t =
                let same : i ≡ d = grind (arith, t) in
                ap (λ (x : ℕ). (between.state x).phase) same ∙ (ap (λ (q : State). q.phase) at_own ∙ rests)
            by_test false t = empty_between.states i (λ same. let clash : nat_eq i d ≡ true = grind (arith, same) in absurd (cc (sym t ∙ clash)))

    pub own_leads : LeadsOn runner gs (row.next v) (row.puts v) → Led row v t past
    own_leads (inl (g, n, has, is, puts, fits)) = to_stage g n has is puts fits
    own_leads (inr (k, rests, puts)) = to_reply k rests puts
