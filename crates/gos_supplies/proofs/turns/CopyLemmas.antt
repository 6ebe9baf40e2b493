-- A plan without parts that joins two lists of ends of one type, handshake by handshake, is regular.
--
-- What comes in at one end of a joint goes out at the other: then both are open, or both are closed. So what is open after an
-- output lies between what was open at the first ends and at the second.
use Rattle.std.specs.Prelude.{ℕ, ◌<◌, Bool, true, false, List, Option, Some, None, slice_get}
use Rattle.std.proofs.Common.{◌≡◌, [], ◌∷◌, ◌⊎◌, inl, inr, refl, sym, ◌∙◌, ap, subst}
use Rattle.std.proofs.lemmas.Option.{slice_get_within}
use Rattle.std.proofs.lemmas.Bool.{false≢true}
use Rattle.gos_types.specs.declared.shakes.Role.{Role}
use Rattle.gos_types.specs.declared.shakes.Role.TheVariants.{Serve, Ask}
use Rattle.gos_types.specs.Types.{Type'}
use Rattle.gos_types.specs.Handshakes.{turned}
use Rattle.gos_types.specs.Events.{Direction, Request, Answer}
use Rattle.gos_types.proofs.ListLemmas.{some_is_not_none}
use Rattle.gos_plan.specs.Kinds.{Part, Contact, contacts_of, turned_contact}
use Rattle.gos_plan.specs.Plans.{End, PartEnd, ImportEnd, ResultEnd, Plan, IsRight, contact_at, contacts_of_part}
use Rattle.gos_plan.specs.Tokens.{Tokens, Element, Fire, Out, In, IsPortEnd, places_of, held_at, token_at, way_taken, way_put, firing_of, Passes, Runs, IsIdle}
use Rattle.gos_plan.specs.Orderly.{Open, none_open, named_by, after_taken, after_put, ComesWell, AllWelcome, OrderlyFrom}
use Rattle.gos_plan.proofs.JointLemmas.{IsIn, fits, stands_there, asking_stands, serving_stands}
use Rattle.gos_realises.specs.realises.Regular.{Pass, pass, way_in, way_out, is_open, is_request, count, some_open, KeepsTurnsOf, ComesInTurn, KeepsTurns, InputsKeepTurns, OutputsKeepTurns, IsRegular}
use Rattle.gos_realises.proofs.realises.InputLemmas.{passed, in_there, out_there}
use Rattle.gos_realises.proofs.realises.RingLemmas.{after}
use Rattle.gos_joining.specs.webs.Webs.{joint}
use Rattle.gos_plan.proofs.HeldLemmas as holding
use Rattle.gos_plan.proofs.ProjectionLemmas.{port_by_itself}
use Rattle.gos_realises.proofs.realises.PassLemmas.{open_itself, open_otherwise}
use Rattle.gos_supplies.proofs.turns.StandLemmas.{lies_in, Stands, open_by_fit, taken_stands, put_stands}
use Rattle.gos_supplies.proofs.turns.GoesLemmas.{IsTurned}
use Rattle.gos_supplies.proofs.turns.WholeLemmas.{first_turned}
use Rattle.gos_supplies.specs.turns.Rests.{Rests}
use Rattle.gos_supplies.proofs.turns.RestLemmas.{passes_are, Neat, neat_first, stays_neat, told_asker}
use Rattle.gos_joining.proofs.renumbered.TurnLemmas.{Agree, some_agree, turns_agree}
use Rattle.gos_supplies.proofs.turns.TypeLemmas.{told_same}
use Rattle.gos_supplies.proofs.turns.BetweenLemmas.{Leads, Between, busy_to, busy_from, between_keeps}

closed_answer : (b : Bool) (q r : Option ℕ) (v : ℕ) → holding.Fits b q r → r ≡ Some v → b ≡ true
closed_answer false q r v h some = absurd (some_is_not_none v r some h.1)
closed_answer true q r v h some = refl

-- what is open at the ends of a list
abbrev pub shown_at : (ℕ → End) → List Pass → ℕ → Bool
shown_at f past h = is_open past (f h)

-- The first ends see a term of the type as its user does, and the second ends as its holder does; turns of the plan are those
-- of both, and that the second ends are busy where the first are.
pub record IsCopy (t : Type') (p : Plan) (first second : ℕ → End) : Type 0 where
  pub right : IsRight p
  pub parts : p.parts ≡ []
  pub cover :
      (e : End) (c : Contact) → IsPortEnd e → contact_at p e ≡ Some c
      → ((h : ℕ) × (first h ≡ e) × (slice_get (contacts_of t) h ≡ Some c)) ⊎ ((h : ℕ) × (second h ≡ e) × (slice_get (contacts_of t) h ≡ Some (turned_contact c)))
  pub first_there : (h : ℕ) (c : Contact) → slice_get (contacts_of t) h ≡ Some c → IsPortEnd (first h) × (contact_at p (first h) ≡ Some c)
  pub second_there : (h : ℕ) (c : Contact) → slice_get (contacts_of t) h ≡ Some c → IsPortEnd (second h) × (contact_at p (second h) ≡ Some (turned_contact c))
  pub serving : (h : ℕ) (c : Contact) → slice_get (contacts_of t) h ≡ Some c → c.role ≡ Serve → IsIn (joint (second h) (first h)) p.joints
  pub asking : (h : ℕ) (c : Contact) → slice_get (contacts_of t) h ≡ Some c → c.role ≡ Ask → IsIn (joint (first h) (second h)) p.joints
  pub first_one : (h k : ℕ) → first h ≡ first k → h ≡ k
  pub second_one : (h k : ℕ) → second h ≡ second k → h ≡ k
  pub apart : (h k : ℕ) → h < count t → first h ≡ second k → ⊥
  pub reads :
      (past : List Pass) → IsTurned p past → Leads t (shown_at first past) (shown_at second past)
      → KeepsTurnsOf t (shown_at first past) × KeepsTurnsOf t (shown_at second past)
  pub makes :
      (past : List Pass) → KeepsTurnsOf t (shown_at first past) → KeepsTurnsOf t (shown_at second past)
      → (some_open (count t) (shown_at first past) ≡ true → some_open (count t) (shown_at second past) ≡ true) → IsTurned p past

module _ (t : Type') (p : Plan) (first second : ℕ → End) (is : IsCopy t p first second) where
  no_part : (i h : ℕ) (c : Contact) → contact_at p (PartEnd i h) ≡ Some c → ⊥
  no_part i h c there =
      let never : None ≡ Some c = sym (ap (λ (fs : List Part). slice_get (contacts_of_part (slice_get fs i)) h) is.parts) ∙ there in cc never

  module _ (o : Open) (past : List Pass) (s : Tokens) (st : Stands p o (is_open past) s) (turned_so : IsTurned p past) where
    -- where an end that serves is open so is the one that asks it
    follows : (e d : End) (c b : Contact) → IsPortEnd e → contact_at p e ≡ Some c → c.role ≡ Serve → IsPortEnd d → contact_at p d ≡ Some b → b.role ≡ Ask
        → IsIn (joint d e) p.joints → is_open past e ≡ true → is_open past d ≡ true
    follows e d c b port there role port_d there_d role_d joined up =
        let (a, named, a_open, request, answer) = st.serves_open e c port there role up in
        let place : places_of p e ≡ Some d = stands_there p (joint d e) e is.right joined (serving_stands (joint d e)) in
        let same : a ≡ d = cc (named, place) in
        sym (st.asks_open d b port_d there_d role_d) ∙ (ap o (sym same) ∙ a_open)

    leads : Leads t (shown_at first past) (shown_at second past)
    leads h c there =
        let one = is.first_there h c there in
        let two = is.second_there h c there in (
          λ role up. follows (first h) (second h) c (turned_contact c) one.0 one.1 role two.0 two.1 (ap turned role) (is.serving h c there role) up,
          λ role up. follows (second h) (first h) (turned_contact c) c two.0 two.1 (ap turned role) one.0 one.1 role (is.asking h c there role) up,
        )

    keeps : KeepsTurnsOf t (shown_at first past) × KeepsTurnsOf t (shown_at second past)
    keeps = is.reads past turned_so leads

    -- an output comes in turn, and after it both ends are open or both are closed
    out_turn : (e d : End) (c : Contact) (v : ℕ) (way : Direction) → IsPortEnd e → contact_at p e ≡ Some c → IsPortEnd d → contact_at p d ≡ Some (turned_contact c)
        → (c.role ≡ Serve → IsIn (joint d e) p.joints) → (c.role ≡ Ask → IsIn (joint e d) p.joints) → way_taken c.role ≡ way → token_at p s e way ≡ Some v
        → ComesInTurn past e way × (is_open past d ≡ is_request way)
    out_turn e d c v way port there port_d there_d serves asks ways lies = by_role c.role refl
      where
        at_server : c.role ≡ Serve → token_at p s e Request ≡ Some v → ComesInTurn past e Request × (is_open past d ≡ is_request Request)
        at_server role lies' =
            let (a, named, held) = lies_in p e Request v s lies' in
            let place : places_of p e ≡ Some d = stands_there p (joint d e) e is.right (serves role) (serving_stands (joint d e)) in
            let same : a ≡ d = cc (named, place) in
            let up = (open_by_fit (o a) (s.in_place Request a) (s.in_place Answer a) v (st.fit a) held).0 in
            (by_test a named held (is_open past e) refl, sym (st.asks_open d (turned_contact c) port_d there_d (ap turned role)) ∙ (ap o (sym same) ∙ up))
          where
            by_test : (a : End) → places_of p e ≡ Some a → s.in_place Request a ≡ Some v → (b : Bool) → is_open past e ≡ b → b ≡ false
            by_test a named held false up = refl
            by_test a named held true up =
                let (f, also, f_open, request, answer) = st.serves_open e c port there role up in
                let one : f ≡ a = cc (also, named) in
                absurd (some_is_not_none v (s.in_place Request a) held (ap (s.in_place Request) (sym one) ∙ request))

        at_asker : c.role ≡ Ask → token_at p s e Answer ≡ Some v → ComesInTurn past e Answer × (is_open past d ≡ is_request Answer)
        at_asker role lies' =
            let (a, named, held) = lies_in p e Answer v s lies' in
            let place : places_of p e ≡ Some e = stands_there p (joint e d) e is.right (asks role) (asking_stands (joint e d)) in
            let place_d : places_of p d ≡ Some e = stands_there p (joint e d) d is.right (asks role) (serving_stands (joint e d)) in
            let same : a ≡ e = cc (named, place) in
            let held_e : s.in_place Answer e ≡ Some v = ap (s.in_place Answer) (sym same) ∙ held in
            let up = closed_answer (o e) (s.in_place Request e) (s.in_place Answer e) v (st.fit e) held_e in
            (sym (st.asks_open e c port there role) ∙ up, by_test held_e place_d (is_open past d) refl)
          where
            by_test : s.in_place Answer e ≡ Some v → places_of p d ≡ Some e → (b : Bool) → is_open past d ≡ b → b ≡ false
            by_test held_e place_d false up = refl
            by_test held_e place_d true up =
                let (f, also, f_open, request, answer) = st.serves_open d (turned_contact c) port_d there_d (ap turned role) up in
                let one : f ≡ e = cc (also, place_d) in
                absurd (some_is_not_none v (s.in_place Answer e) held_e (ap (s.in_place Answer) (sym one) ∙ answer))

        by_role : (role : Role) → c.role ≡ role → ComesInTurn past e way × (is_open past d ≡ is_request way)
        by_role Serve role =
            let u : Request ≡ way = sym (ap way_taken role) ∙ ways in
            subst (λ (z : Direction). ComesInTurn past e z × (is_open past d ≡ is_request z)) u
            (at_server role (subst (λ (z : Direction). token_at p s e z ≡ Some v) (sym u) lies))
        by_role Ask role =
            let u : Answer ≡ way = sym (ap way_taken role) ∙ ways in
            subst (λ (z : Direction). ComesInTurn past e z × (is_open past d ≡ is_request z)) u
            (at_asker role (subst (λ (z : Direction). token_at p s e z ≡ Some v) (sym u) lies))

    -- so the output keeps turns
    out_first : (h : ℕ) (c : Contact) (way : Direction) → slice_get (contacts_of t) h ≡ Some c → is_open past (second h) ≡ is_request way
        → IsTurned p (pass (first h) way ∷ past)
    out_first h c way there same =
        is.makes (pass (first h) way ∷ past) (between_keeps t (shown_at first past) (shown_at second past) new keeps.0 keeps.1 leads between)
        (subst (KeepsTurnsOf t) stays keeps.1)
        (λ busy. subst (λ (f : ℕ → Bool). some_open (count t) f ≡ true) stays (busy_to t (shown_at first past) (shown_at second past) new keeps.0 leads between busy))
      where
        new : ℕ → Bool
        new = shown_at first (pass (first h) way ∷ past)

        low : h < count t
        low = slice_get_within (contacts_of t) h c there

        stays : shown_at second past ≡ shown_at second (pass (first h) way ∷ past)
        stays = λ i k. sym (open_otherwise (first h) (second k) way past (is.apart h k low)) i

        between : Between (count t) (shown_at first past) (shown_at second past) new
        between k small = by_told (told_same k h)
          where
            by_told : (k ≡ h) ⊎ (k ≡ h → ⊥) → (new k ≡ shown_at first past k) ⊎ (new k ≡ shown_at second past k)
            by_told (inl is_h) = inr (ap new is_h ∙ (open_itself (first h) way past ∙ (sym same ∙ ap (shown_at second past) (sym is_h))))
            by_told (inr other) = inl (open_otherwise (first h) (first k) way past (λ ends. other (sym (is.first_one h k ends))))

    out_second : (h : ℕ) (c : Contact) (way : Direction) → slice_get (contacts_of t) h ≡ Some c → is_open past (first h) ≡ is_request way
        → IsTurned p (pass (second h) way ∷ past)
    out_second h c way there same =
        is.makes (pass (second h) way ∷ past) (turns_agree t (shown_at first past) (shown_at first (pass (second h) way ∷ past)) stays keeps.0)
        (between_keeps t (shown_at first past) (shown_at second past) new keeps.0 keeps.1 leads between)
        (λ busy. busy_from t (shown_at first past) (shown_at second past) new keeps.0 leads between
        (some_agree (count t) (shown_at first past) (shown_at first (pass (second h) way ∷ past)) stays ∙ busy))
      where
        new : ℕ → Bool
        new = shown_at second (pass (second h) way ∷ past)

        stays : Agree (count t) (shown_at first past) (shown_at first (pass (second h) way ∷ past))
        stays k small = sym (open_otherwise (second h) (first k) way past (λ ends. is.apart k h small (sym ends)))

        between : Between (count t) (shown_at first past) (shown_at second past) new
        between k small = by_told (told_same k h)
          where
            by_told : (k ≡ h) ⊎ (k ≡ h → ⊥) → (new k ≡ shown_at first past k) ⊎ (new k ≡ shown_at second past k)
            by_told (inl is_h) = inl (ap new is_h ∙ (open_itself (second h) way past ∙ (sym same ∙ ap (shown_at first past) (sym is_h))))
            by_told (inr other) = inr (open_otherwise (second h) (second k) way past (λ ends. other (sym (is.second_one h k ends))))

    out_keeps : (e : End) (c : Contact) (v : ℕ) (way : Direction) → IsPortEnd e → contact_at p e ≡ Some c → way_taken c.role ≡ way → token_at p s e way ≡ Some v
        → KeepsTurns p past (pass e way)
    out_keeps e c v way port there ways lies = by_cover (is.cover e c port there)
      where
        by_cover : ((h : ℕ) × (first h ≡ e) × (slice_get (contacts_of t) h ≡ Some c)) ⊎ ((h : ℕ) × (second h ≡ e) × (slice_get (contacts_of t) h ≡ Some (turned_contact c)))
            → KeepsTurns p past (pass e way)
        by_cover (inl (h, same, at)) =
            let two = is.second_there h c at in
            let (turn, agree) = out_turn e (second h) c v way port there two.0 two.1
            (λ role. subst (λ (x : End). IsIn (joint (second h) x) p.joints) same (is.serving h c at role))
            (λ role. subst (λ (x : End). IsIn (joint x (second h)) p.joints) same (is.asking h c at role)) ways lies in
            (turn, subst (λ (x : End). IsTurned p (pass x way ∷ past)) same (out_first h c way at agree))
        by_cover (inr (h, same, at)) =
            let one = is.first_there h (turned_contact c) at in
            let (turn, agree) = out_turn e (first h) c v way port there one.0 one.1
            (λ role. subst (λ (x : End). IsIn (joint (first h) x) p.joints) same (is.asking h (turned_contact c) at (ap turned role)))
            (λ role. subst (λ (x : End). IsIn (joint x (first h)) p.joints) same (is.serving h (turned_contact c) at (ap turned role))) ways lies in
            (turn, subst (λ (x : End). IsTurned p (pass x way ∷ past)) same (out_second h (turned_contact c) way at agree))

    -- an input comes well
    in_well : (e : End) (c : Contact) (way : Direction) → IsPortEnd e → contact_at p e ≡ Some c → way_put c.role ≡ way → ComesInTurn past e way → ComesWell p e way o s
    in_well e c way port there ways turn = by_role c.role refl
      where
        at_asker : c.role ≡ Ask → ComesInTurn past e Request → ComesWell p e Request o s
        at_asker role shut = ap o (port_by_itself p e c is.right there role) ∙ (st.asks_open e c port there role ∙ shut)

        at_server : c.role ≡ Serve → ComesInTurn past e Answer → ComesWell p e Answer o s
        at_server role up =
            let (a, named, a_open, request, answer) = st.serves_open e c port there role up in
            (subst (λ (f : Option End). o (named_by f e) ≡ true) (sym named) a_open, λ u. ap (held_at s u) named ∙ each_way a request answer u)
          where
            each_way : (a : End) → s.in_place Request a ≡ None → s.in_place Answer a ≡ None → (u : Direction) → s.in_place u a ≡ None
            each_way a q r Request = q
            each_way a q r Answer = r

        by_role : (role : Role) → c.role ≡ role → ComesWell p e way o s
        by_role Ask role =
            let u : Request ≡ way = sym (ap way_put role) ∙ ways in
            subst (λ (z : Direction). ComesWell p e z o s) u (at_asker role (subst (ComesInTurn past e) (sym u) turn))
        by_role Serve role =
            let u : Answer ≡ way = sym (ap way_put role) ∙ ways in
            subst (λ (z : Direction). ComesWell p e z o s) u (at_server role (subst (ComesInTurn past e) (sym u) turn))

  welcome : (s : Tokens) → AllWelcome p s
  welcome s i t c v there way lies = absurd (no_part i _ c there)

  all_go : (xs : List Element) (o : Open) (past : List Pass) (s z : Tokens) → Stands p o (is_open past) s → IsTurned p past → Runs p xs s z → InputsKeepTurns p past xs
      → ((u : Open) × (w : Tokens) × OrderlyFrom p xs o s u w) × OutputsKeepTurns p past xs
  all_go [] o past s z st turned_so runs inputs = ((o, s, (refl, refl)), tt)
  all_go (Fire i slot ∷ xs) o past s z st turned_so (y, (v, row, lies, fires, led), runs) inputs =
      let never : None ≡ Some row = sym (ap (λ (fs : List Part). firing_of (slice_get fs i) (s.state i) slot) is.parts) ∙ fires in absurd (cc never)
  all_go (Out e v ∷ xs) o past s z st turned_so (y, does, runs) inputs =
      let (c, there) = out_there p e v s y does in
      let moves = subst (λ (f : Option Contact). Passes p (Out e v) f s y) there does.1 in
      let way = way_taken c.role in
      let led : way_out (contact_at p e) ≡ way = ap way_out there in
      let (turn, turned_then) = out_keeps o past s st turned_so e c v way does.0 there refl moves.0 in
      let now = taken_stands p e c v o (is_open past) (is_open (pass e way ∷ past)) s way is.right there refl moves.0 (λ d port. refl) st in
      let inputs_then = subst (λ (u : Direction). InputsKeepTurns p (pass e u ∷ past) xs) led inputs in
      let ((u, w, list), outputs) = all_go xs (after_taken p e way o) (pass e way ∷ past) y z
      (subst (Stands p (after_taken p e way o) (is_open (pass e way ∷ past))) (sym moves.1) now) turned_then runs inputs_then in (
        (
          u,
          w,
          (
            after_taken p e way o,
            y,
            does,
            (λ d also. (let one : c ≡ d = cc (there, also) in ap (λ (k : Contact). after_taken p e (way_taken k.role) o) one)),
            welcome y,
            list,
          ),
        ),
        subst (λ (q : Direction). KeepsTurns p past (pass e q) × OutputsKeepTurns p (pass e q ∷ past) xs) (sym led) ((turn, turned_then), outputs),
      )
  all_go (In e v ∷ xs) o past s z st turned_so (y, does, runs) (keeps, rest) =
      let (c, there) = in_there p e v s y does in
      let moves = subst (λ (f : Option Contact). Passes p (In e v) f s y) there does.1 in
      let way = way_put c.role in
      let led : way_in (contact_at p e) ≡ way = ap way_in there in
      let (turn, turned_then) = subst (λ (u : Direction). KeepsTurns p past (pass e u)) led keeps in
      let well = in_well o past s st turned_so e c way does.0 there refl turn in
      let now = put_stands p e c v o (is_open past) (is_open (pass e way ∷ past)) s way is.right there refl well (λ d port. refl) st in
      let inputs_then = subst (λ (u : Direction). InputsKeepTurns p (pass e u ∷ past) xs) led rest in
      let ((u, w, list), outputs) = all_go xs (after_put p e way o) (pass e way ∷ past) y z
      (subst (Stands p (after_put p e way o) (is_open (pass e way ∷ past))) (sym moves.1) now) turned_then runs inputs_then in (
        (
          u,
          w,
          (
            after_put p e way o,
            y,
            does,
            (λ d also. (let one : c ≡ d = cc (there, also) in
                subst (λ (k : Contact). ComesWell p e (way_put k.role) o s × (after_put p e way o ≡ after_put p e (way_put k.role) o)) one (well, refl))),
            welcome y,
            list,
          ),
        ),
        subst (λ (q : Direction). OutputsKeepTurns p (pass e q ∷ past) xs) (sym led) outputs,
      )

  first_stand : (s : Tokens) → IsIdle p s → Stands p none_open (is_open []) s
  first_stand s idle =
      record {
        fit = λ a. (idle.0 Request a, idle.0 Answer a);
        asks_open = λ e c port there role. refl;
        serves_open = λ e c port there role up. absurd (false≢true up);
        only_asks = λ e c there role. refl;
      }

  pub copy_is_regular : IsRegular p
  copy_is_regular s t' xs idle runs inputs = all_go xs none_open [] s t' (first_stand s idle) (first_turned p) runs inputs

  -- how it stands after a list, and where nothing is open it rests
  ends_so : (xs : List Element) (o : Open) (past : List Pass) (s z : Tokens) → Stands p o (is_open past) s → IsTurned p past → Runs p xs s z → InputsKeepTurns p past xs
      → (u : Open) × Stands p u (is_open (passed p past xs)) z
  ends_so [] o past s z st turned_so runs inputs = (o, subst (Stands p o (is_open past)) (sym runs) st)
  ends_so (Fire i slot ∷ xs) o past s z st turned_so (y, (v, row, lies, fires, led), runs) inputs =
      let never : None ≡ Some row = sym (ap (λ (fs : List Part). firing_of (slice_get fs i) (s.state i) slot) is.parts) ∙ fires in absurd (cc never)
  ends_so (Out e v ∷ xs) o past s z st turned_so (y, does, runs) inputs =
      let (c, there) = out_there p e v s y does in
      let moves = subst (λ (f : Option Contact). Passes p (Out e v) f s y) there does.1 in
      let led : way_out (contact_at p e) ≡ way_taken c.role = ap way_out there in
      let (turn, turned_then) = out_keeps o past s st turned_so e c v (way_taken c.role) does.0 there refl moves.0 in
      let now = taken_stands p e c v o (is_open past) (is_open (pass e (way_taken c.role) ∷ past)) s (way_taken c.role) is.right there refl moves.0 (λ d port. refl) st in
      ends_so xs (after_taken p e (way_taken c.role) o) (after p (Out e v) past) y z
      (subst (λ (u : Direction). Stands p (after_taken p e (way_taken c.role) o) (is_open (pass e u ∷ past)) y) (sym led)
      (subst (Stands p (after_taken p e (way_taken c.role) o) (is_open (pass e (way_taken c.role) ∷ past))) (sym moves.1) now))
      (subst (λ (u : Direction). IsTurned p (pass e u ∷ past)) (sym led) turned_then) runs inputs
  ends_so (In e v ∷ xs) o past s z st turned_so (y, does, runs) (keeps, rest) =
      let (c, there) = in_there p e v s y does in
      let moves = subst (λ (f : Option Contact). Passes p (In e v) f s y) there does.1 in
      let led : way_in (contact_at p e) ≡ way_put c.role = ap way_in there in
      let (turn, turned_then) = subst (λ (u : Direction). KeepsTurns p past (pass e u)) led keeps in
      let well = in_well o past s st turned_so e c (way_put c.role) does.0 there refl turn in
      let now = put_stands p e c v o (is_open past) (is_open (pass e (way_put c.role) ∷ past)) s (way_put c.role) is.right there refl well (λ d port. refl) st in
      ends_so xs (after_put p e (way_put c.role) o) (after p (In e v) past) y z
      (subst (λ (u : Direction). Stands p (after_put p e (way_put c.role) o) (is_open (pass e u ∷ past)) y) (sym led)
      (subst (Stands p (after_put p e (way_put c.role) o) (is_open (pass e (way_put c.role) ∷ past))) (sym moves.1) now)) keeps.1 runs rest

  is_port : (e : End) (c : Contact) → contact_at p e ≡ Some c → IsPortEnd e
  is_port (PartEnd i h) c there = absurd (no_part i h c there)
  is_port (ImportEnd i h) c there = tt
  is_port (ResultEnd h) c there = tt

  closed_empty : (b : Bool) (q r : Option ℕ) → holding.Fits b q r → b ≡ false → (q ≡ None) × (r ≡ None)
  closed_empty false q r fit shut = fit
  closed_empty true q r fit shut = absurd (cc shut)

  pub copy_rests : Rests p
  copy_rests s z xs idle runs inputs shut = (empty, λ i. neat.states i (ap (λ (fs : List Part). slice_get fs i) is.parts))
    where
      neat : Neat p z
      neat = stays_neat p xs s z runs (neat_first p s idle)

      ends : (u : Open) × Stands p u (is_open (passed p [] xs)) z
      ends = ends_so xs none_open [] s z (first_stand s idle) (first_turned p) runs inputs

      joint_empty : (way : Direction) (a b : End) → IsIn (joint a b) p.joints → z.in_place way a ≡ None
      joint_empty way a b has = by_way way
        where
          asker : (c : Contact) × (contact_at p a ≡ Some c) × (c.role ≡ Ask)
          asker = let (k, l, asked, served) = fits p [] p.joints (joint a b) is.right has in (_, asked, refl)

          closed : ends.0 a ≡ false
          closed =
              ends.1.asks_open a asker.0 (is_port a asker.0 asker.1) asker.1 asker.2
              ∙ subst (λ (past : List Pass). is_open past a ≡ false) (passes_are p [] xs) (shut a)

          both : (z.in_place Request a ≡ None) × (z.in_place Answer a ≡ None)
          both = closed_empty (ends.0 a) (z.in_place Request a) (z.in_place Answer a) (ends.1.fit a) closed

          by_way : (w : Direction) → z.in_place w a ≡ None
          by_way Request = both.0
          by_way Answer = both.1

      empty : (way : Direction) (a : End) → z.in_place way a ≡ None
      empty way a = by_joint (told_asker p.joints a)
        where
          by_joint : ((b : End) × IsIn (joint a b) p.joints) ⊎ ((b : End) → IsIn (joint a b) p.joints → ⊥) → z.in_place way a ≡ None
          by_joint (inl (b, has)) = joint_empty way a b has
          by_joint (inr none) = neat.places way a none
