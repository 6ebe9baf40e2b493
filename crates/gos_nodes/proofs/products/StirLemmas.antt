-- A side runs in the whole: where its tokens lie, and what it does there.
use Rattle.std.specs.Prelude.{◌^◌, ◌<◌, None, slice_get, nat_lt, length}
use Rattle.std.proofs.Common.{◌≡◌, ℕ, Bool, true, false, List, [], Option, Some, inl, inr, refl, sym, ◌∙◌, ap, subst, if◌then◌else◌}
use Rattle.std.proofs.lemmas.Bool.{ne_eqb}
use Rattle.gos_types.specs.Events.{Direction}
use Rattle.gos_plan.specs.Kinds.{Contact}
use Rattle.gos_plan.specs.Firing.{Rest, State, Slot, Row, at}
use Rattle.gos_plan.specs.Plans.{End, PartEnd, ImportEnd, ResultEnd, Plan, contact_at}
use Rattle.gos_plan.specs.Tokens.{Tokens, Element, Fire, Out, In, IsPortEnd, with_token, token_at, end_of, way_of, shake_of, way_taken, way_put, bits_of, firing_of, Passes, Does, Runs, IsIdle}
use Rattle.gos_plan.proofs.TurnLemmas.{token_state, fired_state}
use Rattle.gos_realises.specs.realises.Regular.{InputsKeepTurns}
use Rattle.gos_realises.proofs.realises.InputLemmas.{in_there, out_there}
use Rattle.gos_joining.specs.webs.Cutting.{lies_at, StandsIn, asks_in, cut_tokens}
use Rattle.gos_joining.proofs.webs.CutLemmas.{Owns, port_own}
use Rattle.gos_nodes.proofs.windows.InlayLemmas.{inlay, Agree, AllAgree}
use Rattle.gos_nodes.proofs.windows.RegionLemmas as regions
use Rattle.gos_nodes.proofs.windows.RegionLemmas.{InRegion, OnRegion, IsFaithful}
use Rattle.gos_nodes.specs.products.Both.{Side}
use Rattle.gos_nodes.proofs.products.PlaceLemmas as place
use Rattle.gos_nodes.proofs.products.PlaceLemmas.{IsLaid, cut, at_lies, port_of, same_contact, Met}

-- the tokens of a side
abbrev pub seen : Side → Tokens → Tokens
seen g s = cut_tokens g.cut g.plan s

module _ (r : Plan) (n : ℕ) (g : Side) (is : IsLaid r n g) where
  -- an end of the side that lies at a part's end is one of that part
  pub end_is : (i h : ℕ) (e : End) → Owns g.plan e → lies_at g.cut e ≡ PartEnd i h → (j : ℕ) × (g.cut.number i ≡ Some j) × (e ≡ PartEnd j h)
  end_is i h (PartEnd j k) (part, there) lies =
      let same : g.cut.part j ≡ i = cc lies in
      let shakes : k ≡ h = cc lies in (j, ap g.cut.number (sym same) ∙ (is.side.region.parts j part there).1, ap (PartEnd j) shakes)
  end_is i h (ImportEnd j k) owned lies =
      let clash : place.at r n g is (ImportEnd j k) ≡ PartEnd i h = sym (at_lies r n g is (ImportEnd j k) owned) ∙ lies in absurd (cc clash)
  end_is i h (ResultEnd k) owned lies =
      let clash : place.at r n g is (ResultEnd k) ≡ PartEnd i h = sym (at_lies r n g is (ResultEnd k) owned) ∙ lies in absurd (cc clash)

  -- and one that lies at a port is a port
  pub port_is : (b e : End) → IsPortEnd b → lies_at g.cut e ≡ b → IsPortEnd e
  port_is b (PartEnd j k) port lies = absurd (subst (λ (x : End). IsPortEnd x) (sym lies) port)
  port_is b (ImportEnd j k) port lies = tt
  port_is b (ResultEnd k) port lies = tt

  -- each token lies on a joint of the side
  abbrev pub InSide : Tokens → Type 0
  InSide s = InRegion g.cut g.sides r g.plan is.side.region s

  abbrev pub Agrees : End → Type 0
  Agrees e = Agree g.cut g.sides r g.plan is.side.region e

  abbrev pub OnSide : End → Type 0
  OnSide e = OnRegion g.cut g.sides r g.plan is.side.region e

  pub lies : (s : Tokens) → InSide s → (e : End) (way : Direction) (v : ℕ) → token_at r s e way ≡ Some v → OnSide e
  lies = regions.lies g.cut g.sides r g.plan is.side.region

  -- the states of its parts
  pub seen_state : (s : Tokens) (i j : ℕ) → g.cut.number i ≡ Some j → (seen g s).state j ≡ s.state i
  seen_state = regions.seen_state g.cut g.sides r g.plan is.side.region

  -- its list so far, from an idle state
  pub record Ran (before : Tokens) (hs : List Element) (s : Tokens) : Type 0 where
    pub idle : IsIdle g.plan before
    pub ran : Runs g.plan hs before (seen g s)
    pub turns : InputsKeepTurns g.plan [] hs

  -- a firing of one of its parts
  pub faithful : (before s : Tokens) (hs : List Element) → Ran before hs s → (j : ℕ) (slot : Slot) → IsFaithful g.cut g.sides r g.plan is.side.region s j slot
  faithful before s hs ran j slot u does m is_side number low =
      is.side.loyal m j is_side number before (seen g s) u hs slot ran.idle ran.ran ran.turns does low

  pub fires_agree : (before s : Tokens) (hs : List Element) → Ran before hs s → (i j : ℕ) → g.cut.number i ≡ Some j → (slot : Slot) (v : ℕ) (row : Row)
      → token_at (inlay g.cut r g.plan) s (end_of i slot) (way_of slot) ≡ Some v → firing_of (slice_get r.parts i) (s.state i) slot ≡ Some row
      → AllAgree g.cut g.sides r g.plan is.side.region i (row.puts v)
  fires_agree before s hs ran i j number slot v row held by =
      regions.fires_agree g.cut g.sides r g.plan is.side.region s i j number slot (faithful before s hs ran j slot) v row held by

  -- what fires is a part of the side, which does the same
  pub record Fires (i : ℕ) (slot : Slot) (s t : Tokens) : Type 0 where
    pub part : ℕ
    pub number : g.cut.number i ≡ Some part
    pub does : Does g.plan (Fire part slot) (seen g s) (seen g t)
    pub within : InSide t
    pub others : (m : ℕ) → g.cut.number m ≡ None → t.state m ≡ s.state m

  pub fires_in : (before s t : Tokens) (hs : List Element) → Ran before hs s → InSide s → (i : ℕ) (slot : Slot) → Does r (Fire i slot) s t → Fires i slot s t
  fires_in before s t hs ran within i slot (v, row, held, by, leads) =
      record { part = j; number = number; does = fired_so.0; within = fired_so.1; others = others }
    where
      on : OnSide (end_of i slot)
      on = lies s within (end_of i slot) (way_of slot) v held

      which : (j : ℕ) × (g.cut.number i ≡ Some j) × (on.own ≡ PartEnd j (shake_of slot))
      which = end_is i (shake_of slot) on.own on.owned on.lies

      j : ℕ
      j = which.0

      number : g.cut.number i ≡ Some j
      number = which.1

      fired_so : Does g.plan (Fire j slot) (seen g s) (seen g t) × InSide t
      fired_so =
          regions.fires_in g.cut g.sides r g.plan is.side.region s t within i j number slot (faithful before s hs ran j slot) (v, row, held, by, leads)

      others : (m : ℕ) → g.cut.number m ≡ None → t.state m ≡ s.state m
      others m out =
          ap (λ (x : Tokens). x.state m) leads
          ∙ (fired_state r i row v s m ∙ ap (λ (b : Bool). if b then row.next v else s.state m) (ne_eqb m i apart))
        where
          apart : m ≡ i → ⊥
          apart same_part = let clash : None ≡ Some j = sym out ∙ (ap g.cut.number same_part ∙ number) in cc clash

  -- an output of the whole is one of the side
  pub record Puts (b : End) (v : ℕ) (s t : Tokens) : Type 0 where
    pub end : End
    pub port : IsPortEnd end
    pub stands : StandsIn g.plan end
    pub lies : place.at r n g is end ≡ b
    pub does : Does g.plan (Out end v) (seen g s) (seen g t)
    pub within : InSide t
    pub others : (m : ℕ) → t.state m ≡ s.state m

  pub out_in : (b : End) (v : ℕ) (s t : Tokens) → InSide s → Does r (Out b v) s t → Puts b v s t
  out_in b v s t within does =
      record {
        end = on.own;
        port = port;
        stands = on.stands;
        lies = at_b;
        does = both.0;
        within = both.1;
        others = λ m. ap (λ (x : Tokens). x.state m) passes.1 ∙ token_state r b (way_taken there.0.role) None s m;
      }
    where
      there : (c : Contact) × (contact_at r b ≡ Some c)
      there = out_there r b v s t does

      passes : (token_at r s b (way_taken there.0.role) ≡ Some v) × (t ≡ with_token r b (way_taken there.0.role) None s)
      passes = subst (λ (o : Option Contact). Passes r (Out b v) o s t) there.1 does.1

      on : OnSide b
      on = lies s within b (way_taken there.0.role) v passes.0

      port : IsPortEnd on.own
      port = port_is b on.own does.0 on.lies

      at_b : place.at r n g is on.own ≡ b
      at_b = sym (at_lies r n g is on.own on.owned) ∙ on.lies

      same : contact_at r b ≡ contact_at g.plan on.own
      same = ap (contact_at r) (sym at_b) ∙ same_contact r n g is on.own (port_of r n g is on.own port on.stands)

      both : Does g.plan (Out on.own v) (seen g s) (seen g t) × InSide t
      both = regions.out_in g.cut g.sides r g.plan is.side.region on.own port on.stands b on.lies same v s t within does

  -- and so is an input at a port of it at which something may pass
  pub record Takes (e : End) (v : ℕ) (s t : Tokens) : Type 0 where
    pub does : Does g.plan (In e v) (seen g s) (seen g t)
    pub within : InSide t
    pub others : (m : ℕ) → t.state m ≡ s.state m

  pub in_in : (e : End) (v : ℕ) (s t : Tokens) → Met r n g is e → InSide s → Does r (In (place.at r n g is e) v) s t → Takes e v s t
  in_in e v s t met within does = record { does = both.0; within = both.1; others = others }
    where
      there : (c : Contact) × (contact_at r (place.at r n g is e) ≡ Some c)
      there = in_there r (place.at r n g is e) v s t does

      passes : (v < 2 ^ bits_of there.0 (way_put there.0.role)) × (t ≡ with_token r (place.at r n g is e) (way_put there.0.role) (Some v) s)
      passes = subst (λ (o : Option Contact). Passes r (In (place.at r n g is e) v) o s t) there.1 does.1

      others : (m : ℕ) → t.state m ≡ s.state m
      others m = ap (λ (x : Tokens). x.state m) passes.1 ∙ token_state r (place.at r n g is e) (way_put there.0.role) (Some v) s m

      both : Does g.plan (In e v) (seen g s) (seen g t) × InSide t
      both =
          elim met [
            | inl (port, stands) ↦
                regions.in_in g.cut g.sides r g.plan is.side.region e port stands (place.at r n g is e) (at_lies r n g is e (port_own g.plan e port stands))
                (same_contact r n g is e (port_of r n g is e port stands)) v s t within does
            | inr loose ↦
                regions.in_nothing g.cut g.sides r g.plan is.side.region e (place.at r n g is e) v s t within loose.port.port
                (same_contact r n g is e loose.port) loose.none loose.own_none does
          ]

  -- where the side is idle, and all else, so is the whole
  pub idle_whole : (u : Tokens) → InSide u → ((i : ℕ) → g.cut.number i ≡ None → (u.state i).phase ≡ Rest) → IsIdle g.plan (seen g u) → IsIdle r u
  idle_whole u within others idle = (regions.none_lies g.cut g.sides r g.plan is.side.region u within idle, λ i. by_number i (g.cut.number i) refl)
    where
      by_number : (i : ℕ) (o : Option ℕ) → g.cut.number i ≡ o → (u.state i).phase ≡ Rest
      by_number i None out = others i out
      by_number i (Some j) number = ap (λ (q : State). q.phase) (sym (seen_state u i j number)) ∙ idle.1 j

  pub idle_seen : (s : Tokens) → IsIdle r s → IsIdle g.plan (seen g s)
  idle_seen s idle = (λ way e. by_asks way e (asks_in g.plan.joints e), λ j. by_part j (nat_lt j (length g.plan.parts)))
    where
      by_asks : (way : Direction) (e : End) (b : Bool) → (if b then s.in_place way (lies_at g.cut e) else None) ≡ None
      by_asks way e true = idle.0 way (lies_at g.cut e)
      by_asks way e false = refl

      by_part : (j : ℕ) (b : Bool) → (if b then s.state (g.cut.part j) else at Rest 0).phase ≡ Rest
      by_part j true = idle.1 (g.cut.part j)
      by_part j false = refl
