-- A region in the whole: where its tokens lie, and what its parts and its ports do there.
--
-- They do what those of its plan do, where a Share that serves in the region works for its caller there (`IsFaithful`).
use Rattle.std.specs.Prelude.{◌+◌, ◌-◌, ◌*◌, ◌<◌, ◌&&◌, None, slice_get, map, Contains, nat_lt, length}
use Rattle.std.proofs.Common.{◌≡◌, ℕ, Bool, true, false, List, [], ◌∷◌, ◌⊎◌, Option, Some, inl, inr, refl, sym, ◌∙◌, ap, subst, arith, if◌then◌else◌}
use Rattle.std.proofs.lemmas.Option.{slice_get_within}
use Rattle.gos_types.specs.Events.{Direction}
use Rattle.gos_types.proofs.BoolLemmas.{and_second}
use Rattle.gos_plan.specs.Kinds.{Part, Share, Contact}
use Rattle.gos_plan.specs.Firing.{Rest, State, Slot, Token, Row, at}
use Rattle.gos_plan.specs.Plans.{End, PartEnd, Joint, Plan, contact_at, same_end}
use Rattle.gos_plan.specs.Tokens.{Tokens, Fire, Out, In, IsPortEnd, places_of, same_way, held_at, with_held, with_token, with_state, token_at, with_puts, end_of, way_of, shake_of, way_taken, way_put, fired, firing_of, Passes, Does, IsIdle}
use Rattle.gos_plan.proofs.MovedJointLemmas.{in_map}
use Rattle.gos_plan.proofs.JointLemmas.{found, same_is}
use Rattle.gos_plan.proofs.HeldLemmas.{nothing_there, takes_of}
use Rattle.gos_realises.specs.realises.Regular.{count}
use Rattle.gos_realises.proofs.realises.InputLemmas.{in_there, out_there}
use Rattle.gos_joining.specs.webs.Cutting.{Cut, cut_tokens, lies_at, StandsIn, IsCut, asks_in}
use Rattle.gos_joining.proofs.webs.CutLemmas.{Owns, port_own, token_cut, token_put, asks_there, place_there, fire_cut}
use Rattle.gos_nodes.specs.windows.Regions.{Serving, IsOther, IsRegion}
use Rattle.gos_nodes.proofs.windows.InlayLemmas.{laid, inlay, inlay_cut, place_agrees, Agree, agree_token, agree_put, AllAgree, agree_fired, agrees_or_other, LiesOn, lies_on}
use Rattle.gos_nodes.proofs.windows.PortLemmas.{stands_place}
use Rattle.gos_nodes.proofs.windows.ShareLemmas.{share_puts, not_source, not_branch}

abbrev pub TokenIn : Token → List Token → Type 0
TokenIn x [] = ⊥
TokenIn x (t ∷ ts) = (x ≡ t) ⊎ TokenIn x ts

only_one : (x y : Token) (ts : List Token) → ts ≡ y ∷ [] → TokenIn x ts → x ≡ y
only_one x y ts is there = of_first (subst (TokenIn x) is there)
  where
    of_first : (x ≡ y) ⊎ ⊥ → x ≡ y
    of_first (inl same) = same
    of_first (inr none) = absurd none

-- a Share of a region that serves its other caller at an end
record Other (r : Plan) (f : Cut) (ss : List Serving) (i h j : ℕ) : Type 0 where
  n : Serving
  m : ℕ
  is_side : Contains ss n
  low : m < count n.ty
  two : n.side < 2
  there : slice_get r.parts i ≡ Some (Share n.ty)
  at : h ≡ count n.ty + (1 - n.side) * count n.ty + m
  number : f.number n.part ≡ Some j

module _ (f : Cut) (ss : List Serving) (r p : Plan) (region : IsRegion f ss r p) where
  pub region_cut : IsCut f (inlay f r p) p
  region_cut = inlay_cut f ss r p region

  -- each token lies on a joint of the region
  abbrev pub InRegion : Tokens → Type 0
  InRegion s =
      (way : Direction) (e : End) (v : ℕ) → s.in_place way e ≡ Some v → (a : End) × (asks_in p.joints a ≡ true) × (lies_at f a ≡ e)

  abbrev pub OnRegion : End → Type 0
  OnRegion e = LiesOn f ss r p region e

  pub lies : (s : Tokens) → InRegion s → (e : End) (way : Direction) (v : ℕ) → token_at r s e way ≡ Some v → OnRegion e
  lies s within e way v held = by_place (places_of r e) refl
    where
      by_place : (o : Option End) → places_of r e ≡ o → OnRegion e
      by_place None none = absurd (nothing_there r e way v s held none)
      by_place (Some x) named =
          let there = within way x v (sym (ap (held_at s way) named) ∙ held) in
          lies_on f ss r p region e x there.0 named there.1 there.2

  pub in_region_put : (s : Tokens) → InRegion s → (e : End) (way : Direction) (held : Option ℕ) → InRegion (with_token (inlay f r p) e way held s)
  in_region_put s within e way held = by_place (places_of (inlay f r p) e) refl
    where
      by_place : (o : Option End) → places_of (inlay f r p) e ≡ o → InRegion (with_held way o held s)
      by_place None none = within
      by_place (Some x) named = λ w y v is. by_test w y v (same_way w way && same_end y x) refl is
        where
          by_test : (w : Direction) (y : End) (v : ℕ) (b : Bool) → (same_way w way && same_end y x) ≡ b → (if b then held else s.in_place w y) ≡ Some v
              → (a : End) × (asks_in p.joints a ≡ true) × (lies_at f a ≡ y)
          by_test w y v true t is =
              let at = found (map (laid f) p.joints) e x named in
              let from = in_map (laid f) p.joints at.joint at.is_in in
              let here : y ≡ x = same_is y x (and_second (same_way w way) (same_end y x) t) in
              (from.0.asking, asks_there p.joints from.0 from.1, sym (ap (λ (j : Joint). j.asking) from.2) ∙ (at.named ∙ sym here))
          by_test w y v false t is = within w y v is

  in_region_puts : (i : ℕ) (ts : List Token) (s : Tokens) → InRegion s → InRegion (with_puts (inlay f r p) i ts s)
  in_region_puts i [] s within = within
  in_region_puts i (t ∷ ts) s within =
      in_region_puts i ts (with_token (inlay f r p) (end_of i t.slot) (way_of t.slot) (Some t.value) s)
      (in_region_put s within (end_of i t.slot) (way_of t.slot) (Some t.value))

  in_region_fired : (i : ℕ) (row : Row) (v : ℕ) (s : Tokens) → InRegion s → InRegion (fired (inlay f r p) i row v s)
  in_region_fired i row v s within =
      in_region_puts i (row.puts v) (with_state i (row.next v) (with_token (inlay f r p) (end_of i row.takes) (way_of row.takes) None s))
      (in_region_put s within (end_of i row.takes) (way_of row.takes) None)

  -- the states of its parts
  pub seen_state : (s : Tokens) (i j : ℕ) → f.number i ≡ Some j → (cut_tokens f p s).state j ≡ s.state i
  seen_state s i j number =
      let there = region.numbers i j number in
      let less = slice_get_within p.parts j there.1.0 there.1.1 in
      let within : nat_lt j (length p.parts) ≡ true = grind (arith, less) in
      ap (λ (b : Bool). if b then s.state (f.part j) else at Rest 0) within ∙ ap s.state there.0

  -- a firing of one of its parts
  all_agree : (i j : ℕ) → f.number i ≡ Some j → (ts : List Token) → ((x : Token) → TokenIn x ts → IsOther ss (end_of i x.slot) → ⊥)
      → AllAgree f ss r p region i ts
  all_agree i j number [] never = tt
  all_agree i j number (t ∷ ts) never = (
    elim (agrees_or_other f ss r p region i (shake_of t.slot) j number) [
      | inl agrees ↦ agrees
      | inr other ↦ absurd (never t (inl refl) other)
    ],
    all_agree i j number ts (λ x later. never x (inr later)),
  )

  other_share : (i h j : ℕ) → f.number i ≡ Some j → IsOther ss (PartEnd i h) → Other r f ss i h j
  other_share i h j number (n, m, is_side, low, same) =
      record { n = n; m = m; is_side = is_side; low = low; two = serving.0; there = there; at = cc same; number = sym (ap f.number part) ∙ number }
    where
      part : i ≡ n.part
      part = cc same

      serving : (n.side < 2) × ((k : ℕ) × (f.number n.part ≡ Some k) × (slice_get p.parts k ≡ Some (Share n.ty)))
      serving = region.serving n is_side

      there : slice_get r.parts i ≡ Some (Share n.ty)
      there =
          let in_whole = (region.parts serving.1.0 (Share n.ty) serving.1.2).0 in
          let where_it_is : f.part serving.1.0 ≡ i = (region.numbers n.part serving.1.0 serving.1.1).0 ∙ sym part in
          subst (λ (x : ℕ). slice_get r.parts x ≡ Some (Share n.ty)) where_it_is in_whole

  -- a Share of the region that takes from its source works for the region's caller
  abbrev pub IsFaithful : Tokens → ℕ → Slot → Type 0
  IsFaithful s j slot =
      (u : Tokens) → Does p (Fire j slot) (cut_tokens f p s) u → (n : Serving) → Contains ss n → f.number n.part ≡ Some j → shake_of slot < count n.ty
      → ((cut_tokens f p s).state j).number ≡ n.side

  module _
      (s : Tokens) (i j : ℕ) (number : f.number i ≡ Some j) (slot : Slot) (faithful : IsFaithful s j slot) (v : ℕ) (row : Row)
      (held : token_at (inlay f r p) s (end_of i slot) (way_of slot) ≡ Some v) (by : firing_of (slice_get r.parts i) (s.state i) slot ≡ Some row) where
    abbrev inlaid : Tokens
    inlaid = fired (inlay f r p) i row v s

    pub fires_first : Does p (Fire j slot) (cut_tokens f p s) (cut_tokens f p inlaid)
    fires_first = fire_cut f (inlay f r p) p region_cut j i number slot s inlaid (v, row, held, by, refl)

    never_other : (x : Token) → TokenIn x (row.puts v) → IsOther ss (end_of i x.slot) → ⊥
    never_other x there other =
        elim one.2 [
          | inl low ↦ not_source (count o.n.ty) o.n.side o.m (shake_of x.slot) o.two o.at (subst (λ (y : Token). shake_of y.slot < count o.n.ty) (sym is_x) low)
          | inr h ↦
              not_branch (count o.n.ty) o.n.side o.m h.0 (shake_of x.slot) o.two o.at o.low
              (ap (λ (y : Token). shake_of y.slot) is_x ∙ (h.2 ∙ ap (λ (b : ℕ). count o.n.ty + b * count o.n.ty + h.0) (loyal (from_source h.3)))) h.1
        ]
      where
        o : Other r f ss i (shake_of x.slot) j
        o = other_share i (shake_of x.slot) j number other

        table : (row.takes ≡ slot)
            × ((v : ℕ)
            → (x : Token) × (row.puts v ≡ x ∷ [])
            × ((shake_of x.slot < count o.n.ty)
            ⊎ ((m : ℕ) × (m < count o.n.ty) × (shake_of x.slot ≡ count o.n.ty + (s.state i).number * count o.n.ty + m) × (shake_of row.takes < count o.n.ty))))
        table = share_puts o.n.ty (s.state i) slot row (subst (λ (k : Option Part). firing_of k (s.state i) slot ≡ Some row) o.there by)

        one : (x : Token) × (row.puts v ≡ x ∷ [])
            × ((shake_of x.slot < count o.n.ty)
            ⊎ ((m : ℕ) × (m < count o.n.ty) × (shake_of x.slot ≡ count o.n.ty + (s.state i).number * count o.n.ty + m) × (shake_of row.takes < count o.n.ty)))
        one = table.1 v

        is_x : x ≡ one.0
        is_x = only_one x one.0 (row.puts v) one.1 there

        from_source : shake_of row.takes < count o.n.ty → shake_of slot < count o.n.ty
        from_source low = subst (λ (t : Slot). shake_of t < count o.n.ty) table.0 low

        loyal : shake_of slot < count o.n.ty → (s.state i).number ≡ o.n.side
        loyal low =
            sym (ap (λ (q : State). q.number) (seen_state s i j number))
            ∙ faithful (cut_tokens f p inlaid) fires_first o.n o.is_side o.number low

    pub fires_agree : AllAgree f ss r p region i (row.puts v)
    fires_agree = all_agree i j number (row.puts v) never_other

  pub fires_in : (s t : Tokens) → InRegion s → (i j : ℕ) → f.number i ≡ Some j → (slot : Slot) → IsFaithful s j slot
      → Does r (Fire i slot) s t → Does p (Fire j slot) (cut_tokens f p s) (cut_tokens f p t) × InRegion t
  fires_in s t within i j number slot faithful (v, row, held, by, leads) =
      (subst (λ (x : Tokens). Does p (Fire j slot) (cut_tokens f p s) (cut_tokens f p x)) same first, subst InRegion same (in_region_fired i row v s within))
    where
      on : OnRegion (end_of i slot)
      on = lies s within (end_of i slot) (way_of slot) v held

      held_so : token_at (inlay f r p) s (end_of i slot) (way_of slot) ≡ Some v
      held_so = agree_token f ss r p region (end_of i slot) on.agrees s (way_of slot) ∙ held

      first : Does p (Fire j slot) (cut_tokens f p s) (cut_tokens f p (fired (inlay f r p) i row v s))
      first = fires_first s i j number slot faithful v row held_so by

      taken_agrees : Agree f ss r p region (end_of i row.takes)
      taken_agrees =
          subst (λ (x : Slot). Agree f ss r p region (end_of i x)) (sym (takes_of (slice_get r.parts i) (s.state i) slot row by)) on.agrees

      same : fired (inlay f r p) i row v s ≡ t
      same =
          agree_fired f ss r p region i row v taken_agrees (fires_agree s i j number slot faithful v row held_so by) s ∙ sym leads

  -- the joint of an end that stands in one lies in the whole as it does there
  pub stands_agree : (e : End) → StandsIn p e → Agree f ss r p region (lies_at f e)
  stands_agree e stands =
      let (a, named) = stands_place p region.right e stands in
      place_agrees f ss r p region (lies_at f e) (lies_at f a) (place_there f (inlay f r p) p region_cut e a named)

  -- what lies and what is put at a port of the region
  module _ (e : End) (port : IsPortEnd e) (stands : StandsIn p e) where
    own : Owns p e
    own = port_own p e port stands

    agrees : Agree f ss r p region (lies_at f e)
    agrees = stands_agree e stands

    port_token : (s : Tokens) (way : Direction) → token_at p (cut_tokens f p s) e way ≡ token_at r s (lies_at f e) way
    port_token s way = token_cut f (inlay f r p) p region_cut e own s way ∙ agree_token f ss r p region (lies_at f e) agrees s way

    port_put : (way : Direction) (held : Option ℕ) (s : Tokens)
        → with_token p e way held (cut_tokens f p s) ≡ cut_tokens f p (with_token r (lies_at f e) way held s)
    port_put way held s =
        token_put f (inlay f r p) p region_cut e own way held s ∙ ap (cut_tokens f p) (agree_put f ss r p region (lies_at f e) agrees way held s)

    port_within : (way : Direction) (held : Option ℕ) (s : Tokens) → InRegion s → InRegion (with_token r (lies_at f e) way held s)
    port_within way held s within =
        subst (λ (x : Tokens). InRegion x) (agree_put f ss r p region (lies_at f e) agrees way held s) (in_region_put s within (lies_at f e) way held)

    -- an output of the whole there is one of the region, and so is an input
    module _ (b : End) (at : lies_at f e ≡ b) (same : contact_at r b ≡ contact_at p e) (v : ℕ) (s t : Tokens) (within : InRegion s) where
      pub out_in : Does r (Out b v) s t → Does p (Out e v) (cut_tokens f p s) (cut_tokens f p t) × InRegion t
      out_in does =
          let (c, there) = out_there r b v s t does in
          let (held, leads) = subst (λ (o : Option Contact). Passes r (Out b v) o s t) there does.1 in
          let leads_so : t ≡ with_token r (lies_at f e) (way_taken c.role) None s =
          leads ∙ ap (λ (x : End). with_token r x (way_taken c.role) None s) (sym at) in
          let held_so = ap (λ (x : End). token_at r s x (way_taken c.role)) at ∙ held in (
            (
              port,
              subst (λ (o : Option Contact). Passes p (Out e v) o (cut_tokens f p s) (cut_tokens f p t)) (sym there ∙ same)
                  (port_token s (way_taken c.role) ∙ held_so, ap (cut_tokens f p) leads_so ∙ sym (port_put (way_taken c.role) None s)),
            ),
            subst (λ (x : Tokens). InRegion x) (sym leads_so) (port_within (way_taken c.role) None s within),
          )

      pub in_in : Does r (In b v) s t → Does p (In e v) (cut_tokens f p s) (cut_tokens f p t) × InRegion t
      in_in does =
          let (c, there) = in_there r b v s t does in
          let (fits, leads) = subst (λ (o : Option Contact). Passes r (In b v) o s t) there does.1 in
          let leads_so : t ≡ with_token r (lies_at f e) (way_put c.role) (Some v) s =
          leads ∙ ap (λ (x : End). with_token r x (way_put c.role) (Some v) s) (sym at) in (
            (
              port,
              subst (λ (o : Option Contact). Passes p (In e v) o (cut_tokens f p s) (cut_tokens f p t)) (sym there ∙ same)
                  (fits, ap (cut_tokens f p) leads_so ∙ sym (port_put (way_put c.role) (Some v) s)),
            ),
            subst (λ (x : Tokens). InRegion x) (sym leads_so) (port_within (way_put c.role) (Some v) s within),
          )

  -- where nothing is joined at an end, nothing comes in
  pub in_nothing : (e b : End) (v : ℕ) (s t : Tokens) → InRegion s → IsPortEnd e → contact_at r b ≡ contact_at p e
      → places_of r b ≡ None → places_of p e ≡ None
      → Does r (In b v) s t → Does p (In e v) (cut_tokens f p s) (cut_tokens f p t) × InRegion t
  in_nothing e b v s t within port same none own_none does =
      let (c, there) = in_there r b v s t does in
      let (fits, leads) = subst (λ (o : Option Contact). Passes r (In b v) o s t) there does.1 in
      let stays : t ≡ s = leads ∙ ap (λ (o : Option End). with_held (way_put c.role) o (Some v) s) none in
      let lost : cut_tokens f p t ≡ with_token p e (way_put c.role) (Some v) (cut_tokens f p s) =
      ap (cut_tokens f p) stays ∙ sym (ap (λ (o : Option End). with_held (way_put c.role) o (Some v) (cut_tokens f p s)) own_none) in (
        (port, subst (λ (o : Option Contact). Passes p (In e v) o (cut_tokens f p s) (cut_tokens f p t)) (sym there ∙ same) (fits, lost)),
        subst (λ (x : Tokens). InRegion x) (sym stays) within,
      )

  -- where the region is idle no token lies
  pub none_lies : (u : Tokens) → InRegion u → IsIdle p (cut_tokens f p u) → (way : Direction) (e : End) → u.in_place way e ≡ None
  none_lies u within idle way e = by_held (u.in_place way e) refl
    where
      by_held : (o : Option ℕ) → u.in_place way e ≡ o → u.in_place way e ≡ None
      by_held None none = none
      by_held (Some v) some =
          let there = within way e v some in
          let here = ap (λ (b : Bool). if b then u.in_place way (lies_at f there.0) else None) (sym there.1) ∙ idle.0 way there.0 in
          ap (u.in_place way) (sym there.2) ∙ here
