-- What is open in a region is what is open at its ends in the whole; so what comes in order in the region does in the whole.
--
-- Other ends of the whole may be open beside it (`Beside`), and some that stay open (`Kept`).
use Rattle.std.specs.Prelude.{None, slice_get}
use Rattle.std.proofs.Common.{◌≡◌, ℕ, Bool, true, false, List, [], ◌∷◌, ◌⊎◌, Option, Some, inl, inr, refl, sym, ◌∙◌, ap, subst, if◌then◌else◌}
use Rattle.std.proofs.lemmas.Option.{same_Some}
use Rattle.gos_types.specs.declared.shakes.Role.TheVariants.{Ask}
use Rattle.gos_types.specs.Events.{Direction, Request, Answer}
use Rattle.gos_plan.specs.Kinds.{Part, Contact}
use Rattle.gos_plan.specs.Firing.{Slot, Token, Row}
use Rattle.gos_plan.specs.Plans.{End, PartEnd, ImportEnd, ResultEnd, Plan, contacts_of_part, contact_at, same_end}
use Rattle.gos_plan.specs.Tokens.{Tokens, Fire, Out, In, IsPortEnd, places_of, token_at, with_token, with_state, end_of, way_of, shake_of, way_taken, way_put, firing_of, Does}
use Rattle.gos_plan.specs.Orderly.{named_by, handshake_at, Open, with_open, after_taken, after_put, after_puts, ComesWell, AllComeWell, ComesInOrder, AllWelcome}
use Rattle.gos_plan.proofs.JointLemmas.{same_is}
use Rattle.gos_plan.proofs.HeldLemmas.{takes_of}
use Rattle.gos_plan.proofs.ElementLemmas.{firing_part}
use Rattle.gos_joining.specs.webs.Cutting.{Cut, cut_tokens, lies_at, StandsIn}
use Rattle.gos_joining.proofs.webs.CutLemmas.{Owns, port_own, same_lies, asker_own, asker_asks, no_place, place_there, token_cut, token_put, state_put}
use Rattle.gos_nodes.specs.windows.Regions.{Serving, IsRegion}
use Rattle.gos_nodes.proofs.windows.InlayLemmas.{inlay, Agree, agree_token, agree_put, AllAgree}
use Rattle.gos_nodes.proofs.windows.PortLemmas.{stands_place}
use Rattle.gos_nodes.proofs.windows.RegionLemmas as regions
use Rattle.gos_nodes.proofs.windows.RegionLemmas.{region_cut, InRegion, OnRegion, IsFaithful}

-- a port without a joint
abbrev pub IsUnjoinedPort : Plan → End → Type 0
IsUnjoinedPort r x = IsPortEnd x × (places_of r x ≡ None)

-- a port of the region at which the surroundings ask, at no joint; and where it lies in the whole, at none either
pub record IsLooseAt (r p : Plan) (e x : End) : Type 0 where
  pub own_port : IsPortEnd e
  pub port : IsPortEnd x
  pub none : places_of r x ≡ None
  pub own_none : places_of p e ≡ None
  pub contact : Contact
  pub there : contact_at r x ≡ Some contact
  pub own_there : contact_at p e ≡ Some contact
  pub asks : contact.role ≡ Ask

-- an end of the whole that may be open: beside the region, at an end of it, or a port without a joint
abbrev pub IsThere : (f : Cut) (r p : Plan) (Beside : End → Type 0) → End → Type 0
IsThere f r p Beside x = Beside x ⊎ (((e : End) × Owns p e × (lies_at f e ≡ x)) ⊎ IsUnjoinedPort r x)

-- what is open in the region, and in the whole
pub record Opens (f : Cut) (r p : Plan) (Kept Beside : End → Type 0) (own o : Open) : Type 0 where
  pub kept : (x : End) → Kept x → o x ≡ true
  pub same : (e : End) → Owns p e → o (lies_at f e) ≡ own e
  pub only : (x : End) → o x ≡ true → IsThere f r p Beside x

module _
    (f : Cut) (ss : List Serving) (r p : Plan) (region : IsRegion f ss r p) (Kept Beside : End → Type 0)
    (kept_apart : (x a : End) → Kept x → Owns p a → x ≡ lies_at f a → ⊥) where
  abbrev whole : Plan
  whole = inlay f r p

  abbrev Agrees : End → Type 0
  Agrees e = Agree f ss r p region e

  abbrev Opened : Open → Open → Type 0
  Opened own o = Opens f r p Kept Beside own o

  -- names
  names : (e : End) → Owns p e → Agrees (lies_at f e)
      → (handshake_at r (lies_at f e) ≡ lies_at f (handshake_at p e)) × Owns p (handshake_at p e)
  names e own agrees = by_place (places_of p e) refl
    where
      by_place : (o : Option End) → places_of p e ≡ o
          → (handshake_at r (lies_at f e) ≡ lies_at f (handshake_at p e)) × Owns p (handshake_at p e)
      by_place (Some a) named =
          let here : handshake_at p e ≡ a = ap (λ (x : Option End). named_by x e) named in
          let in_whole : handshake_at r (lies_at f e) ≡ lies_at f a =
          ap (λ (x : Option End). named_by x (lies_at f e)) (sym agrees ∙ place_there f whole p (region_cut f ss r p region) e a named) in (
            in_whole ∙ ap (lies_at f) (sym here),
            subst (λ (x : End). Owns p x) (sym here) (asker_own p region.right a (asker_asks p e a named)),
          )
      by_place None none =
          let here : handshake_at p e ≡ e = ap (λ (x : Option End). named_by x e) none in
          let in_whole : handshake_at r (lies_at f e) ≡ lies_at f e =
          ap (λ (x : Option End). named_by x (lies_at f e)) (sym agrees ∙ no_place f whole p (region_cut f ss r p region) e own none) in
          (in_whole ∙ ap (lies_at f) (sym here), subst (λ (x : End). Owns p x) (sym here) own)

  opens_with : (own o : Open) → Opened own o → (a : End) → Owns p a → (b : Bool) → Opened (with_open a b own) (with_open (lies_at f a) b o)
  opens_with own o opens a owned b =
      record {
        kept = λ x still. by_kept x still (same_end x (lies_at f a)) refl;
        same = λ e also. (λ l. if same_lies f whole p (region_cut f ss r p region) e a also owned l then b else opens.same e also l);
        only = λ x up. by_end x (same_end x (lies_at f a)) refl up;
      }
    where
      by_kept : (x : End) → Kept x → (t : Bool) → same_end x (lies_at f a) ≡ t → (if t then b else o x) ≡ true
      by_kept x still true t = absurd (kept_apart x a still owned (same_is x (lies_at f a) t))
      by_kept x still false t = opens.kept x still

      by_end : (x : End) (t : Bool) → same_end x (lies_at f a) ≡ t → (if t then b else o x) ≡ true → IsThere f r p Beside x
      by_end x true t up = inr (inl (a, owned, sym (same_is x (lies_at f a) t)))
      by_end x false t up = opens.only x up

  put_opens : (own o : Open) → Opened own o → (e : End) → Owns p e → Agrees (lies_at f e) → (way : Direction)
      → Opened (after_put p e way own) (after_put r (lies_at f e) way o)
  put_opens own o opens e owned agrees Request =
      let (named, also) = names e owned agrees in
      subst (λ (m : End). Opened (with_open (handshake_at p e) true own) (with_open m true o)) (sym named)
      (opens_with own o opens (handshake_at p e) also true)
  put_opens own o opens e owned agrees Answer = opens

  pub taken_opens : (own o : Open) → Opened own o → (e : End) → Owns p e → Agrees (lies_at f e) → (way : Direction)
      → Opened (after_taken p e way own) (after_taken r (lies_at f e) way o)
  taken_opens own o opens e owned agrees Request = opens
  taken_opens own o opens e owned agrees Answer =
      let (named, also) = names e owned agrees in
      subst (λ (m : End). Opened (with_open (handshake_at p e) false own) (with_open m false o)) (sym named)
      (opens_with own o opens (handshake_at p e) also false)

  comes_well : (own o : Open) → Opened own o → (e : End) → Owns p e → Agrees (lies_at f e) → (way : Direction) (s : Tokens)
      → ComesWell p e way own (cut_tokens f p s) → ComesWell r (lies_at f e) way o s
  comes_well own o opens e owned agrees Request s well =
      let (named, also) = names e owned agrees in ap o named ∙ (opens.same (handshake_at p e) also ∙ well)
  comes_well own o opens e owned agrees Answer s well =
      let (named, also) = names e owned agrees in (
        ap o named ∙ (opens.same (handshake_at p e) also ∙ well.0),
        λ w.
            sym (agree_token f ss r p region (lies_at f e) agrees s w)
            ∙ (sym (token_cut f whole p (region_cut f ss r p region) e owned s w) ∙ well.1 w),
      )

  -- a firing
  all_come : (j : ℕ) (k : Part) → slice_get p.parts j ≡ Some k → (ts : List Token) → AllAgree f ss r p region (f.part j) ts
      → (own o : Open) → Opened own o → (s : Tokens) → AllComeWell p j ts own (cut_tokens f p s)
      → AllComeWell r (f.part j) ts o s × Opened (after_puts p j ts own) (after_puts r (f.part j) ts o)
  all_come j k there [] agrees own o opens s well = (tt, opens)
  all_come j k there (t ∷ ts) (one, others) own o opens s (well, more) =
      let owned : Owns p (end_of j t.slot) = (k, there) in
      let same =
      token_put f whole p (region_cut f ss r p region) (end_of j t.slot) owned (way_of t.slot) (Some t.value) s
      ∙ ap (cut_tokens f p) (agree_put f ss r p region (end_of (f.part j) t.slot) one (way_of t.slot) (Some t.value) s) in
      let rest =
      all_come j k there ts others (after_put p (end_of j t.slot) (way_of t.slot) own) (after_put r (end_of (f.part j) t.slot) (way_of t.slot) o)
      (put_opens own o opens (end_of j t.slot) owned one (way_of t.slot)) (with_token r (end_of (f.part j) t.slot) (way_of t.slot) (Some t.value) s)
      (subst (λ (x : Tokens). AllComeWell p j ts (after_put p (end_of j t.slot) (way_of t.slot) own) x) same more) in
      ((comes_well own o opens (end_of j t.slot) owned one (way_of t.slot) s well, rest.0), rest.1)

  module _ (s t : Tokens) (within : InRegion f ss r p region s) (own mown o : Open) (opens : Opened own o) where
    pub fire_order : (j : ℕ) (slot : Slot) → IsFaithful f ss r p region s j slot → Does p (Fire j slot) (cut_tokens f p s) (cut_tokens f p t)
        → Does r (Fire (f.part j) slot) s t → ComesInOrder p (Fire j slot) (cut_tokens f p s) own mown
        → (m : Open) × ComesInOrder r (Fire (f.part j) slot) s o m × Opened mown m
    fire_order j slot faithful own_does (v, row, held, by, leads) comes = (m, in_order, subst (λ (z : Open). Opened z m) (sym now.1) all.1)
      where
        part : (k : Part) × (slice_get p.parts j ≡ Some k)
        part = firing_part (slice_get p.parts j) ((cut_tokens f p s).state j) slot own_does.1 own_does.3

        number : f.number (f.part j) ≡ Some j
        number = (region.parts j part.0 part.1).1

        in_whole : slice_get r.parts (f.part j) ≡ Some part.0
        in_whole = (region.parts j part.0 part.1).0

        on : OnRegion f ss r p region (end_of (f.part j) slot)
        on = regions.lies f ss r p region s within (end_of (f.part j) slot) (way_of slot) v held

        held_so : token_at whole s (end_of (f.part j) slot) (way_of slot) ≡ Some v
        held_so = agree_token f ss r p region (end_of (f.part j) slot) on.agrees s (way_of slot) ∙ held

        by_own : firing_of (slice_get p.parts j) ((cut_tokens f p s).state j) slot ≡ Some row
        by_own = (λ l. firing_of ((part.1 ∙ sym in_whole) l) (regions.seen_state f ss r p region s (f.part j) j number l) slot) ∙ by

        taken_agrees : Agrees (end_of (f.part j) row.takes)
        taken_agrees =
            subst (λ (x : Slot). Agrees (end_of (f.part j) x)) (sym (takes_of (slice_get r.parts (f.part j)) (s.state (f.part j)) slot row by)) on.agrees

        between : ℕ → Row → Tokens
        between v y = with_state (f.part j) (y.next v) (with_token r (end_of (f.part j) y.takes) (way_of y.takes) None s)

        now : AllComeWell p j (row.puts v) (after_taken p (end_of j slot) (way_of slot) own)
            (with_state j (row.next v) (with_token p (end_of j row.takes) (way_of row.takes) None (cut_tokens f p s)))
            × (mown ≡ after_puts p j (row.puts v) (after_taken p (end_of j slot) (way_of slot) own))
        now = comes v row (token_cut f whole p (region_cut f ss r p region) (end_of j slot) part s (way_of slot) ∙ held_so) by_own

        same : with_state j (row.next v) (with_token p (end_of j row.takes) (way_of row.takes) None (cut_tokens f p s)) ≡ cut_tokens f p (between v row)
        same =
            ap (with_state j (row.next v))
            (token_put f whole p (region_cut f ss r p region) (end_of j row.takes) part (way_of row.takes) None s
            ∙ ap (cut_tokens f p) (agree_put f ss r p region (end_of (f.part j) row.takes) taken_agrees (way_of row.takes) None s))
            ∙ state_put f whole p (region_cut f ss r p region) j part.0 part.1 (row.next v)
            (with_token r (end_of (f.part j) row.takes) (way_of row.takes) None s)

        all : AllComeWell r (f.part j) (row.puts v) (after_taken r (end_of (f.part j) slot) (way_of slot) o) (between v row)
            × Opened (after_puts p j (row.puts v) (after_taken p (end_of j slot) (way_of slot) own))
            (after_puts r (f.part j) (row.puts v) (after_taken r (end_of (f.part j) slot) (way_of slot) o))
        all =
            all_come j part.0 part.1 (row.puts v) (regions.fires_agree f ss r p region s (f.part j) j number slot faithful v row held_so by)
            (after_taken p (end_of j slot) (way_of slot) own) (after_taken r (end_of (f.part j) slot) (way_of slot) o)
            (taken_opens own o opens (end_of j slot) part on.agrees (way_of slot)) (between v row)
            (subst (λ (x : Tokens). AllComeWell p j (row.puts v) (after_taken p (end_of j slot) (way_of slot) own) x) same now.0)

        m : Open
        m = after_puts r (f.part j) (row.puts v) (after_taken r (end_of (f.part j) slot) (way_of slot) o)

        in_order : ComesInOrder r (Fire (f.part j) slot) s o m
        in_order w y lying firing_so =
            let value : v ≡ w = cc (held, lying) in
            let row_is : row ≡ y = cc (by, firing_so) in
            subst (λ (z : Row). AllComeWell r (f.part j) (z.puts w) (after_taken r (end_of (f.part j) slot) (way_of slot) o) (between w z)
            × (m ≡ after_puts r (f.part j) (z.puts w) (after_taken r (end_of (f.part j) slot) (way_of slot) o))) row_is
            (subst (λ (w : ℕ). AllComeWell r (f.part j) (row.puts w) (after_taken r (end_of (f.part j) slot) (way_of slot) o) (between w row)
            × (m ≡ after_puts r (f.part j) (row.puts w) (after_taken r (end_of (f.part j) slot) (way_of slot) o))) value (all.0, refl))

    -- an output or an input at a joint
    module _
        (e x : End) (v : ℕ) (c : Contact) (port : IsPortEnd e) (stands : StandsIn p e) (lies_so : lies_at f e ≡ x)
        (same_contact : contact_at r x ≡ contact_at p e)
        (at_e : contact_at p e ≡ Some c) where
      agrees_so : Agrees (lies_at f e)
      agrees_so = regions.stands_agree f ss r p region e stands

      one_contact : (k : Contact) → contact_at r x ≡ Some k → c ≡ k
      one_contact k at_k = same_Some c k (sym at_e ∙ (sym same_contact ∙ at_k))

      pub out_order : ComesInOrder p (Out e v) (cut_tokens f p s) own mown → (m : Open) × ComesInOrder r (Out x v) s o m × Opened mown m
      out_order comes = (
        after_taken r x (way_taken c.role) o,
        (λ k at_k. ap (λ (y : Contact). after_taken r x (way_taken y.role) o) (one_contact k at_k)),
        subst (λ (z : Open). Opened z (after_taken r x (way_taken c.role) o)) (sym (comes c at_e))
            (subst (λ (y : End). Opened (after_taken p e (way_taken c.role) own) (after_taken r y (way_taken c.role) o)) lies_so
            (taken_opens own o opens e (port_own p e port stands) agrees_so (way_taken c.role))),
      )

      pub in_order_at : ComesInOrder p (In e v) (cut_tokens f p s) own mown → (m : Open) × ComesInOrder r (In x v) s o m × Opened mown m
      in_order_at comes = (
        after_put r x (way_put c.role) o,
        (λ k at_k.
            subst (λ (y : Contact). ComesWell r x (way_put y.role) o s × (after_put r x (way_put c.role) o ≡ after_put r x (way_put y.role) o))
            (one_contact k at_k) (
              subst (λ (y : End). ComesWell r y (way_put c.role) o s) lies_so
                  (comes_well own o opens e (port_own p e port stands) agrees_so (way_put c.role) s (comes c at_e).0),
              refl,
            )),
        subst (λ (z : Open). Opened z (after_put r x (way_put c.role) o)) (sym (comes c at_e).1)
            (subst (λ (y : End). Opened (after_put p e (way_put c.role) own) (after_put r y (way_put c.role) o)) lies_so
            (put_opens own o opens e (port_own p e port stands) agrees_so (way_put c.role))),
      )

    -- an input where there is no joint
    pub loose_order : (e x : End) (v : ℕ) → (loose : IsLooseAt r p e x) → ComesInOrder p (In e v) (cut_tokens f p s) own mown → o x ≡ false
        → (m : Open) × ComesInOrder r (In x v) s o m × Opened mown m
    loose_order e x v loose comes shut =
        (after_put r x Request o, in_order, subst (λ (z : Open). Opened z (after_put r x Request o)) (sym own_now) opened)
      where
        named : handshake_at r x ≡ x
        named = ap (λ (y : Option End). named_by y x) loose.none

        own_named : handshake_at p e ≡ e
        own_named = ap (λ (y : Option End). named_by y e) loose.own_none

        in_order : ComesInOrder r (In x v) s o (after_put r x Request o)
        in_order c at_c =
            let same : loose.contact ≡ c = same_Some loose.contact c (sym loose.there ∙ at_c) in
            let asks : Ask ≡ c.role = sym loose.asks ∙ ap (λ (y : Contact). y.role) same in
            subst (λ (way : Direction). ComesWell r x way o s × (after_put r x Request o ≡ after_put r x way o)) (ap way_put asks)
            (ap o named ∙ shut, refl)

        own_now : mown ≡ with_open e true own
        own_now =
            (comes loose.contact loose.own_there).1
            ∙ (ap (λ (way : Direction). after_put p e way own) (ap way_put loose.asks) ∙ ap (λ (y : End). with_open y true own) own_named)

        stands_not : (d : End) → StandsIn p d → lies_at f d ≡ x → ⊥
        stands_not d stands lies_so =
            let (a, there) = stands_place p region.right d stands in
            let place = sym (regions.stands_agree f ss r p region d stands) ∙ place_there f whole p (region_cut f ss r p region) d a there in
            let clash : None ≡ Some (lies_at f a) = sym loose.none ∙ (ap (places_of r) (sym lies_so) ∙ place) in cc clash

        own_not : (d : End) → Owns p d → lies_at f d ≡ x → ⊥
        own_not (PartEnd j h) owned lies_so = subst (λ (y : End). IsPortEnd y) (sym lies_so) loose.port
        own_not (ImportEnd j h) owned lies_so = stands_not (ImportEnd j h) owned lies_so
        own_not (ResultEnd h) owned lies_so = stands_not (ResultEnd h) owned lies_so

        apart : (d : End) → Owns p d → (b : Bool) → same_end (lies_at f d) x ≡ b → b ≡ false
        apart d owned false t = refl
        apart d owned true t = absurd (own_not d owned (same_is (lies_at f d) x t))

        is_not : (d : End) → Owns p d → d ≡ e → ⊥
        is_not d owned same = of_own e (subst (λ (y : End). Owns p y) same owned) loose.own_port loose.own_none
          where
            of_own : (e : End) → Owns p e → IsPortEnd e → places_of p e ≡ None → ⊥
            of_own (PartEnd j h) owned port none = port
            of_own (ImportEnd j h) owned port none =
                let (a, there) = stands_place p region.right (ImportEnd j h) owned in let clash : None ≡ Some a = sym none ∙ there in cc clash
            of_own (ResultEnd h) owned port none =
                let (a, there) = stands_place p region.right (ResultEnd h) owned in let clash : None ≡ Some a = sym none ∙ there in cc clash

        own_apart : (d : End) → Owns p d → (b : Bool) → same_end d e ≡ b → b ≡ false
        own_apart d owned false t = refl
        own_apart d owned true t = absurd (is_not d owned (same_is d e t))

        still : (y : End) → Kept y → (b : Bool) → (if b then true else o y) ≡ true
        still y kept true = refl
        still y kept false = opens.kept y kept

        at_end : (y : End) (b : Bool) → same_end y x ≡ b → (if b then true else o y) ≡ true → IsThere f r p Beside y
        at_end y true t up =
            let same = same_is y x t in inr (inr (subst (λ (z : End). IsPortEnd z) (sym same) loose.port, ap (places_of r) same ∙ loose.none))
        at_end y false t up = opens.only y up

        opened : Opened (with_open e true own) (after_put r x Request o)
        opened =
            subst (λ (z : End). Opened (with_open e true own) (with_open z true o)) (sym named)
            (record {
              kept = λ y kept. still y kept (same_end y x);
              same = λ d owned.
                  ap (λ (b : Bool). if b then true else o (lies_at f d)) (apart d owned (same_end (lies_at f d) x) refl)
                  ∙ (opens.same d owned ∙ sym (ap (λ (b : Bool). if b then true else own d) (own_apart d owned (same_end d e) refl)));
              only = λ y up. at_end y (same_end y x) refl up;
            })

-- what lies at a part of the region is welcome there
pub welcome_in : (f : Cut) (ss : List Serving) (r p : Plan) (region : IsRegion f ss r p) (t : Tokens) (i j : ℕ) (slot : Slot) (c : Contact) (v : ℕ)
    → f.number i ≡ Some j → Agree f ss r p region (end_of i slot) → contact_at r (end_of i slot) ≡ Some c → way_taken c.role ≡ way_of slot
    → token_at r t (end_of i slot) (way_of slot) ≡ Some v → AllWelcome p (cut_tokens f p t)
    → (row : Row) × (firing_of (slice_get r.parts i) (t.state i) slot ≡ Some row)
welcome_in f ss r p region t i j slot c v number agrees at_end way held welcome =
    let numbered = region.numbers i j number in
    let k = numbered.1.0 in
    let there = numbered.1.1 in
    let in_whole : slice_get r.parts i ≡ Some k = ap (slice_get r.parts) (sym numbered.0) ∙ (region.parts j k there).0 in
    let parts : slice_get r.parts i ≡ slice_get p.parts j = in_whole ∙ sym there in
    let own_at : contact_at p (end_of j slot) ≡ Some c = ap (λ (o : Option Part). slice_get (contacts_of_part o) (shake_of slot)) (sym parts) ∙ at_end in
    let ends : lies_at f (end_of j slot) ≡ end_of i slot = ap (λ (m : ℕ). PartEnd m (shake_of slot)) numbered.0 in
    let own_held : token_at p (cut_tokens f p t) (end_of j slot) (way_of slot) ≡ Some v =
    token_cut f (inlay f r p) p (region_cut f ss r p region) (end_of j slot) (k, there) t (way_of slot)
    ∙ (ap (λ (e : End). token_at (inlay f r p) t e (way_of slot)) ends ∙ (agree_token f ss r p region (end_of i slot) agrees t (way_of slot) ∙ held)) in
    let (row, fires) = welcome j slot c v own_at way own_held in
    (row, (λ l. firing_of (parts l) (sym (regions.seen_state f ss r p region t i j number) l) slot) ∙ fires)
