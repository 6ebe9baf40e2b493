-- One step along gates: within a part, or from what goes out of one part to what comes in at another.
--
-- Read first: WiredLemmas.
use Rattle.std.proofs.Common.{◌≡◌, ◌+◌, ◌<◌, ◌⊎◌, ℕ, zero, suc, false, List, [], ◌∷◌, map, length, slice_get, Option, Some, Contains, inl, inr, refl, sym, ap, subst, ◌∙◌, arith}
use Rattle.std.specs.Prelude.{None}
use Rattle.std.proofs.lemmas.Option.{none-some, same_Some, slice_get_within}
use Rattle.std.proofs.lemmas.List.Elements.{All-from_recursion, All-contains}
use Rattle.gos_types.specs.declared.shakes.Role.{Role}
use Rattle.gos_types.specs.declared.shakes.Role.TheVariants.{Serve, Ask}
use Rattle.gos_netlist.specs.Nets.{Cell, pins}
use Rattle.gos_types.specs.Events.{Direction, Request, Answer}
use Rattle.gos_netlist.specs.Cycles.{IsRegister, Feeds}
use Rattle.gos_plan.specs.Kinds.{Part, Contact, part_contacts, asks, serves}
use Rattle.gos_plan.specs.Plans.{End, PartEnd, ImportEnd, ResultEnd, Joint, Plan, Fits, contacts_of_part, contact_at}
use Rattle.gos_plan.specs.Tokens.{IsPortEnd, bits_of, way_put}
use Rattle.gos_macro.specs.Gates.{Outgoing, Bare, Bearing, bits_out}
use Rattle.gos_macro.specs.Fit.{IsKnown, reach_of, GoesOut, AllGoOut}
use Rattle.gos_macro.specs.Paths.{Drives, IsIn, IsOut, with_renamed}
use Rattle.gos_expand.specs.Blocks.{Nets}
use Rattle.gos_expand.specs.Gates.{Making, layout, outs_of, part_size}
use Rattle.gos_expand.specs.Starts.{Laying, bits_taken}
use Rattle.gos_expand.specs.Laid.{nets_out, known}
use Rattle.gos_expand.specs.Facts.{Places, source, target, bits_put, incoming_at}
use Rattle.gos_expand.proofs.NetLemmas.{IsCut}
use Rattle.gos_expand.proofs.SeatLemmas.{joint_fits}
use Rattle.gos_expand.proofs.GroupLemmas.{layout_length}
use Rattle.gos_expand.proofs.GoodLemmas.{is_there, in_bits, pins_known, register_or}
use Rattle.gos_expand.proofs.GenericLemmas.{kept_below, to_pulse, to_value}
use Rattle.gos_expand.proofs.WiredLemmas.{OfPart, IsCutNet, AreCut, ComesStraight, Wired, wires, naming, cells_named, renamed_pins, register_renamed, of_mapped, cell_before, cell_after}

-- the cells of a part with generic wires
abbrev pub gates_of : Making → Part → ℕ → List Cell
gates_of m k b = layout m k b (wires m k b)

-- within a part, from an earlier place to a later one
pub record Inner (lay : Laying) (p : Plan) (n : Places) (a b : ℕ) : Type 0 where
  pub part : ℕ
  pub kind : Part
  pub there : slice_get p.parts part ≡ Some kind
  pub first : ℕ
  pub from : a ≡ n.start part + first
  pub second : ℕ
  pub to : b ≡ n.start part + second
  pub up : first < second
  pub drives : Drives (n.start part) (gates_of (lay.making part) kind (n.start part)) a b

-- what goes out at a handshake of a part comes in at an end by a direction without registers
pub record Crosses (lay : Laying) (p : Plan) (n : Places) (a : ℕ) (e : End) : Type 0 where
  pub joint : ℕ
  pub passed : Joint
  pub way : Direction
  pub stands : slice_get p.joints joint ≡ Some passed
  pub straight : lay.keep joint way ≡ false
  pub here : target passed way ≡ e
  pub part : ℕ
  pub out : ℕ
  pub kind : Part
  pub leaves : source passed way ≡ PartEnd part out
  pub there : slice_get p.parts part ≡ Some kind
  pub low : out < length (part_contacts kind)
  pub is_out : IsOut (slice_get (outs_of (lay.making part) kind (n.start part)) out) a

-- so it comes in at a part, and a gate of that part names it
pub record Entry (lay : Laying) (p : Plan) (n : Places) (a b : ℕ) : Type 0 where
  pub part : ℕ
  pub number : ℕ
  pub kind : Part
  pub there : slice_get p.parts part ≡ Some kind
  pub low : number < length (part_contacts kind)
  pub crosses : Crosses lay p n a (PartEnd part number)
  pub start : ℕ
  pub is_in : IsIn (part_contacts kind) (wires (lay.making part) kind (n.start part)) number start
  pub drives : Drives (n.start part) (gates_of (lay.making part) kind (n.start part)) start b

-- the two ends of a direction of a joint
record Sides (p : Plan) (j : Joint) (way : Direction) : Type 0 where
  from : Contact
  from_there : contact_at p (source j way) ≡ Some from
  to : Contact
  to_there : contact_at p (target j way) ≡ Some to
  same : bits_taken (Some to) ≡ bits_put (Some from)

sides_of : (p : Plan) (j : Joint) (way : Direction) → Fits p j → Sides p j way
sides_of p j Request (q, a, asking, serving) =
    record { from = asks q a; from_there = asking; to = serves q a; to_there = serving; same = refl }
sides_of p j Answer (q, a, asking, serving) =
    record { from = serves q a; from_there = serving; to = asks q a; to_there = asking; same = refl }

-- a handshake of a part is that of a kind
part_there : (p : Plan) (i h : ℕ) (c : Contact) → contact_at p (PartEnd i h) ≡ Some c
    → (k : Part) × (slice_get p.parts i ≡ Some k) × (slice_get (part_contacts k) h ≡ Some c)
part_there p i h c is = by_part (slice_get p.parts i) refl is
  where
    by_part : (o : Option Part) → slice_get p.parts i ≡ o → slice_get (contacts_of_part o) h ≡ Some c
        → (k : Part) × (slice_get p.parts i ≡ Some k) × (slice_get (part_contacts k) h ≡ Some c)
    by_part None none at = absurd (none-some c at)
    by_part (Some k) there at = (k, there, at)

-- what goes out at a handshake
out_at : (b : ℕ) (cells : List Cell) (cs : List Contact) (os : List Outgoing) (h : ℕ) (c : Contact) → AllGoOut b cells cs os
    → slice_get cs h ≡ Some c
    → (o : Outgoing) × (slice_get os h ≡ Some o) × GoesOut b cells c o
out_at b cells [] os h c all is = absurd (none-some c is)
out_at b cells (d ∷ cs) [] h c all is = absurd all
out_at b cells (d ∷ cs) (o ∷ os) zero c all is = (o, refl, subst (λ (x : Contact). GoesOut b cells x o) (same_Some d c is) all.0)
out_at b cells (d ∷ cs) (o ∷ os) (suc h) c all is = out_at b cells cs os h c all.1 is

pulse_goes : (o : Outgoing) → IsOut (Some o) (nets_out (Some o)).pulse
pulse_goes (Bare q) = refl
pulse_goes (Bearing q a) = inl refl

number_goes : (b : ℕ) (cells : List Cell) (c : Contact) (o : Outgoing) → GoesOut b cells c o → 0 < bits_out c.role c
    → IsOut (Some o) (nets_out (Some o)).number
number_goes b cells c (Bare q) goes some = absurd (let none = goes.0 in omega (arith, some, none))
number_goes b cells c (Bearing q a) goes some = inr refl

put_out : (r : Role) (c : Contact) → bits_out r c ≡ bits_of c (way_put r)
put_out Serve c = refl
put_out Ask c = refl

-- a net that feeds another and is fed is not cut
not_cut : (cells : List Cell) (a : ℕ) (c : Cell) → slice_get cells a ≡ Some c → (IsRegister c.gate → ⊥) → (pins c.gate ≡ [] → ⊥)
    → IsCutNet cells a
    → ⊥
not_cut cells a c is free fed (d, at, cut) = by_cut (subst (λ (x : Cell). IsCut x.gate) (same_Some d c (sym at ∙ is)) cut)
  where
    by_cut : IsCut c.gate → ⊥
    by_cut (inl register) = free register
    by_cut (inr none) = fed none

-- what comes straight to an end has gone out of a part
crossing : (lay : Laying) (p : Plan) (cells : List Cell) (n : Places) → Wired lay p cells n → (a : ℕ) (c : Cell) → slice_get cells a ≡ Some c
    → (IsRegister c.gate → ⊥) → (pins c.gate ≡ [] → ⊥) → (e : End) → (s : ComesStraight lay p n e) → Sides p s.passed s.way
    → (a ≡ (n.leaves (source s.passed s.way)).pulse) ⊎ ((0 < bits_put (contact_at p (source s.passed s.way))) × (a ≡ (n.leaves (source s.passed s.way)).number))
    → Crosses lay p n a e
crossing lay p cells n wired a c is free fed e s sides nets = by_source (source s.passed s.way) refl sides.from_there nets
  where
    of_port : (d : End) → IsPortEnd d → contact_at p d ≡ Some sides.from
        → (a ≡ (n.leaves d).pulse) ⊎ ((0 < bits_put (contact_at p d)) × (a ≡ (n.leaves d).number)) → ⊥
    of_port d port there (inl same) =
        not_cut cells a c is free fed (subst (λ (m : ℕ). IsCutNet cells m) (sym same) (wired.given d sides.from port there).pulse)
    of_port d port there (inr (some, same)) =
        let more : 0 < bits_put (Some sides.from) = subst (λ (o : Option Contact). 0 < bits_put o) there some in
        not_cut cells a c is free fed (subst (λ (m : ℕ). IsCutNet cells m) (sym same) ((wired.given d sides.from port there).number more))

    of_part : (i h : ℕ) → source s.passed s.way ≡ PartEnd i h → contact_at p (PartEnd i h) ≡ Some sides.from
        → (a ≡ (n.leaves (PartEnd i h)).pulse) ⊎ ((0 < bits_put (contact_at p (PartEnd i h))) × (a ≡ (n.leaves (PartEnd i h)).number))
        → Crosses lay p n a e
    of_part i h same there goes =
        let (k, part, at) = part_there p i h sides.from there in
        let b : ℕ = n.start i in
        let out = out_at b (layout (lay.making i) k b (incoming_at p n i)) (part_contacts k) (outs_of (lay.making i) k b) h sides.from
        ((wired.fits i k part).outgoing b (incoming_at p n i)) at in
        let leaving : n.leaves (PartEnd i h) ≡ nets_out (Some out.0) = wired.leaving i h k part ∙ ap nets_out out.1 in
        record {
          joint = s.joint;
          passed = s.passed;
          way = s.way;
          stands = s.stands;
          straight = s.straight;
          here = s.here;
          part = i;
          out = h;
          kind = k;
          leaves = same;
          there = part;
          low = slice_get_within (part_contacts k) h sides.from at;
          is_out = subst (λ (o : Option Outgoing). IsOut o a) (sym out.1) (is_of k b out.0 out.2 leaving goes);
        }
      where
        is_of : (k : Part) (b : ℕ) (o : Outgoing) → GoesOut b (layout (lay.making i) k b (incoming_at p n i)) sides.from o → n.leaves (PartEnd i h) ≡ nets_out (Some o)
            → (a ≡ (n.leaves (PartEnd i h)).pulse) ⊎ ((0 < bits_put (contact_at p (PartEnd i h))) × (a ≡ (n.leaves (PartEnd i h)).number))
            → IsOut (Some o) a
        is_of k b o goes leaving (inl pulse) =
            subst (λ (m : ℕ). IsOut (Some o) m) (sym (pulse ∙ ap (λ (x : Nets). x.pulse) leaving)) (pulse_goes o)
        is_of k b o goes leaving (inr (some, number)) =
            let more : 0 < bits_put (Some sides.from) = subst (λ (x : Option Contact). 0 < bits_put x) there some in
            let wide : 0 < bits_out sides.from.role sides.from =
            subst (λ (m : ℕ). 0 < m) (sym (put_out sides.from.role sides.from)) more in
            subst (λ (m : ℕ). IsOut (Some o) m) (sym (number ∙ ap (λ (x : Nets). x.number) leaving))
            (number_goes b (layout (lay.making i) k b (incoming_at p n i)) sides.from o goes wide)

    by_source : (d : End) → source s.passed s.way ≡ d → contact_at p (source s.passed s.way) ≡ Some sides.from
        → (a ≡ (n.leaves (source s.passed s.way)).pulse) ⊎ ((0 < bits_put (contact_at p (source s.passed s.way))) × (a ≡ (n.leaves (source s.passed s.way)).number))
        → Crosses lay p n a e
    by_source (PartEnd i h) same there goes =
        of_part i h same (subst (λ (d : End). contact_at p d ≡ Some sides.from) same there)
        (subst (λ (d : End). (a ≡ (n.leaves d).pulse) ⊎ ((0 < bits_put (contact_at p d)) × (a ≡ (n.leaves d).number))) same goes)
    by_source (ImportEnd i h) same there goes =
        absurd (of_port (ImportEnd i h) tt (subst (λ (d : End). contact_at p d ≡ Some sides.from) same there)
        (subst (λ (d : End). (a ≡ (n.leaves d).pulse) ⊎ ((0 < bits_put (contact_at p d)) × (a ≡ (n.leaves d).number))) same goes))
    by_source (ResultEnd h) same there goes =
        absurd (of_port (ResultEnd h) tt (subst (λ (d : End). contact_at p d ≡ Some sides.from) same there)
        (subst (λ (d : End). (a ≡ (n.leaves d).pulse) ⊎ ((0 < bits_put (contact_at p d)) × (a ≡ (n.leaves d).number))) same goes))

-- a pin that comes in at a handshake is what arrives there
arrived : (lay : Laying) → (p : Plan) (n : Places) (i h : ℕ) (k : Part) (c : Contact) (x : ℕ) → contact_at p (PartEnd i h) ≡ Some c → slice_get (part_contacts k) h ≡ Some c
    → IsIn (part_contacts k) (wires (lay.making i) k (n.start i)) h x
    → (naming (lay.making i) k (n.start i) (incoming_at p n i) x ≡ (n.arrives (PartEnd i h)).pulse)
    ⊎ ((0 < bits_taken (Some c)) × (naming (lay.making i) k (n.start i) (incoming_at p n i) x ≡ (n.arrives (PartEnd i h)).number))
arrived lay p n i h k c x there at (inl is) =
    let f : ℕ → ℕ = naming (lay.making i) k (n.start i) (incoming_at p n i) in
    let m : ℕ = n.start i + part_size (lay.making i) k in
    inl
    (ap f is ∙ (to_pulse m (incoming_at p n i) h ∙ ap (λ (o : Option Contact). known o (n.arrives (PartEnd i h)).pulse) there))
arrived lay p n i h k c x there at (inr (some, is)) =
    let f : ℕ → ℕ = naming (lay.making i) k (n.start i) (incoming_at p n i) in
    let m : ℕ = n.start i + part_size (lay.making i) k in
    inr (
      subst (λ (w : ℕ). 0 < w) (in_bits (part_contacts k) h c at) some,
      ap f is ∙ (to_value m (incoming_at p n i) h ∙ ap (λ (o : Option Contact). known o (n.arrives (PartEnd i h)).number) there),
    )

-- a step along gates, from a net that is fed to a gate
pub stride : (lay : Laying) (p : Plan) (cells : List Cell) (n : Places) → Wired lay p cells n → (a b : ℕ) → Feeds cells a b
    → ((c : Cell) → slice_get cells a ≡ Some c → pins c.gate ≡ [] → ⊥) → ((c : Cell) → slice_get cells b ≡ Some c → IsRegister c.gate → ⊥)
    → Inner lay p n a b ⊎ Entry lay p n a b
stride lay p cells n wired a b (c, e, at_a, at_b, free, pin) fed gate = by_place (wired.fed b e at_b)
  where
    not_empty : (xs : List ℕ) → xs ≡ [] → Contains xs a → ⊥
    not_empty [] none (k, low, is) = omega (arith, low)
    not_empty (x ∷ xs) none has = cc none

    -- the pin of the generic cell
    by_pin : (q : OfPart lay p n b e) (d : Cell) → slice_get (gates_of (lay.making q.part) q.kind (n.start q.part)) q.place ≡ Some d
        → with_renamed (naming (lay.making q.part) q.kind (n.start q.part) (incoming_at p n q.part)) d ≡ e
        → (x : ℕ) → Contains (pins d.gate) x → naming (lay.making q.part) q.kind (n.start q.part) (incoming_at p n q.part) x ≡ a
        → IsKnown (part_contacts q.kind) (wires (lay.making q.part) q.kind (n.start q.part)) (n.start q.part) (gates_of (lay.making q.part) q.kind (n.start q.part)) q.place x
        → (IsRegister d.gate → ⊥)
        → Inner lay p n a b ⊎ Entry lay p n a b
    by_pin q d at named x has same (inl (h, low, goes)) no_register =
        let (k, is) = is_there (part_contacts q.kind) h low in
        let there : contact_at p (PartEnd q.part h) ≡ Some k =
        ap (λ (o : Option Part). slice_get (contacts_of_part o) h) q.there ∙ is in
        let nets = arrived lay p n q.part h q.kind k x there is goes in
        inr
        (record {
          part = q.part;
          number = h;
          kind = q.kind;
          there = q.there;
          low = low;
          crosses = crossed q.part h k there nets (wired.coming q.part h k there);
          start = x;
          is_in = goes;
          drives = (q.place, d, q.number, at, no_register, has);
        })
      where
        crossed : (i h : ℕ) (k : Contact) → contact_at p (PartEnd i h) ≡ Some k
            → (naming (lay.making q.part) q.kind (n.start q.part) (incoming_at p n q.part) x ≡ (n.arrives (PartEnd i h)).pulse)
            ⊎ ((0 < bits_taken (Some k)) × (naming (lay.making q.part) q.kind (n.start q.part) (incoming_at p n q.part) x ≡ (n.arrives (PartEnd i h)).number))
            → AreCut cells (bits_taken (Some k)) (n.arrives (PartEnd i h)) ⊎ ComesStraight lay p n (PartEnd i h)
            → Crosses lay p n a (PartEnd i h)
        crossed i h k there (inl pulse) (inl cut) =
            absurd (not_cut cells a c at_a free (fed c at_a) (subst (λ (m : ℕ). IsCutNet cells m) (sym pulse ∙ same) cut.pulse))
        crossed i h k there (inr (some, number)) (inl cut) =
            absurd (not_cut cells a c at_a free (fed c at_a) (subst (λ (m : ℕ). IsCutNet cells m) (sym number ∙ same) (cut.number some)))
        crossed i h k there nets (inr s) =
            let fits = joint_fits p [] p.joints s.joint s.passed wired.right s.stands in
            let sides = sides_of p s.passed s.way fits in
            crossing lay p cells n wired a c at_a free (fed c at_a) (PartEnd i h) s sides (of_nets sides nets)
          where
            bits : (sides : Sides p s.passed s.way) → bits_put (contact_at p (source s.passed s.way)) ≡ bits_taken (Some k)
            bits sides =
                ap bits_put sides.from_there ∙ (sym sides.same ∙ ap bits_taken (sym sides.to_there ∙ (ap (contact_at p) s.here ∙ there)))

            of_nets : (sides : Sides p s.passed s.way)
                → (naming (lay.making q.part) q.kind (n.start q.part) (incoming_at p n q.part) x ≡ (n.arrives (PartEnd i h)).pulse)
                ⊎ ((0 < bits_taken (Some k)) × (naming (lay.making q.part) q.kind (n.start q.part) (incoming_at p n q.part) x ≡ (n.arrives (PartEnd i h)).number))
                → (a ≡ (n.leaves (source s.passed s.way)).pulse)
                ⊎ ((0 < bits_put (contact_at p (source s.passed s.way))) × (a ≡ (n.leaves (source s.passed s.way)).number))
            of_nets sides (inl pulse) = inl (sym same ∙ (pulse ∙ ap (λ (y : Nets). y.pulse) s.nets))
            of_nets sides (inr (some, number)) =
                inr (
                  subst (λ (w : ℕ). 0 < w) (sym (bits sides)) some,
                  sym same ∙ (number ∙ ap (λ (y : Nets). y.number) s.nets),
                )
    by_pin q d at named x has same (inr (k, g, is, found, early)) no_register = by_early early
      where
        gates : List Cell
        gates = gates_of (lay.making q.part) q.kind (n.start q.part)

        within : k < part_size (lay.making q.part) q.kind
        within = let low = slice_get_within (gates_of (lay.making q.part) q.kind (n.start q.part)) k g found in
            let size = layout_length (lay.making q.part) q.kind (n.start q.part) (wires (lay.making q.part) q.kind (n.start q.part)) in omega (arith, low, size)

        own : x ≡ a
        own =
            sym (kept_below (n.start q.part + part_size (lay.making q.part) q.kind) (incoming_at p n q.part) x (omega (arith, is, within))) ∙ same

        by_early : (k < q.place) ⊎ IsRegister g.gate → Inner lay p n a b ⊎ Entry lay p n a b
        by_early (inl low) =
            inl
            (record {
              part = q.part;
              kind = q.kind;
              there = q.there;
              first = k;
              from = sym own ∙ is;
              second = q.place;
              to = q.number;
              up = low;
              drives =
                  subst (λ (m : ℕ). Drives (n.start q.part) (gates_of (lay.making q.part) q.kind (n.start q.part)) m b) own
                  (q.place, d, q.number, at, no_register, has);
            })
        by_early (inr register) = absurd (free (register_here register))
          where
            register_here : IsRegister g.gate → IsRegister c.gate
            register_here r =
                let f : ℕ → ℕ = naming (lay.making q.part) q.kind (n.start q.part) (incoming_at p n q.part) in
                let real : slice_get (layout (lay.making q.part) q.kind (n.start q.part) (incoming_at p n q.part)) k ≡ Some (with_renamed f g) =
                ap (λ (cs : List Cell). slice_get cs k) (cells_named (lay.making q.part) q.kind (n.start q.part) (incoming_at p n q.part) (wired.paths q.part q.kind q.there))
                ∙ cell_after f (gates_of (lay.making q.part) q.kind (n.start q.part)) k g found in
                let stands = wired.gates q.part q.kind q.there k (with_renamed f g) real in
                let at_x : slice_get cells a ≡ Some (with_renamed f g) =
                subst (λ (m : ℕ). slice_get cells m ≡ Some (with_renamed f g)) (sym is ∙ own) stands in
                subst (λ (y : Cell). IsRegister y.gate) (same_Some (with_renamed f g) c (sym at_x ∙ at_a)) (register_renamed f g.gate r)

    by_cell : (q : OfPart lay p n b e) (d : Cell) → slice_get (gates_of (lay.making q.part) q.kind (n.start q.part)) q.place ≡ Some d
        → with_renamed (naming (lay.making q.part) q.kind (n.start q.part) (incoming_at p n q.part)) d ≡ e
        → Inner lay p n a b ⊎ Entry lay p n a b
    by_cell q d at named =
        let f : ℕ → ℕ = naming (lay.making q.part) q.kind (n.start q.part) (incoming_at p n q.part) in
        let b0 : ℕ = n.start q.part in
        let cs : List Contact = part_contacts q.kind in
        let gs : List Cell = gates_of (lay.making q.part) q.kind b0 in
        let real : Contains (map f (pins d.gate)) a =
        subst (λ (xs : List ℕ). Contains xs a) (ap (λ (y : Cell). pins y.gate) (sym named) ∙ renamed_pins f d.gate) pin in
        let found = of_mapped f (pins d.gate) a real in
        let all = pins_known cs (wires (lay.making q.part) q.kind b0) b0 gs 0 gs q.place d ((wired.fits q.part q.kind q.there).order b0 (wires (lay.making q.part) q.kind b0)) at in
        let knows = All-contains (IsKnown cs (wires (lay.making q.part) q.kind b0) b0 gs (reach_of d.gate (0 + q.place) (length gs))) (pins d.gate) found.0
        (All-from_recursion (IsKnown cs (wires (lay.making q.part) q.kind b0) b0 gs (reach_of d.gate (0 + q.place) (length gs))) (pins d.gate) all) found.1 in
        by_register (register_or d.gate) found knows
      where
        no_register : IsRegister d.gate → ⊥
        no_register r =
            gate e at_b (subst (λ (y : Cell). IsRegister y.gate) named (register_renamed (naming (lay.making q.part) q.kind (n.start q.part) (incoming_at p n q.part)) d.gate r))

        by_register : IsRegister d.gate ⊎ ((m size : ℕ) → reach_of d.gate m size ≡ m)
            → (found : (x : ℕ) × Contains (pins d.gate) x × (naming (lay.making q.part) q.kind (n.start q.part) (incoming_at p n q.part) x ≡ a))
            → IsKnown (part_contacts q.kind) (wires (lay.making q.part) q.kind (n.start q.part)) (n.start q.part) (gates_of (lay.making q.part) q.kind (n.start q.part))
            (reach_of d.gate (0 + q.place) (length (gates_of (lay.making q.part) q.kind (n.start q.part)))) found.0
            → Inner lay p n a b ⊎ Entry lay p n a b
        by_register (inl register) found knows = absurd (no_register register)
        by_register (inr reach) found knows =
            by_pin q d at named found.0 found.1 found.2
            (subst (λ (m : ℕ). IsKnown (part_contacts q.kind) (wires (lay.making q.part) q.kind (n.start q.part)) (n.start q.part) (gates_of (lay.making q.part) q.kind (n.start q.part)) m found.0)
            (reach (0 + q.place) (length (gates_of (lay.making q.part) q.kind (n.start q.part))) ∙ omega arith) knows) no_register

    by_place : IsCut e.gate ⊎ OfPart lay p n b e → Inner lay p n a b ⊎ Entry lay p n a b
    by_place (inl (inl register)) = absurd (gate e at_b register)
    by_place (inl (inr none)) = absurd (not_empty (pins e.gate) none pin)
    by_place (inr q) =
        let f : ℕ → ℕ = naming (lay.making q.part) q.kind (n.start q.part) (incoming_at p n q.part) in
        let generic_cell = cell_before f (gates_of (lay.making q.part) q.kind (n.start q.part)) q.place e
        (subst (λ (cs : List Cell). slice_get cs q.place ≡ Some e)
        (cells_named (lay.making q.part) q.kind (n.start q.part) (incoming_at p n q.part) (wired.paths q.part q.kind q.there)) q.cell) in
        by_cell q generic_cell.0 generic_cell.1 generic_cell.2
