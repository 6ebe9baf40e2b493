-- A combinational cycle is a ring of handshakes, and each ring is one.
--
-- Read first: Rings; StrideLemmas, WalkLemmas. Along a cycle each net is reached from what came in at a handshake last. After
-- one round this is the same handshake whatever it was before.
use Rattle.std.proofs.Common.{◌≡◌, ◌+◌, ◌<◌, ◌⊎◌, ℕ, zero, suc, List, [], ◌∷◌, ◌++◌, length, slice_get, Option, Some, Contains, inl, inr, refl, sym, ap, subst, ◌∙◌, arith}
use Rattle.std.specs.Prelude.{None}
use Rattle.std.proofs.lemmas.Option.{same_Some, slice_get_within}
use Rattle.gos_netlist.specs.Nets.{Cell, pins}
use Rattle.gos_netlist.specs.Cycles.{IsRegister, Feeds, Chain, HasCycle}
use Rattle.gos_plan.specs.Kinds.{Part, Contact, part_contacts}
use Rattle.gos_plan.specs.Plans.{End, PartEnd, Plan, contacts_of_part, contact_at}
use Rattle.gos_macro.specs.Gates.{Outgoing, Bare, Bearing}
use Rattle.gos_macro.specs.Fit.{AllGoOut}
use Rattle.gos_macro.specs.Paths.{Drives, Path, IsIn, IsOut, IsPulseOut, with_renamed}
use Rattle.gos_expand.specs.Blocks.{Nets}
use Rattle.gos_expand.specs.Gates.{layout, outs_of, part_size}
use Rattle.gos_expand.specs.Starts.{Laying}
use Rattle.gos_expand.specs.Laid.{nets_out, known}
use Rattle.gos_expand.specs.Facts.{Places, PassesOn, incoming_at}
use Rattle.gos_expand.specs.Rings.{Shake, PassesBy, HasRing}
use Rattle.gos_expand.proofs.GroupLemmas.{layout_length}
use Rattle.gos_expand.proofs.GoodLemmas.{is_there}
use Rattle.gos_expand.proofs.WiredLemmas.{OfPart, Wired, wires, wires_apart, naming, cells_named, renamed_pins, register_before, in_mapped, cell_after}
use Rattle.gos_expand.proofs.GenericLemmas.{kept_below, to_pulse}
use Rattle.gos_expand.proofs.WalkLemmas.{closed, joined_walk}
use Rattle.gos_expand.proofs.StrideLemmas.{gates_of, Inner, Entry, stride}

-- gates of a part lead from what comes in at a handshake to a net
record Reaches (lay : Laying) (p : Plan) (n : Places) (s : Shake) (m : ℕ) : Type 0 where
  kind : Part
  there : slice_get p.parts s.part ≡ Some kind
  low : s.number < length (part_contacts kind)
  start : ℕ
  is_in : IsIn (part_contacts kind) (wires (lay.making s.part) kind (n.start s.part)) s.number start
  ns : List ℕ
  path : Path (n.start s.part) (gates_of (lay.making s.part) kind (n.start s.part)) start ns m

pub path_more : (b : ℕ) (cells : List Cell) (m : ℕ) (ns : List ℕ) (z w : ℕ) → Path b cells m ns z → Drives b cells z w → Path b cells m (ns ++ z ∷ []) w
path_more b cells m [] z w path drives = (path, drives)
path_more b cells m (x ∷ ns) z w path drives = (path.0, path_more b cells x ns z w path.1 drives)

path_ends : (b : ℕ) (cells : List Cell) (m : ℕ) (ns : List ℕ) (z : ℕ) → Path b cells m ns z
    → (k : ℕ) × (c : Cell) × (z ≡ b + k) × (slice_get cells k ≡ Some c) × (IsRegister c.gate → ⊥)
path_ends b cells m [] z (k, c, is, at, free, pin) = (k, c, is, at, free)
path_ends b cells m (x ∷ ns) z path = path_ends b cells x ns z path.1

-- a place of a part with generic wires is one of the part
placed : (lay : Laying) (p : Plan) (cells : List Cell) (n : Places) → Wired lay p cells n → (i : ℕ) (k : Part) → slice_get p.parts i ≡ Some k
    → (j m : ℕ) (c : Cell) → m ≡ n.start i + j → slice_get (gates_of (lay.making i) k (n.start i)) j ≡ Some c
    → (q : OfPart lay p n m (with_renamed (naming (lay.making i) k (n.start i) (incoming_at p n i)) c)) × (q.part ≡ i) × (q.place ≡ j)
placed lay p cells n wired i k there j m c is at = (
  record {
    part = i;
    kind = k;
    there = there;
    place = j;
    number = is;
    cell =
        ap (λ (cs : List Cell). slice_get cs j) (cells_named (lay.making i) k (n.start i) (incoming_at p n i) (wired.paths i k there))
        ∙ cell_after (naming (lay.making i) k (n.start i) (incoming_at p n i)) (gates_of (lay.making i) k (n.start i)) j c at;
  },
  refl,
  refl,
)

-- a net in two parts is in one
one_part : (lay : Laying) (p : Plan) (cells : List Cell) (n : Places) → Wired lay p cells n → (m : ℕ) (c d : Cell) (a : OfPart lay p n m c) (b : OfPart lay p n m d)
    → (i j : ℕ) → a.part ≡ i → b.part ≡ j → i ≡ j
one_part lay p cells n wired m c d a b i j here there = sym here ∙ (wired.apart m c d a b ∙ there)

-- what a chain of gates does: it stays within a part and goes up there, or it comes in at a handshake last
record Within (lay : Laying) (p : Plan) (n : Places) (a z : ℕ) : Type 0 where
  first : Cell
  from : OfPart lay p n a first
  second : Cell
  to : OfPart lay p n z second
  same : from.part ≡ to.part
  up : from.place < to.place
  on : (s : Shake) → Reaches lay p n s a → Reaches lay p n s z

record Onward (lay : Laying) (p : Plan) (n : Places) (a z : ℕ) : Type 0 where
  last : Shake
  reaches : Reaches lay p n last z
  on : (s : Shake) → Reaches lay p n s a → (cs : List Shake) × PassesBy lay p s cs last

same_places : (lay : Laying) → (p : Plan) (n : Places) (m : ℕ) (c d : Cell) (a : OfPart lay p n m c) (b : OfPart lay p n m d) → a.part ≡ b.part → a.place ≡ b.place
same_places lay p n m c d a b same =
    let start = ap n.start same in
    let x = a.number in
    let y = b.number in
    omega (arith, start, x, y)

-- one step within a part
within_one : (lay : Laying) (p : Plan) (cells : List Cell) (n : Places) → Wired lay p cells n → (a b : ℕ) → Inner lay p n a b → Within lay p n a b
within_one lay p cells n wired a b s = by_cells (is_there (gates_of (lay.making s.part) s.kind (n.start s.part)) s.first low)
  where
    gates : List Cell
    gates = gates_of (lay.making s.part) s.kind (n.start s.part)

    place_is : s.drives.0 ≡ s.second
    place_is = let x = s.to in let y = s.drives.2 in omega (arith, x, y)

    low : s.first < length (gates_of (lay.making s.part) s.kind (n.start s.part))
    low = let within = slice_get_within (gates_of (lay.making s.part) s.kind (n.start s.part)) s.drives.0 s.drives.1 s.drives.3 in
        let up = s.up in omega (arith, within, up, place_is)

    -- who reaches the first net is in the same part
    further : (c : Cell) → slice_get (gates_of (lay.making s.part) s.kind (n.start s.part)) s.first ≡ Some c → (t : Shake) → Reaches lay p n t a → Reaches lay p n t b
    further c at t r =
        let end = path_ends (n.start t.part) (gates_of (lay.making t.part) r.kind (n.start t.part)) r.start r.ns a r.path in
        let there = placed lay p cells n wired t.part r.kind r.there end.0 a end.1 end.2 end.3 in
        let here = placed lay p cells n wired s.part s.kind s.there s.first a c s.from at in
        let same = one_part lay p cells n wired a _ _ here.0 there.0 s.part t.part here.1 there.1 in
        let kinds = same_Some s.kind r.kind (sym s.there ∙ (ap (slice_get p.parts) same ∙ r.there)) in
        let moved : Drives (n.start t.part) (gates_of (lay.making t.part) s.kind (n.start t.part)) a b =
        subst (λ (i : ℕ). Drives (n.start i) (gates_of (lay.making i) s.kind (n.start i)) a b) same s.drives in
        let drives : Drives (n.start t.part) (gates_of (lay.making t.part) r.kind (n.start t.part)) a b =
        subst (λ (k : Part). Drives (n.start t.part) (gates_of (lay.making t.part) k (n.start t.part)) a b) kinds moved in
        record {
          kind = r.kind;
          there = r.there;
          low = r.low;
          start = r.start;
          is_in = r.is_in;
          ns = r.ns ++ a ∷ [];
          path = path_more (n.start t.part) (gates_of (lay.making t.part) r.kind (n.start t.part)) r.start r.ns a b r.path drives;
        }

    by_cells : (c : Cell) × (slice_get (gates_of (lay.making s.part) s.kind (n.start s.part)) s.first ≡ Some c) → Within lay p n a b
    by_cells (c, at) =
        let here = placed lay p cells n wired s.part s.kind s.there s.first a c s.from at in
        let next = placed lay p cells n wired s.part s.kind s.there s.drives.0 b s.drives.1 s.drives.2 s.drives.3 in
        let up = s.up in
        record {
          first = _;
          from = here.0;
          second = _;
          to = next.0;
          same = here.1 ∙ sym next.1;
          up = let x = here.2 in let y = next.2 in omega (arith, x, y, up, place_is);
          on = further c at;
        }

-- a net that goes out of a part is one of its own
own_out : (b : ℕ) (cells : List Cell) (cs : List Contact) (os : List Outgoing) (h a : ℕ) → AllGoOut b cells cs os → IsOut (slice_get os h) a
    → (k : ℕ) × (c : Cell) × (a ≡ b + k) × (slice_get cells k ≡ Some c)
own_out b cells cs [] h a all out = absurd out
own_out b cells [] (o ∷ os) h a all out = absurd all
own_out b cells (d ∷ cs) (Bare q ∷ os) zero a (goes, rest) out = let own = goes.1 in (own.0, own.1, out ∙ own.2, own.3)
own_out b cells (d ∷ cs) (Bearing q x ∷ os) zero a (goes, rest) (inl is) = let own = goes.1 in (own.0, own.1, is ∙ own.2, own.3)
own_out b cells (d ∷ cs) (Bearing q x ∷ os) zero a (goes, rest) (inr is) = let own = goes.2 in (own.0, own.1, is ∙ own.2, own.3)
own_out b cells (d ∷ cs) (o ∷ os) (suc h) a (goes, rest) out = own_out b cells cs os h a rest out

-- one step from part to part
onward_one : (lay : Laying) (p : Plan) (cells : List Cell) (n : Places) → Wired lay p cells n → (a b : ℕ) → Entry lay p n a b → Onward lay p n a b
onward_one lay p cells n wired a b s =
    record {
      last = record { part = s.part; number = s.number };
      reaches = record { kind = s.kind; there = s.there; low = s.low; start = s.start; is_in = s.is_in; ns = []; path = s.drives };
      on = λ t r. ([], passes t r);
    }
  where
    passes : (t : Shake) → Reaches lay p n t a → PassesOn lay p t.part t.number (PartEnd s.part s.number)
    passes t r =
        let x = s.crosses in
        let end = path_ends (n.start t.part) (gates_of (lay.making t.part) r.kind (n.start t.part)) r.start r.ns a r.path in
        let from = placed lay p cells n wired t.part r.kind r.there end.0 a end.1 end.2 end.3 in
        let own = own_out (n.start x.part) (layout (lay.making x.part) x.kind (n.start x.part) (incoming_at p n x.part)) (part_contacts x.kind) (outs_of (lay.making x.part) x.kind (n.start x.part))
        x.out a ((wired.fits x.part x.kind x.there).outgoing (n.start x.part) (incoming_at p n x.part)) x.is_out in
        let goes : OfPart lay p n a own.1 =
        record { part = x.part; kind = x.kind; there = x.there; place = own.0; number = own.2; cell = own.3 } in
        let same = one_part lay p cells n wired a _ _ goes from.0 x.part t.part refl from.1 in
        let kinds = same_Some x.kind r.kind (sym x.there ∙ (ap (slice_get p.parts) same ∙ r.there)) in
        let low : x.out < length (part_contacts r.kind) = subst (λ (k : Part). x.out < length (part_contacts k)) kinds x.low in
        let moved : IsOut (slice_get (outs_of (lay.making t.part) x.kind (n.start t.part)) x.out) a =
        subst (λ (i : ℕ). IsOut (slice_get (outs_of (lay.making i) x.kind (n.start i)) x.out) a) same x.is_out in
        let out : IsOut (slice_get (outs_of (lay.making t.part) r.kind (n.start t.part)) x.out) a =
        subst (λ (k : Part). IsOut (slice_get (outs_of (lay.making t.part) k (n.start t.part)) x.out) a) kinds moved in
        let tells = (wired.paths t.part r.kind r.there).exact t.number x.out r.low low (n.start t.part) (wires (lay.making t.part) r.kind (n.start t.part))
        (wires_apart (lay.making t.part) r.kind (n.start t.part)) in
        record {
          joint = x.joint;
          passed = x.passed;
          way = x.way;
          part = r.kind;
          out = x.out;
          stands = x.stands;
          straight = x.straight;
          leaves = x.leaves ∙ ap (λ (i : ℕ). PartEnd i x.out) same;
          there = r.there;
          from_there = r.low;
          out_there = low;
          passes = tells.1 (r.start, a, r.ns, r.is_in, out, r.path);
          arrives = x.here;
        }

passes_further : (lay : Laying) (p : Plan) (a b : Shake) (xs ys : List Shake) (c : Shake) → PassesBy lay p a xs b → PassesBy lay p b ys c
    → PassesBy lay p a (xs ++ b ∷ ys) c
passes_further lay p a b [] ys c first second = (first, second)
passes_further lay p a b (x ∷ xs) ys c first second = (first.0, passes_further lay p x b xs ys c first.1 second)

-- a chain behind a chain
behind : (lay : Laying) (p : Plan) (cells : List Cell) (n : Places) → Wired lay p cells n → (a b z : ℕ)
    → Within lay p n a b ⊎ Onward lay p n a b
    → Within lay p n b z ⊎ Onward lay p n b z
    → Within lay p n a z ⊎ Onward lay p n a z
behind lay p cells n wired a b z (inl x) (inl y) =
    let joins = wired.apart b x.second y.first x.to y.from in
    let places = same_places lay p n b x.second y.first x.to y.from joins in
    let low = x.up in
    let high = y.up in
    inl
    (record {
      first = x.first;
      from = x.from;
      second = y.second;
      to = y.to;
      same = x.same ∙ (joins ∙ y.same);
      up = omega (arith, places, low, high);
      on = λ s r. y.on s (x.on s r);
    })
behind lay p cells n wired a b z (inl x) (inr y) = inr (record { last = y.last; reaches = y.reaches; on = λ s r. y.on s (x.on s r) })
behind lay p cells n wired a b z (inr x) (inl y) = inr (record { last = x.last; reaches = y.on x.last x.reaches; on = x.on })
behind lay p cells n wired a b z (inr x) (inr y) =
    inr
    (record {
      last = y.last;
      reaches = y.reaches;
      on = λ s r.
          let first = x.on s r in
          let second = y.on x.last x.reaches in
          (first.0 ++ x.last ∷ second.0, passes_further lay p s x.last first.0 second.0 y.last first.1 second.1);
    })

-- a net is fed, and is a gate
abbrev HasPins : List Cell → ℕ → Type 0
HasPins cells a = (c : Cell) → slice_get cells a ≡ Some c → pins c.gate ≡ [] → ⊥

abbrev IsFree : List Cell → ℕ → Type 0
IsFree cells a = (c : Cell) → slice_get cells a ≡ Some c → IsRegister c.gate → ⊥

fed_has_pins : (cells : List Cell) (a b : ℕ) → Feeds cells a b → HasPins cells b
fed_has_pins cells a b (c, e, at_a, at_b, free, pin) d at none =
    not_empty (pins e.gate) (ap (λ (x : Cell). pins x.gate) (same_Some e d (sym at_b ∙ at)) ∙ none) pin
  where
    not_empty : (xs : List ℕ) → xs ≡ [] → Contains xs a → ⊥
    not_empty [] is (k, low, same) = omega (arith, low)
    not_empty (x ∷ xs) is has = cc is

feeding_is_free : (cells : List Cell) (a b : ℕ) → Feeds cells a b → IsFree cells a
feeding_is_free cells a b (c, e, at_a, at_b, free, pin) d at register =
    free (subst (λ (x : Cell). IsRegister x.gate) (same_Some d c (sym at ∙ at_a)) register)

first_is_free : (cells : List Cell) (a : ℕ) (ns : List ℕ) (z : ℕ) → Chain cells (a ∷ ns) z → IsFree cells a
first_is_free cells a [] z chain = feeding_is_free cells a z chain
first_is_free cells a (b ∷ ns) z chain = feeding_is_free cells a b chain.0

last_has_pins : (cells : List Cell) (a : ℕ) (ns : List ℕ) (z : ℕ) → Chain cells (a ∷ ns) z → HasPins cells z
last_has_pins cells a [] z chain = fed_has_pins cells a z chain
last_has_pins cells a (b ∷ ns) z chain = last_has_pins cells b ns z chain.1

one_stride : (lay : Laying) (p : Plan) (cells : List Cell) (n : Places) → Wired lay p cells n → (a b : ℕ) → Feeds cells a b → HasPins cells a
    → IsFree cells b
    → Within lay p n a b ⊎ Onward lay p n a b
one_stride lay p cells n wired a b feeds fed free =
    elim (stride lay p cells n wired a b feeds fed free) [
      | inl inner ↦ inl (within_one lay p cells n wired a b inner)
      | inr entry ↦ inr (onward_one lay p cells n wired a b entry)
    ]

along : (lay : Laying) (p : Plan) (cells : List Cell) (n : Places) → Wired lay p cells n → (a : ℕ) (ns : List ℕ) (z : ℕ) → Chain cells (a ∷ ns) z
    → HasPins cells a
    → IsFree cells z
    → Within lay p n a z ⊎ Onward lay p n a z
along lay p cells n wired a [] z chain fed free = one_stride lay p cells n wired a z chain fed free
along lay p cells n wired a (b ∷ ns) z chain fed free =
    behind lay p cells n wired a b z (one_stride lay p cells n wired a b chain.0 fed (first_is_free cells b ns z chain.1))
    (along lay p cells n wired b ns z chain.1 (fed_has_pins cells a b chain.0) free)

-- each cycle is a ring
pub cycle_is_ring : (lay : Laying) (p : Plan) (cells : List Cell) (n : Places) → Wired lay p cells n → HasCycle cells → HasRing lay p
cycle_is_ring lay p cells n wired ([], none) = absurd none
cycle_is_ring lay p cells n wired (a ∷ ns, (distinct, chain)) =
    round (along lay p cells n wired a ns a chain (last_has_pins cells a ns a chain) (first_is_free cells a ns a chain))
  where
    round : Within lay p n a a ⊎ Onward lay p n a a → HasRing lay p
    round (inl x) =
        let places = same_places lay p n a x.first x.second x.from x.to x.same in
        let up = x.up in absurd (omega (arith, places, up))
    round (inr x) = let back = x.on x.last x.reaches in (x.last, back.0, back.1)

-- the other way

-- a net of a gate
abbrev IsGateNet : List Cell → ℕ → Type 0
IsGateNet cells m = (c : Cell) × (slice_get cells m ≡ Some c) × (IsRegister c.gate → ⊥)

-- a cell of a part with generic wires, in the netlist: it names what comes in by the part's own names
pub record Driven (lay : Laying) (p : Plan) (cells : List Cell) (n : Places) (i : ℕ) (k : Part) (m z : ℕ) : Type 0 where
  pub stays : naming (lay.making i) k (n.start i) (incoming_at p n i) z ≡ z
  pub cell : Cell
  pub stands : slice_get cells z ≡ Some cell
  pub free : IsRegister cell.gate → ⊥
  pub pin : Contains (pins cell.gate) (naming (lay.making i) k (n.start i) (incoming_at p n i) m)

pub driven : (lay : Laying) (p : Plan) (cells : List Cell) (n : Places) → Wired lay p cells n → (i : ℕ) (k : Part) → slice_get p.parts i ≡ Some k
    → (m z : ℕ) → Drives (n.start i) (gates_of (lay.making i) k (n.start i)) m z
    → Driven lay p cells n i k m z
driven lay p cells n wired i k there m z (j, c, is, at, free, pin) =
    let f : ℕ → ℕ = naming (lay.making i) k (n.start i) (incoming_at p n i) in
    let low = slice_get_within (gates_of (lay.making i) k (n.start i)) j c at in
    let size = layout_length (lay.making i) k (n.start i) (wires (lay.making i) k (n.start i)) in
    let real : slice_get (layout (lay.making i) k (n.start i) (incoming_at p n i)) j ≡ Some (with_renamed f c) =
    ap (λ (cs : List Cell). slice_get cs j) (cells_named (lay.making i) k (n.start i) (incoming_at p n i) (wired.paths i k there))
    ∙ cell_after f (gates_of (lay.making i) k (n.start i)) j c at in
    let stands = wired.gates i k there j (with_renamed f c) real in
    record {
      stays = kept_below (n.start i + part_size (lay.making i) k) (incoming_at p n i) z (omega (arith, is, low, size));
      cell = with_renamed f c;
      stands = subst (λ (x : ℕ). slice_get cells x ≡ Some (with_renamed f c)) (sym is) stands;
      free = λ r. free (register_before f c.gate r);
      pin = subst (λ (xs : List ℕ). Contains xs (f m)) (sym (renamed_pins f c.gate)) (in_mapped f (pins c.gate) m pin);
    }

driven_feeds : (lay : Laying) (p : Plan) (cells : List Cell) (n : Places) (i : ℕ) (k : Part) (m z : ℕ) → Driven lay p cells n i k m z
    → (u : ℕ) → naming (lay.making i) k (n.start i) (incoming_at p n i) m ≡ u → IsGateNet cells u → Feeds cells u z
driven_feeds lay p cells n i k m z x u same net =
    (net.0, x.cell, net.1, x.stands, net.2, subst (λ (a : ℕ). Contains (pins x.cell.gate) a) same x.pin)

-- a path of a part with generic wires is one in the netlist
path_stands : (lay : Laying) (p : Plan) (cells : List Cell) (n : Places) → Wired lay p cells n → (i : ℕ) (k : Part) → slice_get p.parts i ≡ Some k
    → (m : ℕ) (ns : List ℕ) (z : ℕ) → Path (n.start i) (gates_of (lay.making i) k (n.start i)) m ns z
    → (u : ℕ) → naming (lay.making i) k (n.start i) (incoming_at p n i) m ≡ u → IsGateNet cells u
    → Chain cells (u ∷ ns) z
path_stands lay p cells n wired i k there m [] z path u same net =
    driven_feeds lay p cells n i k m z (driven lay p cells n wired i k there m z path) u same net
path_stands lay p cells n wired i k there m (x ∷ ns) z path u same net =
    let first = driven lay p cells n wired i k there m x path.0 in (
      driven_feeds lay p cells n i k m x first u same net,
      path_stands lay p cells n wired i k there x ns z path.1 x first.stays (first.cell, first.stands, first.free),
    )

path_gate : (lay : Laying) (p : Plan) (cells : List Cell) (n : Places) → Wired lay p cells n → (i : ℕ) (k : Part) → slice_get p.parts i ≡ Some k
    → (m : ℕ) (ns : List ℕ) (z : ℕ) → Path (n.start i) (gates_of (lay.making i) k (n.start i)) m ns z
    → IsGateNet cells z
path_gate lay p cells n wired i k there m [] z path =
    let last = driven lay p cells n wired i k there m z path in (last.cell, last.stands, last.free)
path_gate lay p cells n wired i k there m (x ∷ ns) z path = path_gate lay p cells n wired i k there x ns z path.1

-- the pulse that comes in at a handshake
abbrev pub pulse_at : Places → Shake → ℕ
pulse_at n s = (n.arrives (PartEnd s.part s.number)).pulse

pulse_out : (o : Option Outgoing) (z : ℕ) → IsPulseOut o z → z ≡ (nets_out o).pulse
pulse_out None z out = absurd out
pulse_out (Some (Bare q)) z out = out
pulse_out (Some (Bearing q a)) z out = out

-- where a handshake passes on to an end, a path of the part leads from pulse to pulse
pub record Passage (lay : Laying) (p : Plan) (n : Places) (a : Shake) (u z : ℕ) : Type 0 where
  pub kind : Part
  pub there : slice_get p.parts a.part ≡ Some kind
  pub start : ℕ
  pub comes : naming (lay.making a.part) kind (n.start a.part) (incoming_at p n a.part) start ≡ u
  pub ns : List ℕ
  pub path : Path (n.start a.part) (gates_of (lay.making a.part) kind (n.start a.part)) start ns z

pub passage : (lay : Laying) (p : Plan) (cells : List Cell) (n : Places) → Wired lay p cells n → (a : Shake) (e : End) → PassesOn lay p a.part a.number e
    → Passage lay p n a (pulse_at n a) (n.arrives e).pulse
passage lay p cells n wired a e x =
    let k = x.part in
    let start : ℕ = n.start a.part in
    let way = (wired.paths a.part k x.there).pulses start (wires (lay.making a.part) k start) a.number x.out (wires_apart (lay.making a.part) k start) x.from_there x.out_there x.passes in
    let (c, is) = is_there (part_contacts k) a.number x.from_there in
    let there : contact_at p (PartEnd a.part a.number) ≡ Some c =
    ap (λ (o : Option Part). slice_get (contacts_of_part o) a.number) x.there ∙ is in
    let out : way.0 ≡ (nets_out (slice_get (outs_of (lay.making a.part) k start) x.out)).pulse = pulse_out (slice_get (outs_of (lay.making a.part) k start) x.out) way.0 way.2 in
    let straight : n.arrives e ≡ nets_out (slice_get (outs_of (lay.making a.part) k start) x.out) =
    ap n.arrives (sym x.arrives) ∙ (wired.straight x.joint x.passed x.way x.stands x.straight ∙ (ap n.leaves x.leaves ∙ wired.leaving a.part x.out k x.there)) in
    let same : way.0 ≡ (n.arrives e).pulse = out ∙ sym (ap (λ (y : Nets). y.pulse) straight) in
    record {
      kind = k;
      there = x.there;
      start = (wires (lay.making a.part) k start).pulse a.number;
      comes =
          to_pulse (start + part_size (lay.making a.part) k) (incoming_at p n a.part) a.number ∙ ap (λ (o : Option Contact). known o (pulse_at n a)) there;
      ns = way.1;
      path = subst (λ (z : ℕ). Path start (gates_of (lay.making a.part) k start) ((wires (lay.making a.part) k start).pulse a.number) way.1 z) same way.3;
    }

-- so a chain of gates leads from pulse to pulse, where the first is one of a gate
record Led (cells : List Cell) (a b : ℕ) : Type 0 where
  ns : List ℕ
  gate : IsGateNet cells b
  chain : IsGateNet cells a → Chain cells (a ∷ ns) b

led : (lay : Laying) (p : Plan) (cells : List Cell) (n : Places) → Wired lay p cells n → (a b : Shake)
    → PassesOn lay p a.part a.number (PartEnd b.part b.number)
    → Led cells (pulse_at n a) (pulse_at n b)
led lay p cells n wired a b x =
    let way = passage lay p cells n wired a (PartEnd b.part b.number) x in
    record {
      ns = way.ns;
      gate = path_gate lay p cells n wired a.part way.kind way.there way.start way.ns (pulse_at n b) way.path;
      chain = λ net.
          path_stands lay p cells n wired a.part way.kind way.there way.start way.ns (pulse_at n b) way.path (pulse_at n a) way.comes net;
    }

-- by several handshakes
led_by : (lay : Laying) (p : Plan) (cells : List Cell) (n : Places) → Wired lay p cells n → (a : Shake) (cs : List Shake) (b : Shake)
    → PassesBy lay p a cs b
    → Led cells (pulse_at n a) (pulse_at n b)
led_by lay p cells n wired a [] b passes = led lay p cells n wired a b passes
led_by lay p cells n wired a (c ∷ cs) b passes =
    let first = led lay p cells n wired a c passes.0 in
    let rest = led_by lay p cells n wired c cs b passes.1 in
    record {
      ns = first.ns ++ pulse_at n c ∷ rest.ns;
      gate = rest.gate;
      chain = λ net. joined_walk cells (pulse_at n a) first.ns (pulse_at n c) rest.ns (pulse_at n b) (first.chain net) (rest.chain first.gate);
    }

-- each ring is a cycle
pub ring_is_cycle : (lay : Laying) (p : Plan) (cells : List Cell) (n : Places) → Wired lay p cells n → HasRing lay p → HasCycle cells
ring_is_cycle lay p cells n wired (a, cs, passes) =
    let round = led_by lay p cells n wired a cs a passes in
    closed cells (pulse_at n a) round.ns (round.chain round.gate)
