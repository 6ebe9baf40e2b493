-- The ports of a plan's netlist are right, and each of its inputs stands in one.
--
-- Read first: SpotLemmas, FlowLemmas.
use Rattle.std.proofs.Common.{◌≡◌, ◌+◌, ◌≤◌, ◌<◌, ◌⊎◌, ℕ, zero, suc, Bool, true, false, List, [], ◌∷◌, ◌++◌, map, length, slice_get, take, Some, Contains, flat_map, inl, inr, refl, sym, ap, subst, ◌∙◌, zero-add, arith}
use Rattle.std.proofs.lemmas.Option.{none-some, same_Some, slice_get_within}
use Rattle.std.proofs.lemmas.List.Elements.{Contains-append_left, Contains-append_right, Contains-append_cases}
use Rattle.gos_types.specs.Types.{Type', IsGround}
use Rattle.gos_netlist.specs.Nets.{Input, Reg, Const, Cell, Side, Give, Take, NetPort}
use Rattle.gos_types.specs.Events.{Request, Answer}
use Rattle.gos_netcheck.specs.Rules.{Kept}
use Rattle.gos_netcheck.specs.PortRules.{place, places, AllFit, inputs_among, inputs_of, all_inputs, HasSide, IsRightPort, PortsFit}
use Rattle.gos_plan.specs.Kinds.{contacts_of}
use Rattle.gos_model.specs.Typing.{Imported}
use Rattle.gos_plan.specs.Plans.{End, Joint, ImportEnd, ResultEnd, Plan, contact_at}
use Rattle.gos_types.specs.Widths.{HasWidths}
use Rattle.gos_macro.specs.Fit.{HasNoInput}
use Rattle.gos_expand.specs.Blocks.{Nets, registers, total, nets_on}
use Rattle.gos_expand.specs.Starts.{Laying, Outer, ports_of, taken_ports, port_size, bits_taken, port_start, joint_start, part_start}
use Rattle.gos_expand.specs.Laid.{arrives, registers_if, port_cells, way_cells, joint_cells, loose_cells, part_cells, incoming, laid_port, taken}
use Rattle.gos_expand.specs.Acceptance.{AreDifferent}
use Rattle.gos_expand.proofs.StandLemmas.{Each, each_none, each_both}
use Rattle.gos_expand.proofs.GroupLemmas.{port_length, port_stands, each_laid}
use Rattle.gos_expand.proofs.NetLemmas.{each_token}
use Rattle.gos_expand.proofs.FlowLemmas.{IsSound, cells_of, done_ground, import_at}
use Rattle.gos_expand.proofs.GoodLemmas.{is_there}
use Rattle.gos_expand.proofs.SpotLemmas.{Spot, FitOn, inputs_from, shake_places, all_places_length, places_are, shakes_fit, all_fit, Rise, AreBelow, inputs_rise, inputs_below, inputs_listed, new_above, none_in}

-- an Input cell stands among these nets
abbrev pub IsListed : List ℕ → ℕ → Cell → Type 0
IsListed nets n c = c.gate ≡ Input → Contains nets n

-- what is shown of the port at place k
pub record IsFine (lay : Laying) (p : Plan) (k : ℕ) (q : NetPort) : Type 0 where
  pub fits : AllFit (cells_of lay p) (places q.side q.ty) q.nets
  pub rising : Rise (port_start p k) (inputs_of q)
  pub below : AreBelow (port_start p (suc k)) (inputs_of q)
  pub listed : (o : Outer) → slice_get (ports_of p) k ≡ Some o → Each (IsListed (inputs_of q)) (port_start p k) (port_cells lay p k o)

take_one_more : {A : Type 0} (xs : List A) (i : ℕ) (x : A) → slice_get xs i ≡ Some x → take (suc i) xs ≡ take i xs ++ x ∷ []
take_one_more [] i x is = absurd (none-some x is)
take_one_more {A} (y ∷ ys) zero x is = ap (λ (z : A). z ∷ []) (same_Some y x is)
take_one_more (y ∷ ys) (suc i) x is = ap (λ zs. y ∷ zs) (take_one_more ys i x is)

total_one_more : (m : ℕ) (os : List Outer) (o : Outer) → total port_size m (os ++ o ∷ []) ≡ total port_size m os + port_size 0 o
total_one_more m [] o = omega arith
total_one_more m (x ∷ os) o = let rest = total_one_more (suc m) os o in omega (arith, rest)

-- the next port begins where this one ends
next_start : (p : Plan) (k : ℕ) (o : Outer) → slice_get (ports_of p) k ≡ Some o → port_start p (suc k) ≡ port_start p k + port_size 0 o
next_start p k o is =
    ap (total port_size 0) (take_one_more (ports_of p) k o is) ∙ total_one_more 0 (take k (ports_of p)) o

fine_port : (lay : Laying) (p : Plan) (k : ℕ) (name : List ℕ) (side : Side) (ty : Type') (end_at : ℕ → End)
    → slice_get (ports_of p) k ≡ Some (record { side = side; contacts = contacts_of ty; end_at = end_at }) → IsGround ty → HasWidths ty
    → IsFine lay p k (laid_port p k name side ty)
fine_port lay p k name side ty end_at at ground widths =
    let outer : Outer = record { side = side; contacts = contacts_of ty; end_at = end_at } in
    let n : ℕ = port_start p k in
    let q : NetPort = laid_port p k name side ty in
    let spots : List Spot = flat_map shake_places (contacts_of ty) in
    let long : length spots ≡ port_size 0 outer = all_places_length 0 (contacts_of ty) in
    let same = places_are side ty ground widths in
    let arriving : ℕ → Nets = λ h. arrives lay p (end_at h) in
    let fit : FitOn (cells_of lay p) side n spots = shakes_fit (cells_of lay p) side arriving n 0 (contacts_of ty) (port_stands lay p k outer at) in
    let inputs : inputs_from side n spots ≡ inputs_of q =
    ap (λ ps. inputs_among ps (nets_on n (length spots))) same ∙ ap (λ (m : ℕ). inputs_among (places side ty) (nets_on n m)) long in
    let start = next_start p k outer at in
    let ends : n + length spots ≡ port_start p (suc k) = omega (arith, start, long) in
    let listed_here : Each (IsListed (inputs_of q)) n (port_cells lay p k outer) =
    λ j c is input.
    let low = slice_get_within (port_cells lay p k outer) j c is in
    let count = port_length lay p k outer in
    let short : j < length spots = omega (arith, low, count, long) in
    subst (λ (xs : List ℕ). Contains xs (n + j)) inputs
    (inputs_listed (cells_of lay p) side n spots fit j c short (port_stands lay p k outer at j c is) input)
    in
    record {
      fits =
          subst (λ ps. AllFit (cells_of lay p) ps (nets_on n (port_size 0 outer))) same
          (subst (λ (m : ℕ). AllFit (cells_of lay p) (map (λ x. place side x.way x.bits) spots) (nets_on n m)) long
          (all_fit (cells_of lay p) side n spots fit));
      rising = subst (λ (xs : List ℕ). Rise n xs) inputs (inputs_rise side n spots);
      below =
          subst (λ (m : ℕ). AreBelow m (inputs_of q)) ends
          (subst (λ (xs : List ℕ). AreBelow (n + length spots) xs) inputs (inputs_below side n spots));
      listed =
          λ o is. subst (λ (x : Outer). Each (IsListed (inputs_of q)) n (port_cells lay p k x)) (same_Some outer o (sym at ∙ is)) listed_here;
    }

-- the ports, by their places

abbrev pub ports_laid : Plan → List ℕ → List NetPort
ports_laid p root = laid_port p 0 root Give p.outcome ∷ taken p 1 p.imports

taken_found : (p : Plan) (n : ℕ) (ts : List Imported) (i : ℕ) (q : NetPort) → slice_get (taken p n ts) i ≡ Some q
    → (t : Imported) × (slice_get ts i ≡ Some t) × (q ≡ laid_port p (n + i) t.name Take t.ty)
taken_found p n [] i q is = absurd (none-some q is)
taken_found p n (t ∷ ts) zero q is =
    let e : n ≡ n + 0 = omega arith in
    (t, refl, sym (same_Some (laid_port p n t.name Take t.ty) q is) ∙ ap (λ (m : ℕ). laid_port p m t.name Take t.ty) e)
taken_found p n (u ∷ ts) (suc i) q is =
    let e : suc n + i ≡ n + suc i = omega arith in
    let (t, found, same) = taken_found p (suc n) ts i q is in
    (t, found, same ∙ ap (λ (m : ℕ). laid_port p m t.name Take t.ty) e)

import_found : (p : Plan) (i : ℕ) (q : NetPort) → slice_get (taken p 1 p.imports) i ≡ Some q
    → (t : Imported) × (slice_get p.imports i ≡ Some t) × (q ≡ laid_port p (suc i) t.name Take t.ty)
import_found p i q is =
    let e : 1 + i ≡ suc i = omega arith in
    let (t, found, same) = taken_found p 1 p.imports i q is in
    (t, found, same ∙ ap (λ (m : ℕ). laid_port p m t.name Take t.ty) e)

pub fine : (lay : Laying) (p : Plan) → IsSound lay p → (root : List ℕ) (k : ℕ) (q : NetPort) → slice_get (ports_laid p root) k ≡ Some q → IsFine lay p k q
fine lay p sound root zero q is =
    subst (IsFine lay p 0) (same_Some (laid_port p 0 root Give p.outcome) q is)
    (fine_port lay p 0 root Give p.outcome ResultEnd refl (done_ground p.outcome sound.done) sound.done_widths)
fine lay p sound root (suc i) q is =
    let (t, found, same) = import_found p i q is in
    subst (IsFine lay p (suc i)) (sym same)
    (fine_port lay p (suc i) t.name Take t.ty (ImportEnd i) (import_at p i t found) (sound.grounds i t found) (sound.ground_widths i t found))

has_side : (lay : Laying) → (p : Plan) → IsSound lay p → (root : List ℕ) (k : ℕ) (q : NetPort) → slice_get (ports_laid p root) k ≡ Some q → HasSide k q.side q.ty
has_side lay p sound root zero q is =
    subst (λ (x : NetPort). HasSide 0 x.side x.ty) (same_Some (laid_port p 0 root Give p.outcome) q is) (refl, sound.done)
has_side lay p sound root (suc i) q is =
    let (t, found, same) = import_found p i q is in
    subst (λ (x : NetPort). HasSide (suc i) x.side x.ty) (sym same) (refl, sound.grounds i t found)

names_of : (ts : List Imported) (i : ℕ) (t : Imported) → slice_get ts i ≡ Some t
    → slice_get (map (λ (x : Imported). x.name) ts) i ≡ Some t.name
names_of [] i t is = absurd (none-some t is)
names_of (u ∷ ts) zero t is = ap (λ (x : Imported). Some x.name) (same_Some u t is)
names_of (u ∷ ts) (suc i) t is = names_of ts i t is

name_at : (p : Plan) (root : List ℕ) (k : ℕ) (q : NetPort) → slice_get (ports_laid p root) k ≡ Some q
    → slice_get (root ∷ map (λ (x : Imported). x.name) p.imports) k ≡ Some q.name
name_at p root zero q is = ap (λ (x : NetPort). Some x.name) (same_Some (laid_port p 0 root Give p.outcome) q is)
name_at p root (suc i) q is =
    let (t, found, same) = import_found p i q is in
    names_of p.imports i t found ∙ ap (λ (x : NetPort). Some x.name) (sym same)

-- there are as many as the plan has

taken_length : (p : Plan) (n : ℕ) (ts : List Imported) → length (taken p n ts) ≡ length ts
taken_length p n [] = refl
taken_length p n (t ∷ ts) = ap suc (taken_length p (suc n) ts)

outer_length : (n : ℕ) (ts : List Imported) → length (taken_ports n ts) ≡ length ts
outer_length n [] = refl
outer_length n (t ∷ ts) = ap suc (outer_length (suc n) ts)

same_length : (p : Plan) (root : List ℕ) → length (ports_laid p root) ≡ length (ports_of p)
same_length p root = ap suc (taken_length p 1 p.imports ∙ sym (outer_length 0 p.imports))

-- inputs of earlier ports are below

in_flat : (f : NetPort → List ℕ) (qs : List NetPort) (q : NetPort) (a : ℕ) → Contains (flat_map f (qs ++ q ∷ [])) a
    → Contains (flat_map f qs) a ⊎ Contains (f q) a
in_flat f [] q a h = elim (Contains-append_cases (f q) [] a h) [ inl one ↦ inr one | inr none ↦ absurd (none_in a none) ]
in_flat f (r ∷ qs) q a h =
    elim (Contains-append_cases (f r) (flat_map f (qs ++ q ∷ [])) a h) [
      | inl one ↦ inl (Contains-append_left (f r) (flat_map f qs) a one)
      | inr more ↦ elim (in_flat f qs q a more) [ inl there ↦ inl (Contains-append_right (f r) (flat_map f qs) a there) | inr last ↦ inr last ]
    ]

earlier_below : (lay : Laying) (p : Plan) → IsSound lay p → (root : List ℕ) (k : ℕ) → k ≤ length (ports_laid p root)
    → AreBelow (port_start p k) (all_inputs (take k (ports_laid p root)))
earlier_below lay p sound root zero low a h = absurd (none_in a h)
earlier_below lay p sound root (suc k) low a h =
    let (q, at) = is_there (ports_laid p root) k (omega (arith, low)) in
    let (o, there) = is_there (ports_of p) k (let count = same_length p root in omega (arith, low, count)) in
    let next = next_start p k o there in
    let h' = subst (λ (qs : List NetPort). Contains (all_inputs qs) a) (take_one_more (ports_laid p root) k q at) h in
    elim (in_flat inputs_of (take k (ports_laid p root)) q a h') [
      | inl before ↦ (let less = earlier_below lay p sound root k (omega (arith, low)) a before in omega (arith, less, next))
      | inr last ↦ (fine lay p sound root k q at).below a last
    ]

right_port : (lay : Laying) (p : Plan) → IsSound lay p → (root : List ℕ) → AreDifferent (root ∷ map (λ (x : Imported). x.name) p.imports)
    → Kept (IsRightPort (cells_of lay p) (ports_laid p root)) (ports_laid p root)
right_port lay p sound root different k q is =
    let here = fine lay p sound root k q is in
    let low = slice_get_within (ports_laid p root) k q is in
    record {
      side = has_side lay p sound root k q is;
      name = λ j r less there. different j k r.name q.name less (name_at p root j r there) (name_at p root k q is);
      nets = here.fits;
      inputs =
          new_above (all_inputs (take k (ports_laid p root))) (port_start p k) (inputs_of q) (earlier_below lay p sound root k (omega (arith, low))) here.rising;
    }

-- each Input cell is listed

in_all : (f : NetPort → List ℕ) (qs : List NetPort) (k : ℕ) (q : NetPort) (a : ℕ) → slice_get qs k ≡ Some q → Contains (f q) a
    → Contains (flat_map f qs) a
in_all f [] k q a is h = absurd (none-some q is)
in_all f (r ∷ qs) zero q a is h =
    Contains-append_left (f r) (flat_map f qs) a (subst (λ (x : NetPort). Contains (f x) a) (sym (same_Some r q is)) h)
in_all f (r ∷ qs) (suc k) q a is h = Contains-append_right (f r) (flat_map f qs) a (in_all f qs k q a is h)

port_listed : (lay : Laying) (p : Plan) → IsSound lay p → (root : List ℕ) (k : ℕ) (o : Outer) → slice_get (ports_of p) k ≡ Some o
    → Each (IsListed (all_inputs (ports_laid p root))) (port_start p k) (port_cells lay p k o)
port_listed lay p sound root k o is =
    let low = slice_get_within (ports_of p) k o is in
    let count = same_length p root in
    let (q, at) = is_there (ports_laid p root) k (omega (arith, low, count)) in
    λ j c there input. in_all inputs_of (ports_laid p root) k q (port_start p k + j) at ((fine lay p sound root k q at).listed o is j c there input)

no_register : (a : ℕ) → Reg a ≡ Input → ⊥
no_register a same = cc same

no_constant : (a : ℕ) → Const a ≡ Input → ⊥
no_constant a same = cc same

registers_listed : (nets : List ℕ) (w b : ℕ) (n : Nets) → Each (IsListed nets) b (registers w n)
registers_listed nets w b n =
    each_token (IsListed nets) w b (Reg n.pulse) (Reg n.number) (λ e. absurd (no_register n.pulse e)) (λ some e. absurd (no_register n.number e))

way_listed : (nets : List ℕ) (kept : Bool) (w b : ℕ) (n : Nets) → Each (IsListed nets) b (registers_if kept w n)
way_listed nets true w b n = registers_listed nets w b n
way_listed nets false w b n = each_none (IsListed nets) b

joint_listed : (lay : Laying) (nets : List ℕ) (p : Plan) (x : ℕ) (j : Joint) → slice_get p.joints x ≡ Some j
    → Each (IsListed nets) (joint_start lay p x) (joint_cells lay p x j)
joint_listed lay nets p x j is =
    each_both (IsListed nets) (joint_start lay p x) (way_cells lay p x j Request j.asking) (way_cells lay p x j Answer j.serving)
    (way_listed nets (lay.keep x Request) _ _ _) (way_listed nets (lay.keep x Answer) _ _ _)

loose_listed : (nets : List ℕ) (p : Plan) (b n : ℕ) (e : End) → Each (IsListed nets) b (loose_cells p n e)
loose_listed nets p b n e =
    each_token (IsListed nets) (bits_taken (contact_at p e)) b (Const 0) (Const 0) (λ h. absurd (no_constant 0 h)) (λ some h. absurd (no_constant 0 h))

gates_listed : (nets : List ℕ) (b : ℕ) (cells : List Cell) → HasNoInput cells → Each (IsListed nets) b cells
gates_listed nets b [] none k c is input = absurd (none-some c is)
gates_listed nets b (d ∷ cells) none zero c is input = absurd (none.0 (ap (λ (x : Cell). x.gate) (same_Some d c is) ∙ input))
gates_listed nets b (d ∷ cells) none (suc k) c is input =
    let e : b + 1 + k ≡ b + suc k = omega arith in
    subst (λ (n : ℕ). Contains nets n) e (gates_listed nets (b + 1) cells none.1 k c is input)

all_listed : (lay : Laying) (p : Plan) → IsSound lay p → (root : List ℕ) → Each (IsListed (all_inputs (ports_laid p root))) 0 (cells_of lay p)
all_listed lay p sound root =
    let nets : List ℕ = all_inputs (ports_laid p root) in
    each_laid lay (IsListed nets) p (port_listed lay p sound root) (joint_listed lay nets p) (loose_listed nets p)
    (λ i k is.
    gates_listed nets (part_start lay p i) (part_cells lay p i k)
    ((sound.gates i k is).inner (part_start lay p i) (incoming lay p i)))

pub ports_fit : (lay : Laying) (p : Plan) → IsSound lay p → (root : List ℕ) → AreDifferent (root ∷ map (λ (x : Imported). x.name) p.imports)
    → PortsFit (cells_of lay p) (ports_laid p root)
ports_fit lay p sound root different =
    record {
      some = omega arith;
      each = right_port lay p sound root different;
      inputs =
          λ n (c, at, input, loose).
          loose (subst (λ (m : ℕ). Contains (all_inputs (ports_laid p root)) m) (zero-add n) (all_listed lay p sound root n c at input));
    }
