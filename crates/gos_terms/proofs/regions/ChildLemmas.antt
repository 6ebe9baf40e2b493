-- The plan of a child, with its supplies, without joints; how it is numbered, and that it lies in the plan of its node as a fold.
use Rattle.std.specs.Prelude.{◌≡◌, ℕ, zero, suc, ◌+◌, ◌-◌, ◌<◌, ◌≤◌, ◌⊎◌, Bool, true, false, List, [], ◌∷◌, length, Option, Some, None, slice_get, nat_eq, Contains, if◌then◌else◌}
use Rattle.std.proofs.Common.{refl, sym, ◌∙◌, ap, subst, arith}
use Rattle.std.proofs.lemmas.Option.{none-some, same_Some, slice_get_within}
use Rattle.gos_model.specs.Typing.{Imported}
use Rattle.gos_check.specs.Nodes.{Numbered}
use Rattle.gos_check.specs.Linearity.{times, made, used}
use Rattle.gos_plan.specs.Kinds.{Part, Contact}
use Rattle.gos_plan.specs.Plans.{End, PartEnd, ImportEnd, ResultEnd, Plan, contacts_of_import, contact_at}
use Rattle.gos_plan.specs.Tokens.{IsPortEnd}
use Rattle.gos_plan.proofs.ContactLemmas.{part_is_there}
use Rattle.gos_realises.specs.realises.Regular.{count}
use Rattle.gos_realises.specs.realises.Modules.{Supply}
use Rattle.gos_realises.proofs.realises.ToldLemmas.{there_is}
use Rattle.gos_ties.specs.declared.points.Place.TheVariants as places
use Rattle.gos_joining.specs.webs.Webs.{Dot, Of, Within, Tie, Web, Way}
use Rattle.gos_joining.specs.webs.Cutting.{Cut, IsOutside}
use Rattle.gos_nodes.specs.folds.Folds.{Fold, Follows, IsFolded}
use Rattle.gos_compile.specs.Wiring.{row, parts_of, type_of_node, ties_of}
use Rattle.gos_terms.specs.wired.Wired as origins
use Rattle.gos_terms.specs.wired.Wired.{Supplies, Source, Own, Supplied, Placing, IsFrom, placed, source_dot, dot_ties, supply_ties, wired_web, IsWired}
use Rattle.gos_terms.proofs.regions.SpanLemmas.{EachPoint}
use Rattle.gos_terms.proofs.regions.NumberingLemmas.{origin, all_parts, all_imports, numbering, part_there, part_is, import_is}
use Rattle.gos_terms.proofs.regions.FrameLemmas.{Frame, kept, known, size, in_range, in_range_true, in_range_is, itself_true, kept_true, kept_is, part_held, back, laid, laid_end, Comes, its_ties_there}

-- a source of the child's is one of the node's
abbrev pub raised : ℕ → Source → Source
raised shift (Own k) = Own (shift + k)
raised shift (Supplied n k) = Supplied n k

abbrev pub number_if : Bool → ℕ → Option ℕ
number_if true k = Some k
number_if false k = None

-- the number in the child of a part of this source
abbrev pub number_of : Frame → Placing → Option Part → Source → Option ℕ
number_of f pl None s = None
number_of f pl (Some x) (Own k) = number_if (in_range f.shift (size f) k) (k - f.shift)
number_of f pl (Some x) (Supplied n k) = number_if (kept f n) (pl.supplied n k)

abbrev pub port_of : Bool → ℕ → ℕ → End → End
port_of true own h other = PartEnd own (suc h)
port_of false own h other = other

abbrev pub end_if : Bool → End → Option End
end_if true e = Some e
end_if false e = None

-- the port of the child for an import of the node
abbrev pub import_of : Frame → Placing → Option Imported → ℕ → ℕ → ℕ → Option End
import_of f pl None n k h = None
import_of f pl (Some x) n k h = end_if (kept f n) (ImportEnd (pl.import n k) h)

-- The child in its node, whose own part has ports of the child at these handshakes, that of its result at `asked`.
pub record Sitting : Type 0 where
  pub frame : Frame
  pub asked : ℕ
  pub port_end : ℕ → Option End
  pub supplies : Supplies
  pub node : ℕ
  pub whole : Numbered
  pub numbers : List ℕ
  pub outside : Supplies
  pub placing : Placing

abbrev pub child_parts : Sitting → List Part
child_parts s = parts_of s.frame.types s.frame.child

abbrev pub child_placing : Sitting → Placing
child_placing s = numbering (child_parts s) s.supplies s.frame.numbers

-- its plan, before it has joints
abbrev pub child_plan : Sitting → Plan
child_plan s =
    record {
      weight = 0;
      imports = all_imports s.supplies s.frame.numbers;
      outcome = type_of_node s.frame.child;
      parts = all_parts (child_parts s) s.supplies s.frame.numbers;
      joints = [];
    }

abbrev pub its_outer : Sitting → End → End
its_outer s (PartEnd k h) = PartEnd k h
its_outer s (ImportEnd k h) =
    port_of (s.frame.named ((child_placing s).origin k).number) (s.placing.own 0) h
    (ImportEnd (s.placing.import ((child_placing s).origin k).number ((child_placing s).origin k).import) h)
its_outer s (ResultEnd h) = PartEnd (s.placing.own 0) s.asked

abbrev pub its_inner : Sitting → Plan → End → Option End
its_inner s r (PartEnd k h) = if nat_eq k (s.placing.own 0) then s.port_end h else None
its_inner s r (ImportEnd k h) = import_of s.frame (child_placing s) (slice_get r.imports k) (s.placing.origin k).number (s.placing.origin k).import h
its_inner s r (ResultEnd h) = None

abbrev pub its_cut : Sitting → Plan → Cut
its_cut s r =
    record {
      part = λ k. placed s.placing (raised s.frame.shift ((child_placing s).source k));
      number = λ k. number_of s.frame (child_placing s) (slice_get r.parts k) (s.placing.source k);
      outer = its_outer s;
      inner = its_inner s r;
    }

abbrev pub its_fold : Sitting → Plan → Fold
its_fold s r = record { cut = its_cut s r; dot = laid s.frame; back = back s.frame }

abbrev pub its_web : Sitting → Web
its_web s = wired_web s.frame.types (s.frame.first + s.frame.shift) s.frame.node s.frame.child s.frame.numbers s.supplies (child_placing s)

abbrev pub whole_web : Sitting → Web
whole_web s = wired_web s.frame.types s.frame.first s.node s.whole s.numbers s.outside s.placing

abbrev pub whole_ties : Sitting → List Tie
whole_ties s = dot_ties (ties_of s.frame.types s.frame.first s.node s.whole (row places.Result 0 (count (type_of_node s.whole))))

-- a port of the child lies at an end of the node
pub record IsPort (s : Sitting) (r : Plan) (e : End) (k : Contact) : Type 0 where
  pub outside : IsOutside (its_cut s r) (its_outer s e)
  pub inner : its_inner s r (its_outer s e) ≡ Some e
  pub contact : contact_at r (its_outer s e) ≡ Some k
  pub folded : IsFolded (its_fold s r) (whole_web s) (its_web s) e

-- What is asked of the child and its node, but for the ports at the node's own part.
pub record IsSitting (s : Sitting) : Type 0 where
  pub shifted : 0 < s.frame.shift
  pub parts :
      (k : ℕ) (x : Part) → slice_get (child_parts s) k ≡ Some x → slice_get (parts_of s.frame.types s.whole) (s.frame.shift + k) ≡ Some x
  pub knows : (k : ℕ) → 0 < times k (used s.frame.child) → 0 < times k (made s.frame.child) + times k s.frame.numbers
  pub once : (k : ℕ) → times k s.frame.numbers ≤ 1
  pub shared : (n : ℕ) → Contains s.frame.numbers n → s.frame.named n ≡ false → Contains s.numbers n × (s.supplies n ≡ s.outside n)
  pub names : (n : ℕ) → Contains s.frame.numbers n → s.frame.named n ≡ true → (s.supplies n).plan.parts ≡ []
  pub apart : (n : ℕ) → Contains s.numbers n → kept s.frame n ≡ false → known s.frame n ≡ false
  pub one : count (type_of_node s.frame.child) ≡ length s.frame.out
  pub result : EachPoint (Comes s.frame) (row places.Result 0 (length s.frame.out))
  pub ties : (t : Tie) → Contains (dot_ties (its_ties_there s.frame shifted knows)) t → Contains (whole_ties s) t
  pub others :
      (t : Tie) → Contains (whole_ties s) t
      → Contains (dot_ties (its_ties_there s.frame shifted knows)) t
      ⊎ Follows (its_web s).ties (back s.frame (Within 0 t.one)) (back s.frame (Within 0 t.other))

-- What is asked of these ports, and of the ties of names that only the child knows.
pub record HasPorts (s : Sitting) (r : Plan) : Type 0 where
  pub results : (h : ℕ) (k : Contact) → contact_at (child_plan s) (ResultEnd h) ≡ Some k → IsPort s r (ResultEnd h) k
  pub variables :
      (i h : ℕ) (k : Contact)
      → s.frame.named ((child_placing s).origin i).number ≡ true → contact_at (child_plan s) (ImportEnd i h) ≡ Some k → IsPort s r (ImportEnd i h) k
  pub ways :
      (n : ℕ) (t : Tie)
      → Contains s.frame.numbers n → s.frame.named n ≡ true → Contains (supply_ties s.frame.types s.supplies n) t
      → Way (whole_web s).ties (laid s.frame t.one) (laid s.frame t.other)
  pub own :
      (h : ℕ) (k : Contact) (y : Dot)
      → s.frame.port h ≡ Some y → contact_at r (PartEnd (s.placing.own 0) h) ≡ Some k
      → (d : End) × IsPortEnd d × (its_outer s d ≡ PartEnd (s.placing.own 0) h) × (contact_at (child_plan s) d ≡ Some k)

module _
    (s : Sitting) (r : Plan) (sits : IsSitting s) (ports : HasPorts s r)
    (is : IsWired s.frame.types s.frame.first s.node s.whole s.numbers s.outside s.placing r) where
  abbrev f : Frame
  f = s.frame

  abbrev plc : Placing
  plc = child_placing s

  abbrev c : Plan
  c = child_plan s

  abbrev From : Part → Source → Type 0
  From x o = IsFrom (child_parts s) f.numbers s.supplies x o

  abbrev FromWhole : Part → Source → Type 0
  FromWhole x o = IsFrom (parts_of f.types s.whole) s.numbers s.outside x o

  pub by_name : {P : Type 0} (n : ℕ) → (f.named n ≡ true → P) → (f.named n ≡ false → P) → P
  by_name {P} n holds unnamed = tested (f.named n) refl
    where
      tested : (b : Bool) → f.named n ≡ b → P
      tested true e = holds e
      tested false e = unnamed e

  -- a supply with a part isn't a name
  unnamed_part : (n k : ℕ) (x : Part) → Contains f.numbers n → slice_get (s.supplies n).plan.parts k ≡ Some x → f.named n ≡ false
  unnamed_part n k x has e =
      by_name n (λ holds. absurd (none-some x (sym (ap (λ (ps : List Part). slice_get ps k) (sits.names n has holds)) ∙ e))) (λ unnamed. unnamed)

  raised_from : (x : Part) (o : Source) → From x o → FromWhole x (raised f.shift o)
  raised_from x (Own k) has = sits.parts k x has
  raised_from x (Supplied n k) (there, has) =
      let (out, same) = sits.shared n there (unnamed_part n k x there has) in
      (out, ap (λ (y : Supply). slice_get y.plan.parts k) (sym same) ∙ has)

  number_raised : (x : Part) (o : Source) → From x o → number_of f plc (Some x) (raised f.shift o) ≡ Some (placed plc o)
  number_raised x (Own k) has =
      let low = slice_get_within (child_parts s) k x has in
      let less : f.shift + k - f.shift ≡ k = omega arith in
      ap (λ (b : Bool). number_if b (f.shift + k - f.shift)) (in_range_true f.shift (size f) (f.shift + k) (omega arith) (omega (arith, low))) ∙ ap Some less
  number_raised x (Supplied n k) (there, has) =
      ap (λ (b : Bool). number_if b (plc.supplied n k)) (kept_true f n there (unnamed_part n k x there has))

  -- a part of the child
  pub record PartThere (i : ℕ) (x : Part) : Type 0 where
    pub from : From x (plc.source i)
    pub at : slice_get r.parts ((its_cut s r).part i) ≡ Some x
    pub source : s.placing.source ((its_cut s r).part i) ≡ raised f.shift (plc.source i)
    pub number : (its_cut s r).number ((its_cut s r).part i) ≡ Some i

  pub its_part : (i : ℕ) (x : Part) → slice_get c.parts i ≡ Some x → PartThere i x
  its_part i x e =
      let (from, back_at) = part_is (child_parts s) s.supplies f.numbers sits.once i x e in
      let there = is.parts x (raised f.shift (plc.source i)) (raised_from x (plc.source i) from) in
      record {
        from = from;
        at = there.0;
        source = there.1;
        number =
            (λ n. number_of f plc (there.0 n) (there.1 n)) ∙ (number_raised x (plc.source i) from ∙ ap Some back_at);
      }

  -- and of the node that is one of the child's
  pub record Lowered (x : Part) (o : Source) (b : ℕ) : Type 0 where
    pub source : Source
    pub from : From x source
    pub raises : raised f.shift source ≡ o
    pub at : placed plc source ≡ b

  got_there : {A : Type 0} (xs : List A) (k : ℕ) → k < length xs → (x : A) × (slice_get xs k ≡ Some x)
  got_there [] k lt = absurd (omega (arith, lt))
  got_there (x ∷ xs) zero lt = (x, refl)
  got_there (x ∷ xs) (suc k) lt = got_there xs k (omega (arith, lt))

  is_number : (b : Bool) (k n : ℕ) → number_if b k ≡ Some n → (b ≡ true) × (k ≡ n)
  is_number true k n e = (refl, same_Some k n e)
  is_number false k n e = absurd (none-some n e)

  own_lowered : (x : Part) (k : ℕ) → slice_get (parts_of f.types s.whole) k ≡ Some x → f.shift ≤ k → k < f.shift + size f → Lowered x (Own k) (k - f.shift)
  own_lowered x k has low high =
      let (y, e) = got_there (child_parts s) (k - f.shift) (omega (arith, low, high)) in
      let same : f.shift + (k - f.shift) ≡ k = omega (arith, low) in
      let one = same_Some y x (sym (sits.parts (k - f.shift) y e) ∙ (ap (slice_get (parts_of f.types s.whole)) same ∙ has)) in
      record { source = Own (k - f.shift); from = e ∙ ap Some one; raises = ap Own same; at = refl }

  supply_lowered : (x : Part) (n k : ℕ) → FromWhole x (Supplied n k) → kept f n ≡ true → Lowered x (Supplied n k) (plc.supplied n k)
  supply_lowered x n k (there, has) keep =
      let (own, unnamed) = kept_is f n keep in
      let same = (sits.shared n own unnamed).1 in
      record { source = Supplied n k; from = (own, ap (λ (y : Supply). slice_get y.plan.parts k) same ∙ has); raises = refl; at = refl }

  lowered : (x : Part) (o : Source) (b : ℕ) → FromWhole x o → number_of f plc (Some x) o ≡ Some b → Lowered x o b
  lowered x (Own k) b has e =
      let (there, at) = is_number (in_range f.shift (size f) k) (k - f.shift) b e in
      let (low, high) = in_range_is f.shift (size f) k there in
      subst (λ (n : ℕ). Lowered x (Own k) n) at (own_lowered x k has low high)
  lowered x (Supplied n k) b has e =
      let (keep, at) = is_number (kept f n) (plc.supplied n k) b e in subst (λ (m : ℕ). Lowered x (Supplied n k) m) at (supply_lowered x n k has keep)

  abbrev NumberIs : ℕ → ℕ → Type 0
  NumberIs i j = ((its_cut s r).part j ≡ i) × ((k : Part) × (slice_get c.parts j ≡ Some k))

  lowered_is : (x : Part) (i j : ℕ) → placed s.placing (s.placing.source i) ≡ i → Lowered x (s.placing.source i) j → NumberIs i j
  lowered_is x i j at low =
      let there = part_there (child_parts s) s.supplies f.numbers x low.source low.from in
      let source : plc.source j ≡ low.source = ap plc.source (sym low.at) ∙ there.1 in (
        ap (λ (o : Source). placed s.placing (raised f.shift o)) source ∙ (ap (placed s.placing) low.raises ∙ at),
        (x, ap (slice_get c.parts) (sym low.at) ∙ there.0),
      )

  pub its_number : (i j : ℕ) → (its_cut s r).number i ≡ Some j → NumberIs i j
  its_number i j e = by_part (slice_get r.parts i) refl e
    where
      by_part : (o : Option Part) → slice_get r.parts i ≡ o → number_of f plc o (s.placing.source i) ≡ Some j → NumberIs i j
      by_part None at e = absurd (none-some j e)
      by_part (Some x) at e = let (from, placed_at) = is.no_more i x at in lowered_is x i j placed_at (lowered x (s.placing.source i) j from e)

  -- dots of parts
  sum_dot : (k h : ℕ) → Within 0 (Of (PartEnd (f.first + f.shift + k) h)) ≡ Within 0 (Of (PartEnd (f.first + (f.shift + k)) h))
  sum_dot k h = let same : f.first + f.shift + k ≡ f.first + (f.shift + k) = omega arith in ap (λ (n : ℕ). Within 0 (Of (PartEnd n h))) same

  pub laid_supplied : (n : ℕ) (e : End) → f.named n ≡ false → laid f (Within (suc n) (Of e)) ≡ Within (suc n) (Of e)
  laid_supplied n e unnamed = ap (λ (b : Bool). laid_end b f.first n e) unnamed

  source_laid : (x : Part) (o : Source) (h : ℕ) → From x o → laid f (source_dot (f.first + f.shift) o h) ≡ source_dot f.first (raised f.shift o) h
  source_laid x (Own k) h has = sum_dot k h
  source_laid x (Supplied n k) h (there, has) = laid_supplied n (PartEnd k h) (unnamed_part n k x there has)

  source_back : (x : Part) (o : Source) (h : ℕ) → From x o
      → back f (source_dot f.first (raised f.shift o) h) ≡ Some (source_dot (f.first + f.shift) o h)
  source_back x (Own k) h has =
      let low = slice_get_within (child_parts s) k x has in
      ap (back f) (sym (sum_dot k h)) ∙ part_held f sits.shifted (f.first + f.shift + k) h (omega arith) (omega (arith, low))
  source_back x (Supplied n k) h (there, has) =
      itself_true (kept f n) (Within (suc n) (Of (PartEnd k h))) (kept_true f n there (unnamed_part n k x there has))

  part_folded : (i h : ℕ) (k : Contact) → contact_at c (PartEnd i h) ≡ Some k → IsFolded (its_fold s r) (whole_web s) (its_web s) (PartEnd i h)
  part_folded i h k e =
      let (x, at) = part_is_there (slice_get c.parts i) h k e in
      let there = its_part i x at in (
        source_laid x (plc.source i) h there.from ∙ ap (λ (o : Source). source_dot f.first o h) (sym there.source),
        ap (λ (o : Source). back f (source_dot f.first o h)) there.source ∙ source_back x (plc.source i) h there.from,
      )

  -- imports
  pub record ImportThere (i : ℕ) (x : Imported) : Type 0 where
    pub own : Contains f.numbers (plc.origin i).number
    pub out : Contains s.numbers (plc.origin i).number
    pub at : slice_get r.imports (s.placing.import (plc.origin i).number (plc.origin i).import) ≡ Some x
    pub from : s.placing.origin (s.placing.import (plc.origin i).number (plc.origin i).import) ≡ origin (plc.origin i).number (plc.origin i).import
    pub home : plc.import (plc.origin i).number (plc.origin i).import ≡ i

  pub its_import : (i : ℕ) (x : Imported) → slice_get c.imports i ≡ Some x → f.named (plc.origin i).number ≡ false → ImportThere i x
  its_import i x e unnamed =
      let (own, has, home) = import_is (child_parts s) s.supplies f.numbers sits.once i x e in
      let (out, same) = sits.shared (plc.origin i).number own unnamed in
      let there =
      is.imports (plc.origin i).number (plc.origin i).import x out
      (ap (λ (y : Supply). slice_get y.plan.imports (plc.origin i).import) (sym same) ∙ has) in
      record { own = own; out = out; at = there.0; from = there.1; home = home }

  import_port : (i h : ℕ) (k : Contact) → f.named (plc.origin i).number ≡ false → contact_at c (ImportEnd i h) ≡ Some k → IsPort s r (ImportEnd i h) k
  import_port i h k unnamed e =
      let (x, at) = there_is c.imports i h k e in
      let n : ℕ = (plc.origin i).number in
      let b : ℕ = (plc.origin i).import in
      let j : ℕ = s.placing.import n b in
      let there = its_import i x at unnamed in
      let keep : kept f n ≡ true = kept_true f n there.own unnamed in
      let outer : its_outer s (ImportEnd i h) ≡ ImportEnd j h = ap (λ (t : Bool). port_of t (s.placing.own 0) h (ImportEnd j h)) unnamed in
      let stands : (whole_web s).at (ImportEnd j h) ≡ Within (suc n) (Of (ImportEnd b h)) =
      ap (λ (o : origins.Origin). Within (suc o.number) (Of (ImportEnd o.import h))) there.from in
      record {
        outside = subst (λ (d : End). IsOutside (its_cut s r) d) (sym outer) tt;
        inner =
            ap (its_inner s r) outer
            ∙ ((λ m. import_of f plc (there.at m) (there.from m).number (there.from m).import h)
            ∙ (ap (λ (t : Bool). end_if t (ImportEnd (plc.import n b) h)) keep ∙ ap (λ (a : ℕ). Some (ImportEnd a h)) there.home));
        contact =
            ap (contact_at r) outer
            ∙ (ap (λ (o : Option Imported). slice_get (contacts_of_import o) h) (there.at ∙ sym at) ∙ e);
        folded = (
          laid_supplied n (ImportEnd b h) unnamed ∙ (sym stands ∙ ap (λ (d : End). (whole_web s).at d) (sym outer)),
          ap (λ (d : End). back f ((whole_web s).at d)) outer
              ∙ (ap (back f) stands ∙ itself_true (kept f n) (Within (suc n) (Of (ImportEnd b h))) keep),
        );
      }

  pub its_port : (e : End) (k : Contact) → IsPortEnd e → contact_at c e ≡ Some k → IsPort s r e k
  its_port (PartEnd i h) k port e = absurd port
  its_port (ImportEnd i h) k port e = by_name (plc.origin i).number (λ holds. ports.variables i h k holds e) (λ unnamed. import_port i h k unnamed e)
  its_port (ResultEnd h) k port e = ports.results h k e

  pub its_end : (e : End) (k : Contact) → contact_at c e ≡ Some k → IsFolded (its_fold s r) (whole_web s) (its_web s) e
  its_end (PartEnd i h) k e = part_folded i h k e
  its_end (ImportEnd i h) k e = (its_port (ImportEnd i h) k tt e).folded
  its_end (ResultEnd h) k e = (its_port (ResultEnd h) k tt e).folded
