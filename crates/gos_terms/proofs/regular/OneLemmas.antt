-- Two plans that are wired for one node and one set of supplies are one but for numbers.
--
-- A part or an import of the one comes from a source, and where that is placed in the other it is the other's. Both have the same ties.
use Rattle.std.specs.Prelude.{◌≡◌, ℕ, suc, ◌<◌, ◌≤◌, List, [], ◌∷◌, ◌++◌, length, Option, Some, None, Contains, slice_get, get_or, ◌⊎◌}
use Rattle.std.proofs.Common.{refl, sym, ◌∙◌, ap, subst, arith, inl, inr}
use Rattle.std.proofs.lemmas.Option.{slice_get_within, slice_get_past, slice_get_cases}
use Rattle.gos_types.proofs.ListLemmas.{element_at, first_is_in, rest_is_in}
use Rattle.gos_model.specs.Typing.{Imported}
use Rattle.gos_check.specs.Nodes.{Numbered, type_of_node}
use Rattle.gos_ties.specs.declared.points.Place.TheVariants as places
use Rattle.gos_plan.specs.Kinds.{Part, Contact}
use Rattle.gos_plan.specs.Plans.{End, PartEnd, ImportEnd, ResultEnd, Plan, contact_at, contacts_of_part, contacts_of_import}
use Rattle.gos_realises.specs.realises.Modules.{Supply}
use Rattle.gos_realises.specs.realises.Regular.{count}
use Rattle.gos_joining.specs.unions.Unions.{within}
use Rattle.gos_joining.specs.webs.Webs.{Dot, Tie, Way, Of, Within, here, own_web, IsOfWeb}
use Rattle.gos_joining.specs.webs.Renumbering.{Renumber, IsRenumbered, moved_end}
use Rattle.gos_joining.proofs.webs.WayLemmas.{one_way}
use Rattle.gos_compile.specs.Wiring.{Types, parts_of, ties_of, row}
use Rattle.gos_terms.specs.wired.Wired.{Supplies, Source, Own, Supplied, Origin, Placing, IsFrom, placed, source_dot, dot_at, dot_ties, wired_ties, wired_web, result_ties, all_supply_ties, IsWired}
use Rattle.gos_terms.proofs.applying.MatchingLemmas.{matched}
use Rattle.gos_joining.proofs.renumbered.SizeLemmas.{AreOneToOne, same_size, extended, below, above, extended_returns}

-- the same supplies of these numbers
abbrev pub AgreeOn : List ℕ → Supplies → Supplies → Type 0
AgreeOn ns env other = (n : ℕ) → Contains ns n → env n ≡ other n

same_ties : (types : Types) (ns : List ℕ) (env other : Supplies) → AgreeOn ns env other → all_supply_ties types env ns ≡ all_supply_ties types other ns
same_ties types [] env other agree = refl
same_ties types (n ∷ ns) env other agree =
    let first = agree n (first_is_in n ns) in
    let rest = same_ties types ns env other (λ k has. agree k (rest_is_in n k ns has)) in
    λ i. (within (suc n) (own_web (first i).plan).ties ++ result_ties n 0 (count (types n))) ++ rest i

-- the part, and the import, of an end that there is
some_part : (r : Plan) (n h : ℕ) (k : Contact) → contact_at r (PartEnd n h) ≡ Some k → (x : Part) × (slice_get r.parts n ≡ Some x)
some_part r n h k at = by_some (slice_get r.parts n) refl at
  where
    by_some : (o : Option Part) → slice_get r.parts n ≡ o → slice_get (contacts_of_part o) h ≡ Some k → (x : Part) × (slice_get r.parts n ≡ Some x)
    by_some None is there = absurd (cc there)
    by_some (Some x) is there = (x, is)

some_import : (r : Plan) (n h : ℕ) (k : Contact) → contact_at r (ImportEnd n h) ≡ Some k → (x : Imported) × (slice_get r.imports n ≡ Some x)
some_import r n h k at = by_some (slice_get r.imports n) refl at
  where
    by_some : (o : Option Imported) → slice_get r.imports n ≡ o → slice_get (contacts_of_import o) h ≡ Some k
        → (x : Imported) × (slice_get r.imports n ≡ Some x)
    by_some None is there = absurd (cc there)
    by_some (Some x) is there = (x, is)

-- what is wired to one is wired to the other
from_other : (own : List Part) (ns : List ℕ) (env other : Supplies) → AgreeOn ns env other → (x : Part) (s : Source)
    → IsFrom own ns env x s → IsFrom own ns other x s
from_other own ns env other agree x (Own k) from = from
from_other own ns env other agree x (Supplied n k) (has, at) = (has, ap (λ (y : Supply). slice_get y.plan.parts k) (sym (agree n has)) ∙ at)

pub wired_other : (types : Types) (i j : ℕ) (m : Numbered) (ns : List ℕ) (env other : Supplies) (pl : Placing) (r : Plan)
    → AgreeOn ns env other → IsWired types i j m ns env pl r → IsWired types i j m ns other pl r
wired_other types i j m ns env other pl r agree is =
    let back : AgreeOn ns other env = λ n has. sym (agree n has) in
    let own : List Tie = within 0 (dot_ties (ties_of types i j m (row places.Result 0 (count (type_of_node m))))) in
    record {
      outcome = is.outcome;
      parts = λ x s from. is.parts x s (from_other (parts_of types m) ns other env back x s from);
      no_more = λ k x at. (let (from, same) = is.no_more k x at in (from_other (parts_of types m) ns env other agree x (pl.source k) from, same));
      imports = λ n k x has at. is.imports n k x has (ap (λ (y : Supply). slice_get y.plan.imports k) (agree n has) ∙ at);
      no_import = λ k x at.
          (let (has, there, same) = is.no_import k x at in
          (has, ap (λ (y : Supply). slice_get y.plan.imports (pl.origin k).import) (sym (agree (pl.origin k).number has)) ∙ there, same));
      web = subst (λ (ts : List Tie). IsOfWeb (record { ties = own ++ ts; at = dot_at i pl }) r) (same_ties types ns env other agree) is.web;
    }

-- numbers by which one goes to the other
module _ (types : Types) (i j : ℕ) (m : Numbered) (ns : List ℕ) (env : Supplies) (pl plc : Placing) (r s : Plan)
    (is : IsWired types i j m ns env pl r) (other : IsWired types i j m ns env plc s) where
  abbrev to_part : ℕ → ℕ
  to_part k = placed plc (pl.source k)

  abbrev to_import : ℕ → ℕ
  to_import k = plc.import (pl.origin k).number (pl.origin k).import

  part_goes : (k : ℕ) (x : Part) → slice_get r.parts k ≡ Some x
      → (slice_get s.parts (to_part k) ≡ Some x) × (plc.source (to_part k) ≡ pl.source k) × (placed pl (plc.source (to_part k)) ≡ k)
  part_goes k x at =
      let (from, same) = is.no_more k x at in
      let (there, source) = other.parts x (pl.source k) from in
      (there, source, ap (placed pl) source ∙ same)

  import_goes : (k : ℕ) (x : Imported) → slice_get r.imports k ≡ Some x
      → (slice_get s.imports (to_import k) ≡ Some x) × (plc.origin (to_import k) ≡ pl.origin k)
      × (pl.import (plc.origin (to_import k)).number (plc.origin (to_import k)).import ≡ k)
  import_goes k x at =
      let (has, there, same) = is.no_import k x at in
      let (found, origin) = other.imports (pl.origin k).number (pl.origin k).import x has there in
      (found, origin, ap (λ (o : Origin). pl.import o.number o.import) origin ∙ same)

module _ (types : Types) (i j : ℕ) (m : Numbered) (ns : List ℕ) (env : Supplies) (pl plc : Placing) (r s : Plan)
    (is : IsWired types i j m ns env pl r) (other : IsWired types i j m ns env plc s) where
  abbrev forth : ℕ → ℕ
  forth = to_part types i j m ns env pl plc r s is other

  abbrev back : ℕ → ℕ
  back = to_part types i j m ns env plc pl s r other is

  abbrev forth_import : ℕ → ℕ
  forth_import = to_import types i j m ns env pl plc r s is other

  abbrev back_import : ℕ → ℕ
  back_import = to_import types i j m ns env plc pl s r other is

  parts_one : AreOneToOne (length r.parts) (length s.parts) forth back
  parts_one =
      record {
        forth = λ k low. (let (x, at) = element_at r.parts k low in
            slice_get_within s.parts (forth k) x (part_goes types i j m ns env pl plc r s is other k x at).0);
        back = λ k low. (let (x, at) = element_at s.parts k low in
            slice_get_within r.parts (back k) x (part_goes types i j m ns env plc pl s r other is k x at).0);
        returns = λ k low. (let (x, at) = element_at r.parts k low in (part_goes types i j m ns env pl plc r s is other k x at).2);
        comes = λ k low. (let (x, at) = element_at s.parts k low in (part_goes types i j m ns env plc pl s r other is k x at).2);
      }

  imports_one : AreOneToOne (length r.imports) (length s.imports) forth_import back_import
  imports_one =
      record {
        forth = λ k low. (let (x, at) = element_at r.imports k low in
            slice_get_within s.imports (forth_import k) x (import_goes types i j m ns env pl plc r s is other k x at).0);
        back = λ k low. (let (x, at) = element_at s.imports k low in
            slice_get_within r.imports (back_import k) x (import_goes types i j m ns env plc pl s r other is k x at).0);
        returns = λ k low. (let (x, at) = element_at r.imports k low in (import_goes types i j m ns env pl plc r s is other k x at).2);
        comes = λ k low. (let (x, at) = element_at s.imports k low in (import_goes types i j m ns env plc pl s r other is k x at).2);
      }

  same_parts : length r.parts ≡ length s.parts
  same_parts = same_size (length r.parts) (length s.parts) forth back parts_one

  same_imports : length r.imports ≡ length s.imports
  same_imports = same_size (length r.imports) (length s.imports) forth_import back_import imports_one

  square_parts : AreOneToOne (length r.parts) (length r.parts) forth back
  square_parts = subst (λ (n : ℕ). AreOneToOne (length r.parts) n forth back) (sym same_parts) parts_one

  square_imports : AreOneToOne (length r.imports) (length r.imports) forth_import back_import
  square_imports = subst (λ (n : ℕ). AreOneToOne (length r.imports) n forth_import back_import) (sym same_imports) imports_one

  turned : (n : ℕ) (g h : ℕ → ℕ) → AreOneToOne n n g h → AreOneToOne n n h g
  turned n g h are = record { forth = are.back; back = are.forth; returns = are.comes; comes = are.returns }

  abbrev numbers : Renumber
  numbers =
      record {
        part = extended (length r.parts) forth;
        part_back = extended (length r.parts) back;
        import = extended (length r.imports) forth_import;
        import_back = extended (length r.imports) back_import;
      }

  moved_part : (k : ℕ) → slice_get s.parts (numbers.part k) ≡ slice_get r.parts k
  moved_part k = by_cases (slice_get_cases r.parts k).1
    where
      by_cases : ((x : Part) × (k < length r.parts) × (slice_get r.parts k ≡ Some x) × (get_or r.parts k x ≡ x))
          ⊎ ((length r.parts ≤ k) × (slice_get r.parts k ≡ None))
          → slice_get s.parts (numbers.part k) ≡ slice_get r.parts k
      by_cases (inl (x, small, at, same)) =
          ap (slice_get s.parts) (below (length r.parts) forth k small) ∙ ((part_goes types i j m ns env pl plc r s is other k x at).0 ∙ sym at)
      by_cases (inr (high, none)) =
          ap (slice_get s.parts) (above (length r.parts) forth k high)
          ∙ (slice_get_past s.parts k (let size = same_parts in omega (arith, size, high)) ∙ sym none)

  moved_import : (k : ℕ) → slice_get s.imports (numbers.import k) ≡ slice_get r.imports k
  moved_import k = by_cases (slice_get_cases r.imports k).1
    where
      by_cases : ((x : Imported) × (k < length r.imports) × (slice_get r.imports k ≡ Some x) × (get_or r.imports k x ≡ x))
          ⊎ ((length r.imports ≤ k) × (slice_get r.imports k ≡ None))
          → slice_get s.imports (numbers.import k) ≡ slice_get r.imports k
      by_cases (inl (x, small, at, same)) =
          ap (slice_get s.imports) (below (length r.imports) forth_import k small) ∙ ((import_goes types i j m ns env pl plc r s is other k x at).0 ∙ sym at)
      by_cases (inr (high, none)) =
          ap (slice_get s.imports) (above (length r.imports) forth_import k high)
          ∙ (slice_get_past s.imports k (let size = same_imports in omega (arith, size, high)) ∙ sym none)

  -- an end stands at one dot
  same_dot : (e : End) (k : Contact) → contact_at r e ≡ Some k → dot_at i plc (moved_end numbers e) ≡ dot_at i pl e
  same_dot (PartEnd n h) k at =
      let (x, here_x) = some_part r n h k at in
      let low = slice_get_within r.parts n x here_x in
      ap (λ (p : ℕ). source_dot i (plc.source p) h) (below (length r.parts) forth n low)
      ∙ ap (λ (o : Source). source_dot i o h) (part_goes types i j m ns env pl plc r s is other n x here_x).1
  same_dot (ImportEnd n h) k at =
      let (x, here_x) = some_import r n h k at in
      let low = slice_get_within r.imports n x here_x in
      ap (λ (p : ℕ). Within (suc (plc.origin p).number) (Of (ImportEnd (plc.origin p).import h))) (below (length r.imports) forth_import n low)
      ∙ ap (λ (o : Origin). Within (suc o.number) (Of (ImportEnd o.import h))) (import_goes types i j m ns env pl plc r s is other n x here_x).1
  same_dot (ResultEnd h) k at = refl

  pub wired_is_one : (g : Renumber) × IsRenumbered g r s
  wired_is_one = (
    numbers,
    matched numbers (wired_web types i j m ns env pl) (wired_web types i j m ns env plc) r s
        (record {
          web = is.web;
          other_web = other.web;
          one_to_one =
              record {
                parts = extended_returns (length r.parts) forth back square_parts;
                parts_back = extended_returns (length r.parts) back forth (turned (length r.parts) forth back square_parts);
                imports = extended_returns (length r.imports) forth_import back_import square_imports;
                imports_back = extended_returns (length r.imports) back_import forth_import (turned (length r.imports) forth_import back_import square_imports);
              };
          parts = moved_part;
          imports = moved_import;
          outcome = other.outcome ∙ sym is.outcome;
          forth = λ d. d;
          back = λ d. d;
          ties_forth = λ t has. one_way (wired_ties types i j m ns env) t.one t.other (inl has);
          ties_back = λ t has. one_way (wired_ties types i j m ns env) t.one t.other (inl has);
          ends_forth = λ e k at. subst (λ (d : Dot). Way (wired_ties types i j m ns env) (dot_at i pl e) d) (sym (same_dot e k at)) (here (dot_at i pl e));
          ends_back = λ e k at. subst (λ (d : Dot). Way (wired_ties types i j m ns env) d (dot_at i pl e)) (sym (same_dot e k at)) (here (dot_at i pl e));
        }),
  )
